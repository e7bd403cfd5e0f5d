-- The names of other rooms that the proofs of this one use, in one place.
pub use Rattle.cube_state.specs.Cached.{AreLive, Fits, FitsLive, KeepsUp, Saves, SideStays, live_file, live_of}
pub use Rattle.cube_state.specs.Carried.{ByWorld, CarriesOut, CarriesOutWith, IsReadyFor, OverAnyFiles, RepliesAlone, Reply, Spares}
pub use Rattle.cube_state.specs.Visits.{GoesFrom, GoesOver, GoesTo, ReadsFor, ReadsFrom, asked_from, asks_pages, is_asked, store_of}
pub use Rattle.cube_state.{proofs.Answering.OnlyNow, proofs.Answering.fit_rests, proofs.Answering.resting, proofs.Answering.stands_rests, proofs.Cached.holds, proofs.Cached.kept_same}
pub use Rattle.cube_state.{proofs.Carried.OnlySays, proofs.Carried.OnlySaysWith, proofs.Carried.says_just, proofs.Carried.runs_out_as, proofs.Carried.says as only_replies, proofs.Standing.attends_belongs, proofs.Told.spares_same, specs.Commands.Gives}
pub use Rattle.cube_state.{specs.Costs.Cost, specs.Costs.Spends, specs.Costs.free, specs.Frames.IsQuiet, specs.Session.Belongs, specs.Session.IsAnswer, specs.Session.Stands, specs.Slices.GivesFound}
pub use Rattle.cube_state.{specs.Slices.GivesRead, specs.Slices.SliceGives, specs.Slices.SliceTells, specs.Slices.TellsSpoilt, specs.Stops.IsNoDamage, specs.Stops.StopCause}
pub use Rattle.cube_state.{specs.declared.state.State.State, specs.declared.state.State.TheVariants.Empty, specs.declared.state.State.TheVariants.Hollow, specs.declared.state.State.TheVariants.Idle}
pub use Rattle.cube_state.{specs.declared.state.State.TheVariants.Pending, specs.declared.stop.Stop.Stop}
pub use Rattle.spec_machine.specs.Machine.{Answer, act, asked_by, asked_over, asked_slice, covered, is_covered, slice_over, slice_reply}
pub use Rattle.slice_exec.{proofs.Costs.same-cost, specs.Answers.IsJudged, specs.Answers.IsNoDamage as IsUndamaged, specs.Answers.IsUncovered, specs.Answers.visits_of}
pub use Rattle.slice_exec.{specs.declared.stop.AnswerStop.AnswerStop}
pub use Rattle.std.proofs.Common.{Bool, Err, IfErr, IfOk, IsTrue, List, None, Ok, OnOk, Option, Result, Some, Vec, [], ap, arith, cond, false, inl, inr, length, refl, subst, subst₂, sym, true}
pub use Rattle.std.proofs.Common.{true≢false, ℕ, ◌+◌, ◌∙◌, ◌≡◌, ◌≤◌}
pub use Rattle.std.{proofs.lemmas.Bool.cases_Bool, proofs.lemmas.Result.IfOk-weaker, specs.Prelude.IsErrOf, specs.Prelude.option_copied, specs.Prelude.◌↔◌, specs.declared.alloc.Global.Global}
pub use Rattle.{cube_schema.specs.declared.schema.Schema.Schema, fact_model.specs.Rows.rows, fact_model.specs.declared.fact.Fact.Fact, fact_model.specs.declared.slice.Row.Row}
pub use Rattle.{fact_model.specs.declared.slice.Slice.Slice, forest_root.specs.declared.body.Body.Body, forest_root.specs.declared.forest.Store.Store, spec_store.specs.Sides.side_of}
pub use Rattle.{spec_store.specs.Stored.IsStoreOf, page_cache.specs.Giving.Cache, page_cache.specs.Keeping.Agrees, page_cache.specs.Keeping.HasRoom, page_cache.specs.Keeping.Keeps}
pub use Rattle.{page_cache.specs.Keeping.LiesIn, spec_machine.proofs.Acts.act_slice, spec_machine.specs.World.Kept, spec_machine.specs.World.Warehouse, spec_machine.specs.World.World}
pub use Rattle.{reply_text.specs.Replies.answer_text, reply_text.specs.Replies.line, reply_text.specs.Replies.no_schema, reply_text.specs.Replies.not_covered, reply_text.specs.Replies.slice_text}
pub use Rattle.{script_lang.specs.declared.command.Command.Command, site_core.specs.Causes.HasCauseWhere, site_core.specs.Disk.Disk, site_core.specs.Disk.Files, site_core.specs.Frames.Looks}
pub use Rattle.{site_core.specs.declared.site.Site.Ghosts, slice_lang.specs.Reading.slice_of, slice_lang.specs.declared.refusal.SliceRefusal.SliceRefusal, replica_route.specs.Picked.IsPicked}
pub use Rattle.{view_route.specs.Routes.covers}
pub use Rattle.roll_up.specs.declared.level.Level.{Level}
