-- The words of other rooms that the proofs here speak in.
pub use Rattle.cube_batches.specs.Taking.{Answers, HasBegun, HasNone, IsFitting, OnlyRefuses, RefusesBy, RefusesGiven, Sends, TakesIn, answer_by, begin_stop}
pub use Rattle.cube_batches.{specs.Committing.Commits, specs.Committing.Ends, specs.Committing.SaysOnly, specs.Committing.SparesOthers, specs.Committing.fact_count, specs.Dropping.IsDropped}
pub use Rattle.cube_batches.{specs.Dropping.IsWithout, specs.Dropping.hollow_of, specs.Reading.IsBatchFor, specs.Reading.IsRead, specs.declared.batch.Read.Read}
pub use Rattle.cube_batches.{specs.declared.batch.Read.TheVariants.Batch, specs.declared.batch.Read.TheVariants.Refused as NotRead, specs.declared.taking.Taken.Taken}
pub use Rattle.cube_batches.{specs.declared.taking.Taken.TheVariants.Begun as Began, specs.declared.taking.Taken.TheVariants.Empty as Nothing, specs.declared.taking.Taken.TheVariants.Refused}
pub use Rattle.cube_state.proofs.Writing.{ForEach, RunsFor, at_error, beside, goes_nowhere, onward, replied, still, stopped, unharmed}
pub use Rattle.cube_state.specs.Batches.{BeginGives, GivesBatch, GivesBegun, GivesGiven, IsRefused, IsTakenIn, LoadGives, given_to, pending_line, refusal_text}
pub use Rattle.cube_state.specs.Carried.{CarriesOut, CarriesOutAlone, IsStep, LeavesLive, MayWrite, RepliesAlone, Reply, Spares, TellsNone, made_alone}
pub use Rattle.cube_state.specs.Commands.{Costs, Gives, HasNoFact, MakesNoCall, TellsDamage, load_of}
pub use Rattle.cube_state.specs.Session.{Attends, AttendsAs, Belongs, Between, IsAnswer, KeepsEither, Stands}
pub use Rattle.cube_state.{proofs.Answering.OnlyNow, proofs.Answering.quiet, proofs.Cached.live_no_root, proofs.Cached.spared_stays, proofs.Carried.runs_out, proofs.Carried.runs_out_as}
pub use Rattle.cube_state.{proofs.Carried.says, proofs.Carried.says_just, specs.Visits.schema_of, proofs.Costs.spends_more, proofs.Looking.quiet_on, proofs.Looking.quiet_out, proofs.Standing.attends_belongs, specs.BatchCosts.begins}
pub use Rattle.cube_state.{specs.BatchCosts.begins_over, specs.BatchCosts.load_cost, specs.BatchCosts.load_cost_of, specs.BatchCosts.moves_of, specs.BatchDamage.LoadTells}
pub use Rattle.cube_state.{specs.BatchDamage.TellsBatchDamage, specs.BatchDamage.TellsGivenDamage, specs.BatchDamage.TellsRefreshDamage, specs.Cached.SideStays, specs.Cached.emptied}
pub use Rattle.cube_state.{specs.Cached.live_file, specs.Cached.live_of, specs.Costs.Cost, specs.Costs.Spends, specs.Costs.both, specs.Costs.free, specs.Frames.IsQuiet, specs.Frames.RunsOn}
pub use Rattle.cube_state.{specs.Moves.moves_made, specs.Moves.moves_over, specs.Stops.IsNoDamage, specs.Stops.StopCause, specs.Stops.refresh_stop, specs.declared.state.State.State}
pub use Rattle.cube_state.{specs.declared.state.State.TheVariants.Empty, specs.declared.state.State.TheVariants.Hollow, specs.declared.state.State.TheVariants.Idle}
pub use Rattle.cube_state.{specs.declared.state.State.TheVariants.Pending, specs.declared.stop.Stop.Stop}
pub use Rattle.forest_refresh.specs.Begun.{Begun, IsGoing, IsNextStore, IsReady, IsRefreshOf, StandsAt, next_side}
pub use Rattle.forest_refresh.{proofs.Rooted.same-first-damage, proofs.Rooted.same-whole, specs.Back.BeginCause, specs.Back.IsBack, specs.Limits.TellsLimit, specs.Next.last_behind}
pub use Rattle.forest_refresh.{specs.Trees.AreAllWhole, specs.Trees.TellsFirstDamage, specs.Trees.deltas_by, specs.declared.stop.BeginFault.BeginFault, specs.declared.stop.BeginStop.BeginStop}
pub use Rattle.forest_refresh.{specs.declared.stop.RefreshStop.RefreshStop}
pub use Rattle.spec_store.{specs.Held.AreAccepted, specs.Held.IsLive, specs.Opened.IsOpened, specs.Sides.page_total, specs.Stored.IsStoreOf}
pub use Rattle.spec_crash.specs.Keeps.{IsLawful, Keeps}
pub use Rattle.spec_machine.proofs.Acts.{act_abandon, act_begin, act_finish, act_generate, act_load, act_load_numbered, act_step, nothing_added}
pub use Rattle.spec_machine.specs.Machine.{Answer, Given, act, asked_by, batch_from, begun, block_read, committed, in_turn, load, pending_over, read_by, refusal_of, replies_with, take_over, unless}
pub use Rattle.spec_machine.specs.Machine.{with_last, with_number}
pub use Rattle.spec_machine.{specs.Histories.batch_by, specs.Histories.batch_given, specs.Histories.batch_sent, specs.Histories.batch_with, specs.Histories.number_of}
pub use Rattle.spec_machine.{specs.Stages.makes_stage, specs.Stages.size, specs.World.Kept, specs.World.Knows, specs.World.Warehouse, specs.World.World}
pub use Rattle.spec_machine.{specs.declared.batch_source.BatchSource.BatchSource, specs.declared.batch_source.BatchSource.TheVariants.Generator}
pub use Rattle.spec_machine.{specs.declared.batch_source.BatchSource.TheVariants.Numbered, specs.declared.batch_source.BatchSource.TheVariants.Rows}
pub use Rattle.site_core.{proofs.Files.with_file-other, proofs.Run.holds_to, proofs.Run.joined, proofs.Run.stable_holds, proofs.Run.wider, specs.Causes.HasCauseWhere, specs.Disk.Disk}
pub use Rattle.site_core.{specs.Disk.Files, specs.Disk.with_file, specs.Frames.Calls, specs.Frames.CallsOnly, specs.Moments.HoldsNow, specs.Moments.IsStable, specs.Moments.LeavesOnly}
pub use Rattle.site_core.{specs.declared.site.Site.Ghosts}
pub use Rattle.std.proofs.Common.{Err, Global, IfSome, IsTrue, List, None, Ok, Option, Result, Some, Vec, [], ap, append-nil, arith, cond, false, inl, inr, length, length-append, refl, subst}
pub use Rattle.std.proofs.Common.{sym, take, true, ℕ, ◌%◌, ◌*◌, ◌++◌, ◌+◌, ◌-◌, ◌<◌, ◌∙◌, ◌∷◌, ◌≡◌, ◌≤◌, ◌⊎◌}
pub use Rattle.std.{proofs.lemmas.Bool.Decides.nat_tests, proofs.lemmas.List.Elements.All-append, specs.List.All, specs.Prelude.codes, specs.Prelude.nat_le, specs.Prelude.nat_lt}
pub use Rattle.std.{specs.Prelude.slice_index, specs.Prelude.◌≢◌, specs.Result.IsErrAnd}
pub use Rattle.{attr_dict.specs.Admitting.names_with, cube_schema.specs.Agreeing.Agrees, cube_schema.specs.declared.schema.Schema.Schema, fact_model.specs.declared.fact.Fact.Fact}
pub use Rattle.{spec_moves.specs.Forest.bytes_after, spec_moves.specs.Forest.forest_moves, forest_root.specs.Root.ClosesGate, forest_root.specs.declared.body.Body.Body}
pub use Rattle.{forest_root.specs.declared.forest.Forest.Forest, forest_root.specs.declared.forest.Store.Store, merge_pack.specs.Standing.moves_tried}
pub use Rattle.{spec_tree.specs.Moves.written, page_cache.specs.Giving.Cache, reply_text.specs.Replies.committed_text, reply_text.specs.Replies.line, script_lang.specs.declared.command.Block.Block}
pub use Rattle.{script_lang.specs.declared.command.Command.Command}
pub use Rattle.roll_up.specs.declared.level.Level.{Level}
