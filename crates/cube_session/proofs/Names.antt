-- The names of other rooms that the proofs of this one use, in one place.
pub use Rattle.cube_slices.proofs.Names.{Answer, Belongs, Bool, ByWorld, Cache, CarriesOut, Command, Cost, Disk, Empty, Err, Fact, Files, Fits, Ghosts, Global, GoesTo, HasCauseWhere, Idle, IfErr}
pub use Rattle.cube_slices.proofs.Names.{IfOk, IsAnswer, IsErrOf, IsNoDamage, IsQuiet, IsReadyFor, IsStoreOf, IsTrue, KeepsUp, Kept, List, None, Ok, OnOk, Option, Reply, Result, Saves, Schema, Some}
pub use Rattle.cube_slices.proofs.Names.{Spends, Stands, State, Stop, Store, Vec, World, [], act, ap, arith, cond, free, inl, inr, kept_same, length, line, live_file, live_of, refl, subst, subst₂}
pub use Rattle.cube_slices.proofs.Names.{sym, true, ℕ, ◌+◌, ◌∙◌, ◌≡◌, ◌≤◌}
pub use Rattle.cube_state.{proofs.Cached.none_fit, proofs.Looking.quiet_out, proofs.Standing.emits_left, proofs.Standing.fit_on, proofs.Standing.stands_left, proofs.Standing.stands_on}
pub use Rattle.cube_state.{proofs.Told.spares_none, proofs.Told.tells_none, specs.BatchCosts.schema_cost, specs.Cached.kept_over, specs.Carried.MayWrite, specs.Commands.Costs, specs.Frames.RunsOn}
pub use Rattle.cube_state.{specs.Moves.moves_made, specs.Session.Between, specs.Session.KeepsEither, specs.Session.state_text, specs.Stops.init_stop, specs.Stops.open_stop}
pub use Rattle.forest_open.{proofs.Declared.none_accepted, specs.Breaks.BreaksAt, specs.Breaks.TellsBreak as TellsOpenBreak, specs.Judging.IsNoDamage as IsOpenUndamaged, specs.Judging.IsWarehouse}
pub use Rattle.forest_open.{specs.Judging.MayBeOpened, specs.Judging.NamesPlace, specs.Opening.Place, specs.Opening.names_pages, specs.declared.stop.InitStop.InitStop}
pub use Rattle.forest_open.{specs.declared.stop.OpenStop.OpenStop}
pub use Rattle.spec_crash.{specs.Keeps.IsLawful, specs.Keeps.Keeps, specs.Stops.Meanwhile}
pub use Rattle.spec_machine.{proofs.Acts.act_schema, proofs.Acts.reply_some, specs.Machine.declare, specs.Machine.declare_over, specs.Machine.declared}
pub use Rattle.spec_machine.{specs.Machine.empty, specs.Stages.makes_stage, specs.Stages.size, specs.World.bare}
pub use Rattle.reply_text.specs.Replies.{declared_text, is_declared, is_unknown, long_line, long_schema, open_block, schema_text}
pub use Rattle.site_core.{proofs.Run.goes_on, proofs.Run.stable_holds, proofs.Run.wider, specs.Calls.Emits, specs.Calls.Settles, specs.Calls.Stays, specs.Causes.RoseOnce, specs.Frames.CallsOnly}
pub use Rattle.site_core.{specs.Moments.IsStable, specs.Moments.LeavesOnly}
pub use Rattle.std.proofs.Common.{IfSome, append-nil, drop, nat_lt, take, ⊎_elim, ◌++◌, ◌^◌, ◌⊎◌}
pub use Rattle.{cube_schema.specs.Lawful.IsSchema, cube_schema.specs.Reading.schema_of, cube_schema.specs.declared.schema.SchemaRefusal.SchemaRefusal, forest_root.specs.Keeps.KeepsNothing}
pub use Rattle.{forest_root.specs.Live.NoneRaised, spec_store.specs.Held.AreAccepted, spec_store.specs.Held.KeepsFacts, spec_store.specs.Held.names_text, spec_store.specs.Opened.IsOpened}
pub use Rattle.{spec_store.specs.Stored.IsWhole, script_lang.specs.declared.command.Block.TheVariants.Whole, std.proofs.lemmas.List.take-append-drop, std.specs.Prelude.◌≢◌}
pub use Rattle.{std.specs.Result.IsErrAnd}
