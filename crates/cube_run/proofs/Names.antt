-- The names that the proofs of this crate cite, each with its origin.
pub use Rattle.cube_run.specs.Ends.{EndsUnpulled, EndsUntouched, Faults, IsDoneOrMemory, IsPastOpening, IsUndamaged, IsUsageOrMemory, StatusCause, faults, status_of, stop_of, words_status}
pub use Rattle.cube_run.{specs.Carrying.CarriesOn, specs.Carrying.HasGone, specs.Carrying.HasStopped, specs.Carrying.Reads, specs.Costs.CostsRun, specs.Costs.opening_and, specs.Damage.EndsAt}
pub use Rattle.cube_run.{specs.Damage.EndsForBreak, specs.Headline.AfterRun, specs.Headline.Finished, specs.Headline.Headline, specs.Headline.Opened, specs.Histories.HistoriesGoOn}
pub use Rattle.cube_run.{specs.Onward.IsLeft, specs.Onward.IsWithin, specs.Onward.Onward, specs.Pulls.Gave, specs.Pulls.GaveAtMost, specs.Pulls.KeepsLimit, specs.Pulls.PullsInto}
pub use Rattle.cube_run.{specs.Replied.HasReplied, specs.Replied.Replied, specs.Runs.RunsScript, specs.Serving.ByEnd, specs.Serving.Outcome, specs.Serving.Serves, specs.declared.exit.Status.Status}
pub use Rattle.cube_session.specs.Session.{Answers, AnswersByWorld, RepliesTo, Runs, StandsFor, Starts}
pub use Rattle.cube_state.{proofs.Answering.OnlyNow, proofs.Moves.stands_moved, proofs.SliceCosts.query_costs, proofs.SliceCosts.rollup_costs, proofs.SliceCosts.slice_costs, proofs.Standing.stands_left, proofs.Standing.stands_read, specs.Commands.CostTogether}
pub use Rattle.cube_state.{specs.Commands.Costs, specs.Commands.none_cost, specs.Commands.one_costs, specs.Costs.Cost, specs.Costs.Spends, specs.Costs.both, specs.Moves.HasMovedTo}
pub use Rattle.cube_state.{specs.Stops.IsNoDamage, specs.Stops.StopCause, specs.declared.stop.Stop.Stop}
pub use Rattle.spec_crash.{proofs.Once.goes_on_once, proofs.Stops.at_rest, proofs.Stops.carried_more as carried_command, proofs.Stops.carried_none as carried_start}
pub use Rattle.spec_crash.{proofs.Stops.carried_then, proofs.Stops.during, specs.Keeps.Keeps, specs.Stops.AfterStop}
pub use Rattle.spec_machine.{specs.Machine.act, specs.Stages.replies_from, specs.World.Kept, specs.World.World, specs.World.bare}
pub use Rattle.script_lang.specs.Reading.{Gives, IsFirstWhole, Reading, nothing_read, ready, to_come, whole_with, with_more}
pub use Rattle.script_lang.{proofs.Feeding.ended as feeding_ended, proofs.Feeding.fed, proofs.Feeding.fed_whole, proofs.Feeding.none_to_come, proofs.Feeding.none_whole, specs.Script.commands}
pub use Rattle.script_lang.{specs.Script.whole, specs.declared.command.Command.Command}
pub use Rattle.site_core.{proofs.Run.Changes-refl, proofs.Run.each_moment, proofs.Run.joined, proofs.Run.started, proofs.Run.wider, specs.Calls.Stays, specs.Calls.TellsFront}
pub use Rattle.site_core.{specs.Calls.TellsNothing, specs.Causes.Rose, specs.Causes.RoseOnce, specs.Disk.Disk, specs.Disk.Files, specs.Moments.Elapses, specs.Moments.LeavesOnly}
pub use Rattle.site_core.{specs.declared.site.Site.Ghosts, specs.declared.site.Site.Ghosts as Sites, specs.declared.source.Source.Ghosts as Sources}
pub use Rattle.{cube_state.specs.Audits.open_cost, cube_session.specs.Damage.StopsAt, cube_session.specs.Damage.TellsBreak, cube_session.specs.declared.session.Session.Session}
pub use Rattle.{cube_args.specs.Words.AreValid, cube_args.specs.declared.words.WordsStop.WordsStop, forest_open.specs.Breaks.BreaksAt, forest_open.specs.Opening.Place}
pub use Rattle.{page_cache.specs.Giving.Cache, std.specs.Option.IsSomeAnd, std.specs.Result.IsErrAnd}
pub use Rattle.cube_session.specs.declared.held.Held.{Held}
