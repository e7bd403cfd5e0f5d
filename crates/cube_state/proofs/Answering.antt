-- What a stop leaves where nothing is written.
use Rattle.std.proofs.Common.{◌≡◌, inl, ℕ, List, sym, subst}
use Rattle.site_core.specs.Disk.{Files, Disk}
use Rattle.site_core.proofs.Run.{each_moment, started}
use Rattle.site_core.specs.Calls.{Rests, Stays, TellsNothing}
use Rattle.site_core.specs.Moments.{Elapses}
use Rattle.spec_machine.specs.World.{World}
use Rattle.spec_crash.specs.Keeps.{IsFrom, Keeps}
use Rattle.cube_state.specs.declared.state.State.{State}
use Rattle.cube_state.specs.Session.{IsFit, Stands, Between, KeepsEither}
use Rattle.cube_state.specs.Moves.{format_of}
use Rattle.cube_state.proofs.Standing.{fit_on, rests_left, stands_from, stands_left, stands_on}

-- what is known of a site at each moment
abbrev pub OnlyNow : Disk → Type 0
OnlyNow d = (told : List ℕ) (files : Files) → d.left_since d.clock told files → (told ≡ d.told) × d.may_leave files

-- ---- nothing was written

-- nothing was called
pub quiet : (state : State) (disk : Disk) (world next : World) → Stands state disk world → OnlyNow disk → Between (format_of state) disk disk world next
quiet state disk world next is only = started disk (λ told files. (told ≡ disk.told) × KeepsEither world next files × IsFrom (format_of state) files)
    (λ told files left. let now = only told files left in (now.0, inl (stands_left state disk world is files now.1), stands_from state disk world is files now.1))

-- calls that change nothing, unless a sync fails
pub settling : (state : State) (old new : Disk) (world next : World) → Stands state old world → OnlyNow old → Elapses TellsNothing Stays old new → Between (format_of state) old new world next
settling state old new world next is only time = each_moment Stays old new (λ told files. (told ≡ old.told) × KeepsEither world next files × IsFrom (format_of state) files)
    (λ told files left. let now = only told files left in (now.0, inl (stands_left state old world is files now.1), stands_from state old world is files now.1))
    (λ told files same after. (
      same,
      inl (subst (λ (f : Files). Keeps f world.kept) (sym after.2) (stands_left state old world is after.0 after.1)),
      subst (IsFrom (format_of state)) (sym after.2) (stands_from state old world is after.0 after.1),
    )) time

pub resting : (state : State) (old new : Disk) (world next : World) → Stands state old world → OnlyNow old → Rests old new → Between (format_of state) old new world next
resting state old new world next is only rests = settling state old new world next is only rests.time

-- a session stands after such calls
pub fit_rests : (state : State) (old new : Disk) → Rests old new → IsFit state old → IsFit state new
fit_rests state old new rests is = fit_on old new rests.files (rests_left old new rests) state is

pub stands_rests : (state : State) (old new : Disk) (world : World) → Rests old new → Stands state old world → Stands state new world
stands_rests state old new world rests is = stands_on old new rests.files (rests_left old new rests) state world is
