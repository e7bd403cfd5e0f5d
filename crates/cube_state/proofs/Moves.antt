-- The pages of the moves made, as a session that stands for a world has them.
use Rattle.std.proofs.Common.{◌≡◌, ◌∙◌, ◌<◌, ◌≤◌, ◌+◌, ◌-◌, ap, arith, refl, ◌*◌, ℕ, Bool, true, false, cond, length, nat_le, List, [], ◌∷◌, nat_lt, Option, Some, None, sym, subst, take}
use Rattle.std.proofs.lemmas.Bool.Decides.{nat_tests}
use Rattle.site_core.specs.Disk.{Disk, Files}
use Rattle.cube_schema.specs.declared.schema.Schema.{Schema}
use Rattle.fact_model.specs.declared.fact.Fact.{Fact}
use Rattle.spec_tree.specs.Moves.{written}
use Rattle.spec_moves.specs.Forest.{bytes_after, forest_moves}
use Rattle.forest_root.specs.Live.{IsLiveBody}
use Rattle.forest_root.specs.declared.body.Body.{Body}
use Rattle.spec_store.specs.Held.{IsLive, format_for}
use Rattle.forest_refresh.specs.Begun.{Begun, next_side}
use Rattle.spec_machine.specs.Histories.{Batch, batch_by}
use Rattle.spec_crash.specs.Keeps.{HasFormat}
use Rattle.spec_machine.specs.Machine.{act}
use Rattle.spec_machine.specs.Stages.{makes_stage, size}
use Rattle.spec_machine.specs.World.{Kept, Knows, Warehouse, World}
use Rattle.script_lang.specs.declared.command.Command.{Command}
use Rattle.script_lang.specs.declared.command.Command.TheVariants as says
use Rattle.page_fmt.specs.Formats.{wide_format}
use Rattle.spec_machine.proofs.Acts.{reply_some}
use Rattle.spec_store.proofs.Formats.{format-later}
use Rattle.cube_state.specs.Cached.{live_of}
use Rattle.cube_state.specs.Moves.{HasMovedTo, HasPagesOver, Reached, format_behind, format_in, format_of, format_told, format_upgraded, format_with, moves_made, reached_behind, reached_by}
use Rattle.cube_state.specs.Session.{Attends, Stands}
use Rattle.cube_state.specs.declared.state.State.{State}
use Rattle.cube_state.specs.declared.state.State.TheVariants.{Empty, Idle, Hollow, Pending}

pub live_root : (schema : Schema) (body : Body) (facts : List Fact) (files : Files) → IsLive schema body facts files → IsLiveBody body (files 0)
live_root schema body facts files is = record { slot = is.slot; low = is.at.low; raised = is.at.raised; decodes = is.at.decodes; each = is.at.each }

module _ (r : Begun) (disk : Disk) (warehouse : Warehouse) (batch : List Fact) where
  -- the pages of the moves made, where the new ones have this format
  abbrev HasWrittenAs : Schema → ℕ → Type 0
  HasWrittenAs schema next = take (4096 * written r.progress.taken (forest_moves r.store.forest.body.format next schema warehouse.facts batch)) (disk.files (next_side r.store.forest.body))
      ≡ bytes_after r.store.forest.body.format next schema warehouse.facts batch r.progress.taken

attended_pages : (r : Begun) (disk : Disk) (warehouse : Warehouse) (batch : List Fact) → Attends r disk warehouse batch → HasPagesOver disk.files (Some warehouse) (Some batch) r.progress.taken
attended_pages r disk warehouse [] is = tt
attended_pages r disk warehouse (x ∷ xs) is = record {
  live = r.store.forest.body;
  is_live = live_root r.store.forest.schema r.store.forest.body warehouse.facts disk.files is.attends.adds.read.live;
  pages = subst (λ (s : Schema). HasWrittenAs r disk warehouse (x ∷ xs) s (format_for r.store.forest.body.format (x ∷ xs))) is.attends.schema
      (subst (HasWrittenAs r disk warehouse (x ∷ xs) r.store.forest.schema) is.format is.attends.moved.pages);
}

-- what is kept and pending tells it
moved_over : (files : Files) (made : ℕ) (kept : Kept) (pending : Option (List Fact)) (world : World) → Knows kept pending world → HasPagesOver files kept pending made
    → HasMovedTo files world made
moved_over files made kept pending world is has =
    subst (λ (k : Kept). HasPagesOver files k world.pending made) (sym is.kept) (subst (λ (p : Option (List Fact)). HasPagesOver files kept p made) (sym is.pending) has)

pub stands_moved : (state : State) (disk : Disk) (world : World) → Stands state disk world → HasMovedTo disk.files world (moves_made state)
stands_moved Empty disk world is = moved_over disk.files 0 None None world is.0 tt
stands_moved (Idle store) disk world is = moved_over disk.files 0 (Some is.0) None world is.1 tt
stands_moved (Hollow store) disk world is = moved_over disk.files 0 (Some is.0) (Some []) world is.1 tt
stands_moved (Pending r) disk world is = moved_over disk.files r.progress.taken (Some is.0) (Some is.1) world is.2 (attended_pages r disk is.0 is.1 is.3)

-- the live pages have the format that the session tells
pub stands_format : (state : State) (disk : Disk) (world : World) → Stands state disk world → HasFormat disk.files world.kept (format_of state)
stands_format Empty disk world is = subst (λ (k : Kept). HasFormat disk.files k 1) (sym is.0.kept) refl
stands_format (Idle store) disk world is = subst (λ (k : Kept). HasFormat disk.files k store.forest.body.format) (sym is.1.kept)
    (store.forest.body, live_root store.forest.schema store.forest.body is.0.facts disk.files is.2.stored.read.live, refl)
stands_format (Hollow store) disk world is = subst (λ (k : Kept). HasFormat disk.files k store.forest.body.format) (sym is.1.kept)
    (store.forest.body, live_root store.forest.schema store.forest.body is.0.facts disk.files is.2.stored.read.live, refl)
stands_format (Pending r) disk world is = subst (λ (k : Kept). HasFormat disk.files k r.store.forest.body.format) (sym is.2.kept)
    (r.store.forest.body, live_root r.store.forest.schema r.store.forest.body is.0.facts disk.files is.3.attends.adds.read.live, refl)

-- where what is live stays, the moves tell what is reached
pub reached_next : (world : World) (command : Command) (state next : State) → (reached_behind world (reached_by state) command).format ≡ format_of state → live_of next ≡ live_of state
    → moves_made next ≡ (reached_behind world (reached_by state) command).made → reached_by next ≡ reached_behind world (reached_by state) command
reached_next world command state next same live made = λ i. record { format = (ap format_in live ∙ sym same) i; made = made i }

-- a batch that is not committed leaves the format
pub format_stays : (world : World) (format : ℕ) (command : Command) → (act world command).0.kept ≡ world.kept → format_behind world format command ≡ format
format_stays world format command same = ap (λ (b : Bool). cond b (format_with format (batch_by world command)) format) (ap (λ (k : Kept). nat_lt (size world.kept) (size k)) same ∙ not_more (size world.kept))
  where
    not_more : (n : ℕ) → nat_lt n n ≡ false
    not_more n = grind (arith, nat_tests)

-- no command leaves a format again
format_more : (world : World) (format : ℕ) (command : Command) → format ≤ wide_format → format ≤ format_behind world format command
format_more world format command known = by (makes_stage world command) (batch_by world command)
  where
    by : (stage : Bool) (batch : Option Batch) → format ≤ cond stage (format_with format batch) format
    by true None = omega arith
    by true (Some batch) = format-later format (format_for format batch.facts) batch.facts refl known
    by false batch = omega arith

upgraded_more : (kept : Kept) (pending : Option (List Fact)) (format : ℕ) → format ≤ wide_format → format ≤ format_upgraded kept pending format
upgraded_more None pending format known = omega arith
upgraded_more (Some warehouse) (Some batch) format known = omega arith
upgraded_more (Some warehouse) None format known = known

pub reached_more : (world : World) (reached : Reached) (command : Command) → reached.format ≤ wide_format → reached.format ≤ (reached_behind world reached command).format
reached_more world reached (says.Schema block) known = omega arith
reached_more world reached (says.Load block) known = format_more world reached.format (says.Load block) known
reached_more world reached (says.LoadNumbered number block) known = format_more world reached.format (says.LoadNumbered number block) known
reached_more world reached (says.Generate start rows) known = format_more world reached.format (says.Generate start rows) known
reached_more world reached (says.Begin block) known = omega arith
reached_more world reached (says.Step n) known = omega arith
reached_more world reached says.Finish known = format_more world reached.format says.Finish known
reached_more world reached says.Abandon known = omega arith
reached_more world reached says.Upgrade known = upgraded_more world.kept world.pending reached.format known
reached_more world reached (says.Slice text) known = omega arith
reached_more world reached (says.Explain text) known = omega arith
reached_more world reached (says.Sql text) known = omega arith
reached_more world reached (says.Level name attr block) known = omega arith
reached_more world reached (says.Rollup text) known = omega arith
reached_more world reached says.Status known = omega arith
reached_more world reached says.Audit known = omega arith
reached_more world reached says.LongLine known = omega arith
reached_more world reached says.OpenBlock known = omega arith
reached_more world reached says.Unknown known = omega arith

-- a session has a format that there is
pub stands_known : (state : State) (disk : Disk) (world : World) → Stands state disk world → format_of state ≤ wide_format
stands_known Empty disk world is = omega arith
stands_known (Idle store) disk world is = is.2.stored.read.live.at.decodes.1.within.known_format
stands_known (Hollow store) disk world is = is.2.stored.read.live.at.decodes.1.within.known_format
stands_known (Pending r) disk world is = is.3.attends.adds.read.live.at.decodes.1.within.known_format

-- ---- what replies tell of the format

-- with nothing told it is the one before
pub format_untold : (world : World) (reached : Reached) (commands : List Command) → format_told world reached commands 0 ≡ reached.format
format_untold world reached [] = refl
format_untold world reached (command ∷ rest) =
    let some = reply_some world command in
    let no : nat_le (length (act world command).1) 0 ≡ false = grind (arith, nat_tests, some) in
    ap (λ (b : Bool). cond b (format_told (act world command).0 (reached_behind world reached command) rest (0 - length (act world command).1)) reached.format) no

module _ (world : World) (reached : Reached) (command : Command) (rest : List Command) where
  -- the whole reply, and so many bytes past it
  pub format_past : (n : ℕ) → format_told world reached (command ∷ rest) (length (act world command).1 + n) ≡ format_told (act world command).0 (reached_behind world reached command) rest n
  format_past n =
      let yes : nat_le (length (act world command).1) (length (act world command).1 + n) ≡ true = grind (arith, nat_tests) in
      ap (λ (b : Bool). cond b (format_told (act world command).0 (reached_behind world reached command) rest (length (act world command).1 + n - length (act world command).1)) reached.format) yes
      ∙ ap (format_told (act world command).0 (reached_behind world reached command) rest) (omega arith)

  -- less than the whole reply
  pub format_within : (n : ℕ) → n < length (act world command).1 → format_told world reached (command ∷ rest) n ≡ reached.format
  format_within n less =
      let no : nat_le (length (act world command).1) n ≡ false = grind (arith, nat_tests) in
      ap (λ (b : Bool). cond b (format_told (act world command).0 (reached_behind world reached command) rest (n - length (act world command).1)) reached.format) no
