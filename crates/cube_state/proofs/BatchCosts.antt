-- What a batch costs, for a world.
use Rattle.cube_schema.specs.declared.schema.Schema.{Schema}
use Rattle.cube_state.specs.BatchCosts.{commit_cost, finish_cost, load_cost_of, moves_cost, step_cost}
use Rattle.cube_state.specs.Costs.{Spends, free}
use Rattle.cube_state.specs.Moves.{batch_moves, format_behind, format_with, moves_over, pending_moves}
use Rattle.cube_state.specs.Session.{AttendsAs}
use Rattle.fact_model.specs.declared.fact.Fact.{Fact}
use Rattle.spec_moves.specs.Forest.{forest_moves}
use Rattle.spec_forest.proofs.Scanned.{forest-long}
use Rattle.view_route.specs.Counts.{body_counts}
use Rattle.forest_refresh.specs.Begun.{Begun}
use Rattle.forest_root.specs.Forest.{pages_of_all}
use Rattle.spec_store.proofs.Storable.{storable}
use Rattle.spec_store.specs.Held.{format_for}
use Rattle.spec_store.specs.Sides.{page_count, page_total}
use Rattle.spec_tree.proofs.Moves.{reads-more, written-more}
use Rattle.spec_tree.specs.Moves.{KeepsTo, Move}
use Rattle.spec_machine.proofs.Acts.{act_finish}
use Rattle.spec_machine.specs.Histories.{batch_pending, batch_with}
use Rattle.spec_machine.specs.Machine.{act, committed, pending_over}
use Rattle.spec_machine.specs.Stages.{makes_stage, size}
use Rattle.spec_machine.specs.World.{Knows, Warehouse, World}
use Rattle.select_map.specs.Views.{selected}
use Rattle.site_core.specs.declared.site.Site.{Ghosts}
use Rattle.std.proofs.Common.{List, None, Option, Some, [], ap, arith, cond, length, length-append, min, refl, subst, sym, true, ℕ, ◌++◌, ◌+◌, ◌-◌, ◌/◌, ◌<◌, ◌∙◌, ◌∷◌, ◌≡◌, ◌≤◌}
use Rattle.std.proofs.Math.Nat.{mul-div_cancel_left}
use Rattle.std.proofs.lemmas.Bool.Decides.{nat_tests}
use Rattle.std.specs.Prelude.{nat_lt}
use Rattle.script_lang.specs.declared.command.Command.TheVariants as says
use Rattle.forest_refresh.specs.Begun.{moves_of}
use Rattle.cube_state.specs.Moves.{Reached, reached_by}
use Rattle.cube_state.specs.declared.state.State.TheVariants.{Pending}

-- all facts are more
pub grows : (facts batch : List Fact) → 0 < length batch → nat_lt (length facts + 1) (length (facts ++ batch) + 1) ≡ true
grows facts batch some = let long = length-append facts batch in grind (arith, nat_tests)

-- the moves of a batch that is not empty
pub moves_are : (format : ℕ) (warehouse : Warehouse) (batch : List Fact) → 0 < length batch → moves_over format (Some warehouse) (Some batch) ≡ batch_moves format warehouse batch
moves_are format warehouse [] some = absurd (omega (arith, some))
moves_are format warehouse (x ∷ xs) some = refl

-- and the format that its numbers need
pub pending_format : (format : ℕ) (number : Option ℕ) (batch : List Fact) → 0 < length batch → format_with format (batch_with number batch) ≡ format_for format batch
pending_format format number [] some = absurd (omega (arith, some))
pending_format format number (x ∷ xs) some = refl

-- ---- a batch that is pending

module _ (world : World) (warehouse : Warehouse) (batch : List Fact) (knows : Knows (Some warehouse) (Some batch) world) where
  pub pending_are : (format : ℕ) → 0 < length batch → pending_moves format world ≡ batch_moves format warehouse batch
  pending_are format some = (λ i. moves_over format (knows.kept i) (knows.pending i)) ∙ moves_are format warehouse batch some

  pub finish_answer : act world says.Finish ≡ committed world warehouse batch warehouse.last
  finish_answer = act_finish world ∙ (λ i. pending_over world (λ w b. committed world w b w.last) (knows.kept i) (knows.pending i))

  finish_stage : 0 < length batch → makes_stage world says.Finish ≡ true
  finish_stage some = (λ i. nat_lt (size (knows.kept i)) (size (finish_answer i).0.kept)) ∙ grows warehouse.facts batch some

  -- it is accepted
  pub finish_is : 0 < length batch → (reached : Reached) → finish_cost world reached ≡ commit_cost (batch_moves reached.format warehouse batch) reached.made
  finish_is some reached = λ i. cond (finish_stage some i) (commit_cost (pending_are reached.format some i) reached.made) free

  -- in pages of the format that its numbers need
  pub finish_reaches : 0 < length batch → (format : ℕ) → format_behind world format says.Finish ≡ format_for format batch
  finish_reaches some format = (λ i. cond (finish_stage some i) (format_with format (batch_pending (knows.pending i))) format) ∙ pending_format format None batch some

-- ---- moves of a refresh

module _ {last : ℕ} {S : Type 0} (T : Ghosts S) (old new : S) (r : Begun) (warehouse : Warehouse) (batch : List Fact) (is : AttendsAs last r (T.disk old) warehouse batch) where
  abbrev own : List Move
  own = moves_of r warehouse.facts batch

  abbrev format : ℕ
  format = r.store.forest.body.format

  abbrev Needs : Type 0
  Needs = r.next.format ≡ format_for format batch

  own_are : own ≡ forest_moves format r.next.format warehouse.schema warehouse.facts batch
  own_are = λ i. forest_moves format r.next.format (is.schema i) warehouse.facts batch

  own_pending : Needs → 0 < length batch → (world : World) → Knows (Some warehouse) (Some batch) world → own ≡ pending_moves format world
  own_pending needs some world knows = own_are ∙ ((λ i. forest_moves format (needs i) warehouse.schema warehouse.facts batch) ∙ sym (pending_are world warehouse batch knows format some))

  pub step_spends : Needs → 0 < length batch → (world : World) → Knows (Some warehouse) (Some batch) world → (n tried : ℕ) → tried ≤ n
      → KeepsTo own r.progress.taken (r.progress.taken + tried) (T.reads old, T.writes old) (T.reads new, T.writes new) → Spends T (step_cost world (reached_by (Pending r)) n) old new
  step_spends needs some world knows n tried few keeps =
      let more : r.progress.taken + tried ≤ r.progress.taken + n = omega (arith, few) in
      subst (λ (ms : List Move). Spends T (moves_cost ms r.progress.taken (r.progress.taken + n)) old new) (own_pending needs some world knows) (record {
        reads = omega (arith, keeps.read, reads-more (r.progress.taken + tried) (r.progress.taken + n) own more);
        writes = omega (arith, keeps.wrote, written-more (r.progress.taken + tried) (r.progress.taken + n) own more);
      })

  pub commit_spends : KeepsTo own r.progress.taken (length own) (T.reads old, T.writes old + 3) (T.reads new, T.writes new)
      → Spends T (commit_cost (forest_moves format r.next.format warehouse.schema warehouse.facts batch) r.progress.taken) old new
  commit_spends keeps =
      subst (λ (ms : List Move). Spends T (commit_cost ms r.progress.taken) old new) own_are (record { reads = omega (arith, keeps.read); writes = omega (arith, keeps.wrote) })

  -- nor more reads than there are pages
  pub pages_read : T.reads new ≤ T.reads old + page_total r.store.forest.body r.store.forest.schema → T.reads new ≤ T.reads old + page_count format warehouse.schema warehouse.facts
  pages_read few =
      let lawful = is.lawful.schema in
      let n : ℕ = pages_of_all format warehouse.schema (body_counts warehouse.schema warehouse.facts) (selected warehouse.schema.views).trees in
      let many : page_count format warehouse.schema warehouse.facts ≡ n =
      ap (λ (l : ℕ). l / 4096) (forest-long warehouse.schema lawful warehouse.facts (storable warehouse.schema warehouse.facts lawful is.lawful.accepted format is.adds.read.live.fits)) ∙ mul-div_cancel_left n (omega arith) in
      let total : page_total r.store.forest.body r.store.forest.schema ≡ n =
      ap (λ (counts : List ℕ). pages_of_all format r.store.forest.schema counts (selected r.store.forest.schema.views).trees) is.adds.read.live.at.body_is.counts
      ∙ ap (λ (s : Schema). pages_of_all format s (body_counts s warehouse.facts) (selected s.views).trees) is.schema in
      omega (arith, few, many, total)

  -- a step makes so many moves more, or all that are left
  pub step_made : Needs → 0 < length batch → (world : World) → Knows (Some warehouse) (Some batch) world → (n made now : ℕ) → now ≡ r.progress.taken + made → made ≡ min n (length own - r.progress.taken)
      → now ≡ min (r.progress.taken + n) (length (pending_moves format world))
  step_made needs some world knows n made now sum least = omega (arith, sum, least, ap length (own_pending needs some world knows), is.moved.within)

-- a refresh begins, and is committed before a move is made
pub committed_spends : {S : Type 0} (T : Ghosts S) (old mid new : S) (format : ℕ) (warehouse : Warehouse) (moves : List Move) → Spends T (record { reads = 1; writes = 1 }) old mid
    → (made : ℕ) → made ≡ 0 → Spends T (commit_cost moves made) mid new → T.reads new ≤ T.reads mid + page_count format warehouse.schema warehouse.facts
    → Spends T (load_cost_of format (Some warehouse) moves) old new
committed_spends T old mid new format warehouse moves first made none then pages =
    let ends = subst (λ (m : ℕ). Spends T (commit_cost moves m) mid new) none then in
    record { reads = omega (arith, first.reads, pages); writes = omega (arith, first.writes, ends.writes) }
