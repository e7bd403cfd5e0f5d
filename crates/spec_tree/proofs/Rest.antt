-- The closing after the last leaf: which level it takes, and where it ends.
use Rattle.std.proofs.Common.{◌≡◌, ℕ, zero, suc, Bool, true, false, List, [], ◌∷◌, length, refl, ap, sym, ◌∙◌, arith, ◌≤◌, ◌<◌, ◌+◌, Option, Some, None}
use Rattle.std.specs.Prelude.{option_map, nat_lt, if◌then◌else◌}
use Rattle.std.proofs.lemmas.Bool.{true≢false}
use Rattle.spec_tree.specs.Pending.{all_empty, push, close_rest}
use Rattle.std.proofs.lemmas.Bool.{ltb-true, ltb-false}
use Rattle.std.specs.List.{AllByRecursion}
use Rattle.spec_tree.specs.Levels.{held_from, count_children, rest_level, closed}
use Rattle.spec_tree.proofs.Options.{none≢some}
use Rattle.spec_tree.proofs.Closing.{IsFirst, has_children, held-from, first-found, none-found, closed-suc}

module _ {C : Type 0} where
  -- levels that hold nothing
  pub count-empty : (ls : List (List C)) → all_empty ls ≡ true → count_children ls ≡ 0
  count-empty [] e = refl
  count-empty ([] ∷ ls) e = omega (arith, count-empty ls e)
  count-empty ((x ∷ l) ∷ ls) e = absurd (true≢false (sym e))

  pub empty-count : (ls : List (List C)) → count_children ls ≡ 0 → all_empty ls ≡ true
  empty-count [] e = refl
  empty-count ([] ∷ ls) e = empty-count ls (omega (arith, e))
  empty-count ((x ∷ l) ∷ ls) e = absurd (omega (arith, e))

  -- level i is the lowest that holds a child, and there is another child
  abbrev pub IsRest : ℕ → List (List C) → Type 0
  IsRest i ls = (1 < count_children ls) × IsFirst has_children i ls

  pub rest-found : (i : ℕ) (ls : List (List C)) → rest_level ls ≡ Some i → IsRest i ls
  rest-found i ls e = by_few (nat_lt (count_children ls) 2) refl e
    where
      by_few : (b : Bool) → nat_lt (count_children ls) 2 ≡ b → (if b then None else held_from 0 ls) ≡ Some i → IsRest i ls
      by_few true is f = absurd (none≢some i f)
      by_few false is f = (ltb-false (count_children ls) 2 is, first-found has_children i ls (sym (held-from 0 ls) ∙ f))

  all-nothing : (k : ℕ) (over : List C → C) (ls : List (List C)) → AllByRecursion (λ l. has_children l ≡ false) ls → close_rest k over ls ≡ None
  all-nothing k over [] n = refl
  all-nothing k over ([] ∷ ls) n = ap (option_map (λ r. [] ∷ r)) (all-nothing k over ls n.1)
  all-nothing k over ((x ∷ l) ∷ ls) n = absurd (true≢false n.0)

  few-nothing : (k : ℕ) (over : List C → C) (ls : List (List C)) → count_children ls ≤ 1 → close_rest k over ls ≡ None
  few-nothing k over [] h = refl
  few-nothing k over ([] ∷ ls) h = ap (option_map (λ r. [] ∷ r)) (few-nothing k over ls (omega (arith, h)))
  few-nothing k over ((x ∷ []) ∷ ls) h = ap (λ (b : Bool). elim b as (λ _. Option (List (List C))) [ true ↦ None | false ↦ Some ([] ∷ push (over (x ∷ [])) ls) ])
      (empty-count ls (omega (arith, h)))
  few-nothing k over ((x ∷ y ∷ l) ∷ ls) h = absurd (omega (arith, h))

  -- no level is found: nothing is closed
  pub rest-none : (k : ℕ) (over : List C → C) (ls : List (List C)) → rest_level ls ≡ None → close_rest k over ls ≡ None
  rest-none k over ls e = by_few (nat_lt (count_children ls) 2) refl e
    where
      by_few : (b : Bool) → nat_lt (count_children ls) 2 ≡ b → (if b then None else held_from 0 ls) ≡ None → close_rest k over ls ≡ None
      by_few true is f = few-nothing k over ls (let z : count_children ls < 2 = ltb-true (count_children ls) 2 is in omega (arith, z))
      by_few false is f = all-nothing k over ls (none-found has_children 0 ls (sym (held-from 0 ls) ∙ f))

  some-count : (ls : List (List C)) → 0 < count_children ls → all_empty ls ≡ false
  some-count ls l = by_empty (all_empty ls) refl
    where
      by_empty : (b : Bool) → all_empty ls ≡ b → b ≡ false
      by_empty true is = absurd (let z : count_children ls ≡ 0 = count-empty ls is in omega (arith, l, z))
      by_empty false is = refl

  -- a level closed by its index is the lowest level with a child closed
  pub rest-closed : (k : ℕ) (over : List C → C) (i : ℕ) (ls : List (List C)) → IsFirst has_children i ls → 1 < count_children ls → i + 1 < length ls → close_rest k over ls ≡ Some (closed over i ls)
  rest-closed k over i [] f h l = absurd f
  rest-closed k over zero ([] ∷ ls) f h l = absurd (true≢false (sym f))
  rest-closed k over zero ((x ∷ m) ∷ []) f h l = absurd (omega (arith, l))
  rest-closed k over zero ((x ∷ []) ∷ m ∷ ls) f h l = ap (λ (b : Bool). elim b as (λ _. Option (List (List C))) [ true ↦ None | false ↦ Some ([] ∷ push (over (x ∷ [])) (m ∷ ls)) ])
      (some-count (m ∷ ls) (omega (arith, h)))
  rest-closed k over zero ((x ∷ y ∷ n) ∷ m ∷ ls) f h l = refl
  rest-closed k over (suc i) ([] ∷ ls) f h l = ap (option_map (λ r. [] ∷ r)) (rest-closed k over i ls f.1 (omega (arith, h)) (omega (arith, l)))
      ∙ ap (λ r. Some r) (sym (closed-suc over i [] ls))
  rest-closed k over (suc i) ((x ∷ m) ∷ ls) f h l = absurd (true≢false f.0)
