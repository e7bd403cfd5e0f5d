-- Twelve levels suffice: room for the nodes to come, which every step keeps.
use Rattle.std.proofs.Common.{◌≡◌, ℕ, zero, suc, Bool, true, false, List, [], ◌∷◌, length, map, refl, ap, sym, ◌∙◌, inl, inr, arith, ◌≤◌, ◌<◌, ◌+◌, ◌*◌, ◌^◌, length-append, subst, Option, Some, None, le_refl, replicate}
use Rattle.std.specs.Prelude.{◌==◌, option_map}
use Rattle.std.proofs.lemmas.Bool.{cases_Bool, eqb-true, true≢false}
use Rattle.std.proofs.lemmas.List.{length-map}
use Rattle.spec_tree.specs.Pending.{all_empty, push, close_full, close_rest, Roomy, at_last, at_more}
use native.Mathlib.Nat.{suc-mul, zero-mul, mul-suc}
use Rattle.std.proofs.Math.Nat.{mul_comm, mul-le-mul}
use Rattle.spec_tree.specs.Runs.{runs, top, full, rest, short}
use Rattle.std.proofs.Math.Nat.{div-add-mod}
use Rattle.std.specs.Prelude.{sum_by, ◌/◌, ◌%◌}
use Rattle.std.proofs.lemmas.List.Sums.{sum_by-cons}
use Rattle.std.specs.List.{AllByRecursion}
use Rattle.spec_tree.specs.Counts.{reach, runs_of, tree_leaves}
use Rattle.spec_tree.specs.Levels.{count_children}
use Rattle.spec_tree.proofs.Options.{none≢some, some_inj}
use Rattle.spec_tree.proofs.Runs.{length-runs}
use Rattle.spec_tree.proofs.Finish.{below_factor}
use Rattle.spec_tree.proofs.Settle.{close_full-whole, close_full-more}
use Rattle.spec_tree.proofs.Closing.{IsFirst, has_children, is_full_level}

module _ {C : Type 0} (k : ℕ) where
  -- room for fewer, and room at the start
  pub roomy-less : {c : ℕ} (b : ℕ) (ls : List (List C)) → b ≤ c → Roomy k c ls → Roomy k b ls
  roomy-less b [] e r = elim r [ ]
  roomy-less b (l ∷ []) e (at_last le) = at_last (omega (arith, le))
  roomy-less b (l ∷ ls) e (at_more le r) = at_more (omega (arith, le)) r

  pub roomy-start : (d : ℕ) → Roomy {N = C} k (reach k d) (replicate (suc d) [])
  roomy-start zero = at_last (omega arith)
  roomy-start (suc d) = at_more (let e : k * reach k d ≡ reach k d * k = mul_comm k (reach k d) in omega (arith, e)) (roomy-start d)

  -- a full level is never the last
  pub full-inside : {c : ℕ} (two : 2 ≤ k) (i : ℕ) (ls : List (List C)) → Roomy k c ls → IsFirst (is_full_level k) i ls → i + 1 < length ls
  full-inside two i [] r f = absurd f
  full-inside two zero (l ∷ []) (at_last le) f = absurd (let z : length l ≡ k = eqb-true (length l) k f in omega (arith, le, two, z))
  full-inside two (suc i) (l ∷ []) (at_last le) f = absurd f.1
  full-inside two zero (l ∷ []) (at_more le r) f = elim r [ ]
  full-inside two zero (l ∷ m ∷ ls) (at_more le r) f = omega arith
  full-inside two (suc i) (l ∷ ls) (at_more le r) f = let z : i + 1 < length ls = full-inside two i ls r f.1 in omega (arith, z)

  -- nor is a level that holds a child, where there is another child
  pub rest-inside : {c : ℕ} (i : ℕ) (ls : List (List C)) → Roomy k c ls → IsFirst has_children i ls → 1 < count_children ls → i + 1 < length ls
  rest-inside i [] r f h = absurd f
  rest-inside zero (l ∷ []) (at_last le) f h = absurd (omega (arith, le, h))
  rest-inside (suc i) (l ∷ []) (at_last le) f h = absurd f.1
  rest-inside zero (l ∷ []) (at_more le r) f h = elim r [ ]
  rest-inside zero (l ∷ m ∷ ls) (at_more le r) f h = omega arith
  rest-inside (suc i) ([] ∷ ls) (at_more le r) f h = let z : i + 1 < length ls = rest-inside i ls r f.1 (omega (arith, h)) in omega (arith, z)
  rest-inside (suc i) ((x ∷ l) ∷ ls) (at_more le r) f h = absurd (true≢false f.0)

module _ {C : Type 0} (k : ℕ) (over : List C → C) (two : 2 ≤ k) where
  pub roomy-push : {c : ℕ} (x : C) (ls : List (List C)) → Roomy k (suc c) ls → Roomy k c (push x ls)
  roomy-push x [] r = elim r [ ]
  roomy-push x (l ∷ []) (at_last le) = at_last (omega (arith, length-append l (x ∷ []), le))
  roomy-push x (l ∷ ls) (at_more le r) = at_more (omega (arith, length-append l (x ∷ []), le)) r

  -- a child is carried up
  carried : (c : ℕ) {q : ℕ} (x : C) (n : ℕ) (ls : List (List C)) → 0 < n → n + c ≤ q * k → Roomy k q ls → Roomy k 0 ([] ∷ push x ls)
  carried c {q = zero} x n ls some le r = absurd (let z : zero * k ≡ 0 = zero-mul k in omega (arith, z))
  carried c {q = suc q} x n ls some le r = at_more (omega arith) (roomy-push x ls r)

  pub roomy-full : {c : ℕ} (ls after : List (List C)) → Roomy k c ls → close_full k over ls ≡ Some after → Roomy k c after
  roomy-full [] after r e = elim r [ ]
  roomy-full (l ∷ []) after (at_last le) e = elim (cases_Bool (length l == k)) [
    | inl w ↦ absurd (let z : length l ≡ k = eqb-true (length l) k w in omega (arith, le, two))
    | inr w ↦ absurd (none≢some _ (sym (close_full-more k over two l [] w) ∙ e))
  ]
  roomy-full {c = c} (l ∷ ls) after (at_more {q = q} le r) e = elim (cases_Bool (length l == k)) [
    | inl w ↦ subst (Roomy k c) (some_inj ls _ _ (sym (close_full-whole k over two l ls w) ∙ e)) (whole q le r (eqb-true (length l) k w))
    | inr w ↦ more (close_full k over ls) refl (sym (close_full-more k over two l ls w) ∙ e) (λ a f. roomy-full ls a r f)
  ]
    where
      whole : (q : ℕ) → length l + c ≤ q * k → Roomy k q ls → length l ≡ k → Roomy k c ([] ∷ push (over l) ls)
      whole zero le r same = absurd (let z : zero * k ≡ 0 = zero-mul k in omega (arith, z, two))
      whole (suc q) le r same = at_more {q = q} (let z : suc q * k ≡ q * k + k = suc-mul q k in omega (arith, z, same, le)) (roomy-push (over l) ls r)

      more : (o : Option (List (List C))) → close_full k over ls ≡ o → option_map (λ r. l ∷ r) o ≡ Some after → ((a : List (List C)) → close_full k over ls ≡ Some a → Roomy k q a) → Roomy k c after
      more None is g below = absurd (none≢some _ g)
      more (Some a) is g below = subst (Roomy k c) (some_inj ls _ _ g) (at_more le (below a is))

  pub roomy-rest : (ls after : List (List C)) → Roomy k 0 ls → close_rest k over ls ≡ Some after → Roomy k 0 after
  roomy-rest [] after r e = elim r [ ]
  roomy-rest ([] ∷ []) after (at_last le) e = absurd (none≢some _ e)
  roomy-rest ([] ∷ ls) after (at_more {q = q} le r) e = more (close_rest k over ls) refl e (λ a f. roomy-rest ls a (roomy-less k 0 ls (omega arith) r) f)
    where
      more : (o : Option (List (List C))) → close_rest k over ls ≡ o → option_map (λ r. [] ∷ r) o ≡ Some after → ((a : List (List C)) → close_rest k over ls ≡ Some a → Roomy k 0 a) → Roomy k 0 after
      more None is g below = absurd (none≢some _ g)
      more (Some a) is g below = subst (Roomy k 0) (some_inj ls _ _ g) (at_more {q = 0} (omega arith) (below a is))
  roomy-rest ((x ∷ []) ∷ []) after (at_last le) e = absurd (none≢some _ e)
  roomy-rest ((x ∷ []) ∷ ls) after (at_more {q = q} le r) e = go (all_empty ls) e (carried 0 (over (x ∷ [])) 1 ls (omega arith) (omega (arith, le)) r)
    where
      go : (b : Bool) → elim b as (λ _. Option (List (List C))) [ true ↦ None | false ↦ Some ([] ∷ push (over (x ∷ [])) ls) ] ≡ Some after → Roomy k 0 ([] ∷ push (over (x ∷ [])) ls) → Roomy k 0 after
      go true f r = absurd (none≢some _ f)
      go false f r = subst (Roomy k 0) (some_inj ls _ _ f) r
  roomy-rest ((x ∷ y ∷ m) ∷ []) after (at_last le) e = absurd (omega (arith, le))
  roomy-rest ((x ∷ y ∷ m) ∷ ls) after (at_more {q = q} le r) e = subst (Roomy k 0) (some_inj ls _ _ e) (carried 0 (over (x ∷ y ∷ m)) (length (x ∷ y ∷ m)) ls (omega arith) le r)

-- one level more over a list that is already within reach changes nothing
module _ {N : Type 0} (k : ℕ) (inner : List N → N) (two : 2 ≤ k) where
  count : (ns r : List N) (q : ℕ) → rest k ns ≡ r → length ns ≤ k * q → length (full k ns) + length (short r) ≤ q
  count ns [] q e l =
      let w : 0 + length ns ≡ k * length (full k ns) + length (rest k ns) = length-runs k [] ns in
      let z : length (rest k ns) ≡ 0 = ap length e in
      let m : k * suc q ≡ k * q + k = mul-suc k q in
      let b : length (full k ns) < suc q = below_factor k (length (full k ns)) (suc q) 0 (omega (arith, w, z, m, l, two)) in omega arith
  count ns (x ∷ r) q e l =
      let w : 0 + length ns ≡ k * length (full k ns) + length (rest k ns) = length-runs k [] ns in
      let z : length (rest k ns) ≡ suc (length r) = ap length e in
      let b : length (full k ns) < q = below_factor k (length (full k ns)) q (length r) (omega (arith, w, z, l)) in omega arith

  pub top-more : (d : ℕ) (ns : List N) → length ns ≤ reach k d → top k inner (suc d) ns ≡ top k inner d ns
  top-more zero [] l = refl
  top-more zero (x ∷ []) l = refl
  top-more zero (x ∷ y ∷ ns) l = absurd (omega (arith, l))
  top-more (suc d) [] l = refl
  top-more (suc d) (x ∷ []) l = refl
  top-more (suc d) (x ∷ y ∷ ns) l = top-more d (map inner (runs k (x ∷ y ∷ ns)))
      (let e : length (map inner (runs k (x ∷ y ∷ ns))) ≡ length (runs k (x ∷ y ∷ ns)) = length-map (runs k (x ∷ y ∷ ns)) inner in
      let f : length (runs k (x ∷ y ∷ ns)) ≡ length (full k (x ∷ y ∷ ns)) + length (short (rest k (x ∷ y ∷ ns))) = length-append (full k (x ∷ y ∷ ns)) (short (rest k (x ∷ y ∷ ns))) in
      omega (arith, e, f, count (x ∷ y ∷ ns) (rest k (x ∷ y ∷ ns)) (reach k d) refl l))

-- fewer than 2 ^ 44 leaves need no more than eleven levels of inner pages, where an inner page has room for 16 children
reach-mono : (least k d : ℕ) → least ≤ k → reach least d ≤ reach k d
reach-mono least k zero l = le_refl 1
reach-mono least k (suc d) l = mul-le-mul l (reach-mono least k d l)

pub twelve : (k n : ℕ) → 16 ≤ k → n < 2 ^ 44 → n < reach k 11
twelve k n l h = let m : reach 16 11 ≤ reach k 11 = reach-mono 16 k 11 l in omega arith

-- and fewer than 2 ^ 53, where it has room for 30
pub twelve-more : (k n : ℕ) → 30 ≤ k → n < 2 ^ 53 → n < reach k 11
twelve-more k n l h = let m : reach 30 11 ≤ reach k 11 = reach-mono 30 k 11 l in omega arith

reach-some : (k d : ℕ) → 2 ≤ k → 1 ≤ reach k d
reach-some k zero two = omega arith
reach-some k (suc d) two = let z : 2 * 1 ≤ k * reach k d = mul-le-mul two (reach-some k d two) in omega (arith, z)

-- one level more reaches further
pub reach-next : (k : ℕ) (two : 2 ≤ k) (d : ℕ) → reach k d < reach k (suc d)
reach-next k two d = let z : 2 * reach k d ≤ k * reach k d = mul-le-mul two (le_refl (reach k d)) in omega (arith, z, reach-some k d two)

-- a list has no more runs than elements
runs-within : (n count : ℕ) → 0 < n → runs_of n count ≤ count
runs-within n count pos =
    let whole : n * (count / n) + count % n ≡ count = div-add-mod count n in
    let less : 1 * (count / n) ≤ n * (count / n) = mul-le-mul pos (le_refl (count / n)) in
    omega (arith, whole, less)

-- a tree has no more leaves than entries
pub leaves-within : (room : ℕ → ℕ) (counts : List (ℕ × ℕ)) → AllByRecursion (λ c. 0 < room c.0) counts → tree_leaves room counts ≤ sum_by (λ c. c.1) counts
leaves-within room [] h = omega arith
leaves-within room (c ∷ counts) h = omega (arith, sum_by-cons (λ c. runs_of (room c.0) c.1) c counts, sum_by-cons (λ c. c.1) c counts, runs-within (room c.0) c.1 h.0, leaves-within room counts h.1)

-- twelve levels hold a tree of fewer than 2 ^ 44 entries, where an inner page has room for 16 children
pub twelve-hold : (room : ℕ → ℕ) (k : ℕ) (counts : List (ℕ × ℕ)) → 16 ≤ k → AllByRecursion (λ c. 0 < room c.0) counts → sum_by (λ c. c.1) counts < 2 ^ 44 → tree_leaves room counts ≤ reach k 11
twelve-hold room k counts wide h few = let n : sum_by (λ c. c.1) counts < reach k 11 = twelve k (sum_by (λ c. c.1) counts) wide few in omega (arith, n, leaves-within room counts h)
