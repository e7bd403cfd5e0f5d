use Rattle.std.proofs.Common.{◌++◌, ◌∷◌, [], ◌+◌, ℕ, Bool, true, false, List, Contains, cond, inl, inr, nat_eq, sym, subst, arith}
use Rattle.std.proofs.lemmas.Bool.{cases_eq, eqb-true}
use Rattle.std.proofs.lemmas.List.Elements.{Contains-append_left}
use Rattle.std.specs.List.{list_any}
use Rattle.indexmap.proofs.CallerLemmas.{Contains-insert_key}
use Rattle.slice_rows.proofs.value_ranks.name_codes.Goals as goal

-- what was there stays
stays : (b : Bool) (keys more : List ℕ) (k : ℕ) → Contains keys k → Contains (cond b keys (keys ++ more)) k
stays true keys more k there = there
stays false keys more k there = Contains-append_left keys more k there

pub loop-place-preserved : goal.loop-place-preserved
loop-place-preserved c = λ k some low.
    let old = c.loop-place.codes.keys in
    let code = c.loop-place.place + 1 in
    elim (cases_eq k code) [
      | inl here ↦ subst (λ (n : ℕ). Contains c.insert.new.self.keys n) (sym here)
          (subst (λ (ks : List ℕ). Contains ks code) (sym c.in_ok-insert.ensures.keys) (Contains-insert_key nat_eq (λ x y same. eqb-true x y same) old code))
      | inr other ↦ subst (λ (ks : List ℕ). Contains ks k) (sym c.in_ok-insert.ensures.keys)
          (stays (list_any (nat_eq code) old) old (code ∷ []) k (c.loop-place.invariant k some (omega (arith, low, other))))
    ]
