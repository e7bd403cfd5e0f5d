-- Rows of facts are rows that are read again.
use Rattle.std.proofs.Common.{ℕ, ◌<◌, ◌≤◌, true, false, cond, List, [], ◌∷◌, ◌++◌, length, map, filter, nat_abs, sum_by, arith}
use Rattle.std.specs.Prelude.{flat_map}
use Rattle.std.specs.List.{All, AllByRecursion, AllZip}
use Rattle.std.specs.declared.cmp.Ordering.TheVariants.{Less, Equal, Greater}
use Rattle.std.proofs.lemmas.List.Elements.{recursion_from_All}
use Rattle.cube_schema.specs.Agreeing.{Agrees, IsOfKind}
use Rattle.cube_schema.specs.Kinds.{kind_at}
use Rattle.cube_schema.specs.declared.schema.Schema.{Schema}
use Rattle.fact_model.specs.declared.fact.Fact.{Fact}
use Rattle.fact_model.specs.declared.slice.Row.{Row}
use Rattle.fact_model.specs.declared.slice.Slice.{Slice}
use Rattle.fact_model.specs.Adds.{AddUp, number_in, numbers_in}
use Rattle.fact_model.specs.Distinct.{by_order, distinct, placed}
use Rattle.fact_model.specs.Fact.{key_of, mass_limit}
use Rattle.fact_model.specs.Groups.{having}
use Rattle.fact_model.specs.Rows.{as_row, numbers_of, rows}
use Rattle.fact_model.specs.Slice.{holds}
use Rattle.fact_model.specs.Value.{Key, key_cmp}
use Rattle.fact_model.proofs.Sums.{column-cons}
use Rattle.sql_slice.proofs.SqlLaws.{kinds-of}
use Rattle.reply_fold.proofs.Adding.{HasColumns}
use Rattle.reply_fold.specs.Laws.{IsRow}

-- ---- keys

module _ (s : Schema) (q : Slice) where
  -- a value of each grouped attribute's kind
  abbrev IsKey : Key → Type 0
  IsKey key = AllZip (λ a v. IsOfKind (kind_at s a) v) q.group key

  abbrev HasKey : Row → Type 0
  HasKey row = IsKey row.key

  fact-key : (x : Fact) → Agrees s x → (group : List ℕ) → AllZip (λ a v. IsOfKind (kind_at s a) v) group (key_of group x)
  fact-key x agrees [] = tt
  fact-key x agrees (a ∷ group) = (kinds-of s x agrees a, fact-key x agrees group)

  fact-keys : (facts : List Fact) → AllByRecursion (Agrees s) facts → AllByRecursion IsKey (map (key_of q.group) (filter (holds q) facts))
  fact-keys [] h = tt
  fact-keys (x ∷ facts) h = elim (holds q x) as (λ b. AllByRecursion IsKey (map (key_of q.group) (cond b (x ∷ filter (holds q) facts) (filter (holds q) facts)))) [
    | true ↦ (fact-key x h.0 q.group, fact-keys facts h.1)
    | false ↦ fact-keys facts h.1
  ]

  placed-keys : (k : Key) (ks : List Key) → IsKey k → AllByRecursion IsKey ks → AllByRecursion IsKey (placed key_cmp k ks)
  placed-keys k [] h hs = (h, tt)
  placed-keys k (j ∷ ks) h hs = elim (key_cmp k j) as (λ o. AllByRecursion IsKey (by_order o (k ∷ (j ∷ ks)) (j ∷ ks) (j ∷ placed key_cmp k ks))) [
    | Less ↦ (h, hs)
    | Equal ↦ hs
    | Greater ↦ (hs.0, placed-keys k ks h hs.1)
  ]

  distinct-keys : (ks : List Key) → AllByRecursion IsKey ks → AllByRecursion IsKey (distinct key_cmp ks)
  distinct-keys [] h = tt
  distinct-keys (k ∷ ks) h = placed-keys k (distinct key_cmp ks) h.0 (distinct-keys ks h.1)

  keyed : (f : Key → List Fact) (ks : List Key) → AllByRecursion IsKey ks → AllByRecursion HasKey (map as_row (map (λ k. (k, numbers_of q.columns (f k))) ks))
  keyed f [] h = tt
  keyed f (k ∷ ks) h = (h.0, keyed f ks h.1)

  rows-keyed : (facts : List Fact) → AllByRecursion (Agrees s) facts → AllByRecursion HasKey (rows facts q)
  rows-keyed facts h = keyed (λ k. having key_cmp (key_of q.group) k (filter (holds q) facts)) _ (distinct-keys _ (fact-keys facts h))

  -- ---- numbers

  -- the magnitudes of the rows' numbers
  abbrev IsLight : Row → Type 0
  IsLight row = (column : ℕ) → nat_abs (number_in column row) ≤ mass_limit

  light : (rs : List Row) → ((column : ℕ) → sum_by nat_abs (numbers_in column rs) ≤ mass_limit) → AllByRecursion IsLight rs
  light [] fit = tt
  light (r ∷ rs) fit = ((λ c. omega (arith, fit c, column-cons c r rs)), light rs (λ c. omega (arith, fit c, column-cons c r rs)))

  -- ---- rows

  all-rows : 0 < length q.columns → (rs : List Row) → AllByRecursion HasKey rs → AllByRecursion (HasColumns q.columns) rs → AllByRecursion IsLight rs → AllByRecursion (IsRow s q) rs
  all-rows some [] keys wide low = tt
  all-rows some (r ∷ rs) keys wide low = (record { key = keys.0; numbers = wide.0; some = some; light = low.0 }, all-rows some rs keys.1 wide.1 low.1)

  every-front : {X : Type 0} (P : X → Type 0) (xs ys : List X) → AllByRecursion P (xs ++ ys) → AllByRecursion P xs
  every-front P [] ys h = tt
  every-front P (x ∷ xs) ys h = (h.0, every-front P xs ys h.1)

  every-back : {X : Type 0} (P : X → Type 0) (xs ys : List X) → AllByRecursion P (xs ++ ys) → AllByRecursion P ys
  every-back P [] ys h = h
  every-back P (x ∷ xs) ys h = every-back P xs ys h.1

  abbrev told : List (List Fact) → List Row
  told parts = flat_map (λ facts. rows facts q) parts

  parts-rows : 0 < length q.columns → (parts : List (List Fact)) → AllByRecursion (Agrees s) (flat_map (λ facts. facts) parts) → AllByRecursion (HasColumns q.columns) (told parts) → AllByRecursion IsLight (told parts)
      → AllByRecursion (λ facts. AllByRecursion (IsRow s q) (rows facts q)) parts
  parts-rows some [] agree wide low = tt
  parts-rows some (facts ∷ parts) agree wide low = (
    all-rows some (rows facts q) (rows-keyed facts (every-front (Agrees s) facts _ agree)) (every-front (HasColumns q.columns) (rows facts q) _ wide) (every-front IsLight (rows facts q) _ low),
    parts-rows some parts (every-back (Agrees s) facts _ agree) (every-back (HasColumns q.columns) (rows facts q) _ wide) (every-back IsLight (rows facts q) _ low),
  )

  -- the rows of parts that add up together
  pub fact-rows : 0 < length q.columns → (parts : List (List Fact)) → All (Agrees s) (flat_map (λ facts. facts) parts) → AllByRecursion (HasColumns q.columns) (told parts) → AddUp (told parts)
      → AllByRecursion (λ facts. AllByRecursion (IsRow s q) (rows facts q)) parts
  fact-rows some parts agree wide adds = parts-rows some parts (recursion_from_All (Agrees s) _ agree) wide (light (told parts) adds.fit)
