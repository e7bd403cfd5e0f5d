-- The ranks of points tell the order of their first values, as one number too.
use Rattle.std.proofs.Common.{◌≡◌, ℕ, zero, suc, ◌+◌, ◌*◌, ◌^◌, ◌<◌, ◌≤◌, List, [], ◌∷◌, ◌++◌, map, take, drop, length, get_or, Contains, refl, sym, ◌∙◌, ap, subst, arith}
use Rattle.std.proofs.Math.Nat.{mul-le-mul, mul-le-mul_left, mul-le-mul_right, mul_assoc, mul-one, suc-mul}
use Rattle.std.proofs.Math.Seq.{drop-cons}
use Rattle.std.proofs.lemmas.Cmp.{ranked}
use Rattle.std.proofs.lemmas.List.{length-map, map-append, take-append-drop}
use Rattle.std.proofs.lemmas.List.Elements.{All-contains}
use Rattle.std.specs.Cmp.Lexicographic.{slice_cmp}
use Rattle.std.specs.List.{All, AllByRecursion}
use Rattle.std.specs.Ordering.{nat_cmp, ordering_then}
use Rattle.std.specs.declared.cmp.Ordering.{Ordering}
use Rattle.std.specs.declared.cmp.Ordering.TheVariants.{Less, Equal, Greater}
use Rattle.fact_model.specs.declared.fact.Value.{Value}
use Rattle.fact_model.specs.Value.{key_cmp, value_cmp}
use Rattle.cube_point.specs.declared.point.Entry.{Entry}
use Rattle.spec_points.specs.Answer.{coordinate}
use Rattle.spec_points.specs.Points.{View}
use Rattle.spec_points.proofs.Members.{every-from_All, every-map}
use Rattle.attr_dict.specs.Book.{Book}
use Rattle.slice_rows.specs.Grouped.{key_of_entry, value_at_code}
use Rattle.slice_rows.specs.Ranks.{IsBelow, TellOrder, rank_behind, rank_by, room}
use Rattle.slice_rows.specs.declared.value_ranks.Ranks.{Ranks}
use Rattle.slice_rows.proofs.RankOrder.{greater-told, less-told, shifted}

-- ---- a digit more

above : (m n c x y : ℕ) → m < n → x < c → m * c + x < n * c + y
above m n c x y less low =
    let most : suc m ≤ n = omega arith in
    let past : suc m * c ≤ n * c = mul-le-mul_right c most in
    let one = suc-mul m c in
    omega arith

-- numbers with a digit behind each stand to each other as they do, and where they are equal as the digits do
digit-told : (m n c x y : ℕ) → x < c → y < c → nat_cmp (m * c + x) (n * c + y) ≡ ordering_then (nat_cmp m n) (nat_cmp x y)
digit-told m n c x y low below = by (nat_cmp m n) refl
  where
    by : (r : Ordering) → r ≡ nat_cmp m n → nat_cmp (m * c + x) (n * c + y) ≡ ordering_then r (nat_cmp x y)
    by Less is = less-told (m * c + x) (n * c + y) (above m n c x y (ranked m n Less is) low)
    by Equal is = let same : m ≡ n = ranked m n Equal is in ap (λ (k : ℕ). nat_cmp (m * c + x) (k * c + y)) (sym same) ∙ shifted (m * c) x y
    by Greater is = greater-told (m * c + x) (n * c + y) (above n m c y x (ranked m n Greater is) below)

-- ---- there is room for all digits

every-drop : {X : Type 0} (P : X → Type 0) (n : ℕ) (xs : List X) → AllByRecursion P xs → AllByRecursion P (drop n xs)
every-drop P zero xs all = all
every-drop P (suc n) [] all = tt
every-drop P (suc n) (x ∷ xs) all = every-drop P n xs all.1

-- with one digit more the number is still within the limit, with room for those that follow
room-less : (limit m c x more : ℕ) → x < c → 0 < more → (m + 1) * (c * more) < limit → ((m * c + x + 1) * more < limit) × (m * c + x < limit)
room-less limit m c x more low some within =
    let one : suc m * c ≡ m * c + c = suc-mul m c in
    let next : m * c + x + 1 ≤ suc m * c = omega arith in
    let wide : (m * c + x + 1) * more ≤ suc m * c * more = mul-le-mul_right more next in
    let same : suc m * c * more ≡ suc m * (c * more) = mul_assoc (suc m) c more in
    let plus : m + 1 ≡ suc m = omega arith in
    let whole : suc m * (c * more) < limit = subst (λ (k : ℕ). k * (c * more) < limit) plus within in
    let few : (m * c + x + 1) * 1 ≤ (m * c + x + 1) * more = mul-le-mul_left (m * c + x + 1) some in
    let all : (m * c + x + 1) * 1 ≡ m * c + x + 1 = mul-one (m * c + x + 1) in
    (omega arith, omega arith)

module _ (b : Book) (view : View) (e : Entry) where
  room-some : (rs : List Ranks) → AllByRecursion (IsBelow b view e) rs → 0 < room rs
  room-some [] all = omega arith
  room-some (r ∷ rs) all =
      let here = all.0 in
      let one : 1 ≤ r.count = omega arith in
      let more : 1 ≤ room rs = room-some rs all.1 in
      mul-le-mul one more

  -- the ranks up to i are in the number, and there is room for the others
  pub record IsBegun (rs : List Ranks) (i n : ℕ) : Type 0 where
    pub fits : (n + 1) * room (drop i rs) < 2 ^ 64
    pub behind : rank_behind b view e.point.at (drop i rs) n ≡ rank_behind b view e.point.at rs 0

  pub begun : (rs : List Ranks) → room rs < 2 ^ 64 → IsBegun rs 0 0
  begun rs fits = record {
    fits = omega (arith, fits);
    behind = refl;
  }

  pub begun-more : (rs : List Ranks) (i n digit : ℕ) (r : Ranks) → i < length rs → r ≡ get_or rs i r → digit ≡ rank_by b r (coordinate view e.point.at r.attr)
      → All (IsBelow b view e) rs → IsBegun rs i n → (n * r.count + digit < 2 ^ 64) × IsBegun rs (i + 1) (n * r.count + digit)
  begun-more rs i n digit r low at is all old =
      let here : drop i rs ≡ r ∷ drop (i + 1) rs = next in
      let every = every-from_All (IsBelow b view e) rs all in
      let below : AllByRecursion (IsBelow b view e) (r ∷ drop (i + 1) rs) = subst (AllByRecursion (IsBelow b view e)) here (every-drop (IsBelow b view e) i rs every) in
      let digit-low : digit < r.count = subst (λ (k : ℕ). k < r.count) (sym is) below.0 in
      let less = room-less (2 ^ 64) n r.count digit (room (drop (i + 1) rs)) digit-low (room-some (drop (i + 1) rs) below.1)
      (subst (λ (ss : List Ranks). (n + 1) * room ss < 2 ^ 64) here old.fits) in (
        less.1,
        record {
          fits = less.0;
          behind = ap (λ (k : ℕ). rank_behind b view e.point.at (drop (i + 1) rs) (n * r.count + k)) is
              ∙ (ap (λ (ss : List Ranks). rank_behind b view e.point.at ss n) (sym here) ∙ old.behind);
        },
      )
    where
      plus : (k : ℕ) → suc k ≡ k + 1
      plus k = omega arith

      next : drop i rs ≡ r ∷ drop (i + 1) rs
      next = drop-cons rs i r low ∙ (λ j. sym at j ∷ drop (plus i j) rs)

-- with ranks behind them
room-append : (rs : List Ranks) (r : Ranks) → room (rs ++ r ∷ []) ≡ room rs * r.count
room-append [] r = omega arith
room-append (s ∷ rs) r = ap (λ (k : ℕ). s.count * k) (room-append rs r) ∙ sym (mul_assoc s.count (room rs) r.count)

pub room-more : (rs ss : List Ranks) (r : Ranks) (n more : ℕ) → ss ≡ rs ++ r ∷ [] → n ≡ room rs → more ≡ n * r.count → more ≡ room ss
room-more rs ss r n more are is times = times ∙ (ap (λ (k : ℕ). k * r.count) is ∙ (sym (room-append rs r) ∙ ap room (sym are)))

-- ---- the first values decide, and then the others

then-assoc : (q r s : Ordering) → ordering_then (ordering_then q r) s ≡ ordering_then q (ordering_then r s)
then-assoc Less r s = refl
then-assoc Equal r s = refl
then-assoc Greater r s = refl

then-equal : (r : Ordering) → r ≡ ordering_then r Equal
then-equal Less = refl
then-equal Equal = refl
then-equal Greater = refl

front-first : (us vs ws xs : List Value) → length us ≡ length vs → ordering_then (slice_cmp value_cmp us vs) (key_cmp ws xs) ≡ key_cmp (us ++ ws) (vs ++ xs)
front-first [] [] ws xs same = refl
front-first [] (v ∷ vs) ws xs same = absurd (omega arith)
front-first (u ∷ us) [] ws xs same = absurd (omega arith)
front-first (u ∷ us) (v ∷ vs) ws xs same =
    then-assoc (value_cmp u v) (slice_cmp value_cmp us vs) (key_cmp ws xs) ∙ ap (ordering_then (value_cmp u v)) (front-first us vs ws xs (omega arith))

module _ (b : Book) (view : View) where
  -- the values that are ranked
  values : List Ranks → Entry → List Value
  values rs e = map (λ (r : Ranks). value_at_code b r.attr (coordinate view e.point.at r.attr)) rs

  value_of_attr : Entry → ℕ → Value
  value_of_attr e a = value_at_code b a (coordinate view e.point.at a)

  by-attrs : (rs : List Ranks) (e : Entry) → values rs e ≡ map (value_of_attr e) (map (λ (r : Ranks). r.attr) rs)
  unfolding values value_of_attr
  by-attrs [] e = refl
  by-attrs (r ∷ rs) e = ap (λ vs. value_at_code b r.attr (coordinate view e.point.at r.attr) ∷ vs) (by-attrs rs e)

  -- the values of the ranked attributes, and those of the others
  all-values : (rs : List Ranks) (group : List ℕ) (e : Entry) → map (λ (r : Ranks). r.attr) rs ≡ take (length rs) group
      → values rs e ++ key_of_entry b view (drop (length rs) group) e ≡ key_of_entry b view group e
  unfolding value_of_attr
  all-values rs group e are =
      let value = value_of_attr e in
      let rest = drop (length rs) group in
      (λ i. by-attrs rs e i ++ map value rest)
      ∙ (sym (map-append value (map (λ (r : Ranks). r.attr) rs) rest) ∙ ap (map value) ((λ i. are i ++ rest) ∙ take-append-drop (length rs) group))

  module _ (es : List Entry) (d e : Entry) (one : Contains es d) (other : Contains es e) where
    told-front : (rs : List Ranks) → AllByRecursion (λ (r : Ranks). TellOrder b view r es) rs → AllByRecursion (IsBelow b view d) rs → AllByRecursion (IsBelow b view e) rs
        → (m n : ℕ) → nat_cmp (rank_behind b view d.point.at rs m) (rank_behind b view e.point.at rs n) ≡ ordering_then (nat_cmp m n) (slice_cmp value_cmp (values rs d) (values rs e))
    unfolding values
    told-front [] tell low below m n = then-equal (nat_cmp m n)
    told-front (r ∷ rs) tell low below m n =
        let x = rank_by b r (coordinate view d.point.at r.attr) in
        let y = rank_by b r (coordinate view e.point.at r.attr) in
        let first = value_cmp (value_at_code b r.attr (coordinate view d.point.at r.attr)) (value_at_code b r.attr (coordinate view e.point.at r.attr)) in
        let rest = slice_cmp value_cmp (values rs d) (values rs e) in
        told-front rs tell.1 low.1 below.1 (m * r.count + x) (n * r.count + y)
        ∙ (ap (λ (o : Ordering). ordering_then o rest) (digit-told m n r.count x y low.0 below.0 ∙ ap (ordering_then (nat_cmp m n)) (tell.0 d e one other))
        ∙ then-assoc (nat_cmp m n) first rest)

    -- the numbers that the ranks make, and then the values of the other attributes, stand to each other as the keys do
    pub ranks-keys : (rs : List Ranks) (group : List ℕ) → map (λ (r : Ranks). r.attr) rs ≡ take (length rs) group
        → AllByRecursion (λ (r : Ranks). TellOrder b view r es) rs → AllByRecursion (IsBelow b view d) rs → AllByRecursion (IsBelow b view e) rs
        → ordering_then (nat_cmp (rank_behind b view d.point.at rs 0) (rank_behind b view e.point.at rs 0))
        (key_cmp (key_of_entry b view (drop (length rs) group) d) (key_of_entry b view (drop (length rs) group) e))
        ≡ key_cmp (key_of_entry b view group d) (key_of_entry b view group e)
    unfolding values
    ranks-keys rs group are tell low below =
        let value : Entry → Ranks → Value = λ e r. value_at_code b r.attr (coordinate view e.point.at r.attr) in
        let keys = key_cmp (key_of_entry b view (drop (length rs) group) d) (key_of_entry b view (drop (length rs) group) e) in
        ap (λ (o : Ordering). ordering_then o keys) (told-front rs tell low below 0 0)
        ∙ (front-first (values rs d) (values rs e) (key_of_entry b view (drop (length rs) group) d) (key_of_entry b view (drop (length rs) group) e)
        (length-map rs (value d) ∙ sym (length-map rs (value e)))
        ∙ (λ i. key_cmp (all-values rs group d are i) (all-values rs group e are i)))

-- the ranks of one of the points are below the counts
pub below-one : (b : Book) (view : View) (es : List Entry) (e : Entry) (rs : List Ranks) → Contains es e
    → All (λ (r : Ranks). All (λ (d : Entry). IsBelow b view d r) es) rs → AllByRecursion (IsBelow b view e) rs
below-one b view es e rs there all =
    every-map (λ (r : Ranks). All (λ (d : Entry). IsBelow b view d r) es) (IsBelow b view e) (λ r each. All-contains (λ (d : Entry). IsBelow b view d r) es e each there)
    rs (every-from_All (λ (r : Ranks). All (λ (d : Entry). IsBelow b view d r) es) rs all)
