-- The ends of a region, attribute by attribute.
use Rattle.std.proofs.Common.{◌≡◌, ℕ, zero, suc, ◌+◌, ◌-◌, ◌<◌, ◌≤◌, ◌≢◌, true, Bool, cond, List, [], ◌∷◌, ◌++◌, map, length, drop, take, set, get_or, replicate, refl, sym, ◌∙◌, ap, arith, true≢false}
use Rattle.std.proofs.lemmas.Bool.{eq-eqb, ne_eqb}
use Rattle.std.proofs.lemmas.List.{drop_more, take_more, length-map, length-take-le, map-append}
use Rattle.fact_model.specs.declared.fact.Value.TheVariants.{Word}
use Rattle.fact_model.specs.declared.slice.Cond.{Cond}
use Rattle.fact_model.specs.Slice.{attr_of}
use Rattle.cube_schema.specs.declared.Kind.{Kind}
use Rattle.cube_schema.specs.declared.Kind.TheVariants as kind
use Rattle.cube_schema.specs.Kinds.{is_word_kind}
use Rattle.spec_points.specs.Answer.{Interval, codes_of, interval}
use Rattle.spec_points.specs.Codes.{Text, code_in}
use Rattle.spec_points.specs.Points.{Names, View, padded}
use Rattle.attr_dict.specs.Book.{Book, code_for, kind_at}
use Rattle.spec_points.proofs.Paddings.{padded-more}
use Rattle.view_region.specs.Regions.{is_word}

-- ---- texts

-- the code of a text, at a text attribute
pub word-code : (b : Book) (a : ℕ) (names : List Text) (t : Text) → true ≡ is_word b a → code_for (kind_at b a) names (Word t) ≡ code_in names (Word t)
word-code b a names t is = by (kind_at b a) is
  where
    by : (k : Kind) → true ≡ is_word_kind k → code_for k names (Word t) ≡ code_in names (Word t)
    by (kind.Word max) h = refl
    by kind.Number h = absurd (true≢false h)

-- ---- conditions, one after another

module _ (names : Names) (conds : List Cond) (i : ℕ) (d : Cond) (a : ℕ) (low : i < length conds) where
  pub interval-here : attr_of (get_or conds i d) ≡ a → interval names (drop i conds) a ≡ codes_of (names a) (get_or conds i d)
  interval-here same =
      ap (λ cs. interval names cs a) (drop_more conds i d low)
      ∙ ap (λ (b : Bool). cond b (codes_of (names a) (get_or conds i d)) (interval names (drop (i + 1) conds) a)) (eq-eqb (attr_of (get_or conds i d)) a same)

  pub interval-later : (attr_of (get_or conds i d) ≢ a) → interval names (drop i conds) a ≡ interval names (drop (i + 1) conds) a
  interval-later other =
      ap (λ cs. interval names cs a) (drop_more conds i d low)
      ∙ ap (λ (b : Bool). cond b (codes_of (names a) (get_or conds i d)) (interval names (drop (i + 1) conds) a)) (ne_eqb (attr_of (get_or conds i d)) a other)

-- ---- attributes, one after another

module _ (end : Interval → ℕ) (f : ℕ → Interval) where
  -- the ends for the attributes, and zeros behind them
  abbrev pub ends : View → List ℕ
  ends view = padded (map (λ a. end (f a)) view)

  zero-ends : end (0, 0) ≡ 0 → (n : ℕ) → map end (replicate n (0, 0)) ≡ replicate n 0
  zero-ends z zero = refl
  zero-ends z (suc n) = λ i. z i ∷ zero-ends z n i

  map-map : (view : View) → map end (map f view) ≡ map (λ a. end (f a)) view
  map-map [] = refl
  map-map (a ∷ view) = ap (λ es. end (f a) ∷ es) (map-map view)

  -- they are the ends of the intervals
  pub all-ends : end (0, 0) ≡ 0 → (view : View) → ends view ≡ map end (map f view ++ replicate (8 - length view) (0, 0))
  all-ends z view =
      let codes : List ℕ = map (λ a. end (f a)) view in
      ap (λ n. codes ++ replicate (8 - n) 0) (length-map view (λ a. end (f a)))
      ∙ ((λ i. sym (map-map view) i ++ sym (zero-ends z (8 - length view)) i)
      ∙ sym (map-append end (map f view) (replicate (8 - length view) (0, 0))))

  pub ends-more : (view : View) (at : List ℕ) (i c : ℕ) → i < length view → length view ≤ 8 → at ≡ ends (take i view) → c ≡ end (f (get_or view i 0))
      → set at i c ≡ ends (take (i + 1) view)
  ends-more view at i c low few so_far is =
      let g : ℕ → ℕ = λ a. end (f a) in
      let codes : List ℕ = map g (take i view) in
      let long : length codes ≡ i = length-map (take i view) g ∙ length-take-le i view (omega arith) in
      ap (λ l. set l i c) so_far
      ∙ (padded-more codes i c long (omega arith)
      ∙ ap padded (ap (λ b. codes ++ b ∷ []) is ∙ sym (ap (map g) (take_more view i 0 low) ∙ map-append g (take i view) (get_or view i 0 ∷ []))))
