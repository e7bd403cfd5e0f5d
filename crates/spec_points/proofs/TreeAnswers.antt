-- A view's tree answers with the rows of the accepted facts, while more facts are pending.
use Rattle.std.proofs.Common.{◌≡◌, ℕ, ◌<◌, ◌≤◌, ◌≢◌, Bool, List, [], ◌∷◌, ◌++◌, map, length, sym, ◌∙◌, ap, arith}
use Rattle.std.specs.List.{AllByRecursion, All}
use Rattle.fact_model.specs.declared.fact.Fact.{Fact}
use Rattle.fact_model.specs.declared.slice.Slice.{Slice}
use Rattle.fact_model.specs.Value.{key_cmp}
use Rattle.fact_model.specs.Groups.{groups}
use Rattle.fact_model.specs.Rows.{rows}
use Rattle.spec_points.specs.Codes.{names_of}
use Rattle.spec_points.specs.Points.{Names, tree_points, Rises, View, PlacedCell}
use Rattle.spec_points.specs.Answer.{row_from, joined, key_at, answer}
use Rattle.spec_points.specs.Agree.{AgreesFact, InRange, AgreesSlice, Covers, IsCoded}
use Rattle.spec_points.proofs.Members.{every-map, every-from_All}
use Rattle.spec_points.proofs.Trees.{tree-kept, rises-head, rises-tail}
use Rattle.spec_points.proofs.Answers.{answer-rows}
use Rattle.spec_points.proofs.Searches.{search-view}
use Rattle.spec_points.proofs.Codes.{own-names_left}

rises-all : (v : View) (vs : List View) → Rises (v ∷ vs) → AllByRecursion (λ w. (length v < length w) × (length w ≤ 8)) vs
rises-all v [] h = tt
rises-all v (w ∷ vs) h = ((h.0, rises-head w vs h.1), every-map (λ u. (length w < length u) × (length u ≤ 8)) (λ u. (length v < length u) × (length u ≤ 8)) (λ u k. (omega (arith, h.0, k.0), k.1)) vs (rises-all w vs h.1))

middle : {X : Type 0} (P : X → Type 0) (us : List X) (v : X) (ws : List X) → AllByRecursion P (us ++ v ∷ ws) → P v
middle P [] v ws h = h.0
middle P (u ∷ us) v ws h = middle P us v ws h.1

others-before : (us ws : List View) (view : View) → Rises (us ++ view ∷ ws) → AllByRecursion (λ w. (length w ≤ 8) × (length w ≢ length view)) us
others-before [] ws view h = tt
others-before (u ∷ us) ws view h =
    let below : length u < length view = (middle (λ w. (length u < length w) × (length w ≤ 8)) us view ws (rises-all u (us ++ view ∷ ws) h)).0 in
    ((rises-head u (us ++ view ∷ ws) h, λ e. absurd (omega arith)), others-before us ws view (rises-tail u (us ++ view ∷ ws) h))

rises-from : (us ws : List View) (view : View) → Rises (us ++ view ∷ ws) → Rises (view ∷ ws)
rises-from [] ws view h = h
rises-from (u ∷ us) ws view h = rises-from us ws view (rises-tail u (us ++ view ∷ ws) h)

-- the tree of the accepted facts answers with their rows, by all names; without pending facts these are their own
pub tree-answers : (text : ℕ → Bool) (measures : ℕ) (smaller greater : List View) (view : View) (s : Slice) (accepted pending : List Fact)
    → Rises (smaller ++ view ∷ greater) → AgreesSlice text s → Covers view s → All (AgreesFact text) accepted → All (InRange (names_of (accepted ++ pending))) accepted
    → answer text (names_of (accepted ++ pending)) view s (tree_points measures (smaller ++ view ∷ greater) accepted) ≡ rows accepted s
tree-answers text n us ws view s xs ys h a c k r =
    let ns : Names = names_of (xs ++ ys) in
    let coded = own-names_left xs ys in
    let behind : AllByRecursion (λ w. (length w ≤ 8) × (length w ≢ length view)) ws
    = every-map (λ w. (length view < length w) × (length w ≤ 8)) (λ w. (length w ≤ 8) × (length w ≢ length view)) (λ w p. (p.1, λ e. absurd (omega (arith, p.0)))) ws (rises-all view ws (rises-from us ws view h)) in
    ap (answer text ns view s) (sym (tree-kept n (us ++ view ∷ ws) xs ys))
    ∙ (ap (λ es. map (row_from s.columns) (groups key_cmp (λ (e : PlacedCell). key_at text ns view s.group e.0) joined es))
    (search-view ns n xs (every-from_All (IsCoded ns) xs coded) s.conds view (rises-head view ws (rises-from us ws view h)) us ws (others-before us ws view h) behind)
    ∙ answer-rows text ns n view s a c xs coded k r)
