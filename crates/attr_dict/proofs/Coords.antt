-- Coordinates of facts in the views of a schema.
use Rattle.std.proofs.Common.{◌≡◌, ℕ, suc, ◌<◌, ◌≤◌, List, [], ◌∷◌, length, get_or, slice_index, map, zip, refl, sym, subst, arith}
use Rattle.std.specs.Str.{bytes_eq}
use Rattle.std.specs.List.{All}
use Rattle.std.proofs.lemmas.List.FromFn.{get_or-map-range_with_len}
use Rattle.std.proofs.lemmas.List.Elements.{All-nil, All-cons, All-get_or, All-map}
use Rattle.fact_model.specs.declared.fact.Fact.{Fact}
use Rattle.fact_model.specs.Fact.{value_at}
use Rattle.spec_points.specs.Points.{View, Names, coord}
use Rattle.spec_points.specs.Deltas.{CodedBy}
use Rattle.spec_points.specs.Codes.{Text, admitted, texts_at}
use Rattle.spec_points.specs.Agree.{HasCode, IsCoded}
use Rattle.spec_points.proofs.Codes.{coded-from}
use Rattle.spec_points.proofs.Arities.{coord-positive}
use Rattle.spec_points.proofs.Members.{All-from_every}
use Rattle.attr_dict.specs.Book.{Book, names_at}
use Rattle.attr_dict.specs.Admitting.{Agrees, codes_of}

code-in : (names : List (List Text)) (x : Fact) (a : ℕ) → a < length x.values → get_or (codes_of names x) a 0 ≡ coord (get_or names a []) (value_at x a)
code-in names x a lt = get_or-map-range_with_len (λ k. coord (get_or names k []) (value_at x k)) 0 (length x.values) a a 0 lt (omega arith)

fact-coded : (b : Book) (x : Fact) (view : View) → ((i d : ℕ) → i < length view → get_or view i d < length x.values) → CodedBy (names_at b) view (codes_of b.names x, x)
fact-coded b x [] within = refl
fact-coded b x (a ∷ view) within =
    let first = code-in b.names x a (within 0 a (omega arith)) in
    let others = fact-coded b x view (λ k d lt. within (suc k) d (omega arith)) in
    λ i. first i ∷ others i

coded-each : (b : Book) (view : View) → ((i d : ℕ) → i < length view → get_or view i d < length b.kinds) → (facts : List Fact) → ((i : ℕ) (d : Fact) → i < length facts → Agrees b.kinds (get_or facts i d))
    → All (CodedBy (names_at b) view) (zip (map (codes_of b.names) facts) facts)
coded-each b view within [] agrees = All-nil (CodedBy (names_at b) view)
coded-each b view within (x ∷ facts) agrees =
    let size = (agrees 0 x (omega arith)).values in
    let one = fact-coded b x view (λ k d lt. let below = within k d lt in omega arith) in
    All-cons (CodedBy (names_at b) view) (codes_of b.names x, x) (zip (map (codes_of b.names) facts) facts) one (coded-each b view within facts (λ k d lt. agrees (suc k) d (omega arith)))

-- facts whose coordinates are those of the names have them in each view
pub facts-coded : (b : Book) (facts : List Fact) (view : View) → All (Agrees b.kinds) facts → All (λ a. a < length b.kinds) view → All (CodedBy (names_at b) view) (zip (map (codes_of b.names) facts) facts)
facts-coded b facts view agrees within =
    coded-each b view (λ k d lt. All-get_or (λ a. a < length b.kinds) view k d lt within) facts (λ k d lt. All-get_or (Agrees b.kinds) facts k d lt agrees)

-- the texts of facts are among the names that they are admitted to
pub facts-have_codes : (names old : Names) (facts : List Fact) → ((a : ℕ) → names a ≡ admitted bytes_eq (old a) (texts_at a facts)) → All (IsCoded names) facts
facts-have_codes names old facts are = λ k d lt a.
    let P : Fact → Type 0 = λ (x : Fact). HasCode (admitted bytes_eq (old a) (texts_at a facts)) (value_at x a) in
    subst (λ (ns : List Text). HasCode ns (value_at (get_or facts k d) a)) (sym (are a)) (All-get_or P facts k d lt (All-from_every P facts (coded-from a (old a) facts)))

-- so their coordinates are above 0
pub facts-placed : (b : Book) (facts : List Fact) (view : View) → All (Agrees b.kinds) facts → All (IsCoded (names_at b)) facts → All (λ a. a < length b.kinds) view
    → All (λ (coordinates : List ℕ). All (λ a. 1 ≤ slice_index coordinates a) view) (map (codes_of b.names) facts)
facts-placed b facts view agrees coded within =
    All-map (λ (coordinates : List ℕ). All (λ a. 1 ≤ slice_index coordinates a) view) (codes_of b.names) facts
    (λ k d lt i e below.
    let x = get_or facts k d in
    let a = get_or view i e in
    let size = (All-get_or (Agrees b.kinds) facts k d lt agrees).values in
    let inside = All-get_or (λ a. a < length b.kinds) view i e below within in
    subst (λ c. 1 ≤ c) (sym (code-in b.names x a (omega arith))) (coord-positive (names_at b a) (value_at x a) (All-get_or (IsCoded (names_at b)) facts k d lt coded a)))
