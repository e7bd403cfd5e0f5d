-- The premises of the theorems on trees can be met: by the facts and views of the worked example.
use Rattle.std.proofs.Common.{true, ◌≡◌, ◌≤◌, ℕ, zero, suc, ℤ, pos, negsuc, [], ◌∷◌, ◌++◌, length, refl, sym, arith}
use Rattle.std.proofs.lemmas.Bool.{ne_eqb}
use Rattle.fact_model.specs.declared.fact.Value.TheVariants.{Word}
use Rattle.fact_model.specs.declared.slice.Cond.TheVariants.{Equal, Between}
use Rattle.fact_model.specs.declared.slice.Column.TheVariants.{Count, Sum}
use Rattle.fact_model.specs.declared.slice.Slice.{Slice}
use Rattle.fact_model.specs.Fact.{value_at}
use Rattle.fact_model.specs.Limits.{IsWithin, number_limit}
use Rattle.fact_model.specs.Rows.{rows}
use Rattle.fact_model.specs.Slice.{attr_of}
use Rattle.cube_point.specs.Points.{point_cmp}
use Rattle.spec_points.specs.Codes.{Text, names_of}
use Rattle.spec_points.specs.Points.{tree_by, tree_points, Rises}
use Rattle.spec_points.specs.Answer.{answer}
use Rattle.spec_points.specs.Agree.{AgreesFact, AgreesCond, AgreesColumn, AgreesSlice, Covers, InRange, among, name_limit}
use Rattle.row_fold.specs.Ascends.{Ascends}
use Rattle.spec_points.specs.Merge.{merge_points}
use Rattle.spec_points.proofs.Members.{All-from_every}
use Rattle.spec_points.proofs.Trees.{tree-ascends, tree-merge}
use Rattle.spec_points.proofs.Ranges.{in-range}
use Rattle.spec_points.proofs.TreeAnswers.{tree-answers}
use Rattle.spec_points.proofs.Vectors.{facts, batch, fact, bolt, nut, text, views, by_none, by_year, by_part_year}
use Rattle.spec_points.proofs.Codes.{own-names}

rises : Rises views
rises = (omega arith, (omega arith, omega arith))

-- the points of the tree ascend
pub the_tree_ascends : Ascends point_cmp (tree_points 1 views facts)
the_tree_ascends = tree-ascends (names_of facts) 1 views facts rises (own-names facts)

-- the tree of more facts is the merge
pub the_tree_of_more : tree_points 1 views (facts ++ batch) ≡ merge_points (tree_points 1 views facts) (tree_by (names_of (facts ++ batch)) 1 views batch)
the_tree_of_more = tree-merge 1 views facts batch rises

-- the sum and the count of a part's facts in some years
abbrev asked : Slice
asked = record { columns = Sum 0 ∷ Count ∷ Sum 0 ∷ []; group = 0 ∷ []; conds = Equal 0 (Word bolt) ∷ Between 1 1990 1997 ∷ [] }

agrees : AgreesSlice text asked
agrees = record {
  conds = All-from_every (AgreesCond text) asked.conds (refl, (refl, tt));
  once = ((refl, tt), (tt, tt));
  columns = All-from_every AgreesColumn asked.columns (omega arith, (tt, (omega arith, tt)));
}

covers : Covers by_part_year asked
covers = record {
  group = All-from_every (λ a. among by_part_year a ≡ true) asked.group (refl, tt);
  conds = All-from_every (λ c. among by_part_year (attr_of c) ≡ true) asked.conds (refl, (refl, tt));
}

kind : (part : Text) (year : ℕ) (quantity : ℤ) → AgreesFact text (fact part year quantity)
kind part year quantity zero = refl
kind part year quantity (suc zero) = refl
kind part year quantity (suc (suc a)) = sym (ne_eqb (suc (suc a)) 0 (λ e. omega arith))

few : (a : ℕ) → length (names_of (facts ++ batch) a) ≤ name_limit
few zero = omega arith
few (suc zero) = omega arith
few (suc (suc a)) = omega arith

small : (part : Text) (year : ℕ) (quantity : ℤ) → year ≤ number_limit → (a : ℕ) → IsWithin number_limit (value_at (fact part year quantity) a)
small part year quantity low zero = tt
small part year quantity low (suc zero) = low
small part year quantity low (suc (suc a)) = omega arith

ranged : (part : Text) (year : ℕ) (quantity : ℤ) → year ≤ number_limit → InRange (names_of (facts ++ batch)) (fact part year quantity)
ranged part year quantity low = in-range (names_of (facts ++ batch)) (fact part year quantity) few (small part year quantity low)

-- the answer from the tree, while the batch is pending, is the rows
pub the_answer : answer text (names_of (facts ++ batch)) by_part_year asked (tree_points 1 views facts) ≡ rows facts asked
the_answer = tree-answers text 1 (by_none ∷ by_year ∷ []) [] by_part_year asked facts batch rises agrees covers
    (All-from_every (AgreesFact text) facts (kind bolt 1997 (pos 5), (kind nut 1997 (negsuc 1), (kind bolt 1998 (pos 4), tt))))
    (All-from_every (InRange (names_of (facts ++ batch))) facts (ranged bolt 1997 (pos 5) (omega arith), (ranged nut 1997 (negsuc 1) (omega arith), (ranged bolt 1998 (pos 4) (omega arith), tt))))
