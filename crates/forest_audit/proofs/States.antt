-- Files that keep a state have the verdict of that state.
use Rattle.std.proofs.Common.{◌≡◌, ◌<◌, ℕ, List, [], ◌∷◌, filter, length, map, refl, ap, sym, ◌∙◌}
use Rattle.site_core.specs.Disk.{Files}
use Rattle.attr_dict.specs.Book.{Book, HoldsNamesOf}
use Rattle.cube_schema.specs.Kinds.{measure_count}
use Rattle.cube_schema.specs.Lawful.{IsSchema}
use Rattle.cube_schema.specs.declared.schema.Schema.{Schema}
use Rattle.fact_model.specs.declared.fact.Fact.{Fact}
use Rattle.forest_open.specs.Opening.{AreOpened}
use Rattle.forest_open.proofs.Openings.{book_of, kept_names, kept_opened, live_body}
use Rattle.spec_forest.specs.Forest.{view_entries}
use Rattle.spec_forest.proofs.Selected.{view-of-tree}
use Rattle.forest_root.specs.Live.{IsLiveBody}
use Rattle.forest_root.specs.declared.body.Body.{Body}
use Rattle.forest_root.proofs.One.{held_is_live}
use Rattle.spec_store.specs.Held.{AreAccepted, IsLive, KeepsFacts, held}
use Rattle.select_map.specs.Views.{arity_at, tree_number}
use Rattle.audit_tree.specs.Kept.{has_arity}
use Rattle.spec_points.specs.Codes.{names_of}
use Rattle.spec_points.specs.Entries.{entry_of, pair_of}
use Rattle.spec_points.specs.Points.{PlacedCell, points}
use Rattle.spec_points.specs.RollUp.{rolled_up}
use Rattle.spec_points.specs.Weights.{count_in, weight}
use Rattle.spec_points.proofs.RollUps.{roll-up}
use Rattle.spec_points.proofs.Sums.{counts-all}
use Rattle.forest_audit.specs.Audited.{IsAudited, ViewAgrees, points_at, view_of}
use Rattle.forest_audit.specs.States.{AnswersState}
use Rattle.forest_audit.specs.Verdicts.{AreAudited, IsVerdict}
use Rattle.forest_audit.specs.declared.verdict.Verdict.{Verdict}
use Rattle.forest_audit.specs.declared.verdict.Verdict.TheVariants as verdicts
use Rattle.forest_audit.proofs.Apart.{one-verdict}
use Rattle.forest_audit.proofs.Places.{number-low}
use Rattle.forest_audit.proofs.Standing.{stored, tree-keeps, tree-points}

pairs-back : (ps : List PlacedCell) → map pair_of (map entry_of ps) ≡ ps
pairs-back [] = refl
pairs-back (p ∷ ps) = ap (λ (r : List PlacedCell). p ∷ r) (pairs-back ps)

module _ (schema : Schema) (lawful : IsSchema schema) (facts : List Fact) (accepted : AreAccepted schema facts) (body : Body) (files : Files) (live : IsLive schema body facts files) (names : Book) (named : HoldsNamesOf names facts) where
  -- the points that the side has of a view are those of the facts
  points-are : (v : ℕ) → v < length schema.views → points_at files body schema names v ≡ view_entries schema facts (view_of schema v)
  points-are v lt =
      ap (filter (has_arity (arity_at schema.views v))) (tree-points schema lawful facts accepted body files live (tree_number schema.views v) (number-low schema lawful v lt))
      ∙ view-of-tree schema lawful facts (stored schema lawful facts accepted body files live) v lt

  pairs-are : (v : ℕ) → v < length schema.views → map pair_of (points_at files body schema names v) ≡ points (measure_count schema) (view_of schema v) facts
  pairs-are v lt = ap (map pair_of) (points-are v lt) ∙ pairs-back (points (measure_count schema) (view_of schema v) facts)

  view-agrees : (v : ℕ) → v < length schema.views → ViewAgrees files body schema names v
  view-agrees v lt = record {
    adds = ap (weight count_in) (pairs-are v lt) ∙ (counts-all (names_of facts) (measure_count schema) (view_of schema v) facts ∙ sym live.at.body_is.facts);
    rolls = λ w low other all.
        ap (rolled_up (view_of schema w) (view_of schema v)) (pairs-are w low)
        ∙ (roll-up (names_of facts) (measure_count schema) (view_of schema w) (view_of schema v) facts all ∙ sym (pairs-are v lt));
  }

  facts-audited : IsAudited files body schema names
  facts-audited = record {
    trees = λ t lt. tree-keeps schema lawful facts accepted body files live t lt names named;
    views = view-agrees;
  }

-- files that keep facts are audited
pub kept-audited : (schema : Schema) (lawful : IsSchema schema) (facts : List Fact) (accepted : AreAccepted schema facts) (last : ℕ) (files : Files) → KeepsFacts schema facts last files → AreAudited files
kept-audited schema lawful facts accepted last files kept =
    let body : Body = kept.there.keeps.1 in
    let live : IsLiveBody body (files 0) = held_is_live (held kept.format schema facts last) kept.there.keeps.0 body files kept.there.keeps.2 in
    let is : IsLive schema body facts files = live_body schema facts last body files kept live in
    let opened : AreOpened body files schema (book_of schema facts) = kept_opened schema facts lawful accepted body files is in
    let named : HoldsNamesOf (book_of schema facts) facts = kept_names schema facts lawful accepted body files is (book_of schema facts) opened.read in
    record {
      body = body;
      schema = schema;
      names = book_of schema facts;
      opens = record { live = live; opened = opened };
      keeps = facts-audited schema lawful facts accepted body files is (book_of schema facts) named;
    }

-- so their verdict is that of what they keep
pub state-answered : (files : Files) (found : Verdict) → IsVerdict files found → AnswersState files found
state-answered files found told = record {
  nothing = λ none. one-verdict files found verdicts.Empty told none;
  kept = λ schema facts last lawful accepted kept. one-verdict files found verdicts.Yes told (kept-audited schema lawful facts accepted last files kept);
}
