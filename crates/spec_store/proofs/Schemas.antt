-- The numbers and the texts of lawful schemas.
use Rattle.std.proofs.Common.{◌≡◌, ◌≤◌, ◌<◌, ℕ, true, List, [], get_or, length, arith}
use Rattle.std.specs.Prelude.{◌&&◌, nat_eq, nat_le, nat_lt}
use Rattle.std.specs.List.{list_all}
use Rattle.std.proofs.lemmas.Bool.{and_parts, leb-true, ltb-true}
use Rattle.cube_schema.specs.declared.schema.Schema.{Schema}
use Rattle.cube_schema.specs.Lawful.{IsSchema, is_view}
use Rattle.spec_points.proofs.Members.{All-from_every, all-every}
use Rattle.cube_schema.specs.Reading.{are_distinct}
use Rattle.cube_schema.specs.Writing.{canonical}
use Rattle.cube_schema.proofs.Lengths.{canonical_short, canonical_some}

module _ (schema : Schema) (lawful : IsSchema schema) where
  pub some_measures : 1 ≤ length schema.measures
  some_measures = ltb-true 0 (length schema.measures) (and_parts (nat_lt 0 (length schema.measures)) (nat_le (length schema.measures) 4) lawful.some_measures).0

  pub few_measures : length schema.measures ≤ 4
  few_measures = leb-true (length schema.measures) 4 (and_parts (nat_lt 0 (length schema.measures)) (nat_le (length schema.measures) 4) lawful.some_measures).1

  pub some_views : 1 ≤ length schema.views
  some_views = ltb-true 0 (length schema.views) (and_parts (nat_lt 0 (length schema.views)) (nat_le (length schema.views) 32) lawful.some_views).0

  pub few_views : length schema.views ≤ 32
  few_views = leb-true (length schema.views) 32 (and_parts (nat_lt 0 (length schema.views)) (nat_le (length schema.views) 32) lawful.some_views).1

  -- a view has at most eight attributes
  pub view-short : (v : ℕ) → v < length schema.views → length (get_or schema.views v []) < 9
  view-short v lt =
      let each = All-from_every (λ view. is_view (length schema.attrs) view ≡ true) schema.views (all-every (is_view (length schema.attrs)) schema.views lawful.views) v [] lt in
      let view : List ℕ = get_or schema.views v [] in
      omega (arith, leb-true (length view) 8 (and_parts (list_all (λ a. nat_lt a (length schema.attrs)) view && are_distinct nat_eq view) (nat_le (length view) 8) each).1)

  pub text_some : 0 < length (canonical schema)
  text_some = canonical_some schema lawful

  pub text_short : length (canonical schema) ≤ 9668
  text_short = omega (arith, canonical_short schema lawful, few_views)
