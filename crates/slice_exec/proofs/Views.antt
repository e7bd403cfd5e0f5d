-- The attributes of a view that covers a slice.
use Rattle.std.proofs.Common.{◌≡◌, ◌<◌, ◌≤◌, ◌∙◌, ℕ, true, [], get_or, length, sym, ap, subst, arith}
use Rattle.std.specs.Prelude.{◌&&◌, nat_eq, nat_le, nat_lt}
use Rattle.std.specs.List.{All, list_all}
use Rattle.std.proofs.lemmas.Bool.{and_parts, ltb-true}
use Rattle.std.proofs.lemmas.List.{length-map}
use Rattle.fact_model.specs.declared.slice.Slice.{Slice}
use Rattle.cube_schema.specs.declared.schema.Attr.{Attr}
use Rattle.cube_schema.specs.Lawful.{is_view}
use Rattle.cube_schema.specs.Reading.{are_distinct}
use Rattle.spec_points.specs.Agree.{among}
use Rattle.spec_points.specs.Points.{View}
use Rattle.spec_points.proofs.Members.{All-from_every, all-every, every-map}
use Rattle.forest_root.specs.declared.forest.Store.{Store}
use Rattle.spec_store.proofs.Schemas.{view-short}
use Rattle.view_route.specs.Routes.{IsCovering}
use Rattle.view_route.proofs.Covering.{covering}

module _ (store : Store) (slice : Slice) (view : ℕ) (covers : IsCovering store.forest.schema.views slice view) (attrs : View) (are : attrs ≡ get_or store.forest.schema.views view []) where
  -- they are eight at most
  pub few : length attrs ≤ 8
  few = let short = view-short store.forest.schema store.forest.lawful view covers.0 in omega (arith, short, ap (λ (v : View). length v) are)

  -- each of them has names
  pub declared : All (λ a. a < length store.dicts.kinds) attrs
  declared =
      let schema = store.forest.schema in
      let own = get_or schema.views view [] in
      let each = All-from_every (λ v. is_view (length schema.attrs) v ≡ true) schema.views (all-every (is_view (length schema.attrs)) schema.views store.forest.lawful.views) view [] covers.0 in
      let low = and_parts (list_all (λ a. nat_lt a (length schema.attrs)) own) (are_distinct nat_eq own) (and_parts (list_all (λ a. nat_lt a (length schema.attrs)) own && are_distinct nat_eq own) (nat_le (length own) 8) each).0 in
      let as_many : length store.dicts.kinds ≡ length schema.attrs = ap length store.kinds ∙ length-map schema.attrs (λ (attr : Attr). attr.kind) in
      subst (All (λ a. a < length store.dicts.kinds)) (sym are)
      (All-from_every (λ a. a < length store.dicts.kinds) own
      (every-map (λ a. nat_lt a (length schema.attrs) ≡ true) (λ a. a < length store.dicts.kinds) (λ a is. omega (arith, as_many, ltb-true a (length schema.attrs) is)) own
      (all-every (λ a. nat_lt a (length schema.attrs)) own low.0)))

  -- the grouped ones are among them
  pub grouped : All (λ a. among attrs a ≡ true) slice.group
  grouped = subst (λ (v : View). All (λ a. among v a ≡ true) slice.group) (sym are) (covering (get_or store.forest.schema.views view []) slice covers.1).group
