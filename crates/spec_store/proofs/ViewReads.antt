-- The points of a view are those of its arity in its tree, and a view is taken out of the views of a schema.
use Rattle.std.proofs.Common.{◌≡◌, ◌<◌, ℕ, List, [], filter, length, get_or, sym, ap, ◌∙◌, subst}
use Rattle.std.specs.Prelude.{◌==◌}
use Rattle.std.proofs.lemmas.List.{get_or_default}
use Rattle.fact_model.specs.declared.fact.Fact.{Fact}
use Rattle.cube_point.specs.declared.point.Entry.{Entry}
use Rattle.select_map.specs.declared.mapping.Mapping.{Mapping}
use Rattle.select_map.specs.Views.{View, tree_number}
use Rattle.select_map.specs.Selection.{tree_of}
use Rattle.forest_root.specs.declared.forest.Forest.{Forest}
use Rattle.spec_forest.specs.Forest.{tree_entries, view_entries}
use Rattle.spec_forest.proofs.Selected.{view-of-tree}
use Rattle.spec_store.specs.Held.{AreAccepted}
use Rattle.spec_store.proofs.Places.{selection}
use Rattle.page_fmt.specs.Formats.{wide_format}
use Rattle.spec_store.proofs.Storable.{any-wide, storable}

-- what is taken out of the views at a number is the view of this number
pub view-taken : (views taken : List View) (v : ℕ) (element view : View) → v < length views → taken ≡ views → element ≡ get_or taken v element → view ≡ element
    → view ≡ get_or views v []
view-taken views taken v element view low same is lent =
    lent ∙ (is ∙ (ap (λ (vs : List View). get_or vs v element) same ∙ sym (get_or_default views v [] element low)))

module _ (forest : Forest) (v : ℕ) (lt : v < length forest.schema.views) where
  abbrev view : View
  view = get_or forest.schema.views v []

  abbrev own : ℕ
  own = tree_number forest.schema.views v

  -- its tree is there
  pub in-tree : (t : ℕ) → t ≡ own → t < length forest.mapping.trees
  in-tree t is = subst (λ n. n < length forest.mapping.trees) (sym is) ((selection forest).valid.within v lt)

  -- over facts they are the view's points
  pub points-view : (accepted : List Fact) → AreAccepted forest.schema accepted → (es : List Entry) → es ≡ tree_entries forest.schema accepted (tree_of forest.mapping own)
      → filter (λ (e : Entry). e.point.arity == length view) es ≡ view_entries forest.schema accepted view
  points-view accepted fine es is = ap (filter (λ (e : Entry). e.point.arity == length view)) (is ∙ ap (λ (m : Mapping). tree_entries forest.schema accepted (tree_of m own)) forest.mapped)
      ∙ view-of-tree forest.schema forest.lawful accepted (storable forest.schema accepted forest.lawful fine wide_format (any-wide accepted)) v lt
