-- The points of a batch in a tree, by whichever names: what the packer asks of them, and how many there are of each arity.
use Rattle.std.proofs.Common.{◌≡◌, ◌≤◌, ◌+◌, ℕ, List, [], Option, Some, None, length, get_or, refl, sym, ap, ◌∙◌, subst, arith}
use Rattle.fact_model.specs.declared.fact.Fact.{Fact}
use Rattle.cube_point.specs.declared.point.Entry.{Entry}
use Rattle.cube_schema.specs.declared.schema.Schema.{Schema}
use Rattle.cube_schema.specs.Lawful.{IsSchema}
use Rattle.cube_schema.specs.Kinds.{measure_count}
use Rattle.spec_points.specs.Points.{Names}
use Rattle.spec_forest.specs.Storable.{AreStorable}
use Rattle.spec_forest.proofs.Joined.{points-few}
use Rattle.select_map.specs.Views.{selected}
use Rattle.select_map.specs.Trees.{views_of}
use Rattle.delta_agg.specs.Trees.{named_tree}
use Rattle.delta_agg.proofs.Rising.{views-rise}
use Rattle.forest_root.specs.Forest.{shape_of}
use Rattle.tree_pack.specs.Packing.{AreTreePoints}
use Rattle.tree_pack.specs.Pages.{count_of, joined}
use Rattle.spec_forest.proofs.Trees.{joined-points, over, over-tree}
use Rattle.spec_forest.proofs.Counts.{slot_count, slots-count}
use Rattle.spec_forest.proofs.Selected.{few-measures, stand, tree, views-within}

module _ {format : ℕ} (schema : Schema) (lawful : IsSchema schema) (names : Names) (batch : List Fact) (storable : AreStorable format names (measure_count schema) batch) (t : ℕ) where
  abbrev delta : List Entry
  delta = named_tree names schema batch (tree schema lawful t)

  same : joined (over names schema batch (views_of schema.views (tree schema lawful t))) ≡ delta
  same = joined-points names schema batch (views_of schema.views (tree schema lawful t))

  -- they are points of the tree
  pub delta-points : AreTreePoints (shape_of format schema (tree schema lawful t)) delta
  delta-points = subst (AreTreePoints (shape_of format schema (tree schema lawful t))) same
      (over-tree names schema batch (shape_of format schema (tree schema lawful t)) refl refl (few-measures schema lawful) storable (views_of schema.views (tree schema lawful t))
      (views-rise schema (selected schema.views) lawful refl t) (views-within schema lawful t))

  counted : (arity : ℕ) → count_of arity delta ≡ slot_count names schema batch storable (get_or (tree schema lawful t).view_of arity None)
  counted arity =
      let zero-first : arity ≡ 0 + arity = omega arith in
      ap (count_of arity) (sym same)
      ∙ (ap (λ a. count_of a (joined (over names schema batch (views_of schema.views (tree schema lawful t))))) zero-first
      ∙ slots-count names schema batch storable 0 arity (tree schema lawful t).view_of (stand schema lawful t))

  -- there are no more of one arity than facts
  pub delta-few : (arity : ℕ) → count_of arity delta ≤ length batch
  delta-few arity = subst (λ n. n ≤ length batch) (sym (counted arity)) (by (get_or (tree schema lawful t).view_of arity None))
    where
      by : (o : Option ℕ) → slot_count names schema batch storable o ≤ length batch
      by None = omega arith
      by (Some v) = points-few names (measure_count schema) (get_or schema.views v []) batch

  -- and none of an arity without a view
  pub delta-none : (arity : ℕ) → get_or (tree schema lawful t).view_of arity None ≡ None → count_of arity delta ≡ 0
  delta-none arity none = counted arity ∙ ap (slot_count names schema batch storable) none
