use Rattle.std.proofs.Common.{◌≡◌, ◌∙◌, [], ℕ, List, get_or, length, ap, arith}
use Rattle.std.proofs.lemmas.List.{get_or_default}
use Rattle.select_map.specs.Views.{View, arity_at, tree_number}
use Rattle.forest_audit.proofs.Agrees.{view-measures, view-read}
use Rattle.forest_audit.proofs.Places.{arity-low, number-low}
use Rattle.forest_audit.proofs.views.points_of.Goals as goal

pub bounds-trees-tree : goal.bounds-trees-tree
bounds-trees-tree c =
    let forest = c.args.store.now.forest in
    let number = c.tree_of-tree.ensures.number forest.schema forest.lawful forest.mapped c.requires.view in
    omega (arith, number, number-low forest.schema forest.lawful c.args.view c.requires.view, c.requires.shaped.many)

pub returns-clause-read : goal.returns-clause-read
returns-clause-read c = λ files read.
    let forest = c.args.store.now.forest in
    let views = forest.schema.views in
    let number = c.tree_of-tree.ensures.number forest.schema forest.lawful forest.mapped c.requires.view in
    let lt = number-low forest.schema forest.lawful c.args.view c.requires.view in
    let tree : c.index-trees-tree.result ≡ get_or c.args.trees.now (tree_number views c.args.view) []
    = c.index-trees-tree.is ∙ (get_or_default c.args.trees.now c.tree_of-tree.result c.index-trees-tree.result [] (omega (arith, number, lt, c.requires.shaped.many)) ∙ ap (λ (n : ℕ). get_or c.args.trees.now n []) number) in
    let arity : length c.as_slice-arity.result.now ≡ arity_at views c.args.view
    = ap (λ (l : List ℕ). length l) (c.as_slice-arity.ensures ∙ (c.index-as_slice-view.is ∙ (ap (λ (l : List View). get_or l c.args.view c.index-as_slice-view.result) c.as_slice.ensures ∙ get_or_default views c.args.view c.index-as_slice-view.result [] c.requires.view))) in
    view-read files forest.body forest.schema c.args.store.now.dicts c.args.trees.now c.requires.shaped read c.args.view c.view.result.now [] lt (arity-low forest.schema forest.lawful c.args.view c.requires.view)
    (c.view.ensures ∙ (λ i. get_or (tree i) (arity i) c.view.result.now))

pub returns-clause-measures : goal.returns-clause-measures
returns-clause-measures c =
    let forest = c.args.store.now.forest in
    let views = forest.schema.views in
    let number = c.tree_of-tree.ensures.number forest.schema forest.lawful forest.mapped c.requires.view in
    let lt = number-low forest.schema forest.lawful c.args.view c.requires.view in
    let tree : c.index-trees-tree.result ≡ get_or c.args.trees.now (tree_number views c.args.view) []
    = c.index-trees-tree.is ∙ (get_or_default c.args.trees.now c.tree_of-tree.result c.index-trees-tree.result [] (omega (arith, number, lt, c.requires.shaped.many)) ∙ ap (λ (n : ℕ). get_or c.args.trees.now n []) number) in
    let arity : length c.as_slice-arity.result.now ≡ arity_at views c.args.view
    = ap (λ (l : List ℕ). length l) (c.as_slice-arity.ensures ∙ (c.index-as_slice-view.is ∙ (ap (λ (l : List View). get_or l c.args.view c.index-as_slice-view.result) c.as_slice.ensures ∙ get_or_default views c.args.view c.index-as_slice-view.result [] c.requires.view))) in
    view-measures forest.body forest.schema c.args.trees.now c.requires.shaped c.args.view c.view.result.now [] lt (arity-low forest.schema forest.lawful c.args.view c.requires.view)
    (c.view.ensures ∙ (λ i. get_or (tree i) (arity i) c.view.result.now))
