use Rattle.std.proofs.Common.{rules, ◌≡◌, ◌<◌, ◌+◌, ◌∙◌, List, length, ap, arith, subst}
use Rattle.site_core.specs.Disk.{Files}
use Rattle.site_core.proofs.Run.{Rests-then}
use Rattle.select_map.specs.declared.mapping.Mapping.{Mapping}
use Rattle.select_map.specs.declared.mapping.Tree.{Tree}
use Rattle.forest_audit.specs.Audited.{trees_of}
use Rattle.forest_audit.specs.Reading.{IsAdded, IsReadTree, TellsTree}
use Rattle.forest_audit.proofs.Added.{read-more, shaped-more, told-first}
use Rattle.forest_audit.proofs.Places.{all-pages, pages-more}
use Rattle.forest_audit.proofs.trees.read_trees.Goals as goal

pub returns-in-Err-clause-broken : goal.returns-in-Err-clause-broken
returns-in-Err-clause-broken g c = λ tells.
    let forest = c.args.store.now.forest in
    let inv = c.loop-tree.invariant in
    let lt : c.loop-tree.tree < length (trees_of forest.schema) = omega (arith, ap (λ (m : Mapping). length m.trees) forest.mapped, ap (λ (l : List Tree). length l) c.as_slice-tree-end.ensures) in
    let same : (g.T.Site.disk c.loop-tree.site).files ≡ (g.T.Site.disk c.args.site.now).files = (inv.disk tells).files in
    told-first (g.T.Site.disk c.args.site.now).files forest.body forest.schema c.args.store.now.dicts c.loop-tree.tree c.loop-tree.trees.items lt (inv.read tells) c.in-Err.stop
    (subst (λ (f : Files). TellsTree f forest.body forest.schema c.args.store.now.dicts c.loop-tree.tree c.in-Err.stop) same (c.in-Err.ensures.broken tells))

pub returns-in-Err-clause-looks : goal.returns-in-Err-clause-looks
returns-in-Err-clause-looks g c =
    let forest = c.args.store.now.forest in
    let inv = c.loop-tree.invariant in
    let looks = c.in-Err.ensures.looks in
    let lt : c.loop-tree.tree < length (trees_of forest.schema) = omega (arith, ap (λ (m : Mapping). length m.trees) forest.mapped, ap (λ (l : List Tree). length l) c.as_slice-tree-end.ensures) in
    record {
      disk = λ tells. Rests-then (g.T.Site.disk c.args.site.now) (g.T.Site.disk c.loop-tree.site) (g.T.Site.disk c.add_tree.new.site) (inv.disk tells) (looks.disk tells);
      cause = search rules;
      told_faults = looks.told_faults ∙ inv.told_faults;
      reads = omega (arith, inv.reads, looks.reads, pages-more forest.body forest.schema c.loop-tree.tree lt, all-pages forest.body forest.schema (c.loop-tree.tree + 1));
      writes = looks.writes ∙ inv.writes;
    }

pub loop-tree-preserved : goal.loop-tree-preserved
loop-tree-preserved g c =
    let forest = c.args.store.now.forest in
    let inv = c.loop-tree.invariant in
    let now = c.in-Ok.ensures in
    let looks = now.looks in
    let lt : c.loop-tree.tree < length (trees_of forest.schema) = omega (arith, ap (λ (m : Mapping). length m.trees) forest.mapped, ap (λ (l : List Tree). length l) c.as_slice-tree-end.ensures) in
    record {
      read = λ tells.
          let same : (g.T.Site.disk c.loop-tree.site).files ≡ (g.T.Site.disk c.args.site.now).files = (inv.disk tells).files in
          read-more (g.T.Site.disk c.args.site.now).files forest.body forest.schema c.args.store.now.dicts c.loop-tree.tree c.loop-tree.trees.items c.add_tree.new.trees.items (inv.read tells)
          (subst (λ (f : Files). IsAdded c.loop-tree.trees.items c.add_tree.new.trees.items (IsReadTree f forest.body forest.schema c.args.store.now.dicts c.loop-tree.tree)) same (now.read tells));
      shaped = shaped-more forest.body forest.schema c.loop-tree.tree c.loop-tree.trees.items c.add_tree.new.trees.items inv.shaped now.shaped;
      disk = λ tells. Rests-then (g.T.Site.disk c.args.site.now) (g.T.Site.disk c.loop-tree.site) (g.T.Site.disk c.add_tree.new.site) (inv.disk tells) (looks.disk tells);
      faults = search rules;
      told_faults = looks.told_faults ∙ inv.told_faults;
      reads = omega (arith, inv.reads, looks.reads, pages-more forest.body forest.schema c.loop-tree.tree lt);
      writes = looks.writes ∙ inv.writes;
    }
