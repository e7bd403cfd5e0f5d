use Rattle.std.proofs.Common.{◌≡◌, ◌+◌, ℕ, sym, ap, ◌∙◌, arith, Some}
use Rattle.select_map.specs.Views.{arity_at}
use Rattle.select_map.proofs.Finds.{arity-read, found-here, passed-other, passed-same}
use Rattle.select_map.proofs.Counts.{count-yes, count-no}
use Rattle.select_map.proofs.selection.view_in.Goals as goal
use Rattle.select_map.proofs.selection.view_in.Goals.{then-as_slice-arity+else-before-tree, else-as_slice-arity}

pub returns-then-before-tree : goal.returns-then-before-tree
returns-then-before-tree c =
    let views = c.args.views.now in
    let k = c.loop-view.view-index in
    let read = arity-read views c.as_slice-view-items.result.now k c.view-item.result c.as_slice.result.now c.as_slice-view-items.ensures c.loop-view-test.true c.view-item.is c.as_slice.ensures in
    ap (λ (n : ℕ). Some n) c.loop-view.invariant.number
    ∙ found-here views c.args.tree c.args.arity k read.0 (read.1 ∙ c.if-as_slice-arity.true) (sym c.loop-view.invariant.before ∙ c.if-before-tree.true) c.loop-view.invariant.none

pub loop-view-preserved : goal.loop-view-preserved
loop-view-preserved c =
    let views = c.args.views.now in
    let k = c.loop-view.view-index in
    let read = arity-read views c.as_slice-view-items.result.now k c.view-item.result c.as_slice.result.now c.as_slice-view-items.ensures c.loop-view-test.true c.view-item.is c.as_slice.ensures in
    elim c.if-as_slice-arity.branch [
      | then-as_slice-arity+else-before-tree w ↦
          (let is : arity_at views k ≡ c.args.arity = read.1 ∙ w.if-as_slice-arity.true in
          record {
            number = omega arith;
            before = w.before-is ∙ ap (λ n. n + 1) c.loop-view.invariant.before ∙ sym (count-yes views c.args.arity k read.0 is);
            none = passed-same views c.args.tree c.args.arity k read.0 is (λ e. w.if-before-tree.false (c.loop-view.invariant.before ∙ e)) ∙ c.loop-view.invariant.none;
          })
      | else-as_slice-arity w ↦
          (let apart = λ (e : arity_at views k ≡ c.args.arity). w.if-as_slice-arity.false (sym read.1 ∙ e) in
          record {
            number = omega arith;
            before = w.before-is ∙ c.loop-view.invariant.before ∙ sym (count-no views c.args.arity k read.0 apart);
            none = passed-other views c.args.tree c.args.arity k read.0 apart ∙ c.loop-view.invariant.none;
          })
    ]
