use Rattle.std.proofs.Common.{◌∙◌, ◌++◌, ◌∷◌, [], Vec, Global, ℕ, sym, ap}
use Rattle.delta_agg.specs.Keys.{key_begins}
use Rattle.delta_agg.proofs.Cuts.{filter-yes, filter-no}
use Rattle.delta_agg.proofs.keys.cuts_of.Goals as goal
use Rattle.delta_agg.proofs.keys.cuts_of.Goals.{then-begins+in_ok-push, else-begins}

pub loop-at-preserved : goal.loop-at-preserved
loop-at-preserved g c = λ past.
    let at = c.loop-at.at in
    let test = key_begins g.K.RowKey.same past c.args.keys.now in
    elim c.if-begins.branch [
      | then-begins+in_ok-push w ↦
          ap (λ (v : Vec ℕ Global). v.items) w.cuts-is
          ∙ (w.in_ok-push.ensures.items ∙ (ap (λ front. front ++ at ∷ []) (c.loop-at.invariant past) ∙ sym (filter-yes test at (sym (c.begins.ensures past) ∙ w.if-begins.true))))
      | else-begins w ↦ ap (λ (v : Vec ℕ Global). v.items) w.cuts-is ∙ (c.loop-at.invariant past ∙ sym (filter-no test at (sym (c.begins.ensures past) ∙ w.if-begins.false)))
    ]
