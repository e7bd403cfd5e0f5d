use Rattle.std.proofs.Common.{◌≡◌, ◌-◌, List, [], ◌∷◌, ◌++◌, length, take, drop, ap, sym, ◌∙◌, arith}
use Rattle.std.proofs.lemmas.List.{take_all, length-drop}
use Rattle.slice_lang.specs.Parts.{Part, byte_of}
use Rattle.slice_lang.proofs.PartSteps.{between, cut-here, cut-on, cut-all}
use Rattle.slice_lang.proofs.parts.parts_of.Goals.{then-is_cut+in_ok-push, else-is_cut}
use Rattle.slice_lang.proofs.parts.parts_of.Goals as goal

pub loop-at-preserved : goal.loop-at-preserved
loop-at-preserved c =
    let i = c.loop-at.at in
    let text = c.args.text.now in
    let start = c.loop-at.start in
    let old : List Part = c.loop-at.parts.items in
    let quoted = c.loop-at.quoted in
    elim c.if-is_cut.branch [
      | then-is_cut+in_ok-push w ↦ (let whole : take (length text - i) (drop i text) ≡ drop i text = take_all (length text - i) (drop i text) (omega (arith, length-drop i text)) in
          let pushed : c.if-is_cut.parts.items ≡ old ++ record { end = byte_of c.args.end (drop i text); text = between text start i } ∷ [] =
          ap (λ v. v.items) w.parts-is ∙ w.in_ok-push.ensures.items
          ∙ ap (λ e. old ++ record { end = e; text = between text start i } ∷ []) (w.byte_of.ensures ∙ ap (byte_of c.args.end) whole) in
          record {
            begun = omega (arith, w.start-is);
            cut = rw (pushed, w.start-is, w.quoted-is)
                (cut-here c.args.separator c.args.end text old start quoted i c.loop-at-test.true c.loop-at.invariant.cut (sym c.is_cut.ensures ∙ w.if-is_cut.true));
          })
      | else-is_cut w ↦ record {
        begun = omega (arith, w.start-is);
        cut = rw (ap (λ v. v.items) w.parts-is, w.start-is, w.quoted-is ∙ w.within-quoted.ensures)
            (cut-on c.args.separator c.args.end text old start quoted i c.loop-at-test.true c.loop-at.invariant.cut c.loop-at.invariant.begun (sym c.is_cut.ensures ∙ w.if-is_cut.false));
      }
    ]

pub returns : goal.returns
returns c =
    let text = c.args.text.now in
    let start = c.loop-at.start in
    let old : List Part = c.loop-at.parts.items in
    let whole : take (length text - start) (drop start text) ≡ drop start text = take_all (length text - start) (drop start text) (omega (arith, length-drop start text)) in
    c.in_ok-push-2.ensures.items
    ∙ ap (λ t. old ++ record { end = c.args.end; text = t } ∷ []) whole
    ∙ cut-all c.args.separator c.args.end text old start c.loop-at.quoted c.loop-at.at c.loop-at-test.false c.loop-at.invariant.cut
