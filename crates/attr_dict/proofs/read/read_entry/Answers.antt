use Rattle.std.proofs.Common.{List, sym, refl, ap, ◌∙◌}
use Rattle.std.specs.Prelude.{if◌then◌else◌}
use Rattle.spec_points.specs.Codes.{Text}
use Rattle.attr_dict.specs.Book.{Book}
use Rattle.attr_dict.specs.Entering.{entered}
use Rattle.attr_dict.proofs.EntryTexts.{faulty-front}
use Rattle.attr_dict.proofs.read.read_entry.Goals as goal

pub returns-then-not-branch-clause-stop : goal.returns-then-not-branch-clause-stop
returns-then-not-branch-clause-stop c =
    (refl, faulty-front (record { kinds = c.args.kinds.now; names = c.args.names.now.items }) (c.in-Some.attr, c.in-Some.text.now) c.args.rest.now c.in-Some.tail.now c.in-Some.ensures (sym c.in_ok-enter-in-Some.ensures.could ∙ c.if-not-branch.true))

pub returns-else-not-branch-clause-read : goal.returns-else-not-branch-clause-read
returns-else-not-branch-clause-read c =
    let b : Book = record { kinds = c.args.kinds.now; names = c.args.names.now.items } in
    record {
      entry = (c.in-Some.attr, c.in-Some.text.now);
      are = c.in-Some.ensures;
      enter = sym c.in_ok-enter-in-Some.ensures.could ∙ c.if-not-branch.false;
      book = ap (λ (names : List (List Text)). record { kinds = c.args.kinds.now; names = names })
          (c.in_ok-enter-in-Some.ensures.names ∙ ap (λ could. if could then (entered b (c.in-Some.attr, c.in-Some.text.now)).names else c.args.names.now.items) c.if-not-branch.false);
    }
