use Rattle.std.proofs.Common.{[], ◌∷◌, drop, sym, ◌∙◌}
use Rattle.page_entry.proofs.Coordinates.{coordinates, eight, one-by-one}
use Rattle.page_entry.proofs.read.each_coordinate.Goals as goal

pub returns : goal.returns
returns c =
    let b = drop c.args.at c.args.bytes.now in
    (λ i. c.coordinate_in.ensures i ∷ c.coordinate_in-2.ensures i ∷ c.coordinate_in-3.ensures i ∷ c.coordinate_in-4.ensures i
    ∷ c.coordinate_in-5.ensures i ∷ c.coordinate_in-6.ensures i ∷ c.coordinate_in-7.ensures i ∷ c.coordinate_in-8.ensures i ∷ [])
    ∙ sym (one-by-one (coordinates c.args.wide c.args.arity b) (eight c.args.wide c.args.arity b c.requires.arity))
