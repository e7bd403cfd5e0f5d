use Rattle.std.proofs.Common.{ap, map, ◌∙◌}
use Rattle.cube_schema.specs.declared.Attr.{Attr}
use Rattle.attr_dict.specs.Book.{none_yet}
use Rattle.attr_dict.proofs.Books.{book-made}
use Rattle.attr_dict.proofs.dicts.Dicts.new.Goals as goal

pub invariant_of-result : goal.invariant_of-result
invariant_of-result c =
    book-made c.args.schema.now c.in_ok-kinds.kinds.items c.in_ok-names.names.items
    (c.in_ok-kinds.ensures ∙ ap (map (λ (attr : Attr). attr.kind)) c.as_slice.ensures)
    (c.in_ok-names.ensures ∙ ap (map (λ (attr : Attr). none_yet)) c.as_slice-2.ensures) c.requires
