use Rattle.std.proofs.Common.{◌≡◌, map, take}
use Rattle.cube_schema.specs.declared.Attr.{Attr}
use Rattle.attr_dict.specs.Book.{none_yet}
use Rattle.attr_dict.proofs.dicts.no_names.Given as goal

-- no names for each attribute passed
abbrev pub invariant-loop-attr : goal.invariant-loop-attr
invariant-loop-attr l = l.names.items ≡ map (λ (attr : Attr). none_yet) (take l._attr-index l.attrs)
