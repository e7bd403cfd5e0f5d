use Rattle.std.proofs.Common.{◌≡◌, map, take}
use Rattle.cube_schema.specs.declared.Attr.{Attr}
use Rattle.attr_dict.proofs.dicts.kinds_of.Given as goal

-- the kinds of the attributes passed
abbrev pub invariant-loop-attr : goal.invariant-loop-attr
invariant-loop-attr l = l.kinds.items ≡ map (λ (attr : Attr). attr.kind) (take l.attr-index l.attrs)
