use Rattle.std.proofs.Common.{◌≡◌, true, take, drop}
use Rattle.std.specs.Prelude.{nat_lt}
use Rattle.std.specs.List.{list_all}
use Rattle.be_numbers.specs.Formats.{many}
use Rattle.be_numbers.specs.Numbers.{number}
use Rattle.page_entry.specs.Bytes.{width}
use Rattle.page_entry.proofs.order.are_coordinates_positive.Given as goal

abbrev pub invariant-loop-dimension : goal.invariant-loop-dimension
invariant-loop-dimension l = list_all (λ n. nat_lt 0 n) (take l.dimension (many (number (width l.wide)) (width l.wide) l.arity (drop l.at l.page))) ≡ true
