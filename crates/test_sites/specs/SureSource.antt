-- What is known of a source of which no pull fails.
use Rattle.std.specs.Prelude.{ℕ, List, drop}
use Rattle.test_sites.specs.declared.sure_source.SureSource.{SureSource}

-- the bytes that are left
abbrev pub sure_left : SureSource → List ℕ
sure_left source = drop source.taken source.bytes

-- the most bytes that a pull gives
abbrev pub sure_piece : SureSource → ℕ
sure_piece source = source.piece
