-- The levels of a packer by their numbers of children, and the leaves among the pages written.
use Rattle.std.specs.Prelude.{ℕ, zero, suc, ◌+◌, ◌/◌, ◌%◌, true, false, ◌==◌, List, [], ◌∷◌}
use Rattle.spec_tree.specs.Tree.{Page, Leaf, Inner}

-- how many children each level holds after n leaves, lowest level first
abbrev pub digits : ℕ → ℕ → ℕ → List ℕ
digits k zero n = []
digits k (suc d) n = (n % k) ∷ digits k d (n / k)

-- the levels by their numbers of children, after all full ones are closed; `carry` children come to the lowest
abbrev pub settled : ℕ → ℕ → List ℕ → List ℕ
settled k carry [] = []
settled k carry (n ∷ ns) = elim (carry + n == k) [ true ↦ 0 ∷ settled k 1 ns | false ↦ (carry + n) ∷ settled k 0 ns ]

-- how many of these pages are leaves
abbrev pub leaf_count : {E C : Type 0} → List (Page E C) → ℕ
leaf_count [] = 0
leaf_count (Leaf entries ∷ pages) = 1 + leaf_count pages
leaf_count (Inner children ∷ pages) = leaf_count pages
