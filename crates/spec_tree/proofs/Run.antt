-- A packer's run, page by page: five entries, of which one fills a leaf, and two children fill an inner page.
use Rattle.std.proofs.Common.{◌≡◌, ℕ, List, [], ◌∷◌, refl}
use Rattle.spec_tree.specs.Tree.{Page, Leaf, Inner, tree}
use Rattle.spec_tree.specs.Packing.{State, start, IsDone, takes_entry, writes_leaf, closes_full, closes_rest, PacksMany, none_yet, one_more}

-- a child is its page number
abbrev number : List ℕ → ℕ → ℕ
number es n = n

abbrev number_over : List ℕ → ℕ → ℕ
number_over cs n = n

abbrev arity : ℕ → ℕ
arity e = 1

abbrev room : ℕ → ℕ
room a = 1

-- each leaf as it comes, a full level above before the next leaf, and at the end the rest, which fills a level
abbrev pages : List (Page ℕ ℕ)
pages =
    Leaf (10 ∷ []) ∷ Leaf (20 ∷ []) ∷ Inner (7 ∷ 8 ∷ [])
    ∷ Leaf (30 ∷ []) ∷ Leaf (40 ∷ []) ∷ Inner (10 ∷ 11 ∷ []) ∷ Inner (9 ∷ 12 ∷ [])
    ∷ Leaf (50 ∷ []) ∷ Inner (14 ∷ []) ∷ Inner (15 ∷ []) ∷ Inner (13 ∷ 16 ∷ []) ∷ []

-- the top stands alone on the third level above the leaves
abbrev last : State ℕ ℕ
last = record { to_come = []; buffer = []; levels = [] ∷ [] ∷ [] ∷ (17 ∷ []) ∷ [] ∷ [] ∷ [] ∷ [] ∷ [] ∷ [] ∷ [] ∷ [] ∷ []; next_page = 18 }

pub run : PacksMany arity room 2 number number_over (start 7 (10 ∷ 20 ∷ 30 ∷ 40 ∷ 50 ∷ [])) pages last
run =
    one_more (one_more (one_more (one_more (one_more (one_more (one_more (one_more (one_more (one_more (one_more none_yet
    (takes_entry refl refl (writes_leaf refl refl)))
    (takes_entry refl refl (writes_leaf refl refl)))
    (closes_full refl))
    (takes_entry refl refl (writes_leaf refl refl)))
    (takes_entry refl refl (writes_leaf refl refl)))
    (closes_full refl))
    (closes_full refl))
    (takes_entry refl refl (writes_leaf refl refl)))
    (closes_rest refl refl))
    (closes_rest refl refl))
    (closes_full refl)

pub run_is_done : IsDone 2 last
run_is_done = record { to_come = refl; buffer = refl; full = refl; rest = refl }

-- they are the pages of the tree
pub run_pages : tree number room 2 7 ((1, 10 ∷ 20 ∷ 30 ∷ 40 ∷ 50 ∷ []) ∷ []) ≡ pages
run_pages = refl
