-- Trees of small pages, packed by another program at random.
use Rattle.std.specs.Prelude.{◌≡◌, ◌/◌, ℕ, zero, suc, List, [], ◌∷◌, refl}
use Rattle.spec_tree.specs.Tree.{Page, Leaf, Inner, tree}
use Rattle.spec_tree.specs.Counts.{tree_pages}
use Rattle.spec_tree.specs.Leaves.{leaf_runs}

-- a leaf as its entries, an inner page as its children's page numbers, behind a mark
abbrev shape : List (Page ℕ ℕ) → List (List ℕ)
shape [] = []
shape (Leaf es ∷ pages) = (0 ∷ es) ∷ shape pages
shape (Inner cs ∷ pages) = (1 ∷ cs) ∷ shape pages

-- a child is its page number
abbrev number : List ℕ → ℕ → ℕ
number es n = n

-- two entries of arity 0 fill a leaf, three of arity 1, and one of any other
abbrev room : ℕ → ℕ
room zero = 2
room (suc zero) = 3
room (suc (suc a)) = 1

-- the arity of an entry: its thousands
abbrev arity : ℕ → ℕ
arity e = e / 1000

pub pages_0 : shape (tree number room 3 0 ((0, 29 ∷ 33 ∷ 38 ∷ []) ∷ (1, 1012 ∷ 1031 ∷ 1033 ∷ []) ∷ (2, 2007 ∷ 2010 ∷ 2012 ∷ 2020 ∷ 2029 ∷ []) ∷ []))
    ≡ (0 ∷ 29 ∷ 33 ∷ []) ∷ (0 ∷ 38 ∷ []) ∷ (0 ∷ 1012 ∷ 1031 ∷ 1033 ∷ []) ∷ (1 ∷ 0 ∷ 1 ∷ 2 ∷ []) ∷ (0 ∷ 2007 ∷ []) ∷ (0 ∷ 2010 ∷ []) ∷ (0 ∷ 2012 ∷ []) ∷ (1 ∷ 4 ∷ 5 ∷ 6 ∷ []) ∷ (0 ∷ 2020 ∷ []) ∷ (0 ∷ 2029 ∷ []) ∷ (1 ∷ 8 ∷ 9 ∷ []) ∷ (1 ∷ 3 ∷ 7 ∷ 10 ∷ []) ∷ []
pages_0 = refl

pub count_0 : tree_pages room 3 ((0, 3) ∷ (1, 3) ∷ (2, 5) ∷ []) ≡ 12
count_0 = refl

pub leaves_0 : leaf_runs arity room [] (29 ∷ 33 ∷ 38 ∷ 1012 ∷ 1031 ∷ 1033 ∷ 2007 ∷ 2010 ∷ 2012 ∷ 2020 ∷ 2029 ∷ [])
    ≡ (29 ∷ 33 ∷ []) ∷ (38 ∷ []) ∷ (1012 ∷ 1031 ∷ 1033 ∷ []) ∷ (2007 ∷ []) ∷ (2010 ∷ []) ∷ (2012 ∷ []) ∷ (2020 ∷ []) ∷ (2029 ∷ []) ∷ []
leaves_0 = refl

pub pages_1 : shape (tree number room 2 1 ((0, 1 ∷ 11 ∷ 29 ∷ []) ∷ (1, 1002 ∷ 1003 ∷ 1004 ∷ 1005 ∷ 1013 ∷ 1016 ∷ 1021 ∷ 1030 ∷ []) ∷ (2, 2013 ∷ 2034 ∷ 2038 ∷ []) ∷ []))
    ≡ (0 ∷ 1 ∷ 11 ∷ []) ∷ (0 ∷ 29 ∷ []) ∷ (1 ∷ 1 ∷ 2 ∷ []) ∷ (0 ∷ 1002 ∷ 1003 ∷ 1004 ∷ []) ∷ (0 ∷ 1005 ∷ 1013 ∷ 1016 ∷ []) ∷ (1 ∷ 4 ∷ 5 ∷ []) ∷ (1 ∷ 3 ∷ 6 ∷ []) ∷ (0 ∷ 1021 ∷ 1030 ∷ []) ∷ (0 ∷ 2013 ∷ []) ∷ (1 ∷ 8 ∷ 9 ∷ []) ∷ (0 ∷ 2034 ∷ []) ∷ (0 ∷ 2038 ∷ []) ∷ (1 ∷ 11 ∷ 12 ∷ []) ∷ (1 ∷ 10 ∷ 13 ∷ []) ∷ (1 ∷ 7 ∷ 14 ∷ []) ∷ []
pages_1 = refl

pub count_1 : tree_pages room 2 ((0, 3) ∷ (1, 8) ∷ (2, 3) ∷ []) ≡ 15
count_1 = refl

pub leaves_1 : leaf_runs arity room [] (1 ∷ 11 ∷ 29 ∷ 1002 ∷ 1003 ∷ 1004 ∷ 1005 ∷ 1013 ∷ 1016 ∷ 1021 ∷ 1030 ∷ 2013 ∷ 2034 ∷ 2038 ∷ [])
    ≡ (1 ∷ 11 ∷ []) ∷ (29 ∷ []) ∷ (1002 ∷ 1003 ∷ 1004 ∷ []) ∷ (1005 ∷ 1013 ∷ 1016 ∷ []) ∷ (1021 ∷ 1030 ∷ []) ∷ (2013 ∷ []) ∷ (2034 ∷ []) ∷ (2038 ∷ []) ∷ []
leaves_1 = refl

pub pages_2 : shape (tree number room 3 2 ((0, 1 ∷ 6 ∷ 30 ∷ []) ∷ (1, 1006 ∷ 1017 ∷ 1027 ∷ 1036 ∷ []) ∷ (2, 2015 ∷ 2033 ∷ []) ∷ []))
    ≡ (0 ∷ 1 ∷ 6 ∷ []) ∷ (0 ∷ 30 ∷ []) ∷ (0 ∷ 1006 ∷ 1017 ∷ 1027 ∷ []) ∷ (1 ∷ 2 ∷ 3 ∷ 4 ∷ []) ∷ (0 ∷ 1036 ∷ []) ∷ (0 ∷ 2015 ∷ []) ∷ (0 ∷ 2033 ∷ []) ∷ (1 ∷ 6 ∷ 7 ∷ 8 ∷ []) ∷ (1 ∷ 5 ∷ 9 ∷ []) ∷ []
pages_2 = refl

pub count_2 : tree_pages room 3 ((0, 3) ∷ (1, 4) ∷ (2, 2) ∷ []) ≡ 9
count_2 = refl

pub leaves_2 : leaf_runs arity room [] (1 ∷ 6 ∷ 30 ∷ 1006 ∷ 1017 ∷ 1027 ∷ 1036 ∷ 2015 ∷ 2033 ∷ [])
    ≡ (1 ∷ 6 ∷ []) ∷ (30 ∷ []) ∷ (1006 ∷ 1017 ∷ 1027 ∷ []) ∷ (1036 ∷ []) ∷ (2015 ∷ []) ∷ (2033 ∷ []) ∷ []
leaves_2 = refl

pub pages_3 : shape (tree number room 2 3 ((0, []) ∷ (1, 1001 ∷ 1002 ∷ 1005 ∷ 1007 ∷ 1019 ∷ 1025 ∷ 1026 ∷ 1037 ∷ 1039 ∷ []) ∷ (2, 2004 ∷ []) ∷ []))
    ≡ (0 ∷ 1001 ∷ 1002 ∷ 1005 ∷ []) ∷ (0 ∷ 1007 ∷ 1019 ∷ 1025 ∷ []) ∷ (1 ∷ 3 ∷ 4 ∷ []) ∷ (0 ∷ 1026 ∷ 1037 ∷ 1039 ∷ []) ∷ (0 ∷ 2004 ∷ []) ∷ (1 ∷ 6 ∷ 7 ∷ []) ∷ (1 ∷ 5 ∷ 8 ∷ []) ∷ []
pages_3 = refl

pub count_3 : tree_pages room 2 ((0, 0) ∷ (1, 9) ∷ (2, 1) ∷ []) ≡ 7
count_3 = refl

pub leaves_3 : leaf_runs arity room [] (1001 ∷ 1002 ∷ 1005 ∷ 1007 ∷ 1019 ∷ 1025 ∷ 1026 ∷ 1037 ∷ 1039 ∷ 2004 ∷ [])
    ≡ (1001 ∷ 1002 ∷ 1005 ∷ []) ∷ (1007 ∷ 1019 ∷ 1025 ∷ []) ∷ (1026 ∷ 1037 ∷ 1039 ∷ []) ∷ (2004 ∷ []) ∷ []
leaves_3 = refl

pub pages_4 : shape (tree number room 3 3 ((0, 5 ∷ 27 ∷ 37 ∷ []) ∷ (1, 1006 ∷ 1018 ∷ 1022 ∷ []) ∷ (2, 2001 ∷ 2022 ∷ []) ∷ []))
    ≡ (0 ∷ 5 ∷ 27 ∷ []) ∷ (0 ∷ 37 ∷ []) ∷ (0 ∷ 1006 ∷ 1018 ∷ 1022 ∷ []) ∷ (1 ∷ 3 ∷ 4 ∷ 5 ∷ []) ∷ (0 ∷ 2001 ∷ []) ∷ (0 ∷ 2022 ∷ []) ∷ (1 ∷ 7 ∷ 8 ∷ []) ∷ (1 ∷ 6 ∷ 9 ∷ []) ∷ []
pages_4 = refl

pub count_4 : tree_pages room 3 ((0, 3) ∷ (1, 3) ∷ (2, 2) ∷ []) ≡ 8
count_4 = refl

pub leaves_4 : leaf_runs arity room [] (5 ∷ 27 ∷ 37 ∷ 1006 ∷ 1018 ∷ 1022 ∷ 2001 ∷ 2022 ∷ [])
    ≡ (5 ∷ 27 ∷ []) ∷ (37 ∷ []) ∷ (1006 ∷ 1018 ∷ 1022 ∷ []) ∷ (2001 ∷ []) ∷ (2022 ∷ []) ∷ []
leaves_4 = refl
