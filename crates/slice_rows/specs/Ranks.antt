-- Numbers that tell the order of values.
use Rattle.std.specs.Prelude.{◌≡◌, ◌<◌, ◌≤◌, ℕ, ◌+◌, ◌*◌, Bool, List, [], ◌∷◌, Contains, filter, length, map, nat_eq, unwrap_or}
use Rattle.std.specs.List.{range_with_len}
use Rattle.std.specs.Ordering.{is_lt, nat_cmp}
use Rattle.indexmap.specs.IndexMap.{get}
use Rattle.indexmap.specs.IndexSet.{index_set_len}
use Rattle.fact_model.specs.declared.fact.Value.{Value}
use Rattle.fact_model.specs.declared.fact.Value.TheVariants.{Word, Number}
use Rattle.fact_model.specs.Value.{value_cmp}
use Rattle.cube_point.specs.declared.point.Entry.{Entry}
use Rattle.spec_points.specs.Answer.{coordinate}
use Rattle.spec_points.specs.Codes.{Text}
use Rattle.spec_points.specs.Points.{View}
use Rattle.attr_dict.specs.Book.{Book}
use Rattle.slice_rows.specs.Grouped.{value_at_code}
use Rattle.slice_rows.specs.declared.value_ranks.Ranks.{Ranks}

-- how many of the values come before this one
abbrev pub lesser : List Value → Value → ℕ
lesser vs v = length (filter (λ w. is_lt (value_cmp w v)) vs)

-- the codes of so many names are among these
abbrev pub HasCodes : ℕ → List ℕ → Type 0
HasCodes count codes = (c : ℕ) → 0 < c → c ≤ count → Contains codes c

module _ (b : Book) (a : ℕ) where
  -- the values that codes stand for
  abbrev pub values_of : List ℕ → List Value
  values_of codes = map (value_at_code b a) codes

  -- the first code stands for a lesser value
  abbrev pub comes_first : ℕ → ℕ → Bool
  comes_first c d = is_lt (value_cmp (value_at_code b a c) (value_at_code b a d))

  -- the rank of a code among codes: how many of them stand for lesser values
  abbrev pub rank_among : List ℕ → ℕ → ℕ
  rank_among codes c = lesser (values_of codes) (value_at_code b a c)

  -- the code is one of these, where it stands for a text
  abbrev pub IsKnown : List ℕ → ℕ → Type 0
  IsKnown codes c = (t : Text) → value_at_code b a c ≡ Word t → Contains codes c

-- the rank of a code that stands for the value: that of a text as it is kept, and a number behind the texts
abbrev pub rank_for : Ranks → Value → ℕ → ℕ
rank_for r (Word t) c = unwrap_or (get nat_eq r.texts c) 0
rank_for r (Number n) c = index_set_len r.codes + n

abbrev pub rank_by : Book → Ranks → ℕ → ℕ
rank_by b r c = rank_for r (value_at_code b r.attr c) c

-- ranks stand to each other as the values at the points do
abbrev pub TellOrder : Book → View → Ranks → List Entry → Type 0
TellOrder b view r es = (d e : Entry) → Contains es d → Contains es e
    → nat_cmp (rank_by b r (coordinate view d.point.at r.attr)) (rank_by b r (coordinate view e.point.at r.attr))
    ≡ value_cmp (value_at_code b r.attr (coordinate view d.point.at r.attr)) (value_at_code b r.attr (coordinate view e.point.at r.attr))

-- the rank of the point's value is one of the ranks that are counted
abbrev pub IsBelow : Book → View → Entry → Ranks → Type 0
IsBelow b view e r = rank_by b r (coordinate view e.point.at r.attr) < r.count

-- the first ranks are kept
abbrev pub KeepsRanks : Book → Ranks → Type 0
KeepsRanks b r = (n : ℕ) × (r.firsts.items ≡ map (rank_by b r) (range_with_len 0 n))

-- how many numbers the ranks make, where each is a digit
abbrev pub room : List Ranks → ℕ
room [] = 1
room (r ∷ rs) = r.count * room rs

-- the ranks of a place's values behind a number, each of them a digit more
abbrev pub rank_behind : Book → View → List ℕ → List Ranks → ℕ → ℕ
rank_behind b view place [] n = n
rank_behind b view place (r ∷ rs) n = rank_behind b view place rs (n * r.count + rank_by b r (coordinate view place r.attr))
