-- A line of which no more is kept says as much as the whole line.
use Rattle.std.proofs.Common.{◌≡◌, ◌<◌, ◌≤◌, ℕ, ◌+◌, ◌-◌, ◌==◌, Bool, true, false, cond, List, [], ◌∷◌, ◌++◌, length, take, drop, refl, sym, ◌∙◌, ap, arith, nat_lt, nat_eq, codes, Option, Some, None, option_to_list, length-append, length-drop, length-take-le, slice_index, if◌then◌else◌, ⊎_elim}
use Rattle.std.proofs.lemmas.Bool.{cases_lt}
use Rattle.std.proofs.lemmas.Bool.Decides.{nat_tests}
use Rattle.std.proofs.lemmas.List.{take-append-le, drop-append-le, take_all}
use Rattle.std.specs.Cmp.Lexicographic.{unequal}
use Rattle.std.specs.Str.Lines.{strip_carriage_return}
use Rattle.script_lang.specs.declared.command.Block.{Block as Content}
use Rattle.script_lang.specs.declared.command.Block.TheVariants.{Whole, Long}
use Rattle.script_lang.specs.declared.command.Command.{Command}
use Rattle.script_lang.specs.declared.command.Command.TheVariants as says
use Rattle.script_lang.specs.declared.said.Opening.{Opening}
use Rattle.script_lang.specs.declared.said.Said.TheVariants.{Says}
use Rattle.script_lang.specs.declared.reader.Inside.{Inside}
use Rattle.script_lang.specs.declared.reader.Inside.TheVariants.{Nothing, Block, LongBlock}
use Rattle.script_lang.specs.Said.{said_by, said_in, is_end}
use Rattle.script_lang.specs.Script.{Begun, Line, after_line, after_saying, commands_in, lines_from, with_line, ended}
use Rattle.script_lang.specs.Place.{Place, IsReader, block_in, place_in, kept, most, limit_of}
use Rattle.script_lang.specs.Reading.{GoesOnAs, commands_from}

-- ---- what a line that is too long does

long_line : (line : Line) → 65537 ≤ length line → said_by line ≡ Says says.LongLine
long_line line long =
    let is : nat_lt 65536 (length line) ≡ true = grind (arith, nat_tests, long) in
    ap (λ t. cond t (Says says.LongLine) (said_in (strip_carriage_return line))) is

stripped : (line : Line) → 5 ≤ length line → 4 ≤ length (strip_carriage_return line)
stripped line long =
    elim (slice_index line (length line - 1) == 13) as (λ t. 4 ≤ length (if t then take (length line - 1) line else line)) [
      | true ↦ omega (arith, long, length-take-le (length line - 1) line (omega arith))
      | false ↦ omega (arith, long)
    ]

no_end : (line : Line) → 5 ≤ length line → is_end line ≡ false
no_end line long = unequal nat_eq (strip_carriage_return line) (codes "end") (λ (same : length (strip_carriage_return line) ≡ 3). omega (arith, same, stripped line long))

long_block : (bytes : List ℕ) (line : Line) → 67108864 ≤ length bytes + length line → with_line (Whole bytes) line ≡ Long
long_block bytes line long =
    let text = bytes ++ line ++ 10 ∷ [] in
    let is : nat_lt 67108864 (length text) ≡ true = grind (arith, nat_tests, long, length-append bytes line, length-append (bytes ++ line) (10 ∷ [])) in
    ap (λ t. cond t Long (Whole text)) is

-- the block where a line ends that is too long
abbrev behind : Option Begun → Option Begun
behind None = None
behind (Some block) = Some (record { what = block.what; content = Long })

abbrev said_behind : Option Begun → Option Command
said_behind None = Some says.LongLine
said_behind (Some block) = None

-- a block and a line of which as much is there as is kept
record IsPast (block : Option Begun) (line : Line) : Type 0 where
  limit : kept block ≤ 67108864
  past : most block ≤ kept block + length line

after : (block : Option Begun) (line : Line) → IsPast block line → after_line block line ≡ (said_behind block, behind block)
after None line p = ap after_saying (long_line line (omega (arith, p.past)))
after (Some block) line p = after_in block.what block.content line p
  where
    after_in : (what : Opening) (content : Content) (line : Line) → IsPast (Some (record { what = what; content = content })) line
        → after_line (Some (record { what = what; content = content })) line ≡ (None, Some (record { what = what; content = Long }))
    after_in what (Whole bytes) line p =
        ap (λ t. cond t (Some (ended (record { what = what; content = Whole bytes })), None) (None, Some (record { what = what; content = with_line (Whole bytes) line })))
        (no_end line (omega (arith, p.limit, p.past)))
        ∙ ap (λ c. (None, Some (record { what = what; content = c }))) (long_block bytes line (omega (arith, p.limit, p.past)))
    after_in what Long line p =
        ap (λ t. cond t (Some (ended (record { what = what; content = Long })), None) (None, Some (record { what = what; content = Long })))
        (no_end line (omega (arith, p.past)))

begun : (block : Option Begun) (line : Line) → IsPast block line → (length line == 0) ≡ false
begun None line p = grind (arith, nat_tests, p.past)
begun (Some block) line p = begun_in block.what block.content line p
  where
    begun_in : (what : Opening) (content : Content) (line : Line) → IsPast (Some (record { what = what; content = content })) line
        → (length line == 0) ≡ false
    begun_in what (Whole bytes) line p = grind (arith, nat_tests, p.limit, p.past)
    begun_in what Long line p = grind (arith, nat_tests, p.past)

longer : (block : Option Begun) (line : Line) (b : ℕ) → IsPast block line → IsPast block (line ++ b ∷ [])
longer block line b p = record { limit = p.limit; past = omega (arith, p.past, length-append line (b ∷ [])) }

-- whatever follows, two such lines say the same
same : (over : Bool) (block : Option Begun) (one two : Line) (bytes : List ℕ) → IsPast block one → IsPast block two
    → commands_in over block (lines_from over one bytes) ≡ commands_in over block (lines_from over two bytes)
same over block one two [] p q = ends over
  where
    one_line : (line : Line) → IsPast block line
        → commands_in true block (lines_from true line []) ≡ option_to_list (said_behind block) ++ commands_in true (behind block) []
    one_line line p =
        ap (λ t. commands_in true block (cond t [] (line ∷ []))) (begun block line p)
        ∙ ap (λ (r : Option Command × Option Begun). option_to_list r.0 ++ commands_in true r.1 []) (after block line p)

    ends : (over : Bool) → commands_in over block (lines_from over one []) ≡ commands_in over block (lines_from over two [])
    ends true = one_line one p ∙ sym (one_line two q)
    ends false = refl
same over block one two (b ∷ bs) p q =
    elim (b == 10) as (λ t. commands_in over block (cond t (one ∷ lines_from over [] bs) (lines_from over (one ++ b ∷ []) bs))
    ≡ commands_in over block (cond t (two ∷ lines_from over [] bs) (lines_from over (two ++ b ∷ []) bs))) [
      | true ↦ ap (λ (r : Option Command × Option Begun). option_to_list r.0 ++ commands_in over r.1 (lines_from over [] bs))
          (after block one p ∙ sym (after block two q))
      | false ↦ same over block (one ++ b ∷ []) (two ++ b ∷ []) bs (longer block one b p) (longer block two b q)
    ]

-- ---- what is kept of a line

module _ (inside : Inside) (start : ℕ) (text bytes : List ℕ) (reader : IsReader inside start text) where
  abbrev open_block : Option Begun
  open_block = block_in inside start text

  block_stays : (more : List ℕ) → block_in inside start (text ++ more) ≡ open_block
  block_stays more = stays inside
    where
      stays : (i : Inside) → block_in i start (text ++ more) ≡ block_in i start text
      stays Nothing = refl
      stays (Block what) = ap (λ w. Some (record { what = what; content = Whole w })) (take-append-le start text more reader.within)
      stays (LongBlock what) = refl

  holds : kept open_block ≡ start
  holds = held inside reader.limit
    where
      held : (i : Inside) → start ≤ limit_of i → kept (block_in i start text) ≡ start
      held Nothing low = omega (arith, low)
      held (Block what) low = length-take-le start text reader.within
      held (LongBlock what) low = omega (arith, low)

  low : start ≤ 67108864
  low = of inside reader.limit
    where
      of : (i : Inside) → start ≤ limit_of i → start ≤ 67108864
      of Nothing low = omega (arith, low)
      of (Block what) low = low
      of (LongBlock what) low = omega (arith, low)

  is_past : (more : List ℕ) → most open_block ≤ length text + length more → IsPast open_block (drop start text ++ more)
  is_past more past = record {
    limit = omega (arith, holds, low);
    past = omega (arith, past, holds, reader.within, length-append (drop start text) more, length-drop start text);
  }

  -- as much is kept as tells what the whole line says
  goes_on : (room : ℕ) → room ≡ most open_block - length text
      → GoesOnAs (place_in inside start (text ++ take room bytes)) (record { block = open_block; line = drop start text ++ bytes })
  goes_on room is over more =
      (λ i. commands_in over (block_stays (take room bytes) i) (lines_from over (drop-append-le start text (take room bytes) reader.within i) more))
      ∙ ⊎_elim
      (λ (lt : room < length bytes).
      let long : length (take room bytes) ≡ room = length-take-le room bytes (omega arith) in
      same over open_block (drop start text ++ take room bytes) (drop start text ++ bytes) more
      (is_past (take room bytes) (omega (arith, is, long))) (is_past bytes (omega (arith, is, lt))))
      (λ (le : length bytes ≤ room). ap (λ (l : List ℕ). commands_in over open_block (lines_from over (drop start text ++ l) more)) (take_all room bytes le))
      (cases_lt room (length bytes))

  most_stays : most (block_in inside 0 []) ≡ most open_block
  most_stays = stays inside
    where
      stays : (i : Inside) → most (block_in i 0 []) ≡ most (block_in i start text)
      stays Nothing = refl
      stays (Block what) = refl
      stays (LongBlock what) = refl

  pub extended : (now : Place) (most_is len room : ℕ) (front kept : List ℕ) → place_in inside start text ≡ now
      → most_is ≡ most (block_in inside 0 []) → len ≡ length text → room ≡ most_is - len
      → front ≡ take room bytes → kept ≡ text ++ front
      → GoesOnAs (place_in inside start kept) (record { block = now.block; line = now.line ++ bytes })
  extended now most_is len room front kept view most_of len_of room_of front_of kept_of over more =
      ap (λ (t : List ℕ). commands_from over (place_in inside start t) more) (kept_of ∙ ap (λ (l : List ℕ). text ++ l) front_of)
      ∙ goes_on room (omega (arith, most_of, most_stays, len_of, room_of)) over more
      ∙ ap (λ (p : Place). commands_from over (record { block = p.block; line = p.line ++ bytes }) more) view
