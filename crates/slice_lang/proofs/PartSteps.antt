-- How a text is cut into parts, byte by byte.
use Rattle.std.proofs.Common.{◌≡◌, ℕ, ◌+◌, ◌-◌, ◌<◌, ◌≤◌, Bool, true, false, not, cond, List, [], ◌∷◌, ◌++◌, length, take, drop, get_or, refl, sym, ◌∙◌, ap, append_assoc, append-nil, arith}
use Rattle.std.specs.Prelude.{◌==◌}
use Rattle.std.proofs.lemmas.List.{at_drop_more, at_drop_all, take_more, take_all, get_or-drop, length-drop}
use Rattle.std.proofs.lemmas.Bool.{and_parts, not-true}
use Rattle.slice_lang.specs.Parts.{Part, byte_of, onto, is_cut, within, parts_from, parts_of}

-- the bytes are put in front of the first part
abbrev pub joined : List ℕ → List Part → List Part
joined front [] = []
joined front (part ∷ more) = record { end = part.end; text = front ++ part.text } ∷ more

pub joined-nothing : (parts : List Part) → joined [] parts ≡ parts
joined-nothing [] = refl
joined-nothing (part ∷ more) = refl

pub joined-onto : (front : List ℕ) (byte : ℕ) (parts : List Part) → joined front (onto byte parts) ≡ joined (front ++ byte ∷ []) parts
joined-onto front byte [] = refl
joined-onto front byte (part ∷ more) = ap (λ text. record { end = part.end; text = text } ∷ more) (sym (append_assoc front (byte ∷ []) part.text))

-- the bytes from one place to another
abbrev pub between : List ℕ → ℕ → ℕ → List ℕ
between text start i = take (i - start) (drop start text)

between-more : (text : List ℕ) (start i : ℕ) → start ≤ i → i < length text → between text start (i + 1) ≡ between text start i ++ get_or text i 0 ∷ []
between-more text start i le lt =
    let next : i + 1 - start ≡ i - start + 1 = omega arith in
    let place : start + (i - start) ≡ i = omega arith in
    let room : i - start < length (drop start text) = omega (arith, length-drop start text) in
    ap (λ k. take k (drop start text)) next
    ∙ take_more (drop start text) (i - start) 0 room
    ∙ ap (λ b. between text start i ++ b ∷ []) (get_or-drop start text (i - start) 0 ∙ ap (λ k. get_or text k 0) place)

-- these parts, the one that has begun at `start`, and those from place i on are all parts
abbrev pub AreCut : ℕ → ℕ → List ℕ → List Part → ℕ → Bool → ℕ → Type 0
AreCut separator end text parts start quoted i = parts ++ joined (between text start i) (parts_from separator end quoted (drop i text)) ≡ parts_from separator end false text

module _ (separator end : ℕ) (text : List ℕ) (parts : List Part) (start : ℕ) (quoted : Bool) (i : ℕ) (low : i < length text) (so_far : AreCut separator end text parts start quoted i) where
  abbrev byte : ℕ
  byte = get_or text i 0

  -- at a separator outside quotes a part ends
  pub cut-here : is_cut separator quoted (get_or text i 0) ≡ true → AreCut separator end text (parts ++ record { end = byte_of end (drop i text); text = between text start i } ∷ []) (i + 1) quoted (i + 1)
  cut-here test =
      let outside : quoted ≡ false = not-true quoted (and_parts (byte == separator) (not quoted) test).1 in
      let rest = parts_from separator end false (drop (i + 1) text) in
      let here : Part = record { end = byte_of end (drop i text); text = between text start i } in
      let empty : i + 1 - (i + 1) ≡ 0 = omega arith in
      let cut : joined (between text start i) (parts_from separator end quoted (drop i text)) ≡ here ∷ rest =
      at_drop_more (λ t. joined (between text start i) (parts_from separator end quoted t)) text i 0 low
      ∙ ap (λ b. joined (between text start i) (cond b (record { end = byte_of end (byte ∷ drop (i + 1) text); text = [] } ∷ rest) (onto byte (parts_from separator end (within quoted byte) (drop (i + 1) text))))) test
      ∙ (λ k. record { end = sym (at_drop_more (byte_of end) text i 0 low) k; text = append-nil (between text start i) k } ∷ rest) in
      append_assoc parts (here ∷ []) (joined (between text (i + 1) (i + 1)) (parts_from separator end quoted (drop (i + 1) text)))
      ∙ ap (λ k. parts ++ here ∷ joined (take k (drop (i + 1) text)) (parts_from separator end quoted (drop (i + 1) text))) empty
      ∙ ap (λ ps. parts ++ here ∷ ps) (joined-nothing (parts_from separator end quoted (drop (i + 1) text)))
      ∙ ap (λ q. parts ++ here ∷ parts_from separator end q (drop (i + 1) text)) outside
      ∙ sym (ap (λ ps. parts ++ ps) cut)
      ∙ so_far

  -- at any other byte the part goes on
  pub cut-on : start ≤ i → is_cut separator quoted (get_or text i 0) ≡ false → AreCut separator end text parts start (within quoted (get_or text i 0)) (i + 1)
  cut-on le test =
      let rest = parts_from separator end (within quoted byte) (drop (i + 1) text) in
      let on : joined (between text start i) (parts_from separator end quoted (drop i text)) ≡ joined (between text start (i + 1)) rest =
      at_drop_more (λ t. joined (between text start i) (parts_from separator end quoted t)) text i 0 low
      ∙ ap (λ b. joined (between text start i) (cond b (record { end = byte_of end (byte ∷ drop (i + 1) text); text = [] } ∷ parts_from separator end false (drop (i + 1) text)) (onto byte rest))) test
      ∙ joined-onto (between text start i) byte rest
      ∙ ap (λ front. joined front rest) (sym (between-more text start i le low)) in
      sym (ap (λ ps. parts ++ ps) on) ∙ so_far

-- the last part ends with the text
pub cut-all : (separator end : ℕ) (text : List ℕ) (parts : List Part) (start : ℕ) (quoted : Bool) (i : ℕ) → length text ≤ i → AreCut separator end text parts start quoted i
    → parts ++ record { end = end; text = drop start text } ∷ [] ≡ parts_of separator end text
unfolding parts_of
cut-all separator end text parts start quoted i past so_far =
    let last : between text start i ≡ drop start text = take_all (i - start) (drop start text) (omega (arith, length-drop start text)) in
    let cut : joined (between text start i) (parts_from separator end quoted (drop i text)) ≡ record { end = end; text = drop start text } ∷ [] =
    at_drop_all (λ t. joined (between text start i) (parts_from separator end quoted t)) text i past
    ∙ ap (λ t. record { end = end; text = t } ∷ []) (append-nil (between text start i) ∙ last) in
    sym (ap (λ ps. parts ++ ps) cut) ∙ so_far
