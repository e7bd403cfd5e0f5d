-- Each move is the first of those that are left.
use Rattle.std.proofs.Common.{◌≡◌, ◌≤◌, ◌<◌, ◌+◌, ◌-◌, ℕ, zero, suc, Bool, true, false, List, [], ◌∷◌, ◌++◌, refl, ap, sym, ◌∙◌, arith}
use Rattle.std.specs.Prelude.{replicate, length}
use Rattle.spec_tree.specs.Moves.{Move, Read, Point, Write, carries, is_whole, listed, moves_left, pieces, reads, reads_in, taken, tree_moves, turns, written}

module _ (room : ℕ → ℕ) (k total : ℕ) where
  -- in the beginning all moves are left
  pub left-start : (old : List ℕ) (points : List (ℕ × Bool)) → moves_left room k total 0 0 old 0 0 0 0 points ≡ tree_moves room k total old points
  left-start old points = refl

  -- a full level is closed
  pub left-full : (due held : ℕ) (unread : List ℕ) (arity filled leaves pages : ℕ) (points : List (ℕ × Bool))
      → moves_left room k total (suc due) held unread arity filled leaves pages points ≡ Write ∷ moves_left room k total due held unread arity filled leaves (pages + 1) points
  left-full due held unread arity filled leaves pages points =
      let e : pages + suc due ≡ pages + 1 + due = omega arith in
      ap (λ (n : ℕ). Write ∷ (replicate due Write ++ listed room k total (is_whole room arity filled) filled leaves n (λ filled leaves pages. pieces room k total held unread arity filled leaves pages points))) e

  -- a leaf that is listed is written first, and closes levels
  listed-written : (filled leaves pages : ℕ) (held : ℕ) (unread : List ℕ) (arity : ℕ) (points : List (ℕ × Bool))
      → listed room k total true filled leaves pages (λ filled leaves pages. pieces room k total held unread arity filled leaves pages points)
      ≡ Write ∷ moves_left room k total (carries k 11 (suc leaves)) held unread arity 0 (suc leaves) (pages + 1) points
  listed-written filled leaves pages held unread arity points =
      let c = carries k 11 (suc leaves) in
      let e : pages + suc c ≡ pages + 1 + c = omega arith in
      ap (λ (n : ℕ). Write ∷ (replicate c Write ++ pieces room k total held unread arity 0 (suc leaves) n points)) e

  -- a full leaf is written
  pub left-leaf : (held : ℕ) (unread : List ℕ) (arity filled leaves pages : ℕ) (points : List (ℕ × Bool)) → is_whole room arity filled ≡ true
      → moves_left room k total 0 held unread arity filled leaves pages points ≡ Write ∷ moves_left room k total (carries k 11 (suc leaves)) held unread arity 0 (suc leaves) (pages + 1) points
  left-leaf held unread arity filled leaves pages points whole =
      let e : pages + 0 ≡ pages = omega arith in
      (λ i. listed room k total (whole i) filled leaves (e i) (λ filled leaves pages. pieces room k total held unread arity filled leaves pages points))
      ∙ listed-written filled leaves pages held unread arity points

  -- where no leaf is full the pieces are left
  pub left-open : (held : ℕ) (unread : List ℕ) (arity filled leaves pages : ℕ) (points : List (ℕ × Bool)) → is_whole room arity filled ≡ false
      → moves_left room k total 0 held unread arity filled leaves pages points ≡ pieces room k total held unread arity filled leaves pages points
  left-open held unread arity filled leaves pages points room_left =
      let e : pages + 0 ≡ pages = omega arith in
      (λ i. listed room k total (room_left i) filled leaves (e i) (λ filled leaves pages. pieces room k total held unread arity filled leaves pages points))

  -- a page is read
  pieces-read : (n : ℕ) (unread : List ℕ) (arity filled leaves pages : ℕ) (points : List (ℕ × Bool))
      → pieces room k total 0 (n ∷ unread) arity filled leaves pages points ≡ Read ∷ pieces room k total n unread arity filled leaves pages points
  pieces-read n unread arity filled leaves pages [] = refl
  pieces-read n unread arity filled leaves pages (p ∷ points) = refl

  pub left-read : (n : ℕ) (unread : List ℕ) (arity filled leaves pages : ℕ) (points : List (ℕ × Bool)) → is_whole room arity filled ≡ false
      → moves_left room k total 0 0 (n ∷ unread) arity filled leaves pages points ≡ Read ∷ moves_left room k total 0 n unread arity filled leaves pages points
  left-read n unread arity filled leaves pages points room_left =
      left-open 0 (n ∷ unread) arity filled leaves pages points room_left
      ∙ (pieces-read n unread arity filled leaves pages points ∙ ap (λ l. Read ∷ l) (sym (left-open n unread arity filled leaves pages points room_left)))

  -- where no page is needed, the piece of a point begins with its leaf or with it
  abbrev pub NeedsNone : ℕ → List ℕ → Type 0
  NeedsNone held unread = reads held unread ≡ 0

  abbrev go_on : ℕ → List ℕ → ℕ × Bool → List (ℕ × Bool) → ℕ → ℕ → ℕ → List Move
  go_on held unread p points filled leaves pages = Point ∷ listed room k total (is_whole room p.0 (suc filled)) (suc filled) leaves pages (λ filled leaves pages. pieces room k total (taken p.1 held) unread p.0 filled leaves pages points)

  piece-of : (held : ℕ) (unread : List ℕ) (arity filled leaves pages : ℕ) (p : ℕ × Bool) (points : List (ℕ × Bool)) → NeedsNone held unread
      → pieces room k total held unread arity filled leaves pages (p ∷ points) ≡ listed room k total (turns arity filled p.0) filled leaves pages (go_on held unread p points)
  piece-of (suc held) unread arity filled leaves pages p points none = refl
  piece-of zero [] arity filled leaves pages p points none = refl
  piece-of zero (n ∷ unread) arity filled leaves pages p points none = absurd (omega (arith, none))

  -- the leaf of another arity is written
  pub left-turn : (held : ℕ) (unread : List ℕ) (arity filled leaves pages : ℕ) (p : ℕ × Bool) (points : List (ℕ × Bool)) → is_whole room arity filled ≡ false → NeedsNone held unread → turns arity filled p.0 ≡ true
      → moves_left room k total 0 held unread arity filled leaves pages (p ∷ points) ≡ Write ∷ moves_left room k total (carries k 11 (suc leaves)) held unread arity 0 (suc leaves) (pages + 1) (p ∷ points)
  left-turn held unread arity filled leaves pages p points room_left none turn =
      let c = carries k 11 (suc leaves) in
      let e : pages + suc c ≡ pages + 1 + c = omega arith in
      left-open held unread arity filled leaves pages (p ∷ points) room_left
      ∙ (piece-of held unread arity filled leaves pages p points none
      ∙ ((λ i. listed room k total (turn i) filled leaves pages (go_on held unread p points))
      ∙ (ap (λ (n : ℕ). Write ∷ (replicate c Write ++ go_on held unread p points 0 (suc leaves) n)) e
      ∙ ap (λ l. Write ∷ (replicate c Write ++ l)) (sym (piece-of held unread arity 0 (suc leaves) (pages + 1 + c) p points none)))))

  -- a point is moved
  pub left-point : (held : ℕ) (unread : List ℕ) (arity filled leaves pages : ℕ) (p : ℕ × Bool) (points : List (ℕ × Bool)) → is_whole room arity filled ≡ false → NeedsNone held unread → turns arity filled p.0 ≡ false
      → moves_left room k total 0 held unread arity filled leaves pages (p ∷ points) ≡ Point ∷ moves_left room k total 0 (taken p.1 held) unread p.0 (suc filled) leaves pages points
  left-point held unread arity filled leaves pages p points room_left none same =
      let e : pages ≡ pages + 0 = omega arith in
      left-open held unread arity filled leaves pages (p ∷ points) room_left
      ∙ (piece-of held unread arity filled leaves pages p points none
      ∙ ((λ i. listed room k total (same i) filled leaves pages (go_on held unread p points))
      ∙ ap (λ (n : ℕ). Point ∷ listed room k total (is_whole room p.0 (suc filled)) (suc filled) leaves n (λ filled leaves pages. pieces room k total (taken p.1 held) unread p.0 filled leaves pages points)) e))

  -- writes alone are left
  writes-more : (n : ℕ) → 0 < n → replicate n Write ≡ Write ∷ replicate (n - 1) Write
  writes-more zero some = absurd (omega (arith, some))
  writes-more (suc n) some = let e : n ≡ suc n - 1 = omega arith in ap (λ (m : ℕ). Write ∷ replicate m Write) e

  writes-both : (m n : ℕ) → replicate m Write ++ replicate n Write ≡ replicate (m + n) Write
  writes-both zero n = let e : n ≡ 0 + n = omega arith in ap (λ (m : ℕ). replicate m Write) e
  writes-both (suc m) n = let e : suc (m + n) ≡ suc m + n = omega arith in ap (λ l. Write ∷ l) (writes-both m n) ∙ ap (λ (j : ℕ). replicate j Write) e

  -- the last leaf is written
  pub left-last : (arity filled leaves pages : ℕ) → is_whole room arity filled ≡ false → pages + 1 + carries k 11 (suc leaves) ≤ total
      → moves_left room k total 0 0 [] arity filled leaves pages [] ≡ Write ∷ moves_left room k total (carries k 11 (suc leaves)) 0 [] arity 0 (suc leaves) (pages + 1) []
  left-last arity filled leaves pages room_left within =
      let c = carries k 11 (suc leaves) in
      let e : total - pages - 1 ≡ c + (total - (pages + 1 + c)) = omega (arith, within) in
      left-open 0 [] arity filled leaves pages [] room_left
      ∙ (writes-more (total - pages) (omega (arith, within))
      ∙ (ap (λ (n : ℕ). Write ∷ replicate n Write) e ∙ ap (λ l. Write ∷ l) (sym (writes-both c (total - (pages + 1 + c))))))

  -- behind it the rest is closed
  pub left-rest : (due arity leaves pages : ℕ) → pages + 1 + due ≤ total
      → moves_left room k total 0 0 [] arity 0 leaves pages [] ≡ Write ∷ moves_left room k total due 0 [] arity 0 leaves (pages + 1) []
  left-rest due arity leaves pages within =
      let a : pages + 0 ≡ pages = omega arith in
      let e : total - pages - 1 ≡ due + (total - (pages + 1 + due)) = omega (arith, within) in
      ap (λ (n : ℕ). replicate (total - n) Write) a
      ∙ (writes-more (total - pages) (omega (arith, within))
      ∙ (ap (λ (n : ℕ). Write ∷ replicate n Write) e ∙ ap (λ l. Write ∷ l) (sym (writes-both due (total - (pages + 1 + due))))))

  -- nothing is left
  pub left-none : (arity leaves pages : ℕ) → pages ≡ total → moves_left room k total 0 0 [] arity 0 leaves pages [] ≡ []
  left-none arity leaves pages is = let e : total - (pages + 0) ≡ 0 = omega (arith, is) in ap (λ (n : ℕ). replicate n Write) e

  -- an empty leaf has no arity
  pub left-empty : (due held : ℕ) (unread : List ℕ) (arity other leaves pages : ℕ) (points : List (ℕ × Bool))
      → moves_left room k total due held unread arity 0 leaves pages points ≡ moves_left room k total due held unread other 0 leaves pages points
  left-empty due held unread arity other leaves pages [] = refl
  left-empty due held unread arity other leaves pages (p ∷ points) = refl

-- the writes among moves that come after others
pub written-append : (made more : List Move) → written (length (made ++ more)) (made ++ more) ≡ written (length made) made + written (length more) more
written-append [] more = omega arith
written-append (Write ∷ made) more = let rest : written (length (made ++ more)) (made ++ more) ≡ written (length made) made + written (length more) more = written-append made more in omega (arith, rest)
written-append (Read ∷ made) more = written-append made more
written-append (Point ∷ made) more = written-append made more

-- the writes among the first moves
pub written-front : (made more : List Move) → written (length made) (made ++ more) ≡ written (length made) made
written-front [] more = refl
written-front (Write ∷ made) more = ap (λ (n : ℕ). suc n) (written-front made more)
written-front (Read ∷ made) more = written-front made more
written-front (Point ∷ made) more = written-front made more

-- the moves of a small tree: six old points on three leaves and a top page, eleven points in all, with room for 73, 68 and 63 entries
abbrev room_is : ℕ → ℕ
room_is zero = 73
room_is (suc zero) = 68
room_is (suc (suc n)) = 63

pub seventeen : tree_moves room_is 170 4 (1 ∷ 2 ∷ 3 ∷ 0 ∷ []) ((0, true) ∷ (1, true) ∷ (1, true) ∷ (1, false) ∷ (2, true) ∷ (2, true) ∷ (2, true) ∷ (2, false) ∷ (2, false) ∷ [])
    ≡ Read ∷ Point ∷ Read ∷ Write ∷ Point ∷ Point ∷ Read ∷ Point ∷ Write ∷ Point ∷ Point ∷ Point ∷ Read ∷ Point ∷ Point ∷ Write ∷ Write ∷ []
seventeen = refl

-- with more moves there are no fewer writes
pub written-more : (m n : ℕ) (moves : List Move) → m ≤ n → written m moves ≤ written n moves
written-more zero n moves le = omega arith
written-more (suc m) zero moves le = absurd (omega (arith, le))
written-more (suc m) (suc n) [] le = omega arith
written-more (suc m) (suc n) (Write ∷ moves) le = let rest = written-more m n moves (omega (arith, le)) in omega (arith, rest)
written-more (suc m) (suc n) (Read ∷ moves) le = written-more m n moves (omega (arith, le))
written-more (suc m) (suc n) (Point ∷ moves) le = written-more m n moves (omega (arith, le))

-- the same of reads
pub reads-append : (made more : List Move) → reads_in (length (made ++ more)) (made ++ more) ≡ reads_in (length made) made + reads_in (length more) more
reads-append [] more = omega arith
reads-append (Read ∷ made) more = let rest : reads_in (length (made ++ more)) (made ++ more) ≡ reads_in (length made) made + reads_in (length more) more = reads-append made more in omega (arith, rest)
reads-append (Write ∷ made) more = reads-append made more
reads-append (Point ∷ made) more = reads-append made more

pub reads-front : (made more : List Move) → reads_in (length made) (made ++ more) ≡ reads_in (length made) made
reads-front [] more = refl
reads-front (Read ∷ made) more = ap (λ (n : ℕ). suc n) (reads-front made more)
reads-front (Write ∷ made) more = reads-front made more
reads-front (Point ∷ made) more = reads-front made more

pub reads-more : (m n : ℕ) (moves : List Move) → m ≤ n → reads_in m moves ≤ reads_in n moves
reads-more zero n moves le = omega arith
reads-more (suc m) zero moves le = absurd (omega (arith, le))
reads-more (suc m) (suc n) [] le = omega arith
reads-more (suc m) (suc n) (Read ∷ moves) le = let rest = reads-more m n moves (omega (arith, le)) in omega (arith, rest)
reads-more (suc m) (suc n) (Write ∷ moves) le = reads-more m n moves (omega (arith, le))
reads-more (suc m) (suc n) (Point ∷ moves) le = reads-more m n moves (omega (arith, le))

-- the writes behind a front, and within it
pub written-behind : (front more : List Move) (k : ℕ) → written (length front + k) (front ++ more) ≡ written (length front) front + written k more
written-behind [] more k = let e : length {A = Move} [] + k ≡ k = omega arith in ap (λ (n : ℕ). written n more) e ∙ omega arith
written-behind (Write ∷ front) more k = let e : suc (length front) + k ≡ suc (length front + k) = omega arith in ap (λ (n : ℕ). written n (Write ∷ (front ++ more))) e ∙ (let rest : written (length front + k) (front ++ more) ≡ written (length front) front + written k more = written-behind front more k in omega (arith, rest))
written-behind (Read ∷ front) more k = let e : suc (length front) + k ≡ suc (length front + k) = omega arith in ap (λ (n : ℕ). written n (Read ∷ (front ++ more))) e ∙ written-behind front more k
written-behind (Point ∷ front) more k = let e : suc (length front) + k ≡ suc (length front + k) = omega arith in ap (λ (n : ℕ). written n (Point ∷ (front ++ more))) e ∙ written-behind front more k

pub written-within : (k : ℕ) (front more : List Move) → k ≤ length front → written k (front ++ more) ≡ written k front
written-within zero front more le = refl
written-within (suc k) [] more le = absurd (omega (arith, le))
written-within (suc k) (Write ∷ front) more le = ap (λ (n : ℕ). suc n) (written-within k front more (omega (arith, le)))
written-within (suc k) (Read ∷ front) more le = written-within k front more (omega (arith, le))
written-within (suc k) (Point ∷ front) more le = written-within k front more (omega (arith, le))

pub written-past : (k : ℕ) (front more : List Move) → written k front ≤ written k (front ++ more)
written-past zero front more = omega arith
written-past (suc k) [] more = omega arith
written-past (suc k) (Write ∷ front) more = let rest = written-past k front more in omega (arith, rest)
written-past (suc k) (Read ∷ front) more = written-past k front more
written-past (suc k) (Point ∷ front) more = written-past k front more

-- the reads behind a front, and within it
pub reads-behind : (front more : List Move) (k : ℕ) → reads_in (length front + k) (front ++ more) ≡ reads_in (length front) front + reads_in k more
reads-behind [] more k = let e : length {A = Move} [] + k ≡ k = omega arith in ap (λ (n : ℕ). reads_in n more) e ∙ omega arith
reads-behind (Read ∷ front) more k = let e : suc (length front) + k ≡ suc (length front + k) = omega arith in ap (λ (n : ℕ). reads_in n (Read ∷ (front ++ more))) e ∙ (let rest : reads_in (length front + k) (front ++ more) ≡ reads_in (length front) front + reads_in k more = reads-behind front more k in omega (arith, rest))
reads-behind (Write ∷ front) more k = let e : suc (length front) + k ≡ suc (length front + k) = omega arith in ap (λ (n : ℕ). reads_in n (Write ∷ (front ++ more))) e ∙ reads-behind front more k
reads-behind (Point ∷ front) more k = let e : suc (length front) + k ≡ suc (length front + k) = omega arith in ap (λ (n : ℕ). reads_in n (Point ∷ (front ++ more))) e ∙ reads-behind front more k

pub reads-within : (k : ℕ) (front more : List Move) → k ≤ length front → reads_in k (front ++ more) ≡ reads_in k front
reads-within zero front more le = refl
reads-within (suc k) [] more le = absurd (omega (arith, le))
reads-within (suc k) (Read ∷ front) more le = ap (λ (n : ℕ). suc n) (reads-within k front more (omega (arith, le)))
reads-within (suc k) (Write ∷ front) more le = reads-within k front more (omega (arith, le))
reads-within (suc k) (Point ∷ front) more le = reads-within k front more (omega (arith, le))

pub reads-past : (k : ℕ) (front more : List Move) → reads_in k front ≤ reads_in k (front ++ more)
reads-past zero front more = omega arith
reads-past (suc k) [] more = omega arith
reads-past (suc k) (Read ∷ front) more = let rest = reads-past k front more in omega (arith, rest)
reads-past (suc k) (Write ∷ front) more = reads-past k front more
reads-past (suc k) (Point ∷ front) more = reads-past k front more
