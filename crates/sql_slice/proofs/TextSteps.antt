-- Texts looked at one by one.
use Rattle.std.proofs.Common.{◌≡◌, ℕ, ◌+◌, ◌<◌, ◌≤◌, not, ◌||◌, List, [], ◌∷◌, map, drop, length, get_or, refl, arith}
use Rattle.std.specs.Str.{bytes_eq}
use Rattle.std.proofs.lemmas.List.{at_drop_more}
use denote.Bor.{Bor}
use Rattle.sql_slice.specs.Plans.{do_differ, has_other}

-- what the texts are
abbrev pub shown : List (Bor (List ℕ)) → List (List ℕ)
shown texts = map (λ text. text.now) texts

pub other-step : (text : List ℕ) (texts : List (Bor (List ℕ))) (i : ℕ) (d : Bor (List ℕ)) → i < length texts
    → has_other text (shown (drop i texts)) ≡ (not (bytes_eq text (get_or texts i d).now) || has_other text (shown (drop (i + 1) texts)))
other-step text texts i d low = at_drop_more (λ ts. has_other text (shown ts)) texts i d low

pub differ_first : (texts : List (Bor (List ℕ))) (d : Bor (List ℕ)) → 1 ≤ length texts → has_other (get_or texts 0 d).now (map (λ text. text.now) texts) ≡ do_differ (map (λ text. text.now) texts)
differ_first [] d l = absurd (omega arith)
differ_first (text ∷ texts) d l = refl
