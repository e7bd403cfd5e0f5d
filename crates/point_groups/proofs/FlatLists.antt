-- Points of which the first are closed.
use Rattle.std.proofs.Common.{◌≡◌, ℕ, zero, suc, ◌+◌, ◌-◌, ◌<◌, ◌≤◌, List, [], ◌∷◌, ◌++◌, map, length, get_or, set, refl, sym, ◌∙◌, ap, arith}
use Rattle.std.proofs.Math.Seq.{get_or-append_right}
use Rattle.std.proofs.lemmas.List.{get_or_append_left, length-append, length-map, map-append, map-set, set-append_left, set-append_right}
use Rattle.cube_point.specs.declared.point.Entry.{Entry}
use Rattle.spec_points.specs.Entries.{both}
use Rattle.point_groups.specs.Bare.{bare, nowhere}
use Rattle.point_groups.specs.Kept.{place_of}

bare-at : (rs : List Entry) (k : ℕ) → bare (get_or rs k nowhere) ≡ get_or (map bare rs) k nowhere
bare-at [] k = refl
bare-at (r ∷ rs) zero = refl
bare-at (r ∷ rs) (suc k) = bare-at rs k

module _ (cs rs es : List Entry) (are : cs ++ map bare rs ≡ es) where
  pub all-long : length es ≡ length cs + length rs
  all-long = omega (arith, ap length are, length-append cs (map bare rs), length-map rs bare)

  pub in-closed : (n : ℕ) → n < length cs → get_or cs n nowhere ≡ get_or es n nowhere
  in-closed n low = sym (get_or_append_left cs (map bare rs) nowhere n low) ∙ ap (λ (l : List Entry). get_or l n nowhere) are

  pub in-recent : (n k : ℕ) → length cs ≤ n → k ≡ n - length cs → bare (get_or rs k nowhere) ≡ get_or es n nowhere
  in-recent n k past is =
      bare-at rs k
      ∙ (ap (λ (j : ℕ). get_or (map bare rs) j nowhere) is
      ∙ (sym (get_or-append_right cs (map bare rs) n nowhere past) ∙ ap (λ (l : List Entry). get_or l n nowhere) are))

  -- a cell was joined to that of a closed point
  pub joined-closed : (now : List Entry) (e : Entry) (n : ℕ) → n < length cs → now ≡ set cs n (both (get_or cs n nowhere) e)
      → now ++ map bare rs ≡ set es n (both (get_or es n nowhere) e)
  joined-closed now e n low is =
      ap (λ (l : List Entry). l ++ map bare rs) is
      ∙ (sym (set-append_left cs (map bare rs) n (both (get_or cs n nowhere) e) low)
      ∙ (λ i. set (are i) n (both (in-closed n low i) e)))

  -- and to that of another
  pub joined-recent : (now : List Entry) (e : Entry) (n k : ℕ) → length cs ≤ n → k ≡ n - length cs → now ≡ set rs k (both (get_or rs k nowhere) e)
      → cs ++ map bare now ≡ set es n (both (get_or es n nowhere) e)
  joined-recent now e n k past at is =
      let joined = both (get_or rs k nowhere) e in
      ap (λ (l : List Entry). cs ++ map bare l) is
      ∙ (ap (λ (l : List Entry). cs ++ l) (map-set bare rs k joined)
      ∙ (ap (λ (j : ℕ). cs ++ set (map bare rs) j (bare joined)) at
      ∙ (sym (set-append_right cs (map bare rs) (length cs) n (bare joined) refl past)
      ∙ (λ i. set (are i) n (both (in-recent n k past at i) e)))))

  pub closed-places : (now : List Entry) → map place_of now ≡ map place_of cs → map place_of (now ++ map bare rs) ≡ map place_of es
  closed-places now is =
      map-append place_of now (map bare rs)
      ∙ (ap (λ (l : List (List ℕ)). l ++ map place_of (map bare rs)) is
      ∙ (sym (map-append place_of cs (map bare rs)) ∙ ap (map place_of) are))

  pub recent-places : (now : List Entry) → map place_of now ≡ map place_of rs → map place_of (cs ++ map bare now) ≡ map place_of es
  recent-places now is =
      map-append place_of cs (map bare now)
      ∙ (ap (λ (l : List (List ℕ)). map place_of cs ++ l) (bare-places now ∙ (is ∙ sym (bare-places rs)))
      ∙ (sym (map-append place_of cs (map bare rs)) ∙ ap (map place_of) are))
    where
      bare-places : (l : List Entry) → map place_of (map bare l) ≡ map place_of l
      bare-places [] = refl
      bare-places (e ∷ l) = ap (λ (ps : List (List ℕ)). e.point.at ∷ ps) (bare-places l)
