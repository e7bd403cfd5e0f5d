-- How a text is cut into tokens.
use Rattle.std.proofs.Common.{◌≡◌, ℕ, zero, suc, ◌-◌, ◌<◌, ◌≤◌, false, cond, List, [], ◌∷◌, length, drop, get_or, refl, sym, ◌∙◌, ap, arith}
use Rattle.std.specs.Prelude.{◌==◌}
use Rattle.std.proofs.lemmas.Bool.{eqb-true, false_from_ne_true}
use Rattle.sql_lang.specs.declared.front.Front.{Front}
use Rattle.sql_lang.specs.Tokens.{front_of, placed, tokens_from}

-- bytes that belong to a token before are passed over
pub passed-over : (end n : ℕ) (text : List ℕ) → n ≤ length text → tokens_from end n text ≡ tokens_from end 0 (drop n text)
passed-over end zero text l = refl
passed-over end (suc n) [] l = absurd (omega arith)
passed-over end (suc n) (byte ∷ more) l = passed-over end n more (omega arith)

-- the token at the front, and those of what follows it
pub cut-one : (end : ℕ) (rest : List ℕ) (f : Front) → 1 ≤ length rest → (get_or rest 0 0 ≡ 32 → ⊥) → f ≡ front_of rest → 0 < f.len → f.len ≤ length rest
    → tokens_from end 0 rest ≡ placed end rest f ∷ tokens_from end 0 (drop f.len rest)
cut-one end [] f l other is some within = absurd (omega arith)
cut-one end (byte ∷ more) f l other is some within =
    let plain : (byte == 32) ≡ false = false_from_ne_true (byte == 32) (λ e. other (eqb-true byte 32 e)) in
    let back : suc (f.len - 1) ≡ f.len = omega arith in
    ap (λ b. cond b (tokens_from end 0 more) (placed end (byte ∷ more) (front_of (byte ∷ more)) ∷ tokens_from end ((front_of (byte ∷ more)).len - 1) more)) plain
    ∙ ap (λ (g : Front). placed end (byte ∷ more) g ∷ tokens_from end (g.len - 1) more) (sym is)
    ∙ ap (λ ts. placed end (byte ∷ more) f ∷ ts) (passed-over end (f.len - 1) more (omega arith) ∙ ap (λ k. tokens_from end 0 (drop k (byte ∷ more))) back)
