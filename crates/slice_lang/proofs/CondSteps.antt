-- One turn of the loop over the words behind a condition.
use Rattle.std.proofs.Common.{◌≡◌, ◌-◌, ◌≤◌, true, List, [], ◌∷◌, ◌++◌, length, get_or, take, drop, Ok, refl, sym, ap, ◌∙◌, arith}
use Rattle.std.specs.Prelude.{codes}
use Rattle.std.proofs.lemmas.List.{take_all}
use Rattle.fact_model.specs.declared.slice.Cond.{Cond}
use Rattle.cube_schema.specs.declared.schema.Schema.{Schema}
use Rattle.slice_lang.specs.Parts.{Part, is_word}
use Rattle.slice_lang.specs.Reading.{cond_in, conds_in}

-- a condition behind an `and`
pub one_more : (s : Schema) (conds : List Cond) (words : List Part) (word next : Part) (cond : Cond) → 2 ≤ length words → word ≡ get_or words 0 word → next ≡ get_or words 1 next
    → is_word (codes "and") word ≡ true → cond_in s conds next ≡ Ok cond → conds_in s (conds ++ cond ∷ []) (take (length words - 2) (drop 2 words)) ≡ conds_in s conds words
one_more s conds [] word next cond two is is2 due read = absurd (omega arith)
one_more s conds (a ∷ []) word next cond two is is2 due read = absurd (omega arith)
one_more s conds (a ∷ (b ∷ more)) word next cond two is is2 due read =
    let due-here : is_word (codes "and") a ≡ true = sym (ap (is_word (codes "and")) is) ∙ due in
    let read-here : cond_in s conds b ≡ Ok cond = sym (ap (cond_in s conds) is2) ∙ read in
    ap (conds_in s (conds ++ cond ∷ [])) (take_all (length (a ∷ (b ∷ more)) - 2) more (omega arith))
    ∙ sym (rw (due-here, read-here) refl)
