-- Points of one arity, each in its place.
use Rattle.std.proofs.Common.{◌≡◌, ◌<◌, ◌+◌, ℕ, true, List, [], ◌∷◌, ◌++◌, length, take, drop, get_or, ap, sym, ◌∙◌}
use Rattle.std.proofs.lemmas.List.{take-append-drop, take_more}
use Rattle.cube_point.specs.declared.point.Entry.{Entry}
use Rattle.leaf_pack.specs.Kept.{comes_after}
use Rattle.page_entry.specs.Entries.{ascend, entry_before}
use Rattle.tree_pack.proofs.Runs.{ascend-front}
use Rattle.tree_pack.proofs.Taken.{comes-next}

-- each point comes after those before it
pub after-front : (es : List Entry) (i : ℕ) (e : Entry) → i < length es → e ≡ get_or es i e → ascend entry_before es ≡ true → comes_after entry_before (take i es) e ≡ true
after-front es i e low is order =
    let front : take i es ++ e ∷ [] ≡ take (i + 1) es = ap (λ (x : Entry). take i es ++ x ∷ []) is ∙ sym (take_more es i e low) in
    let whole : take (i + 1) es ++ drop (i + 1) es ≡ es = take-append-drop (i + 1) es in
    comes-next entry_before (take i es) e [] (ap (ascend entry_before) front ∙ ascend-front entry_before (take (i + 1) es) (drop (i + 1) es) (ap (ascend entry_before) whole ∙ order))
