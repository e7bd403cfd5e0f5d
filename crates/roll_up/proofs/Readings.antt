-- Rows of a level read one after another.
use Rattle.std.proofs.Common.{◌≡◌, ◌≢◌, ℕ, suc, ◌+◌, ◌≤◌, Bool, true, false, cond, List, [], ◌∷◌, ◌++◌, length, nat_lt, Result, Ok, Err, sym, ◌∙◌, ap, subst, arith, append-nil}
use Rattle.std.proofs.lemmas.Bool.Decides.{nat_tests}
use Rattle.std.proofs.lemmas.List.{length-append}
use Rattle.csv_text.specs.Records.{records_of}
use Rattle.cube_schema.specs.declared.schema.Kind.{Kind}
use Rattle.roll_up.specs.Parents.{Parent}
use Rattle.roll_up.specs.Reading.{Answers, after_row, after_rows, parents_in}
use Rattle.roll_up.specs.declared.refusal.LevelRefusal.{LevelRefusal}
use Rattle.roll_up.specs.declared.refusal.LevelRefusal.TheVariants as refused

abbrev pub Pairs : Type 0
Pairs = Result (List Parent) LevelRefusal

-- a row behind others
pub rows-push : (k : Kind) (row n : ℕ) (rows : List (List (List ℕ))) (fields : List (List ℕ)) (start : Pairs) → n ≡ row + length rows
    → after_rows k row (rows ++ fields ∷ []) start ≡ after_row k n fields (after_rows k row rows start)
rows-push k row n [] fields start e = (let at : n ≡ row = omega (arith, e) in ap (λ m. after_row k m fields start) (sym at))
rows-push k row n (f ∷ rows) fields start e = rows-push k (suc row) n rows fields (after_row k row f start) (omega (arith, e))

-- an answer for the next row, behind one for those before it
pub answers-more : (k : Kind) (row : ℕ) (fields : List (List ℕ)) (a b want : Pairs) → Answers a want → Answers b (after_row k row fields a) → Answers b (after_row k row fields want)
answers-more k row fields (Ok parents) b want is more = subst (λ w. Answers b (after_row k row fields w)) (sym is) more
answers-more k row fields (Err e) (Ok parents) want is more = cc more
answers-more k row fields (Err e) (Err r) want is more = λ other.
    (let same : (λ (x : Pairs). x) (Err e) ≡ Err r = more other in
    let mine : e ≡ r = err-inj e r same in
    let none : e ≢ refused.Memory = λ m. other (sym mine ∙ m) in
    ap (after_row k row fields) (is none) ∙ same)
  where
    err-or : LevelRefusal → Pairs → LevelRefusal
    err-or d (Ok x) = d
    err-or d (Err x) = x

    err-inj : (x y : LevelRefusal) → (λ (p : Pairs). p) (Err x) ≡ Err y → x ≡ y
    err-inj x y q = ap (err-or x) q

-- the rows are all, and few enough
pub few-rows : (k : Kind) (block : List ℕ) (rows left : List (List (List ℕ))) (a : Pairs) → rows ++ left ≡ records_of block → left ≡ [] → length rows ≤ 262144
    → Answers a (after_rows k 1 rows (Ok [])) → Answers a (parents_in k block)
few-rows k block rows left a all none few is =
    let are : rows ≡ records_of block = sym (append-nil rows) ∙ (ap (λ l. rows ++ l) (sym none) ∙ all) in
    let low : nat_lt 262144 (length (records_of block)) ≡ false = (let same = ap length are in grind (arith, nat_tests)) in
    subst (Answers a) (ap (λ rs. after_rows k 1 rs (Ok [])) are ∙ ap (λ (b : Bool). cond b (Err refused.Rows) (after_rows k 1 (records_of block) (Ok []))) (sym low)) is

-- there is one more than may be
pub many-rows : (k : Kind) (block : List ℕ) (rows left : List (List (List ℕ))) (fields : List (List ℕ)) (rest : List (List (List ℕ))) → rows ++ left ≡ records_of block → left ≡ fields ∷ rest
    → length rows ≡ 262144 → parents_in k block ≡ Err refused.Rows
many-rows k block rows left fields rest all more count =
    let are : rows ++ fields ∷ rest ≡ records_of block = ap (λ l. rows ++ l) (sym more) ∙ all in
    let high : nat_lt 262144 (length (records_of block)) ≡ true = (let same = ap length are in let long = length-append rows (fields ∷ rest) in grind (arith, nat_tests)) in
    ap (λ (b : Bool). cond b (Err refused.Rows) (after_rows k 1 (records_of block) (Ok []))) high
