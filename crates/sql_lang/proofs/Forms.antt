-- Forms one after the other, and tokens that have them.
use Rattle.std.proofs.Common.{◌≡◌, ℕ, Bool, true, List, [], ◌∷◌, ◌++◌, map, refl, sym, ◌∙◌, ap, append_assoc, append-nil}
use Rattle.std.specs.Prelude.{flat_map, codes}
use Rattle.std.proofs.lemmas.Bool.{and_parts, and_from, true≢false}
use Rattle.std.proofs.lemmas.List.{map-append}
use Rattle.cube_schema.specs.declared.schema.Schema.{Schema}
use Rattle.cube_schema.specs.Kinds.{name_at}
use Rattle.sql_lang.specs.declared.query.Test.{Test}
use Rattle.sql_lang.specs.declared.token.Token.{Token}
use Rattle.sql_lang.specs.Grammar.{Form, fits, group_form, keyword, mark, name, parted, test_form, where_form}

-- there is one at least
abbrev pub IsSome : {X : Type 0} → List X → Type 0
IsSome [] = ⊥
IsSome (x ∷ xs) = Unit {0}

pub some-push : {X : Type 0} (xs : List X) (x : X) → IsSome (xs ++ x ∷ [])
some-push [] x = tt
some-push (y ∷ xs) x = tt

-- one token more
pub fits-push : (form : Form) (ts : List Token) (p : Token → Bool) (t : Token) → fits form ts ≡ true → p t ≡ true → fits (form ++ p ∷ []) (ts ++ t ∷ []) ≡ true
fits-push [] [] p t h e = and_from (p t) true e refl
fits-push [] (u ∷ ts) p t h e = absurd (true≢false (sym h))
fits-push (q ∷ form) [] p t h e = absurd (true≢false (sym h))
fits-push (q ∷ form) (u ∷ ts) p t h e =
    let each = and_parts (q u) (fits form ts) h in
    and_from (q u) (fits (form ++ p ∷ []) (ts ++ t ∷ [])) each.0 (fits-push form ts p t each.1 e)

-- of several forms the first apart
pub apart_four : (a b c d : Form) → ((a ++ b) ++ c) ++ d ≡ a ++ (b ++ (c ++ d))
apart_four a b c d = simp append_assoc

pub apart_six : (a b c d e f : Form) → ((((a ++ b) ++ c) ++ d) ++ e) ++ f ≡ a ++ (b ++ (c ++ (d ++ (e ++ f))))
apart_six a b c d e f = simp append_assoc

-- forms with another one between them and behind the last, if there is a last
abbrev pub lead : Form → List Form → Form
lead between [] = []
lead between (form ∷ more) = parted between (form ∷ more) ++ between

flat-push : (between next : Form) (more : List Form) → flat_map (λ form. between ++ form) (more ++ next ∷ []) ≡ (flat_map (λ form. between ++ form) more ++ between) ++ next
flat-push between next [] = append-nil (between ++ next)
flat-push between next (form ∷ more) = ap (λ rest. (between ++ form) ++ rest) (flat-push between next more) ∙ simp append_assoc

-- one form more
pub parted-push : (between : Form) (forms : List Form) (next : Form) → parted between (forms ++ next ∷ []) ≡ lead between forms ++ next
parted-push between [] next = append-nil next
parted-push between (form ∷ more) next = ap (λ rest. form ++ rest) (flat-push between next more) ∙ simp append_assoc

pub parted-of_more : {X : Type 0} (between : Form) (form : X → Form) (xs : List X) (x : X) → parted between (map form (xs ++ x ∷ [])) ≡ lead between (map form xs) ++ form x
parted-of_more between form xs x = ap (parted between) (map-append form xs (x ∷ [])) ∙ parted-push between (map form xs) (form x)

module _ (s : Schema) where
  pub where-push : (tests : List Test) (x : Test) → where_form s (tests ++ x ∷ []) ≡ keyword (codes "WHERE") ++ lead (keyword (codes "AND")) (map (test_form s) tests) ++ test_form s x
  where-push [] x = ap (λ rest. keyword (codes "WHERE") ++ rest) (append-nil (test_form s x))
  where-push (t ∷ tests) x = ap (λ rest. keyword (codes "WHERE") ++ rest) (parted-of_more (keyword (codes "AND")) (test_form s) (t ∷ tests) x)

  pub where-lead : (tests : List Test) → IsSome tests → where_form s tests ++ keyword (codes "AND") ≡ keyword (codes "WHERE") ++ lead (keyword (codes "AND")) (map (test_form s) tests)
  where-lead [] some = absurd some
  where-lead (t ∷ tests) some = simp append_assoc

  abbrev pub attr_form : ℕ → Form
  attr_form a = name (name_at s a)

  pub group-push : (group : List ℕ) (a : ℕ) → group_form s (group ++ a ∷ []) ≡ keyword (codes "GROUP") ++ keyword (codes "BY") ++ lead (mark (codes ",")) (map attr_form group) ++ attr_form a
  group-push [] a = ap (λ rest. keyword (codes "GROUP") ++ keyword (codes "BY") ++ rest) (append-nil (attr_form a))
  group-push (b ∷ group) a = ap (λ rest. keyword (codes "GROUP") ++ keyword (codes "BY") ++ rest) (parted-of_more (mark (codes ",")) attr_form (b ∷ group) a)

  pub group-lead : (group : List ℕ) → IsSome group → group_form s group ++ mark (codes ",") ≡ keyword (codes "GROUP") ++ keyword (codes "BY") ++ lead (mark (codes ",")) (map attr_form group)
  group-lead [] some = absurd some
  group-lead (b ∷ group) some = simp append_assoc
