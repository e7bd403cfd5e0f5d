-- The values of tests by IN, one by one.
use Rattle.std.proofs.Common.{◌≡◌, ℕ, ◌+◌, ◌<◌, Bool, true, false, not, cond, ◌&&◌, ◌||◌, List, [], ◌∷◌, ◌++◌, drop, length, get_or, Option, Some, None, refl, sym, ◌∙◌, ap}
use Rattle.std.specs.List.{list_any}
use Rattle.std.proofs.lemmas.List.{at_drop_more}
use Rattle.fact_model.specs.Value.{Key}
use Rattle.fact_model.specs.declared.fact.Value.{Value}
use Rattle.sql_lang.specs.declared.query.Operand.{Operand}
use Rattle.sql_lang.specs.declared.query.Test.{Test}
use Rattle.sql_lang.specs.declared.query.Test.TheVariants.{Compare, Between, OneOf}
use Rattle.sql_lang.specs.Tests.{attr_of, is_list, is_operand}
use Rattle.sql_slice.specs.declared.lists.Listed.{Listed}
use Rattle.sql_slice.specs.Lists.{found_has, has_value, lists_have}
use Rattle.sql_slice.specs.RowFold.{found_passes, key_passes}
use Rattle.sql_slice.specs.SqlRows.{value_in}

pub cond-or : (b x : Bool) → cond b true x ≡ (x || b)
cond-or true true = refl
cond-or true false = refl
cond-or false true = refl
cond-or false false = refl

or-assoc : (p q r : Bool) → ((p || q) || r) ≡ (p || (q || r))
or-assoc true q r = refl
or-assoc false q r = refl

and-assoc : (p q r : Bool) → ((p && q) && r) ≡ (p && (q && r))
and-assoc true q r = refl
and-assoc false q r = refl

-- a value more
pub value-more : (p : Operand → Bool) (vs : List Operand) (i : ℕ) (x : Operand) (old new all : Bool) → i < length vs → x ≡ get_or vs i x → new ≡ (old || p x)
    → (old || list_any p (drop i vs)) ≡ all → (new || list_any p (drop (i + 1) vs)) ≡ all
value-more p vs i x old new all low is added rest =
    ap (λ b. b || list_any p (drop (i + 1) vs)) added ∙ or-assoc old (p x) (list_any p (drop (i + 1) vs))
    ∙ ap (λ b. old || b) (sym (at_drop_more (list_any p) vs i x low ∙ ap (λ y. p y || list_any p (drop (i + 1) vs)) (sym is))) ∙ rest

-- what is no test by IN
pub no-list : (x : Test) → ((attr : ℕ) (values : List Operand) → x ≡ OneOf attr values → ⊥) → is_list x ≡ false
no-list (Compare attr sign value) h = refl
no-list (Between attr low high) h = refl
no-list (OneOf attr values) h = absurd (h attr values refl)

module _ (group : List ℕ) (key : Key) (tests : List Test) (i : ℕ) (x : Test) (low : i < length tests) (is : x ≡ get_or tests i x) where
  -- what the test says of the key, where it is by IN
  abbrev here : Test → Bool
  here t = not (is_list t) || found_passes t (value_in group key (attr_of t))

  tests-step : key_passes group (drop i tests) key ≡ (here x && key_passes group (drop (i + 1) tests) key)
  tests-step = at_drop_more (λ ts. key_passes group ts key) tests i x low ∙ ap (λ y. here y && key_passes group (drop (i + 1) tests) key) (sym is)

  -- a test that is not by IN
  pub test-passed : (lists : List Listed) → is_list x ≡ false → (lists_have group lists key && key_passes group (drop i tests) key) ≡ key_passes group tests key
      → (lists_have group lists key && key_passes group (drop (i + 1) tests) key) ≡ key_passes group tests key
  test-passed lists plain rest =
      ap (λ b. lists_have group lists key && b) (sym (tests-step ∙ ap (λ b. (not b || found_passes x (value_in group key (attr_of x))) && key_passes group (drop (i + 1) tests) key) plain)) ∙ rest

  found-same : (l : Listed) (attr : ℕ) (values : List Operand) → ((v : Value) → has_value l v ≡ list_any (is_operand v) values) → (found : Option Value) → found_has l found ≡ found_passes (OneOf attr values) found
  found-same l attr values same None = refl
  found-same l attr values same (Some v) = same v

  lists-push : (lists : List Listed) (l : Listed) → lists_have group (lists ++ l ∷ []) key ≡ (lists_have group lists key && found_has l (value_in group key l.attr))
  lists-push [] l = and-true (found_has l (value_in group key l.attr))
    where
      and-true : (b : Bool) → (b && true) ≡ (true && b)
      and-true true = refl
      and-true false = refl
  lists-push (k ∷ lists) l =
      ap (λ b. found_has k (value_in group key k.attr) && b) (lists-push lists l) ∙ sym (and-assoc (found_has k (value_in group key k.attr)) (lists_have group lists key) (found_has l (value_in group key l.attr)))

  -- a test by IN
  pub test-taken : (old new : List Listed) (l : Listed) (attr : ℕ) (values : List Operand) → x ≡ OneOf attr values → new ≡ old ++ l ∷ [] → l.attr ≡ attr → ((v : Value) → has_value l v ≡ list_any (is_operand v) values)
      → (lists_have group old key && key_passes group (drop i tests) key) ≡ key_passes group tests key → (lists_have group new key && key_passes group (drop (i + 1) tests) key) ≡ key_passes group tests key
  test-taken old new l attr values one pushed on same rest =
      let same_here : found_has l (value_in group key l.attr) ≡ here x =
      ap (λ a. found_has l (value_in group key a)) on ∙ found-same l attr values same (value_in group key attr) ∙ ap here (sym one) in
      ap (λ ls. lists_have group ls key && key_passes group (drop (i + 1) tests) key) pushed
      ∙ ap (λ b. b && key_passes group (drop (i + 1) tests) key) (lists-push old l ∙ ap (λ b. lists_have group old key && b) same_here)
      ∙ and-assoc (lists_have group old key) (here x) (key_passes group (drop (i + 1) tests) key)
      ∙ ap (λ b. lists_have group old key && b) (sym tests-step) ∙ rest
