-- A level that is read fits behind the others.
use Rattle.std.proofs.Common.{◌≡◌, ℕ, suc, ◌+◌, ◌≤◌, ◌==◌, ◌&&◌, ◌||◌, Bool, true, false, not, cond, List, [], ◌∷◌, ◌++◌, map, length, get_or, nat_le, nat_lt, Option, Some, None, unwrap_or, ℤ, pos, negsuc, Result, Ok, Err, refl, sym, ◌∙◌, ap, subst, arith, append_assoc, append-nil}
use Rattle.std.specs.Prelude.{IfOk, if◌then◌else◌}
use Rattle.std.specs.Cmp.{IsTotalOrder}
use Rattle.std.specs.Ordering.{is_eq, ordering_reverse}
use Rattle.std.specs.declared.cmp.Ordering.{Ordering}
use Rattle.std.specs.declared.cmp.Ordering.TheVariants.{Less, Equal, Greater}
use Rattle.std.specs.Result.{result_ok}
use Rattle.std.specs.Str.{bytes_eq}
use Rattle.std.proofs.lemmas.Bool.{and_parts, and_from, or_parts, or_from, leb-true, le-leb, ltb-true, lt-ltb, not-true}
use Rattle.std.proofs.lemmas.List.{length-append, length-map, map-append}
use Rattle.std.proofs.lemmas.List.Elements.{All-push, All-from_recursion}
use Rattle.std.proofs.lemmas.List.Folds.{list_any-append}
use Rattle.std.specs.List.{AllByRecursion, list_any}
use Rattle.csv_text.specs.Records.{records_of}
use Rattle.cube_schema.specs.Agreeing.{IsOfKind}
use Rattle.cube_schema.specs.Kinds.{arity, kind_at}
use Rattle.cube_schema.specs.Lawful.{IsSchema, is_count}
use Rattle.cube_schema.specs.Reading.{are_distinct, is_attr, is_declared, is_measure, is_named, number_of, with_attr}
use Rattle.cube_schema.specs.Words.{is_name}
use Rattle.cube_schema.specs.declared.schema.Kind.{Kind}
use Rattle.cube_schema.specs.declared.schema.Kind.TheVariants as kind
use Rattle.cube_schema.specs.declared.schema.Schema.{Schema}
use Rattle.cube_schema.proofs.Numbers.{number-below}
use Rattle.cube_schema.proofs.Parts.{IsPart, part-with_attr}
use Rattle.cube_schema.proofs.Tests.{distinct-insert}
use Rattle.fact_model.specs.Limits.{number_limit}
use Rattle.fact_model.specs.Number.{number_in}
use Rattle.slice_lang.specs.Values.{in_range}
use Rattle.fact_model.specs.Value.{same_value, value_cmp}
use Rattle.fact_model.specs.declared.fact.Value.{Value}
use Rattle.fact_model.specs.declared.fact.Value.TheVariants.{Word, Number}
use Rattle.spec_points.proofs.Members.{every-append}
use Rattle.fact_model.proofs.ValueOrder.{value-total}
use Rattle.roll_up.specs.Levels.{Fit, IsLevelOf, as_attr, extended}
use Rattle.roll_up.specs.Parents.{Parent, has_parent}
use Rattle.roll_up.specs.Reading.{Answers, after_rows, is_free, level_of, level_with, as_number, pair_from, pair_in, parents_in, value_of, with_pair}
use Rattle.roll_up.specs.declared.level.Level.{Level}
use Rattle.roll_up.specs.declared.refusal.LevelRefusal.{LevelRefusal}
use Rattle.roll_up.specs.declared.refusal.LevelRefusal.TheVariants as refused
use Rattle.roll_up.proofs.Readings.{Pairs}

-- a lawful schema, as its lines are read
part-of : (s : Schema) → IsSchema s → IsPart s
part-of s lawful = record {
  named = lawful.named;
  apart = lawful.apart;
  ranges = lawful.ranges;
  views = lawful.views;
  views_apart = lawful.views_apart;
  few_attrs = most 16 (length s.attrs) lawful.some_attrs;
  few_measures = most 4 (length s.measures) lawful.some_measures;
  few_views = most 32 (length s.views) lawful.some_views;
}
  where
    most : (limit count : ℕ) → is_count limit count ≡ true → count ≤ limit
    most limit count h = leb-true count limit (and_parts (nat_lt 0 count) (nat_le count limit) h).1

-- ---- the schema with one level more

name-taken : (name : List ℕ) (levels : List Level) → list_any (is_named name) (map as_attr levels) ≡ list_any (λ (l : Level). bytes_eq l.name name) levels
name-taken name [] = refl
name-taken name (l ∷ levels) = ap (λ b. bytes_eq l.name name || b) (name-taken name levels)

none : (b : Bool) → not b ≡ true → b ≡ false
none b e = not-true b e

module _ (schema : Schema) (levels : List Level) (l : Level) (lawful : IsSchema (extended schema levels)) (free : is_free schema levels l.name ≡ true)
    (few : nat_lt (arity schema + length levels) 16 ≡ true) where
  one-more : with_attr (extended schema levels) l.name (kind.Word 16777215) ≡ extended schema (levels ++ l ∷ [])
  one-more = λ i. record {
    attrs = (append_assoc schema.attrs (map as_attr levels) (as_attr l ∷ []) ∙ ap (λ vs. schema.attrs ++ vs) (sym (map-append as_attr levels (l ∷ [])))) i;
    measures = schema.measures;
    views = schema.views;
  }

  count : length (extended schema levels).attrs ≡ arity schema + length levels
  count = length-append schema.attrs (map as_attr levels) ∙ ap (λ k. arity schema + k) (length-map levels as_attr)

  -- the name is new to the attributes, the levels and the measures
  undeclared : is_declared (extended schema levels) l.name ≡ false
  undeclared =
      let outer = and_parts (is_name l.name && not (is_declared schema l.name)) (not (list_any (λ (k : Level). bytes_eq k.name l.name) levels)) free in
      let inner = and_parts (is_name l.name) (not (is_declared schema l.name)) outer.0 in
      let parts = or_parts (is_attr schema l.name) (is_measure schema l.name) (none (is_declared schema l.name) inner.1) in
      or_from (is_attr (extended schema levels) l.name) (is_measure schema l.name)
      (list_any-append (is_named l.name) schema.attrs (map as_attr levels)
      ∙ or_from (is_attr schema l.name) (list_any (is_named l.name) (map as_attr levels)) parts.0 (name-taken l.name levels ∙ none (list_any (λ (k : Level). bytes_eq k.name l.name) levels) outer.1))
      parts.1

  wellformed : is_name l.name ≡ true
  wellformed = (and_parts (is_name l.name) (not (is_declared schema l.name)) (and_parts (is_name l.name && not (is_declared schema l.name)) (not (list_any (λ (k : Level). bytes_eq k.name l.name) levels)) free).0).0

  part : IsPart (extended schema (levels ++ l ∷ []))
  part = subst IsPart one-more (part-with_attr (extended schema levels) l.name (kind.Word 16777215) (part-of (extended schema levels) lawful) wellformed undeclared
      (omega (arith, count, ltb-true (arity schema + length levels) 16 few)) refl)

  more-lawful : IsSchema (extended schema (levels ++ l ∷ []))
  more-lawful = record {
    named = part.named;
    apart = part.apart;
    ranges = part.ranges;
    views = part.views;
    views_apart = part.views_apart;
    some_attrs = and_from (nat_lt 0 (length (extended schema (levels ++ l ∷ [])).attrs)) (nat_le (length (extended schema (levels ++ l ∷ [])).attrs) 16) some (le-leb (length (extended schema (levels ++ l ∷ [])).attrs) 16 part.few_attrs);
    some_measures = lawful.some_measures;
    some_views = lawful.some_views;
  }
    where
      some : nat_lt 0 (length (extended schema (levels ++ l ∷ [])).attrs) ≡ true
      some = lt-ltb 0 (length (extended schema (levels ++ l ∷ [])).attrs)
          (omega (arith, length-append schema.attrs (map as_attr (levels ++ l ∷ [])), length-map (levels ++ l ∷ []) as_attr, length-append levels (l ∷ [])))

-- ---- the pairs

err-stays : (k : Kind) (row : ℕ) (rows : List (List (List ℕ))) (e : LevelRefusal) → after_rows k row rows (Err e) ≡ Err e
err-stays k row [] e = refl
err-stays k row (f ∷ rows) e = err-stays k (suc row) rows e

flip-value : (v w : Value) → same_value v w ≡ same_value w v
flip-value v w = (let o : IsTotalOrder value_cmp = value-total in ap is_eq (o.antisymm v w)) ∙ by (value_cmp w v)
  where
    by : (r : Ordering) → is_eq (ordering_reverse r) ≡ is_eq r
    by Less = refl
    by Equal = refl
    by Greater = refl

-- the pairs are distinct values of the kind, with short parents
pub record AreSound (k : Kind) (parents : List Parent) : Type 0 where
  pub apart : are_distinct same_value (map (λ (p : Parent). p.0) parents) ≡ true
  pub kinds : AllByRecursion (λ (p : Parent). IsOfKind k p.0) parents
  pub short : AllByRecursion (λ (p : Parent). length p.1 ≤ 255) parents

-- a pair that is new to those before it, of a value of the kind
pub record IsSound (k : Kind) (before : List Parent) (p : Parent) : Type 0 where
  pub new : has_parent before p.0 ≡ false
  pub kind : IsOfKind k p.0
  pub short : length p.1 ≤ 255

sound-push : (k : Kind) (before : List Parent) (p : Parent) → AreSound k before → IsSound k before p → AreSound k (before ++ p ∷ [])
sound-push k before p all one = record {
  apart = ap (are_distinct same_value) (map-append (λ (q : Parent). q.0) before (p ∷ [])) ∙ distinct-insert same_value (map (λ (q : Parent). q.0) before) p.0 []
      (ap (are_distinct same_value) (append-nil (map (λ (q : Parent). q.0) before)) ∙ all.apart) (firsts before ∙ one.new) refl;
  kinds = every-append (λ (q : Parent). IsOfKind k q.0) before (p ∷ []) all.kinds (one.kind, tt);
  short = every-append (λ (q : Parent). length q.1 ≤ 255) before (p ∷ []) all.short (one.short, tt);
}
  where
    firsts : (ps : List Parent) → list_any (λ v. same_value v p.0) (map (λ (q : Parent). q.0) ps) ≡ list_any (λ (q : Parent). same_value p.0 q.0) ps
    firsts [] = refl
    firsts (q ∷ ps) = λ i. flip-value q.0 p.0 i || firsts ps i

value-kind : (k : Kind) (field : List ℕ) (v : Value) → length field ≤ 255 → value_of k field ≡ Some v → IsOfKind k v
value-kind (kind.Word max) field v short e = subst (IsOfKind (kind.Word max)) (some-inj (Word field) v e) short
  where
    some-inj : (x y : Value) → (λ (o : Option Value). o) (Some x) ≡ Some y → x ≡ y
    some-inj x y q = ap (λ o. unwrap_or o x) q
value-kind kind.Number field v short e = by (number_in field) e
  where
    some-inj : (x y : Value) → (λ (o : Option Value). o) (Some x) ≡ Some y → x ≡ y
    some-inj x y q = ap (λ o. unwrap_or o x) q

    low : (n : ℕ) (b : Bool) → nat_le n number_limit ≡ b → as_number (if b then Some n else None) ≡ Some v → IsOfKind kind.Number v
    low n true at q = subst (IsOfKind kind.Number) (some-inj (Number n) v q) (leb-true n number_limit at)
    low n false at q = cc q

    by : (found : Option ℤ) → as_number (in_range found) ≡ Some v → IsOfKind kind.Number v
    by None q = cc q
    by (Some (negsuc n)) q = cc q
    by (Some (pos n)) q = low n (nat_le n number_limit) refl q

pair-sound : (k : Kind) (before : List Parent) (row : ℕ) (field parent : List ℕ) (found : Option Value) (p : Parent) → value_of k field ≡ found → pair_from before row field parent found ≡ Ok p → IsSound k before p
pair-sound k before row field parent None p is h = cc h
pair-sound k before row field parent (Some v) p is h = one (nat_le (length field) 255) refl h
  where
    three : (a b c : Bool) → nat_le (length field) 255 ≡ a → nat_le (length parent) 255 ≡ b → has_parent before v ≡ c → (λ (r : Result Parent LevelRefusal). r) (Ok (v, parent)) ≡ Ok p → a ≡ true → b ≡ true → c ≡ false → IsSound k before p
    three a b c ea eb ec q ta tb tc =
        let same : (v, parent) ≡ p = ap (λ (r : Result Parent LevelRefusal). unwrap_or (result_ok r) (v, parent)) q in
        subst (IsSound k before) same (record { new = ec ∙ tc; kind = value-kind k field v (leb-true (length field) 255 (ea ∙ ta)) is; short = leb-true (length parent) 255 (eb ∙ tb) })

    last : (c : Bool) → has_parent before v ≡ c → nat_le (length field) 255 ≡ true → nat_le (length parent) 255 ≡ true → cond c (Err (refused.Repeated row)) (Ok (v, parent)) ≡ Ok p → IsSound k before p
    last true ec ea eb q = cc q
    last false ec ea eb q = three true true false ea eb ec q refl refl refl

    two : (b : Bool) → nat_le (length parent) 255 ≡ b → nat_le (length field) 255 ≡ true → cond b (cond (has_parent before v) (Err (refused.Repeated row)) (Ok (v, parent))) (Err (refused.Long row 2)) ≡ Ok p → IsSound k before p
    two true eb ea q = last (has_parent before v) refl ea eb q
    two false eb ea q = cc q

    one : (a : Bool) → nat_le (length field) 255 ≡ a
        → cond a (cond (nat_le (length parent) 255) (cond (has_parent before v) (Err (refused.Repeated row)) (Ok (v, parent))) (Err (refused.Long row 2))) (Err (refused.Long row 1)) ≡ Ok p → IsSound k before p
    one true ea q = two (nat_le (length parent) 255) refl ea q
    one false ea q = cc q

row-sound : (k : Kind) (before : List Parent) (row : ℕ) (fields : List (List ℕ)) (p : Parent) → pair_in k before row fields ≡ Ok p → IsSound k before p
row-sound k before row fields p h = by (length fields == 2) h
  where
    by : (b : Bool) → cond b (pair_from before row (get_or fields 0 []) (get_or fields 1 []) (value_of k (get_or fields 0 []))) (Err (refused.Fields row)) ≡ Ok p → IsSound k before p
    by true q = pair-sound k before row (get_or fields 0 []) (get_or fields 1 []) (value_of k (get_or fields 0 [])) p refl q
    by false q = cc q

rows-sound : (k : Kind) (row : ℕ) (rows : List (List (List ℕ))) (before after : List Parent) → AreSound k before → after_rows k row rows (Ok before) ≡ Ok after → AreSound k after
rows-sound k row [] before after sound h = subst (AreSound k) (ap (λ (r : Pairs). unwrap_or (result_ok r) before) h) sound
rows-sound k row (fields ∷ rows) before after sound h = by (pair_in k before row fields) refl h (λ so_far. rows-sound k (suc row) rows so_far after)
  where
    by : (answer : Result Parent LevelRefusal) → pair_in k before row fields ≡ answer → after_rows k (suc row) rows (with_pair before answer) ≡ Ok after
        → ((so_far : List Parent) → AreSound k so_far → after_rows k (suc row) rows (Ok so_far) ≡ Ok after → AreSound k after) → AreSound k after
    by (Ok p) is q more = more (before ++ p ∷ []) (sound-push k before p sound (row-sound k before row fields p is)) q
    by (Err e) is q more = absurd (wrong (sym (err-stays k (suc row) rows e) ∙ q))
      where
        wrong : (λ (r : Pairs). r) (Err e) ≡ Ok after → ⊥
        wrong x = cc x

-- ---- a level

pub record LevelParts (schema : Schema) (levels : List Level) (name attr block : List ℕ) (l : Level) : Type 0 where
  pub free : is_free schema levels name ≡ true
  pub there : is_attr schema attr ≡ true
  pub few : nat_lt (arity schema + length levels) 16 ≡ true
  pub parents : List Parent
  pub read : after_rows (kind_at schema (number_of schema attr)) 1 (records_of block) (Ok []) ≡ Ok parents
  pub is : record { name = name; attr = number_of schema attr; parents = parents } ≡ l

module _ (schema : Schema) (levels : List Level) (name attr block : List ℕ) (l : Level) where
  parts-of : (pairs : Pairs) → parents_in (kind_at schema (number_of schema attr)) block ≡ pairs → is_free schema levels name ≡ true → is_attr schema attr ≡ true → nat_lt (arity schema + length levels) 16 ≡ true
      → level_with name (number_of schema attr) pairs ≡ Ok l → LevelParts schema levels name attr block l
  parts-of (Err e) is free there few h = cc h
  parts-of (Ok parents) is free there few h = by (nat_lt 262144 (length (records_of block))) is
    where
      by : (b : Bool) → cond b (Err refused.Rows) (after_rows (kind_at schema (number_of schema attr)) 1 (records_of block) (Ok [])) ≡ Ok parents → LevelParts schema levels name attr block l
      by true q = cc q
      by false q = record { free = free; there = there; few = few; parents = parents; read = q; is = ap (λ (r : Result Level LevelRefusal). unwrap_or (result_ok r) l) h }

  level-parts : level_of schema levels name attr block ≡ Ok l → LevelParts schema levels name attr block l
  level-parts h = one (is_free schema levels name) refl h
    where
      three : (c : Bool) → nat_lt (arity schema + length levels) 16 ≡ c → is_free schema levels name ≡ true → is_attr schema attr ≡ true
          → cond c (level_with name (number_of schema attr) (parents_in (kind_at schema (number_of schema attr)) block)) (Err refused.Many) ≡ Ok l → LevelParts schema levels name attr block l
      three true ec ea eb q = parts-of (parents_in (kind_at schema (number_of schema attr)) block) refl ea eb ec q
      three false ec ea eb q = cc q

      two : (b : Bool) → is_attr schema attr ≡ b → is_free schema levels name ≡ true
          → cond b (cond (nat_lt (arity schema + length levels) 16) (level_with name (number_of schema attr) (parents_in (kind_at schema (number_of schema attr)) block)) (Err refused.Many)) (Err refused.Attribute) ≡ Ok l
          → LevelParts schema levels name attr block l
      two true eb ea q = three (nat_lt (arity schema + length levels) 16) refl ea eb q
      two false eb ea q = cc q

      one : (a : Bool) → is_free schema levels name ≡ a
          → cond a (cond (is_attr schema attr) (cond (nat_lt (arity schema + length levels) 16) (level_with name (number_of schema attr) (parents_in (kind_at schema (number_of schema attr)) block)) (Err refused.Many)) (Err refused.Attribute)) (Err refused.Name) ≡ Ok l
          → LevelParts schema levels name attr block l
      one true ea q = two (is_attr schema attr) refl ea q
      one false ea q = cc q

  -- a level that is read fits behind the others
  pub level-fits : Fit schema levels → level_of schema levels name attr block ≡ Ok l → Fit schema (levels ++ l ∷ [])
  level-fits fit h =
      let parts = level-parts h in
      let sound = rows-sound (kind_at schema (number_of schema attr)) 1 (records_of block) [] parts.parents (record { apart = refl; kinds = tt; short = tt }) parts.read in
      subst (λ k. Fit schema (levels ++ k ∷ [])) parts.is (record {
        lawful = more-lawful schema levels (record { name = name; attr = number_of schema attr; parents = parts.parents }) fit.lawful parts.free parts.few;
        each = All-push (IsLevelOf schema) levels (record { name = name; attr = number_of schema attr; parents = parts.parents }) fit.each (record {
          declared = lt-ltb (number_of schema attr) (arity schema) (number-below schema attr parts.there);
          apart = sound.apart;
          kinds = All-from_recursion (λ (p : Parent). IsOfKind (kind_at schema (number_of schema attr)) p.0) parts.parents sound.kinds;
          short = All-from_recursion (λ (p : Parent). length p.1 ≤ 255) parts.parents sound.short;
        });
      })

pub fits-answer : (schema : Schema) (levels given : List Level) (name attr block : List ℕ) (result : Result Level LevelRefusal) → given ≡ levels → Fit schema levels → Answers result (level_of schema given name attr block)
    → IfOk result (λ l. Fit schema (levels ++ l ∷ []))
fits-answer schema levels given name attr block (Ok l) same fit is = level-fits schema levels name attr block l fit (ap (λ ls. level_of schema ls name attr block) (sym same) ∙ is)
fits-answer schema levels given name attr block (Err e) same fit is = tt

-- no levels fit a lawful schema
pub fits-none : (schema : Schema) (levels : List Level) → levels ≡ [] → IsSchema schema → Fit schema levels
fits-none schema levels none lawful = subst (Fit schema) (sym none) (record {
  lawful = subst IsSchema (λ i. record { attrs = sym (append-nil schema.attrs) i; measures = schema.measures; views = schema.views }) lawful;
  each = λ k d l. absurd (omega (arith, l));
})
