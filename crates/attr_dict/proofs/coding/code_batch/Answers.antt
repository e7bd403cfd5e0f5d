use Rattle.std.proofs.Common.{◌≡◌, ◌*◌, ℕ, List, [], ◌∷◌, ◌++◌, length, get_or, refl, sym, ap, subst, ◌∙◌, arith, append-nil}
use Rattle.std.specs.List.{All}
use Rattle.std.specs.Str.{bytes_eq}
use Rattle.std.proofs.lemmas.List.{length-append}
use Rattle.std.proofs.lemmas.List.Elements.{All-head, All-tail}
use Rattle.fact_model.specs.declared.fact.Value.{Value}
use Rattle.fact_batch.specs.Batch.{values_in}
use Rattle.fact_batch.specs.Values.{shown}
use Rattle.spec_points.specs.Codes.{Text, admitted, named}
use Rattle.spec_points.proofs.Names.{admitted-for, named-for}
use Rattle.attr_dict.specs.Coding.{AreNamesOf, entry_in}
use Rattle.attr_dict.specs.Sizes.{IsSmall}
use Rattle.attr_dict.proofs.Entries.{grew-not, grew-on}
use Rattle.attr_dict.proofs.Listed.{listed, listed-names}
use Rattle.attr_dict.proofs.Onwards.{Onward, onward-start, onward-step, onward-written, onward-names}
use Rattle.attr_dict.proofs.Rounds.{around, behind, codes_in, texts_in, behind-under, codes-step, rows-coded, texts-around, values-long, values-small}
use Rattle.attr_dict.proofs.coding.code_batch.Goals as goal

pub loop-value-init : goal.loop-value-init
loop-value-init c =
    let facts = c.args.facts.now in
    let width = c.len-width.result in
    let same : c.values-values.result ≡ values_in facts = c.values-values.ensures in
    let long : length (values_in facts) ≡ width * length facts = values-long width facts (λ k d lt. (let here = c.requires.values k d lt in omega (arith, here))) in
    record {
      same = refl;
      attr = λ some. (let size = ap length same in grind (arith, some, size, long));
      small = subst (All IsSmall) (sym same) (values-small facts c.requires.small);
      count = omega (arith, ap length same, ap length c.in_ok-codes.ensures.items);
      grew = λ a. grew-not (get_or c.args.names.now.items a []);
      coded = λ later grew. (λ i. c.in_ok-codes.ensures.items i ++ codes_in later (around width 0 (same i)));
      onward = λ seen are.
          subst (λ (vs : List Value). Onward c.args.names.now.items c.new-entries.result.items seen (texts_in (around width 0 (values_in facts))) (texts_in (around width 0 vs))) (sym same)
          (onward-start c.args.names.now.items c.new-entries.result.items seen (texts_in (around width 0 (values_in facts))) c.new-entries.ensures.items are);
    }

pub code_value-requires-clause-small : goal.code_value-requires-clause-small
code_value-requires-clause-small c = All-head IsSmall (shown c.in-Some.value) c.next_value.new.self (subst (All IsSmall) c.in-Some.ensures.next c.loop-value.invariant.small)

pub loop-value-preserved : goal.loop-value-preserved
loop-value-preserved c =
    let width = c.len-width.result in
    let attr = c.loop-value.attr in
    let v = shown c.in-Some.value in
    let rest = c.next_value.new.self in
    let next : c.loop-value.values ≡ v ∷ rest = c.in-Some.ensures.next in
    let some : length c.loop-value.values ≡ length (v ∷ rest) = ap length next in
    let turn : c.behind-attr.result ≡ behind width attr = c.behind-attr.ensures in
    let old = c.loop-value.names.items in
    let names = c.code_value.new.names.items in
    let all = texts_in (around width 0 (values_in c.args.facts.now)) in
    record {
      same = c.in_ok-code_value.ensures.same ∙ c.loop-value.invariant.same;
      attr = λ left. (let under = behind-under width attr (c.loop-value.invariant.attr (omega arith)) in omega arith);
      small = All-tail IsSmall v rest (subst (All IsSmall) next c.loop-value.invariant.small);
      count = (let before = c.loop-value.invariant.count in omega (arith, ap length c.in_ok-push.ensures.items, length-append c.loop-value.codes.items (c.in_ok-code_value.field-0 ∷ [])));
      grew = λ a. grew-on (get_or c.args.names.now.items a []) (get_or old a []) (get_or names a []) (c.loop-value.invariant.grew a) (c.code_value.ensures.grew a);
      coded = λ later grew.
          codes-step later width attr c.behind-attr.result v c.loop-value.values rest c.loop-value.codes.items c.push.new.self.items (codes_in later (around width 0 (values_in c.args.facts.now))) c.in_ok-code_value.field-0
          next turn c.in_ok-push.ensures.items (c.in_ok-code_value.ensures.code later grew)
          (c.loop-value.invariant.coded later (λ a. grew-on (get_or old a []) (get_or names a []) (get_or later a []) (c.code_value.ensures.grew a) (grew a)));
      onward = λ seen are.
          subst (λ b. Onward names c.code_value.new.entries.items seen all (texts_in (around width b rest))) (sym turn)
          (onward-step old names c.loop-value.entries.items c.code_value.new.entries.items seen all (entry_in attr v) (texts_in (around width (behind width attr) rest))
          (subst (λ (vs : List Value). Onward old c.loop-value.entries.items seen all (texts_in (around width attr vs))) next (c.loop-value.invariant.onward seen are))
          c.in_ok-code_value.ensures.names c.in_ok-code_value.ensures.entries);
    }

pub from_vec-requires : goal.from_vec-requires
from_vec-requires c =
    let facts = c.args.facts.now in
    let width = c.len-width.result in
    let long = values-long width facts (λ k d lt. (let here = c.requires.values k d lt in omega (arith, here))) in
    let rows : length facts ≡ c.len-rows.result = sym c.len-rows.ensures in
    let count = c.loop-value.invariant.count in
    omega (arith, long, count, ap (λ n. width * n) rows, ap length (c.in_default.ensures.end refl))

-- all entries are passed
passed : (c : goal.After-from_vec-2) (seen : List (ℕ × Text)) → AreNamesOf seen c.args.names.now.items → Onward c.loop-value.names.items c.loop-value.entries.items seen (named c.args.facts.now) []
passed c seen are =
    let width = c.len-width.result in
    let facts = c.args.facts.now in
    let names = c.loop-value.names.items in
    let entries = c.loop-value.entries.items in
    subst (λ es. Onward names entries seen es []) (texts-around width facts (λ k d lt. (let here = c.requires.values k d lt in omega (arith, here))))
    (subst (λ (vs : List Value). Onward names entries seen (texts_in (around width 0 (values_in facts))) (texts_in (around width c.loop-value.attr vs))) (c.in_default.ensures.end refl) (c.loop-value.invariant.onward seen are))

pub returns-clause-names : goal.returns-clause-names
returns-clause-names c = λ a.
    (let old = c.args.names.now.items in
    let facts = c.args.facts.now in
    let seen = listed 0 old in
    sym (onward-names c.loop-value.names.items c.loop-value.entries.items seen (named facts) (passed c seen (listed-names old)) a) ∙ admitted-for a seen (named facts)
    ∙ (λ i. admitted bytes_eq (listed-names old a i) (named-for a facts i)))

pub returns-clause-coded : goal.returns-clause-coded
returns-clause-coded c =
    let width = c.len-width.result in
    let names = c.loop-value.names.items in
    let codes = c.loop-value.codes.items in
    let all = codes_in names (around width 0 (values_in c.args.facts.now)) in
    let whole : codes ≡ all =
    sym (append-nil codes)
    ∙ subst (λ (vs : List Value). codes ++ codes_in names (around width c.loop-value.attr vs) ≡ all) (c.in_default.ensures.end refl) (c.loop-value.invariant.coded names (λ a. grew-not (get_or names a []))) in
    c.from_vec.ensures ∙ rows-coded names width c.len-rows.result c.args.facts.now codes (λ k d lt. (let here = c.requires.values k d lt in omega (arith, here))) c.len-rows.ensures whole

pub returns-clause-entries : goal.returns-clause-entries
returns-clause-entries c = λ seen are. c.from_vec-2.ensures ∙ onward-written c.loop-value.names.items c.loop-value.entries.items seen (named c.args.facts.now) (passed c seen are)
