use Rattle.std.proofs.Common.{rules, ◌≡◌, ◌∙◌, ap, map, refl, subst, sym}
use Rattle.std.specs.BTreeMap.{insert_entry}
use Rattle.std.specs.Option.{option_copied_mut}
use Rattle.std.specs.Vec.{with_items}
use Rattle.row_fold.specs.Joins.{CanJoin, join_numbers}
use Rattle.row_fold.specs.Lent.{group_of}
use Rattle.row_fold.proofs.Puts.{can-join, inserted-in, joined-items, written-in}
use Rattle.row_fold.proofs.fold.take_in.Goals as goal

pub join_numbers-requires : goal.join_numbers-requires
join_numbers-requires c =
    subst (CanJoin c.args.columns.now c.args.numbers.now) (sym c.deref_mut.ensures.value)
    (can-join c.args.columns.now c.args.key.now c.args.numbers.now c.args.groups.now.entries c.in-Some.sums.now (sym c.get_mut.ensures.value ∙ ap option_copied_mut c.in-Some.is) c.requires)

pub returns-in-Some-clause-taken : goal.returns-in-Some-clause-taken
returns-in-Some-clause-taken c =
    let cs = c.args.columns.now in
    let key = c.args.key.now in
    let ns = c.args.numbers.now in
    let es = c.args.groups.now.entries in
    let old = c.in-Some.sums.now in
    let new = with_items old c.join_numbers.new.sums in
    let at = sym c.get_mut.ensures.value ∙ ap option_copied_mut c.in-Some.is in
    ap (map group_of) (c.get_mut.follows.holds new).0
    ∙ written-in cs key ns es old at _ (λ a b. refl) c.get_mut.ensures.ordered new
    (joined-items cs ns old c.join_numbers.new.sums (can-join cs key ns es old at c.requires) (c.join_numbers.ensures ∙ ap (join_numbers cs ns) c.deref_mut.ensures.value))

pub returns-clause-taken : goal.returns-clause-taken
returns-clause-taken c =
    let key = c.in_ok-key.key in
    let numbers = c.in_ok-numbers.numbers in
    let is : c.insert.new.self.entries ≡ insert_entry _ c.args.groups.now.entries key numbers = search rules in
    ap (map group_of) is
    ∙ inserted-in c.args.columns.now c.args.key.now c.args.numbers.now c.args.groups.now.entries _ (λ a b. refl) (sym c.get_mut.ensures.value ∙ ap option_copied_mut c.in_default.is)
    key numbers c.in_ok-key.ensures.items c.in_ok-numbers.ensures.items
