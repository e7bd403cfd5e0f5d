use Rattle.std.proofs.Common.{◌∙◌}
use Rattle.delta_agg.proofs.KeyOrders.{are-digits, few-keys, keys-ordered}
use Rattle.delta_agg.proofs.order.ordered.Goals as goal

-- by keys of 8 bytes

pub make_keys-requires-clause-under : goal.make_keys-requires-clause-under
make_keys-requires-clause-under c =
    are-digits c.args.view.now c.args.tops.now c.args.coded.now c.requires.declared c.requires.under c.deref-then-room_within.result.now
    (c.deref-then-room_within.ensures.value ∙ c.in_ok-digits.ensures) c.requires.places

pub runs_of_keys-requires : goal.runs_of_keys-requires
runs_of_keys-requires c =
    few-keys c.args.view.now c.args.tops.now c.args.coded.now c.requires.declared c.requires.under c.requires.rows c.deref-then-room_within.result.now c.make_keys.new.keys.items
    c.deref_mut.result.now (c.deref-then-room_within.ensures.value ∙ c.in_ok-digits.ensures) c.in_ok-make_keys.ensures c.deref_mut.ensures.value

pub returns-then-room_within : goal.returns-then-room_within
returns-then-room_within c =
    keys-ordered c.args.view.now c.args.tops.now c.args.coded.now c.requires.declared c.requires.under c.requires.rows c.deref-then-room_within.result.now c.make_keys.new.keys.items
    c.deref_mut.result.now (c.deref-then-room_within.ensures.value ∙ c.in_ok-digits.ensures) c.in_ok-make_keys.ensures c.deref_mut.ensures.value c.runs_of_keys.result
    c.runs_of_keys.ensures

-- by keys of 16 bytes

pub make_keys-requires-then-room_within-2-clause-under : goal.make_keys-requires-then-room_within-2-clause-under
make_keys-requires-then-room_within-2-clause-under c =
    are-digits c.args.view.now c.args.tops.now c.args.coded.now c.requires.declared c.requires.under c.deref-then-room_within-2.result.now
    (c.deref-then-room_within-2.ensures.value ∙ c.in_ok-digits.ensures) c.requires.places

pub runs_of_keys-requires-then-room_within-2 : goal.runs_of_keys-requires-then-room_within-2
runs_of_keys-requires-then-room_within-2 c =
    few-keys c.args.view.now c.args.tops.now c.args.coded.now c.requires.declared c.requires.under c.requires.rows c.deref-then-room_within-2.result.now
    c.make_keys-then-room_within-2.new.keys.items c.deref_mut-then-room_within-2.result.now (c.deref-then-room_within-2.ensures.value ∙ c.in_ok-digits.ensures) c.in_ok-make_keys-2.ensures
    c.deref_mut-then-room_within-2.ensures.value

pub returns-then-room_within-2 : goal.returns-then-room_within-2
returns-then-room_within-2 c =
    keys-ordered c.args.view.now c.args.tops.now c.args.coded.now c.requires.declared c.requires.under c.requires.rows c.deref-then-room_within-2.result.now
    c.make_keys-then-room_within-2.new.keys.items c.deref_mut-then-room_within-2.result.now (c.deref-then-room_within-2.ensures.value ∙ c.in_ok-digits.ensures) c.in_ok-make_keys-2.ensures
    c.deref_mut-then-room_within-2.ensures.value c.runs_of_keys-then-room_within-2.result c.runs_of_keys-then-room_within-2.ensures
