use Rattle.std.proofs.Common.{◌≡◌, ◌+◌, ◌-◌, ℕ, get_or, nat_eq, arith, refl, ◌∙◌, ap}
use Rattle.indexmap.specs.IndexMap.{get}
use Rattle.slice_rows.specs.Ranks.{rank_among}
use Rattle.slice_rows.proofs.CodeRanks.{told-more}
use Rattle.slice_rows.proofs.value_ranks.ranks_of.Goals as goal

pub rank_nth-rank-requires-clause-before : goal.rank_nth-rank-requires-clause-before
rank_nth-rank-requires-clause-before c = c.loop-i.invariant.last

back : (i : ℕ) → i ≡ (i + 1) - 1
back i = omega arith

pub loop-i-preserved : goal.loop-i-preserved
loop-i-preserved c =
    let rank = rank_among c.args.names.now c.args.attr c.args.codes.now in
    let codes = c.args.codes.now in
    let i = c.loop-i.i in
    record {
      told = told-more rank codes i (get_or codes i 0) c.rank_nth-rank.result (get nat_eq c.loop-i.ranks) (get nat_eq c.insert.new.self) refl c.rank_nth-rank.ensures
          c.in_ok-insert.ensures.updates.0 c.loop-i.invariant.told;
      last = λ some. c.rank_nth-rank.ensures ∙ ap (λ (k : ℕ). rank (get_or codes k 0)) (back i);
    }

pub returns : goal.returns
returns c = λ j low. c.loop-i.invariant.told j (omega (arith, low, c.loop-i-test.false))
