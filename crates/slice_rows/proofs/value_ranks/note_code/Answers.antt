use Rattle.std.proofs.Common.{ℕ, List, Contains, nat_eq, sym, subst}
use Rattle.std.proofs.lemmas.Bool.{eqb-true}
use Rattle.indexmap.proofs.CallerLemmas.{Contains-insert_key}
use Rattle.slice_rows.proofs.value_ranks.note_code.Goals as goal

pub returns-in_ok-insert-in-Word-clause-known : goal.returns-in_ok-insert-in-Word-clause-known
returns-in_ok-insert-in-Word-clause-known c = λ t is.
    subst (λ (ks : List ℕ). Contains ks c.args.code) (sym c.in_ok-insert-in-Word.ensures.keys) (Contains-insert_key nat_eq (λ x y same. eqb-true x y same) c.args.codes.now.keys c.args.code)
