use Rattle.std.proofs.Common.{◌<◌, ◌≤◌, ◌+◌, slice_index, ℕ, List, [], length, get_or, zip, refl, subst, sym, ap, ◌∙◌}
use Rattle.std.specs.List.{All}
use Rattle.cube_schema.specs.declared.Kind.{Kind}
use Rattle.cube_schema.specs.declared.Kind.TheVariants as kind
use Rattle.cube_schema.specs.Kinds.{max_of}
use Rattle.spec_points.specs.Codes.{Text}
use Rattle.spec_points.specs.Deltas.{CodedBy}
use Rattle.spec_points.specs.Agree.{IsCoded}
use Rattle.attr_dict.specs.Book.{Book, names_at}
use Rattle.attr_dict.specs.Admitting.{Agrees}
use Rattle.attr_dict.specs.Room.{entries_len, entries_limit}
use Rattle.attr_dict.proofs.Coords.{facts-coded, facts-have_codes, facts-placed}
use Rattle.attr_dict.proofs.Kept.{book-taken, taken-small}
use Rattle.attr_dict.proofs.Lens.{admitted-len, len-limit}
use Rattle.attr_dict.proofs.Takes.{names-back}
use Rattle.attr_dict.proofs.dicts.Dicts.admit.Goals as goal

agree-here : (c : goal.In-Ok) → All (Agrees c.self.inside.kinds.items) c.args.facts.now
agree-here c = subst (λ (ks : List Kind). All (Agrees ks) c.args.facts.now) (sym (ap (λ (b : Book). b.kinds) c.self.view_is)) c.requires

pub returns-in-Err-clause-unchanged : goal.returns-in-Err-clause-unchanged
returns-in-Err-clause-unchanged c =
    let back = names-back c.self.inside.names.items c.take_in-taken.new.names.items c.cut.new.names.items c.lengths_of-before.result.at c.cut.ensures.same c.in-Err.ensures.same
    (λ a. c.lengths_of-before.ensures a ∙ ap (λ (ns : List (List Text)). length (get_or ns a [])) c.as_slice.ensures.value) c.in-Err.ensures.grew c.cut.ensures.cut in
    ap (λ (ns : List (List Text)). record { kinds = c.self.inside.kinds.items; names = ns }) back ∙ c.self.view_is

-- all values of the facts have codes now
pub returns-in-Ok-clause-known : goal.returns-in-Ok-clause-known
returns-in-Ok-clause-known c =
    facts-have_codes (λ a. get_or c.take_in-taken.new.names.items a []) (λ a. get_or c.self.inside.names.items a []) c.args.facts.now c.in-Ok.ensures.names

pub returns-in-Ok-clause-placed : goal.returns-in-Ok-clause-placed
returns-in-Ok-clause-placed c = λ view within.
    let kinds = sym (ap (λ (b : Book). b.kinds) c.self.view_is) in
    let facts = c.args.facts.now in
    let names = c.take_in-taken.new.names.items in
    let b : Book = record { kinds = c.self.inside.kinds.items; names = names } in
    let agree = subst (λ (ks : List Kind). All (Agrees ks) facts) kinds c.requires in
    let attrs = subst (λ (ks : List Kind). All (λ a. a < length ks) view) kinds within in
    let known : All (IsCoded (names_at b)) facts = facts-have_codes (names_at b) (λ a. get_or c.self.inside.names.items a []) facts c.in-Ok.ensures.names in
    subst (λ (cs : List (List ℕ)). All (λ (coordinates : List ℕ). All (λ a. 1 ≤ slice_index coordinates a) view) cs) (sym c.in-Ok.ensures.coded) (facts-placed b facts view agree known attrs)

pub returns-in-Ok-clause-viewed : goal.returns-in-Ok-clause-viewed
returns-in-Ok-clause-viewed c = λ view within.
    let kinds = sym (ap (λ (b : Book). b.kinds) c.self.view_is) in
    let facts = c.args.facts.now in
    let names = c.take_in-taken.new.names.items in
    let b : Book = record { kinds = c.self.inside.kinds.items; names = names } in
    let agree = subst (λ (ks : List Kind). All (Agrees ks) facts) kinds c.requires in
    let attrs = subst (λ (ks : List Kind). All (λ a. a < length ks) view) kinds within in
    subst (λ (cs : List (List ℕ)). All (CodedBy (names_at b) view) (zip cs facts)) (sym c.in-Ok.ensures.coded) (facts-coded b facts view agree attrs)

pub invariant_of-self : goal.invariant_of-self
invariant_of-self c =
    book-taken (record { kinds = c.self.inside.kinds.items; names = c.self.inside.names.items }) c.take_in-taken.new.names.items c.args.facts.now c.self.invariant c.in-Ok.ensures.same
    (subst (λ (ks : List Kind). (a : ℕ) → a < length ks → length (get_or c.take_in-taken.new.names.items a []) ≤ max_of (get_or ks a kind.Number)) c.as_slice-2.ensures.value c.in-Ok.ensures.within)
    c.in-Ok.ensures.names (agree-here c)

pub returns-in-Ok-clause-narrow : goal.returns-in-Ok-clause-narrow
returns-in-Ok-clause-narrow c =
    taken-small (record { kinds = c.self.inside.kinds.items; names = c.self.inside.names.items }) c.take_in-taken.new.names.items c.args.facts.now (invariant_of-self c) (agree-here c)

pub returns-in-Ok-clause-len : goal.returns-in-Ok-clause-len
returns-in-Ok-clause-len c =
    admitted-len (record { kinds = c.self.inside.kinds.items; names = c.self.inside.names.items }) (record { kinds = c.self.inside.kinds.items; names = c.take_in-taken.new.names.items }) c.args.facts.now c.in-Ok.admitted.names
    c.self.invariant (invariant_of-self c) refl c.in-Ok.ensures.names
    c.in-Ok.ensures.entries
    ∙ ap (λ (b : Book). entries_len b + length c.in-Ok.admitted.names) c.self.view_is

pub returns-in-Ok-clause-limit : goal.returns-in-Ok-clause-limit
returns-in-Ok-clause-limit c = len-limit (record { kinds = c.self.inside.kinds.items; names = c.take_in-taken.new.names.items }) (invariant_of-self c)

pub returns-in-Err-clause-limit : goal.returns-in-Err-clause-limit
returns-in-Err-clause-limit c =
    subst (λ (b : Book). entries_len b ≤ entries_limit) (c.self.view_is ∙ sym (returns-in-Err-clause-unchanged c)) (len-limit (record { kinds = c.self.inside.kinds.items; names = c.self.inside.names.items }) c.self.invariant)
