-- What a parse that succeeds has of an argument with a default value, in a command without groups.
use Rattle.std.proofs.Common.{◌≡◌, ◌∙◌, ◌<◌, ◌≤◌, ap, cond, refl, sym, subst, zero, suc, inl, inr, arith, ℕ, Bool, true, false, List, [], ◌∷◌, length, is_some, Option, Some, None}
use Rattle.std.specs.Prelude.{find, option_map, slice_get, unwrap_or}
use Rattle.std.specs.List.{All, slice_index_or}
use Rattle.std.specs.Str.{bytes_eq}
use Rattle.std.specs.Borrow.{Bor}
use Rattle.std.proofs.lemmas.List.Elements.{All-get_or}
use Rattle.std.proofs.lemmas.Slice.Eq.{bytes_eq-Decides}
use Rattle.clap.specs.Facts.{AllowsNone, Entry, EntryPasses, HasReading, IsCountArg, MayBeEmpty, PassesArg, ValuesPass, WantsDefault, args_of, groups_of, least_values, parser_of, parser_of_value}
use Rattle.clap.specs.Built.{IsAuto, IsParsedFrom, SameRules}
use Rattle.clap.specs.Matches.{found_of, matched_of, one_text}
use Rattle.clap.specs.Values.{Accepts, read_as, reading_of}
use Rattle.clap.specs.declared.builder.action.ArgAction.TheVariants.{Count, Set}
use Rattle.clap.specs.declared.builder.arg.Arg.{Arg}
use Rattle.clap.specs.declared.builder.command.Command.{Command}
use Rattle.clap.specs.declared.builder.command.Command.TheViews.{out-Command}
use Rattle.clap.specs.declared.builder.value_parser.ValueParser.{ValueParser}
use Rattle.clap.specs.declared.builder.value_parser.Reading.{Reading}
use Rattle.clap.specs.declared.parser.matches.ArgMatches.{ArgMatches}
use Rattle.clap.specs.declared.parser.matches.Found.{Found}
use Rattle.clap.specs.declared.parser.matches.MatchedArg.{MatchedArg}
use Rattle.clap.proofs.CallerLemmas.{default_present, entry_by_id, same_rules_by_id}

-- an id that some entry has is found
found_somewhere : (id : List ℕ) (xs : List Entry) (i : ℕ) → i < length xs → ((d : Entry) → bytes_eq (slice_index_or xs i d).0.now id ≡ true)
    → is_some (option_map (λ (e : Entry). e.1) (find (λ (e : Entry). bytes_eq e.0.now id) xs)) ≡ true
found_somewhere id [] i lt at = absurd (omega arith)
found_somewhere id (x ∷ xs) zero lt at = rw (at x) refl
found_somewhere id (x ∷ xs) (suc i) lt at = go (bytes_eq x.0.now id) (found_somewhere id xs i (omega arith) at)
  where
    go : (b : Bool) → is_some (option_map (λ (e : Entry). e.1) (find (λ (e : Entry). bytes_eq e.0.now id) xs)) ≡ true
        → is_some (option_map (λ (e : Entry). e.1) (cond b (Some x) (find (λ (e : Entry). bytes_eq e.0.now id) xs))) ≡ true
    go true rest = refl
    go false rest = rest

-- the first of a list of which all pass
first_passes : (P : Bor (List ℕ) → Type 0) (vs : List (Bor (List ℕ))) → 0 < length vs → All P vs → (v : Bor (List ℕ)) × (slice_get vs 0 ≡ Some v) × P v
first_passes P [] some all = absurd (omega arith)
first_passes P (v ∷ vs) some all = (v, refl, All-get_or P (v ∷ vs) 0 v (omega arith) all)

-- the text that is read of an entry
text_at : (f : Found) (id : List ℕ) (x : MatchedArg) (how : Reading) (v : Bor (List ℕ)) → matched_of f id ≡ Some x → x.reading ≡ how
    → slice_get x.vals.items 0 ≡ Some v → one_text f id ≡ Some (read_as how v.now)
text_at f id x how v found is first = rw (found, is) (ap (option_map (λ (s : Bor (List ℕ)). read_as how s.now)) first)

-- what the entry of an argument gives, which neither counts nor may go without a value
entry_reads : (c : Command) (f : Found) (id : List ℕ) (Q : List ℕ → Type 0) (how : Reading) (x : MatchedArg) (key : Bor (List ℕ))
    → groups_of c ≡ [] → (id ≡ [] → ⊥) → (IsCountArg c id → ⊥) → (AllowsNone c id → ⊥)
    → ((r : Reading) → HasReading c id r → r ≡ how) → ((v : Bor (List ℕ)) → PassesArg c id v.now → Q v.now)
    → matched_of f id ≡ Some x → key.now ≡ id → EntryPasses c (key, x)
    → (t : List ℕ) × (one_text f id ≡ Some (read_as how t)) × Q t
entry_reads c f id Q how x key no_groups named never_counts never_none reading passes found is pass =
    let no_group : x.is_group ≡ true → ⊥ = λ g. elim (pass.3 g) [
      | inl empty ↦ named (sym is ∙ empty)
      | inr lots ↦
          let bad : 0 < 0 = rw no_groups at lots in
          absurd (omega arith)
    ] in
    let some : 0 < length x.vals.items = elim pass.1 [
      | inl group ↦ absurd (no_group group.0)
      | inr (inl some) ↦ some
      | inr (inr (inl count)) ↦ absurd (never_counts (subst (IsCountArg c) is count.1))
      | inr (inr (inr none)) ↦ absurd (never_none (subst (AllowsNone c) is none))
    ] in
    let all : All (λ v. PassesArg c id v.now) x.vals.items = elim pass.0 [
      | inl group ↦ absurd (no_group group)
      | inr all ↦ subst (λ (w : List ℕ). All (λ v. PassesArg c w v.now) x.vals.items) is all
    ] in
    let how_read : x.reading ≡ how = elim pass.4 [
      | inl group ↦ absurd (no_group group)
      | inr any ↦ reading x.reading (subst (λ (w : List ℕ). HasReading c w x.reading) is any)
    ] in
    finish (first_passes (λ v. PassesArg c id v.now) x.vals.items some all) how_read
  where
    finish : ((v : Bor (List ℕ)) × (slice_get x.vals.items 0 ≡ Some v) × PassesArg c id v.now) → x.reading ≡ how
        → (t : List ℕ) × (one_text f id ≡ Some (read_as how t)) × Q t
    finish first how_read = (first.0.now, text_at f id x how first.0 found how_read first.1, passes first.0 first.2)

-- the same of an id that has an entry
found_reads : (c : Command) (f : Found) (id : List ℕ) (Q : List ℕ → Type 0) (how : Reading) → ValuesPass c f
    → groups_of c ≡ [] → (id ≡ [] → ⊥) → (IsCountArg c id → ⊥) → (AllowsNone c id → ⊥)
    → ((r : Reading) → HasReading c id r → r ≡ how) → ((v : Bor (List ℕ)) → PassesArg c id v.now → Q v.now)
    → is_some (matched_of f id) ≡ true
    → (t : List ℕ) × (one_text f id ≡ Some (read_as how t)) × Q t
found_reads c f id Q how values no_groups named never_counts never_none reading passes some = go (matched_of f id) refl some
  where
    step : (x : MatchedArg) → matched_of f id ≡ Some x → ((e : Entry) × (e.1 ≡ x) × (bytes_eq e.0.now id ≡ true) × EntryPasses c e)
        → (t : List ℕ) × (one_text f id ≡ Some (read_as how t)) × Q t
    step x found got =
        entry_reads c f id Q how x got.0.0 no_groups named never_counts never_none reading passes found
        ((bytes_eq-Decides got.0.0.now id).0 got.2) (subst (λ (y : MatchedArg). EntryPasses c (got.0.0, y)) got.1 got.3)

    go : (o : Option MatchedArg) → matched_of f id ≡ o → is_some (matched_of f id) ≡ true
        → (t : List ℕ) × (one_text f id ≡ Some (read_as how t)) × Q t
    go None e has =
        let bad : false ≡ true = rw e at has in
        cc
    go (Some x) e has = step x e (entry_by_id (EntryPasses c) f.entries.items id x values e)

-- an argument with the rules of another passes what the other passes
accepts_of : (a x : Arg) (q : ValueParser) (t : List ℕ) → SameRules a x → a.value_parser ≡ Some q → Accepts x.ignore_case (parser_of x) t
    → Accepts a.ignore_case q t
accepts_of a x q t s parser pass =
    let as_q : Accepts x.ignore_case q t = subst (λ (w : ValueParser). Accepts x.ignore_case w t) (ap parser_of_value (s.parser q parser)) pass in
    subst (λ (b : Bool). Accepts b q t) s.ignore_case as_q

-- it does not count, and has a value
no_count : (a x : Arg) → SameRules a x → a.action ≡ Some Set → unwrap_or x.action Set ≡ Count → ⊥
no_count a x s set counts =
    let is_set : x.action ≡ Some Set = s.action Set set in
    let bad : Set ≡ Count = rw is_set at counts in
    cc

some_value : (a x : Arg) → SameRules a x → a.action ≡ Some Set → a.val_delim ≡ None → 1 ≤ least_values a → MayBeEmpty x → ⊥
some_value a x s set delim least (inl none) =
    let one = s.least set least in
    omega arith
some_value a x s set delim least (inr has) =
    let bad : false ≡ true = rw (s.val_delim, delim) at has in
    cc

-- an argument that takes a value and has a default has a text that passed its parser, and is read as that parser says
pub default_reads : (old : Command) (m : ArgMatches) (p : IsParsedFrom old m) → (out-Command old).has_globals ≡ false → groups_of p.built ≡ []
    → (k : ℕ) (d : Arg) → k < length (args_of old) → WantsDefault (slice_index_or (args_of old) k d)
    → (slice_index_or (args_of old) k d).action ≡ Some Set → (slice_index_or (args_of old) k d).val_delim ≡ None
    → 1 ≤ least_values (slice_index_or (args_of old) k d)
    → ((j : ℕ) (e : Arg) → j < length (args_of old)
    → bytes_eq (slice_index_or (args_of old) j e).id.now (slice_index_or (args_of old) k d).id.now ≡ true → j ≡ k)
    → ((slice_index_or (args_of old) k d).id.now ≡ [] → ⊥)
    → (IsAuto (slice_index_or (args_of old) k d) → ⊥)
    → (q : ValueParser) → (slice_index_or (args_of old) k d).value_parser ≡ Some q
    → (t : List ℕ) × (one_text (found_of m) (slice_index_or (args_of old) k d).id.now ≡ Some (read_as (reading_of q) t))
    × Accepts (slice_index_or (args_of old) k d).ignore_case q t
default_reads old m p globals no_groups k d lt wants set delim least unique named own q parser =
    let a = slice_index_or (args_of old) k d in
    let has = default_present old m p globals k d lt wants in
    let rules = same_rules_by_id old m p k d lt unique own in
    found_reads p.built (found_of m) a.id.now (λ (t : List ℕ). Accepts a.ignore_case q t) (reading_of q)
    (p.parsed (p.from.globals ∙ globals)).values no_groups named
    (λ any. no_count a any.1 (rules any.0 any.1 any.2 any.3 any.4.0) set any.4.1)
    (λ any. some_value a any.1 (rules any.0 any.1 any.2 any.3 any.4.0) set delim least any.4.1)
    (λ r any. sym any.4.1 ∙ ap (λ o. reading_of (parser_of_value o)) ((rules any.0 any.1 any.2 any.3 any.4.0).parser q parser))
    (λ v any. accepts_of a any.1 q v.now (rules any.0 any.1 any.2 any.3 any.4.0) parser any.4.1)
    (found_somewhere a.id.now (found_of m).entries.items has.0 has.1 has.2)
