-- A parse of the command that succeeds has a number in the option's range.
use Rattle.std.proofs.Common.{◌≡◌, ◌∙◌, ◌<◌, ◌≤◌, ap, refl, sym, subst, inl, inr, arith, ℕ, List, [], ◌∷◌, length, Option, Some, codes, map, slice_index}
use Rattle.std.specs.Prelude.{Result, pos}
use Rattle.std.specs.Str.Parse.{ExplainsUnsignedError, HasUnsignedDigitsIfOk, ParsesUnsigned}
use Rattle.std.specs.declared.num.ParseIntError.{ParseIntError}
use Rattle.std.specs.List.{list_all, slice_index_or}
use Rattle.std.specs.Borrow.{Bor}
use Rattle.clap.specs.Facts.{args_of, groups_of, least_values, unwrap_or_range}
use Rattle.clap.specs.Built.{IsParsedFrom}
use Rattle.clap.specs.Lexer.{without_minus}
use Rattle.clap.specs.Matches.{ReadsOne, found_of, one_text}
use Rattle.clap.specs.Simple.{App, IsSimple, app_of, is_ready, is_ready_leaf}
use Rattle.clap.specs.Values.{IsSignedIn}
use Rattle.clap.specs.Walk.{Rule, Text, rule_of, texts}
use Rattle.clap.specs.declared.builder.arg.Arg.{Arg}
use Rattle.clap.specs.declared.builder.command.Command.{Command}
use Rattle.clap.specs.declared.builder.value_parser.ValueParser.TheVariants as vp
use Rattle.clap.specs.declared.parser.matches.ArgMatches.{ArgMatches}
use Rattle.clap.proofs.CallerReads.{signed_reads}
use Rattle.clap.proofs.SimpleLemmas.{ready_simple, simple_groups}
use Rattle.cube_args.proofs.DefaultReads.{default_reads}
use Rattle.cube_args.specs.Words.{cache_app, cache_rule}

-- a list that is mapped to one element has one
only_one : {X Y : Type 0} (f : X → Y) (xs : List X) (y : Y) → map f xs ≡ y ∷ [] → (x : X) × (xs ≡ x ∷ []) × (f x ≡ y)
only_one f [] y e = cc
only_one f (x ∷ []) y e = (x, refl, ap (λ ys. slice_index_or ys 0 y) e)
only_one f (x ∷ z ∷ xs) y e = cc

-- a list of one text is not empty
some_default : (xs : List (Bor Text)) → texts xs ≡ codes "64" ∷ [] → 0 < length xs
some_default [] e = cc
some_default (x ∷ xs) e = omega arith

-- the id of the option is no other text
other_text : (id t : Text) → id ≡ codes "cache" → id ≡ t → (slice_index t 0 ≡ 99 → ⊥) → ⊥
other_text id t is same other = other (ap (λ u. slice_index u 0) (sym same ∙ is))

-- the option has a text that passed its range
pub cache_reads : (command : Command) (m : ArgMatches) → app_of command ≡ cache_app → IsParsedFrom command m
    → (t : Text) × (one_text (found_of m) (codes "cache") ≡ Some (without_minus t)) × IsSignedIn (pos 0) (pos 4096) t
cache_reads command m app p =
    let one = only_one rule_of (args_of command) cache_rule (ap (λ (a : App). a.top.rules) app) in
    let simple : IsSimple command = ready_simple command (ap (λ (a : App). is_ready a.top) app) (ap (λ (a : App). list_all is_ready_leaf a.subs) app) in
    let no_groups : groups_of p.built ≡ [] =
    (p.from.same_groups (simple_groups command (ap (λ (a : App). list_all (λ (r : Rule). r.is_simple) a.top.rules) app))).1 ∙ simple.groups in
    let lt : 0 < length (args_of command) = subst (λ (xs : List Arg). 0 < length xs) (sym one.1) (omega arith) in
    let rule : rule_of (slice_index_or (args_of command) 0 one.0) ≡ cache_rule = ap (λ (xs : List Arg). rule_of (slice_index_or xs 0 one.0)) one.1 ∙ one.2 in
    let id : (slice_index_or (args_of command) 0 one.0).id.now ≡ codes "cache" = ap (λ (r : Rule). r.id) rule in
    let plain = simple.args 0 one.0 lt in
    let least : least_values (slice_index_or (args_of command) 0 one.0) ≡ 1 = ap (λ (r : Rule). (unwrap_or_range r.range).start_inclusive) rule in
    let read = default_reads command m p simple.globals no_groups 0 one.0 lt
    (plain.default_ifs, some_default _ (ap (λ (r : Rule). r.defaults) rule))
    (ap (λ (r : Rule). r.action) rule) plain.delimiter (omega arith)
    (λ j e low same. let one_place : j < 1 = subst (λ (xs : List Arg). j < length xs) one.1 low in omega arith)
    (λ empty. other_text _ _ id empty (λ e. absurd (omega arith)))
    (λ auto. elim auto [
      | inl help ↦ other_text _ _ id help (λ e. absurd (omega arith))
      | inr version ↦ other_text _ _ id version (λ e. absurd (omega arith))
    ])
    (vp.Signed (pos 0) (pos 4096)) (ap (λ (r : Rule). r.parser) rule) in
    (read.0, subst (λ (t : Text). one_text (found_of m) t ≡ Some (without_minus read.0)) id read.1, read.2)

-- what that text gives as a `u32`
abbrev pub GivesNumber : Text → Result ℕ ParseIntError → Type 0
GivesNumber t r = ParsesUnsigned 32 10 t r × ExplainsUnsignedError 10 t r × HasUnsignedDigitsIfOk t r

-- and so the option has a number
pub cache_number : (command : Command) (m : ArgMatches) → app_of command ≡ cache_app → IsParsedFrom command m → (r : Option ℕ)
    → ((t : Text) → one_text (found_of m) (codes "cache") ≡ Some t → ReadsOne GivesNumber t r)
    → (n : ℕ) × (r ≡ Some n) × (n ≤ 4096)
cache_number command m app p r reads =
    let read = cache_reads command m app p in
    let got = signed_reads ParseIntError GivesNumber 32 0 4096 read.0 r (reads (without_minus read.0) read.1) (λ t x gives. gives.0) (omega arith) read.2 in
    (got.0, got.1, got.3)
