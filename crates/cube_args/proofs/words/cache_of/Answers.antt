use Rattle.std.proofs.Common.{◌≡◌, ◌∙◌, ℕ, sym, ap, map, codes, [], Option, Some, None}
use Rattle.std.specs.Prelude.{string_bytes, unwrap_or}
use Rattle.clap.specs.Walk.{one_of}
use Rattle.clap.specs.Lexer.{without_minus}
use Rattle.clap.specs.Matches.{found_of, one_text}
use Rattle.clap.specs.Faults.{fault_of, is_simple_and_free}
use Rattle.clap.specs.Simple.{app_of, is_simple, matches_of}
use Rattle.clap.proofs.WalkLemmas.{one_text-rows}
use Rattle.cube_args.proofs.CacheApp.{simple_and_free, simple}
use Rattle.cube_args.proofs.CacheReads.{cache_number, cache_reads}
use Rattle.cube_args.specs.Words.{cache_app}
use Rattle.cube_args.proofs.words.cache_of.Goals as goal

pub unreachable-requires : goal.unreachable-requires
unreachable-requires c =
    let number = cache_number c.in-Ok.command c.in-Ok-try_get_matches_from.matches c.in-Ok.ensures.command
    c.in-Ok-try_get_matches_from.ensures.parsed c.get_one.result c.get_one.ensures.value in
    let none : None ≡ Some number.0 = sym c.in-None.is ∙ number.1 in
    cc

pub returns-in-Some-clause-valid : goal.returns-in-Some-clause-valid
returns-in-Some-clause-valid c =
    let words = map string_bytes c.args.words.now in
    let app : app_of c.in-Ok.command ≡ cache_app = c.in-Ok.ensures.command in
    let kinds : fault_of (app_of c.in-Ok.command) words ≡ [] =
    c.in-Ok-try_get_matches_from.ensures.kinds (ap is_simple_and_free app ∙ simple_and_free) in
    ap (λ a. fault_of a words) (sym app) ∙ kinds

pub returns-in-Some-clause-value : goal.returns-in-Some-clause-value
returns-in-Some-clause-value c =
    let words = map string_bytes c.args.words.now in
    let app : app_of c.in-Ok.command ≡ cache_app = c.in-Ok.ensures.command in
    let matches = c.in-Ok-try_get_matches_from.matches in
    let rows = (c.in-Ok-try_get_matches_from.ensures.matches (ap is_simple app ∙ simple)).0 in
    let text : one_text (found_of matches) (codes "cache") ≡ one_of (codes "cache") (matches_of cache_app words) =
    one_text-rows (found_of matches) (codes "cache") ∙ ap (one_of (codes "cache")) (rows ∙ ap (λ a. matches_of a words) app) in
    let read = cache_reads c.in-Ok.command matches app c.in-Ok-try_get_matches_from.ensures.parsed in
    (without_minus read.0, sym text ∙ read.1, (c.in-Some.ensures.value (without_minus read.0) read.1).0)

pub returns-in-Some-clause-within : goal.returns-in-Some-clause-within
returns-in-Some-clause-within c =
    let number = cache_number c.in-Ok.command c.in-Ok-try_get_matches_from.matches c.in-Ok.ensures.command
    c.in-Ok-try_get_matches_from.ensures.parsed c.get_one.result c.get_one.ensures.value in
    let same : c.in-Some.pages ≡ number.0 = ap (λ (o : Option ℕ). unwrap_or o 0) (sym c.in-Some.is ∙ number.1) in
    rw same number.2
