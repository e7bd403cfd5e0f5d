-- The only option of the program, as a simple command of `clap`. The words are the arguments after the program's name.
use Rattle.std.specs.Prelude.{◌≡◌, ℕ, List, [], ◌∷◌, Ok, Option, Some, true, pos, codes}
use Rattle.std.specs.Str.Parse.{ParsesUnsigned}
use Rattle.std.specs.declared.num.ParseIntError.{ParseIntError}
use Rattle.clap.specs.Walk.{Rule, Text, one_of}
use Rattle.clap.specs.Simple.{App, matches_of, new_app, new_rule, on_top, with_rule}
use Rattle.clap.specs.Faults.{fault_of}
use Rattle.clap.specs.declared.builder.action.ArgAction.TheVariants.{Set}
use Rattle.clap.specs.declared.builder.value_parser.ValueParser.TheVariants as vp

-- the option `--cache N`, with N from 0 to 4096; 64 if it is not given
abbrev pub cache_rule : Rule
cache_rule = record (new_rule (codes "cache")) {
  long = Some (codes "cache");
  action = Some Set;
  defaults = codes "64" ∷ [];
  parser = Some (vp.Signed (pos 0) (pos 4096));
}

-- the command with this option only, without flags for help or version
abbrev pub cache_app : App
cache_app = with_rule (on_top (λ s. record s {
  no_binary_name = true;
  disable_help_flag = true;
  disable_version_flag = true;
}) (new_app (codes "cubetree"))) cache_rule

-- the command accepts the words: no step of the parse fails
abbrev pub AreValid : List Text → Type 0
AreValid words = fault_of cache_app words ≡ []

-- the text of the option's value in these words
abbrev pub cache_text : List Text → Option Text
cache_text words = one_of (codes "cache") (matches_of cache_app words)

-- the option's value is this number in decimal
abbrev pub IsCapacity : List Text → ℕ → Type 0
IsCapacity words pages = (text : Text) × (cache_text words ≡ Some text) × ParsesUnsigned {E = ParseIntError} 32 10 text (Ok pages)
