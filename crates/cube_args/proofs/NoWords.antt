-- No words.
use Rattle.std.proofs.Common.{[], codes, refl}
use Rattle.clap.proofs.OnLiterals.{clap_on_literals}
use Rattle.cube_args.specs.Words.{AreValid, cache_text}
use Rattle.std.specs.Prelude.{◌≡◌, Some}

-- the command takes them
pub none_valid : AreValid []
unfolding clap_on_literals
none_valid = refl

-- and the option has its default
pub none_text : cache_text [] ≡ Some (codes "64")
unfolding clap_on_literals
none_text = refl
