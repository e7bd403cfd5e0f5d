-- The command of the option is one of which `clap` says what it takes.
use Rattle.std.proofs.Common.{◌≡◌, true, refl}
use Rattle.clap.specs.Faults.{is_simple_and_free}
use Rattle.clap.specs.Simple.{is_simple}
use Rattle.clap.proofs.OnLiterals.{clap_on_literals}
use Rattle.cube_args.specs.Words.{cache_app}

pub simple_and_free : is_simple_and_free cache_app ≡ true
unfolding clap_on_literals
simple_and_free = refl

pub simple : is_simple cache_app ≡ true
unfolding clap_on_literals
simple = refl
