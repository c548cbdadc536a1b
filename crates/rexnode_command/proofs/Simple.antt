-- The program's command is simple.
use Rattle.std.proofs.Common.{◌≡◌, true, refl}
use Rattle.clap.specs.Words.{is_simple, is_simple_and_free}
use Rattle.clap.proofs.OnLiterals.{clap_on_literals}
use Rattle.rexnode_command.specs.Application.{node_app}

pub simple : is_simple node_app ≡ true
unfolding clap_on_literals
simple = refl

pub simple_and_free : is_simple_and_free node_app ≡ true
unfolding clap_on_literals
simple_and_free = refl
