-- Which words are a command line, and what they ask for, computed.
use Rattle.std.proofs.Common.{◌≡◌, [], ◌∷◌, Some, None, codes, refl}
use Rattle.clap.proofs.OnLiterals.{clap_on_literals}
use Rattle.rexnode_command.specs.Command.{CommandValue}
use Rattle.rexnode_command.specs.Reading.{command_of}

abbrev second_of_three : CommandValue
second_of_three = record { id = 2; nodes = 3; service = codes "s"; journal = codes "j"; seed = 7; cluster = codes "lab" }

options_behind : command_of (codes "rexnode" ∷ codes "2" ∷ codes "3" ∷ codes "s" ∷ codes "j"
    ∷ codes "--seed" ∷ codes "7" ∷ codes "--cluster" ∷ codes "lab" ∷ [])
    ≡ Some second_of_three
unfolding clap_on_literals
options_behind = refl

options_before : command_of (codes "rexnode" ∷ codes "--cluster=lab" ∷ codes "--seed=7" ∷ codes "2" ∷ codes "3" ∷ codes "s" ∷ codes "j" ∷ [])
    ≡ Some second_of_three
unfolding clap_on_literals
options_before = refl

no_options : command_of (codes "rexnode" ∷ codes "9" ∷ codes "9" ∷ codes "s" ∷ codes "j" ∷ [])
    ≡ Some (record { id = 9; nodes = 9; service = codes "s"; journal = codes "j"; seed = 0; cluster = [] })
unfolding clap_on_literals
no_options = refl

hyphen_behind_dashes : command_of (codes "rexnode" ∷ codes "1" ∷ codes "1" ∷ codes "--" ∷ codes "-s" ∷ codes "--seed" ∷ [])
    ≡ Some (record { id = 1; nodes = 1; service = codes "-s"; journal = codes "--seed"; seed = 0; cluster = [] })
unfolding clap_on_literals
hyphen_behind_dashes = refl

two_nodes : command_of (codes "rexnode" ∷ codes "1" ∷ codes "2" ∷ codes "s" ∷ codes "j" ∷ []) ≡ None
unfolding clap_on_literals
two_nodes = refl

eleven_nodes : command_of (codes "rexnode" ∷ codes "1" ∷ codes "11" ∷ codes "s" ∷ codes "j" ∷ []) ≡ None
unfolding clap_on_literals
eleven_nodes = refl

fourth_of_three : command_of (codes "rexnode" ∷ codes "4" ∷ codes "3" ∷ codes "s" ∷ codes "j" ∷ []) ≡ None
unfolding clap_on_literals
fourth_of_three = refl

node_zero : command_of (codes "rexnode" ∷ codes "0" ∷ codes "3" ∷ codes "s" ∷ codes "j" ∷ []) ≡ None
unfolding clap_on_literals
node_zero = refl

long_seed : command_of (codes "rexnode" ∷ codes "1" ∷ codes "3" ∷ codes "s" ∷ codes "j" ∷ codes "--seed" ∷ codes "4294967296" ∷ []) ≡ None
unfolding clap_on_literals
long_seed = refl

seed_twice : command_of (codes "rexnode" ∷ codes "1" ∷ codes "3" ∷ codes "s" ∷ codes "j" ∷ codes "--seed" ∷ codes "1" ∷ codes "--seed" ∷ codes "1" ∷ []) ≡ None
unfolding clap_on_literals
seed_twice = refl

other_option : command_of (codes "rexnode" ∷ codes "1" ∷ codes "3" ∷ codes "s" ∷ codes "j" ∷ codes "--journal" ∷ []) ≡ None
unfolding clap_on_literals
other_option = refl

help : command_of (codes "rexnode" ∷ codes "--help" ∷ []) ≡ None
unfolding clap_on_literals
help = refl
