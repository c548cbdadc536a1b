-- Which words are a command line, and what they ask for, computed.
use Rattle.std.proofs.Common.{◌≡◌, [], ◌∷◌, true, false, Some, None, codes, refl}
use Rattle.clap.proofs.OnLiterals.{clap_on_literals}
use Rattle.rex_command.specs.Reading.{command_of}
use Rattle.rex_command.specs.declared.commands.Command.TheVariants.{Run, Generate, Soak}

workers : command_of (codes "rex" ∷ codes "run" ∷ codes "--workers" ∷ codes "8" ∷ []) ≡ Some (Run 8 false)
unfolding clap_on_literals
workers = refl

workers_with_equals : command_of (codes "rex" ∷ codes "run" ∷ codes "--workers=2" ∷ []) ≡ Some (Run 2 false)
unfolding clap_on_literals
workers_with_equals = refl

journal_behind : command_of (codes "rex" ∷ codes "run" ∷ codes "--workers" ∷ codes "8" ∷ codes "--journal" ∷ []) ≡ Some (Run 8 true)
unfolding clap_on_literals
journal_behind = refl

journal_with_a_value : command_of (codes "rex" ∷ codes "run" ∷ codes "--journal=true" ∷ []) ≡ None
unfolding clap_on_literals
journal_with_a_value = refl

journal_twice : command_of (codes "rex" ∷ codes "run" ∷ codes "--journal" ∷ codes "--journal" ∷ []) ≡ None
unfolding clap_on_literals
journal_twice = refl

journal_elsewhere : command_of (codes "rex" ∷ codes "soak" ∷ codes "7" ∷ codes "1" ∷ codes "--journal" ∷ []) ≡ None
unfolding clap_on_literals
journal_elsewhere = refl

sign : command_of (codes "rex" ∷ codes "run" ∷ codes "--workers" ∷ codes "+7" ∷ []) ≡ Some (Run 7 false)
unfolding clap_on_literals
sign = refl

zeros : command_of (codes "rex" ∷ codes "gen" ∷ codes "007" ∷ codes "1" ∷ []) ≡ Some (Generate 7 1)
unfolding clap_on_literals
zeros = refl

option_between : command_of (codes "rex" ∷ codes "soak" ∷ codes "7" ∷ codes "--workers" ∷ codes "2" ∷ codes "1" ∷ []) ≡ Some (Soak 7 1 2)
unfolding clap_on_literals
option_between = refl

dashes : command_of (codes "rex" ∷ codes "run" ∷ codes "--" ∷ []) ≡ Some (Run 1 false)
unfolding clap_on_literals
dashes = refl

hyphen_behind_dashes : command_of (codes "rex" ∷ codes "gen" ∷ codes "--" ∷ codes "-1" ∷ codes "5" ∷ []) ≡ None
unfolding clap_on_literals
hyphen_behind_dashes = refl

too_many_workers : command_of (codes "rex" ∷ codes "run" ∷ codes "--workers" ∷ codes "17" ∷ []) ≡ None
unfolding clap_on_literals
too_many_workers = refl

no_worker : command_of (codes "rex" ∷ codes "run" ∷ codes "--workers" ∷ codes "0" ∷ []) ≡ None
unfolding clap_on_literals
no_worker = refl

negative : command_of (codes "rex" ∷ codes "gen" ∷ codes "-1" ∷ codes "5" ∷ []) ≡ None
unfolding clap_on_literals
negative = refl

too_large : command_of (codes "rex" ∷ codes "gen" ∷ codes "7" ∷ codes "1001" ∷ []) ≡ None
unfolding clap_on_literals
too_large = refl

option_twice : command_of (codes "rex" ∷ codes "run" ∷ codes "--workers" ∷ codes "2" ∷ codes "--workers" ∷ codes "3" ∷ []) ≡ None
unfolding clap_on_literals
option_twice = refl

no_value : command_of (codes "rex" ∷ codes "run" ∷ codes "--workers" ∷ []) ≡ None
unfolding clap_on_literals
no_value = refl

front_of_a_name : command_of (codes "rex" ∷ codes "ru" ∷ []) ≡ None
unfolding clap_on_literals
front_of_a_name = refl

front_of_an_option : command_of (codes "rex" ∷ codes "run" ∷ codes "--worker" ∷ codes "2" ∷ []) ≡ None
unfolding clap_on_literals
front_of_an_option = refl

help : command_of (codes "rex" ∷ codes "--help" ∷ []) ≡ None
unfolding clap_on_literals
help = refl

help_word : command_of (codes "rex" ∷ codes "help" ∷ []) ≡ None
unfolding clap_on_literals
help_word = refl

help_below : command_of (codes "rex" ∷ codes "run" ∷ codes "-h" ∷ []) ≡ None
unfolding clap_on_literals
help_below = refl

version : command_of (codes "rex" ∷ codes "--version" ∷ []) ≡ None
unfolding clap_on_literals
version = refl

option_first : command_of (codes "rex" ∷ codes "--workers" ∷ codes "2" ∷ codes "run" ∷ []) ≡ None
unfolding clap_on_literals
option_first = refl

further_number : command_of (codes "rex" ∷ codes "gen" ∷ codes "7" ∷ codes "1" ∷ codes "1" ∷ []) ≡ None
unfolding clap_on_literals
further_number = refl

number_lacks : command_of (codes "rex" ∷ codes "soak" ∷ codes "7" ∷ []) ≡ None
unfolding clap_on_literals
number_lacks = refl

other_option : command_of (codes "rex" ∷ codes "gen" ∷ codes "7" ∷ codes "1" ∷ codes "--workers" ∷ codes "2" ∷ []) ≡ None
unfolding clap_on_literals
other_option = refl
