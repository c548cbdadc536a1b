-- What the words of a command line ask for, by `clap`'s own account of what it takes.
use Rattle.std.specs.Prelude.{ℕ, Bool, List, [], ◌∷◌, ◌&&◌, nat_le, Option, Some, None, codes, true, false, option_map, option_and_then, if◌then◌else◌}
use Rattle.std.specs.Option.{option_map_or}
use Rattle.std.specs.Str.{bytes_eq}
use Rattle.std.specs.Str.Parse.{digits_value, without_leading_plus}
use Rattle.clap.specs.ValueTests.{accepts}
use Rattle.clap.specs.Words.{Kinds, Row, Text, fault_of, subcommand_of, one_of}
use Rattle.clap.specs.declared.builder.ValueParser.TheVariants.{Unsigned}
use Rattle.rex_command.specs.Application.{rex_app}
use Rattle.rex_command.specs.declared.commands.Command.{Command}
use Rattle.rex_command.specs.declared.commands.Command.TheVariants.{Run, Trace, Check, Generate, Soak}
use Rattle.rex_threads.specs.declared.parallelism.TheConstants.{WORKERS}

-- there is no kind of error
abbrev pub is_none : Kinds → Bool
is_none [] = true
is_none (k ∷ ks) = false

-- the words are a command line: no kind of error fits them
abbrev pub is_command_line : List Text → Bool
is_command_line words = is_none (fault_of rex_app words)

-- the number, if it is from `low` to `high`
abbrev pub within : ℕ → ℕ → Option ℕ → Option ℕ
within low high number = option_and_then (λ n. if nat_le low n && nat_le n high then Some n else None) number

-- the number that a text writes in decimal digits, behind a `+` or none, if it is from `low` to `high`
abbrev pub number_of : ℕ → ℕ → Text → Option ℕ
number_of low high t = if accepts false (Unsigned low high) t then Some (digits_value 10 (without_leading_plus t)) else None

-- the number of an argument
abbrev pub number_in : ℕ → ℕ → Text → List Row → Option ℕ
number_in low high id rows = option_and_then (number_of low high) (one_of id rows)

-- the number of workers
abbrev pub workers_in : List Row → Option ℕ
workers_in = number_in 1 WORKERS (codes "workers")

-- the scenario's seed
abbrev pub seed_in : List Row → Option ℕ
seed_in = number_in 0 4294967295 (codes "seed")

-- the scenario's size
abbrev pub size_in : List Row → Option ℕ
size_in = number_in 1 1000 (codes "size")

-- an option that takes no value was given: its text is `true`, and else `false`
abbrev pub is_given : Text → List Row → Bool
is_given id rows = option_map_or (λ t. bytes_eq t (codes "true")) (one_of id rows) false

-- `run` with a number of workers, if there is one, and with journals or without
abbrev pub run_of : Option ℕ → Bool → Option Command
run_of workers journal = option_map (λ n. Run n journal) workers

-- `gen` with a seed and a size, if there are both
abbrev pub generate_of : Option ℕ → Option ℕ → Option Command
generate_of seed size = option_and_then (λ n. option_map (λ s. Generate n s) size) seed

-- `soak` with a seed, a size and a number of workers, if there are all
abbrev pub soak_of : Option ℕ → Option ℕ → Option ℕ → Option Command
soak_of seed size workers = option_and_then (λ n. option_and_then (λ s. option_map (λ w. Soak n s w) workers) size) seed

-- the command of this name with the numbers of its arguments
abbrev pub command_named : Text → List Row → Option Command
command_named name rows =
    if bytes_eq name (codes "run") then run_of (workers_in rows) (is_given (codes "journal") rows)
    else (if bytes_eq name (codes "trace") then Some Trace
    else (if bytes_eq name (codes "check") then Some Check
    else (if bytes_eq name (codes "gen") then generate_of (seed_in rows) (size_in rows)
    else (if bytes_eq name (codes "soak") then soak_of (seed_in rows) (size_in rows) (workers_in rows)
    else None))))

-- the command of a command line
abbrev pub command_of : List Text → Option Command
command_of words = if is_command_line words then option_and_then (λ p. command_named p.0 p.1) (subcommand_of rex_app words) else None
