-- What the words of a command line ask for, by `clap`'s own account of what it takes.
use Rattle.std.specs.Prelude.{ℕ, Bool, List, Option, None, codes, option_and_then, if◌then◌else◌}
use Rattle.clap.specs.Words.{Row, Text, fault_of, first_of}
use Rattle.clap.specs.Simple.{matches_of}
use Rattle.rex_ballot.specs.declared.ballots.TheConstants.{NODES}
use Rattle.rex_command.specs.Reading.{is_none, number_in}
use Rattle.rexnode_command.specs.Application.{node_app}
use Rattle.rexnode_command.specs.Command.{CommandValue, fitting}

-- the words are a command line: no kind of error fits them
abbrev pub is_command_line : List Text → Bool
is_command_line words = is_none (fault_of node_app words)

-- what is asked for by these parts, if all are there and fit
abbrev pub command_with : Option ℕ → Option ℕ → Option Text → Option Text → Option ℕ → Option Text → Option CommandValue
command_with id nodes service journal seed cluster =
    option_and_then (λ i. option_and_then (λ n. option_and_then (λ s. option_and_then (λ j. option_and_then (λ d. option_and_then (λ c.
    fitting (record { id = i; nodes = n; service = s; journal = j; seed = d; cluster = c })) cluster) seed) journal) service) nodes) id

-- what the arguments ask for
abbrev pub command_in : List Row → Option CommandValue
command_in rows =
    command_with (number_in 1 NODES (codes "id") rows) (number_in 1 NODES (codes "nodes") rows) (first_of (codes "service") rows)
    (first_of (codes "journal") rows) (number_in 0 4294967295 (codes "seed") rows) (first_of (codes "cluster") rows)

-- the command of a command line
abbrev pub command_of : List Text → Option CommandValue
command_of words = if is_command_line words then command_in (matches_of node_app words) else None
