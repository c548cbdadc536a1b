-- How many nodes a scenario may have, and how many arguments a request.
use Rattle.std.specs.Prelude.{◌==◌, ◌&&◌, ◌%◌, ℕ, nat_le, Bool, false, Option, Some, None}
use Rattle.rex_ballot.specs.Limits.{most_nodes}
use Rattle.rex_syntax.specs.declared.service.Handler.{Handler}

-- an odd number of nodes, at most nine
abbrev pub is_node_count : ℕ → Bool
is_node_count n = n % 2 == 1 && nat_le n most_nodes

-- the handler is there, and has so many parameters
abbrev pub takes_so_many : Option Handler → ℕ → Bool
takes_so_many None count = false
takes_so_many (Some h) count = h.parameters == count
