-- Which replies a message would release, by what a process' node answers.
use Rattle.std.specs.Prelude.{Bool, true, false, Option, None}
use Rattle.rex_paxos.specs.declared.answers.Vote.{Vote}
use Rattle.rex_paxos.specs.declared.answers.Vote.TheVariants as vote
use Rattle.rex_report.specs.declared.effect.Role.{Role as RoleName}
use Rattle.rex_report.specs.declared.effect.Role.TheVariants as named
use Rattle.rex_cluster.specs.Values.{Value}

-- the acceptance makes a majority
abbrev pub is_quorum : Vote → Bool
is_quorum vote.Quorum = true
is_quorum _ = false

-- of a node of this role the open value, where it is active
abbrev pub active_value : RoleName → Option Value → Option Value
active_value named.Active value = value
active_value _ value = None
