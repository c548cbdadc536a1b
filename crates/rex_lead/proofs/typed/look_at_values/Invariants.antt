use Rattle.std.proofs.Common.{take, FitsSigned, w64}
use Rattle.std.specs.List.{All}
use Rattle.rex_lead.proofs.typed.look_at_values.Given as goal

-- the values before this one were looked at
abbrev pub invariant-loop-value : goal.invariant-loop-value
invariant-loop-value l = record { looked : All (FitsSigned w64) (take l.value-index l.values) }
