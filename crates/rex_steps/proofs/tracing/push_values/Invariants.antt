use Rattle.std.proofs.Common.{◌≡◌, ◌++◌, take}
use Rattle.rex_steps.specs.Tracing.{values_text}
use Rattle.rex_steps.proofs.tracing.push_values.Given as goal

-- the lines of the values before this one were appended
abbrev pub invariant-loop-place : goal.invariant-loop-place
invariant-loop-place l = l.out.items ≡ l.initial.out.items ++ values_text l.service 1 (take l.place l.values)
