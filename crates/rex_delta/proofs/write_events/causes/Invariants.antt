use Rattle.std.proofs.Common.{◌≡◌, ◌++◌, take}
use Rattle.std.specs.List.{flat_map}
use Rattle.rex_delta.specs.Spelling.{cause_bytes}
use Rattle.rex_delta.proofs.write_events.causes.Given as goal

abbrev pub invariant-loop-cause : goal.invariant-loop-cause
invariant-loop-cause l = l.writer ≡ l.initial.writer ++ flat_map cause_bytes (take l.cause-index l.causes)
