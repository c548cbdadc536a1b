use Rattle.std.proofs.Common.{◌≡◌, ◌≤◌, ◌+◌}
use Rattle.std.specs.Prelude.{IfErr}
use Rattle.rex_live.specs.Halting.{Halts}
use Rattle.rex_live.proofs.floor.try_on.Given as goal

abbrev pub invariant-loop-made : goal.invariant-loop-made
invariant-loop-made g l =
    (l.mine.parts ≡ l.fn.mine.parts)
    × (l.desk.begun ≡ l.fn.desk.begun)
    × (l.mine.amount ≤ l.fn.mine.amount + l.made)
    × IfErr l.turn (Halts g.S.Setting.service g.S.Setting.requests l.desk)
