use Rattle.std.proofs.Common.{◌≡◌, length, drop}
use Rattle.rex_lockset.specs.Refusal.{refused_line}
use Rattle.rex_lockset.proofs.refusal.refused_line.Given as goal

abbrev pub invariant-loop-place : goal.invariant-loop-place
invariant-loop-place l =
    (length l.known ≡ length l.handler.lines)
    × (refused_line l.service l.number l.place l.known (drop l.place l.handler.lines) ≡ refused_line l.service l.number 0 l.fn.known l.handler.lines)
