use Rattle.std.proofs.Common.{◌≡◌, ◌<◌, ℕ}
use Rattle.std.specs.Prelude.{None}
use Rattle.rex_live.specs.Floor.{next_event}
use Rattle.rex_live.proofs.desk.Desk.is_over.Given as goal

abbrev pub invariant-loop-lane : goal.invariant-loop-lane
invariant-loop-lane g l = (lane : ℕ) → lane < l.lane → next_event g.S.Setting.service g.S.Setting.requests l.self.floor lane ≡ None
