use Rattle.std.proofs.Common.{◌≡◌, ◌<◌, ℕ, false}
use Rattle.std.specs.Prelude.{None}
use Rattle.rex_live.specs.Floor.{next_event}
use Rattle.rex_live.specs.Lent.{is_out}
use Rattle.rex_live.specs.Desk.{has_begun}
use Rattle.rex_live.proofs.desk.Desk.first_absent.Given as goal

abbrev pub invariant-loop-lane : goal.invariant-loop-lane
invariant-loop-lane g l =
    ((lane : ℕ) → lane < l.lane → has_begun l.self.begun lane ≡ false → is_out l.self.out lane ≡ false)
    × ((lane : ℕ) → lane < l.lane → has_begun l.self.begun lane ≡ false → next_event g.S.Setting.service g.S.Setting.requests l.self.floor lane ≡ None)
