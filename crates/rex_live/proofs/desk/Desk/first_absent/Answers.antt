use Rattle.std.proofs.Common.{◌≡◌, ℕ, false}
use Rattle.std.specs.Prelude.{None}
use Rattle.rex_live.specs.Floor.{next_event}
use Rattle.rex_live.specs.Lent.{is_out}
use Rattle.rex_live.specs.Desk.{has_begun}
use Rattle.rex_live.proofs.Below.{one_more}
use Rattle.rex_live.proofs.desk.Desk.first_absent.Goals as goal

pub loop-lane-preserved : goal.loop-lane-preserved
loop-lane-preserved g c = (
  one_more (λ (lane : ℕ). has_begun c.args.self.now.begun lane ≡ false → is_out c.args.self.now.out lane ≡ false) c.loop-lane.lane c.loop-lane.invariant.0 (c.in_ok-is_absent.ensures.back c.if-branch.false),
  one_more (λ (lane : ℕ). has_begun c.args.self.now.begun lane ≡ false → next_event g.S.Setting.service g.S.Setting.requests c.args.self.now.floor lane ≡ None) c.loop-lane.lane c.loop-lane.invariant.1 (c.in_ok-is_absent.ensures.stays c.if-branch.false),
)
