use Rattle.std.proofs.Common.{◌≡◌, ◌+◌, ℕ, max, sym, subst, rules}
use Rattle.rex_clocks.specs.Counts.{ticked}
use Rattle.rex_clocks.specs.First.{HasFirst}
use Rattle.rex_clocks.proofs.First.{first_ticked}
use Rattle.rex_clocks.proofs.clock.Clock.tick.Goals as goal

pub invariant_of-self : goal.invariant_of-self
invariant_of-self c =
    let m : c.max-self-inside.result ≡ max c.self.inside.lanes (c.args.lane + 1) = search rules in
    subst (λ (lanes : ℕ). HasFirst lanes (ticked c.self.inside.counts c.args.lane)) (sym m) (first_ticked c.self.inside.counts c.self.inside.lanes c.args.lane c.self.invariant c.requires.lane)
