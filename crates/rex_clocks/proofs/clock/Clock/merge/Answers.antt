use Rattle.std.proofs.Common.{◌≡◌, ℕ, max, sym, subst, arith, rules}
use Rattle.rex_clocks.specs.First.{HasFirst}
use Rattle.rex_clocks.proofs.First.{first_merged}
use Rattle.rex_clocks.proofs.clock.Clock.merge.Goals as goal

pub at_once-requires : goal.at_once-requires
at_once-requires c = c.other.invariant.few

pub merge_counts-requires-clause-beyond : goal.merge_counts-requires-clause-beyond
merge_counts-requires-clause-beyond c = λ lane past. c.other.invariant.beyond lane (omega (arith, c.at_once.ensures.all, past))

pub invariant_of-self : goal.invariant_of-self
invariant_of-self c =
    let m : c.max-self-inside.result ≡ max c.self.inside.lanes c.other.inside.lanes = search rules in
    let h = first_merged c.self.inside.counts c.other.inside.counts c.self.inside.lanes c.other.inside.lanes c.self.invariant c.other.invariant in
    subst (λ (lanes : ℕ). HasFirst lanes c.merge_counts.new.counts) (sym m) (subst (HasFirst (max c.self.inside.lanes c.other.inside.lanes)) (sym c.merge_counts.ensures) h)
