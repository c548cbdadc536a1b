use Rattle.std.proofs.Common.{◌≡◌, sym, ◌∙◌, max, subst, arith, rules}
use Rattle.rex_clocks.specs.First.{HasFirst}
use Rattle.rex_clocks.proofs.clock.Clock.copy_from.Goals as goal

pub at_once-requires : goal.at_once-requires
at_once-requires c =
    let m : c.max-used.result ≡ max c.self.inside.lanes c.other.inside.lanes = search rules in
    omega (arith, m, c.self.invariant.few, c.other.invariant.few)

pub copy_counts-requires-clause-beyond : goal.copy_counts-requires-clause-beyond
copy_counts-requires-clause-beyond c = λ lane past.
    let m : c.max-used.result ≡ max c.self.inside.lanes c.other.inside.lanes = search rules in
    c.self.invariant.beyond lane (omega (arith, m, c.at_once.ensures.all, past))
    ∙ sym (c.other.invariant.beyond lane (omega (arith, m, c.at_once.ensures.all, past)))

pub invariant_of-self : goal.invariant_of-self
invariant_of-self c = subst (HasFirst c.other.inside.lanes) (sym c.copy_counts.ensures) c.other.invariant
