use Rattle.rex_clocks.proofs.clock.Clock.lanes.Goals as goal

pub returns-clause-few : goal.returns-clause-few
returns-clause-few c = c.self.invariant.few

pub returns-clause-beyond : goal.returns-clause-beyond
returns-clause-beyond c = λ lane past. rw (← c.self.view_is) (c.self.invariant.beyond lane past)
