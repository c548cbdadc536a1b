use Rattle.rex_node.proofs.Common.{rules, ◌≡◌, ◌+◌, length, ap, sym, ◌∙◌, knows}
use Rattle.rex_node.proofs.Rounds.{round_rests, round_active}
use Rattle.rex_node.proofs.node.Node.round.Goals as goal

pub returns-then-not-goes_on : goal.returns-then-not-goes_on
returns-then-not-goes_on g c = record {
  goes = round_rests _ _ c.requires.may.kept c.requires.may.up _ c.args.draft.now
      (sym c.goes_on.ensures ∙ c.if-not-goes_on.true) c.requires.may.free;
  stuck = search rules;
  same = search rules;
}

pub returns-in_ok-activate-in-None : goal.returns-in_ok-activate-in-None
returns-in_ok-activate-in-None g c = record {
  goes = let many : c.count-instance.result ≡ length (knows g.P.Past.past c.args.self.now) = c.count-instance.ensures.known in
      round_active _ _ c.requires.may.kept c.requires.may.up _ c.args.draft.now c.requires.may.enough
      (sym c.goes_on.ensures ∙ c.if-not-goes_on.false) (ap (λ n. n + 1) many) (sym c.in_ok-reported_for.ensures ∙ c.in-None.is) c.in_ok-activate-in-None.ensures.active c.activate.new.draft c.in_ok-activate-in-None.ensures.effects c.in_ok-activate-in-None.ensures.sends;
  stuck = search rules;
  same = search rules;
}
