use Rattle.rex_node.proofs.Common.{rules, ◌≡◌, [], ◌∷◌, Some, ap, sym, subst, ◌∙◌, ne_eqb, Replayed, Does, reached_at, whole, replay}
use Rattle.rex_node.specs.Parts.{StaysNode}
use Rattle.rex_node.proofs.ReplayLemmas.{replay_does, replay_stays}
use Rattle.rex_node.proofs.node.Node.take_replayed.Given as given
use Rattle.rex_node.proofs.node.Node.take_replayed.Goals as goal

-- what it came to
reached_is : (g : given.Over) (c : goal.After-new g) → c.in_ok-reached.reached ≡ reached_at c.args.self.now.offset c.args.self.now.base c.count-deltas.result c.args.state
reached_is g c = c.in_ok-reached.ensures ∙ ap (λ o. reached_at o c.self.inside.base c.count-deltas.result c.args.state) c.offset.ensures ∙ ap (λ x. reached_at x.offset x.base c.count-deltas.result c.args.state) c.self.view_is

pub returns : goal.returns
returns g c = record {
  refused = search rules;
  told = subst (λ z. Does g.K.Keeper.records g.K.Keeper.append_gives g.K.Keeper.faults c.args.svc.now g.P.Past.past (replay c.args.self.now.id) (whole g.P.Past.past c.args.self.now) (whole g.P.Past.past (record z { replayed = c.count-deltas.result; ahead = Some c.args.state; reached = c.in_ok-reached.reached })) (record { effects = c.in_ok-effects.effects; sends = c.new.result }))
      (sym c.self.view_is)
      (subst (λ r. Does g.K.Keeper.records g.K.Keeper.append_gives g.K.Keeper.faults c.args.svc.now g.P.Past.past (replay c.args.self.now.id) (whole g.P.Past.past c.args.self.now) (whole g.P.Past.past (record c.args.self.now { replayed = c.count-deltas.result; ahead = Some c.args.state; reached = r })) (record { effects = c.in_ok-effects.effects; sends = c.new.result }))
      (sym (reached_is g c))
      (replay_does _ _ c.requires.node (c.replay_refusal.ensures.up c.in_default.is) (c.replay_refusal.ensures.idle c.in_default.is) c.count-deltas.ensures.known c.args.state
      (ne_eqb c.args.self.now.replayed c.count-deltas.result (λ e. c.replay_refusal.ensures.behind c.in_default.is (e ∙ c.count-deltas.ensures.known)))
      (c.in_ok-effects.ensures ∙ ap (λ x. Replayed x.id c.count-deltas.result ∷ []) c.self.view_is)
      c.new.ensures));
  same = search rules;
  keeper = search rules;
  kept = subst (λ z. StaysNode g.K.Keeper.records c.args.svc.now g.P.Past.past c.args.self.now (record z { replayed = c.count-deltas.result; ahead = Some c.args.state; reached = c.in_ok-reached.reached }))
      (sym c.self.view_is)
      (subst (λ r. StaysNode g.K.Keeper.records c.args.svc.now g.P.Past.past c.args.self.now (record c.args.self.now { replayed = c.count-deltas.result; ahead = Some c.args.state; reached = r }))
      (sym (reached_is g c))
      (replay_stays g.K.Keeper.append_gives g.K.Keeper.faults c.requires.node (c.replay_refusal.ensures.up c.in_default.is) (c.replay_refusal.ensures.idle c.in_default.is) c.count-deltas.ensures.known _ c.requires.runs));
}
