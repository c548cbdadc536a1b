use Rattle.rex_node.proofs.Common.{rules, ap, sym, ◌∙◌, length, begin, elect, service_of, here_of, whole, armed_with}
use Rattle.rex_cluster.proofs.TellNone.{elect_tells_none}
use Rattle.rex_node.proofs.Candidates.{elect_quiet, elected}
use Rattle.rex_node.proofs.Ending.{HasCome, told, down, left, kept}
use Rattle.rex_node.proofs.Told.{steps_tell}
use Rattle.rex_node.proofs.node.Node.elect.Given.{Over}
use Rattle.rex_node.proofs.node.Node.elect.Goals as goal

-- how the call came to its end
come : (g : Over) (c : goal.After-finish g)
    → HasCome g.K.Keeper.records g.K.Keeper.append_gives g.K.Keeper.faults c.args.svc.now g.P.Past.past (elect c.args.self.now.nodes (service_of c.args.svc.now c.args.self.now.seed) c.args.self.now.id)
    (whole g.P.Past.past c.args.self.now) (whole g.P.Past.past c.stand-end.new.self) (whole g.P.Past.past c.finish.new.self) c.len-before.result c.new-draft.result c.stand-end.new.draft c.stand-end.result c.finish.result
come g c =
    elected _ _ _ _ _ _ _ _ _ _ c.stand-end.new.draft
    c.requires.node (sym c.up_refusal.ensures ∙ c.in_default.is) (c.len-before.ensures ∙ ap (λ n. length (g.K.Keeper.records n.keeper)) c.self.view_is) c.new-draft.ensures.effects c.new-draft.ensures.sends
    c.stand-end.ensures.ends c.stand-end.ensures.stuck c.stand-end.ensures.same c.finish.ensures

pub returns : goal.returns
returns g c = record {
  refused = search rules;
  told = told (come g c);
  tells = let n = c.args.self.now.nodes in
      let sv = service_of c.args.svc.now c.args.self.now.seed in
      steps_tell g.K.Keeper.records g.K.Keeper.append_gives g.K.Keeper.faults c.args.svc.now g.P.Past.past (elect n sv c.args.self.now.id) c.args.self.now c.finish.new.self c.finish.result
      (λ f. elect_tells_none n sv c.args.self.now.id (armed_with f (begin (here_of g.K.Keeper.records c.args.svc.now g.P.Past.past c.args.self.now))) tt) (told (come g c));
  down = down (come g c)
      (elect_quiet g.K.Keeper.records g.K.Keeper.append_gives g.K.Keeper.faults c.args.svc.now g.P.Past.past (whole g.P.Past.past c.args.self.now) (whole g.P.Past.past c.stand-end.new.self) (whole g.P.Past.past c.finish.new.self) c.len-before.result c.new-draft.result c.stand-end.new.draft);
  left = left _ _ (come g c);
  same = search rules;
  kept = kept (come g c);
}
