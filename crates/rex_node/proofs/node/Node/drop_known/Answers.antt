use Rattle.rex_node.proofs.Common.{length, refl, sym, ap, ◌∙◌, service_of, here_of, whole}
use Rattle.rex_cluster.specs.Calls as calls
use Rattle.rex_node.proofs.Ending.{HasCome, told, down, left, kept}
use Rattle.rex_cluster.proofs.CallLaws.{replies_quiet}
use Rattle.rex_cluster.proofs.Quiet.{dropped_well}
use Rattle.rex_node.proofs.node.Node.drop_known.Given as given
use Rattle.rex_node.proofs.node.Node.drop_known.Goals as goal

-- how the call came to its end
come : (g : given.Over) (c : goal.After-finish g) → HasCome g.K.Keeper.records g.K.Keeper.append_gives g.K.Keeper.faults c.args.svc.now g.P.Past.past (calls.drop_known c.args.self.now.id) (whole g.P.Past.past c.args.self.now) (whole g.P.Past.past c.drop_to_base-end.new.self) (whole g.P.Past.past c.finish.new.self) c.len-before.result c.new-draft.result c.drop_to_base-end.new.draft c.drop_to_base-end.result c.finish.result
come g c = record {
  node = c.requires.node;
  up = ap (λ n. n.up) (sym c.self.view_is) ∙ c.if-not-self.false;
  many = c.len-before.ensures ∙ ap (λ n. length (g.K.Keeper.records n.keeper)) c.self.view_is;
  effects = c.new-draft.ensures.effects;
  sends = c.new-draft.ensures.sends;
  ends = c.drop_to_base-end.ensures.ends;
  stuck = c.drop_to_base-end.ensures.stuck;
  same = c.drop_to_base-end.ensures.same;
  finishes = c.finish.ensures;
}

pub returns-clause-told : goal.returns-clause-told
returns-clause-told g c = told (come g c)

pub returns-clause-down : goal.returns-clause-down
returns-clause-down g c =
    down (come g c)
    (dropped_well c.args.self.now.nodes (service_of c.args.svc.now c.args.self.now.seed) c.args.self.now.id (replies_quiet c.args.svc.now c.args.self.now.seed) (calls.begin (here_of g.K.Keeper.records c.args.svc.now g.P.Past.past c.args.self.now)) (record { armed = refl; quiet = λ id h. h })).quiet

pub returns-clause-left : goal.returns-clause-left
returns-clause-left g c = left _ _ (come g c)

pub returns-clause-kept : goal.returns-clause-kept
returns-clause-kept g c = kept (come g c)
