use Rattle.rex_node.proofs.Common.{◌≡◌, length, true, refl, sym, ap, subst, ◌∙◌, receive, CallHere, known, service_of, values_fit, content_in, whole, rules}
use Rattle.rex_node.proofs.Ending.{HasCome, begins, told, down, left, kept}
use Rattle.rex_node.proofs.Executing.{up_of}
use Rattle.rex_cluster.proofs.CallLaws.{replies_quiet}
use Rattle.rex_cluster.proofs.Quiet.{receive_well}
use Rattle.rex_node.proofs.AsTold.{finish_keeps, none_kept, then_kept}
use Rattle.rex_node.proofs.node.Node.on_message.Given as given
use Rattle.rex_node.proofs.node.Node.on_message.Goals as goal

-- the model's call
abbrev call : (g : given.Over) → goal.After-finish g → CallHere → CallHere
call g c = receive c.args.self.now.nodes (service_of c.args.svc.now c.args.self.now.seed) c.args.self.now.id c.args.message.now.from (content_in g.P.Past.past c.args.message.now.content)

-- how the call came to its end
come : (g : given.Over) (c : goal.After-finish g) → HasCome g.K.Keeper.records g.K.Keeper.append_gives g.K.Keeper.faults c.args.svc.now g.P.Past.past (call g c) (whole g.P.Past.past c.args.self.now) (whole g.P.Past.past c.receive-end.new.self) (whole g.P.Past.past c.finish.new.self) c.len-before.result c.new-draft.result c.receive-end.new.draft c.receive-end.result c.finish.result
come g c = record {
  node = c.requires.node;
  up = up_of _ _ (sym c.up_refusal.ensures ∙ c.in_default.is);
  many = c.len-before.ensures ∙ ap (λ n. length (g.K.Keeper.records n.keeper)) c.self.view_is;
  effects = c.new-draft.ensures.effects;
  sends = c.new-draft.ensures.sends;
  ends = c.receive-end.ensures.goes.ends;
  stuck = c.receive-end.ensures.goes.stuck;
  same = c.receive-end.ensures.goes.same;
  finishes = c.finish.ensures;
}

pub receive-end-requires-clause-runs : goal.receive-end-requires-clause-runs
receive-end-requires-clause-runs g c =
    subst (λ d. values_fit c.args.svc.now (known (receive c.args.self.now.nodes (service_of c.args.svc.now c.args.self.now.seed) c.args.self.now.id c.args.message.now.from (content_in g.P.Past.past c.args.message.now.content) d).node.log) ≡ true)
    (sym (begins g.K.Keeper.records c.args.svc.now g.P.Past.past (whole g.P.Past.past c.args.self.now) c.new-draft.result c.new-draft.ensures.effects c.new-draft.ensures.sends))
    c.requires.runs

pub returns-clause-performs : goal.returns-clause-performs
returns-clause-performs g c = record {
  refused = search rules;
  told = told (come g c);
  tells = search rules;
  down = down (come g c)
      (receive_well c.args.self.now.nodes (service_of c.args.svc.now c.args.self.now.seed) c.args.self.now.id (replies_quiet c.args.svc.now c.args.self.now.seed) c.args.message.now.from (content_in g.P.Past.past c.args.message.now.content) _ (record { armed = refl; quiet = λ id h. h })).quiet;
  left = left _ _ (come g c);
  same = search rules;
  kept = kept (come g c);
}

pub returns-in-Some-clause-taken : goal.returns-in-Some-clause-taken
returns-in-Some-clause-taken g c = none_kept _ _

pub returns-in_err-told-clause-taken : goal.returns-in_err-told-clause-taken
returns-in_err-told-clause-taken g c = none_kept _ _

pub returns-clause-taken : goal.returns-clause-taken
returns-clause-taken g c =
    then_kept g.K.Keeper.records _ _ c.receive-end.new.self c.finish.new.self
    (finish_keeps _ _ c.receive-end.new.draft _ _ _ _ c.finish.ensures)
    c.receive-end.ensures.taken
