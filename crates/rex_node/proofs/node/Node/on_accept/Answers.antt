use Rattle.rex_node.proofs.Common.{rules, ◌<◌, ◌≤◌, ap, sym, arith, ◌∙◌, answer_to_accept}
use Rattle.rex_paxos.specs.declared.answers.Asked.TheVariants as asked
use Rattle.rex_node.proofs.Bases.{base_tells}
use Rattle.rex_node.proofs.Promises.{accept_again, accept_old}
use Rattle.rex_node.proofs.node.Node.on_accept.Goals as goal

pub returns-then-instance-offset-clause-goes : goal.returns-then-instance-offset-clause-goes
returns-then-instance-offset-clause-goes g c = record {
  ends = let old : c.args.instance ≤ c.args.self.now.offset = omega (arith, c.if-instance-offset.true, c.offset.ensures, ap (λ n. n.offset) c.self.view_is) in
      accept_old _ _ c.requires.may.node c.requires.may.up _ _ _ _ c.args.value.now c.requires.past
      (ap (λ n. answer_to_accept n.acceptor c.args.ballot c.args.instance) (sym c.self.view_is) ∙ sym c.on_accept.ensures ∙ c.in-Accept.is) old c.in_ok-tell_base-in-Accept.ensures;
  stuck = search rules;
  same = search rules;
}

pub returns-then-instance-offset-clause-tells : goal.returns-then-instance-offset-clause-tells
returns-then-instance-offset-clause-tells g c none =
    base_tells g.K.Keeper.records _ (c.requires.may.node.up c.requires.may.up) c.requires.past none c.in_ok-tell_base-in-Accept.ensures

pub returns-in_ok-vote-in-Accept-clause-goes : goal.returns-in_ok-vote-in-Accept-clause-goes
returns-in_ok-vote-in-Accept-clause-goes g c = record {
  ends = let late : c.args.self.now.offset < c.args.instance = omega (arith, c.if-instance-offset.false, c.offset.ensures, ap (λ n. n.offset) c.self.view_is) in
      accept_again _ _ c.requires.may.node c.requires.may.up _ _ _ _ c.args.value.now
      (ap (λ n. answer_to_accept n.acceptor c.args.ballot c.args.instance) (sym c.self.view_is) ∙ sym c.on_accept.ensures ∙ c.in-Accept.is ∙ ap (λ t. asked.Accept t) c.if-fresh.false) late
      c.in_ok-vote-in-Accept.ensures;
  stuck = search rules;
  same = search rules;
}
