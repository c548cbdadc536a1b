use Rattle.rex_node.proofs.Common.{rules, ◌≡◌, ◌<◌, ◌≤◌, ap, arith}
use Rattle.rex_node.proofs.Bases.{base_tells}
use Rattle.rex_node.proofs.Promises.{prepare_again, prepare_old}
use Rattle.rex_node.proofs.node.Node.on_prepare.Goals as goal

pub returns-then-first-offset-clause-goes : goal.returns-then-first-offset-clause-goes
returns-then-first-offset-clause-goes g c = record {
  ends = let more : c.args.self.now.acceptor.promised ≤ c.args.ballot = omega (arith, c.if-ballot-promised.false, c.promised-promised.ensures, ap (λ n. n.acceptor.promised) c.self.view_is) in
      let old : c.args.first ≤ c.args.self.now.offset = omega (arith, c.if-first-offset.true, c.offset.ensures, ap (λ n. n.offset) c.self.view_is) in
      prepare_old _ _ c.requires.may.node c.requires.may.up _ _ _ _ c.requires.past more old c.in_ok-tell_base.ensures;
  stuck = search rules;
  same = search rules;
}

pub returns-then-first-offset-clause-tells : goal.returns-then-first-offset-clause-tells
returns-then-first-offset-clause-tells g c none =
    base_tells g.K.Keeper.records _ (c.requires.may.node.up c.requires.may.up) c.requires.past none c.in_ok-tell_base.ensures

pub returns-clause-goes : goal.returns-clause-goes
returns-clause-goes g c = record {
  ends = let same : c.args.ballot ≡ c.args.self.now.acceptor.promised = omega (arith, c.if-ballot-promised.false, c.if-promised-ballot.false, c.promised-promised.ensures, ap (λ n. n.acceptor.promised) c.self.view_is) in
      let late : c.args.self.now.offset < c.args.first = omega (arith, c.if-first-offset.false, c.offset.ensures, ap (λ n. n.offset) c.self.view_is) in
      prepare_again _ _ c.requires.may.node c.requires.may.up _ _ _ _ same late c.in_ok-promise.ensures;
  stuck = search rules;
  same = search rules;
}
