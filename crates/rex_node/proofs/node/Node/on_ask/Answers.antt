use Rattle.rex_node.proofs.Common.{rules, ◌<◌, ◌≤◌, length, ap, arith, knows}
use Rattle.rex_node.proofs.Bases.{base_tells}
use Rattle.rex_node.proofs.Choices.{asked_beyond, asked_old, asked_on}
use Rattle.rex_node.proofs.node.Node.on_ask.Goals as goal

pub returns-then-first-offset-clause-goes : goal.returns-then-first-offset-clause-goes
returns-then-first-offset-clause-goes g c = record {
  ends = let old : c.args.first ≤ c.args.self.now.offset = omega (arith, c.if-first-offset.true, c.offset.ensures, ap (λ n. n.offset) c.self.view_is) in
      asked_old _ _ c.requires.may.node c.requires.may.up _ _ _ _ c.requires.past old c.in_ok-tell_base.ensures;
  stuck = search rules;
  same = search rules;
}

pub returns-then-first-offset-clause-tells : goal.returns-then-first-offset-clause-tells
returns-then-first-offset-clause-tells g c none =
    base_tells g.K.Keeper.records _ (c.requires.may.node.up c.requires.may.up) c.requires.past none c.in_ok-tell_base.ensures

pub returns-then-first-count-clause-goes : goal.returns-then-first-count-clause-goes
returns-then-first-count-clause-goes g c = record {
  ends = let late : c.args.self.now.offset < c.args.first = omega (arith, c.if-first-offset.false, c.offset.ensures, ap (λ n. n.offset) c.self.view_is) in
      let more : length (knows g.P.Past.past c.args.self.now) < c.args.first = omega (arith, c.if-first-count.true, c.count.ensures.known) in
      asked_beyond _ _ c.requires.may.node c.requires.may.up c.args.draft.now c.tell.new.self _ _ late more c.in_ok-tell.ensures.effects c.in_ok-tell.ensures.sends;
  stuck = search rules;
  same = search rules;
}

pub returns-clause-goes : goal.returns-clause-goes
returns-clause-goes g c = record {
  ends = let late : c.args.self.now.offset < c.args.first = omega (arith, c.if-first-offset.false, c.offset.ensures, ap (λ n. n.offset) c.self.view_is) in
      let few : c.args.first ≤ length (knows g.P.Past.past c.args.self.now) = omega (arith, c.if-first-count.false, c.count.ensures.known) in
      asked_on _ _ c.requires.may.node c.requires.may.up c.args.draft.now c.tell_chosen.new.draft _ _ late few c.in_ok-tell_chosen.ensures.effects c.in_ok-tell_chosen.ensures.sends;
  stuck = search rules;
  same = search rules;
}
