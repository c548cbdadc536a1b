use Rattle.rex_node.proofs.Common.{rules, ◌+◌, arith}
use Rattle.rex_node.proofs.Following.{chosen_ignored}
use Rattle.rex_node.proofs.node.Node.on_chosen.Goals as goal

pub returns-then-instance-next : goal.returns-then-instance-next
returns-then-instance-next g c = record {
  ends = chosen_ignored g.K.Keeper.append_gives g.K.Keeper.faults c.requires.may.node c.requires.may.up c.args.draft.now c.tell.new.self c.args.instance (c.count-next.result + 1) c.args.value.now
      (omega (arith, c.count-next.ensures.known)) c.if-instance-next.true c.in_ok-tell.ensures.effects c.in_ok-tell.ensures.sends;
  stuck = search rules;
  same = search rules;
}
