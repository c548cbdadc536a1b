use Rattle.rex_node.proofs.Common.{rules, sym, ◌∙◌}
use Rattle.rex_node.proofs.Following.{nack_ignored, nack_follows}
use Rattle.rex_node.proofs.node.Node.on_nack.Goals as goal

pub returns-then-own-promised : goal.returns-then-own-promised
returns-then-own-promised g c = record {
  ends = nack_follows _ _ c.requires.may.node c.requires.may.up _ _ _ (sym c.own_ballot.ensures ∙ c.in-Some.is)
      c.if-own-promised.true c.in_ok-leave-in-Some.ensures.ok c.in_ok-leave-in-Some.ensures.told;
  stuck = search rules;
  same = search rules;
}

pub returns-in_ok-tell-in-Some : goal.returns-in_ok-tell-in-Some
returns-in_ok-tell-in-Some g c = record {
  ends = nack_ignored _ _ c.requires.may.node c.requires.may.up c.args.draft.now c.tell-in-Some.new.self _ (sym c.own_ballot.ensures ∙ c.in-Some.is)
      c.if-own-promised.false c.in_ok-tell-in-Some.ensures.effects c.in_ok-tell-in-Some.ensures.sends;
  stuck = search rules;
  same = search rules;
}
