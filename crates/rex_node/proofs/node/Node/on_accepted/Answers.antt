use Rattle.rex_node.proofs.Common.{rules, [], ◌∷◌, ◌++◌, ap, sym, ◌∙◌}
use Rattle.rex_node.proofs.Votes.{vote_counted, vote_ignored, vote_one}
use Rattle.rex_node.proofs.node.Node.on_accepted.Goals as goal

pub returns-in_ok-tell-in-Ignored : goal.returns-in_ok-tell-in-Ignored
returns-in_ok-tell-in-Ignored g c = record {
  ends = vote_ignored _ _ _ _ _ _ c.requires.may.node c.requires.may.up _ _ _ c.requires.from c.args.draft.now
      (sym c.acceptance_vote.ensures ∙ c.in-Ignored.is) c.tell.new.self (c.in_ok-tell-in-Ignored.ensures.effects ∙ ap (λ e. c.args.draft.now.effects.items ++ e ∷ []) c.told_of.ensures) c.in_ok-tell-in-Ignored.ensures.sends;
  stuck = search rules;
  same = search rules;
}

pub count_acceptance-requires : goal.count_acceptance-requires
count_acceptance-requires g c = record {
  from = vote_one _ g.K.Keeper.append_gives g.K.Keeper.faults _ _ _ c.requires.may.node c.requires.may.up _ c.args.ballot c.args.instance c.requires.from c.args.draft.now;
}

pub returns-in_ok-tell-in-NotYet : goal.returns-in_ok-tell-in-NotYet
returns-in_ok-tell-in-NotYet g c = record {
  ends = vote_counted _ _ _ _ _ _ c.requires.may.node c.requires.may.up _ _ _ c.requires.from c.args.draft.now
      (sym c.acceptance_vote.ensures ∙ c.in-NotYet.is) c.count_acceptance.ensures c.tell-in-NotYet.new.self c.in_ok-tell-in-NotYet.ensures.effects c.in_ok-tell-in-NotYet.ensures.sends;
  stuck = search rules;
  same = search rules;
}
