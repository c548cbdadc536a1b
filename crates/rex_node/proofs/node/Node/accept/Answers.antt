use Rattle.rex_node.proofs.Common.{rules, ap}
use Rattle.rex_durable.specs.declared.records.Rec.TheVariants as kept
use Rattle.rex_node.proofs.Promises.{appends_at, on_err_anyway, accept_down, accept_stuck, accept_on}
use Rattle.rex_node.proofs.node.Node.accept.Goals as goal

pub returns-in-Down-clause-goes : goal.returns-in-Down-clause-goes
returns-in-Down-clause-goes g c = record {
  ends = accept_down _ _ c.requires.may.node c.requires.may.up c.args.draft.now c.args.from _ _ _ c.requires.ballot c.requires.instance c.requires.value c.requires.late c.requires.fresh _ c.append.new.draft
      (appends_at _ _ _ _ _ c.args.draft.now c.append.new.draft _ (ap (kept.Accepted c.args.ballot c.args.instance) c.in_ok-copied.ensures) c.in-Down.is c.in_ok-append.ensures.appends);
  stuck = search rules;
  same = search rules;
}

pub returns-in_err-accepted-in-On-clause-goes : goal.returns-in_err-accepted-in-On-clause-goes
returns-in_err-accepted-in-On-clause-goes g c = record {
  ends = search rules;
  stuck = on_err_anyway _ _
      (accept_stuck _ _ c.requires.may.node c.requires.may.up _ c.args.from _ _ _ c.requires.ballot c.requires.instance c.requires.value c.requires.late c.requires.fresh _ c.append.new.draft
      (appends_at _ _ _ _ _ c.args.draft.now c.append.new.draft _ (ap (kept.Accepted c.args.ballot c.args.instance) c.in_ok-copied.ensures) c.in-On.is c.in_ok-append.ensures.appends)
      c.in_err-accepted-in-On.ensures.stays.keeper c.in_err-accepted-in-On.ensures.stays.base);
  same = search rules;
}

pub returns-in_err-vote-in-On-clause-goes : goal.returns-in_err-vote-in-On-clause-goes
returns-in_err-vote-in-On-clause-goes g c = record {
  ends = search rules;
  stuck = on_err_anyway _ _
      (accept_stuck _ _ c.requires.may.node c.requires.may.up _ c.args.from _ _ _ c.requires.ballot c.requires.instance c.requires.value c.requires.late c.requires.fresh _ c.append.new.draft
      (appends_at _ _ _ _ _ c.args.draft.now c.append.new.draft _ (ap (kept.Accepted c.args.ballot c.args.instance) c.in_ok-copied.ensures) c.in-On.is c.in_ok-append.ensures.appends)
      c.in_ok-accepted-in-On.ensures.stays.keeper c.in_ok-accepted-in-On.ensures.stays.base);
  same = search rules;
}

pub returns-clause-goes : goal.returns-clause-goes
returns-clause-goes g c = record {
  ends = accept_on _ _ c.requires.may.node c.requires.may.up c.args.draft.now _ _ _ _ c.requires.ballot c.requires.instance c.requires.value c.requires.late c.requires.fresh _ _
      (appends_at _ _ _ _ _ c.args.draft.now c.append.new.draft _ (ap (kept.Accepted c.args.ballot c.args.instance) c.in_ok-copied.ensures) c.in-On.is c.in_ok-append.ensures.appends)
      c.in_ok-accepted-in-On.ensures.accepted c.in_ok-accepted-in-On.ensures.told c.in_ok-vote-in-On.ensures;
  stuck = search rules;
  same = search rules;
}
