use Rattle.rex_node.proofs.Common.{rules, refl}
use Rattle.rex_durable.specs.declared.records.Rec.TheVariants as kept
use Rattle.rex_node.proofs.Promises.{appends_at, on_err_anyway, raise_down, raise_stuck, raise_on}
use Rattle.rex_node.proofs.node.Node.raise.Goals as goal

pub returns-in-Down-clause-goes : goal.returns-in-Down-clause-goes
returns-in-Down-clause-goes g c = record {
  ends = raise_down _ _ c.requires.may.node c.requires.may.up c.args.draft.now c.args.from _ _ c.requires.ballot c.requires.late c.requires.above _ c.append.new.draft
      (appends_at _ _ _ _ _ c.args.draft.now c.append.new.draft (kept.Promised c.args.ballot) refl c.in-Down.is c.in_ok-append.ensures.appends);
  stuck = search rules;
  same = search rules;
}

pub returns-in_err-raised-in-On-clause-goes : goal.returns-in_err-raised-in-On-clause-goes
returns-in_err-raised-in-On-clause-goes g c = record {
  ends = search rules;
  stuck = on_err_anyway _ _
      (raise_stuck _ _ c.requires.may.node c.requires.may.up _ c.args.from _ _ c.requires.ballot c.requires.late c.requires.above _ c.append.new.draft
      (appends_at _ _ _ _ _ c.args.draft.now c.append.new.draft (kept.Promised c.args.ballot) refl c.in-On.is c.in_ok-append.ensures.appends)
      c.in_err-raised-in-On.ensures.stays.keeper c.in_err-raised-in-On.ensures.stays.base);
  same = search rules;
}

pub returns-in_err-promise-in-On-clause-goes : goal.returns-in_err-promise-in-On-clause-goes
returns-in_err-promise-in-On-clause-goes g c = record {
  ends = search rules;
  stuck = on_err_anyway _ _
      (raise_stuck _ _ c.requires.may.node c.requires.may.up _ c.args.from _ _ c.requires.ballot c.requires.late c.requires.above _ c.append.new.draft
      (appends_at _ _ _ _ _ c.args.draft.now c.append.new.draft (kept.Promised c.args.ballot) refl c.in-On.is c.in_ok-append.ensures.appends)
      c.in_ok-raised-in-On.ensures.stays.keeper c.in_ok-raised-in-On.ensures.stays.base);
  same = search rules;
}

pub returns-clause-goes : goal.returns-clause-goes
returns-clause-goes g c = record {
  ends = raise_on _ _ c.requires.may.node c.requires.may.up c.args.draft.now _ _ _ c.requires.ballot c.requires.late c.requires.above _ _
      (appends_at _ _ _ _ _ c.args.draft.now c.append.new.draft (kept.Promised c.args.ballot) refl c.in-On.is c.in_ok-append.ensures.appends)
      c.in_ok-raised-in-On.ensures.raised c.in_ok-raised-in-On.ensures.told c.in_ok-promise-in-On.ensures;
  stuck = search rules;
  same = search rules;
}
