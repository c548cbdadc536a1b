use Rattle.rex_node.proofs.Common.{rules, ◌+◌, length, ap, subst, knows}
use Rattle.rex_msg.specs.declared.message.Content.TheVariants as sent
use Rattle.rex_node.specs.Telling.{IsToldState}
use Rattle.rex_node.proofs.Moving.{snapshot_ignored, told_fits}
use Rattle.rex_node.proofs.AsTold.{none_kept}
use Rattle.rex_node.proofs.node.Node.on_snapshot.Goals as goal

pub returns-in_default-clause-goes : goal.returns-in_default-clause-goes
returns-in_default-clause-goes g c = record {
  ends = snapshot_ignored _ _ c.requires.may.node c.requires.may.up c.args.draft.now _ c.tell.new.self
      (subst (IsToldState c.args.svc.now (length (knows g.P.Past.past c.args.self.now)) (sent.Snapshot c.args.deltas c.args.snapshot.now)) c.in_default.is c.requires.told)
      (ap (λ n. n + 1) c.count.ensures.known) c.in_ok-tell.ensures.effects c.in_ok-tell.ensures.sends;
  stuck = search rules;
  same = search rules;
}

pub take_over-requires-clause-fits : goal.take_over-requires-clause-fits
take_over-requires-clause-fits g c =
    told_fits g.K.Keeper.append_gives g.K.Keeper.faults c.requires.may.node c.requires.may.up c.args.draft.now _
    (subst (IsToldState c.args.svc.now (length (knows g.P.Past.past c.args.self.now)) (sent.Snapshot c.args.deltas c.args.snapshot.now)) c.in-Some.is c.requires.told).0 c.requires.runs

pub returns-in_err-tell-clause-taken : goal.returns-in_err-tell-clause-taken
returns-in_err-tell-clause-taken g c = none_kept (sent.Snapshot c.args.deltas c.args.snapshot.now) (g.K.Keeper.records c.args.self.now.keeper)

pub returns-in_default-clause-taken : goal.returns-in_default-clause-taken
returns-in_default-clause-taken g c = none_kept (sent.Snapshot c.args.deltas c.args.snapshot.now) (g.K.Keeper.records c.args.self.now.keeper)
