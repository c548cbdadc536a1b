use Rattle.rex_node.proofs.Common.{rules, ◌∷◌, inl, length, ap, subst, ◌∙◌, arith, leaving, role_of, whole, Tells, On, Down, forgetting, followed, fallen_moved}
use Rattle.std.proofs.Common.{nat_lt, is_some}
use Rattle.rex_durable.specs.declared.records.Rec.TheVariants as kept
use Rattle.rex_report.specs.declared.effect.Effect.TheVariants as effect
use Rattle.rex_node.proofs.Knows.{many_known}
use Rattle.rex_node.proofs.Moving.{followed_same, moved_down, moved_on, moved_stuck}
use Rattle.rex_node.proofs.Promises.{appends_at, on_err_anyway}
use Rattle.rex_msg.specs.declared.message.Content.TheVariants as sent
use Rattle.rex_node.proofs.AsTold.{append_kept, none_kept, then_kept}
use Rattle.rex_node.proofs.node.Node.take_over.Goals as goal

pub move_to-requires-clause-more : goal.move_to-requires-clause-more
move_to-requires-clause-more g c =
    let h = (appends_at g.K.Keeper.records g.K.Keeper.append_gives g.K.Keeper.faults (whole g.P.Past.past c.args.self.now) (whole g.P.Past.past c.append.new.self) c.args.draft.now c.append.new.draft (kept.Transferred c.args.deltas c.in_ok-snapshot.snapshot) (ap (kept.Transferred c.args.deltas) c.in_ok-snapshot.ensures) c.in-On.is c.in_ok-append.ensures.appends) in
    omega (arith, c.requires.more, many_known g.P.Past.past c.append.new.self, ap (λ n. length n.known) h.0.parts)

pub returns-in-Down-clause-goes : goal.returns-in-Down-clause-goes
returns-in-Down-clause-goes g c = record {
  ends = moved_down _ _ c.requires.may.node c.requires.may.up c.args.draft.now c.requires.more c.requires.there c.requires.value c.requires.spelled c.requires.leads c.requires.fits _ c.append.new.draft
      (appends_at _ _ _ _ _ c.args.draft.now c.append.new.draft _ (ap (kept.Transferred c.args.deltas) c.in_ok-snapshot.ensures) c.in-Down.is c.in_ok-append.ensures.appends)
      (c.fall_moved.ensures.fallen ∙ ap (λ n. fallen_moved (nat_lt n (length (g.K.Keeper.records c.append.new.self.keeper))) (whole g.P.Past.past c.append.new.self) c.args.deltas) (c.len-before.ensures ∙ ap (λ n. length (g.K.Keeper.records n.keeper)) c.self.view_is));
  stuck = search rules;
  same = search rules;
}

pub returns-in_err-tell_moved-in-On-clause-goes : goal.returns-in_err-tell_moved-in-On-clause-goes
returns-in_err-tell_moved-in-On-clause-goes g c = record {
  ends = search rules;
  stuck = on_err_anyway _ _
      (moved_stuck _ _ c.requires.may.node c.requires.may.up _ c.requires.more c.requires.there c.requires.value c.requires.spelled c.requires.leads c.requires.fits _ c.append.new.draft
      (appends_at _ _ _ _ _ c.args.draft.now c.append.new.draft _ (ap (kept.Transferred c.args.deltas) c.in_ok-snapshot.ensures) c.in-On.is c.in_ok-append.ensures.appends)
      (ap (λ n. n.keeper) (c.in_err-tell_moved-in-On.ensures.err) ∙ ap (λ n. n.keeper) c.move_to.ensures) (ap (λ n. n.base) (c.in_err-tell_moved-in-On.ensures.err) ∙ ap (λ n. n.base) c.move_to.ensures));
  same = search rules;
}

pub returns-in_ok-tell_moved-in-On-clause-goes : goal.returns-in_ok-tell_moved-in-On-clause-goes
returns-in_ok-tell_moved-in-On-clause-goes g c = record {
  ends = moved_on _ _ c.requires.may.node c.requires.may.up c.args.draft.now c.requires.more c.requires.there c.requires.value c.requires.spelled c.requires.leads c.requires.fits _ _
      (appends_at _ _ _ _ _ c.args.draft.now c.append.new.draft _ (ap (kept.Transferred c.args.deltas) c.in_ok-snapshot.ensures) c.in-On.is c.in_ok-append.ensures.appends)
      (c.in_ok-tell_moved-in-On.ensures.ok ∙ ap (λ n. leaving (whole g.P.Past.past n)) c.move_to.ensures)
      (let y = c.append.new.self in
      subst (λ es. Tells c.append.new.draft c.tell_moved.new.draft (effect.Transferred y.id c.args.deltas ∷ es)) (followed_same y.id (forgetting y.acceptor c.args.deltas) y.acceptor _ _)
      (subst (λ n. Tells c.append.new.draft c.tell_moved.new.draft (effect.Transferred n.id c.args.deltas ∷ followed n.id (role_of n.acceptor n.proposer (is_some n.acting)))) c.move_to.ensures c.in_ok-tell_moved-in-On.ensures.told));
  stuck = search rules;
  same = search rules;
}

pub returns-in_err-snapshot-clause-taken : goal.returns-in_err-snapshot-clause-taken
returns-in_err-snapshot-clause-taken g c = none_kept (sent.Snapshot c.args.deltas c.args.snapshot.now) (g.K.Keeper.records c.args.self.now.keeper)

pub returns-in_err-append-clause-taken : goal.returns-in_err-append-clause-taken
returns-in_err-append-clause-taken g c = inl c.in_err-append.ensures.stands.records

pub returns-in-Down-clause-taken : goal.returns-in-Down-clause-taken
returns-in-Down-clause-taken g c =
    then_kept g.K.Keeper.records (sent.Snapshot c.args.deltas c.args.snapshot.now) (g.K.Keeper.records c.args.self.now.keeper) c.append.new.self c.fall_moved.new.self (ap (λ n. n.keeper) c.fall_moved.ensures.fallen)
    (append_kept _ _ _ _ _ c.args.draft.now c.append.new.draft _ _ Down (appends_at _ _ _ _ _ c.args.draft.now c.append.new.draft _ (ap (kept.Transferred c.args.deltas) c.in_ok-snapshot.ensures) c.in-Down.is c.in_ok-append.ensures.appends))

pub returns-in_err-tell_moved-in-On-clause-taken : goal.returns-in_err-tell_moved-in-On-clause-taken
returns-in_err-tell_moved-in-On-clause-taken g c =
    then_kept g.K.Keeper.records (sent.Snapshot c.args.deltas c.args.snapshot.now) (g.K.Keeper.records c.args.self.now.keeper) c.append.new.self c.tell_moved.new.self (ap (λ n. n.keeper) c.in_err-tell_moved-in-On.ensures.err ∙ ap (λ n. n.keeper) c.move_to.ensures)
    (append_kept _ _ _ _ _ c.args.draft.now c.append.new.draft _ _ On (appends_at _ _ _ _ _ c.args.draft.now c.append.new.draft _ (ap (kept.Transferred c.args.deltas) c.in_ok-snapshot.ensures) c.in-On.is c.in_ok-append.ensures.appends))

pub returns-in_ok-tell_moved-in-On-clause-taken : goal.returns-in_ok-tell_moved-in-On-clause-taken
returns-in_ok-tell_moved-in-On-clause-taken g c =
    then_kept g.K.Keeper.records (sent.Snapshot c.args.deltas c.args.snapshot.now) (g.K.Keeper.records c.args.self.now.keeper) c.append.new.self c.tell_moved.new.self (ap (λ n. n.keeper) c.in_ok-tell_moved-in-On.ensures.ok ∙ ap (λ n. n.keeper) c.move_to.ensures)
    (append_kept _ _ _ _ _ c.args.draft.now c.append.new.draft _ _ On (appends_at _ _ _ _ _ c.args.draft.now c.append.new.draft _ (ap (kept.Transferred c.args.deltas) c.in_ok-snapshot.ensures) c.in-On.is c.in_ok-append.ensures.appends))
