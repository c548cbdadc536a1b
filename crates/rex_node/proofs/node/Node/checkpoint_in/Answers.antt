use Rattle.rex_node.proofs.Common.{rules, [], ◌∷◌, Err, sym, ap, subst, ◌∙◌, record_bytes, IsCheckpoint, whole}
use Rattle.rex_report.specs.declared.effect.Effect.TheVariants as effect
use Rattle.rex_node.specs.Checkpointing.{SavesOr}
use Rattle.rex_node.proofs.Ending.{stands_own}
use Rattle.rex_node.proofs.Saved.{fell_does, replayed_limited, replayed_sound_now, saved_does, saved_stays, spelling}
use Rattle.rex_node.proofs.node.Node.checkpoint_in.Goals as goal

pub record_of-requires-clause-sound : goal.record_of-requires-clause-sound
record_of-requires-clause-sound g c =
    replayed_sound_now c.requires.node (sym c.checkpoint_refusal.ensures ∙ c.in_default.is)
    (c.in_ok-state.ensures ∙ c.state.ensures.replayed) c.declarations-service.ensures.sound c.declarations-service.ensures.checked

pub record_of-requires-clause-limited : goal.record_of-requires-clause-limited
record_of-requires-clause-limited g c =
    replayed_limited c.requires.node (sym c.checkpoint_refusal.ensures ∙ c.in_default.is)
    (c.in_ok-state.ensures ∙ c.state.ensures.replayed) c.declarations-service.ensures.sound c.declarations-service.ensures.checked

pub save-requires-clause-spelling : goal.save-requires-clause-spelling
save-requires-clause-spelling g c =
    spelling _ g.K.Keeper.append_gives g.K.Keeper.faults _ _ _ c.requires.node (sym c.checkpoint_refusal.ensures ∙ c.in_default.is) _ _ (c.in_ok-state.ensures ∙ c.state.ensures.replayed) _ (subst (λ n. IsCheckpoint c.args.svc.now c.args.version n c.in_ok-state.state c.in_ok-rec.rec) (ap (λ x. x.replayed) c.self.view_is) c.in_ok-rec.ensures)

pub returns-in-Ok : goal.returns-in-Ok
returns-in-Ok g c = record {
  refused = search rules;
  told = saved_does _ _ _ _ _ _ c.requires.node (sym c.checkpoint_refusal.ensures ∙ c.in_default.is) _ _ (c.in_ok-state.ensures ∙ c.state.ensures.replayed) _ (subst (λ n. IsCheckpoint c.args.svc.now c.args.version n c.in_ok-state.state c.in_ok-rec.rec) (ap (λ x. x.replayed) c.self.view_is) c.in_ok-rec.ensures)
      _ (record { effects = c.in_ok-saved.saved; sends = c.new-sends.result }) c.new-sends.ensures (subst (SavesOr g.K.Keeper.records g.K.Keeper.faults g.K.Keeper.append_gives c.args.version (whole g.P.Past.past c.args.self.now) (whole g.P.Past.past c.save.new.self) c.in_ok-state.state (record_bytes c.in_ok-rec.rec)) c.in-Ok.is c.save.ensures) (c.in_ok-saved.ensures ∙ ap (λ x. effect.Checkpointed x.id x.replayed ∷ []) c.self.view_is);
  down = search rules;
  left = search rules;
  same = search rules;
  kept = saved_stays _ _ _ _ _ _ c.requires.node (sym c.checkpoint_refusal.ensures ∙ c.in_default.is) _ _ (c.in_ok-state.ensures ∙ c.state.ensures.replayed) _ (subst (λ n. IsCheckpoint c.args.svc.now c.args.version n c.in_ok-state.state c.in_ok-rec.rec) (ap (λ x. x.replayed) c.self.view_is) c.in_ok-rec.ensures)
      _ (record { effects = c.in_ok-saved.saved; sends = c.new-sends.result }) c.new-sends.ensures (subst (SavesOr g.K.Keeper.records g.K.Keeper.faults g.K.Keeper.append_gives c.args.version (whole g.P.Past.past c.args.self.now) (whole g.P.Past.past c.save.new.self) c.in_ok-state.state (record_bytes c.in_ok-rec.rec)) c.in-Ok.is c.save.ensures) (c.in_ok-saved.ensures ∙ ap (λ x. effect.Checkpointed x.id x.replayed ∷ []) c.self.view_is);
}

pub returns-in-Err-Failed : goal.returns-in-Err-Failed
returns-in-Err-Failed g c = record {
  refused = search rules;
  told = fell_does _ _ _ _ _ _ c.requires.node (sym c.checkpoint_refusal.ensures ∙ c.in_default.is) _ _ (c.in_ok-state.ensures ∙ c.state.ensures.replayed) _ (subst (λ n. IsCheckpoint c.args.svc.now c.args.version n c.in_ok-state.state c.in_ok-rec.rec) (ap (λ x. x.replayed) c.self.view_is) c.in_ok-rec.ensures)
      _ (record { effects = c.in_ok-down.down; sends = c.new-sends.result }) c.new-sends.ensures (subst (SavesOr g.K.Keeper.records g.K.Keeper.faults g.K.Keeper.append_gives c.args.version (whole g.P.Past.past c.args.self.now) (whole g.P.Past.past c.save.new.self) c.in_ok-state.state (record_bytes c.in_ok-rec.rec)) (c.in-Err-Failed.is ∙ ap Err c.in-Err-Failed.field-0-is) c.save.ensures) (c.in_ok-down.ensures ∙ ap (λ x. effect.Down x.id ∷ []) c.self.view_is);
  down = search rules;
  left = search rules;
  same = search rules;
  kept = search rules;
}

pub returns : goal.returns
returns g c = record {
  refused = search rules;
  told = search rules;
  down = search rules;
  left = stands_own _
      (subst (SavesOr g.K.Keeper.records g.K.Keeper.faults g.K.Keeper.append_gives c.args.version (whole g.P.Past.past c.args.self.now) (whole g.P.Past.past c.save.new.self) c.in_ok-state.state (record_bytes c.in_ok-rec.rec)) (c.in-Err-OutOfMemory.is ∙ ap Err c.in-Err-OutOfMemory.field-0-is) c.save.ensures);
  same = search rules;
  kept = search rules;
}
