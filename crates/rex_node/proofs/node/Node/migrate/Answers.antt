use Rattle.rex_node.proofs.Common.{rules, [], ◌∷◌, Err, sym, ap, subst, ◌∙◌, IsSound, IsLimited, Two, record_bytes, IsCheckpoint, whole}
use Rattle.rex_report.specs.declared.effect.Effect.TheVariants as effect
use Rattle.rex_node.specs.Checkpointing.{MigratesOr}
use Rattle.rex_node.proofs.Ending.{stands_own}
use Rattle.rex_node.proofs.SavedAgain.{fell_does, fell_down, fell_stays, migrated_does, migrated_down, migrated_stays, spelling, start_limited, start_sound}
use Rattle.rex_node.proofs.Migrated.{spells_again, spells_anyway, spells_as, spells_itself}
use Rattle.rex_node.proofs.node.Node.migrate.Goals as goal

pub record_of-requires-clause-sound : goal.record_of-requires-clause-sound
record_of-requires-clause-sound g c =
    subst (λ x. IsSound c.args.svc.now x.start) (sym c.self.view_is)
    (start_sound c.requires.node (sym c.migrate_refusal.ensures ∙ c.in_default.is) c.declarations-service.ensures.sound c.declarations-service.ensures.checked)

pub record_of-requires-clause-limited : goal.record_of-requires-clause-limited
record_of-requires-clause-limited g c =
    subst (λ x. IsLimited x.start) (sym c.self.view_is)
    (start_limited c.requires.node (sym c.migrate_refusal.ensures ∙ c.in_default.is) c.declarations-service.ensures.sound c.declarations-service.ensures.checked)

pub save_again-requires-clause-spelling : goal.save_again-requires-clause-spelling
save_again-requires-clause-spelling g c =
    spelling _ g.K.Keeper.append_gives g.K.Keeper.faults _ _ _ c.requires.node (sym c.migrate_refusal.ensures ∙ c.in_default.is) _ (subst (λ x. IsCheckpoint c.args.svc.now Two x.base x.start c.in_ok-rec.rec) c.self.view_is c.in_ok-rec.ensures)

pub returns-in-Ok-clause-performs : goal.returns-in-Ok-clause-performs
returns-in-Ok-clause-performs g c = record {
  refused = search rules;
  told = migrated_does _ _ _ _ _ _ c.requires.node (sym c.migrate_refusal.ensures ∙ c.in_default.is) _ (subst (λ x. IsCheckpoint c.args.svc.now Two x.base x.start c.in_ok-rec.rec) c.self.view_is c.in_ok-rec.ensures)
      _ (record { effects = c.in_ok-migrated.migrated; sends = c.new-sends.result }) c.new-sends.ensures (subst (MigratesOr g.K.Keeper.records g.K.Keeper.faults g.K.Keeper.append_gives (whole g.P.Past.past c.args.self.now) (whole g.P.Past.past c.save_again.new.self) (record_bytes c.in_ok-rec.rec)) c.in-Ok.is c.save_again.ensures) (c.in_ok-migrated.ensures ∙ ap (λ x. effect.Migrated x.id x.base ∷ []) c.self.view_is);
  down = migrated_down _ _ _ _ _ _ c.requires.node (sym c.migrate_refusal.ensures ∙ c.in_default.is) _ (subst (λ x. IsCheckpoint c.args.svc.now Two x.base x.start c.in_ok-rec.rec) c.self.view_is c.in_ok-rec.ensures)
      _ (record { effects = c.in_ok-migrated.migrated; sends = c.new-sends.result }) c.new-sends.ensures (subst (MigratesOr g.K.Keeper.records g.K.Keeper.faults g.K.Keeper.append_gives (whole g.P.Past.past c.args.self.now) (whole g.P.Past.past c.save_again.new.self) (record_bytes c.in_ok-rec.rec)) c.in-Ok.is c.save_again.ensures) (c.in_ok-migrated.ensures ∙ ap (λ x. effect.Migrated x.id x.base ∷ []) c.self.view_is);
  left = search rules;
  same = search rules;
  kept = migrated_stays _ _ _ _ _ _ c.requires.node (sym c.migrate_refusal.ensures ∙ c.in_default.is) _ (subst (λ x. IsCheckpoint c.args.svc.now Two x.base x.start c.in_ok-rec.rec) c.self.view_is c.in_ok-rec.ensures)
      _ (record { effects = c.in_ok-migrated.migrated; sends = c.new-sends.result }) c.new-sends.ensures (subst (MigratesOr g.K.Keeper.records g.K.Keeper.faults g.K.Keeper.append_gives (whole g.P.Past.past c.args.self.now) (whole g.P.Past.past c.save_again.new.self) (record_bytes c.in_ok-rec.rec)) c.in-Ok.is c.save_again.ensures) (c.in_ok-migrated.ensures ∙ ap (λ x. effect.Migrated x.id x.base ∷ []) c.self.view_is);
}

pub returns-in-Err-Failed-clause-performs : goal.returns-in-Err-Failed-clause-performs
returns-in-Err-Failed-clause-performs g c = record {
  refused = search rules;
  told = fell_does _ _ _ _ _ _ c.requires.node (sym c.migrate_refusal.ensures ∙ c.in_default.is) _ (subst (λ x. IsCheckpoint c.args.svc.now Two x.base x.start c.in_ok-rec.rec) c.self.view_is c.in_ok-rec.ensures)
      _ (record { effects = c.in_ok-down.down; sends = c.new-sends.result }) c.new-sends.ensures (subst (MigratesOr g.K.Keeper.records g.K.Keeper.faults g.K.Keeper.append_gives (whole g.P.Past.past c.args.self.now) (whole g.P.Past.past c.save_again.new.self) (record_bytes c.in_ok-rec.rec)) (c.in-Err-Failed.is ∙ ap Err c.in-Err-Failed.field-0-is) c.save_again.ensures) (c.in_ok-down.ensures ∙ ap (λ x. effect.Down x.id ∷ []) c.self.view_is);
  down = fell_down _ _ _ _ _ _ c.requires.node (sym c.migrate_refusal.ensures ∙ c.in_default.is) _ (subst (λ x. IsCheckpoint c.args.svc.now Two x.base x.start c.in_ok-rec.rec) c.self.view_is c.in_ok-rec.ensures)
      _ (record { effects = c.in_ok-down.down; sends = c.new-sends.result }) c.new-sends.ensures (subst (MigratesOr g.K.Keeper.records g.K.Keeper.faults g.K.Keeper.append_gives (whole g.P.Past.past c.args.self.now) (whole g.P.Past.past c.save_again.new.self) (record_bytes c.in_ok-rec.rec)) (c.in-Err-Failed.is ∙ ap Err c.in-Err-Failed.field-0-is) c.save_again.ensures) (c.in_ok-down.ensures ∙ ap (λ x. effect.Down x.id ∷ []) c.self.view_is);
  left = search rules;
  same = search rules;
  kept = fell_stays _ _ _ _ _ _ c.requires.node (sym c.migrate_refusal.ensures ∙ c.in_default.is) _ (subst (λ x. IsCheckpoint c.args.svc.now Two x.base x.start c.in_ok-rec.rec) c.self.view_is c.in_ok-rec.ensures)
      _ (record { effects = c.in_ok-down.down; sends = c.new-sends.result }) c.new-sends.ensures (subst (MigratesOr g.K.Keeper.records g.K.Keeper.faults g.K.Keeper.append_gives (whole g.P.Past.past c.args.self.now) (whole g.P.Past.past c.save_again.new.self) (record_bytes c.in_ok-rec.rec)) (c.in-Err-Failed.is ∙ ap Err c.in-Err-Failed.field-0-is) c.save_again.ensures) (c.in_ok-down.ensures ∙ ap (λ x. effect.Down x.id ∷ []) c.self.view_is);
}

pub returns-clause-performs : goal.returns-clause-performs
returns-clause-performs g c = record {
  refused = search rules;
  told = search rules;
  down = search rules;
  left = stands_own _
      (subst (MigratesOr g.K.Keeper.records g.K.Keeper.faults g.K.Keeper.append_gives (whole g.P.Past.past c.args.self.now) (whole g.P.Past.past c.save_again.new.self) (record_bytes c.in_ok-rec.rec)) (c.in-Err-OutOfMemory.is ∙ ap Err c.in-Err-OutOfMemory.field-0-is) c.save_again.ensures);
  same = search rules;
  kept = search rules;
}

pub returns-in-Some-clause-again : goal.returns-in-Some-clause-again
returns-in-Some-clause-again g c = spells_itself

pub returns-in_err-rec-clause-again : goal.returns-in_err-rec-clause-again
returns-in_err-rec-clause-again g c = spells_itself

pub returns-in_err-migrated-clause-again : goal.returns-in_err-migrated-clause-again
returns-in_err-migrated-clause-again g c = spells_itself

pub returns-in_err-down-clause-again : goal.returns-in_err-down-clause-again
returns-in_err-down-clause-again g c = spells_itself

pub returns-in-Ok-clause-again : goal.returns-in-Ok-clause-again
returns-in-Ok-clause-again g c = λ rs h.
    spells_again g.K.Keeper.append_gives g.K.Keeper.faults c.requires.node (sym c.migrate_refusal.ensures ∙ c.in_default.is) (subst (λ x. IsCheckpoint c.args.svc.now Two x.base x.start c.in_ok-rec.rec) c.self.view_is c.in_ok-rec.ensures) h
    (subst (MigratesOr g.K.Keeper.records g.K.Keeper.faults g.K.Keeper.append_gives (whole g.P.Past.past c.args.self.now) (whole g.P.Past.past c.save_again.new.self) (record_bytes c.in_ok-rec.rec)) c.in-Ok.is c.save_again.ensures).records_are

pub returns-in-Err-Failed-clause-again : goal.returns-in-Err-Failed-clause-again
returns-in-Err-Failed-clause-again g c = λ rs h.
    let k = (subst (MigratesOr g.K.Keeper.records g.K.Keeper.faults g.K.Keeper.append_gives (whole g.P.Past.past c.args.self.now) (whole g.P.Past.past c.save_again.new.self) (record_bytes c.in_ok-rec.rec)) (c.in-Err-Failed.is ∙ ap Err c.in-Err-Failed.field-0-is) c.save_again.ensures) in
    spells_anyway g.K.Keeper.append_gives g.K.Keeper.faults c.requires.node (sym c.migrate_refusal.ensures ∙ c.in_default.is) (subst (λ x. IsCheckpoint c.args.svc.now Two x.base x.start c.in_ok-rec.rec) c.self.view_is c.in_ok-rec.ensures) h
    k.kept k.records

pub returns-clause-again : goal.returns-clause-again
returns-clause-again g c =
    spells_as g.K.Keeper.records c.args.self.now c.save_again.new.self
    (subst (MigratesOr g.K.Keeper.records g.K.Keeper.faults g.K.Keeper.append_gives (whole g.P.Past.past c.args.self.now) (whole g.P.Past.past c.save_again.new.self) (record_bytes c.in_ok-rec.rec)) (c.in-Err-OutOfMemory.is ∙ ap Err c.in-Err-OutOfMemory.field-0-is) c.save_again.ensures).records
