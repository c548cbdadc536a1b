use Rattle.rex_node.proofs.Common.{rules, ap, whole}
use Rattle.rex_durable.specs.declared.records.Rec.TheVariants as kept
use Rattle.rex_node.proofs.Promises.{appends_at, on_err_anyway}
use Rattle.rex_node.proofs.Choices.{chosen_down, chosen_fits, chosen_stuck, chosen_on}
use Rattle.rex_node.proofs.Deltas.{last_spelled}
use Rattle.rex_node.proofs.node.Node.take_chosen.Goals as goal

pub returns-in-Down : goal.returns-in-Down
returns-in-Down g c = record {
  ends = chosen_down _ _ c.requires.may.node c.requires.may.up c.args.draft.now c.requires.instance c.requires.next c.requires.value _ c.append.new.draft
      (appends_at _ _ _ _ _ c.args.draft.now c.append.new.draft _ (ap (kept.Known c.args.instance) c.in_ok-copied.ensures) c.in-Down.is c.in_ok-append.ensures.appends);
  stuck = search rules;
  same = search rules;
}

pub returns-in_err-chosen-in-On : goal.returns-in_err-chosen-in-On
returns-in_err-chosen-in-On g c = record {
  ends = search rules;
  stuck = on_err_anyway _ _
      (chosen_stuck _ _ c.requires.may.node c.requires.may.up _ c.requires.instance c.requires.next c.requires.value _ c.append.new.draft
      (appends_at _ _ _ _ _ c.args.draft.now c.append.new.draft _ (ap (kept.Known c.args.instance) c.in_ok-copied.ensures) c.in-On.is c.in_ok-append.ensures.appends)
      c.in_err-chosen-in-On.ensures.stays.keeper c.in_err-chosen-in-On.ensures.stays.base);
  same = search rules;
}

pub returns : goal.returns
returns g c = record {
  ends = chosen_on _ _ c.requires.may.node c.requires.may.up c.args.draft.now c.requires.instance c.requires.next c.requires.value _ _ c.requires.runs
      (appends_at _ _ _ _ _ c.args.draft.now c.append.new.draft _ (ap (kept.Known c.args.instance) c.in_ok-copied.ensures) c.in-On.is c.in_ok-append.ensures.appends)
      c.in_ok-chosen-in-On.ensures.chosen c.in_ok-chosen-in-On.ensures.told;
  stuck = search rules;
  same = search rules;
}

pub chosen-requires-clause-delta : goal.chosen-requires-clause-delta
chosen-requires-clause-delta g c =
    last_spelled c.args.svc.now (whole g.P.Past.past c.args.self.now).known _
    (chosen_fits g.K.Keeper.append_gives g.K.Keeper.faults c.requires.may.node c.requires.may.up c.args.draft.now c.requires.instance c.requires.next c.requires.value (whole g.P.Past.past c.append.new.self) c.append.new.draft c.requires.runs)
