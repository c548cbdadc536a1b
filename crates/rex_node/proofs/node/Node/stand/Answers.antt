use Rattle.rex_node.proofs.Common.{rules, refl}
use Rattle.rex_durable.specs.declared.records.Rec.TheVariants as kept
use Rattle.rex_node.proofs.Candidates.{stand_down, stand_ends, stand_may, stand_short, stand_stuck}
use Rattle.rex_node.proofs.Promises.{appends_at, on_err_anyway}
use Rattle.rex_node.proofs.node.Node.stand.Goals as goal

pub returns-in-Down : goal.returns-in-Down
returns-in-Down g c = record {
  ends = stand_down _ _ c.requires.may.node c.requires.may.up c.requires.left c.requires.least c.args.draft.now _ c.append.new.draft
      (appends_at _ _ _ _ _ c.args.draft.now c.append.new.draft (kept.Promised c.args.ballot) refl c.in-Down.is c.in_ok-append.ensures.appends);
  stuck = search rules;
  same = search rules;
}

pub returns-in_err-turns-in-On : goal.returns-in_err-turns-in-On
returns-in_err-turns-in-On g c = record {
  ends = search rules;
  stuck = on_err_anyway _ _
      (stand_stuck _ _ c.requires.may.node c.requires.may.up c.requires.left c.requires.least _ _ c.append.new.draft
      (appends_at _ _ _ _ _ c.args.draft.now c.append.new.draft (kept.Promised c.args.ballot) refl c.in-On.is c.in_ok-append.ensures.appends)
      c.in_err-turns-in-On.ensures.stays.keeper c.in_err-turns-in-On.ensures.stays.base);
  same = search rules;
}

pub go_on-requires : goal.go_on-requires
go_on-requires g c = record {
  may = stand_may _ _ c.requires.may.node c.requires.may.up c.requires.left c.requires.least c.args.draft.now _ c.append.new.draft
      (appends_at _ _ _ _ _ c.args.draft.now c.append.new.draft (kept.Promised c.args.ballot) refl c.in-On.is c.in_ok-append.ensures.appends)
      c.in_ok-turns-in-On.ensures.stands c.in_ok-turns-in-On.ensures.turns
      c.candidate.new.draft c.in_ok-turns-in-On.ensures.effects c.in_ok-turns-in-On.ensures.sends c.requires.runs c.requires.may.count;
}

pub returns : goal.returns
returns g c = record {
  ends = stand_ends _ _ c.requires.may.node c.requires.may.up c.requires.left c.requires.least c.args.draft.now _ c.append.new.draft
      (appends_at _ _ _ _ _ c.args.draft.now c.append.new.draft (kept.Promised c.args.ballot) refl c.in-On.is c.in_ok-append.ensures.appends)
      c.in_ok-turns-in-On.ensures.stands c.in_ok-turns-in-On.ensures.turns
      c.candidate.new.draft c.in_ok-turns-in-On.ensures.effects c.in_ok-turns-in-On.ensures.sends _ c.go_on.new.draft _ c.go_on.ensures.ends;
  stuck = stand_short _ _ c.requires.may.node c.requires.may.up c.requires.left c.requires.least _ _ c.append.new.draft
      (appends_at _ _ _ _ _ c.args.draft.now c.append.new.draft (kept.Promised c.args.ballot) refl c.in-On.is c.in_ok-append.ensures.appends)
      c.in_ok-turns-in-On.ensures.stands c.in_ok-turns-in-On.ensures.turns
      _ c.in_ok-turns-in-On.ensures.effects c.in_ok-turns-in-On.ensures.sends _ _ c.go_on.ensures.stuck;
  same = search rules;
}
