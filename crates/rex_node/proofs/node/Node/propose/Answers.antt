use Rattle.rex_node.proofs.Common.{rules, ap, ◌∙◌, unwrap_or}
use Rattle.rex_node.proofs.GoingLemmas.{longer_by}
use Rattle.rex_node.proofs.Written.{on_err}
use Rattle.rex_node.proofs.Opening.{propose_spelled, propose_on, propose_down, propose_stuck}
use Rattle.rex_node.proofs.node.Node.propose.Goals as goal

pub append-requires-clause-spelling : goal.append-requires-clause-spelling
append-requires-clause-spelling g c =
    propose_spelled g.K.Keeper.append_gives g.K.Keeper.faults c.requires.may
    (c.unwrap_or-ballot.ensures ∙ ap (λ o. unwrap_or o 0) c.own_ballot.ensures) c.in_ok-copied.ensures

pub returns-in-Down : goal.returns-in-Down
returns-in-Down g c = record {
  opens = propose_down _ _ c.requires.may
      (c.unwrap_or-ballot.ensures ∙ ap (λ o. unwrap_or o 0) c.own_ballot.ensures) _ c.in_ok-copied.ensures _ c.args.draft.now c.append.new.draft _ c.in_ok-append.ensures.appends c.in-Down.is;
  parts = search rules;
  longer = search rules;
  stuck = search rules;
  same = search rules;
}

pub returns : goal.returns
returns g c = record {
  opens = propose_on _ _ c.requires.may
      (c.unwrap_or-ballot.ensures ∙ ap (λ o. unwrap_or o 0) c.own_ballot.ensures) _ c.in_ok-copied.ensures _ c.args.draft.now c.append.new.draft _ c.in_ok-append.ensures.appends c.in-On.is
      c.open.new.draft c.in_ok-open-in-On.ensures.opened c.in_ok-open-in-On.ensures.effects c.in_ok-open-in-On.ensures.sends;
  parts = search rules;
  longer = longer_by _ _ _ _ _ c.args.draft.now c.append.new.draft _ c.in_ok-append.ensures.appends c.in-On.is c.in_ok-open-in-On.ensures.stays.keeper;
  stuck = search rules;
  same = search rules;
}

pub returns-in_err-open-in-On : goal.returns-in_err-open-in-On
returns-in_err-open-in-On g c = record {
  opens = search rules;
  parts = search rules;
  longer = search rules;
  stuck = on_err _
      (propose_stuck _ _ c.requires.may
      (c.unwrap_or-ballot.ensures ∙ ap (λ o. unwrap_or o 0) c.own_ballot.ensures) _ c.in_ok-copied.ensures _ _ c.append.new.draft _ c.in_ok-append.ensures.appends c.in-On.is
      c.in_err-open-in-On.ensures.stays.keeper c.in_err-open-in-On.ensures.stays.base);
  same = search rules;
}
