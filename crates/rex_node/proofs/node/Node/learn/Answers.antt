use Rattle.rex_node.proofs.Common.{rules, length, ap, arith, whole}
use Rattle.rex_node.proofs.Deltas.{last_spelled}
use Rattle.rex_node.proofs.GoingLemmas.{longer_by}
use Rattle.rex_node.proofs.Written.{on_err}
use Rattle.rex_node.proofs.Knowing.{learn_settles, learn_parts, learn_down, learn_on, learn_stuck}
use Rattle.rex_node.proofs.node.Node.learn.Goals as goal

pub know-requires : goal.know-requires
know-requires g c = record {
  recorder = learn_settles g.K.Keeper.append_gives g.K.Keeper.faults c.declarations-service.ensures.sound c.requires.may c.requires.fits
      (learn_parts _ _ c.declarations-service.ensures.sound c.requires.may c.requires.fits
      c.in_ok-copied.ensures _ c.args.draft.now c.append.new.draft _ c.in_ok-append.ensures.appends c.in-On.is);
  room =
      let parts = learn_parts _ _ c.declarations-service.ensures.sound c.requires.may c.requires.fits
      c.in_ok-copied.ensures _ c.args.draft.now c.append.new.draft _ c.in_ok-append.ensures.appends c.in-On.is in
      omega (arith, ap (λ x. length x.known) parts, c.requires.may.next, c.requires.may.there.last);
  delta = last_spelled c.args.svc.now (whole g.P.Past.past c.args.self.now).known _ c.requires.fits;
}

pub returns-in-Down : goal.returns-in-Down
returns-in-Down g c = record {
  learns = learn_down _ _ c.declarations-service.ensures.sound c.requires.may c.requires.fits
      c.in_ok-copied.ensures _ c.args.draft.now c.append.new.draft _ c.in_ok-append.ensures.appends c.in-Down.is;
  parts = search rules;
  longer = search rules;
  stuck = search rules;
  same = search rules;
}

pub returns : goal.returns
returns g c = record {
  learns = learn_on _ _ c.declarations-service.ensures.sound c.requires.may c.requires.fits
      c.in_ok-copied.ensures _ c.args.draft.now c.append.new.draft _ c.in_ok-append.ensures.appends c.in-On.is
      c.know.new.draft c.in_ok-know-in-On.ensures.knows c.in_ok-know-in-On.ensures.effects c.in_ok-know-in-On.ensures.sends;
  parts = search rules;
  longer = longer_by _ _ _ _ _ c.args.draft.now c.append.new.draft _ c.in_ok-append.ensures.appends c.in-On.is c.in_ok-know-in-On.ensures.stays.keeper;
  stuck = search rules;
  same = search rules;
}

pub returns-in_err-know-in-On : goal.returns-in_err-know-in-On
returns-in_err-know-in-On g c = record {
  learns = search rules;
  parts = search rules;
  longer = search rules;
  stuck = on_err _
      (learn_stuck _ _ c.declarations-service.ensures.sound c.requires.may c.requires.fits
      c.in_ok-copied.ensures _ _ c.append.new.draft _ c.in_ok-append.ensures.appends c.in-On.is
      c.in_err-know-in-On.ensures.stays.keeper c.in_err-know-in-On.ensures.stays.base);
  same = search rules;
}
