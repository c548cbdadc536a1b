use Rattle.rex_node.proofs.Common.{rules, Some, ap, sym, ◌∙◌, whole}
use Rattle.rex_node.proofs.Written.{on_err}
use Rattle.rex_node.proofs.Adopting.{made_known_as}
use Rattle.rex_node.proofs.Majorities.{choose_down, choose_fits, choose_may, choose_stuck, chosen_ends, chosen_may, chosen_of, chosen_stuck}
use Rattle.rex_node.proofs.node.Node.choose.Goals as goal

pub learn-requires-clause-may : goal.learn-requires-clause-may
learn-requires-clause-may g c =
    choose_may g.K.Keeper.append_gives g.K.Keeper.faults c.declarations-service.ensures.sound c.declarations-service.ensures.checked c.requires.may.node c.requires.may.up c.requires.from c.args.draft.now
    (chosen_of c.requires.vote (sym c.in_ok-value.ensures ∙ c.in-Some.is ∙ ap (λ v. Some v) (sym c.as_slice.ensures))) c.requires.may.count

pub learn-requires-clause-fits : goal.learn-requires-clause-fits
learn-requires-clause-fits g c =
    choose_fits g.K.Keeper.append_gives g.K.Keeper.faults c.declarations-service.ensures.sound c.declarations-service.ensures.checked c.requires.may.node c.requires.may.up c.requires.from c.args.draft.now
    (chosen_of c.requires.vote (sym c.in_ok-value.ensures ∙ c.in-Some.is ∙ ap (λ v. Some v) (sym c.as_slice.ensures))) c.requires.runs

pub returns-in-Down : goal.returns-in-Down
returns-in-Down g c = record {
  ends = choose_down _ _ c.declarations-service.ensures.sound c.declarations-service.ensures.checked c.requires.may.node c.requires.may.up c.requires.from c.args.draft.now
      (chosen_of c.requires.vote (sym c.in_ok-value.ensures ∙ c.in-Some.is ∙ ap (λ v. Some v) (sym c.as_slice.ensures)))
      c.learn.new.draft c.in-Down.is c.in_ok-learn.ensures.same c.in_ok-learn.ensures.learns;
  stuck = search rules;
  same = search rules;
}

pub go_on-requires : goal.go_on-requires
go_on-requires g c = record {
  may = chosen_may _ _ c.declarations-service.ensures.sound c.declarations-service.ensures.checked c.requires.may.node c.requires.may.up c.requires.from c.args.draft.now
      (chosen_of c.requires.vote (sym c.in_ok-value.ensures ∙ c.in-Some.is ∙ ap (λ v. Some v) (sym c.as_slice.ensures)))
      c.learn.new.draft c.in_ok-learn.ensures.same
      (made_known_as (whole g.P.Past.past c.learn.new.self) c.in-On.is c.in_ok-learn.ensures.learns c.in_ok-learn.ensures.parts c.in_ok-learn.ensures.longer)
      c.turns-turns.ensures c.requires.runs c.requires.may.count;
}

pub returns : goal.returns
returns g c = record {
  ends = chosen_ends _ _ c.declarations-service.ensures.sound c.declarations-service.ensures.checked c.requires.may.node c.requires.may.up c.requires.from c.args.draft.now
      (chosen_of c.requires.vote (sym c.in_ok-value.ensures ∙ c.in-Some.is ∙ ap (λ v. Some v) (sym c.as_slice.ensures)))
      c.learn.new.draft c.in_ok-learn.ensures.same
      (made_known_as (whole g.P.Past.past c.learn.new.self) c.in-On.is c.in_ok-learn.ensures.learns c.in_ok-learn.ensures.parts c.in_ok-learn.ensures.longer)
      c.turns-turns.ensures
      (whole g.P.Past.past c.go_on.new.self) c.go_on.new.draft c.go_on.result c.go_on.ensures.ends;
  stuck = chosen_stuck _ _ c.declarations-service.ensures.sound c.declarations-service.ensures.checked c.requires.may.node c.requires.may.up c.requires.from c.args.draft.now
      (chosen_of c.requires.vote (sym c.in_ok-value.ensures ∙ c.in-Some.is ∙ ap (λ v. Some v) (sym c.as_slice.ensures)))
      c.learn.new.draft c.in_ok-learn.ensures.same
      (made_known_as (whole g.P.Past.past c.learn.new.self) c.in-On.is c.in_ok-learn.ensures.learns c.in_ok-learn.ensures.parts c.in_ok-learn.ensures.longer)
      c.turns-turns.ensures
      (whole g.P.Past.past c.go_on.new.self) c.go_on.result c.go_on.ensures.stuck;
  same = search rules;
}

pub returns-in_err-learn : goal.returns-in_err-learn
returns-in_err-learn g c = record {
  ends = search rules;
  stuck = on_err _
      (choose_stuck _ _ c.declarations-service.ensures.sound c.declarations-service.ensures.checked c.requires.may.node c.requires.may.up c.requires.from _
      (chosen_of c.requires.vote (sym c.in_ok-value.ensures ∙ c.in-Some.is ∙ ap (λ v. Some v) (sym c.as_slice.ensures)))
      c.in_err-learn.ensures.stuck);
  same = search rules;
}
