use Rattle.rex_node.proofs.Common.{rules, ap, ◌∙◌, whole}
use Rattle.rex_node.proofs.Written.{on_err}
use Rattle.rex_node.proofs.Adopting.{adopt_down, adopt_rests, adopt_stuck, alone_again, alone_down, alone_fits, alone_may, alone_stuck, chooses_of, chosen_may, nodes_few, nodes_many, same_then, told_is, made_known_as, proposed_as}
use Rattle.rex_node.proofs.node.Node.adopt.Goals as goal

pub propose-requires : goal.propose-requires
propose-requires g c = record {
  may = chosen_may g.K.Keeper.append_gives _ c.declarations-service.ensures.sound c.declarations-service.ensures.checked c.requires.may c.requires.next (chooses_of _ c.requires.goes c.requires.reported);
}

pub returns-in-Down : goal.returns-in-Down
returns-in-Down g c = record {
  goes = adopt_down _ _ c.declarations-service.ensures.sound c.declarations-service.ensures.checked c.requires.may c.requires.next (chooses_of _ c.requires.goes c.requires.reported)
      c.propose.new.draft
      (told_is _ (ap (λ n. n.id) c.self.view_is) c.event_count-events.ensures) c.in-Down.is c.in_ok-propose.ensures.same c.in_ok-propose.ensures.opens;
  stuck = search rules;
  same = search rules;
}

pub returns-then-self-gt1 : goal.returns-then-self-gt1
returns-then-self-gt1 g c = record {
  goes = adopt_rests _ _ c.declarations-service.ensures.sound c.declarations-service.ensures.checked c.requires.may c.requires.next (chooses_of _ c.requires.goes c.requires.reported)
      c.propose.new.draft
      (proposed_as (whole g.P.Past.past c.propose.new.self) (told_is _ (ap (λ n. n.id) c.self.view_is) c.event_count-events.ensures) c.in-On.is c.in_ok-propose.ensures.opens c.in_ok-propose.ensures.parts c.in_ok-propose.ensures.longer)
      (nodes_many (ap (λ n. n.nodes) c.self-in-On.view_is ∙ c.in_ok-propose.ensures.same.nodes) c.if-self-gt1.true);
  stuck = search rules;
  same = search rules;
}

pub learn-requires-clause-may : goal.learn-requires-clause-may
learn-requires-clause-may g c =
    alone_may _ _ c.declarations-service.ensures.sound c.declarations-service.ensures.checked c.requires.may c.requires.next (chooses_of _ c.requires.goes c.requires.reported)
    c.propose.new.draft
    (proposed_as (whole g.P.Past.past c.propose.new.self) (told_is _ (ap (λ n. n.id) c.self.view_is) c.event_count-events.ensures) c.in-On.is c.in_ok-propose.ensures.opens c.in_ok-propose.ensures.parts c.in_ok-propose.ensures.longer)
    (nodes_few (ap (λ n. n.nodes) c.self-in-On.view_is ∙ c.in_ok-propose.ensures.same.nodes) c.if-self-gt1.false)

pub learn-requires-clause-fits : goal.learn-requires-clause-fits
learn-requires-clause-fits g c =
    alone_fits _ _ c.declarations-service.ensures.sound c.declarations-service.ensures.checked c.requires.may c.requires.next (chooses_of _ c.requires.goes c.requires.reported)
    c.propose.new.draft
    (proposed_as (whole g.P.Past.past c.propose.new.self) (told_is _ (ap (λ n. n.id) c.self.view_is) c.event_count-events.ensures) c.in-On.is c.in_ok-propose.ensures.opens c.in_ok-propose.ensures.parts c.in_ok-propose.ensures.longer)
    (nodes_few (ap (λ n. n.nodes) c.self-in-On.view_is ∙ c.in_ok-propose.ensures.same.nodes) c.if-self-gt1.false)

pub returns-in_err-propose : goal.returns-in_err-propose
returns-in_err-propose g c = record {
  goes = search rules;
  stuck = on_err _
      (adopt_stuck _ _ c.declarations-service.ensures.sound c.declarations-service.ensures.checked c.requires.may c.requires.next (chooses_of _ c.requires.goes c.requires.reported)
      (told_is _ (ap (λ n. n.id) c.self.view_is) c.event_count-events.ensures) c.in_err-propose.ensures.stuck);
  same = search rules;
}

pub returns-in_err-learn-in-On : goal.returns-in_err-learn-in-On
returns-in_err-learn-in-On g c = record {
  goes = search rules;
  stuck = on_err c.from_residual-in_err-learn-in-On.result
      (alone_stuck _ _ c.declarations-service.ensures.sound c.declarations-service.ensures.checked c.requires.may c.requires.next (chooses_of _ c.requires.goes c.requires.reported)
      c.propose.new.draft
      (proposed_as (whole g.P.Past.past c.propose.new.self) (told_is _ (ap (λ n. n.id) c.self.view_is) c.event_count-events.ensures) c.in-On.is c.in_ok-propose.ensures.opens c.in_ok-propose.ensures.parts c.in_ok-propose.ensures.longer)
      (nodes_few (ap (λ n. n.nodes) c.self-in-On.view_is ∙ c.in_ok-propose.ensures.same.nodes) c.if-self-gt1.false) c.in_err-learn-in-On.ensures.stuck);
  same = search rules;
}

pub returns-in-Down-2 : goal.returns-in-Down-2
returns-in-Down-2 g c = record {
  goes = alone_down _ _ c.declarations-service.ensures.sound c.declarations-service.ensures.checked c.requires.may c.requires.next (chooses_of _ c.requires.goes c.requires.reported)
      c.propose.new.draft
      (proposed_as (whole g.P.Past.past c.propose.new.self) (told_is _ (ap (λ n. n.id) c.self.view_is) c.event_count-events.ensures) c.in-On.is c.in_ok-propose.ensures.opens c.in_ok-propose.ensures.parts c.in_ok-propose.ensures.longer)
      (nodes_few (ap (λ n. n.nodes) c.self-in-On.view_is ∙ c.in_ok-propose.ensures.same.nodes) c.if-self-gt1.false) c.learn.new.draft c.in-Down-2.is (same_then c.in_ok-propose.ensures.same c.in_ok-learn-in-On.ensures.same) c.in_ok-learn-in-On.ensures.learns;
  stuck = search rules;
  same = search rules;
}

pub returns-in-On-2 : goal.returns-in-On-2
returns-in-On-2 g c = record {
  goes = alone_again _ _ c.declarations-service.ensures.sound c.declarations-service.ensures.checked c.requires.may c.requires.next (chooses_of _ c.requires.goes c.requires.reported)
      c.propose.new.draft
      (proposed_as (whole g.P.Past.past c.propose.new.self) (told_is _ (ap (λ n. n.id) c.self.view_is) c.event_count-events.ensures) c.in-On.is c.in_ok-propose.ensures.opens c.in_ok-propose.ensures.parts c.in_ok-propose.ensures.longer)
      (nodes_few (ap (λ n. n.nodes) c.self-in-On.view_is ∙ c.in_ok-propose.ensures.same.nodes) c.if-self-gt1.false) c.learn.new.draft
      (made_known_as (whole g.P.Past.past c.learn.new.self) c.in-On-2.is c.in_ok-learn-in-On.ensures.learns c.in_ok-learn-in-On.ensures.parts c.in_ok-learn-in-On.ensures.longer);
  stuck = search rules;
  same = search rules;
}
