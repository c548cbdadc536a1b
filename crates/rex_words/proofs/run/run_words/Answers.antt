use Rattle.std.proofs.Common.{refl, ap}
use Rattle.rex_syntax.specs.declared.service.Declarations.{Declarations}
use Rattle.rex_words.proofs.Over.{come_back, all_over}
use Rattle.rex_words.proofs.run.run_words.Goals as goal

pub gather-requires-clause-seats : goal.gather-requires-clause-seats
gather-requires-clause-seats g c = come_back c.in_ok-words.words c.args.svc.now.lanes c.in_ok-words.seats.items c.in_ok-seats.seats.items c.in_ok-words.ensures.seats c.in_ok-seats.ensures.long c.in_ok-seats.ensures.over _ (ap (λ (d : Declarations). d.lanes) c.in_ok-words.ensures.assignment.service_is)

pub returns : goal.returns
returns g c = all_over c.in_ok-words.words c.args.svc.now.lanes c.in_ok-words.seats.items c.in_ok-seats.seats.items c.in_ok-words.ensures.seats c.in_ok-seats.ensures.long c.in_ok-seats.ensures.over _ _ _ _ refl c.in_ok-words.ensures.words c.in_ok-words.ensures.assignment c.in_ok-history.ensures
