use Rattle.std.proofs.Common.{◌≡◌, ℕ, true, List, Some, subst, sym, ap, ◌∙◌}
use Rattle.std.specs.Prelude.{Option, position, slice_get}
use Rattle.std.proofs.lemmas.Bool.{and_parts}
use Rattle.std.proofs.lemmas.List.Quantifiers.{position-Some}
use Rattle.std.proofs.lemmas.Option.{slice_get-get_or}
use Rattle.rex_syntax.specs.declared.service.Handler.{Handler}
use Rattle.rex_schedule.specs.Counts.{takes_so_many}
use Rattle.rex_report.specs.Names.{no_handler}
use Rattle.rex_frames.specs.Requests.{is_taking}
use Rattle.rex_frames.proofs.requests.handler_taking.Goals as goal

taken : (name : List ℕ) (count : ℕ) (handlers : List Handler) (place : ℕ) → position (is_taking name count) handlers ≡ Some place → takes_so_many (slice_get handlers place) count ≡ true
taken name count handlers place e =
    let at = position-Some (is_taking name count) handlers place no_handler e in
    subst (λ (o : Option Handler). takes_so_many o count ≡ true) (sym (slice_get-get_or handlers place no_handler at.0)) (and_parts _ _ at.1).1

pub returns-in-Some-clause-takes : goal.returns-in-Some-clause-takes
returns-in-Some-clause-takes c = taken c.args.name.now c.args.count c.args.service.now.handlers c.in-Some.place (sym (c.in-Some.ensures.place ∙ ap (position (is_taking c.args.name.now c.args.count)) c.as_slice.ensures))
