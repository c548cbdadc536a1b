use Rattle.std.proofs.Common.{ℕ, List, length, subst}
use Rattle.memchr.specs.Find.{Nowhere, NoneBefore, Passes, is_byte}
use Rattle.rex_board.proofs.Placing.{rest_is, first_after, none_after}
use Rattle.rex_board.proofs.places.next_place.Goals as goal

pub returns-in-Some : goal.returns-in-Some
returns-in-Some c = λ es e.
    let rest = rest_is c.args.lanes.now c.args.from in
    first_after es c.args.lanes.now c.args.from c.args.lane c.in-Some.after e c.requires
    (subst (λ (bytes : List ℕ). NoneBefore (Passes (is_byte c.args.lane) bytes) 0 (length bytes) c.in-Some.after) rest c.in-Some.ensures.0)
    (subst (λ (bytes : List ℕ). Passes (is_byte c.args.lane) bytes c.in-Some.after) rest c.in-Some.ensures.1)

pub returns-in-None : goal.returns-in-None
returns-in-None c = λ es e.
    none_after es c.args.lanes.now c.args.from c.args.lane e c.requires
    (subst (λ (bytes : List ℕ). Nowhere (Passes (is_byte c.args.lane) bytes) 0 (length bytes)) (rest_is c.args.lanes.now c.args.from) c.in-None.ensures)
