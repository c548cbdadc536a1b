use Rattle.std.proofs.Common.{arith, ◌≡◌, ◌≤◌, ◌<◌, ℕ, ⊎_elim, ap, refl, sym, ◌∙◌, subst}
use Rattle.std.proofs.lemmas.Bool.{cases_lt}
use mathlib.Core.Option.{some}
use lib.ListN.{get_elem?}
use Rattle.rex_board.specs.declared.seat.LaneSeat.{LaneSeat}
use Rattle.rex_board.specs.Turns.{HasNoneLeft}
use Rattle.rex_board.specs.Boards.{recording_of}
use Rattle.rex_board.proofs.Reading.{reads, there, one_value}
use Rattle.rex_crew.proofs.complete.all_finished.Goals as goal

pub loop-me-preserved : goal.loop-me-preserved
loop-me-preserved c = λ k m lt e. ⊎_elim (λ (q : k < c.loop-me.me-index). c.loop-me.invariant k m q e)
    (λ (q : c.loop-me.me-index ≤ k).
    let same : k ≡ c.loop-me.me-index = omega arith in
    let at : get_elem? c.args.seats.now k ≡ some c.me-item.result =
    subst (λ (i : ℕ). get_elem? c.args.seats.now i ≡ some c.me-item.result) (sym same) (reads c.args.seats.now c.loop-me.me-index c.me-item.result c.loop-me-test.true ∙ ap (λ (x : LaneSeat). some x) (sym c.me-item.is)) in
    let is : c.me-item.result ≡ m = one_value c.args.seats.now k c.me-item.result m at e in
    subst (HasNoneLeft (recording_of c.args.board.now)) is (c.if-not-is_finished.ensures refl))
    (cases_lt k c.loop-me.me-index)

pub returns : goal.returns
returns c = λ t k m e. let x = there c.args.seats.now k m e in c.loop-me.invariant k m (omega (arith, x, c.loop-me-test.false)) e

pub is_finished-requires-clause-seat : goal.is_finished-requires-clause-seat
is_finished-requires-clause-seat c = c.requires.seats c.loop-me.me-index _ (reads c.args.seats.now c.loop-me.me-index c.me-item.result c.loop-me-test.true ∙ ap (λ (x : LaneSeat). some x) (sym c.me-item.is))
