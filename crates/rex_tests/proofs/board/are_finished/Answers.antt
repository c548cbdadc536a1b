use Rattle.std.proofs.Common.{◌≡◌, ℕ, get_or, arith, ⊎_elim, sym, refl, subst}
use Rattle.std.proofs.lemmas.Bool.{cases_eq}
use Rattle.rex_board.specs.Turns.{HasNoneLeft}
use Rattle.rex_board.specs.Boards.{recording_of, table_of}
use Rattle.rex_board.specs.Dealing.{AreDealt}
use Rattle.rex_tests.proofs.Boards.{all_finished}
use Rattle.rex_tests.proofs.board.are_finished.Goals as goal

pub loop-lane-preserved : goal.loop-lane-preserved
loop-lane-preserved c = record {
  dealt = subst (λ (n : ℕ). AreDealt (recording_of c.args.board.now) (table_of c.args.board.now) n c.step.new.seats) c.loop-lane.invariant.long c.step.ensures.seats;
  long = omega (arith, c.step.ensures.seats.count, c.loop-lane.invariant.long);
  none = λ k d lt. ⊎_elim
      (λ (e : k ≡ c.loop-lane.lane). subst (λ (i : ℕ). HasNoneLeft (recording_of c.args.board.now) (get_or c.step.new.seats i d)) (sym e) (c.in-Finished.ensures.finished refl d))
      (λ (ne : k ≡ c.loop-lane.lane → ⊥). subst (HasNoneLeft (recording_of c.args.board.now)) (sym (c.step.ensures.others k d ne)) (c.loop-lane.invariant.none k d (omega arith)))
      (cases_eq k c.loop-lane.lane);
}

pub returns : goal.returns
returns c = λ h.
    all_finished c.args.board.now c.loop-lane.seats
    (subst (λ (n : ℕ). AreDealt (recording_of c.args.board.now) (table_of c.args.board.now) n c.loop-lane.seats) c.requires.all c.loop-lane.invariant.dealt)
    (λ k d lt. c.loop-lane.invariant.none k d (omega (arith, lt, c.loop-lane.auto.seats, c.loop-lane-test.false)))
