use Rattle.std.proofs.Common.{◌≡◌, ◌<◌, ℕ, arith, subst, ◌∙◌}
use mathlib.Core.Option.{some}
use mathlib.Core.Logic.{dite}
use native.Mathlib.Decide.{ℕ_discrete}
use lib.ListN.{get_elem?}
use Rattle.rex_event.specs.declared.delta.Cause.{Cause}
use Rattle.rex_event.specs.Cuts.{count_at}
use Rattle.rex_board.proofs.Later.{looking_refl, looking_trans, missing_from, covered_later}
use Rattle.rex_board.proofs.Reading.{reads, one_value, has_at, at_has}
use Rattle.rex_board.proofs.seat.LaneSeat.first_missing.Goals as goal

pub loop-cause-init : goal.loop-cause-init
loop-cause-init c = record { looking = looking_refl _; covered = λ i d lt at. absurd (omega arith) }

pub misses-requires : goal.misses-requires
misses-requires c = record { table = (c.loop-cause.invariant.looking.later.table ∙ c.requires.table.0, c.requires.table.1, c.requires.lanes _ (has_at c.args.causes.now c.loop-cause.cause-index _ c.loop-cause-test.true)) }

pub returns-in-Some-clause-looking : goal.returns-in-Some-clause-looking
returns-in-Some-clause-looking c = looking_trans _ _ _ c.loop-cause.invariant.looking c.in-Some.ensures.looking

pub returns-in-Some-clause-missing : goal.returns-in-Some-clause-missing
returns-in-Some-clause-missing c = (
  record {
    place = c.loop-cause.cause-index;
    at = reads c.args.causes.now c.loop-cause.cause-index (record { lane = 0; index = 0 }) c.loop-cause-test.true;
    before = λ k d lt at. covered_later c.loop-cause.self _ d c.in-Some.ensures.looking.later (c.loop-cause.invariant.covered k d lt at);
  },
  missing_from _ _ _ _ _ c.loop-cause.invariant.looking.later c.in-Some.ensures.missing,
)

pub loop-cause-preserved : goal.loop-cause-preserved
loop-cause-preserved c = let read = reads c.args.causes.now c.loop-cause.cause-index (record { lane = 0; index = 0 }) c.loop-cause-test.true in record {
  looking = looking_trans _ _ _ c.loop-cause.invariant.looking c.in_default.ensures.looking;
  covered = λ i e lt at. dite (ℕ_discrete i c.loop-cause.cause-index)
      (λ (eq : i ≡ c.loop-cause.cause-index). subst (λ (d : Cause). d.index < count_at c.misses.new.self.bounds d.lane)
      (one_value c.args.causes.now c.loop-cause.cause-index _ e read (subst (λ (n : ℕ). get_elem? c.args.causes.now n ≡ some e) eq at)) c.in_default.ensures.missing)
      (λ ne. covered_later c.loop-cause.self _ e c.in_default.ensures.looking.later (c.loop-cause.invariant.covered i e (omega arith) at));
}

pub returns-clause-missing : goal.returns-clause-missing
returns-clause-missing c = λ e h.
    let q = at_has c.args.causes.now e h in
    c.loop-cause.invariant.covered q.0 e (omega (arith, q.1)) (subst (λ (d : Cause). get_elem? c.args.causes.now q.0 ≡ some d) q.2 (reads c.args.causes.now q.0 e q.1))
