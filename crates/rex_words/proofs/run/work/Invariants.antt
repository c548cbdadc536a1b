use Rattle.std.proofs.Common.{◌≡◌}
use Rattle.rex_words.specs.Seats.{IsSeatOf}
use Rattle.rex_words.specs.Tables.{assignment_of, table_of}
use Rattle.rex_words.proofs.run.work.Given as goal

abbrev pub invariant-loop : goal.invariant-loop
invariant-loop g l = record {
  seat : IsSeatOf (assignment_of l.words) (table_of l.words) l.seat;
  lane : l.seat.lane ≡ l.initial.seat.lane;
}
