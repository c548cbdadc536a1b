use Rattle.rex_words.specs.Turns.{IsPublishing, IsPreparing}
use Rattle.rex_words.proofs.seat.WordSeat.publish_all.Given as goal

abbrev pub invariant-loop-variable : goal.invariant-loop-variable
invariant-loop-variable l = record {
  publishing : IsPublishing l.words.key l.words.table_id l.self l.lock l.variable;
  preparing : IsPreparing l.initial.self l.self;
}
