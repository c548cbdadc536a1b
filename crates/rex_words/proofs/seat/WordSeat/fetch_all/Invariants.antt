use Rattle.rex_words.specs.Turns.{IsSettled, IsFetching, IsPreparing, AreLoaded}
use Rattle.rex_words.proofs.seat.WordSeat.fetch_all.Given as goal

abbrev pub invariant-loop-variable : goal.invariant-loop-variable
invariant-loop-variable l = record {
  settled : IsSettled l.words.key l.words.table_id l.self;
  fetching : IsFetching l.words.key l.self l.lock l.word;
  preparing : IsPreparing l.initial.self l.self;
  loaded : AreLoaded l.words.key l.self l.lock l.variable;
}
