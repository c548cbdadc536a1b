use Rattle.std.proofs.Common.{◌≡◌}
use Rattle.rex_words.specs.Tables.{IsHosting}
use Rattle.rex_words.specs.Dealing.{AreDealt}
use Rattle.rex_words.proofs.start.deal_all.Given as goal

abbrev pub invariant-loop-lane : goal.invariant-loop-lane
invariant-loop-lane l = record {
  hosting : IsHosting l.words.key l.words.table_id l.host;
  lane : l.host.me.0.lane ≡ l.lane;
  dealt : AreDealt l.words.key l.words.table_id l.lane l.seats.items;
}
