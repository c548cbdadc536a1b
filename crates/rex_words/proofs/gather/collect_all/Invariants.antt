use Rattle.std.proofs.Common.{length}
use Rattle.rex_words.specs.Histories.{IsCollecting}
use Rattle.rex_words.proofs.gather.collect_all.Given as goal

abbrev pub invariant-loop-seat : goal.invariant-loop-seat
invariant-loop-seat l = IsCollecting l.words.key l.words.table_id l.host l.initial.seats.items l.seats.items l.lists.items

abbrev pub decreases-loop-seat : goal.decreases-loop-seat
decreases-loop-seat l = length l.seats.items
