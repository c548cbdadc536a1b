use Rattle.rex_reduce.specs.Summaries.{alone}
use Rattle.rex_reduce.specs.Tables.{AreAddedWoken}
use Rattle.rex_reduce.proofs.tables.add_each_woken.Given as goal

abbrev pub invariant-loop-lane : goal.invariant-loop-lane
invariant-loop-lane l = AreAddedWoken l.initial.rows l.event.kind (alone l.own l.event.lane) l.lane l.rows
