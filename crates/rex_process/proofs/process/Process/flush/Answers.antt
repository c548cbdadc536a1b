use Rattle.std.proofs.Common.{arith, rules}
use Rattle.rex_process.proofs.Flushed.{flushed_short, flushed_well}
use Rattle.rex_process.proofs.process.Process.flush.Goals as goal

pub returns-clause-process : goal.returns-clause-process
returns-clause-process g c = search (rules, flushed_well)

pub returns-clause-still : goal.returns-clause-still
returns-clause-still g c = grind (arith, flushed_short)
