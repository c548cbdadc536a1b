use Rattle.std.proofs.Common.{arith}
use Rattle.rex_words.proofs.Standing.{acquire_there}
use Rattle.rex_words.proofs.Looking.{may_look, look_settles, look_low}
use Rattle.rex_words.proofs.seat.WordSeat.look.Goals as goal

pub load-requires : goal.load-requires
load-requires c = (c.requires.seat.table, omega (arith, c.requires.table, acquire_there _ c.requires.right _ c.requires.seat.lane _ c.requires.at), may_look _ c.requires.right _ _ c.requires.seat _ c.requires.at _)

pub returns-clause-settled : goal.returns-clause-settled
returns-clause-settled c = look_settles _ c.requires.right _ _ c.requires.seat _ c.requires.at c.load.new.seat c.load.result c.load.ensures.0 c.load.ensures.2.0 c.load.ensures.2.1

pub returns-clause-low : goal.returns-clause-low
returns-clause-low c = look_low _ c.requires.right _ _ c.requires.seat _ c.requires.at c.load.new.seat c.load.result c.load.ensures.0 c.load.ensures.2.0 c.load.ensures.2.1
