use Rattle.std.proofs.Common.{arith}
use Rattle.rex_words.proofs.Standing.{try_there}
use Rattle.rex_words.proofs.Looking.{may_try, try_low, try_settles, try_ahead, try_found}
use Rattle.rex_words.proofs.seat.WordSeat.look_to_try.Goals as goal

pub load-requires : goal.load-requires
load-requires c = (c.requires.seat.table, omega (arith, c.requires.table, try_there _ c.requires.right _ c.requires.seat.lane _ c.requires.at), may_try _ c.requires.right _ _ c.requires.seat _ c.requires.at _)

pub returns-clause-settled : goal.returns-clause-settled
returns-clause-settled c = try_settles _ c.requires.right _ _ c.requires.seat _ c.requires.at c.load.new.seat c.load.result c.load.ensures.0 c.load.ensures.2.0 c.load.ensures.2.1

pub returns-clause-ahead : goal.returns-clause-ahead
returns-clause-ahead c = try_ahead _ c.requires.right _ _ c.requires.seat _ c.requires.at c.load.new.seat c.load.result c.load.ensures.0 c.load.ensures.2.0 c.load.ensures.2.1

pub returns-clause-low : goal.returns-clause-low
returns-clause-low c = try_low _ c.requires.right _ _ c.requires.seat _ c.requires.at c.load.new.seat c.load.result c.load.ensures.0 c.load.ensures.2.0 c.load.ensures.2.1

pub returns-clause-found : goal.returns-clause-found
returns-clause-found c = let f = try_found _ c.requires.right _ _ c.requires.seat _ c.requires.at c.load.new.seat c.load.result c.load.ensures.0 c.load.ensures.2.0 c.load.ensures.2.1 in record { counted = omega (arith, f.0); lock_is = f.1; word_is = f.2 }

pub returns-clause-failures : goal.returns-clause-failures
returns-clause-failures c = (try_found _ c.requires.right _ _ c.requires.seat _ c.requires.at c.load.new.seat c.load.result c.load.ensures.0 c.load.ensures.2.0 c.load.ensures.2.1).3
