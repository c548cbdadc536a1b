use Rattle.std.proofs.Common.{◌∙◌}
use Rattle.rex_tests.proofs.Boards.{dealt_with}
use Rattle.rex_tests.proofs.board.step.Goals as goal

pub returns-clause-seats : goal.returns-clause-seats
returns-clause-seats c =
    dealt_with c.args.board.now _ c.args.seats.now c.args.lane c.step.new.me c.requires.seats c.requires.lane c.step.ensures.seat
    (c.step.ensures.later.lane ∙ (c.requires.seats.each c.args.lane c.index-seats-lane.result c.requires.lane).1)
