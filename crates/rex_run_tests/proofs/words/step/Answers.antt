use Rattle.std.proofs.Common.{◌∙◌}
use Rattle.rex_words.specs.Tables.{assignment_of, table_of}
use Rattle.rex_run_tests.proofs.WordSeats.{seats_with}
use Rattle.rex_run_tests.proofs.words.step.Goals as goal

pub returns : goal.returns
returns c =
    let at = c.requires.seats.each c.args.lane c.index-seats-lane.result c.requires.lane in
    seats_with (assignment_of c.args.words.now) (table_of c.args.words.now) _ c.args.seats.now c.args.lane c.step.new.me c.requires.seats c.requires.lane
    (record { seat = c.step.ensures.seat; lane_is = c.step.ensures.lane ∙ at.lane_is })
