use Rattle.std.proofs.Common.{sym, subst}
use Rattle.std.specs.List.{All}
use Rattle.rex_reduce.specs.Reduced.{HasNext, IsTrace}
use Rattle.rex_fits.proofs.Spellings.{room_of_delta, trace_of_delta}
use Rattle.rex_fits.proofs.pieces.is_piece.Goals as goal

pub reduce-requires-clause-trace : goal.reduce-requires-clause-trace
reduce-requires-clause-trace c = subst IsTrace (sym c.as_slice.ensures) (trace_of_delta c.args.delta.now c.requires)

pub reduce-requires-clause-room : goal.reduce-requires-clause-room
reduce-requires-clause-room c = subst (All HasNext) (sym c.as_slice.ensures) (room_of_delta c.args.delta.now c.requires)
