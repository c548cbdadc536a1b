use Rattle.std.proofs.Common.{sym, ◌∙◌}
use Rattle.rex_snapshot.proofs.Passing.{sequence_may}
use Rattle.rex_snapshot.proofs.ahead.Ahead.may_be_sequence.Goals as goal

pub returns-then-n-ge1 : goal.returns-then-n-ge1
returns-then-n-ge1 c = sequence_may c.args.above c.args.client c.args.n c.args.self c.args.seats.now c.requires (sym c.frees.ensures ∙ c.if-frees.true) c.if-n-ge1.true
