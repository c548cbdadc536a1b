use Rattle.std.proofs.Common.{sym, ◌∙◌}
use Rattle.rex_snapshot.proofs.Passing.{still_ahead}
use Rattle.rex_snapshot.proofs.ahead.Ahead.past.Goals as goal

pub returns-then-frees : goal.returns-then-frees
returns-then-frees c = still_ahead c.args.above c.args.client c.args.self c.args.seats.now c.requires (sym c.frees.ensures ∙ c.if-frees.true)
