use Rattle.std.proofs.Common.{sym, ◌∙◌}
use Rattle.rex_snapshot.proofs.Passing.{replied_may}
use Rattle.rex_snapshot.proofs.ahead.Ahead.may_be_replied.Goals as goal

pub returns-then-frees : goal.returns-then-frees
returns-then-frees c = replied_may c.args.above c.args.client c.args.n c.args.self c.args.seats.now c.requires (sym c.frees.ensures ∙ c.if-frees.true)
