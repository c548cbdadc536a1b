use Rattle.std.proofs.Common.{sym, ◌∙◌}
use Rattle.rex_snapshot.proofs.Passing.{client_may}
use Rattle.rex_snapshot.proofs.ahead.Ahead.may_be_client.Goals as goal

pub returns-then-n-le-CLIENTS : goal.returns-then-n-le-CLIENTS
returns-then-n-le-CLIENTS c = client_may c.args.above c.args.left c.args.n c.args.self c.args.seats.now c.requires (sym c.frees.ensures ∙ c.if-frees.true) c.if-n-le-CLIENTS.true
