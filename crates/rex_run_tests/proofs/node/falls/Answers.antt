use Rattle.rex_run_tests.proofs.Elected.{elected_runs}
use Rattle.rex_run_tests.proofs.node.falls.Goals as goal

pub elect-requires-clause-runs : goal.elect-requires-clause-runs
elect-requires-clause-runs g c = elected_runs c.args.svc.now c.args.fate c.started-node.result c.started-node.ensures.up
