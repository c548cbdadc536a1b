use Rattle.rex_scenario.proofs.Fitting.{scenario_fits}
use Rattle.rex_scenario.proofs.Typed.{scenario_typed}
use Rattle.rex_scenario.proofs.reading.read.Goals as goal

pub returns-clause-fits : goal.returns-clause-fits
returns-clause-fits c =
    rw (c.finish.ensures.scenario, c.finish.ensures.service) (scenario_fits c.read_text.new.reader c.in_ok-read_text.ensures.fit c.in_ok-read_text.ensures.ended)

pub returns-clause-typed : goal.returns-clause-typed
returns-clause-typed c =
    rw (c.finish.ensures.scenario, c.finish.ensures.service) (scenario_typed c.args.scheduled c.args.bytes.now c.read_text.new.reader c.in_ok-read_text.ensures.read)
