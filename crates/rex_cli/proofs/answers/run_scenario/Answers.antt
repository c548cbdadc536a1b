use Rattle.std.proofs.Common.{◌≤◌, ◌^◌, length, rules, arith}
use Rattle.rex_world.proofs.Beginning.{few_nodes}
use Rattle.rex_cli.proofs.answers.run_scenario.Goals as goal

pub returns-clause-headline : goal.returns-clause-headline
returns-clause-headline c zero =
    let scenario = c.args.scenario in
    let few = few_nodes c.requires.fits.nodes in
    let short : length scenario.schedule ≤ 2 ^ 63 = omega (arith, c.requires.fits.few_lines) in
    record {
      headline = c.headline_holds.ensures c.args.service scenario.requests scenario.seed scenario.nodes scenario.schedule few (search rules) (search rules) c.requires.fits.requests;
      faithful = c.runs_stay_faithful.ensures c.args.service scenario.requests scenario.seed scenario.nodes scenario.schedule few (search rules) (search rules) c.requires.typed.numbers
          c.requires.fits.requests c.requires.typed.arguments c.requires.fits.schedule short;
    }
