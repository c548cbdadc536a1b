use Rattle.rex_world.proofs.Common.{◌∙◌, refl}
use Rattle.rex_world.proofs.Summing.{agreed_runs, summary_is}
use Rattle.rex_world.proofs.summary.summarize.Goals as goal

pub replay_values-requires-clause-runs : goal.replay_values-requires-clause-runs
replay_values-requires-clause-runs g c =
    agreed_runs c.kept_values_fit.ensures c.in_ok-releases.ensures.running (c.agreed-values.ensures c.args.svc.now c.in_ok-releases.ensures.running) c.in_ok-start.ensures.start

pub returns : goal.returns
returns g c = record {
  is =
      summary_is c.args.svc.now c.args.scenario.now c.in_ok-world.world c.follow.new.self
      c.in_ok-world.ensures.world c.in_ok-releases.ensures.world c.in_ok-releases.ensures.releases (c.agreed-values.ensures c.args.svc.now c.in_ok-releases.ensures.running) c.in_ok-start.ensures.start c.in_ok-last.ensures.runs
      c.len.ensures c.count.ensures refl (c.len-2.ensures ∙ c.in_ok-releases.releases.ok.0) (c.in_ok-variables.ensures ∙ c.variables.ensures);
}
