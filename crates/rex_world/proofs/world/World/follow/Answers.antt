use Rattle.rex_world.proofs.Common.{◌+◌, drop, sym, ap, ◌∙◌, arith, after_lines, world_of}
use Rattle.rex_world.proofs.Runs.{done_next, drop_end, drop_next, still_of}
use Rattle.rex_world.proofs.Traces.{follow_next}
use Rattle.rex_world.proofs.Releasing.{releases_more, releases_all}
use Rattle.rex_world.proofs.world.World.follow.Goals as goal

pub loop-line-preserved : goal.loop-line-preserved
loop-line-preserved g c = record {
  running = c.in_ok-effects.ensures.running;
  of = still_of c.loop-line.invariant.of c.in_ok-effects.ensures.same;
  done = done_next c.args.svc.now c.loop-line.self c.step.new.self c.line-item.result c.in_ok-effects.ensures.world ∙ omega (arith, c.loop-line.invariant.done);
  world =
      ap (λ x. after_lines c.args.svc.now c.args.scenario.now.requests c.args.scenario.now.seed c.args.scenario.now.nodes x (drop (c.loop-line.line-index + 1) c.args.scenario.now.schedule)) c.in_ok-effects.ensures.world
      ∙ sym (follow_next c.args.svc.now c.loop-line.invariant.of
      (drop_next c.as_slice-line-items.ensures c.loop-line-test.true c.line-item.is))
      ∙ c.loop-line.invariant.world;
  releases =
      releases_more c.args.svc.now c.step.new.self c.loop-line.releases.items
      c.loop-line.invariant.of
      (drop_next c.as_slice-line-items.ensures c.loop-line-test.true c.line-item.is)
      c.in_ok-effects.ensures.world (c.as_slice.ensures ∙ c.in_ok-effects.ensures.effects) c.in_ok-push_releases.ensures c.loop-line.invariant.releases;
}

pub returns-clause-world : goal.returns-clause-world
returns-clause-world g c =
    sym (ap (after_lines c.args.svc.now c.args.scenario.now.requests c.args.scenario.now.seed c.args.scenario.now.nodes (world_of c.args.svc.now c.loop-line.self))
    (drop_end c.as_slice-line-items.ensures c.loop-line-test.false))
    ∙ c.loop-line.invariant.world

pub returns-clause-releases : goal.returns-clause-releases
returns-clause-releases g c =
    releases_all c.args.svc.now c.args.scenario.now c.loop-line.self
    (drop_end c.as_slice-line-items.ensures c.loop-line-test.false)
    c.loop-line.invariant.releases
