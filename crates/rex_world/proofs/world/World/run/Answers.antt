use Rattle.rex_world.proofs.Common.{◌+◌, ◌++◌, [], drop, length, sym, ap, subst, ◌∙◌, arith, append-nil, on_ok_weaker, GrowsByFront, after_lines, IsRunning, IsSame, effects_text, ends_text, report_from, row_in, world_of, IsWritten}
use Rattle.rex_world.proofs.Runs.{drop_next, drop_end, next_of, report_next, still_of, done_next}
use Rattle.rex_world.proofs.Written.{front_next, front_none, written_next, written_last}
use Rattle.rex_world.proofs.Handing.{same_both}
use Rattle.rex_world.proofs.Traces.{leads_next}
use Rattle.rex_world.proofs.world.World.run.Goals as goal

pub returns-in_err-effects-clause-front : goal.returns-in_err-effects-clause-front
returns-in_err-effects-clause-front g c =
    front_next _
    (effects_text c.args.svc.now (c.loop-line.self.done + 1) (row_in c.args.svc.now c.loop-line.self c.line-item.result).effects)
    (report_from c.args.svc.now c.args.scenario.now.requests c.args.scenario.now.seed c.args.scenario.now.nodes (next_of c.args.svc.now c.loop-line.self c.line-item.result) (drop (c.loop-line.line-index + 1) c.args.scenario.now.schedule))
    c.loop-line.invariant.written
    (report_next _ c.loop-line.invariant.of
    (drop_next c.as_slice-line-items.ensures c.loop-line-test.true c.line-item.is))
    (front_none _)

pub returns-in_err-write-clause-front : goal.returns-in_err-write-clause-front
returns-in_err-write-clause-front g c =
    let told = ap (λ n. c.loop-line.waiting.items ++ effects_text c.args.svc.now n c.as_slice.result.now) (done_next c.args.svc.now c.loop-line.self c.step.new.self c.line-item.result c.in_ok-effects.ensures.world)
    ∙ ap (λ es. c.loop-line.waiting.items ++ effects_text c.args.svc.now (c.loop-line.self.done + 1) es) (c.as_slice.ensures ∙ c.in_ok-effects.ensures.effects) in
    front_next (g.K.Sink.taken c.write.new.sink)
    (effects_text c.args.svc.now (c.loop-line.self.done + 1) (row_in c.args.svc.now c.loop-line.self c.line-item.result).effects)
    (report_from c.args.svc.now c.args.scenario.now.requests c.args.scenario.now.seed c.args.scenario.now.nodes (next_of c.args.svc.now c.loop-line.self c.line-item.result) (drop (c.loop-line.line-index + 1) c.args.scenario.now.schedule))
    c.loop-line.invariant.written
    (report_next c.args.svc.now c.loop-line.invariant.of
    (drop_next c.as_slice-line-items.ensures c.loop-line-test.true c.line-item.is))
    (subst (λ ws. GrowsByFront (g.K.Sink.taken c.loop-line.sink) (g.K.Sink.taken c.write.new.sink) ws) told c.in_err-write.ensures.front)

pub loop-line-preserved : goal.loop-line-preserved
loop-line-preserved g c =
    let told = ap (λ n. c.loop-line.waiting.items ++ effects_text c.args.svc.now n c.as_slice.result.now) (done_next c.args.svc.now c.loop-line.self c.step.new.self c.line-item.result c.in_ok-effects.ensures.world)
    ∙ ap (λ es. c.loop-line.waiting.items ++ effects_text c.args.svc.now (c.loop-line.self.done + 1) es) (c.as_slice.ensures ∙ c.in_ok-effects.ensures.effects) in
    let still = c.in_ok-write.ensures.ends.same in
    let world = ap (world_of c.args.svc.now) still ∙ c.in_ok-effects.ensures.world in
    let same : IsSame c.loop-line.self c.write.new.self = subst (IsSame c.loop-line.self) (sym still) c.in_ok-effects.ensures.same in
    record {
      running = subst (IsRunning c.args.svc.now) (sym still) c.in_ok-effects.ensures.running;
      of = still_of c.loop-line.invariant.of same;
      done = done_next c.args.svc.now c.loop-line.self c.write.new.self c.line-item.result world ∙ omega (arith, c.loop-line.invariant.done);
      world = leads_next c.args.svc.now c.args.self.now c.write.new.self c.loop-line.invariant.of
          (drop_next c.as_slice-line-items.ensures c.loop-line-test.true c.line-item.is)
          world c.loop-line.invariant.world;
      same = same_both c.loop-line.invariant.same same;
      written =
          subst (λ x. IsWritten (g.K.Sink.taken c.args.sink.now) (g.K.Sink.taken c.write.new.sink) c.write.new.waiting.items (report_from c.args.svc.now c.args.scenario.now.requests c.args.scenario.now.seed c.args.scenario.now.nodes x (drop (c.loop-line.line-index + 1) c.args.scenario.now.schedule)) (report_from c.args.svc.now c.args.scenario.now.requests c.args.scenario.now.seed c.args.scenario.now.nodes (world_of c.args.svc.now c.args.self.now) c.args.scenario.now.schedule))
          (sym world)
          (written_next (g.K.Sink.taken c.write.new.sink)
          (effects_text c.args.svc.now (c.loop-line.self.done + 1) (row_in c.args.svc.now c.loop-line.self c.line-item.result).effects)
          (report_from c.args.svc.now c.args.scenario.now.requests c.args.scenario.now.seed c.args.scenario.now.nodes (next_of c.args.svc.now c.loop-line.self c.line-item.result) (drop (c.loop-line.line-index + 1) c.args.scenario.now.schedule))
          c.loop-line.invariant.written
          (report_next c.args.svc.now c.loop-line.invariant.of
          (drop_next c.as_slice-line-items.ensures c.loop-line-test.true c.line-item.is))
          (subst (IsWritten (g.K.Sink.taken c.loop-line.sink) (g.K.Sink.taken c.write.new.sink) c.write.new.waiting.items []) told c.in_ok-write.ensures.written));
      later = omega (arith, c.in_ok-write.ensures.ends.cause.later, c.loop-line.invariant.later);
    }

pub returns-clause-whole : goal.returns-clause-whole
returns-clause-whole g c =
    on_ok_weaker c.write_ends.result
    (written_last
    c.loop-line.invariant.written
    (ap (report_from c.args.svc.now c.args.scenario.now.requests c.args.scenario.now.seed c.args.scenario.now.nodes (world_of c.args.svc.now c.loop-line.self))
    (drop_end c.as_slice-line-items.ensures c.loop-line-test.false)))
    c.write_ends.ensures.whole

pub returns-clause-front : goal.returns-clause-front
returns-clause-front g c =
    front_next _
    _ [] c.loop-line.invariant.written
    (ap (report_from c.args.svc.now c.args.scenario.now.requests c.args.scenario.now.seed c.args.scenario.now.nodes (world_of c.args.svc.now c.loop-line.self))
    (drop_end c.as_slice-line-items.ensures c.loop-line-test.false)
    ∙ sym (append-nil (ends_text c.args.svc.now 1 (world_of c.args.svc.now c.loop-line.self).nodes)))
    c.write_ends.ensures.front

pub returns-clause-leads : goal.returns-clause-leads
returns-clause-leads g c =
    on_ok_weaker c.write_ends.result
    (λ still.
    record {
      world =
          ap (world_of c.args.svc.now) still
          ∙ sym (ap (after_lines c.args.svc.now c.args.scenario.now.requests c.args.scenario.now.seed c.args.scenario.now.nodes (world_of c.args.svc.now c.loop-line.self))
          (drop_end c.as_slice-line-items.ensures c.loop-line-test.false))
          ∙ c.loop-line.invariant.world;
      running = subst (IsRunning c.args.svc.now) (sym still) c.loop-line.invariant.running;
      same = subst (IsSame c.args.self.now) (sym still) c.loop-line.invariant.same;
      done = ap (λ w. w.done) still ∙ c.loop-line.invariant.done ∙ ap (λ n. c.args.self.now.done + n) (omega (arith, c.loop-line-test.false, c.loop-line.auto.line-index-end, ap length c.as_slice-line-items.ensures));
    })
    c.write_ends.ensures.ends.same
