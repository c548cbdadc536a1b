use Rattle.std.proofs.Common.{◌≡◌, Some, sym, ap, subst, ◌∙◌}
use Rattle.rex_event.specs.Cuts.{below, beyond, IsConsistent}
use Rattle.rex_state.specs.Machine.{run}
use Rattle.rex_record.specs.Value.{RecorderRoom, RecorderValue}
use Rattle.rex_record.specs.Kept.{IsRecorder}
use Rattle.rex_record.proofs.Settles.{IsParted, can_advance, rest_counted, rest_runs, settles}
use Rattle.rex_record.proofs.recorder.Recorder.settle_some.Goals as goal
use Rattle.rex_record.proofs.recorder.Recorder.settle_some.Goals.{After-deref-4}

-- the recorder as it was
abbrev recorder : After-deref-4 → RecorderValue
recorder c = record { start = c.self.inside.start; live = c.self.inside.live.items; state = c.self.inside.state; queue = c.self.inside.queue.items }

-- the cut parts its live events
parted : (c : After-deref-4) → IsParted c.args.svc.now (recorder c) c.args.cut.now.counts c.deref-4.result.now c.in_ok-rest.rest.items
parted c = record {
  good = c.declarations-service.ensures.sound;
  recorder = subst (λ (r : RecorderRoom). IsRecorder c.args.svc.now r.value) (sym c.self.view_is) c.requires.recorder;
  closed = subst (λ (r : RecorderRoom). IsConsistent r.value.live c.args.cut.now.counts) (sym c.self.view_is) c.requires.consistent;
  known_are = c.deref-4.ensures.value ∙ c.in_ok-known.ensures ∙ ap (below c.args.cut.now.counts) c.deref.ensures.value;
  rest_are = c.in_ok-rest.ensures ∙ ap (beyond c.args.cut.now.counts) c.deref-2.ensures.value;
}

pub replay-requires-clause-runs : goal.replay-requires-clause-runs
replay-requires-clause-runs c = (can_advance (parted (goal.at.replay-requires-clause-runs c).After-deref-4) c.self.invariant).runs

pub replay-requires-clause-counted : goal.replay-requires-clause-counted
replay-requires-clause-counted c = (can_advance (parted (goal.at.replay-requires-clause-counted c).After-deref-4) c.self.invariant).counted

pub invariant_of-self : goal.invariant_of-self
invariant_of-self c = rest_counted (parted (goal.at.invariant_of-self c).After-deref-4) c.self.invariant

pub returns-clause-rest : goal.returns-clause-rest
returns-clause-rest c =
    subst (λ (r : RecorderRoom). run c.args.svc.now c.in_ok-start.start (beyond c.args.cut.now.counts r.value.live) ≡ Some r.value.state) c.self.view_is
    (rest_runs (parted (goal.at.returns-clause-rest c).After-deref-4) c.in_ok-start.start c.in_ok-start.ensures.runs)

pub returns-clause-kept : goal.returns-clause-kept
returns-clause-kept c = settles (parted (goal.at.returns-clause-kept c).After-deref-4) c.in_ok-start.start c.in_ok-start.ensures.runs
