use Rattle.std.proofs.Common.{◌+◌, ◌<◌, ◌^◌, sym, subst}
use Rattle.rex_state.specs.Machine.{lane_of}
use Rattle.rex_record.specs.Value.{RecorderValue}
use Rattle.rex_record.proofs.Takes.{fit_count}
use Rattle.rex_record.proofs.recorder.Recorder.take_event.Goals as goal

pub take_reserved-requires-clause-count : goal.take_reserved-requires-clause-count
take_reserved-requires-clause-count c =
    fit_count c.args.svc.now c.reserve.new.self.value.state c.reserve.new.self.value.queue c.args.event.now
    (subst (λ (r : RecorderValue). (lane_of r.state c.args.event.now.lane).done + 1 < 2 ^ 32) (sym c.in_ok-reserve.ensures.same) c.requires.count)
