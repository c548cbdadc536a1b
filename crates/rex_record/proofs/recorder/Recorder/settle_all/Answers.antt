use Rattle.std.proofs.Common.{List, sym, ap, subst, ◌∙◌}
use Rattle.rex_state.specs.declared.lane.Entry.{Entry}
use Rattle.rex_state.specs.Value.{StateValue}
use Rattle.rex_state.specs.Put.{HasSizesOf}
use Rattle.rex_gate.specs.Noted.{noted}
use Rattle.rex_record.specs.Value.{RecorderRoom}
use Rattle.rex_record.specs.Kept.{IsRecorder}
use Rattle.rex_record.proofs.Releasing.{noted_over}
use Rattle.rex_record.proofs.Settles.{entries_are, kept_whole, same_sizes, sizes_without}
use Rattle.rex_record.proofs.recorder.Recorder.settle_all.Goals as goal

pub catch_up-requires-clause-sizes : goal.catch_up-requires-clause-sizes
catch_up-requires-clause-sizes c =
    subst (λ (s : StateValue). HasSizesOf s c.self.inside.state) (sym c.take_entries-entries.ensures.others)
    (sizes_without c.self.inside.start c.self.inside.state (same_sizes c.args.svc.now (record { start = c.self.inside.start; live = c.self.inside.live.items; state = c.self.inside.state; queue = c.self.inside.queue.items }) c.declarations-service.ensures.sound
    (subst (λ (r : RecorderRoom). IsRecorder c.args.svc.now r.value) (sym c.self.view_is) c.requires.recorder)))

pub catch_up-requires-clause-entries : goal.catch_up-requires-clause-entries
catch_up-requires-clause-entries c =
    noted_over c.deref_mut.result.now c.deref.result.now c.release_all.new.clients c.take_entries-entries.result.items c.take_entries-entries.result.len
    c.release_all.ensures.clients c.deref_mut.ensures.value c.take_entries-entries.result.ok.0
    ∙ ap (λ (cs : List Entry). noted cs c.deref.result.now) (c.deref_mut.ensures.value ∙ c.take_entries-entries.ensures.entries)
    ∙ ap (noted c.self.inside.start.clients) c.deref.ensures.value
    ∙ entries_are c.args.svc.now (record { start = c.self.inside.start; live = c.self.inside.live.items; state = c.self.inside.state; queue = c.self.inside.queue.items }) c.declarations-service.ensures.sound
    (subst (λ (r : RecorderRoom). IsRecorder c.args.svc.now r.value) (sym c.self.view_is) c.requires.recorder)

pub returns-clause-kept : goal.returns-clause-kept
returns-clause-kept c =
    rw (c.catch_up.ensures, c.clear.ensures.items) (kept_whole c.args.svc.now (record { start = c.self.inside.start; live = c.self.inside.live.items; state = c.self.inside.state; queue = c.self.inside.queue.items }) c.declarations-service.ensures.sound
    (subst (λ (r : RecorderRoom). IsRecorder c.args.svc.now r.value) (sym c.self.view_is) c.requires.recorder))
