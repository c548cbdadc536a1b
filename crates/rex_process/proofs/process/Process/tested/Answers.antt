use Rattle.std.proofs.Common.{w64, to_z, of_z, ℤ, ◌≡◌, true, false, None, Some, sym, ap, subst, ◌∙◌}
use Rattle.std.proofs.lemmas.Int.{to_z-of_z}
use Rattle.rex_state.specs.Value.{StateValue}
use Rattle.rex_state.specs.Sound.{IsSound}
use Rattle.rex_node.specs.Checkpointing.{replayed_state}
use Rattle.rex_fits.specs.Applied.{AppliedValue, HasTaken, fits_after}
use Rattle.rex_process.specs.Process.{ProcessValue, IsProcess, IsTest, here}
use Rattle.rex_process.proofs.Trying.{fails, passes, sound}
use Rattle.rex_process.proofs.process.Process.tested.Goals as goal

pub take-requires : goal.take-requires
take-requires g c =
    let p : ProcessValue g.row.K.Denot = record { service = c.self.inside.svc.now; node = c.self.inside.node; clock = c.self.inside.clock } in
    let process = subst (IsProcess g.K.Keeper.records g.K.Keeper.faults) (sym c.self.view_is) c.requires.process in
    let up = ap (λ (q : ProcessValue g.row.K.Denot). q.node.up) c.self.view_is ∙ c.requires.up in
    subst (λ (a : AppliedValue). IsSound c.self.inside.svc.now a.state) (sym c.after-applied.ensures)
    (subst (IsSound c.self.inside.svc.now) (sym (c.in_ok-state.ensures ∙ c.state.ensures.replayed))
    (sound g.K.Keeper.records g.K.Keeper.faults p c.declarations-service.ensures.sound c.declarations-service.ensures.checked process up c.args.value.now))

pub returns-then-branch : goal.returns-then-branch
returns-then-branch g c =
    let p : ProcessValue g.row.K.Denot = record { service = c.self.inside.svc.now; node = c.self.inside.node; clock = c.self.inside.clock } in
    let process = subst (IsProcess g.K.Keeper.records g.K.Keeper.faults) (sym c.self.view_is) c.requires.process in
    let up = ap (λ (q : ProcessValue g.row.K.Denot). q.node.up) c.self.view_is ∙ c.requires.up in
    let same : to_z w64 (of_z w64 c.self.inside.clock) ≡ c.self.inside.clock = search (to_z-of_z) in
    let is : c.after-applied.result ≡ record { state = replayed_state c.self.inside.node; clock = c.self.inside.clock } =
    c.after-applied.ensures ∙ ap (λ (t : ℤ). record { state = c.in_ok-state.state; clock = t }) same ∙ ap (λ (s : StateValue). record { state = s; clock = c.self.inside.clock }) (c.in_ok-state.ensures ∙ c.state.ensures.replayed) in
    let fits : fits_after c.self.inside.svc.now (replayed_state c.self.inside.node) c.args.value.now ≡ true =
    subst (λ (a : AppliedValue). fits_after c.self.inside.svc.now a.state c.args.value.now ≡ true) is (sym c.in_ok-take.ensures.fits ∙ c.if-branch.true) in
    let taken = subst (λ (a : AppliedValue). HasTaken c.self.inside.svc.now a c.args.value.now c.take.new.self) is (c.in_ok-take.ensures.taken c.if-branch.true) in
    subst (λ (q : ProcessValue g.row.K.Denot). IsTest q.service q.clock (here g.K.Keeper.records q) c.args.value.now (Some c.take.new.self)) c.self.view_is
    (passes g.K.Keeper.records g.K.Keeper.faults p c.declarations-service.ensures.sound c.declarations-service.ensures.checked process up c.args.value.now c.take.new.self fits taken)

pub returns-else-branch : goal.returns-else-branch
returns-else-branch g c =
    let p : ProcessValue g.row.K.Denot = record { service = c.self.inside.svc.now; node = c.self.inside.node; clock = c.self.inside.clock } in
    let process = subst (IsProcess g.K.Keeper.records g.K.Keeper.faults) (sym c.self.view_is) c.requires.process in
    let up = ap (λ (q : ProcessValue g.row.K.Denot). q.node.up) c.self.view_is ∙ c.requires.up in
    let fits : fits_after c.self.inside.svc.now (replayed_state c.self.inside.node) c.args.value.now ≡ false =
    subst (λ (s : StateValue). fits_after c.self.inside.svc.now s c.args.value.now ≡ false) (ap (λ (a : AppliedValue). a.state) c.after-applied.ensures ∙ (c.in_ok-state.ensures ∙ c.state.ensures.replayed))
    (sym c.in_ok-take.ensures.fits ∙ c.if-branch.false) in
    subst (λ (q : ProcessValue g.row.K.Denot). IsTest q.service q.clock (here g.K.Keeper.records q) c.args.value.now None) c.self.view_is
    (fails g.K.Keeper.records g.K.Keeper.faults p c.declarations-service.ensures.sound c.declarations-service.ensures.checked process up c.args.value.now fits)
