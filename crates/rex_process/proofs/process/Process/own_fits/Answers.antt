use Rattle.std.proofs.Common.{true, false, sym, ap, subst, refl, ◌∙◌}
use Rattle.std.specs.Option.{option_copied}
use Rattle.rex_processes.specs.Tested.{OwnReportsFit}
use Rattle.rex_process.specs.Process.{ProcessValue, IsProcess, IsTest, Tells, here}
use Rattle.rex_process.proofs.Adopting.{later_seen, none_seen, some_seen}
use Rattle.rex_process.proofs.process.Process.own_fits.Goals as goal

pub returns-then-is_some : goal.returns-then-is_some
returns-then-is_some g c =
    let p : ProcessValue g.row.K.Denot = record { service = c.self.inside.svc.now; node = c.self.inside.node; clock = c.self.inside.clock } in
    let process = subst (IsProcess g.K.Keeper.records g.K.Keeper.faults) (sym c.self.view_is) c.requires.process in
    let up = ap (λ (q : ProcessValue g.row.K.Denot). q.node.up) c.self.view_is ∙ c.requires.up in
    subst (λ (q : ProcessValue g.row.K.Denot). Tells false (OwnReportsFit q.service (here g.K.Keeper.records q))) c.self.view_is
    (later_seen g.K.Keeper.records g.K.Keeper.faults p process up c.known-next.result _ c.accepted_for.result c.known-next.ensures refl c.accepted_for.ensures (sym c.if-is_some.ensures))

pub returns-in-None : goal.returns-in-None
returns-in-None g c =
    let p : ProcessValue g.row.K.Denot = record { service = c.self.inside.svc.now; node = c.self.inside.node; clock = c.self.inside.clock } in
    let process = subst (IsProcess g.K.Keeper.records g.K.Keeper.faults) (sym c.self.view_is) c.requires.process in
    let up = ap (λ (q : ProcessValue g.row.K.Denot). q.node.up) c.self.view_is ∙ c.requires.up in
    subst (λ (q : ProcessValue g.row.K.Denot). Tells true (OwnReportsFit q.service (here g.K.Keeper.records q))) c.self.view_is
    (none_seen g.K.Keeper.records g.K.Keeper.faults p process up c.known-next.result _ _ c.accepted_for.result c.accepted_for-2.result c.known-next.ensures refl refl c.accepted_for.ensures (sym c.if-is_some.ensures) c.accepted_for-2.ensures c.in-None.is)

pub returns-in_ok-tested-in-Some : goal.returns-in_ok-tested-in-Some
returns-in_ok-tested-in-Some g c =
    let p : ProcessValue g.row.K.Denot = record { service = c.self.inside.svc.now; node = c.self.inside.node; clock = c.self.inside.clock } in
    let process = subst (IsProcess g.K.Keeper.records g.K.Keeper.faults) (sym c.self.view_is) c.requires.process in
    let up = ap (λ (q : ProcessValue g.row.K.Denot). q.node.up) c.self.view_is ∙ c.requires.up in
    let test = subst (λ (q : ProcessValue g.row.K.Denot). IsTest q.service q.clock (here g.K.Keeper.records q) c.in-Some.value.now c.in_ok-tested-in-Some.field-0) (sym c.self.view_is) c.in_ok-tested-in-Some.ensures in
    subst (λ (q : ProcessValue g.row.K.Denot). Tells c.is_some-in-Some.result (OwnReportsFit q.service (here g.K.Keeper.records q))) c.self.view_is
    (subst (λ t. Tells t (OwnReportsFit p.service (here g.K.Keeper.records p))) (sym c.is_some-in-Some.ensures)
    (some_seen g.K.Keeper.records g.K.Keeper.faults p process up c.known-next.result _ _ c.accepted_for.result c.accepted_for-2.result c.in-Some.value.now c.in_ok-tested-in-Some.field-0 c.known-next.ensures refl refl c.accepted_for.ensures (sym c.if-is_some.ensures) c.accepted_for-2.ensures
    (ap option_copied c.in-Some.is) test))
