use Rattle.std.proofs.Common.{IfOk, sym, ap, subst, ◌∙◌}
use Rattle.std.specs.Option.{option_copied}
use Rattle.rex_processes.specs.Tested.{OpenFits}
use Rattle.rex_process.specs.Hearing.{IsTestOfAdopted, IsTestOfOpen}
use Rattle.rex_process.specs.Process.{ProcessValue, IsProcess, here}
use Rattle.rex_process.proofs.Adopting.{open_none, open_some}
use Rattle.rex_process.proofs.process.Process.test_open.Goals as goal

pub returns-in-None : goal.returns-in-None
returns-in-None g c =
    let p : ProcessValue g.row.K.Denot = record { service = c.self.inside.svc.now; node = c.self.inside.node; clock = c.self.inside.clock } in
    let process = subst (IsProcess g.K.Keeper.records g.K.Keeper.faults) (sym c.self.view_is) c.requires.process in
    let up = ap (λ (q : ProcessValue g.row.K.Denot). q.node.up) c.self.view_is ∙ c.requires.up in
    subst (λ (q : ProcessValue g.row.K.Denot). OpenFits q.service (here g.K.Keeper.records q)) c.self.view_is
    (open_none g.K.Keeper.records g.K.Keeper.faults p process up c.role.result (option_copied c.open_value.result) c.adopted.result c.role.ensures c.open_value.ensures c.adopted.ensures c.in-None.is)

pub returns-in-Some : goal.returns-in-Some
returns-in-Some g c =
    let p : ProcessValue g.row.K.Denot = record { service = c.self.inside.svc.now; node = c.self.inside.node; clock = c.self.inside.clock } in
    let process = subst (IsProcess g.K.Keeper.records g.K.Keeper.faults) (sym c.self.view_is) c.requires.process in
    let up = ap (λ (q : ProcessValue g.row.K.Denot). q.node.up) c.self.view_is ∙ c.requires.up in
    let tested = subst (λ (q : ProcessValue g.row.K.Denot). IfOk c.test_adopted.result (IsTestOfAdopted q.service (here g.K.Keeper.records q) c.in-Some.value.now)) (sym c.self.view_is) c.test_adopted.ensures in
    subst (λ (q : ProcessValue g.row.K.Denot). IfOk c.test_adopted.result (IsTestOfOpen q.service (here g.K.Keeper.records q))) c.self.view_is
    (open_some g.K.Keeper.records g.K.Keeper.faults p process up c.role.result (option_copied c.open_value.result) c.adopted.result c.in-Some.value c.test_adopted.result c.role.ensures c.open_value.ensures c.adopted.ensures c.in-Some.is tested)
