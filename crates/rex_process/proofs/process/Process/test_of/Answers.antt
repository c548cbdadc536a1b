use Rattle.std.proofs.Common.{◌≡◌, [], IfOk, sym, ap, subst, ◌∙◌}
use Rattle.rex_msg.specs.declared.message.Content.TheVariants as sent
use Rattle.rex_cluster.specs.Values.{Value}
use Rattle.rex_log.specs.Messages.{content_in}
use Rattle.rex_processes.specs.Tested.{MayBeHeard}
use Rattle.rex_process.specs.Hearing.{IsTestOf, IsTestOfNext}
use Rattle.rex_process.specs.Process.{ProcessValue, IsProcess, here}
use Rattle.rex_process.proofs.Trying.{next_tested, other_passes}
use Rattle.rex_process.proofs.process.Process.test_of.Goals as goal

pub returns-then-instance-known : goal.returns-then-instance-known
returns-then-instance-known g c =
    let p : ProcessValue g.row.K.Denot = record { service = c.self.inside.svc.now; node = c.self.inside.node; clock = c.self.inside.clock } in
    let process = subst (IsProcess g.K.Keeper.records g.K.Keeper.faults) (sym c.self.view_is) c.requires.process in
    let up = ap (λ (q : ProcessValue g.row.K.Denot). q.node.up) c.self.view_is ∙ c.requires.up in
    let tested = subst (λ (q : ProcessValue g.row.K.Denot). IfOk c.test_next.result (IsTestOfNext q.service q.clock (here g.K.Keeper.records q) c.as_slice.result.now)) (sym c.self.view_is) c.test_next.ensures in
    let chosen : c.args.content.now ≡ sent.Chosen c.in-Chosen.instance c.as_slice.result.now = c.in-Chosen.is ∙ ap (λ (v : Value). sent.Chosen c.in-Chosen.instance v) (sym c.as_slice.ensures) in
    subst (λ (q : ProcessValue g.row.K.Denot). IfOk c.test_next.result (IsTestOf g.K.Keeper.records q c.args.content.now)) c.self.view_is
    (next_tested g.K.Keeper.records g.K.Keeper.faults p process up c.in-Chosen.instance c.known.result c.as_slice.result.now c.args.content.now chosen c.known.ensures c.if-instance-known.true c.test_next.result tested)

pub returns-else-instance-known : goal.returns-else-instance-known
returns-else-instance-known g c =
    let p : ProcessValue g.row.K.Denot = record { service = c.self.inside.svc.now; node = c.self.inside.node; clock = c.self.inside.clock } in
    let process = subst (IsProcess g.K.Keeper.records g.K.Keeper.faults) (sym c.self.view_is) c.requires.process in
    let up = ap (λ (q : ProcessValue g.row.K.Denot). q.node.up) c.self.view_is ∙ c.requires.up in
    subst (λ (q : ProcessValue g.row.K.Denot). MayBeHeard q.service (here g.K.Keeper.records q) (content_in [] c.args.content.now)) c.self.view_is
    (other_passes g.K.Keeper.records g.K.Keeper.faults p process up c.in-Chosen.instance c.known.result _ c.args.content.now c.in-Chosen.is c.known.ensures c.if-instance-known.false)
