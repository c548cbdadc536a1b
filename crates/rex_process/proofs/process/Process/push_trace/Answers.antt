use Rattle.std.proofs.Common.{◌≡◌, ◌≤◌, ◌++◌, List, OnOk, length, sym, ap, subst, ◌∙◌}
use Rattle.rex_syntax.specs.declared.service.Declarations.{Declarations}
use Rattle.rex_cluster.specs.Values.{Value}
use Rattle.rex_transfer.specs.Window.{WindowValue}
use Rattle.rex_steps.specs.Tracing.{values_text}
use Rattle.rex_process.specs.Process.{ProcessValue, IsProcess}
use Rattle.rex_process.specs.Tracing.{known_text}
use Rattle.rex_process.proofs.Standing.{known_few, known_is}
use Rattle.rex_process.proofs.process.Process.push_trace.Goals as goal

pub push_values-requires : goal.push_values-requires
push_values-requires g c =
    let p : ProcessValue g.row.K.Denot = record { service = c.self.inside.svc.now; node = c.self.inside.node; clock = c.self.inside.clock } in
    let process = subst (IsProcess g.K.Keeper.records g.K.Keeper.faults) (sym c.self.view_is) c.requires.process in
    let up = ap (λ (q : ProcessValue g.row.K.Denot). q.node.up) c.self.view_is ∙ c.requires.up in
    subst (λ (vs : List Value). length vs ≤ 65535) (sym (c.values-known.ensures ∙ ap (λ (w : WindowValue). w.values) c.window.ensures)) (known_few g.K.Keeper.records p.service p.node process.node process.plain up)

pub returns : goal.returns
returns g c =
    let p : ProcessValue g.row.K.Denot = record { service = c.self.inside.svc.now; node = c.self.inside.node; clock = c.self.inside.clock } in
    let process = subst (IsProcess g.K.Keeper.records g.K.Keeper.faults) (sym c.self.view_is) c.requires.process in
    let up = ap (λ (q : ProcessValue g.row.K.Denot). q.node.up) c.self.view_is ∙ c.requires.up in
    let holds = c.values-known.ensures ∙ ap (λ (w : WindowValue). w.values) c.window.ensures in
    subst (λ (q : ProcessValue g.row.K.Denot). OnOk c.push_values.result (c.push_values.new.out.items ≡ c.args.out.now.items ++ known_text g.K.Keeper.records q)) c.self.view_is
    (subst (λ (vs : List Value). OnOk c.push_values.result (c.push_values.new.out.items ≡ c.args.out.now.items ++ values_text p.service 1 vs))
    (holds ∙ known_is g.K.Keeper.records p.service p.node process.node process.plain up)
    (subst (λ (service : Declarations). OnOk c.push_values.result (c.push_values.new.out.items ≡ c.args.out.now.items ++ values_text service 1 c.values-known.result.now))
    c.declarations.ensures.whole c.push_values.ensures))
