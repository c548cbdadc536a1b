use Rattle.std.proofs.Common.{IfSome, sym, ap, subst, ◌∙◌}
use Rattle.rex_process.specs.Keeping.{ByAppends}
use Rattle.rex_process.specs.Process.{ProcessValue, IsLeft, IsProcess}
use Rattle.rex_process.specs.Serving.{CanCall, IsTestFor, Spares, task_of}
use Rattle.rex_process.proofs.Called.{HasSettled, may_serve, past_node, served_comes, on_err, served_settles, settled_spares, short_comes, short_spares}
use Rattle.rex_process.proofs.process.Process.served.Given as given
use Rattle.rex_process.proofs.process.Process.served.Goals as goal

pub serve-requires-clause-node : goal.serve-requires-clause-node
serve-requires-clause-node g c =
    let p : ProcessValue g.row.K.Denot = record { service = c.self.inside.svc.now; node = c.self.inside.node; clock = c.self.inside.clock } in
    let process = subst (IsProcess g.K.Keeper.records g.K.Keeper.faults) (sym c.self.view_is) c.requires.process in
    let up = ap (λ (q : ProcessValue g.row.K.Denot). q.node.up) c.self.view_is ∙ c.requires.up in
    past_node g.K.Keeper.records g.K.Keeper.append_gives g.K.Keeper.faults p c.declarations-service.ensures.sound c.declarations-service.ensures.checked process up

pub serve-requires-clause-may : goal.serve-requires-clause-may
serve-requires-clause-may g c =
    let p : ProcessValue g.row.K.Denot = record { service = c.self.inside.svc.now; node = c.self.inside.node; clock = c.self.inside.clock } in
    let process = subst (IsProcess g.K.Keeper.records g.K.Keeper.faults) (sym c.self.view_is) c.requires.process in
    let up = ap (λ (q : ProcessValue g.row.K.Denot). q.node.up) c.self.view_is ∙ c.requires.up in
    let may = subst (λ (q : ProcessValue g.row.K.Denot). CanCall g.K.Keeper.records q c.args.call.now) (sym c.self.view_is) c.requires.call in
    may_serve g.K.Keeper.records g.K.Keeper.append_gives g.K.Keeper.faults p c.declarations-service.ensures.sound c.declarations-service.ensures.checked process up c.args.call.now may

pub serve-requires-clause-count : goal.serve-requires-clause-count
serve-requires-clause-count g c =
    let p : ProcessValue g.row.K.Denot = record { service = c.self.inside.svc.now; node = c.self.inside.node; clock = c.self.inside.clock } in
    let process = subst (IsProcess g.K.Keeper.records g.K.Keeper.faults) (sym c.self.view_is) c.requires.process in
    let up = ap (λ (q : ProcessValue g.row.K.Denot). q.node.up) c.self.view_is ∙ c.requires.up in
    (process.up up).count

pub returns-in_err-step-clause-left : goal.returns-in_err-step-clause-left
returns-in_err-step-clause-left g c =
    let p : ProcessValue g.row.K.Denot = record { service = c.self.inside.svc.now; node = c.self.inside.node; clock = c.self.inside.clock } in
    let process = subst (IsProcess g.K.Keeper.records g.K.Keeper.faults) (sym c.self.view_is) c.requires.process in
    let up = ap (λ (q : ProcessValue g.row.K.Denot). q.node.up) c.self.view_is ∙ c.requires.up in
    let may = subst (λ (q : ProcessValue g.row.K.Denot). CanCall g.K.Keeper.records q c.args.call.now) (sym c.self.view_is) c.requires.call in
    on_err c.from_residual.result
    (subst (λ (q : ProcessValue g.row.K.Denot). IsLeft g.K.Keeper.records q (record p { node = c.serve-2.new.node }) (task_of c.args.call.now)) c.self.view_is
    (short_comes g.K.Keeper.records g.K.Keeper.append_gives g.K.Keeper.faults p c.declarations-service.ensures.sound c.declarations-service.ensures.checked process up c.args.call.now may c.serve-2.new.node c.in_err-step.ensures.short c.in_err-step.field-0.0).left)

pub settled-requires : goal.settled-requires
settled-requires g c =
    let p : ProcessValue g.row.K.Denot = record { service = c.self.inside.svc.now; node = c.self.inside.node; clock = c.self.inside.clock } in
    let process = subst (IsProcess g.K.Keeper.records g.K.Keeper.faults) (sym c.self.view_is) c.requires.process in
    let up = ap (λ (q : ProcessValue g.row.K.Denot). q.node.up) c.self.view_is ∙ c.requires.up in
    let may = subst (λ (q : ProcessValue g.row.K.Denot). CanCall g.K.Keeper.records q c.args.call.now) (sym c.self.view_is) c.requires.call in
    let test = subst (λ (q : ProcessValue g.row.K.Denot). IfSome c.args.test (IsTestFor g.K.Keeper.records q c.args.call.now)) (sym c.self.view_is) c.requires.test in
    record { settling = served_settles g.K.Keeper.records g.K.Keeper.append_gives g.K.Keeper.faults p c.declarations-service.ensures.sound c.declarations-service.ensures.checked process up c.args.call.now may c.serve-2.new.node c.in_ok-step.step c.in_ok-step.ensures.serves c.in_ok-step.ensures.kept c.known-known.result c.known-known.ensures c.args.test test }

-- what comes of it, and of what comes behind it
outcome : (g : given.Over) (c : goal.After-settled g) → HasSettled g.K.Keeper.records g.K.Keeper.append_gives g.K.Keeper.faults c.args.self.now c.settled.new.self (task_of c.args.call.now) c.settled.result
outcome g c =
    let p : ProcessValue g.row.K.Denot = record { service = c.self.inside.svc.now; node = c.self.inside.node; clock = c.self.inside.clock } in
    let process = subst (IsProcess g.K.Keeper.records g.K.Keeper.faults) (sym c.self.view_is) c.requires.process in
    let up = ap (λ (q : ProcessValue g.row.K.Denot). q.node.up) c.self.view_is ∙ c.requires.up in
    let may = subst (λ (q : ProcessValue g.row.K.Denot). CanCall g.K.Keeper.records q c.args.call.now) (sym c.self.view_is) c.requires.call in
    subst (λ (q : ProcessValue g.row.K.Denot). HasSettled g.K.Keeper.records g.K.Keeper.append_gives g.K.Keeper.faults q c.settled.new.self (task_of c.args.call.now) c.settled.result) c.self.view_is
    (served_comes g.K.Keeper.records g.K.Keeper.append_gives g.K.Keeper.faults p c.declarations-service.ensures.sound c.declarations-service.ensures.checked process up c.args.call.now may c.serve-2.new.node c.in_ok-step.step c.in_ok-step.ensures.serves c.in_ok-step.ensures.kept c.known-known.result c.known-known.ensures
    c.settled.new.self c.settled.result c.settled.ensures.caught c.settled.ensures.service c.settled.ensures.keeper c.settled.ensures.kept)

pub returns-clause-comes : goal.returns-clause-comes
returns-clause-comes g c = (outcome g c).comes

pub returns-clause-sends : goal.returns-clause-sends
returns-clause-sends g c = (outcome g c).sends

pub returns-clause-process : goal.returns-clause-process
returns-clause-process g c = (outcome g c).process

pub returns-clause-left : goal.returns-clause-left
returns-clause-left g c = (outcome g c).left

pub returns-clause-appends : goal.returns-clause-appends
returns-clause-appends g c = (outcome g c).appends

pub returns-in_err-step-clause-appends : goal.returns-in_err-step-clause-appends
returns-in_err-step-clause-appends g c =
    let p : ProcessValue g.row.K.Denot = record { service = c.self.inside.svc.now; node = c.self.inside.node; clock = c.self.inside.clock } in
    let process = subst (IsProcess g.K.Keeper.records g.K.Keeper.faults) (sym c.self.view_is) c.requires.process in
    let up = ap (λ (q : ProcessValue g.row.K.Denot). q.node.up) c.self.view_is ∙ c.requires.up in
    let may = subst (λ (q : ProcessValue g.row.K.Denot). CanCall g.K.Keeper.records q c.args.call.now) (sym c.self.view_is) c.requires.call in
    subst (λ (q : ProcessValue g.row.K.Denot). ByAppends g.K.Keeper.append_gives q.node.keeper c.serve-2.new.node.keeper) c.self.view_is
    (short_comes g.K.Keeper.records g.K.Keeper.append_gives g.K.Keeper.faults p c.declarations-service.ensures.sound c.declarations-service.ensures.checked process up c.args.call.now may c.serve-2.new.node c.in_err-step.ensures.short c.in_err-step.field-0.0).appends

pub returns-in_err-step-clause-spares : goal.returns-in_err-step-clause-spares
returns-in_err-step-clause-spares g c =
    let p : ProcessValue g.row.K.Denot = record { service = c.self.inside.svc.now; node = c.self.inside.node; clock = c.self.inside.clock } in
    let process = subst (IsProcess g.K.Keeper.records g.K.Keeper.faults) (sym c.self.view_is) c.requires.process in
    let up = ap (λ (q : ProcessValue g.row.K.Denot). q.node.up) c.self.view_is ∙ c.requires.up in
    subst (λ (q : ProcessValue g.row.K.Denot). Spares c.args.call.now q (record p { node = c.serve-2.new.node })) c.self.view_is
    (short_spares g.K.Keeper.records g.K.Keeper.append_gives g.K.Keeper.faults p c.declarations-service.ensures.sound c.declarations-service.ensures.checked process up c.args.call.now c.serve-2.new.node c.in_err-step.ensures.spares)

pub returns-clause-spares : goal.returns-clause-spares
returns-clause-spares g c =
    let p : ProcessValue g.row.K.Denot = record { service = c.self.inside.svc.now; node = c.self.inside.node; clock = c.self.inside.clock } in
    let process = subst (IsProcess g.K.Keeper.records g.K.Keeper.faults) (sym c.self.view_is) c.requires.process in
    let up = ap (λ (q : ProcessValue g.row.K.Denot). q.node.up) c.self.view_is ∙ c.requires.up in
    let test = subst (λ (q : ProcessValue g.row.K.Denot). IfSome c.args.test (IsTestFor g.K.Keeper.records q c.args.call.now)) (sym c.self.view_is) c.requires.test in
    subst (λ (q : ProcessValue g.row.K.Denot). Spares c.args.call.now q c.settled.new.self) c.self.view_is
    (settled_spares g.K.Keeper.records g.K.Keeper.append_gives g.K.Keeper.faults p c.declarations-service.ensures.sound c.declarations-service.ensures.checked process up c.args.call.now c.serve-2.new.node c.known-known.result c.args.test c.settled.new.self c.known-known.ensures test c.in_ok-step.ensures.spares c.settled.ensures.keeper c.settled.ensures.still)
