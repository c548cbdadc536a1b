use Rattle.std.proofs.Common.{rules, w64, to_z, of_z, ℤ, ◌≡◌, false, true, IfOk, refl, sym, subst, ◌∙◌}
use Rattle.std.proofs.lemmas.Int.{to_z-of_z}
use Rattle.rex_node.specs.declared.step.Step.{Step}
use Rattle.rex_process.specs.Process.{ProcessValue, here, is_behind}
use Rattle.rex_process.specs.Settling.{IsCaught, IsReady, Reads}
use Rattle.rex_process.proofs.Following.{caught_behind, caught_none}
use Rattle.rex_process.proofs.process.Process.took.Goals as goal

pub returns-then-not-is_behind-clause-caught : goal.returns-then-not-is_behind-clause-caught
returns-then-not-is_behind-clause-caught g c =
    let p : ProcessValue g.row.K.Denot = record { service = c.self.inside.svc.now; node = c.self.inside.node; clock = c.self.inside.clock } in
    let ready = subst (λ (q : ProcessValue g.row.K.Denot). IsReady g.K.Keeper.records q c.args.applied) (sym c.self.view_is) c.requires.ready in
    let last : to_z w64 (of_z w64 c.clock-clock.result) ≡ c.clock-clock.result = search (rules, to_z-of_z) in
    let reads = subst (λ (z : ℤ). Reads g.K.Keeper.records (record p { clock = z })) (sym c.clock-clock.ensures) ready.dated in
    let behind : is_behind (here g.K.Keeper.records p) ≡ false = sym c.is_behind.ensures ∙ c.if-not-is_behind.true in
    subst (λ (q : ProcessValue g.row.K.Denot). IsCaught g.K.Keeper.records q (record { service = c.self.inside.svc.now; node = c.self.inside.node; clock = to_z w64 (of_z w64 c.clock-clock.result) }) c.args.applied.clock c.args.step c.args.step) c.self.view_is
    (subst (λ (z : ℤ). IsCaught g.K.Keeper.records p (record { service = c.self.inside.svc.now; node = c.self.inside.node; clock = z }) c.args.applied.clock c.args.step c.args.step) (sym last)
    (caught_none g.K.Keeper.records g.K.Keeper.append_gives g.K.Keeper.faults p (record { service = c.self.inside.svc.now; node = c.self.inside.node; clock = c.clock-clock.result }) refl reads c.args.applied.clock c.clock-clock.ensures c.args.step refl behind))

pub returns-clause-caught : goal.returns-clause-caught
returns-clause-caught g c =
    let p : ProcessValue g.row.K.Denot = record { service = c.self.inside.svc.now; node = c.self.inside.node; clock = c.self.inside.clock } in
    let ready = subst (λ (q : ProcessValue g.row.K.Denot). IsReady g.K.Keeper.records q c.args.applied) (sym c.self.view_is) c.requires.ready in
    let last : to_z w64 (of_z w64 c.clock-clock.result) ≡ c.clock-clock.result = search (rules, to_z-of_z) in
    let reads = subst (λ (z : ℤ). Reads g.K.Keeper.records (record p { clock = z })) (sym c.clock-clock.ensures) ready.dated in
    let behind : is_behind (here g.K.Keeper.records p) ≡ true = sym c.is_behind.ensures ∙ c.if-not-is_behind.false in
    subst (λ (q : ProcessValue g.row.K.Denot). IfOk c.with_more.result (λ (after : Step). IsCaught g.K.Keeper.records q (record { service = c.self.inside.svc.now; node = c.take_replayed-outcome.new.self; clock = to_z w64 (of_z w64 c.clock-clock.result) }) c.args.applied.clock c.args.step after)) c.self.view_is
    (subst (λ (z : ℤ). IfOk c.with_more.result (λ (after : Step). IsCaught g.K.Keeper.records p (record { service = c.self.inside.svc.now; node = c.take_replayed-outcome.new.self; clock = z }) c.args.applied.clock c.args.step after)) (sym last)
    (caught_behind g.K.Keeper.records g.K.Keeper.append_gives g.K.Keeper.faults p (record { service = c.self.inside.svc.now; node = c.take_replayed-outcome.new.self; clock = c.clock-clock.result }) c.take_replayed-outcome.ensures.keeper reads c.args.applied.clock c.clock-clock.ensures c.args.step
    c.with_more.result c.take_replayed-outcome.result behind c.with_more.ensures c.take_replayed-outcome.ensures.told))
