use Rattle.std.proofs.Common.{rules, w64, to_z, of_z, ℤ, ℕ, ◌≡◌, ◌≤◌, false, true, None, IfOk, arith, sym, ap, subst, refl, ◌∙◌}
use Rattle.std.proofs.lemmas.Bool.{false≢true}
use Rattle.std.proofs.lemmas.Int.{to_z-of_z}
use Rattle.rex_transfer.specs.Window.{WindowValue, known_of}
use Rattle.rex_node.specs.declared.step.Step.{Step}
use Rattle.rex_fits.specs.Applied.{clock_after}
use Rattle.rex_process.specs.Process.{ProcessValue, here, is_behind}
use Rattle.rex_process.specs.Settling.{HasNoNews, IsCaught, IsSettling, noted_clock}
use Rattle.rex_process.proofs.Following.{caught_behind, caught_none, noted_is, noted_reads, noted_still}
use Rattle.rex_process.proofs.Standing.{holds}
use Rattle.rex_process.proofs.Trying.{many_known}
use Rattle.rex_process.proofs.process.Process.noted.Goals as goal

pub after-requires-clause-from : goal.after-requires-clause-from
after-requires-clause-from g c =
    let settling = subst (λ (q : ProcessValue g.row.K.Denot). IsSettling g.K.Keeper.records q c.args.known None) (sym c.self.view_is) c.requires.settling in
    let up = ap (λ (q : ProcessValue g.row.K.Denot). q.node.up) c.self.view_is ∙ c.requires.up in
    subst (λ (k : ℕ). k ≤ c.args.known) (sym (ap (λ (w : WindowValue). w.offset) c.window.ensures ∙ holds g.K.Keeper.records c.self.inside.svc.now c.self.inside.node settling.node settling.plain up)) (omega arith)

pub after-requires-clause-to : goal.after-requires-clause-to
after-requires-clause-to g c =
    let settling = subst (λ (q : ProcessValue g.row.K.Denot). IsSettling g.K.Keeper.records q c.args.known None) (sym c.self.view_is) c.requires.settling in
    let up = ap (λ (q : ProcessValue g.row.K.Denot). q.node.up) c.self.view_is ∙ c.requires.up in
    subst (λ (w : WindowValue). c.args.known ≤ known_of w) (sym c.window.ensures)
    (subst (λ (k : ℕ). c.args.known ≤ k) (sym (many_known g.K.Keeper.records c.self.inside.svc.now c.self.inside.node settling.node up)) (settling.up up).within)

pub returns-then-not-is_behind-clause-caught : goal.returns-then-not-is_behind-clause-caught
returns-then-not-is_behind-clause-caught g c =
    let p : ProcessValue g.row.K.Denot = record { service = c.self.inside.svc.now; node = c.self.inside.node; clock = c.self.inside.clock } in
    let settling = subst (λ (q : ProcessValue g.row.K.Denot). IsSettling g.K.Keeper.records q c.args.known None) (sym c.self.view_is) c.requires.settling in
    let up = ap (λ (q : ProcessValue g.row.K.Denot). q.node.up) c.self.view_is ∙ c.requires.up in
    let first : to_z w64 (of_z w64 c.self.inside.clock) ≡ c.self.inside.clock = search (to_z-of_z) in
    let last : to_z w64 (of_z w64 c.in_ok-clock.clock) ≡ c.in_ok-clock.clock = search (rules, to_z-of_z) in
    let noted = noted_is g.K.Keeper.records p c.args.known c.window.result.now c.after.result.now c.in_ok-clock.clock settling up c.window.ensures c.after.ensures
    (c.in_ok-clock.ensures ∙ ap (λ (z : ℤ). clock_after z c.after.result.now) first) in
    let reads = noted_reads g.K.Keeper.records p c.args.known c.in_ok-clock.clock None (settling.up up) noted in
    let behind : is_behind (here g.K.Keeper.records p) ≡ false = sym c.is_behind.ensures ∙ c.if-not-is_behind.true in
    subst (λ (q : ProcessValue g.row.K.Denot). IsCaught g.K.Keeper.records q (record { service = c.self.inside.svc.now; node = c.self.inside.node; clock = to_z w64 (of_z w64 c.in_ok-clock.clock) }) (noted_clock g.K.Keeper.records q c.args.known) c.args.step c.args.step) c.self.view_is
    (subst (λ (z : ℤ). IsCaught g.K.Keeper.records p (record { service = c.self.inside.svc.now; node = c.self.inside.node; clock = z }) (noted_clock g.K.Keeper.records p c.args.known) c.args.step c.args.step) (sym last)
    (caught_none g.K.Keeper.records g.K.Keeper.append_gives g.K.Keeper.faults p (record { service = c.self.inside.svc.now; node = c.self.inside.node; clock = c.in_ok-clock.clock }) refl reads (noted_clock g.K.Keeper.records p c.args.known) noted c.args.step refl behind))

pub returns-clause-caught : goal.returns-clause-caught
returns-clause-caught g c =
    let p : ProcessValue g.row.K.Denot = record { service = c.self.inside.svc.now; node = c.self.inside.node; clock = c.self.inside.clock } in
    let settling = subst (λ (q : ProcessValue g.row.K.Denot). IsSettling g.K.Keeper.records q c.args.known None) (sym c.self.view_is) c.requires.settling in
    let up = ap (λ (q : ProcessValue g.row.K.Denot). q.node.up) c.self.view_is ∙ c.requires.up in
    let first : to_z w64 (of_z w64 c.self.inside.clock) ≡ c.self.inside.clock = search (to_z-of_z) in
    let last : to_z w64 (of_z w64 c.in_ok-clock.clock) ≡ c.in_ok-clock.clock = search (rules, to_z-of_z) in
    let noted = noted_is g.K.Keeper.records p c.args.known c.window.result.now c.after.result.now c.in_ok-clock.clock settling up c.window.ensures c.after.ensures
    (c.in_ok-clock.ensures ∙ ap (λ (z : ℤ). clock_after z c.after.result.now) first) in
    let reads = noted_reads g.K.Keeper.records p c.args.known c.in_ok-clock.clock None (settling.up up) noted in
    let behind : is_behind (here g.K.Keeper.records p) ≡ true = sym c.is_behind.ensures ∙ c.if-not-is_behind.false in
    subst (λ (q : ProcessValue g.row.K.Denot). IfOk c.with_more.result (λ (after : Step). IsCaught g.K.Keeper.records q (record { service = c.self.inside.svc.now; node = c.replay-outcome.new.self; clock = to_z w64 (of_z w64 c.in_ok-clock.clock) }) (noted_clock g.K.Keeper.records q c.args.known) c.args.step after)) c.self.view_is
    (subst (λ (z : ℤ). IfOk c.with_more.result (λ (after : Step). IsCaught g.K.Keeper.records p (record { service = c.self.inside.svc.now; node = c.replay-outcome.new.self; clock = z }) (noted_clock g.K.Keeper.records p c.args.known) c.args.step after)) (sym last)
    (caught_behind g.K.Keeper.records g.K.Keeper.append_gives g.K.Keeper.faults p (record { service = c.self.inside.svc.now; node = c.replay-outcome.new.self; clock = c.in_ok-clock.clock }) c.replay-outcome.ensures.keeper reads (noted_clock g.K.Keeper.records p c.args.known) noted c.args.step
    c.with_more.result c.replay-outcome.result behind c.with_more.ensures c.replay-outcome.ensures.told))

pub returns-then-not-is_behind-clause-still : goal.returns-then-not-is_behind-clause-still
returns-then-not-is_behind-clause-still g c news =
    let p : ProcessValue g.row.K.Denot = record { service = c.self.inside.svc.now; node = c.self.inside.node; clock = c.self.inside.clock } in
    let settling = subst (λ (q : ProcessValue g.row.K.Denot). IsSettling g.K.Keeper.records q c.args.known None) (sym c.self.view_is) c.requires.settling in
    let none = subst (λ (q : ProcessValue g.row.K.Denot). HasNoNews g.K.Keeper.records q c.args.known None) (sym c.self.view_is) news in
    let up = ap (λ (q : ProcessValue g.row.K.Denot). q.node.up) c.self.view_is ∙ c.requires.up in
    let first : to_z w64 (of_z w64 c.self.inside.clock) ≡ c.self.inside.clock = search (to_z-of_z) in
    let last : to_z w64 (of_z w64 c.in_ok-clock.clock) ≡ c.in_ok-clock.clock = search (rules, to_z-of_z) in
    let noted = noted_is g.K.Keeper.records p c.args.known c.window.result.now c.after.result.now c.in_ok-clock.clock settling up c.window.ensures c.after.ensures
    (c.in_ok-clock.ensures ∙ ap (λ (z : ℤ). clock_after z c.after.result.now) first) in
    ap (λ (z : ℤ). record p { clock = z }) (last ∙ noted ∙ noted_still g.K.Keeper.records p c.args.known none) ∙ c.self.view_is

pub returns-clause-still : goal.returns-clause-still
returns-clause-still g c news =
    let none = subst (λ (q : ProcessValue g.row.K.Denot). HasNoNews g.K.Keeper.records q c.args.known None) (sym c.self.view_is) news in
    absurd (false≢true (sym none.caught_up ∙ sym c.is_behind.ensures ∙ c.if-not-is_behind.false))
