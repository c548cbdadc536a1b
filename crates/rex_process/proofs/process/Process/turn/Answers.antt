use Rattle.std.proofs.Common.{rules, ◌≡◌, ◌<◌, ℤ, to_z, of_z, w64, ap, sym, ◌∙◌, subst}
use Rattle.std.specs.Int.{int_max}
use Rattle.rex_syntax.specs.declared.service.Declarations.{Declarations}
use Rattle.rex_syntax.specs.Service.{IsService}
use Rattle.rex_syntax.specs.Check.{IsChecked}
use Rattle.rex_process.specs.Process.{ProcessValue}
use Rattle.rex_process.proofs.Going.{has_turn, raised_is}
use Rattle.rex_process.proofs.Outgoing.{turn_sends_in}
use Rattle.rex_process.proofs.process.Process.turn.Goals as goal

pub go_on-outcome-requires-clause-process : goal.go_on-outcome-requires-clause-process
go_on-outcome-requires-clause-process g c = raised_is g.K.Keeper.records g.K.Keeper.faults c.args.self.now c.raise.new.self (to_z w64 (of_z w64 c.args.clock)) c.raise.ensures c.requires.process

pub returns-clause-turn : goal.returns-clause-turn
returns-clause-turn g c =
    let same : to_z w64 (of_z w64 c.args.clock) ≡ c.args.clock = search rules in
    let raised : c.raise.new.self ≡ record c.args.self.now { clock = int_max c.args.self.now.clock c.args.clock } =
    c.raise.ensures ∙ ap (λ (clock : ℤ). record c.args.self.now { clock = int_max c.args.self.now.clock clock }) same in
    let service : c.self.inside.svc.now ≡ c.raise.new.self.service = ap (λ (p : ProcessValue _). p.service) c.self.view_is ∙ sym (ap (λ (p : ProcessValue _). p.service) raised) in
    has_turn g.K.Keeper.records g.K.Keeper.faults c.raise.new.self
    (raised_is g.K.Keeper.records g.K.Keeper.faults c.args.self.now c.raise.new.self (to_z w64 (of_z w64 c.args.clock)) c.raise.ensures c.requires.process)
    (ap (λ (p : ProcessValue _). p.node.up) raised ∙ c.requires.up)
    g.K.Keeper.append_gives (subst IsService service c.declarations-service.ensures.sound) (subst IsChecked service c.declarations-service.ensures.checked)
    c.args.lane (subst (λ (s : Declarations). c.args.lane < s.lanes) (sym (ap (λ (p : ProcessValue _). p.service) raised)) c.requires.lane)
    c.go_on-outcome.new.self c.go_on-outcome.ensures.still.same c.go_on-outcome.ensures.still.clock c.go_on-outcome.ensures.still.keeper
    c.args.self.now c.args.clock raised c.id.result (c.id.ensures ∙ ap (λ (p : ProcessValue _). p.node.id) c.self-2.view_is ∙ c.go_on-outcome.ensures.still.same.id) c.go_on-outcome.result c.turned.result
    c.go_on-outcome.ensures.refused c.go_on-outcome.ensures.gone c.go_on-outcome.ensures.spared c.turned.ensures c.told.result c.told.ensures

pub returns-clause-sends : goal.returns-clause-sends
returns-clause-sends g c =
    turn_sends_in g.K.Keeper.records g.K.Keeper.faults c.args.self.now c.go_on-outcome.new.self c.requires.process c.requires.up c.args.lane c.args.clock c.told.result (returns-clause-turn g c)
