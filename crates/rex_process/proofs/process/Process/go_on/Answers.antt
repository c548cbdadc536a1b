use Rattle.std.proofs.Common.{rules, ◌≡◌, ◌<◌, ℤ, to_z, of_z, w64, IfOk, [], ap, subst, sym, ◌∙◌}
use Rattle.rex_syntax.specs.declared.service.Declarations.{Declarations}
use Rattle.rex_node.specs.Calls.{turn_at}
use Rattle.rex_node.specs.Parts.{here_of}
use Rattle.rex_process.specs.Going.{IsStill}
use Rattle.rex_process.specs.Process.{ProcessValue, IsProcess}
use Rattle.rex_process.proofs.Going.{has_room, moves}
use Rattle.rex_process.proofs.process.Process.go_on.Goals as goal

pub lane-requires-clause-count : goal.lane-requires-clause-count
lane-requires-clause-count g c =
    has_room g.K.Keeper.records g.K.Keeper.faults (record { service = c.self.inside.svc.now; node = c.self.inside.node; clock = c.self.inside.clock })
    (subst (IsProcess g.K.Keeper.records g.K.Keeper.faults) (sym c.self.view_is) c.requires.process) (ap (λ (p : ProcessValue _). p.node.up) c.self.view_is ∙ c.requires.up) c.args.lane

pub returns-clause-still : goal.returns-clause-still
returns-clause-still g c =
    let same : to_z w64 (of_z w64 c.self.inside.clock) ≡ c.self.inside.clock = search rules in
    subst (λ (p : ProcessValue _). IsStill g.K.Keeper.records g.K.Keeper.faults p (record { service = c.self.inside.svc.now; node = c.lane.new.self; clock = c.self.inside.clock })) c.self.view_is
    (moves g.K.Keeper.records g.K.Keeper.faults (record { service = c.self.inside.svc.now; node = c.self.inside.node; clock = c.self.inside.clock })
    (subst (IsProcess g.K.Keeper.records g.K.Keeper.faults) (sym c.self.view_is) c.requires.process) (ap (λ (p : ProcessValue _). p.node.up) c.self.view_is ∙ c.requires.up)
    g.K.Keeper.append_gives c.declarations-service.ensures.sound c.declarations-service.ensures.checked c.args.lane
    (subst (λ (s : Declarations). c.args.lane < s.lanes) (ap (λ (p : ProcessValue _). p.service) (sym c.self.view_is)) c.requires.lane)
    c.lane.new.self c.lane.ensures.keeper c.lane.ensures.kept c.lane.result c.lane.ensures.refused (subst (λ (clock : ℤ). IfOk c.lane.result (λ t. t ≡ turn_at c.self.inside.svc.now (here_of g.K.Keeper.records c.self.inside.svc.now [] c.self.inside.node) c.args.lane clock)) same c.lane.ensures.told) c.lane.ensures.node c.lane.ensures.same)
