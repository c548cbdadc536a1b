use Rattle.std.proofs.Common.{not, ◌&&◌, Bool, ltb, [], sym, ap, subst, ◌∙◌}
use Rattle.rex_node.specs.Parts.{IsNode}
use Rattle.rex_process.specs.Process.{ProcessValue, here, is_behind}
use Rattle.rex_process.proofs.Trying.{behind_is}
use Rattle.rex_process.proofs.process.Process.is_behind.Goals as goal

pub returns : goal.returns
returns g c =
    let node = subst (λ (p : ProcessValue g.row.K.Denot). IsNode g.K.Keeper.records p.service [] p.node) (sym c.self.view_is) c.requires.node in
    ap (λ (u : Bool). u && (not c.is_active-idle.result && ltb c.replayed.result c.known.result)) c.is_up-up.ensures
    ∙ (ap (λ (a : Bool). c.self.inside.node.up && (not a && ltb c.replayed.result c.known.result)) c.is_active-idle.ensures
    ∙ (behind_is g.K.Keeper.records c.self.inside.svc.now c.self.inside.node node c.role.result c.replayed.result c.known.result c.role.ensures c.replayed.ensures c.known.ensures
    ∙ ap (λ (p : ProcessValue g.row.K.Denot). is_behind (here g.K.Keeper.records p)) c.self.view_is))
