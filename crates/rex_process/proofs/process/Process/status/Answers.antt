use Rattle.std.proofs.Common.{ℕ, sym, ap, ap₂, subst, ◌∙◌}
use Rattle.rex_report.specs.declared.effect.Role.{Role}
use Rattle.rex_process.specs.Process.{ProcessValue, IsProcess, here}
use Rattle.rex_process.specs.Status.{status_of}
use Rattle.rex_process.proofs.Trying.{many_known}
use Rattle.rex_process.proofs.process.Process.status.Goals as goal

pub returns : goal.returns
returns g c =
    let p : ProcessValue g.row.K.Denot = record { service = c.self.inside.svc.now; node = c.self.inside.node; clock = c.self.inside.clock } in
    let process = subst (IsProcess g.K.Keeper.records g.K.Keeper.faults) (sym c.self.view_is) c.requires.process in
    let up = ap (λ (q : ProcessValue g.row.K.Denot). q.node.up) c.self.view_is ∙ c.requires.up in
    ap₂ (λ (r : Role) (n : ℕ). record { role = r; promised = n; known = c.known.result; live = c.live.result }) c.role.ensures (c.promised.ensures ∙ (process.node.up up).promised)
    ∙ ap₂ (λ (k n : ℕ). record (status_of (here g.K.Keeper.records p)) { known = k; live = n }) (c.known.ensures ∙ many_known g.K.Keeper.records p.service p.node process.node up) c.live.ensures
    ∙ ap (λ (q : ProcessValue g.row.K.Denot). status_of (here g.K.Keeper.records q)) c.self.view_is
