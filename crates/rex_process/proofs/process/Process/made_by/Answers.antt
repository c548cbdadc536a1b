use Rattle.std.proofs.Common.{subst, sym}
use Rattle.rex_process.specs.Going.{HasMade}
use Rattle.rex_process.proofs.Going.{has_made}
use Rattle.rex_process.proofs.process.Process.made_by.Goals as goal

pub returns-in-Ok : goal.returns-in-Ok
returns-in-Ok g c = record {
  made =
      subst (HasMade g.K.Keeper.records c.args.self.now c.go_on.new.self c.args.lane) (sym c.events_in.ensures)
      (has_made g.K.Keeper.records g.K.Keeper.faults c.args.self.now c.requires.process c.requires.up c.args.lane c.go_on.new.self c.in-Ok.turn c.requires.active c.in-Ok.ensures.gone);
  still = c.in-Ok.ensures.still;
}
