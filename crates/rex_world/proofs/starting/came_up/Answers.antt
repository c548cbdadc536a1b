use Rattle.rex_world.proofs.Started.{told_started}
use Rattle.rex_world.proofs.starting.came_up.Goals as goal

pub returns-clause-effects : goal.returns-clause-effects
returns-clause-effects g c =
    told_started c.requires.member c.requires.up _
    c.id.ensures c.promised.ensures c.known.ensures c.replayed.ensures c.step_of.ensures.effects
