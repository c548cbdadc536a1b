use Rattle.rex_cluster.proofs.Spelled.{spelled_counted}
use Rattle.rex_node.proofs.Alone.{read_events}
use Rattle.rex_node.proofs.values.events_in.Goals as goal

pub returns-in-Ok-clause-events : goal.returns-in-Ok-clause-events
returns-in-Ok-clause-events c = read_events _ c.in-Ok.ensures.exact

pub returns-in-Ok-clause-counted : goal.returns-in-Ok-clause-counted
returns-in-Ok-clause-counted c = rw c.in-Ok.ensures.found.3 (spelled_counted c.in-Ok.ensures.found.1)
