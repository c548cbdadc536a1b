use Rattle.rex_order.proofs.Enabled.{enabled_events_go_on}
use Rattle.rex_order.proofs.laws.enabled_events_go_on.Goals as goal

pub returns : goal.returns
returns c = λ service s t m es causes cut e good sound runs right consistent at long enabled. enabled_events_go_on service s t m es causes cut e good sound runs right consistent at long enabled
