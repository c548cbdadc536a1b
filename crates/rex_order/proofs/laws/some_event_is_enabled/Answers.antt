use Rattle.rex_order.proofs.Enabled.{some_event_is_enabled}
use Rattle.rex_order.proofs.laws.some_event_is_enabled.Goals as goal

pub returns : goal.returns
returns c = λ counts es causes cut numbered right rest. some_event_is_enabled counts es causes cut numbered right rest
