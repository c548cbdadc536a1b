use Rattle.rex_gate.proofs.Noted.{some_entries}
use Rattle.rex_tests.proofs.gate.a_state_is_known.Goals as goal

pub at-requires : goal.at-requires
at-requires g c = some_entries _ _ c.after_adding-state.ensures
