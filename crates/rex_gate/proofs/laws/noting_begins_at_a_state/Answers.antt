use Rattle.rex_gate.proofs.Traced.{noted_from}
use Rattle.rex_gate.proofs.laws.noting_begins_at_a_state.Goals as goal

pub returns : goal.returns
returns c = noted_from
