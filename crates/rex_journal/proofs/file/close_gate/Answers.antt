use Rattle.std.proofs.Common.{◌∷◌, []}
use Rattle.rex_disk.specs.Calls.Call.{Writes, Syncs}
use Rattle.rex_journal.proofs.file.close_gate.Goals as goal

pub returns-clause-calls : goal.returns-clause-calls
returns-clause-calls g c = (Writes c.args.gate (0 ∷ []) ∷ Syncs ∷ [], c.in_ok-write_through.ensures.calls)
