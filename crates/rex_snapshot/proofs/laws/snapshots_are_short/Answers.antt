use Rattle.rex_snapshot.proofs.Short as short
use Rattle.rex_snapshot.proofs.laws.snapshots_are_short.Goals as goal

pub returns : goal.returns
returns c = record { short = short.snapshots_are_short }
