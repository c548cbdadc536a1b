use Rattle.rex_wal.proofs.BytesLaws.{bad_none}
use Rattle.rex_wal.proofs.laws.a_bad_journal_holds_none.Goals as goal

pub returns : goal.returns
returns c = bad_none
