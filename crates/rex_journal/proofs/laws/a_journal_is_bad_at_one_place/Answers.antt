use Rattle.rex_journal.proofs.BytesLaws.{bad_once}
use Rattle.rex_journal.proofs.laws.a_journal_is_bad_at_one_place.Goals as goal

pub returns : goal.returns
returns c = bad_once
