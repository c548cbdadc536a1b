use Rattle.rex_wal.proofs.BytesLaws.{holds_one}
use Rattle.rex_wal.proofs.laws.a_file_holds_one_list.Goals as goal

pub returns : goal.returns
returns c = holds_one
