use Rattle.rex_words.proofs.Final.{end_over}
use Rattle.rex_words.proofs.laws.recordings_end_over.Goals as goal

pub returns : goal.returns
returns c = λ service requests seed lane history there recording. end_over service requests seed lane history there recording
