use Rattle.rex_words.proofs.Ending.{empty_begins_nothing}
use Rattle.rex_words.proofs.laws.empty_histories_begin_nothing.Goals as goal

pub returns : goal.returns
returns c = λ service requests seed lane there recording. empty_begins_nothing service requests seed lane there recording
