use Rattle.rex_words.proofs.Momentary.{views_know}
use Rattle.rex_words.proofs.laws.views_know_what_is_so.Goals as goal

pub returns : goal.returns
returns c = λ r t now seat v at role. views_know r t now seat v at role
