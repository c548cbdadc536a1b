use Rattle.rex_durable.proofs.OneMore.{counts_all}
use Rattle.rex_durable.proofs.laws.held_values_reach_the_count.Goals as goal

pub returns : goal.returns
returns c = λ rs h. (counts_all rs h).count_is
