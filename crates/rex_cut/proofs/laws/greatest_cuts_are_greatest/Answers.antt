use Rattle.rex_cut.proofs.Highest.{greatest_is, greatest_cuts}
use Rattle.rex_cut.proofs.laws.greatest_cuts_are_greatest.Goals as goal

pub returns : goal.returns
returns c = λ limits es cut. (greatest_is limits es cut, greatest_cuts limits es cut)
