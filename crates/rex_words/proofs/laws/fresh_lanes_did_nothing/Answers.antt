use Rattle.rex_words.proofs.laws.fresh_lanes_did_nothing.Goals as goal

pub returns : goal.returns
returns c = λ r t now lane fresh few. now.untouched lane fresh few
