use Rattle.rex_safety.proofs.Reached.{doings_numbers}
use Rattle.rex_safety.proofs.laws.numbers_stay_in_range_after_doings.Goals as goal

pub returns : goal.returns
returns c = λ service requests seed n doings few good checked fit there. doings_numbers service good checked requests fit seed n few doings there
