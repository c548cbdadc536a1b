use Rattle.rex_safety.proofs.Doings.{doings_stand}
use Rattle.rex_safety.proofs.laws.released_replies_stand_after_doings.Goals as goal

pub returns : goal.returns
returns c = λ service requests seed n doings few good checked fit. doings_stand service good checked requests fit seed n few doings
