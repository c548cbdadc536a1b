use Rattle.rex_safety.proofs.Doings.{doings_agreed}
use Rattle.rex_safety.proofs.laws.released_replies_are_agreed_after_doings.Goals as goal

pub returns : goal.returns
returns c = λ service requests seed n doings few good checked fit. doings_agreed service good checked requests fit seed n few doings
