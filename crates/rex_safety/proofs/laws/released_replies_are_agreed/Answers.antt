use Rattle.rex_safety.proofs.Showing.{replies_agreed}
use Rattle.rex_safety.proofs.laws.released_replies_are_agreed.Goals as goal

pub returns : goal.returns
returns c = λ service requests seed n lines few good checked fit client sequence value h. replies_agreed service good checked requests fit seed n few lines client sequence value h
