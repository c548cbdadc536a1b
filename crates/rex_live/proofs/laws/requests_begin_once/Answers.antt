use Rattle.rex_live.proofs.Once.{begin_once}
use Rattle.rex_live.proofs.laws.requests_begin_once.Goals as goal

pub returns : goal.returns
returns c = λ service requests dice f before between rest e y request good checked made h first second. begin_once service requests dice f before between rest e y request good checked made h first second
