use Rattle.std.proofs.Common.{[]}
use Rattle.std.proofs.lemmas.List.Elements.{All-nil}
use Rattle.rex_schedule.specs.Fits.{RequestFits}
use Rattle.rex_safety.proofs.Keeps.{beginning_kept}
use Rattle.rex_safety.proofs.laws.beginnings_are_kept.Goals as goal

pub returns : goal.returns
returns c = λ service seed n few good checked. beginning_kept service good checked [] (All-nil (RequestFits service)) seed n few
