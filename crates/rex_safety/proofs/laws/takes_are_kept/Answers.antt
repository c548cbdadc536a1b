use Rattle.std.proofs.Common.{[]}
use Rattle.std.proofs.lemmas.List.Elements.{All-nil}
use Rattle.rex_schedule.specs.Fits.{RequestFits}
use Rattle.rex_safety.proofs.Takes.{take_kept}
use Rattle.rex_safety.proofs.laws.takes_are_kept.Goals as goal

pub returns : goal.returns
returns c = λ service seed n w m e few good checked there range kept. take_kept service good checked [] (All-nil (RequestFits service)) seed n few w kept m there e range
