use Rattle.std.proofs.lemmas.Bool.{eqb-true}
use Rattle.rex_board.proofs.Stepping.{at_end}
use Rattle.rex_crew.proofs.rounds.is_finished.Goals as goal

pub returns : goal.returns
returns c = λ h. at_end _ _ _ _ _ _ c.requires.board.replays c.args.me.now c.requires.seat (eqb-true _ _ h)
