use Rattle.rex_safety.proofs.Reached.{doings_act}
use Rattle.rex_safety.proofs.laws.active_traces_run_after_doings.Goals as goal

pub returns : goal.returns
returns c = λ service requests seed n doings few good checked fit there. doings_act service good checked requests fit seed n few doings there
