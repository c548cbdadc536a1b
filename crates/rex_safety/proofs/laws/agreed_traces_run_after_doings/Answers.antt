use Rattle.rex_safety.proofs.Agreeing.{agreed_fits}
use Rattle.rex_safety.proofs.Doings.{doings_reached}
use Rattle.rex_cluster.specs.Values.{service_of}
use Rattle.std.proofs.Common.{refl}
use Rattle.rex_safety.proofs.laws.agreed_traces_run_after_doings.Goals as goal

pub returns : goal.returns
returns c = λ service requests seed n doings few. agreed_fits n (service_of service seed) _ (doings_reached service requests seed n few doings) refl
