use Rattle.std.proofs.Common.{refl}
use Rattle.rex_cluster.specs.Values.{service_of}
use Rattle.rex_safety.proofs.Agreeing.{agreed_fits}
use Rattle.rex_processes.proofs.Happenings.{processes_ok}
use Rattle.rex_processes.proofs.laws.agreed_traces_run_after_happenings.Goals as goal

pub returns : goal.returns
returns c = λ service seed n xs few h. agreed_fits n (service_of service seed) _ (processes_ok service seed n few xs h) refl
