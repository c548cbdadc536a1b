use Rattle.rex_cluster.specs.World.{beginning, logs}
use Rattle.rex_processes.specs.Processes.{moments_of_happenings}
use Rattle.rex_processes.proofs.EarlyReplies.{early_stand}
use Rattle.rex_processes.proofs.Happenings.{are, none}
use Rattle.rex_processes.proofs.laws.early_replies_stand_after_happenings.Goals as goal

pub returns : goal.returns
returns c = λ service seed n xs few good checked h.
    early_stand service good checked (none service good checked seed n few) seed n few (logs (beginning n)) (moments_of_happenings service seed n (beginning n) xs)
    (are service good checked seed n few xs h)
