use Rattle.rex_cluster.specs.Agreed.{world_after}
use Rattle.rex_safety.proofs.Showing.{replies_show, told_shows}
use Rattle.rex_safety.proofs.laws.reads_show_replies.Goals as goal

pub returns : goal.returns
returns c = λ service requests seed n lines few good checked fit client sequence reply l h.
    told_shows service (world_after service requests seed n lines) client sequence reply (replies_show service good checked requests fit seed n few lines client sequence reply h) l
