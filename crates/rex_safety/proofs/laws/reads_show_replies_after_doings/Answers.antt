use Rattle.rex_safety.specs.Doings.{world_after_doings}
use Rattle.rex_safety.proofs.Showing.{doings_replies_show, told_shows}
use Rattle.rex_safety.proofs.laws.reads_show_replies_after_doings.Goals as goal

pub returns : goal.returns
returns c = λ service requests seed n doings few good checked fit i release at client sequence reply l h.
    told_shows service (world_after_doings service requests seed n doings) client sequence reply (doings_replies_show service good checked requests fit seed n few doings i release client sequence reply at h) l
