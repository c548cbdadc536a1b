use Rattle.std.proofs.Common.{sym, ◌∙◌}
use Rattle.rex_cluster.proofs.Spelled.{spelled_counted}
use Rattle.rex_fits.proofs.Spellings.{found_events}
use Rattle.rex_fits.proofs.pieces.spelled_events.Goals as goal

pub returns-then-branch-clause-spelled : goal.returns-then-branch-clause-spelled
returns-then-branch-clause-spelled c =
    sym (found_events c.args.svc.now c.args.value.now c.in-Ok.delta c.in-Ok.ensures.found.0 c.in-Ok.ensures.found.1 c.in-Ok.ensures.exact
    (sym c.in_ok-is_piece-in-Ok.ensures ∙ c.if-branch.true))

pub returns-then-branch-clause-counted : goal.returns-then-branch-clause-counted
returns-then-branch-clause-counted c = spelled_counted c.in-Ok.ensures.found.0
