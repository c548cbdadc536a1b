use Rattle.std.proofs.Common.{◌≡◌, drop, sym, ap, subst, ◌∙◌}
use Rattle.rex_identity.specs.Claims.{OwnedValue}
use Rattle.rex_group.specs.Groups.{HoldAll}
use Rattle.rex_process.specs.Keeping.{ByAppends, IsAppend}
use Rattle.rex_process.proofs.Keeping.{leads_join}
use Rattle.rexnode_cli.specs.Running.{identity_of}
use Rattle.rexnode_cli.proofs.Kept.{appended_below, first_of}
use Rattle.rexnode_cli.proofs.Ran.{has_owned, not_owned}
use Rattle.rexnode_cli.proofs.running.run_owned.Given as given
use Rattle.rexnode_cli.proofs.running.run_owned.Goals as goal
use Rattle.rexnode_cli.proofs.running.run_owned.Goals.{After-into_keeper-in-Ok}

-- the keeper that is handed back is the last one's
is : (g : given.Over) (c : After-into_keeper-in-Ok g) → c.into_keeper-in-Ok.result ≡ c.run_process-ran.result.back.keeper.keeper
is g c = c.into_keeper-in-Ok.ensures.keeper ∙ ap (λ (o : OwnedValue g.row.K.Denot). o.keeper) c.into_keeper.ensures.keeper

pub returns-in-Ok-clause-runs : goal.returns-in-Ok-clause-runs
returns-in-Ok-clause-runs g c =
    let identity = identity_of c.args.command.now c.args.loaded.now.digest in
    let back_is = is g (goal.at.returns-in-Ok-clause-runs g c).After-into_keeper-in-Ok in
    has_owned g.K.Keeper.records g.K.Keeper.append_gives g.K.Keeper.faults c.args.loaded.now.service identity
    c.args.keeper c.in-Ok.owned c.run_process-ran.result.back c.run_process-ran.result.status c.into_keeper-in-Ok.result
    (g.W.Sink.taken c.args.sink.now) (g.W.Sink.taken c.run_process-ran.new.sink) (g.S.Source.given c.args.source.now) (g.S.Source.given c.run_process-ran.new.source)
    c.in-Ok.ensures.owned c.run_process-ran.ensures.keeper back_is
    (first_of g.K.Keeper.records g.K.Keeper.append_gives identity c.in-Ok.owned c.run_process-ran.result.back c.into_keeper.result c.into_keeper-in-Ok.result c.in-Ok.ensures.owned.claim.identity_is
    c.run_process-ran.ensures.keeper c.into_keeper.ensures.keeper c.into_keeper-in-Ok.ensures.keeper c.into_keeper-in-Ok.ensures.first)
    (subst (λ (k : g.row.K.Denot). HoldAll (drop 1 (g.K.Keeper.records k)) c.run_process-ran.result.back.kept) (sym back_is) c.into_keeper.ensures.holds) c.run_process-ran.ensures.runs

pub returns-in-Ok-clause-keeper : goal.returns-in-Ok-clause-keeper
returns-in-Ok-clause-keeper g c =
    subst (λ (k : g.row.K.Denot). ByAppends g.K.Keeper.append_gives c.args.keeper k) (sym (is g (goal.at.returns-in-Ok-clause-keeper g c).After-into_keeper-in-Ok))
    (leads_join (IsAppend g.K.Keeper.append_gives) c.args.keeper c.in-Ok.owned.keeper.keeper c.run_process-ran.result.back.keeper.keeper c.in-Ok.ensures.appends
    (appended_below g.K.Keeper.append_gives c.in-Ok.owned c.run_process-ran.result.back c.run_process-ran.ensures.keeper))

pub returns-in-Err-clause-runs : goal.returns-in-Err-clause-runs
returns-in-Err-clause-runs g c =
    not_owned g.K.Keeper.records g.K.Keeper.append_gives g.K.Keeper.faults c.args.loaded.now.service (identity_of c.args.command.now c.args.loaded.now.digest)
    c.args.keeper c.in-Err.refused.status c.in-Err.refused.back
    (g.W.Sink.taken c.args.sink.now) (g.S.Source.given c.args.source.now) c.in-Err.ensures.refused
