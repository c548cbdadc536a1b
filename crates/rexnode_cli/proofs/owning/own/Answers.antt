use Rattle.std.proofs.Common.{sym, subst, ◌∙◌, ap}
use Rattle.rex_identity.specs.Identity.{identity_bytes}
use Rattle.rex_identity.specs.Claims.{OwnedValue}
use Rattle.rex_process.specs.Keeping.{ByAppends}
use Rattle.rexnode_cli.proofs.Kept.{claim_appends, refusal_appends}
use Rattle.rexnode_cli.proofs.owning.own.Goals as goal

pub returns-in-Ok-read-clause-appends : goal.returns-in-Ok-read-clause-appends
returns-in-Ok-read-clause-appends g c =
    subst (λ (o : OwnedValue g.row.K.Denot). ByAppends g.K.Keeper.append_gives c.args.keeper o.keeper) (sym c.in-Ok-read.ensures.below)
    (claim_appends g.K.Keeper.records g.K.Keeper.append_gives (identity_bytes c.in-Ok.identity) c.args.keeper c.in-Ok-claim.owned.keeper c.in-Ok-claim.ensures.untouched c.in-Ok-claim.ensures.appended)

pub returns-in-Err-read-clause-appends : goal.returns-in-Err-read-clause-appends
returns-in-Err-read-clause-appends g c =
    subst (λ (k : g.row.K.Denot). ByAppends g.K.Keeper.append_gives c.args.keeper k) (sym (c.into_keeper.ensures.keeper ∙ ap (λ (o : OwnedValue g.row.K.Denot). o.keeper) c.in-Err-read.ensures.back))
    (claim_appends g.K.Keeper.records g.K.Keeper.append_gives (identity_bytes c.in-Ok.identity) c.args.keeper c.in-Ok-claim.owned.keeper c.in-Ok-claim.ensures.untouched c.in-Ok-claim.ensures.appended)

pub returns-in-Err-clause-appends : goal.returns-in-Err-clause-appends
returns-in-Err-clause-appends g c =
    refusal_appends g.K.Keeper.records g.K.Keeper.append_gives (identity_bytes c.in-Ok.identity) c.args.keeper c.in-Err.not_owned.keeper c.in-Err.not_owned.fault c.in-Err.ensures.untouched c.in-Err.ensures.appended
