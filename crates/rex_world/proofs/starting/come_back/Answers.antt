use Rattle.rex_world.proofs.Common.{◌≡◌, ◌++◌, IfOk, subst}
use Rattle.rex_world.proofs.Started.{joined_back, migrate_stays}
use Rattle.rex_world.proofs.starting.come_back.Goals as goal

pub returns-clause-back : goal.returns-clause-back
returns-clause-back g c =
    joined_back c.requires.member c.requires.up c.migrate.new.self _ c.in_ok-migrated.ensures.performs.told c.in_ok-step.step _
    c.in_ok-step.ensures.effects c.joined.ensures.effects
    (subst (λ ms. IfOk c.joined.result (λ step. step.sends ≡ ms ++ c.in_ok-migrated.migrated.sends)) c.in_ok-step.ensures.sends c.joined.ensures.sends)

pub returns-clause-stays : goal.returns-clause-stays
returns-clause-stays g c =
    λ whole. migrate_stays c.requires.member c.requires.up _ _ c.in_ok-migrated.ensures.performs.told c.migrate.ensures.performs.kept c.in_ok-migrated.ensures.performs.down
