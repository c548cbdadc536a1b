-- A node that is started does as the model's.
use Rattle.rex_world.proofs.Common.{◌≡◌, ℕ, true, false, List, [], ◌∷◌, ◌++◌, length, Result, Ok, Err, IfOk, refl, ap, sym, ◌∙◌, subst, Declarations, Effect, known, promise, begin, migrate, Here, Value, service_of, values_fit, Refusal, Step, Does, EndsDown, log_of, StaysNode, count_of, knows, HasForgotten, Starts, IsDone, Member, IsKeeping, here_at, records_of, StaysOwnMember, IsOwnMember}
use Rattle.rex_report.specs.declared.effect.Effect.TheVariants as effect
use Rattle.rex_cluster.proofs.Migrated.{migrated_sends}
use Rattle.rex_node.proofs.Ending.{no_messages}
use Rattle.rex_node.specs.Parts.{HasReached, IsNode}
use Rattle.rex_node.specs.Restarting.{HasRightBase}
use Rattle.rex_world.specs.Starting.{CameBack}
use Rattle.rex_world.proofs.Acted.{does_stays}
use Rattle.rex_world.proofs.Failing.{follows, is_done}
use Rattle.rex_world.proofs.Knowing.{count_known}
use Rattle.rex_cluster.proofs.Unseen.{migrate_either}

module _ {service : Declarations} {past : List Value} {old : Member} (member : IsOwnMember service past old) (up : old.up ≡ true) where
  abbrev h : Here
  h = here_at service past old

  abbrev told_up : Effect
  told_up = effect.Started old.id (promise h.log) (length (known h.log)) h.replayed

  -- what its parts say is what its records say
  told_is : effect.Started old.id old.acceptor.promised (count_of old) old.replayed ≡ told_up
  told_is =
      let u = member.node.up up in
      ap (λ n. effect.Started old.id n (count_of old) old.replayed) u.promised
      ∙ ap (λ n. effect.Started old.id (promise h.log) n old.replayed) (count_known old member.node up)

  pub told_started : (result : Result Step Refusal) {id promised many replayed : ℕ} → id ≡ old.id → promised ≡ old.acceptor.promised → many ≡ count_of old → replayed ≡ old.replayed
      → IfOk result (λ (step : Step). step.effects ≡ effect.Started id promised many replayed ∷ []) → IfOk result (λ (step : Step). step.effects ≡ told_up ∷ [])
  told_started (Err refusal) a b d e told = tt
  told_started (Ok step) {promised} {many} {replayed} a b d e told =
      told
      ∙ ap (λ n. effect.Started n promised many replayed ∷ []) a
      ∙ ap (λ n. effect.Started old.id n many replayed ∷ []) b
      ∙ ap (λ n. effect.Started old.id old.acceptor.promised n replayed ∷ []) d
      ∙ ap (λ n. effect.Started old.id old.acceptor.promised (count_of old) n ∷ []) e
      ∙ ap (λ x. x ∷ []) told_is

  -- or it is migrated
  module _ (new : Member) (migrated : Step) (does : Does records_of follows (λ k. k.faults) service past (migrate (service_of service old.seed) old.id) old new migrated) where
    comes_migrated : (first : Step) {step : Step} → first.effects ≡ told_up ∷ [] → step.effects ≡ first.effects ++ migrated.effects → step.sends ≡ migrated.sends → CameBack (service_of service old.seed) old.id h (here_at service past new) step
    comes_migrated first first_is effects sends =
        let sv = service_of service old.seed in
        let done : IsDone past (migrate sv old.id) h (here_at service past new) migrated = is_done service past (λ f. migrate_either f sv old.id) old new migrated up does in
        let none : (migrate sv old.id (begin h)).sends ≡ [] = migrated_sends _ old.id (begin h) _ _ refl in
        record {
          node = done.node;
          sends = sends ∙ no_messages past _ (done.sends ∙ none);
          effects =
              effects ∙ ap (λ es. es ++ migrated.effects) first_is
              ∙ ap (λ es. told_up ∷ es) done.effects;
        }

    pub migrate_stays : StaysNode records_of service past old new → EndsDown old.id old.keeper.faults new.keeper.faults new.up migrated → StaysOwnMember service past old new
    migrate_stays stays ends = does_stays member new _ migrated (λ f. migrate_either f (service_of service old.seed) old.id) stays does ends up

    -- what both steps did
    pub joined_back : (first : Step) (result : Result Step Refusal) → first.effects ≡ told_up ∷ [] → IfOk result (λ (step : Step). step.effects ≡ first.effects ++ migrated.effects) → IfOk result (λ (step : Step). step.sends ≡ migrated.sends)
        → IfOk result (CameBack (service_of service old.seed) old.id h (here_at service past new))
    joined_back first (Ok step) first_is effects sends = comes_migrated first first_is effects sends
    joined_back first (Err refusal) first_is effects sends = tt

-- a node is a member still that came up again with its keeper, which was reopened before
pub is_member : {service : Declarations} {past : List Value} {old down new : Member} → IsOwnMember service past old → Starts service past (here_at service past old)
    → down ≡ record old { keeper = record old.keeper { broken = false } } → new.keeper ≡ down.keeper
    → (HasReached service down.offset (knows past down) down.reached → values_fit service (known (log_of service past (records_of down.keeper))) ≡ true
    → HasRightBase service (log_of service past (records_of down.keeper)) → HasForgotten past (log_of service past (records_of down.keeper)) → IsNode records_of service past new)
    → IsOwnMember service past new
is_member {service} {past} {old} {new} member starts is same kept =
    let keeper_is : new.keeper ≡ record old.keeper { broken = false } = same ∙ ap (λ x. x.keeper) is in
    record {
      id = refl;
      nodes_are = refl;
      seed_is = refl;
      node =
          kept (subst (λ x. HasReached service x.offset (knows past x) x.reached) (sym is) member.node.reached)
          (subst (λ x. values_fit service (known (log_of service past (records_of x.keeper))) ≡ true) (sym is) starts.fit)
          (subst (λ x. HasRightBase service (log_of service past (records_of x.keeper))) (sym is) starts.base)
          (subst (λ x. HasForgotten past (log_of service past (records_of x.keeper))) (sym is) starts.forgotten);
      keeping = subst (IsKeeping service past) (sym keeper_is) (record { read = member.keeping.read; stated = member.keeping.stated; room = member.keeping.room });
      whole = λ _. ap (λ k. k.broken) keeper_is;
    }
