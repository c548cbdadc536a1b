-- What a call of a node comes to.
use Rattle.rex_world.proofs.Common.{◌≡◌, ℕ, Bool, true, false, List, [], map, Option, inl, inr, refl, sym, ap, subst, ◌∙◌, le_refl, append-nil, Declarations, IsDown, Failure, begin, say, Begins, Value, Here, CallHere, Step, message_in, StaysNode, Does, EndsDown, Serves, Member, IsKeeping, IsMember, StaysMember, faults_of, here_at, records_of, HasCome, served}
use Rattle.rex_steps.specs.Serving.{ServesIf}
use Rattle.rex_world.proofs.Failing.{follows, is_done, stays_broken, stays_grown, stays_keeping, stays_within}
use Rattle.rex_cluster.proofs.Unseen.{Goes}

pub none_grown : {records : List (List ℕ)} → Begins records records
none_grown {records} = ([], append-nil records)

module _ {service : Declarations} {past : List Value} {seed nodes number : ℕ} {old : Member} (member : IsMember service past seed nodes number old) where
  -- the node's numbers are these
  pub named : (P : ℕ → ℕ → ℕ → Type 0) → P old.nodes old.seed old.id → P nodes seed number
  named P h = subst (λ m. P nodes seed m) member.id (subst (λ s. P nodes s old.id) member.seed_is (subst (λ n. P n old.seed old.id) member.nodes_are h))

  pub unnamed : (P : ℕ → ℕ → ℕ → Type 0) → P nodes seed number → P old.nodes old.seed old.id
  unnamed P h = subst (λ m. P old.nodes old.seed m) (sym member.id) (subst (λ s. P old.nodes s number) (sym member.seed_is) (subst (λ n. P n seed number) (sym member.nodes_are) h))

  -- it is a member by its own numbers
  pub by_own : IsMember service past old.seed old.nodes old.id old
  by_own = record { id = refl; nodes_are = refl; seed_is = refl; node = member.node; keeping = member.keeping; whole = member.whole }

  pub still : StaysMember service past seed nodes number old old
  still = record { member = member; within = le_refl (faults_of old.keeper); grown = none_grown }

  module _ (new : Member) where
    pub by_number : StaysMember service past old.seed old.nodes old.id old new → StaysMember service past seed nodes number old new
    by_number h = named (λ n s m. StaysMember service past s n m old new) h

    same_stays : new ≡ old → StaysMember service past seed nodes number old new
    same_stays same = subst (StaysMember service past seed nodes number old) (sym same) still

    stays_so : StaysNode records_of service past old new → IsKeeping service past new.keeper → (new.up ≡ true → new.keeper.broken ≡ false) → IsMember service past seed nodes number new
    stays_so stays keeping whole = record {
      id = stays.same.id ∙ member.id;
      nodes_are = stays.same.nodes ∙ member.nodes_are;
      seed_is = stays.same.seed ∙ member.seed_is;
      node = stays.kept;
      keeping = keeping;
      whole = whole;
    }

    module _ (call : CallHere → CallHere) (step : Step) where
      -- where the node is still up no append has failed, so that its keeper needn't be reopened if it needn't before
      unbroken : Does records_of follows (λ k. k.faults) service past call old new step → EndsDown old.id old.keeper.faults new.keeper.faults new.up step → old.up ≡ true → new.up ≡ true → new.keeper.broken ≡ false
      unbroken (inl h) ends was up = stays_broken _ _ h.written h.appends ∙ member.whole was
      unbroken (inr h) ends was up = absurd (let no : false ≡ true = sym (ends.falls h.counted) ∙ up in cc)

      -- so it stays after a call
      pub does_stays : ((f : Option Failure) → Goes f call) → StaysNode records_of service past old new → Does records_of follows (λ k. k.faults) service past call old new step → EndsDown old.id old.keeper.faults new.keeper.faults new.up step → old.up ≡ true → StaysMember service past seed nodes number old new
      does_stays goes stays does ends was = record {
        member = stays_so stays (stays_keeping service past goes old new step member.keeping does) (unbroken does ends was);
        within = stays_within service past goes old new step does;
        grown = stays_grown service past goes old new step does;
      }

      pub serves_stays : ((f : Option Failure) → Goes f call) → StaysNode records_of service past old new → Serves records_of follows (λ k. k.faults) service past call old new step → StaysMember service past seed nodes number old new
      serves_stays goes stays h = by old.up refl h.serves
        where
          by : (up : Bool) → old.up ≡ up → ServesIf up records_of follows (λ k. k.faults) service past call old new step → StaysMember service past seed nodes number old new
          by true e s = does_stays goes stays s.does s.ends e
          by false e s = same_stays s.same

-- a node that served a call has come to what that is in the model
module _ (service : Declarations) (past : List Value) (old new : Member) (call : CallHere → CallHere) (step : Step) where
  abbrev x : Here
  x = here_at service past old

  up_is : old.up ≡ true → served old.id call x ≡ call (begin x)
  up_is e = rw e refl

  down_is : old.up ≡ false → served old.id call x ≡ say (IsDown old.id) (begin x)
  down_is e = rw e refl

  pub has_come : ((f : Option Failure) → Goes f call) → Serves records_of follows (λ k. k.faults) service past call old new step → HasCome past (served old.id call x) (here_at service past new) step
  has_come goes h = by old.up refl h.serves
    where
      by : (up : Bool) → old.up ≡ up → ServesIf up records_of follows (λ k. k.faults) service past call old new step → HasCome past (served old.id call x) (here_at service past new) step
      by true e s =
          let d = is_done service past goes old new step e s.does in
          subst (λ c. HasCome past c (here_at service past new) step) (sym (up_is e)) (record { node = d.node; sends = d.sends; effects = d.effects })
      by false e s =
          subst (λ c. HasCome past c (here_at service past new) step) (sym (down_is e))
          (record { node = ap (here_at service past) s.same; sends = ap (map (message_in past)) s.tells.sends; effects = s.tells.effects })
