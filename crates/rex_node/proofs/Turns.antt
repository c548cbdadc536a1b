-- Rounds of going on follow one another.
use Rattle.rex_node.proofs.Common.{MaySettle, ◌≡◌, ℕ, ◌-◌, ◌^◌, ◌<◌, List, length, ◌⊎◌, inl, inr, refl, sym, ap, subst, ◌∙◌, arith, Declarations, Answer, settle, service_of, Value, CallHere, Going, On, Again, Done, Draft, NodeValue, IsSame, Stands, Comes, Ends, IsStuck, Leads, RunsOn, so_far, GoesRound}
use Rattle.rex_node.specs.declared.going.Round.{Round}
use Rattle.rex_node.proofs.Adopting.{same_then}
use Rattle.rex_node.proofs.Continuing.{ends_then}
use Rattle.rex_node.proofs.GoingLemmas.{leads_same, leads_then}
use Rattle.rex_node.proofs.Grows.{rest_runs}
use Rattle.rex_node.proofs.Stuck.{breaks_after, breaks_later, settle_loses}

-- the model's turns for a node
abbrev pub settles : {K : Type 0} → Declarations → NodeValue K → ℕ → CallHere → CallHere
settles service x turns = settle turns x.nodes (service_of service x.seed) x.id

pub settles_as : {K : Type 0} (service : Declarations) {x y : NodeValue K} (turns : ℕ) → IsSame x y → settles service y turns ≡ settles service x turns
settles_as service {x} {y} turns h =
    ap (λ n. settle turns n (service_of service y.seed) y.id) h.nodes ∙ ap (λ n. settle turns x.nodes (service_of service n) y.id) h.seed ∙ ap (λ n. settle turns x.nodes (service_of service x.seed) n) h.id

module _ {K : Type 0} (records : K → List (List ℕ)) (gives : K → List ℕ → Answer → K → Type 0) (faults : K → ℕ) (service : Declarations) (past : List Value) where
  -- the node has gone on from there, and so many turns are left
  pub record GoneOn (turns left : ℕ) (x y : NodeValue K) (before after : Draft) : Type 0 where
    pub comes : Comes records gives faults service past (settles service x turns) (settles service x left) x y before after On
    pub same : IsSame x y
    pub may : MaySettle records faults service past left y after
    pub moved : (y ≡ x) ⊎ (length (records x.keeper) < length (records y.keeper))

  pub gone_none : {turns : ℕ} {x : NodeValue K} {before : Draft} → MaySettle records faults service past turns x before → GoneOn turns turns x x before before
  gone_none {turns} {x} {before} may = record {
    comes = (leads_same refl (λ f. refl), may.kept, may.up);
    same = record { id = refl; nodes = refl; seed = refl; decoded = refl };
    may = may;
    moved = inl refl;
  }

  module _ {turns left : ℕ} {x y : NodeValue K} {before mid : Draft} (h : GoneOn turns left x y before mid) {z : NodeValue K} (after : Draft) (same : IsSame y z) where
    -- the part of a round, as the first node's
    first_leads : {rest : CallHere → CallHere} → Leads records gives faults service (settles service y left) rest y.keeper z.keeper (so_far records service past y mid) (so_far records service past z after) → Leads records gives faults service (settles service x turns) rest x.keeper z.keeper (so_far records service past x before) (so_far records service past z after)
    first_leads {rest} k =
        leads_then h.comes.0
        (subst (λ whole. Leads records gives faults service whole rest y.keeper z.keeper (so_far records service past y mid) (so_far records service past z after)) (settles_as service left h.same) k)

    pub gone_again : GoesRound records gives faults service past left y z mid after Again → GoneOn turns (left - 2) x z before after
    gone_again k = record {
      comes = (first_leads (subst (λ rest. Leads records gives faults service (settles service y left) rest y.keeper z.keeper (so_far records service past y mid) (so_far records service past z after)) (settles_as service _ h.same) k.0.0), k.0.1, k.0.2);
      same = same_then h.same same;
      may = record {
        kept = k.0.1;
        up = k.0.2;
        free = k.2;
        enough = k.1;
        runs = subst (λ rest. RunsOn service rest (so_far records service past z after)) (sym (settles_as service _ same)) (rest_runs past y z mid after k.0.0 h.may.runs);
        count = subst (λ n. n < 2 ^ 64 - 1) (sym k.0.0.counted) h.may.count;
      };
      moved = inr (longer h.moved k.4);
    }
      where
        longer : (y ≡ x) ⊎ (length (records x.keeper) < length (records y.keeper)) → length (records y.keeper) < length (records z.keeper) → length (records x.keeper) < length (records z.keeper)
        longer (inl e) l = subst (λ n. length (records n.keeper) < length (records z.keeper)) e l
        longer (inr m) l = omega (arith, m, l)

    pub gone_done : (going : Going) → GoesRound records gives faults service past left y z mid after (Done going) → Ends records gives faults service past (settles service x turns) x z before after going
    gone_done going k = ends_then x y before mid after going h.same.id h.comes.0 (subst (λ whole. Ends records gives faults service past whole y z mid after going) (settles_as service left h.same) k)

    pub gone_stuck : IsStuck records gives faults service past (settles service y left) y z mid → IsStuck records gives faults service past (settles service x turns) x z before
    gone_stuck k = by h.moved (subst (λ whole. IsStuck records gives faults service past whole y z mid) (settles_as service left h.same) k)
      where
        by : (y ≡ x) ⊎ (length (records x.keeper) < length (records y.keeper)) → IsStuck records gives faults service past (settles service x left) y z mid → IsStuck records gives faults service past (settles service x turns) x z before
        by (inl e) (inl s) = inl (subst (λ n. Stands records faults gives n z) e s)
        by (inl e) (inr b) = inr (breaks_later y z mid h.comes.0 b)
        by (inr longer) s = inr (breaks_after y z mid h.comes.0 longer (h.comes.1.up h.comes.2).base (settle_loses left x.nodes x.id _) s)

-- a round's end, as it was named
pub round_as : {K : Type 0} (records : K → List (List ℕ)) (gives : K → List ℕ → Answer → K → Type 0) (faults : K → ℕ) (service : Declarations) (past : List Value) (left : ℕ) (y z : NodeValue K) (mid after : Draft) {r s : Round} → r ≡ s → GoesRound records gives faults service past left y z mid after r → GoesRound records gives faults service past left y z mid after s
round_as records gives faults service past left y z mid after e h = subst (λ t. GoesRound records gives faults service past left y z mid after t) e h
