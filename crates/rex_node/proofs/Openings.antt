-- How a call goes on where its node has proposed a value.
use Rattle.rex_node.proofs.Common.{◌≡◌, ℕ, zero, suc, ◌+◌, ◌*◌, ◌<◌, ◌≤◌, Bool, true, false, cond, List, [], ◌∷◌, length, Option, Some, None, refl, sym, ap, subst, ◌∙◌, arith, IfSome, is_some, option_map, Kept, AcceptorValue, accepting, ProposerValue, is_candidate, proposed, counted_none, counted_push, Proposal, proposal_of, is_majority, Service, Lead, Role, Failure, After, leading, led, decide, lead, turn, settle, enough, Value, CallHere, StateValue, armed_with, proposal_in, NodeValue, Proposes, lead_of, role_of, FromLead}
use Rattle.rex_ballot.specs.Ballot.{node_of}
use Rattle.rex_ballot.proofs.Lists.{proposal_for-with}
use Rattle.rex_paxos.specs.Counting as counting
use Rattle.rex_cluster.specs.Node.Role.{Leads}
use Rattle.rex_log.proofs.Proposers.{majority_is}

-- ---- what a node leads with

pub from_lead : {K : Type 0} (x : NodeValue K) (P : Lead Value → Type 0) → ((p : ProposerValue) → x.proposer ≡ Some p → P (lead_of x.acceptor p (is_some x.acting))) → FromLead x P
from_lead x P h = by x.proposer h
  where
    by : (o : Option ProposerValue) → ((p : ProposerValue) → o ≡ Some p → P (lead_of x.acceptor p (is_some x.acting))) → IfSome o (λ p. P (lead_of x.acceptor p (is_some x.acting)))
    by None k = tt
    by (Some p) k = k p refl

pub lead_from : {K : Type 0} (x : NodeValue K) (P : Lead Value → Type 0) (p : ProposerValue) → x.proposer ≡ Some p → FromLead x P → P (lead_of x.acceptor p (is_some x.acting))
lead_from x P p e h = subst (λ o. IfSome o (λ q. P (lead_of x.acceptor q (is_some x.acting)))) e h

-- ---- a call of the model that has an open proposal

more_turns : (reported : List (Proposal Value)) → enough reported ≡ suc (2 * length reported + 2)
more_turns reported = omega arith

module _ (n : ℕ) (sv : Service Value StateValue) (me : ℕ) (l : Lead Value) (p : Proposal Value) (d : CallHere) where
  abbrev opens_to : Role Value
  opens_to = leading l (Some p) (me ∷ []) l.active

  abbrev left : ℕ
  left = 2 * length l.reported + 2

  settle_at : {t : Bool} → is_majority n (me ∷ []) ≡ t → settle (enough l.reported) n sv me (led opens_to d) ≡ cond t (decide n sv me (led opens_to d) (record { ballot = l.ballot; counted = l.counted; reported = l.reported; proposal = Some p; accepted_by = me ∷ []; active = l.active }) p.instance p.value (settle left n sv me)) (led opens_to d)
  settle_at e =
      ap (λ f. settle f n sv me (led opens_to d)) (more_turns _)
      ∙ ap (λ u. cond u (decide n sv me (led opens_to d) (record { ballot = l.ballot; counted = l.counted; reported = l.reported; proposal = Some p; accepted_by = me ∷ []; active = l.active }) p.instance p.value (settle left n sv me)) (led opens_to d)) e

  -- it waits for a majority
  pub stays_open : d.node.role ≡ leading l (Some p) (me ∷ []) l.active → is_majority n (me ∷ []) ≡ false → settle (enough l.reported) n sv me (led (leading l (Some p) (me ∷ []) l.active) d) ≡ d
  stays_open role e = settle_at e ∙ ap (λ r. led r d) (sym role)

  -- or it has one and knows the value
  pub knows_at_once : is_majority n (me ∷ []) ≡ true
      → settle (enough l.reported) n sv me (led (leading l (Some p) (me ∷ []) l.active) d)
      ≡ decide n sv me d (record { ballot = l.ballot; counted = l.counted; reported = l.reported; proposal = None; accepted_by = []; active = l.active }) p.instance p.value (settle (2 * length l.reported + 2) n sv me)
  knows_at_once e = settle_at e ∙ at d.node.armed
    where
      at : (a : Option Failure)
          → decide n sv me (armed_with a (led opens_to d)) (record { ballot = l.ballot; counted = l.counted; reported = l.reported; proposal = Some p; accepted_by = me ∷ []; active = l.active }) p.instance p.value (settle left n sv me)
          ≡ decide n sv me (armed_with a d) (record { ballot = l.ballot; counted = l.counted; reported = l.reported; proposal = None; accepted_by = []; active = l.active }) p.instance p.value (settle left n sv me)
      at None = refl
      at (Some (After zero kept)) = refl
      at (Some (After (suc before) kept)) = refl

-- an active node without an open proposal goes no further
pub settles_active : (f n : ℕ) (sv : Service Value StateValue) (me : ℕ) {d : CallHere} {l : Lead Value} → d.node.role ≡ Leads l → l.proposal ≡ None → l.active ≡ true → settle f n sv me d ≡ d
settles_active zero n sv me role none active = refl
settles_active (suc f) n sv me {d} {l} role none active =
    ap (λ r. turn n sv me d r (settle f n sv me)) role
    ∙ ap (λ o. lead n sv me d l o (settle f n sv me)) none
    ∙ ap (λ t. lead n sv me d (record l { active = t }) None (settle f n sv me)) active

-- ---- a proposer that has proposed

module _ (p : ProposerValue) (instance : ℕ) where
  pub proposed_open : counting.is_majority p.nodes 1 ≡ false → proposed p instance ≡ record p { open_instance = Some instance; accepted = node_of p.ballot ∷ [] }
  proposed_open e = ap (λ t. cond t (record p { open_instance = None; accepted = [] }) (record p { open_instance = Some instance; accepted = node_of p.ballot ∷ [] })) e

  pub proposed_closed : counting.is_majority p.nodes 1 ≡ true → proposed p instance ≡ record p { open_instance = None; accepted = [] }
  proposed_closed e = ap (λ t. cond t (record p { open_instance = None; accepted = [] }) (record p { open_instance = Some instance; accepted = node_of p.ballot ∷ [] })) e

  -- it is a candidate or not as before
  pub candidate_same : is_candidate (proposed p instance) ≡ is_candidate p
  candidate_same = by (counting.is_majority p.nodes 1) refl
    where
      by : (t : Bool) → counting.is_majority p.nodes 1 ≡ t → is_candidate (proposed p instance) ≡ is_candidate p
      by true e = ap is_candidate (proposed_closed e)
      by false e = ap is_candidate (proposed_open e)

-- the node itself is a majority in the model just where its proposer says so
pub own_majority : {nodes id : ℕ} {acceptor : AcceptorValue} {p : ProposerValue} → (0 < id) × (id ≤ nodes) → Proposes nodes id acceptor p → is_majority nodes (id ∷ []) ≡ counting.is_majority p.nodes 1
own_majority {nodes} {id} there h =
    majority_is (counted_push nodes [] id (counted_none nodes) (record { first = there.0; last = there.1 }) refl)
    ∙ ap (λ n. counting.is_majority n 1) (sym h.nodes_are)

-- its role is then the model's
pub opened_role : (acceptor : AcceptorValue) (p : ProposerValue) {active : Bool} {id instance : ℕ} {value : Value} → node_of p.ballot ≡ id → counting.is_majority p.nodes 1 ≡ false
    → role_of (accepting acceptor (record { instance = instance; ballot = p.ballot; value = value })) (Some (proposed p instance)) active
    ≡ leading (lead_of acceptor p active) (Some (proposal_of p.ballot instance value)) (id ∷ []) active
opened_role acceptor p {active} {instance} {value} own alone =
    ap (λ q. role_of (accepting acceptor kept) (Some q) active) (proposed_open p instance alone)
    ∙ ap (λ o. leading (lead_of acceptor p active) (option_map proposal_in o) (node_of p.ballot ∷ []) active) (proposal_for-with _ kept)
    ∙ ap (λ m. leading (lead_of acceptor p active) (Some (proposal_of p.ballot instance value)) (m ∷ []) active) own
  where
    kept : Kept
    kept = record { instance = instance; ballot = p.ballot; value = value }
