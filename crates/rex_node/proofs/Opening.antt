-- A node that leads proposes a value: it accepts the value itself and counts that.
use Rattle.rex_node.proofs.Common.{◌≡◌, ℕ, suc, ◌<◌, ◌≤◌, Bool, true, false, cond, List, [], ◌∷◌, ◌++◌, length, Option, Some, None, inr, refl, sym, ap, subst, ◌∙◌, arith, map, max, is_some, option_map, IfSome, IsSome, unwrap_or, Kept, proposal_for, AcceptorValue, accepting, ProposerValue, proposed, counted_none, counted_push, Declarations, Answer, HasSpelling, record_bytes, Effect, Proposal, proposal_of, Failure, Leading, Accept, LeadFits, leading, led, others, say, send, Value, CallHere, same_Some, Going, On, Down, Draft, content_in, message_in, log_of, proposal_in, NodeValue, ActingValue, ActsFor, IsActing, IsProposer, Proposes, IsCutAt, IsUp, IsKept, HasOpen, OpenIsCut, here_of, lead_of, open_of, armed_with, Appends, so_far, FromLead, Opens, OpensShort, accept_own, opened, Lead, Role, Message, MayPropose}
use Rattle.rex_ballot.specs.Ballot as ballots
use Rattle.rex_ballot.proofs.Lists.{proposals_are_replaced}
use Rattle.rex_paxos.specs.Counting as counting
use Rattle.rex_paxos.specs.Proposer.{CountsOnce}
use Rattle.rex_durable.specs.declared.records.Rec.TheVariants as kept
use Rattle.rex_msg.specs.declared.message.Content.TheVariants as sent
use Rattle.rex_cluster.specs.Ranges.{IsInstance}
use Rattle.rex_node.proofs.Appended.{appended_breaks, appended_fell, appended_leads, appended_log, call_at, fits_ballot, instance_fits, logged_accepted, logged_of, beside_of, up_of, logged_as, IsLogged, Beside, lead_fits_of}
use Rattle.rex_node.proofs.GoingLemmas.{leads_same, leads_then}
use Rattle.rex_node.proofs.Promises.{appends_at}

-- ---- a proposal that is opened

abbrev own : ProposerValue → ℕ → Value → Kept
own p i v = record { instance = i; ballot = p.ballot; value = v }

-- alone a node has a majority at once
abbrev pub opened_by : Bool → ProposerValue → ℕ → ProposerValue
opened_by true p i = record p { open_instance = None; accepted = [] }
opened_by false p i = record p { open_instance = Some i; accepted = ballots.node_of p.ballot ∷ [] }

pub opened_is : (p : ProposerValue) (i : ℕ) → proposed p i ≡ opened_by (counting.is_majority p.nodes 1) p i
opened_is p i = go (counting.is_majority p.nodes 1)
  where
    go : (t : Bool) → cond t (let q : ProposerValue = record p { open_instance = None; accepted = [] } in q) (record p { open_instance = Some i; accepted = ballots.node_of p.ballot ∷ [] }) ≡ opened_by t p i
    go true = refl
    go false = refl

own_open : (a : AcceptorValue) (p : ProposerValue) {i : ℕ} {v : Value} → proposal_for i (accepting a (own p i v)).accepted ≡ Some (own p i v)
own_open a p {i} {v} = proposals_are_replaced.replaced a.accepted (own p i v)

module _ {nodes id : ℕ} (there : 0 < id) (few : id ≤ nodes) {a : AcceptorValue} {p : ProposerValue} (h : Proposes nodes id a p) (i : ℕ) (v : Value) where
  once_opened : (t : Bool) → CountsOnce (opened_by t p i)
  once_opened true = record { own = h.once.own; promises = h.once.promises; acceptances = counted_none p.nodes }
  once_opened false = record {
    own = h.once.own;
    promises = h.once.promises;
    acceptances = counted_push p.nodes [] _ (counted_none p.nodes) h.once.own.own refl;
  }

  has_opened : (t : Bool) → HasOpen (accepting a (own p i v)) p.ballot (opened_by t p i).open_instance
  has_opened true = tt
  has_opened false = (own p i v, own_open a p, refl)

  promised_same : p.ballot ≡ max a.promised p.ballot
  promised_same = let e : p.ballot ≡ a.promised = h.ballot in omega arith

  by_opened : (t : Bool) → Proposes nodes id (accepting a (own p i v)) (opened_by t p i)
  by_opened true = record { nodes_are = h.nodes_are; own = h.own; ballot = promised_same; once = once_opened true; short = h.short; counted = λ _. refl; open_one = has_opened true }
  by_opened false = record { nodes_are = h.nodes_are; own = h.own; ballot = promised_same; once = once_opened false; short = h.short; counted = λ n. absurd (cc); open_one = has_opened false }

  pub proposes_opened : Proposes nodes id (accepting a (own p i v)) (proposed p i)
  proposes_opened = subst (Proposes nodes id (accepting a (own p i v))) (sym (opened_is p i)) (by_opened _)

-- what is executed has the cut that was proposed
acts_opened : {service : Declarations} {values : List Value} (a : AcceptorValue) (p : ProposerValue) {w : ActingValue} (i : ℕ) {v : Value} → ActsFor service values (open_of a p.open_instance) w → IsCutAt service values w v → ActsFor service values (open_of (accepting a (own p i v)) (proposed p i).open_instance) w
acts_opened {service} {values} a p {w} i {v} h cut = subst (λ q. ActsFor service values (open_of (accepting a (own p i v)) q.open_instance) w) (sym (opened_is p i)) (go (counting.is_majority p.nodes 1))
  where
    go : (t : Bool) → ActsFor service values (open_of (accepting a (own p i v)) (opened_by t p i).open_instance) w
    go true = record { executes = h.executes; open_is_cut = tt }
    go false = record { executes = h.executes; open_is_cut = subst (λ o. OpenIsCut service values w (option_map proposal_in o)) (sym (own_open a p)) cut }

pub acting_opened : (service : Declarations) (values : List Value) (a : AcceptorValue) (p : ProposerValue) (w : Option ActingValue) (i : ℕ) (v : Value) → IsActing service values a (Some p) w → IfSome w (λ (b : ActingValue). IsCutAt service values b v)
    → IsActing service values (accepting a (own p i v)) (Some (proposed p i)) w
acting_opened service values a p None i v h cut = tt
acting_opened service values a p (Some w) i v h cut = acts_opened a p i h cut

-- the numbers of what it leads with stay in their ranges
pub role_opened : {known : ℕ} (a : AcceptorValue) (p : ProposerValue) {active : Bool} {i : ℕ} (v : Value) → i ≡ suc known → IsInstance i → LeadFits known (lead_of a p active) → LeadFits known (lead_of (accepting a (own p i v)) (proposed p i) active)
role_opened {known} a p {active} {i} v next there h = subst (λ q. LeadFits known (lead_of (accepting a (own p i v)) q active)) (sym (opened_is p i)) (go (counting.is_majority p.nodes 1))
  where
    none : (q : Proposal Value) → None ≡ Some q → (q.instance ≡ suc known) × IsInstance q.instance
    none q e = absurd (cc)

    go : (t : Bool) → LeadFits known (lead_of (accepting a (own p i v)) (opened_by t p i) active)
    go true = record { ballot = h.ballot; reported = h.reported; next = none }
    go false = record {
      ballot = h.ballot;
      reported = h.reported;
      next = λ q e.
          subst (λ z. (z.instance ≡ suc known) × IsInstance z.instance)
          (same_Some (proposal_of p.ballot i v) q (ap (option_map proposal_in) (sym (own_open a p)) ∙ e)) (next, there);
    }

-- where it isn't alone it leads with that proposal
pub lead_opened : (a : AcceptorValue) (p : ProposerValue) {active : Bool} {id i : ℕ} {v : Value} → ballots.node_of p.ballot ≡ id → counting.is_majority p.nodes 1 ≡ false
    → Leading (lead_of (accepting a (own p i v)) (proposed p i) active) ≡ leading (lead_of a p active) (Some (proposal_of p.ballot i v)) (id ∷ []) active
lead_opened a p {active} {i} {v} e many =
    ap (λ q. Leading (lead_of (accepting a (own p i v)) q active)) (opened_is p i ∙ ap (λ t. opened_by t p i) many)
    ∙ ap (λ o. leading (lead_of a p active) (option_map proposal_in o) (ballots.node_of p.ballot ∷ []) active) (own_open a p)
    ∙ ap (λ n. leading (lead_of a p active) (Some (proposal_of p.ballot i v)) (n ∷ []) active) e

-- what is said of an optional value is said of the one that is there
pub if_some : {A : Type 0} (P : A → Type 0) {o : Option A} {x : A} → o ≡ Some x → IfSome o P → P x
if_some P e h = subst (λ o. IfSome o P) e h

-- and the other way round
pub some_if : {A : Type 0} (P : A → Type 0) {o : Option A} {x : A} → o ≡ Some x → P x → IfSome o P
some_if P e h = subst (λ o. IfSome o P) (sym e) h

-- an optional value that is there
pub some_of : {A : Type 0} (o : Option A) → IsSome o → (x : A) × (o ≡ Some x)
some_of None h = absurd (cc)
some_of (Some x) h = (x, refl)

-- ---- a node that proposes

module _ {K : Type 0} {records : K → List (List ℕ)} (gives : K → List ℕ → Answer → K → Type 0) (faults : K → ℕ) {service : Declarations} {past : List Value} {x : NodeValue K} {i : ℕ} {v : Value} (may : MayPropose records faults service past x i v)
    {b : ℕ} (b_is : b ≡ unwrap_or (option_map (λ (p : ProposerValue). p.ballot) x.proposer) 0) where
  u : IsUp service x (here_of records service past x)
  u = may.kept.up may.up

  -- what it leads with
  abbrev p : ProposerValue
  p = (some_of x.proposer may.leads).0

  p_is : x.proposer ≡ Some p
  p_is = (some_of x.proposer may.leads).1

  abbrev lead : Lead Value
  lead = lead_of x.acceptor p (is_some x.acting)

  abbrev role_open : Role Value
  role_open = leading lead (Some (proposal_of p.ballot i v)) (x.id ∷ []) (is_some x.acting)

  lead_fits : LeadFits (length x.known) lead
  lead_fits = lead_fits_of records past u p_is

  spelled : HasSpelling (kept.Accepted p.ballot i v)
  spelled = record { in_range = (fits_ballot lead_fits.ballot, may.there, may.short) }

  b_own : b ≡ p.ballot
  b_own = b_is ∙ ap (λ o. unwrap_or (option_map (λ q. q.ballot) o) 0) p_is

  pub propose_spelled : {w : Value} → w ≡ v → HasSpelling (kept.Accepted b i w)
  propose_spelled {w} w_is = subst (λ n. HasSpelling (kept.Accepted n i w)) (sym b_own) (subst (λ z. HasSpelling (kept.Accepted p.ballot i z)) (sym w_is) spelled)

  module _ (told : Effect) {w : Value} (w_is : w ≡ v) (y : NodeValue K) (before mid : Draft) (g : Going) (h : Appends records faults gives x y before mid (record_bytes (kept.Accepted b i w)) g) where
    -- the append is of the node's own ballot, and of the value
    as_own : {now : Going} → g ≡ now → Appends records faults gives x y before mid (record_bytes (kept.Accepted p.ballot i v)) now
    as_own e = appends_at records gives faults x y before mid (kept.Accepted b i w) (ap (λ n. kept.Accepted n i w) b_own ∙ ap (λ z. kept.Accepted p.ballot i z) w_is) e h

    -- what is left of the call after the append
    abbrev tells : (CallHere → CallHere) → CallHere → CallHere
    tells k d = k (send (say told (led role_open d)) (others x.nodes x.id (Accept p.ballot i v)))

    -- the node is down
    pub propose_down : g ≡ Down → Opens records gives faults service past told i v x y before mid Down
    propose_down e =
        let d = as_own e in
        some_if _ p_is
        (λ k. (appended_fell records gives faults service past x y before mid spelled tt refl {k = tells k} (λ f. refl) u.base refl d, record { down = ap (λ n. n.up) d.0.parts; bare = ap (λ n. n.reached) d.0.parts }))

    module _ (e : g ≡ On) where
      on : Appends records faults gives x y before mid (record_bytes (kept.Accepted p.ballot i v)) On
      on = as_own e

      abbrev z_at : NodeValue K
      z_at = record x { keeper = y.keeper; acceptor = accepting x.acceptor (own p i v); proposer = Some (proposed p i) }

      -- what the rest of the call begins with
      abbrev opens_to : (CallHere → CallHere) → Option Failure → List (Message Value) → List Effect → CallHere
      opens_to k f ms es = k (led role_open (armed_with f (call_at (here_of records service past z_at) ms es)))

      z_logged : IsLogged service z_at (log_of service past (records y.keeper))
      z_logged =
          let l = logged_of records service past x u in
          subst (IsLogged service z_at) (sym (appended_log records gives faults service past x y before mid spelled tt refl on))
          (logged_as refl (logged_accepted l lead_fits.ballot (instance_fits may.there) may.short (omega (arith, l.low, l.few, may.next, l.offset_is))))

      z_beside : Beside records service past z_at
      z_beside = let b = beside_of records service past x u in record {
        based = b.based;
        replayed = b.replayed;
        ahead = b.ahead;
        caught_up = b.caught_up;
        proposer = proposes_opened may.kept.id.0 may.kept.id.1 (subst (IsProposer x.nodes x.id x.acceptor) p_is u.proposer) i v;
        acting = acting_opened service x.known x.acceptor p x.acting i v (subst (λ o. IsActing service x.known x.acceptor o x.acting) p_is u.acting) may.cut;
        stamped = b.stamped;
        role = role_opened x.acceptor p v (omega (arith, may.next)) (instance_fits may.there) lead_fits;
      }

      z_kept : IsKept records service past z_at
      z_kept = record { id = may.kept.id; few = may.kept.few; up = λ t. up_of records service past z_at z_logged z_beside; reached = may.kept.reached; decoded = may.kept.decoded }

      -- the call goes on with its proposal open
      pub propose_on : {z : NodeValue K} (after : Draft) → z ≡ opened y i v → after.effects.items ≡ mid.effects.items ++ told ∷ [] → FromLead y (λ l. map (message_in past) after.sends.items ≡ map (message_in past) mid.sends.items ++ others y.nodes y.id (content_in past (sent.Accept l.ballot i v)))
          → Opens records gives faults service past told i v x z before after On
      propose_on {z} after z_is effects sends =
          subst (λ n. Opens records gives faults service past told i v x n before after On) (sym all)
          (some_if _ p_is
          (λ k. (
            leads_then (appended_leads records gives faults service past x y before mid spelled tt refl {k = tells k} (λ f. refl) on)
                (leads_same refl (comes k)),
            z_kept,
            may.up,
          )))
        where
          all : z ≡ z_at
          all =
              z_is ∙ ap (λ n. opened n i v) on.0.parts
              ∙ ap (λ o. record x { keeper = y.keeper; acceptor = accept_own o x.acceptor i v; proposer = option_map (λ q. proposed q i) o }) p_is

          sends_are : map (message_in past) after.sends.items ≡ map (message_in past) mid.sends.items ++ others x.nodes x.id (Accept p.ballot i v)
          sends_are =
              if_some (λ q. map (message_in past) after.sends.items ≡ map (message_in past) mid.sends.items ++ others x.nodes x.id (Accept q.ballot i v)) p_is
              (subst (λ n. FromLead n (λ l. map (message_in past) after.sends.items ≡ map (message_in past) mid.sends.items ++ others n.nodes n.id (content_in past (sent.Accept l.ballot i v)))) on.0.parts sends)

          -- the model's call comes to the same
          comes : (k : CallHere → CallHere) (f : Option Failure) → tells k (armed_with f (so_far records service past y mid)) ≡ k (led role_open (armed_with f (so_far records service past z_at after)))
          comes k f =
              ap (λ n. tells k (armed_with f (call_at (here_of records service past n) (map (message_in past) mid.sends.items) mid.effects.items))) on.0.parts
              ∙ ap (λ ms. opens_to k f ms (mid.effects.items ++ told ∷ [])) (sym sends_are)
              ∙ ap (opens_to k f _) (sym effects)

      -- or memory was short with the acceptance written down
      pub propose_stuck : {z : NodeValue K} → z.keeper ≡ y.keeper → z.base ≡ y.base → OpensShort records gives faults service past told i v x z before
      propose_stuck keeper based =
          inr (some_if _ p_is
          (λ k loses. appended_breaks records gives faults service past x y before mid spelled tt refl {k = tells k} (λ f. refl) on (λ d. loses (send (say told (led role_open d)) (others x.nodes x.id (Accept p.ballot i v)))) keeper (based ∙ ap (λ n. n.base) on.0.parts ∙ u.base)))
