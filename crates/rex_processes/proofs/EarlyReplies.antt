-- Replies that a message would release stand: their value is chosen.
use Rattle.std.proofs.Common.{◌≡◌, ℕ, suc, ◌+◌, ◌<◌, ◌≤◌, Bool, true, false, ◌⊎◌, List, [], ◌∷◌, ◌++◌, length, Option, Some, None, refl, sym, ap, subst, inl, inr, arith, length-append}
use Rattle.std.specs.Prelude.{ℤ, ◌*◌, ◌==◌, ◌&&◌, ◌||◌, not, slice_get, take, if◌then◌else◌}
use Rattle.std.proofs.lemmas.Bool.{cases_lt, and_parts, eqb-true, ltb-true}
use Rattle.std.specs.List.{All}
use Rattle.rex_ballot.specs.Limits.{most_nodes}
use Rattle.rex_syntax.specs.declared.service.Declarations.{Declarations}
use Rattle.rex_syntax.specs.Service.{IsService}
use Rattle.rex_syntax.specs.Check.{IsChecked}
use Rattle.rex_state.specs.Value.{StateValue}
use Rattle.rex_report.specs.declared.effect.Effect.{Effect}
use Rattle.rex_schedule.specs.Fits.{RequestFits}
use Rattle.rex_report.specs.declared.effect.Effect.TheVariants as effect
use Rattle.rex_cluster.specs.Records.{Proposal, HasAccepted}
use Rattle.rex_cluster.specs.Quorum.{IsNode, Logs, ChosenAt, ChosenBy, AllChosenBy, node_of, is_in, is_majority, count}
use Rattle.rex_cluster.specs.Node.{Service, Message, Content, Lead, Role, own_ballot}
use Rattle.rex_cluster.specs.Node.Content.{Prepare, Promise, Accept, Accepted as Voted, Chosen as Chose, Nack, Ask, Snapshot}
use Rattle.rex_cluster.specs.Node.Role.{Follower, Leads}
use Rattle.rex_cluster.specs.Invariant.{Begins, Grows, IsIn, IsJustified, LeadsRightly, Open, IsRightOpen}
use Rattle.rex_cluster.specs.Values.{Value, replies_of, service_of, trace_of, values_fit}
use Rattle.rex_cluster.specs.World.{World, node_at, logs}
use Rattle.rex_cluster.specs.Agreed.{known_at}
use Rattle.rex_cluster.specs.Stands.{Stands}
use Rattle.rex_cluster.specs.Releases.{Moment, IsAmong, IsLeader}
use Rattle.rex_cluster.proofs.Traces.{stands_more}
use Rattle.rex_cluster.proofs.Replies.{replies_stand, stands_begins}
use Rattle.rex_cluster.proofs.Grow.{all_chosen_grows, all_chosen_by_grows, grows_same}
use Rattle.rex_cluster.proofs.Settle.{at_most, by_chosen}
use Rattle.rex_cluster.proofs.Fronts.{fits_front, prefix_of}
use Rattle.rex_safety.proofs.Leaders.{leader_knows}
use Rattle.rex_safety.proofs.Worlds.{IsWorld, node_of_lead}
use Rattle.rex_safety.proofs.Moments.{IsMoment, AreMoments, lead_ok, one_at, two_at}
use Rattle.rex_processes.specs.Early.{EarlyRepliesStand, StandsFrom, early_replies, is_chosen_with, replies_to, replies_with}

-- ---- what a message would release

-- who would release replies is active, and its open proposal is chosen with an acceptance that the message tells
pub record Releases (service : Declarations) (n : ℕ) (before : List Value) (role : Role Value) (from : ℕ) (content : Content Value) (e : Effect) : Type 0 where
  pub lead : Lead Value
  pub role_is : role ≡ Leads lead
  pub active : lead.active ≡ true
  pub instance : ℕ
  pub says : content ≡ Voted lead.ballot instance
  pub open_one : Proposal Value
  pub is_open : lead.proposal ≡ Some open_one
  pub instance_is : open_one.instance ≡ instance
  pub majority : is_majority n (lead.accepted_by ++ from ∷ []) ≡ true
  pub among : IsAmong e (replies_of service before open_one.value)

module _ (service : Declarations) (n : ℕ) (before : List Value) (from : ℕ) (e : Effect) where
  with_lead : (l : Lead Value) (b i : ℕ) (o : Option (Proposal Value)) → l.proposal ≡ o → IsAmong e (replies_with service n before l from b i o) → Releases service n before (Leads l) from (Voted b i) e
  with_lead l b i None is h = absurd h
  with_lead l b i (Some p) is h = by (l.active && is_chosen_with n l from b i p) refl h
    where
      by : (t : Bool) → (l.active && is_chosen_with n l from b i p) ≡ t → IsAmong e (if t then replies_of service before p.value else []) → Releases service n before (Leads l) from (Voted b i) e
      by false e k = absurd k
      by true all k =
          let one = and_parts l.active (is_chosen_with n l from b i p) all in
          let two = and_parts (l.ballot == b) ((p.instance == i) && (not (is_in from l.accepted_by) && is_majority n (l.accepted_by ++ from ∷ []))) one.1 in
          let three = and_parts (p.instance == i) (not (is_in from l.accepted_by) && is_majority n (l.accepted_by ++ from ∷ [])) two.1 in
          let four = and_parts (not (is_in from l.accepted_by)) (is_majority n (l.accepted_by ++ from ∷ [])) three.1 in
          record {
            lead = l;
            role_is = refl;
            active = one.0;
            instance = i;
            says = ap (λ (k : ℕ). let c : Content Value = Voted k i in c) (sym (eqb-true l.ballot b two.0));
            open_one = p;
            is_open = is;
            instance_is = eqb-true p.instance i three.0;
            majority = four.1;
            among = k;
          }

  releases : (role : Role Value) (content : Content Value) → IsAmong e (replies_to service n before from content role) → Releases service n before role from content e
  releases (Leads l) (Voted b i) h = with_lead l b i l.proposal refl h
  releases Follower (Voted b i) h = absurd h
  releases role (Prepare b first) h = absurd h
  releases role (Promise b ps) h = absurd h
  releases role (Accept b i v) h = absurd h
  releases role (Chose i v) h = absurd h
  releases role (Nack b p) h = absurd h
  releases role (Ask first) h = absurd h
  releases role (Snapshot values) h = absurd h

-- ---- the value is chosen

module _ {V S : Type 0} where
  -- one more behind values that were chosen at the ballot or below
  chosen_push : (n : ℕ) (L : Logs V S) (b k : ℕ) (vs : List V) (v : V) → AllChosenBy n L b k vs → ChosenBy n L b (k + length vs) v → AllChosenBy n L b k (vs ++ v ∷ [])
  chosen_push n L b k [] v h c = (subst (λ (i : ℕ). ChosenBy n L b i v) (omega arith) c, tt)
  chosen_push n L b k (u ∷ vs) v h c = (h.0, chosen_push n L b (suc k) vs v h.1 (subst (λ (i : ℕ). ChosenBy n L b i v) (omega arith) c))

-- who is among nodes and one more is among them, or that one
in_push : (q from : ℕ) (xs : List ℕ) → is_in q (xs ++ from ∷ []) ≡ true → (is_in q xs ≡ true) ⊎ (q ≡ from)
in_push q from [] h = by (q == from) refl h
  where
    by : (t : Bool) → (q == from) ≡ t → (t || false) ≡ true → (is_in q [] ≡ true) ⊎ (q ≡ from)
    by true e k = inr (eqb-true q from e)
    by false e k = absurd (cc)
in_push q from (x ∷ xs) h = by (q == x) (in_push q from xs) h
  where
    by : (t : Bool) → (is_in q (xs ++ from ∷ []) ≡ true → (is_in q xs ≡ true) ⊎ (q ≡ from)) → (t || is_in q (xs ++ from ∷ [])) ≡ true → ((t || is_in q xs) ≡ true) ⊎ (q ≡ from)
    by true go k = inl refl
    by false go k = go k

module _ (service : Declarations) (good : IsService service) (checked : IsChecked service) (none : All (RequestFits service) []) (seed n : ℕ) (few : n ≤ most_nodes) where
  abbrev sv : Service Value StateValue
  sv = service_of service seed

  -- ---- in a world

  module _ (w : World) (ok : IsWorld n sv w) (m : ℕ) (min : IsNode n m) (x : Message Value) (sent : IsIn x w.messages) (e : Effect)
      (r : Releases service n (known_at w m) (node_at w.nodes m).role x.from x.content e) where
    abbrev L : Logs Value StateValue
    L = logs w

    abbrev before : List Value
    before = known_at w m

    abbrev value : Value
    value = r.open_one.value

    leads : LeadsRightly n L (L m) m r.lead
    leads = lead_ok service good checked [] none seed n few w ok m min r.lead r.role_is

    open_so : Open n L (L m) r.lead.ballot r.lead.accepted_by r.open_one
    open_so = subst (λ (o : Option (Proposal Value)). IsRightOpen n L (L m) r.lead.ballot r.lead.accepted_by o) r.is_open leads.pending

    told : IsJustified n L x.from (Voted r.lead.ballot r.instance)
    told = subst (λ (c : Content Value). IsJustified n L x.from c) r.says (ok.cluster.messages x sent)

    -- the node that sent the acceptance accepted the open value
    sender : HasAccepted r.lead.ballot r.open_one.instance value (L x.from)
    sender =
        let theirs : HasAccepted r.lead.ballot r.open_one.instance told.1.0 (L x.from) = subst (λ (i : ℕ). HasAccepted r.lead.ballot i told.1.0 (L x.from)) (sym r.instance_is) told.1.1 in
        let owner = (ok.cluster.safe.own x.from r.lead.ballot r.open_one.instance told.1.0 told.0 theirs).1 in
        let mine : HasAccepted r.lead.ballot r.open_one.instance value (L (node_of r.lead.ballot)) = subst (λ (q : ℕ). HasAccepted r.lead.ballot r.open_one.instance value (L q)) (sym leads.owned) open_so.own in
        subst (λ (v : Value). HasAccepted r.lead.ballot r.open_one.instance v (L x.from)) (ok.cluster.safe.one r.lead.ballot r.open_one.instance told.1.0 value owner mine) theirs

    accepted : (q : ℕ) → IsNode n q → is_in q (r.lead.accepted_by ++ x.from ∷ []) ≡ true → HasAccepted r.lead.ballot r.open_one.instance value (L q)
    accepted q qin h = by (in_push q x.from r.lead.accepted_by h)
      where
        by : (is_in q r.lead.accepted_by ≡ true) ⊎ (q ≡ x.from) → HasAccepted r.lead.ballot r.open_one.instance value (L q)
        by (inl y) = open_so.acked q qin y
        by (inr y) = subst (λ (k : ℕ). HasAccepted r.lead.ballot r.open_one.instance value (L k)) (sym y) sender

    chosen : ChosenBy n L r.lead.ballot (suc (length before)) value
    chosen = record {
      ballot = r.lead.ballot;
      most = omega arith;
      quorum = subst (λ (i : ℕ). ChosenAt n L r.lead.ballot i value) open_so.next (record {
        who = λ q. is_in q (r.lead.accepted_by ++ x.from ∷ []);
        big = ltb-true n (2 * count (λ q. is_in q (r.lead.accepted_by ++ x.from ∷ [])) n) r.majority;
        each = accepted;
      });
    }

    pub all_chosen : AllChosenBy n L r.lead.ballot 1 (before ++ value ∷ [])
    all_chosen = chosen_push n L r.lead.ballot 1 before value (at_most n sv L (L m) m r.lead ok.cluster.safe leads (leads.ready r.active).majority) (subst (λ (i : ℕ). ChosenBy n L r.lead.ballot i value) (omega arith) chosen)

  -- ---- at two moments

  module _ (first : Logs Value StateValue) (run : List Moment) (all : AreMoments service good checked [] none seed n few first run)
      (i j : ℕ) (early later : Moment) (ei : slice_get run i ≡ Some early) (ej : slice_get run j ≡ Some later)
      (m : ℕ) (x : Message Value) (min : IsNode n m) (sent : IsIn x early.world.messages) (client sequence : ℕ) (number : ℤ)
      (h : IsAmong (effect.Released client sequence number) (early_replies service n (node_at early.world.nodes m) x)) where
    abbrev K : Logs Value StateValue
    K = logs early.world

    abbrev M : Logs Value StateValue
    M = logs later.world

    abbrev E : Effect
    E = effect.Released client sequence number

    me : IsMoment service good checked [] none seed n few first early
    me = one_at service good checked [] none seed n few first run i early all ei

    ml : IsMoment service good checked [] none seed n few first later
    ml = one_at service good checked [] none seed n few first run j later all ej

    r : Releases service n (known_at early.world m) (node_at early.world.nodes m).role x.from x.content E
    r = releases service n (known_at early.world m) x.from E (node_at early.world.nodes m).role x.content h

    abbrev values : List Value
    values = known_at early.world m ++ r.open_one.value ∷ []

    there : AllChosenBy n K r.lead.ballot 1 values
    there = all_chosen early.world me.ok m min x sent E r

    longer : length values ≡ length (known_at early.world m) + 1
    longer = length-append (known_at early.world m) (r.open_one.value ∷ [])

    whole : (vs : List Value) → take (length vs) vs ≡ vs
    whole [] = refl
    whole (v ∷ vs) = ap (λ us. v ∷ us) (whole vs)

    fits : values_fit service values ≡ true
    fits =
        subst (λ vs. values_fit service vs ≡ true) (whole values)
        (fits_front n sv K me.ok.cluster.safe values (by_chosen n K r.lead.ballot 1 values there) refl (length values))

    -- what begins with these values has the reply
    in_known : (q : ℕ) → IsNode n q → Begins values (known_at later.world q) → Stands (trace_of (known_at later.world q)) client sequence number
    in_known q qin b =
        stands_begins values (known_at later.world q) client sequence number b
        (replies_stand service good checked (known_at early.world m) r.open_one.value client sequence number r.among fits)

    ordered : {A : Type 0} → (i ≤ j → A) → (j ≤ i → A) → A
    ordered {A} f g = by (cases_lt i j)
      where
        by : (i < j) ⊎ (j ≤ i) → A
        by (inl l) = f (omega arith)
        by (inr l) = g l

    grow : i ≤ j → Grows K M
    grow l = two_at service good checked [] none seed n few first run i j early later all ei ej l

    shrink : j ≤ i → Grows M K
    shrink l = two_at service good checked [] none seed n few first run j i later early all ej ei l

    -- a process that knows as many values knows these
    knows : (q : ℕ) → IsNode n q → length values ≤ length (known_at later.world q) → Begins values (known_at later.world q)
    knows q qin le = ordered forward backward
      where
        forward : i ≤ j → Begins values (known_at later.world q)
        forward l = prefix_of n sv M ml.ok.cluster.safe 1 values (known_at later.world q) (by_chosen n M r.lead.ballot 1 values (all_chosen_by_grows (grow l) n r.lead.ballot 1 values there)) (ml.ok.cluster.safe.knows q qin) le

        backward : j ≤ i → Begins values (known_at later.world q)
        backward l = prefix_of n sv K me.ok.cluster.safe 1 values (known_at later.world q) (by_chosen n K r.lead.ballot 1 values there) (all_chosen_grows (shrink l) n 1 (known_at later.world q) (ml.ok.cluster.safe.knows q qin)) le

    -- so does a leader of a greater ballot
    leads_know : (q above : ℕ) → (qin : IsNode n q) → (k : IsLeader later.world q above) → r.lead.ballot < above → length values ≤ length (known_at later.world q)
    leads_know q above qin k lt = ordered forward backward
      where
        right : LeadsRightly n M (M q) q k.lead
        right = lead_ok service good checked [] none seed n few later.world ml.ok q qin k.lead k.role

        less : r.lead.ballot < k.lead.ballot
        less = omega (arith, lt, k.ballot_is)

        forward : i ≤ j → length values ≤ length (known_at later.world q)
        forward l = leader_knows n sv M M q k.lead ml.ok.cluster.safe right k.active (grows_same M) r.lead.ballot values less (all_chosen_by_grows (grow l) n r.lead.ballot 1 values there)

        backward : j ≤ i → length values ≤ length (known_at later.world q)
        backward l = leader_knows n sv M K q k.lead ml.ok.cluster.safe right k.active (shrink l) r.lead.ballot values less there

    own : own_ballot (node_at early.world.nodes m).role ≡ r.lead.ballot
    own = ap own_ballot r.role_is

    pub stands_from : StandsFrom (own_ballot (node_at early.world.nodes m).role) (length (known_at early.world m)) n later client sequence number
    stands_from = record {
      leaders = λ q above k lt.
          let qin : IsNode n q = node_of_lead n sv later.world ml.ok q k.lead k.role in
          stands_more (trace_of (known_at later.world q)) (node_at later.world.nodes q).work.live client sequence number
          (in_known q qin (knows q qin (leads_know q above qin k (omega (arith, lt, own)))));
      known = λ q qin lt. in_known q qin (knows q qin (omega (arith, lt, longer)));
    }

  pub early_stand : (first : Logs Value StateValue) (run : List Moment) → AreMoments service good checked [] none seed n few first run → EarlyRepliesStand service n run
  early_stand first run all i j early later ei ej m x min sent client sequence number among =
      stands_from first run all i j early later ei ej m x min sent client sequence number among
