-- A node that goes on adopts the value that was reported for the next instance; alone it knows it at once.
use Rattle.rex_node.proofs.Common.{◌≡◌, ℕ, zero, suc, ◌+◌, ◌-◌, ◌*◌, ◌^◌, ◌<◌, ◌≤◌, Bool, true, false, cond, not, ◌&&◌, List, [], ◌∷◌, ◌++◌, length, inl, inr, Option, Some, None, refl, sym, ap, subst, ◌∙◌, arith, map, is_some, is_none, nat_lt, option_map, IfSome, IsSome, All, and_parts, le-ltb, lt-ltb, same_Some, Kept, IsValue, accepting, AreCounted, ProposerValue, is_candidate, proposed, closed, IsBest, best_for, counted_none, counted_push, Declarations, IsService, IsChecked, StateValue, Answer, Effect, Rec, Proposal, proposal_of, known, Failure, Lead, Role, Service, After, Leading, is_majority, LeadFits, length_push, Call, append, best, choose, decide, lead, leading, learned, led, logged, others, propose, send, settle, turn, Chose, Known, Value, events_of, service_of, values_fit, CallHere, Going, On, Down, Again, Done, Draft, proposal_in, NodeValue, ActingValue, IsCutAt, IsKept, HasGoneOn, IsProposer, IsSame, IsUp, Proposes, here_of, lead_of, open_of, role_of, armed_with, BreaksOff, Comes, Fell, IsStuck, Leads, LosesFirst, HasTurns, above, so_far, FromLead, GoesRound, IsFree, accept_own, knowing, HasLearned, HasOpened, IsOwnCut, MayPropose, Learns, LearnsShort, Opens, OpensShort, goes_on, may_lead, opened, reported_value, settling, MaySettle}
use Rattle.std.proofs.lemmas.List.Elements.{All-contains, Contains-append_right}
use Rattle.rex_ballot.specs.Ballot as ballots
use Rattle.rex_paxos.specs.Counting as counting
use Rattle.rex_paxos.proofs.Reports as reports
use Rattle.rex_report.specs.declared.effect.Effect.TheVariants as effect
use Rattle.rex_cluster.specs.Ranges as ranges
use Rattle.rex_cluster.proofs.Lists.{BestOk, best_ok}
use Rattle.rex_cluster.proofs.Stopping as stopping
use Rattle.rex_node.specs.Leading.{IsLonger}
use Rattle.rex_node.proofs.Appended.{fits_instance, lead_fits_of}
use Rattle.rex_log.proofs.Proposers as bridges
use Rattle.rex_node.proofs.Grows.{rest_runs}
use Rattle.rex_node.proofs.GoingLemmas.{leads_same, leads_then, leads_fell}
use Rattle.rex_node.proofs.Opening.{lead_opened, opened_by, opened_is, if_some}
use Rattle.rex_node.proofs.Stuck.{breaks_after, breaks_as, settle_loses}
use Rattle.rex_cluster.proofs.Learns.{fits_before, settle_learns}
use Rattle.rex_node.proofs.Following.{down_kept, kept_rests}

-- ---- the model's turn

module _ {V S : Type 0} (n : ℕ) (sv : Service V S) (me : ℕ) where
  -- it chooses for its next instance
  abbrev picks : Call V S → Lead V → (Call V S → Call V S) → Call V S
  picks d l k = choose n sv me d l (suc (length (known d.node.log))) (best (suc (length (known d.node.log))) l.reported) k

  -- a node that leads without a proposal, isn't active, and has the promises of a majority, chooses
  pub turn_chooses : (d : Call V S) {l : Lead V} (k : Call V S → Call V S) → d.node.role ≡ Leading l → l.proposal ≡ None → l.active ≡ false → is_majority n l.counted ≡ true
      → turn n sv me d d.node.role k ≡ picks d l k
  turn_chooses d {l} k role none idle many =
      ap (λ r. turn n sv me d r k) role
      ∙ ap (λ o. lead n sv me d l o k) none
      ∙ ap (λ t. cond t d (cond (is_majority n l.counted) (picks d l k) d)) idle
      ∙ ap (λ t. cond t (picks d l k) d) many

  -- an append doesn't ask for the role
  append_led : (a : Option Failure) (r : Rec V S) (d : Call V S) (role : Role V) {k : Call V S → Call V S} → ((e : Call V S) → k (led role e) ≡ k e) → append a me r (led role d) k ≡ append a me r d k
  append_led None r d role h = h (logged r None d)
  append_led (Some (After (suc n) kept)) r d role h = h (logged r (Some (After n kept)) d)
  append_led (Some (After zero kept)) r d role h = refl

  -- a proposal that a majority accepted is decided, whatever the role is
  pub decide_led : (d : Call V S) (l : Lead V) (role : Role V) (o : Option (Proposal V)) (acks : List ℕ) (i : ℕ) (v : V) (k : Call V S → Call V S)
      → decide n sv me (led role d) (record { ballot = l.ballot; counted = l.counted; reported = l.reported; proposal = o; accepted_by = acks; active = l.active }) i v k ≡ decide n sv me d l i v k
  decide_led d l role o acks i v k = append_led d.node.armed (Known i v) d role (λ e. refl)

-- so many proposals are above as in the model
above_kept : (k : ℕ) (ps : List Kept) → above k ps ≡ stopping.above k (map proposal_in ps)
above_kept k [] = refl
above_kept k (p ∷ ps) = ap (λ m. cond (nat_lt k p.instance) (suc m) m) (above_kept k ps)

-- one that is taken is one less
taken_less : (k : ℕ) (ps : List Kept) {q : Kept} → best_for (suc k) ps ≡ Some q → above (suc k) ps < above k ps
taken_less k ps {q} e =
    let less = stopping.above_best k _ _ (bridges.best_is (suc k) ps ∙ ap (option_map proposal_in) e) in
    omega (arith, less, above_kept k ps, above_kept (suc k) ps)

-- the report that is taken is one of them
taken_in : (P : Kept → Type 0) (i : ℕ) (ps : List Kept) {q : Kept} → best_for i ps ≡ Some q → All P ps → P q
taken_in P i ps {q} e all =
    let b : IsBest i ps q = reports.best_is i ps q e in
    All-contains P (b.before ++ q ∷ b.after) q (subst (All P) b.stands all) (Contains-append_right b.before (q ∷ b.after) q (0, omega arith, refl))

-- ---- what a node chooses

-- the node leads with this proposer, isn't active, has no open proposal, a majority promised, and this was reported for the instance
pub record Chooses (o : Option ProposerValue) (w : Option ActingValue) (i : ℕ) (v : Value) : Type 0 where
  pub p : ProposerValue
  pub p_is : o ≡ Some p
  pub idle : w ≡ None
  pub none : p.open_instance ≡ None
  pub many : counting.is_majority p.nodes (length p.promised) ≡ true
  pub q : Kept
  pub q_is : best_for i p.reported ≡ Some q
  pub v_is : q.value ≡ v

no_acting : (w : Option ActingValue) → not (is_some w) ≡ true → w ≡ None
no_acting None e = refl
no_acting (Some a) e = absurd (cc)

no_open : (o : Option ℕ) → is_none o ≡ true → o ≡ None
no_open None e = refl
no_open (Some i) e = absurd (cc)

not_not : (b : Bool) → not (not b) ≡ true → b ≡ true
not_not true e = refl
not_not false e = absurd (cc)

reported_at : (o : Option Kept) {v : Value} → option_map (λ (q : Kept). q.value) o ≡ Some v → (q : Kept) × (o ≡ Some q) × (q.value ≡ v)
reported_at None e = absurd (cc)
reported_at (Some q) {v} e = (q, refl, same_Some q.value v e)

-- a proposer that goes on
pub goes_parts : (p : ProposerValue) {w : Option ActingValue} → may_lead p (is_some w) ≡ true → (w ≡ None) × (p.open_instance ≡ None) × (counting.is_majority p.nodes (length p.promised) ≡ true)
goes_parts p {w} g =
    let a = and_parts (not (is_some w) && is_none p.open_instance) (not (is_candidate p)) g in
    let b = and_parts (not (is_some w)) (is_none p.open_instance) a.0 in
    (no_acting w b.0, no_open _ b.1, not_not _ a.1)

pub chooses_of : (o : Option ProposerValue) {w : Option ActingValue} {i : ℕ} {v : Value} → goes_on o (is_some w) ≡ true → reported_value o i ≡ Some v → Chooses o w i v
chooses_of None g r = absurd (cc)
chooses_of (Some p) {w} {i} {v} g r =
    let a = goes_parts p g in
    let q = reported_at _ r in
    record {
      p = p;
      p_is = refl;
      idle = a.0;
      none = a.1;
      many = a.2;
      q = q.0;
      q_is = q.1;
      v_is = q.2;
    }

-- ---- a node that adopts

module _ {K : Type 0} (records : K → List (List ℕ)) (gives : K → List ℕ → Answer → K → Type 0) (faults : K → ℕ) (service : Declarations) (past : List Value) where
  -- the node has proposed the value, with this told, and goes on
  pub record HasProposed (told : Effect) (i : ℕ) (v : Value) (x y : NodeValue K) (before mid : Draft) : Type 0 where
    pub opens : Opens records gives faults service past told i v x y before mid On
    pub parts : y ≡ record (opened x i v) { keeper = y.keeper }
    pub longer : length (records x.keeper) < length (records y.keeper)

  -- the node has made the value known, and goes on
  pub record HasMadeKnown (i : ℕ) (v : Value) (x y : NodeValue K) (before mid : Draft) : Type 0 where
    pub learns : Learns records gives faults service past i v x y before mid On
    pub parts : y ≡ record (knowing service x i v) { keeper = y.keeper }
    pub longer : length (records x.keeper) < length (records y.keeper)

module _ {K : Type 0} {records : K → List (List ℕ)} (gives : K → List ℕ → Answer → K → Type 0) (faults : K → ℕ) {service : Declarations} {past : List Value} (good : IsService service) (checked : IsChecked service) {x : NodeValue K} {turns : ℕ} {before : Draft} (may : MaySettle records faults service past turns x before)
    {i : ℕ} {v : Value} (next : i ≡ length x.known + 1) (c : Chooses x.proposer x.acting i v) where
  abbrev begun : CallHere
  begun = so_far records service past x before

  u : IsUp service x (here_of records service past x)
  u = may.kept.up may.up

  abbrev sv : Service Value StateValue
  sv = service_of service x.seed

  abbrev l : Lead Value
  l = lead_of x.acceptor c.p (is_some x.acting)

  proposes : Proposes x.nodes x.id x.acceptor c.p
  proposes = subst (IsProposer x.nodes x.id x.acceptor) c.p_is u.proposer

  lead_fits : LeadFits (length x.known) l
  lead_fits = lead_fits_of records past u c.p_is

  may_p : 2 * above (length x.known) c.p.reported + 1 ≤ turns
  may_p = subst (λ o. IfSome o (λ p. 2 * above (length x.known) p.reported + 1 ≤ turns)) c.p_is may.enough

  next_suc : i ≡ suc (length x.known)
  next_suc = omega (arith, next)

  less : above (suc (length x.known)) c.p.reported < above (length x.known) c.p.reported
  less = taken_less (length x.known) c.p.reported (ap (λ j. best_for j c.p.reported) (sym next_suc) ∙ c.q_is)

  best_here : best i (map proposal_in c.p.reported) ≡ Some (proposal_in c.q)
  best_here = bridges.best_is i _ ∙ ap (option_map proposal_in) c.q_is

  majority : is_majority x.nodes c.p.promised ≡ true
  majority =
      bridges.majority_is (subst (λ n. AreCounted n c.p.promised) proposes.nodes_are proposes.once.promises)
      ∙ ap (λ n. counting.is_majority n (length c.p.promised)) (sym proposes.nodes_are) ∙ c.many

  -- what it asks for of its proposal
  chosen_there : ballots.IsInstance i
  chosen_there =
      let b = subst (BestOk i (map proposal_in c.p.reported)) best_here (best_ok i _) in
      fits_instance (subst ranges.IsInstance b.1 (lead_fits.reported (proposal_in c.q) b.0).instance)

  chosen_short : IsValue v
  chosen_short = subst IsValue c.v_is (taken_in (λ q. IsValue q.value) i _ c.q_is proposes.short)

  chosen_cut : IsOwnCut service x v
  chosen_cut = subst (λ w. IfSome w (λ a. IsCutAt service x.known a v)) (sym c.idle) tt

  -- it may propose the value
  pub chosen_may : MayPropose records faults service past x i v
  chosen_may = record { kept = may.kept; up = may.up; leads = subst (λ o. IsSome o) (sym c.p_is) refl; next = next; there = chosen_there; short = chosen_short; cut = chosen_cut; count = may.count }

  abbrev told : Effect
  told = effect.Adopts x.id i (length (events_of v))

  abbrev role_with : Role Value
  role_with = leading l (Some (proposal_of c.p.ballot i v)) (x.id ∷ []) (is_some x.acting)

  abbrev settles : ℕ → CallHere → CallHere
  settles t = settle t x.nodes sv x.id

  -- the model's call proposes the same
  settle_is : (f : Option Failure) → settles turns (armed_with f begun) ≡ propose x.nodes x.id told (armed_with f begun) l i v (settles (turns - 1))
  settle_is f =
      ap (λ t. settles t d) (let t : turns ≡ suc (turns - 1) = omega (arith, may_p) in t)
      ∙ turn_chooses x.nodes sv x.id d k (ap (λ o. role_of x.acceptor o (is_some x.acting)) c.p_is) (ap (open_of x.acceptor) c.none) (ap (λ w. is_some w) c.idle) majority
      ∙ ap (λ j. choose x.nodes sv x.id d l j (best j (map proposal_in c.p.reported)) k) (sym (next_suc ∙ ap (λ vs. suc (length vs)) u.known))
      ∙ ap (λ o. choose x.nodes sv x.id d l i o k) best_here
      ∙ ap (λ w. propose x.nodes x.id (effect.Adopts x.id i (length (events_of w))) d l i w k) c.v_is
    where
      d : CallHere
      d = armed_with f begun

      k : CallHere → CallHere
      k = settles (turns - 1)

  -- what the node accepts itself
  abbrev own : Kept
  own = record { instance = i; ballot = c.p.ballot; value = v }

  -- what proposing comes to, where a proposer is there
  opens_at : (y : NodeValue K) (mid : Draft) (g : Going) → Opens records gives faults service past told i v x y before mid g
      → Comes records gives faults service past (λ d. propose x.nodes x.id told d l i v (settles (turns - 1))) (λ d. settles (turns - 1) (led role_with d)) x y before mid g
  opens_at y mid g opens = if_some _ c.p_is opens (settles (turns - 1))

  -- the append failed
  pub adopt_down : {y : NodeValue K} (mid : Draft) {said : Effect} {g : Going} → said ≡ told → g ≡ Down → IsSame x y → Opens records gives faults service past said i v x y before mid g → GoesRound records gives faults service past turns x y before mid (Done Down)
  adopt_down {y} mid {g} e s same opens =
      let o = opens_at y mid Down (subst (λ h. Opens records gives faults service past told i v x y before mid h) s (subst (λ t. Opens records gives faults service past t i v x y before mid g) e opens)) in
      ((leads_fell (leads_same refl settle_is) o.0, o.1), down_kept may.kept same o.1)

  -- memory was short as it proposed
  pub adopt_stuck : {y : NodeValue K} {said : Effect} → said ≡ told → OpensShort records gives faults service past said i v x y before → IsStuck records gives faults service past (settles turns) x y before
  adopt_stuck e (inl s) = inl s
  adopt_stuck {y} e (inr b) =
      inr (breaks_as settle_is
      (if_some _ c.p_is (subst (λ t. FromLead x (λ m. (k : CallHere → CallHere) → LosesFirst k → BreaksOff records gives faults service past (λ d. propose x.nodes x.id t d m i v k) x y before)) e b) (settles (turns - 1)) (settle_loses _ x.nodes x.id sv)))

  -- ---- the proposal is open

  module _ {y : NodeValue K} (mid : Draft) (h : HasProposed records gives faults service past told i v x y before mid) where
    abbrev y_at : NodeValue K
    y_at = record x { keeper = y.keeper; acceptor = accepting x.acceptor own; proposer = Some (proposed c.p i) }

    y_is : y ≡ y_at
    y_is = h.parts ∙ ap (λ o. record x { keeper = y.keeper; acceptor = accept_own o x.acceptor i v; proposer = option_map (λ q. proposed q i) o }) c.p_is

    -- the model's call has come so far
    abbrev there : CallHere
    there = so_far records service past y mid

    abbrev LeadsTo : (CallHere → CallHere) → Type 0
    LeadsTo rest = Leads records gives faults service (settles turns) rest x.keeper y.keeper begun there

    comes_y : Comes records gives faults service past (λ d. propose x.nodes x.id told d l i v (settles (turns - 1))) (λ d. settles (turns - 1) (led role_with d)) x y before mid On
    comes_y = opens_at y mid On h.opens

    leads_y : LeadsTo (λ d. settles (turns - 1) (led role_with d))
    leads_y = leads_then (leads_same refl settle_is) comes_y.0

    own_counted : AreCounted x.nodes (x.id ∷ [])
    own_counted = counted_push x.nodes [] x.id (counted_none x.nodes) (let one = may.kept.id in record { first = omega (arith, one.0); last = one.1 }) refl

    -- it leads with this then
    abbrev lead_with : Lead Value
    lead_with = record { ballot = c.p.ballot; counted = c.p.promised; reported = map proposal_in c.p.reported; proposal = Some (proposal_of c.p.ballot i v); accepted_by = x.id ∷ []; active = is_some x.acting }

    -- its proposer then, by whether it is alone
    p_opened : {t : Bool} → nat_lt x.nodes 2 ≡ t → proposed c.p i ≡ opened_by t c.p i
    p_opened e = opened_is c.p i ∙ ap (λ b. opened_by b c.p i) (ap (λ n. nat_lt n 2) proposes.nodes_are ∙ e)

    -- ---- others have to accept it too

    module _ (many : 1 < x.nodes) where
      few_own : nat_lt x.nodes 2 ≡ false
      few_own = le-ltb x.nodes 2 (omega (arith, many))

      role_y : there.node.role ≡ role_with
      role_y =
          ap (λ n. role_of n.acceptor n.proposer (is_some n.acting)) y_is
          ∙ lead_opened x.acceptor c.p proposes.own (ap (λ n. nat_lt n 2) proposes.nodes_are ∙ few_own)

      -- the model's node goes no further
      stops : (t : ℕ) {d : CallHere} → d.node.role ≡ role_with → settles t d ≡ d
      stops zero e = refl
      stops (suc t) {d} e =
          ap (λ r. turn x.nodes sv x.id d r (settles t)) e
          ∙ ap (λ b. cond b (decide x.nodes sv x.id d lead_with i v (settles t)) d) (bridges.majority_is own_counted ∙ few_own)

      rests_y : (f : Option Failure) → settles (turns - 1) (led role_with (armed_with f there)) ≡ armed_with f there
      rests_y f = ap (λ r. settles (turns - 1) (led r (armed_with f there))) (sym role_y) ∙ stops _ role_y

      pub adopt_rests : GoesRound records gives faults service past turns x y before mid (Done On)
      adopt_rests = (
        (leads_then leads_y (leads_same refl rests_y), comes_y.1, comes_y.2),
        kept_rests comes_y.1 has_gone,
      )
        where
          has_gone : HasGoneOn y.proposer (is_some y.acting)
          has_gone =
              subst (λ n. HasGoneOn n.proposer (is_some n.acting)) (sym y_is)
              (subst (λ w. HasGoneOn (Some (proposed c.p i)) (is_some w)) (sym c.idle)
              (subst (λ q. HasGoneOn (Some q) false) (sym (p_opened few_own)) (ap not c.many)))

    -- ---- alone it is a majority

    module _ (alone : x.nodes ≤ 1) where
      one : nat_lt x.nodes 2 ≡ true
      one = lt-ltb x.nodes 2 (omega (arith, alone))

      -- the rest of the call, and what it does first
      abbrev rest : CallHere → CallHere
      rest = settles (turns - 2)

      abbrev decides : CallHere → CallHere
      decides d = decide x.nodes sv x.id d l i v rest

      decides_is : (d : CallHere) → settles (turns - 1) (led role_with d) ≡ decides d
      decides_is d =
          ap (λ t. settles t (led role_with d)) (let t : turns - 1 ≡ suc (turns - 2) = omega (arith, may_p, less) in t)
          ∙ ap (λ b. cond b (decide x.nodes sv x.id (led role_with d) lead_with i v rest) (led role_with d)) (bridges.majority_is own_counted ∙ one)
          ∙ decide_led x.nodes sv x.id d l role_with (Some (proposal_of c.p.ballot i v)) (x.id ∷ []) i v rest

      alone_kept : IsKept records service past y
      alone_kept = comes_y.1

      -- it may make the value known
      pub alone_may : MayPropose records faults service past y i v
      alone_may = record {
        kept = alone_kept;
        up = comes_y.2;
        leads = subst (λ n. IsSome n.proposer) (sym y_is) refl;
        next = subst (λ n. i ≡ length n.known + 1) (sym y_is) next;
        there = chosen_there;
        short = chosen_short;
        cut = subst (λ n. IsOwnCut service n v) (sym y_is) chosen_cut;
        count = subst (λ n. n < 2 ^ 64 - 1) (sym leads_y.counted) may.count;
      }

      -- what it knows then runs on
      pub alone_fits : values_fit service (y.known ++ v ∷ []) ≡ true
      alone_fits =
          subst (λ vs. values_fit service (vs ++ v ∷ []) ≡ true) (sym (alone_kept.up comes_y.2).known)
          (fits_before good checked (settle_learns x.nodes sv x.id _ (send (learned sv x.id l i v (known there.node.log) (logged (Known i v) None there)) (others x.nodes x.id (Chose i v))))
          (subst (λ e. values_fit service (known e.node.log) ≡ true) (decides_is there) (rest_runs past x y before mid leads_y may.runs)))

      -- ---- and learns the value

      -- what is said of the node with its proposer is said of what the model leads with
      from_y : (P : ℕ → ℕ → ℕ → Lead Value → Type 0) → FromLead y (P y.nodes y.seed y.id) → P x.nodes x.seed x.id (lead_of (accepting x.acceptor own) (opened_by true c.p i) (is_some x.acting))
      from_y P k =
          subst (λ q. P x.nodes x.seed x.id (lead_of (accepting x.acceptor own) q (is_some x.acting))) (p_opened one)
          (subst (λ n. FromLead n (P n.nodes n.seed n.id)) y_is k)

      learns_at : (z : NodeValue K) (after : Draft) (g : Going) → Learns records gives faults service past i v y z mid after g → Comes records gives faults service past decides rest y z mid after g
      learns_at z after g learns =
          from_y (λ nodes seed id m. (k : CallHere → CallHere) → Comes records gives faults service past (λ d. decide nodes (service_of service seed) id d m i v k) k y z mid after g) learns rest

      -- up to where the model decides
      leads_decide : LeadsTo decides
      leads_decide = leads_then leads_y (leads_same refl (λ f. decides_is _))

      -- the append of the known value failed
      pub alone_down : {z : NodeValue K} (after : Draft) {g : Going} → g ≡ Down → IsSame x z → Learns records gives faults service past i v y z mid after g → GoesRound records gives faults service past turns x z before after (Done Down)
      alone_down {z} after s same learns =
          let o = learns_at z after Down (subst (λ h. Learns records gives faults service past i v y z mid after h) s learns) in (
            (
              leads_fell leads_decide
                  (subst (λ n. Fell records gives faults service decides n y.keeper z.keeper there (so_far records service past z after)) (ap (λ n. n.id) y_is) o.0),
              o.1,
            ),
            down_kept may.kept same o.1,
          )

      -- memory was short as it learned
      pub alone_stuck : {z : NodeValue K} → LearnsShort records gives faults service past i v y z mid → IsStuck records gives faults service past (settles turns) x z before
      alone_stuck {z} s =
          inr (breaks_after y z mid leads_decide h.longer (alone_kept.up comes_y.2).base (λ d. refl) (by s))
        where
          by : LearnsShort records gives faults service past i v y z mid → IsStuck records gives faults service past decides y z mid
          by (inl s) = inl s
          by (inr b) =
              inr (from_y (λ nodes seed id m. (k : CallHere → CallHere) → LosesFirst k → BreaksOff records gives faults service past (λ d. decide nodes (service_of service seed) id d m i v k) y z mid) b
              rest (settle_loses _ x.nodes x.id sv))

      -- it knows the value, and goes on
      pub alone_again : {z : NodeValue K} (after : Draft) → HasMadeKnown records gives faults service past i v y z mid after → GoesRound records gives faults service past turns x z before after Again
      alone_again {z} after more =
          let o = learns_at z after On more.learns in
          let first = h.longer in
          let second = more.longer in
          ((leads_then leads_decide o.0, o.1, o.2), may_z, free_z, omega (arith, may_p, less), omega (arith, first, second))
        where
          z_is : z ≡ record (knowing service y_at i v) { keeper = z.keeper }
          z_is = more.parts ∙ ap (λ n. record (knowing service n i v) { keeper = z.keeper }) y_is

          free_z : IsFree z.proposer (is_some z.acting)
          free_z =
              subst (λ n. IsFree n.proposer (is_some n.acting)) (sym z_is)
              (subst (λ w. IsFree (Some (closed (proposed c.p i))) (is_some (option_map (settling service) w))) (sym c.idle) (refl, λ t. absurd (cc)))

          may_z : HasTurns z (turns - 2)
          may_z =
              subst (λ n. HasTurns n (turns - 2)) (sym z_is)
              (subst (λ q. 2 * above (length (x.known ++ v ∷ [])) q.reported + 1 ≤ turns - 2) (sym (p_opened one))
              (subst (λ n. 2 * above n c.p.reported + 1 ≤ turns - 2) (sym (length_push x.known v)) (omega (arith, may_p, less))))

-- ---- the same of the call

module _ {K : Type 0} {records : K → List (List ℕ)} {gives : K → List ℕ → Answer → K → Type 0} {faults : K → ℕ} {service : Declarations} {past : List Value} {x : NodeValue K} (y : NodeValue K) {before mid : Draft} {i : ℕ} {v : Value} where
  -- it has proposed where the call goes on
  pub proposed_as : {said named : Effect} {g : Going}
      → said ≡ named → g ≡ On → Opens records gives faults service past said i v x y before mid g → HasOpened x y i v g → IsLonger records x y g → HasProposed records gives faults service past named i v x y before mid
  proposed_as {named} {g} e s opens parts longer = record {
    opens = subst (λ h. Opens records gives faults service past named i v x y before mid h) s (subst (λ t. Opens records gives faults service past t i v x y before mid g) e opens);
    parts = subst (HasOpened x y i v) s parts;
    longer = subst (IsLonger records x y) s longer;
  }

  -- so it has made the value known
  pub made_known_as : {g : Going} → g ≡ On → Learns records gives faults service past i v x y before mid g → HasLearned service x y i v g → IsLonger records x y g → HasMadeKnown records gives faults service past i v x y before mid
  made_known_as s learns parts longer = record {
    learns = subst (λ h. Learns records gives faults service past i v x y before mid h) s learns;
    parts = subst (HasLearned service x y i v) s parts;
    longer = subst (IsLonger records x y) s longer;
  }

pub told_is : {node id i events : ℕ} (v : Value) → node ≡ id → events ≡ length (events_of v) → (let e : Effect = effect.Adopts node i events in e) ≡ effect.Adopts id i (length (events_of v))
told_is {id} {i} {events} v a b = ap (λ n. effect.Adopts n i events) a ∙ ap (effect.Adopts id i) b

pub same_then : {K : Type 0} {x y z : NodeValue K} → IsSame x y → IsSame y z → IsSame x z
same_then h k = record { id = k.id ∙ h.id; nodes = k.nodes ∙ h.nodes; seed = k.seed ∙ h.seed; decoded = k.decoded ∙ h.decoded }

pub nodes_many : {n nodes : ℕ} → n ≡ nodes → 1 < n → 1 < nodes
nodes_many e h = omega (arith, e, h)

pub nodes_few : {n nodes : ℕ} → n ≡ nodes → n ≤ 1 → nodes ≤ 1
nodes_few e h = omega (arith, e, h)
