-- A majority accepted the open proposal of a node that leads: it knows the value, and goes on.
use Rattle.rex_node.proofs.Common.{MaySettle, ◌≡◌, ℕ, suc, ◌+◌, ◌-◌, ◌*◌, ◌^◌, ◌<◌, ◌≤◌, Bool, true, false, cond, not, ◌||◌, List, [], ◌∷◌, ◌++◌, length, inl, inr, Option, Some, None, refl, sym, ap, subst, ◌∙◌, arith, map, is_some, option_map, IfSome, IsSome, IfOk, OnErr, if◌then◌else◌, same_Some, length-map, AllocError, Kept, IsValue, proposal_for, ProposerValue, acceptance_refusal, acceptance_vote, closed, is_candidate, voted, Declarations, IsService, IsChecked, StateValue, Answer, known, Known, Lead, Service, Leading, Chose, IsNodeOf, is_majority, LeadFits, decide, enough, learned, led, logged, on_voted, others, send, settle, Value, service_of, values_fit, CallHere, Going, On, Down, Draft, acceptance_vote_on, reports_of, proposal_in, NodeValue, ActingValue, HasGoneOn, IsActing, IsCutAt, IsResting, IsProposer, IsSame, IsUp, OpenIsCut, Proposes, here_of, lead_of, open_of, role_of, Comes, Ends, IsStuck, Leads, HasTurns, RunsOn, above, so_far, IsFree, IsOwnCut, MayPropose, Learns, LearnsShort, knowing, replayed_to, settling}
use Rattle.std.specs.Prelude.{Result, Ok, Err}
use Rattle.rex_ballot.specs.Ballot as ballots
use Rattle.rex_paxos.specs.declared.answers.Vote.TheVariants as vote
use Rattle.rex_paxos.specs.declared.answers.Count.TheVariants as count
use Rattle.rex_paxos.specs.Counting as counting
use Rattle.rex_cluster.specs.Ranges as ranges
use Rattle.rex_cluster.specs.Calls.{lead as lead_on}
use Rattle.rex_node.proofs.Adopting.{decide_led, HasMadeKnown}
use Rattle.rex_node.proofs.Appended.{fits_instance, lead_fits_of}
use Rattle.rex_node.proofs.Candidates.{above_most}
use Rattle.rex_node.proofs.GoingLemmas.{leads_same, leads_then, leads_fell}
use Rattle.rex_node.proofs.Grows.{rest_runs}
use Rattle.rex_cluster.proofs.Learns.{fits_before, settle_learns}
use Rattle.rex_node.proofs.Stuck.{breaks_after, breaks_later, settle_loses}
use Rattle.rex_node.proofs.Turns.{settles_as}
use Rattle.rex_node.proofs.Votes.{found_all, found_instance, majority_more, one, one_more, opens, outcome, parts, whole_is}
use Rattle.rex_node.proofs.Continuing.{ends_if}
use Rattle.rex_node.proofs.Following.{down_kept, within}
use Rattle.rex_node.proofs.Counts.{quorum_is}
use Rattle.rex_node.proofs.Opening.{if_some}

-- what a majority is for: the node's proposer, its open proposal, and what makes the vote one
pub record Chosen {K : Type 0} (x : NodeValue K) (from ballot i : ℕ) (v : Value) : Type 0 where
  pub p : ProposerValue
  pub p_is : x.proposer ≡ Some p
  pub none : acceptance_refusal p ballot i from ≡ None
  pub many : counting.is_majority p.nodes (length p.accepted + 1) ≡ true
  pub q : Kept
  pub q_is : proposal_for i x.acceptor.accepted ≡ Some q
  pub v_is : q.value ≡ v

pub chosen_of : {K : Type 0} {x : NodeValue K} {from ballot i : ℕ} {v : Value} → acceptance_vote_on x.proposer ballot i from ≡ vote.Quorum → option_map (λ (q : Kept). q.value) (proposal_for i x.acceptor.accepted) ≡ Some v → Chosen x from ballot i v
chosen_of {K} {x} {from} {ballot} {i} {v} vote_is value_is = by x.proposer refl vote_is (proposal_for i x.acceptor.accepted) refl value_is
  where
    by : (o : Option ProposerValue) → x.proposer ≡ o → acceptance_vote_on o ballot i from ≡ vote.Quorum → (a : Option Kept) → proposal_for i x.acceptor.accepted ≡ a → option_map (λ q. q.value) a ≡ Some v → Chosen x from ballot i v
    by None e f a s t = absurd (cc)
    by (Some p) e f None s t = absurd (cc)
    by (Some p) e f (Some q) s t =
        let n = quorum_is _ p.nodes _ f in
        record { p = p; p_is = e; none = n.0; many = n.1; q = q; q_is = s; v_is = same_Some q.value v t }

module _ {K : Type 0} {records : K → List (List ℕ)} (gives : K → List ℕ → Answer → K → Type 0) (faults : K → ℕ) {service : Declarations} {past : List Value} (good : IsService service) (checked : IsChecked service) {x : NodeValue K} (node : IsResting records service past x) (up : x.up ≡ true) {from ballot i : ℕ} (there : IsNodeOf x.nodes from) (before : Draft)
    {v : Value} (c : Chosen x from ballot i v) where
  u : IsUp service x (here_of records service past x)
  u = node.up up

  abbrev sv : Service Value StateValue
  sv = service_of service x.seed

  abbrev begun : CallHere
  begun = so_far records service past x before

  abbrev whole : CallHere → CallHere
  whole d = on_voted x.nodes sv x.id from ballot i d d.node.role

  abbrev l : Lead Value
  l = lead_of x.acceptor c.p (is_some x.acting)

  abbrev rest : CallHere → CallHere
  rest = settle (2 * length c.p.reported + 2) x.nodes sv x.id

  proposes : Proposes x.nodes x.id x.acceptor c.p
  proposes = subst (IsProposer x.nodes x.id x.acceptor) c.p_is u.proposer

  lead_fits : LeadFits (length x.known) l
  lead_fits = lead_fits_of records past u c.p_is

  opens_i : c.p.open_instance ≡ Some i
  opens_i = opens records gives faults service past x node up from ballot i there before c.p c.p_is c.none

  proposal_is : open_of x.acceptor c.p.open_instance ≡ Some (proposal_in c.q)
  proposal_is = ap (open_of x.acceptor) opens_i ∙ ap (option_map proposal_in) c.q_is

  q_place : (c.q.instance ≡ suc (length x.known)) × ranges.IsInstance c.q.instance
  q_place = lead_fits.next (proposal_in c.q) proposal_is

  q_instance : c.q.instance ≡ i
  q_instance = found_instance _ c.q_is

  choose_next : i ≡ length x.known + 1
  choose_next = let e : c.q.instance ≡ suc (length x.known) = q_place.0 in omega (arith, e, q_instance)

  choose_there : ballots.IsInstance i
  choose_there = subst ballots.IsInstance q_instance (fits_instance q_place.1)

  choose_short : IsValue v
  choose_short = subst IsValue c.v_is (found_all (λ q. IsValue q.value) i _ u.short c.q_is)

  cut_of : (w : Option ActingValue) → IsActing service x.known x.acceptor (Some c.p) w → IfSome w (λ (a : ActingValue). IsCutAt service x.known a v)
  cut_of None h = tt
  cut_of (Some a) h = subst (IsCutAt service x.known a) c.v_is (subst (OpenIsCut service x.known a) proposal_is h.open_is_cut)

  choose_cut : IsOwnCut service x v
  choose_cut = cut_of x.acting (subst (λ o. IsActing service x.known x.acceptor o x.acting) c.p_is u.acting)

  -- it may make the value known
  pub choose_may : faults x.keeper < 2 ^ 64 - 1 → MayPropose records faults service past x i v
  choose_may count = record { kept = within node; up = up; leads = subst (λ o. IsSome o) (sym c.p_is) refl; next = choose_next; there = choose_there; short = choose_short; cut = choose_cut; count = count }

  -- the model's call decides it
  abbrev decided : CallHere → CallHere
  decided d = decide x.nodes sv x.id d l i v rest

  abbrev more : Lead Value
  more = one_more x.nodes sv x.id from l

  majority : is_majority x.nodes (c.p.accepted ++ from ∷ []) ≡ true
  majority =
      majority_more proposes (is_some x.acting) sv ballot i (one records gives faults service past x node up from ballot i there before) begun (parts records gives faults service past x node up from ballot i there before c.p c.p_is c.none).2
      ∙ c.many

  vote_at : acceptance_vote c.p ballot i from ≡ vote.Quorum
  vote_at = ap (λ r. voted r c.p.nodes (length c.p.accepted + 1)) c.none ∙ ap (λ t. counting.vote_of (if t then count.Quorum else count.NotYet (length c.p.accepted + 1))) c.many

  turns_are : enough (map proposal_in c.p.reported) ≡ suc (2 * length c.p.reported + 2)
  turns_are = ap (λ n. 2 * n + 3) (length-map c.p.reported proposal_in) ∙ (let n : 2 * length c.p.reported + 3 ≡ suc (2 * length c.p.reported + 2) = omega arith in n)

  decides : (d : CallHere) → d.node.role ≡ role_of x.acceptor x.proposer (is_some x.acting) → whole d ≡ decided d
  decides d role =
      whole_is records gives faults service past x node up from ballot i there before c.p_is d role
      ∙ ap (λ w. outcome x.nodes sv x.id from l w d) vote_at
      ∙ ap (λ t. settle t x.nodes sv x.id (led (Leading more) d)) turns_are
      ∙ ap (λ o. lead_on x.nodes sv x.id (led (Leading more) d) more o rest) proposal_is
      ∙ ap (λ t. cond t (decide x.nodes sv x.id (led (Leading more) d) more c.q.instance c.q.value rest) (led (Leading more) d)) majority
      ∙ ap (λ j. decide x.nodes sv x.id (led (Leading more) d) more j c.q.value rest) q_instance
      ∙ ap (λ w. decide x.nodes sv x.id (led (Leading more) d) more i w rest) c.v_is
      ∙ decide_led x.nodes sv x.id d l _ (open_of x.acceptor c.p.open_instance) (c.p.accepted ++ from ∷ []) i v rest

  leads_decide : Leads records gives faults service whole decided x.keeper x.keeper begun begun
  leads_decide = leads_same refl (λ f. decides _ refl)

  -- what it knows then runs on
  pub choose_fits : RunsOn service whole begun → values_fit service (x.known ++ v ∷ []) ≡ true
  choose_fits runs =
      subst (λ vs. values_fit service (vs ++ v ∷ []) ≡ true) (sym u.known)
      (fits_before good checked (settle_learns x.nodes sv x.id _ d)
      (subst (λ e. values_fit service (known e.node.log) ≡ true) (decides _ refl) runs))
    where
      d : CallHere
      d = send (learned sv x.id l i v (known begun.node.log) (logged (Known i v) None begun)) (others x.nodes x.id (Chose i v))

  -- ---- and learns the value

  learns_at : (z : NodeValue K) (mid : Draft) (g : Going) → Learns records gives faults service past i v x z before mid g → Comes records gives faults service past decided rest x z before mid g
  learns_at z mid g learns = if_some _ c.p_is learns rest

  -- the append failed
  pub choose_down : {z : NodeValue K} (mid : Draft) {g : Going} → g ≡ Down → IsSame x z → Learns records gives faults service past i v x z before mid g → Ends records gives faults service past whole x z before mid Down
  choose_down {z} mid s same learns =
      let o = learns_at z mid Down (subst (λ h. Learns records gives faults service past i v x z before mid h) s learns) in
      ((leads_fell leads_decide o.0, o.1), down_kept (within node) same o.1)

  -- memory was short as it did
  pub choose_stuck : {z : NodeValue K} → LearnsShort records gives faults service past i v x z before → IsStuck records gives faults service past whole x z before
  choose_stuck (inl s) = inl s
  choose_stuck {z} (inr b) =
      inr (breaks_later x z before leads_decide (if_some _ c.p_is b rest (settle_loses _ x.nodes x.id sv)))

  module _ {z : NodeValue K} (mid : Draft) (same : IsSame x z) (h : HasMadeKnown records gives faults service past i v x z before mid) {turns : ℕ} (turns_is : turns ≡ 2 * reports_of x.proposer + 3) where
    comes_z : Comes records gives faults service past decided rest x z before mid On
    comes_z = learns_at z mid On h.learns

    leads_z : Leads records gives faults service whole rest x.keeper z.keeper begun (so_far records service past z mid)
    leads_z = leads_then leads_decide comes_z.0

    left : turns - 1 ≡ 2 * length c.p.reported + 2
    left = let e : turns ≡ 2 * length c.p.reported + 3 = turns_is ∙ ap (λ o. 2 * reports_of o + 3) c.p_is in omega (arith, e)

    z_is : z ≡ record x { keeper = z.keeper; known = x.known ++ v ∷ []; replayed = replayed_to x.acting i x.replayed; proposer = Some (closed c.p); acting = option_map (settling service) x.acting }
    z_is = h.parts ∙ ap (λ o. record (knowing service x i v) { keeper = z.keeper; proposer = option_map closed o }) c.p_is

    elected : is_candidate c.p ≡ false
    elected =
        let gone : HasGoneOn (Some c.p) (is_some x.acting) = subst (λ o. HasGoneOn o (is_some x.acting)) c.p_is (node.rests up) in
        gone ∙ ap (λ o. not (is_some x.acting || is_some o)) opens_i ∙ go (is_some x.acting)
      where
        go : (t : Bool) → not (t || true) ≡ false
        go true = refl
        go false = refl

    rest_of : settle (turns - 1) z.nodes (service_of service z.seed) z.id ≡ rest
    rest_of = settles_as service _ same ∙ ap (λ t. settle t x.nodes sv x.id) left

    -- it may go on
    pub chosen_may : RunsOn service whole begun → faults x.keeper < 2 ^ 64 - 1 → MaySettle records faults service past (turns - 1) z mid
    chosen_may runs count = record {
      kept = comes_z.1;
      up = comes_z.2;
      free = subst (λ n. IsFree n.proposer (is_some n.acting)) (sym z_is) (refl, λ t. elected);
      enough =
          subst (λ n. HasTurns n (turns - 1)) (sym z_is)
          (let few : above (length (x.known ++ v ∷ [])) c.p.reported ≤ length c.p.reported = above_most _ _ in omega (arith, few, left));
      runs = subst (λ k. RunsOn service k (so_far records service past z mid)) (sym rest_of) (rest_runs past x z before mid leads_z runs);
      count = subst (λ n. n < 2 ^ 64 - 1) (sym leads_z.counted) count;
    }

    -- as going on ends, so does the call
    pub chosen_ends : (y : NodeValue K) (after : Draft) (result : Result Going AllocError) → IfOk result (Ends records gives faults service past (settle (turns - 1) z.nodes (service_of service z.seed) z.id) z y mid after) → IfOk result (Ends records gives faults service past whole x y before after)
    chosen_ends y after result h = ends_if past x z y before mid after result same.id leads_z (subst (λ k. IfOk result (Ends records gives faults service past k z y mid after)) rest_of h)

    pub chosen_stuck : (y : NodeValue K) (result : Result Going AllocError) → OnErr result (IsStuck records gives faults service past (settle (turns - 1) z.nodes (service_of service z.seed) z.id) z y mid) → OnErr result (IsStuck records gives faults service past whole x y before)
    chosen_stuck y (Ok going) h = tt
    chosen_stuck y (Err e) s =
        inr (breaks_after z y mid leads_z h.longer (comes_z.1.up comes_z.2).base (settle_loses _ x.nodes x.id sv)
        (subst (λ k. IsStuck records gives faults service past k z y mid) rest_of s))
