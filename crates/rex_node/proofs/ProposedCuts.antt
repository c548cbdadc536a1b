-- How a node ends a call in which it has proposed a cut.
use Rattle.rex_node.proofs.Common.{◌≡◌, ℕ, ◌+◌, ◌*◌, ◌<◌, Bool, true, false, not, List, [], ◌∷◌, length, Result, Option, Some, None, Ok, Err, inl, inr, refl, sym, ap, subst, ◌∙◌, IfOk, OnErr, is_some, option_map, false≢true, AcceptorValue, ProposerValue, is_candidate, proposed, closed, Declarations, Effect, Answer, StateValue, proposal_of, is_majority, Service, Lead, leading, led, propose, decide, settle, enough, Value, service_of, CallHere, Going, On, Down, Draft, BreaksOff, Comes, Ends, Fell, IsStuck, LeadsOn, LosesFirst, so_far, ActingValue, NodeValue, HasGoneOn, IsResting, IsProposer, IsSame, Proposes, here_of, lead_of, role_of, HasLearned, HasOpened, Learns, LearnsShort, Opens, OpensShort, MayPropose, IsOwnCut, IsInstance, IsValue, IsSome, ◌-◌, ◌^◌, accept_own, settling, IsIdle, ProposesCut, ProposesCutShort, FromLead}
use Rattle.rex_paxos.specs.Counting as counting
use Rattle.rex_report.specs.declared.effect.Effect.TheVariants as effect
use Rattle.rex_cluster.specs.Node.Role.{Leads}
use Rattle.rex_node.specs.Cutting.{has_open}
use Rattle.rex_node.proofs.Following.{down_kept, kept_rests, within}
use Rattle.rex_node.proofs.GoingLemmas.{leads_fell, leads_same, leads_then}
use Rattle.rex_node.proofs.Stuck.{breaks_after, settle_loses}
use Rattle.rex_node.proofs.Opening.{if_some}
use Rattle.rex_node.proofs.Openings.{candidate_same, from_lead, knows_at_once, opened_role, own_majority, proposed_closed, proposed_open, settles_active, stays_open}

not_same : (s t : Bool) → not s ≡ not t → s ≡ t
not_same true true e = refl
not_same false false e = refl
not_same true false e = absurd (false≢true e)
not_same false true e = absurd (false≢true (sym e))

-- ---- results

pub if_both : {A E : Type 0} (P Q R : A → Type 0) (r : Result A E) → ((x : A) → P x → Q x → R x) → IfOk r P → IfOk r Q → IfOk r R
if_both P Q R (Ok x) f h k = f x h k
if_both P Q R (Err e) f h k = tt

pub on_error : {A E : Type 0} (P Q : Type 0) (r : Result A E) → (P → Q) → OnErr r P → OnErr r Q
on_error P Q (Ok x) f h = tt
on_error P Q (Err e) f h = f h

-- ---- a proposal

-- what is told of a proposal
pub told_same : {id other instance next events : ℕ} → id ≡ other → instance ≡ next → effect.Proposes id instance events ≡ effect.Proposes other next events
told_same {other} {instance} {events} e f = ap (λ n. effect.Proposes n instance events) e ∙ ap (λ n. effect.Proposes other n events) f

-- a node without an open proposal leads
pub idle_leads : (acceptor : AcceptorValue) (o : Option ProposerValue) → IsIdle acceptor o → (p : ProposerValue) × (o ≡ Some p)
idle_leads acceptor None h = absurd h
idle_leads acceptor (Some p) h = (p, refl)

module _ {K : Type 0} (records : K → List (List ℕ)) (gives : K → List ℕ → Answer → K → Type 0) (faults : K → ℕ) (service : Declarations) (past : List Value) where
  module _ {x : NodeValue K} (node : IsResting records service past x) (up : x.up ≡ true) {a : ActingValue} (acts : x.acting ≡ Some a) {events instance : ℕ} (value : Value) {told : Effect} (told_is : told ≡ effect.Proposes x.id (length x.known + 1) events) (next : instance ≡ length x.known + 1)
      (mid : NodeValue K) (before between : Draft) where
    abbrev sv : Service Value StateValue
    sv = service_of service x.seed

    -- the rest of the call
    abbrev goes : Lead Value → CallHere → CallHere
    goes l = settle (enough l.reported) x.nodes sv x.id

    -- the call that proposes the value for this instance, with this told
    abbrev whole_of : ℕ → Effect → Lead Value → CallHere → CallHere
    whole_of n t l d = propose x.nodes x.id t d l n value (goes l)

    -- and what is left of it where the proposal is open
    abbrev open_at : Lead Value → CallHere → CallHere
    open_at l d = goes l (led (leading l (Some (proposal_of l.ballot instance value)) (x.id ∷ []) l.active) d)

    abbrev EndsAt : NodeValue K → Draft → Going → (CallHere → CallHere) → Type 0
    EndsAt y after going whole = Ends records gives faults service past whole x y before after going

    abbrev BreaksAt : NodeValue K → (CallHere → CallHere) → Type 0
    BreaksAt y whole = BreaksOff records gives faults service past whole x y before

    -- the model's call has the same instance and tells the same
    as_said : (P : (CallHere → CallHere) → Type 0) → ((p : ProposerValue) → x.proposer ≡ Some p → P (whole_of instance told (lead_of x.acceptor p (is_some x.acting))))
        → FromLead x (λ l. P (whole_of (length x.known + 1) (effect.Proposes x.id (length x.known + 1) events) l))
    as_said P h =
        subst (λ n. FromLead x (λ l. P (whole_of n (effect.Proposes x.id (length x.known + 1) events) l))) next
        (subst (λ t. FromLead x (λ l. P (whole_of instance t l))) told_is (from_lead x (λ l. P (whole_of instance told l)) h))

    -- the call has come to where the proposal is open
    opens_now : (going : Going) → Opens records gives faults service past told instance value x mid before between going → {p : ProposerValue} → x.proposer ≡ Some p
        → Comes records gives faults service past (whole_of instance told (lead_of x.acceptor p (is_some x.acting))) (open_at (lead_of x.acceptor p (is_some x.acting))) x mid before between going
    opens_now going h {p} leads = if_some _ leads h (goes (lead_of x.acceptor p (is_some x.acting)))

    -- ---- the append failed

    pub cut_fell : Opens records gives faults service past told instance value x mid before between Down → IsSame x mid → ProposesCut records gives faults service past events value x mid before between Down
    cut_fell h same = as_said (EndsAt mid between Down) (λ p leads. let o = opens_now Down h leads in (o, down_kept (within node) same o.1))

    -- ---- memory was short

    pub cut_short : OpensShort records gives faults service past told instance value x mid before → ProposesCutShort records gives faults service past events value x mid before
    cut_short (inl s) = inl s
    cut_short (inr b) = inr (as_said (BreaksAt mid) (λ p leads. if_some _ leads b (goes (lead_of x.acceptor p (is_some x.acting))) (settle_loses _ x.nodes x.id sv)))

    -- ---- the node goes on

    module _ (h : Opens records gives faults service past told instance value x mid before between On) (parts : HasOpened x mid instance value On) {p : ProposerValue} (leads : x.proposer ≡ Some p) where
      abbrev l : Lead Value
      l = lead_of x.acceptor p (is_some x.acting)

      comes : Comes records gives faults service past (whole_of instance told l) (open_at l) x mid before between On
      comes = opens_now On h leads

      -- it may make the value known then
      pub may_between : IsInstance instance → IsValue value → IsOwnCut service x value → faults x.keeper < 2 ^ 64 - 1 → MayPropose records faults service past mid instance value
      may_between there short cut count = record {
        kept = comes.1;
        up = comes.2;
        leads = subst (λ z. IsSome z.proposer) (sym parts) (ap (λ o. is_some (option_map (λ q. proposed q instance) o)) leads);
        next = next ∙ ap (λ z. length z.known + 1) (sym parts);
        there = there;
        short = short;
        cut = subst (λ z. IsOwnCut service z value) (sym parts) cut;
        count = subst (λ n. n < 2 ^ 64 - 1) (sym comes.0.counted) count;
      }

      proposes : Proposes x.nodes x.id x.acceptor p
      proposes = subst (IsProposer x.nodes x.id x.acceptor) leads (node.up up).proposer

      alone : is_majority x.nodes (x.id ∷ []) ≡ counting.is_majority p.nodes 1
      alone = own_majority node.id proposes

      mid_proposer : mid.proposer ≡ Some (proposed p instance)
      mid_proposer = ap (λ z. z.proposer) parts ∙ ap (option_map (λ q. proposed q instance)) leads

      mid_acts : mid.acting ≡ Some a
      mid_acts = ap (λ z. z.acting) parts ∙ acts

      -- a majority has promised already
      rests_before : is_candidate p ≡ false
      rests_before = subst (λ w. HasGoneOn (Some p) (is_some w)) acts (subst (λ o. HasGoneOn o (is_some x.acting)) leads (node.rests up))

      -- so an active node rests
      rests_with : {o : Option ProposerValue} {w : Option ActingValue} {q : ProposerValue} {b : ActingValue} → o ≡ Some q → w ≡ Some b → is_candidate q ≡ is_candidate p → HasGoneOn o (is_some w)
      rests_with {w} {q} e f same = subst (λ o. HasGoneOn o (is_some w)) (sym e) (subst (λ v. HasGoneOn (Some q) (is_some v)) (sym f) (same ∙ rests_before))

      majority_where : {t : Bool} → has_open mid.proposer ≡ not t → counting.is_majority p.nodes 1 ≡ t
      majority_where {t} e = not_same _ t (sym (ap has_open mid_proposer ∙ by (counting.is_majority p.nodes 1) refl) ∙ e)
        where
          by : (t : Bool) → counting.is_majority p.nodes 1 ≡ t → has_open (Some (proposed p instance)) ≡ not (counting.is_majority p.nodes 1)
          by true e = ap (λ q. has_open (Some q)) (proposed_closed p instance e) ∙ ap not (sym e)
          by false e = ap (λ q. has_open (Some q)) (proposed_open p instance e) ∙ ap not (sym e)

      -- ---- where the proposal waits for a majority

      ends_open : has_open mid.proposer ≡ true → EndsAt mid between On (whole_of instance told l)
      ends_open e = (
        (
          leads_then comes.0
              (leads_same refl (λ f. stays_open x.nodes sv x.id l _ _ role (alone ∙ majority_where e))),
          comes.1,
          comes.2,
        ),
        kept_rests comes.1 (rests_with mid_proposer mid_acts (candidate_same p instance)),
      )
        where
          role : (here_of records service past mid).role ≡ leading l (Some (proposal_of p.ballot instance value)) (x.id ∷ []) l.active
          role =
              ap (λ n. role_of n.acceptor n.proposer (is_some n.acting)) parts
              ∙ ap (λ o. role_of (accept_own o x.acceptor instance value) (option_map (λ q. proposed q instance) o) (is_some x.acting)) leads
              ∙ opened_role x.acceptor p proposes.own (majority_where e)

      -- ---- where the node is a majority by itself, and knows the value

      module _ (closed_now : has_open mid.proposer ≡ false) (same : IsSame x mid) (y : NodeValue K) (after : Draft) where
        abbrev closed_one : ProposerValue
        closed_one = record p { open_instance = None; accepted = [] }

        mid_closed : mid.proposer ≡ Some closed_one
        mid_closed = mid_proposer ∙ ap (λ q. Some q) (proposed_closed p instance (majority_where closed_now))

        abbrev rest : CallHere → CallHere
        rest = settle (2 * length l.reported + 2) x.nodes sv x.id

        abbrev decides : CallHere → CallHere
        decides d = decide x.nodes sv x.id d (lead_of x.acceptor closed_one (is_some x.acting)) instance value rest

        -- what is said of the node with its proposer is said of the model's lead
        from_mid : (P : ℕ → ℕ → ℕ → Lead Value → Type 0) → FromLead mid (P mid.nodes mid.seed mid.id) → P x.nodes x.seed x.id (lead_of x.acceptor closed_one (is_some x.acting))
        from_mid P k = subst (λ n. P n.nodes n.seed n.id (lead_of n.acceptor closed_one (is_some n.acting))) parts (if_some (λ q. P mid.nodes mid.seed mid.id (lead_of mid.acceptor q (is_some mid.acting))) mid_closed k)

        learns_now : (going : Going) → Learns records gives faults service past instance value mid y between after going → Comes records gives faults service past decides rest mid y between after going
        learns_now going learns =
            from_mid (λ nodes seed id m. (k : CallHere → CallHere) → Comes records gives faults service past (λ d. decide nodes (service_of service seed) id d m instance value k) k mid y between after going) learns rest

        to_decide : LeadsOn records gives faults service (whole_of instance told l) decides x.keeper mid.keeper (so_far records service past x before) (so_far records service past mid between)
        to_decide = leads_then comes.0 (leads_same refl (λ f. knows_at_once x.nodes sv x.id l _ _ (alone ∙ majority_where closed_now)))

        -- memory was short as it learned
        short_learned : length (records x.keeper) < length (records mid.keeper) → LearnsShort records gives faults service past instance value mid y between → BreaksAt y (whole_of instance told l)
        short_learned longer short = breaks_after mid y between to_decide longer (comes.1.up comes.2).base (λ d. refl) (by short)
          where
            by : LearnsShort records gives faults service past instance value mid y between → IsStuck records gives faults service past decides mid y between
            by (inl s) = inl s
            by (inr b) =
                inr (from_mid (λ nodes seed id m. (k : CallHere → CallHere) → LosesFirst k → BreaksOff records gives faults service past (λ d. decide nodes (service_of service seed) id d m instance value k) mid y between) b
                rest (settle_loses _ x.nodes x.id sv))

        ends_learned : (going : Going) → Learns records gives faults service past instance value mid y between after going → HasLearned service mid y instance value going → IsSame mid y → EndsAt y after going (whole_of instance told l)
        ends_learned On learns learned same_now =
            let o = learns_now On learns in (
              (
                leads_then to_decide
                    (leads_then o.0
                    (leads_same refl (λ f. settles_active _ x.nodes sv x.id role refl refl))),
                o.1,
                o.2,
              ),
              kept_rests o.1 (rests_with y_proposer y_acting refl),
            )
          where
            y_proposer : y.proposer ≡ Some (closed closed_one)
            y_proposer = ap (λ z. z.proposer) learned ∙ ap (option_map closed) mid_closed

            y_acting : y.acting ≡ Some (settling service a)
            y_acting = ap (λ z. z.acting) learned ∙ ap (option_map (settling service)) mid_acts

            role : (here_of records service past y).role ≡ Leads (lead_of y.acceptor (closed closed_one) true)
            role = ap (λ q. role_of y.acceptor q (is_some y.acting)) y_proposer ∙ ap (λ w. role_of y.acceptor (Some (closed closed_one)) (is_some w)) y_acting
        ends_learned Down learns learned same_now =
            let o = learns_now Down learns in (
              (
                leads_fell to_decide
                    (subst (λ id. Fell records gives faults service decides id mid.keeper y.keeper (so_far records service past mid between) (so_far records service past y after)) same.id o.0),
                o.1,
              ),
              down_kept (within node) (record { id = same_now.id ∙ same.id; nodes = same_now.nodes ∙ same.nodes; seed = same_now.seed ∙ same.seed; decoded = same_now.decoded ∙ same.decoded }) o.1,
            )

    -- ---- the same, whatever the node leads with

    pub cut_waits : Opens records gives faults service past told instance value x mid before between On → HasOpened x mid instance value On → has_open mid.proposer ≡ true → ProposesCut records gives faults service past events value x mid before between On
    cut_waits h parts e = as_said (EndsAt mid between On) (λ p leads. ends_open h parts leads e)

    pub cut_known : Opens records gives faults service past told instance value x mid before between On → HasOpened x mid instance value On → has_open mid.proposer ≡ false → IsSame x mid
        → {y : NodeValue K} (after : Draft) (going : Going) → Learns records gives faults service past instance value mid y between after going → HasLearned service mid y instance value going → IsSame mid y
        → ProposesCut records gives faults service past events value x y before after going
    cut_known h parts e same {y} after going learns learned same_now = as_said (EndsAt y after going) (λ p leads. ends_learned h parts leads e same y after going learns learned same_now)

    pub cut_stuck : Opens records gives faults service past told instance value x mid before between On → HasOpened x mid instance value On → has_open mid.proposer ≡ false → IsSame x mid
        → {y : NodeValue K} (after : Draft) → length (records x.keeper) < length (records mid.keeper) → LearnsShort records gives faults service past instance value mid y between → ProposesCutShort records gives faults service past events value x y before
    cut_stuck h parts e same {y} after longer short = inr (as_said (BreaksAt y) (λ p leads. short_learned h parts leads e same y after longer short))
