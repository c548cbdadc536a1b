-- A node that leads goes on, a round at a time.
use Rattle.rex_node.proofs.Common.{◌≡◌, ℕ, zero, suc, ◌+◌, ◌-◌, ◌*◌, ◌≤◌, Bool, true, false, cond, not, ◌||◌, ◌&&◌, List, [], ◌∷◌, ◌++◌, length, Option, Some, None, refl, sym, ap, subst, ◌∙◌, arith, le_refl, map, is_some, is_none, option_map, unwrap_or, IfSome, All-nil, Lcg, Kept, AreCounted, ProposerValue, is_candidate, Declarations, RequestFits, AnswersValue, answers_at, StateValue, Answer, known, Failure, Lead, Role, Service, Leading, is_majority, LeadFits, RoleFits, Call, best, choose, lead, leading, settle, turn, Value, service_of, trace_of, CallHere, On, Done, Draft, message_in, proposal_in, NodeValue, ActingValue, ActsFor, HasGoneOn, IsActing, IsKept, IsProposer, IsUp, OpenIsCut, Proposes, here_of, lead_of, open_of, role_of, HasReached, ReachedValue, reached_at, armed_with, HasTurns, above, so_far, GoesRound, IsFree, goes_on, may_lead, reported_value, take_all, run, start_of}
use Rattle.rex_paxos.specs.Counting as counting
use Rattle.rex_record.specs.Value.{RecorderValue, started}
use Rattle.rex_report.specs.declared.effect.Effect.TheVariants as effect
use Rattle.rex_cluster.specs.Node.{dice_of}
use Rattle.rex_cluster.specs.Calls.{activate}
use Rattle.rex_node.specs.Leading.{IsActive, activated, fresh}
use Rattle.rex_node.proofs.Appended.{beside_of, logged_of, up_of, logged_as, lead_fits_of}
use Rattle.rex_node.proofs.Adopting.{goes_parts, turn_chooses}
use Rattle.rex_log.proofs.Proposers as bridges
use Rattle.rex_node.proofs.GoingLemmas.{leads_same}
use Rattle.rex_node.proofs.Stamping.{stamped_in}
use Rattle.rex_node.proofs.Written.{call_is}
use Rattle.rex_node.proofs.Reaching.{now_reached}
use Rattle.rex_node.proofs.Following.{kept_rests}

-- ---- a node that is active from here on

module _ {K : Type 0} (x z : NodeValue K) (z_is : z ≡ x) (s : StateValue) (n : ℕ) (r : RecorderValue) (d : Lcg) (counts : List ℕ) (b seed : ℕ) (answers : AnswersValue) (reached : Option ReachedValue) where
  abbrev ballot : ℕ
  ballot = unwrap_or (option_map (λ (p : ProposerValue). p.ballot) x.proposer) 0

  abbrev acts_with : RecorderValue → Lcg → List ℕ → AnswersValue → ActingValue
  acts_with q e c a = record { recorder = q; dice = e; proposed = c; answers = a }

  abbrev replayed_with : NodeValue K → ℕ → Option ReachedValue → ActingValue → NodeValue K
  replayed_with y m o a = record y { replayed = m; ahead = None; reached = o; acting = Some a }

  pub activated_is : n ≡ length x.known → r ≡ started s → b ≡ ballot → seed ≡ x.seed → d ≡ dice_of seed b → counts ≡ [] → answers ≡ answers_at s.clients n → reached ≡ reached_at x.offset x.base n s
      → replayed_with z n reached (acts_with r d counts answers) ≡ activated x s
  activated_is n_is r_is b_is seed_is d_is counts_are answers_are reached_is =
      ap (λ y. replayed_with y n reached (acts_with r d counts answers)) z_is
      ∙ ap (λ o. replayed_with x n o (acts_with r d counts answers)) reached_is
      ∙ ap (λ m. replayed_with x m (reached_at x.offset x.base m s) (acts_with r d counts answers)) n_is
      ∙ ap (replayed_with x (length x.known) (reached_at x.offset x.base (length x.known) s))
      (ap (λ q. acts_with q d counts answers) r_is
      ∙ ap (λ q. acts_with (started s) q counts answers) (d_is ∙ ap (λ k. dice_of k b) seed_is ∙ ap (dice_of x.seed) b_is)
      ∙ ap (λ q. acts_with (started s) (dice_of x.seed ballot) q answers) counts_are
      ∙ ap (fresh x.seed ballot s) (answers_are ∙ ap (answers_at s.clients) n_is))

-- ---- a node that goes no further

module _ {V S : Type 0} (n : ℕ) (sv : Service V S) (me : ℕ) where
  -- without a proposal, and active or without a majority
  settle_rests : (t : ℕ) {d : Call V S} {l : Lead V} → d.node.role ≡ Leading l → l.proposal ≡ None → (l.active || not (is_majority n l.counted)) ≡ true → settle t n sv me d ≡ d
  settle_rests zero role none stops = refl
  settle_rests (suc t) {d} {l} role none stops =
      ap (λ r. turn n sv me d r (settle t n sv me)) role ∙ ap (λ o. lead n sv me d l o (settle t n sv me)) none ∙ by l.active (is_majority n l.counted) stops
    where
      by : (a m : Bool) → (a || not m) ≡ true → cond a d (cond m (choose n sv me d l (suc (length (known d.node.log))) (best (suc (length (known d.node.log))) l.reported) (settle t n sv me)) d) ≡ d
      by true m e = refl
      by false true e = absurd (cc)
      by false false e = refl

  settle_follows : (t : ℕ) {d : Call V S} → d.node.role ≡ Role.Follower → settle t n sv me d ≡ d
  settle_follows zero role = refl
  settle_follows (suc t) {d} role = ap (λ r. turn n sv me d r (settle t n sv me)) role

module _ {K : Type 0} {records : K → List (List ℕ)} (gives : K → List ℕ → Answer → K → Type 0) (faults : K → ℕ) {service : Declarations} {past : List Value} {x : NodeValue K} (kept_so : IsKept records service past x) (up : x.up ≡ true) (turns : ℕ) (before : Draft) where
  abbrev sv : Service Value StateValue
  sv = service_of service x.seed

  abbrev settles : CallHere → CallHere
  settles = settle turns x.nodes sv x.id

  abbrev begun : CallHere
  begun = so_far records service past x before

  -- it is the last round, and the node is this one then
  abbrev RestsAs : NodeValue K → Draft → Type 0
  RestsAs z after = GoesRound records gives faults service past turns x z before after (Done On)

  u : IsUp service x (here_of records service past x)
  u = kept_so.up up

  same_majority : {p : ProposerValue} → x.proposer ≡ Some p → is_majority x.nodes p.promised ≡ counting.is_majority p.nodes (length p.promised)
  same_majority {p} e =
      let h : Proposes x.nodes x.id x.acceptor p = subst (IsProposer x.nodes x.id x.acceptor) e u.proposer in
      bridges.majority_is (subst (λ n. AreCounted n p.promised) h.nodes_are h.once.promises) ∙ ap (λ n. counting.is_majority n (length p.promised)) (sym h.nodes_are)

  -- what its proposer and its being active say
  rests_with : (p : ProposerValue) {active : Bool} → may_lead p active ≡ false → IsFree (Some p) active → ((active || is_candidate p) ≡ true) × HasGoneOn (Some p) active
  rests_with p {active} g free = by active (is_candidate p) p.open_instance free.0 g free.1
    where
      by : (a c : Bool) (o : Option ℕ) → o ≡ None → (not a && is_none o && not c) ≡ false → (a ≡ true → c ≡ false) → ((a || c) ≡ true) × (c ≡ not (a || is_some o))
      by true c o n e f = (refl, f refl)
      by false true o n e f = (refl, sym (ap (λ z. not (is_some z)) n))
      by false false o n e f = absurd (let q : is_none o ≡ true = ap (λ z. is_none z) n in let r : (is_none o && true) ≡ false = e in let s : (is_none o && true) ≡ true = ap (λ t. t && true) q in cc)

  stays : HasGoneOn x.proposer (is_some x.acting) → ((f : Option Failure) → settles (armed_with f begun) ≡ armed_with f begun) → RestsAs x before
  stays gone same = ((leads_same refl same, kept_so, up), kept_rests kept_so gone)

  pub round_rests : goes_on x.proposer (is_some x.acting) ≡ false → IsFree x.proposer (is_some x.acting) → RestsAs x before
  round_rests g free = by x.proposer refl g free
    where
      by : (o : Option ProposerValue) → x.proposer ≡ o → goes_on o (is_some x.acting) ≡ false → IsFree o (is_some x.acting) → RestsAs x before
      by None e g free = stays (subst (λ o. HasGoneOn o (is_some x.acting)) (sym e) tt)
          (λ f. settle_follows x.nodes _ x.id turns (ap (λ o. role_of x.acceptor o (is_some x.acting)) e))
      by (Some p) e g free =
          let r = rests_with p g free in
          stays (subst (λ o. HasGoneOn o (is_some x.acting)) (sym e) r.1)
          (λ f. settle_rests x.nodes _ x.id turns (ap (λ o. role_of x.acceptor o (is_some x.acting)) e) (ap (open_of x.acceptor) free.0)
          (ap (λ t. is_some x.acting || not t) (same_majority e) ∙ r.0))

  -- ---- it is active

  module _ (may : HasTurns x turns) (goes : goes_on x.proposer (is_some x.acting) ≡ true) {i : ℕ} (next : i ≡ length x.known + 1) (unreported : reported_value x.proposer i ≡ None) {z : NodeValue K} (h : IsActive service x z) (after : Draft)
      (effects : after.effects.items ≡ before.effects.items ++ effect.Active x.id (unwrap_or (option_map (λ (p : ProposerValue). p.ballot) x.proposer) 0) ∷ []) (sends : after.sends.items ≡ before.sends.items) where
    module _ {p : ProposerValue} (e : x.proposer ≡ Some p) where
      goes_p : may_lead p (is_some x.acting) ≡ true
      goes_p = subst (λ o. goes_on o (is_some x.acting) ≡ true) e goes

      idle : x.acting ≡ None
      idle = (goes_parts p goes_p).0

      none : p.open_instance ≡ None
      none = (goes_parts p goes_p).1

      majority : counting.is_majority p.nodes (length p.promised) ≡ true
      majority = (goes_parts p goes_p).2

      proposes : Proposes x.nodes x.id x.acceptor p
      proposes = subst (IsProposer x.nodes x.id x.acceptor) e u.proposer

      abbrev l : Lead Value
      l = lead_of x.acceptor p (is_some x.acting)

      -- what is known of the clients then
      abbrev told : AnswersValue
      told = answers_at h.state.clients (length x.known)

      abbrev z_at : NodeValue K
      z_at = record x { replayed = length x.known; ahead = None; reached = reached_at x.offset x.base (length x.known) h.state; acting = Some (fresh x.seed p.ballot h.state told) }

      z_is : z ≡ z_at
      z_is = h.is ∙ ap (λ o. record x { replayed = length x.known; ahead = None; reached = reached_at x.offset x.base (length x.known) h.state; acting = Some (fresh x.seed (unwrap_or (option_map (λ q. q.ballot) o) 0) h.state told) }) e

      none_best : (o : Option Kept) → option_map (λ (q : Kept). q.value) o ≡ None → o ≡ None
      none_best None t = refl
      none_best (Some q) t = absurd (cc)

      best_none : best i (map proposal_in p.reported) ≡ None
      best_none = bridges.best_is i _ ∙ ap (option_map proposal_in) (none_best _ (subst (λ o. reported_value o i ≡ None) e unreported))

      place : suc (length (known begun.node.log)) ≡ i
      place = ap (λ vs. suc (length vs)) (sym u.known) ∙ (let n : suc (length x.known) ≡ i = omega (arith, next) in n)

      some : turns ≡ suc (turns - 1)
      some =
          let m : 2 * above (length x.known) p.reported + 1 ≤ turns = subst (λ o. IfSome o (λ q. 2 * above (length x.known) q.reported + 1 ≤ turns)) e may in
          omega (arith, m)

      -- the model's node is active too
      activates : {f : Option Failure} → settles (armed_with f begun) ≡ activate sv x.id l (armed_with f begun)
      activates {f} =
          ap (λ t. settle t x.nodes sv x.id (armed_with f begun)) some
          ∙ turn_chooses x.nodes sv x.id _ _
          (ap (λ o. role_of x.acceptor o (is_some x.acting)) e) (ap (open_of x.acceptor) none) (ap (λ w. is_some w) idle) (same_majority e ∙ majority)
          ∙ ap (λ o. choose x.nodes sv x.id (armed_with f begun) l (suc (length (known begun.node.log))) o (settle (turns - 1) x.nodes sv x.id))
          (ap (λ j. best j (map proposal_in p.reported)) place ∙ best_none)

      role_is : leading l None [] true ≡ role_of x.acceptor x.proposer true
      role_is =
          ap (λ ns. leading l None ns true) (sym (proposes.counted none))
          ∙ ap (λ o. leading l (open_of x.acceptor o) p.accepted true) (sym none)
          ∙ ap (λ o. role_of x.acceptor o true) (sym e)

      comes : (f : Option Failure) → settles (armed_with f begun) ≡ armed_with f (so_far records service past z_at after)
      comes f =
          activates
          ∙ call_is
          refl refl (ap (λ vs. length vs) (sym u.known)) (ap (map (message_in past)) (sym sends))
          (sym (effects ∙ ap (λ o. before.effects.items ++ effect.Active x.id (unwrap_or (option_map (λ q. q.ballot) o) 0) ∷ []) e))
          ∙ ap (λ r. record (armed_with f (so_far records service past z_at after)) { node = record (armed_with f (so_far records service past z_at after)).node { role = r } }) role_is

      acts : ActsFor service x.known (open_of x.acceptor p.open_instance) (fresh x.seed p.ballot h.state told)
      acts = record {
        executes = record {
          recorder = record { sound = h.sound; runs = refl; few = omega arith; queue = tt };
          known = h.runs;
          requests = All-nil (RequestFits service);
          answers = refl;
        };
        open_is_cut = subst (λ o. OpenIsCut service x.known (fresh x.seed p.ballot h.state told) (open_of x.acceptor o)) (sym none) tt;
      }

      lead_same : {k : ℕ} {a b : Bool} → LeadFits k (lead_of x.acceptor p a) → LeadFits k (lead_of x.acceptor p b)
      lead_same f = record { ballot = f.ballot; reported = f.reported; next = f.next }

      z_up : IsUp service z_at (here_of records service past z_at)
      z_up =
          let b = beside_of records service past x u in
          let g = logged_of records service past x u in
          up_of records service past z_at
          (logged_as refl g)
          (record {
            based = g.few;
            replayed = le_refl (length x.known);
            ahead = λ t. absurd (cc);
            caught_up = λ _. refl;
            proposer = b.proposer;
            acting = subst (λ o. IsActing service x.known x.acceptor o (Some (fresh x.seed p.ballot h.state told))) (sym e) acts;
            stamped = stamped_in h.sound.by.complete.clients;
            role = subst (λ o. RoleFits (length x.known) (role_of x.acceptor o true)) (sym e)
                (lead_same (lead_fits_of records past u e));
          })

      z_reached : HasReached service x.offset x.known (reached_at x.offset x.base (length x.known) h.state)
      z_reached = now_reached service x.offset x.base x.known (le_refl (length x.known)) (ap (λ vs. run service (start_of service) (trace_of vs)) (take_all (length x.known) x.known (le_refl (length x.known))) ∙ h.runs)

      z_kept : IsKept records service past z_at
      z_kept = record { id = kept_so.id; few = kept_so.few; up = λ _. z_up; reached = z_reached; decoded = kept_so.decoded }

      active_at : RestsAs z after
      active_at = subst (λ n. RestsAs n after) (sym z_is)
          ((leads_same refl comes, z_kept, up), kept_rests z_kept (subst (λ o. HasGoneOn o true) (sym e) (ap not majority)))

    pub round_active : RestsAs z after
    round_active = by x.proposer refl
      where
        by : (o : Option ProposerValue) → x.proposer ≡ o → RestsAs z after
        by None e = absurd (let t : false ≡ true = subst (λ o. goes_on o (is_some x.acting) ≡ true) e goes in cc)
        by (Some p) e = active_at e
