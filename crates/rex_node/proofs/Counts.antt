-- A node counts promises as the model's does.
use Rattle.rex_node.proofs.Common.{◌-◌, ◌^◌, MaySettle, ◌≡◌, ℕ, ◌+◌, ◌*◌, ◌<◌, ◌≤◌, Bool, true, false, cond, ◌||◌, not, ◌⊎◌, inl, inr, List, [], ◌∷◌, ◌++◌, length, Option, Some, None, refl, sym, ap, subst, ◌∙◌, arith, length-append, ◌==◌, map, is_some, option_map, All, false≢true, length-map, map-append, All-append, All-head, All-tail, All-weaker, Kept, IsValue, AcceptorValue, IsOneOf, AreCounted, is_counted, ProposerValue, is_candidate, voted, Vote, Why, counted_push, Declarations, StateValue, Effect, Answer, Proposal, is_in, is_majority, Failure, Lead, Service, Leading, LeadFits, enough, heard, led, on_own_promise, on_promise, say, settle, Value, service_of, CallHere, Going, Draft, message_in, armed_with, reports_of, told_of, BreaksOff, Ends, IsStuck, Leads, RunsOn, so_far, proposal_in, NodeValue, HasGoneOn, HasOpen, IsKept, IsResting, IsProposer, IsUp, Proposes, Stands, here_of, lead_of, open_of, role_of, Role}
use Rattle.std.proofs.lemmas.Cmp.{nat_eq_equiv}
use Rattle.rex_ballot.specs.Proposals.{IsProposal}
use Rattle.rex_paxos.specs.Counting as counts
use Rattle.rex_paxos.specs.Counting.{vote_of}
use Rattle.rex_paxos.specs.Proposer.{promise_counted, promise_refusal, with_promise, without_last}
use Rattle.rex_paxos.specs.declared.answers.Count.TheVariants as count
use Rattle.rex_paxos.specs.declared.answers.Vote.TheVariants.{Ignored, NotYet, Quorum}
use Rattle.rex_paxos.specs.declared.answers.Why.TheVariants.{Ballot, Late, Again}
use Rattle.rex_paxos.proofs.Counted.{new_promise}
use Rattle.rex_paxos.proofs.Taken.{taken_back}
use Rattle.rex_report.specs.declared.effect.Effect.TheVariants as effect
use Rattle.rex_cluster.specs.Invariant.{IsIn}
use Rattle.rex_cluster.specs.Ranges.{ProposalFits}
use Rattle.rex_cluster.specs.Calls.{hear}
use Rattle.rex_cluster.proofs.Lists.{in_cases}
use Rattle.rex_node.specs.Electing.{counting, uncounting, vote_on}
use Rattle.rex_node.proofs.Appended.{ballot_fits, instance_fits, up_proposing, lead_fits_of}
use Rattle.rex_log.proofs.Proposers.{in_counted, majority_is}
use Rattle.rex_node.proofs.Candidates.{above_most}
use Rattle.rex_node.proofs.Continuing.{ends_then}
use Rattle.rex_node.proofs.Following.{EndsWell, ends_same, far, kept_rests}
use Rattle.rex_node.proofs.GoingLemmas.{leads_same}
use Rattle.rex_node.proofs.Grows.{rest_runs}
use Rattle.rex_node.proofs.Stuck.{breaks_kept, breaks_later, stands_same, stands_back}

-- ---- votes

pub ignored_is : (o : Option Why) (nodes have : ℕ) {why : Why} → voted o nodes have ≡ Ignored why → o ≡ Some why
ignored_is (Some w) nodes have e = cc
ignored_is None nodes have {why} e = absurd (go (counts.is_majority nodes have) e)
  where
    go : (t : Bool) → vote_of (cond t count.Quorum (count.NotYet have)) ≡ Ignored why → ⊥
    go true k = let n : Quorum ≡ Ignored why = k in cc
    go false k = let n : NotYet have ≡ Ignored why = k in cc

pub not_yet_is : (o : Option Why) (nodes : ℕ) {have h : ℕ} → voted o nodes have ≡ NotYet h → (o ≡ None) × (counts.is_majority nodes have ≡ false) × (h ≡ have)
not_yet_is (Some w) nodes e = absurd (cc)
not_yet_is None nodes {have} {h} e = let r = go (counts.is_majority nodes have) refl e in (refl, r.0, r.1)
  where
    go : (t : Bool) → counts.is_majority nodes have ≡ t → vote_of (cond t count.Quorum (count.NotYet have)) ≡ NotYet h → (counts.is_majority nodes have ≡ false) × (h ≡ have)
    go true s k = absurd (let n : Quorum ≡ NotYet h = k in cc)
    go false s k = (s, let n : NotYet have ≡ NotYet h = k in cc)

pub quorum_is : (o : Option Why) (nodes have : ℕ) → voted o nodes have ≡ Quorum → (o ≡ None) × (counts.is_majority nodes have ≡ true)
quorum_is (Some w) nodes have e = absurd (cc)
quorum_is None nodes have e = (refl, go (counts.is_majority nodes have) refl e)
  where
    go : (t : Bool) → counts.is_majority nodes have ≡ t → vote_of (cond t count.Quorum (count.NotYet have)) ≡ Quorum → counts.is_majority nodes have ≡ true
    go true s k = s
    go false s k = absurd (let n : NotYet have ≡ Quorum = k in cc)

-- the promise is counted by this proposer, and a majority is reached with it or not
pub record Counts (o : Option ProposerValue) (b from : ℕ) (many : Bool) : Type 0 where
  pub proposer : ProposerValue
  pub is : o ≡ Some proposer
  pub new : promise_refusal proposer b from ≡ None
  pub majority : counts.is_majority proposer.nodes (length proposer.promised + 1) ≡ many

-- so many promises are then counted
pub record CountsTo (o : Option ProposerValue) (b from have : ℕ) : Type 0 where
  pub counts : Counts o b from false
  pub have_is : have ≡ length counts.proposer.promised + 1

pub counts_to : (o : Option ProposerValue) {b from have : ℕ} {v : Vote} → v ≡ vote_on o b from → v ≡ NotYet have → CountsTo o b from have
counts_to None {b} {have} e k = absurd (let n : NotYet have ≡ Ignored (Ballot b 0) = sym k ∙ e in cc)
counts_to (Some p) {b} {from} {have} e k =
    let r = not_yet_is _ p.nodes (sym e ∙ k) in
    record { counts = record { proposer = p; is = refl; new = r.0; majority = r.1 }; have_is = r.2 }

pub counts_many : (o : Option ProposerValue) {b from : ℕ} {v : Vote} → v ≡ vote_on o b from → v ≡ Quorum → Counts o b from true
counts_many None {b} e k = absurd (let n : Quorum ≡ Ignored (Ballot b 0) = sym k ∙ e in cc)
counts_many (Some p) {b} {from} e k =
    let r = quorum_is _ p.nodes _ (sym e ∙ k) in
    record { proposer = p; is = refl; new = r.0; majority = r.1 }

-- ---- what the model makes of a promise

or_true : (t : Bool) → t || true ≡ true
or_true true = refl
or_true false = refl

module _ (n : ℕ) (sv : Service Value StateValue) (me from b : ℕ) (ps : List (Proposal Value)) (a : AcceptorValue) (p : ProposerValue) (active : Bool) (d : CallHere) where
  abbrev own : Lead Value
  own = lead_of a p active

  -- it says why it ignores it, or counts it
  abbrev pub made : Option Why → CallHere
  made None = hear n sv me (heard (lead_of a p active) from ps) d
  made (Some why) = say (told_of why) d

  abbrev again : Option Why
  again = cond (is_counted from p.promised) (Some (Again from)) None

  abbrev late : Bool → Option Why
  late candidate = cond (not candidate) (Some Late) again

  -- it counts the promise, but for one that it has counted
  abbrev once : Bool → CallHere
  once counted = cond counted (say (effect.IgnoredAgain from) d) (hear n sv me (heard own from ps) d)

  abbrev on_own : CallHere
  on_own = on_own_promise n sv me from ps d own (open_of a p.open_instance)

  once_made : once (is_in from p.promised) ≡ made again
  once_made = ap once (in_counted from _) ∙ go (is_counted from p.promised)
    where
      go : (t : Bool) → once t ≡ made (cond t (Some (Again from)) None)
      go true = refl
      go false = refl

  active_made : (t : Bool) → is_candidate p ≡ not (t || false) → cond t (say effect.IgnoredLate d) (once (is_in from p.promised)) ≡ made (late (is_candidate p))
  active_made true e = ap (λ c. made (late c)) (sym e)
  active_made false e = once_made ∙ ap (λ c. made (late c)) (sym e)

  own_made : (o : Option ℕ) → HasOpen a p.ballot o → is_candidate p ≡ not (active || is_some o) → on_own_promise n sv me from ps d own (open_of a o) ≡ made (late (is_candidate p))
  own_made None h e = active_made active e
  own_made (Some i) h e =
      ap (λ q. on_own_promise n sv me from ps d own (option_map proposal_in q)) h.1
      ∙ ap (λ c. made (late c)) (sym (e ∙ ap not (or_true active)))

  pub promise_made : HasOpen a p.ballot p.open_instance → is_candidate p ≡ not (active || is_some p.open_instance) → on_promise n sv me from b ps d (Leading own) ≡ made (promise_refusal p b from)
  promise_made h e = ap (λ t. cond t on_own (say (effect.IgnoredBallot b p.ballot) d)) (nat_eq_equiv.symm p.ballot b) ∙ go (b == p.ballot)
    where
      go : (t : Bool) → cond t on_own (say (effect.IgnoredBallot b p.ballot) d) ≡ made (cond (not t) (Some (Ballot b p.ballot)) (late (is_candidate p)))
      go true = own_made _ h e
      go false = refl

-- a promise that is counted finds no open proposal, at a node that isn't active
free_of : (t : Bool) (o : Option ℕ) {c : Bool} → c ≡ not (t || is_some o) → not c ≡ false → (t ≡ false) × (o ≡ None)
free_of false None e f = (refl, refl)
free_of false (Some i) e f = absurd (false≢true (sym (sym (ap not e) ∙ f)))
free_of true o e f = absurd (false≢true (sym (sym (ap not e) ∙ f)))

no_second : (a b c : Bool) (x y z : Why) → cond a (Some x) (cond b (Some y) (cond c (Some z) None)) ≡ None → b ≡ false
no_second true b c x y z e = absurd (cc)
no_second false true c x y z e = absurd (cc)
no_second false false c x y z e = refl

-- ---- reports

reports_fit : (ps : List Kept) → All IsProposal ps → (q : Proposal Value) → IsIn q (map proposal_in ps) → ProposalFits q
reports_fit [] h q i = absurd i
reports_fit (p ∷ ps) h q (inl e) = let k = All-head IsProposal p ps h in subst (ProposalFits {V = Value}) (sym e) (record { ballot = ballot_fits k.ballot; instance = instance_fits k.instance })
reports_fit (p ∷ ps) h q (inr i) = reports_fit ps (All-tail IsProposal p ps h) q i

both_fit : (ps qs : List (Proposal Value)) → ((q : Proposal Value) → IsIn q ps → ProposalFits q) → ((q : Proposal Value) → IsIn q qs → ProposalFits q) → {q : Proposal Value} → IsIn q (ps ++ qs) → ProposalFits q
both_fit ps qs h k {q} i = go (in_cases q ps qs i)
  where
    go : IsIn q ps ⊎ IsIn q qs → ProposalFits q
    go (inl a) = h q a
    go (inr a) = k q a

-- ---- a node that is told a promise

module _ {K : Type 0} {records : K → List (List ℕ)} (gives : K → List ℕ → Answer → K → Type 0) (faults : K → ℕ) {service : Declarations} {past : List Value} {x : NodeValue K} (node : IsResting records service past x) (up : x.up ≡ true)
    {from : ℕ} (b : ℕ) (there : (0 < from) × (from ≤ x.nodes)) (reported : List Kept) (all : All IsProposal reported) where
  u : IsUp service x (here_of records service past x)
  u = node.up up

  abbrev sv : Service Value StateValue
  sv = service_of service x.seed

  -- the call that is told the promise, in this role
  abbrev told_in : CallHere → Role Value → CallHere
  told_in d role = on_promise x.nodes sv x.id from b (map proposal_in reported) d role

  abbrev whole : CallHere → CallHere
  whole d = told_in d d.node.role

  one_of : IsOneOf x.nodes from
  one_of = record { first = there.0; last = there.1 }

  module _ (before : Draft) where
    abbrev begun : CallHere
    begun = so_far records service past x before

    whole_at : (f : Option Failure) {o : Option ProposerValue} → x.proposer ≡ o → whole (armed_with f begun) ≡ told_in (armed_with f begun) (role_of x.acceptor o (is_some x.acting))
    whole_at f e = ap (λ q. told_in (armed_with f begun) (role_of x.acceptor q (is_some x.acting))) e

    module _ {p : ProposerValue} (e : x.proposer ≡ Some p) where
      proposes : Proposes x.nodes x.id x.acceptor p
      proposes = subst (IsProposer x.nodes x.id x.acceptor) e u.proposer

      gone : is_candidate p ≡ not (is_some x.acting || is_some p.open_instance)
      gone = subst (λ o. HasGoneOn o (is_some x.acting)) e (node.rests up)

      -- what the model makes of the promise
      abbrev made_of : Option Failure → Option Why → CallHere
      made_of f = made x.nodes sv x.id from b (map proposal_in reported) x.acceptor p (is_some x.acting) (armed_with f begun)

      made_is : (f : Option Failure) {r : Option Why} → promise_refusal p b from ≡ r → whole (armed_with f begun) ≡ made_of f r
      made_is f k =
          whole_at f e
          ∙ promise_made x.nodes _ x.id from b _ x.acceptor p _ _ proposes.open_one gone
          ∙ ap (made_of f) k

    -- ---- one that is ignored

    module _ {why : Why} (vote_is : vote_on x.proposer b from ≡ Ignored why) where
      same_at : (o : Option ProposerValue) → vote_on o b from ≡ Ignored why → option_map (λ (p : ProposerValue). promise_counted p b from reported) o ≡ o
      same_at None k = refl
      same_at (Some p) k = ap (λ r. Some (with_promise r p from reported)) (ignored_is _ p.nodes _ k)

      pub ignored_same : {z : NodeValue K} → z ≡ counting x b from reported → z ≡ x
      ignored_same z_is = z_is ∙ ap (λ o. record x { proposer = o }) (same_at _ vote_is)

      says_at : {f : Option Failure} (o : Option ProposerValue) → x.proposer ≡ o → vote_on o b from ≡ Ignored why → whole (armed_with f begun) ≡ armed_with f (say (told_of why) begun)
      says_at {f} None e k = whole_at f e ∙ ap (λ w. say (told_of w) (armed_with f begun)) (let n : Ballot b 0 ≡ why = cc in n)
      says_at {f} (Some p) e k = made_is e f (ignored_is _ p.nodes _ k)

      pub promise_ignored : {z : NodeValue K} → z ≡ counting x b from reported → {told : Effect} → told ≡ told_of why → (after : Draft) → after.effects.items ≡ before.effects.items ++ told ∷ [] → after.sends.items ≡ before.sends.items
          → EndsWell records gives faults service past x z before after whole
      promise_ignored {z} z_is told_is after effects sends =
          subst (λ n. EndsWell records gives faults service past x n before after whole) (sym (ignored_same z_is))
          (ends_same x before after refl node up
          (λ f. says_at _ refl vote_is
          ∙ ap (armed_with f) (sym (far records service past x after (effects ∙ ap (λ t. before.effects.items ++ t ∷ []) told_is) (ap (map (message_in past)) sends)))))

    -- ---- one that is counted

    module _ {p : ProposerValue} (e : x.proposer ≡ Some p) (new : promise_refusal p b from ≡ None) where
      abbrev more : ProposerValue
      more = record p { promised = p.promised ++ from ∷ []; reported = p.reported ++ reported }

      abbrev z_at : NodeValue K
      z_at = record x { proposer = Some more }

      counted_at : {z : NodeValue K} → z ≡ counting x b from reported → z ≡ z_at
      counted_at z_is =
          z_is
          ∙ ap (λ o. record x { proposer = option_map (λ q. promise_counted q b from reported) o }) e
          ∙ ap (λ r. record x { proposer = Some (with_promise r p from reported) }) new

      free : (is_some x.acting ≡ false) × (p.open_instance ≡ None)
      free = free_of _ _ (gone e) (no_second _ _ _ _ Late _ new)

      -- it is what the model leads with then
      heard_is : lead_of x.acceptor more (is_some x.acting) ≡ heard (lead_of x.acceptor p (is_some x.acting)) from (map proposal_in reported)
      heard_is =
          ap (λ t. lead_of x.acceptor more t) free.0
          ∙ ap (λ o. record (lead_of x.acceptor more false) { proposal = open_of x.acceptor o }) free.1
          ∙ ap (λ ns. record (lead_of x.acceptor more false) { proposal = None; accepted_by = ns }) ((proposes e).counted free.1)
          ∙ ap (λ ps. record (lead_of x.acceptor more false) { proposal = None; accepted_by = []; reported = ps }) (map-append proposal_in p.reported reported)

      counted : AreCounted p.nodes more.promised
      counted = counted_push p.nodes _ from (proposes e).once.promises (subst (λ n. IsOneOf n from) (sym (proposes e).nodes_are) one_of) (new_promise p b from new)

      length_more : length more.promised ≡ length p.promised + 1
      length_more = length-append p.promised (from ∷ [])

      majority_same : {t : Bool} → counts.is_majority p.nodes (length p.promised + 1) ≡ t → is_majority x.nodes more.promised ≡ t
      majority_same k =
          ap (λ n. is_majority n more.promised) (sym (proposes e).nodes_are)
          ∙ majority_is counted
          ∙ ap (counts.is_majority p.nodes) length_more
          ∙ k

      z_proposes : Proposes x.nodes x.id x.acceptor more
      z_proposes =
          let h = proposes e in
          record {
            nodes_are = h.nodes_are;
            own = h.own;
            ballot = h.ballot;
            once = record { own = h.once.own; promises = counted; acceptances = h.once.acceptances };
            short = All-append (λ q. IsValue q.value) p.reported reported h.short (All-weaker IsProposal (λ q. IsValue q.value) (λ q k. k.value) reported all);
            counted = h.counted;
            open_one = h.open_one;
          }

      z_role : LeadFits (length x.known) (lead_of x.acceptor p (is_some x.acting)) → LeadFits (length x.known) (lead_of x.acceptor more (is_some x.acting))
      z_role h = record {
        ballot = h.ballot;
        reported = λ q i. both_fit _ _ h.reported (reports_fit reported all) (subst (IsIn q) (map-append proposal_in p.reported reported) i);
        next = h.next;
      }

      z_up : IsUp service z_at (here_of records service past z_at)
      z_up = up_proposing records past u e refl z_proposes (z_role (lead_fits_of records past u e))

      z_kept : IsKept records service past z_at
      z_kept = record { id = node.id; few = node.few; up = λ _. z_up; reached = node.reached; decoded = node.decoded }

      -- the call counts it
      abbrev with_more : Option Failure → CallHere
      with_more f = led (Leading (lead_of x.acceptor more (is_some x.acting))) (armed_with f begun)

      hears_is : {t : Bool} → counts.is_majority p.nodes (length p.promised + 1) ≡ t → (f : Option Failure) → whole (armed_with f begun) ≡ cond t (settle (enough (map proposal_in more.reported)) x.nodes sv x.id (with_more f)) (say (effect.Have (length more.promised)) (with_more f))
      hears_is k f =
          made_is e f new
          ∙ ap (λ l. hear x.nodes sv x.id l (armed_with f begun)) (sym heard_is)
          ∙ ap (λ t. cond t (settle (enough (map proposal_in more.reported)) x.nodes sv x.id (with_more f)) (say (effect.Have (length more.promised)) (with_more f))) (majority_same k)

      -- ---- memory was short, and it is taken back

      -- nothing has changed once the promise is taken back
      taken_from : {z w v : NodeValue K} → z ≡ counting x b from reported → Stands records faults gives z w → v ≡ uncounting w (length reported) → Stands records faults gives x v
      taken_from {z} {w} {v} z_is s v_is =
          stands_back (ap (λ n. n.keeper) (counted_at z_is))
          (v_is
          ∙ ap (λ n. uncounting n (length reported)) s.parts
          ∙ ap (λ n. record (uncounting n (length reported)) { keeper = w.keeper }) z_is
          ∙ ap (λ o. record x { keeper = w.keeper; proposer = option_map (λ q. without_last q (length reported)) (option_map (λ q. promise_counted q b from reported) o) }) e
          ∙ ap (λ q. record x { keeper = w.keeper; proposer = Some q }) (taken_back p b from reported new)
          ∙ ap (λ o. record x { keeper = w.keeper; proposer = o }) (sym e))
          s

      pub promise_back : {z v : NodeValue K} → z ≡ counting x b from reported → v ≡ uncounting z (length reported) → IsStuck records gives faults service past whole x v before
      promise_back {z} {v} z_is v_is = inl (taken_from z_is stands_same v_is)

      -- ---- it is no majority yet

      module _ (few : counts.is_majority p.nodes (length p.promised + 1) ≡ false) where
        z_node : IsResting records service past z_at
        z_node =
            kept_rests z_kept
            (ap not (ap (counts.is_majority p.nodes) length_more ∙ few)
            ∙ sym (ap (λ s. not (s || is_some p.open_instance)) free.0 ∙ ap (λ o. not (false || is_some o)) free.1))

        pub promise_have : {z : NodeValue K} → z ≡ counting x b from reported → {have : ℕ} → have ≡ length p.promised + 1 → (after : Draft) → after.effects.items ≡ before.effects.items ++ effect.Have have ∷ [] → after.sends.items ≡ before.sends.items
            → EndsWell records gives faults service past x z before after whole
        promise_have {z} z_is have_is after effects sends =
            subst (λ n. EndsWell records gives faults service past x n before after whole) (sym (counted_at z_is))
            (ends_same x before after refl z_node up
            (λ f. hears_is few f
            ∙ ap (λ n. say (effect.Have n) (with_more f)) (length_more ∙ sym have_is)
            ∙ ap (armed_with f) (sym (far records service past z_at after effects (ap (map (message_in past)) sends)))))

      -- ---- it is a majority

      module _ (many : counts.is_majority p.nodes (length p.promised + 1) ≡ true) {z : NodeValue K} (z_is : z ≡ counting x b from reported) where
        module _ {turns : ℕ} (turns_are : turns ≡ 2 * reports_of z.proposer + 3) where
          turns_here : turns ≡ 2 * length more.reported + 3
          turns_here = turns_are ∙ ap (λ n. 2 * reports_of n.proposer + 3) (counted_at z_is)

          abbrev rest : CallHere → CallHere
          rest = settle turns x.nodes sv x.id

          promise_leads : Leads records gives faults service whole rest x.keeper x.keeper begun (so_far records service past z_at before)
          promise_leads =
              leads_same refl
              (λ f. hears_is many f
              ∙ ap (λ n. settle (2 * n + 3) x.nodes sv x.id (armed_with f (so_far records service past z_at before))) (length-map more.reported proposal_in)
              ∙ ap (λ n. settle n x.nodes sv x.id (armed_with f (so_far records service past z_at before))) (sym turns_here))

          -- it may go on
          pub promise_may : RunsOn service whole begun → faults x.keeper < 2 ^ 64 - 1 → MaySettle records faults service past turns z before
          promise_may runs count =
              subst (λ n. MaySettle records faults service past turns n before) (sym (counted_at z_is))
              (record {
                kept = z_kept;
                up = up;
                free = (free.1, λ t. absurd (false≢true (sym free.0 ∙ t)));
                enough = omega (arith, above_most (length x.known) more.reported, turns_here);
                runs = rest_runs past x z_at before before promise_leads runs;
                count = count;
              })

          pub promise_ends : {w : NodeValue K} (after : Draft) (going : Going) → Ends records gives faults service past (settle turns z.nodes (service_of service z.seed) z.id) z w before after going → Ends records gives faults service past whole x w before after going
          promise_ends {w} after going h =
              ends_then x z_at before before after going refl promise_leads
              (subst (λ n. Ends records gives faults service past (settle turns n.nodes (service_of service n.seed) n.id) n w before after going) (counted_at z_is) h)

          -- memory was short, and it is taken back
          pub promise_stuck : {w v : NodeValue K} → IsStuck records gives faults service past (settle turns z.nodes (service_of service z.seed) z.id) z w before → v ≡ uncounting w (length reported) → IsStuck records gives faults service past whole x v before
          promise_stuck {w} {v} (inl s) v_is = inl (taken_from z_is s v_is)
          promise_stuck {w} {v} (inr b) v_is =
              inr (breaks_later z_at v before promise_leads
              (breaks_kept (ap (λ n. n.keeper) v_is) (ap (λ n. n.base) v_is)
              (subst (λ n. BreaksOff records gives faults service past (settle turns n.nodes (service_of service n.seed) n.id) n w before) (counted_at z_is) b)))
