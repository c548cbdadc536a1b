-- A node says that it accepted the proposal of a node that leads.
use Rattle.rex_node.proofs.Common.{◌≡◌, ℕ, ◌+◌, Bool, true, false, cond, not, eqb, List, [], ◌∷◌, ◌++◌, length, Option, Some, None, refl, sym, ap, subst, ◌∙◌, arith, length-append, map, is_some, option_map, unwrap_or, IfSome, if◌then◌else◌, All, same_Some, All-head, All-tail, Kept, proposal_for, Vote, Why, AcceptorValue, IsOneOf, AreCounted, is_counted, ProposerValue, acceptance_refusal, acceptance_vote, voted, counted_push, Declarations, StateValue, Answer, Effect, Lead, Service, Leading, IsNodeOf, is_in, is_majority, Call, led, on_own_vote, on_voted, say, settle, Value, service_of, CallHere, acceptance_vote_on, told_of, message_in, On, Draft, proposal_in, NodeValue, HasGoneOn, HasOpen, IsResting, IsProposer, IsUp, Proposes, here_of, lead_of, open_of, role_of, armed_with, Ends, so_far, LeadFits}
use Rattle.std.proofs.Common.{eqb-true}
use Rattle.rex_paxos.specs.declared.answers.Vote.TheVariants as vote
use Rattle.rex_paxos.specs.declared.answers.Why.TheVariants as why
use Rattle.rex_paxos.specs.Counting as counting
use Rattle.rex_paxos.specs.declared.answers.Count.TheVariants as count
use Rattle.rex_paxos.specs.Proposer.{acceptance_counted, is_open, with_acceptance}
use Rattle.rex_report.specs.declared.effect.Effect.TheVariants as effect
use Rattle.rex_cluster.specs.Calls.{count_vote}
use Rattle.rex_cluster.specs.Calls as calls
use Rattle.rex_node.specs.Electing.{accepting_from}
use Rattle.rex_node.proofs.Appended.{up_proposing, lead_fits_of}
use Rattle.rex_node.proofs.Written.{call_is}
use Rattle.rex_log.proofs.Proposers as bridges
use Rattle.rex_node.proofs.Counts.{not_yet_is}
use Rattle.rex_node.proofs.Following.{ends_same}

-- ---- what is made of an acceptance

module _ {V S : Type 0} (n : ℕ) (sv : Service V S) (me from : ℕ) (l : Lead V) where
  -- it leads with one more that accepted its open proposal
  abbrev pub one_more : Lead V
  one_more = record { ballot = l.ballot; counted = l.counted; reported = l.reported; proposal = l.proposal; accepted_by = l.accepted_by ++ from ∷ []; active = l.active }

  -- what the model does, by what a proposer answers
  abbrev pub outcome : Vote → Call V S → Call V S
  outcome vote.Quorum d = settle (calls.enough l.reported) n sv me (led (Leading one_more) d)
  outcome (vote.NotYet have) d = say (effect.Have have) (led (Leading one_more) d)
  outcome (vote.Ignored w) d = say (told_of w) d

-- what was found is for the instance
pub found_instance : {i : ℕ} (ps : List Kept) {q : Kept} → proposal_for i ps ≡ Some q → q.instance ≡ i
found_instance [] e = absurd (cc)
found_instance {i} (p ∷ ps) {q} e = by (eqb p.instance i) refl e (found_instance ps {q = q})
  where
    by : (t : Bool) → eqb p.instance i ≡ t → cond t (Some p) (proposal_for i ps) ≡ Some q → (proposal_for i ps ≡ Some q → q.instance ≡ i) → q.instance ≡ i
    by true s f more = ap (λ r. r.instance) (sym (same_Some p q f)) ∙ eqb-true p.instance i s
    by false s f more = more f

pub found_all : (P : Kept → Type 0) (i : ℕ) (ps : List Kept) {q : Kept} → All P ps → proposal_for i ps ≡ Some q → P q
found_all P i [] h e = absurd (cc)
found_all P i (p ∷ ps) {q} h e = by (eqb p.instance i) e (found_all P i ps (All-tail P p ps h))
  where
    by : (t : Bool) → cond t (Some p) (proposal_for i ps) ≡ Some q → (proposal_for i ps ≡ Some q → P q) → P q
    by true f more = subst P (same_Some p q f) (All-head P p ps h)
    by false f more = more f

module _ {nodes id : ℕ} {a : AcceptorValue} {p : ProposerValue} (h : Proposes nodes id a p) (active : Bool) (sv : Service Value StateValue) {from : ℕ} (ballot i : ℕ) (one : IsOneOf nodes from) (d : CallHere) where
  abbrev l : Lead Value
  l = lead_of a p active

  -- the open proposal is for the open instance
  pub open_at : {o : ℕ} → p.open_instance ≡ Some o → (q : Kept) × (open_of a p.open_instance ≡ Some (proposal_in q)) × (q.instance ≡ o) × (proposal_for o a.accepted ≡ Some q)
  open_at {o} e =
      let k : HasOpen a p.ballot (Some o) = subst (HasOpen a p.ballot) e h.open_one in
      (k.0, ap (open_of a) e ∙ ap (option_map proposal_in) k.1, found_instance _ k.1, k.1)

  -- with one more it is a majority where the proposer's count is
  pub majority_more : is_counted from p.accepted ≡ false → is_majority nodes (p.accepted ++ from ∷ []) ≡ counting.is_majority p.nodes (length p.accepted + 1)
  majority_more new =
      bridges.majority_is (counted_push nodes _ from (subst (λ n. AreCounted n p.accepted) h.nodes_are h.once.acceptances) one new)
      ∙ ap (λ n. counting.is_majority n (length (p.accepted ++ from ∷ []))) (sym h.nodes_are)
      ∙ ap (counting.is_majority p.nodes) (length-append p.accepted (from ∷ []))

  -- so many have accepted it with this one
  abbrev many : ℕ
  many = length p.accepted + 1

  -- the proposer's answer, by its tests
  abbrev answer : Bool → Option ℕ → Bool → Vote
  answer own o again = voted (if not own then Some (why.Ballot ballot p.ballot) else if not (is_open o i) then Some (why.Instance i (unwrap_or o 0)) else if again then Some (why.Again from) else None) p.nodes many

  -- what the model does on an answer
  abbrev does : Vote → CallHere
  does w = outcome nodes sv id from l w d

  abbrev by_count : Bool → ℕ → CallHere
  by_count t k = cond t (settle (calls.enough (map proposal_in p.reported)) nodes sv id (led (Leading (one_more nodes sv id from l)) d)) (say (effect.Have k) (led (Leading (one_more nodes sv id from l)) d))

  -- and on a vote for its open proposal
  abbrev once : Kept → Bool → CallHere
  once q again = cond again (say (effect.IgnoredAgain from) d) (count_vote nodes sv id (calls.voted l from (proposal_in q)) d)

  -- a vote for the open proposal is counted
  counts : {q : Kept} → open_of a p.open_instance ≡ Some (proposal_in q) → is_counted from p.accepted ≡ false
      → count_vote nodes sv id (calls.voted l from (proposal_in q)) d ≡ does (voted None p.nodes many)
  counts e new =
      ap (λ o. count_vote nodes sv id (record { ballot = p.ballot; counted = p.promised; reported = map proposal_in p.reported; proposal = o; accepted_by = p.accepted ++ from ∷ []; active = active }) d) (sym e)
      ∙ ap (λ t. by_count t (length (p.accepted ++ from ∷ []))) (majority_more new)
      ∙ ap (by_count (counting.is_majority p.nodes many)) (length-append p.accepted (from ∷ []))
      ∙ go (counting.is_majority p.nodes many)
    where
      go : (t : Bool) → by_count t many ≡ does (counting.vote_of (if t then count.Quorum else count.NotYet many))
      go true = refl
      go false = refl

  -- the same of an open instance
  at_open : {o : ℕ} → p.open_instance ≡ Some o → on_own_vote nodes sv id from i d l (open_of a p.open_instance) ≡ does (answer true (Some o) (is_counted from p.accepted))
  at_open {o} e =
      let q = open_at e in
      ap (on_own_vote nodes sv id from i d l) q.1
      ∙ ap (λ k. cond (eqb k i) (once q.0 (is_in from p.accepted)) (say (effect.IgnoredInstance i k) d)) q.2
      ∙ ap (λ t. cond t (once q.0 (is_in from p.accepted)) (say (effect.IgnoredInstance i o) d)) (bridges.same_test o i)
      ∙ go (eqb i o) q.0 q.1
    where
      again : (q : Kept) → open_of a p.open_instance ≡ Some (proposal_in q) → (t : Bool) → is_counted from p.accepted ≡ t → once q t ≡ does (voted (if t then Some (why.Again from) else None) p.nodes many)
      again q f true g = refl
      again q f false g = counts f g

      go : (t : Bool) (q : Kept) → open_of a p.open_instance ≡ Some (proposal_in q) → cond t (once q (is_in from p.accepted)) (say (effect.IgnoredInstance i o) d)
          ≡ does (voted (if not t then Some (why.Instance i o) else if is_counted from p.accepted then Some (why.Again from) else None) p.nodes many)
      go false q f = refl
      go true q f = ap (once q) (bridges.in_counted from _) ∙ again q f (is_counted from p.accepted) refl

  at_any : (o : Option ℕ) → p.open_instance ≡ o → on_own_vote nodes sv id from i d l (open_of a p.open_instance) ≡ does (answer true o (is_counted from p.accepted))
  at_any None e = ap (λ o. on_own_vote nodes sv id from i d l (open_of a o)) e
  at_any (Some o) e = at_open e

  -- the model does what the proposer's answer says
  voted_is : on_voted nodes sv id from ballot i d (Leading l) ≡ does (acceptance_vote p ballot i from)
  voted_is = ap (λ t. cond t (on_own_vote nodes sv id from i d l (open_of a p.open_instance)) (say (effect.IgnoredBallot ballot p.ballot) d)) (bridges.same_test p.ballot ballot) ∙ go (eqb ballot p.ballot)
    where
      go : (t : Bool) → cond t (on_own_vote nodes sv id from i d l (open_of a p.open_instance)) (say (effect.IgnoredBallot ballot p.ballot) d) ≡ does (answer t p.open_instance (is_counted from p.accepted))
      go false = refl
      go true = at_any _ refl

-- ---- answers

no_refusal : (own at again : Bool) (x y z : Why) → (if not own then Some x else if not at then Some y else if again then Some z else None) ≡ None → (own ≡ true) × (at ≡ true) × (again ≡ false)
no_refusal false at again x y z e = absurd (cc)
no_refusal true false again x y z e = absurd (cc)
no_refusal true true true x y z e = absurd (cc)
no_refusal true true false x y z e = (refl, refl, refl)

open_is : (o : Option ℕ) {i : ℕ} → is_open o i ≡ true → o ≡ Some i
open_is None e = absurd (cc)
open_is (Some k) {i} e = ap (λ n. Some n) (sym (eqb-true i k e))

abbrev told_from : Vote → Effect
told_from (vote.Ignored w) = told_of w
told_from _ = effect.IgnoredLate

-- ---- a node

module _ {K : Type 0} (records : K → List (List ℕ)) (gives : K → List ℕ → Answer → K → Type 0) (faults : K → ℕ) (service : Declarations) (past : List Value) (x : NodeValue K) (node : IsResting records service past x) (up : x.up ≡ true) (from ballot i : ℕ) (there : IsNodeOf x.nodes from) (before : Draft) where
  u : IsUp service x (here_of records service past x)
  u = node.up up

  abbrev sv : Service Value StateValue
  sv = service_of service x.seed

  abbrev whole : CallHere → CallHere
  whole d = on_voted x.nodes sv x.id from ballot i d d.node.role

  pub one : IsOneOf x.nodes from
  one = record { first = let a = there.0 in omega arith; last = there.1 }

  proposes_of : {p : ProposerValue} → x.proposer ≡ Some p → Proposes x.nodes x.id x.acceptor p
  proposes_of e = subst (IsProposer x.nodes x.id x.acceptor) e u.proposer

  -- the model's call, by the proposer's answer
  pub whole_is : {p : ProposerValue} → x.proposer ≡ Some p → (d : CallHere) → d.node.role ≡ role_of x.acceptor x.proposer (is_some x.acting)
      → whole d ≡ outcome x.nodes sv x.id from (lead_of x.acceptor p (is_some x.acting)) (acceptance_vote p ballot i from) d
  whole_is {p} e d role =
      ap (λ r. on_voted x.nodes sv x.id from ballot i d r) (role ∙ ap (λ o. role_of x.acceptor o (is_some x.acting)) e)
      ∙ voted_is (proposes_of e) (is_some x.acting) _ ballot i one d

  -- ---- it isn't counted

  ignores : {w : Why} → acceptance_vote_on x.proposer ballot i from ≡ vote.Ignored w → (d : CallHere) → d.node.role ≡ role_of x.acceptor x.proposer (is_some x.acting) → whole d ≡ say (told_of w) d
  ignores {w} v d role = by x.proposer refl v
    where
      by : (o : Option ProposerValue) → x.proposer ≡ o → acceptance_vote_on o ballot i from ≡ vote.Ignored w → whole d ≡ say (told_of w) d
      by None e f =
          ap (λ r. on_voted x.nodes sv x.id from ballot i d r) (role ∙ ap (λ o. role_of x.acceptor o (is_some x.acting)) e)
          ∙ ap (λ t. say t d) (ap told_from f)
      by (Some p) e f = whole_is e d role ∙ ap (λ z. outcome x.nodes sv x.id from (lead_of x.acceptor p (is_some x.acting)) z d) f

  pub vote_ignored : {w : Why} → acceptance_vote_on x.proposer ballot i from ≡ vote.Ignored w → (after : Draft) → after.effects.items ≡ before.effects.items ++ told_of w ∷ [] → after.sends.items ≡ before.sends.items → Ends records gives faults service past whole x x before after On
  vote_ignored v after effects sends =
      ends_same x before after refl node up
      (λ f. ignores v (armed_with f (so_far records service past x before)) refl
      ∙ call_is
      refl refl refl (ap (map (message_in past)) (sym sends)) (sym effects))

  -- ---- it is counted

  module _ (p : ProposerValue) (e : x.proposer ≡ Some p) (none : acceptance_refusal p ballot i from ≡ None) where
    pub parts : (eqb ballot p.ballot ≡ true) × (is_open p.open_instance i ≡ true) × (is_counted from p.accepted ≡ false)
    parts = no_refusal (eqb ballot p.ballot) (is_open p.open_instance i) (is_counted from p.accepted) (why.Ballot ballot p.ballot) (why.Instance i (unwrap_or p.open_instance 0)) (why.Again from) none

    pub opens : p.open_instance ≡ Some i
    opens = open_is _ parts.1

    more_counted : AreCounted p.nodes (p.accepted ++ from ∷ [])
    more_counted =
        let h = proposes_of e in
        counted_push p.nodes _ from h.once.acceptances (subst (λ n. IsOneOf n from) (sym h.nodes_are) one) parts.2

    module _ (few : counting.is_majority p.nodes (length p.accepted + 1) ≡ false) where
      abbrev q : ProposerValue
      q = record p { accepted = p.accepted ++ from ∷ [] }

      q_is : acceptance_counted p ballot i from ≡ q
      q_is = ap (λ r. with_acceptance r p from) none ∙ ap (λ t. cond t (record p { open_instance = None; accepted = [] }) (record p { accepted = p.accepted ++ from ∷ [] })) few

      abbrev y_at : NodeValue K
      y_at = record x { proposer = Some q }

      proposes_more : Proposes x.nodes x.id x.acceptor q
      proposes_more =
          let h = proposes_of e in
          record {
            nodes_are = h.nodes_are;
            own = h.own;
            ballot = h.ballot;
            once = record { own = h.once.own; promises = h.once.promises; acceptances = more_counted };
            short = h.short;
            counted = λ z. absurd (no_open z);
            open_one = h.open_one;
          }
        where
          no_open : p.open_instance ≡ None → ⊥
          no_open z = let t : Some i ≡ None = sym opens ∙ z in cc

      y_up : IsUp service y_at (here_of records service past y_at)
      y_up =
          let f : LeadFits (length x.known) (lead_of x.acceptor p (is_some x.acting)) = lead_fits_of records past u e in
          up_proposing records past u e refl proposes_more (record { ballot = f.ballot; reported = f.reported; next = f.next })

      y_node : IsResting records service past y_at
      y_node = record { id = node.id; few = node.few; up = λ t. y_up; reached = node.reached; decoded = node.decoded; rests = λ t. let h : HasGoneOn (Some p) (is_some x.acting) = subst (λ o. HasGoneOn o (is_some x.acting)) e (node.rests up) in h }

      vote_at : acceptance_vote p ballot i from ≡ vote.NotYet (length p.accepted + 1)
      vote_at = ap (λ r. voted r p.nodes (length p.accepted + 1)) none ∙ ap (λ t. counting.vote_of (if t then count.Quorum else count.NotYet (length p.accepted + 1))) few

      counted_at : (after : Draft) → after.effects.items ≡ before.effects.items ++ effect.Have (length p.accepted + 1) ∷ [] → after.sends.items ≡ before.sends.items → Ends records gives faults service past whole x y_at before after On
      counted_at after effects sends =
          ends_same x before after refl y_node up
          (λ f. whole_is e _ refl
          ∙ ap (λ z. outcome x.nodes sv x.id from (lead_of x.acceptor p (is_some x.acting)) z (armed_with f (so_far records service past x before))) vote_at
          ∙ call_is
          refl refl refl (ap (map (message_in past)) (sym sends)) (sym effects))

  pub vote_counted : {have : ℕ} → acceptance_vote_on x.proposer ballot i from ≡ vote.NotYet have → {y : NodeValue K} → y ≡ accepting_from x ballot i from → (after : Draft) → after.effects.items ≡ before.effects.items ++ effect.Have have ∷ [] → after.sends.items ≡ before.sends.items
      → Ends records gives faults service past whole x y before after On
  vote_counted {have} v {y} y_is after effects sends = by x.proposer refl v
    where
      by : (o : Option ProposerValue) → x.proposer ≡ o → acceptance_vote_on o ballot i from ≡ vote.NotYet have → Ends records gives faults service past whole x y before after On
      by None e f = absurd (cc)
      by (Some p) e f =
          let n = not_yet_is _ p.nodes f in
          let all : y ≡ record x { proposer = Some (record p { accepted = p.accepted ++ from ∷ [] }) } =
          y_is ∙ ap (λ o. record x { proposer = option_map (λ q. acceptance_counted q ballot i from) o }) e ∙ ap (λ q. record x { proposer = Some q }) (q_is p e n.0 n.1) in
          subst (λ z. Ends records gives faults service past whole x z before after On) (sym all)
          (counted_at p e n.0 n.1 after (effects ∙ ap (λ k. before.effects.items ++ effect.Have k ∷ []) n.2) sends)

  pub vote_one : IfSome x.proposer (λ (p : ProposerValue). IsOneOf p.nodes from)
  vote_one = by x.proposer refl
    where
      by : (o : Option ProposerValue) → x.proposer ≡ o → IfSome o (λ p. IsOneOf p.nodes from)
      by None e = tt
      by (Some p) e = subst (λ n. IsOneOf n from) (sym (proposes_of e).nodes_are) one
