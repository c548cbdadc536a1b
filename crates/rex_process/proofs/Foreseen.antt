-- The replies that an acceptance would release, by what the node's proposer answers.
use Rattle.std.proofs.Common.{◌≡◌, ℕ, ◌+◌, Bool, true, false, not, ◌&&◌, List, [], ◌∷◌, ◌++◌, length, Option, Some, None, refl, sym, ◌∙◌, ap, subst}
use Rattle.std.specs.Prelude.{◌==◌, if◌then◌else◌, unwrap_or}
use Rattle.std.proofs.lemmas.Bool.{false≢true}
use Rattle.rex_ballot.specs.declared.proposal.Proposal.{Proposal as Kept}
use Rattle.rex_syntax.specs.declared.service.Declarations.{Declarations}
use Rattle.rex_report.specs.declared.effect.Effect.{Effect}
use Rattle.rex_paxos.specs.declared.answers.Count.TheVariants as count
use Rattle.rex_paxos.specs.declared.answers.Why.{Why}
use Rattle.rex_paxos.specs.declared.answers.Why.TheVariants as why
use Rattle.rex_paxos.specs.Acceptor.{AcceptorValue}
use Rattle.rex_paxos.specs.Counting as counting
use Rattle.rex_paxos.specs.Counting.{IsOneOf, is_counted}
use Rattle.rex_paxos.specs.Proposer.{ProposerValue, acceptance_vote, is_open, voted}
use Rattle.rex_cluster.specs.Records.{Proposal}
use Rattle.rex_cluster.specs.Quorum.{is_in, is_majority}
use Rattle.rex_cluster.specs.Node.{Lead, lead_name, role_name}
use Rattle.rex_cluster.specs.Node.Content.{Accepted as Voted}
use Rattle.rex_cluster.specs.Values.{Value, replies_of, service_of}
use Rattle.rex_cluster.specs.Lanes.{CallHere}
use Rattle.rex_log.specs.Log.{proposal_in}
use Rattle.rex_node.specs.Electing.{acceptance_vote_on}
use Rattle.rex_node.specs.Parts.{IsProposer, Proposes, lead_of, open_of, open_value, proposed_value, role_of}
use Rattle.rex_log.proofs.Proposers as bridges
use Rattle.rex_node.proofs.Votes.{majority_more, open_at}
use Rattle.rex_processes.specs.Early.{is_chosen_with, replies_to, replies_with}
use Rattle.rex_process.specs.Foretelling.{active_value, is_quorum}

-- ---- a vote, by its tests

majority_is : (nodes k : ℕ) (t : Bool) → is_quorum (counting.vote_of (if t then count.Quorum else count.NotYet k)) ≡ t
majority_is nodes k true = refl
majority_is nodes k false = refl

by_tests : (x y z : Bool) (first second third : Why) (nodes k : ℕ)
    → is_quorum (voted (if not x then Some first else if not y then Some second else if z then Some third else None) nodes k) ≡ (x && (y && (not z && counting.is_majority nodes k)))
by_tests false y z first second third nodes k = refl
by_tests true false z first second third nodes k = refl
by_tests true true true first second third nodes k = refl
by_tests true true false first second third nodes k = majority_is nodes k (counting.is_majority nodes k)

-- the replies of a value, if there is one
abbrev pub replies_if : Declarations → List Value → Option Value → List Effect
replies_if service before None = []
replies_if service before (Some v) = replies_of service before v

module _ (service : Declarations) (seed : ℕ) (before : List Value) (nodes id : ℕ) (a : AcceptorValue) (active : Bool) (from ballot i : ℕ) (one : IsOneOf nodes from) (d : CallHere) where
  abbrev told : Option ProposerValue → List Effect
  told o = replies_to service nodes before from (Voted ballot i) (role_of a o active)

  abbrev open_one : Option ProposerValue → Option Value
  open_one o = active_value (role_name (role_of a o active)) (open_value (role_of a o active))

  module _ (p : ProposerValue) (h : Proposes nodes id a p) where
    abbrev l : Lead Value
    l = lead_of a p active

    vote_is : is_quorum (acceptance_vote p ballot i from) ≡ ((ballot == p.ballot) && (is_open p.open_instance i && (not (is_counted from p.accepted) && counting.is_majority p.nodes (length p.accepted + 1))))
    vote_is =
        by_tests (ballot == p.ballot) (is_open p.open_instance i) (is_counted from p.accepted) (why.Ballot ballot p.ballot) (why.Instance i (unwrap_or p.open_instance 0)) (why.Again from) p.nodes (length p.accepted + 1)

    -- where an instance is open the model asks for the same
    chosen_is : (o : ℕ) → p.open_instance ≡ Some o → (q : Kept) → q.instance ≡ o → is_quorum (acceptance_vote p ballot i from) ≡ is_chosen_with nodes l from ballot i (proposal_in q)
    chosen_is o e q at =
        vote_is
        ∙ (ap (λ (t : Bool). t && (is_open p.open_instance i && (not (is_counted from p.accepted) && counting.is_majority p.nodes (length p.accepted + 1)))) (bridges.same_test ballot p.ballot)
        ∙ (ap (λ (t : Bool). (p.ballot == ballot) && (t && (not (is_counted from p.accepted) && counting.is_majority p.nodes (length p.accepted + 1)))) instance
        ∙ ap (λ (t : Bool). (p.ballot == ballot) && ((q.instance == i) && t)) (counted (is_counted from p.accepted) refl)))
      where
        instance : is_open p.open_instance i ≡ (q.instance == i)
        instance = ap (λ (k : Option ℕ). is_open k i) e ∙ (bridges.same_test i o ∙ ap (λ (k : ℕ). k == i) (sym at))

        counted : (z : Bool) → is_counted from p.accepted ≡ z
            → (not (is_counted from p.accepted) && counting.is_majority p.nodes (length p.accepted + 1)) ≡ (not (is_in from p.accepted) && is_majority nodes (p.accepted ++ from ∷ []))
        counted true y =
            ap (λ (t : Bool). not t && counting.is_majority p.nodes (length p.accepted + 1)) y
            ∙ sym (ap (λ (t : Bool). not t && is_majority nodes (p.accepted ++ from ∷ [])) (bridges.in_counted from p.accepted ∙ y))
        counted false y =
            ap (λ (t : Bool). not t && counting.is_majority p.nodes (length p.accepted + 1)) y
            ∙ (sym (majority_more h active (service_of service seed) ballot i one d y)
            ∙ sym (ap (λ (t : Bool). not t && is_majority nodes (p.accepted ++ from ∷ [])) (bridges.in_counted from p.accepted ∙ y)))

    -- what is told of an open proposal, by the vote
    by_vote : (q : Proposal Value) (t : Bool) → is_chosen_with nodes l from ballot i q ≡ t
        → replies_with service nodes before l from ballot i (Some q) ≡ (if active && t then replies_of service before q.value else [])
    by_vote q t e = ap (λ (b : Bool). if active && b then replies_of service before q.value else []) e

    quorum_tells : is_quorum (acceptance_vote p ballot i from) ≡ true → told (Some p) ≡ replies_if service before (open_one (Some p))
    quorum_tells e = by p.open_instance refl
      where
        by : (o : Option ℕ) → p.open_instance ≡ o → told (Some p) ≡ replies_if service before (open_one (Some p))
        by None f =
            absurd (false≢true (sym (vote_is ∙ (ap (λ (k : Option ℕ). (ballot == p.ballot) && (is_open k i && (not (is_counted from p.accepted) && counting.is_majority p.nodes (length p.accepted + 1)))) f
            ∙ never (ballot == p.ballot))) ∙ e))
          where
            never : (t : Bool) → (t && false) ≡ false
            never true = refl
            never false = refl
        by (Some o) f =
            let q = open_at h active (service_of service seed) ballot i one d f in
            subst (λ (k : Option (Proposal Value)). replies_with service nodes before l from ballot i k ≡ replies_if service before (active_value (lead_name active k) (proposed_value k))) (sym q.1)
            (by_vote (proposal_in q.0) true (sym (chosen_is o f q.0 q.2) ∙ e) ∙ end active (proposal_in q.0))
          where
            end : (t : Bool) (q : Proposal Value) → (if t && true then replies_of service before q.value else []) ≡ replies_if service before (active_value (lead_name t (Some q)) (Some q.value))
            end true q = refl
            end false q = refl

    else_none : is_quorum (acceptance_vote p ballot i from) ≡ false → told (Some p) ≡ []
    else_none e = by p.open_instance refl
      where
        by : (o : Option ℕ) → p.open_instance ≡ o → told (Some p) ≡ []
        by None f = ap (λ (k : Option ℕ). replies_with service nodes before l from ballot i (open_of a k)) f
        by (Some o) f =
            let q = open_at h active (service_of service seed) ballot i one d f in
            ap (λ (k : Option (Proposal Value)). replies_with service nodes before l from ballot i k) q.1
            ∙ (by_vote (proposal_in q.0) false (sym (chosen_is o f q.0 q.2) ∙ e) ∙ end active)
          where
            end : (t : Bool) → (if t && false then replies_of service before (proposal_in (open_at h active (service_of service seed) ballot i one d f).0).value else []) ≡ []
            end true = refl
            end false = refl

  pub quorum_tells_open : (o : Option ProposerValue) → IsProposer nodes id a o → is_quorum (acceptance_vote_on o ballot i from) ≡ true → told o ≡ replies_if service before (open_one o)
  quorum_tells_open None h e = absurd (false≢true e)
  quorum_tells_open (Some p) h e = quorum_tells p h e

  pub else_tells_none : (o : Option ProposerValue) → IsProposer nodes id a o → is_quorum (acceptance_vote_on o ballot i from) ≡ false → told o ≡ []
  else_tells_none None h e = refl
  else_tells_none (Some p) h e = else_none p h e
