-- What a node is that asks to lead, and what it makes of promises.
use Rattle.std.specs.Prelude.{ℕ, ◌+◌, List, [], ◌∷◌, length, option_map, Option, Some, None}
use Rattle.rex_ballot.specs.Proposals.{from_instance}
use Rattle.rex_ballot.specs.declared.proposal.Proposal.{Proposal as Kept}
use Rattle.rex_paxos.specs.Acceptor.{promising}
use Rattle.rex_paxos.specs.Proposer.{ProposerValue, promise_vote, promise_counted, without_last, acceptance_vote, acceptance_counted}
use Rattle.rex_paxos.specs.declared.answers.Vote.{Vote}
use Rattle.rex_paxos.specs.declared.answers.Vote.TheVariants.{Ignored}
use Rattle.rex_paxos.specs.declared.answers.Why.{Why}
use Rattle.rex_paxos.specs.declared.answers.Why.TheVariants.{Ballot, Instance, Late, Again}
use Rattle.rex_report.specs.declared.effect.Effect.{Effect}
use Rattle.rex_report.specs.declared.effect.Effect.TheVariants as effect
use Rattle.rex_node.specs.Parts.{NodeValue, leaving}

-- a proposer of the node that has counted the own promise alone, with what the node accepted for the instances that it doesn't know
abbrev pub candidate_of : {K : Type 0} → NodeValue K → ℕ → ProposerValue
candidate_of x ballot = record {
  nodes = x.nodes;
  ballot = ballot;
  promised = x.id ∷ [];
  reported = from_instance (length x.known + 1) x.acceptor.accepted;
  open_instance = None;
  accepted = [];
}

-- the node asks to lead with the ballot, which it promised to itself
abbrev pub standing : {K : Type 0} → NodeValue K → ℕ → NodeValue K
standing x ballot = record (leaving x) { acceptor = promising x.acceptor ballot; proposer = Some (candidate_of x ballot) }

-- ---- promises

-- what is made of a promise: a follower waits for none
abbrev pub vote_on : Option ProposerValue → ℕ → ℕ → Vote
vote_on None ballot from = Ignored (Ballot ballot 0)
vote_on (Some p) ballot from = promise_vote p ballot from

-- the node has counted it, where it counts it
abbrev pub counting : {K : Type 0} → NodeValue K → ℕ → ℕ → List Kept → NodeValue K
counting x ballot from reported = record x { proposer = option_map (λ (p : ProposerValue). promise_counted p ballot from reported) x.proposer }

-- the node has taken the last promise back, with so many reports
abbrev pub uncounting : {K : Type 0} → NodeValue K → ℕ → NodeValue K
uncounting x reports = record x { proposer = option_map (λ (p : ProposerValue). without_last p reports) x.proposer }

-- why a message was ignored, as an effect
abbrev pub told_of : Why → Effect
told_of (Ballot got own) = effect.IgnoredBallot got own
told_of (Instance got want) = effect.IgnoredInstance got want
told_of Late = effect.IgnoredLate
told_of (Again from) = effect.IgnoredAgain from

-- how many proposals were reported
abbrev pub reports_of : Option ProposerValue → ℕ
reports_of None = 0
reports_of (Some p) = length p.reported

-- ---- acceptances

-- what is made of an acceptance: a follower waits for none
abbrev pub acceptance_vote_on : Option ProposerValue → ℕ → ℕ → ℕ → Vote
acceptance_vote_on None ballot instance from = Ignored (Ballot ballot 0)
acceptance_vote_on (Some p) ballot instance from = acceptance_vote p ballot instance from

-- the node has counted it, where it counts it
abbrev pub accepting_from : {K : Type 0} → NodeValue K → ℕ → ℕ → ℕ → NodeValue K
accepting_from x ballot instance from = record x { proposer = option_map (λ (p : ProposerValue). acceptance_counted p ballot instance from) x.proposer }
