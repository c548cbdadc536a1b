-- What an acceptor remembers, and what it answers.
use Rattle.std.specs.Prelude.{ℕ, ◌==◌, Bool, false, not, List, nat_lt, max, Option, Some, None, if◌then◌else◌}
use Rattle.rex_ballot.specs.Proposals.{above, proposal_for, with_proposal}
use Rattle.rex_ballot.specs.declared.proposal.Proposal.{Proposal}
use Rattle.rex_paxos.specs.declared.answers.Prepared.{Prepared}
use Rattle.rex_paxos.specs.declared.answers.Prepared.TheVariants as prepared
use Rattle.rex_paxos.specs.declared.answers.Asked.{Asked}
use Rattle.rex_paxos.specs.declared.answers.Asked.TheVariants as asked

-- what an acceptor remembers
pub record AcceptorValue : Type 0 where
  -- the greatest ballot promised, or 0
  pub promised : ℕ
  -- for each instance the last proposal accepted, rising by instance
  pub accepted : List Proposal

-- ---- a Prepare

-- a ballot below the promise is refused; one above it is a new promise
abbrev pub answer_to_prepare : AcceptorValue → ℕ → Prepared
answer_to_prepare a ballot = if nat_lt ballot a.promised then prepared.Nack a.promised else prepared.Promise (nat_lt a.promised ballot)

-- the promise never falls
abbrev pub promising : AcceptorValue → ℕ → AcceptorValue
promising a ballot = record a { promised = max a.promised ballot }

-- ---- an Accept

-- a proposal is there, and it is of this ballot
abbrev pub is_of_ballot : ℕ → Option Proposal → Bool
is_of_ballot ballot None = false
is_of_ballot ballot (Some p) = p.ballot == ballot

-- a ballot below the promise is refused; an acceptance is fresh unless the last one for the instance is of the ballot
abbrev pub answer_to_accept : AcceptorValue → ℕ → ℕ → Asked
answer_to_accept a ballot instance =
    if nat_lt ballot a.promised then asked.Nack a.promised else asked.Accept (not (is_of_ballot ballot (proposal_for instance a.accepted)))

-- an acceptance promises its ballot, and takes the place of the last one for its instance
abbrev pub accepting : AcceptorValue → Proposal → AcceptorValue
accepting a p = record { promised = max a.promised p.ballot; accepted = with_proposal a.accepted p }

-- acceptances up to an instance are forgotten
abbrev pub forgetting : AcceptorValue → ℕ → AcceptorValue
forgetting a instance = record a { accepted = above instance a.accepted }
