-- What a proposer counts, and what it answers.
use Rattle.std.specs.Prelude.{ℕ, ◌+◌, ◌-◌, ◌≤◌, ◌==◌, Bool, false, not, List, [], ◌∷◌, ◌++◌, length, take, Option, Some, None, unwrap_or, if◌then◌else◌}
use Rattle.rex_ballot.specs.Limits.{most_nodes}
use Rattle.rex_ballot.specs.Ballot.{node_of}
use Rattle.rex_ballot.specs.declared.proposal.Proposal.{Proposal}
use Rattle.rex_paxos.specs.declared.answers.Vote.{Vote}
use Rattle.rex_paxos.specs.declared.answers.Vote.TheVariants.{Ignored}
use Rattle.rex_paxos.specs.declared.answers.Why.{Why}
use Rattle.rex_paxos.specs.declared.answers.Why.TheVariants.{Ballot, Instance, Late, Again}
use Rattle.rex_paxos.specs.Counting.{IsOneOf, AreCounted, is_counted, is_majority, count_of, vote_of}

-- what a node counts for its own ballot
pub record ProposerValue : Type 0 where
  -- how many nodes there are
  pub nodes : ℕ
  -- the own ballot
  pub ballot : ℕ
  -- the nodes whose promises were counted, in that order
  pub promised : List ℕ
  -- the proposals that they reported, in that order
  pub reported : List Proposal
  -- the instance that was proposed and has no majority yet
  pub open_instance : Option ℕ
  -- the nodes whose acceptances were counted for it, in that order
  pub accepted : List ℕ

-- the ballot is of one of so many nodes, and these are at most 9
pub record IsOwnBallot (nodes ballot : ℕ) : Type 0 where
  pub few : nodes ≤ most_nodes
  pub own : IsOneOf nodes (node_of ballot)

-- the ballot is of one of the nodes, and no node is counted twice
pub record CountsOnce (p : ProposerValue) : Type 0 where
  pub own : IsOwnBallot p.nodes p.ballot
  pub promises : AreCounted p.nodes p.promised
  pub acceptances : AreCounted p.nodes p.accepted

-- nothing was counted yet
abbrev pub beginning : ℕ → ℕ → ProposerValue
beginning nodes ballot = record { nodes = nodes; ballot = ballot; promised = []; reported = []; open_instance = None; accepted = [] }

-- the answer where a node is the last of so many that were counted, unless it isn't counted
abbrev pub voted : Option Why → ℕ → ℕ → Vote
voted (Some why) nodes have = Ignored why
voted None nodes have = vote_of (count_of nodes have)

-- ---- promises

-- a proposer is a candidate until a majority has promised
abbrev pub is_candidate : ProposerValue → Bool
is_candidate p = not (is_majority p.nodes (length p.promised))

-- why a promise isn't counted
abbrev pub promise_refusal : ProposerValue → ℕ → ℕ → Option Why
promise_refusal p ballot from =
    if not (ballot == p.ballot) then Some (Ballot ballot p.ballot)
    else if not (is_candidate p) then Some Late
    else if is_counted from p.promised then Some (Again from)
    else None

-- what is answered to a promise
abbrev pub promise_vote : ProposerValue → ℕ → ℕ → Vote
promise_vote p ballot from = voted (promise_refusal p ballot from) p.nodes (length p.promised + 1)

-- the proposer with what a node reported, unless it isn't counted
abbrev pub with_promise : Option Why → ProposerValue → ℕ → List Proposal → ProposerValue
with_promise (Some why) p from reported = p
with_promise None p from reported = record p { promised = p.promised ++ from ∷ []; reported = p.reported ++ reported }

-- the proposer after a promise
abbrev pub promise_counted : ProposerValue → ℕ → ℕ → List Proposal → ProposerValue
promise_counted p ballot from reported = with_promise (promise_refusal p ballot from) p from reported

-- the last promise that was counted is taken back, with so many reports, the last ones
abbrev pub without_last : ProposerValue → ℕ → ProposerValue
without_last p reports = record p { promised = take (length p.promised - 1) p.promised; reported = take (length p.reported - reports) p.reported }

-- ---- acceptances

-- one more node has accepted: a majority closes the instance
abbrev pub accepted_by : ProposerValue → ℕ → ProposerValue
accepted_by p node =
    if is_majority p.nodes (length p.accepted + 1) then record p { open_instance = None; accepted = [] }
    else record p { accepted = p.accepted ++ node ∷ [] }

-- an instance is opened, with the own acceptance
abbrev pub proposed : ProposerValue → ℕ → ProposerValue
proposed p instance = accepted_by (record p { open_instance = Some instance; accepted = [] }) (node_of p.ballot)

-- no instance is open
abbrev pub closed : ProposerValue → ProposerValue
closed p = record p { open_instance = None; accepted = [] }

-- this instance is open
abbrev pub is_open : Option ℕ → ℕ → Bool
is_open None instance = false
is_open (Some open_instance) instance = instance == open_instance

-- why an acceptance isn't counted
abbrev pub acceptance_refusal : ProposerValue → ℕ → ℕ → ℕ → Option Why
acceptance_refusal p ballot instance from =
    if not (ballot == p.ballot) then Some (Ballot ballot p.ballot)
    else if not (is_open p.open_instance instance) then Some (Instance instance (unwrap_or p.open_instance 0))
    else if is_counted from p.accepted then Some (Again from)
    else None

-- what is answered to an acceptance
abbrev pub acceptance_vote : ProposerValue → ℕ → ℕ → ℕ → Vote
acceptance_vote p ballot instance from = voted (acceptance_refusal p ballot instance from) p.nodes (length p.accepted + 1)

-- the proposer with a node's acceptance, unless it isn't counted
abbrev pub with_acceptance : Option Why → ProposerValue → ℕ → ProposerValue
with_acceptance (Some why) p from = p
with_acceptance None p from = accepted_by p from

-- the proposer after an acceptance
abbrev pub acceptance_counted : ProposerValue → ℕ → ℕ → ℕ → ProposerValue
acceptance_counted p ballot instance from = with_acceptance (acceptance_refusal p ballot instance from) p from
