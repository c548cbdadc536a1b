-- The ranges of the numbers in records and messages.
use Rattle.std.specs.Prelude.{◌≡◌, ◌≢◌, ℕ, suc, ◌+◌, ◌<◌, ◌≤◌, List, [], ◌∷◌, length, Some}
use Rattle.rex_cluster.specs.Records.{Rec, Proposal, known, HasAccepted, HasBallot}
use Rattle.rex_cluster.specs.Quorum.{IsNode, node_of, round_of}
use Rattle.rex_cluster.specs.Node.{Content, Message, Lead, Role, Node}
use Rattle.rex_cluster.specs.Node.Content.{Prepare, Promise, Accept, Accepted, Chosen, Nack, Ask, Snapshot}
use Rattle.rex_cluster.specs.Node.Role.{Follower, Leads}
use Rattle.rex_cluster.specs.Invariant.{IsIn}
use Rattle.rex_ballot.specs.declared.ballots.TheConstants.{NODES, ROUNDS, INSTANCES}

-- a round and a node that there can be, each from 1 on
pub record IsBallot (b : ℕ) : Type 0 where
  pub some : 0 < round_of b
  pub few : round_of b ≤ ROUNDS
  pub node : IsNode NODES (node_of b)

abbrev pub IsInstance : ℕ → Type 0
IsInstance i = (0 < i) × (i ≤ INSTANCES)

-- the instance from which on a node asks may be the one after the last
abbrev pub IsFirst : ℕ → Type 0
IsFirst i = (0 < i) × (i ≤ INSTANCES + 1)

-- the instances of proposals rise from above this one on
abbrev pub AreRising : {V : Type 0} → ℕ → List (Proposal V) → Type 0
AreRising i [] = Unit {0}
AreRising i (p ∷ ps) = (i < p.instance) × AreRising p.instance ps

-- a proposal's ballot and instance are in their ranges
pub record ProposalFits {V : Type 0} (p : Proposal V) : Type 0 where
  pub ballot : IsBallot p.ballot
  pub instance : IsInstance p.instance

-- a promise lists at most one proposal for an instance, in rising order
abbrev pub ContentFits : {V : Type 0} → Content V → Type 0
ContentFits (Prepare b first) = IsBallot b × IsFirst first
ContentFits (Promise b ps) = IsBallot b × AreRising 0 ps × ((p : Proposal _) → IsIn p ps → ProposalFits p)
ContentFits (Accept b i v) = IsBallot b × IsInstance i
ContentFits (Accepted b i) = IsBallot b × IsInstance i
ContentFits (Chosen i v) = IsInstance i
ContentFits (Nack b p) = IsBallot b × (b < p)
ContentFits (Ask first) = IsFirst first
ContentFits (Snapshot values) = IsInstance (length values)

-- a message goes from a node to another one
pub record MessageFits {V : Type 0} (n : ℕ) (x : Message V) : Type 0 where
  pub from : IsNode n x.from
  pub to : IsNode n x.to
  pub apart : x.from ≢ x.to
  pub content : ContentFits x.content

-- the ballots and instances of a node's records are in their ranges, and it knows no more than there are instances
pub record LogFits {V S : Type 0} (log : List (Rec V S)) : Type 0 where
  pub ballots : (b : ℕ) → HasBallot b log → IsBallot b
  pub instances : (b i : ℕ) (v : V) → HasAccepted b i v log → IsInstance i
  pub few : length (known log) ≤ INSTANCES

-- so are those of a node that leads and knows so many values, whose open proposal is for the next instance
pub record LeadFits {V : Type 0} (known : ℕ) (l : Lead V) : Type 0 where
  pub ballot : IsBallot l.ballot
  pub reported : (p : Proposal V) → IsIn p l.reported → ProposalFits p
  pub next : (p : Proposal V) → l.proposal ≡ Some p → (p.instance ≡ suc known) × IsInstance p.instance

abbrev pub RoleFits : {V : Type 0} → ℕ → Role V → Type 0
RoleFits known Follower = Unit {0}
RoleFits known (Leads l) = LeadFits known l

pub record NodeFits {V S : Type 0} (x : Node V S) : Type 0 where
  pub log : LogFits x.log
  pub role : RoleFits (length (known x.log)) x.role
