-- A node, and the messages between nodes.
use Rattle.std.specs.Prelude.{ℕ, Bool, true, false, List, [], Option, Some, None}
use Rattle.rand_pcg.specs.Lcg.{Lcg, started, increment_of}
use Rattle.rand_pcg.specs.Pcg.{multiplier_64}
use Rattle.rex_syntax.specs.declared.request.Request.{Request}
use Rattle.rex_event.specs.declared.event.Event.{Event}
use Rattle.rex_report.specs.declared.effect.Effect.{Effect}
use Rattle.rex_report.specs.declared.effect.Role.{Role as RoleName}
use Rattle.rex_report.specs.declared.effect.Role.TheVariants as name
use Rattle.rex_report.specs.declared.effect.MessageKind.{MessageKind}
use Rattle.rex_report.specs.declared.effect.MessageKind.TheVariants as kind
use Rattle.rex_cluster.specs.Records.{Rec, Proposal, base}

-- ---- the service

-- what the cluster needs of a service: the state after values from the start; whether values run from the start, one after the other; how many events a value has; the replies of a value after others; the live events that aren't in values; and the generator of a ballot
pub record Service (V S : Type 0) : Type 0 where
  pub state : List V → S
  pub fits : List V → Bool
  pub size : V → ℕ
  pub replies : List V → V → List Effect
  pub remaining : List V → List Event → List Event
  pub dice : ℕ → Lcg

-- the generator of a seed and a ballot
abbrev pub dice_of : ℕ → ℕ → Lcg
dice_of seed ballot = started 64 multiplier_64 seed (increment_of 64 ballot)

-- ---- messages

-- a ballot and the first instance that its node doesn't know; a promise of a ballot with what was accepted; a ballot's value for an instance; that it was accepted; the value that was chosen for an instance; a ballot that was refused, and the promise that is above it; the first instance that a node doesn't know; the values of the first instances, of which the message itself has just the number and the state after them
pub data Content (V : Type 0) : Type 0 where
  Prepare : ℕ → ℕ → Content V
  Promise : ℕ → List (Proposal V) → Content V
  Accept : ℕ → ℕ → V → Content V
  Accepted : ℕ → ℕ → Content V
  Chosen : ℕ → V → Content V
  Nack : ℕ → ℕ → Content V
  Ask : ℕ → Content V
  Snapshot : List V → Content V

pub record Message (V : Type 0) : Type 0 where
  pub from : ℕ
  pub to : ℕ
  pub content : Content V

abbrev pub kind_of : {V : Type 0} → Content V → MessageKind
kind_of (Prepare b first) = kind.Prepare
kind_of (Promise b ps) = kind.Promise
kind_of (Accept b i v) = kind.Accept
kind_of (Accepted b i) = kind.Accepted
kind_of (Chosen i v) = kind.Chosen
kind_of (Nack b p) = kind.Nack
kind_of (Ask first) = kind.Ask
kind_of (Snapshot values) = kind.Snapshot

-- ---- roles

-- a node that asked to lead: its ballot, the nodes whose promises were counted, the proposals that they reported, both in the order in which they came, its open proposal with the nodes that accepted it, and whether it is active
pub record Lead (V : Type 0) : Type 0 where
  pub ballot : ℕ
  pub counted : List ℕ
  pub reported : List (Proposal V)
  pub proposal : Option (Proposal V)
  pub accepted_by : List ℕ
  pub active : Bool

pub data Role (V : Type 0) : Type 0 where
  Follower : Role V
  Leads : Lead V → Role V

-- a node that isn't active is candidate until it has a proposal that was reported to it
abbrev pub lead_name : {V : Type 0} → Bool → Option (Proposal V) → RoleName
lead_name true proposal = name.Active
lead_name false None = name.Candidate
lead_name false (Some p) = name.Adopting

abbrev pub role_name : {V : Type 0} → Role V → RoleName
role_name Follower = name.Follower
role_name (Leads l) = lead_name l.active l.proposal

abbrev pub is_active : {V : Type 0} → Role V → Bool
is_active Follower = false
is_active (Leads l) = l.active

-- the own ballot, 0 at a follower
abbrev pub own_ballot : {V : Type 0} → Role V → ℕ
own_ballot Follower = 0
own_ballot (Leads l) = l.ballot

-- ---- nodes

-- what an active node works with: its queue, its live events and its random generator
pub record Work : Type 0 where
  pub queue : List Request
  pub live : List Event
  pub dice : Lcg

abbrev pub no_work : Work
no_work = record { queue = []; live = []; dice = dice_of 0 0 }

-- an append that will fail: so many appends go well before it, and its record is kept or lost
pub data Failure : Type 0 where
  After : ℕ → Bool → Failure

-- a node's records, the newest first; whether it is up; which of its next appends will fail, if one will; its role; its work, and how many known deltas it has replayed
pub record Node (V S : Type 0) : Type 0 where
  pub log : List (Rec V S)
  pub up : Bool
  pub armed : Option Failure
  pub role : Role V
  pub work : Work
  pub replayed : ℕ

-- a node before the first line
abbrev pub new_node : {V S : Type 0} → Node V S
new_node = record { log = []; up = true; armed = None; role = Follower; work = no_work; replayed = 0 }

-- a node that is down has its records and nothing else, and has replayed its base; its keeper may have been armed
abbrev pub down_node : {V S : Type 0} → List (Rec V S) → Option Failure → Node V S
down_node log armed = record { log = log; up = false; armed = armed; role = Follower; work = no_work; replayed = base log }
