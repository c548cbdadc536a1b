-- States that are told, or taken over, for values that a node doesn't hold.
use Rattle.std.specs.Prelude.{◌≡◌, ◌⊎◌, ℕ, suc, ◌<◌, ◌≤◌, ◌-◌, Bool, List, [], ◌∷◌, ◌++◌, drop, length, max, Result, Ok, Err, Option, Some, None, IfOk, OnOk, nat_le, if◌then◌else◌}
use Rattle.std.specs.List.{All}
use Rattle.rex_ballot.specs.Proposals.{IsValue}
use Rattle.rex_paxos.specs.Acceptor.{forgetting}
use Rattle.rex_syntax.specs.declared.service.Declarations.{Declarations}
use Rattle.rex_state.specs.Value.{StateValue}
use Rattle.rex_state.specs.Start.{start_of}
use Rattle.rex_state.specs.Machine.{run}
use Rattle.rex_syntax.specs.declared.version.Version.TheVariants.{Two}
use Rattle.rex_snapshot.specs.Allowed.{version_in}
use Rattle.rex_snapshot.specs.Reading.{state_in}
use Rattle.rex_durable.specs.Spelling.{record_bytes}
use Rattle.rex_durable.specs.declared.records.Rec.TheVariants.{Transferred}
use Rattle.rex_msg.specs.declared.message.Message.{Message}
use Rattle.rex_msg.specs.declared.message.Content.{Content}
use Rattle.rex_msg.specs.declared.message.Content.TheVariants as sent
use Rattle.rex_cluster.specs.Reading.{last_reply}
use Rattle.rex_cluster.specs.Records.{known}
use Rattle.rex_cluster.specs.Values.{Value, trace_of}
use Rattle.rex_cluster.specs.Lanes.{Here}
use Rattle.rex_log.specs.Log.{first}
use Rattle.rex_node.specs.declared.refusal.Refusal.{Refusal}
use Rattle.rex_node.specs.declared.refusal.Refusal.TheVariants as why
use Rattle.rex_node.specs.declared.step.Draft.{Draft}
use Rattle.rex_node.specs.declared.step.Step.{Step}
use Rattle.rex_node.specs.Parts.{NodeValue}

-- the first so many values of the past run to the state
abbrev pub LeadTo : Declarations → List Value → ℕ → StateValue → Type 0
LeadTo service past k s = run service (start_of service) (trace_of (first k past)) ≡ Some s

-- where a message tells a state, and its bytes spell one, that is the state to which the values before it run
abbrev pub IsRight : Declarations → List Value → Content → Type 0
IsRight service past (sent.Snapshot k bytes) = (s : StateValue) → state_in service bytes ≡ Ok s → LeadTo service past k s
IsRight service past _ = Unit {0}

-- so it is, and its bytes spell one, in the new version; and the past has the values before it
pub record TellsState (service : Declarations) (past : List Value) (k : ℕ) (bytes : List ℕ) : Type 0 where
  pub state : StateValue
  pub spelled : state_in service bytes ≡ Ok state
  pub version : version_in bytes ≡ Two
  pub leads : LeadTo service past k state
  pub there : k ≤ length past
  pub short : IsValue bytes

abbrev pub IsTold : Declarations → List Value → Content → Type 0
IsTold service past (sent.Snapshot k bytes) = TellsState service past k bytes
IsTold service past _ = Unit {0}

-- each message that tells a state does so
abbrev pub AreTold : Declarations → List Value → List Message → Type 0
AreTold service past ms = All (λ (m : Message). IsTold service past m.content) ms

-- each message of a step does so, where a call answers one
abbrev pub StepTells : Declarations → List Value → Result Step Refusal → Type 0
StepTells service past result = IfOk result (λ step. AreTold service past step.sends)

-- each message that a part of a call sends does so, where nothing was sent before
abbrev pub TellsAfter : {A E : Type 0} → Declarations → List Value → (before after : Draft) → Result A E → Type 0
TellsAfter service past before after result = before.sends.items ≡ [] → OnOk result (AreTold service past after.sends.items)

-- a message that tells a state adds no record, or the one that holds its own bytes
abbrev pub KeepsAsTold : Content → List (List ℕ) → List (List ℕ) → Type 0
KeepsAsTold (sent.Snapshot k bytes) before after = (after ≡ before) ⊎ (after ≡ before ++ record_bytes (Transferred k bytes) ∷ [])
KeepsAsTold _ before after = Unit {0}

-- a state that isn't read is refused for its first bad field, unless memory ran out
abbrev pub RefusesState : Result StateValue ℕ → Refusal → Type 0
RefusesState read (why.BadSnapshot at) = read ≡ Err at
RefusesState read why.OutOfMemory = Unit {0}
RefusesState read refusal = ⊥

-- where the bytes of a state are bad that is told after more values than are known
abbrev pub bad_state : Result StateValue ℕ → Option Refusal
bad_state (Ok s) = None
bad_state (Err at) = Some (why.BadSnapshot at)

abbrev pub refusal_of_content : Declarations → Here → Content → Option Refusal
refusal_of_content service h (sent.Snapshot k bytes) = if nat_le k (length (known h.log)) then None else bad_state (state_in service bytes)
refusal_of_content service h _ = None

-- this is the state that a message tells, where it is one after more values than are known
abbrev pub IsToldState : Declarations → ℕ → Content → Option StateValue → Type 0
IsToldState service many (sent.Snapshot k bytes) None = k ≤ many
IsToldState service many (sent.Snapshot k bytes) (Some s) = (many < k) × (state_in service bytes ≡ Ok s)
IsToldState service many _ told = told ≡ None

-- or so it is refused
abbrev pub RefusesContent : Declarations → ℕ → Content → Refusal → Type 0
RefusesContent service many (sent.Snapshot k bytes) refusal = (many < k) × RefusesState (state_in service bytes) refusal
RefusesContent service many _ refusal = ⊥

-- the number of the last value with a reply to the client among those that are held, or the offset, if none of them has one
abbrev pub last_held : ℕ → List Value → ℕ → ℕ
last_held offset held client = max (last_reply client (suc offset) held) offset

-- the node forgot the values up to its base, and what it accepted for their instances
abbrev pub dropped : {K : Type 0} → NodeValue K → ℕ → NodeValue K
dropped x k = record x { reached = None; offset = k; known = drop (k - x.offset) x.known; acceptor = forgetting x.acceptor k }

-- the node is at the state after so many values, and holds none of them
abbrev pub moved : {K : Type 0} → NodeValue K → ℕ → StateValue → NodeValue K
moved x k s = record x { offset = k; known = []; acceptor = forgetting x.acceptor k; base = k; start = s; replayed = k; ahead = None; reached = None }

-- a node that is down, whose record of a state that was taken over was kept or lost
abbrev pub fallen_moved : {K : Type 0} → Bool → NodeValue K → ℕ → NodeValue K
fallen_moved kept x k = record x { base = if kept then k else x.base; replayed = if kept then k else x.replayed }
