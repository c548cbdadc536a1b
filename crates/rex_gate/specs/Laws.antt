-- What noted deltas and answers say of a trace.
use Rattle.std.specs.Prelude.{◌≡◌, ◌<◌, ◌≤◌, ◌+◌, ◌||◌, ◌==◌, ◌⊎◌, ℕ, suc, ℤ, true, false, List, ◌∷◌, ◌++◌, length, Option, Some, None}
use Rattle.rex_syntax.specs.declared.request.Request.{Request}
use Rattle.rex_syntax.specs.declared.service.Declarations.{Declarations}
use Rattle.rex_event.specs.declared.event.Event.{Event}
use Rattle.rex_event.specs.declared.delta.Delta.{Delta}
use Rattle.rex_state.specs.declared.lane.Entry.{Entry}
use Rattle.rex_state.specs.Value.{StateValue}
use Rattle.rex_state.specs.Machine.{entry_at, is_replied, run}
use Rattle.rex_state.specs.Start.{start_of, no_entries}
use Rattle.rex_gate.specs.declared.answer.Answer.TheVariants.{Queued}
use Rattle.rex_gate.specs.Noted.{noted, noted_all, joined, no_answers, answers_at, numbering_all, noting_all, stamp_of}
use Rattle.rex_gate.specs.Numbers.{stamp_of_state, replies_to}
use Rattle.rex_gate.specs.Answer.{answer_of, answer_to}

-- where the entries are a state's, a delta that runs from it leaves those of the state after it
abbrev pub NotingFollowsRuns : Type 0
NotingFollowsRuns = (service : Declarations) (s t : StateValue) (d : Delta) → run service s d.events ≡ Some t → noted s.clients d.events ≡ t.clients

-- what is known of clients once deltas are noted is what the state after these deltas says of them
abbrev pub NotedDeltasAreKnown : Type 0
NotedDeltasAreKnown =
    (service : Declarations) (known : List Delta) (t : StateValue) → run service (start_of service) (joined known) ≡ Some t → noted_all no_entries known ≡ t.clients

-- where the first deltas run to a state, beginning with what it says of clients and noting the others is noting them all: so who doesn't hold the first ones any more knows as much
abbrev pub NotingBeginsAtAState : Type 0
NotingBeginsAtAState =
    (service : Declarations) (first others : List Delta) (t : StateValue) → run service (start_of service) (joined first) ≡ Some t → noted_all t.clients others ≡ noted_all no_entries (first ++ others)

-- the known deltas run from the start to a state from which the live events lead to the live one, and the answers are those that these two states give
pub record AnswersOver (service : Declarations) (known : List Delta) (live : List Event) (s : StateValue) : Type 0 where
  pub state : StateValue
  pub runs : run service (start_of service) (joined known) ≡ Some state
  pub goes_on : run service state live ≡ Some s
  pub answers : (r : Request) (queued : Option ℕ) → answer_to r queued s.clients (noted_all no_entries known) ≡ answer_to r queued s.clients state.clients

-- so it is for every trace that begins with known deltas and runs from the start
abbrev pub AnswersAreOfTheTrace : Type 0
AnswersAreOfTheTrace =
    (service : Declarations) (known : List Delta) (live : List Event) (s : StateValue) → run service (start_of service) (joined known ++ live) ≡ Some s → AnswersOver service known live s

-- the client has no queued request, and sends its next one, all before which are replied to
pub record IsDue (sequence : ℕ) (queued : Option ℕ) (live : Entry) : Type 0 where
  pub none : queued ≡ None
  pub next : sequence ≡ live.sequence + 1
  pub closed : (live.sequence == 0 || is_replied live.reply) ≡ true

-- a request is queued only where it is due: a queued sequence is above 0
abbrev pub QueuedRequestsAreDue : Type 0
QueuedRequestsAreDue =
    (sequence : ℕ) (queued : Option ℕ) (live known : Entry) → ((other : ℕ) → queued ≡ Some other → 0 < other) → answer_of sequence queued live known ≡ Queued
    → IsDue sequence queued live

-- the last of the deltas with a reply to the client, and its number, where the first one's is one above the offset
pub record HoldsLastReply (client offset : ℕ) (ds : List Delta) (stamp : Option ℕ) : Type 0 where
  pub first : List Delta
  pub delta : Delta
  pub later : List Delta
  pub parts : ds ≡ first ++ delta ∷ later
  pub replies : replies_to client delta.events ≡ true
  pub quiet : replies_to client (joined later) ≡ false
  pub number : stamp ≡ Some (offset + suc (length first))

-- a stamp is that number; where no delta has a reply to the client it is 0, if the state had one, and else there is none
abbrev pub IsStamp : ℕ → ℕ → Option ℤ → List Delta → Option ℕ → Type 0
IsStamp client offset reply ds stamp = HoldsLastReply client offset ds stamp ⊎ ((replies_to client (joined ds) ≡ false) × (stamp ≡ (stamp_of_state reply).number))

-- from a state on, once some deltas are numbered and others noted after them, each client's stamp is so
abbrev pub StampsAreOfLastReplies : Type 0
StampsAreOfLastReplies =
    (clients : List Entry) (offset : ℕ) (held others : List Delta) (client : ℕ) → client < length clients → offset + length (held ++ others) ≤ 4294967295
    → IsStamp client offset (entry_at clients client).reply (held ++ others) (stamp_of (noting_all (numbering_all (answers_at clients offset) held) others) client)

-- before any delta is known it is as at the state at the start
abbrev pub AnswersBeginAtTheStart : Type 0
AnswersBeginAtTheStart = no_answers ≡ answers_at no_entries 0
