-- What a part of a call does: it goes on to the next part, or its append fails and the node is down.
use Rattle.std.specs.Prelude.{◌≡◌, ◌⊎◌, ℕ, suc, ◌+◌, ◌*◌, ◌<◌, ◌≤◌, true, false, nat_lt, List, [], ◌∷◌, ◌++◌, length, map, Result, Ok, Err, Option, Some, None, IfOk, IfSome, OnErr, if◌then◌else◌}
use Rattle.std.specs.declared.alloc.AllocError.{AllocError}
use Rattle.rex_ballot.specs.declared.proposal.Proposal.{Proposal as Kept}
use Rattle.rex_msg.specs.declared.message.Message.{Message}
use Rattle.rex_msg.specs.declared.message.Content.{Content}
use Rattle.rex_msg.specs.declared.message.Content.TheVariants as sent
use Rattle.rex_ballot.specs.Proposals.{IsValue}
use Rattle.rex_syntax.specs.declared.version.Version.TheVariants.{Two}
use Rattle.rex_snapshot.specs.Allowed.{version_in}
use Rattle.rex_snapshot.specs.Reading.{state_in}
use Rattle.rex_paxos.specs.Proposer.{ProposerValue}
use Rattle.rex_syntax.specs.declared.service.Declarations.{Declarations}
use Rattle.rex_report.specs.declared.effect.Effect.{Effect}
use Rattle.rex_report.specs.declared.effect.Effect.TheVariants as effect
use Rattle.rex_traits.specs.Chains.{Answer, AppendsInTurn}
use Rattle.rex_cluster.specs.Records.{known, base}
use Rattle.rex_cluster.specs.Node.{Failure}
use Rattle.rex_cluster.specs.Node.Failure.{After}
use Rattle.rex_cluster.specs.Lanes.{CallHere}
use Rattle.rex_cluster.specs.Values.{Value, values_fit}
use Rattle.rex_node.specs.declared.going.Going.{Going}
use Rattle.rex_node.specs.declared.going.Going.TheVariants.{On, Down}
use Rattle.rex_node.specs.declared.refusal.Refusal.{Refusal}
use Rattle.rex_node.specs.declared.refusal.Refusal.TheVariants as why
use Rattle.rex_node.specs.declared.step.Draft.{Draft}
use Rattle.rex_node.specs.declared.step.Step.{Step}
use Rattle.rex_log.specs.Messages.{message_in}
use Rattle.rex_node.specs.Stated.{AreStated}
use Rattle.rex_log.specs.Log.{log_of}
use Rattle.rex_node.specs.Parts.{NodeValue, IsDown, IsKept, IsResting, IsSame, Keeps, Falls, Stands, fallen, here_of, whole as all_of}
use Rattle.rex_node.specs.Calls.{armed_with, FailsAfter, StopsShort}

-- the call of the model that has come to this node, and has sent and reported what the draft has
abbrev pub so_far : {K : Type 0} → (K → List (List ℕ)) → Declarations → List Value → NodeValue K → Draft → CallHere
so_far records service past x draft = record { node = here_of records service past x; sends = map (message_in past) draft.sends.items; effects = draft.effects.items }

-- these effects come after those before, and no message
pub record Tells (before after : Draft) (effects : List Effect) : Type 0 where
  pub effects_are : after.effects.items ≡ before.effects.items ++ effects
  pub sends_are : after.sends.items ≡ before.sends.items

-- these messages come after those before, and no effect
pub record Sends (before after : Draft) (messages : List Message) : Type 0 where
  pub effects_are : after.effects.items ≡ before.effects.items
  pub sends_are : after.sends.items ≡ before.sends.items ++ messages

-- one message
abbrev pub answering : ℕ → ℕ → Content → List Message
answering from to content = record { from = from; to = to; content = content } ∷ []

-- the state at the base is told, in the new version, by one message
pub record TellsBase {K : Type 0} (service : Declarations) (x : NodeValue K) (to : ℕ) (before after : Draft) : Type 0 where
  pub snapshot : List ℕ
  pub spelled : state_in service snapshot ≡ Ok x.start
  pub version : version_in snapshot ≡ Two
  pub short : IsValue snapshot
  pub sends : Sends before after (answering x.id to (sent.Snapshot x.base snapshot))

-- a failure as it was named one append earlier
abbrev pub one_later : Option Failure → Option Failure
one_later None = None
one_later (Some (After before kept)) = Some (After (suc before) kept)

-- and as it was named before these were appended
abbrev pub later : List (List ℕ) → Option Failure → Option Failure
later [] failure = failure
later (bytes ∷ written) failure = one_later (later written failure)

-- appends went well, one after the other, each state in them being spelled; under whatever failure after them, the whole comes to what the rest makes of what has come of it
pub record Leads {K : Type 0} (records : K → List (List ℕ)) (gives : K → List ℕ → Answer → K → Type 0) (faults : K → ℕ) (service : Declarations) (whole rest : CallHere → CallHere) (old new : K) (before after : CallHere) : Type 0 where
  pub written : List (List ℕ)
  pub grown : records new ≡ records old ++ written
  pub appends : AppendsInTurn gives old written (Ok tt) new
  pub counted : faults new ≡ faults old
  pub stated : AreStated service written
  pub many : length after.node.log ≡ length written + length before.node.log
  pub comes : (failure : Option Failure) → whole (armed_with (later written failure) before) ≡ rest (armed_with failure after)

-- an append failed: the node is down, the call has told so last, and sends nothing
pub record Fell {K : Type 0} (records : K → List (List ℕ)) (gives : K → List ℕ → Answer → K → Type 0) (faults : K → ℕ) (service : Declarations) (whole : CallHere → CallHere) (id : ℕ) (old new : K) (before after : CallHere) : Type 0 where
  pub fails : FailsAfter records gives faults service whole old new before after
  pub front : List Effect
  pub told : after.effects ≡ front ++ effect.Down id ∷ []
  pub quiet : after.sends ≡ []

-- what a part of a call comes to: the rest of the call goes on from here, or the whole has ended with the node down
abbrev pub Comes : {K : Type 0} → (K → List (List ℕ)) → (K → List ℕ → Answer → K → Type 0) → (K → ℕ) → Declarations → List Value → (whole rest : CallHere → CallHere) → (old new : NodeValue K) → (before after : Draft) → Going → Type 0
Comes records gives faults service past whole rest old new before after On =
    Leads records gives faults service whole rest old.keeper new.keeper (so_far records service past old before) (so_far records service past new after) × IsKept records service past new × (new.up ≡ true)
Comes records gives faults service past whole rest old new before after Down =
    Fell records gives faults service whole old.id old.keeper new.keeper (so_far records service past old before) (so_far records service past new after) × IsDown new

-- the same of the last part: nothing is left of the call
abbrev pub Ends : {K : Type 0} → (K → List (List ℕ)) → (K → List ℕ → Answer → K → Type 0) → (K → ℕ) → Declarations → List Value → (CallHere → CallHere) → (old new : NodeValue K) → (before after : Draft) → Going → Type 0
Ends records gives faults service past whole old new before after going = Comes records gives faults service past whole (λ d. d) old new before after going × IsResting records service past new

-- a part of a call has stopped short after appends, and the node's base is that of its records
pub record BreaksOff {K : Type 0} (records : K → List (List ℕ)) (gives : K → List ℕ → Answer → K → Type 0) (faults : K → ℕ) (service : Declarations) (past : List Value) (whole : CallHere → CallHere) (old new : NodeValue K) (before : Draft) : Type 0 where
  pub stops : StopsShort records gives faults service whole old.keeper new.keeper (so_far records service past old before) (log_of service past (records new.keeper))
  pub based : new.base ≡ base (log_of service past (records new.keeper))

-- memory was short: nothing has changed, or the part has broken off after appends
abbrev pub IsStuck : {K : Type 0} → (K → List (List ℕ)) → (K → List ℕ → Answer → K → Type 0) → (K → ℕ) → Declarations → List Value → (CallHere → CallHere) → (old new : NodeValue K) → Draft → Type 0
IsStuck records gives faults service past whole old new before = Stands records faults gives old new ⊎ BreaksOff records gives faults service past whole old new before

-- what a part of a call comes to that is this one of the model to its end: it ends so, or memory was short; and the node is the same
pub record Goes {K : Type 0} (records : K → List (List ℕ)) (gives : K → List ℕ → Answer → K → Type 0) (faults : K → ℕ) (service : Declarations) (past : List Value) (call : CallHere → CallHere) (old new : NodeValue K) (before after : Draft) (result : Result Going AllocError) : Type 0 where
  pub ends : IfOk result (Ends records gives faults service past call (all_of past old) (all_of past new) before after)
  pub stuck : OnErr result (IsStuck records gives faults service past call (all_of past old) (all_of past new) before)
  pub same : IsSame (all_of past old) (all_of past new)

-- what is left of a call appends nothing where its first append fails and loses its record
abbrev pub LosesFirst : (CallHere → CallHere) → Type 0
LosesFirst rest = (d : CallHere) → (rest (armed_with (Some (After 0 false)) d)).node.log ≡ d.node.log

-- the record is kept, and the draft is as it was; or the append failed, the node is down, the draft tells so last and sends nothing
abbrev pub Appends : {K : Type 0} → (K → List (List ℕ)) → (K → ℕ) → (K → List ℕ → Answer → K → Type 0) → (old new : NodeValue K) → (before after : Draft) → List ℕ → Going → Type 0
Appends records faults gives old new before after bytes On = Keeps records faults gives old new bytes × (after.effects.items ≡ before.effects.items) × (after.sends.items ≡ before.sends.items)
Appends records faults gives old new before after bytes Down = Falls records faults gives old new bytes × (after.effects.items ≡ before.effects.items ++ effect.Down old.id ∷ []) × (after.sends.items ≡ [])

-- so an append comes out, or memory was short and nothing has changed; and the node is the same
pub record AppendsOr {K : Type 0} (records : K → List (List ℕ)) (faults : K → ℕ) (gives : K → List ℕ → Answer → K → Type 0) (past : List Value) (old new : NodeValue K) (before after : Draft) (bytes : List ℕ) (result : Result Going AllocError) : Type 0 where
  pub appends : IfOk result (Appends records faults gives (all_of past old) (all_of past new) before after bytes)
  pub stands : OnErr result (Stands records faults gives (all_of past old) (all_of past new))
  pub same : IsSame (all_of past old) (all_of past new)

-- a call ends as it came: with the step of its draft, or without memory, and then with its node down where its keeper has more records than before
abbrev pub Finishes : {K : Type 0} → (K → List (List ℕ)) → ℕ → Draft → Result Going AllocError → (old new : NodeValue K) → Result Step Refusal → Type 0
Finishes records before draft (Ok going) old new (Ok step) = (new ≡ old) × (step.effects ≡ draft.effects.items) × (step.sends ≡ draft.sends.items)
Finishes records before draft (Ok going) old new (Err refusal) = ⊥
Finishes records before draft (Err e) old new (Ok step) = ⊥
Finishes records before draft (Err e) old new (Err refusal) =
    (refusal ≡ why.OutOfMemory) × (before < length (records old.keeper) → new ≡ fallen old) × (length (records old.keeper) ≤ before → new ≡ old)

-- how many of these proposals are for instances past those that are known
abbrev pub above : ℕ → List Kept → ℕ
above known [] = 0
above known (p ∷ ps) = if nat_lt known p.instance then suc (above known ps) else above known ps

-- so many turns of the model are enough: two for each proposal that was reported past what the node knows, and one
abbrev pub HasTurns : {K : Type 0} → NodeValue K → ℕ → Type 0
HasTurns x turns = IfSome x.proposer (λ (p : ProposerValue). 2 * above (length x.known) p.reported + 1 ≤ turns)

-- what the node knows after the rest of a call are deltas that run from the start
abbrev pub RunsOn : Declarations → (CallHere → CallHere) → CallHere → Type 0
RunsOn service rest d = values_fit service (known (rest d).node.log) ≡ true
