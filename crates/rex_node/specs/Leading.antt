-- What the parts of a call do by which a node that leads, or asks to, goes on.
use Rattle.std.specs.Prelude.{◌≡◌, ℕ, ◌-◌, ◌<◌, ◌≤◌, ◌&&◌, Bool, true, false, not, List, [], ◌∷◌, ◌++◌, length, map, unwrap_or, is_some, is_none, Option, Some, None, option_map, IfOk, IfSome, IsSome, OnErr, Result, ◌⊎◌, ◌+◌, ◌^◌}
use Rattle.std.specs.declared.alloc.AllocError.{AllocError}
use Rattle.rex_ballot.specs.Ballot.{IsInstance}
use Rattle.rex_ballot.specs.Proposals.{IsValue}
use Rattle.rex_ballot.specs.declared.proposal.Proposal.{Proposal as Kept}
use Rattle.rex_paxos.specs.Reports.{best_for}
use Rattle.rex_state.specs.Value.{StateValue}
use Rattle.rex_state.specs.Start.{start_of}
use Rattle.rex_state.specs.Machine.{run}
use Rattle.rex_state.specs.Sound.{IsSound}
use Rattle.rex_syntax.specs.declared.service.Declarations.{Declarations}
use Rattle.rex_report.specs.declared.effect.Effect.{Effect}
use Rattle.rex_paxos.specs.Acceptor.{AcceptorValue, accepting}
use Rattle.rex_paxos.specs.Proposer.{ProposerValue, is_candidate, proposed, closed}
use Rattle.rex_event.specs.Cuts.{IsConsistent, below}
use Rattle.rex_record.specs.Value.{settled, releases, started}
use Rattle.rex_record.specs.Kept.{IsRecorder}
use Rattle.rex_gate.specs.Noted.{AnswersValue, answers_at, noting}
use Rattle.rex_traits.specs.Chains.{Answer}
use Rattle.rex_cluster.specs.Records.{proposal_of}
use Rattle.rex_cluster.specs.Node.{Lead, dice_of}
use Rattle.rex_cluster.specs.Calls.{leading, led, propose, decide, settle}
use Rattle.rex_cluster.specs.Values.{Value, service_of, release_effect, trace_of}
use Rattle.rex_cluster.specs.Lanes.{CallHere}
use Rattle.rex_node.specs.declared.going.Going.{Going}
use Rattle.rex_node.specs.declared.going.Going.TheVariants.{On, Down}
use Rattle.rex_node.specs.declared.going.Round.{Round}
use Rattle.rex_node.specs.declared.going.Round.TheVariants.{Again, Done}
use Rattle.rex_node.specs.declared.step.Draft.{Draft}
use Rattle.rex_node.specs.Parts.{NodeValue, ActingValue, IsCutAt, IsKept, IsSame, Stands, lead_of, reached_at, whole}
use Rattle.rex_node.specs.Going.{BreaksOff, Comes, Ends, IsStuck, LosesFirst, HasTurns, RunsOn, so_far}

-- this holds of what the node leads with, where it does
abbrev pub FromLead : {K : Type 0} → NodeValue K → (Lead Value → Type 0) → Type 0
FromLead x P = IfSome x.proposer (λ (p : ProposerValue). P (lead_of x.acceptor p (is_some x.acting)))

-- a node that is active proposes a value that is a cut of what it executes
abbrev pub IsOwnCut : {K : Type 0} → Declarations → NodeValue K → Value → Type 0
IsOwnCut service x value = IfSome x.acting (λ (a : ActingValue). IsCutAt service x.known a value)

-- ---- proposing

-- what it asks of a node to propose a value, or to know it: the node is up and leads, the instance is its next one, and the value one that it may propose
pub record MayPropose {K : Type 0} (records : K → List (List ℕ)) (faults : K → ℕ) (service : Declarations) (past : List Value) (x : NodeValue K) (instance : ℕ) (value : Value) : Type 0 where
  pub kept : IsKept records service past x
  pub up : x.up ≡ true
  pub leads : IsSome x.proposer
  pub next : instance ≡ length x.known + 1
  pub there : IsInstance instance
  pub short : IsValue value
  pub cut : IsOwnCut service x value
  pub count : faults x.keeper < 2 ^ 64 - 1

-- the call proposes the value, with this told, and the rest of it begins with the proposal open
abbrev pub Opens : {K : Type 0} → (K → List (List ℕ)) → (K → List ℕ → Answer → K → Type 0) → (K → ℕ) → Declarations → List Value → Effect → ℕ → Value → (old new : NodeValue K) → (before after : Draft) → Going → Type 0
Opens records gives faults service past told instance value old new before after going =
    FromLead old (λ l. (k : CallHere → CallHere) →
    Comes records gives faults service past (λ d. propose old.nodes old.id told d l instance value k)
    (λ d. k (led (leading l (Some (proposal_of l.ballot instance value)) (old.id ∷ []) l.active) d))
    old new before after going)

-- memory was short as it did: nothing has changed, or the call broke off with the acceptance written down, whatever is left of it
abbrev pub OpensShort : {K : Type 0} → (K → List (List ℕ)) → (K → List ℕ → Answer → K → Type 0) → (K → ℕ) → Declarations → List Value → Effect → ℕ → Value → (old new : NodeValue K) → Draft → Type 0
OpensShort records gives faults service past told instance value old new before =
    Stands records faults gives old new
    ⊎ FromLead old (λ l. (k : CallHere → CallHere) → LosesFirst k → BreaksOff records gives faults service past (λ d. propose old.nodes old.id told d l instance value k) old new before)

-- what the node itself accepts, where it leads
abbrev pub accept_own : Option ProposerValue → AcceptorValue → ℕ → Value → AcceptorValue
accept_own None a instance value = a
accept_own (Some p) a instance value = accepting a (record { instance = instance; ballot = p.ballot; value = value })

-- the node has accepted the value itself, and counts that
abbrev pub opened : {K : Type 0} → NodeValue K → ℕ → Value → NodeValue K
opened x instance value = record x {
  acceptor = accept_own x.proposer x.acceptor instance value;
  proposer = option_map (λ (p : ProposerValue). proposed p instance) x.proposer;
}

-- so it is where the call goes on
abbrev pub HasOpened : {K : Type 0} → NodeValue K → NodeValue K → ℕ → Value → Going → Type 0
HasOpened old new instance value On = new ≡ record (opened old instance value) { keeper = new.keeper }
HasOpened old new instance value Down = Unit {0}

-- an append came after others where the call goes on
abbrev pub IsLonger : {K : Type 0} → (K → List (List ℕ)) → NodeValue K → NodeValue K → Going → Type 0
IsLonger records old new On = length (records old.keeper) < length (records new.keeper)
IsLonger records old new Down = Unit {0}

-- what a part of a call comes to that proposes a value: the proposal is open, or the node is down; or memory was short; and the node is the same
pub record OpensOr {K : Type 0} (records : K → List (List ℕ)) (gives : K → List ℕ → Answer → K → Type 0) (faults : K → ℕ) (service : Declarations) (past : List Value) (told : Effect) (instance : ℕ) (value : Value) (old new : NodeValue K) (before after : Draft) (result : Result Going AllocError) : Type 0 where
  pub opens : IfOk result (Opens records gives faults service past told instance value (whole past old) (whole past new) before after)
  pub parts : IfOk result (HasOpened (whole past old) (whole past new) instance value)
  pub longer : IfOk result (IsLonger records (whole past old) (whole past new))
  pub stuck : OnErr result (OpensShort records gives faults service past told instance value (whole past old) (whole past new) before)
  pub same : IsSame (whole past old) (whole past new)

-- ---- knowing

-- the call makes the value known that its node leads to
abbrev pub Learns : {K : Type 0} → (K → List (List ℕ)) → (K → List ℕ → Answer → K → Type 0) → (K → ℕ) → Declarations → List Value → ℕ → Value → (old new : NodeValue K) → (before after : Draft) → Going → Type 0
Learns records gives faults service past instance value old new before after going =
    FromLead old (λ l. (k : CallHere → CallHere) →
    Comes records gives faults service past (λ d. decide old.nodes (service_of service old.seed) old.id d l instance value k) k old new before after going)

-- memory was short as it did: nothing has changed, or the call broke off with the known value written down, whatever is left of it
abbrev pub LearnsShort : {K : Type 0} → (K → List (List ℕ)) → (K → List ℕ → Answer → K → Type 0) → (K → ℕ) → Declarations → List Value → ℕ → Value → (old new : NodeValue K) → Draft → Type 0
LearnsShort records gives faults service past instance value old new before =
    Stands records faults gives old new
    ⊎ FromLead old (λ l. (k : CallHere → CallHere) → LosesFirst k → BreaksOff records gives faults service past (λ d. decide old.nodes (service_of service old.seed) old.id d l instance value k) old new before)

-- what is executed once the events below the cut are known, and what is known of the clients then
abbrev pub settling : Declarations → ActingValue → ActingValue
settling service a = record a { recorder = settled service a.recorder a.proposed; answers = noting a.answers (below a.proposed a.recorder.live) }

-- the recorder can settle at the cut that was proposed last
pub record CanSettle (service : Declarations) (a : ActingValue) : Type 0 where
  pub recorder : IsRecorder service a.recorder
  pub consistent : IsConsistent a.recorder.live a.proposed

-- the replies among the events below the cut that an active node proposed last
abbrev pub releases_in : Option ActingValue → List Effect
releases_in None = []
releases_in (Some a) = map release_effect (releases a.recorder.start.clients (below a.proposed a.recorder.live))

-- an active node has replayed what it knows
abbrev pub replayed_to : Option ActingValue → ℕ → ℕ → ℕ
replayed_to None instance replayed = replayed
replayed_to (Some a) instance replayed = instance

-- the node knows the value of the instance, and no proposal is open
abbrev pub knowing : {K : Type 0} → Declarations → NodeValue K → ℕ → Value → NodeValue K
knowing service x instance value = record x {
  known = x.known ++ value ∷ [];
  replayed = replayed_to x.acting instance x.replayed;
  proposer = option_map closed x.proposer;
  acting = option_map (settling service) x.acting;
}

-- so it is where the call goes on
abbrev pub HasLearned : {K : Type 0} → Declarations → NodeValue K → NodeValue K → ℕ → Value → Going → Type 0
HasLearned service old new instance value On = new ≡ record (knowing service old instance value) { keeper = new.keeper }
HasLearned service old new instance value Down = Unit {0}

-- what a part of a call comes to that makes a value known: it is known, or the node is down; or memory was short; and the node is the same
pub record LearnsOr {K : Type 0} (records : K → List (List ℕ)) (gives : K → List ℕ → Answer → K → Type 0) (faults : K → ℕ) (service : Declarations) (past : List Value) (instance : ℕ) (value : Value) (old new : NodeValue K) (before after : Draft) (result : Result Going AllocError) : Type 0 where
  pub learns : IfOk result (Learns records gives faults service past instance value (whole past old) (whole past new) before after)
  pub parts : IfOk result (HasLearned service (whole past old) (whole past new) instance value)
  pub longer : IfOk result (IsLonger records (whole past old) (whole past new))
  pub stuck : OnErr result (LearnsShort records gives faults service past instance value (whole past old) (whole past new) before)
  pub same : IsSame (whole past old) (whole past new)

-- ---- going on

-- a node goes on where it leads, isn't active, has no open proposal, and a majority promised
abbrev pub may_lead : ProposerValue → Bool → Bool
may_lead p active = not active && is_none p.open_instance && not (is_candidate p)

abbrev pub goes_on : Option ProposerValue → Bool → Bool
goes_on None active = false
goes_on (Some p) active = may_lead p active

-- the value that was reported for an instance, if one was
abbrev pub reported_value : Option ProposerValue → ℕ → Option Value
reported_value None instance = None
reported_value (Some p) instance = option_map (λ (q : Kept). q.value) (best_for instance p.reported)

-- what a node executes that is active from here on
abbrev pub fresh : ℕ → ℕ → StateValue → AnswersValue → ActingValue
fresh seed ballot state answers = record { recorder = started state; dice = dice_of seed ballot; proposed = []; answers = answers }

-- the node is active, with the state after all that it knows
abbrev pub activated : {K : Type 0} → NodeValue K → StateValue → NodeValue K
activated x state = record x { replayed = length x.known; ahead = None; reached = reached_at x.offset x.base (length x.known) state; acting = Some (fresh x.seed (unwrap_or (option_map (λ (p : ProposerValue). p.ballot) x.proposer) 0) state (answers_at state.clients (length x.known))) }

pub record IsActive {K : Type 0} (service : Declarations) (old new : NodeValue K) : Type 0 where
  pub state : StateValue
  pub runs : run service (start_of service) (trace_of old.known) ≡ Some state
  pub sound : IsSound service state
  pub is : new ≡ activated old state

-- no proposal is open, and a majority promised where the node is active
abbrev pub IsFree : Option ProposerValue → Bool → Type 0
IsFree None active = Unit {0}
IsFree (Some p) active = (p.open_instance ≡ None) × (active ≡ true → is_candidate p ≡ false)

-- what going on asks of a node: it is up and free, so many turns are enough, and what it comes to know runs on
pub record MaySettle {K : Type 0} (records : K → List (List ℕ)) (faults : K → ℕ) (service : Declarations) (past : List Value) (turns : ℕ) (x : NodeValue K) (before : Draft) : Type 0 where
  pub kept : IsKept records service past x
  pub up : x.up ≡ true
  pub free : IsFree x.proposer (is_some x.acting)
  pub enough : HasTurns x turns
  pub runs : RunsOn service (settle turns x.nodes (service_of service x.seed) x.id) (so_far records service past x before)
  pub count : faults x.keeper < 2 ^ 64 - 1

-- the call comes to one that has two turns less, after more records; or that was the last round
abbrev pub GoesRound : {K : Type 0} → (K → List (List ℕ)) → (K → List ℕ → Answer → K → Type 0) → (K → ℕ) → Declarations → List Value → ℕ → (old new : NodeValue K) → (before after : Draft) → Round → Type 0
GoesRound records gives faults service past turns old new before after Again =
    Comes records gives faults service past (settle turns old.nodes (service_of service old.seed) old.id) (settle (turns - 2) old.nodes (service_of service old.seed) old.id) old new before after On
    × HasTurns new (turns - 2) × IsFree new.proposer (is_some new.acting) × (3 ≤ turns) × (length (records old.keeper) < length (records new.keeper))
GoesRound records gives faults service past turns old new before after (Done going) =
    Ends records gives faults service past (settle turns old.nodes (service_of service old.seed) old.id) old new before after going

-- so a round comes out, or memory was short; and the node is the same
pub record GoesRoundOr {K : Type 0} (records : K → List (List ℕ)) (gives : K → List ℕ → Answer → K → Type 0) (faults : K → ℕ) (service : Declarations) (past : List Value) (turns : ℕ) (old new : NodeValue K) (before after : Draft) (result : Result Round AllocError) : Type 0 where
  pub goes : IfOk result (GoesRound records gives faults service past turns (whole past old) (whole past new) before after)
  pub stuck : OnErr result (IsStuck records gives faults service past (settle turns old.nodes (service_of service old.seed) old.id) (whole past old) (whole past new) before)
  pub same : IsSame (whole past old) (whole past new)
