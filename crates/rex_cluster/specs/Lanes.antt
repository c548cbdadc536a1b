-- What a node does on the schedule lines of clients and lanes, and the cut of its live events.
use Rattle.std.specs.Prelude.{ℕ, suc, ◌+◌, ◌&&◌, pos, Bool, true, false, List, [], ◌∷◌, ◌++◌, length, min, nat_le, Option, Some, None, if◌then◌else◌}
use Rattle.rand_pcg.specs.Pcg.{pcg32}
use Rattle.rex_syntax.specs.declared.request.Request.{Request}
use Rattle.rex_syntax.specs.declared.service.Declarations.{Declarations}
use Rattle.rex_event.specs.declared.event.Event.{Event}
use Rattle.rex_event.specs.Cuts.{below}
use Rattle.rex_cut.specs.Greatest.{greatest_cut}
use Rattle.rex_cut.specs.Delta.{delta_at}
use Rattle.rex_delta.specs.Spelling.{delta_bytes}
use Rattle.rex_state.specs.Value.{StateValue}
use Rattle.rex_state.specs.Counts.{counts_of}
use Rattle.rex_record.specs.declared.turns.Turn.{Turn}
use Rattle.rex_record.specs.declared.turns.Turn.TheVariants as turn
use Rattle.rex_record.specs.Turn.{turn_of, does_draw, dice_after}
use Rattle.rex_record.specs.Value.{live_after, queue_after, queued_in}
use Rattle.rex_report.specs.declared.effect.Effect.{Effect}
use Rattle.rex_report.specs.declared.effect.Effect.TheVariants as effect
use Rattle.rex_report.specs.declared.effect.Effect.TheVariants.{Proposes, Nothing, Recorded, Idle, Held, Unsignalled, Zero, Full, NotActive, Ended, Open}
use Rattle.rex_gate.specs.declared.answer.Answer.{Answer}
use Rattle.rex_gate.specs.declared.answer.Answer.TheVariants.{Queued, Waiting, Released, Old, Gap}
use Rattle.rex_gate.specs.Answer.{answer_to}
use Rattle.rex_cluster.specs.Records.{Proposal, known}
use Rattle.rex_cluster.specs.Node.{Lead, Role, Work, Node, role_name}
use Rattle.rex_cluster.specs.Node.Role.{Follower, Leads}
use Rattle.rex_cluster.specs.Calls.{Call, say, propose, settle, enough}
use Rattle.rex_cluster.specs.Values.{Value, events_of, trace_of, state_after, service_of}
use Rattle.rex_cluster.specs.Same.{same_events}
use Rattle.rex_ballot.specs.declared.ballots.TheConstants.{INSTANCES}

-- a node and a call of the service's cluster
abbrev pub Here : Type 0
Here = Node Value StateValue

abbrev pub CallHere : Type 0
CallHere = Call Value StateValue

-- a node's trace: its known deltas, then its live events
abbrev pub node_trace : Here → List Event
node_trace x = trace_of (known x.log) ++ x.work.live

-- the state after its known deltas, and the live one
abbrev pub known_state : Declarations → Here → StateValue
known_state service x = state_after service (trace_of (known x.log))

abbrev pub live_state : Declarations → Here → StateValue
live_state service x = state_after service (node_trace x)

-- an active node does as this says; only an active node can do it
abbrev pub active_only : Bool → CallHere → CallHere → CallHere
active_only true d e = e
active_only false d e = say (NotActive (role_name d.node.role)) d

-- ---- submit

-- an answer as it is reported
abbrev pub effect_of : Request → Answer → Effect
effect_of r Queued = effect.Queued
effect_of r Waiting = effect.Waiting
effect_of r (Released value) = effect.Released r.client r.sequence value
effect_of r (Old last) = effect.Old last
effect_of r (Gap expected) = effect.Gap expected

-- a request that is answered `Queued` joins the queue
abbrev pub queue_with : List Request → Request → Answer → List Request
queue_with queue r Queued = queue ++ r ∷ []
queue_with queue r _ = queue

-- the node's work alone is another one, and it reports this
abbrev pub worked : Work → Effect → CallHere → CallHere
worked work e d = record d { node = record d.node { work = work }; effects = d.effects ++ e ∷ [] }

-- the queue and the report after an answer
abbrev pub answered : Request → Answer → CallHere → CallHere
answered r answer d = worked (record d.node.work { queue = queue_with d.node.work.queue r answer }) (effect_of r answer) d

abbrev pub submit_request : Declarations → Option Request → CallHere → CallHere
submit_request service None d = say Nothing d
submit_request service (Some r) d =
    answered r (answer_to r (queued_in d.node.work.queue r.client) (live_state service d.node).clients (known_state service d.node).clients) d

-- ---- lane

-- what a lane's turn reports; none is unfit
abbrev pub turn_effect : ℕ → Turn → Effect
turn_effect lane (turn.Done e) = Recorded e
turn_effect lane turn.Full = Full lane
turn_effect lane turn.Idle = Idle lane
turn_effect lane (turn.Held by) = Held lane by
turn_effect lane turn.Unsignalled = Unsignalled lane
turn_effect lane (turn.Zero semaphore) = Zero lane semaphore
turn_effect lane turn.Unfit = Nothing

-- the turn of a lane: the clock is the number of lines done, and a random number the generator's next
abbrev pub turn_in : Declarations → Here → ℕ → ℕ → Turn
turn_in service x done lane = turn_of service (live_state service x) x.work.queue (length x.work.live) lane (pos done) (pcg32 x.work.dice).0

abbrev pub turned : Declarations → ℕ → Turn → CallHere → CallHere
turned service lane t d =
    worked (record {
      queue = queue_after d.node.work.queue t;
      live = live_after d.node.work.live t;
      dice = dice_after (does_draw service (live_state service d.node) (length d.node.work.live) lane) d.node.work.dice;
    }) (turn_effect lane t) d

abbrev pub lane_turn : Declarations → ℕ → ℕ → CallHere → CallHere
lane_turn service done lane d = turned service lane (turn_in service d.node done lane) d

-- ---- cut

-- for each lane how many events it did at most at a cut: those before the live ones, and of these as many as its limit
abbrev pub limits_between : List ℕ → List ℕ → List ℕ → List ℕ
limits_between (first ∷ firsts) (last ∷ lasts) (limit ∷ limits) = min (first + limit) last ∷ limits_between firsts lasts limits
limits_between _ _ _ = []

-- all live events
abbrev pub no_limits : Declarations → Here → List ℕ
no_limits service x = counts_of (live_state service x)

-- at most so many live events of each lane
abbrev pub with_limits : Declarations → Here → List ℕ → List ℕ
with_limits service x limits = limits_between (counts_of (known_state service x)) (counts_of (live_state service x)) limits

-- the delta of the live events below a cut, as bytes
abbrev pub value_at : List ℕ → List Event → Value
value_at cut live = delta_bytes (delta_at cut live)

-- it proposes the delta of a cut as the next instance
abbrev pub propose_cut : Declarations → ℕ → ℕ → ℕ → List ℕ → Lead Value → CallHere → CallHere
propose_cut service seed n me cut l d =
    propose n me (Proposes me (suc (length (known d.node.log))) (length (below cut d.node.work.live))) d l (suc (length (known d.node.log))) (value_at cut d.node.work.live)
    (settle (enough l.reported) n (service_of service seed) me)

-- the bytes of the delta of a cut give its events back, and they run after what is known; so it is wherever numbers are in their ranges
abbrev pub is_faithful : Declarations → ℕ → List Value → List ℕ → List Event → Bool
is_faithful service seed values cut live =
    (service_of service seed).fits (values ++ value_at cut live ∷ []) && same_events (events_of (value_at cut live)) (below cut live)

-- a cut below which there is no live event proposes nothing, nor does one that isn't faithful
abbrev pub cut_live : Declarations → ℕ → ℕ → ℕ → List ℕ → Lead Value → List Event → CallHere → CallHere
cut_live service seed n me cut l [] d = say Nothing d
cut_live service seed n me cut l (e ∷ es) d =
    if is_faithful service seed (known d.node.log) cut d.node.work.live then propose_cut service seed n me cut l d else say Nothing d

-- it proposes where it has no open proposal, an instance is left, and a live event is below the greatest consistent cut under these counts
abbrev pub cut_lead : Declarations → ℕ → ℕ → ℕ → List ℕ → Lead Value → Option (Proposal Value) → CallHere → CallHere
cut_lead service seed n me counts l (Some p) d = say (Open p.instance) d
cut_lead service seed n me counts l None d =
    if nat_le INSTANCES (length (known d.node.log)) then say Ended d
    else cut_live service seed n me (greatest_cut counts d.node.work.live) l (below (greatest_cut counts d.node.work.live) d.node.work.live) d

abbrev pub cut_role : Declarations → ℕ → ℕ → ℕ → List ℕ → Role Value → CallHere → CallHere
cut_role service seed n me counts Follower d = say (NotActive (role_name d.node.role)) d
cut_role service seed n me counts (Leads l) d = active_only l.active d (cut_lead service seed n me counts l l.proposal d)

abbrev pub cut : Declarations → ℕ → ℕ → ℕ → List ℕ → CallHere → CallHere
cut service seed n me counts d = cut_role service seed n me counts d.node.role d
