-- What clients have seen of the agreed values, and what they are told that read a variable at a node.
use Rattle.std.specs.Prelude.{ℕ, suc, ℤ, pos, List, [], ◌∷◌, take, get_or, max, replicate, Option, Some, None, slice_set, slice_index_or, if◌then◌else◌}
use Rattle.rex_syntax.specs.declared.service.Declarations.{Declarations}
use Rattle.rex_state.specs.Value.{StateValue}
use Rattle.rex_report.specs.declared.effect.Effect.{Effect}
use Rattle.rex_report.specs.declared.effect.Effect.TheVariants as effect
use Rattle.rex_gate.specs.Numbers.{replies_to}
use Rattle.rex_reads.specs.declared.seen.Read.{Read as Answer}
use Rattle.rex_reads.specs.declared.seen.Read.TheVariants as read
use Rattle.rex_reads.specs.Reads.{answered}
use Rattle.rex_cluster.specs.Records.{known, offset}
use Rattle.rex_cluster.specs.Node.{is_active}
use Rattle.rex_cluster.specs.Values.{Value, events_of, trace_of, state_after}
use Rattle.rex_cluster.specs.Lanes.{Here}
use Rattle.rex_event.specs.declared.event.TheConstants.{CLIENT_ENTRIES}

-- no client has seen anything
abbrev pub nothing_seen : List ℕ
nothing_seen = replicate CLIENT_ENTRIES 0

-- ---- releases

-- the number of the last value with a reply to the client, where the first value has this number; 0 if none has one
abbrev pub last_reply : ℕ → ℕ → List Value → ℕ
last_reply client number [] = 0
last_reply client number (v ∷ vs) = max (if replies_to client (events_of v) then number else 0) (last_reply client (suc number) vs)

-- the number that a release of a node gives a client: that of the known delta with the client's last reply, or the offset, where that is greater
abbrev pub stamp_at : Here → ℕ → ℕ
stamp_at x client = max (last_reply client 1 (known x.log)) (offset x.log)

-- a client has seen something of so many values
abbrev pub seen_more : ℕ → ℕ → List ℕ → List ℕ
seen_more client number seen = slice_set seen client (max (get_or seen client 0) number)

-- the client to which an effect releases a reply, if it releases one
abbrev pub released_to : Effect → Option ℕ
released_to (effect.Released client sequence value) = Some client
released_to _ = None

abbrev pub seen_by_release : (ℕ → ℕ) → Option ℕ → List ℕ → List ℕ
seen_by_release stamp None seen = seen
seen_by_release stamp (Some client) seen = seen_more client (stamp client) seen

-- what clients have seen after these effects, where a release gives its client this number
abbrev pub seen_by_releases : (ℕ → ℕ) → List Effect → List ℕ → List ℕ
seen_by_releases stamp [] seen = seen
seen_by_releases stamp (e ∷ es) seen = seen_by_releases stamp es (seen_by_release stamp (released_to e) seen)

-- ---- reads

-- the value of a variable in a state; 0 where it isn't there
abbrev pub value_in : StateValue → ℕ → ℤ
value_in s variable = slice_index_or s.variables variable (pos 0)

-- what a node answers to a client that reads a variable there and has seen so much: the value is that after the values that the node has replayed
abbrev pub read_at : Declarations → Here → ℕ → ℕ → Answer
read_at service x variable seen = answered x.up (is_active x.role) x.replayed (value_in (state_after service (trace_of (take x.replayed (known x.log)))) variable) seen

-- an answer as it is reported
abbrev pub read_effect : ℕ → ℕ → ℕ → Answer → Effect
read_effect node client variable read.Down = effect.IsDown node
read_effect node client variable read.Primary = effect.Primary
read_effect node client variable (read.Behind have seen) = effect.Behind have seen
read_effect node client variable (read.Value value number) = effect.Read client variable value number
