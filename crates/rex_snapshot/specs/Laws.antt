-- What holds of all snapshots.
use Rattle.std.specs.Prelude.{◌≡◌, ℕ, ◌<◌, ◌≤◌, true, List, [], ◌++◌, length, Some}
use Rattle.rex_syntax.specs.declared.service.Declarations.{Declarations}
use Rattle.rex_syntax.specs.Service.{IsService}
use Rattle.rex_syntax.specs.declared.version.Version.{Version}
use Rattle.rex_syntax.specs.Versions.{has_version}
use Rattle.rex_event.specs.declared.event.Kind.{Kind}
use Rattle.rex_event.specs.declared.event.Kind.TheVariants.{Begin}
use Rattle.rex_event.specs.declared.event.Event.{Event}
use Rattle.rex_event.specs.declared.event.TheConstants.{CLIENTS, SEQUENCES}
use Rattle.rex_state.specs.Value.{StateValue}
use Rattle.rex_state.specs.Machine.{next}
use Rattle.rex_state.specs.Start.{start_of}
use Rattle.rex_state.specs.Sound.{IsSound}
use Rattle.rex_wire.specs.Ranges.{IsBetween}
use Rattle.rex_snapshot.specs.Spelling.{greatest_count, state_bytes, IsLimited, HasSpelling}
use Rattle.rex_snapshot.specs.declared.limits.TheConstants.{SNAPSHOT_BYTES}

-- no snapshot begins another, of whichever versions they are: where one state's bytes begin another's, they are one state in one version, and nothing follows
abbrev pub NoSnapshotBeginsAnother : Type 0
NoSnapshotBeginsAnother =
    (service : Declarations) (v w : Version) (s t : StateValue) (rest : List ℕ) → IsService service → has_version service v ≡ true → has_version service w ≡ true → IsSound service s → HasSpelling s → IsSound service t → HasSpelling t
    → state_bytes service v s ≡ state_bytes service w t ++ rest → (v ≡ w) × (s ≡ t) × (rest ≡ [])

-- a sound state's snapshot within the limits has no more bytes than the most
abbrev pub SnapshotsAreShort : Type 0
SnapshotsAreShort = (service : Declarations) (version : Version) (s : StateValue) → IsService service → has_version service version ≡ true → IsSound service s → IsLimited s → length (state_bytes service version s) ≤ SNAPSHOT_BYTES

-- ---- limits

-- the state from which a service starts is within the limits
abbrev pub StartIsLimited : Type 0
StartIsLimited = (service : Declarations) → IsLimited (start_of service)

-- a begin's client and sequence are in their ranges
abbrev pub BeginIsLimited : Kind → Type 0
BeginIsLimited (Begin client sequence handler arguments) = IsBetween 1 CLIENTS client × (sequence ≤ SEQUENCES)
BeginIsLimited _ = Unit {0}

-- an event leads from a sound state within the limits to one within them, where a begin's numbers are in their ranges and its lane did few enough events
abbrev pub EventsKeepLimits : Type 0
EventsKeepLimits = (service : Declarations) (s t : StateValue) (e : Event) → IsSound service s → IsLimited s → BeginIsLimited e.kind → e.index < greatest_count → next service s e ≡ Some t → IsLimited t
