-- What values come to that are taken one after another.
use Rattle.std.specs.Prelude.{◌≡◌, ℕ, ◌≤ℤ◌, ◌&&◌, Bool, ℤ, pos, List, fold, take, is_some, Option, Some, None, if◌then◌else◌}
use Rattle.std.specs.Int.{int_max}
use Rattle.std.specs.List.{All}
use Rattle.rex_syntax.specs.declared.service.Declarations.{Declarations}
use Rattle.rex_event.specs.declared.event.Event.{Event}
use Rattle.rex_event.specs.declared.event.Kind.{Kind}
use Rattle.rex_event.specs.declared.event.Kind.TheVariants.{Clock}
use Rattle.rex_state.specs.Value.{StateValue}
use Rattle.rex_state.specs.Start.{start_of}
use Rattle.rex_state.specs.Machine.{run}
use Rattle.rex_cluster.specs.Values.{Value, events_of, spells}

-- ---- clocks

-- the clock that an event of this kind shows, if it shows one
abbrev pub shown_by : Kind → Option ℤ
shown_by (Clock value) = Some value
shown_by _ = None

-- the greater of a clock and one that is shown, if one is
abbrev pub later_of : ℤ → Option ℤ → ℤ
later_of clock None = clock
later_of clock (Some value) = int_max clock value

abbrev pub later_clock : ℤ → Kind → ℤ
later_clock clock kind = later_of clock (shown_by kind)

-- the greatest of a clock and those that events show
abbrev pub greatest_clock : ℤ → List Event → ℤ
greatest_clock clock es = fold (λ (c : ℤ) (e : Event). later_clock c e.kind) clock es

-- the greatest of a clock and those that the events of values show
abbrev pub clock_after : ℤ → List Value → ℤ
clock_after clock values = fold (λ (c : ℤ) (value : Value). greatest_clock c (events_of value)) clock values

-- what is shown is no greater clock
abbrev pub IsNoLater : ℤ → Option ℤ → Type 0
IsNoLater clock None = Unit {0}
IsNoLater clock (Some value) = value ≤ℤ clock

-- no event shows a greater one
abbrev pub ShowNoLater : ℤ → List Event → Type 0
ShowNoLater clock es = All (λ (e : Event). IsNoLater clock (shown_by e.kind)) es

-- ---- values that were applied

-- the state after them, and the greatest clock that their events show
pub record AppliedValue : Type 0 where
  pub state : StateValue
  pub clock : ℤ

-- before any value: the state from which the service starts, and clock 0
abbrev pub none_applied : Declarations → AppliedValue
none_applied service = record { state = start_of service; clock = pos 0 }

-- ---- one more value

-- the events of a value that spells a delta of the service
abbrev pub spelled_events : Declarations → Value → Option (List Event)
spelled_events service value = if spells service value then Some (events_of value) else None

-- a value fits after a state where it spells a delta of the service whose events run from there
abbrev pub fits_after : Declarations → StateValue → Value → Bool
fits_after service s value = spells service value && is_some (run service s (events_of value))

-- a value was taken: all its events ran, and the clock rose to the greatest that they show
pub record HasTaken (service : Declarations) (before : AppliedValue) (value : Value) (after : AppliedValue) : Type 0 where
  pub runs : run service before.state (events_of value) ≡ Some after.state
  pub clock : after.clock ≡ greatest_clock before.clock (events_of value)

-- some of these events ran, from the first one on, or none
pub record RunsInPart (service : Declarations) (s : StateValue) (es : List Event) (t : StateValue) : Type 0 where
  pub count : ℕ
  pub runs : run service s (take count es) ≡ Some t

-- a value was tried: some of its events ran, or none, and the clock stays
pub record HasTried (service : Declarations) (before : AppliedValue) (value : Value) (after : AppliedValue) : Type 0 where
  pub part : RunsInPart service before.state (events_of value) after.state
  pub clock : after.clock ≡ before.clock
