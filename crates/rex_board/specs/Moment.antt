-- What is true of a board at each moment between two steps.
use Rattle.std.specs.Prelude.{◌≡◌, ◌≢◌, ℕ, ℤ, ◌+◌, ◌<◌, ◌≤◌, List, [], length, slice_index_or, replicate, Option}
use Rattle.std.specs.Int.{cast_signed}
use mir.Syntax.{w64}
use mathlib.Core.Option.{some}
use lib.ListN.{get_elem?}
use Rattle.atomic_table.specs.Table.{State}
use Rattle.rex_syntax.specs.declared.locks.Mode.TheVariants.{Free, Exclusive}
use Rattle.rex_syntax.specs.Leads.{guard_of}
use Rattle.rex_frame.specs.declared.frame.Frame.{Frame}
use Rattle.rex_event.specs.Limits.{most_lanes}
use Rattle.rex_event.specs.declared.event.Event.{Event}
use Rattle.rex_event.specs.Order.{Has}
use Rattle.rex_event.specs.Cuts.{count_at, IsConsistent}
use Rattle.rex_state.specs.Value.{StateValue}
use Rattle.rex_state.specs.Locks.{mode_in_frame}
use Rattle.rex_state.specs.Machine.{lane_of, frame_at}
use Rattle.rex_state.specs.Local.{Takes}
use Rattle.rex_order.specs.Enabled.{IsStateAt}
use Rattle.rex_board.specs.declared.recording.Recording.{Recording}
use Rattle.rex_board.specs.declared.view.Knowledge.{Knowledge}
use Rattle.rex_board.specs.declared.view.Gathered.{Gathered}
use Rattle.rex_board.specs.declared.view.View.{View}
use Rattle.rex_board.specs.declared.view.Role.{Role}
use Rattle.rex_board.specs.declared.view.Role.TheVariants.{Spent, Host, Lane}
use Rattle.rex_board.specs.Recorded.{IsRight, service_of, start_of, events_of, variables_in, value_of, IsEventAt, IsCovered}

-- ---- words (the first ones, as many as the most lanes, are the lanes' counts of events, and read as a cut they are one; after them each variable has one)

-- the value that a variable has in its word
abbrev pub word_value : List ℕ → ℕ → ℤ
word_value words x = cast_signed w64 (slice_index_or words (most_lanes + x) 0)

-- ---- locks

-- the guard of a variable
abbrev pub guard : Recording → ℕ → ℕ
guard r x = guard_of (service_of r) x

-- the frame holds the lock, in any mode
abbrev pub Holds : Option Frame → ℕ → Type 0
Holds frame lock = mode_in_frame frame lock ≢ Free

-- the frame holds the lock exclusively
abbrev pub HoldsAlone : Option Frame → ℕ → Type 0
HoldsAlone frame lock = mode_in_frame frame lock ≡ Exclusive

-- ---- what is known of a lane

-- a variable was loaded for the lane's next event, which takes its guard and whose causes all lie below known bounds: the copy is the state's value
pub record IsLoaded (r : Recording) (s : StateValue) (lane : ℕ) (k : Knowledge) (x : ℕ) : Type 0 where
  pub event : Event
  pub next : IsEventAt r lane k.done event
  pub takes : Takes event (guard r x)
  pub covered : IsCovered r k.bounds event
  pub same : value_of k.copies x ≡ value_of s.variables x

-- a variable was stored: the lane holds its guard exclusively, and its word has the copy
pub record IsStored (r : Recording) (words : List ℕ) (k : Knowledge) (x : ℕ) : Type 0 where
  pub held : HoldsAlone k.frame (guard r x)
  pub same : word_value words x ≡ value_of k.copies x

-- what is known of a lane is so at the words, whose state is s: its count is its word, bounds are at most their lanes' words, its frame is the state's, and so are the copies of the variables whose guards it holds; what is marked as loaded was loaded, and what is marked as stored was stored
pub record IsKnown (r : Recording) (words : List ℕ) (s : StateValue) (lane : ℕ) (k : Knowledge) : Type 0 where
  pub done : k.done ≡ count_at words lane
  pub bounds : (other : ℕ) → other < most_lanes → count_at k.bounds other ≤ count_at words other
  pub frame : k.frame ≡ frame_at s lane
  pub wide : length k.copies ≡ variables_in r
  pub copies : (x : ℕ) → Holds k.frame (guard r x) → value_of k.copies x ≡ value_of s.variables x
  pub loaded : (x : ℕ) → Has x k.loaded → IsLoaded r s lane k x
  pub stored : (x : ℕ) → Has x k.stored → IsStored r words k x

-- what is known of a lane at first: its frame and count at the start, and copies of all variables
abbrev pub first_known : Recording → ℕ → Knowledge
first_known r lane = record {
  done = (lane_of (start_of r) lane).done;
  bounds = replicate most_lanes 0;
  frame = frame_at (start_of r) lane;
  copies = (start_of r).variables;
  loaded = [];
  stored = [];
}

-- ---- views

-- the host has the knowledge of a lane whose view it took in
pub record IsGathered (know : ℕ → Knowledge) (owner : ℕ → ℕ) (seat : ℕ) (g : Gathered) : Type 0 where
  pub lane : g.lane < most_lanes
  pub mine : owner g.lane ≡ seat
  pub knows : know g.lane ≡ g.knows

-- what the view of a seat says: the host's which lane has a view next and what it took in, a lane's what is known of the lane, which no other seat has
module _ (r : Recording) (know : ℕ → Knowledge) (owner : ℕ → ℕ) (host dealt seat : ℕ) (v : View) where
  abbrev pub SaysRole : Role → Type 0
  SaysRole Spent = Unit {0}
  SaysRole Host = (v.key ≡ r) × (seat ≡ host) × (v.lane ≡ dealt) × ((i : ℕ) (g : Gathered) → get_elem? v.gathered i ≡ some g → IsGathered know owner seat g)
  SaysRole Lane = (v.key ≡ r) × (v.lane < dealt) × (v.lane < most_lanes) × (owner v.lane ≡ seat) × (know v.lane ≡ v.knows)

  abbrev pub Says : Type 0
  Says = SaysRole v.role

-- ---- the moment

-- no lane holds the lock exclusively
abbrev pub IsOpen : StateValue → ℕ → Type 0
IsOpen s lock = (lane : ℕ) → lane < most_lanes → HoldsAlone (frame_at s lane) lock → ⊥

-- the lane words are a consistent cut, and there is a state at it; what is known of each lane is so there; a variable whose guard no lane holds exclusively has the state's value in its word; each view says what is so, and of a lane that seat's alone which owns the lane; lanes get views in their order, and one that had none yet is as it was at the start
pub record IsMoment (r : Recording) (t : State (Unit {0}) View) : Type 0 where
  pub right : IsRight r
  pub wide : length t.words ≡ most_lanes + variables_in r
  pub state : StateValue
  pub at : IsStateAt (service_of r) (start_of r) (events_of r) t.words state
  pub consistent : IsConsistent (events_of r) t.words
  pub know : ℕ → Knowledge
  pub lanes : (lane : ℕ) → lane < most_lanes → IsKnown r t.words state lane (know lane)
  pub shared : (x : ℕ) → x < variables_in r → IsOpen state (guard r x) → word_value t.words x ≡ value_of state.variables x
  pub owner : ℕ → ℕ
  pub host : ℕ
  pub dealt : ℕ
  pub views : (seat : ℕ) (v : View) → get_elem? t.views seat ≡ some v → Says r know owner host dealt seat v
  pub untouched : (lane : ℕ) → dealt ≤ lane → lane < most_lanes → know lane ≡ first_known r lane
