-- Seats of lanes.
use Rattle.std.specs.Prelude.{◌≡◌, ◌≢◌, ℕ, ◌+◌, ◌<◌, ◌≤◌, ◌++◌, List, [], ◌∷◌, length, Some, None, vec_capacity, if◌then◌else◌}
use Rattle.rand_pcg.specs.Lcg.{Lcg}
use Rattle.rand_pcg.specs.Pcg.{pcg32}
use Rattle.atomic_table.specs.Seated.{TableId}
use Rattle.rex_syntax.specs.declared.service.Declarations.{Declarations}
use Rattle.rex_frame.specs.declared.frame.Frame.{Frame}
use Rattle.rex_event.specs.declared.event.Event.{Event}
use Rattle.rex_event.specs.declared.event.Kind.{Kind}
use Rattle.rex_event.specs.Order.{Has}
use Rattle.rex_state.specs.Value.{StateValue}
use Rattle.rex_state.specs.Machine.{lane_of, frame_at, next}
use Rattle.rex_state.specs.Sound.{IsSound, mode_at}
use Rattle.rex_state.specs.Touched.{held_at}
use Rattle.rex_syntax.specs.declared.locks.Mode.TheVariants.{Free, Exclusive}
use Rattle.rex_syntax.specs.declared.locks.TheConstants.{LOCKS}
use Rattle.rex_record.specs.Value.{is_begin}
use Rattle.rex_words.specs.declared.assignment.Assignment.{Assignment}
use Rattle.rex_words.specs.declared.seat.WordSeat.{WordSeat}
use Rattle.rex_words.specs.declared.view.Knowledge.{Knowledge}
use Rattle.rex_words.specs.declared.view.Role.TheVariants.{Lane}
use Rattle.rex_words.specs.Stamps.{greatest_stamp}
use Rattle.rex_words.specs.Recorded.{lane_for}
use Rattle.rex_words.specs.Alone.{service_of, lane_requests, dice_of, rolled, drawn, is_draw, begun_in, draws_in, AreTold, DoAlone, IsQuiet}
use Rattle.rex_words.specs.Budget.{left_at}
use Rattle.rex_words.specs.declared.limits.TheConstants.{LANE_EVENTS, OTHER_EVENTS}

-- a lane's locksets have a mode for each lock that there can be
abbrev pub AreWhole : StateValue → Type 0
AreWhole s = (lane : ℕ) → length (held_at s lane).modes ≡ LOCKS

-- what a seat keeps of its lane goes together: a sound state in which the others are idle; as many events as the lane did; the stamp of the last; and the lane's next request and random number
pub record IsLaneOf (r : Assignment) (m : WordSeat) : Type 0 where
  pub there : m.lane < (service_of r).lanes
  pub sound : IsSound (service_of r) m.state
  pub idle : (other : ℕ) → other ≢ m.lane → frame_at m.state other ≡ None
  pub whole : AreWhole m.state
  pub exclusive : (lock : ℕ) → mode_at m.state m.lane lock ≢ Free → mode_at m.state m.lane lock ≡ Exclusive
  pub count : (lane_of m.state m.lane).done ≡ length m.events.items
  pub mine : (f : Frame) → frame_at m.state m.lane ≡ Some f → lane_for (service_of r).lanes f.client ≡ m.lane
  pub few : length m.events.items + left_at (service_of r) (frame_at m.state m.lane) ≤ LANE_EVENTS
  pub room : LANE_EVENTS ≤ vec_capacity m.events
  pub stamp : m.stamp ≡ greatest_stamp m.events.items
  pub low : m.stamp ≤ length m.events.items + OTHER_EVENTS
  pub requests : m.requests.items ≡ lane_requests r m.lane
  pub begun : m.begun ≡ begun_in m.events.items
  pub random : m.random ≡ drawn (dice_of r m.lane) (draws_in m.events.items)
  pub dice : m.dice ≡ rolled (dice_of r m.lane) (draws_in m.events.items + 1)
  pub told : AreTold r m.lane m.events.items

-- the seat is of the table, and of a lane; what it keeps is what its view says, with the events that the lane did by itself since its last step on a word
pub record IsSeatOf (r : Assignment) (z : TableId) (m : WordSeat) : Type 0 where
  pub table : m.seat.table_id ≡ z
  pub key : m.seat.me.0.key ≡ r
  pub role : m.seat.me.0.role ≡ Lane
  pub lane_is : m.seat.me.0.lane ≡ m.lane
  pub empty : m.seat.me.1 ≡ []
  pub lane : IsLaneOf r m
  pub held : List Event
  pub now : Knowledge
  pub does : DoAlone r m.lane m.seat.me.0.knows held now
  pub quiet : (e : Event) → Has e held → IsQuiet (service_of r) e
  pub list : now.list ≡ m.events.items
  pub own : now.own ≡ m.state

-- ---- one more event

-- the next random number and the generator behind it, after an event
abbrev pub dice_with : Kind → WordSeat → ℕ × Lcg
dice_with k m = if is_draw k then pcg32 m.dice else (m.random, m.dice)

-- how many requests were begun, and the next random number and the generator behind it, after an event
abbrev pub moved_on : Kind → WordSeat → WordSeat
moved_on k m = record m { begun = if is_begin k then m.begun + 1 else m.begun; random = (dice_with k m).0; dice = (dice_with k m).1 }

-- the seat keeps one event more, with its stamp
pub record IsAppended (service : Declarations) (m m' : WordSeat) (e : Event) (stamp : ℕ) : Type 0 where
  pub seat : m'.seat ≡ m.seat
  pub lane : m'.lane ≡ m.lane
  pub requests : m'.requests ≡ m.requests
  pub next : next service m.state e ≡ Some m'.state
  pub sound : IsSound service m'.state
  pub events : m'.events.items ≡ m.events.items ++ (record { stamp = stamp; event = e }) ∷ []
  pub room : vec_capacity m'.events ≡ vec_capacity m.events
  pub stamp_is : m'.stamp ≡ stamp
  pub begun : m'.begun ≡ (moved_on e.kind m).begun
  pub dice : (m'.random, m'.dice) ≡ dice_with e.kind m
