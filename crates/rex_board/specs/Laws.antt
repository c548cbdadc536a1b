-- What moments and answers tell together.
use Rattle.std.specs.Prelude.{◌≡◌, ◌⊎◌, ℕ, ◌+◌, ◌<◌, ◌≤◌, List, slice_set}
use mathlib.Core.Option.{some}
use lib.ListN.{get_elem?}
use Rattle.atomic_table.specs.Table.{State, Step}
use Rattle.rex_event.specs.Limits.{most_lanes}
use Rattle.rex_event.specs.declared.event.Event.{Event}
use Rattle.rex_event.specs.Cuts.{count_at}
use Rattle.rex_state.specs.Machine.{lane_of}
use Rattle.rex_board.specs.declared.recording.Recording.{Recording}
use Rattle.rex_board.specs.declared.view.View.{View}
use Rattle.rex_board.specs.declared.view.Role.TheVariants.{Lane}
use Rattle.rex_board.specs.declared.seat.LaneSeat.{LaneSeat}
use Rattle.rex_board.specs.Recorded.{start_of, IsCovered}
use Rattle.rex_board.specs.Moment.{IsKnown, IsMoment}
use Rattle.rex_board.specs.Steps.{ViewAndSlots, IsPerformed, stored}
use Rattle.rex_board.specs.Turns.{IsLater, IsDone}

-- a seat has this view at a moment
abbrev pub HasView : State (Unit {0}) View → ℕ → View → Type 0
HasView t seat v = get_elem? t.views seat ≡ some v

-- at each moment what the view of a lane's seat knows is so
abbrev pub ViewsKnowWhatIsSo : Type 0
ViewsKnowWhatIsSo = (r : Recording) (t : State (Unit {0}) View) (now : IsMoment r t) (seat : ℕ) (v : View) → HasView t seat v → v.role ≡ Lane → IsKnown r t.words now.state v.lane v.knows

-- at no moment are two views of one lane
abbrev pub LanesHaveOneView : Type 0
LanesHaveOneView = (r : Recording) (t : State (Unit {0}) View) → IsMoment r t → (i j : ℕ) (v w : View) → HasView t i v → HasView t j w → v.role ≡ Lane → w.role ≡ Lane → v.lane ≡ w.lane → i ≡ j

-- a lane that had no view yet has its count at the start in its word
abbrev pub FreshLanesStandAtTheStart : Type 0
FreshLanesStandAtTheStart = (r : Recording) (t : State (Unit {0}) View) (now : IsMoment r t) (lane : ℕ) → now.dealt ≤ lane → lane < most_lanes → count_at t.words lane ≡ (lane_of (start_of r) lane).done

-- of two moments with one step of a seat between them, which leaves some number in some word: where the step does an event of the seat's lane, the words are as they were but for that lane's, which is one more
abbrev pub LaneWordsRiseByOne : Type 0
LaneWordsRiseByOne =
    (r : Recording) (t t' : State (Unit {0}) View) → IsMoment r t → IsMoment r t' → (seat : ℕ) (v v' : View) → HasView t seat v → HasView t' seat v' → v.role ≡ Lane → IsPerformed v v'
    → (word number : ℕ) → t'.words ≡ slice_set t.words word number → t'.words ≡ slice_set t.words v.lane (count_at t.words v.lane + 1)

-- a step that does no event leaves in its word what it finds there, or stores a variable
abbrev pub DoesNoEvent : List ℕ → Step (Unit {0}) → ℕ → ViewAndSlots → ViewAndSlots → Type 0
DoesNoEvent words st number m m' = (number ≡ count_at words st.word) ⊎ stored st m number m'

-- such a step leaves the word of each lane as it was
abbrev pub OtherStepsKeepLaneWords : Type 0
OtherStepsKeepLaneWords =
    (words words' : List ℕ) (st : Step (Unit {0})) (number : ℕ) (m m' : ViewAndSlots) → words' ≡ slice_set words st.word number → DoesNoEvent words st number m m'
    → (lane : ℕ) → lane < most_lanes → count_at words' lane ≡ count_at words lane

-- an event is its lane's next one at the lane words, and all its causes lie below them
pub record IsDue (r : Recording) (words : List ℕ) (e : Event) : Type 0 where
  pub next : e.index ≡ count_at words e.lane
  pub covered : IsCovered r words e

-- at the moment at which a step stores its lane's word, the event that it does is due
abbrev pub DoneEventsWereDue : Type 0
DoneEventsWereDue = (r : Recording) (m m' : LaneSeat) (e : Event) (done : IsDone r m m' e) → IsLater m m' → (t : State (Unit {0}) View) → IsMoment r t → HasView t m'.seat.id done.store.before → IsDue r t.words e
