-- What each kind of step does to the view of its seat.
use Rattle.std.specs.Prelude.{◌≡◌, ℕ, ℤ, ◌+◌, ◌-◌, ◌≤◌, [], ◌∷◌, ◌++◌, slice_set, Option, Some, None}
use Rattle.std.specs.Int.{cast_signed}
use mir.Syntax.{w64}
use Rattle.atomic_table.specs.Table.{Me, Step}
use Rattle.rex_frame.specs.declared.frame.Frame.{Frame}
use Rattle.rex_event.specs.Limits.{most_lanes}
use Rattle.rex_event.specs.declared.event.Event.{Event}
use Rattle.rex_event.specs.Cuts.{count_at}
use Rattle.rex_state.specs.Value.{StateValue}
use Rattle.rex_state.specs.Own.{own_after}
use Rattle.rex_state.specs.Machine.{frame_at, next}
use Rattle.rex_state.specs.Sound.{IsSound}
use Rattle.rex_board.specs.declared.recording.Recording.{Recording}
use Rattle.rex_board.specs.declared.view.Knowledge.{Knowledge}
use Rattle.rex_board.specs.declared.view.View.{View}
use Rattle.rex_board.specs.declared.view.Role.TheVariants.{Spent, Host, Lane}
use Rattle.rex_board.specs.Recorded.{service_of, IsEventAt}
use Rattle.rex_board.specs.Moment.{first_known}

-- a seat's view, and the slots that it holds, of which a board has none
abbrev pub ViewAndSlots : Type 0
ViewAndSlots = Me (Unit {0}) View

-- ---- the load of a lane's word: a bound rises, the load is noted and counted

abbrev pub looked_view : View → ℕ → ℕ → View
looked_view v lane found = record v { knows = record v.knows { bounds = slice_set v.knows.bounds lane found }; loads = v.loads + 1; noted_lane = lane; noted = found }

abbrev pub looked : Step (Unit {0}) → ViewAndSlots → ℕ → ViewAndSlots → Type 0
looked st m found m' = (m' ≡ (looked_view m.0 st.word found, m.1)) × (count_at m.0.knows.bounds st.word ≤ found)

-- ---- the load of a variable: a copy, and a mark

abbrev pub with_load : Knowledge → ℕ → ℤ → Knowledge
with_load k x value = record k { copies = slice_set k.copies x value; loaded = x ∷ k.loaded }

abbrev pub loaded_view : View → ℕ → ℕ → View
loaded_view v x found = record v { knows = with_load v.knows x (cast_signed w64 found) }

abbrev pub loaded : Step (Unit {0}) → ViewAndSlots → ℕ → ViewAndSlots → Type 0
loaded st m found m' = m' ≡ (loaded_view m.0 (st.word - most_lanes) found, m.1)

-- ---- the store of a variable, whose word comes after those of the lanes: a mark

abbrev pub with_store : Knowledge → ℕ → Knowledge
with_store k x = record k { stored = x ∷ k.stored }

abbrev pub stored_view : View → ℕ → View
stored_view v x = record v { knows = with_store v.knows x }

abbrev pub stored : Step (Unit {0}) → ViewAndSlots → ℕ → ViewAndSlots → Type 0
stored st m value m' = (most_lanes ≤ st.word) × (m' ≡ (stored_view m.0 (st.word - most_lanes), m.1))

-- ---- the store of the lane's own word: the lane's next event with the lines after it, and no marks

abbrev pub performed_by : Recording → Event → Knowledge → Knowledge
performed_by r e k = record {
  done = k.done + 1;
  bounds = k.bounds;
  frame = (own_after (service_of r) e.kind k.frame k.copies).0;
  copies = (own_after (service_of r) e.kind k.frame k.copies).1;
  loaded = [];
  stored = [];
}

abbrev pub performed_view : View → Event → View
performed_view v e = record v { knows = performed_by v.key e v.knows }

-- the event is next in a sound state in which its lane has this frame
pub record IsNextFrom (r : Recording) (frame : Option Frame) (e : Event) : Type 0 where
  pub from : StateValue
  pub to : StateValue
  pub sound : IsSound (service_of r) from
  pub next : next (service_of r) from e ≡ Some to
  pub frame_is : frame_at from e.lane ≡ frame

pub record IsPerformed (v v' : View) : Type 0 where
  pub event : Event
  pub at : IsEventAt v.key v.lane v.knows.done event
  pub only : (other : Event) → IsEventAt v.key v.lane v.knows.done other → other ≡ event
  pub from : IsNextFrom v.key v.knows.frame event
  pub view : v' ≡ performed_view v event

abbrev pub performed : Step (Unit {0}) → ViewAndSlots → ℕ → ViewAndSlots → Type 0
performed st m value m' = IsPerformed m.0 m'.0 × (m'.1 ≡ m.1)

-- ---- a lane gets a view

abbrev pub no_knowledge : Knowledge
no_knowledge = record { done = 0; bounds = []; frame = None; copies = []; loaded = []; stored = [] }

-- the view of the first seat, which gives each lane its view
abbrev pub first_view : Recording → View
first_view r = record { role = Host; key = r; lane = 0; knows = no_knowledge; loads = 0; noted_lane = 0; noted = 0; gathered = [] }

abbrev pub dealt_left : View → View
dealt_left v = record v { lane = v.lane + 1 }

abbrev pub dealt_right : View → View
dealt_right v = record { role = Lane; key = v.key; lane = v.lane; knows = first_known v.key v.lane; loads = 0; noted_lane = 0; noted = 0; gathered = [] }

-- ---- a lane's view is taken in

abbrev pub gathered : View → View → View
gathered v w = record v { gathered = v.gathered ++ (record { lane = w.lane; knows = w.knows }) ∷ [] }

-- nothing is recorded
abbrev pub no_recording : Recording
no_recording = record {
  service = record { marker = record {}; value = record { lanes = 0; locks = []; semaphores = []; conditions = []; variables = []; handlers = [] } };
  start = record { marker = record {}; value = record { variables = []; lanes = []; queues = []; semaphores = []; clients = [] } };
  events = record { marker = record {}; value = [] };
  causes = record { marker = record {}; value = [] };
}

-- the view of a seat that was taken in
abbrev pub spent : View
spent = record { role = Spent; key = no_recording; lane = 0; knows = no_knowledge; loads = 0; noted_lane = 0; noted = 0; gathered = [] }
