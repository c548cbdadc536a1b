-- A seat before and after a step on a word.
use Rattle.std.proofs.Common.{◌≡◌, ⊎_elim, ℕ, ◌+◌, ◌<◌, ◌≤◌, arith, true, [], ◌∷◌, ◌++◌, length, refl, ap, sym, ◌∙◌, subst}
use Rattle.std.specs.Prelude.{Option, Some, None, ℤ}
use Rattle.atomic_table.specs.Seated.{TableId}
use Rattle.atomic_table.specs.declared.shared.Seat.{Seat}
use Rattle.rex_syntax.specs.declared.line.Line.{Line}
use Rattle.rex_syntax.specs.declared.line.Line.TheVariants.{Acquire, Try, Release}
use Rattle.rex_frame.specs.declared.frame.Frame.{Frame}
use Rattle.rex_event.specs.declared.event.Kind.{Kind}
use Rattle.rex_state.specs.Value.{StateValue}
use Rattle.rex_state.specs.Lines.{line_of, is_acquire, is_try, is_release}
use Rattle.rex_state.specs.Machine.{frame_at, own_can, next}
use Rattle.rex_state.specs.Own.{own_after}
use Rattle.rex_state.specs.Sound.{with_flows}
use Rattle.rex_state.proofs.Sounds.{right_flows}
use Rattle.rex_words.specs.Budget.{left_at}
use Rattle.rex_state.proofs.Keep.{next_is}
use Rattle.rex_record.specs.Turn.{event_at}
use Rattle.rex_words.specs.declared.assignment.Assignment.{Assignment}
use Rattle.rex_words.specs.declared.seat.WordSeat.{WordSeat}
use Rattle.rex_words.specs.declared.view.Knowledge.{Knowledge}
use Rattle.rex_words.specs.declared.view.View.{View}
use Rattle.rex_words.specs.Recorded.{is_plain}
use Rattle.rex_words.specs.Alone.{service_of, own_event, with_event, does_at, alone_in, alone, DoAlone, HasEntered}
use Rattle.rex_words.specs.Moment.{IsAssignment}
use Rattle.rex_words.specs.Steps.{Enters, Does, with_value}
use Rattle.rex_words.specs.Seats.{IsLaneOf, IsSeatOf}
use Rattle.rex_words.specs.Turns.{IsSettled, StandsAt, IsAhead, is_on_lock}
use Rattle.rex_words.proofs.Budget.{acquire_is, release_is, try_is, events_spend}
use Rattle.rex_words.proofs.Entering.{entered_one}
use Rattle.rex_words.proofs.Keeps.{HoldsTo}
use Rattle.rex_words.proofs.Loading.{sound_with}
use Rattle.rex_words.proofs.Standing.{fits_at}

abbrev pub LaneSeat : Type 0
LaneSeat = Seat (Unit {0}) View

abbrev pub with_seat : WordSeat → LaneSeat → WordSeat
with_seat m s = record m { seat = s }

module _ (r : Assignment) (m : WordSeat) (l : IsLaneOf r m) where
  pub lane_with_seat : (s : LaneSeat) → IsLaneOf r (with_seat m s)
  lane_with_seat s = record {
    there = l.there;
    sound = l.sound;
    idle = l.idle;
    whole = l.whole;
    exclusive = l.exclusive;
    count = l.count;
    mine = l.mine;
    few = l.few;
    room = l.room;
    stamp = l.stamp;
    low = l.low;
    requests = l.requests;
    begun = l.begun;
    random = l.random;
    dice = l.dice;
    told = l.told;
  }

  -- with the value of one variable
  pub lane_with_value : (s : LaneSeat) (x : ℕ) (value : ℤ) → IsLaneOf r (record m { seat = s; state = with_value m.state x value })
  lane_with_value s x value = record {
    there = l.there;
    sound = sound_with (service_of r) m.state x value l.sound;
    idle = l.idle;
    whole = l.whole;
    exclusive = l.exclusive;
    count = l.count;
    mine = l.mine;
    few = l.few;
    room = l.room;
    stamp = l.stamp;
    low = l.low;
    requests = l.requests;
    begun = l.begun;
    random = l.random;
    dice = l.dice;
    told = l.told;
  }

  -- where the lane can make an event, there is room for it
  pub room_for : IsAssignment r → (f : Frame) → frame_at m.state m.lane ≡ Some f → (k : Kind) → is_plain k ≡ true → (s : StateValue) → next (service_of r) m.state (event_at m.state m.lane k) ≡ Some s → length m.events.items + 1 ≤ 1000000
  room_for a f busy k plain s leads =
      let can = subst (λ (o : Option Frame). own_can (service_of r) k o m.state.variables ≡ true) busy (next_is (service_of r) m.state (event_at m.state m.lane k) s leads).enabled.own in
      let few : length m.events.items + left_at (service_of r) (Some f) ≤ 1000000 = subst (λ (o : Option Frame). length m.events.items + left_at (service_of r) o ≤ 1000000) busy l.few in
      ⊎_elim (λ (h : left_at (service_of r) (own_after (service_of r) k (Some f) m.state.variables).0 + 1 ≤ left_at (service_of r) (Some f)). omega (arith, h, few))
      (λ (h : (Some f ≡ None) × (left_at (service_of r) (own_after (service_of r) k (Some f) m.state.variables).0 ≤ 100000)). absurd (let e : Some f ≡ None = h.0 in cc))
      (events_spend (with_flows (service_of r) l.sound.flows) (right_flows (service_of r) m.state a.good l.sound) k (Some f) m.state.variables a.checked (fits_at r a m l f busy) plain can)

-- an event of a lane's knowledge is one of its state
pub same_next : (r : Assignment) (m : WordSeat) (v : View) (k : Knowledge) (kind : Kind) (s : StateValue) → v.key ≡ r → v.lane ≡ m.lane → k.own ≡ m.state → next (service_of v.key) k.own (own_event v.lane k kind) ≡ Some s → next (service_of r) m.state (event_at m.state m.lane kind) ≡ Some s
same_next r m v k kind s key lane own h = subst (λ (x : Assignment × ℕ × StateValue). next (service_of x.0) x.2 (event_at x.2 x.1 kind) ≡ Some s) (λ i. (key i, lane i, own i)) h

pub next_same : (r : Assignment) (m : WordSeat) (lane : ℕ) (k : Knowledge) (kind : Kind) (s : StateValue) → lane ≡ m.lane → k.own ≡ m.state → next (service_of r) m.state (event_at m.state m.lane kind) ≡ Some s → next (service_of r) k.own (own_event lane k kind) ≡ Some s
next_same r m lane k kind s is own h = subst (λ (x : ℕ × StateValue). next (service_of r) x.1 (event_at x.1 x.0 kind) ≡ Some s) (λ i. (sym is i, sym own i)) h

module _ (r : Assignment) (z : TableId) (m : WordSeat) where
  -- ---- what a seat holds

  quiet_at : (k : Knowledge) → k.own ≡ m.state → (f : Frame) → frame_at m.state m.lane ≡ Some f → (line : Line) → line_of (service_of r) f ≡ line → does_at r m.lane k f line ≡ None → alone r m.lane k ≡ None
  quiet_at k own f busy line i none =
      ap (λ (s : StateValue). alone_in r m.lane k (frame_at s m.lane)) own ∙ ap (alone_in r m.lane k) busy ∙ ap (does_at r m.lane k f) i ∙ none

  module _ (q : IsSeatOf r z m) where
    pub quiet_acquire : (lock : ℕ) → StandsAt r m is_acquire lock → alone r m.lane q.now ≡ None
    quiet_acquire lock s = quiet_at q.now q.own s.frame s.busy (Acquire lock) (acquire_is _ lock s.at) refl

    pub quiet_try : (lock : ℕ) → StandsAt r m is_try lock → alone r m.lane q.now ≡ None
    quiet_try lock s = let t = try_is _ lock s.at in quiet_at q.now q.own s.frame s.busy (Try lock t.0) t.1 refl

    pub quiet_release : (lock : ℕ) → StandsAt r m is_release lock → alone r m.lane q.now ≡ None
    quiet_release lock s = quiet_at q.now q.own s.frame s.busy (Release lock) (release_is _ lock s.at) refl

    module _ (none : alone r m.lane q.now ≡ None) where
      pub holds_to : HoldsTo r m.seat.me.0 q.now
      holds_to = record {
        held = q.held;
        done = subst (λ (x : ℕ). DoAlone r x m.seat.me.0.knows q.held q.now) (sym q.lane_is) q.does;
        quiet = q.quiet;
        all = subst (λ (x : ℕ). alone r x q.now ≡ None) (sym q.lane_is) none;
        few = let e : length q.now.list ≡ length m.events.items = ap length q.list in let f = q.lane.few in omega arith;
      }

      pub entered_is : (first : Knowledge) → Enters m.seat.me.0 first → first ≡ q.now
      entered_is first e = entered_one m.seat.me.0.key m.seat.me.0.lane m.seat.me.0.knows first q.now e.known
          (subst (λ (x : Assignment × ℕ). HasEntered x.0 x.1 m.seat.me.0.knows q.now) (λ i. (sym q.key i, sym q.lane_is i)) (record { events = q.held; done = q.does; all = none }))

    -- ---- after a step

    -- the view knows what the seat keeps
    pub settled_by : (s : LaneSeat) (k : Knowledge) → s.table_id ≡ m.seat.table_id → s.me.0.key ≡ m.seat.me.0.key → s.me.0.role ≡ m.seat.me.0.role → s.me.0.lane ≡ m.seat.me.0.lane → s.me.0.knows ≡ k → k.list ≡ m.events.items → k.own ≡ m.state → s.me.1 ≡ m.seat.me.1
        → IsSettled r z (with_seat m s)
    settled_by s k table key role lane knows list own empty = record {
      table = table ∙ q.table;
      key = key ∙ q.key;
      role = role ∙ q.role;
      lane_is = lane ∙ q.lane_is;
      empty = empty ∙ q.empty;
      lane = lane_with_seat r m q.lane s;
      list = ap (λ (x : Knowledge). x.list) knows ∙ list;
      own = ap (λ (x : Knowledge). x.own) knows ∙ own;
    }

    -- it knows one event more
    pub ahead_by : (s : LaneSeat) (k known : Knowledge) (kind : Kind) (stamp : ℕ) → s.table_id ≡ m.seat.table_id → s.me.0.key ≡ m.seat.me.0.key → s.me.0.role ≡ m.seat.me.0.role → s.me.0.lane ≡ m.seat.me.0.lane → s.me.0.knows ≡ known → k.list ≡ m.events.items → k.own ≡ m.state → s.me.1 ≡ m.seat.me.1
        → is_on_lock kind ≡ true → Does m.seat.me.0 k kind stamp known → m.stamp < stamp → stamp ≤ length m.events.items + 63000001 → IsAhead r z (with_seat m s) kind stamp
    ahead_by s k known kind stamp table key role lane knows list own empty on d later low =
        let leads = same_next r m m.seat.me.0 k kind d.own q.key q.lane_is own d.leads in
        let knows' : s.me.0.knows ≡ with_event k stamp (own_event m.seat.me.0.lane k kind) d.own = knows ∙ d.known in
        let event : own_event m.seat.me.0.lane k kind ≡ event_at m.state m.lane kind = λ i. event_at (own i) (q.lane_is i) kind in
        record {
          table = table ∙ q.table;
          key = key ∙ q.key;
          role = role ∙ q.role;
          lane_is = lane ∙ q.lane_is;
          empty = empty ∙ q.empty;
          lane = lane_with_seat r m q.lane s;
          on_lock = on;
          leads = leads ∙ ap Some (sym (ap (λ (x : Knowledge). x.own) knows'));
          list = ap (λ (x : Knowledge). x.list) knows' ∙ (λ i. list i ++ (record { stamp = stamp; event = event i }) ∷ []);
          later = later;
          low = low;
        }

  pub settled_seat : IsSettled r z m → IsSeatOf r z m
  settled_seat q = record { table = q.table; key = q.key; role = q.role; lane_is = q.lane_is; empty = q.empty; lane = q.lane; held = []; now = m.seat.me.0.knows; does = refl; quiet = λ e h. absurd h; list = q.list; own = q.own }
