-- The state that a board answers in the end.
use Rattle.std.proofs.Common.{◌≡◌, ◌⊎◌, inl, inr, ⊎_elim, ℕ, pos, zero, suc, ◌+◌, ◌<◌, ◌≤◌, arith, true, List, [], ◌∷◌, length, get_or, set, refl, sym, ap, ◌∙◌, subst, length-set}
use Rattle.std.specs.Prelude.{Option, Some, None}
use Rattle.std.specs.Int.{cast_signed}
use mir.Syntax.{w64}
use Rattle.std.proofs.lemmas.Bool.{cases_eq, cases_lt, lt-ltb}
use Rattle.std.proofs.lemmas.List.{get_or-set_same, get_or-set_other, get_or_past}
use mathlib.Core.Option.{some, some-injective, some-ne-none}
use lib.ListN.{get_elem?}
use Rattle.atomic_table.specs.Table.{State}
use Rattle.atomic_table.specs.Seated.{TableId}
use Rattle.rex_syntax.specs.declared.locks.Mode.TheVariants.{Exclusive}
use Rattle.rex_frame.specs.declared.frame.Frame.{Frame}
use Rattle.rex_event.specs.Limits.{most_lanes}
use Rattle.rex_event.specs.declared.event.Event.{Event}
use Rattle.rex_event.specs.Order.{Has}
use Rattle.rex_event.specs.Cuts.{count_at, counted_all, is_below, below}
use Rattle.rex_state.specs.declared.lane.Lane.{Lane}
use Rattle.rex_state.specs.Value.{StateValue}
use Rattle.rex_state.specs.Locks.{mode_in_frame}
use Rattle.rex_state.specs.Machine.{no_lane, lane_of, frame_at, run}
use Rattle.rex_state.specs.Counts.{counts_of}
use Rattle.rex_state.specs.Put.{with_variable}
use Rattle.rex_state.proofs.Counts.{runs_count_on, count_is}
use Rattle.rex_clocks.proofs.Numbered.{numbered_below}
use Rattle.rex_board.specs.declared.recording.Recording.{Recording}
use Rattle.rex_board.specs.declared.seat.LaneSeat.{LaneSeat}
use Rattle.rex_board.specs.declared.view.View.{View}
use Rattle.rex_board.specs.Seated.{BoardSeat}
use Rattle.rex_board.specs.Recorded.{service_of, start_of, events_of, variables_in, value_of}
use Rattle.rex_board.specs.Moment.{guard, HoldsAlone, word_value, IsKnown, IsMoment}
use Rattle.rex_board.specs.Finishing.{IsCollected, IsCollecting, HasWordValues, noted_all}
use Rattle.rex_board.proofs.Facts.{numbered, lane_there, sound_at, exclusive_by, exclusive_held}
use Rattle.rex_board.proofs.Keeps.{says_host}
use Rattle.rex_board.proofs.Noting.{IsNoted, noted_run}

-- ---- values from words

value_at : (words : List ℕ) (i w : ℕ) → get_elem? words i ≡ some w → get_or words i 0 ≡ w
value_at [] i w h = absurd (some-ne-none w (sym h))
value_at (x ∷ words) zero w h = some-injective x w h
value_at (x ∷ words) (suc i) w h = value_at words i w h

pub more_values : (words : List ℕ) (n w : ℕ) (s t u : StateValue) → HasWordValues words n s t → n < length s.variables → get_elem? words (most_lanes + n) ≡ some w → u ≡ with_variable t n (cast_signed w64 w) → HasWordValues words (n + 1) s u
more_values words n w s t u h there at is = record {
  long = ap (λ (x : StateValue). length x.variables) is ∙ length-set t.variables n _ ∙ h.long;
  each = λ x lt. ap (λ (y : StateValue). value_of y.variables x) is ∙ by x lt (cases_eq x n);
  lanes = ap (λ (x : StateValue). x.lanes) is ∙ h.lanes;
  queues = ap (λ (x : StateValue). x.queues) is ∙ h.queues;
  semaphores = ap (λ (x : StateValue). x.semaphores) is ∙ h.semaphores;
  clients = ap (λ (x : StateValue). x.clients) is ∙ h.clients;
}
  where
    by : (x : ℕ) → x < n + 1 → (x ≡ n) ⊎ (x ≡ n → ⊥) → value_of (set t.variables n (cast_signed w64 w)) x ≡ word_value words x
    by x lt (inl q) = ap (value_of (set t.variables n (cast_signed w64 w))) q ∙ get_or-set_same t.variables n (cast_signed w64 w) (pos 0) (omega (arith, h.long, there)) ∙ ap (cast_signed w64) (sym (value_at words (most_lanes + n) w at)) ∙ ap (word_value words) (sym q)
    by x lt (inr ne) = get_or-set_other t.variables n x (cast_signed w64 w) (pos 0) ne ∙ h.each x (omega arith)

-- ---- equal lists

same_items : {A : Type 0} (xs ys : List A) (d : A) → length xs ≡ length ys → ((k : ℕ) → k < length xs → get_or xs k d ≡ get_or ys k d) → xs ≡ ys
same_items [] [] d e h = refl
same_items [] (y ∷ ys) d e h = absurd (omega arith)
same_items (x ∷ xs) [] d e h = absurd (omega arith)
same_items (x ∷ xs) (y ∷ ys) d e h = λ i. h 0 (omega arith) i ∷ same_items xs ys d (omega arith) (λ k lt. h (suc k) (omega arith)) i

all_kept : (words : List ℕ) (es : List Event) → ((e : Event) → Has e es → is_below words e ≡ true) → below words es ≡ es
all_kept words [] h = refl
all_kept words (e ∷ es) h = rw (h e (inl refl)) (ap (◌∷◌ e) (all_kept words es (λ x b. h x (inr b))))

lane_same : (d d' : ℕ) (f f' : Option Frame) → d ≡ d' → f ≡ f' → ◌≡◌ {A = Lane} (record { done = d; frame = f }) (record { done = d'; frame = f' })
lane_same d d' f f' a b = rw (a, b) refl

-- ---- who holds a lock

holder_below : (s : StateValue) (lock n : ℕ) → ((l : ℕ) × (l < n) × HoldsAlone (frame_at s l) lock) ⊎ ((l : ℕ) → l < n → HoldsAlone (frame_at s l) lock → ⊥)
holder_below s lock zero = inr (λ l lt h. omega arith)
holder_below s lock (suc n) = by (exclusive_by (mode_in_frame (frame_at s n) lock)) (holder_below s lock n)
  where
    by : (HoldsAlone (frame_at s n) lock) ⊎ (HoldsAlone (frame_at s n) lock → ⊥) → ((l : ℕ) × (l < n) × HoldsAlone (frame_at s l) lock) ⊎ ((l : ℕ) → l < n → HoldsAlone (frame_at s l) lock → ⊥)
        → ((l : ℕ) × (l < suc n) × HoldsAlone (frame_at s l) lock) ⊎ ((l : ℕ) → l < suc n → HoldsAlone (frame_at s l) lock → ⊥)
    by (inl h) q = inl (n, omega arith, h)
    by (inr h) (inl q) = inl (q.0, omega (arith, q.1), q.2)
    by (inr h) (inr q) = inr (λ l lt g. ⊎_elim (λ (e : l ≡ n). h (subst (λ (x : ℕ). HoldsAlone (frame_at s x) lock) e g)) (λ (ne : l ≡ n → ⊥). q l (omega arith) g) (cases_eq l n))

-- ---- the end

module _ (r : Recording) (z : TableId) (t : State (Unit {0}) View) (M : IsMoment r t) (host : BoardSeat) (seen : get_elem? t.views host.id ≡ some host.me.0) (state : StateValue) (c : IsCollecting r z host state []) where
  lanes_few : (service_of r).lanes ≤ most_lanes
  lanes_few = M.right.good.lanes

  collected : (lane : ℕ) → lane < (service_of r).lanes → IsCollected r host state lane
  collected lane lt = ⊎_elim (λ (q : IsCollected r host state lane). q) (λ (q : (m : LaneSeat) × Has m [] × (m.lane ≡ lane)). absurd q.1) (c.every lane lt)

  -- what the host knows of a lane is what is known of it
  known_is : (lane : ℕ) → (lt : lane < (service_of r).lanes) → M.know lane ≡ (collected lane lt).known.knows
  known_is lane lt =
      let q = collected lane lt in
      let g = (says_host r t M host.id host.me.0 seen c.gathering.role).3 q.place q.known q.at in
      ap M.know (sym q.lane_is) ∙ g.knows

  known : (lane : ℕ) → (lt : lane < (service_of r).lanes) → IsKnown r t.words M.state lane (collected lane lt).known.knows
  known lane lt = subst (IsKnown r t.words M.state lane) (known_is lane lt) (M.lanes lane (omega (arith, lt, lanes_few)))

  -- all events are below the words
  all_below : (e : Event) → Has e (events_of r) → is_below t.words e ≡ true
  all_below e there =
      let lt = lane_there r M.right e there in
      let a : e.index < count_at (counted_all (counts_of (start_of r)) (events_of r)) e.lane = numbered_below (counts_of (start_of r)) (events_of r) e (numbered r M.right) there in
      let b = (collected e.lane lt).done in
      let d = (known e.lane lt).done in
      lt-ltb _ _ (omega arith)

  -- so its state is the run's
  pub runs : run (service_of r) (start_of r) (events_of r) ≡ Some M.state
  runs = ap (run (service_of r) (start_of r)) (sym (all_kept t.words (events_of r) all_below)) ∙ M.at

  lane_is : (lane : ℕ) → lane < (service_of r).lanes → lane_of state lane ≡ lane_of M.state lane
  lane_is lane lt =
      let q = collected lane lt in
      let counts : count_at (counted_all (counts_of (start_of r)) (events_of r)) lane ≡ (lane_of M.state lane).done = ap (λ (l : List ℕ). count_at l lane) (runs_count_on (service_of r) (start_of r) M.state (events_of r) runs).counts ∙ count_is M.state lane in
      q.lane_state ∙ lane_same q.known.knows.done (lane_of M.state lane).done q.known.knows.frame (frame_at M.state lane) (q.done ∙ counts) (known lane lt).frame

  lanes_long : length M.state.lanes ≡ (service_of r).lanes
  lanes_long = (sound_at r M.right t.words M.state M.at).by.complete.lanes

  pub lanes_are : state.lanes ≡ M.state.lanes
  lanes_are = same_items state.lanes M.state.lanes no_lane (c.lanes ∙ sym lanes_long) (λ k lt. lane_is k (omega (arith, lt, c.lanes)))

  -- each variable's word has the state's value
  word_is : (x : ℕ) → x < variables_in r → word_value t.words x ≡ value_of M.state.variables x
  word_is x lt = by (holder_below M.state (guard r x) most_lanes)
    where
      no_mode : (lock : ℕ) → mode_in_frame None lock ≡ Exclusive → ⊥
      no_mode lock h = cc

      held : (l : ℕ) → HoldsAlone (frame_at M.state l) (guard r x) → (l < (service_of r).lanes) ⊎ ((service_of r).lanes ≤ l) → word_value t.words x ≡ value_of M.state.variables x
      held l h (inl less) =
          let q = collected l less in
          let k = known l less in
          let own : HoldsAlone q.known.knows.frame (guard r x) = subst (λ f. HoldsAlone f (guard r x)) (sym k.frame) h in
          (k.stored x (q.stored x lt own)).same ∙ k.copies x (exclusive_held _ own)
      held l h (inr more) =
          let none : frame_at M.state l ≡ None = ap (λ (y : Lane). y.frame) (get_or_past M.state.lanes l no_lane (omega (arith, lanes_long, more))) in
          absurd (no_mode (guard r x) (subst (λ f. HoldsAlone f (guard r x)) none h))

      by : ((l : ℕ) × (l < most_lanes) × HoldsAlone (frame_at M.state l) (guard r x)) ⊎ ((l : ℕ) → l < most_lanes → HoldsAlone (frame_at M.state l) (guard r x) → ⊥) → word_value t.words x ≡ value_of M.state.variables x
      by (inl q) = held q.0 q.2 (cases_lt q.0 (service_of r).lanes)
      by (inr none) = M.shared x lt none

  variables_long : length M.state.variables ≡ variables_in r
  variables_long = (sound_at r M.right t.words M.state M.at).by.complete.variables

  module _ (later last : StateValue) (noted_is : later ≡ noted_all state (events_of r)) (values : HasWordValues t.words (variables_in r) later last) where
    noted : IsNoted (service_of r) (start_of r) M.state state later
    noted = subst (IsNoted (service_of r) (start_of r) M.state state) (sym noted_is) (noted_run (service_of r) (start_of r) M.state state (events_of r) runs c.queues c.semaphores c.clients)

    first_long : length state.variables ≡ variables_in r
    first_long = ap length c.variables ∙ M.right.sound.by.complete.variables

    variables_are : last.variables ≡ M.state.variables
    variables_are =
        let long : length last.variables ≡ variables_in r = values.long ∙ ap length noted.variables ∙ first_long in
        same_items last.variables M.state.variables (pos 0) (long ∙ sym variables_long) (λ k lt. let less : k < variables_in r = omega arith in values.each k less ∙ word_is k less)

    state_same : (s u : StateValue) → s.variables ≡ u.variables → s.lanes ≡ u.lanes → s.queues ≡ u.queues → s.semaphores ≡ u.semaphores → s.clients ≡ u.clients → s ≡ u
    state_same s u a b d m e = λ i. record { variables = a i; lanes = b i; queues = d i; semaphores = m i; clients = e i }

    pub answers : run (service_of r) (start_of r) (events_of r) ≡ Some last
    answers = runs ∙ ap Some (sym (state_same last M.state variables_are (values.lanes ∙ noted.lanes ∙ lanes_are) (values.queues ∙ noted.queues) (values.semaphores ∙ noted.semaphores) (values.clients ∙ noted.clients)))
