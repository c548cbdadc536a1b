-- A lane that is back makes the same next event from what is kept as from the state.
use Rattle.std.proofs.Common.{◌≡◌, ℕ, suc, ◌<◌, Bool, true, false, not, List, [], ◌∷◌, length, get_or, refl, ap, sym, ◌∙◌, subst, arith}
use Rattle.std.specs.Prelude.{Option, Some, None, Ok, ℤ, find, if◌then◌else◌}
use Rattle.std.specs.List.{list_all, position, position_or_len}
use Rattle.std.proofs.lemmas.Bool.{true≢false, lt-ltb}
use Rattle.rex_syntax.specs.declared.line.Line.{Line}
use Rattle.rex_syntax.specs.declared.line.Line.TheVariants as line
use Rattle.rex_syntax.specs.declared.flow.Leads.{Leads}
use Rattle.rex_syntax.specs.declared.locks.Lockset.{Lockset}
use Rattle.rex_syntax.specs.declared.locks.Mode.{Mode}
use Rattle.rex_syntax.specs.declared.request.Request.{Request}
use Rattle.rex_syntax.specs.declared.service.Declarations.{Declarations}
use Rattle.rex_syntax.specs.Locks.{mode_of, is_empty, is_exclusive, is_free as is_free_mode}
use Rattle.rex_syntax.specs.Leads.{leads_of, guard_of, lock_of, expr_is_held}
use Rattle.rex_frame.specs.declared.frame.Frame.{Frame}
use Rattle.rex_frame.specs.Phases.{is_running}
use Rattle.rex_frame.specs.Step.{value_in}
use Rattle.rex_frame.specs.Guarded.{Agree}
use Rattle.rex_frame.proofs.Held.{only_if_true, if_ok, if_true}
use Rattle.rex_frame.proofs.Guarded.{expr_same}
use Rattle.rex_event.specs.declared.event.Event.{Event}
use Rattle.rex_event.specs.declared.event.Kind.{Kind}
use Rattle.rex_event.specs.declared.event.Kind.TheVariants as kind
use Rattle.rex_state.specs.declared.lane.Lane.{Lane}
use Rattle.rex_state.specs.declared.lane.Entry.{Entry}
use Rattle.rex_state.specs.declared.lane.Queue.{Queue}
use Rattle.rex_state.specs.Value.{StateValue}
use Rattle.rex_state.specs.Lines.{line_of}
use Rattle.rex_state.specs.Locks.{mode_in, is_free, holder, exclusive_holder}
use Rattle.rex_state.specs.Machine.{no_lane, frame_at, queue_at, is_in, enabled}
use Rattle.rex_state.specs.Flows.{CheckedFlows}
use Rattle.rex_state.specs.Sound.{mode_at, FrameFits, Fits}
use Rattle.rex_state.proofs.Fits.{IsRight, may_line}
use Rattle.rex_state.proofs.Modes.{all_free}
use Rattle.rex_state.proofs.Touched.{mode_held}
use Rattle.rex_record.specs.declared.turns.Turn.{Turn}
use Rattle.rex_record.specs.declared.turns.Turn.TheVariants.{Unsignalled}
use Rattle.rex_record.specs.Turn.{begin_of, wanted, held_by, event_at, turn_for, waiting_turn, busy_turn}
use Rattle.rex_live.specs.Floor.{is_open, first_open, begin_at, event_of, lane_event}
use Rattle.rex_live.specs.Lent.{is_out, IsLendingBy}
use Rattle.rex_live.proofs.Lends.{held_same}

-- ---- lists

-- a test that passes alike on two lists passes on all of one exactly where it passes on all of the other
all_alike : (P : Lane → Bool) (xs ys : List Lane) → length xs ≡ length ys → ((i : ℕ) → P (get_or xs i no_lane) ≡ P (get_or ys i no_lane)) → list_all P xs ≡ list_all P ys
all_alike P [] [] l h = refl
all_alike P [] (y ∷ ys) l h = absurd (omega arith)
all_alike P (x ∷ xs) [] l h = absurd (omega arith)
all_alike P (x ∷ xs) (y ∷ ys) l h = rw (h 0, all_alike P xs ys (omega arith) (λ i. h (suc i))) refl

-- and passes first at the same place
first_alike : (P : Lane → Bool) (xs ys : List Lane) → length xs ≡ length ys → ((i : ℕ) → P (get_or xs i no_lane) ≡ P (get_or ys i no_lane)) → position_or_len P xs ≡ position_or_len P ys
first_alike P [] [] l h = refl
first_alike P [] (y ∷ ys) l h = absurd (omega arith)
first_alike P (x ∷ xs) [] l h = absurd (omega arith)
first_alike P (x ∷ xs) (y ∷ ys) l h = rw (h 0, first_alike P xs ys (omega arith) (λ i. h (suc i))) refl

place_alike : (P : Lane → Bool) (xs ys : List Lane) → length xs ≡ length ys → ((i : ℕ) → P (get_or xs i no_lane) ≡ P (get_or ys i no_lane)) → position P xs ≡ position P ys
place_alike P xs ys l h = rw (first_alike P xs ys l h, l) refl

-- tests that say the same find the same
pub find_alike : (P Q : Request → Bool) (xs : List Request) → ((x : Request) → P x ≡ Q x) → find P xs ≡ find Q xs
find_alike P Q [] h = refl
find_alike P Q (x ∷ xs) h = rw (h x, find_alike P Q xs h) refl

-- ---- idle lanes

-- an idle lane may begin what is open
pub enabled_open : (service : Declarations) (s : StateValue) (lane : ℕ) (request : Request) → lane < length s.lanes → frame_at s lane ≡ None → enabled service lane (begin_of request) s ≡ is_open service s.clients request
enabled_open service s lane request there idle = rw (lt-ltb _ _ there, idle) refl

module _ (p : CheckedFlows) (chk : IsRight p) (out : List Bool) (kept s : StateValue) (lends : IsLendingBy p out kept s) where
  mode_same : (lane k : ℕ) → mode_at kept lane k ≡ mode_at s lane k
  mode_same lane k = mode_held (frame_at kept lane) k ∙ ap (λ (x : Lockset). mode_of x k) (held_same p chk out kept s lends lane) ∙ sym (mode_held (frame_at s lane) k)

  holder_same : (lock : ℕ) → holder lock kept.lanes ≡ holder lock s.lanes
  holder_same lock = place_alike (λ l. not (is_free_mode (mode_in lock l))) kept.lanes s.lanes lends.lanes (λ i. ap (λ (m : Mode). not (is_free_mode m)) (mode_same i lock))

  exclusive_same : (lock : ℕ) → exclusive_holder lock kept.lanes ≡ exclusive_holder lock s.lanes
  exclusive_same lock = place_alike (λ l. is_exclusive (mode_in lock l)) kept.lanes s.lanes lends.lanes (λ i. ap is_exclusive (mode_same i lock))

  free_same : (lock : ℕ) → is_free lock kept.lanes ≡ is_free lock s.lanes
  free_same lock = all_alike (λ l. is_free_mode (mode_in lock l)) kept.lanes s.lanes lends.lanes (λ i. ap is_free_mode (mode_same i lock))

  held_by_same : (k : Kind) → held_by k kept.lanes ≡ held_by k s.lanes
  held_by_same (kind.AcqEx lock) = holder_same lock
  held_by_same (kind.AcqSh lock) = exclusive_same lock
  held_by_same (kind.Wake condition lock) = holder_same lock
  held_by_same _ = refl

  -- a lane that replies holds nothing, and so reads no variable
  reply_same : (value : _) (f : Frame) (got : Leads) → leads_of p.service (line.Reply value) f.held ≡ Ok got → value_in value f kept.variables ≡ value_in value f s.variables
  reply_same value f got h =
      let held : expr_is_held p.service f.held value ≡ true = if_true _ _ _ got h in
      let free : is_empty f.held ≡ true = only_if_true _ _ _ got (if_ok _ _ _ got h) in
      let agree : Agree p.service f.held kept.variables s.variables = record {
        long = lends.variables;
        same = λ x r. absurd (true≢false (sym r ∙ ap (λ (m : Mode). not (is_free_mode m)) (all_free f.held.modes (guard_of p.service x) free)));
      } in
      expr_same p.service f.held f.locals.items kept.variables s.variables value agree held

  -- the kind that a running lane wants
  wanted_same : (f : Frame) (clock : ℤ) (random : ℕ) (l : Line) → FrameFits p f → is_running f.phase ≡ true → line_of p.service f ≡ l → wanted p.service kept f clock random l ≡ wanted p.service s f clock random l
  wanted_same f clock random (line.Try lock busy) fits run i = rw (free_same lock) refl
  wanted_same f clock random (line.Reply value) fits run i =
      let m = may_line p chk f (line.Reply value) fits run i in ap (λ (x : ℤ). kind.Reply f.client x) (reply_same value f m.0 m.1)
  wanted_same f clock random l fits run i = ap (λ (q : List Queue). wanted p.service (record kept { queues = q }) f clock random l) lends.queues

  module _ (lane : ℕ) (there : lane < length s.lanes) (back : is_out out lane ≡ false) where
    event_same : (k : Kind) → event_at kept lane k ≡ event_at s lane k
    event_same k = ap (λ (n : ℕ). let e : Event = record { lane = lane; index = n; kind = k } in e) (lends.done lane)

    turn_same : (k : Kind) → turn_for kept lane k ≡ turn_for s lane k
    turn_same k = rw (held_by_same k, lends.semaphores, event_same k) refl

    waiting_same : (l : Line) → waiting_turn p.service kept lane l ≡ waiting_turn p.service s lane l
    waiting_same (line.Wait condition test) =
        rw lends.queues
        (ap (λ (t : Turn). if is_in lane (queue_at s.queues condition) then Unsignalled else t) (turn_same (kind.Wake condition (lock_of p.service condition))))
    waiting_same _ = refl

    busy_same : (f : Frame) (clock : ℤ) (random : ℕ) (b : Bool) → is_running f.phase ≡ b → FrameFits p f → busy_turn p.service kept lane f clock random b ≡ busy_turn p.service s lane f clock random b
    busy_same f clock random true run fits =
        ap (λ (k : Kind). turn_for kept lane k) (wanted_same f clock random (line_of p.service f) fits run refl) ∙ turn_same (wanted p.service s f clock random (line_of p.service f))
    busy_same f clock random false run fits = waiting_same (line_of p.service f)

    open_same : (o : Option Request) → begin_at kept lane o ≡ begin_at s lane o
    open_same None = refl
    open_same (Some request) = ap Some (event_same (begin_of request))

    first_same : (requests : List Request) → frame_at s lane ≡ None → first_open p.service kept lane requests ≡ first_open p.service s lane requests
    first_same requests idle =
        find_alike (λ request. enabled p.service lane (begin_of request) kept) (λ request. enabled p.service lane (begin_of request) s) requests
        (λ r.
        enabled_open p.service kept lane r (subst (λ (n : ℕ). lane < n) (sym lends.lanes) there) (lends.back lane back ∙ idle)
        ∙ ap (λ (cs : List Entry). is_open p.service cs r) lends.clients
        ∙ sym (enabled_open p.service s lane r there idle))

    by_frame : (requests : List Request) (clock : ℤ) (random : ℕ) (o : Option Frame) → frame_at s lane ≡ o → Fits p o → lane_event p.service requests kept lane clock random o ≡ lane_event p.service requests s lane clock random o
    by_frame requests clock random None is fits =
        ap (begin_at kept lane) (first_same requests is) ∙ open_same (first_open p.service s lane requests)
    by_frame requests clock random (Some f) is fits = ap event_of (busy_same f clock random (is_running f.phase) refl fits)

    -- the lane's event
    pub lane_event_same : (requests : List Request) (clock : ℤ) (random : ℕ) → lane_event p.service requests kept lane clock random (frame_at kept lane) ≡ lane_event p.service requests s lane clock random (frame_at s lane)
    lane_event_same requests clock random =
        ap (lane_event p.service requests kept lane clock random) (lends.back lane back) ∙ by_frame requests clock random (frame_at s lane) refl (lends.sound.fits lane)
