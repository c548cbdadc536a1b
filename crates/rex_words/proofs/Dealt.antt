-- What a seat is dealt.
use Rattle.std.proofs.Common.{◌≡◌, ⊎_elim, ℕ, zero, suc, ◌+◌, ◌<◌, ◌≤◌, arith, List, [], ◌∷◌, ◌++◌, length, get_or, refl, ap, sym, ◌∙◌, subst, length-append}
use Rattle.std.specs.Prelude.{ℤ, pos, Option, Some, None, slice_get, slice_index_or, replicate}
use Rattle.std.specs.Int.{cast_signed}
use mir.Syntax.{w64}
use Rattle.std.proofs.lemmas.Bool.{cases_lt}
use Rattle.rand_pcg.specs.Pcg.{pcg32}
use Rattle.atomic_table.specs.Seated.{TableId}
use Rattle.atomic_table.specs.Table.{opening}
use Rattle.rex_syntax.specs.declared.service.Declarations.{Declarations}
use Rattle.rex_syntax.specs.declared.service.Lock.{Lock}
use Rattle.rex_syntax.specs.declared.service.LockKind.TheVariants.{Plain}
use Rattle.rex_syntax.specs.declared.request.Request.{Request}
use Rattle.rex_syntax.specs.declared.locks.Mode.TheVariants.{Free}
use Rattle.rex_syntax.specs.Service.{IsService}
use Rattle.rex_syntax.specs.Check.{IsChecked}
use Rattle.rex_frame.specs.declared.frame.Frame.{Frame}
use Rattle.rex_event.specs.Order.{Has}
use Rattle.rex_state.specs.Value.{StateValue}
use Rattle.rex_state.specs.Locks.{mode_in_frame}
use Rattle.rex_state.specs.Machine.{no_lane, lane_of, frame_at}
use Rattle.rex_state.specs.Start.{start_of}
use Rattle.rex_state.specs.Sound.{mode_at, IsSound}
use Rattle.rex_state.specs.Touched.{held_at}
use Rattle.rex_state.proofs.Sounds.{start_keeps}
use Rattle.rex_words.specs.declared.assignment.Assignment.{Assignment}
use Rattle.rex_words.specs.declared.stamped.Stamped.{Stamped}
use Rattle.rex_words.specs.declared.seat.WordSeat.{WordSeat}
use Rattle.rex_words.specs.declared.view.View.{View}
use Rattle.rex_words.specs.Alone.{service_of, lane_requests, dice_of, rolled, drawn, begun_in, draws_in}
use Rattle.rex_words.specs.Budget.{left_at}
use Rattle.rex_words.specs.Stamps.{greatest_stamp}
use Rattle.rex_words.specs.Moment.{locks_in, variables_in, IsAssignment, IsMoment}
use Rattle.rex_words.specs.Seats.{IsLaneOf}
use Rattle.rex_words.specs.Steps.{first_view, dealt_right}
use Rattle.rex_words.specs.Dealing.{CanRecord, IsAssignmentOf, AreWordsFor, IsFreshSeat, AreDealt}
use Rattle.rex_words.proofs.Keeps.{opens}
use Rattle.rex_words.proofs.Modes.{start_idle, start_full}

-- ---- a lane that did nothing

done_at : (n l : ℕ) → (slice_index_or (replicate n no_lane) l no_lane).done ≡ 0
done_at zero l = refl
done_at (suc n) zero = refl
done_at (suc n) (suc l) = done_at n l

no_split : (before rest : List Stamped) (x : Stamped) → [] ≡ before ++ x ∷ rest → ⊥
no_split [] rest x h = cc
no_split (y ∷ before) rest x h = cc

pub record IsFresh (r : Assignment) (m : WordSeat) : Type 0 where
  pub there : m.lane < (service_of r).lanes
  pub state : m.state ≡ start_of (service_of r)
  pub events : m.events.items ≡ []
  pub room : 1000000 ≤ m.events.cap
  pub stamp : m.stamp ≡ 0
  pub requests : m.requests.items ≡ lane_requests r m.lane
  pub begun : m.begun ≡ 0
  pub random : m.random ≡ (pcg32 (dice_of r m.lane)).0
  pub dice : m.dice ≡ (pcg32 (dice_of r m.lane)).1

module _ (r : Assignment) (a : IsAssignment r) (m : WordSeat) (f : IsFresh r m) where
  idle : (lane : ℕ) → frame_at m.state lane ≡ None
  idle lane = ap (λ (s : StateValue). frame_at s lane) f.state ∙ start_idle (service_of r) lane

  none_held : (lock : ℕ) → mode_at m.state m.lane lock ≡ Free
  none_held lock = ap (λ (o : Option Frame). mode_in_frame o lock) (idle m.lane)

  none : length m.events.items ≡ 0
  none = ap (λ (xs : List Stamped). length xs) f.events

  pub fresh_lane : IsLaneOf r m
  fresh_lane = record {
    there = f.there;
    sound = subst (λ (s : StateValue). IsSound (service_of r) s) (sym f.state) (start_keeps (service_of r) a.good a.checked);
    idle = λ other n. idle other;
    whole = λ lane. subst (λ (s : StateValue). length (held_at s lane).modes ≡ 64) (sym f.state) (start_full (service_of r) lane);
    exclusive = λ lock n. absurd (n (none_held lock));
    count = ap (λ (s : StateValue). (lane_of s m.lane).done) f.state ∙ (done_at (service_of r).lanes m.lane ∙ sym none);
    mine = λ g h. absurd (let e : None ≡ Some g = sym (idle m.lane) ∙ h in cc);
    few = let n = none in let l : left_at (service_of r) (frame_at m.state m.lane) ≡ 0 = ap (left_at (service_of r)) (idle m.lane) in omega arith;
    room = f.room;
    stamp = f.stamp ∙ sym (ap greatest_stamp f.events);
    low = let s = f.stamp in omega arith;
    requests = f.requests;
    begun = f.begun ∙ sym (ap begun_in f.events);
    random = f.random ∙ ap (λ (xs : List Stamped). drawn (dice_of r m.lane) (draws_in xs)) (sym f.events);
    dice = f.dice ∙ ap (λ (xs : List Stamped). rolled (dice_of r m.lane) (draws_in xs + 1)) (sym f.events);
    told = record { each = λ before rest x h. absurd (no_split before rest x (sym f.events ∙ h)) };
  }

  pub fresh_seat : (z : TableId) (host : View) → host.key ≡ r → host.lane ≡ m.lane → m.seat.table_id ≡ z → m.seat.me ≡ (dealt_right host, []) → IsFreshSeat r z m.lane m
  fresh_seat z host key lane table me = record {
    seat = record {
      table = table;
      key = ap (λ (x : View × List (ℕ × Unit {0})). x.0.key) me ∙ key;
      role = ap (λ (x : View × List (ℕ × Unit {0})). x.0.role) me;
      lane_is = ap (λ (x : View × List (ℕ × Unit {0})). x.0.lane) me ∙ lane;
      empty = ap (λ (x : View × List (ℕ × Unit {0})). x.1) me;
      lane = fresh_lane;
      held = [];
      now = m.seat.me.0.knows;
      does = refl;
      quiet = λ e h. absurd h;
      list = ap (λ (x : View × List (ℕ × Unit {0})). x.0.knows.list) me ∙ sym f.events;
      own = ap (λ (x : View × List (ℕ × Unit {0})). x.0.knows.own) me ∙ (ap (λ (k : Assignment). start_of (service_of k)) key ∙ sym f.state);
    };
    lane_is = refl;
    none = f.events;
  }

-- ---- all seats

before_end : {A : Type 0} (l : List A) (a d : A) (i : ℕ) → i < length l → get_or (l ++ a ∷ []) i d ≡ get_or l i d
before_end [] a d i h = absurd (omega arith)
before_end (x ∷ xs) a d zero h = refl
before_end (x ∷ xs) a d (suc i) h = before_end xs a d i (omega arith)

at_length : {A : Type 0} (l : List A) (a d : A) → get_or (l ++ a ∷ []) (length l) d ≡ a
at_length [] a d = refl
at_length (x ∷ xs) a d = at_length xs a d

pub dealt_more : (r : Assignment) (z : TableId) (n : ℕ) (ms : List WordSeat) (m : WordSeat) → AreDealt r z n ms → IsFreshSeat r z n m → AreDealt r z (n + 1) (ms ++ m ∷ [])
dealt_more r z n ms m a q = record {
  count = omega (arith, length-append ms (m ∷ []), a.count);
  each = λ l d lt. ⊎_elim
      (λ (h : l < n). subst (IsFreshSeat r z l) (sym (before_end ms m d l (omega (arith, a.count)))) (a.each l d h))
      (λ (h : n ≤ l).
      let here : l ≡ n = omega arith in
      let at : get_or (ms ++ m ∷ []) l d ≡ m = ap (λ (i : ℕ). get_or (ms ++ m ∷ []) i d) (here ∙ sym a.count) ∙ at_length ms m d in
      subst (IsFreshSeat r z l) (sym at) (subst (λ (x : ℕ). IsFreshSeat r z x m) (sym here) q))
      (cases_lt l n);
}

-- ---- the beginning

pub assignment_right : (r : Assignment) (service : Declarations) (requests : List Request) (seed : ℕ) → IsAssignmentOf r service requests seed → CanRecord service requests → IsService service → IsChecked service → IsAssignment r
assignment_right r service requests seed of can good checked = record {
  good = subst IsService (sym of.service_is) good;
  checked = subst IsChecked (sym of.service_is) checked;
  plain = subst (λ (d : Declarations). (i : ℕ) (lock : Lock) → slice_get d.locks i ≡ Some lock → lock.kind ≡ Plain) (sym of.service_is) can.plain;
  no_conditions = ap (λ (d : Declarations). d.conditions) of.service_is ∙ can.no_conditions;
  no_semaphores = ap (λ (d : Declarations). d.semaphores) of.service_is ∙ can.no_semaphores;
  clients = subst (λ (qs : List Request). (q : Request) → Has q qs → (0 < q.client) × (q.client ≤ 256)) (sym of.requests_are) can.clients;
}

pub opens_with : (r : Assignment) → IsAssignment r → (words : List ℕ) (locks : ℕ) (values : List ℤ) → locks ≡ locks_in r → values ≡ (start_of (service_of r)).variables → AreWordsFor values locks words → IsMoment r (opening words [] (first_view r))
opens_with r a words locks values locks_is values_are w =
    let long : length values ≡ variables_in r = ap (λ (xs : List ℤ). length xs) values_are ∙ (start_keeps (service_of r) a.good a.checked).by.complete.variables in
    let l = w.long in
    opens r a words (omega arith) record {
      locks = λ lock h. w.locks_are lock (omega arith);
      values = λ x h. subst (λ (n : ℕ). cast_signed w64 (slice_index_or words (n + x) 0) ≡ slice_index_or (start_of (service_of r)).variables x (pos 0)) locks_is
          (w.each x (omega arith) ∙ ap (λ (xs : List ℤ). slice_index_or xs x (pos 0)) values_are);
    }

pub words_more : (r : Assignment) → IsAssignment r → (words : List ℕ) (locks : ℕ) (values : List ℤ) → locks ≡ locks_in r → values ≡ (start_of (service_of r)).variables → AreWordsFor values locks words → locks_in r + variables_in r < length words
words_more r a words locks values locks_is values_are w =
    let long : length values ≡ variables_in r = ap (λ (xs : List ℤ). length xs) values_are ∙ (start_keeps (service_of r) a.good a.checked).by.complete.variables in
    let l = w.long in
    omega arith
