-- What an event needs is there in a sound state that allows it.
use Rattle.std.proofs.Common.{◌≡◌, ◌⊎◌, inl, inr, ℕ, zero, suc, ◌+◌, ◌<◌, ◌≤◌, ◌^◌, Bool, true, false, List, [], ◌∷◌, length, refl, ap, sym, ◌∙◌, subst, arith, get_or, eqb, set, length-set}
use Rattle.std.specs.Prelude.{Option, Some, None, IfSome, IsSome, ℤ}
use Rattle.std.specs.List.{All, AllByRecursion, IsDistinct, list_any}
use Rattle.std.proofs.lemmas.Bool.{and_parts, eqb-true, ltb-true, true≢false, cases_lt}
use Rattle.std.proofs.lemmas.List.{get_or_past, get_or_default}
use Rattle.std.proofs.lemmas.List.Elements.{All-set, All-push, All-drop}
use Rattle.std.proofs.lemmas.Map.Keys.{IsDistinct-cons}
use Rattle.std.proofs.lemmas.Map.Steps.{length-le_from_distinct_below}
use Rattle.rex_syntax.specs.declared.line.Line.{Line}
use Rattle.rex_syntax.specs.declared.line.Line.TheVariants.{Clock as ClockAt, Random as RandomAt}
use Rattle.rex_syntax.specs.declared.service.Declarations.{Declarations}
use Rattle.rex_event.specs.Limits.{most_lanes}
use Rattle.rex_syntax.specs.Service.{IsService}
use Rattle.rex_frame.specs.declared.frame.Frame.{Frame}
use Rattle.rex_event.specs.declared.event.Kind.{Kind}
use Rattle.rex_event.specs.declared.event.Event.{Event}
use Rattle.rex_event.specs.declared.event.Kind.TheVariants.{Begin, AcqEx, AcqSh, RelEx, RelSh, TryOk, TryBusy, Wait, Wake, Clock, Random, Reply, Down, Up}
use Rattle.rex_state.specs.declared.lane.Lane.{Lane}
use Rattle.rex_state.specs.declared.lane.Queue.{Queue}
use Rattle.rex_state.specs.Value.{StateValue}
use Rattle.rex_state.specs.Lines.{locals_of, line_of, local_of}
use Rattle.rex_state.specs.Semaphores.{HasSemaphore}
use Rattle.rex_state.specs.Own.{started}
use Rattle.rex_state.specs.Machine.{lane_of, frame_at, can_go, own_can, no_queue, queue_at, queues_after, client_allows, next}
use Rattle.rex_state.specs.Flows.{CheckedFlows}
use Rattle.rex_state.specs.Sound.{Has, IsOnce, IsQueued, AreServed, with_flows, IsSound}
use Rattle.rex_state.specs.Room.{IsQueueSmall, IsSmall, FitsIn, HasNextPlace, HasLock, HasLocal, CanMove, HasHandler, CanStart, HasEntry, CanApply}
use Rattle.rex_state.specs.Names.{KindNames}
use Rattle.rex_state.proofs.Events.{clock_line, random_line, has_queue, Later, Change, change}
use Rattle.rex_state.proofs.Events.Change.{unchanged, changes}
use Rattle.rex_state.proofs.Fits.{no_handler, takes_there, IsRight, starts_fit}
use Rattle.rex_state.proofs.Keep.{IsNext, next_is}
use Rattle.rex_state.proofs.Names.{lane_in, handler_at, lines_are, locals_are, names_line, waiting_there, events_name}
use Rattle.rex_state.proofs.Queued.{not_queued}
use Rattle.rex_state.proofs.Sounds.{right_flows}

module _ (service : Declarations) (good : IsService service) where
  next_place : (f : Frame) → FitsIn service f → HasNextPlace f
  next_place f fits = omega (arith, fits.inside.place, ap length (lines_are service good f.handler fits.handler), (handler_at service good f.handler fits.handler).short)

  has_lock : (f : Frame) (lock : ℕ) → FitsIn service f → lock < length service.locks → HasLock lock f
  has_lock f lock fits h = (omega (arith, good.locks), next_place f fits)

  has_local : (f : Frame) (line : Line) (local : ℕ) → FitsIn service f → local < locals_of service f.handler → line_of service f ≡ line → local_of line ≡ local → HasLocal (line_of service f) f
  has_local f line local fits h e n = (let l : local_of (line_of service f) ≡ local = ap local_of e ∙ n in omega (arith, fits.locals), next_place f fits)

  -- ---- what an event changes in its lane

  can_move : (kind : Kind) (f : Frame) (vs : List ℤ) → FitsIn service f → KindNames service kind → can_go service kind (line_of service f) f vs ≡ true → CanMove kind (line_of service f) f
  can_move (AcqEx lock) f vs fits names h = has_lock f lock fits names
  can_move (AcqSh lock) f vs fits names h = has_lock f lock fits names
  can_move (RelEx lock) f vs fits names h = has_lock f lock fits names
  can_move (RelSh lock) f vs fits names h = has_lock f lock fits names
  can_move (TryOk lock) f vs fits names h = has_lock f lock fits names
  can_move (TryBusy lock) f vs fits names h = tt
  can_move (Wait condition lock) f vs fits names h = omega (arith, good.locks, names.1)
  can_move (Wake condition lock) f vs fits names h = omega (arith, good.locks, names.1)
  can_move (Clock value) f vs fits names h = let t = clock_line _ (and_parts _ _ h).1 in has_local f (ClockAt t.0) t.0 fits (names_line service good f (ClockAt t.0) fits t.1) t.1 refl
  can_move (Random value) f vs fits names h = let t = random_line _ (and_parts _ _ h).1 in has_local f (RandomAt t.0) t.0 fits (names_line service good f (RandomAt t.0) fits t.1) t.1 refl
  can_move (Begin client sequence handler arguments) f vs fits names h = tt
  can_move (Reply client value) f vs fits names h = tt
  can_move _ f vs fits names h = next_place f fits

  has_handler : (handler count : ℕ) → (handler < length service.handlers) × ((get_or service.handlers handler no_handler).parameters ≡ count) → HasHandler service handler count
  has_handler handler count t = (t.0, omega (arith, t.1, locals_are service good handler t.0, (handler_at service good handler t.0).fewer))

  can_start : (kind : Kind) (o : Option Frame) (vs : List ℤ) → IfSome o (FitsIn service) → KindNames service kind → own_can service kind o vs ≡ true → CanStart service kind o
  can_start (Begin client sequence handler arguments) None vs fits names h = has_handler handler (length arguments) (takes_there service.handlers handler (length arguments) h)
  can_start (Begin client sequence handler arguments) (Some f) vs fits names h = absurd (true≢false (sym h))
  can_start (Reply client value) o vs fits names h = tt
  can_start kind None vs fits names h = tt
  can_start kind (Some f) vs fits names h = (fits, can_move kind f vs fits names h)

-- the semaphore that an event names has its value
has_semaphore : (service : Declarations) (kind : Kind) → KindNames service kind → (values : List ℕ) → length values ≡ length service.semaphores → HasSemaphore kind values
has_semaphore service (Down semaphore) names values long = omega (arith, long, names)
has_semaphore service (Up semaphore) names values long = omega (arith, long, names)
has_semaphore service _ names values long = tt

-- ---- a queue has room

apart_by : (a b : ℕ) (t : Bool) → eqb a b ≡ t → (a ≡ b → ⊥) → t ≡ false
apart_by a b true e n = absurd (n (eqb-true a b e))
apart_by a b false e n = refl

apart_from : (x : ℕ) (xs : List ℕ) → (Has x xs → ⊥) → AllByRecursion (λ y. eqb x y ≡ false) xs
apart_from x [] n = tt
apart_from x (y ∷ ys) n = (apart_by x y (eqb x y) refl (λ e. n (inl (sym e))), apart_from x ys (λ h. n (inr h)))

pub distinct_from : (xs : List ℕ) → IsOnce xs → IsDistinct eqb xs
unfolding IsDistinct
distinct_from [] once = tt
distinct_from (x ∷ xs) once = IsDistinct-cons eqb x xs (apart_from x xs once.0) (distinct_from xs once.1)

pub has_any : (q : ℕ) (xs : List ℕ) → list_any (eqb q) xs ≡ true → Has q xs
has_any q [] h = absurd (cc)
has_any q (x ∷ xs) h = by (eqb q x) refl (λ k. has_any q xs k)
  where
    by : (t : Bool) → eqb q x ≡ t → (list_any (eqb q) xs ≡ true → Has q xs) → Has q (x ∷ xs)
    by true e go = inl (sym (eqb-true q x e))
    by false e go = inr (go (rw e at h))

-- different numbers below n are at most n
pub once_few : (xs : List ℕ) (n : ℕ) → IsOnce xs → ((x : ℕ) → Has x xs → x < n) → length xs ≤ n
once_few xs n once below = length-le_from_distinct_below xs n (distinct_from xs once) (λ q h. below q (has_any q xs h))

-- a queue without one of the lanes has room for it
queue_room : (service : Declarations) (s : StateValue) (lane condition : ℕ) → IsQueued service s → lane < length s.lanes → length s.lanes ≤ most_lanes → (Has lane (queue_at s.queues condition) → ⊥) → length (queue_at s.queues condition) < most_lanes
queue_room service s lane condition queued l few n =
    let below : (x : ℕ) → Has x (lane ∷ queue_at s.queues condition) → x < length s.lanes = λ x h. by x h in
    let all : length (lane ∷ queue_at s.queues condition) ≤ length s.lanes = once_few (lane ∷ queue_at s.queues condition) (length s.lanes) (n, queued.once condition) below in
    omega arith
  where
    by : (x : ℕ) → Has x (lane ∷ queue_at s.queues condition) → x < length s.lanes
    by x (inl e) = subst (λ (y : ℕ). y < length s.lanes) e l
    by x (inr h) = waiting_there service s condition x queued h

-- ---- a client has its entry

client_there : (kind : Kind) (s : StateValue) (lane : ℕ) (o : Option Frame) (service : Declarations) → frame_at s lane ≡ o → AreServed s → own_can service kind o s.variables ≡ true → client_allows kind s.clients ≡ true → HasEntry kind s.clients
client_there (Begin client sequence handler arguments) s lane o service b served h c = ltb-true _ _ (and_parts _ _ c).0
client_there (Reply client value) s lane None service b served h c = absurd (true≢false (sym h))
client_there (Reply client value) s lane (Some f) service b served h c =
    let same : f.client ≡ client = eqb-true _ _ (and_parts _ _ (and_parts _ _ h).1).0 in
    subst (λ (x : ℕ). x < length s.clients) same ((served.busy lane f b).there)
client_there kind s lane o service b served h c = tt

-- ---- the whole

pub can_apply : (service : Declarations) (s t : StateValue) (e : Event) → IsService service → IsSound service s → next service s e ≡ Some t → e.index + 1 < 2 ^ 32 → CanApply service e.lane e.kind s
can_apply service s t e good sound h count =
    let n : IsNext service s e t = next_is service s e t h in
    let p : CheckedFlows = with_flows service sound.flows in
    let right : IsRight (with_flows service sound.flows) = right_flows service s good sound in
    let fits : IfSome (frame_at s e.lane) (FitsIn service) = lane_in (with_flows service sound.flows) (frame_at s e.lane) (sound.by.fits e.lane) in
    let names : KindNames service e.kind = (events_name service s t e good sound h).kind in
    let few : length s.lanes ≤ most_lanes = omega (arith, sound.by.complete.lanes, good.lanes) in
    let index : (lane_of s e.lane).done ≡ e.index = eqb-true _ _ n.index in
    record {
      there = n.enabled.there;
      count = omega arith;
      start = can_start service good e.kind (frame_at s e.lane) s.variables fits names n.enabled.own;
      fits = lane_in (with_flows service sound.flows) (started service e.kind (frame_at s e.lane)) (starts_fit (with_flows service sound.flows) right e.kind (frame_at s e.lane) s.variables (sound.by.fits e.lane) n.enabled.own);
      variables = sound.by.complete.variables;
      queue = has_queue service e.kind names s.queues sound.by.complete.queues
          (λ condition lock k. queue_room service s e.lane condition sound.by.queued n.enabled.there few (not_queued service s e n.enabled sound.by.queued condition));
      semaphore = has_semaphore service e.kind names s.semaphores sound.by.complete.semaphores;
      entry = client_there e.kind s e.lane (frame_at s e.lane) service refl sound.by.served n.enabled.own n.enabled.client;
    }

-- ---- bounds stay

queue_small : (queues : List Queue) (condition : ℕ) → All IsQueueSmall queues → All (λ lane. lane < most_lanes) (queue_at queues condition)
queue_small queues condition h = by (cases_lt condition (length queues))
  where
    by : (condition < length queues) ⊎ (length queues ≤ condition) → All (λ lane. lane < most_lanes) (queue_at queues condition)
    by (inl l) = h condition no_queue l
    by (inr l) = subst (λ (q : Queue). All (λ lane. lane < most_lanes) q.lanes.items) (sym (get_or_past queues condition no_queue l)) (λ k d z. absurd (omega arith))

small_in : (kind : Kind) (lane c : ℕ) (old new : List ℕ) → Later kind lane c old new → lane < most_lanes → All (λ x. x < most_lanes) old → All (λ x. x < most_lanes) new
small_in kind lane c old new (inl j) l h = subst (All (λ x. x < most_lanes)) (sym j.2) (All-push (λ x. x < most_lanes) old lane h l)
small_in kind lane c old new (inr j) l h = subst (All (λ x. x < most_lanes)) (sym j.1) (All-drop (λ x. x < most_lanes) j.0 old h)

small_by : (kind : Kind) (lane : ℕ) (queues : List Queue) → Change kind lane → lane < most_lanes → All IsQueueSmall queues → All IsQueueSmall (queues_after kind lane queues)
small_by kind lane queues (unchanged e) l h = subst (All IsQueueSmall) (sym (e queues)) h
small_by kind lane queues (changes c new n e later) l h =
    subst (All IsQueueSmall) (sym (e queues)) (All-set IsQueueSmall queues c _ (small_in kind lane c (queue_at queues c) _ (later (queue_at queues c)) l (queue_small queues c h)) h)

pub queues_small : (kind : Kind) (lane : ℕ) (queues : List Queue) → lane < most_lanes → All IsQueueSmall queues → All IsQueueSmall (queues_after kind lane queues)
queues_small kind lane queues l h = small_by kind lane queues (change kind lane) l h

-- an element is among the list's
has_at : {X : Type 0} (xs : List X) (i : ℕ) (d : X) → i < length xs → Has (get_or xs i d) xs
has_at [] i d h = absurd (omega arith)
has_at (x ∷ xs) zero d h = inl refl
has_at (x ∷ xs) (suc i) d h = inr (has_at xs i d (omega arith))

-- a sound state has no more than the most lanes, and queues of no others
pub sound_is_small : (service : Declarations) (s : StateValue) → IsService service → IsSound service s → IsSmall s.lanes s.queues
sound_is_small service s good sound =
    let long : length s.lanes ≡ service.lanes = sound.by.complete.lanes in
    let below : (q : ℕ) (lane : ℕ) → Has lane (queue_at s.queues q) → lane < most_lanes = λ q lane h. let w : lane < length s.lanes = waiting_there service s q lane sound.by.queued h in omega (arith, good.lanes) in
    record {
      few = omega (arith, good.lanes);
      each = λ q d h.
          let small : All (λ lane. lane < most_lanes) (queue_at s.queues q) = λ i x k. below q _ (has_at (queue_at s.queues q) i x k) in
          subst (λ (queue : Queue). All (λ lane. lane < most_lanes) queue.lanes.items) (get_or_default s.queues q no_queue d h) small;
    }

pub small_set : (lanes : List Lane) (queues : List Queue) (lane : ℕ) (x : Lane) (kind : Kind) → lane < length lanes → IsSmall lanes queues → IsSmall (set lanes lane x) (queues_after kind lane queues)
small_set lanes queues lane x kind l h = record {
  few = let e : length (set lanes lane x) ≡ length lanes = length-set lanes lane x in omega (arith, h.few);
  each = queues_small kind lane queues (omega (arith, h.few)) h.each;
}

-- what is there
pub some_is : {X : Type 0} (o : Option X) → IsSome o → (x : X) × (o ≡ Some x)
some_is None h = absurd (true≢false (sym h))
some_is (Some x) h = (x, refl)
