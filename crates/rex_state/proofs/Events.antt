-- What each kind of event is for: the line at which its lane stands, what it names, and the queue that it changes.
use Rattle.std.proofs.Common.{◌≡◌, ◌≢◌, ◌⊎◌, inl, inr, ℕ, zero, suc, ◌<◌, ◌^◌, true, List, [], ◌∷◌, ◌++◌, length, drop, get_or, refl, ap, sym, ◌∙◌, subst, arith, eq-eqb}
use Rattle.std.specs.Prelude.{Option, Some, None, Ok, IfSome, ℤ, pos, slice_get, slice_index_or}
use Rattle.std.proofs.lemmas.Bool.{and_parts, and_from, eqb-true, true≢false}
use Rattle.std.proofs.lemmas.Bool.Decides.{Decides-int_eq}
use Rattle.std.proofs.lemmas.List.{drop_all, get_or-set_other}
use Rattle.std.proofs.lemmas.Nat.{pow_pos, or_lt, pow_below}
use Rattle.std.proofs.lemmas.Option.{same_Some, slice_get_within}
use Rattle.rex_syntax.specs.declared.expr.Expr.{Expr}
use Rattle.rex_syntax.specs.declared.line.Line.{Line}
use Rattle.rex_syntax.specs.declared.line.Line.TheVariants.{Acquire, Share, Release, Try, Wait as WaitAt, Signal as SignalAt, Broadcast as BroadcastAt, Down as DownAt, Up as UpAt, Clock as ClockAt, Random as RandomAt, Reply as ReplyAt}
use Rattle.rex_syntax.specs.declared.locks.Mode.{Mode}
use Rattle.rex_syntax.specs.declared.locks.Mode.TheVariants.{Free, Shared, Exclusive}
use Rattle.rex_syntax.specs.declared.service.Condition.{Condition}
use Rattle.rex_syntax.specs.declared.service.Declarations.{Declarations}
use Rattle.rex_syntax.specs.declared.service.LockKind.{LockKind}
use Rattle.rex_syntax.specs.declared.service.LockKind.TheVariants.{Plain}
use Rattle.rex_syntax.specs.declared.flow.Leads.{Leads}
use Rattle.rex_syntax.specs.Locks.{mode_of, is_exclusive, is_only}
use Rattle.rex_syntax.specs.Leads.{leads_of, lock_of, no_condition}
use Rattle.rex_syntax.specs.Service.{IsService, IsLock, LineNames}
use Rattle.rex_frame.specs.declared.frame.Frame.{Frame}
use Rattle.rex_frame.specs.Phases.{is_running}
use Rattle.rex_frame.specs.Step.{value_in, is_primitive}
use Rattle.rex_frame.proofs.Held.{if_true, only_if_true}
use Rattle.rex_event.specs.Limits.{most_lanes}
use Rattle.rex_event.specs.declared.event.Kind.{Kind}
use Rattle.rex_event.specs.declared.event.Kind.TheVariants.{Begin, AcqEx, AcqSh, RelEx, RelSh, TryOk, TryBusy, Wait, Wake, Signal, Broadcast, Clock, Random, Reply, Down, Up}
use Rattle.rex_event.specs.Conflict.{named_condition, named_client}
use Rattle.rex_state.specs.declared.lane.Queue.{Queue}
use Rattle.rex_state.specs.Value.{StateValue}
use Rattle.rex_state.specs.Lines.{is_acquire, is_share, is_release, is_try, is_wait, is_signal, is_broadcast, is_down, is_up, is_clock, is_random, is_condition_of, is_lock_of}
use Rattle.rex_state.specs.Machine.{can_go, locks_allow, no_queue, queue_at, mask, is_first, queues_allow, with_queue, queues_after, client_allows}
use Rattle.rex_state.specs.Semaphores.{semaphores_allow}
use Rattle.rex_state.specs.Room.{HasQueue}
use Rattle.rex_state.specs.Sound.{Has}
use Rattle.rex_state.specs.Names.{KindNames}

-- ---- the line of an event

pub acquire_line : (line : Line) (lock : ℕ) → is_acquire line lock ≡ true → line ≡ Acquire lock
acquire_line (Acquire k) lock h = ap Acquire (eqb-true k lock h)
acquire_line _ lock h = absurd (cc)

pub share_line : (line : Line) (lock : ℕ) → is_share line lock ≡ true → line ≡ Share lock
share_line (Share k) lock h = ap Share (eqb-true k lock h)
share_line _ lock h = absurd (cc)

pub release_line : (line : Line) (lock : ℕ) → is_release line lock ≡ true → line ≡ Release lock
release_line (Release k) lock h = ap Release (eqb-true k lock h)
release_line _ lock h = absurd (cc)

pub try_line : (line : Line) (lock : ℕ) → is_try line lock ≡ true → (busy : ℕ) × (line ≡ Try lock busy)
try_line (Try k busy) lock h = (busy, ap (λ x. Try x busy) (eqb-true k lock h))
try_line _ lock h = absurd (cc)

pub wait_line : (line : Line) (condition : ℕ) → is_wait line condition ≡ true → (test : _) × (line ≡ WaitAt condition test)
wait_line (WaitAt k test) condition h = (test, ap (λ x. WaitAt x test) (eqb-true k condition h))
wait_line _ condition h = absurd (cc)

pub signal_line : (line : Line) (condition : ℕ) → is_signal line condition ≡ true → line ≡ SignalAt condition
signal_line (SignalAt k) condition h = ap SignalAt (eqb-true k condition h)
signal_line _ condition h = absurd (cc)

pub broadcast_line : (line : Line) (condition : ℕ) → is_broadcast line condition ≡ true → line ≡ BroadcastAt condition
broadcast_line (BroadcastAt k) condition h = ap BroadcastAt (eqb-true k condition h)
broadcast_line _ condition h = absurd (cc)

pub down_line : (line : Line) (semaphore : ℕ) → is_down line semaphore ≡ true → line ≡ DownAt semaphore
down_line (DownAt k) semaphore h = ap DownAt (eqb-true k semaphore h)
down_line _ semaphore h = absurd (cc)

pub up_line : (line : Line) (semaphore : ℕ) → is_up line semaphore ≡ true → line ≡ UpAt semaphore
up_line (UpAt k) semaphore h = ap UpAt (eqb-true k semaphore h)
up_line _ semaphore h = absurd (cc)

pub clock_line : (line : Line) → is_clock line ≡ true → (local : ℕ) × (line ≡ ClockAt local)
clock_line (ClockAt local) h = (local, refl)
clock_line _ h = absurd (cc)

pub random_line : (line : Line) → is_random line ≡ true → (local : ℕ) × (line ≡ RandomAt local)
random_line (RandomAt local) h = (local, refl)
random_line _ h = absurd (cc)

-- ---- locks of conditions

lock_in : (xs : List Condition) (c lock : ℕ) → is_condition_of (slice_get xs c) lock ≡ true → (slice_index_or xs c no_condition).lock ≡ lock
lock_in [] c lock h = absurd (cc)
lock_in (x ∷ xs) zero lock h = eqb-true x.lock lock h
lock_in (x ∷ xs) (suc c) lock h = lock_in xs c lock h

pub lock_is : (service : Declarations) (c lock : ℕ) → is_lock_of service c lock ≡ true → lock_of service c ≡ lock
lock_is service c lock h = lock_in service.conditions c lock h

pub exclusive_mode : (m : Mode) → is_exclusive m ≡ true → m ≡ Exclusive
exclusive_mode Exclusive h = refl
exclusive_mode Shared h = absurd (cc)
exclusive_mode Free h = absurd (cc)

-- ---- each kind's line

-- a line is the one that an event is for
abbrev pub IsFor : Kind → Line → Type 0
IsFor (AcqEx lock) line = line ≡ Acquire lock
IsFor (AcqSh lock) line = line ≡ Share lock
IsFor (RelEx lock) line = line ≡ Release lock
IsFor (RelSh lock) line = line ≡ Release lock
IsFor (TryOk lock) line = (busy : ℕ) × (line ≡ Try lock busy)
IsFor (TryBusy lock) line = (busy : ℕ) × (line ≡ Try lock busy)
IsFor (Wait condition lock) line = (test : Expr) × (line ≡ WaitAt condition test)
IsFor (Wake condition lock) line = (test : Expr) × (line ≡ WaitAt condition test)
IsFor (Signal condition woken) line = line ≡ SignalAt condition
IsFor (Broadcast condition woken) line = line ≡ BroadcastAt condition
IsFor (Down semaphore) line = line ≡ DownAt semaphore
IsFor (Up semaphore) line = line ≡ UpAt semaphore
IsFor (Clock value) line = (local : ℕ) × (line ≡ ClockAt local)
IsFor (Random value) line = (local : ℕ) × (line ≡ RandomAt local)
IsFor _ line = Unit {0}

-- a busy lane's event is for its line
pub line_is : (service : Declarations) (kind : Kind) (line : Line) (f : Frame) (vs : List ℤ) → can_go service kind line f vs ≡ true → IsFor kind line
line_is service (AcqEx lock) line f vs h = acquire_line line lock (and_parts _ _ h).1
line_is service (AcqSh lock) line f vs h = share_line line lock (and_parts _ _ h).1
line_is service (RelEx lock) line f vs h = release_line line lock (and_parts _ _ (and_parts _ _ h).1).0
line_is service (RelSh lock) line f vs h = release_line line lock (and_parts _ _ (and_parts _ _ h).1).0
line_is service (TryOk lock) line f vs h = try_line line lock (and_parts _ _ h).1
line_is service (TryBusy lock) line f vs h = try_line line lock (and_parts _ _ h).1
line_is service (Wait condition lock) line f vs h = wait_line line condition (and_parts _ _ (and_parts _ _ h).1).0
line_is service (Wake condition lock) line f vs h = wait_line line condition (and_parts _ _ (and_parts _ _ h).1).0
line_is service (Signal condition woken) line f vs h = signal_line line condition (and_parts _ _ h).1
line_is service (Broadcast condition woken) line f vs h = broadcast_line line condition (and_parts _ _ h).1
line_is service (Down semaphore) line f vs h = down_line line semaphore (and_parts _ _ h).1
line_is service (Up semaphore) line f vs h = up_line line semaphore (and_parts _ _ h).1
line_is service (Clock value) line f vs h = clock_line line (and_parts _ _ h).1
line_is service (Random value) line f vs h = random_line line (and_parts _ _ h).1
line_is service _ line f vs h = tt

-- ---- events on conditions

-- it is no wake
abbrev pub IsNoWake : Kind → Type 0
IsNoWake (Wake condition lock) = ⊥
IsNoWake _ = Unit {0}

-- an event on a condition that is no wake is done with the condition's lock held exclusively
pub holds_lock : (service : Declarations) (kind : Kind) (line : Line) (f : Frame) (vs : List ℤ) (c : ℕ) → IsNoWake kind → can_go service kind line f vs ≡ true → named_condition kind ≡ Some c
    → ((x : Line) → line ≡ x → is_running f.phase ≡ true → (leads : Leads) × (leads_of service x f.held ≡ Ok leads)) → mode_of f.held (lock_of service c) ≡ Exclusive
holds_lock service (Wait d lock) line f vs c n h e may =
    let w = wait_line line d (and_parts _ _ (and_parts _ _ h).1).0 in
    let l = may (WaitAt d w.0) w.1 (and_parts _ _ h).0 in
    let only : is_only f.held (lock_of service d) ≡ true = if_true _ _ _ l.0 l.1 in
    subst (λ (z : ℕ). mode_of f.held (lock_of service z) ≡ Exclusive) (same_Some d c e) (exclusive_mode _ (and_parts _ _ only).0)
holds_lock service (Wake d lock) line f vs c n h e may = absurd n
holds_lock service (Signal d woken) line f vs c n h e may =
    let l = may (SignalAt d) (signal_line line d (and_parts _ _ h).1) (and_parts _ _ h).0 in
    subst (λ (z : ℕ). mode_of f.held (lock_of service z) ≡ Exclusive) (same_Some d c e) (exclusive_mode _ (only_if_true _ _ _ l.0 l.1))
holds_lock service (Broadcast d woken) line f vs c n h e may =
    let l = may (BroadcastAt d) (broadcast_line line d (and_parts _ _ h).1) (and_parts _ _ h).0 in
    subst (λ (z : ℕ). mode_of f.held (lock_of service z) ≡ Exclusive) (same_Some d c e) (exclusive_mode _ (only_if_true _ _ _ l.0 l.1))
holds_lock service _ line f vs c n h e may = absurd (cc)

-- ---- what events name

-- all of these are below n
abbrev pub AreBelow : ℕ → List ℕ → Type 0
AreBelow n xs = (x : ℕ) → Has x xs → x < n

-- their mask is below 2 ^ n
mask_below : (n : ℕ) (xs : List ℕ) → AreBelow n xs → mask xs < 2 ^ n
mask_below n [] h = pow_pos n
mask_below n (x ∷ xs) h = or_lt n (2 ^ x) (mask xs) (pow_below x n (h x (inl refl))) (mask_below n xs (λ y k. h y (inr k)))

first_below : (n : ℕ) (woken : Option ℕ) (xs : List ℕ) → AreBelow n xs → is_first woken xs ≡ true → IfSome woken (λ lane. lane < n)
first_below n None xs h e = tt
first_below n (Some lane) [] h e = absurd (cc)
first_below n (Some lane) (x ∷ xs) h e = subst (λ (y : ℕ). y < n) (eqb-true x lane e) (h x (inl refl))

-- a condition's lock is the one that it has
condition_in : (xs : List Condition) (c lock : ℕ) → is_condition_of (slice_get xs c) lock ≡ true → (c < length xs) × ((get_or xs c no_condition).lock ≡ lock)
condition_in [] c lock h = absurd (cc)
condition_in (x ∷ xs) zero lock h = (omega arith, eqb-true x.lock lock h)
condition_in (x ∷ xs) (suc c) lock h = let r = condition_in xs c lock h in (let l : c < length xs = r.0 in omega arith, r.1)

module _ (service : Declarations) (good : IsService service) where
  pub lock_there : (kind : LockKind) (lock : ℕ) → IsLock service kind lock → lock < length service.locks
  lock_there kind lock h = slice_get_within service.locks lock h.found h.there

  condition_there : (c lock : ℕ) → is_lock_of service c lock ≡ true → (c < length service.conditions) × (lock < length service.locks)
  condition_there c lock h =
      let r = condition_in service.conditions c lock h in
      let k : IsLock service Plain (get_or service.conditions c no_condition).lock = good.conditions c no_condition r.0 in
      (r.0, lock_there Plain lock (subst (IsLock service Plain) r.1 k))

  -- the event of a busy lane names what its line and the queues do
  pub go_named : (kind : Kind) (line : Line) (locals : ℕ) (f : Frame) (vs : List ℤ) (lane : ℕ) (queues : List Queue) → LineNames service locals line → ((condition : ℕ) → AreBelow service.lanes (queue_at queues condition)) → can_go service kind line f vs ≡ true
      → queues_allow kind lane queues ≡ true → KindNames service kind
  go_named (AcqSh lock) line locals f vs lane queues names below h q = lock_there _ lock (subst (LineNames service locals) (share_line line lock (and_parts _ _ h).1) names)
  go_named (TryOk lock) line locals f vs lane queues names below h q = let t = try_line line lock (and_parts _ _ h).1 in lock_there _ lock (subst (LineNames service locals) t.1 names)
  go_named (TryBusy lock) line locals f vs lane queues names below h q = let t = try_line line lock (and_parts _ _ h).1 in lock_there _ lock (subst (LineNames service locals) t.1 names)
  go_named (Wait condition lock) line locals f vs lane queues names below h q = condition_there condition lock (and_parts _ _ (and_parts _ _ h).1).1
  go_named (Wake condition lock) line locals f vs lane queues names below h q = condition_there condition lock (and_parts _ _ (and_parts _ _ h).1).1
  go_named (Signal condition woken) line locals f vs lane queues names below h q =
      (subst (LineNames service locals) (signal_line line condition (and_parts _ _ h).1) names, first_below service.lanes woken (queue_at queues condition) (below condition) q)
  go_named (Broadcast condition woken) line locals f vs lane queues names below h q =
      (subst (LineNames service locals) (broadcast_line line condition (and_parts _ _ h).1) names, subst (λ (m : ℕ). m < 2 ^ service.lanes) (eqb-true _ _ q) (mask_below service.lanes (queue_at queues condition) (below condition)))
  go_named (Clock value) line locals f vs lane queues names below h q = tt
  go_named (Random value) line locals f vs lane queues names below h q = tt
  go_named (Begin client sequence handler arguments) line locals f vs lane queues names below h q = absurd (cc)
  go_named (Reply client value) line locals f vs lane queues names below h q = tt
  go_named kind line locals f vs lane queues names below h q = subst (LineNames service locals) (line_is service kind line f vs h) names

-- ---- the queue that an event changes

-- the condition that an event names has its queue
pub has_queue : (service : Declarations) (kind : Kind) → KindNames service kind → (queues : List Queue) → length queues ≡ length service.conditions
    → ((condition lock : ℕ) → kind ≡ Wait condition lock → length (queue_at queues condition) < most_lanes) → HasQueue kind queues
has_queue service (Wait condition lock) names queues long room = (subst (λ (n : ℕ). condition < n) (sym long) names.0, room condition lock refl)
has_queue service (Signal condition woken) names queues long room = omega (arith, long, names.0)
has_queue service (Broadcast condition woken) names queues long room = omega (arith, long, names.0)
has_queue service _ names queues long room = tt

-- what a condition's lanes come to: one joins them, or some leave in front
abbrev pub Later : Kind → ℕ → ℕ → List ℕ → List ℕ → Type 0
Later kind lane c old new = ((lock : ℕ) × (kind ≡ Wait c lock) × (new ≡ old ++ lane ∷ [])) ⊎ ((n : ℕ) × (new ≡ drop n old))

-- queues with one that is changed
abbrev pub changed : ℕ → (List ℕ → List ℕ) → List Queue → List Queue
changed c new qs = with_queue qs c (new (queue_at qs c))

-- an event leaves the queues as they are, or changes that of the condition that it names
pub data Change (kind : Kind) (lane : ℕ) : Type 0 where
  unchanged : ((qs : List Queue) → queues_after kind lane qs ≡ qs) → Change kind lane
  changes : (c : ℕ) (new : List ℕ → List ℕ) → named_condition kind ≡ Some c → ((qs : List Queue) → queues_after kind lane qs ≡ changed c new qs) → ((old : List ℕ) → Later kind lane c old (new old)) → Change kind lane

pub change : (kind : Kind) (lane : ℕ) → Change kind lane
change (Wait c lock) lane = changes c (λ old. old ++ lane ∷ []) refl (λ qs. refl) (λ old. inl (lock, refl, refl))
change (Signal c woken) lane = changes c (λ old. drop 1 old) refl (λ qs. refl) (λ old. inr (1, refl))
change (Broadcast c woken) lane = changes c (λ old. []) refl (λ qs. refl) (λ old. inr (length old, sym (drop_all (length old) old (omega arith))))
change _ lane = unchanged (λ qs. refl)

-- the queue of another condition stays
pub queue_apart : (qs : List Queue) (d c : ℕ) (lanes : List ℕ) → c ≢ d → queue_at (with_queue qs d lanes) c ≡ queue_at qs c
queue_apart qs d c lanes n = ap (λ (q : Queue). q.lanes.items) (get_or-set_other qs d c _ no_queue n)

other_by : (kind : Kind) (lane : ℕ) (qs : List Queue) (c : ℕ) → Change kind lane → (named_condition kind ≡ Some c → ⊥) → queue_at (queues_after kind lane qs) c ≡ queue_at qs c
other_by kind lane qs c (unchanged e) other = ap (λ (z : List Queue). queue_at z c) (e qs)
other_by kind lane qs c (changes d new n e l) other = ap (λ (z : List Queue). queue_at z c) (e qs) ∙ queue_apart qs d c _ (λ z. other (n ∙ ap Some (sym z)))

-- so does that of a condition that the event doesn't name
pub queue_other : (kind : Kind) (lane : ℕ) (qs : List Queue) (c : ℕ) → (named_condition kind ≡ Some c → ⊥) → queue_at (queues_after kind lane qs) c ≡ queue_at qs c
queue_other kind lane qs c other = other_by kind lane qs c (change kind lane) other

-- whether queues allow an event is told by that of the condition that it names
pub allowed_alike : (kind : Kind) (lane : ℕ) (ps qs : List Queue) → ((c : ℕ) → named_condition kind ≡ Some c → queue_at ps c ≡ queue_at qs c) → queues_allow kind lane ps ≡ queues_allow kind lane qs
allowed_alike (Wake c lock) lane ps qs same = rw (same c refl) refl
allowed_alike (Signal c woken) lane ps qs same = rw (same c refl) refl
allowed_alike (Broadcast c woken) lane ps qs same = rw (same c refl) refl
allowed_alike _ lane ps qs same = refl

-- ---- events that take no lock and no semaphore's value

-- the event of such a line, where the clock and the next random number are these
abbrev pub offered : Declarations → StateValue → Frame → ℤ → ℕ → Line → Kind
offered service s f clock random (WaitAt condition test) = Wait condition (lock_of service condition)
offered service s f clock random (SignalAt condition) = Signal condition (slice_get (queue_at s.queues condition) 0)
offered service s f clock random (BroadcastAt condition) = Broadcast condition (mask (queue_at s.queues condition))
offered service s f clock random (UpAt semaphore) = Up semaphore
offered service s f clock random (ClockAt local) = Clock clock
offered service s f clock random (RandomAt local) = Random random
offered service s f clock random (ReplyAt value) = Reply f.client (value_in value f s.variables)
offered service s f clock random _ = Reply f.client (pos 0)

-- the line takes a lock or a semaphore's value
abbrev pub Takes : Line → Type 0
Takes (Acquire lock) = Unit {0}
Takes (Share lock) = Unit {0}
Takes (Release lock) = Unit {0}
Takes (Try lock busy) = Unit {0}
Takes (DownAt semaphore) = Unit {0}
Takes _ = ⊥

-- a state allows a running lane's event
pub record IsOffered (service : Declarations) (s : StateValue) (lane : ℕ) (f : Frame) (line : Line) (k : Kind) : Type 0 where
  pub goes : can_go service k line f s.variables ≡ true
  pub locks : locks_allow k s.lanes ≡ true
  pub queues : queues_allow k lane s.queues ≡ true
  pub semaphores : semaphores_allow k s.semaphores ≡ true
  pub client : client_allows k s.clients ≡ true
  pub named : (client : ℕ) → named_client k ≡ Some client → f.client ≡ client

-- a condition that is there has its lock
pub has_its_lock : (xs : List Condition) (c : ℕ) → c < length xs → is_condition_of (slice_get xs c) ((get_or xs c no_condition).lock) ≡ true
has_its_lock [] c h = absurd (omega arith)
has_its_lock (x ∷ xs) zero h = eq-eqb x.lock x.lock refl
has_its_lock (x ∷ xs) (suc c) h = has_its_lock xs c (omega arith)

first_is : (xs : List ℕ) → is_first (slice_get xs 0) xs ≡ true
first_is [] = refl
first_is (x ∷ xs) = eq-eqb x x refl

pub offers : (service : Declarations) (s : StateValue) (lane : ℕ) (f : Frame) (clock : ℤ) (random : ℕ) (line : Line) (locals : ℕ) → (Takes line → ⊥) → is_primitive line ≡ true → is_running f.phase ≡ true → LineNames service locals line
    → IsOffered service s lane f line (offered service s f clock random line)
offers service s lane f clock random (WaitAt c test) locals free q run names =
    record { goes = and_from _ _ run (and_from _ _ (eq-eqb c c refl) (has_its_lock service.conditions c names.0)); locks = refl; queues = refl; semaphores = refl; client = refl; named = λ client h. absurd (cc) }
offers service s lane f clock random (SignalAt c) locals free q run names =
    record { goes = and_from _ _ run (eq-eqb c c refl); locks = refl; queues = first_is (queue_at s.queues c); semaphores = refl; client = refl; named = λ client h. absurd (cc) }
offers service s lane f clock random (BroadcastAt c) locals free q run names =
    record { goes = and_from _ _ run (eq-eqb c c refl); locks = refl; queues = eq-eqb (mask (queue_at s.queues c)) (mask (queue_at s.queues c)) refl; semaphores = refl; client = refl; named = λ client h. absurd (cc) }
offers service s lane f clock random (UpAt k) locals free q run names =
    record { goes = and_from _ _ run (eq-eqb k k refl); locks = refl; queues = refl; semaphores = refl; client = refl; named = λ client h. absurd (cc) }
offers service s lane f clock random (ClockAt local) locals free q run names =
    record { goes = and_from _ _ run refl; locks = refl; queues = refl; semaphores = refl; client = refl; named = λ client h. absurd (cc) }
offers service s lane f clock random (RandomAt local) locals free q run names =
    record { goes = and_from _ _ run refl; locks = refl; queues = refl; semaphores = refl; client = refl; named = λ client h. absurd (cc) }
offers service s lane f clock random (ReplyAt value) locals free q run names =
    record { goes = and_from _ _ run (and_from _ _ (eq-eqb f.client f.client refl) ((Decides-int_eq (value_in value f s.variables) (value_in value f s.variables)).1 refl)); locks = refl; queues = refl; semaphores = refl; client = refl; named = λ client h. same_Some f.client client h }
offers service s lane f clock random (Acquire lock) locals free q run names = absurd (free tt)
offers service s lane f clock random (Share lock) locals free q run names = absurd (free tt)
offers service s lane f clock random (Release lock) locals free q run names = absurd (free tt)
offers service s lane f clock random (Try lock busy) locals free q run names = absurd (free tt)
offers service s lane f clock random (DownAt k) locals free q run names = absurd (free tt)
offers service s lane f clock random _ locals free q run names = absurd (true≢false (sym q))
