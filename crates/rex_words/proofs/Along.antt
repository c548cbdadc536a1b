-- What a lane does in its own state it does in the state of all lanes.
use Rattle.std.proofs.Common.{◌≡◌, ◌≢◌, ◌⊎◌, inl, inr, ℕ, zero, suc, ◌+◌, ◌<◌, arith, true, false, not, List, [], ◌∷◌, length, sym, refl, ap, ◌∙◌, subst}
use Rattle.std.specs.Prelude.{ℤ, pos, nat_eq, Option, Some, slice_set, slice_index_or}
use Rattle.std.proofs.lemmas.List.{get_or-set_same, get_or-set_other}
use Rattle.rex_syntax.specs.declared.service.Declarations.{Declarations}
use Rattle.rex_syntax.specs.declared.locks.Mode.{Mode}
use Rattle.rex_syntax.specs.declared.locks.Mode.TheVariants.{Free, Shared, Exclusive}
use Rattle.rex_syntax.specs.Locks.{mode_of, is_free, is_exclusive}
use Rattle.rex_syntax.specs.Leads.{guard_of}
use Rattle.rex_syntax.specs.Service.{IsService}
use Rattle.rex_frame.specs.declared.frame.Frame.{Frame}
use Rattle.rex_frame.specs.Guarded.{may_read, may_write}
use Rattle.rex_event.specs.declared.event.Kind.{Kind}
use Rattle.rex_event.specs.declared.event.Event.{Event}
use Rattle.rex_event.specs.declared.event.Kind.TheVariants.{Begin, AcqEx, RelEx, TryOk, TryBusy, Clock, Random, Reply}
use Rattle.rex_event.specs.Conflict.{named_client}
use Rattle.rex_state.specs.declared.lane.Lane.{Lane}
use Rattle.rex_state.specs.declared.lane.Queue.{Queue}
use Rattle.rex_state.specs.declared.lane.Entry.{Entry}
use Rattle.rex_state.specs.Value.{StateValue}
use Rattle.rex_state.specs.Actions.{takes_shared}
use Rattle.rex_state.specs.Locks.{mode_in_frame}
use Rattle.rex_state.specs.Own.{own_after}
use Rattle.rex_state.specs.Machine.{lane_of, no_lane, frame_at, own_can, entry_at, queues_allow, locks_allow, client_allows, clients_after, after, next}
use Rattle.rex_state.specs.Semaphores.{semaphores_allow}
use Rattle.rex_state.specs.Sound.{mode_at, IsSound}
use Rattle.rex_state.specs.Local.{Takes, IsLocal}
use Rattle.rex_state.specs.Touched.{held_at, with_variables, LeadsAlike}
use Rattle.rex_state.proofs.Keep.{IsEnabled, IsNext, next_is, next_from, client_other}
use Rattle.rex_state.proofs.Sounds.{next_keeps}
use Rattle.rex_state.proofs.Local.{events_are_local, sound_states_exclude}
use Rattle.rex_state.proofs.Touched.{mode_held, events_write, events_read}
use Rattle.rex_words.specs.Recorded.{is_plain, lane_for, IsDealt}
use Rattle.rex_words.specs.Own.{value_at, IsOwn, HasLoaded, GoesAlong}

-- ---- modes

free_read : (m : Mode) → not (is_free m) ≡ true → m ≢ Free
free_read Free h = absurd (cc)
free_read Shared h = λ e. cc
free_read Exclusive h = λ e. cc

read_free : (m : Mode) → m ≢ Free → not (is_free m) ≡ true
read_free Free h = absurd (h refl)
read_free Shared h = refl
read_free Exclusive h = refl

not_exclusive : (m : Mode) → (m ≡ Exclusive → ⊥) → is_exclusive m ≡ false
not_exclusive Exclusive h = absurd (h refl)
not_exclusive Shared h = refl
not_exclusive Free h = refl

-- ---- entries of clients

set_alike : {X : Type 0} (xs ys : List X) (i j : ℕ) (v d : X) → length xs ≡ length ys → slice_index_or xs j d ≡ slice_index_or ys j d → slice_index_or (slice_set xs i v) j d ≡ slice_index_or (slice_set ys i v) j d
set_alike [] [] i j v d l e = refl
set_alike [] (y ∷ ys) i j v d l e = absurd (omega arith)
set_alike (x ∷ xs) [] i j v d l e = absurd (omega arith)
set_alike (x ∷ xs) (y ∷ ys) zero zero v d l e = refl
set_alike (x ∷ xs) (y ∷ ys) zero (suc j) v d l e = e
set_alike (x ∷ xs) (y ∷ ys) (suc i) zero v d l e = e
set_alike (x ∷ xs) (y ∷ ys) (suc i) (suc j) v d l e = set_alike xs ys i j v d (omega arith) e

module _ (cs ds : List Entry) (long : length cs ≡ length ds) where
  pub allows_same : (kind : Kind) → ((c : ℕ) → named_client kind ≡ Some c → entry_at cs c ≡ entry_at ds c) → client_allows kind cs ≡ client_allows kind ds
  allows_same (Begin client sequence handler arguments) h = rw (long, h client refl) refl
  allows_same _ h = refl

  after_same : (kind : Kind) (c : ℕ) → ((n : ℕ) → named_client kind ≡ Some n → entry_at cs n ≡ entry_at ds n) → entry_at cs c ≡ entry_at ds c → entry_at (clients_after kind cs) c ≡ entry_at (clients_after kind ds) c
  after_same (Begin client sequence handler arguments) c h e = set_alike cs ds client c _ _ long e
  after_same (Reply client value) c h e =
      ap (λ (z : Entry). entry_at (slice_set cs client (record { sequence = z.sequence; reply = Some value })) c) (h client refl) ∙ set_alike cs ds client c _ _ long e
  after_same _ c h e = e

plain_queues : (kind : Kind) (lane : ℕ) (queues : List Queue) → is_plain kind ≡ true → queues_allow kind lane queues ≡ true
plain_queues (Begin client sequence handler arguments) lane queues p = refl
plain_queues (AcqEx lock) lane queues p = refl
plain_queues (RelEx lock) lane queues p = refl
plain_queues (TryOk lock) lane queues p = refl
plain_queues (TryBusy lock) lane queues p = refl
plain_queues (Clock value) lane queues p = refl
plain_queues (Random value) lane queues p = refl
plain_queues (Reply client value) lane queues p = refl
plain_queues _ lane queues p = absurd (cc)

plain_semaphores : (kind : Kind) (values : List ℕ) → is_plain kind ≡ true → semaphores_allow kind values ≡ true
plain_semaphores (Begin client sequence handler arguments) values p = refl
plain_semaphores (AcqEx lock) values p = refl
plain_semaphores (RelEx lock) values p = refl
plain_semaphores (TryOk lock) values p = refl
plain_semaphores (TryBusy lock) values p = refl
plain_semaphores (Clock value) values p = refl
plain_semaphores (Random value) values p = refl
plain_semaphores (Reply client value) values p = refl
plain_semaphores _ values p = absurd (cc)

plain_shares : (kind : Kind) → is_plain kind ≡ true → takes_shared kind ≡ true → ⊥
plain_shares (Begin client sequence handler arguments) p t = cc
plain_shares (AcqEx lock) p t = cc
plain_shares (RelEx lock) p t = cc
plain_shares (TryOk lock) p t = cc
plain_shares (TryBusy lock) p t = cc
plain_shares (Clock value) p t = cc
plain_shares (Random value) p t = cc
plain_shares (Reply client value) p t = cc
plain_shares _ p t = absurd (cc)

-- ---- other lanes

module _ (service : Declarations) (good : IsService service) (own s : StateValue) (lane : ℕ) (e : Event) (sound : IsSound service s) (o : IsOwn service lane own s) (dealt : IsDealt service e) (other : e.lane ≢ lane) where
  stay_after : next service s e ≡ Some (after service e.lane e.kind s) → IsOwn service lane own (after service e.lane e.kind s)
  stay_after h = record { sound = o.sound; idle = o.idle; lane_is = o.lane_is ∙ same; variables = variables; clients = clients }
    where
      t : StateValue
      t = after service e.lane e.kind s

      same : lane_of s lane ≡ lane_of t lane
      same = sym (get_or-set_other s.lanes e.lane lane _ no_lane (λ q. other (sym q)))

      mode_same : (lock : ℕ) → mode_at t lane lock ≡ mode_at s lane lock
      mode_same lock = ap (λ (l : Lane). mode_in_frame l.frame lock) (sym same)

      kept : (x : ℕ) → mode_at t lane (guard_of service x) ≢ Free → may_write service (held_at t e.lane) x ≡ false
      kept x m = ap is_exclusive (sym (mode_held (frame_at t e.lane) (guard_of service x))) ∙ not_exclusive (mode_at t e.lane (guard_of service x)) (λ q. m (sound_states_exclude service t e.lane lane (guard_of service x) (next_keeps service s t e good sound h) other q))

      variables : (x : ℕ) → mode_at t lane (guard_of service x) ≢ Free → value_at own x ≡ value_at t x
      variables x m = o.variables x (λ q. m (mode_same (guard_of service x) ∙ q)) ∙ sym ((events_write service s t e good sound h).kept x (kept x m))

      clients : (client : ℕ) → lane_for service.lanes client ≡ lane → entry_at own.clients client ≡ entry_at t.clients client
      clients client q = o.clients client q ∙ sym (client_other e.kind s.clients client (λ n. other (dealt.mine client n ∙ q)))

pub others_stay_own : (service : Declarations) (own s t : StateValue) (lane : ℕ) (e : Event) → IsService service → IsSound service s → IsOwn service lane own s → IsDealt service e → next service s e ≡ Some t → e.lane ≢ lane → IsOwn service lane own t
others_stay_own service own s t lane e good sound o dealt h other =
    let n = next_is service s e t h in
    subst (λ (z : StateValue). IsOwn service lane own z) n.is (stay_after service good own s lane e sound o dealt other (h ∙ ap Some (sym n.is)))

-- ---- the lane itself

module _ (service : Declarations) (good : IsService service) (own own' s : StateValue) (e : Event) (sound : IsSound service s) (o : IsOwn service e.lane own s) (dealt : IsDealt service e) (h : next service own e ≡ Some own')
    (free : locks_allow e.kind s.lanes ≡ true) (loaded : HasLoaded service e own s) where
  first : IsNext service own e own'
  first = next_is service own e own' h

  place : IsLocal own e own'
  place = events_are_local service own own' e good o.sound h

  mode_is : (lock : ℕ) → mode_at own e.lane lock ≡ mode_at s e.lane lock
  mode_is lock = ap (λ (l : Lane). mode_in_frame l.frame lock) o.lane_is

  same_read : (x : ℕ) → may_read service (held_at own' e.lane) x ≡ true → value_at own x ≡ value_at s x
  same_read x m = by (place.held_after (guard_of service x) (λ q. free_read (mode_of (held_at own' e.lane) (guard_of service x)) m (sym (mode_held (frame_at own' e.lane) (guard_of service x)) ∙ q)))
    where
      by : (mode_at own e.lane (guard_of service x) ≢ Free) ⊎ Takes e (guard_of service x) → value_at own x ≡ value_at s x
      by (inl n) = o.variables x (λ q. n (mode_is (guard_of service x) ∙ q))
      by (inr (n, inl t)) = absurd (plain_shares e.kind dealt.plain t)
      by (inr (n, inr t)) = loaded.same x (n, t)

  read : LeadsAlike service own e own' s.variables
  read = events_read service own own' e s.variables good o.sound h (record { long = o.sound.by.complete.variables ∙ sym sound.by.complete.variables; same = same_read })

  again : IsNext service (with_variables own s.variables) e (with_variables own' read.later)
  again = next_is service (with_variables own s.variables) e (with_variables own' read.later) read.next_is

  frame_is : frame_at own e.lane ≡ frame_at s e.lane
  frame_is = ap (λ (l : Lane). l.frame) o.lane_is

  clients_long : length own.clients ≡ length s.clients
  clients_long = o.sound.by.complete.clients ∙ sym sound.by.complete.clients

  lanes_long : length own.lanes ≡ length s.lanes
  lanes_long = o.sound.by.complete.lanes ∙ sym sound.by.complete.lanes

  entries : (c : ℕ) → named_client e.kind ≡ Some c → entry_at own.clients c ≡ entry_at s.clients c
  entries c n = o.clients c (sym (dealt.mine c n))

  enabled_here : IsEnabled service e.lane e.kind s
  enabled_here = record {
    there = subst (λ (n : ℕ). e.lane < n) lanes_long first.enabled.there;
    own = subst (λ (f : Option Frame). own_can service e.kind f s.variables ≡ true) frame_is again.enabled.own;
    locks = free;
    queues = plain_queues e.kind e.lane s.queues dealt.plain;
    semaphores = plain_semaphores e.kind s.semaphores dealt.plain;
    client = sym (allows_same own.clients s.clients clients_long e.kind entries) ∙ first.enabled.client;
  }

  next_here : next service s e ≡ Some (after service e.lane e.kind s)
  next_here = next_from service s e (subst (λ (l : Lane). nat_eq l.done e.index ≡ true) o.lane_is first.index) enabled_here

  -- the lane after the event, from the lane before it
  abbrev moved_on : Lane → Lane
  moved_on l = record { done = l.done + 1; frame = (own_after service e.kind l.frame s.variables).0 }

  lane_after : lane_of own' e.lane ≡ lane_of (after service e.lane e.kind s) e.lane
  lane_after =
      let a : lane_of own' e.lane ≡ lane_of (after service e.lane e.kind (with_variables own s.variables)) e.lane = ap (λ (z : StateValue). lane_of z e.lane) (sym again.is) in
      let b : lane_of (after service e.lane e.kind (with_variables own s.variables)) e.lane ≡ moved_on (lane_of own e.lane) = get_or-set_same own.lanes e.lane _ no_lane first.enabled.there in
      let c : lane_of (after service e.lane e.kind s) e.lane ≡ moved_on (lane_of s e.lane) = get_or-set_same s.lanes e.lane _ no_lane enabled_here.there in
      a ∙ (b ∙ (ap moved_on o.lane_is ∙ sym c))

  later_is : read.later ≡ (after service e.lane e.kind s).variables
  later_is =
      let a : read.later ≡ (own_after service e.kind (frame_at own e.lane) s.variables).1 = ap (λ (z : StateValue). z.variables) (sym again.is) in
      a ∙ ap (λ (f : Option Frame). (own_after service e.kind f s.variables).1) frame_is

  variables_after : (x : ℕ) → mode_at (after service e.lane e.kind s) e.lane (guard_of service x) ≢ Free → value_at own' x ≡ value_at (after service e.lane e.kind s) x
  variables_after x m =
      let held : mode_of (held_at own' e.lane) (guard_of service x) ≢ Free = λ q. m (ap (λ (l : Lane). mode_in_frame l.frame (guard_of service x)) (sym lane_after) ∙ (mode_held (frame_at own' e.lane) (guard_of service x) ∙ q)) in
      read.agree.same x (read_free _ held) ∙ ap (λ (vs : List ℤ). slice_index_or vs x (pos 0)) later_is

  clients_here : (client : ℕ) → lane_for service.lanes client ≡ e.lane → entry_at own'.clients client ≡ entry_at (after service e.lane e.kind s).clients client
  clients_here client q = ap (λ (z : StateValue). entry_at z.clients client) (sym first.is) ∙ after_same own.clients s.clients clients_long e.kind client entries (o.clients client q)

  goes_along : GoesAlong service e own' s
  goes_along = record {
    state = after service e.lane e.kind s;
    next = next_here;
    own = record {
      sound = next_keeps service own own' e good o.sound h;
      idle = λ other n. place.others other n ∙ o.idle other n;
      lane_is = lane_after;
      variables = variables_after;
      clients = clients_here;
    };
  }

pub own_events_go_along : (service : Declarations) (own own' s : StateValue) (e : Event) → IsService service → IsSound service s → IsOwn service e.lane own s → IsDealt service e → next service own e ≡ Some own' → locks_allow e.kind s.lanes ≡ true → HasLoaded service e own s
    → GoesAlong service e own' s
own_events_go_along service own own' s e good sound o dealt h free loaded = goes_along service good own own' s e sound o dealt h free loaded
