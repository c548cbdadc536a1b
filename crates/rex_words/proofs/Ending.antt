-- A lane that is over in its own state is over in the state of all lanes.
use Rattle.std.proofs.Common.{◌≡◌, ◌≢◌, ◌⊎◌, ⊎_elim, inl, inr, ℕ, ◌<◌, arith, Bool, List, [], ◌∷◌, length, refl, ap, sym, ◌∙◌, subst}
use Rattle.std.specs.Prelude.{◌&&◌, if◌then◌else◌, nat_eq, nat_lt, slice_get, Option, Some, None}
use Rattle.std.proofs.lemmas.Bool.{eqb-true}
use Rattle.rex_syntax.specs.declared.request.Request.{Request}
use Rattle.rex_syntax.specs.declared.service.Declarations.{Declarations}
use Rattle.rex_frame.specs.declared.frame.Frame.{Frame}
use Rattle.rex_event.specs.declared.event.Kind.{Kind}
use Rattle.rex_event.specs.Conflict.{named_client}
use Rattle.rex_state.specs.Value.{StateValue}
use Rattle.rex_state.specs.declared.lane.Lane.{Lane}
use Rattle.rex_state.specs.Machine.{frame_at, entry_at, own_can, can_begin, client_allows, enabled}
use Rattle.rex_state.specs.Sound.{IsSound}
use Rattle.rex_state.specs.Start.{start_of}
use Rattle.std.proofs.lemmas.Option.{same_Some}
use Rattle.rex_record.specs.Turn.{begin_of}
use Rattle.rex_words.specs.declared.assignment.Assignment.{Assignment}
use Rattle.rex_words.specs.declared.stamped.Stamped.{Stamped}
use Rattle.rex_words.specs.declared.seat.WordSeat.{WordSeat}
use Rattle.rex_words.specs.Recorded.{lane_for}
use Rattle.rex_words.specs.Alone.{service_of, requests_of, lane_requests, begun_in, begin_if, begin_next}
use Rattle.rex_words.specs.Own.{IsOwn}
use Rattle.rex_words.specs.Seats.{IsLaneOf}
use Rattle.rex_words.specs.Turns.{open_of, IsIdle, IsFull}
use Rattle.rex_words.specs.Histories.{open_in, HasEnded, IsRecording}
use Rattle.rex_words.specs.Dealing.{requests_for}
use Rattle.rex_words.specs.Stamps.{events_in, lane_list}
use Rattle.rex_words.proofs.Along.{allows_same}
use Rattle.rex_words.proofs.Turning.{filtered}

module _ (r : Assignment) (s : StateValue) (sound : IsSound (service_of r) s) (m : WordSeat) (l : IsLaneOf r m)
    (o : IsOwn (service_of r) m.lane m.state s) (idle : frame_at m.state m.lane ≡ None) where
  idle_in : frame_at s m.lane ≡ None
  idle_in = ap (λ (x : Lane). x.frame) (sym o.lane_is) ∙ idle

  -- whether an idle lane may begin a request, from how many lanes there are and what the clients' entries allow
  abbrev may : Request → ℕ → Bool → Bool
  may q lanes allowed = nat_lt m.lane lanes && (can_begin (service_of r) (begin_of q) && allowed)

  enabled_is : (q : Request) (t : StateValue) → frame_at t m.lane ≡ None
      → enabled (service_of r) m.lane (begin_of q) t ≡ may q (length t.lanes) (client_allows (begin_of q) t.clients)
  enabled_is q t e =
      ap (λ (f : Option Frame). nat_lt m.lane (length t.lanes) && (own_can (service_of r) (begin_of q) f t.variables && client_allows (begin_of q) t.clients)) e

  served : (q : Request) → lane_for (service_of r).lanes q.client ≡ m.lane → (c : ℕ) → named_client (begin_of q) ≡ Some c
      → entry_at m.state.clients c ≡ entry_at s.clients c
  served q h c n =
      let e : Some q.client ≡ Some c = n in let same : q.client ≡ c = cc in
      o.clients c (subst (λ (x : ℕ). lane_for (service_of r).lanes x ≡ m.lane) same h)

  enabled_same : (q : Request) → lane_for (service_of r).lanes q.client ≡ m.lane
      → enabled (service_of r) m.lane (begin_of q) m.state ≡ enabled (service_of r) m.lane (begin_of q) s
  enabled_same q h =
      let lanes : length m.state.lanes ≡ length s.lanes = o.sound.by.complete.lanes ∙ sym sound.by.complete.lanes in
      let clients : length m.state.clients ≡ length s.clients = o.sound.by.complete.clients ∙ sym sound.by.complete.clients in
      let allowed : client_allows (begin_of q) m.state.clients ≡ client_allows (begin_of q) s.clients =
      allows_same m.state.clients s.clients clients (begin_of q) (served q h) in
      enabled_is q m.state idle ∙ ((λ i. may q (lanes i) (allowed i)) ∙ sym (enabled_is q s idle_in))

  begins_same : (next : Option Request) → ((q : Request) → next ≡ Some q → lane_for (service_of r).lanes q.client ≡ m.lane)
      → begin_next (service_of r) m.lane m.state next ≡ begin_next (service_of r) m.lane s next
  begins_same None h = refl
  begins_same (Some q) h = ap (λ (b : Bool). if b then Some (begin_of q) else None) (enabled_same q (h q refl))

  module _ (list : List Stamped) (mine : list ≡ m.events.items) where
    next_is : slice_get m.requests.items m.begun ≡ slice_get (lane_requests r m.lane) (begun_in list)
    next_is = (λ i. slice_get (l.requests i) (l.begun i)) ∙ ap (λ (xs : List Stamped). slice_get (lane_requests r m.lane) (begun_in xs)) (sym mine)

    -- each request of a lane is of a client that it serves
    mine_is : (q : Request) → slice_get (lane_requests r m.lane) (begun_in list) ≡ Some q → lane_for (service_of r).lanes q.client ≡ m.lane
    mine_is q h =
        eqb-true (lane_for (service_of r).lanes q.client) m.lane
        (filtered (λ (x : Request). nat_eq (lane_for (service_of r).lanes x.client) m.lane) (requests_of r) (begun_in list) q h)

    open_is : open_of r m ≡ open_in r s m.lane list
    open_is = ap (begin_next (service_of r) m.lane m.state) next_is ∙ begins_same (slice_get (lane_requests r m.lane) (begun_in list)) mine_is

    long_is : length list ≡ length m.events.items
    long_is = ap (λ (xs : List Stamped). length xs) mine

    idle_ends : IsIdle r m → HasEnded r s m.lane list
    idle_ends i = record { idle = idle_in; over = inl (sym open_is ∙ i.none) }

    full_ends : IsFull r m → HasEnded r s m.lane list
    full_ends f = record { idle = idle_in; over = inr ((λ q. f.some (open_is ∙ q)), (let n = f.many in let e = long_is in omega arith)) }

pub has_ended : (r : Assignment) (s : StateValue) → IsSound (service_of r) s → (m : WordSeat) → IsLaneOf r m → IsOwn (service_of r) m.lane m.state s
    → (list : List Stamped) → list ≡ m.events.items → IsIdle r m ⊎ IsFull r m → HasEnded r s m.lane list
has_ended r s sound m l o list mine over =
    ⊎_elim (λ (i : IsIdle r m). idle_ends r s sound m l o i.idle list mine i) (λ (f : IsFull r m). full_ends r s sound m l o f.idle list mine f) over

-- ---- empty histories

none_of : (xs : List Stamped) → events_in xs ≡ [] → xs ≡ []
none_of [] h = refl
none_of (x ∷ xs) h = absurd (cc)

module _ (service : Declarations) (requests : List Request) (seed lane : ℕ) (h : lane < service.lanes) (r : IsRecording service requests seed []) where
  abbrev start : StateValue
  start = start_of (service_of r.assignment)

  at_start : HasEnded r.assignment start lane (lane_list [] lane)
  at_start =
      let state : r.recorded.state ≡ start = sym (same_Some start r.recorded.state r.recorded.runs) in
      subst (λ (x : StateValue × List Stamped). HasEnded r.assignment x.0 lane (lane_list x.1 lane))
      (λ i. (state i, none_of r.recorded.list r.recorded.events i)) (r.ends lane h)

  nothing_open : open_in r.assignment start lane (lane_list [] lane) ≡ None
  nothing_open = ⊎_elim
      (λ (n : open_in r.assignment start lane (lane_list [] lane) ≡ None). n)
      (λ (q : (open_in r.assignment start lane (lane_list [] lane) ≢ None) × (899999 < length (lane_list [] lane))). absurd (let n : 899999 < 0 = q.1 in omega arith))
      at_start.over

  pub empty_begins_nothing : begin_next service lane (start_of service) (slice_get (requests_for service.lanes lane requests) 0) ≡ None
  empty_begins_nothing =
      subst (λ (x : Declarations × List Request). begin_next x.0 lane (start_of x.0) (slice_get (requests_for x.0.lanes lane x.1) 0) ≡ None)
      (λ i. (r.of.service_is i, r.of.requests_are i)) nothing_open
