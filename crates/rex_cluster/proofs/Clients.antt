-- Clients and sequences stay in their ranges.
use Rattle.std.proofs.Common.{◌≡◌, inl, inr, ℕ, ◌<◌, ◌≤◌, true, List, [], ◌∷◌, length, ap, sym, ◌∙◌, subst, arith}
use Rattle.std.specs.Prelude.{Some, None, ℤ, nat_le}
use Rattle.std.specs.List.{All, list_all}
use Rattle.std.proofs.lemmas.Bool.{true≢false, and_parts}
use Rattle.std.proofs.lemmas.List.Elements.{All-nil, All-cons, All-head, All-tail, All-append}
use Rattle.std.proofs.lemmas.Option.{same_Some}
use Rattle.rex_syntax.specs.declared.request.Request.{Request}
use Rattle.rex_syntax.specs.declared.service.Declarations.{Declarations}
use Rattle.rex_syntax.specs.Service.{IsService}
use Rattle.rex_event.specs.declared.delta.Cause.{Cause}
use Rattle.rex_event.specs.declared.event.Event.{Event}
use Rattle.rex_event.specs.declared.event.Kind.{Kind}
use Rattle.rex_event.specs.declared.event.Kind.TheVariants.{Begin, Reply}
use Rattle.rex_event.specs.Conflict.{named_client}
use Rattle.rex_event.specs.Cuts.{counted}
use Rattle.rex_delta.specs.Spelling.{KindFits, EventsFit}
use Rattle.rex_state.specs.declared.lane.Entry.{Entry}
use Rattle.rex_state.specs.Value.{StateValue}
use Rattle.rex_state.specs.Start.{start_of}
use Rattle.rex_state.specs.Machine.{no_entry, frame_at, entry_at, own_can, next, run}
use Rattle.rex_state.specs.Sound.{IsSound}
use Rattle.rex_state.proofs.Keep.{IsNext, next_is, client_other}
use Rattle.rex_state.proofs.Run.{run-first}
use Rattle.rex_state.proofs.Sounds.{run_keeps}
use Rattle.rex_record.specs.declared.turns.Turn.TheVariants.{Done}
use Rattle.rex_record.specs.Turn.{begin_of, event_at, idle_turn, lane_turn, turn_of}
use Rattle.rex_record.specs.Value.{RecorderValue}
use Rattle.rex_record.specs.Kept.{IsRecorder}
use Rattle.rex_record.proofs.Goes.{not_full, turn_goes_on}
use Rattle.rex_schedule.specs.Fits.{RequestFits}
use Rattle.rex_cluster.specs.Values.{Value, delta_of, events_of, trace_of, spells}
use Rattle.rex_cluster.specs.Clients.{KindHasClient, HasClient, IsUnused}
use Rattle.rex_cluster.specs.Takes.{KindBeginsInRange, BeginsInRange}
use Rattle.rex_cluster.proofs.Bytes.{spelled_delta}
use Rattle.rex_cluster.proofs.Told.{IsAwaited, there_or_not, awaited, none_some, same_at}

-- ---- the client 0

some_named : (client : ℕ) → 1 ≤ client → Some client ≡ Some 0 → ⊥
some_named client h e = let same : client ≡ 0 = same_Some client 0 e in omega arith

-- an event whose client is in its range doesn't name the client 0
not_zero : (kind : Kind) → KindHasClient kind → named_client kind ≡ Some 0 → ⊥
not_zero (Begin client sequence handler arguments) h e = some_named client h.0.0 e
not_zero (Reply client value) h e = some_named client h.0 e
not_zero _ h e = none_some 0 e

pub unused_next : (service : Declarations) (s t : StateValue) (e : Event) → HasClient e → IsUnused s.clients → next service s e ≡ Some t → IsUnused t.clients
unused_next service s t e h u n =
    let i : IsNext service s e t = next_is service s e t n in
    subst (λ (x : StateValue). IsUnused x.clients) i.is (subst (λ (n : ℕ). n ≡ 0) (sym (ap (λ x. x.sequence) (client_other e.kind s.clients 0 (not_zero e.kind h.kind)))) u)

nobody_run : (service : Declarations) (s t : StateValue) (es : List Event) → All HasClient es → entry_at s.clients 0 ≡ no_entry → run service s es ≡ Some t → entry_at t.clients 0 ≡ no_entry
nobody_run service s t [] h u n = subst (λ (x : StateValue). entry_at x.clients 0 ≡ no_entry) (same_Some s t n) u
nobody_run service s t (e ∷ es) h u n =
    let r = run-first service s t e es n in
    let i : IsNext service s e r.0 = next_is service s e r.0 r.1 in
    let own : HasClient e = All-head HasClient e es h in
    nobody_run service r.0 t es (All-tail HasClient e es h) (subst (λ (x : StateValue). entry_at x.clients 0 ≡ no_entry) i.is (client_other e.kind s.clients 0 (not_zero e.kind own.kind) ∙ u)) r.2

-- ---- the event of a turn

-- an event that an idle lane does begins the first request of the queue
idle_client : (service : Declarations) (s : StateValue) (queue : List Request) (lane : ℕ) (e : Event) → All (RequestFits service) queue → idle_turn s queue lane ≡ Done e → HasClient e
idle_client service s [] lane e fit d = absurd (cc)
idle_client service s (q ∷ rest) lane e fit d =
    let f : RequestFits service q = All-head (RequestFits service) q rest fit in
    let same : event_at s lane (begin_of q) ≡ e = cc in
    subst HasClient same (record { kind = ((f.client, f.clients), (f.sequence, f.sequences)) })

not_above : (sequence : ℕ) → sequence ≡ 0 → 0 < sequence → ⊥
not_above sequence e h = omega arith

awaited_client : (s : StateValue) (client : ℕ) → length s.clients ≡ 257 → IsUnused s.clients → IsAwaited s client → (1 ≤ client) × (client ≤ 256)
awaited_client s client long u a =
    let there : client < length s.clients = a.there in
    let above : client ≡ 0 → ⊥ = λ e. let some : 0 < (entry_at s.clients 0).sequence = subst (λ (c : ℕ). 0 < (entry_at s.clients c).sequence) e a.some in not_above _ u some in
    (omega arith, omega arith)

-- a busy lane doesn't begin a request, and its reply is to the client that waits for it
busy_client : (service : Declarations) (s : StateValue) (lane : ℕ) (kind : Kind) → IsSound service s → IsUnused s.clients → (frame_at s lane ≡ None → ⊥) → own_can service kind (frame_at s lane) s.variables ≡ true → KindHasClient kind
busy_client service s lane (Begin client sequence handler arguments) sound u busy h =
    elim (there_or_not (frame_at s lane)) [
      | inl b ↦ absurd (busy b)
      | inr p ↦ absurd (true≢false (sym (subst (λ o. own_can service (Begin client sequence handler arguments) o s.variables ≡ true) p.1 h)))
    ]
busy_client service s lane (Reply client value) sound u busy h = awaited_client s client sound.by.complete.clients u (awaited service s lane client value sound.by.served h)
busy_client service s lane _ sound u busy h = tt

pub done_client : (service : Declarations) (r : RecorderValue) (lane : ℕ) (clock : ℤ) (random : ℕ) (e : Event) → IsService service → IsRecorder service r → lane < service.lanes → All (RequestFits service) r.queue → IsUnused r.state.clients
    → turn_of service r.state r.queue (length r.live) lane clock random ≡ Done e → HasClient e
done_client service r lane clock random e good h there fit u d =
    elim (there_or_not (frame_at r.state lane)) [
      | inl b ↦
          idle_client service r.state r.queue lane e fit
          (subst (λ o. lane_turn service r.state r.queue lane clock random o ≡ Done e) b (not_full (nat_le 4096 (length r.live)) (lane_turn service r.state r.queue lane clock random (frame_at r.state lane)) (Done e) (λ z. cc) d).1)
      | inr p ↦
          let g = turn_goes_on service r lane clock random e good h there d in
          let n : IsNext service r.state e g.state = next_is service r.state e g.state g.is in
          let own : own_can service e.kind (frame_at r.state lane) r.state.variables ≡ true = subst (λ (l : ℕ). own_can service e.kind (frame_at r.state l) r.state.variables ≡ true) g.own n.enabled.own in
          record { kind = busy_client service r.state lane e.kind (run_keeps service r.start r.state r.live good h.sound h.runs) u (λ b. none_some p.0 (sym b ∙ p.1)) own }
    ]

-- ---- an event that a node is handed

-- an event that the state allows begins a request in its range, or is a reply to a client that waits for it
allowed_client : (service : Declarations) (s : StateValue) (lane : ℕ) (kind : Kind) → IsSound service s → IsUnused s.clients → KindBeginsInRange kind → own_can service kind (frame_at s lane) s.variables ≡ true → KindHasClient kind
allowed_client service s lane (Begin client sequence handler arguments) sound u range h = range
allowed_client service s lane (Reply client value) sound u range h = awaited_client s client sound.by.complete.clients u (awaited service s lane client value sound.by.served h)
allowed_client service s lane _ sound u range h = tt

pub next_client : (service : Declarations) (s t : StateValue) (e : Event) → IsSound service s → IsUnused s.clients → BeginsInRange e → next service s e ≡ Some t → HasClient e
next_client service s t e sound u range n = let i : IsNext service s e t = next_is service s e t n in record { kind = allowed_client service s e.lane e.kind sound u range.kind i.enabled.own }

-- ---- the events of values

kind_client : (lanes : ℕ) (kind : Kind) → KindFits lanes kind → KindHasClient kind
kind_client lanes (Begin client sequence handler arguments) h = (h.0, h.1)
kind_client lanes (Reply client value) h = h
kind_client lanes _ h = tt

fitting_clients : (bases counts : List ℕ) (es : List Event) (lists : List (List Cause)) → EventsFit bases counts es lists → All HasClient es
fitting_clients bases counts [] lists h = All-nil HasClient
fitting_clients bases counts (e ∷ es) [] h = absurd h
fitting_clients bases counts (e ∷ es) (causes ∷ lists) h =
    All-cons HasClient e es (record { kind = kind_client (length counts) e.kind h.0.kind }) (fitting_clients bases (counted counts e) es lists h.1)

pub trace_clients : (service : Declarations) (vs : List Value) → list_all (spells service) vs ≡ true → All HasClient (trace_of vs)
trace_clients service [] h = All-nil HasClient
trace_clients service (v ∷ vs) h =
    let p = and_parts (spells service v) (list_all (spells service) vs) h in
    let d = (spelled_delta service v p.0).delta in
    All-append HasClient (events_of v) (trace_of vs) (fitting_clients (delta_of v).bases (delta_of v).bases (delta_of v).events (delta_of v).causes d.events) (trace_clients service vs p.1)

-- after values no client has the number 0
pub values_nobody : (service : Declarations) (vs : List Value) (t : StateValue) → list_all (spells service) vs ≡ true → run service (start_of service) (trace_of vs) ≡ Some t → entry_at t.clients 0 ≡ no_entry
values_nobody service vs t h r = nobody_run service (start_of service) t (trace_of vs) (trace_clients service vs h) (same_at 257 no_entry 0) r

pub values_unused : (service : Declarations) (vs : List Value) (t : StateValue) → list_all (spells service) vs ≡ true → run service (start_of service) (trace_of vs) ≡ Some t → IsUnused t.clients
values_unused service vs t h r = ap (λ (x : Entry). x.sequence) (values_nobody service vs t h r)
