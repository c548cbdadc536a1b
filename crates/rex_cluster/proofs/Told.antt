-- Along a run from the start the trace says of every client what its entry says.
use Rattle.std.proofs.Common.{◌≡◌, ◌⊎◌, inl, inr, ℕ, zero, suc, ◌<◌, true, List, [], ◌∷◌, ◌++◌, length, replicate, get_or, refl, ap, sym, subst, arith, append-nil, append_assoc}
use Rattle.std.specs.Prelude.{Option, Some, None, ℤ}
use Rattle.std.proofs.lemmas.Bool.{true≢false, and_parts, eqb-true, ltb-true, cases_eq}
use Rattle.std.proofs.lemmas.List.{get_or-set_same}
use Rattle.std.proofs.lemmas.Option.{same_Some}
use Rattle.rex_syntax.specs.declared.service.Declarations.{Declarations}
use Rattle.rex_syntax.specs.Service.{IsService}
use Rattle.rex_syntax.specs.Check.{IsChecked}
use Rattle.rex_event.specs.declared.event.Event.{Event}
use Rattle.rex_event.specs.declared.event.Kind.{Kind}
use Rattle.rex_event.specs.declared.event.Kind.TheVariants.{Begin, Reply}
use Rattle.rex_event.specs.Conflict.{named_client}
use Rattle.rex_state.specs.declared.lane.Entry.{Entry}
use Rattle.rex_state.specs.Value.{StateValue}
use Rattle.rex_state.specs.Start.{start_of}
use Rattle.rex_state.specs.Machine.{frame_at, own_can, no_entry, entry_at, client_allows, clients_after, next, run_from, run}
use Rattle.rex_state.specs.Sound.{AreServed, IsSound}
use Rattle.rex_state.proofs.Keep.{IsEnabled, next_is, client_other}
use Rattle.rex_state.proofs.Sounds.{next_keeps, start_keeps}
use Rattle.rex_cluster.specs.Stands.{Begins, Replies}
use Rattle.rex_cluster.proofs.Traces.{Told, told_other, told_begin, told_reply}

-- every client's entry is told by the trace
pub record AreTold (trace : List Event) (clients : List Entry) : Type 0 where
  pub each : (client : ℕ) → Told trace client (entry_at clients client)

-- ---- a reply's client

-- the client's entry is there, and lacks a reply
pub record IsAwaited (s : StateValue) (client : ℕ) : Type 0 where
  pub there : client < length s.clients
  pub some : 0 < (entry_at s.clients client).sequence
  pub open_yet : (entry_at s.clients client).reply ≡ None

-- a frame is there or not
pub there_or_not : {F : Type 0} (o : Option F) → (o ≡ None) ⊎ ((f : F) × (o ≡ Some f))
there_or_not None = inl refl
there_or_not (Some f) = inr (f, refl)

pub awaited : (service : Declarations) (s : StateValue) (lane client : ℕ) (value : ℤ) → AreServed s → own_can service (Reply client value) (frame_at s lane) s.variables ≡ true → IsAwaited s client
awaited service s lane client value served h =
    elim (there_or_not (frame_at s lane)) [
      | inl b ↦ absurd (true≢false (sym (subst (λ o. own_can service (Reply client value) o s.variables ≡ true) b h)))
      | inr p ↦
          let k = subst (λ o. own_can service (Reply client value) o s.variables ≡ true) p.1 h in
          let same : p.0.client ≡ client = eqb-true _ _ ((and_parts _ _ ((and_parts _ _ k).1)).0) in
          let v = served.busy lane p.0 p.1 in
          subst (IsAwaited s) same (record { there = v.there; some = subst (λ (n : ℕ). 0 < n) (sym v.sequence) v.some; open_yet = v.open_yet })
    ]

-- ---- an event

is_some_of : (o : Option ℕ) (c : ℕ) → (o ≡ Some c) ⊎ (o ≡ Some c → ⊥)
is_some_of None c = inr (λ z. cc)
is_some_of (Some a) c = by (cases_eq a c)
  where
    by : (a ≡ c) ⊎ (a ≡ c → ⊥) → (Some a ≡ Some c) ⊎ (Some a ≡ Some c → ⊥)
    by (inl e) = inl (ap Some e)
    by (inr n) = inr (λ z. n (same_Some a c z))

pub none_some : {X Y : Type 0} (y : Y) → None ≡ Some y → X
none_some y h = absurd (cc)

module _ (service : Declarations) (trace : List Event) (s : StateValue) (e : Event) (sound : IsSound service s) (n : IsEnabled service e.lane e.kind s) (told : AreTold trace s.clients) where
  -- the entry of a reply's client has it
  pub replied_entry : (client : ℕ) (value : ℤ) → e.kind ≡ Reply client value → (entry_at (clients_after (Reply client value) s.clients) client ≡ record { sequence = (entry_at s.clients client).sequence; reply = Some value }) × IsAwaited s client
  replied_entry client value k =
      let a = awaited service s e.lane client value sound.by.served (subst (λ (x : Kind). own_can service x (frame_at s e.lane) s.variables ≡ true) k n.own) in
      (get_or-set_same s.clients client _ no_entry a.there, a)

  own : (kind : Kind) (client : ℕ) → e.kind ≡ kind → named_client kind ≡ Some client → Told (trace ++ e ∷ []) client (entry_at (clients_after kind s.clients) client)
  own (Begin c sequence handler arguments) client k nc =
      let there : c < length s.clients = ltb-true _ _ ((and_parts _ _ (subst (λ (x : Kind). client_allows x s.clients ≡ true) k n.client)).0) in
      subst (λ (x : ℕ). Told (trace ++ e ∷ []) x (entry_at (clients_after (Begin c sequence handler arguments) s.clients) x)) (same_Some c client nc)
      (subst (Told (trace ++ e ∷ []) c) (sym (get_or-set_same s.clients c _ no_entry there)) (told_begin trace e c sequence (subst (Begins c sequence) (sym k) (refl, refl))))
  own (Reply c value) client k nc =
      let a = replied_entry c value k in
      subst (λ (x : ℕ). Told (trace ++ e ∷ []) x (entry_at (clients_after (Reply c value) s.clients) x)) (same_Some c client nc)
      (subst (Told (trace ++ e ∷ []) c) (sym a.0) (told_reply trace e c value (entry_at s.clients c) (subst (Replies c value) (sym k) (refl, refl)) a.1.some a.1.open_yet (told.each c)))
  own kind client k nc = none_some client nc

  one : (client : ℕ) → (named_client e.kind ≡ Some client) ⊎ (named_client e.kind ≡ Some client → ⊥) → Told (trace ++ e ∷ []) client (entry_at (clients_after e.kind s.clients) client)
  one client (inl nc) = own e.kind client refl nc
  one client (inr other) = subst (Told (trace ++ e ∷ []) client) (sym (client_other e.kind s.clients client other)) (told_other trace e client (entry_at s.clients client) other (told.each client))

  pub told_after : AreTold (trace ++ e ∷ []) (clients_after e.kind s.clients)
  told_after = record { each = λ client. one client (is_some_of (named_client e.kind) client) }

-- ---- a run

pub told_next : (service : Declarations) (trace : List Event) (s t : StateValue) (e : Event) → IsSound service s → AreTold trace s.clients → next service s e ≡ Some t → AreTold (trace ++ e ∷ []) t.clients
told_next service trace s t e sound told h =
    let n = next_is service s e t h in
    subst (λ (x : StateValue). AreTold (trace ++ e ∷ []) x.clients) n.is (told_after service trace s e sound n.enabled told)

pub told_run : (service : Declarations) (trace es : List Event) (s t : StateValue) → IsService service → IsSound service s → AreTold trace s.clients → run service s es ≡ Some t → AreTold (trace ++ es) t.clients
told_run service trace [] s t good sound told h =
    subst (λ (x : StateValue). AreTold (trace ++ []) x.clients) (same_Some s t h) (subst (λ (x : List Event). AreTold x s.clients) (sym (append-nil trace)) told)
told_run service trace (e ∷ es) s t good sound told h = by (next service s e) refl h (λ u su tu k. told_run service (trace ++ e ∷ []) es u t good su tu k)
  where
    by : (o : Option StateValue) → next service s e ≡ o → run_from service o es ≡ Some t
        → ((u : StateValue) → IsSound service u → AreTold (trace ++ e ∷ []) u.clients → run service u es ≡ Some t → AreTold ((trace ++ e ∷ []) ++ es) t.clients)
        → AreTold (trace ++ e ∷ es) t.clients
    by None n k go = absurd (cc)
    by (Some u) n k go =
        subst (λ (x : List Event). AreTold x t.clients) (append_assoc trace (e ∷ []) es) (go u (next_keeps service s u e good sound n) (told_next service trace s u e sound told n) k)

-- ---- from the start

-- a list of one value has it everywhere, past its end too
pub same_at : {X : Type 0} (n : ℕ) (x : X) (i : ℕ) → get_or (replicate n x) i x ≡ x
same_at zero x i = refl
same_at (suc n) x zero = refl
same_at (suc n) x (suc i) = same_at n x i

nothing_sent : {X : Type 0} (service : Declarations) (client : ℕ) → 0 < (entry_at (start_of service).clients client).sequence → X
nothing_sent service client h = absurd (let z : (entry_at (start_of service).clients client).sequence ≡ 0 = ap (λ (x : Entry). x.sequence) (same_at 257 no_entry client) in omega arith)

start_told : (service : Declarations) → AreTold [] (start_of service).clients
start_told service = record { each = λ client. record { begun = λ some r. nothing_sent service client some; replied = λ value some r. nothing_sent service client some } }

pub told_from_start : (service : Declarations) (es : List Event) (t : StateValue) → IsService service → IsChecked service → run service (start_of service) es ≡ Some t → AreTold es t.clients
told_from_start service es t good checked h = told_run service [] es (start_of service) t good (start_keeps service good checked) (start_told service) h
