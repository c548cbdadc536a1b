-- Values that fit lead to states whose counts and sequences are in their ranges.
use Rattle.std.proofs.Common.{◌≡◌, ℕ, ◌*◌, ◌<◌, ◌≤◌, true, List, [], ◌∷◌, length, refl, sym, subst, arith}
use Rattle.std.specs.Prelude.{Some, None}
use Rattle.std.specs.List.{All, list_all}
use Rattle.std.proofs.lemmas.Bool.{and_parts}
use Rattle.std.proofs.lemmas.Option.{same_Some}
use Rattle.std.proofs.lemmas.List.Elements.{All-head, All-tail, All-set, All-from_get_or}
use Rattle.rex_syntax.specs.declared.service.Declarations.{Declarations}
use Rattle.rex_syntax.specs.Service.{IsService}
use Rattle.rex_syntax.specs.Check.{IsChecked}
use Rattle.rex_event.specs.declared.event.Event.{Event}
use Rattle.rex_event.specs.declared.event.Kind.{Kind}
use Rattle.rex_event.specs.declared.event.Kind.TheVariants.{Begin, Reply}
use Rattle.rex_state.specs.declared.lane.Lane.{Lane}
use Rattle.rex_state.specs.declared.lane.Entry.{Entry}
use Rattle.rex_state.specs.Value.{StateValue}
use Rattle.rex_state.specs.Start.{start_of, no_entries}
use Rattle.rex_state.specs.Machine.{no_lane, no_entry, frame_at, own_can, entry_at, clients_after, run}
use Rattle.rex_state.specs.Sound.{IsSound}
use Rattle.rex_state.proofs.Keep.{IsNext, next_is}
use Rattle.rex_state.proofs.Run.{run-first}
use Rattle.rex_state.proofs.Sounds.{next_keeps, start_keeps}
use Rattle.rex_cluster.specs.Values.{Value, trace_of, spells, runs, values_fit}
use Rattle.rex_cluster.specs.Clients.{KindHasClient, HasClient}
use Rattle.rex_cluster.specs.Limits.{StateIsLimited}
use Rattle.rex_cluster.proofs.Told.{IsAwaited, awaited, same_at}
use Rattle.rex_cluster.proofs.Few.{counts_are_few}
use Rattle.rex_cluster.proofs.Clients.{trace_clients, values_nobody}

-- the sequence is in its range, and a client that has sent nothing has no reply
abbrev Fits : Entry → Type 0
Fits e = (e.sequence ≤ 1000000) × (e.sequence ≡ 0 → e.reply ≡ None)

not_none : {X : Type 0} (n : ℕ) → 0 < n → n ≡ 0 → X
not_none n h e = absurd (omega arith)

-- ---- an event

entries_after : (service : Declarations) (s : StateValue) (lane : ℕ) (kind : Kind) → IsSound service s → KindHasClient kind → own_can service kind (frame_at s lane) s.variables ≡ true → All Fits s.clients → All Fits (clients_after kind s.clients)
entries_after service s lane (Begin client sequence handler arguments) sound h own fit =
    All-set Fits s.clients client (record { sequence = sequence; reply = None }) (h.1.1, λ z. refl) fit
entries_after service s lane (Reply client value) sound h own fit =
    let a : IsAwaited s client = awaited service s lane client value sound.by.served own in
    All-set Fits s.clients client (record { sequence = (entry_at s.clients client).sequence; reply = Some value })
    ((fit client no_entry a.there).0, λ z. not_none (entry_at s.clients client).sequence a.some z) fit
entries_after service s lane _ sound h own fit = fit

entries_run : (service : Declarations) (s t : StateValue) (es : List Event) → IsService service → IsSound service s → All HasClient es → All Fits s.clients → run service s es ≡ Some t → All Fits t.clients
entries_run service s t [] good sound h fit r = subst (λ (x : StateValue). All Fits x.clients) (same_Some s t r) fit
entries_run service s t (e ∷ es) good sound h fit r =
    let f = run-first service s t e es r in
    let i : IsNext service s e f.0 = next_is service s e f.0 f.1 in
    let own : HasClient e = All-head HasClient e es h in
    entries_run service f.0 t es good (next_keeps service s f.0 e good sound f.1) (All-tail HasClient e es h)
    (subst (λ (x : StateValue). All Fits x.clients) i.is (entries_after service s e.lane e.kind sound own.kind i.enabled.own fit)) f.2

-- ---- values

start_fits : All Fits no_entries
start_fits = All-from_get_or Fits no_entries no_entry (λ i l. subst Fits (sym (same_at 257 no_entry i)) (omega arith, λ z. refl))

few_done : (done many : ℕ) → done ≤ 4096 * many → many ≤ 65535 → done ≤ 268431360
few_done done many h k = omega arith

pub values_limited : (service : Declarations) (vs : List Value) (t : StateValue) → IsService service → IsChecked service → values_fit service vs ≡ true → length vs ≤ 65535 → run service (start_of service) (trace_of vs) ≡ Some t → StateIsLimited t
values_limited service vs t good checked fit few r =
    let spelled : list_all (spells service) vs ≡ true = (and_parts (list_all (spells service) vs) (runs service (trace_of vs)) fit).0 in
    record {
      lanes = All-from_get_or (λ (lane : Lane). lane.done ≤ 268431360) t.lanes no_lane (λ lane l. few_done _ _ (counts_are_few service vs t lane spelled r) few);
      nobody = values_nobody service vs t spelled r;
      entries = entries_run service (start_of service) t (trace_of vs) good (start_keeps service good checked) (trace_clients service vs spelled) start_fits r;
    }
