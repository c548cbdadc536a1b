-- No two events of a history that lanes make begin one request.
use Rattle.std.proofs.Common.{◌≡◌, ◌⊎◌, inl, inr, ℕ, ◌+◌, ◌<◌, ◌≤◌, true, List, [], ◌∷◌, ◌++◌, length, refl, ap, sym, ◌∙◌, subst, arith}
use Rattle.std.specs.Prelude.{Option, Some}
use Rattle.std.proofs.lemmas.Bool.{and_parts, eqb-true, ltb-true, cases_eq, cases_lt}
use Rattle.std.proofs.lemmas.List.{get_or-set_same, get_or-set_other, set_past}
use Rattle.std.proofs.lemmas.Option.{same_Some}
use Rattle.rand_pcg.specs.Lcg.{Lcg}
use Rattle.rex_syntax.specs.declared.request.Request.{Request}
use Rattle.rex_syntax.specs.declared.service.Declarations.{Declarations}
use Rattle.rex_syntax.specs.Service.{IsService}
use Rattle.rex_syntax.specs.Check.{IsChecked}
use Rattle.rex_event.specs.declared.event.Event.{Event}
use Rattle.rex_event.specs.declared.event.Kind.{Kind}
use Rattle.rex_event.specs.declared.event.Kind.TheVariants.{Begin, Reply}
use Rattle.rex_state.specs.declared.lane.Entry.{Entry}
use Rattle.rex_state.specs.Value.{StateValue}
use Rattle.rex_state.specs.Machine.{no_entry, entry_at, client_allows, clients_after, next, run_from, run}
use Rattle.rex_state.specs.Start.{start_of}
use Rattle.rex_state.proofs.Keep.{IsNext, next_is}
use Rattle.rex_state.proofs.Run.{run-first}
use Rattle.rex_live.specs.Floor.{FloorValue, IsMade}
use Rattle.rex_live.specs.Laws.{begun_request, Runs}
use Rattle.rex_live.proofs.Leads.{made_runs}

-- ---- the sequence of a client's entry

-- the last sequence of a client
abbrev last : List Entry → ℕ → ℕ
last clients client = (entry_at clients client).sequence

begun_rises : (cs : List Entry) (client sequence c : ℕ) → client < length cs → sequence ≡ last cs client + 1 → (c ≡ client) ⊎ (c ≡ client → ⊥)
    → last cs c ≤ (entry_at (clients_after (Begin client sequence 0 []) cs) c).sequence
begun_rises cs client sequence c there is (inl e) =
    let after : (entry_at (clients_after (Begin client sequence 0 []) cs) c).sequence ≡ sequence =
    ap (λ (x : ℕ). (entry_at (clients_after (Begin client sequence 0 []) cs) x).sequence) e ∙ ap (λ (x : Entry). x.sequence) (get_or-set_same cs client _ no_entry there) in
    let before : last cs c ≡ last cs client = ap (last cs) e in
    omega arith
begun_rises cs client sequence c there is (inr n) =
    let same : (entry_at (clients_after (Begin client sequence 0 []) cs) c).sequence ≡ last cs c = ap (λ (x : Entry). x.sequence) (get_or-set_other cs client c _ no_entry n) in
    omega arith

replied_same : (cs : List Entry) (client c : ℕ) (value : _) → (c ≡ client) ⊎ (c ≡ client → ⊥) → (client < length cs) ⊎ (length cs ≤ client)
    → (entry_at (clients_after (Reply client value) cs) c).sequence ≡ last cs c
replied_same cs client c value (inl e) (inl there) =
    ap (λ (x : ℕ). (entry_at (clients_after (Reply client value) cs) x).sequence) e ∙ ap (λ (x : Entry). x.sequence) (get_or-set_same cs client _ no_entry there) ∙ ap (last cs) (sym e)
replied_same cs client c value (inl e) (inr past) = ap (λ (xs : List Entry). last xs c) (set_past cs client _ past)
replied_same cs client c value (inr n) there = ap (λ (x : Entry). x.sequence) (get_or-set_other cs client c _ no_entry n)

-- an event that a client's entry allows doesn't lower a sequence
pub last_rises : (kind : Kind) (cs : List Entry) (c : ℕ) → client_allows kind cs ≡ true → last cs c ≤ last (clients_after kind cs) c
last_rises (Begin client sequence handler arguments) cs c h =
    let t = and_parts _ _ h in
    begun_rises cs client sequence c (ltb-true _ _ t.0) (eqb-true _ _ (and_parts _ _ t.1).0) (cases_eq c client)
last_rises (Reply client value) cs c h =
    let same : last (clients_after (Reply client value) cs) c ≡ last cs c = replied_same cs client c value (cases_eq c client) (cases_lt client (length cs)) in omega arith
last_rises _ cs c h = omega arith

-- a begin has the sequence after its client's last one, and is the last one then
pub record BeginsNext (cs later : List Entry) (client sequence : ℕ) : Type 0 where
  pub there : client < length cs
  pub before : sequence ≡ last cs client + 1
  pub after : last later client ≡ sequence

pub begins_next : (kind : Kind) (cs : List Entry) (r : ℕ × ℕ) → begun_request kind ≡ Some r → client_allows kind cs ≡ true → BeginsNext cs (clients_after kind cs) r.0 r.1
begins_next (Begin client sequence handler arguments) cs r is h =
    let same : (client, sequence) ≡ r = same_Some (client, sequence) r is in
    let t = and_parts _ _ h in
    subst (λ (x : ℕ × ℕ). BeginsNext cs (clients_after (Begin client sequence handler arguments) cs) x.0 x.1) same
    (record {
      there = ltb-true _ _ t.0;
      before = eqb-true _ _ (and_parts _ _ t.1).0;
      after = ap (λ (x : Entry). x.sequence) (get_or-set_same cs client _ no_entry (ltb-true _ _ t.0));
    })
begins_next _ cs r is h = absurd (cc)

-- ---- runs

clients_next : (service : Declarations) (s t : StateValue) (e : Event) → next service s e ≡ Some t → (client_allows e.kind s.clients ≡ true) × (clients_after e.kind s.clients ≡ t.clients)
clients_next service s t e h = let n : IsNext service s e t = next_is service s e t h in (n.enabled.client, ap (λ (x : StateValue). x.clients) n.is)

run_rises : (service : Declarations) (s t : StateValue) (es : List Event) (c : ℕ) → run service s es ≡ Some t → last s.clients c ≤ last t.clients c
run_rises service s t [] c h = let same : s ≡ t = same_Some s t h in let e : last s.clients c ≡ last t.clients c = ap (λ (x : StateValue). last x.clients c) same in omega arith
run_rises service s t (e ∷ es) c h =
    let f = run-first service s t e es h in
    let n = clients_next service s f.0 e f.1 in
    let first : last s.clients c ≤ last (clients_after e.kind s.clients) c = last_rises e.kind s.clients c n.0 in
    let between : last (clients_after e.kind s.clients) c ≡ last f.0.clients c = ap (λ (x : List Entry). last x c) n.1 in
    let rest : last f.0.clients c ≤ last t.clients c = run_rises service f.0 t es c f.2 in
    omega arith

-- a run of two parts
pub record RunsThrough (service : Declarations) (s t : StateValue) (es fs : List Event) : Type 0 where
  pub between : StateValue
  pub first : run service s es ≡ Some between
  pub rest : run service between fs ≡ Some t

through : (service : Declarations) (s t : StateValue) (es fs : List Event) → run service s (es ++ fs) ≡ Some t → RunsThrough service s t es fs
through service s t [] fs h = record { between = s; first = refl; rest = h }
through service s t (e ∷ es) fs h =
    let f = run-first service s t e (es ++ fs) h in
    let r = through service f.0 t es fs f.2 in
    record { between = r.between; first = ap (λ (o : Option StateValue). run_from service o es) f.1 ∙ r.first; rest = r.rest }

run_once : (service : Declarations) (s t : StateValue) (before between rest : List Event) (e y : Event) (r : ℕ × ℕ) → run service s (before ++ e ∷ (between ++ y ∷ rest)) ≡ Some t
    → begun_request e.kind ≡ Some r → begun_request y.kind ≡ Some r → ⊥
run_once service s t before between rest e y r h first second =
    let a = through service s t before (e ∷ (between ++ y ∷ rest)) h in
    let b = run-first service a.between t e (between ++ y ∷ rest) a.rest in
    let c = through service b.0 t between (y ∷ rest) b.2 in
    let d = run-first service c.between t y rest c.rest in
    let first_next = clients_next service a.between b.0 e b.1 in
    let second_next = clients_next service c.between d.0 y d.1 in
    let one : BeginsNext a.between.clients b.0.clients r.0 r.1 = subst (λ (x : List Entry). BeginsNext a.between.clients x r.0 r.1) first_next.1 (begins_next e.kind a.between.clients r first first_next.0) in
    let two : BeginsNext c.between.clients (clients_after y.kind c.between.clients) r.0 r.1 = begins_next y.kind c.between.clients r second second_next.0 in
    let up : last b.0.clients r.0 ≤ last c.between.clients r.0 = run_rises service b.0 c.between between r.0 c.first in
    omega (arith, one.after, two.before)

pub begin_once : (service : Declarations) (requests : List Request) (dice : Lcg) (f : FloorValue) (before between rest : List Event) (e y : Event) (r : ℕ × ℕ) → IsService service → IsChecked service → IsMade service requests dice f
    → f.history ≡ before ++ e ∷ (between ++ y ∷ rest) → begun_request e.kind ≡ Some r → begun_request y.kind ≡ Some r → ⊥
begin_once service requests dice f before between rest e y r good checked made h first second =
    let runs : Runs service f = made_runs service requests dice f good checked made in
    run_once service (start_of service) f.state before between rest e y r (ap (run service (start_of service)) (sym h) ∙ runs.runs) first second
