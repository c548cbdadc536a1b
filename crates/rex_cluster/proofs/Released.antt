-- Released replies stand in the trace.
use Rattle.std.proofs.Common.{◌≡◌, ◌⊎◌, inl, inr, ⊎_elim, ℕ, ◌<◌, Bool, true, false, List, [], ◌∷◌, ◌++◌, refl, ap, sym, ◌∙◌, subst, append_assoc}
use Rattle.std.specs.Prelude.{Option, Some, None, ℤ, map, ◌==◌, ◌+◌, nat_lt, if◌then◌else◌}
use Rattle.std.proofs.lemmas.Bool.{eqb-true}
use Rattle.rex_syntax.specs.declared.request.Request.{Request}
use Rattle.rex_syntax.specs.declared.service.Declarations.{Declarations}
use Rattle.rex_syntax.specs.Service.{IsService}
use Rattle.rex_event.specs.declared.event.Event.{Event}
use Rattle.rex_event.specs.declared.event.Kind.{Kind}
use Rattle.rex_event.specs.declared.event.Kind.TheVariants.{Reply}
use Rattle.rex_state.specs.declared.lane.Entry.{Entry}
use Rattle.rex_state.specs.Value.{StateValue}
use Rattle.rex_state.specs.Machine.{entry_at, clients_after, next, run_from, run}
use Rattle.rex_state.specs.Sound.{IsSound}
use Rattle.rex_state.proofs.Keep.{IsEnabled, next_is}
use Rattle.rex_state.proofs.Sounds.{next_keeps}
use Rattle.rex_record.specs.declared.recorder.Release.{Release}
use Rattle.rex_record.specs.Value.{release_of, releases}
use Rattle.rex_report.specs.declared.effect.Effect.{Effect}
use Rattle.rex_report.specs.declared.effect.Effect.TheVariants.{Released}
use Rattle.rex_gate.specs.declared.answer.Answer.{Answer}
use Rattle.rex_gate.specs.declared.answer.Answer.TheVariants as answer
use Rattle.rex_gate.specs.Answer.{last_of, expected_of, released_if, reply_of, answer_of}
use Rattle.rex_cluster.specs.Lanes.{effect_of}
use Rattle.rex_cluster.specs.Values.{release_effect}
use Rattle.rex_cluster.specs.Stands.{Stands}
use Rattle.rex_cluster.specs.Releases.{IsAmong}
use Rattle.rex_cluster.proofs.Traces.{stands_more}
use Rattle.rex_cluster.proofs.Told.{AreTold, replied_entry, told_after, told_next}

-- two releases that are the same
pub record SameRelease (c s client sequence : ℕ) (v value : ℤ) : Type 0 where
  pub client_is : c ≡ client
  pub sequence_is : s ≡ sequence
  pub value_is : v ≡ value

pub same_release : (c s client sequence : ℕ) (v value : ℤ) → Released c s v ≡ Released client sequence value → SameRelease c s client sequence v value
same_release c s client sequence v value h = record { client_is = cc; sequence_is = cc; value_is = cc }

pub stands_as : (trace : List Event) (c s client sequence : ℕ) (v value : ℤ) → SameRelease c s client sequence v value → Stands trace c s v → Stands trace client sequence value
stands_as trace c s client sequence v value same h =
    subst (λ (x : ℕ). Stands trace x sequence value) same.client_is (subst (λ (x : ℕ). Stands trace c x value) same.sequence_is (subst (λ (x : ℤ). Stands trace c s x) same.value_is h))

-- ---- at a cut

among_append : (x : Effect) (front rest : List Release) → IsAmong x (map release_effect (front ++ rest)) → IsAmong x (map release_effect front) ⊎ IsAmong x (map release_effect rest)
among_append x [] rest h = inr h
among_append x (a ∷ front) rest (inl e) = inl (inl e)
among_append x (a ∷ front) rest (inr h) = ⊎_elim (λ (k : IsAmong x (map release_effect front)). inl (inr k)) (λ (k : IsAmong x (map release_effect rest)). inr k) (among_append x front rest h)

-- the reply that an event is stands from then on
event_stands : (service : Declarations) (trace : List Event) (s : StateValue) (e : Event) (client sequence : ℕ) (value : ℤ) → IsSound service s → IsEnabled service e.lane e.kind s → AreTold trace s.clients
    → IsAmong (Released client sequence value) (map release_effect (release_of (clients_after e.kind s.clients) e.kind)) → Stands (trace ++ e ∷ []) client sequence value
event_stands service trace s e client sequence value sound n told h = by e.kind refl h
  where
    by : (kind : Kind) → e.kind ≡ kind → IsAmong (Released client sequence value) (map release_effect (release_of (clients_after kind s.clients) kind)) → Stands (trace ++ e ∷ []) client sequence value
    by (Reply c v) k (inr z) = absurd z
    by (Reply c v) k (inl z) =
        let a = replied_entry service trace s e sound n told c v k in
        let t = subst (λ (x : Kind). AreTold (trace ++ e ∷ []) (clients_after x s.clients)) k (told_after service trace s e sound n told) in
        let some : 0 < (entry_at (clients_after (Reply c v) s.clients) c).sequence = subst (λ (x : Entry). 0 < x.sequence) (sym a.0) a.1.some in
        stands_as (trace ++ e ∷ []) c (entry_at (clients_after (Reply c v) s.clients) c).sequence client sequence v value
        (same_release c (entry_at (clients_after (Reply c v) s.clients) c).sequence client sequence v value z)
        ((t.each c).replied v some (ap (λ (x : Entry). x.reply) a.0))
    by kind k z = absurd z

pub releases_stand : (service : Declarations) (trace es : List Event) (s t : StateValue) (client sequence : ℕ) (value : ℤ) → IsService service → IsSound service s → AreTold trace s.clients → run service s es ≡ Some t
    → IsAmong (Released client sequence value) (map release_effect (releases s.clients es)) → Stands (trace ++ es) client sequence value
releases_stand service trace [] s t client sequence value good sound told h among = absurd among
releases_stand service trace (e ∷ es) s t client sequence value good sound told h among =
    by (next service s e) refl h (λ u su tu k m. releases_stand service (trace ++ e ∷ []) es u t client sequence value good su tu k m)
  where
    by : (o : Option StateValue) → next service s e ≡ o → run_from service o es ≡ Some t
        → ((u : StateValue) → IsSound service u → AreTold (trace ++ e ∷ []) u.clients → run service u es ≡ Some t → IsAmong (Released client sequence value) (map release_effect (releases u.clients es)) → Stands ((trace ++ e ∷ []) ++ es) client sequence value)
        → Stands (trace ++ e ∷ es) client sequence value
    by None n k go = absurd (cc)
    by (Some u) n k go =
        let i = next_is service s e u n in
        let entries : clients_after e.kind s.clients ≡ u.clients = ap (λ (x : StateValue). x.clients) i.is in
        subst (λ (x : List Event). Stands x client sequence value) (append_assoc trace (e ∷ []) es)
        (⊎_elim
        (λ (m : IsAmong (Released client sequence value) (map release_effect (release_of (clients_after e.kind s.clients) e.kind))).
        stands_more (trace ++ e ∷ []) es client sequence value (event_stands service trace s e client sequence value sound i.enabled told m))
        (λ (m : IsAmong (Released client sequence value) (map release_effect (releases (clients_after e.kind s.clients) es))).
        go u (next_keeps service s u e good sound n) (told_next service trace s u e sound told n) k
        (subst (λ (x : List Entry). IsAmong (Released client sequence value) (map release_effect (releases x es))) entries m))
        (among_append (Released client sequence value) (release_of (clients_after e.kind s.clients) e.kind) (releases (clients_after e.kind s.clients) es) among))

-- ---- at a submit

-- a released answer is the reply that the client's entry has
pub record IsAnswered (q : Request) (known : Entry) (client sequence : ℕ) (value : ℤ) : Type 0 where
  pub client_is : q.client ≡ client
  pub sequence_is : q.sequence ≡ sequence
  pub entry_is : known.sequence ≡ q.sequence
  pub replied : known.reply ≡ Some value

-- of an answer by three tests only the last is a release
last : (a b c : Bool) (old gap : ℕ) (z : Answer) (value : ℤ) → (if a then answer.Old old else if b then answer.Gap gap else if c then answer.Queued else z) ≡ answer.Released value → z ≡ answer.Released value
last true b c old gap z value h = absurd (cc)
last false true c old gap z value h = absurd (cc)
last false false true old gap z value h = absurd (cc)
last false false false old gap z value h = h

-- a release is of the entry with the request's sequence, and of its reply
reply_by : (b : Bool) (o : Option ℤ) (sequence : ℕ) (known : Entry) (value : ℤ) → (known.sequence == sequence) ≡ b → known.reply ≡ o → (if b then released_if o else answer.Waiting) ≡ answer.Released value
    → (known.sequence ≡ sequence) × (known.reply ≡ Some value)
reply_by true None sequence known value e r h = absurd (cc)
reply_by true (Some v) sequence known value e r h = let same : v ≡ value = cc in (eqb-true _ _ e, r ∙ ap Some same)
reply_by false o sequence known value e r h = absurd (cc)

released_reply : (sequence : ℕ) (o : Option ℕ) (live known : Entry) (value : ℤ) → answer_of sequence o live known ≡ answer.Released value → (known.sequence ≡ sequence) × (known.reply ≡ Some value)
released_reply sequence o live known value h =
    reply_by (known.sequence == sequence) known.reply sequence known value refl refl
    (last (nat_lt sequence (last_of o live)) (nat_lt (expected_of o live) sequence) (sequence == last_of o live + 1) (last_of o live) (expected_of o live) (reply_of sequence known) value h)

pub answer_released : (q : Request) (o : Option ℕ) (live known : Entry) (client sequence : ℕ) (value : ℤ) → effect_of q (answer_of q.sequence o live known) ≡ Released client sequence value → IsAnswered q known client sequence value
answer_released q o live known client sequence value h = by (answer_of q.sequence o live known) refl h
  where
    by : (a : Answer) → answer_of q.sequence o live known ≡ a → effect_of q a ≡ Released client sequence value → IsAnswered q known client sequence value
    by (answer.Released v) e k =
        let same = same_release q.client q.sequence client sequence v value k in
        let r = released_reply q.sequence o live known v e in
        record { client_is = same.client_is; sequence_is = same.sequence_is; entry_is = r.0; replied = r.1 ∙ ap Some same.value_is }
    by answer.Queued e k = absurd (cc)
    by answer.Waiting e k = absurd (cc)
    by (answer.Old n) e k = absurd (cc)
    by (answer.Gap n) e k = absurd (cc)

pub answer_stands : (trace : List Event) (clients : List Entry) (q : Request) (client sequence : ℕ) (value : ℤ) → AreTold trace clients → 0 < q.sequence → IsAnswered q (entry_at clients q.client) client sequence value → Stands trace client sequence value
answer_stands trace clients q client sequence value told some a =
    subst (λ (x : ℕ). Stands trace x sequence value) a.client_is
    (subst (λ (x : ℕ). Stands trace q.client x value) (a.entry_is ∙ a.sequence_is)
    ((told.each q.client).replied value (subst (λ (x : ℕ). 0 < x) (sym a.entry_is) some) a.replied))
