-- A request that is put into the queue could begin on an idle lane, and its client has none queued.
use Rattle.std.proofs.Common.{◌≡◌, ℕ, ◌+◌, ◌<◌, ◌≤◌, Bool, true, false, List, [], ◌∷◌, ◌++◌, length, refl, ap, sym, arith, eq-eqb}
use Rattle.std.specs.Prelude.{Option, Some, None, slice_get, ◌==◌, if◌then◌else◌}
use Rattle.std.proofs.lemmas.Bool.{and_parts, and_from, lt-ltb, eqb-true, eqb-false, ne_eqb}
use Rattle.rex_syntax.specs.declared.request.Request.{Request}
use Rattle.rex_syntax.specs.declared.service.Declarations.{Declarations}
use Rattle.rex_syntax.specs.declared.service.Handler.{Handler}
use Rattle.rex_state.specs.declared.lane.Entry.{Entry}
use Rattle.rex_state.specs.Value.{StateValue}
use Rattle.rex_state.specs.Machine.{takes, entry_at}
use Rattle.rex_record.specs.Value.{queued_in}
use Rattle.rex_record.specs.Kept.{CanBegin, AreQueued}
use Rattle.rex_gate.specs.declared.answer.Answer.{Answer}
use Rattle.rex_gate.specs.declared.answer.Answer.TheVariants.{Queued}
use Rattle.rex_gate.specs.Answer.{answer_to}
use Rattle.rex_gate.specs.Laws.{IsDue}
use Rattle.rex_gate.proofs.Due.{queued_due}
use Rattle.rex_schedule.specs.Counts.{takes_so_many}
use Rattle.rex_schedule.specs.Fits.{RequestFits}
use Rattle.rex_cluster.specs.Lanes.{queue_with}

-- ---- what it takes to begin

takes_same : (o : Option Handler) (count : ℕ) → takes_so_many o count ≡ true → takes o count ≡ true
takes_same None count h = h
takes_same (Some x) count h = h

pub due_begins : (service : Declarations) (s : StateValue) (q : Request) (o : Option ℕ) → RequestFits service q → length s.clients ≡ 257 → IsDue q.sequence o (entry_at s.clients q.client) → CanBegin service s q
due_begins service s q o fits long due =
    let most : q.client ≤ 256 = fits.clients in
    record {
      handler = takes_same (slice_get service.handlers q.handler) (length q.arguments) fits.takes;
      client = and_from _ _ (lt-ltb _ _ (omega arith)) (and_from _ _ (eq-eqb _ _ due.next) due.closed);
    }

-- ---- the queue

next_positive : (a b : ℕ) → a ≡ b + 1 → 0 < a
next_positive a b e = omega arith

begins_positive : (service : Declarations) (s : StateValue) (q : Request) → CanBegin service s q → 0 < q.sequence
begins_positive service s q h =
    next_positive q.sequence (entry_at s.clients q.client).sequence (eqb-true _ _ ((and_parts _ _ ((and_parts _ _ h.client).1)).0))

positive_by : (b : Bool) (x k : ℕ) (o : Option ℕ) → 0 < x → (o ≡ Some k → 0 < k) → (if b then Some x else o) ≡ Some k → 0 < k
positive_by true x k o h g e = let same : x ≡ k = cc in omega arith
positive_by false x k o h g e = g e

pub queued_positive : (service : Declarations) (s : StateValue) (queue : List Request) (client k : ℕ) → AreQueued service s queue → queued_in queue client ≡ Some k → 0 < k
queued_positive service s [] client k h e = absurd (cc)
queued_positive service s (x ∷ xs) client k h e =
    positive_by (x.client == client) x.sequence k (queued_in xs client) (begins_positive service s x h.0) (queued_positive service s xs client k h.2) e

neither : (b : Bool) (x : ℕ) (o : Option ℕ) → (if b then Some x else o) ≡ None → (b ≡ false) × (o ≡ None)
neither true x o h = absurd (cc)
neither false x o h = (refl, h)

other_first : (b : Bool) (x : ℕ) (o p : Option ℕ) → p ≡ None → (if b then Some x else o) ≡ None → (if b then Some x else p) ≡ None
other_first true x o p e h = h
other_first false x o p e h = e

-- a client that the request isn't of still has none queued
none_push : (q : Request) (xs : List Request) (client : ℕ) → (q.client == client) ≡ false → queued_in xs client ≡ None → queued_in (xs ++ q ∷ []) client ≡ None
none_push q [] client n h = ap (λ (b : Bool). if b then Some q.sequence else None) n
none_push q (x ∷ xs) client n h =
    other_first (x.client == client) x.sequence (queued_in xs client) (queued_in (xs ++ q ∷ []) client) (none_push q xs client n (neither (x.client == client) x.sequence (queued_in xs client) h).1) h

turned_around : (a b : ℕ) → (a == b) ≡ false → (b == a) ≡ false
turned_around a b h = ne_eqb b a (λ (e : b ≡ a). eqb-false a b h (sym e))

pub queue_push : (service : Declarations) (s : StateValue) (q : Request) (xs : List Request) → CanBegin service s q → queued_in xs q.client ≡ None → AreQueued service s xs → AreQueued service s (xs ++ q ∷ [])
queue_push service s q [] can none h = (can, refl, tt)
queue_push service s q (x ∷ xs) can none h =
    let n = neither (x.client == q.client) x.sequence (queued_in xs q.client) none in
    (h.0, none_push q xs x.client (turned_around x.client q.client n.0) h.1, queue_push service s q xs can n.1 h.2)

-- ---- the queue after an answer

after_answer : (service : Declarations) (s : StateValue) (queue : List Request) (q : Request) (answer : Answer) → (answer ≡ Queued → AreQueued service s (queue ++ q ∷ [])) → AreQueued service s queue → AreQueued service s (queue_with queue q answer)
after_answer service s queue q Queued push h = push refl
after_answer service s queue q _ push h = h

pub queue_after_answer : (service : Declarations) (s : StateValue) (queue : List Request) (q : Request) (known : List Entry) → RequestFits service q → length s.clients ≡ 257 → AreQueued service s queue
    → AreQueued service s (queue_with queue q (answer_to q (queued_in queue q.client) s.clients known))
queue_after_answer service s queue q known fits long h =
    after_answer service s queue q (answer_to q (queued_in queue q.client) s.clients known)
    (λ e.
    let due = queued_due q.sequence (queued_in queue q.client) (entry_at s.clients q.client) (entry_at known q.client) (λ k z. queued_positive service s queue q.client k h z) e in
    queue_push service s q queue (due_begins service s q (queued_in queue q.client) fits long due) due.none h)
    h
