-- Two events conflict where one stands at a place at which the other is looked for.
use Rattle.std.proofs.Common.{◌≡◌, ⊎_elim, ℕ, zero, suc, ◌+◌, ◌*◌, ◌<◌, ◌≤◌, Bool, true, false, ◌&&◌, ◌||◌, not, cond, refl, ap, sym, ◌∙◌, subst, arith}
use Rattle.std.specs.Prelude.{nat_eq, Option, Some, None}
use Rattle.std.proofs.lemmas.Bool.{cases_eq, eq-eqb, ne_eqb}
use Rattle.rex_event.specs.declared.event.Event.{Event}
use Rattle.rex_event.specs.declared.event.Kind.{Kind}
use Rattle.rex_event.specs.declared.event.Kind.TheVariants.{Wake}
use Rattle.rex_event.specs.Conflict.{named_lock, is_sharing, named_condition, named_client, named_semaphore, same_name, is_that, woke, is_wake_on, wakes, conflict}
use Rattle.rex_event.specs.declared.event.TheConstants.{LANES}
use Rattle.rex_reduce.specs.Names.{exclusive_lock, shared_lock, waking, slot_of, wake_slot, waker_slot, is_waker_at}

-- ---- names

pub same_none : (o : Option ℕ) → same_name o None ≡ false
same_none None = refl
same_none (Some a) = refl

nat_eq_comm : (a b : ℕ) → nat_eq a b ≡ nat_eq b a
nat_eq_comm a b =
    ⊎_elim (λ (q : a ≡ b). eq-eqb _ _ q ∙ sym (eq-eqb _ _ (sym q)))
    (λ (q : a ≡ b → ⊥). ne_eqb _ _ q ∙ sym (ne_eqb _ _ (λ (z : b ≡ a). q (sym z)))) (cases_eq a b)

pub same_comm : (o p : Option ℕ) → same_name o p ≡ same_name p o
same_comm None None = refl
same_comm None (Some b) = refl
same_comm (Some a) None = refl
same_comm (Some a) (Some b) = nat_eq_comm a b

-- ---- booleans

and_true : (b : Bool) → (b && true) ≡ b
and_true true = refl
and_true false = refl

and_false : (b : Bool) → (b && false) ≡ false
and_false true = refl
and_false false = refl

pub or_false : (b : Bool) → (b || false) ≡ b
or_false true = refl
or_false false = refl

pub or_assoc : (a b c : Bool) → ((a || b) || c) ≡ (a || (b || c))
or_assoc true b c = refl
or_assoc false b c = refl

-- ---- locks

lock_by : (s t : Bool) (x y : Option ℕ) → (same_name (cond s None x) y || same_name (cond s x None) (cond t None y)) ≡ (same_name x y && not (s && t))
lock_by true true x y = same_none x ∙ sym (and_false (same_name x y))
lock_by true false x y = sym (and_true (same_name x y))
lock_by false true x y = or_false (same_name x y) ∙ sym (and_true (same_name x y))
lock_by false false x y = or_false (same_name x y) ∙ sym (and_true (same_name x y))

-- ---- waking

slots_apart : (c b l m : ℕ) → l < LANES → m < LANES → (m ≡ l → ⊥) → nat_eq (b * LANES + m) (c * LANES + l) ≡ false
slots_apart c b l m h k n = ne_eqb _ _ (λ (q : b * LANES + m ≡ c * LANES + l). n (omega arith))

slots_same : (c b l : ℕ) → nat_eq (b * LANES + l) (c * LANES + l) ≡ nat_eq b c
slots_same c b l =
    ⊎_elim (λ (q : b ≡ c). eq-eqb _ _ (ap (λ (x : ℕ). x * LANES + l) q) ∙ sym (eq-eqb _ _ q))
    (λ (q : b ≡ c → ⊥). ne_eqb _ _ (λ (z : b * LANES + l ≡ c * LANES + l). q (omega arith)) ∙ sym (ne_eqb _ _ q)) (cases_eq b c)

here : (w : Bool) (o : Option ℕ) (c l : ℕ) → same_name (cond w (slot_of o l) None) (Some (c * LANES + l)) ≡ (w && is_that o c)
here false o c l = refl
here true None c l = refl
here true (Some b) c l = slots_same c b l

elsewhere : (w : Bool) (o : Option ℕ) (c l m : ℕ) → l < LANES → m < LANES → (m ≡ l → ⊥) → same_name (cond w (slot_of o m) None) (Some (c * LANES + l)) ≡ false
elsewhere false o c l m h k n = refl
elsewhere true None c l m h k n = refl
elsewhere true (Some b) c l m h k n = slots_apart c b l m h k n

waker_past : (kind : Kind) (c l n : ℕ) → l < LANES → n ≤ l → is_waker_at kind (Some (c * LANES + l)) n ≡ false
waker_past kind c l zero h k = refl
waker_past kind c l (suc n) h k =
    let a = waker_past kind c l n h (omega arith) in
    let b = elsewhere (woke kind n) (named_condition kind) c l n h (omega arith) (λ (q : n ≡ l). omega arith) in
    rw (a, b) refl

waker_found : (kind : Kind) (c l n : ℕ) → l < n → n ≤ LANES → is_waker_at kind (Some (c * LANES + l)) n ≡ (woke kind l && is_that (named_condition kind) c)
waker_found kind c l zero h k = absurd (omega arith)
waker_found kind c l (suc n) h k =
    ⊎_elim (λ (q : n ≡ l).
    let a = waker_past kind c l n (omega arith) (omega arith) in
    let b : same_name (waker_slot kind n) (Some (c * LANES + l)) ≡ (woke kind l && is_that (named_condition kind) c) = subst (λ (x : ℕ). same_name (waker_slot kind x) (Some (c * LANES + l)) ≡ (woke kind l && is_that (named_condition kind) c)) (sym q) (here (woke kind l) (named_condition kind) c l) in
    rw (a, b) refl)
    (λ (q : n ≡ l → ⊥).
    let a = waker_found kind c l n (omega arith) (omega arith) in
    let b = elsewhere (woke kind n) (named_condition kind) c l n (omega arith) (omega arith) q in
    rw (a, b) (or_false (woke kind l && is_that (named_condition kind) c)))
    (cases_eq n l)

pub waker_none : (kind : Kind) (n : ℕ) → is_waker_at kind None n ≡ false
waker_none kind zero = refl
waker_none kind (suc n) = let a = waker_none kind n in let b = same_none (waker_slot kind n) in rw (a, b) refl

-- a wake on a condition that it names
wake_on : Option ℕ → Option ℕ → Bool
wake_on None other = false
wake_on (Some c) other = is_that other c

is_wake : (kind : Kind) (other : Option ℕ) → is_wake_on kind other ≡ wake_on (waking kind) other
unfolding wake_on
is_wake (Wake c l) other = refl
is_wake _ other = refl

waker_by : (kind : Kind) (o : Option ℕ) (l : ℕ) → l < LANES → is_waker_at kind (slot_of o l) LANES ≡ (woke kind l && wake_on o (named_condition kind))
unfolding wake_on
waker_by kind None l h = waker_none kind LANES ∙ sym (and_false (woke kind l))
waker_by kind (Some c) l h = waker_found kind c l LANES h (omega arith)

-- an event woke another one's lane, and the other is the wake
pub waker_is : (d e : Event) → e.lane < LANES → is_waker_at d.kind (wake_slot e) LANES ≡ wakes d e
waker_is d e h = waker_by d.kind (waking e.kind) e.lane h ∙ ap (λ (x : Bool). woke d.kind e.lane && x) (sym (is_wake e.kind (named_condition d.kind)))

-- ---- conflicts

or_seven : (a b c f m g h : Bool) → ((((((a || b) || c) || f) || m) || g) || h) ≡ (a || ((b || c) || (f || (m || (g || h)))))
or_seven true b c f m g h = refl
or_seven false true c f m g h = refl
or_seven false false true f m g h = refl
or_seven false false false true m g h = refl
or_seven false false false false true g h = refl
or_seven false false false false false true h = refl
or_seven false false false false false false h = refl

-- places at which both stand
abbrev pub meets : Event → Event → Bool
meets d e =
    (((((nat_eq d.lane e.lane
    || same_name (exclusive_lock d.kind) (named_lock e.kind))
    || same_name (shared_lock d.kind) (exclusive_lock e.kind))
    || same_name (named_client d.kind) (named_client e.kind))
    || same_name (named_semaphore d.kind) (named_semaphore e.kind))
    || is_waker_at d.kind (wake_slot e) LANES)
    || is_waker_at e.kind (wake_slot d) LANES

pub meets_is : (d e : Event) → d.lane < LANES → e.lane < LANES → meets d e ≡ conflict d e
meets_is d e h k =
    let l = lock_by (is_sharing d.kind) (is_sharing e.kind) (named_lock d.kind) (named_lock e.kind) in
    let a = waker_is d e k in
    let b = waker_is e d h in
    let locks : Bool = same_name (named_lock d.kind) (named_lock e.kind) && not (is_sharing d.kind && is_sharing e.kind) in
    let clients : Bool = same_name (named_client d.kind) (named_client e.kind) in
    let semaphores : Bool = same_name (named_semaphore d.kind) (named_semaphore e.kind) in
    or_seven (nat_eq d.lane e.lane) (same_name (exclusive_lock d.kind) (named_lock e.kind)) (same_name (shared_lock d.kind) (exclusive_lock e.kind)) clients semaphores (is_waker_at d.kind (wake_slot e) LANES) (is_waker_at e.kind (wake_slot d) LANES)
    ∙ ap (λ (x : Bool). nat_eq d.lane e.lane || (x || (clients || (semaphores || (is_waker_at d.kind (wake_slot e) LANES || is_waker_at e.kind (wake_slot d) LANES))))) l
    ∙ ap (λ (x : Bool). nat_eq d.lane e.lane || (locks || (clients || (semaphores || (x || is_waker_at e.kind (wake_slot d) LANES))))) a
    ∙ ap (λ (x : Bool). nat_eq d.lane e.lane || (locks || (clients || (semaphores || (wakes d e || x))))) b
