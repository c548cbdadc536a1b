-- Tables that keep the summaries of a past, by what its events name.
use Rattle.std.proofs.Common.{◌≡◌, ℕ, zero, suc, ◌<◌, Bool, true, false, ◌||◌, cond, List, ◌∷◌, refl, ap, sym, ◌∙◌}
use Rattle.std.specs.Prelude.{nat_eq, Option, Some, None}
use Rattle.rex_event.specs.declared.event.Event.{Event}
use Rattle.rex_event.specs.declared.event.Kind.{Kind}
use Rattle.rex_event.specs.Conflict.{named_lock, named_client, named_semaphore, same_name, conflict}
use Rattle.rex_event.specs.Order.{Has}
use Rattle.rex_clocks.specs.Clocks.{clock_before, clock_of}
use Rattle.rex_reduce.specs.declared.summary.Summary.{Summary}
use Rattle.rex_reduce.specs.declared.uses.Uses.{Uses}
use Rattle.rex_reduce.specs.Summaries.{joined, summary_of}
use Rattle.rex_reduce.specs.Names.{exclusive_lock, shared_lock, wake_slot, waker_slot, is_waker_at}
use Rattle.rex_reduce.specs.Tables.{at, with_at, with_woken, AreAddedAt}
use Rattle.rex_reduce.specs.Uses.{met, AreAdded}
use Rattle.rex_reduce.proofs.Joined.{joined_comm, summary_or, summary_agree}
use Rattle.rex_event.specs.declared.event.TheConstants.{LANES}
use Rattle.rex_reduce.proofs.Conflicts.{same_none, same_comm, or_false, or_assoc, waker_none, meets, meets_is}

-- at each place a table keeps the summary of those events of a past that stand there
pub record Keeps (names : Event → Option ℕ → Bool) (past : List Event) (rows : List Summary) : Type 0 where
  pub each : (place : ℕ) → at rows place ≡ summary_of (λ (d : Event). names d (Some place)) past

-- ---- reading

with_is : (names : Event → Option ℕ → Bool) (first : Event → Bool) (past : List Event) (rows : List Summary) (place : Option ℕ) → ((d : Event) → names d None ≡ false) → Keeps names past rows → with_at (summary_of first past) rows place ≡ summary_of (λ (d : Event). first d || names d place) past
with_is names first past rows None z k =
    summary_agree first (λ (d : Event). first d || names d None) past (λ d h. sym (ap (λ (x : Bool). first d || x) (z d) ∙ or_false (first d)))
with_is names first past rows (Some place) z k =
    ap (joined (summary_of first past)) (k.each place) ∙ sym (summary_or first (λ (d : Event). names d (Some place)) past)

abbrev pub by_wake : Event → Option ℕ → Bool
by_wake d place = same_name (wake_slot d) place

woken_is : (first : Event → Bool) (past : List Event) (rows : List Summary) (kind : Kind) (n : ℕ) → Keeps by_wake past rows → with_woken (summary_of first past) rows kind n ≡ summary_of (λ (d : Event). first d || is_waker_at kind (wake_slot d) n) past
woken_is first past rows kind zero k = summary_agree first (λ (d : Event). first d || false) past (λ d h. sym (or_false (first d)))
woken_is first past rows kind (suc n) k =
    ap (λ (x : Summary). with_at x rows (waker_slot kind n)) (woken_is first past rows kind n k)
    ∙ with_is by_wake (λ (d : Event). first d || is_waker_at kind (wake_slot d) n) past rows (waker_slot kind n) (λ d. same_none (wake_slot d)) k
    ∙ summary_agree (λ (d : Event). (first d || is_waker_at kind (wake_slot d) n) || same_name (wake_slot d) (waker_slot kind n)) (λ (d : Event). first d || (is_waker_at kind (wake_slot d) n || same_name (waker_slot kind n) (wake_slot d))) past
    (λ d h. ap (λ (x : Bool). (first d || is_waker_at kind (wake_slot d) n) || x) (same_comm (wake_slot d) (waker_slot kind n)) ∙ or_assoc (first d) (is_waker_at kind (wake_slot d) n) (same_name (waker_slot kind n) (wake_slot d)))

-- ---- all tables

-- each table keeps the events of a past by what it is named after
pub record KeepAll (past : List Event) (u : Uses) : Type 0 where
  pub lanes : Keeps (λ (d : Event) (place : Option ℕ). same_name (Some d.lane) place) past u.lanes
  pub exclusive : Keeps (λ (d : Event) (place : Option ℕ). same_name (exclusive_lock d.kind) place) past u.exclusive
  pub shared : Keeps (λ (d : Event) (place : Option ℕ). same_name (shared_lock d.kind) place) past u.shared
  pub clients : Keeps (λ (d : Event) (place : Option ℕ). same_name (named_client d.kind) place) past u.clients
  pub semaphores : Keeps (λ (d : Event) (place : Option ℕ). same_name (named_semaphore d.kind) place) past u.semaphores
  pub wakers : Keeps (λ (d : Event) (place : Option ℕ). is_waker_at d.kind place LANES) past u.wakers
  pub wakes : Keeps by_wake past u.wakes

-- what conflicts with an event is found
pub met_is : (past : List Event) (u : Uses) (e : Event) → KeepAll past u → e.lane < LANES → ((d : Event) → Has d past → d.lane < LANES) → met u e ≡ summary_of (λ (d : Event). conflict d e) past
met_is past u e k l lanes =
    let p1 = λ (d : Event). nat_eq d.lane e.lane in
    let p2 = λ (d : Event). nat_eq d.lane e.lane || same_name (exclusive_lock d.kind) (named_lock e.kind) in
    let p3 = λ (d : Event). (nat_eq d.lane e.lane || same_name (exclusive_lock d.kind) (named_lock e.kind)) || same_name (shared_lock d.kind) (exclusive_lock e.kind) in
    let p4 = λ (d : Event). ((nat_eq d.lane e.lane || same_name (exclusive_lock d.kind) (named_lock e.kind)) || same_name (shared_lock d.kind) (exclusive_lock e.kind)) || same_name (named_client d.kind) (named_client e.kind) in
    let p5 = λ (d : Event). (((nat_eq d.lane e.lane || same_name (exclusive_lock d.kind) (named_lock e.kind)) || same_name (shared_lock d.kind) (exclusive_lock e.kind)) || same_name (named_client d.kind) (named_client e.kind)) || same_name (named_semaphore d.kind) (named_semaphore e.kind) in
    let p6 = λ (d : Event). ((((nat_eq d.lane e.lane || same_name (exclusive_lock d.kind) (named_lock e.kind)) || same_name (shared_lock d.kind) (exclusive_lock e.kind)) || same_name (named_client d.kind) (named_client e.kind)) || same_name (named_semaphore d.kind) (named_semaphore e.kind)) || is_waker_at d.kind (wake_slot e) LANES in
    let a1 = with_is (λ (d : Event) (place : Option ℕ). same_name (exclusive_lock d.kind) place) p1 past u.exclusive (named_lock e.kind) (λ d. same_none (exclusive_lock d.kind)) k.exclusive in
    let a2 = with_is (λ (d : Event) (place : Option ℕ). same_name (shared_lock d.kind) place) p2 past u.shared (exclusive_lock e.kind) (λ d. same_none (shared_lock d.kind)) k.shared in
    let a3 = with_is (λ (d : Event) (place : Option ℕ). same_name (named_client d.kind) place) p3 past u.clients (named_client e.kind) (λ d. same_none (named_client d.kind)) k.clients in
    let a4 = with_is (λ (d : Event) (place : Option ℕ). same_name (named_semaphore d.kind) place) p4 past u.semaphores (named_semaphore e.kind) (λ d. same_none (named_semaphore d.kind)) k.semaphores in
    let a5 = with_is (λ (d : Event) (place : Option ℕ). is_waker_at d.kind place LANES) p5 past u.wakers (wake_slot e) (λ d. waker_none d.kind LANES) k.wakers in
    let a6 = woken_is p6 past u.wakes e.kind LANES k.wakes in
    let last : Summary → Summary = λ x. with_woken (with_at x u.wakers (wake_slot e)) u.wakes e.kind LANES in
    ap (λ (x : Summary). last (with_at (with_at (with_at (with_at x u.exclusive (named_lock e.kind)) u.shared (exclusive_lock e.kind)) u.clients (named_client e.kind)) u.semaphores (named_semaphore e.kind))) (k.lanes.each e.lane)
    ∙ ap (λ (x : Summary). last (with_at (with_at (with_at x u.shared (exclusive_lock e.kind)) u.clients (named_client e.kind)) u.semaphores (named_semaphore e.kind))) a1
    ∙ ap (λ (x : Summary). last (with_at (with_at x u.clients (named_client e.kind)) u.semaphores (named_semaphore e.kind))) a2
    ∙ ap (λ (x : Summary). last (with_at x u.semaphores (named_semaphore e.kind))) a3
    ∙ ap last a4
    ∙ ap (λ (x : Summary). with_woken x u.wakes e.kind LANES) a5
    ∙ a6
    ∙ summary_agree (λ (d : Event). meets d e) (λ (d : Event). conflict d e) past (λ d h. meets_is d e (lanes d h) l)

-- ---- adding

-- the summary of an event alone
abbrev pub own_of : List Event → Event → Summary
own_of past e = record { clocks = clock_of past e; befores = clock_before past e }

own_added : (b : Bool) (own s : Summary) → cond b (joined s own) s ≡ (let r : Summary = record { clocks = cond b (joined own s).clocks s.clocks; befores = cond b (joined own s).befores s.befores } in r)
own_added true own s = joined_comm s own
own_added false own s = refl

more_keeps : (names : Event → Option ℕ → Bool) (past : List Event) (e : Event) (own : Summary) (rows more : List Summary) → own ≡ own_of past e → Keeps names past rows → ((place : ℕ) → at more place ≡ cond (names e (Some place)) (joined (at rows place) own) (at rows place)) → Keeps names (e ∷ past) more
more_keeps names past e own rows more q k h = record {
  each = λ place.
      h place
      ∙ ap (λ (x : Summary). cond (names e (Some place)) (joined x own) x) (k.each place)
      ∙ ap (λ (x : Summary). cond (names e (Some place)) (joined (summary_of (λ (d : Event). names d (Some place)) past) x) (summary_of (λ (d : Event). names d (Some place)) past)) q
      ∙ own_added (names e (Some place)) (own_of past e) (summary_of (λ (d : Event). names d (Some place)) past);
}

added_keeps : (name : Event → Option ℕ) (past : List Event) (e : Event) (own : Summary) (rows more : List Summary) (place : Option ℕ) → own ≡ own_of past e → place ≡ name e → Keeps (λ (d : Event) (p : Option ℕ). same_name (name d) p) past rows → AreAddedAt rows place own more → Keeps (λ (d : Event) (p : Option ℕ). same_name (name d) p) (e ∷ past) more
added_keeps name past e own rows more None q n k a =
    more_keeps (λ (d : Event) (p : Option ℕ). same_name (name d) p) past e own rows more q k (λ place. a place ∙ ap (λ (x : Option ℕ). cond (same_name x (Some place)) (joined (at rows place) own) (at rows place)) n)
added_keeps name past e own rows more (Some number) q n k a =
    more_keeps (λ (d : Event) (p : Option ℕ). same_name (name d) p) past e own rows more q k (λ place. a place ∙ ap (λ (x : Option ℕ). cond (same_name x (Some place)) (joined (at rows place) own) (at rows place)) n)

-- with one more event the tables keep the longer past
pub more_all : (past : List Event) (e : Event) (own : Summary) (u more : Uses) → own ≡ own_of past e → KeepAll past u → AreAdded u e own more → KeepAll (e ∷ past) more
more_all past e own u more q k a = record {
  lanes = added_keeps (λ (d : Event). Some d.lane) past e own u.lanes more.lanes (Some e.lane) q refl k.lanes a.lanes;
  exclusive = added_keeps (λ (d : Event). exclusive_lock d.kind) past e own u.exclusive more.exclusive (exclusive_lock e.kind) q refl k.exclusive a.exclusive;
  shared = added_keeps (λ (d : Event). shared_lock d.kind) past e own u.shared more.shared (shared_lock e.kind) q refl k.shared a.shared;
  clients = added_keeps (λ (d : Event). named_client d.kind) past e own u.clients more.clients (named_client e.kind) q refl k.clients a.clients;
  semaphores = added_keeps (λ (d : Event). named_semaphore d.kind) past e own u.semaphores more.semaphores (named_semaphore e.kind) q refl k.semaphores a.semaphores;
  wakers = more_keeps (λ (d : Event) (place : Option ℕ). is_waker_at d.kind place LANES) past e own u.wakers more.wakers q k.wakers a.wakers;
  wakes = added_keeps (λ (d : Event). wake_slot d) past e own u.wakes more.wakes (wake_slot e) q refl k.wakes a.wakes;
}
