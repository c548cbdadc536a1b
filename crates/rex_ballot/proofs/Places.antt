-- The place of an instance in a list of proposals that rises by instance.
use Rattle.std.proofs.Common.{◌≡◌, ◌≢◌, ℕ, zero, suc, ◌+◌, ◌-◌, ◌<◌, ◌≤◌, Bool, true, false, cond, eqb, ltb, leb, List, [], ◌∷◌, ◌++◌, length, take, drop, get_or, Option, Some, None, refl, sym, ap, ◌∙◌, arith, length-drop}
use Rattle.std.specs.Prelude.{filter, nat_lt, slice_get, slice_set}
use Rattle.std.specs.List.{insert}
use Rattle.std.specs.List.Sorted.{IsPartitionPoint, IsPartitionedBy, IsNonDecreasingBy}
use Rattle.std.proofs.lemmas.Bool.{ltb-true, ltb-false, lt-ltb, le-ltb, le-leb, lt-leb, eq-eqb, ne_eqb}
use Rattle.std.proofs.lemmas.List.{take_all}
use Rattle.std.proofs.lemmas.List.Sorted.{IsPartitionedBy-ltb}
use Rattle.std.proofs.lemmas.Option.{slice_get_read, slice_get_past}
use Rattle.rex_ballot.specs.Proposals.{AreRising, below, above, from_instance, proposal_for, with_proposal}
use Rattle.rex_ballot.specs.declared.proposal.Proposal.{Proposal}
use Rattle.rex_ballot.proofs.Lists.{below_none}

-- ---- order

-- no instance is below the least
from_least : (least : ℕ) (ps : List Proposal) (k : ℕ) (d : Proposal) → AreRising least ps → k < length ps → least ≤ (get_or ps k d).instance
from_least least [] k d h l = absurd (omega arith)
from_least least (p ∷ ps) zero d h l = h.0
from_least least (p ∷ ps) (suc k) d h l = let more = from_least (p.instance + 1) ps k d h.1 (omega arith) in let first = h.0 in omega arith

non_decreasing : (least : ℕ) (ps : List Proposal) → AreRising least ps → IsNonDecreasingBy (λ (p : Proposal). p.instance) ps
non_decreasing least [] h i j d le l = absurd (omega arith)
non_decreasing least (p ∷ ps) h zero zero d le l = omega arith
non_decreasing least (p ∷ ps) h zero (suc j) d le l = let more = from_least (p.instance + 1) ps j d h.1 (omega arith) in omega arith
non_decreasing least (p ∷ ps) h (suc i) zero d le l = absurd (omega arith)
non_decreasing least (p ∷ ps) h (suc i) (suc j) d le l = non_decreasing (p.instance + 1) ps h.1 i j d (omega arith) (omega arith)

-- those that pass stand first, and there are so many
pub length-partitioned : (test : Proposal → Bool) (ps : List Proposal) (k : ℕ) → k ≤ length ps → IsPartitionPoint (λ p. test p ≡ true) (λ p. test p ≡ false) ps k → k ≡ length (filter test ps)
length-partitioned test [] k le h = omega arith
length-partitioned test (p ∷ ps) zero le h =
    rw (h.1 0 p (omega arith) (omega arith))
    (length-partitioned test ps zero (omega arith) ((λ i d low high. absurd (omega arith)), (λ i d low high. h.1 (suc i) d (omega arith) (omega arith))))
length-partitioned test (p ∷ ps) (suc k) le h =
    rw (h.0 0 p (omega arith) (omega arith))
    (ap (λ n. suc n) (length-partitioned test ps k (omega arith) ((λ i d low high. h.0 (suc i) d (omega arith) (omega arith)), (λ i d low high. h.1 (suc i) d (omega arith) (omega arith)))))

pub partitioned : (least instance : ℕ) (ps : List Proposal) → AreRising least ps → IsPartitionedBy (λ (p : Proposal). ltb p.instance instance) ps
partitioned least instance ps h = IsPartitionedBy-ltb (λ (p : Proposal). p.instance) ps instance (non_decreasing least ps h)

-- ---- all of them are later

above_all : (instance least : ℕ) (ps : List Proposal) → instance < least → AreRising least ps → above instance ps ≡ ps
above_all instance least [] l h = refl
above_all instance least (p ∷ ps) l h =
    let first = h.0 in
    rw (lt-ltb instance p.instance (omega arith)) (ap (λ qs. p ∷ qs) (above_all instance (p.instance + 1) ps (omega arith) h.1))

from_all : (instance least : ℕ) (ps : List Proposal) → instance ≤ least → AreRising least ps → from_instance instance ps ≡ ps
from_all instance least [] l h = refl
from_all instance least (p ∷ ps) l h =
    let first = h.0 in
    rw (le-leb instance p.instance (omega arith)) (ap (λ qs. p ∷ qs) (from_all instance (p.instance + 1) ps (omega arith) h.1))

proposal_for-later : (instance least : ℕ) (ps : List Proposal) → instance < least → AreRising least ps → proposal_for instance ps ≡ None
proposal_for-later instance least [] l h = refl
proposal_for-later instance least (p ∷ ps) l h =
    let first = h.0 in
    rw (ne_eqb p.instance instance (λ same. omega arith)) (proposal_for-later instance (p.instance + 1) ps (omega arith) h.1)

-- ---- what stands at the place

-- it is taken where it is the instance's own
abbrev own : ℕ → Option Proposal → Option Proposal
own instance None = None
own instance (Some p) = cond (eqb p.instance instance) (Some p) None

proposal_for-place : (least instance : ℕ) (ps : List Proposal) → AreRising least ps → own instance (slice_get ps (length (below instance ps))) ≡ proposal_for instance ps
proposal_for-place least instance [] h = refl
proposal_for-place least instance (p ∷ ps) h = by (nat_lt p.instance instance) refl (proposal_for-place (p.instance + 1) instance ps h.1)
  where
    by : (b : Bool) → nat_lt p.instance instance ≡ b → own instance (slice_get ps (length (below instance ps))) ≡ proposal_for instance ps → own instance (slice_get (p ∷ ps) (length (cond b (p ∷ below instance ps) (below instance ps)))) ≡ cond (eqb p.instance instance) (Some p) (proposal_for instance ps)
    by true e r = let lt = ltb-true p.instance instance e in rw (ne_eqb p.instance instance (λ same. omega arith)) r
    by false e r =
        let ge = ltb-false p.instance instance e in
        rw (below_none instance (p.instance + 1) ps (omega arith) h.1, proposal_for-later instance (p.instance + 1) ps (omega arith) h.1) refl

-- the rest from the place on
drop-place : (least instance : ℕ) (ps : List Proposal) → AreRising least ps → drop (length (below instance ps)) ps ≡ from_instance instance ps
drop-place least instance [] h = refl
drop-place least instance (p ∷ ps) h = by (nat_lt p.instance instance) refl (drop-place (p.instance + 1) instance ps h.1)
  where
    by : (b : Bool) → nat_lt p.instance instance ≡ b → drop (length (below instance ps)) ps ≡ from_instance instance ps → drop (length (cond b (p ∷ below instance ps) (below instance ps))) (p ∷ ps) ≡ cond (leb instance p.instance) (p ∷ from_instance instance ps) (from_instance instance ps)
    by true e r = let lt = ltb-true p.instance instance e in rw (lt-leb instance p.instance lt) r
    by false e r =
        let ge = ltb-false p.instance instance e in
        rw (below_none instance (p.instance + 1) ps (omega arith) h.1, le-leb instance p.instance ge) (ap (λ qs. p ∷ qs) (sym (from_all instance (p.instance + 1) ps (omega arith) h.1)))

-- ---- a proposal at its place

set-place : (least : ℕ) (ps : List Proposal) (q d : Proposal) → AreRising least ps → length (below q.instance ps) < length ps → (get_or ps (length (below q.instance ps)) d).instance ≡ q.instance → slice_set ps (length (below q.instance ps)) q ≡ with_proposal ps q
set-place least [] q d h = λ l same. absurd (omega arith)
set-place least (p ∷ ps) q d h = by (nat_lt p.instance q.instance) refl (set-place (p.instance + 1) ps q d h.1)
  where
    by : (b : Bool) → nat_lt p.instance q.instance ≡ b
        → (length (below q.instance ps) < length ps → (get_or ps (length (below q.instance ps)) d).instance ≡ q.instance → slice_set ps (length (below q.instance ps)) q ≡ with_proposal ps q)
        → length (cond b (p ∷ below q.instance ps) (below q.instance ps)) < length (p ∷ ps)
        → (get_or (p ∷ ps) (length (cond b (p ∷ below q.instance ps) (below q.instance ps))) d).instance ≡ q.instance
        → slice_set (p ∷ ps) (length (cond b (p ∷ below q.instance ps) (below q.instance ps))) q ≡ cond b (p ∷ below q.instance ps) (below q.instance ps) ++ q ∷ above q.instance (p ∷ ps)
    by true e r l =
        let lt = ltb-true p.instance q.instance e in
        λ same. rw (le-ltb q.instance p.instance (omega arith)) (ap (λ qs. p ∷ qs) (r (omega arith) same))
    by false e r l =
        let ge = ltb-false p.instance q.instance e in
        rw (below_none q.instance (p.instance + 1) ps (omega arith) h.1)
        (λ (same : p.instance ≡ q.instance). rw (le-ltb q.instance p.instance (omega arith), above_all q.instance (p.instance + 1) ps (omega arith) h.1) refl)

insert-place : (least : ℕ) (ps : List Proposal) (q d : Proposal) → AreRising least ps → (length (below q.instance ps) < length ps → (get_or ps (length (below q.instance ps)) d).instance ≢ q.instance) → insert ps (length (below q.instance ps)) q ≡ with_proposal ps q
insert-place least [] q d h = λ other. refl
insert-place least (p ∷ ps) q d h = by (nat_lt p.instance q.instance) refl (insert-place (p.instance + 1) ps q d h.1)
  where
    by : (b : Bool) → nat_lt p.instance q.instance ≡ b
        → ((length (below q.instance ps) < length ps → (get_or ps (length (below q.instance ps)) d).instance ≢ q.instance) → insert ps (length (below q.instance ps)) q ≡ with_proposal ps q)
        → (length (cond b (p ∷ below q.instance ps) (below q.instance ps)) < length (p ∷ ps) → (get_or (p ∷ ps) (length (cond b (p ∷ below q.instance ps) (below q.instance ps))) d).instance ≢ q.instance)
        → insert (p ∷ ps) (length (cond b (p ∷ below q.instance ps) (below q.instance ps))) q ≡ cond b (p ∷ below q.instance ps) (below q.instance ps) ++ q ∷ above q.instance (p ∷ ps)
    by true e r =
        let lt = ltb-true p.instance q.instance e in
        λ other. rw (le-ltb q.instance p.instance (omega arith)) (ap (λ qs. p ∷ qs) (r (λ l. other (omega arith))))
    by false e r =
        let ge = ltb-false p.instance q.instance e in
        rw (below_none q.instance (p.instance + 1) ps (omega arith) h.1)
        (λ (other : 0 < length (p ∷ ps) → p.instance ≢ q.instance).
        let far : p.instance ≢ q.instance = other (omega arith) in
        rw (lt-ltb q.instance p.instance (omega (arith, far)), above_all q.instance (p.instance + 1) ps (omega arith) h.1) refl)

-- ---- what the code finds at the place

pub found-own : (ps : List Proposal) (place instance : ℕ) (found : Proposal) → AreRising 0 ps → place ≡ length (below instance ps) → place < length ps → found ≡ get_or ps place found → found.instance ≡ instance → Some found ≡ proposal_for instance ps
found-own ps place instance found h at l read same =
    let stands : slice_get ps place ≡ Some found = slice_get_read ps (length ps) place found refl l read in
    let taken : own instance (slice_get ps place) ≡ Some found = rw (stands, eq-eqb found.instance instance same) refl in
    sym taken ∙ ap (λ n. own instance (slice_get ps n)) at ∙ proposal_for-place 0 instance ps h

pub found-other : (ps : List Proposal) (place instance : ℕ) (found : Proposal) → AreRising 0 ps → place ≡ length (below instance ps) → place < length ps → found ≡ get_or ps place found → (found.instance ≡ instance → ⊥) → proposal_for instance ps ≡ None
found-other ps place instance found h at l read other =
    let stands : slice_get ps place ≡ Some found = slice_get_read ps (length ps) place found refl l read in
    let left : own instance (slice_get ps place) ≡ None = rw (stands, ne_eqb found.instance instance other) refl in
    sym (proposal_for-place 0 instance ps h) ∙ ap (λ n. own instance (slice_get ps n)) (sym at) ∙ left

pub found-none : (ps : List Proposal) (place instance : ℕ) → AreRising 0 ps → place ≡ length (below instance ps) → length ps ≤ place → proposal_for instance ps ≡ None
found-none ps place instance h at l =
    let past : own instance (slice_get ps place) ≡ None = rw (slice_get_past ps place l) refl in
    sym (proposal_for-place 0 instance ps h) ∙ ap (λ n. own instance (slice_get ps n)) (sym at) ∙ past

pub rest-from : (ps : List Proposal) (place first : ℕ) → AreRising 0 ps → place ≡ length (below first ps) → take (length ps - place) (drop place ps) ≡ from_instance first ps
rest-from ps place first h at =
    take_all (length ps - place) (drop place ps) (let n = length-drop place ps in omega arith)
    ∙ ap (λ n. drop n ps) at ∙ drop-place 0 first ps h

pub put-own : (ps : List Proposal) (q d : Proposal) (place : ℕ) → AreRising 0 ps → place ≡ length (below q.instance ps) → place < length ps → d ≡ get_or ps place d → d.instance ≡ q.instance → slice_set ps place q ≡ with_proposal ps q
put-own ps q d place h at l read same =
    ap (λ n. slice_set ps n q) at
    ∙ set-place 0 ps q d h (rw at at l) (ap (λ n. (get_or ps n d).instance) (sym at) ∙ ap (λ (p : Proposal). p.instance) (sym read) ∙ same)

pub put-other : (ps : List Proposal) (q d : Proposal) (place : ℕ) → AreRising 0 ps → place ≡ length (below q.instance ps) → d ≡ get_or ps place d → (d.instance ≡ q.instance → ⊥) → insert ps place q ≡ with_proposal ps q
put-other ps q d place h at read other =
    ap (λ n. insert ps n q) at
    ∙ insert-place 0 ps q d h (λ l same. other (ap (λ (p : Proposal). p.instance) read ∙ ap (λ n. (get_or ps n d).instance) at ∙ same))

pub put-end : (ps : List Proposal) (q : Proposal) (place : ℕ) → AreRising 0 ps → place ≡ length (below q.instance ps) → length ps ≤ place → insert ps place q ≡ with_proposal ps q
put-end ps q place h at far =
    ap (λ n. insert ps n q) at ∙ insert-place 0 ps q q h (λ l same. absurd (omega arith))
