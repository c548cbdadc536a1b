-- Events that are found the same are.
use Rattle.std.proofs.Common.{◌≡◌, ℕ, ◌&&◌, true, List, [], ◌∷◌, refl, ap, ◌∙◌, Option, Some, None, eqb-true, eq-eqb}
use Rattle.std.specs.Prelude.{ℤ, ◌==◌}
use Rattle.std.specs.Ordering.{int_eq}
use Rattle.std.specs.Cmp.{signed_Decides}
use Rattle.std.proofs.lemmas.Bool.{false≢true, and_parts, and_from}
use Rattle.rex_event.specs.declared.delta.Cause.{Cause}
use Rattle.rex_event.specs.declared.event.Event.{Event}
use Rattle.rex_event.specs.declared.event.Kind.{Kind}
use Rattle.rex_event.specs.declared.event.Kind.TheVariants.{Begin, AcqEx, AcqSh, RelEx, RelSh, TryOk, TryBusy, Wait, Wake, Signal, Broadcast, Clock, Random, Reply, Down, Up}
use Rattle.rex_cluster.specs.Same.{same_numbers, same_lane, same_kind, same_events, same_causes, same_lists}

number_is : (x y : ℤ) → int_eq x y ≡ true → x ≡ y
number_is x y h = (signed_Decides x y).0 h

numbers_are : (xs ys : List ℤ) → same_numbers xs ys ≡ true → xs ≡ ys
numbers_are [] [] h = refl
numbers_are [] (y ∷ ys) h = absurd (false≢true h)
numbers_are (x ∷ xs) [] h = absurd (false≢true h)
numbers_are (x ∷ xs) (y ∷ ys) h =
    let p = and_parts _ _ h in
    let a = number_is x y p.0 in
    let b = numbers_are xs ys p.1 in
    cc

lane_is : (a b : Option ℕ) → same_lane a b ≡ true → a ≡ b
lane_is None None h = refl
lane_is None (Some b) h = absurd (false≢true h)
lane_is (Some a) None h = absurd (false≢true h)
lane_is (Some a) (Some b) h = ap Some (eqb-true a b h)

one : (k : ℕ → Kind) (l m : ℕ) → (l == m) ≡ true → k l ≡ k m
one k l m h = ap k (eqb-true l m h)

two : (k : ℕ → ℕ → Kind) (c d l m : ℕ) → (c == d && l == m) ≡ true → k c l ≡ k d m
two k c d l m h =
    let p = and_parts _ _ h in
    let a = eqb-true c d p.0 in
    let b = eqb-true l m p.1 in
    cc

kind_is : (a b : Kind) → same_kind a b ≡ true → a ≡ b
kind_is (Begin c s h a) (Begin d t g b) e =
    let p = and_parts _ _ e in
    let q = and_parts _ _ p.1 in
    let r = and_parts _ _ q.1 in
    let i = eqb-true c d p.0 in
    let j = eqb-true s t q.0 in
    let k = eqb-true h g r.0 in
    let l = numbers_are a b r.1 in
    cc
kind_is (AcqEx l) (AcqEx m) e = one AcqEx l m e
kind_is (AcqSh l) (AcqSh m) e = one AcqSh l m e
kind_is (RelEx l) (RelEx m) e = one RelEx l m e
kind_is (RelSh l) (RelSh m) e = one RelSh l m e
kind_is (TryOk l) (TryOk m) e = one TryOk l m e
kind_is (TryBusy l) (TryBusy m) e = one TryBusy l m e
kind_is (Wait c l) (Wait d m) e = two Wait c d l m e
kind_is (Wake c l) (Wake d m) e = two Wake c d l m e
kind_is (Signal c w) (Signal d v) e =
    let p = and_parts _ _ e in
    let i = eqb-true c d p.0 in
    let j = lane_is w v p.1 in
    cc
kind_is (Broadcast c w) (Broadcast d v) e = two Broadcast c d w v e
kind_is (Clock x) (Clock y) e = ap Clock (number_is x y e)
kind_is (Random x) (Random y) e = one Random x y e
kind_is (Reply c x) (Reply d y) e =
    let p = and_parts _ _ e in
    let i = eqb-true c d p.0 in
    let j = number_is x y p.1 in
    cc
kind_is (Down k) (Down m) e = one Down k m e
kind_is (Up k) (Up m) e = one Up k m e
kind_is _ _ e = absurd (false≢true e)

abbrev event : ℕ → ℕ → Kind → Event
event lane index kind = record { lane = lane; index = index; kind = kind }

pub events_are : (ds es : List Event) → same_events ds es ≡ true → ds ≡ es
events_are [] [] h = refl
events_are [] (e ∷ es) h = absurd (false≢true h)
events_are (d ∷ ds) [] h = absurd (false≢true h)
events_are (d ∷ ds) (e ∷ es) h =
    let p = and_parts _ _ h in
    let q = and_parts _ _ p.0 in
    let r = and_parts _ _ q.1 in
    join (same d e (eqb-true d.lane e.lane q.0) (eqb-true d.index e.index r.0) (kind_is d.kind e.kind r.1)) (events_are ds es p.1)
  where
    same : (d e : Event) → d.lane ≡ e.lane → d.index ≡ e.index → d.kind ≡ e.kind → d ≡ e
    same d e a b c =
        ap (λ (l : ℕ). event l d.index d.kind) a ∙ (ap (λ (i : ℕ). event e.lane i d.kind) b ∙ ap (λ (k : Kind). event e.lane e.index k) c)

    join : {x y : Event} {xs ys : List Event} → x ≡ y → xs ≡ ys → x ∷ xs ≡ y ∷ ys
    join a b = cc

-- ---- events are the same as themselves

number_same : (x : ℤ) → int_eq x x ≡ true
number_same x = (signed_Decides x x).1 refl

numbers_same : (xs : List ℤ) → same_numbers xs xs ≡ true
numbers_same [] = refl
numbers_same (x ∷ xs) = and_from _ _ (number_same x) (numbers_same xs)

number_at : (n : ℕ) → (n == n) ≡ true
number_at n = eq-eqb n n refl

both_same : (c l : ℕ) → (c == c && l == l) ≡ true
both_same c l = and_from _ _ (number_at c) (number_at l)

lane_same : (a : Option ℕ) → same_lane a a ≡ true
lane_same None = refl
lane_same (Some a) = number_at a

kind_same : (a : Kind) → same_kind a a ≡ true
kind_same (Begin c s h a) = and_from _ _ (number_at c) (and_from _ _ (number_at s) (and_from _ _ (number_at h) (numbers_same a)))
kind_same (AcqEx l) = number_at l
kind_same (AcqSh l) = number_at l
kind_same (RelEx l) = number_at l
kind_same (RelSh l) = number_at l
kind_same (TryOk l) = number_at l
kind_same (TryBusy l) = number_at l
kind_same (Wait c l) = both_same c l
kind_same (Wake c l) = both_same c l
kind_same (Signal c w) = and_from _ _ (number_at c) (lane_same w)
kind_same (Broadcast c w) = both_same c w
kind_same (Clock x) = number_same x
kind_same (Random x) = number_at x
kind_same (Reply c x) = and_from _ _ (number_at c) (number_same x)
kind_same (Down k) = number_at k
kind_same (Up k) = number_at k

pub events_same : (es : List Event) → same_events es es ≡ true
events_same [] = refl
events_same (e ∷ es) = and_from _ _ (and_from _ _ (number_at e.lane) (and_from _ _ (number_at e.index) (kind_same e.kind))) (events_same es)

-- ---- causes

abbrev cause : ℕ → ℕ → Cause
cause lane index = record { lane = lane; index = index }

causes_are : (cs ds : List Cause) → same_causes cs ds ≡ true → cs ≡ ds
causes_are [] [] h = refl
causes_are [] (d ∷ ds) h = absurd (false≢true h)
causes_are (c ∷ cs) [] h = absurd (false≢true h)
causes_are (c ∷ cs) (d ∷ ds) h =
    let p = and_parts _ _ h in
    let q = and_parts _ _ p.0 in
    join (ap (λ (l : ℕ). cause l c.index) (eqb-true c.lane d.lane q.0) ∙ ap (λ (i : ℕ). cause d.lane i) (eqb-true c.index d.index q.1)) (causes_are cs ds p.1)
  where
    join : {x y : Cause} {xs ys : List Cause} → x ≡ y → xs ≡ ys → x ∷ xs ≡ y ∷ ys
    join a b = cc

pub lists_are : (cs ds : List (List Cause)) → same_lists cs ds ≡ true → cs ≡ ds
lists_are [] [] h = refl
lists_are [] (d ∷ ds) h = absurd (false≢true h)
lists_are (c ∷ cs) [] h = absurd (false≢true h)
lists_are (c ∷ cs) (d ∷ ds) h = let p = and_parts _ _ h in join (causes_are c d p.0) (lists_are cs ds p.1)
  where
    join : {x y : List Cause} {xs ys : List (List Cause)} → x ≡ y → xs ≡ ys → x ∷ xs ≡ y ∷ ys
    join a b = cc

causes_same : (cs : List Cause) → same_causes cs cs ≡ true
causes_same [] = refl
causes_same (c ∷ cs) = and_from _ _ (both_same c.lane c.index) (causes_same cs)

pub lists_same : (cs : List (List Cause)) → same_lists cs cs ≡ true
lists_same [] = refl
lists_same (c ∷ cs) = and_from _ _ (causes_same c) (lists_same cs)
