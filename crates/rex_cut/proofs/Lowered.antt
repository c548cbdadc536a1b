-- What lowering a cut leaves.
use Rattle.std.proofs.Common.{◌≡◌, inl, inr, ⊎_elim, ℕ, ◌<◌, ◌≤◌, true, false, not, ◌&&◌, List, [], ◌∷◌, ◌++◌, length, refl, sym, ◌∙◌, subst, arith}
use Rattle.std.proofs.lemmas.Bool.{true≢false, cond_both, and_parts, or_left, or_right, or_cases, not-true, le-ltb}
use Rattle.rex_event.specs.declared.event.Event.{Event}
use Rattle.rex_event.specs.Conflict.{conflict}
use Rattle.rex_event.specs.Order.{Has, Precedes}
use Rattle.rex_event.specs.Cuts.{count_at, counted, AreNumbered, is_below, IsWithin}
use Rattle.rex_cut.specs.Greatest.{meets_any, stopped, lowered}
use Rattle.rex_clocks.proofs.Leads.{has_left, has_right}
use Rattle.rex_clocks.proofs.Numbered.{numbered_later}
use Rattle.rex_cut.proofs.Stopped.{stopped_at, stopped_within, stopped_above, stopped_long, stopped_keeps}

-- ---- what is left out

pub meets : (out : List Event) (d e : Event) → Has d out → conflict d e ≡ true → meets_any out e ≡ true
meets [] d e h c = absurd h
meets (y ∷ out) d e (inl h) c = or_left _ _ (subst (λ (x : Event). conflict x e ≡ true) (sym h) c)
meets (y ∷ out) d e (inr h) c = or_right _ _ (meets out d e h c)

pub met : (out : List Event) (e : Event) → meets_any out e ≡ true → (d : Event) × Has d out × (conflict d e ≡ true)
met [] e h = absurd (true≢false (sym h))
met (y ∷ out) e h =
    ⊎_elim (λ (a : conflict y e ≡ true). (y, inl refl, a)) (λ (b : meets_any out e ≡ true). let r = met out e b in (r.0, inr r.1, r.2)) (or_cases (conflict y e) (meets_any out e) h)

-- ---- the counts only come down

pub lowered_within : (out : List Event) (cut : List ℕ) (es : List Event) → IsWithin cut (lowered out cut es)
lowered_within out cut [] = λ lane. omega arith
lowered_within out cut (e ∷ es) = λ lane.
    cond_both (is_below cut e && not (meets_any out e)) (lowered out cut es) (lowered (out ++ e ∷ []) (stopped cut e) es) (λ (x : List ℕ). count_at x lane ≤ count_at cut lane)
    (λ b. lowered_within out cut es lane)
    (λ b. let s = stopped_within cut e lane in let r = lowered_within (out ++ e ∷ []) (stopped cut e) es lane in omega arith)

pub lowered_long : (out : List Event) (cut : List ℕ) (es : List Event) → length (lowered out cut es) ≡ length cut
lowered_long out cut [] = refl
lowered_long out cut (e ∷ es) =
    cond_both (is_below cut e && not (meets_any out e)) (lowered out cut es) (lowered (out ++ e ∷ []) (stopped cut e) es) (λ (x : List ℕ). length x ≡ length cut)
    (λ b. lowered_long out cut es)
    (λ b. lowered_long (out ++ e ∷ []) (stopped cut e) es ∙ stopped_long cut e)

-- what is within the cut and not above any event stays within
pub lowered_above : (out : List Event) (cut low : List ℕ) (es : List Event) → IsWithin cut low → ((e : Event) → Has e es → count_at low e.lane ≤ e.index) → IsWithin (lowered out cut es) low
lowered_above out cut low [] w h = w
lowered_above out cut low (e ∷ es) w h =
    cond_both (is_below cut e && not (meets_any out e)) (lowered out cut es) (lowered (out ++ e ∷ []) (stopped cut e) es) (λ (x : List ℕ). IsWithin x low)
    (λ b. lowered_above out cut low es w (λ d k. h d (inr k)))
    (λ b. lowered_above (out ++ e ∷ []) (stopped cut e) low es (stopped_above cut low e w (h e (inl refl))) (λ d k. h d (inr k)))

-- an event that is below the cut, and after which none of its lane has a lower index, stays below
lowered_keeps : (out : List Event) (cut : List ℕ) (es : List Event) (d : Event) → is_below cut d ≡ true → ((e : Event) → Has e es → e.lane ≡ d.lane → d.index < e.index) → is_below (lowered out cut es) d ≡ true
lowered_keeps out cut [] d h later = h
lowered_keeps out cut (e ∷ es) d h later =
    cond_both (is_below cut e && not (meets_any out e)) (lowered out cut es) (lowered (out ++ e ∷ []) (stopped cut e) es) (λ (x : List ℕ). is_below x d ≡ true)
    (λ b. lowered_keeps out cut es d h (λ x k. later x (inr k)))
    (λ b. lowered_keeps (out ++ e ∷ []) (stopped cut e) es d (stopped_keeps cut e d h (later e (inl refl))) (λ x k. later x (inr k)))

-- ---- an event that conflicts with one that is left out is left out

-- an event that is left out is not below what the rest leaves
stays_out : (out : List Event) (cut : List ℕ) (e : Event) (es : List Event) → is_below (lowered out (stopped cut e) es) e ≡ false
stays_out out cut e es = let a = stopped_at cut e in let b = lowered_within out (stopped cut e) es e.lane in le-ltb _ _ (omega arith)

pub lowered_out : (out : List Event) (cut : List ℕ) (es : List Event) (d e : Event) → Has d out → Has e es → conflict d e ≡ true → is_below (lowered out cut es) e ≡ false
lowered_out out cut [] d e h k c = absurd k
lowered_out out cut (y ∷ es) d e h (inl k) c =
    cond_both (is_below cut y && not (meets_any out y)) (lowered out cut es) (lowered (out ++ y ∷ []) (stopped cut y) es) (λ (x : List ℕ). is_below x e ≡ false)
    (λ b.
    let m = meets out d y h (subst (λ (x : Event). conflict d x ≡ true) (sym k) c) in
    absurd (true≢false (sym m ∙ not-true _ (and_parts _ _ b).1)))
    (λ b. subst (λ (x : Event). is_below (lowered (out ++ y ∷ []) (stopped cut y) es) x ≡ false) k (stays_out (out ++ y ∷ []) cut y es))
lowered_out out cut (y ∷ es) d e h (inr k) c =
    cond_both (is_below cut y && not (meets_any out y)) (lowered out cut es) (lowered (out ++ y ∷ []) (stopped cut y) es) (λ (x : List ℕ). is_below x e ≡ false)
    (λ b. lowered_out out cut es d e h k c)
    (λ b. lowered_out (out ++ y ∷ []) (stopped cut y) es d e (has_left d out (y ∷ []) h) k c)

-- in a numbered list: an event that conflicts with an earlier one above the cut is above it
pub lowered_closed : (counts : List ℕ) (out : List Event) (cut : List ℕ) (es : List Event) (d e : Event) → AreNumbered counts es → Precedes d e es → conflict d e ≡ true → is_below (lowered out cut es) d ≡ false → is_below (lowered out cut es) e ≡ false
lowered_closed counts out cut [] d e n p c f = absurd p
lowered_closed counts out cut (y ∷ es) d e n (inl p) c f =
    cond_both (is_below cut y && not (meets_any out y)) (lowered out cut es) (lowered (out ++ y ∷ []) (stopped cut y) es) (λ (x : List ℕ). is_below x d ≡ false → is_below x e ≡ false)
    (λ b f.
    let k = lowered_keeps out cut es y (and_parts _ _ b).0 (λ x h q. numbered_later counts y es x n h q) in
    absurd (true≢false (sym (subst (λ (x : Event). is_below (lowered out cut es) x ≡ true) p.0 k) ∙ f)))
    (λ b f. lowered_out (out ++ y ∷ []) (stopped cut y) es d e (has_right d out (y ∷ []) (inl p.0)) p.1 c)
    f
lowered_closed counts out cut (y ∷ es) d e n (inr p) c f =
    cond_both (is_below cut y && not (meets_any out y)) (lowered out cut es) (lowered (out ++ y ∷ []) (stopped cut y) es) (λ (x : List ℕ). is_below x d ≡ false → is_below x e ≡ false)
    (λ b f. lowered_closed (counted counts y) out cut es d e n.2 p c f)
    (λ b f. lowered_closed (counted counts y) (out ++ y ∷ []) (stopped cut y) es d e n.2 p c f)
    f
