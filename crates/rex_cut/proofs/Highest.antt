-- The cut that lowering leaves is the greatest consistent one.
use Rattle.std.proofs.Common.{◌≡◌, inl, inr, ⊎_elim, ℕ, true, false, not, ◌&&◌, List, [], ◌∷◌, ◌++◌, refl, sym, ◌∙◌, subst, arith}
use Rattle.std.proofs.lemmas.Bool.{true≢false, cond_both, cases_Bool, and_cases, not-false, ltb-false, le-ltb}
use Rattle.rex_event.specs.declared.event.Event.{Event}
use Rattle.rex_event.specs.Order.{Has, Precedes, ConflictsBefore}
use Rattle.rex_event.specs.Cuts.{AreNumbered, is_below, IsConsistent, IsWithin, IsGreatestCut}
use Rattle.rex_cut.specs.Greatest.{meets_any, stopped, lowered, greatest_cut, IsCutOf}
use Rattle.rex_clocks.proofs.Leads.{leads_back, has_parts}
use Rattle.rex_clocks.proofs.Numbered.{numbered_above}
use Rattle.rex_cut.proofs.Stopped.{stopped_above}
use Rattle.rex_cut.proofs.Lowered.{met, lowered_within, lowered_long, lowered_above, lowered_closed}

-- ---- each consistent cut below the limits is within

-- what is left out stands before what follows, and that in the list's order
pub record Follows (es out rest : List Event) : Type 0 where
  pub across : (d e : Event) → Has d out → Has e rest → Precedes d e es
  pub inside : (d e : Event) → Precedes d e rest → Precedes d e es

-- none of these is below a cut
pub record AreAbove (cut : List ℕ) (out : List Event) : Type 0 where
  pub each : (d : Event) → Has d out → is_below cut d ≡ false

above_more : (cut : List ℕ) (out : List Event) (e : Event) → AreAbove cut out → is_below cut e ≡ false → AreAbove cut (out ++ e ∷ [])
above_more cut out e a f = record {
  each = λ d h. ⊎_elim (λ (l : Has d out). a.each d l) (λ (r : Has d (e ∷ [])). ⊎_elim (λ (q : e ≡ d). subst (λ (x : Event). is_below cut x ≡ false) q f) (λ (z : ⊥). absurd z) r) (has_parts d out (e ∷ []) h);
}

follows_kept : (es out : List Event) (e : Event) (rest : List Event) → Follows es out (e ∷ rest) → Follows es out rest
follows_kept es out e rest f = record { across = λ d x h k. f.across d x h (inr k); inside = λ d x p. f.inside d x (inr p) }

follows_out : (es out : List Event) (e : Event) (rest : List Event) → Follows es out (e ∷ rest) → Follows es (out ++ e ∷ []) rest
follows_out es out e rest f = record {
  across = λ d x h k.
      ⊎_elim (λ (l : Has d out). f.across d x l (inr k)) (λ (r : Has d (e ∷ [])). ⊎_elim (λ (q : e ≡ d). f.inside d x (inl (q, k))) (λ (z : ⊥). absurd z) r) (has_parts d out (e ∷ []) h);
  inside = λ d x p. f.inside d x (inr p);
}

-- an event that is left out is above each consistent cut below this one
left_out : (es out rest : List Event) (cut other : List ℕ) (e : Event) → Follows es out (e ∷ rest) → AreAbove other out → IsWithin cut other → IsConsistent es other → (is_below cut e && not (meets_any out e)) ≡ false → is_below other e ≡ false
left_out es out rest cut other e f a w closed b =
    ⊎_elim (λ (q : is_below cut e ≡ false). let l = ltb-false _ _ q in let v = w e.lane in le-ltb _ _ (omega arith))
    (λ (q : not (meets_any out e) ≡ false).
    let m = met out e (not-false _ q) in
    ⊎_elim (λ (t : is_below other e ≡ true).
    absurd (true≢false (sym (closed.closed m.0 e ([], record { before = f.across m.0 e m.1 (inl refl); meets = m.2 }) t) ∙ a.each m.0 m.1)))
    (λ (t : is_below other e ≡ false). t)
    (cases_Bool (is_below other e)))
    (and_cases _ _ b)

pub lowered_greatest : (es out : List Event) (cut other : List ℕ) (rest : List Event) → Follows es out rest → AreAbove other out → IsWithin cut other → IsConsistent es other → IsWithin (lowered out cut rest) other
lowered_greatest es out cut other [] f a w closed = w
lowered_greatest es out cut other (e ∷ rest) f a w closed =
    cond_both (is_below cut e && not (meets_any out e)) (lowered out cut rest) (lowered (out ++ e ∷ []) (stopped cut e) rest) (λ (x : List ℕ). IsWithin x other)
    (λ b. lowered_greatest es out cut other rest (follows_kept es out e rest f) a w closed)
    (λ b.
    let o = left_out es out rest cut other e f a w closed b in
    lowered_greatest es (out ++ e ∷ []) (stopped cut e) other rest (follows_out es out e rest f) (above_more other out e a o) (stopped_above cut other e w (ltb-false _ _ o)) closed)

-- ---- the greatest consistent cut

consistent_step : (es : List Event) (limits bases : List ℕ) (d e : Event) → AreNumbered bases es → ConflictsBefore es d e → is_below (greatest_cut limits es) e ≡ true → is_below (greatest_cut limits es) d ≡ true
consistent_step es limits bases d e n c h =
    ⊎_elim (λ (t : is_below (greatest_cut limits es) d ≡ true). t)
    (λ (f : is_below (greatest_cut limits es) d ≡ false). absurd (true≢false (sym h ∙ lowered_closed bases [] limits es d e n c.before c.meets f)))
    (cases_Bool (is_below (greatest_cut limits es) d))

pub greatest_is : (limits : List ℕ) (es : List Event) → IsCutOf es limits → IsGreatestCut limits es (greatest_cut limits es)
greatest_is limits es cut = record {
  long = lowered_long [] limits es;
  within = lowered_within [] limits es;
  consistent = record {
    closed = λ d e led h. leads_back (ConflictsBefore es) (λ (x : Event). is_below (greatest_cut limits es) x ≡ true) (λ x y c b. consistent_step es limits cut.bases x y cut.numbered c b) d e led h;
  };
  greatest = λ other w closed.
      lowered_greatest es [] limits other es (record { across = λ d e h k. absurd h; inside = λ d e p. p }) (record { each = λ d h. absurd h }) w closed;
}

pub greatest_cuts : (limits : List ℕ) (es : List Event) → IsCutOf es limits → IsCutOf es (greatest_cut limits es)
greatest_cuts limits es cut =
    let long = lowered_long [] limits es in
    record {
      bases = cut.bases;
      few = let f = cut.few in omega arith;
      long = cut.long ∙ sym long;
      numbered = cut.numbered;
      from = lowered_above [] limits cut.bases es cut.from (λ e h. numbered_above cut.bases es e cut.numbered h);
      to = λ lane. let w = lowered_within [] limits es lane in let t = cut.to lane in omega arith;
    }
