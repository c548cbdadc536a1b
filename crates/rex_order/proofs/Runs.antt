-- Steps that commute where they don't clash run to one state in each order that keeps those that clash.
use Rattle.std.proofs.Common.{◌≡◌, inl, inr, Bool, true, false, List, [], ◌∷◌, ◌++◌, refl, sym, subst}
use Rattle.std.proofs.lemmas.Bool.{false_from_ne_true}
use Rattle.rex_event.specs.Order.{Has, Precedes}
use Rattle.rex_state.proofs.Reorder.{Runs}
use Rattle.rex_clocks.proofs.Leads.{precedes_first, precedes_second, has_left, precedes_across}
use Rattle.rex_order.proofs.Lists.{precedes_more, none_again, AreAlike, place_of, alike_less}

module _ {St Act : Type 0} (Step : St → Act → St → Type 0) (clash : Act → Act → Bool) (commute : (s a b : St) (e y : Act) → clash e y ≡ false → Step s e a → Step a y b → (c : St) × Step s y c × Step c e b) where
  -- a step goes before those with which it doesn't clash
  goes_before : (s t : St) (f : Act) (ps qs : List Act) → ((p : Act) → Has p ps → clash p f ≡ false) → Runs Step s (ps ++ f ∷ qs) t → Runs Step s (f ∷ (ps ++ qs)) t
  goes_before s t f [] qs h r = r
  goes_before s t f (p ∷ ps) qs h r =
      let g = goes_before r.0 t f ps qs (λ x k. h x (inr k)) r.2 in
      let w = commute s r.0 g.0 p f (h p (inl refl)) r.1 g.1 in
      (w.0, w.1, (g.0, w.2, g.2))

  -- the second list keeps the order of those of the first that clash
  abbrev Keeps : List Act → List Act → Type 0
  Keeps es fs = (d e : Act) → Precedes d e es → clash d e ≡ true → Precedes d e fs

  ends : (s t : St) (es : List Act) → AreAlike es [] → Runs Step s es t → Runs Step s [] t
  ends s t [] a r = r
  ends s t (e ∷ es) a r = absurd (a.to e (inl refl))

  -- the first of the second list clashes with none that stand before it in the first list
  none_before : (ps qs fs : List Act) (f : Act) → AreAlike (ps ++ f ∷ qs) (f ∷ fs) → Keeps (ps ++ f ∷ qs) (f ∷ fs) → (p : Act) → Has p ps → clash p f ≡ false
  none_before ps qs fs f a k p h = false_from_ne_true (clash p f) (λ c. behind (k p f (precedes_across p f ps (f ∷ qs) h (inl refl)) c))
    where
      behind : Precedes p f (f ∷ fs) → ⊥
      behind (inl b) = none_again ps qs f a.none (has_left f ps qs (subst (λ (x : Act). Has x ps) (sym b.0) h))
      behind (inr b) = a.other.0 (precedes_second p f fs b)

  keeps_less : (ps qs fs : List Act) (f : Act) → AreAlike (ps ++ f ∷ qs) (f ∷ fs) → Keeps (ps ++ f ∷ qs) (f ∷ fs) → Keeps (ps ++ qs) fs
  keeps_less ps qs fs f a k d e b c = behind (k d e (precedes_more ps qs f d e b) c)
    where
      behind : Precedes d e (f ∷ fs) → Precedes d e fs
      behind (inl w) = absurd (none_again ps qs f a.none (subst (λ (x : Act). Has x (ps ++ qs)) (sym w.0) (precedes_first d e (ps ++ qs) b)))
      behind (inr w) = w

  pub runs_alike : (s t : St) (es fs : List Act) → AreAlike es fs → Keeps es fs → Runs Step s es t → Runs Step s fs t
  runs_alike s t es [] a k r = ends s t es a r
  runs_alike s t es (f ∷ fs) a k r =
      let p = place_of f es (a.back f (inl refl)) in
      let a' : AreAlike (p.before ++ f ∷ p.behind) (f ∷ fs) = subst (λ (l : List Act). AreAlike l (f ∷ fs)) p.is a in
      let k' : Keeps (p.before ++ f ∷ p.behind) (f ∷ fs) = subst (λ (l : List Act). Keeps l (f ∷ fs)) p.is k in
      let g = goes_before s t f p.before p.behind (none_before p.before p.behind fs f a' k') (subst (λ (l : List Act). Runs Step s l t) p.is r) in
      (g.0, g.1, runs_alike g.0 t (p.before ++ p.behind) fs (alike_less p.before p.behind fs f a') (keeps_less p.before p.behind fs f a' k') g.2)
