-- Two lanes' next events whose causes are done don't conflict.
use Rattle.std.proofs.Common.{◌≡◌, ◌≢◌, ◌⊎◌, inl, inr, ⊎_elim, eq-eqb, ℕ, Bool, true, false, List, [], ◌∷◌, refl, sym, ap, ◌∙◌}
use Rattle.std.specs.Prelude.{◌&&◌, ◌||◌, nat_eq, Option, Some, None}
use Rattle.std.proofs.lemmas.Bool.{cases_eq, ne_eqb}
use Rattle.rex_event.specs.declared.event.Event.{Event}
use Rattle.rex_event.specs.Conflict.{conflict, same_name, named_lock, named_client, named_semaphore, is_sharing, wakes}
use Rattle.rex_event.specs.Order.{Has, Precedes, IsOrdered}

-- ---- conflicts go both ways

name_back : (a b : Option ℕ) → same_name a b ≡ same_name b a
name_back (Some a) (Some b) = by (cases_eq a b)
  where
    by : (a ≡ b) ⊎ (a ≡ b → ⊥) → nat_eq a b ≡ nat_eq b a
    by (inl e) = eq-eqb a b e ∙ sym (eq-eqb b a (sym e))
    by (inr n) = ne_eqb a b n ∙ sym (ne_eqb b a (λ e. n (sym e)))
name_back (Some a) None = refl
name_back None (Some b) = refl
name_back None None = refl

and_back : (a b : Bool) → (a && b) ≡ (b && a)
and_back true true = refl
and_back true false = refl
and_back false true = refl
and_back false false = refl

or_back : (a b : Bool) → (a || b) ≡ (b || a)
or_back true true = refl
or_back true false = refl
or_back false true = refl
or_back false false = refl

conflict_back : (d e : Event) → conflict d e ≡ conflict e d
conflict_back d e =
    rw (name_back (Some d.lane) (Some e.lane), name_back (named_lock d.kind) (named_lock e.kind), and_back (is_sharing d.kind) (is_sharing e.kind), name_back (named_client d.kind) (named_client e.kind), name_back (named_semaphore d.kind) (named_semaphore e.kind), or_back (wakes d e) (wakes e d)) refl

-- ---- one of two events stands first

one_first : (es : List Event) (d e : Event) → Has d es → Has e es → (d ≡ e → ⊥) → Precedes d e es ⊎ Precedes e d es
one_first [] d e h k n = absurd h
one_first (x ∷ es) d e (inl a) (inl b) n = absurd (n (sym a ∙ b))
one_first (x ∷ es) d e (inl a) (inr k) n = inl (inl (a, k))
one_first (x ∷ es) d e (inr h) (inl b) n = inr (inl (b, h))
one_first (x ∷ es) d e (inr h) (inr k) n = ⊎_elim (λ (q : Precedes d e es). inl (inr q)) (λ (q : Precedes e d es). inr (inr q)) (one_first es d e h k n)

-- so two events of which neither has to come before the other don't conflict
apart_by : (es : List Event) (d e : Event) → (IsOrdered es d e → ⊥) → (IsOrdered es e d → ⊥) → (b : Bool) → conflict d e ≡ b → Precedes d e es ⊎ Precedes e d es → b ≡ false
apart_by es d e r q false c o = refl
apart_by es d e r q true c (inl b) = absurd (r ([], record { before = b; meets = c }))
apart_by es d e r q true c (inr b) = absurd (q ([], record { before = b; meets = sym (conflict_back d e) ∙ c }))

pub unordered_apart : (es : List Event) (d e : Event) → Has d es → Has e es → d.lane ≢ e.lane → (IsOrdered es d e → ⊥) → (IsOrdered es e d → ⊥) → conflict d e ≡ false
unordered_apart es d e h k n r q = apart_by es d e r q (conflict d e) refl (one_first es d e h k (λ i. n (ap (λ (z : Event). z.lane) i)))
