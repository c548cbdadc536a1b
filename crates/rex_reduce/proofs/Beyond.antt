-- Lanes of which nothing is covered have no causes, nor has an event that is alone.
use Rattle.std.proofs.Common.{◌≡◌, ℕ, zero, suc, ◌≤◌, ◌<◌, Bool, false, List, [], ◌∷◌, ◌++◌, length, refl, sym, ap, ◌∙◌, subst, arith, ⊎_elim, append-nil}
use Rattle.std.specs.Prelude.{◌&&◌, not, nat_eq, nat_lt, if◌then◌else◌}
use Rattle.std.proofs.lemmas.Bool.{le-ltb, lt-ltb, eq-eqb, cases_lt, cases_eq}
use Rattle.rex_event.specs.declared.delta.Cause.{Cause}
use Rattle.rex_event.specs.declared.event.Event.{Event}
use Rattle.rex_event.specs.declared.event.TheConstants.{LANES}
use Rattle.rex_event.specs.Cuts.{count_at}
use Rattle.rex_clocks.specs.Counts.{none}
use Rattle.rex_clocks.specs.First.{IsAhead}
use Rattle.rex_clocks.proofs.Counts.{count_none}
use Rattle.rex_reduce.specs.Reduction.{first_indices, uncovered, last_covered, reduced}

-- a lane of which nothing is covered adds none
adds_none : (causes : List Cause) (t : Bool) (x : Cause) (u : Bool) → t ≡ false → causes ++ (if t && u then x ∷ [] else []) ≡ causes
adds_none causes t x u e = subst (λ (b : Bool). causes ++ (if b && u then x ∷ [] else []) ≡ causes) (sym e) (append-nil causes)

pub none_beyond : (bases clock beneath : List ℕ) (own lanes more : ℕ) → lanes ≤ more → ((lane : ℕ) → lanes ≤ lane → count_at clock lane ≡ 0) → uncovered bases clock beneath own lanes ≡ uncovered bases clock beneath own more
none_beyond bases clock beneath own lanes zero few none = let e : lanes ≡ 0 = omega (arith, few) in ap (uncovered bases clock beneath own) e
none_beyond bases clock beneath own lanes (suc more) few none = ⊎_elim
    (λ (l : lanes < suc more).
    let inside : lanes ≤ more = omega (arith, l) in
    none_beyond bases clock beneath own lanes more inside none
    ∙ sym (adds_none (uncovered bases clock beneath own more) (nat_lt (count_at beneath more) (count_at clock more)) (last_covered bases clock more) (not (nat_eq more own)) (le-ltb _ _ (omega (arith, none more inside)))))
    (λ (l : suc more ≤ lanes). let e : lanes ≡ suc more = omega (arith, few, l) in ap (uncovered bases clock beneath own) e)
    (cases_lt lanes (suc more))

-- nothing is covered of another lane than the own one but what comes before something else
pub none_ahead : (bases clock beneath : List ℕ) (own lanes : ℕ) → (IsAhead clock beneath own → ⊥) → uncovered bases clock beneath own lanes ≡ []
none_ahead bases clock beneath own zero none = refl
none_ahead bases clock beneath own (suc lane) none =
    ap (λ (causes : List Cause). causes ++ (if nat_lt (count_at beneath lane) (count_at clock lane) && not (nat_eq lane own) then last_covered bases clock lane ∷ [] else [])) (none_ahead bases clock beneath own lane none)
    ∙ ⊎_elim
    (λ (l : count_at beneath lane < count_at clock lane). ⊎_elim
    (λ (q : lane ≡ own). rw (eq-eqb lane own q, lt-ltb (count_at beneath lane) (count_at clock lane) l) refl)
    (λ (q : lane ≡ own → ⊥). absurd (none (record { lane = lane; other = q; more = l })))
    (cases_eq lane own))
    (λ (l : count_at clock lane ≤ count_at beneath lane). rw (le-ltb (count_at beneath lane) (count_at clock lane) l) refl)
    (cases_lt (count_at beneath lane) (count_at clock lane))

-- an event that is alone has no causes
pub none_alone : (es : List Event) → length es ≡ 1 → [] ∷ [] ≡ reduced es
none_alone [] e = absurd (omega arith)
none_alone (x ∷ []) e =
    ap (λ (causes : List Cause). causes ∷ []) (none_beyond (first_indices (x ∷ [])) none none x.lane 0 LANES (omega arith) (λ lane l. count_none lane))
none_alone (x ∷ y ∷ es) e = absurd (omega arith)
