-- Writing events one after the other, as a loop does.
use Rattle.std.proofs.Common.{◌≡◌, ℕ, List, [], ◌∷◌, ◌++◌, ◌⊎◌, inl, inr, refl, subst, sym, ap, ◌∙◌, append_assoc}
use Rattle.std.specs.List.{All}
use Rattle.std.proofs.lemmas.List.{append-nil}
use Rattle.std.proofs.lemmas.List.Elements.{All-nil, All-cons}
use Rattle.rex_event.specs.declared.event.Event.{Event}
use Rattle.rex_event.specs.declared.delta.Cause.{Cause}
use Rattle.rex_delta.specs.Spelling.{event_bytes, events_bytes, HasTypedKind}
use Rattle.rex_delta.specs.Writing.{CanAllBeWritten}

-- what is written, and what the events that are left add, make the whole
pub record IsWriting (written whole : List ℕ) (all es : List Event) (lists : List (List Cause)) : Type 0 where
  pub ready : CanAllBeWritten es lists
  pub spelled : written ++ events_bytes es lists ≡ whole
  pub typed : All HasTypedKind es → All HasTypedKind all

pub IsWriting-more : (written new whole : List ℕ) (all es rest : List Event) (lists others : List (List Cause)) (e : Event) (causes : List Cause) → es ≡ e ∷ rest → lists ≡ causes ∷ others → new ≡ written ++ event_bytes e causes → HasTypedKind e → IsWriting written whole all es lists → IsWriting new whole all rest others
IsWriting-more written new whole all es rest lists others e causes p q step typed h =
    let k = subst (λ x. IsWriting written whole all (e ∷ rest) x) q (subst (λ x. IsWriting written whole all x lists) p h) in
    record {
      ready = k.ready.1;
      spelled = ap (λ (t : List ℕ). t ++ events_bytes rest others) step ∙ append_assoc written (event_bytes e causes) (events_bytes rest others) ∙ k.spelled;
      typed = λ all_rest. k.typed (All-cons HasTypedKind e rest typed all_rest);
    }

nothing_left : (es : List Event) (lists : List (List Cause)) → CanAllBeWritten es lists → (es ≡ []) ⊎ (lists ≡ []) → (es ≡ []) × (lists ≡ [])
nothing_left [] [] ready h = (refl, refl)
nothing_left [] (causes ∷ lists) ready h = absurd ready
nothing_left (e ∷ es) [] ready h = absurd ready
nothing_left (e ∷ es) (causes ∷ lists) ready (inl p) = absurd cc
nothing_left (e ∷ es) (causes ∷ lists) ready (inr p) = absurd cc

-- all events are written
pub record IsWritten (written whole : List ℕ) (all : List Event) : Type 0 where
  pub spelled : written ≡ whole
  pub typed : All HasTypedKind all

pub IsWriting-done : (written whole : List ℕ) (all es : List Event) (lists : List (List Cause)) → (es ≡ []) ⊎ (lists ≡ []) → IsWriting written whole all es lists → IsWritten written whole all
IsWriting-done written whole all es lists end h =
    let none = nothing_left es lists h.ready end in
    let k = subst (λ x. IsWriting written whole all [] x) none.1 (subst (λ x. IsWriting written whole all x lists) none.0 h) in
    record { spelled = sym (append-nil written) ∙ k.spelled; typed = k.typed (All-nil HasTypedKind) }
