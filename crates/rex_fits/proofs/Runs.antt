-- Events that are done one after another, as far as each is next.
use Rattle.std.proofs.Common.{◌≡◌, ℕ, suc, ◌+◌, ◌<◌, false, List, [], ◌∷◌, ◌++◌, length, get_or, take, drop, drop-cons, refl, sym, ap, ◌∙◌}
use Rattle.std.specs.Prelude.{Option, Some, None, is_some}
use Rattle.std.proofs.lemmas.List.{take_more, take-append-drop}
use Rattle.rex_syntax.specs.declared.service.Declarations.{Declarations}
use Rattle.rex_event.specs.declared.event.Event.{Event}
use Rattle.rex_state.specs.Value.{StateValue}
use Rattle.rex_state.specs.Machine.{next, run, run_from}
use Rattle.rex_state.specs.Sound.{IsSound}
use Rattle.rex_state.proofs.Run.{run-push, run-then}
use Rattle.rex_fits.specs.Applied.{RunsInPart}

-- so many events, from the first one on, lead from a state to this sound one
pub record LeadsSoFar (service : Declarations) (first : StateValue) (es : List Event) (i : ℕ) (s : StateValue) : Type 0 where
  pub sound : IsSound service s
  pub runs : run service first (take i es) ≡ Some s

none_runs : (service : Declarations) (o : Option StateValue) (es : List Event) → is_some o ≡ false → is_some (run_from service o es) ≡ false
none_runs service None es h = refl
none_runs service (Some s) es h = absurd (cc)

module _ (service : Declarations) (first : StateValue) (es : List Event) (s : StateValue) (i : ℕ) (h : LeadsSoFar service first es i s) where
  -- no more than some of them did
  pub in_part : RunsInPart service first es s
  in_part = record { count = i; runs = h.runs }

  module _ (e : Event) (there : i < length es) (is : e ≡ get_or es i e) where
    -- with the event that is next
    pub one_further : (t : StateValue) → next service s e ≡ Some t → IsSound service t → LeadsSoFar service first es (i + 1) t
    one_further t n sound = record {
      sound = sound;
      runs =
          ap (run service first) (take_more es i e there ∙ ap (λ (x : Event). take i es ++ x ∷ []) (sym is))
          ∙ run-push service first s t (take i es) e h.runs n;
    }

    -- where it isn't next, not all run
    pub stops : is_some (next service s e) ≡ false → is_some (run service first es) ≡ false
    stops n =
        ap (λ (fs : List Event). is_some (run service first fs)) (sym (take-append-drop i es))
        ∙ ap (λ (o : Option StateValue). is_some o) (run-then service first s (take i es) (drop i es) h.runs)
        ∙ ap (λ (fs : List Event). is_some (run service s fs)) (drop-cons es i e there ∙ ap (λ (x : Event). x ∷ drop (suc i) es) (sym is))
        ∙ none_runs service (next service s e) (drop (suc i) es) n
