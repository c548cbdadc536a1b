-- The reduced causes of events that run make a recording of them.
use Rattle.std.proofs.Common.{◌≡◌, ◌+◌, ◌<◌, ◌≤◌, ◌^◌, List, length, refl, sym, subst, arith}
use Rattle.std.specs.Prelude.{Option, Some, None, IsSome}
use Rattle.std.specs.List.{All}
use Rattle.std.proofs.lemmas.List.{length-map}
use Rattle.std.proofs.lemmas.List.Elements.{All-weaker}
use Rattle.rex_syntax.specs.declared.service.Declarations.{Declarations}
use Rattle.rex_syntax.specs.Service.{IsService}
use Rattle.rex_event.specs.Limits.{most_lanes}
use Rattle.rex_event.specs.declared.event.Event.{Event}
use Rattle.rex_event.specs.declared.delta.Cause.{Cause}
use Rattle.rex_event.specs.Causes.{HasCauses}
use Rattle.rex_state.specs.Value.{StateValue}
use Rattle.rex_state.specs.Machine.{run}
use Rattle.rex_state.specs.Sound.{IsSound}
use Rattle.rex_state.specs.Counts.{AreCounted, counts_of, done_of}
use Rattle.rex_state.proofs.Counts.{runs_count_on}
use Rattle.rex_reduce.specs.Reduced.{HasNext, IsTrace, AreLeast}
use Rattle.rex_reduce.specs.Reduction.{reduced}
use Rattle.rex_reduce.proofs.Direct.{ordered_first}
use Rattle.rex_reduce.proofs.Reduced.{reduced_direct}
use Rattle.rex_board.specs.Recorded.{IsRecording}

some_of : {X : Type 0} (o : Option X) → IsSome o → (x : X) × (o ≡ Some x)
some_of None h = absurd (cc)
some_of (Some x) h = (x, refl)

module _ (service : Declarations) (s : StateValue) (es : List Event) (good : IsService service) (sound : IsSound service s) (runs : IsSome (run service s es)) (counted : AreCounted es) where
  end : (t : StateValue) × (run service s es ≡ Some t)
  end = some_of (run service s es) runs

  pub is_trace : IsTrace es
  is_trace = record {
    bases = counts_of s;
    few = let a = length-map s.lanes done_of in let b = sound.by.complete.lanes in let c = good.lanes in let r : length (counts_of s) ≤ most_lanes = omega (arith, a, b, c) in r;
    numbered = (runs_count_on service s end.0 es end.1).numbered;
  }

  pub has_room : All HasNext es
  has_room = All-weaker (λ (e : Event). e.index + 1 < 2 ^ 32) HasNext (λ e h. record { index = omega (arith, h) }) es counted.each

  pub is_recording : (causes : List (List Cause)) → causes ≡ reduced es → AreLeast es causes → IsRecording service s es causes
  is_recording causes are least = record {
    good = good;
    sound = sound;
    last = end.0;
    runs = end.1;
    counted = counted;
    right = least.right;
    events = record {
      each = λ e list c h k.
          let d = (reduced_direct es is_trace e list (subst (λ (l : List (List Cause)). HasCauses e list es l) are h)).only c k in
          (d.event, ordered_first es d.event e d.direct.before, d.is);
    };
  }

-- so do equal lists
pub same_recording : (service : Declarations) (s : StateValue) (es es' : List Event) (causes causes' : List (List Cause)) → es' ≡ es → causes' ≡ causes → IsRecording service s es causes → IsRecording service s es' causes'
same_recording service s es es' causes causes' a b r = subst (λ (x : List Event × List (List Cause)). IsRecording service s x.0 x.1) (λ i. (sym a i, sym b i)) r
