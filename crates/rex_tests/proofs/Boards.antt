-- Events that run, with their reduced causes, are what a board replays.
use Rattle.std.proofs.Common.{◌≡◌, ⊎_elim, ℕ, suc, ◌+◌, ◌<◌, ◌≤◌, ◌^◌, List, [], ◌∷◌, length, length-set, get_or, set, drop, drop-cons, refl, sym, ap, subst, ◌∙◌, arith}
use Rattle.std.specs.Prelude.{Option, Some, None, IsSome}
use Rattle.std.specs.List.{All}
use Rattle.std.proofs.lemmas.List.{length-map}
use Rattle.std.proofs.lemmas.List.Elements.{All-weaker}
use Rattle.rex_syntax.specs.declared.service.Declarations.{Declarations}
use Rattle.rex_syntax.specs.Service.{IsService}
use Rattle.rex_event.specs.Limits.{most_lanes}
use Rattle.rex_event.specs.declared.event.Event.{Event}
use Rattle.rex_event.specs.declared.delta.Cause.{Cause}
use Rattle.rex_event.specs.Causes.{HasCauses}
use Rattle.rex_state.specs.Value.{StateValue}
use Rattle.rex_state.specs.Machine.{next, run, run_from}
use Rattle.rex_state.specs.Sound.{IsSound}
use Rattle.rex_state.specs.Counts.{AreCounted, counts_of, done_of}
use Rattle.rex_state.proofs.Counts.{runs_count_on}
use Rattle.rex_reduce.specs.Reduced.{HasNext, IsTrace, AreLeast}
use Rattle.rex_reduce.specs.Reduction.{reduced}
use Rattle.rex_reduce.proofs.Direct.{ordered_first}
use Rattle.rex_reduce.proofs.Reduced.{reduced_direct}
use Rattle.rex_board.specs.declared.board.Board.{Board}
use Rattle.rex_board.specs.declared.seat.LaneSeat.{LaneSeat}
use Rattle.rex_board.specs.Recorded.{IsRecording, service_of}
use Rattle.rex_board.specs.Turns.{IsSeatOf, HasNoneLeft}
use Rattle.rex_board.specs.Boards.{recording_of, table_of}
use Rattle.rex_board.specs.Dealing.{AreDealt}
use Rattle.rex_board.specs.Finishing.{IsFinished, AreAllFinished}
use Rattle.rex_board.proofs.Reading.{has_at, at_has}
use Rattle.std.proofs.lemmas.Bool.{cases_eq}
use Rattle.std.proofs.lemmas.List.{get_or-set_same, get_or-set_other}

some_of : {X : Type 0} (o : Option X) → IsSome o → (x : X) × (o ≡ Some x)
some_of None h = absurd (cc)
some_of (Some x) h = (x, refl)

pub have_next : (es : List Event) → AreCounted es → All HasNext es
have_next es counted = All-weaker (λ (e : Event). e.index + 1 < 2 ^ 32) HasNext (λ e h. record { index = omega (arith, h) }) es counted.each

module _ (service : Declarations) (s : StateValue) (es : List Event) (good : IsService service) (sound : IsSound service s) (runs : IsSome (run service s es)) where
  end : (t : StateValue) × (run service s es ≡ Some t)
  end = some_of (run service s es) runs

  pub is_trace : IsTrace es
  is_trace = record {
    bases = counts_of s;
    few = let a = length-map s.lanes done_of in let b = sound.by.complete.lanes in let c = good.lanes in let r : length (counts_of s) ≤ most_lanes = omega (arith, a, b, c) in r;
    numbered = (runs_count_on service s end.0 es end.1).numbered;
  }

  pub is_recording : (causes : List (List Cause)) → AreCounted es → causes ≡ reduced es → AreLeast es causes → IsRecording service s es causes
  is_recording causes counted are least = record {
    good = good;
    sound = sound;
    last = end.0;
    runs = end.1;
    counted = counted;
    right = least.right;
    events = record {
      each = λ e list c h k.
          let d = (reduced_direct es is_trace e list (subst (λ (l : List (List Cause)). HasCauses e list es l) are h)).only c k in
          (d.event, ordered_first es d.event e d.direct.before, d.is);
    };
  }

-- ---- events that are done one after another

-- from a sound state the rest of the events leads where all lead from the first state
pub record Goes (service : Declarations) (first : StateValue) (es : List Event) (s : StateValue) (rest : List Event) : Type 0 where
  pub sound : IsSound service s
  pub runs : run service s rest ≡ run service first es

one_more : (n : ℕ) → suc n ≡ n + 1
one_more n = omega arith

pub goes_on : (service : Declarations) (first : StateValue) (es : List Event) (s : StateValue) (i : ℕ) (e : Event) → i < length es → e ≡ get_or es i e → Goes service first es s (drop i es)
    → (t : StateValue) → next service s e ≡ Some t → IsSound service t → Goes service first es t (drop (i + 1) es)
goes_on service first es s i e there is h t n sound =
    let first_of : drop i es ≡ e ∷ drop (i + 1) es = drop-cons es i e there ∙ ap (λ (x : Event). x ∷ drop (suc i) es) (sym is) ∙ ap (λ (n : ℕ). e ∷ drop n es) (one_more i) in
    record { sound = sound; runs = ap (λ (o : Option StateValue). run_from service o (drop (i + 1) es)) (sym n) ∙ (ap (run service s) (sym first_of) ∙ h.runs) }

-- ---- seats

-- one seat of several, each of which is its lane's, is a later one of its lane
pub dealt_with : (b : Board) (n : ℕ) (ms : List LaneSeat) (k : ℕ) (m : LaneSeat) → AreDealt (recording_of b) (table_of b) n ms → k < n → IsSeatOf (recording_of b) (table_of b) m → m.lane ≡ k → AreDealt (recording_of b) (table_of b) n (set ms k m)
dealt_with b n ms k m a lt q is = record {
  count = length-set ms k m ∙ a.count;
  each = λ l d less. ⊎_elim
      (λ (e : l ≡ k). subst (λ (x : LaneSeat). IsSeatOf (recording_of b) (table_of b) x × (x.lane ≡ l)) (sym (ap (λ (i : ℕ). get_or (set ms k m) i d) e ∙ get_or-set_same ms k m d (omega (arith, a.count, lt)))) (q, is ∙ sym e))
      (λ (ne : l ≡ k → ⊥). subst (λ (x : LaneSeat). IsSeatOf (recording_of b) (table_of b) x × (x.lane ≡ l)) (sym (get_or-set_other ms k l m d ne)) (a.each l d less))
      (cases_eq l k);
}

-- where none has an event left all are finished
pub all_finished : (b : Board) (ms : List LaneSeat) → AreDealt (recording_of b) (table_of b) (service_of (recording_of b)).lanes ms → ((k : ℕ) (d : LaneSeat) → k < length ms → HasNoneLeft (recording_of b) (get_or ms k d)) → AreAllFinished (recording_of b) (table_of b) ms
all_finished b ms a none = record {
  each = λ m there. let q = at_has ms m there in
      subst (IsFinished (recording_of b) (table_of b)) q.2 (record { seat = (a.each q.0 m (omega (arith, a.count, q.1))).0; none = none q.0 m q.1 });
  every = λ lane lt. let d = some_seat ms (omega (arith, a.count, lt)) in (get_or ms lane d, has_at ms lane d (omega (arith, a.count, lt)), (a.each lane d lt).1);
}
  where
    some_seat : (xs : List LaneSeat) → 0 < length xs → LaneSeat
    some_seat [] h = absurd (omega arith)
    some_seat (x ∷ xs) h = x
