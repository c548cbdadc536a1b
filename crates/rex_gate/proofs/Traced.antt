-- What is noted is what the state after the noted events says.
use Rattle.std.proofs.Common.{◌≡◌, List, [], ◌∷◌, ◌++◌, refl, ap, sym, ◌∙◌}
use Rattle.std.specs.Prelude.{Option, Some, None}
use Rattle.std.proofs.lemmas.Option.{same_Some}
use Rattle.rex_syntax.specs.declared.service.Declarations.{Declarations}
use Rattle.rex_event.specs.declared.event.Event.{Event}
use Rattle.rex_event.specs.declared.delta.Delta.{Delta}
use Rattle.rex_state.specs.declared.lane.Entry.{Entry}
use Rattle.rex_state.specs.Value.{StateValue}
use Rattle.rex_state.specs.Machine.{clients_after, run_from, run}
use Rattle.rex_state.specs.Start.{start_of, no_entries}
use Rattle.rex_state.proofs.Keep.{next_is}
use Rattle.rex_state.proofs.Run.{run-append, run-first}
use Rattle.rex_gate.specs.Noted.{noted, noted_all, joined}
use Rattle.rex_gate.specs.Answer.{answer_to}
use Rattle.rex_gate.specs.Laws.{AnswersOver}

-- a run leaves the entries that noting its events leaves
pub run_noted : (service : Declarations) (s t : StateValue) (es : List Event) → run service s es ≡ Some t → noted s.clients es ≡ t.clients
run_noted service s t [] h = ap (λ (x : StateValue). x.clients) (same_Some s t h)
run_noted service s t (e ∷ es) h =
    let first = run-first service s t e es h in
    ap (λ (cs : List Entry). noted cs es) (ap (λ (x : StateValue). x.clients) (next_is service s e first.0 first.1).is) ∙ run_noted service first.0 t es first.2

noted_append : (clients : List Entry) (es fs : List Event) → noted clients (es ++ fs) ≡ noted (noted clients es) fs
noted_append clients [] fs = refl
noted_append clients (e ∷ es) fs = noted_append (clients_after e.kind clients) es fs

-- noting deltas is noting all their events
noted_joined : (clients : List Entry) (ds : List Delta) → noted_all clients ds ≡ noted clients (joined ds)
noted_joined clients [] = refl
noted_joined clients (d ∷ ds) = noted_joined (noted clients d.events) ds ∙ sym (noted_append clients d.events (joined ds))

pub deltas_known : (service : Declarations) (known : List Delta) (t : StateValue) → run service (start_of service) (joined known) ≡ Some t → noted_all no_entries known ≡ t.clients
deltas_known service known t h = noted_joined no_entries known ∙ run_noted service (start_of service) t (joined known) h

noted_all_append : (clients : List Entry) (ds es : List Delta) → noted_all clients (ds ++ es) ≡ noted_all (noted_all clients ds) es
noted_all_append clients [] es = refl
noted_all_append clients (d ∷ ds) es = noted_all_append (noted clients d.events) ds es

pub noted_from : (service : Declarations) (first others : List Delta) (t : StateValue) → run service (start_of service) (joined first) ≡ Some t → noted_all t.clients others ≡ noted_all no_entries (first ++ others)
noted_from service first others t h = sym (noted_all_append no_entries first others ∙ ap (λ (cs : List Entry). noted_all cs others) (deltas_known service first t h))

answers_by : (service : Declarations) (known : List Delta) (live : List Event) (s : StateValue) (o : Option StateValue) → run service (start_of service) (joined known) ≡ o → run_from service o live ≡ Some s → AnswersOver service known live s
answers_by service known [] s None runs h = absurd (cc)
answers_by service known (e ∷ es) s None runs h = absurd (cc)
answers_by service known live s (Some t) runs h = record {
  state = t;
  runs = runs;
  goes_on = h;
  answers = λ r queued. ap (answer_to r queued s.clients) (deltas_known service known t runs);
}

pub answers_over : (service : Declarations) (known : List Delta) (live : List Event) (s : StateValue) → run service (start_of service) (joined known ++ live) ≡ Some s → AnswersOver service known live s
answers_over service known live s h =
    answers_by service known live s (run service (start_of service) (joined known)) refl (sym (run-append service (start_of service) (joined known) live) ∙ h)
