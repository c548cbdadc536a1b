-- A history that lanes made may be led to agreement.
use Rattle.std.proofs.Common.{◌≡◌, ℕ, ◌≤◌, List, [], ◌∷◌, ◌++◌, length, inl, inr, refl, sym, subst, ◌∙◌, arith, Some, le_trans}
use Rattle.std.specs.List.{All}
use Rattle.std.proofs.lemmas.List.{append_assoc}
use Rattle.std.proofs.lemmas.List.Elements.{All-nil, All-cons, All-head, All-tail}
use Rattle.rand_pcg.specs.Lcg.{Lcg}
use Rattle.rex_syntax.specs.declared.request.Request.{Request}
use Rattle.rex_syntax.specs.declared.service.Declarations.{Declarations}
use Rattle.rex_syntax.specs.Service.{IsService}
use Rattle.rex_syntax.specs.Check.{IsChecked}
use Rattle.rex_event.specs.declared.event.Event.{Event}
use Rattle.rex_event.specs.declared.event.Kind.{Kind}
use Rattle.rex_event.specs.declared.event.Kind.TheVariants.{Begin}
use Rattle.rex_event.specs.Order.{Has}
use Rattle.rex_state.specs.Value.{StateValue}
use Rattle.rex_state.specs.Start.{start_of}
use Rattle.rex_state.specs.Machine.{run}
use Rattle.rex_schedule.specs.Fits.{RequestFits}
use Rattle.rex_cluster.specs.Takes.{KindBeginsInRange, BeginsInRange}
use Rattle.rex_live.specs.Floor.{FloorValue, IsHistory, dice_of}
use Rattle.rex_live.specs.Laws.{HistoriesRun, EventsAreTold, IsTold}
use Rattle.rexlive_cli.specs.Recording.{IsHistoryBy}
use Rattle.rexlive_cli.specs.declared.recording.Recording.{Recording}
use Rattle.rexlive_cli.specs.declared.recording.Recording.TheVariants.{Floor, Words}
use Rattle.rexlive_cli.proofs.Worded as words

-- ---- the events of a list, one by one

each : (P : Event → Type 0) (all before es : List Event) → all ≡ before ++ es → ((front rest : List Event) (e : Event) → all ≡ front ++ e ∷ rest → P e) → All P es
each P all before [] is f = All-nil P
each P all before (e ∷ es) is f = All-cons P e es (f before es e is) (each P all (before ++ e ∷ []) es (is ∙ sym (append_assoc before (e ∷ []) es)) f)

found : (P : Request → Type 0) (r : Request) (rs : List Request) → All P rs → Has r rs → P r
found P r [] all h = absurd h
found P r (q ∷ rs) all (inl e) = subst P e (All-head P q rs all)
found P r (q ∷ rs) all (inr h) = found P r rs (All-tail P q rs all) h

-- ---- requests

module _ (service : Declarations) (requests : List Request) (fit : All (RequestFits service) requests) where
  begins : (f : FloorValue) (k : Kind) → IsTold requests f k → KindBeginsInRange k
  begins f (Begin client sequence handler arguments) told =
      let r = found (RequestFits service) (record { client = client; sequence = sequence; handler = handler; arguments = arguments }) requests fit told in
      ((r.client, r.clients), (r.sequence, r.sequences))
  begins f _ told = tt

  -- what is begun is one of the requests, so it is in its ranges
  begun : (dice : Lcg) (history : List Event) → EventsAreTold → IsHistory service requests dice history → All BeginsInRange history
  begun dice history told h =
      each BeginsInRange history [] history refl
      (λ front rest e is. let t = told service requests dice h.floor front rest e h.made (h.events ∙ is) in record { kind = begins t.floor e.kind t.told })

-- ---- the run

ran : (service : Declarations) (requests : List Request) (dice : Lcg) (history : List Event) → HistoriesRun → IsService service → IsChecked service → (h : IsHistory service requests dice history)
    → run service (start_of service) history ≡ Some h.floor.state
ran service requests dice history runs good checked h = subst (λ es. run service (start_of service) es ≡ Some h.floor.state) h.events (runs service requests dice h.floor good checked h.made).runs

short : (service : Declarations) (requests : List Request) (dice : Lcg) (history : List Event) → IsHistory service requests dice history → length history ≤ 268431360
short service requests dice history h = subst (λ es. length es ≤ 268431360) h.events h.made.few

-- ---- however lanes recorded it

-- a history runs to a state, isn't longer than may be, and begins what is in range
pub record MayBeLed (service : Declarations) (history : List Event) : Type 0 where
  pub state : StateValue
  pub runs : run service (start_of service) history ≡ Some state
  pub few : length history ≤ 268431360
  pub begins : All BeginsInRange history

pub may_be_led : (recording : Recording) (service : Declarations) (requests : List Request) (seed : ℕ) (history : List Event) → All (RequestFits service) requests → HistoriesRun → EventsAreTold → IsService service → IsChecked service
    → IsHistoryBy recording service requests seed history → MayBeLed service history
may_be_led Floor service requests seed history fit runs told good checked h = record {
  state = h.floor.state;
  runs = ran service requests (dice_of seed) history runs good checked h;
  few = short service requests (dice_of seed) history h;
  begins = begun service requests fit (dice_of seed) history told h;
}
may_be_led Words service requests seed history fit runs told good checked h = record {
  state = h.recorded.state;
  runs = words.ran service h.assignment h.seats history h.of.service_is h.recorded;
  few = le_trans h.recorded.short (omega arith);
  begins = words.begun service requests fit h.assignment h.of.requests_are h.seats history h.recorded;
}
