-- What lanes may record by lock words, and that a history so recorded may be led to agreement.
use Rattle.std.proofs.Common.{◌≡◌, ℕ, List, [], ◌∷◌, ◌++◌, inl, inr, refl, sym, ap, subst, Some}
use Rattle.std.specs.Prelude.{slice_get, zero, suc}
use Rattle.std.specs.List.{All}
use Rattle.std.proofs.lemmas.Bool.{eq-eqb}
use Rattle.std.proofs.lemmas.List.Elements.{All-nil, All-cons, All-head, All-tail, All-filter}
use Rattle.rex_syntax.specs.declared.request.Request.{Request}
use Rattle.rex_syntax.specs.declared.service.Declarations.{Declarations}
use Rattle.rex_syntax.specs.declared.service.Lock.{Lock}
use Rattle.rex_syntax.specs.declared.service.LockKind.TheVariants.{Plain}
use Rattle.rex_event.specs.declared.event.Event.{Event}
use Rattle.rex_event.specs.declared.event.Kind.{Kind}
use Rattle.rex_event.specs.declared.event.Kind.TheVariants.{Begin}
use Rattle.rex_event.specs.Order.{Has}
use Rattle.rex_state.specs.Start.{start_of}
use Rattle.rex_state.specs.Machine.{run}
use Rattle.rex_scenario.specs.Beyond.{IsPlain}
use Rattle.rex_schedule.specs.Fits.{RequestFits}
use Rattle.rex_cluster.specs.Takes.{KindBeginsInRange, BeginsInRange}
use Rattle.rex_words.specs.declared.assignment.Assignment.{Assignment}
use Rattle.rex_words.specs.declared.seat.WordSeat.{WordSeat}
use Rattle.rex_words.specs.declared.stamped.Stamped.{Stamped}
use Rattle.rex_words.specs.Alone.{requests_of, lane_requests, begun_in, IsTold, AreTold}
use Rattle.rex_words.specs.Alone as alone
use Rattle.rex_words.specs.Dealing.{CanRecord}
use Rattle.rex_words.specs.Histories.{IsHistoryOf}
use Rattle.rex_words.specs.Stamps.{events_in, is_of, lane_list}
use Rattle.rex_words.proofs.Order.{has_kept}

-- ---- what they may record

found : {A : Type 0} (P : A → Type 0) (xs : List A) (x : A) → All P xs → Has x xs → P x
found P [] x all h = absurd h
found P (y ∷ ys) x all (inl e) = subst P e (All-head P y ys all)
found P (y ∷ ys) x all (inr h) = found P ys x (All-tail P y ys all) h

got : {A : Type 0} (P : A → Type 0) (xs : List A) (i : ℕ) (x : A) → All P xs → slice_get xs i ≡ Some x → P x
got P [] i x all is = absurd cc
got P (y ∷ ys) zero x all is = let same : y ≡ x = cc in subst P same (All-head P y ys all)
got P (y ∷ ys) (suc i) x all is = got P ys i x (All-tail P y ys all) is

pub can_record : (service : Declarations) (requests : List Request) → IsPlain service → All (RequestFits service) requests → CanRecord service requests
can_record service requests plain fit = record {
  plain = λ i lock is. got (λ (l : Lock). l.kind ≡ Plain) service.locks i lock plain.locks is;
  no_conditions = plain.conditions;
  no_semaphores = plain.semaphores;
  clients = λ q has. let r = found (RequestFits service) requests q fit has in (r.client, r.clients);
}

-- ---- the events of a recorded history, each in its lane's list

-- the element with what stands before and behind it
record IsSplit (xs : List Stamped) (x : Stamped) : Type 0 where
  before : List Stamped
  rest : List Stamped
  is : xs ≡ before ++ x ∷ rest

split : (xs : List Stamped) (x : Stamped) → Has x xs → IsSplit xs x
split [] x h = absurd h
split (y ∷ ys) x (inl e) = record { before = []; rest = ys; is = ap (λ (z : Stamped). z ∷ ys) e }
split (y ∷ ys) x (inr h) = let s = split ys x h in record { before = y ∷ s.before; rest = s.rest; is = ap (λ (zs : List Stamped). y ∷ zs) s.is }

of_each : (P : Event → Type 0) (xs : List Stamped) → ((x : Stamped) → Has x xs → P x.event) → All P (events_in xs)
of_each P [] f = All-nil P
of_each P (x ∷ xs) f = All-cons P x.event (events_in xs) (f x (inl refl)) (of_each P xs (λ y h. f y (inr h)))

module _ (service : Declarations) (requests : List Request) (fit : All (RequestFits service) requests) (r : Assignment) (same : requests_of r ≡ requests) where
  fits : All (RequestFits service) (requests_of r)
  fits = subst (All (RequestFits service)) (sym same) fit

  begins : (lane : ℕ) (before : List Stamped) (k : Kind) → IsTold r lane before k → KindBeginsInRange k
  begins lane before (Begin client sequence handler arguments) told =
      let q = got (RequestFits service) (lane_requests r lane) (begun_in before) (record { client = client; sequence = sequence; handler = handler; arguments = arguments }) (All-filter _ (RequestFits service) (requests_of r) fits)
      told in
      ((q.client, q.clients), (q.sequence, q.sequences))
  begins lane before _ told = tt

  -- what a lane begins is one of its requests, so it is in its ranges
  event_begins : (seats : List WordSeat) (history : List Event) (h : IsHistoryOf r seats history) (x : Stamped) → Has x h.list → BeginsInRange x.event
  event_begins seats history h x has =
      let lane = x.event.lane in
      let s = split (lane_list h.list lane) x (has_kept (is_of lane) h.list x has (eq-eqb lane lane refl)) in
      record { kind = begins lane s.before x.event.kind ((h.told lane (h.lanes x has)).each s.before s.rest x s.is) }

  pub begun : (seats : List WordSeat) (history : List Event) → IsHistoryOf r seats history → All BeginsInRange history
  begun seats history h = subst (All BeginsInRange) h.events (of_each BeginsInRange h.list (event_begins seats history h))

pub ran : (service : Declarations) (r : Assignment) (seats : List WordSeat) (history : List Event) → alone.service_of r ≡ service → (h : IsHistoryOf r seats history) → run service (start_of service) history ≡ Some h.state
ran service r seats history same h = subst (λ (d : Declarations). run d (start_of d) history ≡ Some h.state) same h.runs
