-- What a recording says of its lanes' ends says of its history.
use Rattle.std.proofs.Common.{◌≡◌, ◌≢◌, ◌⊎◌, ⊎_elim, inl, inr, ℕ, ◌<◌, arith, Bool, true, false, List, [], ◌∷◌, length, refl, ap, sym, ◌∙◌, subst}
use Rattle.std.specs.Prelude.{if◌then◌else◌, nat_eq, slice_get, None}
use Rattle.std.specs.List.{filter}
use Rattle.std.proofs.lemmas.List.{length-map}
use Rattle.rex_syntax.specs.declared.request.Request.{Request}
use Rattle.rex_syntax.specs.declared.service.Declarations.{Declarations}
use Rattle.rex_event.specs.declared.event.Event.{Event}
use Rattle.rex_record.specs.Value.{is_begin}
use Rattle.rex_words.specs.declared.stamped.Stamped.{Stamped}
use Rattle.rex_words.specs.Stamps.{event_of, events_in, lane_list}
use Rattle.rex_words.specs.Alone.{service_of, requests_of, lane_requests, begun_in, begin_next}
use Rattle.rex_words.specs.Histories.{open_in, HasEnded, IsRecording}
use Rattle.rex_words.specs.Ends.{events_of, begins_in, EndsOver}

module _ (keep : Event → Bool) where
  abbrev kept : List Stamped → List Stamped
  kept xs = filter (λ (x : Stamped). keep x.event) xs

  kept_by : (b : Bool) (x : Stamped) (es : List Event) (xs : List Stamped) → es ≡ events_in xs
      → (if b then x.event ∷ es else es) ≡ events_in (if b then x ∷ xs else xs)
  kept_by true x es xs e = ap (λ (ys : List Event). x.event ∷ ys) e
  kept_by false x es xs e = e

  -- the events that are kept are those of what is kept
  kept_is : (xs : List Stamped) → filter keep (events_in xs) ≡ events_in (kept xs)
  kept_is [] = refl
  kept_is (x ∷ xs) = kept_by (keep x.event) x (filter keep (events_in xs)) (kept xs) (kept_is xs)

long_is : (xs : List Stamped) → length (events_in xs) ≡ length xs
long_is xs = length-map xs event_of

begun_is : (xs : List Stamped) → length (begins_in (events_in xs)) ≡ begun_in xs
begun_is xs = ap (λ (es : List Event). length es) (kept_is (λ (e : Event). is_begin e.kind) xs) ∙ long_is (filter (λ (x : Stamped). is_begin x.event.kind) xs)

module _ (service : Declarations) (requests : List Request) (seed lane : ℕ) (history : List Event) (there : lane < service.lanes)
    (r : IsRecording service requests seed history) where
  abbrev list : List Stamped
  list = lane_list r.recorded.list lane

  events_are : events_of lane history ≡ events_in list
  events_are = ap (events_of lane) (sym r.recorded.events) ∙ kept_is (λ (e : Event). nat_eq e.lane lane) r.recorded.list

  count : length (events_of lane history) ≡ length list
  count = ap (λ (es : List Event). length es) events_are ∙ long_is list

  begun : length (begins_in (events_of lane history)) ≡ begun_in list
  begun = ap (λ (es : List Event). length (begins_in es)) events_are ∙ begun_is list

  ended : HasEnded r.assignment r.recorded.state lane list
  ended = r.ends lane there

  abbrev begins : ℕ → Type 0
  begins n = begin_next (service_of r.assignment) lane r.recorded.state (slice_get (lane_requests r.assignment lane) n) ≡ None

  of_assignment : EndsOver (service_of r.assignment) (requests_of r.assignment) lane history
  of_assignment = record {
    state = r.recorded.state;
    runs = r.recorded.runs;
    idle = ended.idle;
    over = ⊎_elim
        (λ (n : open_in r.assignment r.recorded.state lane list ≡ None). inl (subst begins (sym begun) n))
        (λ (q : (open_in r.assignment r.recorded.state lane list ≢ None) × (899999 < length list)). inr (let n = q.1 in let e = count in omega arith))
        ended.over;
  }

  pub end_over : EndsOver service requests lane history
  end_over = subst (λ (x : Declarations × List Request). EndsOver x.0 x.1 lane history) (λ i. (r.of.service_is i, r.of.requests_are i)) of_assignment
