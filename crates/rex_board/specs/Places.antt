-- Where a lane's next event stands in a list.
use Rattle.std.specs.Prelude.{◌≡◌, ◌≢◌, ℕ, ◌<◌, ◌≤◌, List, length, map, slice_index_or}
use Rattle.rex_event.specs.declared.event.Event.{Event}

-- the lane of each event
abbrev pub lanes_in : List Event → List ℕ
lanes_in es = map (λ (e : Event). e.lane) es

-- no event from this place on is of the lane
pub record HasNoneFrom (es : List Event) (from lane : ℕ) : Type 0 where
  pub each : (k : ℕ) (d : Event) → from ≤ k → k < length es → (slice_index_or es k d).lane ≢ lane

-- the place is the list's end, or there stands an event of the lane
pub record IsAtLane (es : List Event) (lane place : ℕ) : Type 0 where
  pub lane_is : (d : Event) → place < length es → (slice_index_or es place d).lane ≡ lane

-- the first place from another one on where an event of the lane stands, or the list's end if there is none
pub record IsNextPlace (es : List Event) (from lane place : ℕ) : Type 0 where
  pub behind : from ≤ place
  pub inside : place ≤ length es
  pub none : (k : ℕ) (d : Event) → from ≤ k → k < place → (slice_index_or es k d).lane ≢ lane
  pub at : IsAtLane es lane place
