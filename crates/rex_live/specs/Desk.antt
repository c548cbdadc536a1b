-- What is kept of the value under a floor's lock.
use Rattle.std.specs.Prelude.{◌≡◌, ℕ, ◌<◌, ◌⊎◌, Bool, true, false, List, length, IsSome, None, slice_index_or}
use Rattle.rand_pcg.specs.Lcg.{Lcg}
use Rattle.rex_syntax.specs.declared.request.Request.{Request}
use Rattle.rex_syntax.specs.declared.service.Declarations.{Declarations}
use Rattle.rex_event.specs.Limits.{most_lanes}
use Rattle.rex_state.specs.Value.{StateValue}
use Rattle.rex_live.specs.Floor.{FloorValue, next_event, turn_at, IsMade}
use Rattle.rex_live.specs.Lent.{is_out, IsLending}
use Rattle.rex_live.specs.declared.places.Places.{Places}
use Rattle.rex_live.specs.Places.{HasPlaces}

-- what the floor came to, whose lines up to the next event are out, whose threads have begun, and whether a lane found no memory
pub record DeskValue : Type 0 where
  pub floor : FloorValue
  pub out : List Bool
  pub begun : List Bool
  pub given_up : Bool

-- lanes made the history, of requests that were handed in, as many events were answered as it has, of its state is kept what isn't out, and the clients' next requests are noted
pub record IsDesk (service : Declarations) (handed requests : List Request) (dice : Lcg) (total : ℕ) (places : Places) (kept : StateValue) (f : FloorValue) (out : List Bool) : Type 0 where
  pub made : IsMade service handed dice f
  pub same : requests ≡ handed
  pub counted : total ≡ length f.history
  pub lanes : length out ≡ most_lanes
  pub lending : IsLending service out kept f.state
  pub noted : HasPlaces service requests kept.clients places

-- the lane's thread has begun
abbrev pub has_begun : List Bool → ℕ → Bool
has_begun begun lane = slice_index_or begun lane false

-- the lane can make an event, or its lines are out, so that nobody knows yet
abbrev pub GoesOn : Declarations → List Request → FloorValue → List Bool → ℕ → Type 0
GoesOn service requests f out lane = (is_out out lane ≡ true) ⊎ IsSome (next_event service requests f lane)

-- a lane may go on
pub record MayGoOn (service : Declarations) (requests : List Request) (f : FloorValue) (out : List Bool) : Type 0 where
  pub lane : ℕ
  pub there : lane < service.lanes
  pub may : GoesOn service requests f out lane

-- the lane may go on, and its thread hasn't begun
pub record IsAbsent (service : Declarations) (requests : List Request) (f : FloorValue) (out begun : List Bool) (lane : ℕ) : Type 0 where
  pub there : lane < service.lanes
  pub absent : has_begun begun lane ≡ false
  pub may : GoesOn service requests f out lane

-- no lane may go on whose thread hasn't begun
pub record NoneIsAbsent (service : Declarations) (requests : List Request) (f : FloorValue) (out begun : List Bool) : Type 0 where
  pub back : (lane : ℕ) → lane < service.lanes → has_begun begun lane ≡ false → is_out out lane ≡ false
  pub stays : (lane : ℕ) → lane < service.lanes → has_begun begun lane ≡ false → next_event service requests f lane ≡ None

-- the lane's thread has begun, it can't go on or the history is as long as may be, or a lane found no memory
abbrev pub HasNoTurn : Declarations → List Request → FloorValue → List Bool → Bool → ℕ → Type 0
HasNoTurn service requests f begun given_up lane = (has_begun begun lane ≡ true) ⊎ (turn_at service requests f lane ≡ None) ⊎ (given_up ≡ true)
