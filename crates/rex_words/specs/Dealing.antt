-- How words begin.
use Rattle.std.specs.Prelude.{◌≡◌, ℕ, ℤ, pos, ◌+◌, ◌<◌, ◌≤◌, List, [], length, slice_get, slice_index_or, nat_eq, Some}
use Rattle.std.specs.List.{filter}
use Rattle.std.specs.Int.{cast_signed}
use mir.Syntax.{w64}
use Rattle.atomic_table.specs.Seated.{TableId}
use Rattle.rex_syntax.specs.declared.service.Declarations.{Declarations}
use Rattle.rex_syntax.specs.declared.service.Lock.{Lock}
use Rattle.rex_syntax.specs.declared.service.LockKind.TheVariants.{Plain}
use Rattle.rex_syntax.specs.declared.request.Request.{Request}
use Rattle.rex_event.specs.Order.{Has}
use Rattle.rex_event.specs.declared.event.TheConstants.{CLIENTS}
use Rattle.rex_words.specs.declared.assignment.Assignment.{Assignment}
use Rattle.rex_words.specs.declared.seat.WordSeat.{WordSeat}
use Rattle.rex_words.specs.Recorded.{lane_for}
use Rattle.rex_words.specs.Alone.{service_of, requests_of, seed_of}
use Rattle.rex_words.specs.Seats.{IsSeatOf}

-- the service has plain locks, and no conditions and no semaphores, and the requests are of clients that there can be
pub record CanRecord (service : Declarations) (requests : List Request) : Type 0 where
  pub plain : (i : ℕ) (lock : Lock) → slice_get service.locks i ≡ Some lock → lock.kind ≡ Plain
  pub no_conditions : service.conditions ≡ []
  pub no_semaphores : service.semaphores ≡ []
  pub clients : (q : Request) → Has q requests → (0 < q.client) × (q.client ≤ CLIENTS)

-- the assignment is of these
pub record IsAssignmentOf (r : Assignment) (service : Declarations) (requests : List Request) (seed : ℕ) : Type 0 where
  pub service_is : service_of r ≡ service
  pub requests_are : requests_of r ≡ requests
  pub seed_is : seed_of r ≡ seed

-- the requests that a lane of so many serves
abbrev pub requests_for : ℕ → ℕ → List Request → List Request
requests_for lanes lane requests = filter (λ (q : Request). nat_eq (lane_for lanes q.client) lane) requests

-- so many words of 0
pub record AreZeros (n : ℕ) (words : List ℕ) : Type 0 where
  pub long : length words ≡ n
  pub each : (i : ℕ) → i < n → slice_index_or words i 0 ≡ 0

-- words of 0 for locks, then words that stand for the first n values
pub record HasValueWords (values : List ℤ) (locks n : ℕ) (words : List ℕ) : Type 0 where
  pub long : length words ≡ locks + n
  pub locks_are : (i : ℕ) → i < locks → slice_index_or words i 0 ≡ 0
  pub each : (x : ℕ) → x < n → cast_signed w64 (slice_index_or words (locks + x) 0) ≡ slice_index_or values x (pos 0)

-- the words with which lanes begin: 0 for each lock, each variable's value, and one more
pub record AreWordsFor (values : List ℤ) (locks : ℕ) (words : List ℕ) : Type 0 where
  pub long : length words ≡ locks + length values + 1
  pub locks_are : (i : ℕ) → i < locks → slice_index_or words i 0 ≡ 0
  pub each : (x : ℕ) → x < length values → cast_signed w64 (slice_index_or words (locks + x) 0) ≡ slice_index_or values x (pos 0)

-- a lane's seat that did nothing yet
pub record IsFreshSeat (r : Assignment) (z : TableId) (lane : ℕ) (m : WordSeat) : Type 0 where
  pub seat : IsSeatOf r z m
  pub lane_is : m.lane ≡ lane
  pub none : m.events.items ≡ []

-- the seats of the first n lanes, in their order, which did nothing yet
pub record AreDealt (r : Assignment) (z : TableId) (n : ℕ) (seats : List WordSeat) : Type 0 where
  pub count : length seats ≡ n
  pub each : (lane : ℕ) (d : WordSeat) → lane < n → IsFreshSeat r z lane (slice_index_or seats lane d)
