-- Two deltas, spelled and read: one request of a counter, and two requests that pass a token by a semaphore.
use Rattle.std.proofs.Common.{◌≡◌, ℕ, pos, List, [], ◌∷◌, length, take, drop, Ok, Err, refl}
use Rattle.rex_event.specs.declared.event.Kind.TheVariants.{Begin, AcqEx, RelEx, Reply, Down, Up}
use Rattle.rex_event.specs.declared.delta.Delta.{Delta}
use Rattle.rex_delta.specs.Spelling.{delta_bytes}
use Rattle.rex_delta.specs.Reading.{place_at, arguments_at, begin_at, lock_at, reply_at, kind_at, causes_at, event_at, events_at, bases_at, delta_at, delta_in}

abbrev request : Delta
request = record {
  bases = 0 ∷ 0 ∷ [];
  events = (record { lane = 0; index = 0; kind = Begin 1 1 0 (pos 5 ∷ []) }) ∷ (record { lane = 0; index = 1; kind = AcqEx 0 }) ∷ (record { lane = 0; index = 2; kind = RelEx 0 }) ∷ (record { lane = 0; index = 3; kind = Reply 1 (pos 5) }) ∷ [];
  causes = [] ∷ [] ∷ [] ∷ [] ∷ [];
}

abbrev request_bytes : List ℕ
request_bytes = 1 ∷ 2 ∷ 0 ∷ 0 ∷ 0 ∷ 0 ∷ 0 ∷ 0 ∷ 0 ∷ 0 ∷ 0 ∷ 4 ∷ 1 ∷ 1 ∷ 0 ∷ 1 ∷ 0 ∷ 0 ∷ 0 ∷ 1 ∷ 1 ∷ 1 ∷ 0 ∷ 0 ∷ 0 ∷ 0 ∷ 0 ∷ 0 ∷ 0 ∷ 5 ∷ 0 ∷ 1 ∷ 2 ∷ 1 ∷ 0 ∷ 1 ∷ 4 ∷ 1 ∷ 0 ∷ 1 ∷ 14 ∷ 0 ∷ 1 ∷ 0 ∷ 0 ∷ 0 ∷ 0 ∷ 0 ∷ 0 ∷ 0 ∷ 5 ∷ 0 ∷ []

spelled : delta_bytes request ≡ request_bytes
spelled = refl

read : delta_in request_bytes ≡ Ok request
unfolding place_at arguments_at begin_at lock_at reply_at kind_at causes_at event_at events_at bases_at delta_at delta_in
read = refl

cut_short : delta_in (take 51 request_bytes) ≡ Err 51
unfolding place_at arguments_at begin_at lock_at reply_at kind_at causes_at event_at events_at bases_at delta_at delta_in
cut_short = refl

abbrev tokens : Delta
tokens = record {
  bases = 0 ∷ 0 ∷ [];
  events = (record { lane = 0; index = 0; kind = Begin 1 1 0 [] }) ∷ (record { lane = 1; index = 0; kind = Begin 2 1 1 [] }) ∷ (record { lane = 1; index = 1; kind = Up 0 }) ∷ (record { lane = 0; index = 1; kind = Down 0 }) ∷ (record { lane = 0; index = 2; kind = Reply 1 (pos 1) }) ∷ [];
  causes = [] ∷ [] ∷ [] ∷ ((record { lane = 1; index = 1 }) ∷ []) ∷ [] ∷ [];
}

-- after the version: the lanes, and the events up to the up, the down with its cause, and the reply
abbrev after_version : List ℕ
after_version = 2 ∷ 0 ∷ 0 ∷ 0 ∷ 0 ∷ 0 ∷ 0 ∷ 0 ∷ 0 ∷ 0 ∷ 5 ∷ 1 ∷ 1 ∷ 0 ∷ 1 ∷ 0 ∷ 0 ∷ 0 ∷ 1 ∷ 1 ∷ 0 ∷ 0 ∷ 2 ∷ 1 ∷ 0 ∷ 2 ∷ 0 ∷ 0 ∷ 0 ∷ 1 ∷ 2 ∷ 0 ∷ 0 ∷ 2 ∷ 16 ∷ 1 ∷ 0 ∷ 1 ∷ 15 ∷ 1 ∷ 1 ∷ 2 ∷ 0 ∷ 0 ∷ 0 ∷ 1 ∷ 1 ∷ 14 ∷ 0 ∷ 1 ∷ 0 ∷ 0 ∷ 0 ∷ 0 ∷ 0 ∷ 0 ∷ 0 ∷ 1 ∷ 0 ∷ []

tokens_spelled : delta_bytes tokens ≡ 2 ∷ after_version
tokens_spelled = refl

tokens_long : length (delta_bytes tokens) ≡ 60
tokens_long = refl

tokens_read : delta_in (2 ∷ after_version) ≡ Ok tokens
unfolding place_at arguments_at begin_at lock_at reply_at kind_at causes_at event_at events_at bases_at delta_at delta_in
tokens_read = refl

-- version 1 has no semaphores
first_version : delta_in (1 ∷ after_version) ≡ Err 35
unfolding place_at arguments_at begin_at lock_at reply_at kind_at causes_at event_at events_at bases_at delta_at delta_in
first_version = refl

-- version 2 has some: the last event's kind isn't allowed
no_semaphore : delta_in (2 ∷ drop 1 request_bytes) ≡ Err 40
unfolding place_at arguments_at begin_at lock_at reply_at kind_at causes_at event_at events_at bases_at delta_at delta_in
no_semaphore = refl
