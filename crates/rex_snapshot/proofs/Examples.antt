-- States of a counter with two lanes, spelled and read.
use Rattle.std.proofs.Common.{◌≡◌, ℕ, pos, List, [], ◌∷◌, ◌++◌, take, set, Ok, Err, refl}
use Rattle.std.specs.Prelude.{Some, None}
use Rattle.rex_syntax.specs.declared.service.Declarations.{Declarations}
use Rattle.rex_syntax.specs.declared.locks.Mode.TheVariants.{Exclusive}
use Rattle.rex_syntax.specs.Locks.{with_mode, no_locks}
use Rattle.rex_syntax.specs.declared.version.Version.TheVariants.{One, Two}
use Rattle.rex_frame.specs.declared.frame.Phase.TheVariants.{Running}
use Rattle.rex_state.specs.Value.{StateValue}
use Rattle.rex_state.specs.Start.{start_of}
use Rattle.rex_state.specs.Counter.{counter}
use Rattle.rex_wire.specs.Reading.{list_at}
use Rattle.rex_snapshot.specs.Locksets.{lockset_at, are_apart_below}
use Rattle.rex_snapshot.specs.Spelling.{state_bytes}
use Rattle.rex_snapshot.specs.Reading.{version_at, other_at, change_at, changed_at, turn_at, line_at, handler_at, frame_at, busy_at, seat_at, given_at, known_at, parts_at, parts_in, state_in}

abbrev service : Declarations
service = record counter { lanes = 2 }

-- at the start
abbrev start_bytes : List ℕ
start_bytes = 1 ∷ 2 ∷ 0 ∷ 0 ∷ 0 ∷ 0 ∷ 0 ∷ 0 ∷ 0 ∷ 0 ∷ 0 ∷ 0 ∷ 0 ∷ 0 ∷ 0 ∷ 0 ∷ 0 ∷ 0 ∷ 0 ∷ 0 ∷ 0 ∷ 0 ∷ []

start_spelled : state_bytes service One (start_of service) ≡ start_bytes
start_spelled = refl

start_read : state_in service start_bytes ≡ Ok (start_of service)
unfolding list_at seat_at version_at parts_at parts_in state_in
start_read = refl

other_lanes : state_in service (set start_bytes 1 3) ≡ Err 1
unfolding list_at seat_at version_at parts_at parts_in state_in
other_lanes = refl

no_status : state_in service (set start_bytes 6 4) ≡ Err 6
unfolding list_at seat_at version_at parts_at parts_in state_in
no_status = refl

cut_short : state_in service (take 21 start_bytes) ≡ Err 20
unfolding list_at seat_at version_at parts_at parts_in state_in
cut_short = refl

too_long : state_in service (start_bytes ++ 0 ∷ []) ≡ Err 22
unfolding list_at seat_at version_at parts_at parts_in state_in
too_long = refl

-- the same in version 2: no variable has another value than its first
abbrev short_start_bytes : List ℕ
short_start_bytes = 2 ∷ 2 ∷ 0 ∷ 0 ∷ 0 ∷ 0 ∷ 0 ∷ 0 ∷ 0 ∷ 0 ∷ 0 ∷ 0 ∷ 0 ∷ 0 ∷ 0 ∷ 0 ∷ []

short_start_spelled : state_bytes service Two (start_of service) ≡ short_start_bytes
short_start_spelled = refl

short_start_read : state_in service short_start_bytes ≡ Ok (start_of service)
unfolding list_at seat_at changed_at version_at parts_at parts_in state_in
short_start_read = refl

no_version : state_in service (set short_start_bytes 0 3) ≡ Err 0
unfolding list_at seat_at changed_at version_at parts_at parts_in state_in
no_version = refl

too_many_variables : state_in service (set short_start_bytes 13 2) ≡ Err 12
unfolding list_at seat_at changed_at version_at parts_at parts_in state_in
too_many_variables = refl

-- with a semaphore whose first value is 3
abbrev gated : Declarations
gated = record service { semaphores = (record { name = []; first = 3 }) ∷ [] }

abbrev gated_bytes : List ℕ
gated_bytes = take 20 start_bytes ++ 0 ∷ 0 ∷ 0 ∷ 3 ∷ 0 ∷ 0 ∷ []

gated_spelled : state_bytes gated One (start_of gated) ≡ gated_bytes
gated_spelled = refl

gated_read : state_in gated gated_bytes ≡ Ok (start_of gated)
unfolding list_at seat_at version_at parts_at parts_in state_in
gated_read = refl

-- a semaphore's value is at most 1,000,000,000
high_value : state_in gated (take 20 start_bytes ++ 59 ∷ 154 ∷ 202 ∷ 1 ∷ 0 ∷ 0 ∷ []) ≡ Err 20
unfolding list_at seat_at version_at parts_at parts_in state_in
high_value = refl

-- its version 2 has the same value in the same place
gated_short_spelled : state_bytes gated Two (start_of gated) ≡ take 14 short_start_bytes ++ 0 ∷ 0 ∷ 0 ∷ 3 ∷ 0 ∷ 0 ∷ []
gated_short_spelled = refl

-- after a request was replied to
abbrev replied : StateValue
replied = record (start_of service) {
  variables = pos 5 ∷ [];
  lanes = (record { done = 4; frame = None }) ∷ (record { done = 0; frame = None }) ∷ [];
  clients = set (start_of service).clients 1 (record { sequence = 1; reply = Some (pos 5) });
}

abbrev replied_bytes : List ℕ
replied_bytes = 1 ∷ 2 ∷ 0 ∷ 0 ∷ 0 ∷ 4 ∷ 0 ∷ 0 ∷ 0 ∷ 0 ∷ 0 ∷ 0 ∷ 0 ∷ 0 ∷ 0 ∷ 0 ∷ 0 ∷ 0 ∷ 0 ∷ 5 ∷ 0 ∷ 1 ∷ 0 ∷ 1 ∷ 0 ∷ 0 ∷ 0 ∷ 1 ∷ 1 ∷ 0 ∷ 0 ∷ 0 ∷ 0 ∷ 0 ∷ 0 ∷ 0 ∷ 5 ∷ []

replied_spelled : state_bytes service One replied ≡ replied_bytes
replied_spelled = refl

replied_read : state_in service replied_bytes ≡ Ok replied
unfolding list_at seat_at given_at known_at version_at parts_at parts_in state_in
replied_read = refl

abbrev short_replied_bytes : List ℕ
short_replied_bytes = 2 ∷ 2 ∷ 0 ∷ 0 ∷ 0 ∷ 4 ∷ 0 ∷ 0 ∷ 0 ∷ 0 ∷ 0 ∷ 0 ∷ 0 ∷ 1 ∷ 0 ∷ 1 ∷ 0 ∷ 0 ∷ 0 ∷ 0 ∷ 0 ∷ 0 ∷ 0 ∷ 5 ∷ 0 ∷ 1 ∷ 0 ∷ 1 ∷ 0 ∷ 0 ∷ 0 ∷ 1 ∷ 1 ∷ 0 ∷ 0 ∷ 0 ∷ 0 ∷ 0 ∷ 0 ∷ 0 ∷ 5 ∷ []

short_replied_spelled : state_bytes service Two replied ≡ short_replied_bytes
short_replied_spelled = refl

short_replied_read : state_in service short_replied_bytes ≡ Ok replied
unfolding list_at seat_at given_at known_at other_at change_at changed_at version_at parts_at parts_in state_in
short_replied_read = refl

no_such_variable : state_in service (set short_replied_bytes 15 2) ≡ Err 14
unfolding list_at seat_at given_at known_at other_at change_at changed_at version_at parts_at parts_in state_in
no_such_variable = refl

first_value : state_in service (set short_replied_bytes 23 0) ≡ Err 16
unfolding list_at seat_at given_at known_at other_at change_at changed_at version_at parts_at parts_in state_in
first_value = refl

-- while the first lane holds the lock, before it releases it
abbrev holding : StateValue
holding = record (start_of service) {
  variables = pos 5 ∷ [];
  lanes =
      (record {
        done = 2;
        frame = Some (record { client = 1; sequence = 1; handler = 0; place = 3; locals = record { items = pos 5 ∷ pos 5 ∷ [] }; turns = record { items = [] }; held = with_mode no_locks 0 Exclusive; phase = Running });
      })
      ∷ (record { done = 0; frame = None }) ∷ [];
  clients = set (start_of service).clients 1 (record { sequence = 1; reply = None });
}

abbrev holding_bytes : List ℕ
holding_bytes = 1 ∷ 2 ∷ 0 ∷ 0 ∷ 0 ∷ 2 ∷ 1 ∷ 0 ∷ 1 ∷ 0 ∷ 0 ∷ 0 ∷ 1 ∷ 1 ∷ 0 ∷ 4 ∷ 0 ∷ 0 ∷ 0 ∷ 0 ∷ 0 ∷ 0 ∷ 0 ∷ 5 ∷ 0 ∷ 0 ∷ 0 ∷ 0 ∷ 0 ∷ 0 ∷ 0 ∷ 5 ∷ 0 ∷ 0 ∷ 0 ∷ 0 ∷ 0 ∷ 0 ∷ 0 ∷ 0 ∷ 0 ∷ 0 ∷ 0 ∷ 0 ∷ 5 ∷ 0 ∷ 1 ∷ 0 ∷ 1 ∷ 0 ∷ 0 ∷ 0 ∷ 1 ∷ 0 ∷ []

holding_spelled : state_bytes service One holding ≡ holding_bytes
holding_spelled = refl

holding_read : state_in service holding_bytes ≡ Ok holding
unfolding list_at turn_at line_at handler_at frame_at busy_at seat_at known_at version_at parts_at parts_in state_in lockset_at are_apart_below
holding_read = refl
