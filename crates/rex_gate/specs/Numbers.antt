-- The deltas with the clients' last replies.
use Rattle.std.specs.Prelude.{◌==◌, ◌||◌, ℕ, ℤ, suc, Bool, false, nat_lt, List, [], ◌∷◌, replicate, slice_set, slice_index_or, Option, Some, None, if◌then◌else◌}
use Rattle.rex_event.specs.declared.event.Event.{Event}
use Rattle.rex_event.specs.declared.event.Kind.{Kind}
use Rattle.rex_event.specs.declared.event.Kind.TheVariants.{Reply}
use Rattle.rex_event.specs.declared.event.TheConstants.{CLIENT_ENTRIES}
use Rattle.rex_state.specs.declared.lane.Entry.{Entry}
use Rattle.rex_gate.specs.declared.numbers.Stamp.{Stamp}

-- a client that has no reply
abbrev pub no_stamp : Stamp
no_stamp = record { number = None }

-- no client has one
abbrev pub no_numbers : List Stamp
no_numbers = replicate CLIENT_ENTRIES no_stamp

-- where a state has a reply, which delta had it isn't known: 0 stands for it
abbrev pub stamp_of_state : Option ℤ → Stamp
stamp_of_state None = record { number = None }
stamp_of_state (Some value) = record { number = Some 0 }

abbrev pub numbers_of_state : List Entry → List Stamp
numbers_of_state [] = []
numbers_of_state (e ∷ es) = stamp_of_state e.reply ∷ numbers_of_state es

-- the event replies to the client
abbrev pub is_reply_to : ℕ → Kind → Bool
is_reply_to client (Reply c value) = c == client
is_reply_to client _ = false

-- one of the events does
abbrev pub replies_to : ℕ → List Event → Bool
replies_to client [] = false
replies_to client (e ∷ es) = is_reply_to client e.kind || replies_to client es

-- a reply in the delta of this number is its client's last one
abbrev pub numbers_after : ℕ → Kind → List Stamp → List Stamp
numbers_after number (Reply client value) stamps = slice_set stamps client (record { number = Some number })
numbers_after number _ stamps = stamps

abbrev pub numbered : ℕ → List Stamp → List Event → List Stamp
numbered number stamps [] = stamps
numbered number stamps (e ∷ es) = numbered number (numbers_after number e.kind stamps) es

-- the number that a client has
abbrev pub number_at : List Stamp → ℕ → Option ℕ
number_at stamps client = (slice_index_or stamps client no_stamp).number

-- the numbers that a table holds, which is empty until something is known
abbrev pub numbers_in : List Stamp → List Stamp
numbers_in [] = no_numbers
numbers_in (n ∷ ns) = n ∷ ns

-- the number of the next delta; it stands still at the end of its type
abbrev pub next_number : ℕ → ℕ
next_number count = if nat_lt count 4294967295 then suc count else count
