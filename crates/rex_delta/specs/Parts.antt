-- Reading an event in two parts, and reading of which only what is left is kept.
use Rattle.std.specs.Prelude.{◌≡◌, ℕ, ◌-◌, Bool, List, length, is_some, nat_le, Result, Ok, Err}
use Rattle.std.specs.Int.{w8}
use Rattle.arrayvec.specs.ArrayVec.{ArrayVec}
use Rattle.rex_event.specs.declared.event.Kind.{Kind}
use Rattle.rex_event.specs.declared.event.Event.{Event}
use Rattle.rex_event.specs.declared.delta.Cause.{Cause}
use Rattle.rex_event.specs.Conflict.{named_semaphore}
use Rattle.rex_event.specs.Cuts.{count_at}
use Rattle.rex_wire.specs.declared.fault.DecodeError.{DecodeError}
use Rattle.rex_wire.specs.Decoding.{Fails}
use Rattle.rex_wire.specs.Reading.{Left, Reading, ◌>>=◌, allowed_at}
use Rattle.rex_delta.specs.Spelling.{is_between, others_below}
use Rattle.rex_delta.specs.Reading.{kind_at, causes_at}
use Rattle.rex_delta.specs.declared.pass_kinds.Seen.{Seen}

-- an event before its causes, where lanes did so many events before it, and its kind is in this range
unfoldable pub head_at : List ℕ → ℕ → ℕ → Left → Reading Event
head_at counts least most l = do
  number ← allowed_at w8 (is_between 1 (length counts)) l
  kind ← kind_at (length counts) least most number.1
  Ok (record { lane = number.0 - 1; index = count_at counts (number.0 - 1); kind = kind.0 }, kind.1)

-- of a kind is kept whether it is on a semaphore
abbrev pub counting : Reading Kind → Reading Bool
counting read = read >>= λ k. Ok (is_some (named_semaphore k.0), k.1)

-- the same event, of which only its lane is kept, and whether it is on a semaphore
unfoldable pub seen_at : List ℕ → ℕ → ℕ → Left → Reading Seen
seen_at counts least most l = do
  number ← allowed_at w8 (is_between 1 (length counts)) l
  is_counting ← counting (kind_at (length counts) least most number.1)
  Ok (record { lane = number.0 - 1; is_counting = is_counting.0 }, is_counting.1)

-- how many causes an event of this lane has
abbrev pub cause_count_at : List ℕ → List ℕ → ℕ → Left → Reading ℕ
cause_count_at bases counts lane l = allowed_at w8 (λ n. nat_le n (others_below bases counts lane (length counts))) l

-- the causes of an event of this lane, after their number
unfoldable pub all_causes_at : List ℕ → List ℕ → ℕ → Left → Reading (List Cause)
all_causes_at bases counts lane l = do
  count ← cause_count_at bases counts lane l
  causes_at bases counts lane count.0 0 count.1

-- what is read is let go
abbrev pub passed : {A : Type 0} → Reading A → Reading (Unit {0})
passed read = read >>= λ x. Ok (tt, x.1)

-- what is read goes into an array
abbrev pub into_array : {A : Type 0} → Reading (List A) → Reading (ArrayVec A)
into_array read = read >>= λ xs. Ok (record { items = xs.0 }, xs.1)

-- what a call leaves that reads on into what it was lent, and the reader after it, are what reading gives, unless memory runs out
abbrev pub ReadsInto : {A : Type 0} → Result (Unit {0}) DecodeError → A → Left → Reading A → Type 0
ReadsInto (Ok done) x new read = read ≡ Ok (x, new)
ReadsInto (Err e) x new read = Fails e read

-- the same of all bytes
abbrev pub GivesInto : {A : Type 0} → Result (Unit {0}) DecodeError → A → Result A ℕ → Type 0
GivesInto (Ok done) x read = read ≡ Ok x
GivesInto (Err e) x read = Fails e read
