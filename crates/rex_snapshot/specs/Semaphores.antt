-- How the values of semaphores are spelled and read.
use Rattle.std.specs.Prelude.{ℕ, ◌≤◌, nat_le, List}
use Rattle.std.specs.Int.{w32, to_be_bytes}
use Rattle.rex_state.specs.Semaphores.{most_value}
use Rattle.rex_wire.specs.Reading.{Left, Reading, allowed_at, list_at}

-- the value of a semaphore
abbrev pub level_bytes : ℕ → List ℕ
level_bytes value = to_be_bytes w32 value

-- a value that a semaphore may have
abbrev pub level_at : Left → Reading ℕ
level_at l = allowed_at w32 (λ n. nat_le n most_value) l

-- each is read alike
abbrev pub next_level_at : Unit {0} → Left → Reading ℕ
next_level_at s l = level_at l

abbrev pub same_way : Unit {0} → ℕ → Unit {0}
same_way s x = s

-- so many of them
abbrev pub levels_at : ℕ → Left → Reading (List ℕ)
levels_at n l = list_at next_level_at same_way n tt l

-- it is within the limit
abbrev pub IsLevel : ℕ → Type 0
IsLevel value = value ≤ most_value
