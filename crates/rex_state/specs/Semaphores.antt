-- The values of semaphores.
use Rattle.std.specs.Prelude.{ℕ, ◌+◌, ◌-◌, ◌<◌, min, Bool, true, List, length, slice_set, slice_index_or, nat_lt}
use Rattle.rex_event.specs.declared.event.Kind.{Kind}
use Rattle.rex_event.specs.declared.event.Kind.TheVariants.{Down, Up}

-- the greatest value
abbrev pub most_value : ℕ
most_value = 1000000000

-- the value of a semaphore; 0 where there is none
abbrev pub semaphore_at : List ℕ → ℕ → ℕ
semaphore_at values semaphore = slice_index_or values semaphore 0

-- a semaphore is taken down only while its value is above 0
abbrev pub semaphores_allow : Kind → List ℕ → Bool
semaphores_allow (Down semaphore) values = nat_lt 0 (semaphore_at values semaphore)
semaphores_allow _ values = true

-- a value with one more, up to the greatest
abbrev pub raised : ℕ → ℕ
raised value = min (value + 1) most_value

-- a down takes one off its semaphore's value, and an up adds one
abbrev pub semaphores_after : Kind → List ℕ → List ℕ
semaphores_after (Down semaphore) values = slice_set values semaphore (semaphore_at values semaphore - 1)
semaphores_after (Up semaphore) values = slice_set values semaphore (raised (semaphore_at values semaphore))
semaphores_after _ values = values

-- the event's semaphore is there
abbrev pub HasSemaphore : Kind → List ℕ → Type 0
HasSemaphore (Down semaphore) values = semaphore < length values
HasSemaphore (Up semaphore) values = semaphore < length values
HasSemaphore _ values = Unit {0}
