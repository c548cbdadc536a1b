-- What is known, from the lines before it, of what is held at each line of a handler.
use Rattle.std.specs.Prelude.{ℕ, ◌+◌, Bool, true, false, List, replicate, Option, Some, None, slice_index_or, slice_set, if◌then◌else◌}
use Rattle.std.specs.Cmp.Lexicographic.{pointwise}
use Rattle.rex_syntax.specs.declared.locks.Mode.{Mode}
use Rattle.rex_syntax.specs.declared.locks.Mode.TheVariants.{Free, Shared, Exclusive}
use Rattle.rex_syntax.specs.declared.locks.Lockset.{Lockset}
use Rattle.rex_syntax.specs.declared.flow.Leads.{Leads}
use Rattle.rex_syntax.specs.Locks.{no_locks}
use Rattle.rex_lockset.specs.declared.known.Known.{Known}
use Rattle.rex_lockset.specs.declared.known.Known.TheVariants.{Nothing, Held, Differs}

-- both modes are the same
abbrev pub is_same_mode : Mode → Mode → Bool
is_same_mode Free Free = true
is_same_mode Shared Shared = true
is_same_mode Exclusive Exclusive = true
is_same_mode _ _ = false

-- the same locks are held in the same modes
abbrev pub is_same : Lockset → Lockset → Bool
is_same one other = pointwise is_same_mode one.modes other.modes

-- what is known of a line once one more line leads there with this held
abbrev pub joined : Known → Lockset → Known
joined Nothing held = Held held
joined (Held before) held = if is_same before held then Held before else Differs
joined Differs held = Differs

-- what is known of a line
abbrev pub known_at : List Known → ℕ → Known
known_at known line = slice_index_or known line Nothing

-- what is known of the lines once one leads to this line, where it does
abbrev pub noted : List Known → ℕ → Option Lockset → List Known
noted known line None = known
noted known line (Some held) = slice_set known line (joined (known_at known line) held)

-- what is known of the lines once the line at a place leads on
abbrev pub followed : List Known → ℕ → Leads → List Known
followed known place leads = noted (noted known (place + 1) leads.next) leads.other.line leads.other.held

-- what is known of so many lines at first: nothing is held at the first line
abbrev pub at_start : ℕ → List Known
at_start count = slice_set (replicate count Nothing) 0 (Held no_locks)
