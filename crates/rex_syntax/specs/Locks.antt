use Rattle.std.specs.Prelude.{ℕ, replicate, take, drop, Bool, true, false, ◌&&◌, ◌+◌, slice_index_or, slice_set}
use Rattle.std.specs.List.{list_all}
use Rattle.rex_syntax.specs.declared.locks.Mode.{Mode}
use Rattle.rex_syntax.specs.declared.locks.Mode.TheVariants.{Free, Shared, Exclusive}
use Rattle.rex_syntax.specs.declared.locks.Lockset.{Lockset}
use Rattle.rex_syntax.specs.declared.locks.TheConstants.{LOCKS}

-- nothing is held
abbrev pub no_locks : Lockset
no_locks = record { modes = replicate LOCKS Free }

abbrev pub mode_of : Lockset → ℕ → Mode
mode_of held lock = slice_index_or held.modes lock Free

abbrev pub with_mode : Lockset → ℕ → Mode → Lockset
with_mode held lock mode = record { modes = slice_set held.modes lock mode }

-- this lock is held exclusively, and no other
abbrev pub only : ℕ → Lockset
only lock = with_mode no_locks lock Exclusive

abbrev pub is_free : Mode → Bool
is_free Free = true
is_free Shared = false
is_free Exclusive = false

abbrev pub is_exclusive : Mode → Bool
is_exclusive Exclusive = true
is_exclusive Shared = false
is_exclusive Free = false

-- no lock from this one on is held
abbrev pub is_above : Lockset → ℕ → Bool
is_above held lock = list_all is_free (drop lock held.modes)

abbrev pub is_empty : Lockset → Bool
is_empty held = list_all is_free held.modes

-- the lock is held exclusively, and no other is held
abbrev pub is_only : Lockset → ℕ → Bool
is_only held lock = is_exclusive (mode_of held lock) && (list_all is_free (take lock held.modes) && list_all is_free (drop (lock + 1) held.modes))
