-- Records that hold a state.
use Rattle.std.specs.Prelude.{◌≡◌, ◌==◌, ◌||◌, ℕ, Bool, true, List, drop, get_or, is_ok, if◌then◌else◌}
use Rattle.std.specs.List.{list_all}
use Rattle.rex_syntax.specs.declared.service.Declarations.{Declarations}
use Rattle.rex_snapshot.specs.Reading.{state_in}

-- a record of this kind holds one: a checkpoint's, or one that was taken over
abbrev pub is_state_kind : ℕ → Bool
is_state_kind kind = (kind == 4) || (kind == 6)

-- where a list of bytes is such a record, what it holds spells a state: that begins behind the kind of 1 byte, a number of 4 bytes and the length of 4 bytes
abbrev pub is_stated : Declarations → List ℕ → Bool
is_stated service bytes = if is_state_kind (get_or bytes 0 0) then is_ok (state_in service (drop 9 bytes)) else true

abbrev pub AreStated : Declarations → List (List ℕ) → Type 0
AreStated service lists = list_all (is_stated service) lists ≡ true
