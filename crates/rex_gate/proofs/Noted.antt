-- The table of the clients' entries.
use Rattle.std.proofs.Common.{◌≡◌, ℕ, zero, suc, ◌<◌, List, [], ◌∷◌, length, get_or, arith, refl, sym, ap, replicate}
use Rattle.rex_state.specs.declared.lane.Entry.{Entry}
use Rattle.rex_syntax.specs.declared.service.Declarations.{Declarations}
use Rattle.rex_state.specs.Value.{StateValue}
use Rattle.rex_state.specs.Machine.{no_entry, entry_at}
use Rattle.rex_state.specs.Sound.{IsSound}
use Rattle.rex_gate.specs.declared.numbers.Stamp.{Stamp}
use Rattle.rex_gate.specs.Noted.{entries_in}
use Rattle.rex_gate.specs.Numbers.{no_stamp, numbers_of_state, number_at, numbers_in}

-- where all are the same it doesn't matter which one is asked for
same_at : {X : Type 0} (n : ℕ) (x : X) (i : ℕ) → get_or (replicate n x) i x ≡ x
same_at zero x i = refl
same_at (suc n) x zero = refl
same_at (suc n) x (suc i) = same_at n x i

-- an empty table says of each client what a new one says
pub entry_in : (table : List Entry) (client : ℕ) → entry_at table client ≡ entry_at (entries_in table) client
entry_in [] client = sym (same_at 257 no_entry client)
entry_in (e ∷ es) client = refl

-- a sound state has entries
pub some_entries : (service : Declarations) (s : StateValue) → IsSound service s → 0 < length s.clients
some_entries service s sound = let long : length s.clients ≡ 257 = sound.by.complete.clients in omega (arith, long)

-- an empty table of numbers says of each client what a new one says
pub number_in : (table : List Stamp) (client : ℕ) → number_at table client ≡ number_at (numbers_in table) client
number_in [] client = ap (λ (s : Stamp). s.number) (sym (same_at 257 no_stamp client))
number_in (n ∷ ns) client = refl

-- a state with entries has a table of numbers that isn't empty
pub state_in : (clients : List Entry) → 0 < length clients → numbers_in (numbers_of_state clients) ≡ numbers_of_state clients
state_in [] l = absurd (omega (arith, l))
state_in (e ∷ es) l = refl
