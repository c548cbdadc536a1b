-- What stands at the front of spelled records.
use Rattle.std.specs.Prelude.{◌≡◌, ◌≢◌, ◌<◌, ◌++◌, ◌∷◌, ℕ, List}
use Rattle.rex_wal.specs.Journal.{mark}
use Rattle.rex_wal.specs.declared.spell.Front.{Front}
use Rattle.rex_wal.specs.declared.spell.Front.TheVariants.{Byte, End, Nothing}

-- neither a byte of a record nor an end mark stands at the front
pub record HasNoFront (bytes : List ℕ) : Type 0 where
  pub no_byte : (b : ℕ) (behind : List ℕ) → b < 256 → bytes ≢ mark b ++ behind
  pub no_end : (behind : List ℕ) → bytes ≢ 255 ∷ 1 ∷ behind

abbrev pub IsFront : List ℕ → Front → Type 0
IsFront bytes (Byte b behind) = (bytes ≡ mark b ++ behind.now) × (b < 256)
IsFront bytes (End behind) = bytes ≡ 255 ∷ 1 ∷ behind.now
IsFront bytes Nothing = HasNoFront bytes
