-- The calls of a disk, and what a call does to its count of faults, its length and its reserved room.
use Rattle.std.specs.Prelude.{◌≡◌, ◌≤◌, ◌<◌, ℕ, ◌+◌, ◌^◌, Bool, true, false, List, [], ◌∷◌, max, Result, Ok, Err}

-- a read of so many bytes, a write of these, a sync, room for so many calls and bytes
pub data Call : Type 0 where
  Reads : ℕ → ℕ → Call
  Writes : ℕ → List ℕ → Call
  Syncs : Call
  Reserves : ℕ → ℕ → Call

-- a call that failed adds one to the count of faults, any other leaves it as it was
abbrev pub Counts : {T E : Type 0} → ℕ → ℕ → Result T E → Type 0
Counts before now (Ok x) = now ≡ before
Counts before now (Err e) = now ≡ before + 1

-- a write reaches the end of what is written, where it succeeds, and takes nothing away
abbrev pub Reaches : {T E : Type 0} → ℕ → ℕ → ℕ → Result T E → Type 0
Reaches end before now (Ok x) = now ≡ max before end
Reaches end before now (Err e) = before ≤ now

-- so many calls and bytes fewer
pub record UsesRoom (calls bytes calls_before calls_now bytes_before bytes_now : ℕ) : Type 0 where
  pub fewer_calls : calls_now + calls ≡ calls_before
  pub fewer_bytes : bytes_now + bytes ≡ bytes_before

-- there is room for so many calls and bytes, and a disk that is so much longer still has a length below 2^64
pub record HasRoom (calls bytes calls_now bytes_now len : ℕ) : Type 0 where
  pub for_calls : calls ≤ calls_now
  pub for_bytes : bytes ≤ bytes_now
  pub for_length : len + bytes < 2 ^ 64

-- these calls are made in turn, each as the disk says, and none fails
abbrev pub CallsInTurn : {D : Type 0} → (D → Call → Bool → D → Type 0) → D → List Call → D → Type 0
CallsInTurn gives old [] new = new ≡ old
CallsInTurn {D} gives old (call ∷ later) new = (between : D) × gives old call false between × CallsInTurn gives between later new

-- these calls are made in turn, and then this one fails
pub record FailsInTurn {D : Type 0} (gives : D → Call → Bool → D → Type 0) (old : D) (calls : List Call) (call : Call) (new : D) : Type 0 where
  pub between : D
  pub before : CallsInTurn gives old calls between
  pub fails : gives between call true new
