-- Which records have a spelling, and what it is.
use Rattle.std.specs.Prelude.{◌≡◌, ℕ, ◌+◌, ◌<◌, ◌≤◌, List, ◌++◌, length, slice_index_or, take}
use Rattle.std.specs.Int.{w32, w64, to_be_bytes}
use Rattle.rex_ballot.specs.Ballot.{IsBallot, IsInstance}
use Rattle.rex_ballot.specs.Proposals.{IsValue}
use Rattle.rex_wire.specs.Spelling.{byte, value_bytes}
use Rattle.rex_durable.specs.declared.records.Rec.{Rec}
use Rattle.rex_durable.specs.declared.records.Rec.TheVariants.{Promised, Accepted, Known, Checkpoint, Dropped, Transferred}
use Rattle.rex_durable.specs.declared.records.Standing.{Standing}
use Rattle.rex_durable.specs.Recovery.{standing}

-- ---- the bytes

-- the number of a record's kind
abbrev pub code_of : Rec → ℕ
code_of (Promised ballot) = 1
code_of (Accepted ballot instance value) = 2
code_of (Known instance value) = 3
code_of (Checkpoint deltas snapshot) = 4
code_of (Dropped deltas) = 5
code_of (Transferred deltas snapshot) = 6

-- what follows the number of the kind
abbrev pub content : Rec → List ℕ
content (Promised ballot) = to_be_bytes w64 ballot
content (Accepted ballot instance value) = to_be_bytes w64 ballot ++ to_be_bytes w32 instance ++ value_bytes value
content (Known instance value) = to_be_bytes w32 instance ++ value_bytes value
content (Checkpoint deltas snapshot) = to_be_bytes w32 deltas ++ value_bytes snapshot
content (Dropped deltas) = to_be_bytes w32 deltas
content (Transferred deltas snapshot) = to_be_bytes w32 deltas ++ value_bytes snapshot

abbrev pub record_bytes : Rec → List ℕ
record_bytes r = byte (code_of r) ++ content r

-- ---- which records there can be

-- the numbers of a record are in their ranges
abbrev pub IsInRange : Rec → Type 0
IsInRange (Promised ballot) = IsBallot ballot
IsInRange (Accepted ballot instance value) = IsBallot ballot × IsInstance instance × IsValue value
IsInRange (Known instance value) = IsInstance instance × IsValue value
IsInRange (Checkpoint deltas snapshot) = IsInstance deltas × IsValue snapshot
IsInRange (Dropped deltas) = IsInstance deltas
IsInRange (Transferred deltas snapshot) = IsInstance deltas × IsValue snapshot

-- a record that has a spelling
pub record HasSpelling (r : Rec) : Type 0 where
  pub in_range : IsInRange r

-- the next known value is that of the next instance; a checkpoint is one of values that are known before it, those that aren't held among them; what is dropped are the values up to the base, some of which are held; and what is taken over is the state after more values than are known
abbrev pub IsDue : Standing → Rec → Type 0
IsDue s (Promised ballot) = Unit {0}
IsDue s (Accepted ballot instance value) = Unit {0}
IsDue s (Known instance value) = instance ≡ s.count + 1
IsDue s (Checkpoint deltas snapshot) = (s.offset ≤ deltas) × (deltas ≤ s.count)
IsDue s (Dropped deltas) = (s.offset < deltas) × (deltas ≡ s.base)
IsDue s (Transferred deltas snapshot) = s.count < deltas

-- the bytes spell this record, which may stand there
pub record Spells (s : Standing) (bytes : List ℕ) (r : Rec) : Type 0 where
  pub spelling : HasSpelling r
  pub due : IsDue s r
  pub bytes_are : bytes ≡ record_bytes r

-- the record may stand behind these ones
pub record Follows (before : List Rec) (r : Rec) : Type 0 where
  pub spelling : HasSpelling r
  pub due : IsDue (standing before) r

-- each record may stand behind those before it
pub record AreRecords (rs : List Rec) : Type 0 where
  pub each : (k : ℕ) (d : Rec) → k < length rs → Follows (take k rs) (slice_index_or rs k d)
