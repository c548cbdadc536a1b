-- What the bytes of records and messages say, as laws.
use Rattle.std.specs.Prelude.{◌≡◌, ℕ, ◌+◌, ◌<◌, ◌≤◌, List, [], ◌∷◌, ◌++◌, length, map, drop, take, slice_index_or, option_map}
use Rattle.rex_syntax.specs.declared.service.Declarations.{Declarations}
use Rattle.rex_state.specs.Value.{StateValue}
use Rattle.rex_msg.specs.declared.message.Message.{Message}
use Rattle.rex_msg.specs.declared.message.Content.TheVariants as sent
use Rattle.rex_cluster.specs.Node.Content.{Snapshot}
use Rattle.rex_durable.specs.declared.records.Rec.{Rec as KeptRec}
use Rattle.rex_durable.specs.declared.recovery.Recovered.{Recovered}
use Rattle.rex_durable.specs.Recovery.{recovered}
use Rattle.rex_durable.specs.Kept.{Spell}
use Rattle.rex_durable.specs.Spelling.{AreRecords, HasSpelling, IsDue, record_bytes}
use Rattle.rex_cluster.specs.Records.{Rec, promise, accepted, known, offset, base, HasTransferred}
use Rattle.rex_cluster.specs.Agreed.{base_state}
use Rattle.rex_cluster.specs.Invariant.{Begins}
use Rattle.rex_cluster.specs.Ranges.{LogFits}
use Rattle.rex_cluster.specs.Values.{Value}
use Rattle.rex_snapshot.specs.Reading.{state_in}
use Rattle.rex_log.specs.Log.{AreRead, log_of, proposal_in, read_state, rec_of, standing_in}
use Rattle.rex_log.specs.Messages.{IsTold, content_in, message_in}

-- a record that is due behind others is read with them
abbrev pub OneMoreIsRead : Type 0
OneMoreIsRead =
    (service : Declarations) (past : List Value) (lists : List (List ℕ)) (r : KeptRec) → HasSpelling r → IsDue (standing_in (log_of service past lists)) r
    → log_of service past (lists ++ record_bytes r ∷ []) ≡ rec_of service past r ∷ log_of service past lists

-- as many records are read beside one past as beside another, and they have the same numbers
pub record AreAlike (one other : List (Rec Value StateValue)) : Type 0 where
  pub many : length one ≡ length other
  pub stands : standing_in one ≡ standing_in other

abbrev pub PastsReadTheSame : Type 0
PastsReadTheSame = (service : Declarations) (past others : List Value) (lists : List (List ℕ)) → AreAlike (log_of service past lists) (log_of service others lists)

-- no state was taken over after more values than these
abbrev pub AreInPast : List Value → List (Rec Value StateValue) → Type 0
AreInPast past log = (values : List Value) (s : StateValue) → HasTransferred values s log → length values ≤ length past

abbrev pub LongerPastsReadTheSame : Type 0
LongerPastsReadTheSame =
    (service : Declarations) (past more : List Value) (lists : List (List ℕ)) → AreInPast past (log_of service past lists)
    → log_of service (past ++ more) lists ≡ log_of service past lists

-- what a node is recovered as is what these records say: its values are the known ones past the offset, its snapshot is of the state at the base, and the numbers are in their ranges
pub record Says (service : Declarations) (x : Recovered) (log : List (Rec Value StateValue)) : Type 0 where
  pub promised : x.promised ≡ promise log
  pub accepted : map proposal_in x.accepted ≡ accepted log
  pub offset : x.offset ≡ offset log
  pub base : x.base ≡ base log
  pub count : x.offset + length x.known ≡ length (known log)
  pub held : x.known ≡ drop x.offset (known log)
  pub state : option_map (λ bytes. read_state service (state_in service bytes)) x.snapshot ≡ base_state log
  pub fits : LogFits log

abbrev pub RecordsSayTheSame : Type 0
RecordsSayTheSame =
    (service : Declarations) (past : List Value) (rs : List KeptRec) → AreRecords rs
    → Says service (recovered rs) (log_of service past (map record_bytes rs)) × AreRead service past (map record_bytes rs)

-- lists of bytes
abbrev pub AreBytes : List (List ℕ) → Type 0
AreBytes lists = (k i : ℕ) → slice_index_or (slice_index_or lists k []) i 0 < 256

-- lists of bytes that are read are records
pub record AreSpelled (lists : List (List ℕ)) : Type 0 where
  pub rs : List KeptRec
  pub spelled : Spell lists rs

abbrev pub ReadListsAreRecords : Type 0
ReadListsAreRecords = (service : Declarations) (past : List Value) (lists : List (List ℕ)) → AreBytes lists → AreRead service past lists → AreSpelled lists

abbrev pub MessagesSayTheSame : Type 0
MessagesSayTheSame = (past more : List Value) (m : Message) → IsTold past m.content → message_in (past ++ more) m ≡ message_in past m

-- where the past begins with what a node knows, a state that it tells is told as the one after the first values that it knows
abbrev pub StatesAreTold : Type 0
StatesAreTold =
    (past values : List Value) (k : ℕ) (bytes : List ℕ) → Begins values past → k ≤ length values → content_in past (sent.Snapshot k bytes) ≡ Snapshot (take k values)
