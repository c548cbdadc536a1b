-- The records of the cluster's model that lists of bytes spell.
use Rattle.std.specs.Prelude.{◌≡◌, ℕ, zero, suc, List, [], ◌∷◌, length, fold, Result, Ok, Err}
use Rattle.rex_ballot.specs.declared.proposal.Proposal.{Proposal as Kept}
use Rattle.rex_syntax.specs.declared.service.Declarations.{Declarations}
use Rattle.rex_state.specs.Value.{StateValue}
use Rattle.rex_state.specs.Start.{start_of}
use Rattle.rex_durable.specs.declared.records.Rec.{Rec as KeptRec}
use Rattle.rex_durable.specs.declared.records.Rec.TheVariants as kept
use Rattle.rex_durable.specs.declared.records.Standing.{Standing}
use Rattle.rex_durable.specs.Reading.{record_in}
use Rattle.rex_snapshot.specs.Allowed.{version_in}
use Rattle.rex_snapshot.specs.Reading.{state_in}
use Rattle.rex_cluster.specs.Records.{Rec, Proposal, proposal_of, known, offset, base}
use Rattle.rex_cluster.specs.Records.Rec.{Promised, Accepted, Known, Checkpoint, Dropped, Transferred}
use Rattle.rex_cluster.specs.Values.{Value}

-- so many first values of a list; those past its end are empty
abbrev pub first : ℕ → List Value → List Value
first zero past = []
first (suc k) [] = [] ∷ first k []
first (suc k) (v ∷ past) = v ∷ first k past

-- the state that bytes spell, or the start where they spell none
abbrev pub read_state : Declarations → Result StateValue ℕ → StateValue
read_state service (Ok s) = s
read_state service (Err at) = start_of service

abbrev pub proposal_in : Kept → Proposal Value
proposal_in p = proposal_of p.ballot p.instance p.value

-- what a record that was read says: a checkpoint, the state that its bytes spell, in their version; and a state that was taken over, that it is the one after the first values of the past
abbrev pub rec_of : Declarations → List Value → KeptRec → Rec Value StateValue
rec_of service past (kept.Promised b) = Promised b
rec_of service past (kept.Accepted b i v) = Accepted b i v
rec_of service past (kept.Known i v) = Known i v
rec_of service past (kept.Checkpoint k bytes) = Checkpoint (version_in bytes) k (read_state service (state_in service bytes))
rec_of service past (kept.Dropped k) = Dropped k
rec_of service past (kept.Transferred k bytes) = Transferred (first k past) (read_state service (state_in service bytes))

-- the records with one more; bytes that spell none change nothing
abbrev pub log_with : Declarations → List Value → List (Rec Value StateValue) → Result KeptRec ℕ → List (Rec Value StateValue)
log_with service past log (Ok r) = rec_of service past r ∷ log
log_with service past log (Err at) = log

-- where a record behind them stands
abbrev pub standing_in : List (Rec Value StateValue) → Standing
standing_in log = record { count = length (known log); offset = offset log; base = base log }

-- the records that further lists of bytes spell, before those that there are
abbrev pub log_behind : Declarations → List Value → List (Rec Value StateValue) → List (List ℕ) → List (Rec Value StateValue)
log_behind service past log lists = fold (λ log bytes. log_with service past log (record_in (standing_in log) bytes)) log lists

-- the records that lists of bytes spell, the newest first
abbrev pub log_of : Declarations → List Value → List (List ℕ) → List (Rec Value StateValue)
log_of service past lists = log_behind service past [] lists

-- each of the lists of bytes spells a record
abbrev pub AreRead : Declarations → List Value → List (List ℕ) → Type 0
AreRead service past lists = length (log_of service past lists) ≡ length lists
