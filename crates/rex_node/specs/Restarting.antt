-- How a node comes up.
use Rattle.std.specs.Int.{w32, from_be_bytes}
use Rattle.std.specs.Prelude.{◌≡◌, ◌⊎◌, ◌==◌, ◌&&◌, not, nat_lt, ℕ, suc, ◌+◌, ◌≤◌, ◌-◌, ◌^◌, min, Bool, true, false, fold, take, length, List, [], ◌∷◌, Option, Some, None, Result, Ok, Err, if◌then◌else◌}
use Rattle.std.specs.List.{list_all}
use Rattle.rex_syntax.specs.declared.service.Declarations.{Declarations}
use Rattle.rex_delta.specs.Reading.{delta_in}
use Rattle.rex_snapshot.specs.Allowed.{version_in}
use Rattle.rex_snapshot.specs.Reading.{state_in}
use Rattle.rex_state.specs.Value.{StateValue}
use Rattle.rex_state.specs.Start.{start_of}
use Rattle.rex_durable.specs.declared.records.Rec.{Rec}
use Rattle.rex_durable.specs.declared.records.Rec.TheVariants.{Known, Checkpoint, Transferred}
use Rattle.rex_durable.specs.declared.recovery.Recovered.{Recovered}
use Rattle.rex_durable.specs.Recovery.{offset, recovered}
use Rattle.rex_durable.specs.Laws.{IsRecovered}
use Rattle.rex_durable.specs.Kept.{Spell, IsFirstBad}
use Rattle.rex_cluster.specs.Records.{Rec as ModelRec, base, known, is_old, offset as offset_of}
use Rattle.rex_cluster.specs.Agreed.{base_state}
use Rattle.rex_cluster.specs.Node.{down_node}
use Rattle.rex_cluster.specs.Calls.{begin, restart}
use Rattle.rex_cluster.specs.Values.{Value, spells, state_after, trace_of, values_fit}
use Rattle.rex_node.specs.declared.contents.Place.{Place}
use Rattle.rex_node.specs.declared.restart.RestartFault.{RestartFault}
use Rattle.rex_node.specs.declared.restart.RestartFault.TheVariants.{BadRecord, OutOfMemory}
use Rattle.rex_log.specs.Log.{AreRead, first, log_of}
use Rattle.rex_node.specs.Parts.{DecodedValue, NodeValue, ReachedValue, here_of}
use Rattle.rex_node.specs.Stated.{AreStated, is_state_kind}

-- ---- what records hold

-- where a record is bad whose value or snapshot is read so: that begins behind the kind of 1 byte, a number of 4 bytes and the length of 4 bytes; no offset is above 2^64 - 1
abbrev pub bad_at : {A : Type 0} → Result A ℕ → Option ℕ
bad_at (Ok x) = None
bad_at (Err at) = Some (min (at + 9) (2 ^ 64 - 1))

abbrev pub is_state : Rec → Bool
is_state (Checkpoint deltas snapshot) = true
is_state (Transferred deltas snapshot) = true
is_state _ = false

abbrev pub has_state : List Rec → Bool
has_state [] = false
has_state (r ∷ rs) = if is_state r then true else has_state rs

-- where a record is bad, if it is, with these behind it, at a node of this offset: a known value that it holds may spell no delta, and the last snapshot, of a checkpoint or of a state that was taken over, no state
abbrev pub bad_in : Declarations → ℕ → Rec → List Rec → Option ℕ
bad_in service offset (Known instance value) later = if nat_lt offset instance then bad_at (delta_in value) else None
bad_in service offset (Checkpoint deltas snapshot) later = if has_state later then None else bad_at (state_in service snapshot)
bad_in service offset (Transferred deltas snapshot) later = if has_state later then None else bad_at (state_in service snapshot)
bad_in service offset _ later = None

-- the bytes of a known value's record are of an instance above the offset: that stands behind the kind, in 4 bytes
abbrev pub is_held : ℕ → List ℕ → Bool
is_held offset (kind ∷ a ∷ b ∷ c ∷ d ∷ content) = nat_lt offset (from_be_bytes w32 (a ∷ b ∷ c ∷ d ∷ []))
is_held offset _ = false

-- the same from where the last state is bad, if it is, from a record's kind, from whether its known value is held, from what stands behind its length, and from whether a record with a state comes behind it
abbrev pub bad_behind : Option ℕ → ℕ → Bool → List ℕ → Bool → Option ℕ
bad_behind last kind held content later =
    if kind == 3 && held then bad_at (delta_in content)
    else if is_state_kind kind && not later then last
    else None

-- this place in the record of the number, or else a later one
abbrev pub place_or : ℕ → Option ℕ → Option Place → Option Place
place_or number (Some at) later = Some (record { number = number; at = at })
place_or number None later = later

-- the first bad place in records from this number on, at a node of this offset
abbrev pub first_bad : Declarations → ℕ → ℕ → List Rec → Option Place
first_bad service offset number [] = None
first_bad service offset number (r ∷ rs) = place_or number (bad_in service offset r rs) (first_bad service offset (suc number) rs)

-- the lists of bytes spell records, and this is the first bad place in these, if one is bad
pub record HasFirstBad (service : Declarations) (kept : List (List ℕ)) (bad : Option Place) : Type 0 where
  pub rs : List Rec
  pub spelled : Spell kept rs
  pub first : first_bad service (offset rs) 1 rs ≡ bad

-- the lists of bytes are no records, the first bad field being this one, or they are, and this is the first bad place in what they hold
abbrev pub IsRestartFault : Declarations → List (List ℕ) → RestartFault → Type 0
IsRestartFault service kept (BadRecord number at) = IsFirstBad kept number at ⊎ HasFirstBad service kept (Some (record { number = number; at = at }))
IsRestartFault service kept OutOfMemory = Unit {0}

-- ---- what they say of a node

-- the lists of bytes spell records, and this is what they say of a node
pub record IsRead (kept : List (List ℕ)) (x : Recovered) : Type 0 where
  pub rs : List Rec
  pub spelled : Spell kept rs
  pub is : x ≡ recovered rs
  pub fits : IsRecovered x

-- and none of them is bad
pub record IsFound (service : Declarations) (kept : List (List ℕ)) (x : Recovered) : Type 0 where
  pub read : IsRead kept x
  pub good : first_bad service (offset read.rs) 1 read.rs ≡ None

-- the state that a snapshot spells, or where it is bad; without one, the start
abbrev pub state_at : Declarations → Option (List ℕ) → Result StateValue ℕ
state_at service None = Ok (start_of service)
state_at service (Some snapshot) = state_in service snapshot

abbrev pub IsSaved : Declarations → Option (List ℕ) → StateValue → Type 0
IsSaved service None s = s ≡ start_of service
IsSaved service (Some snapshot) s = state_in service snapshot ≡ Ok s

-- the last checkpoint, if there is one, is in the old version, whatever came behind it
abbrev pub old_in : Bool → Rec → Bool
old_in before (Checkpoint deltas snapshot) = is_old (version_in snapshot)
old_in before _ = before

abbrev pub ends_old : List Rec → Bool
ends_old rs = fold old_in false rs

-- the same from a record's kind and from what stands behind its length
abbrev pub old_behind : Bool → ℕ → List ℕ → Bool
old_behind before kind content = if kind == 4 then is_old (version_in content) else before

-- so it is, this is the state at the base, and the last checkpoint is in the old version or isn't
pub record IsRecalled (service : Declarations) (kept : List (List ℕ)) (x : Recovered) (start : StateValue) (old : Bool) : Type 0 where
  pub found : IsFound service kept x
  pub start_is : IsSaved service x.snapshot start
  pub old_is : old ≡ ends_old found.read.rs

-- the last checkpoint, or state that was taken over, is of known deltas, and of the state to which these run
abbrev pub HasRightBase : Declarations → List (ModelRec Value StateValue) → Type 0
HasRightBase service log = (s : StateValue) → base_state log ≡ Some s → (base log ≤ length (known log)) × (s ≡ state_after service (trace_of (take (base log) (known log))))

-- what a node knows and doesn't hold are the first values of the past
abbrev pub HasForgotten : List Value → List (ModelRec Value StateValue) → Type 0
HasForgotten past log = first (offset_of log) past ≡ take (offset_of log) (known log)

-- this holds where the values that the records say run, with the least causes, the last checkpoint is of the state to which they run, and what was forgotten stood before
abbrev pub WhereRight : Declarations → List Value → List (List ℕ) → Type 0 → Type 0
WhereRight service past records P =
    values_fit service (known (log_of service past records)) ≡ true → HasRightBase service (log_of service past records) → HasForgotten past (log_of service past records) → P

-- this holds where each record spells one, each state in them is spelled, and so is each delta
abbrev pub WhereRead : Declarations → List Value → List (List ℕ) → Type 0 → Type 0
WhereRead service past records P = AreRead service past records → AreStated service records → list_all (spells service) (known (log_of service past records)) ≡ true → P

-- a node of the keeper that is down, and has nothing else that counts
abbrev pub down_with : {K : Type 0} → (id nodes seed : ℕ) → StateValue → K → NodeValue K
down_with id nodes seed start keeper = record {
  id = id;
  nodes = nodes;
  seed = seed;
  keeper = keeper;
  up = false;
  acceptor = record { promised = 0; accepted = [] };
  offset = 0;
  known = [];
  base = 0;
  old_base = false;
  start = start;
  replayed = 0;
  ahead = None;
  reached = None;
  decoded = None;
  proposer = None;
  acting = None;
}

-- these values past so many are all, and begin with those by which a node came to a state
abbrev pub BeginAlike : Option ReachedValue → List Value → ℕ → List Value → Type 0
BeginAlike None known offset values = Unit {0}
BeginAlike (Some r) known offset values = (offset ≡ 0) × ((r.count ≤ length values) × (take r.count values ≡ take r.count known))

-- a state to which the node came before is kept only where its records say the same values up to there
abbrev pub KeepsReached : {K : Type 0} → NodeValue K → Recovered → Option ReachedValue → Type 0
KeepsReached x said reached = (reached ≡ None) ⊎ ((reached ≡ x.reached) × BeginAlike x.reached x.known said.offset said.known)

-- a snapshot that a node decoded just now, or else the one that it decoded before
abbrev pub decoded_last : Option DecodedValue → Option DecodedValue → Option DecodedValue
decoded_last None before = before
decoded_last (Some d) before = Some d

-- the node is up, and is a follower that has what its records say, and this state at its base
abbrev pub risen : {K : Type 0} → NodeValue K → Recovered → StateValue → Bool → Option ReachedValue → Option DecodedValue → NodeValue K
risen x said start old reached decoded = record x {
  up = true;
  acceptor = record { promised = said.promised; accepted = said.accepted };
  offset = said.offset;
  known = said.known;
  base = said.base;
  old_base = old;
  start = start;
  replayed = said.base;
  ahead = None;
  reached = reached;
  decoded = decoded;
  proposer = None;
  acting = None;
}

-- the node is what its records say: its acceptor, the values that it holds and of how many it holds none, its base and the state there; and it is a follower that has replayed the values up to its base, and no more
pub record IsAsRecovered {K : Type 0} (service : Declarations) (said : Recovered) (x : NodeValue K) : Type 0 where
  pub promised : x.acceptor.promised ≡ said.promised
  pub accepted : x.acceptor.accepted ≡ said.accepted
  pub offset_is : x.offset ≡ said.offset
  pub known_are : x.known ≡ said.known
  pub base_is : x.base ≡ said.base
  pub start : IsSaved service said.snapshot x.start
  pub replayed : x.replayed ≡ said.base
  pub ahead : x.ahead ≡ None
  pub proposer : x.proposer ≡ None
  pub acting : x.acting ≡ None

-- the node of this number comes up with the keeper, none of whose records is bad: it is what they say, and the one of the model that is started with them
pub record CameUp {K : Type 0} (records : K → List (List ℕ)) (service : Declarations) (past : List Value) (id nodes seed : ℕ) (keeper : K) (x : NodeValue K) : Type 0 where
  pub id_is : x.id ≡ id
  pub nodes_are : x.nodes ≡ nodes
  pub seed_is : x.seed ≡ seed
  pub keeper_is : x.keeper ≡ keeper
  pub good : HasFirstBad service (records keeper) None
  pub recovered_is : IsAsRecovered service (recovered good.rs) x
  pub old_is : x.old_base ≡ ends_old good.rs
  pub node : here_of records service past x ≡ (restart id (begin (down_node (log_of service past (records keeper)) None))).node
