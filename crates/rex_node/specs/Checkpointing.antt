-- How a node writes down the state that it has replayed.
use Rattle.std.specs.Prelude.{◌≡◌, ℕ, ◌<◌, Bool, false, List, [], ◌∷◌, ◌++◌, Result, Ok, Err, Option, Some, None, if◌then◌else◌}
use Rattle.rex_ballot.specs.Proposals.{IsValue}
use Rattle.rex_syntax.specs.declared.service.Declarations.{Declarations}
use Rattle.rex_state.specs.Value.{StateValue}
use Rattle.rex_syntax.specs.declared.version.Version.{Version}
use Rattle.rex_cluster.specs.Records.{is_old}
use Rattle.rex_snapshot.specs.Allowed.{version_in}
use Rattle.rex_snapshot.specs.Reading.{state_in}
use Rattle.rex_durable.specs.declared.records.Rec.{Rec}
use Rattle.rex_durable.specs.declared.records.Rec.TheVariants.{Checkpoint}
use Rattle.rex_traits.specs.Chains.{Answer}
use Rattle.rex_traits.specs.declared.keeper.KeepFault.{KeepFault}
use Rattle.rex_traits.specs.declared.keeper.KeepFault.TheVariants.{Failed, OutOfMemory}
use Rattle.rex_node.specs.Parts.{ActingValue, Falls, NodeValue, Stands, failed_records, fallen, state_of}

-- the state that a node has replayed: that of an active one is where its live events begin
abbrev pub replayed_with : Option ActingValue → StateValue → StateValue
replayed_with None s = s
replayed_with (Some a) s = a.recorder.start

abbrev pub replayed_state : {K : Type 0} → NodeValue K → StateValue
replayed_state x = replayed_with x.acting (state_of x)

-- the node whose last checkpoint is of what it has replayed, in a version
abbrev pub rebased : {K : Type 0} → Version → NodeValue K → StateValue → NodeValue K
rebased version x s = record x { base = x.replayed; old_base = is_old version; start = s; ahead = None }

-- a node that is down, whose last checkpoint was kept or lost
abbrev pub fallen_with : {K : Type 0} → Bool → NodeValue K → NodeValue K
fallen_with kept x = fallen (record x { base = if kept then x.replayed else x.base })

-- the record of a checkpoint of so many values: its snapshot spells the state in the version, and isn't too long to be written down
pub record IsCheckpoint (service : Declarations) (version : Version) (deltas : ℕ) (s : StateValue) (r : Rec) : Type 0 where
  pub snapshot : List ℕ
  pub is : r ≡ Checkpoint deltas snapshot
  pub spells : state_in service snapshot ≡ Ok s
  pub version_is : version_in snapshot ≡ version
  pub short : IsValue snapshot

-- the checkpoint is kept
pub record Saves {K : Type 0} (records : K → List (List ℕ)) (faults : K → ℕ) (gives : K → List ℕ → Answer → K → Type 0) (version : Version) (before after : NodeValue K) (s : StateValue) (bytes : List ℕ) : Type 0 where
  pub parts : after ≡ record (rebased version before s) { keeper = after.keeper }
  pub records_are : records after.keeper ≡ records before.keeper ++ bytes ∷ []
  pub faults_are : faults after.keeper ≡ faults before.keeper
  pub answer : gives before.keeper bytes (Ok tt) after.keeper

-- its append failed, and the node is down
pub record FallsSaving {K : Type 0} (records : K → List (List ℕ)) (faults : K → ℕ) (gives : K → List ℕ → Answer → K → Type 0) (before after : NodeValue K) (bytes : List ℕ) : Type 0 where
  pub kept : Bool
  pub parts : after ≡ record (fallen_with kept before) { keeper = after.keeper }
  pub records_are : records after.keeper ≡ failed_records kept (records before.keeper) bytes
  pub faults_are : faults before.keeper < faults after.keeper
  pub answer : gives before.keeper bytes (Err Failed) after.keeper

abbrev pub SavesOr : {K : Type 0} → (K → List (List ℕ)) → (K → ℕ) → (K → List ℕ → Answer → K → Type 0) → Version → (before after : NodeValue K) → StateValue → List ℕ → Result (Unit {0}) KeepFault → Type 0
SavesOr records faults gives version before after s bytes (Ok x) = Saves records faults gives version before after s bytes
SavesOr records faults gives version before after s bytes (Err Failed) = FallsSaving records faults gives before after bytes
SavesOr records faults gives version before after s bytes (Err OutOfMemory) = Stands records faults gives before after

-- the last checkpoint is kept again, in the new version
pub record Migrates {K : Type 0} (records : K → List (List ℕ)) (faults : K → ℕ) (gives : K → List ℕ → Answer → K → Type 0) (before after : NodeValue K) (bytes : List ℕ) : Type 0 where
  pub parts : after ≡ record before { keeper = after.keeper; old_base = false }
  pub records_are : records after.keeper ≡ records before.keeper ++ bytes ∷ []
  pub faults_are : faults after.keeper ≡ faults before.keeper
  pub answer : gives before.keeper bytes (Ok tt) after.keeper

abbrev pub MigratesOr : {K : Type 0} → (K → List (List ℕ)) → (K → ℕ) → (K → List ℕ → Answer → K → Type 0) → (before after : NodeValue K) → List ℕ → Result (Unit {0}) KeepFault → Type 0
MigratesOr records faults gives before after bytes (Ok x) = Migrates records faults gives before after bytes
MigratesOr records faults gives before after bytes (Err Failed) = Falls records faults gives before after bytes
MigratesOr records faults gives before after bytes (Err OutOfMemory) = Stands records faults gives before after
