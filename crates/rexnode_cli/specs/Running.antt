-- How a node comes up on a disk: with which records, and what it does then, as which frames it answers; or why it doesn't.
use Rattle.std.specs.Prelude.{◌≡◌, ◌≢◌, ◌⊎◌, ◌<◌, ◌∷◌, ◌++◌, ◌+◌, [], ℕ, Bool, true, false, IsTrue, List, None, Some, Ok, drop}
use Rattle.rex_traits.specs.Chains.{Answer}
use Rattle.rex_disk.specs.Calls.{Call}
use Rattle.rex_syntax.specs.declared.service.Declarations.{Declarations}
use Rattle.rex_journal.specs.Giving.{Goes}
use Rattle.rex_journal.specs.Opening.{CountsAs, IsCauseIn, Leaves}
use Rattle.rex_wal.specs.Journal.{Holds, IsBad}
use Rattle.rex_wal.specs.Appending.{Appends}
use Rattle.rex_wal.specs.Keeping.{AllStandFor, WalValue}
use Rattle.rex_wal.specs.Opening as opening
use Rattle.rex_journal.specs.declared.fault.OpenFault.{OpenFault}
use Rattle.rex_identity.specs.Identity.{IdentityValue, identity_bytes}
use Rattle.rex_identity.specs.Claims as claims
use Rattle.rex_identity.specs.Claims.{AppendsBelow, IsCause, IsFirst, OwnedValue}
use Rattle.rex_identity.specs.declared.fault.ClaimFault.{ClaimFault}
use Rattle.rex_group.specs.Groups.{HoldAll}
use Rattle.rex_group.specs.Keeping.{FlushesGroup, GroupValue, Waits}
use Rattle.rex_process.specs.Keeping.{ByAppendsAndFlushes}
use Rattle.rex_process.specs.Process.{IsProcess, ProcessValue}
use Rattle.rex_process.specs.Starting.{HasStarted, IsStartFault}
use Rattle.rex_process.specs.declared.starting.StartFault.{StartFault}
use Rattle.rex_serve.specs.Serving.{EndsAs}
use Rattle.rex_serve.specs.declared.serving.Ended.{Ended}
use Rattle.rexnode_command.specs.Command.{CommandValue}
use Rattle.rexnode_cli.specs.Statuses.{claim_status, ended_status, open_status, start_status}

-- whose journal a command and a service's digest ask for
abbrev pub identity_of : CommandValue → List ℕ → IdentityValue
identity_of c digest = record { cluster = c.cluster; id = c.id; nodes = c.nodes; seed = c.seed; service = digest }

-- ---- a keeper

module _ {K : Type 0} (records : K → List (List ℕ)) (faults : K → ℕ) (service : Declarations) (id nodes seed : ℕ) (keeper : K) where
  -- a process came up with a keeper's records, and did this
  pub record HasProcess (Does : ProcessValue K → Type 0) : Type 0 where
    pub first : ProcessValue K
    pub process : IsProcess records faults first
    pub started : HasStarted records service id nodes seed keeper first
    pub does : Does first

  -- it didn't come up with them
  pub record HasNotStarted (status : ℕ) : Type 0 where
    pub fault : StartFault
    pub cause : IsStartFault service (records keeper) fault
    pub told : status ≡ start_status fault

  -- it did this; or it didn't come up, and this was left untouched
  abbrev pub Starts : (ProcessValue K → Type 0) → Type 0 → ℕ → Type 0
  Starts Does Untouched status = HasProcess Does ⊎ (HasNotStarted status × Untouched)

-- ---- a keeper whose first record says whose it is, and whose others are read as groups

-- it has the identity's record first, or had none, and that one was appended; it is that identity's
pub record IsClaimedAs {K : Type 0} (records : K → List (List ℕ)) (gives : K → List ℕ → Answer → K → Type 0) (identity : IdentityValue) (keeper : K) (owned : OwnedValue K) : Type 0 where
  pub claimed : records owned.keeper ≡ identity_bytes identity ∷ drop 1 (records keeper)
  pub identity_is : owned.identity ≡ identity
  pub same : records keeper ≢ [] → owned.keeper ≡ keeper
  pub appended : records keeper ≡ [] → gives keeper (identity_bytes identity) (Ok tt) owned.keeper

-- so it was claimed, and the records behind the first one are read as groups: those that they hold are kept for good, and none waits
pub record IsOwnedAs {K : Type 0} (records : K → List (List ℕ)) (gives : K → List ℕ → Answer → K → Type 0) (identity : IdentityValue) (keeper : K) (grouped : GroupValue (OwnedValue K)) : Type 0 where
  pub claim : IsClaimedAs records gives identity keeper grouped.keeper
  pub holds : HoldAll (drop 1 (records keeper)) grouped.kept
  pub none : grouped.waits ≡ []

-- it isn't the identity's, or failed as it was given that record, which it counted; so it is handed back, and as it was, if it had records
pub record IsNotOwned {K : Type 0} (records : K → List (List ℕ)) (faults : K → ℕ) (identity : IdentityValue) (keeper : K) (status : ℕ) (back : K) : Type 0 where
  pub fault : ClaimFault
  pub cause : IsCause (identity_bytes identity) (records keeper) fault
  pub counted : claims.CountsAs (faults keeper) (faults back) fault
  pub same : records keeper ≢ [] → back ≡ keeper
  pub told : status ≡ claim_status fault

-- once something was done to it, by appends that wait and flushes of groups, it is handed back: its first record is the identity's, and the others hold
-- those that are kept for good
pub record IsHandedBack {K : Type 0} (records : K → List (List ℕ)) (gives : K → List ℕ → Answer → K → Type 0) (identity : IdentityValue) (grouped : GroupValue (OwnedValue K))
    (Done : GroupValue (OwnedValue K) → Type 0) (back : K) : Type 0 where
  pub last : GroupValue (OwnedValue K)
  pub done : Done last
  pub moved : ByAppendsAndFlushes Waits (FlushesGroup (AppendsBelow gives)) grouped last
  pub keeper_is : back ≡ last.keeper.keeper
  pub first : IsFirst (identity_bytes identity) (records back)
  pub holds : HoldAll (drop 1 (records back)) last.kept

module _ {K : Type 0} (records : K → List (List ℕ)) (gives : K → List ℕ → Answer → K → Type 0) (faults : K → ℕ) (identity : IdentityValue) (keeper : K) where
  -- what is run with such a keeper, by its records, those of them that are kept for good, and the count of its faults
  abbrev pub Run : Type 1
  Run = (GroupValue (OwnedValue K) → List (List ℕ)) → (GroupValue (OwnedValue K) → List (List ℕ)) → (GroupValue (OwnedValue K) → ℕ) → GroupValue (OwnedValue K) → Type 0

  -- it is the identity's, and this was run with the records that those behind the first one hold
  pub record HasOwned (Runs : Run) : Type 0 where
    pub grouped : GroupValue (OwnedValue K)
    pub own : IsOwnedAs records gives identity keeper grouped
    pub runs : Runs (λ g. g.kept ++ g.waits) (λ g. g.kept) (λ g. faults g.keeper.keeper) grouped

  -- this was run; or it isn't the identity's, and this was left untouched
  abbrev pub Claims : Run → Type 0 → ℕ → K → Type 0
  Claims Runs Untouched status back = HasOwned Runs ⊎ (IsNotOwned records faults identity keeper status back × Untouched)

-- ---- a disk

module _ {D : Type 0} (meets : D → Bool) (seen : D → List ℕ) (may_leave : D → List ℕ → Type 0) (gives : D → Call → Bool → D → Type 0) (faults : D → ℕ)
    (disk : D) where
  -- the journal on the disk was opened by calls that didn't fail: it has the records that the disk holds, and a stop leaves no others; this was run with it
  pub record HasOpened (Runs : (WalValue D → List (List ℕ)) → (WalValue D → List ℕ → Answer → WalValue D → Type 0) → (WalValue D → ℕ) → WalValue D → Type 0) : Type 0 where
    pub journal : WalValue D
    pub holds : IsTrue (meets disk) → Holds (seen disk) journal.records
    pub safe : IsTrue (meets journal.disk) → AllStandFor (may_leave journal.disk) journal.records None
    pub met : meets journal.disk ≡ meets disk
    pub opened : Goes gives disk journal.disk
    pub runs : Runs (λ j. j.records) (λ old bytes result new. Appends gives meets may_leave faults old bytes result new) (λ j. faults j.disk + j.refused) journal

  -- it was not: it is bad, or memory was short, and then nothing was written; or the disk failed. So the disk is handed back
  pub record IsNotOpened (status : ℕ) (back : D) : Type 0 where
    pub fault : OpenFault
    pub cause : IsTrue (meets disk) → IsCauseIn IsBad (seen disk) fault
    pub kept : IsTrue (meets disk) → Leaves IsBad (seen disk) (seen back) fault
    pub counted : CountsAs fault (faults disk) (faults back)
    pub ended : opening.EndsAs gives disk back fault
    pub told : status ≡ open_status fault

  -- this was run; or the journal wasn't opened, and this was left untouched
  abbrev pub Opens : ((WalValue D → List (List ℕ)) → (WalValue D → List ℕ → Answer → WalValue D → Type 0) → (WalValue D → ℕ) → WalValue D → Type 0) → Type 0 → ℕ → D → Type 0
  Opens Runs Untouched status back = HasOpened Runs ⊎ (IsNotOpened status back × Untouched)

-- once something was done to the journal on a disk, the disk is handed back: what a stop leaves of it holds the journal's records, or one more where an
-- append broke that, and then the disk failed, which it counted
pub record IsClosed {D : Type 0} (meets : D → Bool) (may_leave : D → List ℕ → Type 0) (faults : D → ℕ) (disk : D) (Done : WalValue D → Type 0) (back : D) : Type 0 where
  pub last : WalValue D
  pub done : Done last
  pub disk_is : back ≡ last.disk
  pub stand : IsTrue (meets back) → last.broken ≡ false → AllStandFor (may_leave back) last.records None
  pub torn : IsTrue (meets back) → last.broken ≡ true → (lost : List ℕ) × AllStandFor (may_leave back) last.records (Some lost)
  pub failed : last.broken ≡ true → faults disk < faults back

-- ---- frames: the bytes that the source gave, and those that the sink had taken before and has taken now

-- nothing was read and nothing written
pub record IsUntouched (input before now : List ℕ) : Type 0 where
  pub unread : input ≡ []
  pub unwritten : now ≡ before

-- a process answered the frames of the input, until that ended as the status says; its records are kept for good as that end leaves them, by the keeper
-- that is handed back
pub record HasServed {K : Type 0} (records kept : K → List (List ℕ)) (faults : K → ℕ) (first : ProcessValue K) (input before now : List ℕ) (status : ℕ) (back : K) : Type 0 where
  pub last : ProcessValue K
  pub ended : Ended
  pub served : EndsAs records kept faults ended first last input before now
  pub told : status ≡ ended_status ended
  pub keeper_is : back ≡ last.node.keeper

-- one that came up with a keeper's records did so; or none did, and the keeper is handed back as it was
abbrev pub Runs : {K : Type 0} → (K → List (List ℕ)) → (K → List (List ℕ)) → (K → ℕ) → Declarations → ℕ → ℕ → ℕ → K → List ℕ → List ℕ → List ℕ → ℕ → K → Type 0
Runs records kept faults service id nodes seed keeper input before now status back =
    Starts records faults service id nodes seed keeper (λ first. HasServed records kept faults first input before now status back)
    (IsUntouched input before now × (back ≡ keeper)) status

-- one that came up with the records that those behind the identity's hold did so
abbrev pub RunsOwned : {K : Type 0} → (K → List (List ℕ)) → (K → List ℕ → Answer → K → Type 0) → (K → ℕ) → Declarations → IdentityValue → K → List ℕ → List ℕ → List ℕ → ℕ → K → Type 0
RunsOwned records gives faults service identity keeper input before now status back =
    Claims records gives faults identity keeper
    (λ all kept failed grouped.
    IsHandedBack records gives identity grouped (λ last. Runs all kept failed service identity.id identity.nodes identity.seed grouped input before now status last) back)
    (IsUntouched input before now) status back

-- one that came up with the journal on a disk did so
abbrev pub RunsOn : {D : Type 0} → (D → Bool) → (D → List ℕ) → (D → List ℕ → Type 0) → (D → Call → Bool → D → Type 0) → (D → ℕ) → Declarations → IdentityValue → D
    → List ℕ → List ℕ → List ℕ → ℕ → D → Type 0
RunsOn meets seen may_leave gives faults service identity disk input before now status back =
    Opens meets seen may_leave gives faults disk
    (λ records appends failed journal. IsClosed meets may_leave faults disk (λ last. RunsOwned records appends failed service identity journal input before now status last) back)
    (IsUntouched input before now) status back
