-- Nodes that ran, and what was refused before they did.
use Rattle.std.proofs.Common.{◌≡◌, ◌<◌, ℕ, Bool, true, false, IsTrue, List, [], drop, ◌++◌, ◌+◌, inl, inr, refl, sym}
use Rattle.std.specs.Prelude.{None, Some}
use Rattle.rex_traits.specs.Chains.{Answer}
use Rattle.rex_disk.specs.Calls.{Call}
use Rattle.std.proofs.lemmas.List.{append-nil}
use Rattle.rex_syntax.specs.declared.service.Declarations.{Declarations}
use Rattle.rex_journal.specs.Giving.{Goes}
use Rattle.rex_journal.specs.Opening.{CountsAs, IsCauseIn, Leaves}
use Rattle.rex_wal.specs.Journal.{Holds, IsBad}
use Rattle.rex_wal.specs.Appending.{Appends}
use Rattle.rex_wal.specs.Keeping.{AllStandFor, WalValue}
use Rattle.rex_wal.specs.Opening as opening
use Rattle.rex_journal.specs.declared.fault.OpenFault.{OpenFault}
use Rattle.rex_identity.specs.Identity.{IdentityValue, identity_bytes}
use Rattle.rex_identity.specs.Claims.{AppendsBelow, IsFirst, OwnedValue}
use Rattle.rex_group.specs.Groups.{HoldAll}
use Rattle.rex_group.specs.Keeping.{FlushesGroup, GroupValue, Waits}
use Rattle.rex_process.specs.Keeping.{ByAppendsAndFlushes}
use Rattle.rex_process.specs.Process.{IsProcess, ProcessValue}
use Rattle.rex_process.specs.Starting.{HasStarted, IsStartFault}
use Rattle.rex_process.specs.declared.starting.StartFault.{StartFault}
use Rattle.rex_serve.specs.Serving.{EndsAs, GrowsBy}
use Rattle.rex_serve.specs.declared.serving.Ended.{Ended}
use Rattle.rexnode_cli.specs.Statuses.{ended_status, open_status, start_status}
use Rattle.rexnode_cli.specs.Running.{IsNotOwned, IsOwnedAs, IsUntouched, Runs, RunsOn, RunsOwned}

-- bytes that didn't grow
pub still : (P : List ℕ → Type 0) (before : List ℕ) → P [] → GrowsBy P before before
still P before holds = record { more = []; grown = sym (append-nil before); holds = holds }

-- what holds of the bytes by which some grew implies something else of them
pub grows_as : {P Q : List ℕ → Type 0} {before now : List ℕ} → ((more : List ℕ) → P more → Q more) → GrowsBy P before now → GrowsBy Q before now
grows_as implies g = record { more = g.more; grown = g.grown; holds = implies g.more g.holds }

-- nothing was read or written
pub untouched : (before : List ℕ) → IsUntouched [] before before
untouched before = record { unread = refl; unwritten = refl }

-- frames were served
pub has_served : {K : Type 0} (records kept : K → List (List ℕ)) (faults : K → ℕ) (service : Declarations) (id nodes seed : ℕ) (keeper : K) (first last : ProcessValue K) (ended : Ended) (status : ℕ) (back : K) (before now given taken : List ℕ) → IsProcess records faults first
    → HasStarted records service id nodes seed keeper first → status ≡ ended_status ended → back ≡ last.node.keeper → GrowsBy (λ input. EndsAs records kept faults ended first last input before now) given taken
    → GrowsBy (λ input. Runs records kept faults service id nodes seed keeper input before now status back) given taken
has_served records kept faults service id nodes seed keeper first last ended status back before now given taken process started told is served =
    grows_as (λ input ends. inl (record { first = first; process = process; started = started; does = record { last = last; ended = ended; served = ends; told = told; keeper_is = is } })) served

-- the process didn't come up
pub not_started : {K : Type 0} (records kept : K → List (List ℕ)) (faults : K → ℕ) (service : Declarations) (id nodes seed : ℕ) (keeper : K) (fault : StartFault) (status : ℕ) (back : K) (before given : List ℕ) → IsStartFault service (records keeper) fault → status ≡ start_status fault → back ≡ keeper
    → GrowsBy (λ input. Runs records kept faults service id nodes seed keeper input before before status back) given given
not_started records kept faults service id nodes seed keeper fault status back before given cause told same =
    still (λ input. Runs records kept faults service id nodes seed keeper input before before status back) given (inr (record { fault = fault; cause = cause; told = told }, (untouched before, same)))

-- the node ran with a keeper of its own
pub has_owned : {K : Type 0} (records : K → List (List ℕ)) (gives : K → List ℕ → Answer → K → Type 0) (faults : K → ℕ) (service : Declarations) (identity : IdentityValue) (keeper : K) (grouped last : GroupValue (OwnedValue K)) (status : ℕ) (back : K) (before now given taken : List ℕ)
    → IsOwnedAs records gives identity keeper grouped → ByAppendsAndFlushes Waits (FlushesGroup (AppendsBelow gives)) grouped last → back ≡ last.keeper.keeper → IsFirst (identity_bytes identity) (records back) → HoldAll (drop 1 (records back)) last.kept
    → GrowsBy (λ input. Runs (λ (g : GroupValue (OwnedValue K)). g.kept ++ g.waits) (λ (g : GroupValue (OwnedValue K)). g.kept) (λ (g : GroupValue (OwnedValue K)). faults g.keeper.keeper)
    service identity.id identity.nodes identity.seed grouped input before now status last) given taken
    → GrowsBy (λ input. RunsOwned records gives faults service identity keeper input before now status back) given taken
has_owned records gives faults service identity keeper grouped last status back before now given taken own moved is first holds runs =
    grows_as (λ input r. inl (record { grouped = grouped; own = own; runs = record { last = last; done = r; moved = moved; keeper_is = is; first = first; holds = holds } })) runs

-- the keeper is another's, or wasn't claimed
pub not_owned : {K : Type 0} (records : K → List (List ℕ)) (gives : K → List ℕ → Answer → K → Type 0) (faults : K → ℕ) (service : Declarations) (identity : IdentityValue) (keeper : K) (status : ℕ) (back : K) (before given : List ℕ)
    → IsNotOwned records faults identity keeper status back → GrowsBy (λ input. RunsOwned records gives faults service identity keeper input before before status back) given given
not_owned records gives faults service identity keeper status back before given refused =
    still (λ input. RunsOwned records gives faults service identity keeper input before before status back) given (inr (refused, untouched before))

module _ {D : Type 0} (meets : D → Bool) (seen : D → List ℕ) (may_leave : D → List ℕ → Type 0) (gives : D → Call → Bool → D → Type 0) (faults : D → ℕ)
    (service : Declarations) (identity : IdentityValue) (disk : D) where
  -- the node ran on the journal of a disk
  pub has_opened : (journal last : WalValue D) (status : ℕ) (back : D) (before now given taken : List ℕ) → (IsTrue (meets disk) → Holds (seen disk) journal.records)
      → (IsTrue (meets journal.disk) → AllStandFor (may_leave journal.disk) journal.records None) → meets journal.disk ≡ meets disk → Goes gives disk journal.disk
      → back ≡ last.disk → (IsTrue (meets back) → last.broken ≡ false → AllStandFor (may_leave back) last.records None)
      → (IsTrue (meets back) → last.broken ≡ true → (lost : List ℕ) × AllStandFor (may_leave back) last.records (Some lost)) → (last.broken ≡ true → faults disk < faults back)
      → GrowsBy (λ input. RunsOwned (λ (j : WalValue D). j.records) (λ old bytes result new. Appends gives meets may_leave faults old bytes result new)
      (λ (j : WalValue D). faults j.disk + j.refused) service identity journal input before now status last) given taken
      → GrowsBy (λ input. RunsOn meets seen may_leave gives faults service identity disk input before now status back) given taken
  has_opened journal last status back before now given taken holds safe met opened is stand torn failed runs =
      grows_as (λ input r. inl (record { journal = journal; holds = holds; safe = safe; met = met; opened = opened; runs = record { last = last; done = r; disk_is = is; stand = stand; torn = torn; failed = failed } })) runs

  -- the journal wasn't opened
  pub not_opened : (fault : OpenFault) (status : ℕ) (back : D) (before given : List ℕ) → (IsTrue (meets disk) → IsCauseIn IsBad (seen disk) fault) → (IsTrue (meets disk) → Leaves IsBad (seen disk) (seen back) fault) → CountsAs fault (faults disk) (faults back)
      → opening.EndsAs gives disk back fault → status ≡ open_status fault
      → GrowsBy (λ input. RunsOn meets seen may_leave gives faults service identity disk input before before status back) given given
  not_opened fault status back before given cause kept counted ended told =
      still (λ input. RunsOn meets seen may_leave gives faults service identity disk input before before status back) given
      (inr (record { fault = fault; cause = cause; kept = kept; counted = counted; ended = ended; told = told }, untouched before))
