-- The trace of a journal, as the bytes that the sink had taken before and has taken now: the lines of all that a node knows that comes up with it.
use Rattle.std.specs.Prelude.{◌≡◌, ◌≢◌, ◌⊎◌, [], ℕ, Bool, List}
use Rattle.rex_traits.specs.Chains.{Answer}
use Rattle.rex_disk.specs.Calls.{Call}
use Rattle.rex_syntax.specs.declared.service.Declarations.{Declarations}
use Rattle.rex_answer.specs.Outcome.{Gives}
use Rattle.rex_identity.specs.Identity.{IdentityValue}
use Rattle.rex_process.specs.Tracing.{known_text}
use Rattle.rexnode_cli.specs.Running.{Claims, Opens, Starts}
use Rattle.rexnode_cli.specs.declared.statuses.TheConstants.{WRITE_FAILED, OUT_OF_MEMORY}

-- the sink took the whole text, and the status is 0; or it took a front of it, where a write failed or memory was short
pub record IsWritten (text before now : List ℕ) (status : ℕ) : Type 0 where
  pub gives : Gives (record { status = 0; text = text }) before now status
  pub told : (status ≡ 0) ⊎ ((status ≡ WRITE_FAILED) ⊎ (status ≡ OUT_OF_MEMORY))

-- ---- a keeper

-- the lines of all that a process knows that came up with a keeper's records; or none, where it didn't
abbrev pub Traces : {K : Type 0} → (K → List (List ℕ)) → (K → ℕ) → Declarations → ℕ → ℕ → ℕ → K → List ℕ → List ℕ → ℕ → Type 0
Traces records faults service id nodes seed keeper before now status =
    Starts records faults service id nodes seed keeper (λ first. IsWritten (known_text records first) before now status) (now ≡ before) status

-- it has no records, and so its trace is empty
pub record HasNoRecords {K : Type 0} (records : K → List (List ℕ)) (keeper : K) (before now : List ℕ) (status : ℕ) : Type 0 where
  pub none : records keeper ≡ []
  pub unwritten : now ≡ before
  pub told : status ≡ 0

-- it has records: the first one is the identity's, and the trace is that of those that the others hold; or it isn't
pub record HasRecords {K : Type 0} (records : K → List (List ℕ)) (gives : K → List ℕ → Answer → K → Type 0) (faults : K → ℕ) (service : Declarations) (identity : IdentityValue) (keeper : K)
    (before now : List ℕ) (status : ℕ) : Type 0 where
  pub some : records keeper ≢ []
  pub claims : Claims records gives faults identity keeper
      (λ all kept failed grouped. Traces all failed service identity.id identity.nodes identity.seed grouped before now status) (now ≡ before) status keeper

abbrev pub TracesOwned : {K : Type 0} → (K → List (List ℕ)) → (K → List ℕ → Answer → K → Type 0) → (K → ℕ) → Declarations → IdentityValue → K → List ℕ → List ℕ → ℕ → Type 0
TracesOwned records gives faults service identity keeper before now status =
    HasNoRecords records keeper before now status ⊎ HasRecords records gives faults service identity keeper before now status

-- ---- a disk

-- that of the journal on a disk, which is handed back as opening left it; or none, where it wasn't opened
abbrev pub TracesOn : {D : Type 0} → (D → Bool) → (D → List ℕ) → (D → List ℕ → Type 0) → (D → Call → Bool → D → Type 0) → (D → ℕ) → Declarations → IdentityValue → D
    → List ℕ → List ℕ → ℕ → D → Type 0
TracesOn meets seen may_leave gives faults service identity disk before now status back =
    Opens meets seen may_leave gives faults disk
    (λ records appends failed journal. TracesOwned records appends failed service identity journal before now status × (back ≡ journal.disk)) (now ≡ before) status back
