-- What the status of a run says.
use Rattle.std.specs.Prelude.{◌≡◌, ◌<◌, ◌⊎◌, ◌++◌, ℕ, List}
use Rattle.rex_traits.specs.Causes.{Rose}
use Rattle.rex_traits.specs.Growth.{GrowsByFront}
use Rattle.rex_answer.specs.Due.{Due}

-- below 4 the status and the bytes that were taken are what is due; at 4 none were taken, and above it a front of what is due
pub record Gives (due : Due) (taken_before taken_now : List ℕ) (status : ℕ) : Type 0 where
  pub exact : status < 4 → (status ≡ due.status) × (taken_now ≡ taken_before ++ due.text)
  pub nothing : status ≡ 4 → taken_now ≡ taken_before
  pub front : 4 < status → GrowsByFront taken_before taken_now due.text

-- the status that is due, or 5 where the sink counted a fault, or 6
abbrev pub Ends : Due → (before after : ℕ) → ℕ → Type 0
Ends due before after status = (status ≡ due.status) ⊎ (((status ≡ 5) × Rose before after) ⊎ (status ≡ 6))
