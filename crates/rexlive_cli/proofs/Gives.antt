-- What the status says of what was due.
use Rattle.std.proofs.Common.{◌≡◌, ℕ, List, [], ◌++◌, Option, Some, None, inl, inr, ◌⊎◌, sym, subst, ◌∙◌}
use Rattle.rex_traits.specs.Causes.{Rose}
use Rattle.rex_traits.specs.Growth.{ForGrowth}
use Rattle.rex_syntax.specs.declared.service.Declarations.{Declarations}
use Rattle.rex_answer.specs.Due.{Due}
use Rattle.rex_answer.specs.Causes.{Judges}
use Rattle.rex_answer.specs.Outcome.{Gives, Ends}
use Rattle.rex_answer.proofs.Judged.{unread, unchecked, never_two}
use Rattle.rexlive_cli.specs.Outcome.{GivesSome, HasChecked, IsCaused, IsPlayable, played_service}
use Rattle.rexlive_cli.specs.declared.recording.Recording.{Recording}

-- what is due was given
pub gives_some : (IsDue : Due → Type 0) (d : Due) (taken_before taken_now : List ℕ) (status : ℕ) → IsDue d → Gives d taken_before taken_now status → GivesSome IsDue taken_before taken_now status
gives_some IsDue d taken_before taken_now status is gives = record {
  exact = λ low. (d, is, (gives.exact low).0, (gives.exact low).1);
  nothing = gives.nothing;
  front = λ high. inr (d, is, gives.front high);
}

-- the same of all bytes by which others grew
pub given_for : (before now : List ℕ) (IsDue : List ℕ → Due → Type 0) (d : Due) (taken_before taken_now : List ℕ) (status : ℕ) → ForGrowth before now (λ input. IsDue input d) → Gives d taken_before taken_now status
    → ForGrowth before now (λ input. GivesSome (IsDue input) taken_before taken_now status)
given_for before now IsDue d taken_before taken_now status is gives = λ input grown. gives_some (IsDue input) d taken_before taken_now status (is input grown) gives

caused : (recording : Recording) (input : List ℕ) (status : ℕ) → Judges (played_service recording input) status → IsCaused (Some recording) input status
caused recording input status j = record {
  unread = unread (played_service recording input) status j;
  usage = (λ two. absurd (never_two (played_service recording input) status j two), λ none. absurd cc);
  unchecked = unchecked (played_service recording input) status j;
}

-- what the status says of such bytes
pub caused_for : (before now : List ℕ) (recording : Recording) (status given : ℕ) → given ≡ status → ForGrowth before now (λ input. Judges (played_service recording input) status)
    → ForGrowth before now (λ input. IsCaused (Some recording) input given)
caused_for before now recording status given same judges = λ input grown. subst (IsCaused (Some recording) input) (sym same) (caused recording input status (judges input grown))

-- a checked service is answered 0, or 6, where the sink counted no fault
ended : (o : Option Declarations) (d : Due) (status faults_before faults_now : ℕ) → Judges o d.status → Ends d faults_before faults_now status → HasChecked o → (Rose faults_before faults_now → ⊥) → (status ≡ 0) ⊎ (status ≡ 6)
ended None d status faults_before faults_now j ends checked quiet = absurd checked
ended (Some service) d status faults_before faults_now (inl j) (inl e) checked quiet = inl (e ∙ j.0)
ended (Some service) d status faults_before faults_now (inl j) (inr (inl e)) checked quiet = absurd (quiet e.1)
ended (Some service) d status faults_before faults_now (inl j) (inr (inr e)) checked quiet = inr e
ended (Some service) d status faults_before faults_now (inr j) ends checked quiet = absurd (j.1 checked)

pub complete_for : (before now : List ℕ) (recording : Recording) (Q : Type 0) (d : Due) (status faults_before faults_now : ℕ) → ForGrowth before now (λ input. Judges (played_service recording input) d.status)
    → Ends d faults_before faults_now status → ForGrowth before now (λ input. IsPlayable (Some recording) input → Q → (Rose faults_before faults_now → ⊥) → (status ≡ 0) ⊎ (status ≡ 6))
complete_for before now recording Q d status faults_before faults_now judges ends =
    λ input grown checked q quiet. ended (played_service recording input) d status faults_before faults_now (judges input grown) ends checked quiet
