-- What an answer's status says of the service is what each status is caused by.
use Rattle.std.proofs.Common.{◌≡◌, ◌⊎◌, ℕ, List, Option, Some, None, refl, subst}
use Rattle.std.specs.Prelude.{◌↔◌}
use Rattle.rex_syntax.specs.declared.service.Declarations.{Declarations}
use Rattle.rex_traits.specs.Causes.{Rose}
use Rattle.rex_traits.specs.Growth.{ForGrowth}
use Rattle.rex_answer.specs.Due.{Due}
use Rattle.rex_answer.specs.Outcome.{Gives, Ends}
use Rattle.rex_answer.specs.Causes.{Judges, IsBroken}
use Rattle.rex_answer.proofs.Judged.{unread, unchecked, never_two}
use Rattle.rex_answer.proofs.Ended.{ended_well}
use Rattle.rex_cli.specs.Causes.{JudgesFor, IsCaused, service_in}
use Rattle.rex_command.specs.declared.commands.Command.{Command}
use Rattle.rex_command.specs.declared.commands.Command.TheVariants.{Run, Trace, Check, Generate, Soak}

-- of a command that asks for a service
judged : (command : Command) (o : Option Declarations) (status : ℕ) → Judges o status → ((status ≡ 1) ↔ (o ≡ None)) × ((status ≡ 2) ↔ (Some command ≡ None)) × ((status ≡ 3) ↔ IsBroken o)
judged command o status j = (unread o status j, (λ two. absurd (never_two o status j two), λ none. absurd cc), unchecked o status j)

caused : (command : Option Command) (input : List ℕ) (status : ℕ) → JudgesFor command input status → IsCaused command input status
caused None input status j = record {
  unread = (λ one. absurd cc, λ h. absurd h);
  usage = (λ _. refl, λ _. j);
  unchecked = (λ three. absurd cc, λ h. absurd h);
}
caused (Some (Generate seed size)) input status j = record {
  unread = (λ one. absurd cc, λ h. absurd h);
  usage = (λ two. absurd cc, λ none. absurd cc);
  unchecked = (λ three. absurd cc, λ h. absurd h);
}
caused (Some (Run workers journal)) input status j = let p = judged (Run workers journal) (service_in (Run workers journal) input) status j in record { unread = p.0; usage = p.1; unchecked = p.2 }
caused (Some Trace) input status j = let p = judged Trace (service_in Trace input) status j in record { unread = p.0; usage = p.1; unchecked = p.2 }
caused (Some Check) input status j = let p = judged Check (service_in Check input) status j in record { unread = p.0; usage = p.1; unchecked = p.2 }
caused (Some (Soak seed size workers)) input status j = record {
  unread = (λ one. absurd cc, λ h. absurd h);
  usage = (λ two. absurd cc, λ none. absurd cc);
  unchecked = (λ three. absurd cc, λ h. absurd h);
}

-- of all bytes by which others grew
pub caused_for : (before now : List ℕ) (command : Option Command) (status : ℕ) → ForGrowth before now (λ input. JudgesFor command input status) → ForGrowth before now (λ input. IsCaused command input status)
caused_for before now command status judges = λ input grown. caused command input status (judges input grown)

-- where 0 is due of such bytes and the sink counted no fault, the status is 0 or 6, whatever the source counted
pub complete_for : (Q : Type 0) (before now : List ℕ) (due : List ℕ → Due) (d : Due) (status faults_before faults_now : ℕ) → ForGrowth before now (λ input. d ≡ due input) → Ends d faults_before faults_now status
    → ForGrowth before now (λ input. (due input).status ≡ 0 → Q → (Rose faults_before faults_now → ⊥) → (status ≡ 0) ⊎ (status ≡ 6))
complete_for Q before now due d status faults_before faults_now is ends = λ input grown zero q quiet. ended_well d (due input) status faults_before faults_now (is input grown) ends zero quiet

-- what is due of such bytes was given
pub given_for : (before now : List ℕ) (due : List ℕ → Due) (d : Due) (taken_before taken_now : List ℕ) (status : ℕ) → ForGrowth before now (λ input. d ≡ due input) → Gives d taken_before taken_now status
    → ForGrowth before now (λ input. Gives (due input) taken_before taken_now status)
given_for before now due d taken_before taken_now status is gives = λ input grown. subst (λ (x : Due). Gives x taken_before taken_now status) (is input grown) gives
