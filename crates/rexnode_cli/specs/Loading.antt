-- The service that a node runs, and what is answered where there is none.
use Rattle.std.specs.Prelude.{◌≡◌, ◌<◌, ◌++◌, ◌∷◌, [], ℕ, List, length, nat_lt, Option, Some, None, Result, Ok, Err, codes, option_map, if◌then◌else◌}
use Rattle.sha2.specs.Sha256.{sha256}
use Rattle.rex_syntax.specs.declared.service.Declarations.{Declarations}
use Rattle.rex_parse.specs.Reading.{answer_of}
use Rattle.rex_parse.specs.After.{service_of}
use Rattle.rex_parse.specs.declared.language.Above.{Above}
use Rattle.rex_parse.specs.declared.language.ServiceCode.{ServiceCode}
use Rattle.rex_scenario.specs.declared.reading.TheConstants.{SCENARIO_BYTES}
use Rattle.rex_scenario.specs.declared.scenario.ScenarioCode.TheVariants.{TooLong}
use Rattle.rex_lockset.specs.Refusal.{refusal_of}
use Rattle.rex_answer.specs.Refusals.{service_code, scenario_code}
use Rattle.rex_answer.specs.Due.{Due, due_refused, due_unchecked}
use Rattle.rexnode_cli.specs.declared.loading.Loaded.{Loaded}
use Rattle.rexnode_cli.specs.declared.loading.NotLoaded.{NotLoaded}
use Rattle.rexnode_cli.specs.declared.loading.NotLoaded.TheVariants as not_loaded

-- words that are no command line are answered so
abbrev pub due_usage : Due
due_usage = record { status = 2; text = codes "usage: rexnode [--trace] ID NODES SERVICE JOURNAL [--seed N] [--cluster NAME]" ++ 10 ∷ [] }

-- what is answered to a text that is no service, or one that isn't checked
abbrev pub due_in : Result Above (ℕ × ServiceCode) → Option Due
due_in (Ok a) = option_map (due_unchecked (service_of a)) (refusal_of (service_of a))
due_in (Err e) = Some (due_refused e.0 (service_code e.1))

-- what a text is answered that there is no service of to run; a service may be as long as a scenario
abbrev pub due_refusal : List ℕ → Option Due
due_refusal text = if nat_lt SCENARIO_BYTES (length text) then Some (due_refused 0 (scenario_code TooLong)) else due_in (answer_of text)

-- it is the service of a text that isn't refused, and the text's digest
pub record IsLoaded (text : List ℕ) (l : Loaded) : Type 0 where
  pub taken : due_refusal text ≡ None
  pub above : Above
  pub read : answer_of text ≡ Ok above
  pub service_is : l.service ≡ service_of above
  pub digest_is : l.digest ≡ sha256 text

-- it is a service that the check accepts, and the digest of its text
pub record IsCheckedAs (service : Declarations) (text : List ℕ) (l : Loaded) : Type 0 where
  pub accepted : refusal_of service ≡ None
  pub service_is : l.service ≡ service
  pub digest_is : l.digest ≡ sha256 text

-- this holds of what is answered to a text
abbrev pub OfAnswer : (Due → Type 0) → NotLoaded → Type 0
OfAnswer P (not_loaded.Refused due) = P due
OfAnswer P _ = Unit {0}

-- what is answered is what a text is refused with
abbrev pub IsRefusal : List ℕ → NotLoaded → Type 0
IsRefusal text = OfAnswer (λ due. due_refusal text ≡ Some due)

-- its status is one of those below 4
abbrev pub IsLow : NotLoaded → Type 0
IsLow = OfAnswer (λ due. due.status < 4)
