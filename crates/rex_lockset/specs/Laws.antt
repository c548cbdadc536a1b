-- What the check's refusals mean.
use Rattle.std.specs.Prelude.{◌≡◌, ◌↔◌, ◌<◌, length, Some, None, IfSome, slice_get}
use Rattle.rex_syntax.specs.declared.service.Handler.{Handler}
use Rattle.rex_syntax.specs.declared.service.Declarations.{Declarations}
use Rattle.rex_syntax.specs.Service.{IsService}
use Rattle.rex_syntax.specs.Check.{IsChecked}
use Rattle.rex_lockset.specs.Refusal.{refusal_of}
use Rattle.rex_lockset.specs.declared.refusal.Refused.{Refused}

-- no line and no handler of a service is refused exactly where each handler passes
abbrev pub RefusalsAreExact : Type 0
RefusalsAreExact = (service : Declarations) → IsService service → (refusal_of service ≡ None) ↔ IsChecked service

-- the handler that is refused is there, and so is the line, if one is
pub record IsThere (service : Declarations) (refused : Refused) : Type 0 where
  pub found : Handler
  pub there : slice_get service.handlers refused.handler ≡ Some found
  pub line : IfSome refused.line (λ place. place < length found.lines)

-- what is refused in a service is there
abbrev pub RefusalsAreThere : Type 0
RefusalsAreThere = (service : Declarations) (refused : Refused) → refusal_of service ≡ Some refused → IsThere service refused
