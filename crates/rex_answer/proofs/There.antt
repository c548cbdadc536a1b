-- The handler that the check refuses, or one of whose lines it refuses.
use Rattle.std.proofs.Common.{◌≡◌, ℕ, ◌<◌, List, length, Option, sym, ap, subst, ◌∙◌, get_or}
use Rattle.std.specs.Prelude.{IfSome}
use Rattle.std.proofs.lemmas.List.Elements.{All-get_or}
use Rattle.std.proofs.lemmas.Option.{get_or_from_slice_get, slice_get_within}
use Rattle.rex_syntax.specs.declared.service.Handler.{Handler}
use Rattle.rex_syntax.specs.declared.service.Declarations.{Declarations}
use Rattle.rex_syntax.specs.Service.{IsService, IsHandler}
use Rattle.rex_lockset.specs.declared.refusal.Refused.{Refused}
use Rattle.rex_lockset.specs.Laws.{IsThere}
use Rattle.rex_report.specs.Names.{no_handler}
use Rattle.rex_answer.specs.Refusals.{handler_of}

pub handler_there : (service : Declarations) (r : Refused) → IsThere service r → r.handler < length service.handlers
handler_there service r there = slice_get_within service.handlers r.handler there.found there.there

found_is : (service : Declarations) (r : Refused) (there : IsThere service r) → there.found ≡ handler_of service r
found_is service r there = sym (get_or_from_slice_get service.handlers r.handler there.found no_handler there.there)

-- what an index gives
pub handler_is : (service : Declarations) (handlers : List Handler) (r : Refused) (h : Handler) (there : IsThere service r) → handlers ≡ service.handlers → h ≡ get_or handlers r.handler h
    → h ≡ handler_of service r
handler_is service handlers r h there e is =
    is ∙ ap (λ (xs : List Handler). get_or xs r.handler h) e ∙ get_or_from_slice_get service.handlers r.handler there.found h there.there ∙ found_is service r there

further : (o : Option ℕ) (a b : ℕ) → b ≡ a → IfSome o (λ l. l < a) → IfSome o (λ l. l < b)
further o a b e h = rw e h

-- the line has its number
pub line_there : (service : Declarations) (r : Refused) → IsService service → IsThere service r → IfSome r.line (λ l. l < length (handler_of service r).line_numbers)
line_there service r good there =
    let fits : IsHandler service (handler_of service r) = All-get_or (IsHandler service) service.handlers r.handler no_handler (handler_there service r there) good.handlers in
    let lines : IfSome r.line (λ l. l < length (handler_of service r).lines) = subst (λ (h : Handler). IfSome r.line (λ l. l < length h.lines)) (found_is service r there) there.line in
    further r.line (length (handler_of service r).lines) (length (handler_of service r).line_numbers) fits.numbered lines
