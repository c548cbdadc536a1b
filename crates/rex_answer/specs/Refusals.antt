-- The texts of codes, and the lines that tell of a refusal.
use Rattle.std.specs.Prelude.{ℕ, List, [], ◌∷◌, ◌++◌, Option, Some, None, codes, slice_index, slice_index_or}
use Rattle.std.specs.Fmt.{decimal}
use Rattle.rex_syntax.specs.declared.flow.CheckCode.{CheckCode}
use Rattle.rex_syntax.specs.declared.flow.CheckCode.TheVariants as check
use Rattle.rex_syntax.specs.declared.service.Handler.{Handler}
use Rattle.rex_syntax.specs.declared.service.Declarations.{Declarations}
use Rattle.rex_parse.specs.declared.language.ServiceCode.{ServiceCode}
use Rattle.rex_parse.specs.declared.language.ServiceCode.TheVariants as service
use Rattle.rex_scenario.specs.declared.scenario.ScenarioCode.{ScenarioCode}
use Rattle.rex_scenario.specs.declared.scenario.ScenarioCode.TheVariants as scenario
use Rattle.rex_lockset.specs.declared.refusal.Refused.{Refused}
use Rattle.rex_report.specs.Pieces.{spaced}
use Rattle.rex_report.specs.Names.{no_handler}

-- the code of a line of a service
abbrev pub service_code : ServiceCode → List ℕ
service_code service.BadByte = codes "P1"
service_code service.Misplaced = codes "P2"
service_code service.BadForm = codes "P3"
service_code service.NoName = codes "P4"
service_code service.NoNumber = codes "P5"
service_code service.BadExpression = codes "P6"
service_code service.Undeclared = codes "P7"
service_code service.WrongKind = codes "P8"
service_code service.Taken = codes "P9"
service_code service.TooDeep = codes "P10"
service_code service.TooMany = codes "P11"
service_code service.LanesFirst = codes "P12"
service_code service.ReplyInBlock = codes "P13"
service_code service.Unended = codes "P14"

-- the code of a line of a scenario
abbrev pub scenario_code : ScenarioCode → List ℕ
scenario_code (scenario.Service code) = service_code code
scenario_code scenario.TooLong = codes "S1"
scenario_code scenario.BadByte = codes "S2"
scenario_code scenario.OutOfPlace = codes "S3"
scenario_code scenario.BadHeading = codes "S4"
scenario_code scenario.BadRequest = codes "S5"
scenario_code scenario.BadCall = codes "S6"
scenario_code scenario.Repeated = codes "S7"
scenario_code scenario.BadLine = codes "S8"
scenario_code scenario.TooManyLines = codes "S9"
scenario_code scenario.NotThere = codes "S10"
scenario_code scenario.TooManyRequests = codes "S11"
scenario_code scenario.WrongLimits = codes "S12"
scenario_code scenario.NoOldForm = codes "S13"

-- the code of the check
abbrev pub check_code : CheckCode → List ℕ
check_code check.UnguardedRead = codes "C1"
check_code check.UnguardedWrite = codes "C2"
check_code check.NotHeld = codes "C3"
check_code check.OutOfOrder = codes "C4"
check_code check.BranchesDiffer = codes "C5"
check_code check.LoopDiffers = codes "C6"
check_code check.HeldAtReply = codes "C7"
check_code check.ConditionLock = codes "C8"
check_code check.TooLong = codes "C9"
check_code check.HeldAtDown = codes "C10"

-- a line of a word and further words, each after a space
abbrev pub line_of : List ℕ → List (List ℕ) → List ℕ
line_of first rest = first ++ spaced rest ++ 10 ∷ []

-- the line for a text that is refused at a line with a code
abbrev pub text_refusal : ℕ → List ℕ → List ℕ
text_refusal number code = line_of (codes "refused") (codes "line" ∷ decimal number ∷ code ∷ [])

-- the number in the text of a handler's line, or of the handler itself
abbrev pub number_in : Handler → Option ℕ → ℕ
number_in h None = h.line_number
number_in h (Some place) = slice_index h.line_numbers place

-- the handler that is refused, or one of whose lines is
abbrev pub handler_of : Declarations → Refused → Handler
handler_of service refused = slice_index_or service.handlers refused.handler no_handler

-- the line for a service that the check refuses: the handler's name, the number of its line in the whole input, and why
abbrev pub check_refusal : Declarations → Refused → List ℕ
check_refusal service refused =
    let h = handler_of service refused in
    line_of (codes "refused") (codes "handler" ∷ h.name ∷ codes "line" ∷ decimal (number_in h refused.line) ∷ check_code refused.code ∷ [])
