-- The code answered for a line of a scenario is the least of those that fit it.
use Rattle.std.specs.Prelude.{ℕ, List}
use Rattle.rex_parse.specs.Words as words
use Rattle.rex_parse.specs.LeastCode.{IsLeastOf}
use Rattle.rex_scenario.specs.Reading.{line_code, end_of}
use Rattle.rex_scenario.specs.Fitting.{Fits, FitsEnd}
use Rattle.rex_scenario.specs.declared.scenario.ScenarioCode.{ScenarioCode}
use Rattle.rex_scenario.specs.declared.scenario.ScenarioCode.TheVariants.{Service, TooLong, BadByte, OutOfPlace, BadHeading, BadRequest, BadCall, Repeated, BadLine, TooManyLines, NotThere, TooManyRequests, WrongLimits, NoOldForm}
use Rattle.rex_scenario.specs.declared.scenario.Sections.{Sections}

-- a code's place: P1 to P14 first, and then S1 to S13
abbrev pub rank : ScenarioCode → ℕ
rank (Service c) = words.rank c
rank TooLong = 15
rank BadByte = 16
rank OutOfPlace = 17
rank BadHeading = 18
rank BadRequest = 19
rank BadCall = 20
rank Repeated = 21
rank BadLine = 22
rank TooManyLines = 23
rank NotThere = 24
rank TooManyRequests = 25
rank WrongLimits = 26
rank NoOldForm = 27

-- whatever the lines above say, the code answered for a line is the least that fits it
abbrev pub LinesGetTheLeast : Type 0
LinesGetTheLeast = (s : Sections) (line : List ℕ) → IsLeastOf rank (Fits s line) (line_code s line)

-- so is the code answered for the end of a text
abbrev pub EndsGetTheLeast : Type 0
EndsGetTheLeast = (s : Sections) → IsLeastOf rank (FitsEnd s) (end_of s s.stage)
