-- A whole scenario: the first bad line with its least code, or what was said.
use Rattle.std.specs.Prelude.{◌+◌, ℕ, Bool, true, false, not, List, [], ◌∷◌, ◌++◌, length, nat_lt, Option, Some, None, Result, Ok, Err, unwrap_or, if◌then◌else◌}
use Rattle.std.specs.List.{list_all}
use Rattle.rex_text.specs.Text.{Word, lines_of, words_of, numbered, is_skipped, is_allowed}
use Rattle.rex_parse.specs.Above.{nothing}
use Rattle.rex_parse.specs.Reading.{raw_code, raw_after, end_code}
use Rattle.rex_parse.specs.declared.language.ServiceCode.{ServiceCode}
use Rattle.rex_syntax.specs.Versions.{is_old_size}
use Rattle.rex_scenario.specs.Beyond.{beyond_after}
use Rattle.rex_scenario.specs.Headings.{is_heading, heading_code, after_heading}
use Rattle.rex_scenario.specs.Requests.{or_code, request_code, request_of}
use Rattle.rex_scenario.specs.Schedule.{schedule_code, step_of, with_step}
use Rattle.rex_scenario.specs.declared.scenario.ScenarioCode.{ScenarioCode}
use Rattle.rex_scenario.specs.declared.scenario.ScenarioCode.TheVariants.{Service, TooLong, BadByte, OutOfPlace}
use Rattle.rex_schedule.specs.declared.scenario.Scenario.{Scenario}
use Rattle.rex_scenario.specs.declared.scenario.Sections.{Sections}
use Rattle.rex_scenario.specs.declared.scenario.Stage.{Stage}
use Rattle.rex_scenario.specs.declared.scenario.Stage.TheVariants as stage
use Rattle.rex_scenario.specs.declared.reading.TheConstants.{SCENARIO_BYTES}

-- before the first line of a text whose schedule may have lines, or may not
abbrev pub start : Bool → Sections
start scheduled = record { stage = stage.Start; scheduled = scheduled; nodes = 0; seed = 0; service = nothing; requests = []; schedule = []; beyond = None }

-- each byte of a line is allowed
abbrev pub is_clean : List ℕ → Bool
is_clean line = list_all is_allowed line

-- a code of the service as one of the scenario
abbrev pub of_service : Option ServiceCode → Option ScenarioCode
of_service None = None
of_service (Some c) = Some (Service c)

-- a byte that is not allowed
abbrev pub byte_code : List ℕ → Option ScenarioCode
byte_code line = if is_clean line then None else Some BadByte

-- a heading in the service ends it: first comes what the service's end says
abbrev pub service_end_code : Sections → List ℕ → Option ScenarioCode
service_end_code s line = or_code (of_service (end_code s.service)) (or_code (byte_code line) (heading_code stage.Service (words_of line)))

-- the code that fits a line of the service, or the heading that ends it
abbrev pub service_line_code : Sections → List ℕ → Option ScenarioCode
service_line_code s line = if is_heading (words_of line) then service_end_code s line else of_service (raw_code s.service line)

-- the code that fits a line with words outside the service that is no heading
abbrev pub words_code : Sections → Stage → List Word → Option ScenarioCode
words_code s stage.Requests ws = request_code s.service s.requests ws
words_code s stage.Schedule ws =
    schedule_code s.scheduled s.nodes (length s.requests) (unwrap_or s.service.lanes 0) (is_old_size (unwrap_or s.service.lanes 0) (length s.service.variables)) (length s.schedule) s.service ws
words_code s _ ws = Some OutOfPlace

-- the code that fits a line outside the service
abbrev pub other_line_code : Sections → List ℕ → Option ScenarioCode
other_line_code s line =
    if not (is_clean line) then Some BadByte
    else if is_skipped (words_of line) then None
    else if is_heading (words_of line) then heading_code s.stage (words_of line)
    else words_code s s.stage (words_of line)

-- the code that fits a line at a stage
abbrev pub code_in : Stage → Sections → List ℕ → Option ScenarioCode
code_in stage.Service s line = service_line_code s line
code_in _ s line = other_line_code s line

-- the least code that fits a line as it stands
abbrev pub line_code : Sections → List ℕ → Option ScenarioCode
line_code s line = code_in s.stage s line

-- what a good line of the service says, or the heading that ends it
abbrev pub service_line_after : Sections → ℕ → List ℕ → Sections
service_line_after s number line = if is_heading (words_of line) then after_heading s (words_of line) else record s { service = raw_after s.service number line; beyond = beyond_after s.beyond number (words_of line) }

-- what a good line with words outside the service that is no heading says
abbrev pub after_words : Sections → Stage → List Word → Sections
after_words s stage.Requests ws = record s { requests = s.requests ++ request_of s.service ws ∷ [] }
after_words s stage.Schedule ws = record s { schedule = with_step s.schedule (step_of s.service ws) }
after_words s _ ws = s

-- what a good line outside the service says
abbrev pub other_line_after : Sections → List ℕ → Sections
other_line_after s line =
    if is_skipped (words_of line) then s
    else if is_heading (words_of line) then after_heading s (words_of line)
    else after_words s s.stage (words_of line)

-- what a good line at a stage says
abbrev pub after_in : Stage → Sections → ℕ → List ℕ → Sections
after_in stage.Service s number line = service_line_after s number line
after_in _ s number line = other_line_after s line

-- what a good line as it stands says
abbrev pub line_after : Sections → ℕ → List ℕ → Sections
line_after s number line = after_in s.stage s number line

-- the text ends before the schedule, or in a service that isn't whole
abbrev pub end_of : Sections → Stage → Option ScenarioCode
end_of s stage.Schedule = None
end_of s stage.Service = or_code (of_service (end_code s.service)) (Some OutOfPlace)
end_of s _ = Some OutOfPlace

-- a refusal of a line where a code fits it, and else what comes next
abbrev pub or_next : Option ScenarioCode → ℕ → Result Sections (ℕ × ScenarioCode) → Result Sections (ℕ × ScenarioCode)
or_next (Some c) number next = Err (number, c)
or_next None number next = next

-- the answer to numbered lines, after these sections, where the line after the last has the number `next`
unfoldable pub answer_from : Sections → ℕ → List (ℕ × List ℕ) → Result Sections (ℕ × ScenarioCode)
answer_from s next [] = or_next (end_of s s.stage) next (Ok s)
answer_from s next (line ∷ rest) = or_next (line_code s line.1) line.0 (answer_from (line_after s line.0 line.1) (line.0 + 1) rest)

-- the answer to a text that is not too long, whose schedule may have lines, or may not; a longer one is refused whatever it says
abbrev pub answer_to : Bool → List ℕ → Result Sections (ℕ × ScenarioCode)
answer_to scheduled bytes = if nat_lt SCENARIO_BYTES (length bytes) then Err (0, TooLong) else answer_from (start scheduled) 1 (numbered 1 (lines_of bytes))

-- the answer to a text
abbrev pub answer_of : List ℕ → Result Sections (ℕ × ScenarioCode)
answer_of bytes = answer_to true bytes

-- the answer to a text whose schedule may have no lines
abbrev pub unscheduled_answer_of : List ℕ → Result Sections (ℕ × ScenarioCode)
unscheduled_answer_of bytes = answer_to false bytes

-- the nodes, the seed, the requests, the schedule and the line beyond lock words of a good text
abbrev pub scenario_of : Sections → Scenario
scenario_of s = record { nodes = s.nodes; seed = s.seed; requests = s.requests; schedule = s.schedule; beyond = s.beyond }
