-- Which codes fit a line of a scenario, by what its words are, whichever of them is answered.
use Rattle.std.specs.Prelude.{◌≡◌, ◌≢◌, ◌≤◌, ◌⊎◌, ℕ, List, ◌∷◌, length, Some, None, IsTrue, unwrap_or}
use Rattle.std.specs.Bool.{IsFalse}
use Rattle.std.specs.List.{Any}
use Rattle.rex_text.specs.Text.{Word, words_of, is_allowed}
use Rattle.rex_syntax.specs.declared.request.Request.{Request}
use Rattle.rex_syntax.specs.Versions.{is_old_size}
use Rattle.rex_parse.specs.Fitting as service
use Rattle.rex_parse.specs.declared.language.Above.{Above}
use Rattle.rex_parse.specs.declared.language.ServiceCode.{ServiceCode}
use Rattle.rex_schedule.specs.declared.scenario.TheConstants.{REQUESTS, SCHEDULE_LINES}
use Rattle.rex_scenario.specs.Headings.{is_heading, begun_by, is_due, is_whole}
use Rattle.rex_scenario.specs.Requests.{client_of, sequence_of, is_request, is_call}
use Rattle.rex_scenario.specs.Schedule.{step_of, is_there, has_limits, has_form}
use Rattle.rex_scenario.specs.declared.scenario.ScenarioCode.{ScenarioCode}
use Rattle.rex_scenario.specs.declared.scenario.ScenarioCode.TheVariants.{Service, TooLong, BadByte, OutOfPlace, BadHeading, BadRequest, BadCall, Repeated, BadLine, TooManyLines, NotThere, TooManyRequests, WrongLimits, NoOldForm}
use Rattle.rex_scenario.specs.declared.scenario.Sections.{Sections}
use Rattle.rex_scenario.specs.declared.scenario.Stage.{Stage}
use Rattle.rex_scenario.specs.declared.scenario.Stage.TheVariants as stage
use Rattle.rex_scenario.specs.declared.schedule.Step.{Step}

-- ---- headings

-- a heading's first word begins a stage that is due
pub record Begins (now : Stage) (w : Word) (next : Stage) : Type 0 where
  pub named : begun_by w ≡ Some next
  pub due : IsTrue (is_due now next)

-- the service hasn't begun
abbrev pub IsBeforeService : Stage → Type 0
IsBeforeService stage.Start = Unit {0}
IsBeforeService stage.Nodes = Unit {0}
IsBeforeService stage.Seed = Unit {0}
IsBeforeService _ = ⊥

-- S3: a heading begins no stage that is due, or another line stands before the service
abbrev pub IsOutOfPlace : Stage → Word → List Word → Type 0
IsOutOfPlace now w ws = (IsTrue (is_heading (w ∷ ws)) × ((next : Stage) → ¬ (Begins now w next))) ⊎ (IsFalse (is_heading (w ∷ ws)) × IsBeforeService now)

-- S4: a heading begins a stage that is due, but its other words are wrong
abbrev pub IsBadHeading : Stage → Word → List Word → Type 0
IsBadHeading now w ws = IsTrue (is_heading (w ∷ ws)) × (next : Stage) × Begins now w next × IsFalse (is_whole next ws)

-- ---- requests

-- S7: an earlier request has the client and the sequence that a request's first two words spell
abbrev pub IsRepeated : List Request → List Word → Type 0
IsRepeated earlier (c ∷ s ∷ ws) = Any (λ (q : Request). (client_of c ≡ Some q.client) × (sequence_of s ≡ Some q.sequence)) earlier
IsRepeated earlier _ = ⊥

-- a code fits a request line, given the service and the earlier requests: S5 where its words are none, S6 where it calls no handler, S7, or S11
abbrev pub FitsRequest : Above → List Request → List Word → ScenarioCode → Type 0
FitsRequest a earlier ws BadRequest = IsFalse (is_request ws)
FitsRequest a earlier ws BadCall = IsFalse (is_call a ws)
FitsRequest a earlier ws Repeated = IsRepeated earlier ws
FitsRequest a earlier ws TooManyRequests = REQUESTS ≤ length earlier
FitsRequest a earlier ws _ = ⊥

-- ---- schedule lines

-- the number of lanes, where it is said
abbrev pub lanes_of : Sections → ℕ
lanes_of s = unwrap_or s.service.lanes 0

-- S8: the words spell no step, or there may be none
abbrev pub IsBadLine : Sections → List Word → Type 0
IsBadLine s ws = IsFalse s.scheduled ⊎ (step_of s.service ws ≡ None)

-- S10: the words spell a step that names what isn't there
abbrev pub NamesNothing : Sections → List Word → Type 0
NamesNothing s ws = (st : Step) × (step_of s.service ws ≡ Some st) × IsFalse (is_there s.nodes (length s.requests) (lanes_of s) st)

-- S12: the words spell a cut that has not one limit for each lane
abbrev pub HasWrongLimits : Sections → List Word → Type 0
HasWrongLimits s ws = (st : Step) × (step_of s.service ws ≡ Some st) × IsFalse (has_limits (lanes_of s) st)

-- S13: the words spell a checkpoint in the old version, which the service's states don't have
abbrev pub HasNoOldForm : Sections → List Word → Type 0
HasNoOldForm s ws = (st : Step) × (step_of s.service ws ≡ Some st) × IsFalse (has_form (is_old_size (lanes_of s) (length s.service.variables)) st)

-- a code fits a schedule line: S8, S9 where as many were read as may be, S10, S12 or S13
abbrev pub FitsStep : Sections → List Word → ScenarioCode → Type 0
FitsStep s ws BadLine = IsBadLine s ws
FitsStep s ws TooManyLines = SCHEDULE_LINES ≤ length s.schedule
FitsStep s ws NotThere = NamesNothing s ws
FitsStep s ws WrongLimits = HasWrongLimits s ws
FitsStep s ws NoOldForm = HasNoOldForm s ws
FitsStep s ws _ = ⊥

-- ---- lines

-- a code fits a line that is no heading, by the stage
abbrev pub FitsStage : Sections → Stage → List Word → ScenarioCode → Type 0
FitsStage s stage.Requests ws c = FitsRequest s.service s.requests ws c
FitsStage s stage.Schedule ws c = FitsStep s ws c
FitsStage s _ ws c = ⊥

-- a code of the scenario fits the words of a line
abbrev pub FitsWords : Sections → Word → List Word → ScenarioCode → Type 0
FitsWords s w ws OutOfPlace = IsOutOfPlace s.stage w ws
FitsWords s w ws BadHeading = IsBadHeading s.stage w ws
FitsWords s w ws c = IsFalse (is_heading (w ∷ ws)) × FitsStage s s.stage (w ∷ ws) c

-- a code of the service fits a line in the service: P14 a heading, and the others another line
abbrev pub FitsService : Sections → List ℕ → ServiceCode → Type 0
FitsService s line c = (IsTrue (is_heading (words_of line)) × service.FitsEnd s.service c) ⊎ (IsFalse (is_heading (words_of line)) × service.Fits s.service line c)

-- S2: a byte isn't allowed, on a line outside the service or on a heading
abbrev pub HasBadByte : Sections → List ℕ → Type 0
HasBadByte s line = ((s.stage ≢ stage.Service) ⊎ IsTrue (is_heading (words_of line))) × Any (λ b. IsFalse (is_allowed b)) line

-- a code fits a line: those of the service in the service alone, S2, or those that fit the words of a line whose bytes are all allowed
abbrev pub Fits : Sections → List ℕ → ScenarioCode → Type 0
Fits s line (Service c) = (s.stage ≡ stage.Service) × FitsService s line c
Fits s line TooLong = ⊥
Fits s line BadByte = HasBadByte s line
Fits s line c = (w : Word) × (ws : List Word) × service.HasWords line w ws × FitsWords s w ws c

-- a code fits the end of a text: P14 in the service, and S3 before the schedule
abbrev pub FitsEnd : Sections → ScenarioCode → Type 0
FitsEnd s (Service c) = (s.stage ≡ stage.Service) × service.FitsEnd s.service c
FitsEnd s OutOfPlace = s.stage ≢ stage.Schedule
FitsEnd s _ = ⊥
