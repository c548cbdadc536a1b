-- Schedule lines: a word and numbers.
use Rattle.std.specs.Prelude.{◌-◌, ◌++◌, ◌&&◌, ◌==◌, ℕ, Bool, true, false, not, length, List, [], ◌∷◌, nat_le, nat_lt, Option, Some, None, is_some, unwrap_or, codes, option_map, option_and_then, if◌then◌else◌}
use Rattle.std.specs.Str.{bytes_eq}
use Rattle.rex_text.specs.Text.{Word}
use Rattle.rex_text.specs.Numbers.{u64_at}
use Rattle.rex_parse.specs.Table.{in_range}
use Rattle.rex_parse.specs.Words.{is_name}
use Rattle.rex_parse.specs.Above.{meaning_of}
use Rattle.rex_parse.specs.declared.language.Above.{Above}
use Rattle.rex_parse.specs.declared.language.Meaning.{Meaning}
use Rattle.rex_parse.specs.declared.language.Meaning.TheVariants as meaning
use Rattle.rex_syntax.specs.declared.version.Version.TheVariants.{One, Two}
use Rattle.rex_scenario.specs.Requests.{client_of}
use Rattle.rex_scenario.specs.declared.scenario.ScenarioCode.{ScenarioCode}
use Rattle.rex_scenario.specs.declared.scenario.ScenarioCode.TheVariants.{BadLine, TooManyLines, NotThere, WrongLimits, NoOldForm}
use Rattle.rex_scenario.specs.declared.schedule.Step.{Step}
use Rattle.rex_scenario.specs.declared.schedule.Step.TheVariants as step
use Rattle.rex_schedule.specs.declared.scenario.ScheduleLine.{ScheduleLine}
use Rattle.rex_schedule.specs.declared.scenario.ScheduleLine.TheVariants as line
use Rattle.rex_schedule.specs.declared.scenario.TheConstants.{SCHEDULE_LINES}
use Rattle.rex_event.specs.declared.event.TheConstants.{CLIENTS}

-- a word alone
abbrev pub lone_step : Word → Option Step
lone_step w = if bytes_eq w (codes "flush") then Some step.Flush else None

-- a word and a number
abbrev pub short_step : Word → ℕ → Option Step
short_step w n =
    if bytes_eq w (codes "elect") then Some (step.Elect n)
    else if bytes_eq w (codes "cut") then Some (step.Cut n)
    else if bytes_eq w (codes "deliver") then Some (step.Deliver n)
    else if bytes_eq w (codes "replay") then Some (step.Replay n)
    else if bytes_eq w (codes "checkpoint") then Some (step.Checkpoint n Two)
    else if bytes_eq w (codes "drop") then Some (step.DropKnown n)
    else if bytes_eq w (codes "stop") then Some (step.Stop n)
    else if bytes_eq w (codes "start") then Some (step.Start n) else None

-- a word, a node, and a request, a lane or another node
abbrev pub long_step : Word → ℕ → ℕ → Option Step
long_step w n m =
    if bytes_eq w (codes "submit") then Some (step.Submit n m)
    else if bytes_eq w (codes "lane") then Some (step.Lane n m)
    else if bytes_eq w (codes "ask") then Some (step.Ask n m) else None

-- a record whose append fails is kept or lost
abbrev pub kept_at : Word → Option Bool
kept_at w = if bytes_eq w (codes "kept") then Some true else if bytes_eq w (codes "lost") then Some false else None

-- a word as a limit, which is at most 2^32 - 1
abbrev pub small : Option ℕ → Option ℕ
small None = None
small (Some n) = if nat_le n 4294967295 then Some n else None

-- one more limit
abbrev pub with_limit : Option ℕ → Option (List ℕ) → Option (List ℕ)
with_limit (Some n) (Some ns) = Some (n ∷ ns)
with_limit _ _ = None

-- words as limits, where each is one
abbrev pub limits_at : List Word → Option (List ℕ)
limits_at [] = Some []
limits_at (w ∷ ws) = with_limit (small (u64_at w)) (limits_at ws)

-- a node and limits
abbrev pub with_limits : Option ℕ → Option (List ℕ) → Option Step
with_limits (Some n) (Some limits) = Some (step.CutBelow n limits)
with_limits _ _ = None

-- a cut with its limits
abbrev pub cut_step : Word → Word → List Word → Option Step
cut_step w v us = if bytes_eq w (codes "cut") then with_limits (u64_at v) (limits_at us) else None

-- a checkpoint in the old version
abbrev pub old_step : ℕ → Word → Option Step
old_step n u = if bytes_eq u (codes "old") then Some (step.Checkpoint n One) else None

-- a word, a node, and one word more
abbrev pub longer_step : Word → ℕ → Word → Option Step
longer_step w n u =
    if bytes_eq w (codes "keepfail") then option_map (step.KeepFail n) (kept_at u)
    else if bytes_eq w (codes "checkpoint") then old_step n u
    else option_and_then (long_step w n) (u64_at u)

-- the number of a variable, where a name stands for one
abbrev pub variable_meant : Option Meaning → Option ℕ
variable_meant (Some (meaning.Variable n)) = Some n
variable_meant _ = None

-- the number of the variable with a name
abbrev pub variable_named : Above → Word → Option ℕ
variable_named a w = variable_meant (meaning_of a w)

-- a node, a client, a name, and the variable that has it, if one has
abbrev pub read_of : Option ℕ → Option ℕ → Bool → Option ℕ → Option Step
read_of (Some n) (Some client) true found = Some (step.ReadVariable n client found)
read_of _ _ _ found = None

-- a node, a client and a name, and no word more
abbrev pub reading : Above → List Word → Option Step
reading a (v ∷ u ∷ t ∷ []) = read_of (u64_at v) (client_of u) (is_name t) (variable_named a t)
reading a _ = None

-- the step that words spell that needs no name of the service
abbrev pub plain_step : List Word → Option Step
plain_step [] = None
plain_step (w ∷ []) = lone_step w
plain_step (w ∷ v ∷ []) = option_and_then (short_step w) (u64_at v)
plain_step (w ∷ v ∷ u ∷ []) = if bytes_eq w (codes "cut") then cut_step w v (u ∷ []) else option_and_then (λ n. longer_step w n u) (u64_at v)
plain_step (w ∷ v ∷ u ∷ t ∷ us) = cut_step w v (u ∷ t ∷ us)

-- the step that the words spell, where these lines of the service came before
abbrev pub step_of : Above → List Word → Option Step
step_of a [] = None
step_of a (w ∷ ws) = if bytes_eq w (codes "read") then reading a ws else plain_step (w ∷ ws)

-- the node, the request, the lane, the client and the variable that it names are there, numbers counted from 1; so is any message but 0, and a node asks another one
abbrev pub is_there : ℕ → ℕ → ℕ → Step → Bool
is_there nodes requests lanes (step.Elect n) = in_range 1 nodes n
is_there nodes requests lanes (step.Submit n r) = in_range 1 nodes n && in_range 1 requests r
is_there nodes requests lanes (step.Lane n l) = in_range 1 nodes n && in_range 1 lanes l
is_there nodes requests lanes (step.Cut n) = in_range 1 nodes n
is_there nodes requests lanes (step.CutBelow n limits) = in_range 1 nodes n
is_there nodes requests lanes (step.Deliver m) = nat_lt 0 m
is_there nodes requests lanes step.Flush = true
is_there nodes requests lanes (step.Replay n) = in_range 1 nodes n
is_there nodes requests lanes (step.Ask n m) = in_range 1 nodes n && (in_range 1 nodes m && not (n == m))
is_there nodes requests lanes (step.Stop n) = in_range 1 nodes n
is_there nodes requests lanes (step.Start n) = in_range 1 nodes n
is_there nodes requests lanes (step.Checkpoint n version) = in_range 1 nodes n
is_there nodes requests lanes (step.DropKnown n) = in_range 1 nodes n
is_there nodes requests lanes (step.KeepFail n kept) = in_range 1 nodes n
is_there nodes requests lanes (step.ReadVariable n client found) = in_range 1 nodes n && (in_range 1 CLIENTS client && is_some found)

-- a cut with limits has one for each lane
abbrev pub has_limits : ℕ → Step → Bool
has_limits lanes (step.CutBelow n limits) = length limits == lanes
has_limits lanes _ = true

-- a checkpoint is in a version that the service's states have, where these have the old one or don't
abbrev pub has_form : Bool → Step → Bool
has_form old (step.Checkpoint n One) = old
has_form old _ = true

-- the schedule line that a step is
abbrev pub line_of : Step → ScheduleLine
line_of (step.Elect n) = line.Elect n
line_of (step.Submit n r) = line.Submit n (r - 1)
line_of (step.Lane n l) = line.Lane n (l - 1)
line_of (step.Cut n) = line.Cut n
line_of (step.CutBelow n limits) = line.CutBelow n limits
line_of (step.Deliver m) = line.Deliver m
line_of step.Flush = line.Flush
line_of (step.Replay n) = line.Replay n
line_of (step.Ask n m) = line.Ask n m
line_of (step.Stop n) = line.Stop n
line_of (step.Start n) = line.Start n
line_of (step.Checkpoint n version) = line.Checkpoint n version
line_of (step.DropKnown n) = line.DropKnown n
line_of (step.KeepFail n kept) = line.KeepFail n kept
line_of (step.ReadVariable n client found) = line.ReadVariable n client (unwrap_or found 0)

-- the code that fits a step, or words that spell none; a schedule that may have no lines has none of a form
abbrev pub step_code : Bool → ℕ → ℕ → ℕ → Bool → ℕ → Option Step → Option ScenarioCode
step_code scheduled nodes requests lanes old earlier None = Some BadLine
step_code scheduled nodes requests lanes old earlier (Some s) =
    if not scheduled then Some BadLine
    else if nat_le SCHEDULE_LINES earlier then Some TooManyLines
    else if not (is_there nodes requests lanes s) then Some NotThere
    else if not (has_limits lanes s) then Some WrongLimits
    else if has_form old s then None else Some NoOldForm

-- the code that fits a schedule line, where so many nodes, requests and lanes are there, the service's states have the old version or don't, so many schedule lines came before, and these lines of the service
abbrev pub schedule_code : Bool → ℕ → ℕ → ℕ → Bool → ℕ → Above → List Word → Option ScenarioCode
schedule_code scheduled nodes requests lanes old earlier a ws = step_code scheduled nodes requests lanes old earlier (step_of a ws)

-- the schedule with a good line
abbrev pub with_step : List ScheduleLine → Option Step → List ScheduleLine
with_step schedule None = schedule
with_step schedule (Some s) = schedule ++ line_of s ∷ []
