-- The headings of a scenario's sections, in their order.
use Rattle.std.specs.Prelude.{◌==◌, ℕ, Bool, true, false, List, [], ◌∷◌, Option, Some, None, is_some, unwrap_or, codes, slice_index, option_and_then, if◌then◌else◌}
use Rattle.std.specs.Str.{bytes_eq}
use Rattle.rex_schedule.specs.Counts.{is_node_count}
use Rattle.rex_text.specs.Text.{Word}
use Rattle.rex_text.specs.Numbers.{u64_at}
use Rattle.rex_parse.specs.Table.{count_of}
use Rattle.rex_scenario.specs.declared.scenario.ScenarioCode.{ScenarioCode}
use Rattle.rex_scenario.specs.declared.scenario.ScenarioCode.TheVariants.{OutOfPlace, BadHeading}
use Rattle.rex_scenario.specs.declared.scenario.Sections.{Sections}
use Rattle.rex_scenario.specs.declared.scenario.Stage.{Stage}
use Rattle.rex_scenario.specs.declared.scenario.Stage.TheVariants as stage

-- a line is a heading where its first word begins with '%'
abbrev pub is_heading : List Word → Bool
is_heading [] = false
is_heading (w ∷ ws) = slice_index w 0 == 37

-- the stage that a heading begins
abbrev pub begun_by : Word → Option Stage
begun_by w =
    if bytes_eq w (codes "%nodes") then Some stage.Nodes
    else if bytes_eq w (codes "%seed") then Some stage.Seed
    else if bytes_eq w (codes "%service") then Some stage.Service
    else if bytes_eq w (codes "%requests") then Some stage.Requests
    else if bytes_eq w (codes "%schedule") then Some stage.Schedule else None

-- the second stage may come right after the first one: each is due after the one before, but for the seed, which may be left out
abbrev pub is_due : Stage → Stage → Bool
is_due stage.Start stage.Nodes = true
is_due stage.Nodes stage.Seed = true
is_due stage.Nodes stage.Service = true
is_due stage.Seed stage.Service = true
is_due stage.Service stage.Requests = true
is_due stage.Requests stage.Schedule = true
is_due _ _ = false

-- this stage, where it is due
abbrev pub if_due : Stage → Option Stage → Option Stage
if_due s None = None
if_due s (Some next) = if is_due s next then Some next else None

-- the stage that a heading begins, where it is due
abbrev pub next_stage : Stage → Word → Option Stage
next_stage s w = if_due s (begun_by w)

-- a seed, from 0 to 4,294,967,295
abbrev pub seed_of : Word → Option ℕ
seed_of w = count_of 0 4294967295 w

-- a number of nodes, where there may be so many
abbrev pub nodes_of : Word → Option ℕ
nodes_of w = option_and_then (λ n. if is_node_count n then Some n else None) (u64_at w)

-- the words after the first of the heading that begins a stage are right: the number of nodes, a seed, or none
abbrev pub is_whole : Stage → List Word → Bool
is_whole stage.Nodes (w ∷ []) = is_some (nodes_of w)
is_whole stage.Nodes _ = false
is_whole stage.Seed (w ∷ []) = is_some (seed_of w)
is_whole stage.Seed _ = false
is_whole _ [] = true
is_whole _ _ = false

-- the code that fits a heading with these words after its first, which begins a stage, or none that is due
abbrev pub begin_code : Option Stage → List Word → Option ScenarioCode
begin_code None ws = Some OutOfPlace
begin_code (Some next) ws = if is_whole next ws then None else Some BadHeading

-- the code that fits a heading
abbrev pub heading_code : Stage → List Word → Option ScenarioCode
heading_code s [] = None
heading_code s (w ∷ ws) = begin_code (next_stage s w) ws

-- the number of nodes that a heading says with the words after its first, and else the one before
abbrev pub nodes_after : Stage → List Word → ℕ → ℕ
nodes_after stage.Nodes (w ∷ ws) before = unwrap_or (nodes_of w) before
nodes_after _ _ before = before

-- the seed that a heading says with the words after its first, and else the one before
abbrev pub seed_after : Stage → List Word → ℕ → ℕ
seed_after stage.Seed (w ∷ ws) before = unwrap_or (seed_of w) before
seed_after _ _ before = before

-- a stage has begun with these words after its heading's first
abbrev pub begun : Sections → Option Stage → List Word → Sections
begun s None ws = s
begun s (Some next) ws = record s { stage = next; nodes = nodes_after next ws s.nodes; seed = seed_after next ws s.seed }

-- a good heading begins its stage
abbrev pub after_heading : Sections → List Word → Sections
after_heading s [] = s
after_heading s (w ∷ ws) = begun s (next_stage s.stage w) ws
