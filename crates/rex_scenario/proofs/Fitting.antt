-- Good lines keep what they name there.
use Rattle.std.proofs.Common.{◌≡◌, ℕ, List, [], ◌∷◌, length, Option, Some, None, Bool, true, false, refl, sym, subst, arith, ◌∙◌}
use Rattle.std.specs.Prelude.{unwrap_or, is_some, option_and_then, if◌then◌else◌}
use Rattle.std.proofs.lemmas.Bool.{false≢true}
use Rattle.std.proofs.lemmas.List.Elements.{All-nil}
use Rattle.rex_text.specs.Text.{Word, words_of, is_skipped}
use Rattle.rex_text.specs.Numbers.{u64_at}
use Rattle.rex_parse.specs.Good.{IsGood}
use Rattle.rex_parse.specs.After.{service_of}
use Rattle.rex_parse.specs.Reading.{end_code}
use Rattle.rex_parse.specs.declared.language.ServiceCode.{ServiceCode}
use Rattle.rex_schedule.specs.Counts.{is_node_count}
use Rattle.rex_scenario.specs.Headings.{is_heading, is_due, if_due, begun_by, heading_code, begin_code, begun, after_heading, is_whole, nodes_after, next_stage}
use Rattle.rex_syntax.specs.Versions.{is_old_size}
use Rattle.rex_schedule.specs.Fits.{ScenarioFits}
use Rattle.rex_scenario.specs.Keeps.{FitsAt, SectionsFit}
use Rattle.rex_scenario.specs.Schedule.{step_of}
use Rattle.rex_scenario.specs.Reading.{of_service, is_clean, service_line_code, service_end_code, service_line_after, other_line_code, other_line_after, words_code, after_words, code_in, after_in, line_code, line_after, end_of, scenario_of}
use Rattle.rex_scenario.specs.declared.scenario.ScenarioCode.TheVariants.{BadHeading, OutOfPlace}
use Rattle.rex_scenario.specs.declared.scenario.Sections.{Sections}
use Rattle.rex_scenario.specs.declared.scenario.Stage.{Stage}
use Rattle.rex_scenario.specs.declared.scenario.Stage.TheVariants as stage
use Rattle.rex_scenario.proofs.Placed.{good_first, requests_fit, schedule_fits}
use Rattle.rex_scenario.proofs.Variables.{variables_fit}

pub good_service : (o : Option ServiceCode) → of_service o ≡ None → o ≡ None
good_service None e = refl
good_service (Some c) e = absurd cc

stage_fits : (s : Sections) (st : Stage) → s.stage ≡ st → FitsAt st s → FitsAt s.stage s
stage_fits s st at fit = subst (λ (x : Stage). FitsAt x s) (sym at) fit

-- ---- the number of nodes

counted_if : (n before : ℕ) (b : Bool) → is_node_count n ≡ b → is_some (if b then Some n else None) ≡ true → is_node_count (unwrap_or (if b then Some n else None) before) ≡ true
counted_if n before true e h = e
counted_if n before false e h = absurd cc

counted_by : (o : Option ℕ) (before : ℕ) → is_some (option_and_then (λ n. if is_node_count n then Some n else None) o) ≡ true → is_node_count (unwrap_or (option_and_then (λ n. if is_node_count n then Some n else None) o) before) ≡ true
counted_by None before h = absurd cc
counted_by (Some n) before h = counted_if n before (is_node_count n) refl h

-- a good heading says one of the numbers
nodes_said : (ws : List Word) (before : ℕ) → is_whole stage.Nodes ws ≡ true → is_node_count (nodes_after stage.Nodes ws before) ≡ true
nodes_said [] before h = absurd cc
nodes_said (w ∷ []) before h = counted_by (u64_at w) before h
nodes_said (w ∷ v ∷ ws) before h = absurd cc

-- ---- headings

-- a stage that is due begins, after the service only where that is whole
begin_fits : (st next : Stage) (s : Sections) (ws : List Word) → is_due st next ≡ true → is_whole next ws ≡ true → (st ≡ stage.Service → end_code s.service ≡ None) → FitsAt st s → FitsAt next (begun s (Some next) ws)
begin_fits stage.Start stage.Nodes s ws due good whole fit = (record { requests = fit.requests; schedule = fit.schedule }, nodes_said ws s.nodes good)
begin_fits stage.Nodes stage.Seed s ws due good whole fit = (record { requests = fit.0.requests; schedule = fit.0.schedule }, fit.1)
begin_fits stage.Nodes stage.Service s ws due good whole fit = (record { requests = fit.0.requests; schedule = fit.0.schedule }, fit.1)
begin_fits stage.Seed stage.Service s ws due good whole fit = (record { requests = fit.0.requests; schedule = fit.0.schedule }, fit.1)
begin_fits stage.Service stage.Requests s ws due good whole fit =
    (record { nodes = fit.1; whole = whole refl; few = rw fit.0.requests (omega arith); each = rw fit.0.requests (All-nil _) }, fit.0.schedule)
begin_fits stage.Requests stage.Schedule s ws due good whole fit = (
  record { nodes = fit.0.nodes; whole = fit.0.whole; few = fit.0.few; each = fit.0.each },
  record { few = rw fit.1 (omega arith); each = rw fit.1 (All-nil _); forms = rw fit.1 (All-nil _); variables = rw fit.1 (All-nil _); none = λ _. fit.1 },
)
begin_fits st next s ws due good whole fit = absurd cc

whole_words : (next : Stage) (ws : List Word) (b : Bool) → is_whole next ws ≡ b → (if b then None else Some BadHeading) ≡ None → is_whole next ws ≡ true
whole_words next ws true w e = w
whole_words next ws false w e = absurd cc

due_fits : (s : Sections) (next : Stage) (ws : List Word) (b : Bool) → is_due s.stage next ≡ b → begin_code (if b then Some next else None) ws ≡ None → (s.stage ≡ stage.Service → end_code s.service ≡ None)
    → FitsAt s.stage s → FitsAt (begun s (if b then Some next else None) ws).stage (begun s (if b then Some next else None) ws)
due_fits s next ws true due e whole fit = begin_fits s.stage next s ws due (whole_words next ws (is_whole next ws) refl e) whole fit
due_fits s next ws false due e whole fit = absurd cc

begun_fits : (s : Sections) (o : Option Stage) (ws : List Word) → begin_code (if_due s.stage o) ws ≡ None → (s.stage ≡ stage.Service → end_code s.service ≡ None) → FitsAt s.stage s
    → FitsAt (begun s (if_due s.stage o) ws).stage (begun s (if_due s.stage o) ws)
begun_fits s None ws e whole fit = absurd cc
begun_fits s (Some next) ws e whole fit = due_fits s next ws (is_due s.stage next) refl e whole fit

heading_fits : (s : Sections) (ws : List Word) → heading_code s.stage ws ≡ None → (s.stage ≡ stage.Service → end_code s.service ≡ None) → FitsAt s.stage s
    → FitsAt (after_heading s ws).stage (after_heading s ws)
heading_fits s [] e whole fit = fit
heading_fits s (w ∷ ws) e whole fit = begun_fits s (begun_by w) ws e whole fit

-- ---- the service

service_fits : (s : Sections) (number : ℕ) (line : List ℕ) (b : Bool) → s.stage ≡ stage.Service → is_heading (words_of line) ≡ b → service_line_code s line ≡ None → FitsAt stage.Service s
    → FitsAt (service_line_after s number line).stage (service_line_after s number line)
service_fits s number line true at h e fit =
    let code : service_end_code s line ≡ None = rw h at e in
    let parts = good_first _ _ code in
    let good : heading_code s.stage (words_of line) ≡ None = rw at (good_first _ _ parts.1).1 in
    rw h (heading_fits s (words_of line) good (λ _. good_service (end_code s.service) parts.0) (stage_fits s stage.Service at fit))
service_fits s number line false at h e fit = rw (h, at) (record { requests = fit.0.requests; schedule = fit.0.schedule }, fit.1)

-- ---- the other sections

words_fit : (st : Stage) (s : Sections) (ws : List Word) → IsGood s.service → s.stage ≡ st → words_code s st ws ≡ None → FitsAt st s → FitsAt (after_words s st ws).stage (after_words s st ws)
words_fit stage.Start s ws good at e fit = absurd cc
words_fit stage.Nodes s ws good at e fit = absurd cc
words_fit stage.Seed s ws good at e fit = absurd cc
words_fit stage.Service s ws good at e fit = absurd cc
words_fit stage.Requests s ws good at e fit =
    let more = requests_fit s.service s.requests ws e fit.0.each in
    rw at (record { nodes = fit.0.nodes; whole = fit.0.whole; few = more.0; each = more.1 }, fit.1)
words_fit stage.Schedule s ws good at e fit =
    let more = schedule_fits s.scheduled s.nodes (length s.requests) (unwrap_or s.service.lanes 0) (is_old_size (unwrap_or s.service.lanes 0) (length s.service.variables)) s.schedule (step_of s.service ws) e fit.1.each fit.1.forms in
    let read = variables_fit s.service ws s.scheduled s.nodes (length s.requests) (unwrap_or s.service.lanes 0) (is_old_size (unwrap_or s.service.lanes 0) (length s.service.variables)) s.schedule good e fit.1.variables in
    rw at (record { nodes = fit.0.nodes; whole = fit.0.whole; few = fit.0.few; each = fit.0.each }, record { few = more.1.0; each = more.1.1; forms = more.1.2; variables = read; none = λ closed. absurd (false≢true (sym closed ∙ more.0)) })

other_fits : (s : Sections) (line : List ℕ) (clean skipped heading : Bool) → IsGood s.service → is_clean line ≡ clean → is_skipped (words_of line) ≡ skipped → is_heading (words_of line) ≡ heading
    → (s.stage ≡ stage.Service → ⊥) → other_line_code s line ≡ None → FitsAt s.stage s → FitsAt (other_line_after s line).stage (other_line_after s line)
other_fits s line false skipped heading good c k h outside e fit = absurd (let f = rw c at e in cc)
other_fits s line true true heading good c k h outside e fit = rw k fit
other_fits s line true false true good c k h outside e fit = rw (k, h) (heading_fits s (words_of line) (rw (c, k, h) at e) (λ at. absurd (outside at)) fit)
other_fits s line true false false good c k h outside e fit = rw (k, h) (words_fit s.stage s (words_of line) good refl (rw (c, k, h) at e) fit)

-- ---- each stage

at_stage : (st : Stage) (s : Sections) (number : ℕ) (line : List ℕ) → IsGood s.service → s.stage ≡ st → code_in st s line ≡ None → FitsAt st s → FitsAt (after_in st s number line).stage (after_in st s number line)
at_stage stage.Service s number line good at e fit = service_fits s number line (is_heading (words_of line)) at refl e fit
at_stage stage.Start s number line good at e fit = other_fits s line _ _ _ good refl refl refl (λ h. absurd cc) e (stage_fits s _ at fit)
at_stage stage.Nodes s number line good at e fit = other_fits s line _ _ _ good refl refl refl (λ h. absurd cc) e (stage_fits s _ at fit)
at_stage stage.Seed s number line good at e fit = other_fits s line _ _ _ good refl refl refl (λ h. absurd cc) e (stage_fits s _ at fit)
at_stage stage.Requests s number line good at e fit = other_fits s line _ _ _ good refl refl refl (λ h. absurd cc) e (stage_fits s _ at fit)
at_stage stage.Schedule s number line good at e fit = other_fits s line _ _ _ good refl refl refl (λ h. absurd cc) e (stage_fits s _ at fit)

-- a good line keeps what fits
pub line_fits : (s : Sections) (number : ℕ) (line : List ℕ) → SectionsFit s → line_code s line ≡ None → IsGood (line_after s number line).service → SectionsFit (line_after s number line)
line_fits s number line fit e good = record { service = good; sections = at_stage s.stage s number line fit.service refl e fit.sections }

-- ---- what no line changes

begun_scheduled : (s : Sections) (o : Option Stage) (ws : List Word) → (begun s o ws).scheduled ≡ s.scheduled
begun_scheduled s None ws = refl
begun_scheduled s (Some next) ws = refl

heading_scheduled : (s : Sections) (ws : List Word) → (after_heading s ws).scheduled ≡ s.scheduled
heading_scheduled s [] = refl
heading_scheduled s (w ∷ ws) = begun_scheduled s (next_stage s.stage w) ws

words_scheduled : (st : Stage) (s : Sections) (ws : List Word) → (after_words s st ws).scheduled ≡ s.scheduled
words_scheduled stage.Requests s ws = refl
words_scheduled stage.Schedule s ws = refl
words_scheduled stage.Start s ws = refl
words_scheduled stage.Nodes s ws = refl
words_scheduled stage.Seed s ws = refl
words_scheduled stage.Service s ws = refl

service_scheduled : (s : Sections) (number : ℕ) (line : List ℕ) (b : Bool) → is_heading (words_of line) ≡ b → (service_line_after s number line).scheduled ≡ s.scheduled
service_scheduled s number line true h = rw h (heading_scheduled s (words_of line))
service_scheduled s number line false h = rw h refl

other_scheduled : (s : Sections) (line : List ℕ) (skipped heading : Bool) → is_skipped (words_of line) ≡ skipped → is_heading (words_of line) ≡ heading → (other_line_after s line).scheduled ≡ s.scheduled
other_scheduled s line true heading k h = rw k refl
other_scheduled s line false true k h = rw (k, h) (heading_scheduled s (words_of line))
other_scheduled s line false false k h = rw (k, h) (words_scheduled s.stage s (words_of line))

after_scheduled : (st : Stage) (s : Sections) (number : ℕ) (line : List ℕ) → (after_in st s number line).scheduled ≡ s.scheduled
after_scheduled stage.Service s number line = service_scheduled s number line _ refl
after_scheduled stage.Start s number line = other_scheduled s line _ _ refl refl
after_scheduled stage.Nodes s number line = other_scheduled s line _ _ refl refl
after_scheduled stage.Seed s number line = other_scheduled s line _ _ refl refl
after_scheduled stage.Requests s number line = other_scheduled s line _ _ refl refl
after_scheduled stage.Schedule s number line = other_scheduled s line _ _ refl refl

-- whether the schedule may have lines
pub line_scheduled : (s : Sections) (number : ℕ) (line : List ℕ) → (line_after s number line).scheduled ≡ s.scheduled
line_scheduled s number line = after_scheduled s.stage s number line

-- ---- the end

ended : (st : Stage) (s : Sections) → end_of s st ≡ None → FitsAt st s → FitsAt stage.Schedule s
ended stage.Schedule s e fit = fit
ended stage.Service s e fit = absurd (let p : Some OutOfPlace ≡ None = (good_first (of_service (end_code s.service)) (Some OutOfPlace) e).1 in cc)
ended stage.Start s e fit = absurd cc
ended stage.Nodes s e fit = absurd cc
ended stage.Seed s e fit = absurd cc
ended stage.Requests s e fit = absurd cc

-- a good text's scenario fits its service
pub scenario_fits : (s : Sections) → SectionsFit s → end_of s s.stage ≡ None → ScenarioFits (service_of s.service) (scenario_of s)
scenario_fits s fit e =
    let parts = ended s.stage s e fit.sections in
    record { nodes = parts.0.nodes; few_requests = parts.0.few; few_lines = parts.1.few; requests = parts.0.each; schedule = parts.1.each; forms = parts.1.forms; variables = parts.1.variables }
