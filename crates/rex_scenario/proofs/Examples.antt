-- Scenarios, what they say, and lines that several codes fit.
use Rattle.std.proofs.Common.{◌≡◌, ℕ, Bool, List, [], ◌∷◌, ◌++◌, ◌<◌, ◌≤◌, length, map, true, false, Option, Some, None, Result, Ok, Err, refl, codes, arith, inl, inr, subst}
use Rattle.std.specs.Prelude.{pos}
use Rattle.std.specs.Result.{result_err}
use Rattle.std.proofs.lemmas.Bool.{lt-ltb, le-leb}
use Rattle.std.specs.Fmt.{digits}
use Rattle.std.proofs.lemmas.List.Sums.{AllPass-from_list_all}
use Rattle.rex_text.specs.Text.{words_of, is_allowed}
use Rattle.rex_parse.specs.Words.{is_name}
use Rattle.rex_parse.specs.Above.{nothing}
use Rattle.rex_parse.specs.Fitting.{HasWords}
use Rattle.rex_parse.specs.LeastCode.{IsLeast}
use Rattle.rex_parse.specs.Table.{new_code, lock_code, variable_code, local_code, number_code, expr_code}
use Rattle.rex_parse.specs.declared.language.ServiceCode.TheVariants as service
use Rattle.rex_syntax.specs.declared.request.Request.{Request}
use Rattle.rex_scenario.specs.Requests.{is_repeated, place_code}
use Rattle.rex_syntax.specs.declared.version.Version.TheVariants.{One, Two}
use Rattle.rex_scenario.specs.Schedule.{step_of, is_there, schedule_code}
use Rattle.rex_scenario.specs.Headings.{is_due}
use Rattle.rex_scenario.specs.Fitting.{Fits}
use Rattle.rex_scenario.specs.LeastCode.{rank}
use Rattle.rex_scenario.specs.Reading.{line_code, start, answer_from, answer_of, unscheduled_answer_of, scenario_of}
use Rattle.rex_scenario.specs.declared.scenario.ScenarioCode.{ScenarioCode}
use Rattle.rex_scenario.specs.declared.scenario.ScenarioCode.TheVariants as code
use Rattle.rex_schedule.specs.declared.scenario.ScheduleLine.{ScheduleLine}
use Rattle.rex_schedule.specs.declared.scenario.ScheduleLine.TheVariants.{Elect, Submit, Lane, Cut, CutBelow, Deliver, Flush, Replay, Ask, Stop, Start, ReadVariable}
use Rattle.rex_scenario.specs.declared.schedule.Step.{Step}
use Rattle.rex_scenario.specs.declared.schedule.Step.TheVariants as step
use Rattle.rex_scenario.specs.declared.scenario.Sections.{Sections}
use Rattle.rex_scenario.specs.declared.scenario.Stage.TheVariants as stage
use Rattle.rex_scenario.proofs.FitsLeast.{lines_get_the_least}

-- lines as a text, each with a LF
text_of : List (List ℕ) → List ℕ
text_of [] = []
text_of (line ∷ lines) = line ++ 10 ∷ text_of lines

-- the counter with its heading of so many nodes
counter_of : List ℕ → List (List ℕ)
counter_of nodes =
    nodes ∷ codes "%service" ∷ codes "lanes 2" ∷ codes "lock L" ∷ codes "var a on L = 0" ∷ codes "handler add x" ∷ codes "acquire L" ∷ codes "set a = a + x" ∷ codes "let r = a"
    ∷ codes "release L" ∷ codes "reply r" ∷ []

counter_service : List (List ℕ)
counter_service = counter_of (codes "%nodes 1")

counter : List (List ℕ)
counter = counter_service ++ codes "%requests" ∷ codes "1 1 add 5" ∷ codes "%schedule" ∷ codes "elect 1" ∷ codes "submit 1 1" ∷ codes "lane 1 1" ∷ codes "cut 1 1 0" ∷ codes "cut 1" ∷ []

said : Result Sections (ℕ × ScenarioCode) → Option (List Request × List ScheduleLine)
said (Ok s) = Some ((scenario_of s).requests, (scenario_of s).schedule)
said (Err e) = None

counter_says : said (answer_of (text_of counter)) ≡ Some ((record { client = 1; sequence = 1; handler = 0; arguments = pos 5 ∷ [] }) ∷ [], Elect 1 ∷ Submit 1 0 ∷ Lane 1 0 ∷ CutBelow 1 (1 ∷ 0 ∷ []) ∷ Cut 1 ∷ [])
unfolding text_of counter counter_service counter_of said answer_from is_name new_code lock_code variable_code local_code number_code expr_code digits
counter_says = refl

-- a schedule of three nodes: one is elected, and its messages are handed over; one asks another, and one is stopped and started
cluster : List (List ℕ)
cluster =
    counter_of (codes "%nodes 3") ++ codes "%requests" ∷ codes "%schedule" ∷ codes "elect 1" ∷ codes "deliver 1" ∷ codes "flush" ∷ codes "replay 3" ∷ codes "ask 3 1" ∷ codes "stop 1" ∷ codes "start 1"
    ∷ codes "elect 3" ∷ codes "deliver 18446744073709551615" ∷ []

cluster_says : said (answer_of (text_of cluster)) ≡ Some ([], Elect 1 ∷ Deliver 1 ∷ Flush ∷ Replay 3 ∷ Ask 3 1 ∷ Stop 1 ∷ Start 1 ∷ Elect 3 ∷ Deliver 18446744073709551615 ∷ [])
unfolding text_of cluster counter_of said answer_from is_name new_code lock_code variable_code local_code number_code expr_code digits
cluster_says = refl

-- a client reads a variable of the service
reading : List (List ℕ) → List (List ℕ)
reading lines = counter_of (codes "%nodes 3") ++ codes "%requests" ∷ codes "%schedule" ∷ lines

reading_says : said (answer_of (text_of (reading (codes "read 3 1 a" ∷ codes "read 1 256 a" ∷ [])))) ≡ Some ([], ReadVariable 3 1 0 ∷ ReadVariable 1 256 0 ∷ [])
unfolding text_of reading counter_of said answer_from is_name new_code lock_code variable_code local_code number_code expr_code digits
reading_says = refl

-- a client that is none, a word that is no name, and a word too many
read_misspelled : map (λ line. result_err (answer_of (text_of (reading (line ∷ []))))) (codes "read 3 257 a" ∷ codes "read 3 0 a" ∷ codes "read 3 1 5" ∷ codes "read 3 1 a a" ∷ codes "read 3 1" ∷ [])
    ≡ Some (14, code.BadLine) ∷ Some (14, code.BadLine) ∷ Some (14, code.BadLine) ∷ Some (14, code.BadLine) ∷ Some (14, code.BadLine) ∷ []
unfolding text_of reading counter_of answer_from is_name new_code lock_code variable_code local_code number_code expr_code digits
read_misspelled = refl

-- a node that isn't there, a name of a lock, and a name of nothing
read_not_there : map (λ line. result_err (answer_of (text_of (reading (line ∷ []))))) (codes "read 4 1 a" ∷ codes "read 3 1 L" ∷ codes "read 3 1 b" ∷ []) ≡ Some (14, code.NotThere) ∷ Some (14, code.NotThere) ∷ Some (14, code.NotThere) ∷ []
unfolding text_of reading counter_of answer_from is_name new_code lock_code variable_code local_code number_code expr_code digits
read_not_there = refl

-- where the schedule may have no lines, the first is refused
first_line_is_refused : result_err (unscheduled_answer_of (text_of counter)) ≡ Some (15, code.BadLine)
unfolding text_of counter counter_service counter_of answer_from is_name new_code lock_code variable_code local_code number_code expr_code digits
first_line_is_refused = refl

-- the number of nodes and the seed of a text, if it is good
counts_in : Result Sections (ℕ × ScenarioCode) → Option (ℕ × ℕ)
counts_in (Ok s) = Some ((scenario_of s).nodes, (scenario_of s).seed)
counts_in (Err e) = None

-- the counter with a line after `%nodes 1`
with_line : List ℕ → List (List ℕ) → List (List ℕ)
with_line line [] = []
with_line line (first ∷ rest) = first ∷ line ∷ rest

three_nodes : counts_in (answer_of (text_of cluster)) ≡ Some (3, 0)
unfolding text_of cluster counter_of counts_in answer_from is_name new_code lock_code variable_code local_code number_code expr_code digits
three_nodes = refl

greatest_seed : counts_in (answer_of (text_of (with_line (codes "%seed 4294967295") counter))) ≡ Some (1, 4294967295)
unfolding text_of with_line counter counter_service counter_of counts_in answer_from is_name new_code lock_code variable_code local_code number_code expr_code digits
greatest_seed = refl

no_seed : counts_in (answer_of (text_of counter)) ≡ Some (1, 0)
unfolding text_of counter counter_service counter_of counts_in answer_from is_name new_code lock_code variable_code local_code number_code expr_code digits
no_seed = refl

-- ---- a refusal of each code

refusal : List (List ℕ) → Option (ℕ × ScenarioCode)
refusal lines = result_err (answer_of (text_of lines))

requests_of : List (List ℕ) → List (List ℕ)
requests_of lines = counter_service ++ codes "%requests" ∷ lines

schedule_of : List (List ℕ) → List (List ℕ)
schedule_of lines = requests_of (codes "1 1 add 5" ∷ codes "%schedule" ∷ lines)

bad_byte : refusal ((9 ∷ 127 ∷ []) ∷ []) ≡ Some (1, code.BadByte)
unfolding refusal text_of answer_from digits
bad_byte = refl

-- no text is refused at the line after the last
no_text : refusal [] ≡ Some (1, code.OutOfPlace)
unfolding refusal text_of answer_from digits
no_text = refl

other_heading : refusal (codes "%service" ∷ []) ≡ Some (1, code.OutOfPlace)
unfolding refusal text_of answer_from digits
other_heading = refl

two_nodes : refusal (codes "%nodes 2" ∷ []) ≡ Some (1, code.BadHeading)
unfolding refusal text_of answer_from digits
two_nodes = refl

four_nodes : refusal (codes "%nodes 4" ∷ []) ≡ Some (1, code.BadHeading)
unfolding refusal text_of answer_from digits
four_nodes = refl

eleven_nodes : refusal (codes "%nodes 11" ∷ []) ≡ Some (1, code.BadHeading)
unfolding refusal text_of answer_from digits
eleven_nodes = refl

seed_above : refusal (codes "%nodes 1" ∷ codes "%seed 4294967296" ∷ []) ≡ Some (2, code.BadHeading)
unfolding refusal text_of answer_from digits
seed_above = refl

two_seeds : refusal (codes "%nodes 1" ∷ codes "%seed 1" ∷ codes "%seed 1" ∷ []) ≡ Some (3, code.OutOfPlace)
unfolding refusal text_of answer_from digits
two_seeds = refl

bad_service : refusal (codes "%nodes 1" ∷ codes "%service" ∷ codes "lanes 65" ∷ []) ≡ Some (3, code.Service service.NoNumber)
unfolding refusal text_of answer_from digits
bad_service = refl

open_handler : refusal (codes "%nodes 1" ∷ codes "%service" ∷ codes "lanes 1" ∷ codes "%requests" ∷ []) ≡ Some (4, code.Service service.Unended)
unfolding refusal text_of answer_from digits
open_handler = refl

no_client : refusal (requests_of (codes "0 1 add 5" ∷ [])) ≡ Some (13, code.BadRequest)
unfolding refusal requests_of counter_service counter_of text_of answer_from is_name new_code lock_code variable_code local_code number_code expr_code digits
no_client = refl

no_argument : refusal (requests_of (codes "1 1 add" ∷ [])) ≡ Some (13, code.BadCall)
unfolding refusal requests_of counter_service counter_of text_of answer_from is_name new_code lock_code variable_code local_code number_code expr_code digits
no_argument = refl

same_request : refusal (requests_of (codes "1 1 add 5" ∷ codes "1 1 add 6" ∷ [])) ≡ Some (14, code.Repeated)
unfolding refusal requests_of counter_service counter_of text_of answer_from is_name new_code lock_code variable_code local_code number_code expr_code digits
same_request = refl

not_spelled : refusal (schedule_of (codes "elect 01" ∷ [])) ≡ Some (15, code.BadLine)
unfolding refusal schedule_of requests_of counter_service counter_of text_of answer_from is_name new_code lock_code variable_code local_code number_code expr_code digits
not_spelled = refl

no_node : refusal (schedule_of (codes "elect 0" ∷ [])) ≡ Some (15, code.NotThere)
unfolding refusal schedule_of requests_of counter_service counter_of text_of answer_from is_name new_code lock_code variable_code local_code number_code expr_code digits
no_node = refl

no_request : refusal (schedule_of (codes "submit 1 2" ∷ [])) ≡ Some (15, code.NotThere)
unfolding refusal schedule_of requests_of counter_service counter_of text_of answer_from is_name new_code lock_code variable_code local_code number_code expr_code digits
no_request = refl

-- ---- cuts with limits

-- the codes of schedule lines, where three nodes, a request and two lanes are there, the service's states have the old version, and so many schedule lines came before
codes_of : ℕ → List (List ℕ) → List (Option ScenarioCode)
codes_of earlier lines = map (λ line. schedule_code true 3 1 2 true earlier (start true).service (words_of line)) lines

limits_taken : codes_of 0 (codes "cut 1 0 0" ∷ codes "cut 1 4294967295 0" ∷ []) ≡ None ∷ None ∷ []
unfolding codes_of digits
limits_taken = refl

wrong_limits : codes_of 99999 (codes "cut 1 0" ∷ codes "cut 1 0 0 0" ∷ []) ≡ Some code.WrongLimits ∷ Some code.WrongLimits ∷ []
unfolding codes_of digits
wrong_limits = refl

-- a node that isn't there comes before wrong limits
limits_of_no_node : codes_of 0 (codes "cut 4 0" ∷ codes "cut 4 0 0" ∷ codes "cut 0 0 0 0" ∷ []) ≡ Some code.NotThere ∷ Some code.NotThere ∷ Some code.NotThere ∷ []
unfolding codes_of digits
limits_of_no_node = refl

-- and one line too many before both
limits_past_the_last_line : codes_of 100000 (codes "cut 1 0 0" ∷ codes "cut 1 0" ∷ codes "cut 4 0" ∷ []) ≡ Some code.TooManyLines ∷ Some code.TooManyLines ∷ Some code.TooManyLines ∷ []
unfolding codes_of digits
limits_past_the_last_line = refl

-- what is no limit comes before all of them
no_limit : codes_of 100000 (codes "cut 1 x" ∷ codes "cut 2 0 0 x" ∷ codes "cut 1 4294967296 0" ∷ codes "cut 1 18446744073709551616 0" ∷ [])
    ≡ Some code.BadLine ∷ Some code.BadLine ∷ Some code.BadLine ∷ Some code.BadLine ∷ []
unfolding codes_of digits
no_limit = refl

-- ---- several nodes

-- node 5 of five is there, and node 4 of three isn't
five_nodes : map (is_there 5 1 2) (step.Elect 5 ∷ step.Ask 5 1 ∷ step.Elect 6 ∷ []) ≡ true ∷ true ∷ false ∷ []
five_nodes = refl

taken : codes_of 99999 (codes "elect 3" ∷ codes "ask 1 3" ∷ codes "ask 3 1" ∷ codes "deliver 1" ∷ codes "flush" ∷ codes "replay 3" ∷ codes "stop 3" ∷ codes "start 3" ∷ [])
    ≡ None ∷ None ∷ None ∷ None ∷ None ∷ None ∷ None ∷ None ∷ []
unfolding codes_of digits
taken = refl

not_there : codes_of 0 (codes "replay 4" ∷ codes "stop 4" ∷ codes "start 0" ∷ []) ≡ Some code.NotThere ∷ Some code.NotThere ∷ Some code.NotThere ∷ []
unfolding codes_of digits
not_there = refl

-- a node asks another one that is there
asked : codes_of 0 (codes "ask 2 2" ∷ codes "ask 1 4" ∷ codes "ask 4 1" ∷ codes "ask 0 1" ∷ []) ≡ Some code.NotThere ∷ Some code.NotThere ∷ Some code.NotThere ∷ Some code.NotThere ∷ []
unfolding codes_of digits
asked = refl

-- no message has the number 0, and no message's number is above 2^64 - 1
no_message : codes_of 0 (codes "deliver 18446744073709551615" ∷ codes "deliver 0" ∷ codes "deliver 18446744073709551616" ∷ []) ≡ None ∷ Some code.NotThere ∷ Some code.BadLine ∷ []
unfolding codes_of digits
no_message = refl

-- words that are of no form come before nodes that aren't there, and before one line too many
no_form : codes_of 100000 (codes "flush 1" ∷ codes "replay" ∷ codes "ask 4" ∷ codes "start 4 4" ∷ [])
    ≡ Some code.BadLine ∷ Some code.BadLine ∷ Some code.BadLine ∷ Some code.BadLine ∷ []
unfolding codes_of digits
no_form = refl

-- ---- checkpoints, values that are dropped, and keepers that fail

-- the steps that lines spell
steps_of : List (List ℕ) → List (Option Step)
steps_of lines = map (λ line. step_of (start true).service (words_of line)) lines

spelled : steps_of (codes "checkpoint 2" ∷ codes "drop 3" ∷ codes "drop" ∷ codes "keepfail 2 kept" ∷ codes "keepfail 3 lost" ∷ codes "keepfail 1" ∷ codes "keepfail 1 keep" ∷ [])
    ≡ Some (step.Checkpoint 2 Two) ∷ Some (step.DropKnown 3) ∷ None ∷ Some (step.KeepFail 2 true) ∷ Some (step.KeepFail 3 false) ∷ None ∷ None ∷ []
unfolding steps_of digits
spelled = refl

-- the node that they name has to be there
of_nodes : codes_of 99999 (codes "checkpoint 1" ∷ codes "checkpoint 4" ∷ codes "drop 3" ∷ codes "drop 4" ∷ codes "keepfail 1 kept" ∷ codes "keepfail 0 lost" ∷ []) ≡ None ∷ Some code.NotThere ∷ None ∷ Some code.NotThere ∷ None ∷ Some code.NotThere ∷ []
unfolding codes_of digits
of_nodes = refl

-- ---- checkpoints in the old version

old_spelled : steps_of (codes "checkpoint 2 old" ∷ codes "checkpoint 2 new" ∷ codes "checkpoint old" ∷ codes "checkpoint 2 old 2" ∷ codes "checkpoint 2 2" ∷ [])
    ≡ Some (step.Checkpoint 2 One) ∷ None ∷ None ∷ None ∷ None ∷ []
unfolding steps_of digits
old_spelled = refl

-- they are refused where the service's states don't have it, after a node that isn't there
old_refused : map (λ (old : Bool). schedule_code true 3 1 2 old 0 (start true).service (words_of (codes "checkpoint 2 old"))) (true ∷ false ∷ []) ≡ None ∷ Some code.NoOldForm ∷ []
unfolding digits
old_refused = refl

old_of_no_node : schedule_code true 3 1 2 false 0 (start true).service (words_of (codes "checkpoint 4 old")) ≡ Some code.NotThere
unfolding digits
old_of_no_node = refl

-- ---- the codes of what is too much

too_long : (bytes : List ℕ) → 4194304 < length bytes → answer_of bytes ≡ Err (0, code.TooLong)
too_long bytes lt = rw (lt-ltb 4194304 (length bytes) lt) refl

too_many_lines : (lanes : ℕ) → schedule_code true 1 0 lanes true 100000 (start true).service (codes "elect" ∷ codes "1" ∷ []) ≡ Some code.TooManyLines
unfolding digits
too_many_lines lanes = refl

too_many_requests : (earlier : List Request) (r : Request) → is_repeated earlier r ≡ false → 65536 ≤ length earlier → place_code earlier r ≡ Some code.TooManyRequests
too_many_requests earlier r new full = rw (new, le-leb 65536 (length earlier) full) refl

-- ---- the codes that fit a line

-- in the requests, after one of client 1, where the service has no handler
requested : Sections
requested = record {
  stage = stage.Requests;
  scheduled = true;
  nodes = 1;
  seed = 0;
  service = nothing;
  requests = (record { client = 1; sequence = 1; handler = 0; arguments = [] }) ∷ [];
  schedule = [];
  beyond = None;
}

-- the same client and sequence, and a handler that isn't there
requested_again : List ℕ
requested_again = codes "1 1 add"

requested_again_has : HasWords requested_again (codes "1") (codes "1" ∷ codes "add" ∷ [])
unfolding requested_again
requested_again_has = record { allowed = AllPass-from_list_all is_allowed requested_again refl; meant = refl; words = refl }

-- S6 fits it, for the handler
call_fits : Fits requested requested_again code.BadCall
unfolding requested
call_fits = (codes "1", codes "1" ∷ codes "add" ∷ [], requested_again_has, (refl, refl))

-- and S7, for the client and the sequence
repeated_fits : Fits requested requested_again code.Repeated
unfolding requested digits
repeated_fits = (codes "1", codes "1" ∷ codes "add" ∷ [], requested_again_has, (refl, (0, record { client = 1; sequence = 1; handler = 0; arguments = [] }, omega arith, refl, (refl, refl))))

-- S7 would be a wrong answer
repeated_is_wrong : ¬ (IsLeast rank (Fits requested requested_again) code.Repeated)
repeated_is_wrong l = l.least code.BadCall (omega arith) call_fits

-- in a service of which no line has come
empty_service : Sections
empty_service = record { stage = stage.Service; scheduled = true; nodes = 1; seed = 0; service = nothing; requests = []; schedule = []; beyond = None }

-- a heading that isn't due
too_early : List ℕ
too_early = codes "%schedule"

too_early_has : HasWords too_early (codes "%schedule") []
unfolding too_early
too_early_has = record { allowed = AllPass-from_list_all is_allowed too_early refl; meant = refl; words = refl }

-- S3 fits it, since the requests are due
early_fits : Fits empty_service too_early code.OutOfPlace
unfolding empty_service
early_fits = (codes "%schedule", [], too_early_has, inl (refl, λ next b. let same : Some stage.Schedule ≡ Some next = b.named in let due : is_due stage.Service stage.Schedule ≡ true = subst (λ x. is_due stage.Service x ≡ true) (let one : next ≡ stage.Schedule = cc in one) b.due in cc))

-- and P14, since no handler was declared
unended_fits : Fits empty_service too_early (code.Service service.Unended)
unfolding empty_service too_early
unended_fits = (refl, inl (refl, inr refl))

-- S3 would be a wrong answer, and so would none
early_is_wrong : ¬ (IsLeast rank (Fits empty_service too_early) code.OutOfPlace)
early_is_wrong l = l.least (code.Service service.Unended) (omega arith) unended_fits

nothing_is_wrong : line_code empty_service too_early ≡ None → ⊥
nothing_is_wrong e = (lines_get_the_least empty_service too_early).none.0 e (code.Service service.Unended) unended_fits
