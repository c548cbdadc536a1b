-- What the program is to answer, computed.
use Rattle.std.proofs.Common.{◌≡◌, ℕ, List, [], ◌∷◌, ◌++◌, refl, codes}
use Rattle.std.specs.Prelude.{None, false}
use Rattle.std.specs.Fmt.{digits}
use Rattle.rex_parse.specs.Words.{is_name}
use Rattle.rex_parse.specs.Table.{new_code, lock_code, variable_code, local_code, number_code, expr_code}
use Rattle.rex_parse.specs.Reading.{answer_from as service_answer_from}
use Rattle.rex_scenario.specs.Reading.{answer_from}
use Rattle.rex_command.specs.declared.commands.Command.TheVariants.{Run, Check}
use Rattle.rex_answer.specs.Due.{Due}
use Rattle.rex_cli.specs.Due.{due_command, due_for, due_usage}

-- lines as a text, each with a LF
abbrev text_of : List (List ℕ) → List ℕ
text_of [] = []
text_of (line ∷ lines) = line ++ 10 ∷ text_of lines

-- a status and one line
abbrev one_line : ℕ → List ℕ → Due
one_line status line = record { status = status; text = line ++ 10 ∷ [] }

-- a service whose handler adds its argument, and ends with this reply
abbrev service : List ℕ → List (List ℕ)
service reply =
    codes "lanes 2" ∷ codes "lock L" ∷ codes "var a on L = 0" ∷ codes "handler add x" ∷ codes "acquire L" ∷ codes "set a = a + x" ∷ codes "let r = a" ∷ codes "release L" ∷ reply ∷ []

-- a scenario with this service
abbrev scenario : List ℕ → List (List ℕ)
scenario reply =
    codes "%nodes 1" ∷ codes "%service" ∷ (service reply
    ++ codes "%requests" ∷ codes "1 1 add 5" ∷ codes "%schedule" ∷ codes "elect 1" ∷ codes "submit 1 1" ∷ codes "lane 1 1" ∷ codes "lane 1 1" ∷ codes "lane 1 1" ∷ codes "lane 1 1"
    ∷ codes "cut 1" ∷ [])

-- ---- run

-- a scenario whose one node does nothing, and one whose node is elected
abbrev idle : List (List ℕ) → List (List ℕ)
idle lines = codes "%nodes 1" ∷ codes "%service" ∷ (service (codes "reply r") ++ codes "%requests" ∷ codes "%schedule" ∷ lines)

idle_runs : due_command (Run 1 false) (text_of (idle [])) ≡ one_line 0 (codes "end node 1 follower promised 0 known 0 replayed 0 a=0")
unfolding answer_from is_name new_code lock_code variable_code local_code number_code expr_code digits
idle_runs = refl

leader_runs : due_command (Run 1 false) (text_of (idle (codes "elect 1" ∷ [])))
    ≡ record { status = 0; text = text_of (codes "1 node 1 candidate ballot 17" ∷ codes "1 node 1 active ballot 17" ∷ codes "end node 1 active promised 17 known 0 live 0 a=0" ∷ []) }
unfolding answer_from is_name new_code lock_code variable_code local_code number_code expr_code digits
leader_runs = refl

-- a reply that reads without the lock is refused by its line in the scenario
race_is_refused : due_command (Run 1 false) (text_of (scenario (codes "reply a"))) ≡ one_line 3 (codes "refused handler add line 11 C1")
unfolding answer_from is_name new_code lock_code variable_code local_code number_code expr_code digits
race_is_refused = refl

nothing_is_no_scenario : due_command (Run 1 false) [] ≡ one_line 1 (codes "refused line 1 S3")
unfolding answer_from digits
nothing_is_no_scenario = refl

-- ---- check

counter_is_checked : due_command Check (text_of (service (codes "reply r"))) ≡ one_line 0 (codes "checked handlers 1 locks 1 conditions 0 variables 1")
unfolding service_answer_from is_name new_code lock_code variable_code local_code number_code expr_code digits
counter_is_checked = refl

race_is_not_checked : due_command Check (text_of (service (codes "reply a"))) ≡ one_line 3 (codes "refused handler add line 9 C1")
unfolding service_answer_from is_name new_code lock_code variable_code local_code number_code expr_code digits
race_is_not_checked = refl

nothing_is_no_service : due_command Check [] ≡ one_line 1 (codes "refused line 1 P14")
unfolding service_answer_from digits
nothing_is_no_service = refl

-- a scenario is no service
scenario_is_no_service : due_command Check (text_of (scenario (codes "reply r"))) ≡ one_line 1 (codes "refused line 1 P2")
unfolding service_answer_from is_name new_code lock_code variable_code local_code number_code expr_code digits
scenario_is_no_service = refl

-- ---- other words

other_words : due_for None [] ≡ due_usage
other_words = refl
