-- What stands before the requests.
use Rattle.std.proofs.Common.{◌≡◌, ℕ, ◌<◌, ◌≤◌, ◌^◌, true, List, [], ◌∷◌, ◌++◌, Some, None, refl, arith}
use Rattle.std.specs.Prelude.{codes}
use Rattle.std.specs.Fmt.{decimal, digits}
use Rattle.rex_parse.specs.Words.{is_name}
use Rattle.rex_parse.specs.Table.{new_code, lock_code, variable_code, local_code, number_code, expr_code}
use Rattle.rex_parse.specs.Above.{nothing}
use Rattle.rex_gen.specs.Commands.{command}
use Rattle.rex_gen.specs.Scenario.{head, service_text}
use Rattle.rex_scenario.specs.Reading.{line_code, line_after, start}
use Rattle.rex_scenario.specs.declared.scenario.Sections.{Sections}
use Rattle.rex_scenario.specs.declared.scenario.Stage.TheVariants as stage
use Rattle.std.specs.List.{list_all}
use Rattle.rex_text.specs.Text.{is_allowed, words_of}
use Rattle.rex_scenario.specs.Headings.{seed_of}
use Rattle.rex_soak.proofs.Lines.{IsWord, AreWords, spaced, spaced_words, spaced_plain, plain_clean, in_range}
use Rattle.rex_soak.proofs.Numbers.{decimal_word, read_u64}
use Rattle.rex_soak.proofs.Commands.{command_is}
use Rattle.rex_soak.proofs.Texts.{IsRead, read_lines, read_line, read_both, read_all, text_of}
use Rattle.rex_soak.proofs.Counter.{requesting}

-- the heading of the service, its lines, and the heading of the requests
service_lines : List (List ℕ)
service_lines =
    codes "%service" ∷ codes "lanes 2" ∷ codes "lock L" ∷ codes "var a on L = 0" ∷ codes "handler add x" ∷ codes "acquire L" ∷ codes "set a = a + x" ∷ codes "let r = a"
    ∷ codes "release L" ∷ codes "reply r" ∷ codes "%requests" ∷ []

-- three nodes and the seed
abbrev seeded : ℕ → Sections
seeded seed = record { stage = stage.Seed; scheduled = true; nodes = 3; seed = seed; service = nothing; requests = []; schedule = []; beyond = None }

service_is : text_of service_lines ≡ codes "%service\n" ++ (service_text ++ codes "%requests\n")
unfolding service_lines service_text
service_is = refl

service_read : (seed : ℕ) → read_lines (seeded seed) 3 service_lines ≡ Some (requesting seed [])
unfolding service_lines is_name new_code lock_code variable_code local_code number_code expr_code digits
service_read seed = refl

-- ---- the nodes and the seed

-- three nodes
abbrev noded : Sections
noded = record { stage = stage.Nodes; scheduled = true; nodes = 3; seed = 0; service = nothing; requests = []; schedule = []; beyond = None }

nodes_read : read_lines (start true) 1 (codes "%nodes 3" ∷ []) ≡ Some noded
unfolding digits
nodes_read = refl

nodes_is : text_of (codes "%nodes 3" ∷ []) ≡ command (codes "%nodes") (3 ∷ [])
unfolding digits
nodes_is = refl

seed_is : (seed : ℕ) → seed ≤ 4294967295 → seed_of (decimal seed) ≡ Some seed
seed_is seed le = rw (read_u64 seed (omega arith), in_range 0 4294967295 seed (omega arith) le) refl

seed_code : (line w : List ℕ) (seed : ℕ) → list_all is_allowed line ≡ true → words_of line ≡ codes "%seed" ∷ w ∷ [] → seed_of w ≡ Some seed
    → (line_code noded line ≡ None) × (line_after noded 2 line ≡ seeded seed)
seed_code line w seed clean words is = (rw (clean, words, is) refl, rw (words, is) refl)

seed_word : IsWord (codes "%seed")
seed_word = record { some = omega arith; visible = refl }

seed_read : (seed : ℕ) → seed ≤ 4294967295 → IsRead noded 2 (command (codes "%seed") (seed ∷ [])) (seeded seed) 3
seed_read seed le =
    let lt : seed < 2 ^ 64 = omega arith in
    let ws : List (List ℕ) = codes "%seed" ∷ decimal seed ∷ [] in
    let are : AreWords (codes "%seed" ∷ decimal seed ∷ []) = (seed_word, (decimal_word seed lt, tt)) in
    let plain = spaced_plain ws are in
    let good = seed_code (spaced ws) (decimal seed) seed (plain_clean (spaced ws) plain) (spaced_words ws are) (seed_is seed le) in
    rw (← command_is (codes "%seed") (seed ∷ []), ← good.1) (read_line noded 2 (spaced ws) plain good.0)

-- ---- all of it

pub head_read : (seed : ℕ) → seed ≤ 4294967295 → IsRead (start true) 1 (head seed) (requesting seed []) 14
unfolding service_lines
head_read seed le =
    let first : IsRead (start true) 1 (command (codes "%nodes") (3 ∷ [])) noded 2 = rw nodes_is at (read_all (start true) noded 1 (codes "%nodes 3" ∷ []) nodes_read) in
    let rest : IsRead (seeded seed) 3 (codes "%service\n" ++ (service_text ++ codes "%requests\n")) (requesting seed []) 14 =
    rw service_is at (read_all (seeded seed) (requesting seed []) 3 service_lines (service_read seed)) in
    read_both _ _ _ 1 2 14 _ _ first (read_both _ _ _ 2 3 14 _ _ (seed_read seed le) rest)
