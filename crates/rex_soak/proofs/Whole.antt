-- Each generated scenario is one.
use Rattle.std.proofs.Common.{◌≡◌, ℕ, ◌+◌, ◌*◌, ◌<◌, ◌≤◌, ◌^◌, List, [], ◌∷◌, ◌++◌, length, Some, refl, arith, length-append}
use Rattle.std.specs.Prelude.{codes}
use Rattle.std.specs.Fmt.{decimal, digits}
use Rattle.rex_syntax.specs.declared.request.Request.{Request}
use Rattle.rex_gen.specs.Commands.{command}
use Rattle.rex_gen.specs.Scenario.{head, requests, rounds, service_text, scenario_text}
use Rattle.rex_schedule.specs.declared.scenario.ScheduleLine.{ScheduleLine}
use Rattle.rex_schedule.specs.declared.scenario.ScheduleLine.TheVariants.{Elect, Flush}
use Rattle.rex_soak.specs.Generated.{GeneratedScenariosAreGood}
use Rattle.rex_soak.proofs.Lines.{length-spaced}
use Rattle.rex_soak.proofs.Numbers.{short}
use Rattle.rex_soak.proofs.Commands.{command_is}
use Rattle.rex_soak.proofs.Texts.{IsRead, read_both, read_lines, read_all, read_whole}
use Rattle.rex_soak.proofs.Counter.{counter_passes, requesting, scheduling}
use Rattle.rex_soak.proofs.Head.{head_read}
use Rattle.rex_soak.proofs.Asked.{are_asked}
use Rattle.rex_soak.proofs.Rounds.{adds_rounds}

-- ---- the schedule before the rounds

opening_lines : List (List ℕ)
opening_lines = codes "%schedule" ∷ codes "elect 1" ∷ codes "flush" ∷ codes "flush" ∷ []

abbrev opening : List ScheduleLine
opening = Elect 1 ∷ Flush ∷ Flush ∷ []

opening_read : (seed : ℕ) (list : List Request) (n : ℕ) → read_lines (requesting seed list) n opening_lines ≡ Some (scheduling seed list opening)
unfolding opening_lines digits
opening_read seed list n = refl

opening_is_read : (seed : ℕ) (list : List Request) (n : ℕ) → IsRead (requesting seed list) n (codes "%schedule\nelect 1\nflush\nflush\n") (scheduling seed list opening) (n + 4)
unfolding opening_lines
opening_is_read seed list n = read_all (requesting seed list) (scheduling seed list opening) n opening_lines (opening_read seed list n)

-- ---- the length

length-command : (w : List ℕ) (n : ℕ) → n < 2 ^ 64 → length (command w (n ∷ [])) ≤ length w + 22
length-command w n lt = rw (← command_is w (n ∷ [])) (omega (arith, length-spaced w (decimal n ∷ []), short n lt))

service_length : length (codes "%service\n" ++ (service_text ++ codes "%requests\n")) ≡ 115
unfolding service_text
service_length = refl

length-head : (seed : ℕ) → seed ≤ 4294967295 → length (head seed) ≤ 180
length-head seed le =
    let rest = codes "%service\n" ++ (service_text ++ codes "%requests\n") in
    omega (
      arith,
      length-append (command (codes "%nodes") (3 ∷ [])) (command (codes "%seed") (seed ∷ []) ++ rest),
      length-append (command (codes "%seed") (seed ∷ [])) rest,
      length-command (codes "%nodes") 3 (omega arith),
      length-command (codes "%seed") seed (omega arith),
      service_length,
    )

-- ---- all of it

pub generated_scenarios_are_good : GeneratedScenariosAreGood
generated_scenarios_are_good seed size le low high =
    let asked = are_asked seed size high in
    let there : 2 * size ≤ length asked.list = omega (arith, asked.two_each) in
    let adds = adds_rounds seed asked.list size high there in
    let grown = adds.grown opening (asked.next + 4) (omega arith) in
    let before = read_both _ _ _ 1 14 asked.next (head seed) (requests seed size) (head_read seed le) asked.read in
    let opened = read_both _ _ _ 1 asked.next (asked.next + 4) (head seed ++ requests seed size) (codes "%schedule\nelect 1\nflush\nflush\n") before (opening_is_read seed asked.list asked.next) in
    let read = read_both _ _ _ 1 (asked.next + 4) grown.next (head seed ++ requests seed size ++ codes "%schedule\nelect 1\nflush\nflush\n") (rounds seed size) opened grown.read in
    let fits : length (scenario_text seed size) ≤ 4194304 =
    omega (
      arith,
      length-append (head seed ++ requests seed size ++ codes "%schedule\nelect 1\nflush\nflush\n") (rounds seed size),
      length-append (head seed ++ requests seed size) (codes "%schedule\nelect 1\nflush\nflush\n"),
      length-append (head seed) (requests seed size),
      length-head seed le,
      asked.short,
      adds.short,
    ) in
    record {
      sections = scheduling seed asked.list grown.more;
      read = read_whole (scenario_text seed size) (scheduling seed asked.list grown.more) grown.next fits read refl;
      passes = counter_passes;
      three_nodes = refl;
      seed_is = refl;
      two_a_round = asked.two_each;
      forty_a_round = grown.few;
    }
