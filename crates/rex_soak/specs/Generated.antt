-- What the generated scenarios are.
use Rattle.std.specs.Prelude.{◌≡◌, ◌≤◌, ◌+◌, ◌*◌, ℕ, length, None, Ok}
use Rattle.rex_gen.specs.Scenario.{scenario_text}
use Rattle.rex_lockset.specs.Refusal.{refusal_of}
use Rattle.rex_parse.specs.After.{service_of}
use Rattle.rex_scenario.specs.Reading.{answer_of}
use Rattle.rex_scenario.specs.declared.scenario.Sections.{Sections}

-- the text that a seed and a number of rounds give is a scenario of three nodes with that seed, two requests a round and, after the first three, at most forty schedule lines a round, whose service passes the check
pub record IsGood (seed size : ℕ) : Type 0 where
  pub sections : Sections
  pub read : answer_of (scenario_text seed size) ≡ Ok sections
  pub passes : refusal_of (service_of sections.service) ≡ None
  pub three_nodes : sections.nodes ≡ 3
  pub seed_is : sections.seed ≡ seed
  pub two_a_round : length sections.requests ≡ 2 * size
  pub forty_a_round : length sections.schedule ≤ 3 + 40 * size

-- so it is for each seed and each number of rounds from 1 to 1,000
abbrev pub GeneratedScenariosAreGood : Type 0
GeneratedScenariosAreGood = (seed size : ℕ) → seed ≤ 4294967295 → 1 ≤ size → size ≤ 1000 → IsGood seed size
