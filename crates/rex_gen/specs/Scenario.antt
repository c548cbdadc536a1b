-- The scenario that a seed and a number of rounds give.
use Rattle.std.specs.Prelude.{ℕ, zero, suc, ◌+◌, ◌*◌, ◌-◌, ◌%◌, ◌==◌, List, [], ◌∷◌, ◌++◌, codes, if◌then◌else◌}
use Rattle.rand_pcg.specs.Lcg.{Lcg, started, increment_of}
use Rattle.rand_pcg.specs.Pcg.{multiplier_64, pcg32}
use Rattle.rex_gen.specs.Commands.{command, request}

-- ---- before the schedule

-- a service that counts under a lock
unfoldable pub service_text : List ℕ
service_text = codes "lanes 2\nlock L\nvar a on L = 0\nhandler add x\nacquire L\nset a = a + x\nlet r = a\nrelease L\nreply r\n"

-- three nodes, the seed and the service
abbrev pub head : ℕ → List ℕ
head seed =
    command (codes "%nodes") (3 ∷ []) ++ (command (codes "%seed") (seed ∷ []) ++ (codes "%service\n" ++ (service_text ++ codes "%requests\n")))

-- for each of so many rounds, from 1 on, a request of each of two clients
abbrev pub requests : ℕ → ℕ → List ℕ
requests seed zero = []
requests seed (suc r) = requests seed r ++ (request 1 (r + 1) ((seed + (r + 1)) % 100) ++ request 2 (r + 1) ((seed + 2 * (r + 1)) % 100))

-- ---- a round

-- the generator after so many of its words
unfoldable pub drawn : Lcg → ℕ → Lcg
drawn dice zero = dice
drawn dice (suc n) = (pcg32 (drawn dice n)).1

-- a turn of the leader's lane 1 or 2 for each of the generator's first so many words: 1 more than the word's remainder by 2
unfoldable pub drawn_lanes : ℕ → Lcg → ℕ → List ℕ
drawn_lanes leader dice zero = []
drawn_lanes leader dice (suc n) = drawn_lanes leader dice n ++ command (codes "lane") (leader ∷ ((pcg32 (drawn dice n)).0 % 2 + 1) ∷ [])

-- turns of the leader's two lanes one after the other, so many times
unfoldable pub lane_pairs : ℕ → ℕ → List ℕ
lane_pairs leader zero = []
lane_pairs leader (suc n) = lane_pairs leader n ++ (command (codes "lane") (leader ∷ 1 ∷ []) ++ command (codes "lane") (leader ∷ 2 ∷ []))

-- the node after another one, in a circle of three
abbrev pub next_node : ℕ → ℕ
next_node node = node % 3 + 1

-- what a node is asked for at the end of a round: in every third of ten rounds a checkpoint, in every fifth to stop and start, in every tenth to lead
abbrev pub disturbance : ℕ → ℕ → List ℕ
disturbance round node =
    if round % 10 == 3 then command (codes "checkpoint") (node ∷ [])
    else (if round % 10 == 5 then command (codes "stop") (node ∷ []) ++ command (codes "start") (node ∷ [])
    else (if round % 10 == 0 then command (codes "elect") (node ∷ []) ++ codes "flush\nflush\n" else []))

-- the leader is handed the two requests of a round, and its lanes move: twelve that are drawn, then eight times both
abbrev pub work : ℕ → ℕ → Lcg → List ℕ
work round leader dice =
    command (codes "submit") (leader ∷ (2 * round - 1) ∷ []) ++ (command (codes "submit") (leader ∷ (2 * round) ∷ []) ++ (drawn_lanes leader dice 12 ++ lane_pairs leader 8))

-- it proposes what they did, and messages are handed over
abbrev pub proposal : ℕ → List ℕ
proposal leader = command (codes "cut") (leader ∷ []) ++ codes "flush\nflush\nflush\n"

-- the second request comes again, the message of the round's number comes again, and the next node replays
abbrev pub repeats : ℕ → ℕ → List ℕ
repeats round leader =
    command (codes "submit") (leader ∷ (2 * round) ∷ []) ++ (command (codes "deliver") (round ∷ []) ++ command (codes "replay") (next_node leader ∷ []))

-- a round, numbered from 1
abbrev pub round_text : ℕ → ℕ → Lcg → List ℕ
round_text round leader dice = work round leader dice ++ (proposal leader ++ (repeats round leader ++ disturbance round (next_node leader)))

-- ---- all rounds

-- the leader after a round: after each tenth one the next node
abbrev pub next_leader : ℕ → ℕ → ℕ
next_leader round leader = if round % 10 == 0 then next_node leader else leader

-- the leader after so many rounds, of which the first has node 1
abbrev pub leader_after : ℕ → ℕ
leader_after zero = 1
leader_after (suc r) = next_leader (r + 1) (leader_after r)

-- the generator after so many rounds: stream 1 of the seed
abbrev pub dice_after : ℕ → ℕ → Lcg
dice_after seed zero = started 64 multiplier_64 seed (increment_of 64 1)
dice_after seed (suc r) = drawn (dice_after seed r) 12

-- so many rounds, one after the other
abbrev pub rounds : ℕ → ℕ → List ℕ
rounds seed zero = []
rounds seed (suc r) = rounds seed r ++ round_text (r + 1) (leader_after r) (dice_after seed r)

-- the text of the scenario: the service, its requests, and a schedule that makes node 1 the leader and then has the rounds
abbrev pub scenario_text : ℕ → ℕ → List ℕ
scenario_text seed size = head seed ++ requests seed size ++ codes "%schedule\nelect 1\nflush\nflush\n" ++ rounds seed size
