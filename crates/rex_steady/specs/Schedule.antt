-- What a leader that nothing disturbs is made to do.
use Rattle.std.specs.Prelude.{ℕ, zero, suc, ◌==◌, List, [], ◌∷◌, ◌++◌, if◌then◌else◌}
use Rattle.rex_event.specs.declared.event.Event.{Event}
use Rattle.rex_schedule.specs.declared.scenario.ScheduleLine.TheVariants.{Elect, Cut, Flush, Replay}
use Rattle.rex_cluster.specs.Takes.{Doing}
use Rattle.rex_cluster.specs.Takes.Doing.{Does, Takes}

-- node 1 asks to lead, and the answers of all others come back to it
abbrev pub election : List Doing
election = Does (Elect 1) ∷ Does Flush ∷ Does Flush ∷ []

-- node 1 is handed events, one after the other
abbrev pub takes : List Event → List Doing
takes [] = []
takes (e ∷ es) = Takes 1 e ∷ takes es

-- node 1 cuts its live events; all others are asked, answer, and are told
abbrev pub agreement : List Doing
agreement = Does (Cut 1) ∷ Does Flush ∷ Does Flush ∷ Does Flush ∷ []

-- the blocks are handed in and agreed, one after the other
abbrev pub agreements : List (List Event) → List Doing
agreements [] = []
agreements (block ∷ blocks) = takes block ++ (agreement ++ agreements blocks)

-- the nodes 2 to n replay what they know
abbrev pub replays : ℕ → List Doing
replays zero = []
replays (suc k) = if suc k == 1 then [] else replays k ++ Does (Replay (suc k)) ∷ []

-- node 1 is elected among n nodes, leads these blocks to agreement, and then the others replay them
abbrev pub live_doings : ℕ → List (List Event) → List Doing
live_doings n blocks = election ++ (agreements blocks ++ replays n)
