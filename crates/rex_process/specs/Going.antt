-- What lanes that go on come to, turn by turn.
use Rattle.std.specs.Prelude.{◌≡◌, ◌<◌, ◌≤◌, ◌+◌, ℕ, true, pos, List, fold, length}
use Rattle.std.specs.List.{All}
use Rattle.rex_record.specs.declared.turns.Turn.{Turn}
use Rattle.rex_record.specs.declared.turns.Turn.TheVariants.{Done}
use Rattle.rex_cluster.specs.Lanes.{turned}
use Rattle.rex_node.specs.Calls.{LeadsTo, turn_at}
use Rattle.rex_process.specs.Process.{ProcessValue, IsProcess, IsSame, here}
use Rattle.rex_process.specs.Running.{turn_of}

-- the process is the same one, up and in the same role, at the same clock and with the same records
pub record IsStill {K : Type 0} (records : K → List (List ℕ)) (faults : K → ℕ) (p q : ProcessValue K) : Type 0 where
  pub process : IsProcess records faults q
  pub up : q.node.up ≡ true
  pub same : IsSame p q
  pub clock : q.clock ≡ p.clock
  pub keeper : q.node.keeper ≡ p.node.keeper
  pub role : (here records q).role ≡ (here records p).role

-- how many events a turn made
abbrev pub events_in : Turn → ℕ
events_in (Done e) = 1
events_in _ = 0

-- a lane had this turn, at the clock of the process
pub record HasGone {K : Type 0} (records : K → List (List ℕ)) (p q : ProcessValue K) (lane : ℕ) (turn : Turn) : Type 0 where
  pub is : turn ≡ turn_at p.service (here records p) lane p.clock
  pub leads : LeadsTo (turned p.service lane turn) (here records p) (here records q)

-- a lane had its turn, and made an event in it, or left the node as it was
pub record HasMade {K : Type 0} (records : K → List (List ℕ)) (p q : ProcessValue K) (lane events : ℕ) : Type 0 where
  pub few : events ≤ 1
  pub turned : (reads : ℕ) → p.clock ≡ pos reads → here records q ≡ turn_of p reads (here records p) lane
  pub made : length (here records q).work.live ≡ length (here records p).work.live + events
  pub idle : events ≡ 0 → here records q ≡ here records p

-- lanes of the service had turns, one after another, in which so many events were made
pub record HasTurned {K : Type 0} (records : K → List (List ℕ)) (p q : ProcessValue K) (events : ℕ) : Type 0 where
  pub lanes : List ℕ
  pub there : All (λ (lane : ℕ). lane < p.service.lanes) lanes
  pub turns : (reads : ℕ) → p.clock ≡ pos reads → here records q ≡ fold (turn_of p reads) (here records p) lanes
  pub made : length (here records q).work.live ≡ length (here records p).work.live + events

-- so many first lanes had turns; where no event was made, the node is as it was, and none of them can go on
pub record HasRound {K : Type 0} (records : K → List (List ℕ)) (p q : ProcessValue K) (many events : ℕ) : Type 0 where
  pub turned : HasTurned records p q events
  pub idle : events ≡ 0 → here records q ≡ here records p
  pub rest : events ≡ 0 → (reads : ℕ) → p.clock ≡ pos reads → (lane : ℕ) → lane < many → turn_of p reads (here records p) lane ≡ here records p

-- lanes had turns, and now none can go on
pub record HasStopped {K : Type 0} (records : K → List (List ℕ)) (p q : ProcessValue K) (events : ℕ) : Type 0 where
  pub turned : HasTurned records p q events
  pub rest : (reads : ℕ) → p.clock ≡ pos reads → (lane : ℕ) → lane < p.service.lanes → turn_of p reads (here records q) lane ≡ here records q
