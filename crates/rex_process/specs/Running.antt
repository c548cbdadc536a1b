-- Lanes that go on.
use Rattle.std.specs.Prelude.{◌≡◌, ◌<◌, ◌+◌, ℕ, ℤ, pos, true, List, fold, length}
use Rattle.std.specs.Int.{int_max}
use Rattle.std.specs.List.{All}
use Rattle.rex_report.specs.declared.effect.Effect.{Effect}
use Rattle.rex_report.specs.declared.effect.Effect.TheVariants.{NotActive}
use Rattle.rex_cluster.specs.Node.{is_active, role_name}
use Rattle.rex_cluster.specs.Calls.{begin}
use Rattle.rex_cluster.specs.Lanes.{Here}
use Rattle.rex_processes.specs.Processes.Task.{Turn}
use Rattle.rex_process.specs.declared.running.Ran.{Ran}
use Rattle.rex_process.specs.declared.running.Ran.TheVariants.{Made, Refused}
use Rattle.rex_process.specs.Process.{ProcessValue, call_in, here}

-- the node after the turn of a lane that reads this clock
abbrev pub turn_of : {K : Type 0} → ProcessValue K → ℕ → Here → ℕ → Here
turn_of p reads x lane = (call_in p (Turn lane reads) (begin x)).node

-- lanes of the service had turns, one after another, in which so many events were made; and no lane can go on from there
pub record HasTurns {K : Type 0} (records : K → List (List ℕ)) (p q : ProcessValue K) (reads events : ℕ) : Type 0 where
  pub active : is_active (here records p).role ≡ true
  pub lanes : List ℕ
  pub there : All (λ (lane : ℕ). lane < p.service.lanes) lanes
  pub turns : here records q ≡ fold (turn_of p reads) (here records p) lanes
  pub made : length (here records q).work.live ≡ length (here records p).work.live + events
  pub rest : (lane : ℕ) → lane < p.service.lanes → turn_of p reads (here records q) lane ≡ here records q

-- the node isn't active, and is as it was
pub record HasNoTurn {K : Type 0} (p q : ProcessValue K) (records : K → List (List ℕ)) (effect : Effect) : Type 0 where
  pub inactive : effect ≡ NotActive (role_name (here records p).role)
  pub same : q.node ≡ p.node

abbrev pub RanAs : {K : Type 0} → (K → List (List ℕ)) → ProcessValue K → ProcessValue K → ℕ → Ran → Type 0
RanAs records p q reads (Made events) = HasTurns records p q reads events
RanAs records p q reads (Refused effect) = HasNoTurn p q records effect

-- each lane read the greatest clock so far, this one among them
pub record HasRun {K : Type 0} (records : K → List (List ℕ)) (p q : ProcessValue K) (clock : ℤ) (ran : Ran) : Type 0 where
  pub reads : ℕ
  pub greatest : pos reads ≡ int_max p.clock clock
  pub raised : q.clock ≡ int_max p.clock clock
  pub came : RanAs records p q reads ran
