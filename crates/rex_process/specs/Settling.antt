-- What comes behind a call of a node.
use Rattle.std.specs.Prelude.{◌≡◌, ◌≤◌, ◌++◌, ℕ, ℤ, pos, true, false, List, [], length, take, drop, Option, Some, None, IfSome, Result, Ok, Err}
use Rattle.rex_state.specs.Start.{start_of}
use Rattle.rex_state.specs.Machine.{run}
use Rattle.rex_cluster.specs.Records.{known}
use Rattle.rex_cluster.specs.Values.{trace_of}
use Rattle.rex_cluster.specs.Lanes.{node_trace}
use Rattle.rex_node.specs.declared.refusal.Refusal.{Refusal}
use Rattle.rex_node.specs.declared.step.Step.{Step}
use Rattle.rex_node.specs.Parts.{IsNode}
use Rattle.rex_processes.specs.Plain.{IsPlain}
use Rattle.rex_fits.specs.Applied.{AppliedValue, ShowNoLater, clock_after}
use Rattle.rex_process.specs.Coming.{CatchesUp}
use Rattle.rex_process.specs.Process.{ProcessValue, caught_up, here, is_behind}

-- its clock is at least 0, and no event shows a greater one
pub record Reads {K : Type 0} (records : K → List (List ℕ)) (p : ProcessValue K) : Type 0 where
  pub reads : ℕ
  pub clock : p.clock ≡ pos reads
  pub latest : ShowNoLater p.clock (node_trace (here records p))

-- a test has come to all that the node knows, and no event shows a greater clock than it
pub record IsReady {K : Type 0} (records : K → List (List ℕ)) (p : ProcessValue K) (a : AppliedValue) : Type 0 where
  pub runs : run p.service (start_of p.service) (trace_of (known (here records p).log)) ≡ Some a.state
  pub dated : Reads records (record p { clock = a.clock })

-- the greatest of its clock and those that the values show that it knows beyond so many
abbrev pub noted_clock : {K : Type 0} → (K → List (List ℕ)) → ProcessValue K → ℕ → ℤ
noted_clock records p many = clock_after p.clock (drop many (known (here records p).log))

-- while the node is up, no event of so many first values, and no live event, shows a greater clock than the process has;
-- what was tested, if something was, is all that the node knows, and its clock is the one that is noted
pub record IsUpSettling {K : Type 0} (records : K → List (List ℕ)) (p : ProcessValue K) (many : ℕ) (test : Option AppliedValue) : Type 0 where
  pub within : many ≤ length (known (here records p).log)
  pub reads : ℕ
  pub clock : p.clock ≡ pos reads
  pub noted : ShowNoLater p.clock (trace_of (take many (known (here records p).log)))
  pub live : ShowNoLater p.clock (here records p).work.live
  pub tested : IfSome test (IsReady records p)
  pub test_clock : IfSome test (λ (a : AppliedValue). a.clock ≡ noted_clock records p many)

pub record IsSettling {K : Type 0} (records : K → List (List ℕ)) (p : ProcessValue K) (many : ℕ) (test : Option AppliedValue) : Type 0 where
  pub node : IsNode records p.service [] p.node
  pub plain : IsPlain (here records p).log
  pub up : p.node.up ≡ true → IsUpSettling records p many test

-- it knows no more than so many values, and has replayed them, or is active; and nothing was tested
pub record HasNoNews {K : Type 0} (records : K → List (List ℕ)) (p : ProcessValue K) (many : ℕ) (test : Option AppliedValue) : Type 0 where
  pub known_is : length (known (here records p).log) ≡ many
  pub caught_up : is_behind (here records p) ≡ false
  pub untested : test ≡ None

-- then the node has caught up behind a step; and the clock is this one, and right again
pub record IsCaught {K : Type 0} (records : K → List (List ℕ)) (p q : ProcessValue K) (clock : ℤ) (before after : Step) : Type 0 where
  pub catches : CatchesUp records p.service (caught_up p.node.id) p.node q.node before after
  pub reads : q.node.up ≡ true → Reads records (record q { service = p.service })
  pub clock_is : q.node.up ≡ true → q.clock ≡ clock

-- a step, and then another one
pub record FollowsStep (first second step : Step) : Type 0 where
  pub effects : step.effects ≡ first.effects ++ second.effects
  pub sends : step.sends ≡ first.sends ++ second.sends

abbrev pub IsJoined : Step → Result Step Refusal → Step → Type 0
IsJoined first (Ok second) step = FollowsStep first second step
IsJoined first (Err refusal) step = ⊥
