-- How far the rounds of ballots rise in a run: each election raises them by at most one, and nothing else raises them.
use Rattle.std.specs.Prelude.{◌≡◌, ℕ, suc, ◌+◌, ◌≤◌, List, [], ◌∷◌, length, Some, slice_get}
use Rattle.rex_ballot.specs.Limits.{most_nodes}
use Rattle.rex_ballot.specs.declared.ballots.TheConstants.{ROUNDS}
use Rattle.rex_syntax.specs.declared.request.Request.{Request}
use Rattle.rex_syntax.specs.declared.service.Declarations.{Declarations}
use Rattle.rex_report.specs.declared.effect.Effect.{Effect}
use Rattle.rex_report.specs.declared.effect.Effect.TheVariants.{Spent}
use Rattle.rex_schedule.specs.declared.scenario.ScheduleLine.{ScheduleLine}
use Rattle.rex_cluster.specs.Records.{promise}
use Rattle.rex_cluster.specs.Quorum.{IsNode, round_of, ballot_above}
use Rattle.rex_cluster.specs.Node.{own_ballot}
use Rattle.rex_cluster.specs.World.{World, node_at, logs, beginning, effects_of}
use Rattle.rex_cluster.specs.Agreed.{world_after}
use Rattle.rex_cluster.specs.Releases.{Moment, IsAmong}
use Rattle.rex_cluster.specs.Takes.{Doing}
use Rattle.rex_cluster.specs.Takes.Doing.{Does, Takes}
use Rattle.rex_safety.specs.Doings.{world_after_doings, moments_of_doings}

-- the greatest round that a ballot may have
abbrev pub greatest_round : ℕ
greatest_round = ROUNDS

-- no node's promise and no own ballot has a round above this one, so that of the ballot with which it would ask to lead is at most one above it
pub record RoundsAreAtMost (n : ℕ) (w : World) (round : ℕ) : Type 0 where
  pub promised : (m : ℕ) → IsNode n m → round_of (promise (logs w m)) ≤ round
  pub own : (m : ℕ) → IsNode n m → round_of (own_ballot (node_at w.nodes m).role) ≤ round
  pub next : (m : ℕ) → IsNode n m → round_of (ballot_above m (promise (logs w m))) ≤ round + 1

-- no node lacked a round to ask to lead with
abbrev pub NoneIsSpent : List Effect → Type 0
NoneIsSpent effects = (m : ℕ) → IsAmong (Spent m) effects → ⊥

-- after so many lines rounds are at most as many, a flush being one line
abbrev pub RoundsStayFew : Type 0
RoundsStayFew =
    (service : Declarations) (requests : List Request) (seed n : ℕ) (lines : List ScheduleLine) → n ≤ most_nodes
    → RoundsAreAtMost n (world_after service requests seed n lines) (length lines)

-- so a run of no more lines than there are rounds never lacks one
abbrev pub RoundsAreLeft : Type 0
RoundsAreLeft =
    (service : Declarations) (requests : List Request) (seed n : ℕ) (lines : List ScheduleLine) → n ≤ most_nodes → length lines ≤ greatest_round
    → NoneIsSpent (effects_of service requests seed n (beginning n) lines)

-- ---- with events that nodes are handed, which raise no round

-- how many of these are lines
abbrev pub lines_among : List Doing → ℕ
lines_among [] = 0
lines_among (Does line ∷ rest) = suc (lines_among rest)
lines_among (Takes m e ∷ rest) = lines_among rest

abbrev pub DoingsKeepRoundsFew : Type 0
DoingsKeepRoundsFew =
    (service : Declarations) (requests : List Request) (seed n : ℕ) (doings : List Doing) → n ≤ most_nodes
    → RoundsAreAtMost n (world_after_doings service requests seed n doings) (lines_among doings)

abbrev pub DoingsLeaveRounds : Type 0
DoingsLeaveRounds =
    (service : Declarations) (requests : List Request) (seed n : ℕ) (doings : List Doing) → n ≤ most_nodes → lines_among doings ≤ greatest_round
    → (i : ℕ) (x : Moment) → slice_get (moments_of_doings service requests seed n (beginning n) doings) i ≡ Some x → NoneIsSpent x.effects
