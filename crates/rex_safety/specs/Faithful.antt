-- That each cut of a run is faithful, so that the model's case of one that isn't never comes.
use Rattle.std.specs.Prelude.{◌≡◌, ℕ, ◌^◌, ◌<◌, ◌≤◌, true, List, length}
use Rattle.std.specs.List.{All}
use Rattle.rex_ballot.specs.Limits.{most_nodes}
use Rattle.rex_syntax.specs.declared.request.Request.{Request}
use Rattle.rex_syntax.specs.declared.service.Declarations.{Declarations}
use Rattle.rex_syntax.specs.Service.{IsService}
use Rattle.rex_syntax.specs.Check.{IsChecked}
use Rattle.rex_event.specs.Cuts.{below}
use Rattle.rex_cut.specs.Greatest.{greatest_cut}
use Rattle.rex_delta.specs.Spelling.{HasTypedKind}
use Rattle.rex_schedule.specs.declared.scenario.ScheduleLine.{ScheduleLine}
use Rattle.rex_schedule.specs.Fits.{RequestFits, LineFits}
use Rattle.rex_cluster.specs.Node.{Lead}
use Rattle.rex_cluster.specs.Node.Role.{Leads}
use Rattle.rex_cluster.specs.Lanes.{is_faithful}
use Rattle.rex_cluster.specs.Values.{Value}
use Rattle.rex_safety.specs.Keeping.{AreCounts}
use Rattle.rex_safety.specs.Kept.{roles}
use Rattle.rex_cluster.specs.World.{World, node_at}
use Rattle.rex_cluster.specs.Agreed.{world_after, known_at}
use Rattle.rex_cluster.specs.Takes.{Doing, DoingFits}
use Rattle.rex_cluster.specs.Takes.Doing.{Does, Takes}
use Rattle.rex_safety.specs.Doings.{world_after_doings}
use Rattle.rex_safety.specs.Rounds.{lines_among}
use Rattle.rex_syntax.specs.Typed.{ServiceIsTyped, RequestIsTyped}

-- of a world: whatever an active node would cut, wherever an event is below it, the bytes give the events back, and these run after what it knows
abbrev pub EachCutIsFaithful : Declarations → ℕ → World → Type 0
EachCutIsFaithful service seed w =
    (m : ℕ) (l : Lead Value) → roles w m ≡ Leads l → l.active ≡ true → (counts : List ℕ) → AreCounts service (node_at w.nodes m) counts
    → 0 < length (below (greatest_cut counts (node_at w.nodes m).work.live) (node_at w.nodes m).work.live)
    → is_faithful service seed (known_at w m) (greatest_cut counts (node_at w.nodes m).work.live) (node_at w.nodes m).work.live ≡ true

-- so it is after lines that name what is there, with a checked service and requests that fit it, where the numbers of both are of 64 bits, and the number of each line, which the clock reads, is
abbrev pub CutsStayFaithful : Type 0
CutsStayFaithful =
    (service : Declarations) (requests : List Request) (seed n : ℕ) (lines : List ScheduleLine) → n ≤ most_nodes → IsService service → IsChecked service → ServiceIsTyped service
    → All (RequestFits service) requests → All RequestIsTyped requests → All (LineFits n (length requests) service.lanes) lines → length lines ≤ 2 ^ 63
    → EachCutIsFaithful service seed (world_after service requests seed n lines)

-- an event that a node is handed has numbers of its types
abbrev pub HandsTyped : Doing → Type 0
HandsTyped (Does line) = Unit {0}
HandsTyped (Takes m e) = HasTypedKind e

pub record DoingIsTyped (x : Doing) : Type 0 where
  pub numbers : HandsTyped x

-- and with events that nodes are handed
abbrev pub DoingsKeepCutsFaithful : Type 0
DoingsKeepCutsFaithful =
    (service : Declarations) (requests : List Request) (seed n : ℕ) (doings : List Doing) → n ≤ most_nodes → IsService service → IsChecked service → ServiceIsTyped service
    → All (RequestFits service) requests → All RequestIsTyped requests → All (DoingFits n (length requests) service.lanes) doings → All DoingIsTyped doings → lines_among doings ≤ 2 ^ 63
    → EachCutIsFaithful service seed (world_after_doings service requests seed n doings)
