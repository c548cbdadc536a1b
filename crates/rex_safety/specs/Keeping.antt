-- That each step keeps what is kept, and what follows from it.
use Rattle.std.specs.Prelude.{◌≡◌, ℕ, ◌+◌, ◌*◌, ◌^◌, ◌<◌, ◌≤◌, ◌⊎◌, true, List, length}
use Rattle.std.specs.List.{All}
use Rattle.rex_ballot.specs.Limits.{most_nodes}
use Rattle.rex_syntax.specs.declared.request.Request.{Request}
use Rattle.rex_syntax.specs.declared.service.Declarations.{Declarations}
use Rattle.rex_syntax.specs.Service.{IsService}
use Rattle.rex_syntax.specs.Check.{IsChecked}
use Rattle.rex_event.specs.Cuts.{below}
use Rattle.rex_event.specs.declared.delta.TheConstants.{DELTA_EVENTS}
use Rattle.rex_cut.specs.Greatest.{greatest_cut, IsCutOf}
use Rattle.rex_cut.specs.Delta.{delta_at}
use Rattle.rex_delta.specs.Spelling.{IsDelta, HasTypedKind}
use Rattle.rex_state.specs.Machine.{lane_of}
use Rattle.rex_schedule.specs.declared.scenario.ScheduleLine.{ScheduleLine}
use Rattle.rex_schedule.specs.Fits.{RequestFits, LineFits}
use Rattle.rex_cluster.specs.Node.{Lead}
use Rattle.rex_cluster.specs.Node.Role.{Leads}
use Rattle.rex_cluster.specs.Records.{known}
use Rattle.rex_cluster.specs.Values.{Value, greatest_value}
use Rattle.rex_cluster.specs.Lanes.{Here, live_state, value_at, is_faithful, no_limits, with_limits}
use Rattle.rex_cluster.specs.Agreed.{known_at}
use Rattle.rex_cluster.specs.World.{World, node_at, beginning, step, row}
use Rattle.rex_safety.specs.Laws.{NextFits, ValuesAreShort, ValuesAreBytes, NodesAreKept, ActsRightly, BaseIsRight}
use Rattle.rex_safety.specs.Kept.{roles, IsKept}

-- it is kept before the first line
abbrev pub BeginningsAreKept : Type 0
BeginningsAreKept = (service : Declarations) (seed n : ℕ) → n ≤ most_nodes → IsService service → IsChecked service → IsKept service seed n (beginning n)

-- what a line that names what is there makes of a kept world is kept
abbrev pub Keeps : ((service : Declarations) (requests : List Request) (seed n : ℕ) (w : World) (line : ScheduleLine) → World) → Type 0
Keeps next =
    (service : Declarations) (requests : List Request) (seed n : ℕ) (w : World) (line : ScheduleLine) → n ≤ most_nodes → IsService service → IsChecked service → All (RequestFits service) requests
    → LineFits n (length requests) service.lanes line → IsKept service seed n w → IsKept service seed n (next service requests seed n w line)

abbrev pub StepsAreKept : Type 0
StepsAreKept = Keeps (λ service requests seed n w line. (step service requests seed n w line).world)

abbrev pub LinesAreKept : Type 0
LinesAreKept = Keeps (λ service requests seed n w line. (row service requests seed n w line).world)

-- of a world: values fit, are short, and are bytes; nodes are kept; and active nodes act rightly
pub record IsRight (service : Declarations) (seed n : ℕ) (w : World) : Type 0 where
  pub next : NextFits service n w
  pub short : ValuesAreShort service n w
  pub bytes : ValuesAreBytes service n w
  pub nodes : NodesAreKept service seed n w
  pub acts : (m : ℕ) (l : Lead Value) → roles w m ≡ Leads l → l.active ≡ true → ActsRightly service (node_at w.nodes m) l

-- each kept world is so
abbrev pub KeptValuesFit : Type 0
KeptValuesFit = (service : Declarations) (seed n : ℕ) (w : World) → IsService service → IsChecked service → IsKept service seed n w → IsRight service seed n w

-- in each kept world a checkpoint is of the state to which the known deltas up to it run
abbrev pub KeptBasesAreRight : Type 0
KeptBasesAreRight = (service : Declarations) (seed n : ℕ) (w : World) → IsService service → IsChecked service → IsKept service seed n w → BaseIsRight service n w

-- ---- cuts

-- the counts below which a node cuts: all its live events, or at most so many of each lane
abbrev pub AreCounts : Declarations → Here → List ℕ → Type 0
AreCounts service x counts = (counts ≡ no_limits service x) ⊎ ((limits : List ℕ) × (length limits ≡ service.lanes) × (counts ≡ with_limits service x limits))

-- counts of a cut of the live events, one for each lane; if a live event is below the greatest consistent cut under them, the delta of those below it has its numbers in their ranges, and its bytes are few
pub record CanCut (service : Declarations) (x : Here) (counts : List ℕ) : Type 0 where
  pub cut : IsCutOf x.work.live counts
  pub long : length counts ≡ service.lanes
  pub delta : 0 < length (below (greatest_cut counts x.work.live) x.work.live) → IsDelta (delta_at (greatest_cut counts x.work.live) x.work.live)
  pub short : 0 < length (below (greatest_cut counts x.work.live) x.work.live) → length (value_at (greatest_cut counts x.work.live) x.work.live) ≤ greatest_value

-- so it is of each active node of a kept world
abbrev pub KeptCutsAreSpelled : Type 0
KeptCutsAreSpelled =
    (service : Declarations) (seed n : ℕ) (w : World) → IsService service → IsChecked service → IsKept service seed n w
    → (m : ℕ) (l : Lead Value) → roles w m ≡ Leads l → l.active ≡ true → (counts : List ℕ) → AreCounts service (node_at w.nodes m) counts → CanCut service (node_at w.nodes m) counts

-- and the cut is faithful, so that it is proposed, where the numbers that its events read or hand on are of their types
abbrev pub KeptCutsAreFaithful : Type 0
KeptCutsAreFaithful =
    (service : Declarations) (seed n : ℕ) (w : World) → IsService service → IsChecked service → IsKept service seed n w
    → (m : ℕ) (l : Lead Value) → roles w m ≡ Leads l → l.active ≡ true → (counts : List ℕ) → AreCounts service (node_at w.nodes m) counts
    → 0 < length (below (greatest_cut counts (node_at w.nodes m).work.live) (node_at w.nodes m).work.live) → All HasTypedKind (below (greatest_cut counts (node_at w.nodes m).work.live) (node_at w.nodes m).work.live)
    → is_faithful service seed (known_at w m) (greatest_cut counts (node_at w.nodes m).work.live) (node_at w.nodes m).work.live ≡ true

-- in the live state a lane did at most as many events as a delta has for each known value and as many more, so its count has room for one more
pub record HasRoom (service : Declarations) (x : Here) (lane : ℕ) : Type 0 where
  pub most : (lane_of (live_state service x) lane).done ≤ DELTA_EVENTS * (length (known x.log) + 1)
  pub room : (lane_of (live_state service x) lane).done + 1 < 2 ^ 32

abbrev pub KeptCountsHaveRoom : Type 0
KeptCountsHaveRoom =
    (service : Declarations) (seed n : ℕ) (w : World) → IsService service → IsChecked service → IsKept service seed n w
    → (m : ℕ) (l : Lead Value) → roles w m ≡ Leads l → l.active ≡ true → (lane : ℕ) → HasRoom service (node_at w.nodes m) lane
