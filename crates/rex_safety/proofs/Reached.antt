-- What holds of a kept world after any doings that name what is there.
use Rattle.std.proofs.Common.{◌≡◌, ℕ, ◌≤◌, true, List, length}
use Rattle.std.specs.List.{All}
use Rattle.rex_ballot.specs.Limits.{most_nodes}
use Rattle.rex_syntax.specs.declared.request.Request.{Request}
use Rattle.rex_syntax.specs.declared.service.Declarations.{Declarations}
use Rattle.rex_syntax.specs.Service.{IsService}
use Rattle.rex_syntax.specs.Check.{IsChecked}
use Rattle.rex_schedule.specs.Fits.{RequestFits}
use Rattle.rex_cluster.specs.Node.{Lead}
use Rattle.rex_cluster.specs.Node.Role.{Leads}
use Rattle.rex_cluster.specs.Values.{Value}
use Rattle.rex_cluster.specs.World.{World, node_at, beginning}
use Rattle.rex_safety.specs.Kept.{IsKept}
use Rattle.rex_safety.specs.Laws.{ActsRightly, NumbersFit}
use Rattle.rex_cluster.specs.Takes.{Doing, DoingFits}
use Rattle.rex_safety.specs.Doings.{world_after_doings}
use Rattle.rex_safety.proofs.Keeps.{beginning_kept, kept_right}
use Rattle.rex_safety.proofs.Takes.{doings_kept}

module _ (service : Declarations) (good : IsService service) (checked : IsChecked service) (requests : List Request) (fit : All (RequestFits service) requests) (seed n : ℕ) (few : n ≤ most_nodes) (doings : List Doing) (there : All (DoingFits n (length requests) service.lanes) doings) where
  abbrev w : World
  w = world_after_doings service requests seed n doings

  reached_kept : IsKept service seed n w
  reached_kept = doings_kept service good checked requests fit seed n few (beginning n) doings there (beginning_kept service good checked requests fit seed n few)

  pub doings_numbers : NumbersFit n w
  doings_numbers = reached_kept.numbers

  pub doings_act : (m : ℕ) (l : Lead Value) → (node_at w.nodes m).role ≡ Leads l → l.active ≡ true → ActsRightly service (node_at w.nodes m) l
  doings_act = (kept_right service seed n w good checked reached_kept).acts
