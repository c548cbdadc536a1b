-- What recording a lane's next event needs and keeps.
use Rattle.std.proofs.Common.{◌≡◌, ℕ, zero, suc, ◌+◌, ◌<◌, ◌≤◌, ◌^◌, List, [], ◌∷◌, ◌++◌, length, refl, sym, ◌∙◌, subst, arith, length-append}
use Rattle.std.specs.Prelude.{Some, IsSome, replicate, slice_index_or}
use Rattle.std.proofs.lemmas.Bool.{eqb-true}
use Rattle.rand_pcg.specs.Lcg.{Lcg}
use Rattle.rex_syntax.specs.declared.request.Request.{Request}
use Rattle.rex_syntax.specs.declared.service.Declarations.{Declarations}
use Rattle.rex_syntax.specs.Service.{IsService}
use Rattle.rex_syntax.specs.Check.{IsChecked}
use Rattle.rex_event.specs.declared.event.Event.{Event}
use Rattle.rex_event.specs.Cuts.{count_at}
use Rattle.rex_state.specs.Machine.{no_lane, lane_of, next, run}
use Rattle.rex_state.specs.Start.{start_of}
use Rattle.rex_state.specs.Counts.{counts_of}
use Rattle.rex_state.specs.Sound.{IsSound}
use Rattle.rex_state.proofs.Keep.{next_is}
use Rattle.rex_state.proofs.Counts.{count_is, RiseBy, runs_rise}
use Rattle.rex_live.specs.Floor.{FloorValue, opened, next_event, recorded, IsMade}
use Rattle.rex_live.specs.Laws.{Runs}
use Rattle.rex_live.proofs.Goes.{IsNextOf, goes}
use Rattle.rex_live.proofs.Leads.{leads_push, made_runs}

-- at the start no lane did anything
idle_done : (n lane : ℕ) → (slice_index_or (replicate n no_lane) lane no_lane).done ≡ 0
idle_done zero lane = refl
idle_done (suc n) zero = refl
idle_done (suc n) (suc lane) = idle_done n lane

-- a lane did no more events than the history has
pub done_few : (service : Declarations) (f : FloorValue) (lane : ℕ) → run service (start_of service) f.history ≡ Some f.state → (lane_of f.state lane).done ≤ length f.history
done_few service f lane runs =
    let r : RiseBy (length f.history) (counts_of (start_of service)) (counts_of f.state) = runs_rise service (start_of service) f.state f.history runs in
    let first : count_at (counts_of (start_of service)) lane ≡ 0 = count_is (start_of service) lane ∙ idle_done service.lanes lane in
    let last : count_at (counts_of f.state) lane ≡ (lane_of f.state lane).done = count_is f.state lane in
    omega (arith, r.most lane, first, last)

-- the event can be applied, and the floor with it is made by lanes
pub record IsRecorded (service : Declarations) (requests : List Request) (dice : Lcg) (f : FloorValue) (e : Event) : Type 0 where
  pub sound : IsSound service f.state
  pub can : IsSome (next service f.state e)
  pub count : e.index + 1 < 2 ^ 32
  pub made : IsMade service requests dice (recorded service f e)

pub is_recorded : (service : Declarations) (requests : List Request) (dice : Lcg) (f : FloorValue) (e : Event) → IsService service → IsChecked service → IsMade service requests dice f
    → length f.history < 268431360 → e.lane < service.lanes → next_event service requests f e.lane ≡ Some e → IsRecorded service requests dice f e
is_recorded service requests dice f e good checked made few there is =
    let r : Runs service f = made_runs service requests dice f good checked made in
    let n : IsNextOf service f.state e.lane e = goes service requests f.state e.lane _ _ e good r.sound there is in
    let index : (lane_of f.state e.lane).done ≡ e.index = eqb-true _ _ (next_is service f.state e n.state n.is).index in
    let done : (lane_of f.state e.lane).done ≤ length f.history = done_few service f e.lane r.runs in
    record {
      sound = r.sound;
      can = subst IsSome (sym n.is) refl;
      count = omega arith;
      made = record {
        leads = leads_push service requests (opened service dice) f f.history e made.leads there is;
        few = omega (arith, length-append f.history (e ∷ []));
      };
    }

-- a lane's event is the lane's own
pub own_event : (service d : Declarations) (requests : List Request) (dice : Lcg) (f v : FloorValue) (lane : ℕ) (e : Event) → d ≡ service → f ≡ v → IsService d → IsChecked d
    → IsMade service requests dice f → lane < service.lanes → next_event service requests v lane ≡ Some e → e.lane ≡ lane
own_event service d requests dice f v lane e same view good checked made there is =
    let good' = subst IsService same good in
    let r : Runs service f = made_runs service requests dice f good' (subst IsChecked same checked) made in
    (goes service requests f.state lane _ _ e good' r.sound there (subst (λ (x : FloorValue). next_event service requests x lane ≡ Some e) (sym view) is)).own
