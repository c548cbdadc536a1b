-- A lane did at most 4,096 events for each known value.
use Rattle.std.proofs.Common.{◌≡◌, ℕ, ◌*◌, ◌≤◌, true, List, [], ◌∷◌, length, ap, arith, length-append, Some}
use Rattle.std.specs.List.{list_all}
use Rattle.std.proofs.lemmas.Bool.{and_parts}
use Rattle.rex_syntax.specs.declared.service.Declarations.{Declarations}
use Rattle.rex_state.specs.Value.{StateValue}
use Rattle.rex_state.specs.Start.{start_of}
use Rattle.rex_state.specs.Machine.{no_lane, lane_of, run}
use Rattle.rex_state.specs.declared.lane.Lane.{Lane}
use Rattle.rex_state.proofs.Counts.{count_is, runs_rise}
use Rattle.rex_cluster.specs.Values.{Value, events_of, trace_of, spells}
use Rattle.rex_cluster.proofs.Bytes.{spelled_delta}
use Rattle.rex_cluster.proofs.Told.{same_at}

few_events : (service : Declarations) (vs : List Value) → list_all (spells service) vs ≡ true → length (trace_of vs) ≤ 4096 * length vs
few_events service [] h = omega arith
few_events service (v ∷ vs) h =
    let p = and_parts (spells service v) (list_all (spells service) vs) h in
    omega (arith, length-append (events_of v) (trace_of vs), (spelled_delta service v p.0).delta.some.1, few_events service vs p.1)

pub counts_are_few : (service : Declarations) (vs : List Value) (t : StateValue) (lane : ℕ) → list_all (spells service) vs ≡ true → run service (start_of service) (trace_of vs) ≡ Some t → (lane_of t lane).done ≤ 4096 * length vs
counts_are_few service vs t lane h r =
    let rise = runs_rise service (start_of service) t (trace_of vs) r in
    let none : (lane_of (start_of service) lane).done ≡ 0 = ap (λ (x : Lane). x.done) (same_at service.lanes no_lane lane) in
    omega (arith, rise.most lane, count_is t lane, count_is (start_of service) lane, none, few_events service vs h)
