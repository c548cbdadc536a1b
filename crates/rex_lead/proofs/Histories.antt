-- What a history that is led comes to.
use Rattle.std.proofs.Common.{◌≡◌, ℕ, zero, suc, ◌<◌, ◌≤◌, Bool, true, false, List, [], ◌∷◌, length, refl, sym, le-ltb, ◌∙◌, ap, subst, arith}
use Rattle.std.specs.Prelude.{Some, nat_lt, if◌then◌else◌}
use Rattle.std.specs.List.{All}
use Rattle.std.proofs.lemmas.List.{take_all}
use Rattle.rex_ballot.specs.Limits.{most_nodes}
use Rattle.rex_syntax.specs.declared.request.Request.{Request}
use Rattle.rex_syntax.specs.declared.service.Declarations.{Declarations}
use Rattle.rex_syntax.specs.Service.{IsService}
use Rattle.rex_syntax.specs.Check.{IsChecked}
use Rattle.rex_event.specs.declared.event.Event.{Event}
use Rattle.rex_delta.specs.Spelling.{HasTypedKind}
use Rattle.rex_state.specs.Value.{StateValue}
use Rattle.rex_state.specs.Start.{start_of}
use Rattle.rex_state.specs.Machine.{run}
use Rattle.rex_schedule.specs.Fits.{ScenarioFits}
use Rattle.rex_schedule.specs.Counts.{is_node_count}
use Rattle.rex_schedule.specs.declared.scenario.Scenario.{Scenario}
use Rattle.rex_cluster.specs.Values.{Value, values_fit, service_of}
use Rattle.rex_cluster.specs.Records.{known}
use Rattle.rex_cluster.specs.Lanes.{Here}
use Rattle.rex_cluster.specs.World.{World, node_at}
use Rattle.rex_cluster.specs.Agreed.{known_at, longer_of, longest, agreed}
use Rattle.rex_cluster.specs.Takes.{BeginsInRange}
use Rattle.rex_safety.proofs.Agreeing.{known_fits}
use Rattle.rex_safety.proofs.Caused.{values_least}
use Rattle.rex_safety.proofs.Doings.{doings_reached}
use Rattle.rex_steady.specs.Schedule.{live_doings}
use Rattle.rex_steady.specs.Blocks.{values_of}
use Rattle.rex_steady.specs.Settled.{IsSettled}
use Rattle.rex_steady.specs.Steady.{IsSteady, LeadersAreSteady, live_world}
use Rattle.rex_world.proofs.Beginning.{few_nodes}
use Rattle.rex_world.proofs.Placed.{later_at}
use Rattle.rex_lead.specs.Lead.{blocks_of, IsLed}
use Rattle.rex_lead.proofs.Blocks.{few_blocks, joined_blocks, are_blocks}

-- there is a node
some_node : (n : ℕ) → is_node_count n ≡ true → 1 ≤ n
some_node zero h = absurd cc
some_node (suc n) h = omega arith

-- ---- what nodes agree on that all know the same

module _ (vs : List Value) where
  -- each of the nodes knows just these values
  abbrev AllKnow : List Here → Type 0
  AllKnow xs = (i : ℕ) → i < length xs → known (node_at xs (suc i)).log ≡ vs

  either : (t : Bool) → (if t then vs else vs) ≡ vs
  either true = refl
  either false = refl

  agreed_all : (x : Here) (xs : List Here) → AllKnow (x ∷ xs) → longest (x ∷ xs) ≡ vs
  agreed_all x [] h = ap (λ us. longer_of us []) (h 0 (omega arith)) ∙ ap (λ t. if t then [] else vs) (le-ltb (length vs) 0 (omega arith))
  agreed_all x (y ∷ ys) h =
      ap (λ us. longer_of us (longest (y ∷ ys))) (h 0 (omega arith))
      ∙ ap (longer_of vs) (agreed_all y ys (λ i l. ap (λ (z : Here). known z.log) (sym (later_at x (y ∷ ys) i)) ∙ h (suc i) (omega (arith, l))))
      ∙ either (nat_lt (length vs) (length vs))

  some_agree : (xs : List Here) → 1 ≤ length xs → AllKnow xs → longest xs ≡ vs
  some_agree [] l h = absurd (omega arith)
  some_agree (x ∷ xs) l h = agreed_all x xs h

settled_agree : (n : ℕ) (vs : List Value) (w : World) → 1 ≤ n → IsSettled n vs w → agreed w ≡ vs
settled_agree n vs w some h = some_agree vs w.nodes (omega (arith, some, h.many)) know
  where
    know : (i : ℕ) → i < length w.nodes → known (node_at w.nodes (suc i)).log ≡ vs
    know zero l = h.leader.knows
    know (suc i) l = (h.others (suc (suc i)) (omega arith) (omega (arith, l, h.many))).knows

module _ (service : Declarations) (requests : List Request) (seed n : ℕ) (blocks : List (List Event)) (state : StateValue) (some : 1 ≤ n) (few : n ≤ most_nodes) where
  -- the values are those that node 1 knows, so they fit
  values_fit_all : IsSteady service requests seed n blocks state → values_fit service (values_of service blocks) ≡ true
  values_fit_all h =
      subst (λ (vs : List Value). values_fit service vs ≡ true) (take_all (length (known_at (live_world service requests seed n blocks) 1)) (known_at (live_world service requests seed n blocks) 1) (omega arith) ∙ h.settled.leader.knows)
      (known_fits n (service_of service seed) (live_world service requests seed n blocks) (doings_reached service requests seed n few (live_doings n blocks)) refl 1 (omega arith, some) (length (known_at (live_world service requests seed n blocks) 1)))

pub led : (service : Declarations) (s : Scenario) (history : List Event) (state : StateValue) → LeadersAreSteady → IsService service → IsChecked service → ScenarioFits service s
    → length history ≤ 268431360 → All BeginsInRange history → All HasTypedKind history → run service (start_of service) history ≡ Some state → IsLed service s history
led service s history state leads good checked fits few begins typed runs =
    let steady : IsSteady service s.requests s.seed s.nodes (blocks_of history) state =
    leads service s.requests s.seed s.nodes (blocks_of history) state (some_node s.nodes fits.nodes) (few_nodes fits.nodes) good checked fits.requests (are_blocks history begins typed) (few_blocks history few)
    (ap (run service (start_of service)) (joined_blocks history) ∙ runs) in
    record {
      state = state;
      runs = runs;
      steady = steady;
      agreed_is = settled_agree s.nodes (values_of service (blocks_of history)) (live_world service s.requests s.seed s.nodes (blocks_of history)) (some_node s.nodes fits.nodes) steady.settled;
      causes = values_least service good checked (values_of service (blocks_of history)) (values_fit_all service s.requests s.seed s.nodes (blocks_of history) state (some_node s.nodes fits.nodes) (few_nodes fits.nodes) steady);
    }
