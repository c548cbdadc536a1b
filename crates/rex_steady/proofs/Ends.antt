-- What a leader that nothing disturbs comes to.
use Rattle.std.proofs.Common.{◌≡◌, ℕ, zero, suc, ◌≤◌, ◌⊎◌, true, List, [], length, None, refl, sym, ◌∙◌, ap, subst, inl, inr, arith, append-nil}
use Rattle.std.specs.Prelude.{Some, replicate}
use Rattle.std.specs.List.{All}
use Rattle.std.proofs.lemmas.Bool.{cases_eq}
use Rattle.std.proofs.lemmas.List.{length-map}
use Rattle.rex_ballot.specs.Limits.{most_nodes}
use Rattle.rex_syntax.specs.declared.request.Request.{Request}
use Rattle.rex_syntax.specs.declared.service.Declarations.{Declarations}
use Rattle.rex_syntax.specs.Service.{IsService}
use Rattle.rex_syntax.specs.Check.{IsChecked}
use Rattle.rex_event.specs.declared.event.Event.{Event}
use Rattle.rex_state.specs.Value.{StateValue}
use Rattle.rex_state.specs.Start.{start_of}
use Rattle.rex_state.specs.Machine.{run}
use Rattle.rex_schedule.specs.Fits.{IsNode, RequestFits, LineFits}
use Rattle.rex_schedule.specs.declared.scenario.ScheduleLine.{ScheduleLine}
use Rattle.rex_schedule.specs.declared.scenario.ScheduleLine.TheVariants.{Elect, Flush}
use Rattle.rex_cluster.specs.Records.{known}
use Rattle.rex_cluster.specs.Node.{Message}
use Rattle.rex_cluster.specs.Values.{Value, events_of, trace_of, state_after}
use Rattle.rex_cluster.specs.Lanes.{Here}
use Rattle.rex_cluster.specs.World.{World, node_at, beginning, row}
use Rattle.rex_safety.specs.Kept.{IsKept}
use Rattle.rex_cluster.specs.Takes.{after_doings}
use Rattle.rex_safety.specs.Doings.{TakesAreKept, world_after_doings}
use Rattle.rex_safety.proofs.Keeps.{beginning_kept, row_kept}
use Rattle.rex_cluster.proofs.Replies.{state_is}
use Rattle.rex_steady.specs.Schedule.{election, agreements, replays, live_doings}
use Rattle.rex_steady.specs.Blocks.{joined, IsBlock, values_of}
use Rattle.rex_steady.specs.Settled.{IsLeader, IsFollower, IsSettled}
use Rattle.rex_steady.specs.Steady.{IsSteady}
use Rattle.rex_steady.proofs.Flushes.{Waits, trues, trues_are}
use Rattle.rex_steady.proofs.Phases.{IsPair, begin_at, end_at}
use Rattle.rex_steady.proofs.Shapes.{lead_of, lead_role, lead_node, follow_node}
use Rattle.rex_steady.proofs.Elections.{Rests, elects}
use Rattle.rex_steady.proofs.Blocks.{Leads, leads_on, after_both, taken_both, trace_joined}
use Rattle.rex_steady.proofs.Replays.{replayed_node, Replays, replays_to}

-- where nothing waits each message was handed over
all_handed : (w : World) → Waits w [] → w.handed ≡ replicate (length w.messages) true
all_handed w h =
    h.handed ∙ (append-nil (trues h.old) ∙ (trues_are h.old ∙ ap (λ (ms : List (Message Value)). replicate (length ms) true) (sym (append-nil h.old) ∙ sym h.messages)))

module _ (n : ℕ) (values : List Value) (before w : World) (h : Rests n values [] before) where
  abbrev leader : Here
  leader = lead_node h.log (lead_role h.counted None [] true) [] h.dice (length values)

  leads : IsLeader values leader
  leads = record {
    up = refl;
    leads = record { lead = lead_of h.counted; role = refl; ballot = refl; active = refl; no_proposal = refl };
    knows = h.knows;
    replayed = refl;
    no_live = refl;
  }

  module _ (y : Here) (pair : IsPair n leader y w.nodes) where
    pub settles : IsFollower values y → Waits w [] → IsSettled n values w
    settles f waits = record {
      many = pair.many;
      leader = subst (IsLeader values) (sym pair.first) leads;
      others = λ m l k. subst (IsFollower values) (sym (pair.others m l k)) f;
      handed = all_handed w waits;
    }

    -- what holds of node 1 and of the others holds of each node
    pub each_node : (P : Here → Type 0) → P leader → P y → (m : ℕ) → IsNode n m → P (node_at w.nodes m)
    each_node P a b m l = go (cases_eq m 1)
      where
        go : (m ≡ 1) ⊎ (m ≡ 1 → ⊥) → P (node_at w.nodes m)
        go (inl e) = subst (λ (k : ℕ). P (node_at w.nodes k)) (sym e) (subst P (sym pair.first) a)
        go (inr d) = subst P (sym (pair.others m (omega (arith, l.0, d)) l.1)) b

module _ (service : Declarations) (requests : List Request) (seed n : ℕ) (blocks : List (List Event)) (s : StateValue) (some : 1 ≤ n) (few : n ≤ most_nodes) (good : IsService service) (checked : IsChecked service)
    (fit : All (RequestFits service) requests) (keeps : TakesAreKept) (is : All IsBlock blocks) (short : length blocks ≤ 65535) (runs : run service (start_of service) (joined blocks) ≡ Some s) where
  abbrev chosen : World
  chosen = after_doings service requests seed n (beginning n) election

  abbrev agreed : World
  agreed = after_doings service requests seed n chosen (agreements blocks)

  abbrev last : World
  last = world_after_doings service requests seed n (live_doings n blocks)

  chosen_kept : IsKept service seed n chosen
  chosen_kept =
      kept (row service requests seed n (row service requests seed n (beginning n) (Elect 1)).world Flush).world Flush tt
      (kept (row service requests seed n (beginning n) (Elect 1)).world Flush tt
      (kept (beginning n) (Elect 1) (omega arith, some) (beginning_kept service good checked requests fit seed n few)))
    where
      kept : (u : World) (line : ScheduleLine) → LineFits n (length requests) service.lanes line → IsKept service seed n u → IsKept service seed n (row service requests seed n u line).world
      kept u line l k = row_kept service good checked requests fit seed n few u line l k

  led : Leads service requests seed n some few good checked fit keeps s [] [] blocks chosen
  led = leads_on service requests seed n some few good checked fit keeps s [] [] blocks chosen refl (elects service requests seed n some) chosen_kept is (omega (arith, short)) runs

  parts : after_doings service requests seed n agreed (replays n) ≡ last
  parts = sym (after_both service requests seed n chosen (agreements blocks) (replays n))

  replayed_by : (m : ℕ) → m ≡ n → Replays service requests seed n (lead_node led.rests.log (lead_role led.rests.counted None [] true) [] led.rests.dice (length (values_of service blocks))) led.rests.follows agreed m
  replayed_by zero e = absurd (omega (arith, e, some))
  replayed_by (suc k) e =
      replays_to service requests seed n _ led.rests.follows agreed
      (begin_at n _ (replayed_node led.rests.follows) (follow_node led.rests.follows) agreed.nodes led.rests.holds.nodes) led.rests.holds.waits k (omega (arith, e))

  replayed : Replays service requests seed n (lead_node led.rests.log (lead_role led.rests.counted None [] true) [] led.rests.dice (length (values_of service blocks))) led.rests.follows agreed n
  replayed = replayed_by n refl

  pair : IsPair n (lead_node led.rests.log (lead_role led.rests.counted None [] true) [] led.rests.dice (length (values_of service blocks))) (replayed_node led.rests.follows) last.nodes
  pair = subst (λ (w : World). IsPair n (lead_node led.rests.log (lead_role led.rests.counted None [] true) [] led.rests.dice (length (values_of service blocks))) (replayed_node led.rests.follows) w.nodes) parts (end_at n _ _ (follow_node led.rests.follows) _ replayed.are)

  many : length (values_of service blocks) ≡ length blocks
  many = sym (length-map (values_of service blocks) events_of) ∙ ap length led.events

  trace : trace_of (values_of service blocks) ≡ joined blocks
  trace = trace_joined (values_of service blocks) ∙ ap joined led.events

  abbrev values : List Value
  values = values_of service blocks

  pub steady : IsSteady service requests seed n blocks s
  steady = record {
    taken = taken_both service requests seed n chosen (agreements blocks) (replays n) led.taken replayed.taken;
    agreed =
        settles n values agreed agreed led.rests (follow_node led.rests.follows) led.rests.holds.nodes
        (record { up = refl; role = refl; promised = led.rests.promised; knows = led.rests.told }) led.rests.holds.waits;
    settled =
        settles n values agreed last led.rests (replayed_node led.rests.follows) pair (record { up = refl; role = refl; promised = led.rests.promised; knows = led.rests.told })
        (subst (λ (w : World). Waits w []) parts replayed.waits);
    replayed = λ m l. each_node n values agreed last led.rests (replayed_node led.rests.follows) pair (λ (x : Here). x.replayed ≡ length values) refl (ap length led.rests.told) m l ∙ many;
    events = led.events;
    trace = trace;
    state = λ m l.
        ap (λ (vs : List Value). state_after service (trace_of vs)) (each_node n values agreed last led.rests (replayed_node led.rests.follows) pair (λ (x : Here). known x.log ≡ values) led.rests.knows led.rests.told m l)
        ∙ (ap (state_after service) trace ∙ state_is service (joined blocks) s runs);
  }
