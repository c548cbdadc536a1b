-- A leader at rest takes each event that runs on.
use Rattle.std.proofs.Common.{◌≡◌, ℕ, ◌<◌, ◌≤◌, true, List, [], ◌∷◌, ◌++◌, length, None, refl, sym, ◌∙◌, ap, subst, arith, append_assoc, append-nil, length-append}
use Rattle.std.specs.Prelude.{Some}
use Rattle.std.specs.List.{All}
use Rattle.std.proofs.lemmas.List.Elements.{All-head, All-tail}
use Rattle.rex_ballot.specs.Limits.{most_nodes}
use Rattle.rex_syntax.specs.declared.request.Request.{Request}
use Rattle.rex_syntax.specs.declared.service.Declarations.{Declarations}
use Rattle.rex_syntax.specs.Service.{IsService}
use Rattle.rex_syntax.specs.Check.{IsChecked}
use Rattle.rex_event.specs.declared.event.Event.{Event}
use Rattle.rex_state.specs.Value.{StateValue}
use Rattle.rex_state.specs.Start.{start_of}
use Rattle.rex_state.specs.Machine.{run}
use Rattle.rex_state.proofs.Run.{run-first}
use Rattle.rex_record.specs.declared.turns.Turn.{Turn}
use Rattle.rex_record.specs.declared.turns.Turn.TheVariants.{Done}
use Rattle.rex_record.specs.Take.{taken_turn}
use Rattle.rex_cluster.specs.Node.{is_active}
use Rattle.rex_cluster.specs.Calls.{begin}
use Rattle.rex_cluster.specs.Values.{Value, trace_of, state_after}
use Rattle.rex_cluster.specs.Lanes.{Here, CallHere, active_only}
use Rattle.rex_cluster.specs.World.{World, node_at, at_node}
use Rattle.rex_safety.specs.Kept.{IsKept}
use Rattle.rex_cluster.specs.Takes.{BeginsInRange, taken, taken_in, take_event, take, after_doings}
use Rattle.rex_safety.specs.Doings.{TakesAreKept}
use Rattle.rex_cluster.proofs.Replies.{run_split, state_is}
use Rattle.rex_steady.specs.Schedule.{takes}
use Rattle.rex_steady.specs.Steady.{AreTaken}
use Rattle.rex_steady.proofs.Phases.{Holds, call_first}
use Rattle.rex_steady.proofs.Shapes.{lead_role, lead_node, follow_node}
use Rattle.rex_steady.proofs.Elections.{Rests}
use Rattle.rex_steady.proofs.Wholes.{next_is_taken}

module _ (service : Declarations) (requests : List Request) (seed n : ℕ) (some : 1 ≤ n) where
  -- an event that is taken is live
  take_rests : (values : List Value) (live : List Event) (w : World) (e : Event) → Rests n values live w → taken_in service (node_at w.nodes 1) e ≡ Done e → Rests n values (live ++ e ∷ []) (take service w 1 e)
  take_rests values live w e h t =
      let c : Holds n (take service w 1 e) (taken (taken_in service (lead_node h.log (lead_role h.counted None [] true) live h.dice (length values)) e) (begin (lead_node h.log (lead_role h.counted None [] true) live h.dice (length values)))).node (follow_node h.follows) [] =
      call_first n w (lead_node h.log (lead_role h.counted None [] true) live h.dice (length values)) (follow_node h.follows) (λ (d : CallHere). active_only (is_active d.node.role) d (take_event service e d)) (at_node w 1 (λ (d : CallHere). active_only (is_active d.node.role) d (take_event service e d))).world.done some refl h.holds in
      let own : taken_in service (lead_node h.log (lead_role h.counted None [] true) live h.dice (length values)) e ≡ Done e = ap (λ (x : Here). taken_in service x e) (sym h.holds.nodes.first) ∙ t in
      record {
        counted = h.counted;
        log = h.log;
        dice = h.dice;
        follows = h.follows;
        holds = subst (λ (t : Turn). Holds n (take service w 1 e) (taken t (begin (lead_node h.log (lead_role h.counted None [] true) live h.dice (length values)))).node (follow_node h.follows) []) own c;
        knows = h.knows;
        told = h.told;
        promised = h.promised;
        whole = h.whole;
        fresh = h.fresh;
      }

  -- an event that runs on is taken
  runs_on : (values : List Value) (live : List Event) (w : World) (e : Event) (es : List Event) (s : StateValue) → Rests n values live w → run service (start_of service) (trace_of values ++ (live ++ e ∷ es)) ≡ Some s → length live < 4096
      → taken_in service (node_at w.nodes 1) e ≡ Done e
  runs_on values live w e es s h r l =
      let split = run_split service (start_of service) s (trace_of values ++ live) (e ∷ es) (ap (run service (start_of service)) (append_assoc (trace_of values) live (e ∷ es)) ∙ r) in
      let first = run-first service split.0 s e es split.2 in
      ap (λ (x : Here). taken_in service x e) h.holds.nodes.first
      ∙ (ap (λ (vs : List Value). taken_turn service (state_after service (trace_of vs ++ live)) [] (length live) e) h.knows
      ∙ (ap (λ (t : StateValue). taken_turn service t [] (length live) e) (state_is service (trace_of values ++ live) split.0 split.1)
      ∙ next_is_taken service split.0 first.0 (length live) e first.1 l))

  module _ (few : n ≤ most_nodes) (good : IsService service) (checked : IsChecked service) (keeps : TakesAreKept) where
    -- the world after events were handed in, each of which was taken
    pub record Took (values : List Value) (live : List Event) (w : World) (es : List Event) : Type 0 where
      pub rests : Rests n values (live ++ es) (after_doings service requests seed n w (takes es))
      pub kept : IsKept service seed n (after_doings service requests seed n w (takes es))
      pub taken : AreTaken service requests seed n w (takes es)

    pub takes_on : (values : List Value) (live : List Event) (w : World) (es : List Event) (s : StateValue) → Rests n values live w → IsKept service seed n w → All BeginsInRange es
        → run service (start_of service) (trace_of values ++ (live ++ es)) ≡ Some s → length (live ++ es) ≤ 4096 → Took values live w es
    takes_on values live w [] s h k b r l = record { rests = subst (λ (es : List Event). Rests n values es w) (sym (append-nil live)) h; kept = k; taken = tt }
    takes_on values live w (e ∷ es) s h k b r l =
        let room : length live < 4096 = omega (arith, l, length-append live (e ∷ es)) in
        let t : taken_in service (node_at w.nodes 1) e ≡ Done e = runs_on values live w e es s h r room in
        let more : (live ++ e ∷ []) ++ es ≡ live ++ e ∷ es = append_assoc live (e ∷ []) es in
        let rest : Took values (live ++ e ∷ []) (take service w 1 e) es =
        takes_on values (live ++ e ∷ []) (take service w 1 e) es s (take_rests values live w e h t)
        (keeps service seed n w 1 e few good checked (omega arith, some) (All-head BeginsInRange e es b) k)
        (All-tail BeginsInRange e es b)
        (ap (λ (ds : List Event). run service (start_of service) (trace_of values ++ ds)) more ∙ r)
        (subst (λ (ds : List Event). length ds ≤ 4096) (sym more) l) in
        record {
          rests = subst (λ (ds : List Event). Rests n values ds (after_doings service requests seed n (take service w 1 e) (takes es))) more rest.rests;
          kept = rest.kept;
          taken = (t, rest.taken);
        }
