-- A node that is handed an event keeps what is kept.
use Rattle.std.proofs.Common.{◌≡◌, ℕ, ◌+◌, ◌<◌, ◌≤◌, ◌^◌, true, List, [], ◌∷◌, ◌++◌, length, Option, refl, subst, arith, leb-false}
use Rattle.std.specs.List.{All, list_all}
use Rattle.std.proofs.lemmas.Bool.{and_parts}
use Rattle.std.proofs.lemmas.List.Elements.{All-push, All-head, All-tail}
use Rattle.rex_ballot.specs.Limits.{most_nodes}
use Rattle.rex_syntax.specs.declared.request.Request.{Request}
use Rattle.rex_syntax.specs.declared.service.Declarations.{Declarations}
use Rattle.rex_syntax.specs.Service.{IsService}
use Rattle.rex_syntax.specs.Check.{IsChecked}
use Rattle.rex_event.specs.declared.event.Event.{Event}
use Rattle.rex_event.specs.Order.{Has}
use Rattle.rex_event.specs.Cuts.{count_at}
use Rattle.rex_clocks.proofs.Leads.{all_from_has}
use Rattle.rex_clocks.proofs.Numbered.{numbered_below}
use Rattle.rex_state.specs.Value.{StateValue}
use Rattle.rex_state.specs.Machine.{lane_of, after as state_after_event}
use Rattle.rex_state.specs.Counts.{counts_of, AreCounted, CountsOn}
use Rattle.rex_state.proofs.Counts.{count_is, runs_count_on}
use Rattle.rex_record.specs.declared.turns.Turn.{Turn}
use Rattle.rex_record.specs.declared.turns.Turn.TheVariants as turn
use Rattle.rex_record.specs.Value.{RecorderValue, live_after}
use Rattle.rex_record.specs.Take.{is_fit, taken_turn}
use Rattle.rex_record.proofs.Follows.{state_sound}
use Rattle.rex_record.proofs.Takes.{CanTake, can_take, done_fits}
use Rattle.rex_schedule.specs.Fits.{RequestFits}
use Rattle.rex_cluster.specs.Records.{Proposal, known}
use Rattle.rex_cluster.specs.Quorum.{IsNode}
use Rattle.rex_cluster.specs.Node.{Work, is_active}
use Rattle.rex_cluster.specs.Calls.{begin}
use Rattle.rex_cluster.specs.Values.{Value, spells, runs, trace_of, state_after, service_of}
use Rattle.rex_cluster.specs.Lanes.{active_only}
use Rattle.rex_cluster.specs.World.{World, node_at}
use Rattle.rex_cluster.specs.Acting.{IsActing}
use Rattle.rex_cluster.specs.Clients.{HasClient}
use Rattle.rex_safety.specs.Kept.{IsKept}
use Rattle.rex_safety.specs.Laws.{NumbersFit}
use Rattle.rex_cluster.specs.Takes.{Doing, DoingFits, BeginsInRange, taken_in, take_event, take, does, after_doings}
use Rattle.rex_cluster.specs.Takes.Doing.{Does, Takes}
use Rattle.rex_cluster.proofs.Acting.{live_is, goes_on_with}
use Rattle.rex_safety.proofs.Actives.{WorksHere, AllWork, active_works, after_work}
use Rattle.rex_cluster.proofs.Calls.{good_with}
use Rattle.rex_cluster.proofs.Clients.{unused_next, next_client}
use Rattle.rex_safety.proofs.Keeps.{if_up_told, acting_of, all_work, row_kept}
use Rattle.rex_safety.proofs.LineCalls.{active_good, active_fits}
use Rattle.rex_safety.proofs.Numbers.{any_fits}
use Rattle.rex_safety.proofs.Spelled.{lives}
use Rattle.rex_safety.proofs.Worlds.{GoesOnTo, IsWorld, at_either, at_any_ok}

-- ---- what an active node works with

module _ (service : Declarations) (good : IsService service) (checked : IsChecked service) (vs : List Value) (o : Option (Proposal Value)) (w : Work) (a : IsActing service vs o w) (fit : list_all (spells service) vs ≡ true) (few : length vs ≤ 65535) where
  recorder : RecorderValue
  recorder = record { start = a.start; live = w.live; state = a.state; queue = w.queue }

  has_room : (lane : ℕ) → (lane_of a.state lane).done + 1 < 2 ^ 32
  has_room lane = omega (arith, lives service good checked vs o w a fit few lane, few)

  live_index : (e : Event) → Has e w.live → e.index + 1 < 2 ^ 32
  live_index e h =
      let c : CountsOn a.start w.live a.state = runs_count_on service a.start a.state w.live a.recorder.runs in
      let i = subst (λ (cs : List ℕ). e.index < count_at cs e.lane) c.counts (numbered_below (counts_of a.start) w.live e c.numbered h) in
      omega (arith, i, count_is a.state e.lane, has_room e.lane)

  live_counted : AreCounted w.live
  live_counted = record { each = all_from_has (λ (e : Event). e.index + 1 < 2 ^ 32) w.live live_index }

  done_acting : (e : Event) → BeginsInRange e → length w.live < 4096 → is_fit service a.state w.queue e ≡ true → IsActing service vs o (record w { live = w.live ++ e ∷ [] })
  done_acting e range room f =
      let t : CanTake service (record { start = a.start; live = w.live; state = a.state; queue = w.queue }) e = can_take service (record { start = a.start; live = w.live; state = a.state; queue = w.queue }) e good a.recorder room live_counted (has_room e.lane) f in
      let c : HasClient e = next_client service a.state (state_after_event service e.lane e.kind a.state) e (state_sound service (record { start = a.start; live = w.live; state = a.state; queue = w.queue }) good a.recorder) a.unused range t.is in
      record {
        start = a.start;
        state = state_after_event service e.lane e.kind a.state;
        known_runs = a.known_runs;
        recorder = t.kept (state_after_event service e.lane e.kind a.state) t.is;
        goes_on = goes_on_with service good checked vs o w a e (state_after_event service e.lane e.kind a.state) t.is o a.goes_on;
        requests = a.requests;
        clients = All-push HasClient w.live e a.clients c;
        unused = unused_next service a.state (state_after_event service e.lane e.kind a.state) e c a.unused t.is;
      }

  taken_acting : (e : Event) → BeginsInRange e → (t : Turn) → taken_turn service a.state w.queue (length w.live) e ≡ t → IsActing service vs o (record w { live = live_after w.live t })
  taken_acting e range (turn.Done d) h =
      let f = done_fits service (record { start = a.start; live = w.live; state = a.state; queue = w.queue }) e d h in
      subst (λ (x : Event). IsActing service vs o (record w { live = w.live ++ x ∷ [] })) f.2 (done_acting e range (leb-false 4096 (length w.live) f.0) f.1)
  taken_acting e range turn.Full h = record { start = a.start; state = a.state; known_runs = a.known_runs; recorder = a.recorder; goes_on = a.goes_on; requests = a.requests; clients = a.clients; unused = a.unused }
  taken_acting e range turn.Idle h = record { start = a.start; state = a.state; known_runs = a.known_runs; recorder = a.recorder; goes_on = a.goes_on; requests = a.requests; clients = a.clients; unused = a.unused }
  taken_acting e range (turn.Held by) h = record { start = a.start; state = a.state; known_runs = a.known_runs; recorder = a.recorder; goes_on = a.goes_on; requests = a.requests; clients = a.clients; unused = a.unused }
  taken_acting e range (turn.Zero semaphore) h = record { start = a.start; state = a.state; known_runs = a.known_runs; recorder = a.recorder; goes_on = a.goes_on; requests = a.requests; clients = a.clients; unused = a.unused }
  taken_acting e range turn.Unsignalled h = record { start = a.start; state = a.state; known_runs = a.known_runs; recorder = a.recorder; goes_on = a.goes_on; requests = a.requests; clients = a.clients; unused = a.unused }
  taken_acting e range turn.Unfit h = record { start = a.start; state = a.state; known_runs = a.known_runs; recorder = a.recorder; goes_on = a.goes_on; requests = a.requests; clients = a.clients; unused = a.unused }

  pub acting_taken : (e : Event) → BeginsInRange e → (t : Turn) → taken_turn service (state_after service (trace_of vs ++ w.live)) w.queue (length w.live) e ≡ t → IsActing service vs o (record w { live = live_after w.live t })
  acting_taken e range t h = taken_acting e range t (subst (λ (s : StateValue). taken_turn service s w.queue (length w.live) e ≡ t) (live_is service good checked vs o w a) h)

-- ---- records

-- an event touches no record
pub take_ok : (service : Declarations) (seed n : ℕ) (w : World) (m : ℕ) (e : Event) → IsWorld n (service_of service seed) w → GoesOnTo n (service_of service seed) w (take service w m e)
take_ok service seed n w m e ok =
    at_any_ok n (service_of service seed) w ok m _
    (λ min d g. active_good service seed n _ _ _ m min (is_active d.node.role) d (take_event service e d) g
    (good_with n (service_of service seed) _ _ _ m min d g (take_event service e d).node d.effects g.role (record { based = g.here.based; replayed = g.here.replayed })))

-- ---- kept worlds

module _ (service : Declarations) (good : IsService service) (checked : IsChecked service) (requests : List Request) (fit : All (RequestFits service) requests) (seed n : ℕ) (few : n ≤ most_nodes) where
  module _ (w : World) (k : IsKept service seed n w) (m : ℕ) (min : IsNode n m) (e : Event) (range : BeginsInRange e) where
    call_works : WorksHere service good checked seed n m (active_only (is_active (node_at w.nodes m).role) (begin (node_at w.nodes m)) (take_event service e (begin (node_at w.nodes m))))
    call_works =
        active_works service good checked seed n m (is_active (node_at w.nodes m).role) (begin (node_at w.nodes m)) (take_event service e (begin (node_at w.nodes m))) (all_work service good checked requests fit seed n few w k m)
        (record {
          each = λ l r a f. acting_taken service good checked (known (node_at w.nodes m).log) l.proposal (node_at w.nodes m).work (k.acting m l r a)
              (and_parts (list_all (spells service) (known (node_at w.nodes m).log)) (runs service (trace_of (known (node_at w.nodes m).log))) f).0 (k.numbers.nodes m min).log.few
              e range (taken_in service (node_at w.nodes m) e) refl;
        })

    take_works : AllWork service good checked requests fit seed n few (take service w m e)
    take_works =
        at_either n w k.world.many m (λ d. active_only (is_active d.node.role) d (take_event service e d)) (λ r. AllWork service good checked requests fit seed n few r.world) (all_work service good checked requests fit seed n few w k)
        (λ here. after_work service good checked requests fit seed n few w k.world.many (all_work service good checked requests fit seed n few w k) m _ call_works)

    take_fits : NumbersFit n (take service w m e)
    take_fits =
        any_fits service requests seed n few w k.world.many k.numbers m _
        (λ min d h. active_fits service requests seed n few m min (is_active d.node.role) d (take_event service e d) h (record { log = h.log; role = h.role; sends = h.sends }))

    pub take_kept : IsKept service seed n (take service w m e)
    take_kept =
        let ok = (take_ok service seed n w m e k.world).0 in
        record {
          world = ok;
          acting = acting_of service good checked requests fit seed n few (take service w m e) ok take_works;
          numbers = take_fits;
          handed = if_up_told (node_at w.nodes m).up w m _ k.handed;
        }

  does_kept : (w : World) (x : Doing) → DoingFits n (length requests) service.lanes x → IsKept service seed n w → IsKept service seed n (does service requests seed n w x)
  does_kept w (Does line) l k = row_kept service good checked requests fit seed n few w line l k
  does_kept w (Takes m e) l k = take_kept w k m l.0 e l.1

  pub doings_kept : (w : World) (xs : List Doing) → All (DoingFits n (length requests) service.lanes) xs → IsKept service seed n w → IsKept service seed n (after_doings service requests seed n w xs)
  doings_kept w [] l k = k
  doings_kept w (x ∷ xs) l k =
      doings_kept (does service requests seed n w x) xs (All-tail (DoingFits n (length requests) service.lanes) x xs l)
      (does_kept w x (All-head (DoingFits n (length requests) service.lanes) x xs l) k)
