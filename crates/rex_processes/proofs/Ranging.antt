-- What runs in range has cuts that are spelled, and counts that have room.
use Rattle.std.proofs.Common.{◌≡◌, ℕ, ◌+◌, ◌*◌, ◌≤◌, true, inl, inr, List, [], ◌∷◌, length, refl, sym, ◌∙◌, ap, subst, arith}
use Rattle.std.specs.Prelude.{Option, Some, None, is_some, unwrap_or}
use Rattle.std.specs.List.{All, list_all}
use Rattle.std.proofs.Math.Nat.{le_trans}
use Rattle.std.proofs.lemmas.Bool.{and_parts}
use Rattle.std.proofs.lemmas.Option.{same_Some}
use Rattle.std.proofs.lemmas.List.Elements.{All-nil, All-head, All-tail}
use Rattle.rex_syntax.specs.declared.service.Declarations.{Declarations}
use Rattle.rex_syntax.specs.Service.{IsService}
use Rattle.rex_syntax.specs.Check.{IsChecked}
use Rattle.rex_event.specs.declared.event.Event.{Event}
use Rattle.rex_clocks.proofs.Numbered.{numbered_above}
use Rattle.rex_cut.specs.Greatest.{greatest_cut}
use Rattle.rex_cut.specs.Delta.{delta_at}
use Rattle.rex_cut.proofs.Lowered.{lowered_long, lowered_within, lowered_above}
use Rattle.rex_state.specs.Value.{StateValue}
use Rattle.rex_state.specs.Start.{start_of}
use Rattle.rex_state.specs.Machine.{no_lane, lane_of, run}
use Rattle.rex_state.specs.declared.lane.Lane.{Lane}
use Rattle.rex_state.specs.Counts.{counts_of, CountsOn}
use Rattle.rex_state.proofs.Run.{run-first, run-then}
use Rattle.rex_state.proofs.Counts.{count_is, runs_count_on, runs_rise}
use Rattle.rex_state.proofs.Sounds.{run_keeps, start_keeps}
use Rattle.rex_schedule.specs.Fits.{RequestFits}
use Rattle.rex_cluster.specs.Records.{Proposal, known}
use Rattle.rex_cluster.specs.Values.{Value, spells, runs, trace_of}
use Rattle.rex_cluster.specs.Lanes.{Here, node_trace, no_limits, with_limits, live_state}
use Rattle.rex_cluster.specs.Clients.{HasClient, IsUnused}
use Rattle.rex_cluster.specs.Acting.{IsActing}
use Rattle.rex_cluster.proofs.Acting.{IsLiveCut, live_cut, firsts_long}
use Rattle.rex_cluster.proofs.Bytes.{delta_bytes_are}
use Rattle.rex_cluster.proofs.Clients.{unused_next, values_unused}
use Rattle.rex_cluster.proofs.Few.{counts_are_few}
use Rattle.rex_cluster.proofs.Replies.{some_of, run_split, state_is}
use Rattle.rex_cluster.proofs.Told.{same_at}
use Rattle.rex_safety.specs.Keeping.{AreCounts, CanCut, HasRoom}
use Rattle.rex_safety.proofs.Actives.{no_limits_live, with_limits_live}
use Rattle.rex_safety.proofs.Spelled.{delta_fits}
use Rattle.rex_processes.specs.Tested.{KnownFits}
use Rattle.rex_processes.specs.Leading.{RunsInRange}

-- all that is known spells deltas
spelled : (service : Declarations) (x : Here) → KnownFits service x → list_all (spells service) (known x.log) ≡ true
spelled service x h = (and_parts (list_all (spells service) (known x.log)) (runs service (trace_of (known x.log))) h).0

-- ---- ranges

pub actives_in_range : (service : Declarations) (x : Here) (o : Option (Proposal Value)) → KnownFits service x → length (known x.log) ≤ 65535 → IsActing service (known x.log) o x.work → RunsInRange service x
actives_in_range service x o fits few a = record {
  fits = fits;
  few = few;
  live_runs = ap is_some (run-then service (start_of service) a.start (trace_of (known x.log)) x.work.live a.known_runs ∙ a.recorder.runs);
  live_few = a.recorder.few;
  clients = a.clients;
}

-- ---- counts

module _ (service : Declarations) (x : Here) (lane : ℕ) (fits : KnownFits service x) (few : length (known x.log) ≤ 65535) (live_few : length x.work.live ≤ 4096) where
  -- whatever the state that is live: if the trace doesn't run, it is the start
  most : (o : Option StateValue) → run service (start_of service) (node_trace x) ≡ o → (lane_of (live_state service x) lane).done ≤ 4096 * (length (known x.log) + 1)
  most None e =
      let start : live_state service x ≡ start_of service = ap (λ (o : Option StateValue). unwrap_or o (start_of service)) e in
      let nothing : (lane_of (start_of service) lane).done ≡ 0 = ap (λ (l : Lane). l.done) (same_at service.lanes no_lane lane) in
      subst (λ (s : StateValue). (lane_of s lane).done ≤ 4096 * (length (known x.log) + 1)) (sym start) (omega (arith, nothing))
  most (Some s) e =
      let parts = run_split service (start_of service) s (trace_of (known x.log)) x.work.live e in
      let before = counts_are_few service (known x.log) parts.0 lane (spelled service x fits) parts.1 in
      let rise = runs_rise service parts.0 s x.work.live parts.2 in
      subst (λ (t : StateValue). (lane_of t lane).done ≤ 4096 * (length (known x.log) + 1)) (sym (state_is service (node_trace x) s e))
      (omega (arith, rise.most lane, count_is s lane, count_is parts.0 lane, before, live_few))

  pub one_has_room : HasRoom service x lane
  one_has_room =
      let all = most (run service (start_of service) (node_trace x)) refl in
      record { most = all; room = omega (arith, all, few) }

-- ---- cuts

-- events with clients in their ranges leave the client 0 unused
unused_run : (service : Declarations) (s t : StateValue) (es : List Event) → All HasClient es → IsUnused s.clients → run service s es ≡ Some t → IsUnused t.clients
unused_run service s t [] h u r = subst (λ (z : StateValue). IsUnused z.clients) (same_Some s t r) u
unused_run service s t (e ∷ es) h u r =
    let first = run-first service s t e es r in
    unused_run service first.0 t es (All-tail HasClient e es h) (unused_next service s first.0 e (All-head HasClient e es h) u first.1) first.2

module _ (service : Declarations) (good : IsService service) (checked : IsChecked service) (x : Here) (h : RunsInRange service x) where
  -- the node without its queue, which no cut depends on
  abbrev bare : Here
  bare = record x { work = record x.work { queue = [] } }

  -- it works with a recorder that has no queue
  acting : IsActing service (known x.log) None (record x.work { queue = [] })
  acting =
      let end = some_of (run service (start_of service) (node_trace x)) h.live_runs in
      let parts = run_split service (start_of service) end.0 (trace_of (known x.log)) x.work.live end.1 in
      record {
        start = parts.0;
        state = end.0;
        known_runs = parts.1;
        recorder = record { sound = run_keeps service (start_of service) parts.0 (trace_of (known x.log)) good (start_keeps service good checked) parts.1; runs = parts.2; few = h.live_few; queue = tt };
        goes_on = tt;
        requests = All-nil (RequestFits service);
        clients = h.clients;
        unused = unused_run service parts.0 end.0 x.work.live h.clients (values_unused service (known x.log) parts.0 (spelled service x h.fits) parts.1) parts.2;
      }

  -- the greatest cut below a live one is live
  greatest_live : (counts : List ℕ) → IsLiveCut acting.start acting.state counts → IsLiveCut acting.start acting.state (greatest_cut counts x.work.live)
  greatest_live counts c =
      let on : CountsOn acting.start x.work.live acting.state = runs_count_on service acting.start acting.state x.work.live acting.recorder.runs in
      record {
        long = lowered_long [] counts x.work.live ∙ c.long;
        from = lowered_above [] counts (counts_of acting.start) x.work.live c.from (λ e k. numbered_above (counts_of acting.start) x.work.live e on.numbered k);
        to = λ lane. le_trans (lowered_within [] counts x.work.live lane) (c.to lane);
      }

  cut_from : (counts : List ℕ) → IsLiveCut acting.start acting.state counts → CanCut service x counts
  cut_from counts live =
      let fits = delta_fits service good checked (known x.log) None (record x.work { queue = [] }) acting (spelled service x h.fits) h.few (greatest_cut counts x.work.live) (greatest_live counts live) in
      record {
        cut = live_cut service good checked (known x.log) None (record x.work { queue = [] }) acting counts live;
        long = live.long ∙ firsts_long service good checked (known x.log) None (record x.work { queue = [] }) acting;
        delta = fits;
        short = λ some. (delta_bytes_are (delta_at (greatest_cut counts x.work.live) x.work.live) (fits some)).few;
      }

  pub one_can_cut : (counts : List ℕ) → AreCounts service x counts → CanCut service x counts
  one_can_cut counts (inl same) = subst (CanCut service x) (sym same) (cut_from (no_limits service x) (no_limits_live service good checked bare None acting))
  one_can_cut counts (inr limits) =
      subst (CanCut service x) (sym limits.2) (cut_from (with_limits service x limits.0) (with_limits_live service good checked bare None acting limits.0 limits.1))
