-- The delta below a cut of an active node's live events has its numbers in their ranges, and few bytes.
use Rattle.std.proofs.Common.{◌≡◌, ℕ, ◌+◌, ◌*◌, ◌<◌, ◌≤◌, true, inl, inr, List, [], ◌∷◌, length, get_or, sym, ◌∙◌, ap, subst, arith}
use Rattle.std.specs.Prelude.{Option, Some}
use Rattle.std.specs.List.{All, list_all}
use Rattle.std.proofs.Math.Nat.{lt_of_lt_of_le, le_trans}
use Rattle.std.proofs.lemmas.Bool.{and_parts}
use Rattle.std.proofs.lemmas.List.Elements.{All-nil, All-cons, All-head, All-tail, All-filter, All-from_get_or}
use Rattle.std.proofs.lemmas.List.Sums.{length-filter, count_by-le-length}
use Rattle.rex_syntax.specs.declared.service.Declarations.{Declarations}
use Rattle.rex_syntax.specs.Service.{IsService}
use Rattle.rex_syntax.specs.Check.{IsChecked}
use Rattle.rex_event.specs.declared.event.Event.{Event}
use Rattle.rex_event.specs.declared.event.Kind.{Kind}
use Rattle.rex_event.specs.declared.event.Kind.TheVariants.{Begin, AcqEx, AcqSh, RelEx, RelSh, TryOk, TryBusy, Wait, Wake, Signal, Broadcast, Clock, Random, Reply, Down, Up}
use Rattle.rex_event.specs.declared.delta.Cause.{Cause}
use Rattle.rex_event.specs.Limits.{most_lanes}
use Rattle.rex_event.specs.Cuts.{counted, AreNumbered, is_below, below}
use Rattle.rex_event.specs.Pieces.{AllCausesFit}
use Rattle.rex_cut.specs.Greatest.{greatest_cut, IsCutOf}
use Rattle.rex_cut.specs.Delta.{bases_from, delta_at}
use Rattle.rex_cut.proofs.Bases.{bases_are}
use Rattle.rex_clocks.proofs.Numbered.{numbered_above, counted_long}
use Rattle.rex_cut.proofs.Lowered.{lowered_long, lowered_within, lowered_above}
use Rattle.rex_cut.proofs.Deltas.{delta_numbered, delta_fits as causes_fit}
use Rattle.rex_delta.specs.Spelling.{greatest_base, KindFits, EventsFit, IsDelta, HasTypedKind}
use Rattle.rex_state.specs.Value.{StateValue}
use Rattle.rex_state.specs.Machine.{lane_of, run}
use Rattle.rex_state.specs.Counts.{counts_of, CountsOn}
use Rattle.rex_state.specs.Names.{KindNames, EventNames}
use Rattle.rex_state.specs.Sound.{IsSound}
use Rattle.rex_state.proofs.Run.{run-first}
use Rattle.rex_state.proofs.Sounds.{next_keeps}
use Rattle.rex_state.proofs.Names.{events_name}
use Rattle.rex_state.proofs.Counts.{count_is, runs_count_on}
use Rattle.rex_cluster.specs.Records.{Proposal, known}
use Rattle.rex_cluster.specs.Node.{Lead, Work}
use Rattle.rex_cluster.specs.Quorum.{IsNode}
use Rattle.rex_cluster.specs.Node.Role.{Leads}
use Rattle.rex_cluster.specs.Values.{Value, spells, runs, trace_of, service_of}
use Rattle.rex_cluster.specs.Lanes.{is_faithful, Here, no_limits, with_limits}
use Rattle.rex_cluster.specs.World.{World, node_at}
use Rattle.rex_cluster.specs.Agreed.{known_at}
use Rattle.rex_cluster.specs.Clients.{KindHasClient}
use Rattle.rex_cluster.specs.Acting.{IsActing}
use Rattle.rex_safety.specs.Kept.{roles, IsKept}
use Rattle.rex_safety.specs.Keeping.{AreCounts, CanCut, HasRoom}
use Rattle.rex_cluster.proofs.Acting.{IsLiveCut, live_cut, firsts_long, rises, live_is}
use Rattle.rex_safety.proofs.Actives.{no_limits_live, with_limits_live}
use Rattle.rex_cluster.proofs.Bytes.{delta_bytes_are}
use Rattle.rex_cluster.proofs.Faithful.{faithful}
use Rattle.rex_cluster.proofs.Few.{counts_are_few}
use Rattle.rex_safety.proofs.Nexts.{next_fits}
use Rattle.rex_safety.proofs.Worlds.{node_of_lead}

-- ---- kinds

-- the events of a run name what is there
run_names : (service : Declarations) (s t : StateValue) (es : List Event) → IsService service → IsSound service s → run service s es ≡ Some t → All (EventNames service) es
run_names service s t [] good sound h = All-nil (EventNames service)
run_names service s t (e ∷ es) good sound h =
    let r = run-first service s t e es h in
    All-cons (EventNames service) e es (events_name service s r.0 e good sound r.1) (run_names service r.0 t es good (next_keeps service s r.0 e good sound r.1) r.2)

kind_fits : (service : Declarations) (kind : Kind) → IsService service → KindNames service kind → KindHasClient kind → KindFits service.lanes kind
kind_fits service (Begin client sequence handler arguments) good n c = (c.0, c.1, lt_of_lt_of_le n.0 good.few_handlers, n.1)
kind_fits service (AcqEx lock) good n c = lt_of_lt_of_le n good.locks
kind_fits service (AcqSh lock) good n c = lt_of_lt_of_le n good.locks
kind_fits service (RelEx lock) good n c = lt_of_lt_of_le n good.locks
kind_fits service (RelSh lock) good n c = lt_of_lt_of_le n good.locks
kind_fits service (TryOk lock) good n c = lt_of_lt_of_le n good.locks
kind_fits service (TryBusy lock) good n c = lt_of_lt_of_le n good.locks
kind_fits service (Wait condition lock) good n c = (lt_of_lt_of_le n.0 good.few_conditions, lt_of_lt_of_le n.1 good.locks)
kind_fits service (Wake condition lock) good n c = (lt_of_lt_of_le n.0 good.few_conditions, lt_of_lt_of_le n.1 good.locks)
kind_fits service (Signal condition woken) good n c = (lt_of_lt_of_le n.0 good.few_conditions, n.1)
kind_fits service (Broadcast condition woken) good n c = (lt_of_lt_of_le n.0 good.few_conditions, n.1)
kind_fits service (Clock value) good n c = tt
kind_fits service (Random value) good n c = tt
kind_fits service (Reply client value) good n c = c
kind_fits service (Down semaphore) good n c = lt_of_lt_of_le n good.few_semaphores
kind_fits service (Up semaphore) good n c = lt_of_lt_of_le n good.few_semaphores

-- what the event names is in its range, where there are so many lanes
record HasKind (lanes : ℕ) (e : Event) : Type 0 where
  kind : KindFits lanes e.kind

-- ---- events

events_fit : (lanes : ℕ) (bases counts : List ℕ) (es : List Event) (lists : List (List Cause)) → length counts ≡ lanes → AreNumbered counts es → AllCausesFit bases counts es lists → All (HasKind lanes) es → EventsFit bases counts es lists
events_fit lanes bases counts [] [] long n c k = tt
events_fit lanes bases counts [] (causes ∷ lists) long n c k = absurd c
events_fit lanes bases counts (e ∷ es) [] long n c k = absurd c
events_fit lanes bases counts (e ∷ es) (causes ∷ lists) long n c k =
    let own : HasKind lanes e = All-head (HasKind lanes) e es k in (
      record {
        lane = n.0;
        index = n.1;
        kind = subst (λ (m : ℕ). KindFits m e.kind) (sym long) own.kind;
        few = c.0.few;
        each = c.0.each;
        rising = c.0.rising;
      },
      events_fit lanes bases (counted counts e) es lists (counted_long counts e ∙ long) n.2 c.1 (All-tail (HasKind lanes) e es k),
    )

-- ---- the delta

small_base : (done known : ℕ) → done ≤ 4096 * known → known ≤ 65535 → done ≤ greatest_base
small_base done known h k = omega arith

module _ (service : Declarations) (good : IsService service) (checked : IsChecked service) (vs : List Value) (o : Option (Proposal Value)) (w : Work) (a : IsActing service vs o w) (fit : list_all (spells service) vs ≡ true) (few : length vs ≤ 65535) where
  starts : (lane : ℕ) → (lane_of a.start lane).done ≤ 4096 * length vs
  starts lane = counts_are_few service vs a.start lane fit a.known_runs

  -- with the live events a lane did at most 4,096 more
  pub lives : (lane : ℕ) → (lane_of a.state lane).done ≤ 4096 * (length vs + 1)
  lives lane = omega (arith, (rises service good checked vs o w a).most lane, count_is a.state lane, count_is a.start lane, starts lane, a.recorder.few)

  few_below : (cut : List ℕ) → length (below cut w.live) ≤ 4096
  few_below cut = omega (arith, a.recorder.few, length-filter (is_below cut) w.live, count_by-le-length (is_below cut) w.live)

  kinds : All (HasKind service.lanes) w.live
  kinds = λ k d l. record { kind = kind_fits service (get_or w.live k d).kind good (run_names service a.start a.state w.live good a.recorder.sound a.recorder.runs k d l).kind (a.clients k d l).kind }

  -- the greatest cut below a live one is live
  greatest_live : (counts : List ℕ) → IsLiveCut a.start a.state counts → IsLiveCut a.start a.state (greatest_cut counts w.live)
  greatest_live counts h =
      let c : CountsOn a.start w.live a.state = runs_count_on service a.start a.state w.live a.recorder.runs in
      record {
        long = lowered_long [] counts w.live ∙ h.long;
        from = lowered_above [] counts (counts_of a.start) w.live h.from (λ e k. numbered_above (counts_of a.start) w.live e c.numbered k);
        to = λ lane. le_trans (lowered_within [] counts w.live lane) (h.to lane);
      }

  module _ (cut : List ℕ) (live : IsLiveCut a.start a.state cut) where
    of_live : IsCutOf w.live cut
    of_live = live_cut service good checked vs o w a cut live

    bases_start : bases_from w.live 0 cut ≡ counts_of a.start
    bases_start = bases_are cut w.live (live_cut service good checked vs o w a cut live)

    lanes_are : length (bases_from w.live 0 cut) ≡ service.lanes
    lanes_are = ap length bases_start ∙ firsts_long service good checked vs o w a

    small_bases : All (λ base. base ≤ greatest_base) (bases_from w.live 0 cut)
    small_bases =
        subst (All (λ base. base ≤ greatest_base)) (sym bases_start)
        (All-from_get_or (λ base. base ≤ greatest_base) (counts_of a.start) 0
        (λ lane l. subst (λ (n : ℕ). n ≤ greatest_base) (sym (count_is a.start lane)) (small_base _ _ (starts lane) few)))

    kinds_below : All (HasKind service.lanes) (below cut w.live)
    kinds_below = All-filter (is_below cut) (HasKind service.lanes) w.live kinds

    pub delta_fits : 0 < length (below cut w.live) → IsDelta (delta_at cut w.live)
    delta_fits some = record {
      lanes = subst (λ (n : ℕ). (1 ≤ n) × (n ≤ most_lanes)) (sym lanes_are) (good.some_lanes, good.lanes);
      bases = small_bases;
      some = (some, few_below cut);
      events =
          events_fit service.lanes (delta_at cut w.live).bases (delta_at cut w.live).bases (delta_at cut w.live).events (delta_at cut w.live).causes lanes_are
          (delta_numbered cut w.live of_live) (causes_fit cut w.live of_live) kinds_below;
    }

-- ---- kept worlds

module _ (service : Declarations) (good : IsService service) (checked : IsChecked service) (seed n : ℕ) (w : World) (k : IsKept service seed n w) (m : ℕ) (l : Lead Value) (e : roles w m ≡ Leads l) (active : l.active ≡ true) where
  x : Here
  x = node_at w.nodes m

  acting : IsActing service (known_at w m) l.proposal (node_at w.nodes m).work
  acting = k.acting m l e active

  min : IsNode n m
  min = node_of_lead n (service_of service seed) w k.world m l e

  fit : list_all (spells service) (known_at w m) ≡ true
  fit = (and_parts (list_all (spells service) (known_at w m)) (runs service (trace_of (known_at w m))) ((next_fits service seed n w k.world).known m min)).0

  few : length (known_at w m) ≤ 65535
  few = (k.numbers.nodes m min).log.few

  pub kept_room : (lane : ℕ) → HasRoom service (node_at w.nodes m) lane
  kept_room lane =
      let most = subst (λ (s : StateValue). (lane_of s lane).done ≤ 4096 * (length (known_at w m) + 1)) (sym (live_is service good checked (known_at w m) l.proposal (node_at w.nodes m).work acting))
      (lives service good checked (known_at w m) l.proposal (node_at w.nodes m).work acting fit few lane) in
      record { most = most; room = omega (arith, most, few) }

  cut_from : (counts : List ℕ) → IsLiveCut acting.start acting.state counts → CanCut service (node_at w.nodes m) counts
  cut_from counts live =
      let greatest = greatest_live service good checked (known_at w m) l.proposal (node_at w.nodes m).work acting fit few counts live in
      let fits = delta_fits service good checked (known_at w m) l.proposal (node_at w.nodes m).work acting fit few (greatest_cut counts (node_at w.nodes m).work.live) greatest in
      record {
        cut = live_cut service good checked (known_at w m) l.proposal (node_at w.nodes m).work acting counts live;
        long = live.long ∙ firsts_long service good checked (known_at w m) l.proposal (node_at w.nodes m).work acting;
        delta = fits;
        short = λ some. (delta_bytes_are (delta_at (greatest_cut counts (node_at w.nodes m).work.live) (node_at w.nodes m).work.live) (fits some)).few;
      }

  pub kept_cut : (counts : List ℕ) → AreCounts service (node_at w.nodes m) counts → CanCut service (node_at w.nodes m) counts
  kept_cut counts (inl same) = subst (CanCut service (node_at w.nodes m)) (sym same) (cut_from (no_limits service (node_at w.nodes m)) (no_limits_live service good checked (node_at w.nodes m) l.proposal acting))
  kept_cut counts (inr h) =
      subst (CanCut service (node_at w.nodes m)) (sym h.2) (cut_from (with_limits service (node_at w.nodes m) h.0) (with_limits_live service good checked (node_at w.nodes m) l.proposal acting h.0 h.1))

  pub kept_faithful : (counts : List ℕ) → AreCounts service (node_at w.nodes m) counts → 0 < length (below (greatest_cut counts (node_at w.nodes m).work.live) (node_at w.nodes m).work.live)
      → All HasTypedKind (below (greatest_cut counts (node_at w.nodes m).work.live) (node_at w.nodes m).work.live)
      → is_faithful service seed (known_at w m) (greatest_cut counts (node_at w.nodes m).work.live) (node_at w.nodes m).work.live ≡ true
  kept_faithful counts are some typed =
      let h = kept_cut counts are in
      faithful service seed (known_at w m) l.proposal (node_at w.nodes m).work counts good checked ((next_fits service seed n w k.world).known m min) acting h.cut h.long (record { delta = h.delta some; typed = typed }) (h.short some)
