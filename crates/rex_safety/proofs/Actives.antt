-- Each step keeps what active nodes work with.
use Rattle.std.proofs.Common.{◌≡◌, ℕ, zero, suc, ◌<◌, ◌≤◌, Bool, true, List, [], ◌∷◌, length, Option, Some, None, refl, sym, ◌∙◌, ap, subst, le_refl}
use Rattle.std.specs.Prelude.{map, slice_get}
use Rattle.rex_ballot.specs.Limits.{most_nodes}
use Rattle.rex_syntax.specs.declared.request.Request.{Request}
use Rattle.rex_syntax.specs.declared.service.Declarations.{Declarations}
use Rattle.rex_cut.specs.Greatest.{greatest_cut}
use Rattle.rex_state.specs.Value.{StateValue}
use Rattle.rex_schedule.specs.declared.scenario.ScheduleLine.{ScheduleLine}
use Rattle.rex_schedule.specs.declared.scenario.ScheduleLine.TheVariants as line
use Rattle.rex_cluster.specs.Records.{Proposal, known}
use Rattle.rex_cluster.specs.Quorum.{IsNode}
use Rattle.rex_cluster.specs.Node.{Service, Lead, is_active}
use Rattle.rex_cluster.specs.Node.Role.{Leads}
use Rattle.rex_cluster.specs.Calls.{enough}
use Rattle.rex_cluster.specs.Values.{Value, service_of}
use Rattle.rex_cluster.specs.Lanes.{Here, CallHere, active_only, submit_request, lane_turn, cut, value_at, no_limits, with_limits}
use Rattle.rex_cluster.specs.World.{World, node_at, beginning, after, step, waiting_from, flush_steps, steps_of, steps, row, after_lines}
use Rattle.std.specs.Prelude.{is_some}
use Rattle.std.specs.List.{All}
use Rattle.std.proofs.lemmas.List.Elements.{All-head, All-tail}
use Rattle.std.proofs.lemmas.Option.{same_Some}
use Rattle.rex_syntax.specs.Service.{IsService}
use Rattle.rex_syntax.specs.Check.{IsChecked}
use Rattle.rex_cut.specs.Greatest.{IsCutOf}
use Rattle.rex_state.specs.Counts.{counts_of}
use Rattle.rex_schedule.specs.Fits.{RequestFits}
use Rattle.rex_cluster.specs.Records.{proposal_of}
use Rattle.rex_cluster.specs.Lanes.{known_state, limits_between, turn_in}
use Rattle.rex_cluster.specs.Acting.{IsActing, HasLane}
use Rattle.rex_cluster.specs.Agreed.{world_after}
use Rattle.rex_safety.specs.Laws.{ActsRightly}
use Rattle.rex_cluster.proofs.Cutting.{cut_keeps}
use Rattle.rex_safety.proofs.Lawful.{LanesKeep}
use Rattle.rex_safety.proofs.Nodes.{fresh_at}
use Rattle.rex_safety.proofs.Worlds.{IsWorld, node_of_lead}
use Rattle.rex_safety.proofs.Moments.{known_run}
use Rattle.rex_safety.proofs.Steps.{step_ok, row_ok, beginning_ok, reached_ok}
use Rattle.rex_cluster.proofs.Acting.{acting_new, acting_known, acting_answered, acting_turned, acting_proposed, IsLiveCut, live_cut, firsts_long, rises, known_is, live_is, live_runs}
use Rattle.rex_safety.proofs.WorkingWorlds.{AllWorks, only_works, after_works, step_works, fresh_works}
use Rattle.rex_cluster.proofs.Working.{Works, propose_works, settle_works}
use Rattle.rex_cluster.proofs.Between.{between_long, between_from, between_to}

-- ---- calls

module _ (service : Declarations) (good : IsService service) (checked : IsChecked service) (seed n me : ℕ) where
  abbrev pub WorksHere : CallHere → Type 0
  WorksHere d = Works n (service_of service seed) me (IsActing service) (acting_new service good checked) (acting_known service good checked seed) d

  pub active_works : (t : Bool) (d e : CallHere) → WorksHere d → WorksHere e → WorksHere (active_only t d e)
  active_works = only_works service seed n (IsActing service) (acting_new service good checked) (acting_known service good checked seed) me

  found : (rs : List Request) → All (RequestFits service) rs → (k : ℕ) → (r : Request) → slice_get rs k ≡ Some r → RequestFits service r
  found [] f k r e = absurd (cc)
  found (y ∷ ys) f zero r e = subst (RequestFits service) (same_Some y r e) (All-head (RequestFits service) y ys f)
  found (y ∷ ys) f (suc k) r e = found ys (All-tail (RequestFits service) y ys f) k r e

  request_works : (o : Option Request) → ((r : Request) → o ≡ Some r → RequestFits service r) → (d : CallHere) → WorksHere d → WorksHere (submit_request service o d)
  request_works None f d w = record { each = w.each }
  request_works (Some r) f d w = record { each = λ l e a g. acting_answered service good checked (known d.node.log) l.proposal d.node.work (w.each l e a g) r (known_state service d.node) (f r refl) }

  pub submit_works : (requests : List Request) → All (RequestFits service) requests → (number : ℕ) (d : CallHere) → WorksHere d → WorksHere (active_only (is_active d.node.role) d (submit_request service (slice_get requests number) d))
  submit_works requests fit number d w = active_works (is_active d.node.role) d _ w (request_works (slice_get requests number) (found requests fit number) d w)

  pub turn_works : (done lane : ℕ) → lane < service.lanes → (d : CallHere) → WorksHere d → WorksHere (active_only (is_active d.node.role) d (lane_turn service done lane d))
  turn_works done lane there d w =
      active_works (is_active d.node.role) d _ w
      (record { each = λ l e a g. acting_turned service good checked (known d.node.log) l.proposal d.node.work (w.each l e a g) lane _ _ _ (turn_in service d.node done lane) there refl })

  pub cut_works : (counts : List ℕ) (d : CallHere) → ((o : Option (Proposal Value)) → IsActing service (known d.node.log) o d.node.work → IsCutOf d.node.work.live counts) → WorksHere d → WorksHere (cut service seed n me counts d)
  cut_works counts d is w =
      cut_keeps WorksHere service seed n me counts d (record { each = w.each }) (λ i. record { each = w.each }) (record { each = w.each }) (record { each = w.each })
      (λ l e t p i f. propose_works n (service_of service seed) me (IsActing service) (acting_new service good checked) (acting_known service good checked seed) _ d l (suc (length (known d.node.log))) (value_at (greatest_cut counts d.node.work.live) d.node.work.live) _
      (λ a g. let h = subst (λ (o : Option (Proposal Value)). IsActing service (known d.node.log) o d.node.work) p (w.each l e a g) in
      acting_proposed service good checked (known d.node.log) None d.node.work h seed counts (proposal_of l.ballot (suc (length (known d.node.log))) (value_at (greatest_cut counts d.node.work.live) d.node.work.live)) (is None h) refl f)
      (settle_works n (service_of service seed) me (IsActing service) (acting_new service good checked) (acting_known service good checked seed) (enough l.reported)))

-- ---- a cut's counts

module _ (service : Declarations) (good : IsService service) (checked : IsChecked service) (x : Here) (o : Option (Proposal Value)) (a : IsActing service (known x.log) o x.work) where
  pub no_limits_live : IsLiveCut a.start a.state (no_limits service x)
  no_limits_live =
      let r = rises service good checked (known x.log) o x.work a in
      subst (λ (s : StateValue). IsLiveCut a.start a.state (counts_of s)) (sym (live_is service good checked (known x.log) o x.work a)) (record { long = r.long; from = r.rise; to = λ lane. le_refl _ })

  pub with_limits_live : (limits : List ℕ) → length limits ≡ service.lanes → IsLiveCut a.start a.state (with_limits service x limits)
  with_limits_live limits many =
      let r = rises service good checked (known x.log) o x.work a in
      let long : length limits ≡ length (counts_of a.start) = many ∙ sym (firsts_long service good checked (known x.log) o x.work a) in
      subst (λ (s : StateValue). IsLiveCut a.start a.state (limits_between (counts_of (known_state service x)) (counts_of s) limits)) (sym (live_is service good checked (known x.log) o x.work a))
      (subst (λ (s : StateValue). IsLiveCut a.start a.state (limits_between (counts_of s) (counts_of a.state) limits)) (sym (known_is service good checked (known x.log) o x.work a))
      (record {
        long = between_long (counts_of a.start) (counts_of a.state) limits r.long long;
        from = λ lane. between_from (counts_of a.start) (counts_of a.state) limits lane r.long long r.rise;
        to = λ lane. between_to (counts_of a.start) (counts_of a.state) limits lane;
      }))

  no_limits_cut : IsCutOf x.work.live (no_limits service x)
  no_limits_cut = live_cut service good checked (known x.log) o x.work a (no_limits service x) no_limits_live

  with_limits_cut : (limits : List ℕ) → length limits ≡ service.lanes → IsCutOf x.work.live (with_limits service x limits)
  with_limits_cut limits many = live_cut service good checked (known x.log) o x.work a (with_limits service x limits) (with_limits_live limits many)

-- ---- worlds

module _ (service : Declarations) (good : IsService service) (checked : IsChecked service) (requests : List Request) (fit : All (RequestFits service) requests) (seed n : ℕ) (few : n ≤ most_nodes) where
  abbrev sv : Service Value StateValue
  sv = service_of service seed

  -- each node works with a recorder where it is active
  abbrev pub AllWork : World → Type 0
  AllWork w = AllWorks service seed n (IsActing service) (acting_new service good checked) (acting_known service good checked seed) w

  pub after_work : (w : World) → length w.nodes ≡ n → AllWork w → (m : ℕ) (d : CallHere) → WorksHere service good checked seed n m d → AllWork (after w m d).world
  after_work = after_works service seed n (IsActing service) (acting_new service good checked) (acting_known service good checked seed)

  lanes_work : (w : World) (x : ScheduleLine) → HasLane service x → LanesKeep service requests seed n w (WorksHere service good checked seed n) x
  lanes_work w (line.Submit m r) l = submit_works service good checked seed n m requests fit r
  lanes_work w (line.Lane m lane) l = turn_works service good checked seed n m w.done lane l
  lanes_work w (line.Cut m) l = λ d. cut_works service good checked seed n m (no_limits service d.node) d (no_limits_cut service good checked d.node)
  lanes_work w (line.CutBelow m limits) l = λ d. cut_works service good checked seed n m (with_limits service d.node limits) d (λ o a. with_limits_cut service good checked d.node o a limits l)
  lanes_work w _ l = tt

  pub step_work : (w : World) → length w.nodes ≡ n → AllWork w → (x : ScheduleLine) → HasLane service x → AllWork (step service requests seed n w x).world
  step_work w many h x l = step_works service seed n (IsActing service) (acting_new service good checked) (acting_known service good checked seed) requests w many h x (lanes_work w x l)

  -- the steps of a line name lanes that are there
  abbrev HaveLanes : List ScheduleLine → Type 0
  HaveLanes [] = Unit {0}
  HaveLanes (x ∷ xs) = HasLane service x × HaveLanes xs

  delivers_lanes : (numbers : List ℕ) → HaveLanes (map line.Deliver numbers)
  delivers_lanes [] = tt
  delivers_lanes (k ∷ ks) = (tt, delivers_lanes ks)

  flush_lanes : (numbers : List ℕ) → HaveLanes (flush_steps numbers)
  flush_lanes [] = (tt, tt)
  flush_lanes (k ∷ ks) = delivers_lanes (k ∷ ks)

  steps_lanes : (w : World) (x : ScheduleLine) → HasLane service x → HaveLanes (steps_of w x)
  steps_lanes w line.Flush l = flush_lanes (waiting_from 1 w.handed)
  steps_lanes w x l = (l, tt)

  steps_work : (w : World) (xs : List ScheduleLine) → IsWorld n sv w → AllWork w → HaveLanes xs → AllWork (steps service requests seed n w xs).world
  steps_work w [] ok h l = h
  steps_work w (x ∷ xs) ok h l = steps_work (step service requests seed n w x).world xs (step_ok service requests seed n few w x ok).0 (step_work w ok.many h x l.0) l.1

  lines_work : (w : World) (xs : List ScheduleLine) → IsWorld n sv w → AllWork w → All (HasLane service) xs → AllWork (after_lines service requests seed n w xs)
  lines_work w [] ok h l = h
  lines_work w (x ∷ xs) ok h l =
      lines_work (row service requests seed n w x).world xs (row_ok service requests seed n few w x ok).0
      (steps_work w (steps_of w x) ok h (steps_lanes w x (All-head (HasLane service) x xs l))) (All-tail (HasLane service) x xs l)

  pub active_traces_run : (lines : List ScheduleLine) → All (HasLane service) lines → (m : ℕ) (l : Lead Value) → (node_at (world_after service requests seed n lines).nodes m).role ≡ Leads l → l.active ≡ true → ActsRightly service (node_at (world_after service requests seed n lines).nodes m) l
  active_traces_run lines lanes m l e a = record { acting = acting; trace_runs = ap is_some (live_runs service good checked (known x.log) l.proposal x.work acting) }
    where
      x : Here
      x = node_at (world_after service requests seed n lines).nodes m

      all : AllWork (world_after service requests seed n lines)
      all = lines_work (beginning n) lines (beginning_ok service requests seed n few) (λ q. fresh_works service seed n (IsActing service) (acting_new service good checked) (acting_known service good checked seed) q (node_at (beginning n).nodes q) (fresh_at Value StateValue n q)) lanes

      min : IsNode n m
      min = node_of_lead n sv (world_after service requests seed n lines) (reached_ok service requests seed n few lines) m l e

      acting : IsActing service (known (node_at (world_after service requests seed n lines).nodes m).log) l.proposal (node_at (world_after service requests seed n lines).nodes m).work
      acting = (all m).each l e a (known_run service good checked requests fit seed n few (world_after service requests seed n lines) (reached_ok service requests seed n few lines) m min)
