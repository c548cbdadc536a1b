-- A node none of whose appends will fail is up after a call, if it was before.
use Rattle.std.proofs.Common.{◌≡◌, ℕ, zero, suc, ◌==◌, ◌||◌, Bool, true, false, cond, List, [], ◌∷◌, ◌++◌, length, Option, Some, None, refl}
use Rattle.std.specs.Prelude.{nat_lt, nat_le, if◌then◌else◌}
use Rattle.rex_report.specs.declared.effect.Effect.{Effect}
use Rattle.rex_report.specs.declared.effect.Effect.TheVariants.{Replayed, UpToDate}
use Rattle.rex_cluster.specs.Records.{Rec, Proposal, accepted, base, known, offset, promise}
use Rattle.rex_cluster.specs.Records.Rec.{Dropped}
use Rattle.rex_cluster.specs.Quorum.{is_in, is_majority, ballot_above, round_of}
use Rattle.rex_cluster.specs.Node.{Content, Failure, Lead, Role, Service, is_active}
use Rattle.rex_cluster.specs.Node.Content.{Prepare, Promise, Accept, Accepted as Voted, Chosen as Chose, Nack, Ask, Snapshot}
use Rattle.rex_cluster.specs.Node.Role.{Follower, Leads}
use Rattle.rex_syntax.specs.declared.request.Request.{Request}
use Rattle.rex_syntax.specs.declared.service.Declarations.{Declarations}
use Rattle.rex_event.specs.declared.event.Event.{Event}
use Rattle.rex_event.specs.Cuts.{below}
use Rattle.rex_cut.specs.Greatest.{greatest_cut}
use Rattle.rex_cluster.specs.Values.{Value, service_of}
use Rattle.rex_cluster.specs.Lanes.{CallHere, active_only, cut, cut_lead, cut_live, cut_role, is_faithful, lane_turn, no_limits, submit_request, value_at}
use Rattle.rex_cluster.specs.Calls.{Call, append, best, choose, decide, elect, enough, has_last, hear, heard, count_vote, voted, lead, logged, on_accept, on_ask, on_chosen, on_nack, on_own_promise, on_own_vote, on_prepare, on_promise, on_snapshot, on_voted, own_reports, propose, receive, say, settle, turn}
use Rattle.rex_processes.specs.Processes.{Task, call_for}
use Rattle.rex_processes.specs.Processes.Task.{Elect as ToElect, Submit as ToSubmit, Turn as ToTurn, Cut as ToCut, Hear as ToHear, Ask as ToAsk, Replay as ToReplay, Save as ToSave, Forget as ToForget}
use Rattle.rex_processes.specs.Plain.{IsPlainTask}

-- a node is up within a call, and none of its appends will fail
pub record IsSteady {V S : Type 0} (d : Call V S) : Type 0 where
  pub up : d.node.up ≡ true
  pub unarmed : d.node.armed ≡ None

module _ {V S : Type 0} (n : ℕ) (sv : Service V S) (me : ℕ) where
  -- so it is after the rest of a call
  abbrev pub StaysSteady : (Call V S → Call V S) → Type 0
  StaysSteady k = (e : Call V S) → IsSteady e → IsSteady (k e)

  pub if_steady : (t : Bool) {d e : Call V S} → IsSteady d → IsSteady e → IsSteady (cond t d e)
  if_steady true p q = p
  if_steady false p q = q

  pub append_steady : (a : Option Failure) → a ≡ None → (r : Rec V S) (d : Call V S) (k : Call V S → Call V S) → IsSteady d → StaysSteady k
      → IsSteady (append a me r d k)
  append_steady None e r d k u g = g (logged r None d) (record { up = u.up; unarmed = refl })
  append_steady (Some f) e r d k u g = absurd cc

  propose_steady : (told : Effect) (d : Call V S) (l : Lead V) (i : ℕ) (v : V) (k : Call V S → Call V S) → IsSteady d → StaysSteady k
      → IsSteady (propose n me told d l i v k)
  propose_steady told d l i v k u g = append_steady d.node.armed u.unarmed _ d _ u (λ e w. g _ (record { up = w.up; unarmed = w.unarmed }))

  decide_steady : (d : Call V S) (l : Lead V) (i : ℕ) (v : V) (k : Call V S → Call V S) → IsSteady d → StaysSteady k → IsSteady (decide n sv me d l i v k)
  decide_steady d l i v k u g = append_steady d.node.armed u.unarmed _ d _ u (λ e w. g _ (record { up = w.up; unarmed = w.unarmed }))

  choose_steady : (d : Call V S) (l : Lead V) (i : ℕ) (o : Option (Proposal V)) (k : Call V S → Call V S) → IsSteady d → StaysSteady k
      → IsSteady (choose n sv me d l i o k)
  choose_steady d l i None k u g = record { up = u.up; unarmed = u.unarmed }
  choose_steady d l i (Some p) k u g = propose_steady _ d l i p.value k u g

  lead_steady : (d : Call V S) (l : Lead V) (o : Option (Proposal V)) (k : Call V S → Call V S) → IsSteady d → StaysSteady k → IsSteady (lead n sv me d l o k)
  lead_steady d l (Some p) k u g = if_steady (is_majority n l.accepted_by) (decide_steady d l p.instance p.value k u g) (record { up = u.up; unarmed = u.unarmed })
  lead_steady d l None k u g =
      if_steady l.active (record { up = u.up; unarmed = u.unarmed }) (if_steady (is_majority n l.counted) (choose_steady d l (suc (length (known d.node.log))) (best (suc (length (known d.node.log))) l.reported) k u g) (record { up = u.up; unarmed = u.unarmed }))

  turn_steady : (d : Call V S) (r : Role V) (k : Call V S → Call V S) → IsSteady d → StaysSteady k → IsSteady (turn n sv me d r k)
  turn_steady d Follower k u g = record { up = u.up; unarmed = u.unarmed }
  turn_steady d (Leads l) k u g = lead_steady d l l.proposal k u g

  pub settle_steady : (f : ℕ) → StaysSteady (settle f n sv me)
  settle_steady zero d u = record { up = u.up; unarmed = u.unarmed }
  settle_steady (suc f) d u = turn_steady d d.node.role (settle f n sv me) u (settle_steady f)

  pub elect_steady : StaysSteady (elect n sv me)
  elect_steady d u = if_steady (nat_lt 4294967296 (round_of (ballot_above me (promise d.node.log)))) (record { up = u.up; unarmed = u.unarmed }) (append_steady d.node.armed u.unarmed _ d _ u (λ e w. settle_steady (enough (own_reports d.node.log)) _ (record { up = w.up; unarmed = w.unarmed })))

  prepare_steady : (from b first : ℕ) → StaysSteady (on_prepare me from b first)
  prepare_steady from b first d u =
      if_steady (nat_lt b (promise d.node.log)) (record { up = u.up; unarmed = u.unarmed }) (if_steady (nat_le first (offset d.node.log)) (record { up = u.up; unarmed = u.unarmed }) (if_steady (nat_lt (promise d.node.log) b) (append_steady d.node.armed u.unarmed _ d _ u (λ e w. record { up = w.up; unarmed = w.unarmed })) (record { up = u.up; unarmed = u.unarmed })))

  accept_steady : (from b i : ℕ) (v : V) → StaysSteady (on_accept me from b i v)
  accept_steady from b i v d u =
      if_steady (nat_lt b (promise d.node.log)) (record { up = u.up; unarmed = u.unarmed }) (if_steady (nat_le i (offset d.node.log)) (record { up = u.up; unarmed = u.unarmed }) (if_steady (has_last b i (accepted d.node.log)) (record { up = u.up; unarmed = u.unarmed }) (append_steady d.node.armed u.unarmed _ d _ u (λ e w. record { up = w.up; unarmed = w.unarmed }))))

  hear_steady : (l : Lead V) → StaysSteady (hear n sv me l)
  hear_steady l d u = if_steady (is_majority n l.counted) (settle_steady (enough l.reported) _ (record { up = u.up; unarmed = u.unarmed })) (record { up = u.up; unarmed = u.unarmed })

  own_promise_steady : (from : ℕ) (ps : List (Proposal V)) (d : Call V S) (l : Lead V) (o : Option (Proposal V)) → IsSteady d
      → IsSteady (on_own_promise n sv me from ps d l o)
  own_promise_steady from ps d l (Some p) u = record { up = u.up; unarmed = u.unarmed }
  own_promise_steady from ps d l None u = if_steady l.active (record { up = u.up; unarmed = u.unarmed }) (if_steady (is_in from l.counted) (record { up = u.up; unarmed = u.unarmed }) (hear_steady (heard l from ps) d u))

  promise_steady : (from b : ℕ) (ps : List (Proposal V)) (d : Call V S) (r : Role V) → IsSteady d → IsSteady (on_promise n sv me from b ps d r)
  promise_steady from b ps d Follower u = record { up = u.up; unarmed = u.unarmed }
  promise_steady from b ps d (Leads l) u = if_steady (l.ballot == b) (own_promise_steady from ps d l l.proposal u) (record { up = u.up; unarmed = u.unarmed })

  vote_steady : (l : Lead V) → StaysSteady (count_vote n sv me l)
  vote_steady l d u = if_steady (is_majority n l.accepted_by) (settle_steady (enough l.reported) _ (record { up = u.up; unarmed = u.unarmed })) (record { up = u.up; unarmed = u.unarmed })

  own_vote_steady : (from i : ℕ) (d : Call V S) (l : Lead V) (o : Option (Proposal V)) → IsSteady d → IsSteady (on_own_vote n sv me from i d l o)
  own_vote_steady from i d l None u = record { up = u.up; unarmed = u.unarmed }
  own_vote_steady from i d l (Some p) u = if_steady (p.instance == i) (if_steady (is_in from l.accepted_by) (record { up = u.up; unarmed = u.unarmed }) (vote_steady (voted l from p) d u)) (record { up = u.up; unarmed = u.unarmed })

  voted_steady : (from b i : ℕ) (d : Call V S) (r : Role V) → IsSteady d → IsSteady (on_voted n sv me from b i d r)
  voted_steady from b i d Follower u = record { up = u.up; unarmed = u.unarmed }
  voted_steady from b i d (Leads l) u = if_steady (l.ballot == b) (own_vote_steady from i d l l.proposal u) (record { up = u.up; unarmed = u.unarmed })

  chosen_steady : (i : ℕ) (v : V) → StaysSteady (on_chosen me i v)
  chosen_steady i v d u = if_steady (i == suc (length (known d.node.log))) (append_steady d.node.armed u.unarmed _ d _ u (λ e w. record { up = w.up; unarmed = w.unarmed })) (record { up = u.up; unarmed = u.unarmed })

  nack_steady : (p : ℕ) (d : Call V S) (r : Role V) → IsSteady d → IsSteady (on_nack me p d r)
  nack_steady p d Follower u = record { up = u.up; unarmed = u.unarmed }
  nack_steady p d (Leads l) u = if_steady (nat_lt l.ballot p) (record { up = u.up; unarmed = u.unarmed }) (record { up = u.up; unarmed = u.unarmed })

  ask_steady : (from first : ℕ) → StaysSteady (on_ask me from first)
  ask_steady from first d u = if_steady (nat_le first (offset d.node.log)) (record { up = u.up; unarmed = u.unarmed }) (if_steady (nat_lt (length (known d.node.log)) first) (record { up = u.up; unarmed = u.unarmed }) (record { up = u.up; unarmed = u.unarmed }))

  snapshot_steady : (values : List V) → StaysSteady (on_snapshot sv me values)
  snapshot_steady values d u = if_steady (nat_le (length values) (length (known d.node.log))) (record { up = u.up; unarmed = u.unarmed }) (append_steady d.node.armed u.unarmed _ d _ u (λ e w. record { up = w.up; unarmed = w.unarmed }))

  pub receive_steady : (from : ℕ) (content : Content V) → StaysSteady (receive n sv me from content)
  receive_steady from (Prepare b first) d u = prepare_steady from b first d u
  receive_steady from (Promise b ps) d u = promise_steady from b ps d d.node.role u
  receive_steady from (Accept b i v) d u = accept_steady from b i v d u
  receive_steady from (Voted b i) d u = voted_steady from b i d d.node.role u
  receive_steady from (Chose i v) d u = chosen_steady i v d u
  receive_steady from (Nack b p) d u = nack_steady p d d.node.role u
  receive_steady from (Ask first) d u = ask_steady from first d u
  receive_steady from (Snapshot values) d u = snapshot_steady values d u

-- ---- the calls of an active node

module _ (service : Declarations) (seed n me : ℕ) where
  pub active_steady : (t : Bool) (d e : CallHere) → IsSteady d → IsSteady e → IsSteady (active_only t d e)
  active_steady true d e u h = h
  active_steady false d e u h = record { up = u.up; unarmed = u.unarmed }

  pub submit_steady : (o : Option Request) (d : CallHere) → IsSteady d → IsSteady (submit_request service o d)
  submit_steady None d u = record { up = u.up; unarmed = u.unarmed }
  submit_steady (Some r) d u = record { up = u.up; unarmed = u.unarmed }

  live_steady : (cut : List ℕ) (l : Lead Value) (es : List Event) (d : CallHere) → IsSteady d → IsSteady (cut_live service seed n me cut l es d)
  live_steady cut l [] d u = record { up = u.up; unarmed = u.unarmed }
  live_steady cut l (e ∷ es) d u =
      if_steady n (service_of service seed) me (is_faithful service seed (known d.node.log) cut d.node.work.live)
      (propose_steady n (service_of service seed) me _ d l (suc (length (known d.node.log))) (value_at cut d.node.work.live) (settle (enough l.reported) n (service_of service seed) me) u (settle_steady n (service_of service seed) me (enough l.reported)))
      (record { up = u.up; unarmed = u.unarmed })

  open_steady : (counts : List ℕ) (l : Lead Value) (o : Option (Proposal Value)) (d : CallHere) → IsSteady d
      → IsSteady (cut_lead service seed n me counts l o d)
  open_steady counts l (Some p) d u = record { up = u.up; unarmed = u.unarmed }
  open_steady counts l None d u =
      if_steady n (service_of service seed) me (nat_le 65535 (length (known d.node.log))) (record { up = u.up; unarmed = u.unarmed })
      (live_steady (greatest_cut counts d.node.work.live) l (below (greatest_cut counts d.node.work.live) d.node.work.live) d u)

  role_steady : (counts : List ℕ) (r : Role Value) (d : CallHere) → IsSteady d → IsSteady (cut_role service seed n me counts r d)
  role_steady counts Follower d u = record { up = u.up; unarmed = u.unarmed }
  role_steady counts (Leads l) d u = active_steady l.active d (cut_lead service seed n me counts l l.proposal d) u (open_steady counts l l.proposal d u)

  pub cut_steady : (counts : List ℕ) (d : CallHere) → IsSteady d → IsSteady (cut service seed n me counts d)
  cut_steady counts d u = role_steady counts d.node.role d u

  -- ---- tasks

  replay_steady : (t : Bool) (d : CallHere) → IsSteady d → IsSteady (if t then say (UpToDate me) d else record d {
    node = record d.node { replayed = length (known d.node.log) };
    effects = d.effects ++ Replayed me (length (known d.node.log)) ∷ [];
  })
  replay_steady true d u = record { up = u.up; unarmed = u.unarmed }
  replay_steady false d u = record { up = u.up; unarmed = u.unarmed }

  -- whatever task it does but to write its state down
  pub task_steady : (task : Task) (d : CallHere) → IsPlainTask task → IsSteady d → IsSteady (call_for service seed n me task d)
  task_steady ToElect d plain u = elect_steady n (service_of service seed) me d u
  task_steady (ToSubmit r) d plain u = active_steady (is_active d.node.role) d (submit_request service (Some r) d) u (submit_steady (Some r) d u)
  task_steady (ToTurn lane clock) d plain u = active_steady (is_active d.node.role) d (lane_turn service clock lane d) u (record { up = u.up; unarmed = u.unarmed })
  task_steady ToCut d plain u = cut_steady (no_limits service d.node) d u
  task_steady (ToHear x) d plain u = receive_steady n (service_of service seed) me x.from x.content d u
  task_steady (ToAsk other) d plain u = record { up = u.up; unarmed = u.unarmed }
  task_steady ToReplay d plain u = replay_steady (is_active d.node.role || d.node.replayed == length (known d.node.log)) d u
  task_steady (ToSave version) d plain u = absurd plain
  task_steady ToForget d plain u =
      if_steady n (service_of service seed) me (base d.node.log == offset d.node.log) (record { up = u.up; unarmed = u.unarmed })
      (append_steady n (service_of service seed) me d.node.armed u.unarmed (Dropped (base d.node.log)) d _ u (λ e w. record { up = w.up; unarmed = w.unarmed }))
