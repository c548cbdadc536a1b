-- What the calls of schedule lines keep.
use Rattle.std.proofs.Common.{◌≡◌, ℕ, suc, ◌<◌, ◌≤◌, Bool, true, false, ◌||◌, List, length, Option, Some, None, refl, sym, subst}
use Rattle.std.specs.Prelude.{◌==◌, nat_lt, take}
use Rattle.std.proofs.lemmas.Bool.{and_parts}
use Rattle.rex_ballot.specs.Limits.{most_nodes}
use Rattle.rex_syntax.specs.declared.request.Request.{Request}
use Rattle.rex_syntax.specs.declared.service.Declarations.{Declarations}
use Rattle.rex_syntax.specs.declared.version.Version.{Version}
use Rattle.rex_syntax.specs.declared.version.Version.TheVariants.{Two}
use Rattle.rex_cut.specs.Greatest.{greatest_cut}
use Rattle.rex_state.specs.Value.{StateValue}
use Rattle.rex_record.specs.declared.turns.Turn.{Turn}
use Rattle.rex_record.specs.declared.turns.Turn.TheVariants as turn
use Rattle.rex_record.specs.Value.{releases, queued_in}
use Rattle.rex_gate.specs.declared.answer.Answer.{Answer}
use Rattle.rex_gate.specs.declared.answer.Answer.TheVariants as answer
use Rattle.rex_gate.specs.Answer.{answer_to}
use Rattle.rex_report.specs.declared.effect.Effect.{Effect}
use Rattle.rex_report.specs.declared.effect.Effect.TheVariants as effect
use Rattle.rex_cluster.specs.Records.{Proposal, promise, offset, known, base, has_old_base}
use Rattle.rex_cluster.specs.Records.Rec.{Checkpoint, Dropped}
use Rattle.rex_cluster.specs.Quorum.{IsNode, Logs}
use Rattle.rex_cluster.specs.Node.{Service, Message, Role, Work, is_active, role_name, own_ballot}
use Rattle.rex_cluster.specs.Node.Content.{Ask}
use Rattle.rex_cluster.specs.Calls.{say, settle, enough, ask, replay, checkpoint, drop_known, restart, stop, start, arm}
use Rattle.rex_cluster.specs.Invariant.{with_log, IsRightRole, KeepsAll}
use Rattle.rex_cluster.specs.Ranges.{RoleFits}
use Rattle.rex_cluster.specs.Values.{Value, trace_of, state_after, events_of, service_of}
use Rattle.rex_cluster.specs.Lanes.{CallHere, active_only, submit_request, effect_of, worked, lane_turn, turn_effect, turn_in, cut, value_at, known_state, live_state}
use Rattle.rex_cluster.proofs.Calls.{say_good, good_with, active_proposes}
use Rattle.rex_cluster.proofs.Cutting.{cut_keeps}
use Rattle.rex_cluster.proofs.Ranged.{Fits, proposed_fits}
use Rattle.rex_safety.specs.Rounds.{NoneIsSpent}
use Rattle.rex_safety.proofs.Candidacies.{RoleHas, IsPlain, AreSent, if_votes, propose_votes, settle_votes, Any, Cast, append_cast, one_cast}
use Rattle.rex_safety.proofs.Rounds.{Other, Low, calm_push, calm_releases, if_low, append_low, say_low, propose_low, settle_low}

-- ---- records

-- calls of clients and lanes touch no record, and a cut proposes what fits
module _ (service : Declarations) (seed n : ℕ) (L : Logs Value StateValue) (R : ℕ → Role Value) (ms : List (Message Value)) (m : ℕ) (min : IsNode n m) where
  -- what every step keeps, in a call of node m
  abbrev G : CallHere → Type 0
  G d = KeepsAll n (service_of service seed) L R ms m d

  worked_good : (work : Work) (e : Effect) (d : CallHere) → G d → G (worked work e d)
  worked_good work e d good = good_with n (service_of service seed) L R ms m min d good (record d.node { work = work }) _ good.role (record { based = good.here.based; replayed = good.here.replayed })

  pub active_good : (t : Bool) (d e : CallHere) → G d → G e → G (active_only t d e)
  active_good true d e good h = h
  active_good false d e good h = say_good n (service_of service seed) L R ms m min (effect.NotActive (role_name d.node.role)) d good

  submit_good : (r : Option Request) (d : CallHere) → G d → G (submit_request service r d)
  submit_good None d good = say_good n (service_of service seed) L R ms m min effect.Nothing d good
  submit_good (Some r) d good = worked_good _ _ d good

  pub submits_good : (r : Option Request) (d : CallHere) → G d → G (active_only (is_active d.node.role) d (submit_request service r d))
  submits_good r d good = active_good (is_active d.node.role) d (submit_request service r d) good (submit_good r d good)

  pub turns_good : (done lane : ℕ) (d : CallHere) → G d → G (active_only (is_active d.node.role) d (lane_turn service done lane d))
  turns_good done lane d good = active_good (is_active d.node.role) d (lane_turn service done lane d) good (worked_good _ _ d good)

  pub cut_good : (counts : List ℕ) (d : CallHere) → G d → G (cut service seed n m counts d)
  cut_good counts d good =
      cut_keeps G service seed n m counts d (says effect.Nothing) (λ i. says (effect.Open i)) (says effect.Ended) (says (effect.NotActive (role_name d.node.role)))
      (λ l r a p i f. active_proposes n (service_of service seed) L R ms m min _ (value_at (greatest_cut counts d.node.work.live) d.node.work.live) d good l
      (subst (λ r. IsRightRole n (with_log L m d.node.log) d.node.log m r) r good.role) p a (and_parts _ _ f).0 (enough l.reported))
    where
      says : (e : Effect) → G (say e d)
      says e = say_good n (service_of service seed) L R ms m min e d good

-- ---- rounds

pub calm_replies : (service : Declarations) (seed : ℕ) (before : List Value) (v : Value) → NoneIsSpent ((service_of service seed).replies before v)
calm_replies service seed before v = calm_releases (releases (state_after service (trace_of before)).clients (events_of v))

module _ (service : Declarations) (seed n limit : ℕ) (some : 0 < limit) where
  abbrev sv : Service Value StateValue
  sv = service_of service seed

  -- in a call of node m its promise and own ballot are below the limit, and nothing that it said lacks a round
  abbrev pub LowHere : ℕ → CallHere → Type 0
  LowHere m d = Low n sv m limit some (calm_replies service seed) d

  module _ (m : ℕ) where
    says : (e : Effect) (d : CallHere) → Other e → LowHere m d → LowHere m (say e d)
    says e d o h = say_low n sv m limit some (calm_replies service seed) e d o h

    pub active_low : (t : Bool) (d e : CallHere) → LowHere m d → LowHere m e → LowHere m (active_only t d e)
    active_low true d e h k = k
    active_low false d e h k = says (effect.NotActive (role_name d.node.role)) d (λ m e. cc) h

    answer_other : (r : Request) (a : Answer) → Other (effect_of r a)
    answer_other r answer.Queued m h = cc
    answer_other r answer.Waiting m h = cc
    answer_other r (answer.Released value) m h = cc
    answer_other r (answer.Old last) m h = cc
    answer_other r (answer.Gap expected) m h = cc

    pub submit_low : (o : Option Request) (d : CallHere) → LowHere m d → LowHere m (submit_request service o d)
    submit_low None d h = says effect.Nothing d (λ m e. cc) h
    submit_low (Some r) d h =
        let a = answer_to r (queued_in d.node.work.queue r.client) (live_state service d.node).clients (known_state service d.node).clients in
        record { promised = h.promised; own = h.own; calm = calm_push d.effects (effect_of r a) h.calm (answer_other r a) }

    turn_other : (lane : ℕ) (t : Turn) → Other (turn_effect lane t)
    turn_other lane (turn.Done e) m h = cc
    turn_other lane turn.Full m h = cc
    turn_other lane turn.Idle m h = cc
    turn_other lane (turn.Held by) m h = cc
    turn_other lane (turn.Zero semaphore) m h = cc
    turn_other lane turn.Unsignalled m h = cc
    turn_other lane turn.Unfit m h = cc

    pub turn_low : (done lane : ℕ) (d : CallHere) → LowHere m d → LowHere m (lane_turn service done lane d)
    turn_low done lane d h = record { promised = h.promised; own = h.own; calm = calm_push d.effects (turn_effect lane (turn_in service d.node done lane)) h.calm (turn_other lane (turn_in service d.node done lane)) }

    pub cut_low : (counts : List ℕ) (d : CallHere) → LowHere m d → LowHere m (cut service seed n m counts d)
    cut_low counts d h =
        cut_keeps (λ e. LowHere m e) service seed n m counts d (says effect.Nothing d (λ m e. cc) h) (λ i. says (effect.Open i) d (λ m e. cc) h) (says effect.Ended d (λ m e. cc) h) (says (effect.NotActive (role_name d.node.role)) d (λ m e. cc) h)
        (λ l r a p i f. propose_low n sv m limit some (calm_replies service seed) _ d l (suc (length (known d.node.log))) (value_at (greatest_cut counts d.node.work.live) d.node.work.live) (settle (enough l.reported) n sv m)
        (λ m e. cc) h (subst (λ r. own_ballot r < limit) r h.own) (settle_low n sv m limit some (calm_replies service seed) (enough l.reported)))

    pub replay_low : (d : CallHere) → LowHere m d → LowHere m (replay m d)
    replay_low d h =
        if_low n sv m limit some (calm_replies service seed) (is_active d.node.role || d.node.replayed == length (known d.node.log)) (says (effect.UpToDate m) d (λ m e. cc) h)
        (record { promised = h.promised; own = h.own; calm = calm_push d.effects (effect.Replayed m (length (known d.node.log))) h.calm (λ m e. cc) })

    pub checkpoint_low : (version : Version) (d : CallHere) → LowHere m d → LowHere m (checkpoint version sv m d)
    checkpoint_low version d h =
        if_low n sv m limit some (calm_replies service seed) (d.node.replayed == base d.node.log) (says effect.Nothing d (λ m e. cc) h)
        (if_low n sv m limit some (calm_replies service seed) (nat_lt 0 (length d.node.work.live)) (says (effect.Live (length d.node.work.live)) d (λ m e. cc) h)
        (append_low n sv m limit some (calm_replies service seed) d.node.armed (Checkpoint version d.node.replayed (sv.state (take d.node.replayed (known d.node.log)))) d _ h h.promised
        (λ b. record { promised = h.promised; own = h.own; calm = calm_push d.effects (effect.Checkpointed m d.node.replayed) h.calm (λ m e. cc) })))

    pub drop_low : (d : CallHere) → LowHere m d → LowHere m (drop_known m d)
    drop_low d h =
        if_low n sv m limit some (calm_replies service seed) (base d.node.log == offset d.node.log) (says effect.Nothing d (λ m e. cc) h)
        (append_low n sv m limit some (calm_replies service seed) d.node.armed (Dropped (base d.node.log)) d _ h h.promised
        (λ b. record { promised = h.promised; own = h.own; calm = calm_push d.effects (effect.Dropped m (base d.node.log)) h.calm (λ m e. cc) }))

    pub stop_low : (d : CallHere) → LowHere m d → LowHere m (stop m d)
    stop_low d h = record { promised = h.promised; own = some; calm = calm_push d.effects (effect.Stopped m) h.calm (λ m e. cc) }

    pub arm_low : (kept : Bool) (d : CallHere) → LowHere m d → LowHere m (arm m kept d)
    arm_low kept d h = record { promised = h.promised; own = h.own; calm = calm_push d.effects (effect.WillFail m kept) h.calm (λ m e. cc) }

    pub start_low : (d : CallHere) → LowHere m d → LowHere m (start sv m d)
    start_low d h =
        if_low n sv m limit some (calm_replies service seed) (has_old_base d.node.log)
        (append_low n sv m limit some (calm_replies service seed) d.node.armed (Checkpoint Two (base d.node.log) (sv.state (take (base d.node.log) (known d.node.log)))) (restart m d) _ back h.promised
        (λ b. record { promised = h.promised; own = some; calm = calm_push (restart m d).effects (effect.Migrated m (base d.node.log)) back.calm (λ m e. cc) }))
        back
      where
        back : LowHere m (restart m d)
        back = record { promised = h.promised; own = some; calm = calm_push d.effects (effect.Started m (promise d.node.log) (length (known d.node.log)) (base d.node.log)) h.calm (λ m e. cc) }

-- ---- votes

module _ (P : ℕ → List ℕ → List (Proposal Value) → Type 0) (Q : Message Value → Type 0) (service : Declarations) (seed n m : ℕ) (plain : (x : Message Value) → IsPlain x.content → Q x) where
  abbrev svc : Service Value StateValue
  svc = service_of service seed

  -- its votes and what it sends, in a call of node m
  abbrev CastHere : CallHere → Type 0
  CastHere d = Cast P Q n svc m plain d

  pub active_cast : (t : Bool) (d e : CallHere) → CastHere d → CastHere e → CastHere (active_only t d e)
  active_cast true d e h k = k
  active_cast false d e h k = record { role = h.role; log = tt; sends = h.sends }

  pub submit_cast : (o : Option Request) (d : CallHere) → CastHere d → CastHere (submit_request service o d)
  submit_cast None d h = record { role = h.role; log = tt; sends = h.sends }
  submit_cast (Some r) d h = record { role = h.role; log = tt; sends = h.sends }

  pub cut_cast : (counts : List ℕ) (d : CallHere) → CastHere d → CastHere (cut service seed n m counts d)
  cut_cast counts d h =
      cut_keeps (λ e. CastHere e) service seed n m counts d (same refl refl) (λ i. same refl refl) (same refl refl) (same refl refl)
      (λ l r a p i f. propose_votes P (Any P Q n svc m plain) Q n svc m plain (λ i v log t. tt) (λ b cs rs i v log q t. tt) _ d l (suc (length (known d.node.log))) (value_at (greatest_cut counts d.node.work.live) d.node.work.live) (settle (enough l.reported) n svc m)
      (subst (RoleHas P) r h.role) h (settle_votes P (Any P Q n svc m plain) Q n svc m plain (λ i v log t. tt) (λ b cs rs i v log q t. tt) (enough l.reported)))
    where
      same : {e : CallHere} → e.node.role ≡ d.node.role → e.sends ≡ d.sends → CastHere e
      same r s = record { role = subst (RoleHas P) (sym r) h.role; log = tt; sends = subst (AreSent Q) (sym s) h.sends }

  pub ask_cast : (other : ℕ) (d : CallHere) → CastHere d → CastHere (ask m other d)
  ask_cast other d h = one_cast P Q n svc m plain d other (Ask (suc (length (known d.node.log)))) tt h

  pub replay_cast : (d : CallHere) → CastHere d → CastHere (replay m d)
  replay_cast d h =
      if_votes P (Any P Q n svc m plain) Q (is_active d.node.role || d.node.replayed == length (known d.node.log)) (record { role = h.role; log = tt; sends = h.sends }) (record { role = h.role; log = tt; sends = h.sends })

  pub checkpoint_cast : (version : Version) (d : CallHere) → CastHere d → CastHere (checkpoint version svc m d)
  checkpoint_cast version d h =
      if_votes P (Any P Q n svc m plain) Q (d.node.replayed == base d.node.log) (record { role = h.role; log = tt; sends = h.sends })
      (if_votes P (Any P Q n svc m plain) Q (nat_lt 0 (length d.node.work.live)) (record { role = h.role; log = tt; sends = h.sends })
      (append_cast P Q n svc m plain d.node.armed (Checkpoint version d.node.replayed (svc.state (take d.node.replayed (known d.node.log)))) d _ h (λ a. record { role = h.role; log = tt; sends = h.sends })))

  pub drop_cast : (d : CallHere) → CastHere d → CastHere (drop_known m d)
  drop_cast d h =
      if_votes P (Any P Q n svc m plain) Q (base d.node.log == offset d.node.log) (record { role = h.role; log = tt; sends = h.sends })
      (append_cast P Q n svc m plain d.node.armed (Dropped (base d.node.log)) d _ h (λ a. record { role = h.role; log = tt; sends = h.sends }))

  pub stop_cast : (d : CallHere) → CastHere d → CastHere (stop m d)
  stop_cast d h = record { role = tt; log = tt; sends = h.sends }

  pub arm_cast : (kept : Bool) (d : CallHere) → CastHere d → CastHere (arm m kept d)
  arm_cast kept d h = record { role = h.role; log = tt; sends = h.sends }

  pub start_cast : (d : CallHere) → CastHere d → CastHere (start svc m d)
  start_cast d h =
      if_votes P (Any P Q n svc m plain) Q (has_old_base d.node.log)
      (append_cast P Q n svc m plain d.node.armed (Checkpoint Two (base d.node.log) (svc.state (take (base d.node.log) (known d.node.log)))) (restart m d) _ (record { role = tt; log = tt; sends = h.sends }) (λ a. record { role = tt; log = tt; sends = h.sends }))
      (record { role = tt; log = tt; sends = h.sends })

-- ---- ranges

module _ (service : Declarations) (requests : List Request) (seed n : ℕ) (few : n ≤ most_nodes) (m : ℕ) (min : IsNode n m) where
  -- its numbers are in their ranges, in a call of node m
  abbrev FitsAt : CallHere → Type 0
  FitsAt d = Fits n few (service_of service seed) m min d

  pub active_fits : (t : Bool) (d e : CallHere) → FitsAt d → FitsAt e → FitsAt (active_only t d e)
  active_fits true d e h k = k
  active_fits false d e h k = record { log = h.log; role = h.role; sends = h.sends }

  pub submit_fits : (o : Option Request) (d : CallHere) → FitsAt d → FitsAt (submit_request service o d)
  submit_fits None d h = record { log = h.log; role = h.role; sends = h.sends }
  submit_fits (Some r) d h = record { log = h.log; role = h.role; sends = h.sends }

  pub cut_fits : (counts : List ℕ) (d : CallHere) → FitsAt d → FitsAt (cut service seed n m counts d)
  cut_fits counts d h =
      cut_keeps (λ e. FitsAt e) service seed n m counts d (record { log = h.log; role = h.role; sends = h.sends }) (λ i. record { log = h.log; role = h.role; sends = h.sends }) (record { log = h.log; role = h.role; sends = h.sends }) (record { log = h.log; role = h.role; sends = h.sends })
      (λ l r a p i f. proposed_fits n few (service_of service seed) m min _ d l (value_at (greatest_cut counts d.node.work.live) d.node.work.live) (enough l.reported) h (subst (RoleFits (length (known d.node.log))) r h.role) i)
