-- What a schedule line does: a call of a node that keeps what every step keeps, or one of a few others.
use Rattle.std.proofs.Common.{◌≡◌, ℕ, ◌<◌, ◌≤◌, Bool, true, false, List, [], ◌∷◌, ◌++◌, length, Option, Some, None, refl}
use Rattle.std.specs.Prelude.{slice_get, get_or}
use Rattle.std.specs.List.{All}
use Rattle.rand_pcg.specs.Lcg.{Lcg}
use Rattle.rex_ballot.specs.Limits.{most_nodes}
use Rattle.rex_syntax.specs.declared.request.Request.{Request}
use Rattle.rex_syntax.specs.declared.service.Declarations.{Declarations}
use Rattle.rex_syntax.specs.declared.version.Version.{Version}
use Rattle.rex_syntax.specs.Service.{IsService}
use Rattle.rex_syntax.specs.Check.{IsChecked}
use Rattle.rex_state.specs.Value.{StateValue}
use Rattle.rex_report.specs.declared.effect.Effect.TheVariants as effect
use Rattle.rex_schedule.specs.Fits.{RequestFits, LineFits}
use Rattle.rex_schedule.specs.declared.scenario.ScheduleLine.{ScheduleLine}
use Rattle.rex_schedule.specs.declared.scenario.ScheduleLine.TheVariants as line
use Rattle.rex_cluster.specs.Records.{Proposal, base, has_old_base}
use Rattle.rex_cluster.specs.Quorum.{IsNode, Logs}
use Rattle.rex_cluster.specs.Node.{Service, Message, Role, Work, is_active}
use Rattle.rex_cluster.specs.Calls.{begin, elect, ask, replay, checkpoint, drop_known, restart, stop, start, arm, work_known}
use Rattle.rex_cluster.specs.Invariant.{KeepsAll}
use Rattle.rex_cluster.specs.Values.{Value, service_of}
use Rattle.rex_cluster.specs.Lanes.{Here, CallHere, active_only, submit_request, lane_turn, cut, no_limits, with_limits}
use Rattle.rex_cluster.specs.World.{World, Row, node_at, after, only, at_node, start_if, read_row, deliver_found, message_at, step}
use Rattle.rex_cluster.specs.Reading.{read_at}
use Rattle.rex_cluster.specs.Releases.{node_in}
use Rattle.rex_cluster.proofs.Calls.{elect_good, ask_good, replay_good, checkpoint_good, drop_good, stop_good, start_good, arm_good}
use Rattle.rex_cluster.proofs.Migrated.{migrated_sends}
use Rattle.rex_cluster.proofs.Ranged.{Fits, elect_fits, ask_fits, replay_fits, checkpoint_fits, drop_fits, migrated_fits}
use Rattle.rex_cluster.proofs.Replies.{StandsIn, replies_stand, SaysHere, quietly, submit_says, turn_says, cut_tells}
use Rattle.rex_cluster.proofs.Saying.{Quiet, quiet_one, quiet_none, quiet_push, start_quiet, elect_says, replay_says, checkpoint_says, drop_says, stop_says}
use Rattle.rex_cluster.proofs.Working.{fresh_work, Works, passive, elect_works, replay_works, checkpoint_works, drop_works, start_works}
use Rattle.rex_safety.proofs.Candidacies.{IsPlain, Cast}
use Rattle.rex_safety.proofs.LineCalls.{submits_good, turns_good, cut_good, LowHere, active_low, submit_low, turn_low, cut_low, replay_low, checkpoint_low, drop_low, stop_low, start_low, arm_low, active_cast, submit_cast, cut_cast, ask_cast, replay_cast, checkpoint_cast, drop_cast, stop_cast, start_cast, arm_cast, active_fits, submit_fits, cut_fits}

-- what is no election
abbrev pub IsOther : ScheduleLine → Type 0
IsOther (line.Elect m) = ⊥
IsOther _ = Unit {0}

module _ (service : Declarations) (requests : List Request) (seed n : ℕ) (w : World) where
  abbrev sv : Service Value StateValue
  sv = service_of service seed

  -- a line of clients and lanes keeps this fact of a call at a node; any other line is like this
  abbrev pub LanesKeep : (ℕ → CallHere → Type 0) → ScheduleLine → Type 0
  LanesKeep K (line.Submit m r) = (d : CallHere) → K m d → K m (active_only (is_active d.node.role) d (submit_request service (slice_get requests r) d))
  LanesKeep K (line.Lane m lane) = (d : CallHere) → K m d → K m (active_only (is_active d.node.role) d (lane_turn service w.done lane d))
  LanesKeep K (line.Cut m) = (d : CallHere) → K m d → K m (cut service seed n m (no_limits service d.node) d)
  LanesKeep K (line.CutBelow m limits) = (d : CallHere) → K m d → K m (cut service seed n m (with_limits service d.node limits) d)
  LanesKeep K _ = Unit {0}

  -- the call of node m that a line makes keeps the invariant, releases only replies that stand, keeps a fact of what active nodes work with where clients and lanes keep it, keeps rounds and votes where it is no election, and keeps numbers in their ranges where what the line names is there
  pub record IsLawful (x : ScheduleLine) (m : ℕ) (call : CallHere → CallHere) : Type 1 where
    pub node : node_in w x ≡ m
    pub good : n ≤ most_nodes → (L : Logs Value StateValue) (R : ℕ → Role Value) (ms : List (Message Value)) → IsNode n m → (d : CallHere) → KeepsAll n sv L R ms m d → KeepsAll n sv L R ms m (call d)
    pub says : (sound : IsService service) (checked : IsChecked service) → All (RequestFits service) requests → (d : CallHere) → Quiet d.effects → SaysHere service sound checked seed n m (call d)
    pub works : (A : List Value → Option (Proposal Value) → Work → Type 0) (new : (vs : List Value) (dice : Lcg) → sv.fits vs ≡ true → A vs None (fresh_work dice))
        (more : (vs : List Value) (p : Proposal Value) (u : Work) → sv.fits (vs ++ p.value ∷ []) ≡ true → (sv.fits vs ≡ true → A vs (Some p) u) → A (vs ++ p.value ∷ []) None (work_known sv true (vs ++ p.value ∷ []) u))
        → LanesKeep (λ q d. Works n sv q A new more d) x → (d : CallHere) → Works n sv m A new more d → Works n sv m A new more (call d)
    pub low : IsOther x → (limit : ℕ) (some : 0 < limit) (d : CallHere) → LowHere service seed n limit some m d → LowHere service seed n limit some m (call d)
    pub cast : IsOther x → (P : ℕ → List ℕ → List (Proposal Value) → Type 0) (Q : Message Value → Type 0) (plain : (y : Message Value) → IsPlain y.content → Q y) (d : CallHere) → Cast P Q n sv m plain d → Cast P Q n sv m plain (call d)
    pub fits : LineFits n (length requests) service.lanes x → (few : n ≤ most_nodes) (min : IsNode n m) (d : CallHere) → Fits n few sv m min d → Fits n few sv m min (call d)

  -- ---- the calls

  elects : (m : ℕ) → IsLawful (line.Elect m) m (elect n sv m)
  elects m = record {
    node = refl;
    good = λ few L R ms min. elect_good n sv L R ms m min few;
    says = λ sound checked fit. elect_says n sv m (StandsIn service sound checked) (replies_stand service sound checked);
    works = λ A new more l. elect_works n sv m A new more;
    low = λ o. absurd o;
    cast = λ o. absurd o;
    fits = λ l few min. elect_fits n few sv m min;
  }

  submits : (m r : ℕ) → IsLawful (line.Submit m r) m (λ d. active_only (is_active d.node.role) d (submit_request service (slice_get requests r) d))
  submits m r = record {
    node = refl;
    good = λ few L R ms min. submits_good service seed n L R ms m min (slice_get requests r);
    says = λ sound checked fit. submit_says service sound checked seed n m requests fit r;
    works = λ A new more l. l;
    low = λ o limit some d h. active_low service seed n limit some m (is_active d.node.role) d _ h (submit_low service seed n limit some m (slice_get requests r) d h);
    cast = λ o P Q plain d h. active_cast P Q service seed n m plain (is_active d.node.role) d _ h (submit_cast P Q service seed n m plain (slice_get requests r) d h);
    fits = λ l few min d h. active_fits service requests seed n few m min (is_active d.node.role) d _ h (submit_fits service requests seed n few m min (slice_get requests r) d h);
  }

  turns : (m lane : ℕ) → IsLawful (line.Lane m lane) m (λ d. active_only (is_active d.node.role) d (lane_turn service w.done lane d))
  turns m lane = record {
    node = refl;
    good = λ few L R ms min. turns_good service seed n L R ms m min w.done lane;
    says = λ sound checked fit. turn_says service sound checked seed n m w.done lane;
    works = λ A new more l. l;
    low = λ o limit some d h. active_low service seed n limit some m (is_active d.node.role) d _ h (turn_low service seed n limit some m w.done lane d h);
    cast = λ o P Q plain d h. active_cast P Q service seed n m plain (is_active d.node.role) d (lane_turn service w.done lane d) h (record { role = h.role; log = tt; sends = h.sends });
    fits = λ l few min d h. active_fits service requests seed n few m min (is_active d.node.role) d (lane_turn service w.done lane d) h (record { log = h.log; role = h.role; sends = h.sends });
  }

  cuts : (m : ℕ) → IsLawful (line.Cut m) m (λ d. cut service seed n m (no_limits service d.node) d)
  cuts m = record {
    node = refl;
    good = λ few L R ms min d. cut_good service seed n L R ms m min (no_limits service d.node) d;
    says = λ sound checked fit d. cut_tells service sound checked seed n m (no_limits service d.node) d;
    works = λ A new more l. l;
    low = λ o limit some d. cut_low service seed n limit some m (no_limits service d.node) d;
    cast = λ o P Q plain d. cut_cast P Q service seed n m plain (no_limits service d.node) d;
    fits = λ l few min d. cut_fits service requests seed n few m min (no_limits service d.node) d;
  }

  cuts_below : (m : ℕ) (limits : List ℕ) → IsLawful (line.CutBelow m limits) m (λ d. cut service seed n m (with_limits service d.node limits) d)
  cuts_below m limits = record {
    node = refl;
    good = λ few L R ms min d. cut_good service seed n L R ms m min (with_limits service d.node limits) d;
    says = λ sound checked fit d. cut_tells service sound checked seed n m (with_limits service d.node limits) d;
    works = λ A new more l. l;
    low = λ o limit some d. cut_low service seed n limit some m (with_limits service d.node limits) d;
    cast = λ o P Q plain d. cut_cast P Q service seed n m plain (with_limits service d.node limits) d;
    fits = λ l few min d. cut_fits service requests seed n few m min (with_limits service d.node limits) d;
  }

  replays : (m : ℕ) → IsLawful (line.Replay m) m (replay m)
  replays m = record {
    node = refl;
    good = λ few L R ms min. replay_good n sv L R ms m min;
    says = λ sound checked fit. replay_says n sv m (StandsIn service sound checked) (replies_stand service sound checked);
    works = λ A new more l. replay_works n sv m A new more;
    low = λ o limit some. replay_low service seed n limit some m;
    cast = λ o P Q plain. replay_cast P Q service seed n m plain;
    fits = λ l few min. replay_fits n few sv m min;
  }

  asks : (m other : ℕ) → IsLawful (line.Ask m other) m (ask m other)
  asks m other = record {
    node = refl;
    good = λ few L R ms min. ask_good n sv L R ms m min other;
    says = λ sound checked fit d. quietly service sound checked seed n m (ask m other d);
    works = λ A new more l d h. record { each = h.each };
    low = λ o limit some d h. record { promised = h.promised; own = h.own; calm = h.calm };
    cast = λ o P Q plain. ask_cast P Q service seed n m plain other;
    fits = λ l few min. ask_fits n few sv m min other l.1.0 l.1.1;
  }

  stops : (m : ℕ) → IsLawful (line.Stop m) m (stop m)
  stops m = record {
    node = refl;
    good = λ few L R ms min. stop_good n sv L R ms m min;
    says = λ sound checked fit. stop_says n sv m (StandsIn service sound checked) (replies_stand service sound checked);
    works = λ A new more l d h. passive n sv m A new more (stop m d) refl;
    low = λ o limit some. stop_low service seed n limit some m;
    cast = λ o P Q plain. stop_cast P Q service seed n m plain;
    fits = λ l few min d h. record { log = h.log; role = tt; sends = h.sends };
  }

  checkpoints : (m : ℕ) (version : Version) → IsLawful (line.Checkpoint m version) m (checkpoint version sv m)
  checkpoints m version = record {
    node = refl;
    good = λ few L R ms min. checkpoint_good n sv L R ms m min version;
    says = λ sound checked fit. checkpoint_says n sv m (StandsIn service sound checked) (replies_stand service sound checked) version;
    works = λ A new more l. checkpoint_works n sv m A new more version;
    low = λ o limit some. checkpoint_low service seed n limit some m version;
    cast = λ o P Q plain. checkpoint_cast P Q service seed n m plain version;
    fits = λ l few min. checkpoint_fits n few sv m min version;
  }

  drops : (m : ℕ) → IsLawful (line.DropKnown m) m (drop_known m)
  drops m = record {
    node = refl;
    good = λ few L R ms min. drop_good n sv L R ms m min;
    says = λ sound checked fit. drop_says n sv m (StandsIn service sound checked) (replies_stand service sound checked);
    works = λ A new more l. drop_works n sv m A new more;
    low = λ o limit some. drop_low service seed n limit some m;
    cast = λ o P Q plain. drop_cast P Q service seed n m plain;
    fits = λ l few min. drop_fits n few sv m min;
  }

  -- ---- calls of nodes that may be down

  -- it sends nothing and releases nothing
  pub record IsSilent (call : CallHere → CallHere) : Type 0 where
    pub sends : (x : Here) → (call (begin x)).sends ≡ []
    pub quiet : (x : Here) → Quiet (call (begin x)).effects

  starts : (m : ℕ) → IsLawful (line.Start m) m (start sv m)
  starts m = record {
    node = refl;
    good = λ few L R ms min. start_good n sv L R ms m min;
    says = λ sound checked fit d q. quietly service sound checked seed n m (start sv m d) (start_quiet sv m d q);
    works = λ A new more l d h. start_works n sv m A new more d;
    low = λ o limit some. start_low service seed n limit some m;
    cast = λ o P Q plain. start_cast P Q service seed n m plain;
    fits = λ l few min d h. migrated_fits n few sv m min (restart m d) (record { log = h.log; role = tt; sends = h.sends });
  }

  silent_start : (m : ℕ) → IsSilent (start sv m)
  silent_start m = record { sends = λ x. migrated_sends (has_old_base x.log) m (restart m (begin x)) (base x.log) _ refl; quiet = λ x. start_quiet sv m (begin x) quiet_none }

  arms : (m : ℕ) (kept : Bool) → IsLawful (line.KeepFail m kept) m (arm m kept)
  arms m kept = record {
    node = refl;
    good = λ few L R ms min. arm_good n sv L R ms m min kept;
    says = λ sound checked fit d q. quietly service sound checked seed n m (arm m kept d) (quiet_push d.effects (effect.WillFail m kept) q (λ c s x e. cc));
    works = λ A new more l d h. record { each = h.each };
    low = λ o limit some. arm_low service seed n limit some m kept;
    cast = λ o P Q plain. arm_cast P Q service seed n m plain kept;
    fits = λ l few min d h. record { log = h.log; role = h.role; sends = h.sends };
  }

  silent_arm : (m : ℕ) (kept : Bool) → IsSilent (arm m kept)
  silent_arm m kept = record { sends = λ x. refl; quiet = λ x. quiet_one (effect.WillFail m kept) (λ c s y e. cc) }

  -- ---- lines

  -- what has to be shown of lines: of each that makes a lawful call, of each that makes a silent one whether the node is up or not, and of each other one
  pub record OfSteps (P : ScheduleLine → Row → Type 0) : Type 1 where
    pub calls : (x : ScheduleLine) (m : ℕ) (call : CallHere → CallHere) → IsLawful x m call → P x (at_node w m call)
    pub silent : (x : ScheduleLine) (m : ℕ) (call : CallHere → CallHere) → IsLawful x m call → IsSilent call → P x (after w m (call (begin (node_at w.nodes m))))
    pub delivers : (number : ℕ) → P (line.Deliver number) (deliver_found service seed n w number (message_at w.messages number))
    pub flush : P line.Flush (only w effect.Nothing)
    pub is_up : (m : ℕ) → P (line.Start m) (only w (effect.IsUp m))
    pub reads : (m client variable : ℕ) → P (line.ReadVariable m client variable) (read_row w m client variable (read_at service (node_at w.nodes m) variable (get_or w.seen client 0)))

  -- it holds of the step of each line
  pub of_step : (P : ScheduleLine → Row → Type 0) → OfSteps P → (x : ScheduleLine) → P x (step service requests seed n w x)
  of_step P h (line.Elect m) = h.calls (line.Elect m) m _ (elects m)
  of_step P h (line.Submit m r) = h.calls (line.Submit m r) m _ (submits m r)
  of_step P h (line.Lane m lane) = h.calls (line.Lane m lane) m _ (turns m lane)
  of_step P h (line.Cut m) = h.calls (line.Cut m) m _ (cuts m)
  of_step P h (line.CutBelow m limits) = h.calls (line.CutBelow m limits) m _ (cuts_below m limits)
  of_step P h (line.Deliver number) = h.delivers number
  of_step P h line.Flush = h.flush
  of_step P h (line.Replay m) = h.calls (line.Replay m) m _ (replays m)
  of_step P h (line.Ask m other) = h.calls (line.Ask m other) m _ (asks m other)
  of_step P h (line.Stop m) = h.calls (line.Stop m) m _ (stops m)
  of_step P h (line.Start m) = by (node_at w.nodes m).up
    where
      by : (t : Bool) → P (line.Start m) (start_if sv t w m)
      by true = h.is_up m
      by false = h.silent (line.Start m) m (start sv m) (starts m) (silent_start m)
  of_step P h (line.Checkpoint m version) = h.calls (line.Checkpoint m version) m _ (checkpoints m version)
  of_step P h (line.DropKnown m) = h.calls (line.DropKnown m) m _ (drops m)
  of_step P h (line.KeepFail m kept) = h.silent (line.KeepFail m kept) m (arm m kept) (arms m kept) (silent_arm m kept)
  of_step P h (line.ReadVariable m client variable) = h.reads m client variable
