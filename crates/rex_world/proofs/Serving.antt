-- What the nodes of a running world may be asked, and what comes of it.
use Rattle.rex_world.proofs.Common.{◌≡◌, ℕ, ◌+◌, ◌-◌, ◌^◌, ◌<◌, ◌≤◌, ℤ, inl, inr, Option, Some, None, Bool, true, false, List, [], ◌∷◌, length, refl, sym, ◌∙◌, ap, subst, arith, length-set, length-append, slice_index_or, slice_set, replicate, if◌then◌else◌, Vec, All, option_copied, All-nil, All-cons, most_nodes, Declarations, Request, Said, IsNode, RequestFits, StateValue, Effect, IsAmong, Failure, Service, IsIn, begin, receive, say, start, stop, Value, service_of, Here, CallHere, cut, submit_request, ModelWorld, after, at_node, deliver_found, if_up, node_at, with_handed, IsKept, step_kept, content_in, Step, AreLimits, counts_for, StaysNode, here_of, AreTold, IsTold, Serves, if_active, Told, World, IsSent, Member, AreKept, AreMembers, IsMember, StaysMember, disarmed, here_at, heres, records_at, records_of, nodes_of, world_of, IsRunning, AreReleased, ComesTo, HasCome, IsSettled, Starts, call_at, served, started, Row, StaysOwnMember, IsOwnMember}
use Rattle.std.proofs.Common.{pos}
use Rattle.rex_msg.specs.Spelling.{IsMessage}
use Rattle.rex_schedule.specs.declared.scenario.ScheduleLine.TheVariants as line
use Rattle.rex_report.specs.declared.effect.Effect.TheVariants as effect
use Rattle.rex_cluster.specs.Lanes.{turned}
use Rattle.rex_safety.proofs.Keeps.{kept_right}
use Rattle.rex_node.specs.Calls.{turn_at}
use Rattle.rex_steps.specs.declared.serving.Call.{Call}
use Rattle.rex_steps.specs.declared.serving.Call.TheVariants.{Elect, Receive, Submit, Lane, Cut, Replay, Ask, Checkpoint, DropKnown}
use Rattle.rex_steps.specs.Serving.{MayReceive, MayServe, call_for}
use Rattle.rex_world.specs.Calls.{CanBeTold, CanCall, ComesQuietly}
use Rattle.rex_world.proofs.Acted.{by_number, by_own, has_come, serves_stays, unnamed}
use Rattle.rex_world.proofs.Coming.{comes_after, served_row, started_row}
use Rattle.rex_world.proofs.Failing.{follows}
use Rattle.rex_world.proofs.Handed.{fits, hand_front, hand_runs, hand_told, sent_at, sent_within}
use Rattle.rex_world.proofs.Placed.{all_stay, at_new, here_is, many_are, member_is, others_are, records_grown, records_was}
use Rattle.rex_world.proofs.Ranges.{all_fit, is_behind}
use Rattle.rex_world.proofs.Settling.{settled, tells_step}
use Rattle.rex_world.proofs.Shown.{ask_releases, checkpoint_releases, cut_releases, drop_releases, elect_releases, lane_releases, receive_releases, replay_releases, start_releases, stop_releases, submit_releases}
use Rattle.rex_world.proofs.Stepping.{elect_runs, front_known, kept_next, starts_from}
use Rattle.rex_cluster.proofs.Unseen.{Goes, active_either, ask_either, checkpoint_either, cut_either, drop_either, elect_either, receive_either, replay_either}
use Rattle.rex_world.proofs.Working.{can_be_cut, room}
use Rattle.rex_cluster.specs.World.{start_if}

-- a step that sends nothing tells no state
none_told : (service : Declarations) (past : List Value) {sends : List Said} → sends ≡ [] → AreTold service past sends
none_told service past e = subst (AreTold service past) (sym e) (All-nil (λ m. IsTold service past m.content))

-- ---- a message that is handed over, without its flag

module _ (service : Declarations) (seed n : ℕ) (w : ModelWorld) (number m : ℕ) (d : CallHere) where
  -- flags don't matter for what is kept
  unmarked : (t : Bool) → IsKept service seed n (if_up t (with_handed w number) m d).world → IsKept service seed n (if_up t w m d).world
  unmarked true k = record {
    world = record { many = k.world.many; cluster = k.world.cluster; nodes = k.world.nodes };
    acting = k.acting;
    numbers = record { nodes = k.numbers.nodes; messages = k.numbers.messages };
    handed =
        length-append w.handed (replicate (length d.sends) false)
        ∙ ap (λ j. j + length (replicate (length d.sends) false)) (sym (length-set w.handed (number - 1) true))
        ∙ sym (length-append (slice_set w.handed (number - 1) true) (replicate (length d.sends) false)) ∙ k.handed;
  }
  unmarked false k = record {
    world = record { many = k.world.many; cluster = k.world.cluster; nodes = k.world.nodes };
    acting = k.acting;
    numbers = record { nodes = k.numbers.nodes; messages = k.numbers.messages };
    handed = sym (length-set w.handed (number - 1) true) ∙ k.handed;
  }

-- which append of the node fails doesn't matter to which call of the model it is
counts_same : (service : Declarations) (y : Here) (limits : Option (List ℕ)) → counts_for service (disarmed y) limits ≡ counts_for service y limits
counts_same service y None = refl
counts_same service y (Some limits) = refl

unarmed_call : (service : Declarations) (past : List Value) (seed nodes id : ℕ) (y : Here) (call : Call) → call_for service past seed nodes id (disarmed y) call ≡ call_for service past seed nodes id y call
unarmed_call service past seed nodes id y Elect = refl
unarmed_call service past seed nodes id y (Receive message) = refl
unarmed_call service past seed nodes id y (Submit request) = refl
unarmed_call service past seed nodes id y (Lane lane clock) = refl
unarmed_call service past seed nodes id y (Cut limits) = ap (cut service seed nodes id) (counts_same service y _)
unarmed_call service past seed nodes id y Replay = refl
unarmed_call service past seed nodes id y (Ask other) = refl
unarmed_call service past seed nodes id y (Checkpoint version) = refl
unarmed_call service past seed nodes id y DropKnown = refl

module _ {S : Type 0} (service : Declarations) (w : World S) (h : IsRunning service w) where
  abbrev model : ModelWorld
  model = world_of service w

  abbrev sv : Service Value StateValue
  sv = service_of service w.seed

  abbrev Kept : ModelWorld → Type 0
  Kept v = IsKept service w.seed (nodes_of w) v

  module _ (m : ℕ) (there : IsNode (nodes_of w) m) where
    abbrev x : Here
    x = node_at model.nodes m

    -- ---- what it may be asked

    may_receive : {message : Said} {number : ℕ} → IsSent w.net number message → message.to ≡ m → MayReceive service w.agreed w.seed (nodes_of w) m (disarmed x) message
    may_receive {message} {number} sent to =
        subst (λ k. MayReceive service w.agreed w.seed (nodes_of w) k (disarmed (node_at model.nodes k)) message) to
        (record {
          fits = fits service w h number message sent;
          spelling = sent.spelling;
          here = refl;
          front = hand_front service w h number message sent;
          tells = hand_told service w h number message sent;
          runs = hand_runs service w h number message sent;
        })

    pub can_serve : (call : Call) → CanCall service w m call → MayServe service w.agreed w.seed (nodes_of w) m (disarmed x) call
    can_serve Elect may = elect_runs h there
    can_serve (Receive message) may = may_receive may.0.1 may.1
    can_serve (Submit request) may = may
    can_serve (Lane lane clock) may = record { there = may.0; count = room service w h m there lane }
    can_serve (Cut limits) may = record { many = may; spelling = can_be_cut service w h m there _ may }
    can_serve Replay may = tt
    can_serve (Ask other) may = tt
    can_serve (Checkpoint version) may = may
    can_serve DropKnown may = front_known h there

    -- ---- what the model's call does

    -- it goes alike whatever the node's keeper is armed to, keeps the model's world, and releases replies only where the node is up and active after it
    pub record IsLawful (call : CallHere → CallHere) : Type 0 where
      pub goes : (f : Option Failure) → Goes f call
      pub kept : Kept (at_node model m call).world
      pub releases : (y : Here) → y.up ≡ true → AreReleased (call (begin y)).node (call (begin y)).effects

    receive_kept : {message : Said} {number : ℕ} → IsSent w.net number message → message.to ≡ m → Kept (at_node model m (receive (nodes_of w) sv m message.from (content_in w.agreed message.content))).world
    receive_kept {message} {number} sent to =
        subst (λ k. Kept (at_node model k (receive (nodes_of w) sv k message.from (content_in w.agreed message.content))).world) to
        (unmarked service w.seed _ model number _ _ _
        (subst (λ o. Kept (deliver_found service w.seed (nodes_of w) model number o).world) (sent_at w.agreed number sent)
        (kept_next h (line.Deliver number) (sent_within number sent).0)))

    submit_kept : {request : Request} → RequestFits service request → Kept (at_node model m (if_active (submit_request service (Some request)))).world
    submit_kept {request} fit =
        step_kept service h.service_is h.checked (request ∷ []) (All-cons (RequestFits service) request [] fit (All-nil (RequestFits service))) w.seed (nodes_of w) h.few model (line.Submit m 0) (there, omega arith) h.kept

    lane_kept : {lane : ℕ} {clock : ℤ} → lane < service.lanes → clock ≡ pos w.done → Kept (at_node model m (if_active (λ d. turned service lane (turn_at service d.node lane clock) d))).world
    lane_kept {lane} l e =
        subst (λ c. Kept (at_node model m (if_active (λ d. turned service lane (turn_at service d.node lane c) d))).world) (sym e) (kept_next h (line.Lane m lane) (there, l))

    cut_kept : (limits : Option (List ℕ)) → AreLimits service limits → Kept (at_node model m (cut service w.seed (nodes_of w) m (counts_for service x limits))).world
    cut_kept None l = kept_next h (line.Cut m) there
    cut_kept (Some limits) l = kept_next h (line.CutBelow m limits) (there, l)

    pub lawful : (call : Call) → CanCall service w m call → IsLawful (call_at service w m call)
    lawful Elect may = record {
      goes = λ f. elect_either f (nodes_of w) sv m;
      kept = kept_next h (line.Elect m) there;
      releases = elect_releases h.service_is h.checked w.seed (nodes_of w) m;
    }
    lawful (Receive message) may = record {
      goes = λ f. receive_either f (nodes_of w) sv m message.now.from (content_in w.agreed message.now.content);
      kept = receive_kept may.0.1 may.1;
      releases = receive_releases h.service_is h.checked w.seed (nodes_of w) m message.now.from (content_in w.agreed message.now.content);
    }
    lawful (Submit request) may = record {
      goes = λ f. active_either (submit_request service (Some request.now)) (λ d. refl) (λ d. refl);
      kept = submit_kept may;
      releases = submit_releases h.service_is h.checked w.seed (nodes_of w) m (request.now ∷ []) (All-cons (RequestFits service) request.now [] may (All-nil (RequestFits service))) 0;
    }
    lawful (Lane lane clock) may = record {
      goes = λ f. active_either (λ d. turned service lane (turn_at service d.node lane clock) d) (λ d. refl) (λ d. refl);
      kept = lane_kept may.0 may.1;
      releases = subst (λ c. (y : Here) → y.up ≡ true → AreReleased (if_active (λ d. turned service lane (turn_at service d.node lane c) d) (begin y)).node (if_active (λ d. turned service lane (turn_at service d.node lane c) d) (begin y)).effects) (sym may.1)
          (lane_releases h.service_is h.checked w.seed (nodes_of w) m w.done lane);
    }
    lawful (Cut limits) may = record {
      goes = λ f. cut_either f service w.seed (nodes_of w) m (counts_for service x (option_copied limits));
      kept = cut_kept (option_copied limits) may;
      releases = cut_releases h.service_is h.checked w.seed (nodes_of w) m (counts_for service x (option_copied limits));
    }
    lawful Replay may = record {
      goes = λ f. replay_either f m;
      kept = kept_next h (line.Replay m) there;
      releases = replay_releases h.service_is h.checked w.seed (nodes_of w) m;
    }
    lawful (Ask other) may = record {
      goes = λ f. ask_either f m other;
      kept = kept_next h (line.Ask m other) (there, may);
      releases = ask_releases h.service_is h.checked w.seed (nodes_of w) m other;
    }
    lawful (Checkpoint version) may = record {
      goes = λ f. checkpoint_either f version sv m;
      kept = kept_next h (line.Checkpoint m version) there;
      releases = checkpoint_releases h.service_is h.checked w.seed (nodes_of w) m version;
    }
    lawful DropKnown may = record {
      goes = λ f. drop_either f m;
      kept = kept_next h (line.DropKnown m) there;
      releases = drop_releases h.service_is h.checked w.seed (nodes_of w) m;
    }

    -- ---- a node that came to something

    -- a node has come to this of the model, in this row, and stays; it tells what is right, the model's world is kept, and replies are released by a node that is up and active
    pub record IsThrough (old new : Member) (d : CallHere) (r : Row) (step : Step) : Type 0 where
      pub come : HasCome w.agreed d (here_at service w.agreed new) step
      pub row : after model m d ≡ r
      pub stays : StaysMember service w.agreed w.seed (nodes_of w) m old new
      pub told : AreTold service w.agreed step.sends
      pub kept : Kept (after model m d).world
      pub released : AreReleased d.node d.effects

    module _ {old new : Member} (old_is : old ≡ slice_index_or w.nodes.items (m - 1) old) (nodes : Vec Member) (nodes_are : nodes.items ≡ slice_set w.nodes.items (m - 1) new) {d : CallHere} {r : Row} {step : Step} (c : IsThrough old new d r step) where
      many : length nodes.items ≡ nodes_of w
      many = many_are _ there new old_is nodes_are

      came_at : HasCome w.agreed d (node_at (heres service w.agreed nodes.items) m) step
      came_at = subst (λ y. HasCome w.agreed d y step) (sym (at_new _ there new old_is nodes_are service w.agreed)) c.come

      all_kept : AreKept service w.agreed w.seed (nodes_of w) w.done nodes.items
      all_kept = all_stay _ there new old_is nodes_are service w.agreed w.seed _ c.stays (record { members = h.members; within = h.within })

      -- the messages of the step have their numbers in their ranges
      sends_fit : All IsMessage step.sends
      sends_fit =
          all_fit h.few c.kept.numbers (kept_right service w.seed _ _ h.service_is h.checked c.kept).short w.agreed _ c.told
          (λ y i. is_behind _ d.sends y (subst (IsIn y) c.come.sends i))

      -- so it can be told
      pub can_be_told : CanBeTold service (record w { nodes = nodes }) m step
      can_be_told = record {
        sends = sends_fit;
        few = subst (λ k. k ≤ most_nodes) (sym many) h.few;
        shows = record {
          there = subst (λ k. IsNode k m) (sym many) there;
          members = subst (λ k. AreMembers service w.agreed w.seed k 1 nodes.items) (sym many) all_kept.members;
          clients = h.clients;
          releases = subst (λ y. AreReleased y step.effects) (sym came_at.node) (subst (AreReleased d.node) (sym c.come.effects) c.released);
        };
      }

      -- and once that is done the world has come to the model's row
      pub came : {count : ℕ} → count ≡ length (records_at w.nodes.items m) → {w2 : World S} {told told2 : Told} → IsSettled service m count (record w { nodes = nodes }) w2 told told2 step → ComesTo service w w2 told told2 r
      came count_is {w2} {told} {told2} t =
          subst (ComesTo service w w2 told told2) c.row
          (settled h there count_is t
          (comes_after h (tells_step h there count_is t) m came_at t.seen (others_are _ there new old_is nodes_are service w.agreed) many all_kept c.told c.kept)
          (others_are _ there new old_is nodes_are service w.agreed) many (records_grown _ there new old_is nodes_are c.stays.grown))

    -- ---- the node of the number

    -- a step that only says something releases no reply
    said_releases : (y : Here) (e : Effect) → ((client sequence : ℕ) (value : ℤ) → IsAmong (effect.Released client sequence value) (e ∷ []) → ⊥) → AreReleased y (e ∷ [])
    said_releases y e none = record { leads = λ c s v i. absurd (none c s v i) }

    -- a served call releases replies only where its node is up and active after it
    served_released : (call : CallHere → CallHere) → ((y : Here) → y.up ≡ true → AreReleased (call (begin y)).node (call (begin y)).effects) → AreReleased (served m call x).node (served m call x).effects
    served_released call releases = by x.up refl
      where
        by : (t : Bool) → x.up ≡ t → AreReleased (if t then call (begin x) else say (effect.IsDown m) (begin x)).node (if t then call (begin x) else say (effect.IsDown m) (begin x)).effects
        by true e = releases x e
        by false e = said_releases x _ (λ c s v. elim [ inl y ↦ absurd (cc) | inr y ↦ y ])

    -- so does one that is started
    started_released : AreReleased (started sv m x).node (started sv m x).effects
    started_released = by x.up refl
      where
        by : (t : Bool) → x.up ≡ t → AreReleased (if t then say (effect.IsUp m) (begin x) else start sv m (begin x)).node (if t then say (effect.IsUp m) (begin x) else start sv m (begin x)).effects
        by true e = said_releases x _ (λ c s v. elim [ inl y ↦ absurd (cc) | inr y ↦ y ])
        by false e = start_releases {service = service} h.service_is h.checked w.seed (nodes_of w) m x _

    module _ {old : Member} (old_is : old ≡ slice_index_or w.nodes.items (m - 1) old) where
      pub here_old : x ≡ here_at service w.agreed old
      here_old = here_is _ there service w.agreed old ∙ ap (here_at service w.agreed) (sym old_is)

      pub member_old : IsMember service w.agreed w.seed (nodes_of w) m old
      member_old = subst (IsMember service w.agreed w.seed (nodes_of w) m) (sym old_is) (member_is _ there service w.agreed old h.members)

      pub own_old : IsOwnMember service w.agreed old
      own_old = by_own member_old

      pub room_old : old.keeper.faults < 2 ^ 64 - 1
      room_old = let r = member_old.keeping.room in omega (arith, r)

      pub records_old : {count : ℕ} → count ≡ length (records_of old.keeper) → count ≡ length (records_at w.nodes.items m)
      records_old e = e ∙ ap length (ap (λ y. records_of y.keeper) old_is ∙ sym (records_was _ there old))

      -- ---- a call

      module _ (call : Call) (may : CanCall service w m call) where
        abbrev pub comes_to : CallHere
        comes_to = served m (call_at service w m call) x

        -- the model's call is that of the node's own numbers
        same_call : call_for service w.agreed old.seed old.nodes old.id (here_of records_of service w.agreed old) call ≡ call_at service w m call
        same_call =
            unarmed_call service w.agreed old.seed old.nodes old.id (here_at service w.agreed old) call
            ∙ ap (λ y. call_for service w.agreed old.seed old.nodes old.id y call) (sym here_old)
            ∙ ap (λ s. call_for service w.agreed s old.nodes old.id x call) member_old.seed_is
            ∙ ap (λ n. call_for service w.agreed w.seed n old.id x call) member_old.nodes_are
            ∙ ap (λ k. call_for service w.agreed w.seed (nodes_of w) k x call) member_old.id

        pub may_serve : MayServe service w.agreed old.seed old.nodes old.id (here_of records_of service w.agreed old) call
        may_serve =
            unnamed member_old (λ n s k. MayServe service w.agreed s n k (here_of records_of service w.agreed old) call)
            (subst (λ y. MayServe service w.agreed w.seed (nodes_of w) m (disarmed y) call) here_old (can_serve call may))

        goes_so : (f : Option Failure) → Goes f (call_for service w.agreed old.seed old.nodes old.id (here_of records_of service w.agreed old) call)
        goes_so = subst (λ k. (f : Option Failure) → Goes f k) (sym same_call) (lawful call may).goes

        module _ {new : Member} {step : Step} (serves : Serves records_of follows (λ k. k.faults) service w.agreed (call_for service w.agreed old.seed old.nodes old.id (here_of records_of service w.agreed old) call) old new step) where
          pub call_through : StaysNode records_of service w.agreed old new → IsThrough old new comes_to (at_node model m (call_at service w m call)) step
          call_through stays = record {
            row = served_row model m (call_at service w m call);
            come =
                subst (λ y. HasCome w.agreed (served m (call_at service w m call) y) (here_at service w.agreed new) step) (sym here_old)
                (subst (λ k. HasCome w.agreed (served k (call_at service w m call) (here_at service w.agreed old)) (here_at service w.agreed new) step) member_old.id
                (subst (λ c. HasCome w.agreed (served old.id c (here_at service w.agreed old)) (here_at service w.agreed new) step) same_call
                (has_come service w.agreed old new _ step goes_so serves)));
            stays = serves_stays member_old new _ step goes_so stays serves;
            told = serves.tells;
            kept = subst (λ r. Kept r.world) (sym (served_row model m (call_at service w m call))) (lawful call may).kept;
            released = served_released (call_at service w m call) (lawful call may).releases;
          }

      -- ---- a stop, and a start

      module _ {new : Member} {step : Step} where
        pub stop_through : ComesQuietly service w.agreed (served old.id (stop old.id)) old new step → IsThrough old new (served m (stop m) x) (at_node model m (stop m)) step
        stop_through c = record {
          row = served_row model m (stop m);
          come =
              subst (λ y. HasCome w.agreed (served m (stop m) y) (here_at service w.agreed new) step) (sym here_old)
              (subst (λ k. HasCome w.agreed (served k (stop k) (here_at service w.agreed old)) (here_at service w.agreed new) step) member_old.id c.came);
          stays = by_number member_old new c.stays;
          told = none_told service w.agreed c.quiet;
          kept = subst (λ r. Kept r.world) (sym (served_row model m (stop m))) (kept_next h (line.Stop m) there);
          released = served_released (stop m) (stop_releases h.service_is h.checked w.seed (nodes_of w) m);
        }

        pub start_through : ComesQuietly service w.agreed (started (service_of service old.seed) old.id) old new step → IsThrough old new (started sv m x) (start_if sv x.up model m) step
        start_through c = record {
          row = started_row sv model m;
          come =
              subst (λ y. HasCome w.agreed (started sv m y) (here_at service w.agreed new) step) (sym here_old)
              (subst (λ k. HasCome w.agreed (started sv k (here_at service w.agreed old)) (here_at service w.agreed new) step) member_old.id
              (subst (λ s. HasCome w.agreed (started (service_of service s) old.id (here_at service w.agreed old)) (here_at service w.agreed new) step) member_old.seed_is c.came));
          stays = by_number member_old new c.stays;
          told = none_told service w.agreed c.quiet;
          kept = subst (λ r. Kept r.world) (sym (started_row sv model m)) (kept_next h (line.Start m) there);
          released = started_released;
        }

      pub still_own : {new : Member} → StaysOwnMember service w.agreed old new → StaysMember service w.agreed w.seed (nodes_of w) m old new
      still_own {new} stays = by_number member_old new stays

      pub starts_old : Starts service w.agreed (here_at service w.agreed old)
      starts_old = subst (Starts service w.agreed) here_old (starts_from h there)
