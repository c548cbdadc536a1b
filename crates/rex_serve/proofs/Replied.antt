-- Replies that processes of a cluster told stand in the traces of later leaders.
use Rattle.std.proofs.Common.{ltb-true, eqb-true, length, ◌-◌, ◌<◌, arith, ◌≡◌, ℕ, zero, suc, ℤ, ◌≤◌, Bool, true, false, List, [], ◌∷◌, Some, refl, sym, ◌∙◌, ap, subst}
use Rattle.std.specs.Prelude.{nat_lt, ◌==◌, if◌then◌else◌, slice_get}
use Rattle.std.proofs.lemmas.Bool.{false≢true}
use Rattle.std.proofs.lemmas.List.Elements.{All-nil}
use Rattle.rex_ballot.specs.Limits.{most_nodes}
use Rattle.rex_syntax.specs.declared.service.Declarations.{Declarations}
use Rattle.rex_syntax.specs.Service.{IsService}
use Rattle.rex_syntax.specs.Check.{IsChecked}
use Rattle.rex_schedule.specs.Fits.{RequestFits}
use Rattle.rex_state.specs.Value.{StateValue}
use Rattle.rex_report.specs.declared.effect.Effect.{Effect}
use Rattle.rex_report.specs.declared.effect.Effect.TheVariants as effect
use Rattle.rex_cluster.specs.Records.{known}
use Rattle.rex_cluster.specs.Quorum.{IsNode}
use Rattle.rex_cluster.specs.Node.{Service, is_active, own_ballot}
use Rattle.rex_cluster.specs.Values.{Value, service_of, trace_of, values_fit}
use Rattle.rex_cluster.specs.Lanes.{Here, node_trace}
use Rattle.rex_cluster.specs.Releases.{Moment, IsAmong, IsLeader, IsReleased}
use Rattle.rex_cluster.specs.Stands.{Stands}
use Rattle.rex_cluster.specs.World.{World, node_at, logs, beginning as world_beginning}
use Rattle.rex_cluster.specs.Agreed.{agreed, known_at, longest}
use Rattle.rex_cluster.proofs.Grow.{grows_trans}
use Rattle.rex_cluster.proofs.Replies.{StandsIn}
use Rattle.rex_safety.proofs.Moments.{AreMoments, IsTrue, moments_agreed, moments_stand}
use Rattle.rex_safety.proofs.Worlds.{GoesOnTo, IsWorld, row_same}
use Rattle.rex_node.specs.declared.step.Step.{Step}
use Rattle.rex_node.specs.Parts.{here_of}
use Rattle.rex_processes.specs.Processes.{Happening, AreHonest, after_happenings, happens}
use Rattle.rex_processes.proofs.Happenings.{happens_ok, processes_ok}
use Rattle.rex_log.specs.Messages.{message_in}
use Rattle.rex_processes.specs.Early as model
use Rattle.rex_processes.specs.Early.{early_replies}
use Rattle.rex_processes.proofs.EarlyReplies.{early_stand}
use Rattle.rex_process.specs.Process.{ProcessValue, here}
use Rattle.rex_serve.specs.Answering.{asked_of}
use Rattle.rex_serve.specs.Standing.{IsNodeOf, each_at, step_to}
use Rattle.rex_serve.specs.Cluster.{Member, Cluster, Transition, Instant, AllMayHappen, AnswersSo, MayHappen, beginning, goes_on, instants, step_at}
use Rattle.rex_serve.specs.Cluster.Member.{Runs}
use Rattle.rex_serve.specs.Cluster.Transition.{ComesUp, Answers, Flushes, BreaksOff, Ends}
use Rattle.rex_serve.specs.Early.{EarlyRepliesStand}
use Rattle.rex_serve.specs.Laws.{ClusterStands, IsMember, MemberStands, RepliesStand, RepliesStay, known_in}
use Rattle.rex_serve.proofs.Clusters.{Follows, Steps, begins, stands_then, step_of_cluster}
use Rattle.rex_serve.proofs.Known.{knows}
use Rattle.rex_serve.proofs.Telling.{answered_true}
use Rattle.rex_serve.proofs.There.{all_there}

-- of some nodes one knows the longest list
longest_is : (x : Here) (xs : List Here) → (m : ℕ) × IsNode (suc (length xs)) m × (longest (x ∷ xs) ≡ known (node_at (x ∷ xs) m).log)
longest_is x [] = by (nat_lt (length (known x.log)) 0) refl
  where
    by : (t : Bool) → nat_lt (length (known x.log)) 0 ≡ t → (m : ℕ) × IsNode 1 m × ((if t then [] else known x.log) ≡ known (node_at (x ∷ []) m).log)
    by true e = let less = ltb-true (length (known x.log)) 0 e in absurd (omega arith)
    by false e = (1, (omega arith, omega arith), refl)
longest_is x (y ∷ ys) = by (nat_lt (length (known x.log)) (length (longest (y ∷ ys)))) (longest_is y ys)
  where
    by : (t : Bool) → (m : ℕ) × IsNode (suc (length ys)) m × (longest (y ∷ ys) ≡ known (node_at (y ∷ ys) m).log)
        → (m : ℕ) × IsNode (suc (suc (length ys))) m × ((if t then longest (y ∷ ys) else known x.log) ≡ known (node_at (x ∷ y ∷ ys) m).log)
    by false r = (1, (omega arith, omega arith), refl)
    by true r = (
      suc r.0,
      (omega arith, omega (arith, r.1.1)),
      r.2 ∙ sym (further r.0 r.1.0),
    )
      where
        -- the node of the next number among one more
        further : (m : ℕ) → 0 < m → known (node_at (x ∷ y ∷ ys) (suc m)).log ≡ known (node_at (y ∷ ys) m).log
        further m some = go (suc m == 1) refl
          where
            go : (t : Bool) → (suc m == 1) ≡ t → known (if t then x else node_at (y ∷ ys) (suc m - 1)).log ≡ known (node_at (y ∷ ys) m).log
            go true e = let same = eqb-true (suc m) 1 e in absurd (omega arith)
            go false e = let less : suc m - 1 ≡ m = omega arith in ap (λ (k : ℕ). known (node_at (y ∷ ys) k).log) less

-- so one of the nodes knows the agreed list
agreed_is : (n : ℕ) (w : World) → length w.nodes ≡ n → 0 < n → (m : ℕ) × IsNode n m × (agreed w ≡ known_at w m)
agreed_is n w many some = by w.nodes many
  where
    by : (xs : List Here) → length xs ≡ n → (m : ℕ) × IsNode n m × (longest xs ≡ known (node_at xs m).log)
    by [] e = absurd (omega (arith, e, some))
    by (x ∷ xs) e = let r = longest_is x xs in (r.0, subst (λ (k : ℕ). IsNode k r.0) e r.1, r.2)

-- an active node is its process' own
active_is_own : (own x : Here) → IsNodeOf own x → is_active x.role ≡ true → own.up ≡ true
active_is_own own x h active = by own.up refl
  where
    by : (t : Bool) → own.up ≡ t → own.up ≡ true
    by true u = u
    by false u = absurd (false≢true (ap (λ (y : Here). is_active y.role) (sym (h.down u)) ∙ active))

module _ {K : Type 0} (records : K → List (List ℕ)) (faults : K → ℕ) (service : Declarations) (seed n : ℕ) (few : n ≤ most_nodes) (good : IsService service) (checked : IsChecked service) where
  abbrev sv : Service Value StateValue
  sv = service_of service seed

  -- happenings keep the invariant
  all_ok : (w : World) (xs : List (ℕ × Happening)) → AreHonest service seed n w xs → IsWorld n sv w → GoesOnTo n sv w (after_happenings service seed n w xs)
  all_ok w [] h ok = row_same n sv w ok
  all_ok w (x ∷ xs) h ok =
      let first = happens_ok service seed n few w x.0 x.1 h.0 ok in
      let rest = all_ok (happens service seed n w x.0 x.1).world xs h.1 first.0 in
      (rest.0, grows_trans first.1 rest.1)

  -- ---- what one of them tells

  module _ (c : Cluster K) (w : World) (s : ClusterStands records faults service seed n c w) (m : ℕ) (min : IsNode n m) where
    answer_true : (p q : ProcessValue K) (frame : List ℕ) (step : Step) → c.members m ≡ Runs p → AnswersSo records faults c.told p q frame step
        → (g : Steps records faults service seed n c w m (Answers frame q step))
        → IsTrue service good checked n m (after_happenings service seed n w (each_at m g.happened)) step.effects
    answer_true p q frame step runs h g = record { each = each }
      where
        member : IsMember service seed n m p
        member = (subst (λ (x : Member K). MemberStands records faults service seed n m x (node_at w.nodes m)) runs (s.each m min)).0

        v : World
        v = after_happenings service seed n w (each_at m g.happened)

        told : Step
        told = step_to records faults p q frame h.out h.answers

        each : (k i : ℕ) (x : ℤ) → IsAmong (effect.Released k i x) step.effects
            → IsNode n m × (is_active (node_at (after_happenings service seed n w (each_at m g.happened)).nodes m).role ≡ true)
            × StandsIn service good checked (known_at (after_happenings service seed n w (each_at m g.happened)) m) k i x
        each k i x among =
            let t = answered_true records faults p q h.up (subst IsService (sym member.service_is) good) (subst IsChecked (sym member.service_is) checked) (asked_of p frame) h.answers.answer
            (all_there p.service p.node.id p.node.nodes frame) h.answers.answered k i x (subst (λ (y : Step). IsAmong (effect.Released k i x) y.effects) h.step_is among) in
            let there : node_at (after_happenings service seed n w (each_at m g.happened)).nodes m ≡ here records q = g.goes.reaches.own ∙ g.stands.1.up t.0 in
            let own : here_of records p.service [] q.node ≡ here records q = ap (λ (d : Declarations). here_of records d [] q.node) (sym h.answers.same.service) in (
              min,
              subst (λ (y : Here). is_active y.role ≡ true) (own ∙ sym there) t.1,
              subst (λ (y : Here). values_fit service (known y.log) ≡ true → Stands (trace_of (known y.log)) k i x) (own ∙ sym there)
                  (subst (λ (d : Declarations). values_fit d (known (here_of records p.service [] q.node).log) ≡ true → Stands (trace_of (known (here_of records p.service [] q.node).log)) k i x) member.service_is t.2),
            )

    quiet_true : (v : World) → IsTrue service good checked n m v []
    quiet_true v = record { each = λ k i x among. absurd among }

    transition_true : (t : Transition K) → MayHappen records faults service seed n c m t → (g : Steps records faults service seed n c w m t)
        → IsTrue service good checked n m (after_happenings service seed n w (each_at m g.happened)) (step_at t).effects
    transition_true (ComesUp keeper p) h g = quiet_true _
    transition_true (Answers frame q step) h g = answer_true h.0 q frame step h.1 h.2 g
    transition_true (Flushes q) h g = quiet_true _
    transition_true (BreaksOff frame q) h g = quiet_true _
    transition_true Ends h g = quiet_true _

  -- ---- moments

  -- the moment of the model that an instant is
  record IsMomentOf (ms : List Moment) (i : ℕ) (a : Instant K) : Type 0 where
    moment : Moment
    there : slice_get ms i ≡ Some moment
    node_is : moment.node ≡ a.member
    effects_are : moment.effects ≡ a.effects
    member_in : IsNode n a.member
    true_of : IsTrue service good checked n moment.node moment.world moment.effects
    stands : ClusterStands records faults service seed n a.cluster moment.world

  record HasMoments (w : World) (run : List (Instant K)) : Type 0 where
    ms : List Moment
    are : AreMoments service good checked [] (All-nil (RequestFits service)) seed n few (logs w) ms
    each : (i : ℕ) (a : Instant K) → slice_get run i ≡ Some a → IsMomentOf ms i a

  later_moment : (x : Moment) (ms : List Moment) (i : ℕ) (a : Instant K) → IsMomentOf ms i a → IsMomentOf (x ∷ ms) (suc i) a
  later_moment x ms i a h = record { moment = h.moment; there = h.there; node_is = h.node_is; effects_are = h.effects_are; member_in = h.member_in; true_of = h.true_of; stands = h.stands }

  has_moments : (ts : List (ℕ × Transition K)) (c : Cluster K) (w : World) → ClusterStands records faults service seed n c w → IsWorld n sv w
      → AllMayHappen records faults service seed n c ts
      → HasMoments w (instants records faults c ts)
  has_moments [] c w s ok h = record { ms = []; are = tt; each = λ i a e. absurd cc }
  has_moments (t ∷ ts) c w s ok h =
      let g : Steps records faults service seed n c w t.0 t.1 = step_of_cluster records faults service seed n c w s t.0 h.0 t.1 h.1 in
      let v : World = after_happenings service seed n w (each_at t.0 g.happened) in
      let then_stands : ClusterStands records faults service seed n (goes_on records faults c t.0 t.1) v = stands_then records faults service seed n c w s t.0 h.0 t.1 g in
      let goes : GoesOnTo n sv w v = all_ok w (each_at t.0 g.happened) g.goes.honest ok in
      let rest : HasMoments v (instants records faults (goes_on records faults c t.0 t.1) ts) = has_moments ts (goes_on records faults c t.0 t.1) v then_stands goes.0 h.2 in
      let is_true : IsTrue service good checked n t.0 v (step_at t.1).effects = transition_true c w s t.0 h.0 t.1 h.1 g in
      let now : Moment = record { line = 0; node = t.0; world = v; effects = (step_at t.1).effects } in
      let first : IsMomentOf (now ∷ rest.ms) 0 (record { member = t.0; effects = (step_at t.1).effects; cluster = goes_on records faults c t.0 t.1 }) =
      record { moment = now; there = refl; node_is = refl; effects_are = refl; member_in = h.0; true_of = is_true; stands = then_stands } in
      record {
        ms = now ∷ rest.ms;
        are = (record { ok = goes.0; grows = goes.1; true_of = is_true }, rest.are);
        each = each (now ∷ rest.ms) (instants records faults (goes_on records faults c t.0 t.1) ts) _ first (λ i a e. later_moment now rest.ms i a (rest.each i a e));
      }
    where
      each : (ms : List Moment) (run : List (Instant K)) (b : Instant K) → IsMomentOf ms 0 b
          → ((i : ℕ) (a : Instant K) → slice_get run i ≡ Some a → IsMomentOf ms (suc i) a)
          → (i : ℕ) (a : Instant K) → slice_get (b ∷ run) i ≡ Some a → IsMomentOf ms i a
      each ms run b first others zero a e = let same : b ≡ a = cc in subst (λ (x : Instant K). IsMomentOf ms 0 x) same first
      each ms run b first others (suc i) a e = others i a e

  -- ---- replies

  module _ (ts : List (ℕ × Transition K)) (h : AllMayHappen records faults service seed n beginning ts) where
    before : Follows records faults service seed n beginning (world_beginning n)
    before = begins records faults service seed n

    abbrev run : List (Instant K)
    run = instants records faults beginning ts

    all : HasMoments (after_happenings service seed n (world_beginning n) before.happened) run
    all = has_moments ts beginning (after_happenings service seed n (world_beginning n) before.happened) before.stands (processes_ok service seed n few before.happened before.honest) h

    pub cluster_replies_stand : RepliesStand records faults n run
    cluster_replies_stand i j release lead ei ej ballot client sequence value told m later p min runs leading is_later =
        subst (λ (y : Here). Stands (node_trace y) client sequence value) there
        (moments_stand service good checked [] (All-nil (RequestFits service)) seed n few (logs (after_happenings service seed n (world_beginning n) before.happened)) all.ms all.are i j mr.moment ml.moment mr.there ml.there
        ballot client sequence value released m later leader is_later)
      where
        mr : IsMomentOf all.ms i release
        mr = all.each i release ei

        ml : IsMomentOf all.ms j lead
        ml = all.each j lead ej

        -- the leader's node is its own
        there : node_at ml.moment.world.nodes m ≡ here records p
        there = (subst (λ (x : Member K). MemberStands records faults service seed n m x (node_at ml.moment.world.nodes m)) runs (ml.stands.each m min)).1.up leading.up

        leader : IsLeader ml.moment.world m later
        leader = record { lead = leading.lead; role = ap (λ (y : Here). y.role) there ∙ leading.role; active = leading.active; ballot_is = leading.ballot_is }

        among : IsAmong (effect.Released client sequence value) mr.moment.effects
        among = subst (λ (es : List Effect). IsAmong (effect.Released client sequence value) es) (sym mr.effects_are) told.among

        -- and that of the one that told the reply
        teller : IsNodeOf (here records told.process) (node_at mr.moment.world.nodes release.member)
        teller = (subst (λ (x : Member K). MemberStands records faults service seed n release.member x (node_at mr.moment.world.nodes release.member)) told.runs (mr.stands.each release.member mr.member_in)).1

        active : is_active (node_at mr.moment.world.nodes release.member).role ≡ true
        active = subst (λ (k : ℕ). is_active (node_at mr.moment.world.nodes k).role ≡ true) mr.node_is (mr.true_of.each client sequence value among).1

        up : told.process.node.up ≡ true
        up = active_is_own (here records told.process) (node_at mr.moment.world.nodes release.member) teller active

        released : IsReleased mr.moment ballot client sequence value
        released = record {
          among = among;
          leader = ap (λ (k : ℕ). own_ballot (node_at mr.moment.world.nodes k).role) mr.node_is ∙ (ap (λ (y : Here). own_ballot y.role) (teller.up up) ∙ told.leader);
        }

    -- and in what some process knows from then on
    pub cluster_replies_stay : RepliesStay records faults service n run
    cluster_replies_stay i j release later ei ej le client sequence value among = (
      best.0,
      best.1,
      subst (λ (vs : List Value). Stands (trace_of vs) client sequence value) (best.2 ∙ knows records faults service seed n later.cluster ml.moment.world ml.stands best.0 best.1)
          (moments_agreed service good checked [] (All-nil (RequestFits service)) seed n few (logs (after_happenings service seed n (world_beginning n) before.happened)) all.ms all.are i j mr.moment ml.moment mr.there ml.there
          le client sequence value (subst (λ (es : List Effect). IsAmong (effect.Released client sequence value) es) (sym mr.effects_are) among)),
    )
      where
        mr : IsMomentOf all.ms i release
        mr = all.each i release ei

        ml : IsMomentOf all.ms j later
        ml = all.each j later ej

        best : (m : ℕ) × IsNode n m × (agreed ml.moment.world ≡ known_at ml.moment.world m)
        best = agreed_is n ml.moment.world ml.stands.many (omega (arith, mr.member_in.0, mr.member_in.1))

    -- ---- early replies

    pub cluster_early_stand : EarlyRepliesStand records faults service n run
    cluster_early_stand i j first later ei ej m p min client sequence value would = record {
      leaders = λ q above l qin runs leading less.
          let there : node_at ml.moment.world.nodes q ≡ here records l =
          (subst (λ (x : Member K). MemberStands records faults service seed n q x (node_at ml.moment.world.nodes q)) runs (ml.stands.each q qin)).1.up leading.up in
          subst (λ (y : Here). Stands (node_trace y) client sequence value) there
          (stands.leaders q above (record { lead = leading.lead; role = ap (λ (y : Here). y.role) there ∙ leading.role; active = leading.active; ballot_is = leading.ballot_is })
          (subst (λ (k : ℕ). k < above) (ap (λ (y : Here). own_ballot y.role) (sym own)) less));
      known = λ q qin more.
          let same : known_at ml.moment.world q ≡ known_in records faults service later.cluster q = knows records faults service seed n later.cluster ml.moment.world ml.stands q qin in
          subst (λ (vs : List Value). Stands (trace_of vs) client sequence value) same
          (stands.known q qin (subst (λ (vs : List Value). length (known_at mr.moment.world m) < length vs) (sym same)
          (subst (λ (y : Here). length (known y.log) < length (known_in records faults service later.cluster q)) (sym own) more)));
    }
      where
        mr : IsMomentOf all.ms i first
        mr = all.each i first ei

        ml : IsMomentOf all.ms j later
        ml = all.each j later ej

        member : IsMember service seed n m p × IsNodeOf (here records p) (node_at mr.moment.world.nodes m)
        member = subst (λ (x : Member K). MemberStands records faults service seed n m x (node_at mr.moment.world.nodes m)) would.runs (mr.stands.each m min)

        own : node_at mr.moment.world.nodes m ≡ here records p
        own = member.1.up would.up

        among : IsAmong (effect.Released client sequence value) (early_replies service n (node_at mr.moment.world.nodes m) (message_in [] would.message))
        among =
            subst (λ (y : Here). IsAmong (effect.Released client sequence value) (early_replies service n y (message_in [] would.message))) (sym own)
            (subst (λ (k : ℕ). IsAmong (effect.Released client sequence value) (early_replies service k (here records p) (message_in [] would.message))) member.0.nodes_are
            (subst (λ (d : Declarations). IsAmong (effect.Released client sequence value) (early_replies d p.node.nodes (here records p) (message_in [] would.message))) member.0.service_is would.among))

        stands : model.StandsFrom (own_ballot (node_at mr.moment.world.nodes m).role) (length (known_at mr.moment.world m)) n ml.moment client sequence value
        stands =
            early_stand service good checked (All-nil (RequestFits service)) seed n few (logs (after_happenings service seed n (world_beginning n) before.happened)) all.ms all.are i j mr.moment ml.moment mr.there ml.there
            m (message_in [] would.message) min (mr.stands.told would.message would.told) client sequence value among
