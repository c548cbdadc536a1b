-- What happens to processes keeps the cluster's invariant, and records only grow.
use Rattle.std.proofs.Common.{◌≡◌, ℕ, ◌≤◌, Bool, true, false, cond, ◌⊎◌, List, [], ◌∷◌, ◌++◌, length, Some, refl, sym, ◌∙◌, ap, subst, inl, inr, eq-eqb}
use Rattle.std.specs.Prelude.{ℤ}
use Rattle.std.specs.List.{All}
use Rattle.std.proofs.lemmas.Bool.{false≢true}
use Rattle.std.proofs.lemmas.List.Elements.{All-nil, All-cons}
use Rattle.rex_ballot.specs.Limits.{most_nodes}
use Rattle.rex_syntax.specs.declared.service.Declarations.{Declarations}
use Rattle.rex_syntax.specs.Service.{IsService}
use Rattle.rex_syntax.specs.Check.{IsChecked}
use Rattle.rex_reads.specs.declared.seen.Read.TheVariants as answer
use Rattle.rex_state.specs.Value.{StateValue}
use Rattle.rex_report.specs.declared.effect.Effect.TheVariants as effect
use Rattle.rex_schedule.specs.declared.scenario.ScheduleLine.TheVariants as line
use Rattle.rex_schedule.specs.Fits.{RequestFits}
use Rattle.rex_cluster.specs.Records.{known}
use Rattle.rex_cluster.specs.Quorum.{IsNode}
use Rattle.rex_cluster.specs.Node.{Service, is_active}
use Rattle.rex_cluster.specs.Calls.{begin, ask}
use Rattle.rex_cluster.specs.Values.{Value, service_of}
use Rattle.rex_cluster.specs.Lanes.{Here, CallHere, no_limits}
use Rattle.rex_cluster.specs.World.{World, node_at, put, logs, beginning, after, if_up, at_node}
use Rattle.rex_cluster.specs.Reading.{read_at}
use Rattle.rex_cluster.specs.Invariant.{Begins, Grows, KeepsAll}
use Rattle.rex_cluster.specs.Agreed.{known_at}
use Rattle.rex_cluster.proofs.Grow.{grows_trans}
use Rattle.rex_cluster.proofs.Calls.{good_with, elect_good, receive_good, ask_good, replay_good, checkpoint_good, drop_good, down_good}
use Rattle.rex_cluster.proofs.Saying.{Quiet, quiet_one, quiet_none, elect_says, receive_says, replay_says, checkpoint_says, drop_says}
use Rattle.rex_cluster.proofs.Replies.{StandsIn, replies_stand, SaysHere, quietly, submit_says, turn_says, cut_tells}
use Rattle.rex_safety.specs.Laws.{OnlyGrows, ReleasesStand, ReleasesAreAgreed}
use Rattle.rex_safety.specs.Seeing.{IsTold}
use Rattle.rex_safety.proofs.Nodes.{node_put, none_down}
use Rattle.rex_safety.proofs.Worlds.{roles, IsWorld, GoesOnTo, row_same, node_or_not, at_any_ok}
use Rattle.rex_safety.proofs.Steps.{submits_good, turns_good, cut_good, beginning_ok, step_ok}
use Rattle.rex_safety.proofs.Agreeing.{at_two, grows_only}
use Rattle.rex_safety.proofs.Seen.{told_enough}
use Rattle.rex_safety.proofs.Readings.{number_agreed, value_agreed}
use Rattle.rex_safety.proofs.Moments.{IsTrue, AreMoments, step_true, moments_stand, moments_agreed}
use Rattle.rex_processes.specs.Processes.{Task, Happening, call_for, armed_after, dead, happens, after_happenings, TaskIsHonest, IsHonest, AreHonest, moments_of_happenings, processes_after}
use Rattle.rex_processes.specs.Processes.Task.{Elect, Submit, Turn, Cut, Hear, Ask, Replay, Save, Forget}
use Rattle.rex_processes.specs.Processes.Happening.{Does, DiesDoing, Dies, ComesUp}
use Rattle.rex_processes.specs.Laws.{IsAgreedRead}

module _ (service : Declarations) (seed n : ℕ) (few : n ≤ most_nodes) where
  abbrev sv : Service Value StateValue
  sv = service_of service seed

  -- ---- one thing

  module _ (w : World) (m : ℕ) (min : IsNode n m) where
    abbrev G : CallHere → Type 0
    G d = KeepsAll n sv (logs w) (roles w) w.messages m d

    call_good : (task : Task) → TaskIsHonest service w task → (d : CallHere) → G d → G (call_for service seed n m task d)
    call_good Elect h d good = elect_good n sv (logs w) (roles w) w.messages m min few d good
    call_good (Submit r) h d good = submits_good service seed n (logs w) (roles w) w.messages m min (Some r) d good
    call_good (Turn lane clock) h d good = turns_good service seed n (logs w) (roles w) w.messages m min clock lane d good
    call_good Cut h d good = cut_good service seed n (logs w) (roles w) w.messages m min (no_limits service d.node) d good
    call_good (Hear x) h d good = receive_good n sv (logs w) (roles w) w.messages m min x.from x.content d good (good.old x h)
    call_good (Ask other) h d good = ask_good n sv (logs w) (roles w) w.messages m min other d good
    call_good Replay h d good = replay_good n sv (logs w) (roles w) w.messages m min d good
    call_good (Save version) h d good = checkpoint_good n sv (logs w) (roles w) w.messages m min version d good
    call_good Forget h d good = drop_good n sv (logs w) (roles w) w.messages m min d good

    armed_good : (before : ℕ) (kept : Bool) (d : CallHere) → G d → G (armed_after before kept d)
    armed_good before kept d good =
        good_with n sv (logs w) (roles w) w.messages m min d good (armed_after before kept d).node d.effects good.role (record { based = good.here.based; replayed = good.here.replayed })

    dead_good : (d : CallHere) → G d → G (dead d)
    dead_good d good = down_good n sv (logs w) (roles w) w.messages m min d good (dead d).node [] refl refl

  pub happens_ok : (w : World) (m : ℕ) (x : Happening) → IsHonest service w x → IsWorld n sv w → GoesOnTo n sv w (happens service seed n w m x).world
  happens_ok w m (Does task) h ok = at_any_ok n sv w ok m (call_for service seed n m task) (λ min. call_good w m min task h)
  happens_ok w m (DiesDoing before kept task) h ok =
      at_any_ok n sv w ok m (λ d. dead (call_for service seed n m task (armed_after before kept d)))
      (λ min d good. dead_good w m min _ (call_good w m min task h (armed_after before kept d) (armed_good w m min before kept d good)))
  happens_ok w m Dies h ok = at_any_ok n sv w ok m dead (λ min. dead_good w m min)
  happens_ok w m ComesUp h ok = step_ok service [] seed n few w (line.Start m) ok

  -- ---- one thing after another

  all_ok : (w : World) (xs : List (ℕ × Happening)) → AreHonest service seed n w xs → IsWorld n sv w → GoesOnTo n sv w (after_happenings service seed n w xs)
  all_ok w [] h ok = row_same n sv w ok
  all_ok w (x ∷ xs) h ok =
      let first = happens_ok w x.0 x.1 h.0 ok in
      let rest = all_ok (happens service seed n w x.0 x.1).world xs h.1 first.0 in
      (rest.0, grows_trans first.1 rest.1)

  pub processes_ok : (xs : List (ℕ × Happening)) → AreHonest service seed n (beginning n) xs → IsWorld n sv (processes_after service seed n xs)
  processes_ok xs h = (all_ok (beginning n) xs h (beginning_ok service [] seed n few)).0

  -- ---- at two moments

  after_both : (w : World) (xs more : List (ℕ × Happening)) → after_happenings service seed n w (xs ++ more) ≡ after_happenings service seed n (after_happenings service seed n w xs) more
  after_both w [] more = refl
  after_both w (x ∷ xs) more = after_both (happens service seed n w x.0 x.1).world xs more

  front_honest : (w : World) (xs more : List (ℕ × Happening)) → AreHonest service seed n w (xs ++ more) → AreHonest service seed n w xs
  front_honest w [] more h = tt
  front_honest w (x ∷ xs) more h = (h.0, front_honest (happens service seed n w x.0 x.1).world xs more h.1)

  rest_honest : (w : World) (xs more : List (ℕ × Happening)) → AreHonest service seed n w (xs ++ more) → AreHonest service seed n (after_happenings service seed n w xs) more
  rest_honest w [] more h = h
  rest_honest w (x ∷ xs) more h = rest_honest (happens service seed n w x.0 x.1).world xs more h.1

  module _ (xs more : List (ℕ × Happening)) (h : AreHonest service seed n (beginning n) (xs ++ more)) where
    records_grow : Grows (logs (processes_after service seed n xs)) (logs (processes_after service seed n (xs ++ more)))
    records_grow =
        subst (λ (v : World). Grows (logs (processes_after service seed n xs)) (logs v)) (sym (after_both (beginning n) xs more))
        (all_ok (processes_after service seed n xs) more (rest_honest (beginning n) xs more h) (processes_ok xs (front_honest (beginning n) xs more h))).1

    pub processes_grow : OnlyGrows service n (processes_after service seed n xs) (processes_after service seed n (xs ++ more))
    processes_grow = grows_only service seed n _ _ (processes_ok xs (front_honest (beginning n) xs more h)) (processes_ok (xs ++ more) h) records_grow

    pub processes_prefix : (a b : ℕ) → IsNode n a → IsNode n b
        → Begins (known_at (processes_after service seed n xs) a) (known_at (processes_after service seed n (xs ++ more)) b)
        ⊎ Begins (known_at (processes_after service seed n (xs ++ more)) b) (known_at (processes_after service seed n xs) a)
    processes_prefix = at_two n sv (processes_after service seed n xs) (processes_after service seed n (xs ++ more)) (processes_ok (xs ++ more) h) records_grow

-- ---- reads

-- one who has seen so many values is told as a client who has
pub reads_agreed : (service : Declarations) (seed n : ℕ) (w : World) → IsWorld n (service_of service seed) w → (m variable seen : ℕ) (value : ℤ) (number : ℕ)
    → read_at service (node_at w.nodes m) variable seen ≡ answer.Value value number → IsAgreedRead service w variable seen value number
reads_agreed service seed n w ok m variable seen value number told = record {
  forward = told_enough service as_client m 0 variable value number is_told;
  there = number_agreed service seed n as_client same m 0 variable value number is_told;
  shown = value_agreed service seed n as_client same m 0 variable value number is_told;
}
  where
    as_client : World
    as_client = record w { seen = seen ∷ [] }

    same : IsWorld n (service_of service seed) (record w { seen = seen ∷ [] })
    same = record { many = ok.many; cluster = ok.cluster; nodes = ok.nodes }

    is_told : IsTold service (record w { seen = seen ∷ [] }) m 0 variable value number
    is_told = record { answer = told }

-- ---- replies

module _ (service : Declarations) (good : IsService service) (checked : IsChecked service) (seed n : ℕ) (few : n ≤ most_nodes) where
  abbrev cluster : Service Value StateValue
  cluster = service_of service seed

  pub none : All (RequestFits service) []
  none = All-nil (RequestFits service)

  after_true : (w : World) → length w.nodes ≡ n → (m : ℕ) → IsNode n m → (d : CallHere) → SaysHere service good checked seed n m d → IsTrue service good checked n m (after w m d).world d.effects
  after_true w many m min d says = record {
    each = λ c s x h. let r = says.each c s x h in
        (min, subst (λ (y : Here). is_active y.role ≡ true) (sym place) r.0, subst (λ (y : Here). StandsIn service good checked (known y.log) c s x) (sym place) r.1);
  }
    where
      place : node_at (put w.nodes m d.node) m ≡ d.node
      place = node_put w.nodes m d.node m (subst (λ k. IsNode k m) (sym many) min) ∙ ap (λ t. cond t d.node (node_at w.nodes m)) (eq-eqb m m refl)

  -- what a call releases stands in what its node knows
  at_node_true : (w : World) → length w.nodes ≡ n → (m : ℕ) (call : CallHere → CallHere) → ((d : CallHere) → Quiet d.effects → SaysHere service good checked seed n m (call d)) → IsTrue service good checked n m (at_node w m call).world (at_node w m call).effects
  at_node_true w many m call says = go (node_at w.nodes m).up refl (node_or_not n m)
    where
      nothing : Quiet (effect.IsDown m ∷ [])
      nothing = quiet_one (effect.IsDown m) (λ c s x e. cc)

      go : (t : Bool) → (node_at w.nodes m).up ≡ t → IsNode n m ⊎ (IsNode n m → ⊥) → IsTrue service good checked n m (if_up t w m (call (begin (node_at w.nodes m)))).world (if_up t w m (call (begin (node_at w.nodes m)))).effects
      go false e h = record { each = λ c s x k. absurd (nothing c s x k) }
      go true e (inl min) = after_true w many m min (call (begin (node_at w.nodes m))) (says (begin (node_at w.nodes m)) quiet_none)
      go true e (inr none) = absurd (false≢true (sym (ap (λ (x : Here). x.up) (none_down w.nodes m (λ l. none (subst (λ k. IsNode k m) many l)))) ∙ e))

  call_says : (w : World) (m : ℕ) (task : Task) → TaskIsHonest service w task → (d : CallHere) → Quiet d.effects → SaysHere service good checked seed n m (call_for service seed n m task d)
  call_says w m Elect h d q = elect_says n cluster m (StandsIn service good checked) (replies_stand service good checked) d q
  call_says w m (Submit r) h d q = submit_says service good checked seed n m (r ∷ []) (All-cons (RequestFits service) r [] h none) 0 d q
  call_says w m (Turn lane clock) h d q = turn_says service good checked seed n m clock lane d q
  call_says w m Cut h d q = cut_tells service good checked seed n m (no_limits service d.node) d q
  call_says w m (Hear x) h d q = receive_says n cluster m (StandsIn service good checked) (replies_stand service good checked) x.from x.content d q
  call_says w m (Ask other) h d q = quietly service good checked seed n m (ask m other d) q
  call_says w m Replay h d q = replay_says n cluster m (StandsIn service good checked) (replies_stand service good checked) d q
  call_says w m (Save version) h d q = checkpoint_says n cluster m (StandsIn service good checked) (replies_stand service good checked) version d q
  call_says w m Forget h d q = drop_says n cluster m (StandsIn service good checked) (replies_stand service good checked) d q

  -- who died releases nothing
  dead_true : (w : World) → length w.nodes ≡ n → (m : ℕ) (call : CallHere → CallHere) → IsTrue service good checked n m (at_node w m (λ d. dead (call d))).world (at_node w m (λ d. dead (call d))).effects
  dead_true w many m call = at_node_true w many m (λ d. dead (call d)) (λ d q. quietly service good checked seed n m (dead (call d)) quiet_none)

  happens_true : (w : World) → length w.nodes ≡ n → (m : ℕ) (x : Happening) → IsHonest service w x → IsTrue service good checked n m (happens service seed n w m x).world (happens service seed n w m x).effects
  happens_true w many m (Does task) h = at_node_true w many m (call_for service seed n m task) (call_says w m task h)
  happens_true w many m (DiesDoing before kept task) h = dead_true w many m (λ d. call_for service seed n m task (armed_after before kept d))
  happens_true w many m Dies h = dead_true w many m (λ d. d)
  happens_true w many m ComesUp h = step_true service good checked seed n [] none w many (line.Start m)

  moments_are : (w : World) (xs : List (ℕ × Happening)) → AreHonest service seed n w xs → IsWorld n cluster w → AreMoments service good checked [] none seed n few (logs w) (moments_of_happenings service seed n w xs)
  moments_are w [] h ok = tt
  moments_are w (x ∷ xs) h ok =
      let r = happens_ok service seed n few w x.0 x.1 h.0 ok in (
        record { ok = r.0; grows = r.1; true_of = happens_true w ok.many x.0 x.1 h.0 },
        moments_are (happens service seed n w x.0 x.1).world xs h.1 r.0,
      )

  module _ (xs : List (ℕ × Happening)) (h : AreHonest service seed n (beginning n) xs) where
    pub are : AreMoments service good checked [] none seed n few (logs (beginning n)) (moments_of_happenings service seed n (beginning n) xs)
    are = moments_are (beginning n) xs h (beginning_ok service [] seed n few)

    pub processes_stand : ReleasesStand (moments_of_happenings service seed n (beginning n) xs)
    processes_stand = moments_stand service good checked [] none seed n few (logs (beginning n)) (moments_of_happenings service seed n (beginning n) xs) are

    pub processes_agreed : ReleasesAreAgreed (moments_of_happenings service seed n (beginning n) xs)
    processes_agreed = moments_agreed service good checked [] none seed n few (logs (beginning n)) (moments_of_happenings service seed n (beginning n) xs) are
