-- Plain records stay plain, and no state is told; and what of that holds of every run.
use Rattle.std.proofs.Common.{◌≡◌, ℕ, ◌<◌, ◌≤◌, Bool, true, false, cond, ◌⊎◌, List, [], ◌∷◌, length, eqb, refl, sym, ◌∙◌, ap, subst, inl, inr, arith, leb-true}
use Rattle.std.specs.Prelude.{take, nat_le, ◌==◌, nat_lt}
use Rattle.std.proofs.lemmas.Bool.{false≢true}
use Rattle.rex_ballot.specs.Limits.{most_nodes}
use Rattle.rex_syntax.specs.declared.service.Declarations.{Declarations}
use Rattle.rex_syntax.specs.declared.version.Version.TheVariants.{Two}
use Rattle.rex_state.specs.Value.{StateValue}
use Rattle.rex_report.specs.declared.effect.Effect.TheVariants as effect
use Rattle.rex_cluster.specs.Records.{Rec, promise, base, known, has_old_base, HasKnown}
use Rattle.rex_cluster.specs.Records.Rec.{Promised, Accepted, Known, Checkpoint, Dropped, Transferred}
use Rattle.rex_cluster.specs.Quorum.{IsNode, Logs, node_of}
use Rattle.rex_cluster.specs.Node.{Service, Content, Message, Role}
use Rattle.rex_cluster.specs.Node.Content.{Prepare, Promise, Accept, Accepted as Voted, Chosen as Chose, Nack, Ask, Snapshot}
use Rattle.rex_cluster.specs.Node.Role.{Follower, Leads}
use Rattle.rex_cluster.specs.Calls.{append, begin, receive, restart, start, say}
use Rattle.rex_cluster.specs.Values.{Value, service_of}
use Rattle.rex_cluster.specs.Lanes.{Here, CallHere}
use Rattle.rex_cluster.specs.World.{World, node_at, put, logs, beginning, after, if_up, at_node, start_if}
use Rattle.rex_cluster.specs.Invariant.{IsIn, IsRightRole, AreRecords}
use Rattle.rex_cluster.specs.Ranges.{ContentFits}
use Rattle.rex_cluster.specs.Telling.{TellsNoState, TellNoState}
use Rattle.rex_cluster.proofs.Calls.{above_owned}
use Rattle.rex_cluster.proofs.Lists.{in_cases}
use Rattle.rex_cluster.proofs.TellNone.{if_tells_none, append_tells_none, receive_tells_none}
use Rattle.rex_safety.proofs.Nodes.{node_put, put_none, none_down, IsFresh, fresh_at}
use Rattle.rex_safety.proofs.Worlds.{IsWorld, roles, node_or_not}
use Rattle.rex_safety.proofs.Steps.{beginning_ok}
use Rattle.rex_processes.specs.Processes.{Task, Happening, OfTask, call_for, armed_after, dead, happens, after_happenings, TaskIsHonest, IsHonest, AreHonest, processes_after}
use Rattle.rex_processes.specs.Processes.Task.{Elect, Submit, Turn, Cut, Hear, Ask as AskOther, Replay, Save, Forget}
use Rattle.rex_processes.specs.Processes.Happening.{Does, DiesDoing, Dies, ComesUp}
use Rattle.rex_processes.specs.Plain.{IsPlain, IsPlainTask, HearsNoState, HeardFits, ArePlain, IsStateless, HasAskersBallot}
use Rattle.rex_processes.proofs.Calling.{MaySend, OwnBallot, CanAnswer, CanDo, Keeps, call_keeps, plain_new, plain_holds}
use Rattle.rex_processes.proofs.Happenings.{happens_ok, processes_ok}

-- ---- one process: its records

-- where anything may be sent
any_role : (r : Role Value) → OwnBallot (λ b. Unit {0}) r
any_role Follower = tt
any_role (Leads l) = tt

any_answer : (m from : ℕ) (c : Content Value) → TellsNoState c → CanAnswer m (λ x. Unit {0}) from c
any_answer m from (Prepare b first) h = (λ ps. tt, λ p. tt, λ values e. tt)
any_answer m from (Accept b i v) h = (tt, λ p. tt, λ values e. tt)
any_answer m from (Ask first) h = λ values e. tt
any_answer m from (Snapshot values) h = absurd h
any_answer m from _ h = tt

any_task : (m : ℕ) (log : List (Rec Value StateValue)) (task : Task) → IsPlainTask task → HearsNoState task → CanDo m (λ b. Unit {0}) (λ x. Unit {0}) log task
any_task m log (Hear x) p h = any_answer m x.from x.content h
any_task m log (Save version) p h = absurd p
any_task m log _ p h = tt

pub plain_stays : (service : Declarations) (seed n m : ℕ) (task : Task) (d : CallHere) → IsPlainTask task → HearsNoState task → IsPlain d.node.log → IsPlain (call_for service seed n m task d).node.log
plain_stays service seed n m task d p h plain =
    (call_keeps service seed n m (λ b. Unit {0}) (λ x. Unit {0}) (record { prepare = λ to b first own l. tt; accept = λ to b i v own l. tt; chosen = λ to i v. tt; ask = λ to first l. tt })
    task d (any_task m d.node.log task p h) (record { plain = plain; role = any_role d.node.role; sends = λ x i. tt })).plain

pub plain_starts : (service : Declarations) (seed m : ℕ) (d : CallHere) → IsPlain d.node.log → start (service_of service seed) m d ≡ restart m d
plain_starts service seed m d plain = by (has_old_base d.node.log) (plain_new d.node.log plain)
  where
    by : (t : Bool) → t ≡ false → cond t (append d.node.armed m (Checkpoint Two (base d.node.log) ((service_of service seed).state (take (base d.node.log) (known d.node.log)))) (restart m d) (say (effect.Migrated m (base d.node.log)))) (restart m d) ≡ restart m d
    by true e = absurd (false≢true (sym e))
    by false e = refl

-- ---- one process: what it sends

-- who asks of an instance from 1 on asks of one that is held
none_below : (first : ℕ) → 0 < first → nat_le first 0 ≡ true → ⊥
none_below first l e = omega (arith, l, leb-true first 0 e)

none_told : (m from : ℕ) (c : Content Value) → ContentFits c → TellsNoState c → CanAnswer m (λ x. TellsNoState x.content) from c
none_told m from (Prepare b first) k h = (λ ps. tt, λ p. tt, λ values e. none_below first k.1.0 e)
none_told m from (Accept b i v) k h = (tt, λ p. tt, λ values e. none_below i k.1.0 e)
none_told m from (Ask first) k h = λ values e. none_below first k.0 e
none_told m from (Snapshot values) k h = absurd h
none_told m from _ k h = tt

each_of : (xs : List (Message Value)) → TellNoState xs → (x : Message Value) → IsIn x xs → TellsNoState x.content
each_of [] h x i = absurd i
each_of (y ∷ ys) h x (inl e) = subst (λ (z : Message Value). TellsNoState z.content) (sym e) h.0
each_of (y ∷ ys) h x (inr i) = each_of ys h.1 x i

all_of : (xs : List (Message Value)) → ((x : Message Value) → IsIn x xs → TellsNoState x.content) → TellNoState xs
all_of [] h = tt
all_of (y ∷ ys) h = (h y (inl refl), all_of ys (λ x i. h x (inr i)))

module _ (service : Declarations) (seed n m : ℕ) (d : CallHere) (plain : IsPlain d.node.log) (none : TellNoState d.sends) where
  kept_none : (task : Task) → CanDo m (λ b. Unit {0}) (λ x. TellsNoState x.content) d.node.log task → TellNoState (call_for service seed n m task d).sends
  kept_none task can =
      all_of (call_for service seed n m task d).sends
      (call_keeps service seed n m (λ b. Unit {0}) (λ x. TellsNoState x.content)
      (record { prepare = λ to b first own l. tt; accept = λ to b i v own l. tt; chosen = λ to i v. tt; ask = λ to first l. tt })
      task d can (record { plain = plain; role = any_role d.node.role; sends = each_of d.sends none })).sends

  heard_none : (from : ℕ) (c : Content Value) → ContentFits c → TellNoState (receive n (service_of service seed) m from c d).sends
  heard_none from (Snapshot values) k = receive_tells_none n (service_of service seed) m from (Snapshot values) tt d none
  heard_none from (Prepare b first) k = kept_none (Hear (record { from = from; to = m; content = Prepare b first })) (none_told m from (Prepare b first) k tt)
  heard_none from (Promise b ps) k = kept_none (Hear (record { from = from; to = m; content = Promise b ps })) tt
  heard_none from (Accept b i v) k = kept_none (Hear (record { from = from; to = m; content = Accept b i v })) (none_told m from (Accept b i v) k tt)
  heard_none from (Voted b i) k = kept_none (Hear (record { from = from; to = m; content = Voted b i })) tt
  heard_none from (Chose i v) k = kept_none (Hear (record { from = from; to = m; content = Chose i v })) tt
  heard_none from (Nack b p) k = kept_none (Hear (record { from = from; to = m; content = Nack b p })) tt
  heard_none from (Ask first) k = kept_none (Hear (record { from = from; to = m; content = Ask first })) (none_told m from (Ask first) k tt)

  pub plain_tells_none : (task : Task) → HeardFits task → TellNoState (call_for service seed n m task d).sends
  plain_tells_none (Hear x) k = heard_none x.from x.content k
  plain_tells_none (Save version) k =
      if_tells_none (d.node.replayed == base d.node.log) _ _ none (if_tells_none (nat_lt 0 (length d.node.work.live)) _ _ none
      (append_tells_none d.node.armed m (Checkpoint version d.node.replayed ((service_of service seed).state (take d.node.replayed (known d.node.log)))) d _ (λ b. none)))
  plain_tells_none Elect k = kept_none Elect tt
  plain_tells_none (Submit r) k = kept_none (Submit r) tt
  plain_tells_none (Turn lane clock) k = kept_none (Turn lane clock) tt
  plain_tells_none Cut k = kept_none Cut tt
  plain_tells_none (AskOther other) k = kept_none (AskOther other) tt
  plain_tells_none Replay k = kept_none Replay tt
  plain_tells_none Forget k = kept_none Forget tt

-- records give values to instances from 1 on
known_from_one : (sv : Service Value StateValue) (log : List (Rec Value StateValue)) → AreRecords sv log → (i : ℕ) (v : Value) → HasKnown i v log → 0 < i
known_from_one sv [] r i v h = absurd h
known_from_one sv (Promised b ∷ log) r i v h = known_from_one sv log r i v h
known_from_one sv (Accepted b j w ∷ log) r i v h = known_from_one sv log r.1 i v h
known_from_one sv (Known j w ∷ log) r i v (inl e) = omega (arith, e.0, r.0)
known_from_one sv (Known j w ∷ log) r i v (inr h) = known_from_one sv log r.1 i v h
known_from_one sv (Checkpoint version k s ∷ log) r i v h = known_from_one sv log r.1 i v h
known_from_one sv (Dropped k ∷ log) r i v h = known_from_one sv log r.1 i v h
known_from_one sv (Transferred values s ∷ log) r i v h = known_from_one sv log r.1 i v h

-- ---- all processes

-- it asks of instances from 1 on
abbrev AsksFromOne : Content Value → Type 0
AsksFromOne (Prepare b first) = 0 < first
AsksFromOne (Accept b i v) = 0 < i
AsksFromOne (Ask first) = 0 < first
AsksFromOne _ = Unit {0}

-- what is kept of each message: it names its ballot's process, asks of instances from 1 on, and tells no state
abbrev pub IsSaid : Message Value → Type 0
IsSaid x = HasAskersBallot x.from x.to x.content × AsksFromOne x.content × TellsNoState x.content

may_say : (m : ℕ) → MaySend m (λ b. node_of b ≡ m) IsSaid
may_say m = record {
  prepare = λ to b first own l. (own, l, tt);
  accept = λ to b i v own l. (own, l, tt);
  chosen = λ to i v. (tt, tt, tt);
  ask = λ to first l. (tt, l, tt);
}

-- who hears such a message may answer it
may_answer : (m from to : ℕ) (c : Content Value) → HasAskersBallot from to c → AsksFromOne c → TellsNoState c → CanAnswer m IsSaid from c
may_answer m from to (Prepare b first) o l h = (λ ps. (o, tt, tt), λ p. (o, tt, tt), λ values e. absurd (none_below first l e))
may_answer m from to (Accept b i v) o l h = ((o, tt, tt), λ p. (o, tt, tt), λ values e. absurd (none_below i l e))
may_answer m from to (Ask first) o l h = λ values e. absurd (none_below first l e)
may_answer m from to (Snapshot values) o l h = absurd h
may_answer m from to _ o l h = tt

-- a node's ballot is its own
own_role : (n : ℕ) (L : Logs Value StateValue) (log : List (Rec Value StateValue)) (m : ℕ) (r : Role Value) → IsRightRole n L log m r → OwnBallot (λ b. node_of b ≡ m) r
own_role n L log m Follower h = tt
own_role n L log m (Leads l) h = h.owned

-- what holds of a node that is put, and of each that was there, holds of each
pub each_put : (P : Here → Type 0) (xs : List Here) (m : ℕ) (y : Here) → P y → ((q : ℕ) → P (node_at xs q)) → (q : ℕ) → P (node_at (put xs m y) q)
each_put P xs m y new old q = go (node_or_not (length xs) m)
  where
    place : (t : Bool) → P (cond t y (node_at xs q))
    place true = new
    place false = old q

    go : IsNode (length xs) m ⊎ (IsNode (length xs) m → ⊥) → P (node_at (put xs m y) q)
    go (inl min) = subst P (sym (node_put xs m y q min)) (place (eqb q m))
    go (inr none) = subst (λ (ys : List Here). P (node_at ys q)) (sym (put_none xs m y none)) (old q)

-- each node's records are plain, and each message is of those
pub record SaysPlainly (w : World) : Type 0 where
  pub records : (q : ℕ) → IsPlain (logs w q)
  pub messages : (x : Message Value) → IsIn x w.messages → IsSaid x

after_plainly : (w : World) (m : ℕ) (d : CallHere) → IsPlain d.node.log → ((x : Message Value) → IsIn x d.sends → IsSaid x) → SaysPlainly w → SaysPlainly (after w m d).world
after_plainly w m d plain sends h = record { records = each_put (λ (x : Here). IsPlain x.log) w.nodes m d.node plain h.records; messages = λ x i. go x (in_cases x w.messages d.sends i) }
  where
    go : (x : Message Value) → IsIn x w.messages ⊎ IsIn x d.sends → IsSaid x
    go x (inl i) = h.messages x i
    go x (inr i) = sends x i

-- the process of a number that is up is there
pub up_is_there : (xs : List Here) (m : ℕ) → (node_at xs m).up ≡ true → IsNode (length xs) m
up_is_there xs m e = go (node_or_not (length xs) m)
  where
    go : IsNode (length xs) m ⊎ (IsNode (length xs) m → ⊥) → IsNode (length xs) m
    go (inl h) = h
    go (inr none) = absurd (false≢true (sym (ap (λ (x : Here). x.up) (none_down xs m none)) ∙ e))

module _ (service : Declarations) (seed n : ℕ) (few : n ≤ most_nodes) where
  abbrev sv : Service Value StateValue
  sv = service_of service seed

  abbrev K : ℕ → CallHere → Type 0
  K m d = Keeps service seed n m (λ b. node_of b ≡ m) IsSaid (may_say m) d

  module _ (w : World) (ok : IsWorld n sv w) (h : SaysPlainly w) (m : ℕ) where
    can_do : IsNode n m → (task : Task) → IsPlainTask task → TaskIsHonest service w task → (log : List (Rec Value StateValue)) → CanDo m (λ b. node_of b ≡ m) IsSaid log task
    can_do min Elect p honest log = above_owned m (promise log) (omega (arith, min.1, few))
    can_do min (Hear x) p honest log = let s = h.messages x honest in may_answer m x.from x.to x.content s.0 s.1 s.2
    can_do min (Save version) p honest log = absurd p
    can_do min Forget p honest log = tt
    can_do min (Submit r) p honest log = tt
    can_do min (Turn lane clock) p honest log = tt
    can_do min Cut p honest log = tt
    can_do min (AskOther other) p honest log = tt
    can_do min Replay p honest log = tt

    begun : IsNode n m → K m (begin (node_at w.nodes m))
    begun min = record { plain = h.records m; role = own_role n (logs w) (logs w m) m (roles w m) (ok.cluster.roles m min); sends = λ x i. absurd i }

    here_plainly : (call : CallHere → CallHere) → (IsNode n m → (d : CallHere) → K m d → K m (call d)) → SaysPlainly (at_node w m call).world
    here_plainly call keeps = go (node_at w.nodes m).up refl
      where
        go : (t : Bool) → (node_at w.nodes m).up ≡ t → SaysPlainly (if_up t w m (call (begin (node_at w.nodes m)))).world
        go false e = record { records = h.records; messages = h.messages }
        go true e =
            let min : IsNode n m = subst (λ k. IsNode k m) ok.many (up_is_there w.nodes m e) in
            let k = keeps min (begin (node_at w.nodes m)) (begun min) in
            after_plainly w m (call (begin (node_at w.nodes m))) k.plain k.sends h

    dead_keeps : (d : CallHere) → K m d → K m (dead d)
    dead_keeps d k = record { plain = k.plain; role = tt; sends = k.sends }

    happens_plainly : (x : Happening) → IsHonest service w x → OfTask IsPlainTask x → SaysPlainly (happens service seed n w m x).world
    happens_plainly (Does task) honest p = here_plainly (call_for service seed n m task) (λ min d k. call_keeps service seed n m _ IsSaid (may_say m) task d (can_do min task p honest d.node.log) k)
    happens_plainly (DiesDoing before kept task) honest p =
        here_plainly (λ d. dead (call_for service seed n m task (armed_after before kept d)))
        (λ min d k. dead_keeps _ (call_keeps service seed n m _ IsSaid (may_say m) task (armed_after before kept d) (can_do min task p honest d.node.log) (record { plain = k.plain; role = k.role; sends = k.sends })))
    happens_plainly Dies honest p = here_plainly dead (λ min. dead_keeps)
    happens_plainly ComesUp honest p = go (node_at w.nodes m).up
      where
        go : (t : Bool) → SaysPlainly (start_if sv t w m).world
        go true = record { records = h.records; messages = h.messages }
        go false =
            subst (λ (d : CallHere). SaysPlainly (after w m d).world) (sym (plain_starts service seed m (begin (node_at w.nodes m)) (h.records m)))
            (after_plainly w m (restart m (begin (node_at w.nodes m))) (h.records m) (λ x i. absurd i) h)

  all_plainly : (w : World) (xs : List (ℕ × Happening)) → IsWorld n sv w → AreHonest service seed n w xs → ArePlain xs → SaysPlainly w → SaysPlainly (after_happenings service seed n w xs)
  all_plainly w [] ok honest p h = h
  all_plainly w (x ∷ xs) ok honest p h =
      all_plainly (happens service seed n w x.0 x.1).world xs (happens_ok service seed n few w x.0 x.1 honest.0 ok).0 honest.1 p.1 (happens_plainly w ok h x.0 x.1 honest.0 p.0)

  fresh_plain : (x : Here) → IsFresh x → IsPlain x.log
  fresh_plain x (inl e) = subst (λ (y : Here). IsPlain y.log) (sym e) tt
  fresh_plain x (inr e) = subst (λ (y : Here). IsPlain y.log) (sym e) tt

  module _ (xs : List (ℕ × Happening)) (honest : AreHonest service seed n (beginning n) xs) (p : ArePlain xs) where
    pub processes_plainly : SaysPlainly (processes_after service seed n xs)
    processes_plainly =
        all_plainly (beginning n) xs (beginning_ok service [] seed n few) honest p
        (record { records = λ q. fresh_plain (node_at (beginning n).nodes q) (fresh_at Value StateValue n q); messages = λ x i. absurd i })

    pub processes_stateless : IsStateless n (processes_after service seed n xs)
    processes_stateless = record {
      records = processes_plainly.records;
      hold = λ m min. plain_holds (logs (processes_after service seed n xs) m) (processes_plainly.records m) (known_from_one sv (logs (processes_after service seed n xs) m) ((processes_ok service seed n few xs honest).cluster.safe.sorted m min));
      messages = all_of (processes_after service seed n xs).messages (λ x i. (processes_plainly.messages x i).2);
    }
