-- After any lines, and events that nodes are handed, candidacies are as they should be.
use Rattle.std.proofs.Common.{◌≡◌, ℕ, suc, ◌<◌, ◌≤◌, Bool, true, false, cond, ◌||◌, ◌⊎◌, List, [], ◌∷◌, ◌++◌, Option, Some, None, eqb, refl, sym, ◌∙◌, ap, subst, inl, inr, arith, eqb-true, eq-eqb}
use Rattle.std.proofs.lemmas.Bool.{false≢true}
use Rattle.rex_ballot.specs.Limits.{most_nodes}
use Rattle.rex_syntax.specs.declared.request.Request.{Request}
use Rattle.rex_syntax.specs.declared.service.Declarations.{Declarations}
use Rattle.rex_event.specs.declared.event.Event.{Event}
use Rattle.rex_state.specs.Value.{StateValue}
use Rattle.rex_schedule.specs.declared.scenario.ScheduleLine.{ScheduleLine}
use Rattle.rex_schedule.specs.declared.scenario.ScheduleLine.TheVariants as line
use Rattle.rex_cluster.specs.Records.{Proposal, accepted, from_on, HasAccepted}
use Rattle.rex_cluster.specs.Quorum.{IsNode, Logs, is_in}
use Rattle.rex_cluster.specs.Node.{Service, Content, Message, is_active}
use Rattle.rex_cluster.specs.Node.Content.{Prepare, Promise, Accept, Accepted as Voted, Chosen as Chose, Nack, Ask, Snapshot}
use Rattle.rex_cluster.specs.Calls.{begin, elect, receive, on_prepare}
use Rattle.rex_cluster.specs.Invariant.{IsIn, IsRightPromise, IsJustified}
use Rattle.rex_cluster.specs.Values.{Value, service_of}
use Rattle.rex_cluster.specs.Lanes.{Here, CallHere}
use Rattle.rex_cluster.specs.World.{World, node_at, logs, beginning, after, at_node, with_handed, deliver_found, message_at, step, steps_of, steps, row, after_lines}
use Rattle.rex_cluster.specs.Agreed.{world_after}
use Rattle.rex_safety.specs.Kept.{IsWorld}
use Rattle.rex_cluster.specs.Takes.{Doing, take_event, take, after_doings}
use Rattle.rex_cluster.specs.Takes.Doing.{Does, Takes}
use Rattle.rex_safety.specs.Doings.{world_after_doings}
use Rattle.rex_cluster.proofs.Lists.{in_cases, is_in_push, from_on_late, accepted_covers, from_on_covers, in_left, in_right}
use Rattle.rex_safety.proofs.LineCalls.{active_cast}
use Rattle.rex_safety.proofs.Lawful.{IsOther, of_step}
use Rattle.rex_safety.proofs.Nodes.{node_put, IsFresh, fresh_at}
use Rattle.rex_safety.proofs.Worlds.{GoesOnTo, message_in}
use Rattle.rex_safety.proofs.Steps.{step_ok, row_ok, beginning_ok}
use Rattle.rex_safety.proofs.Doings.{does_ok}
use Rattle.rex_safety.proofs.Candidacies.{RoleHas, IsPlain, Cast, Brings, IsGiven, Answers, receive_cast, prepare_answers}
use Rattle.rex_safety.proofs.Asking.{CoversFrom, AreLater, OwnFrom, VotesCover, IsMeant, Candidacies, HasCandidacies, P, Q, plain, old_message, after_cand, begun, cast_cand, at_cand, at_cast, elect_cand}

-- ---- a message that is handed over

module _ (service : Declarations) (seed n : ℕ) (few : n ≤ most_nodes) (w : World) (ok : IsWorld n (service_of service seed) w) (first : ℕ → ℕ) (cand : Candidacies n first w) where
  abbrev sv : Service Value StateValue
  sv = service_of service seed

  module _ (x : Message Value) (inside : IsIn x w.messages) (min : IsNode n x.to) where
    abbrev m : ℕ
    m = x.to

    -- a promise that is counted
    brings : (b : ℕ) (ps : List (Proposal Value)) → x.content ≡ Promise b ps → (e : CallHere) (goes : GoesOnTo n sv w (after w m e).world)
        → Brings (P n sv w ok first cand m e goes) (Q n sv w ok first cand m e goes) n sv m (plain n sv w ok first cand m e goes) x.from (node_at w.nodes m).role (Promise b ps)
    brings b ps c e goes l r same h = record { covers = λ q qin i. covers q qin (is_in q l.counted) refl (eqb q x.from) refl (sym (is_in_push q x.from l.counted) ∙ i); low = λ p i. low p (in_cases p l.reported ps i); later = λ p i. later p (in_cases p l.reported ps i); asked = h.asked }
      where
        L : Logs Value StateValue
        L = logs (after w m e).world

        heard_of : CoversFrom (logs (after w m e).world) (first b) b ps x.from × AreLater (first b) ps
        heard_of = subst (IsMeant (logs (after w m e).world) first x.from) c (old_message n sv w ok first cand m e goes x inside)

        told : CoversFrom (logs (after w m e).world) (first b) b ps x.from
        told = heard_of.0

        real : IsRightPromise n (logs w) x.from b ps
        real = subst (IsJustified n (logs w) x.from) c (ok.cluster.messages x inside)

        covers : (q : ℕ) → IsNode n q → (t : Bool) → is_in q l.counted ≡ t → (u : Bool) → eqb q x.from ≡ u → t || u ≡ true → OwnFrom (logs (after w m e).world) (first l.ballot) l.ballot (l.reported ++ ps) q
        covers q qin true y u z i c j v lt lb a = let k = h.covers q qin y c j v lt lb a in record { it = k.it; inside = in_left k.it l.reported ps k.inside; at = k.at; above = k.above; below = k.below; own = k.own }
        covers q qin false y true z i c j v lt lb a =
            let from_is = eqb-true q x.from z in
            let k = told c j v (subst (λ k. first k < j) same lt) (subst (λ k. c < k) same lb) (subst (λ k. HasAccepted c j v (logs (after w m e).world k)) from_is a) in
            let r = real.real k.it k.inside in
            record {
              it = k.it;
              inside = in_right k.it l.reported ps k.inside;
              at = k.at;
              above = k.above;
              below = omega (arith, r.1, same);
              own = subst (λ q'. HasAccepted k.it.ballot k.it.instance k.it.value (logs (after w m e).world q')) (sym from_is) ((goes.1.at x.from).keeps k.it.ballot k.it.instance k.it.value r.0);
            }
        covers q qin false y false z i c j v lt lb a = absurd (false≢true i)

        later : (p : Proposal Value) → IsIn p l.reported ⊎ IsIn p ps → first l.ballot < p.instance
        later p (inl i) = h.later p i
        later p (inr i) = subst (λ k. first k < p.instance) (sym same) (heard_of.1 p i)

        low : (p : Proposal Value) → IsIn p l.reported ⊎ IsIn p ps → p.ballot ≤ l.ballot
        low p (inl i) = h.low p i
        low p (inr i) = let r = (real.real p i).1 in omega (arith, r, same)

    -- a prepare that is answered
    module _ (b i : ℕ) (c : x.content ≡ Prepare b i) (goes : GoesOnTo n sv w (after w m (on_prepare m x.from b i (begin (node_at w.nodes m)))).world) where
      abbrev e : CallHere
      e = on_prepare m x.from b i (begin (node_at w.nodes m))

      given_answers : Answers (P n sv w ok first cand m e goes) (Q n sv w ok first cand m e goes) n sv m (plain n sv w ok first cand m e goes) x.from b i (begin (node_at w.nodes m)) e
      given_answers = prepare_answers (P n sv w ok first cand m e goes) (Q n sv w ok first cand m e goes) n sv m (plain n sv w ok first cand m e goes) x.from b i (begin (node_at w.nodes m)) (begun n sv w ok first cand m e goes min)

      asked_from : i ≡ suc (first b)
      asked_from = (subst (IsMeant (logs w) first x.from) c (cand.messages x inside)).1

      there : logs (after w m e).world m ≡ e.node.log
      there = ap (λ (y : Here). y.log) (node_put w.nodes m e.node m (subst (λ k. IsNode k m) (sym ok.many) min)) ∙ ap (λ (t : Bool). (cond t e.node (node_at w.nodes m)).log) (eq-eqb m m refl)

      covers : (y : Message Value) → IsGiven (P n sv w ok first cand m e goes) (Q n sv w ok first cand m e goes) n sv m (plain n sv w ok first cand m e goes) x.from b i (begin (node_at w.nodes m)) e y
          → CoversFrom (logs (after w m e).world) (first b) b (from_on i (accepted (logs w m))) m
      covers y g c j v lt lb a =
          from_on_covers i (accepted (logs w m)) j c (omega (arith, asked_from, lt))
          (accepted_covers sv (logs w m) (ok.cluster.safe.sorted m min) c j v (omega (arith, g.young, asked_from, lt)) (g.accepts c j v (subst (HasAccepted c j v) there a)))

      sent : (y : Message Value) → Q n sv w ok first cand m e goes y ⊎ IsGiven (P n sv w ok first cand m e goes) (Q n sv w ok first cand m e goes) n sv m (plain n sv w ok first cand m e goes) x.from b i (begin (node_at w.nodes m)) e y
          → Q n sv w ok first cand m e goes y
      sent y (inl q) = q
      sent y (inr g) =
          subst (IsMeant (logs (after w m e).world) first y.from) (sym g.content_is)
          (subst (λ q. CoversFrom (logs (after w m e).world) (first b) b (from_on i (accepted (logs w m))) q) (sym g.from_is) (covers y g), λ p j. let k = from_on_late i p (accepted (logs w m)) j in omega (arith, k, asked_from))

      prepared : Candidacies n first (after w m e).world
      prepared = after_cand n sv w ok first cand m e goes (λ l. given_answers.role) (λ y k. sent y (given_answers.sends y k))

    -- any other message
    module _ (c : Content Value) (goes : GoesOnTo n sv w (after w m (receive n sv m x.from c (begin (node_at w.nodes m)))).world) where
      abbrev got : CallHere
      got = receive n sv m x.from c (begin (node_at w.nodes m))

      counted : Brings (P n sv w ok first cand m got goes) (Q n sv w ok first cand m got goes) n sv m (plain n sv w ok first cand m got goes) x.from (node_at w.nodes m).role c → HasCandidacies n (after w m got).world
      counted b = record {
        first = first;
        holds = cast_cand n sv w ok first cand m got goes
            (λ l. receive_cast (P n sv w ok first cand m got goes) (Q n sv w ok first cand m got goes) n sv m (plain n sv w ok first cand m got goes) x.from c (begin (node_at w.nodes m)) b (begun n sv w ok first cand m got goes l))
            (inr min);
      }

    pub received : (c : Content Value) → x.content ≡ c → (goes : GoesOnTo n sv w (after w m (receive n sv m x.from c (begin (node_at w.nodes m)))).world) → HasCandidacies n (after w m (receive n sv m x.from c (begin (node_at w.nodes m)))).world
    received (Prepare b i) c goes = record { first = first; holds = prepared b i c goes }
    received (Promise b ps) c goes = counted (Promise b ps) goes (brings b ps c (receive n sv m x.from (Promise b ps) (begin (node_at w.nodes m))) goes)
    received (Accept b i v) c goes = counted (Accept b i v) goes tt
    received (Voted b i) c goes = counted (Voted b i) goes tt
    received (Chose i v) c goes = counted (Chose i v) goes tt
    received (Nack b i) c goes = counted (Nack b i) goes tt
    received (Ask i) c goes = counted (Ask i) goes tt
    received (Snapshot values) c goes = counted (Snapshot values) goes tt

-- ---- steps

module _ (service : Declarations) (requests : List Request) (seed n : ℕ) (few : n ≤ most_nodes) where
  abbrev svc : Service Value StateValue
  svc = service_of service seed

  module _ (w : World) (ok : IsWorld n (service_of service seed) w) (has : HasCandidacies n w) where
    -- what every call of this kind keeps, whatever holds of votes and of what is sent
    abbrev Casts : ℕ → (CallHere → CallHere) → Type 1
    Casts m call =
        (P : ℕ → List ℕ → List (Proposal Value) → Type 0) (Q : Message Value → Type 0) (plain : (x : Message Value) → IsPlain x.content → Q x) (d : CallHere)
        → Cast P Q n svc m plain d → Cast P Q n svc m plain (call d)

    each : (m : ℕ) (call : CallHere → CallHere) → GoesOnTo n svc w (at_node w m call).world → Casts m call → HasCandidacies n (at_node w m call).world
    each m call goes k =
        at_cast n svc w ok has.first has.holds m call goes
        (λ g min. k (P n svc w ok has.first has.holds m (call (begin (node_at w.nodes m))) g) (Q n svc w ok has.first has.holds m (call (begin (node_at w.nodes m))) g) (plain n svc w ok has.first has.holds m (call (begin (node_at w.nodes m))) g)
        (begin (node_at w.nodes m)) (begun n svc w ok has.first has.holds m (call (begin (node_at w.nodes m))) g min))

    -- of one that is made also where a node is down
    any : (m : ℕ) (call : CallHere → CallHere) → GoesOnTo n svc w (after w m (call (begin (node_at w.nodes m)))).world → (call (begin (node_at w.nodes m))).sends ≡ [] → Casts m call → HasCandidacies n (after w m (call (begin (node_at w.nodes m)))).world
    any m call goes s k = record {
      first = has.first;
      holds = cast_cand n svc w ok has.first has.holds m (call (begin (node_at w.nodes m))) goes
          (λ min. k (P n svc w ok has.first has.holds m (call (begin (node_at w.nodes m))) goes) (Q n svc w ok has.first has.holds m (call (begin (node_at w.nodes m))) goes) (plain n svc w ok has.first has.holds m (call (begin (node_at w.nodes m))) goes)
          (begin (node_at w.nodes m)) (begun n svc w ok has.first has.holds m (call (begin (node_at w.nodes m))) goes min))
          (inl s);
    }

    -- the same world with other flags
    flagged : (handed : List Bool) → Candidacies n has.first (record w { handed = handed })
    flagged handed = record { messages = has.holds.messages; roles = has.holds.roles }

  deliver_cand : (w : World) (ok : IsWorld n (service_of service seed) w) (has : HasCandidacies n w) (number : ℕ) (o : Option (Message Value)) → message_at w.messages number ≡ o
      → GoesOnTo n svc w (deliver_found service seed n w number o).world → HasCandidacies n (deliver_found service seed n w number o).world
  deliver_cand w ok has number None e goes = has
  deliver_cand w ok has number (Some x) e goes =
      at_cand n svc flags flagged_ok has.first (flagged w ok has flags.handed) x.to (receive n svc x.to x.from x.content) (goes.0, goes.1)
      (λ g min. received service seed n few flags flagged_ok has.first (flagged w ok has flags.handed) x (message_in w.messages number x e) min x.content refl g)
    where
      flags : World
      flags = with_handed w number

      flagged_ok : IsWorld n (service_of service seed) (with_handed w number)
      flagged_ok = record { many = ok.many; cluster = ok.cluster; nodes = ok.nodes }

  others_cand : (w : World) → IsWorld n (service_of service seed) w → HasCandidacies n w → (x : ScheduleLine) → IsOther x → HasCandidacies n (step service requests seed n w x).world
  others_cand w ok has x o =
      of_step service requests seed n w (λ y r. IsOther y → GoesOnTo n svc w r.world → HasCandidacies n r.world)
      (record {
        calls = λ y m call k o goes. each w ok has m call goes (k.cast o);
        silent = λ y m call k s o goes. any w ok has m call goes (s.sends (node_at w.nodes m)) (k.cast o);
        is_up = λ m o goes. has;
        delivers = λ number o goes. deliver_cand w ok has number (message_at w.messages number) refl goes;
        flush = λ o goes. has;
        reads = λ m client variable o goes. record { first = has.first; holds = record { messages = has.holds.messages; roles = has.holds.roles } };
      }) x o (step_ok service requests seed n few w x ok)

  step_cand : (w : World) → IsWorld n (service_of service seed) w → HasCandidacies n w → (x : ScheduleLine) → HasCandidacies n (step service requests seed n w x).world
  step_cand w ok has (line.Elect m) =
      at_cand n svc w ok has.first has.holds m (elect n svc m) (step_ok service requests seed n few w (line.Elect m) ok) (λ g min. elect_cand n svc w ok has.first has.holds m min few g)
  step_cand w ok has x = others_cand w ok has x tt

  take_cand : (w : World) → IsWorld n (service_of service seed) w → HasCandidacies n w → (m : ℕ) (e : Event) → HasCandidacies n (take service w m e)
  take_cand w ok has m e =
      each w ok has m _ (does_ok service requests seed n few w (Takes m e) ok) (λ P Q plain d h. active_cast P Q service seed n m plain (is_active d.node.role) d (take_event service e d) h (record { role = h.role; log = tt; sends = h.sends }))

  steps_cand : (w : World) → IsWorld n (service_of service seed) w → HasCandidacies n w → (xs : List ScheduleLine) → HasCandidacies n (steps service requests seed n w xs).world
  steps_cand w ok has [] = has
  steps_cand w ok has (x ∷ xs) = steps_cand (step service requests seed n w x).world (step_ok service requests seed n few w x ok).0 (step_cand w ok has x) xs

  row_cand : (w : World) → IsWorld n (service_of service seed) w → HasCandidacies n w → (x : ScheduleLine) → HasCandidacies n (row service requests seed n w x).world
  row_cand w ok has x = let h = steps_cand w ok has (steps_of w x) in record { first = h.first; holds = record { messages = h.holds.messages; roles = h.holds.roles } }

  lines_cand : (w : World) → IsWorld n (service_of service seed) w → HasCandidacies n w → (xs : List ScheduleLine) → HasCandidacies n (after_lines service requests seed n w xs)
  lines_cand w ok has [] = has
  lines_cand w ok has (x ∷ xs) = lines_cand (row service requests seed n w x).world (row_ok service requests seed n few w x ok).0 (row_cand w ok has x) xs

  doings_cand : (w : World) → IsWorld n (service_of service seed) w → HasCandidacies n w → (xs : List Doing) → HasCandidacies n (after_doings service requests seed n w xs)
  doings_cand w ok has [] = has
  doings_cand w ok has (Does x ∷ xs) = doings_cand (row service requests seed n w x).world (does_ok service requests seed n few w (Does x) ok).0 (row_cand w ok has x) xs
  doings_cand w ok has (Takes m e ∷ xs) = doings_cand (take service w m e) (does_ok service requests seed n few w (Takes m e) ok).0 (take_cand w ok has m e) xs

  fresh_cand : (x : Here) → IsFresh x → RoleHas (VotesCover n (logs (beginning n)) (λ b. 0)) x.role
  fresh_cand x (inl e) = subst (λ (y : Here). RoleHas (VotesCover n (logs (beginning n)) (λ b. 0)) y.role) (sym e) tt
  fresh_cand x (inr e) = subst (λ (y : Here). RoleHas (VotesCover n (logs (beginning n)) (λ b. 0)) y.role) (sym e) tt

  begins_cand : HasCandidacies n (beginning n)
  begins_cand = record { first = λ b. 0; holds = record { messages = λ x i. absurd i; roles = λ q qin. fresh_cand (node_at (beginning n).nodes q) (fresh_at Value StateValue n q) } }

  pub reached_cand : (lines : List ScheduleLine) → HasCandidacies n (world_after service requests seed n lines)
  reached_cand lines = lines_cand (beginning n) (beginning_ok service requests seed n few) begins_cand lines

  pub doings_reached_cand : (doings : List Doing) → HasCandidacies n (world_after_doings service requests seed n doings)
  doings_reached_cand doings = doings_cand (beginning n) (beginning_ok service requests seed n few) begins_cand doings
