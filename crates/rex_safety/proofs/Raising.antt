-- Rounds rise by at most one with each line, so that a run of no more lines than there are rounds never lacks one.
use Rattle.std.proofs.Common.{◌≡◌, ℕ, zero, suc, ◌+◌, ◌*◌, ◌<◌, ◌≤◌, Bool, true, false, cond, ◌⊎◌, List, [], ◌∷◌, ◌++◌, length, drop, Option, Some, None, eqb, refl, sym, subst, inl, inr, arith, lt_of_lt_of_le}
use Rattle.std.specs.Prelude.{slice_get, get_or, map}
use Rattle.std.proofs.lemmas.Option.{same_Some}
use Rattle.rex_ballot.specs.Limits.{most_nodes}
use Rattle.rex_syntax.specs.declared.request.Request.{Request}
use Rattle.rex_syntax.specs.declared.service.Declarations.{Declarations}
use Rattle.rex_event.specs.declared.event.Event.{Event}
use Rattle.rex_state.specs.Value.{StateValue}
use Rattle.rex_report.specs.declared.effect.Effect.{Effect}
use Rattle.rex_report.specs.declared.effect.Effect.TheVariants as effect
use Rattle.rex_schedule.specs.declared.scenario.ScheduleLine.{ScheduleLine}
use Rattle.rex_schedule.specs.declared.scenario.ScheduleLine.TheVariants as line
use Rattle.rex_cluster.specs.Records.{promise}
use Rattle.rex_cluster.specs.Quorum.{IsNode, round_of, ballot_above, node_of}
use Rattle.rex_cluster.specs.Node.{Service, Content, Message, is_active, own_ballot, kind_of}
use Rattle.rex_cluster.specs.Node.Content.{Prepare, Promise, Accept, Accepted as Voted, Chosen as Chose, Nack, Ask, Snapshot}
use Rattle.rex_cluster.specs.Calls.{begin, say, elect, receive}
use Rattle.rex_cluster.specs.Values.{Value, service_of}
use Rattle.rex_cluster.specs.Lanes.{Here, CallHere, active_only}
use Rattle.rex_cluster.specs.World.{World, Row, node_at, logs, beginning, after, only, at_node, read_row, first_told, with_handed, deliver_found, message_at, step, waiting_from, flush_steps, steps_of, steps, sent_from, row, after_lines, effects_of}
use Rattle.rex_reads.specs.declared.seen.Read.{Read as Told}
use Rattle.rex_reads.specs.declared.seen.Read.TheVariants as told
use Rattle.rex_cluster.specs.Reading.{read_at, read_effect}
use Rattle.rex_cluster.specs.Invariant.{IsJustified}
use Rattle.rex_cluster.specs.Agreed.{world_after}
use Rattle.rex_safety.specs.Kept.{IsWorld}
use Rattle.rex_cluster.specs.Releases.{Moment, step_moments}
use Rattle.rex_cluster.specs.Takes.{Doing, take_event, take, after_doings}
use Rattle.rex_cluster.specs.Takes.Doing.{Does, Takes}
use Rattle.rex_safety.specs.Doings.{world_after_doings, moments_of_doings}
use Rattle.rex_safety.specs.Rounds.{greatest_round, RoundsAreAtMost, NoneIsSpent, lines_among}
use Rattle.rex_safety.proofs.Doings.{does_ok}
use Rattle.rex_safety.proofs.LineCalls.{calm_replies, LowHere, active_low}
use Rattle.rex_safety.proofs.Lawful.{IsOther, of_step}
use Rattle.rex_safety.proofs.Nodes.{node_put, put_none, none_down, IsFresh, fresh_at}
use Rattle.rex_safety.proofs.Rounds.{Other, calm_none, calm_one, calm_both, next_low, elect_low, elect_either, ContentLow, receive_low}
use Rattle.rex_cluster.proofs.Step.{acc_below}
use Rattle.rex_safety.proofs.Steps.{step_ok, row_ok, beginning_ok}
use Rattle.rex_safety.proofs.Worlds.{message_in, node_or_not, at_either}

-- ---- nodes

-- a node's promise and own ballot are below the limit
pub record IsLow (limit : ℕ) (x : Here) : Type 0 where
  pub promised : promise x.log < limit
  pub own : own_ballot x.role < limit

-- those of each node are
abbrev pub AreLow : ℕ → ℕ → World → Type 0
AreLow n limit w = (q : ℕ) → IsNode n q → IsLow limit (node_at w.nodes q)

-- and nothing that was reported lacks a round
pub record StepLow (n limit : ℕ) (r : Row) : Type 0 where
  pub nodes : AreLow n limit r.world
  pub calm : NoneIsSpent r.effects

abbrev pub AreOther : List ScheduleLine → Type 0
AreOther [] = Unit {0}
AreOther (x ∷ xs) = IsOther x × AreOther xs

low_more : (n a b : ℕ) (w : World) → a ≤ b → AreLow n a w → AreLow n b w
low_more n a b w l h q qin = let x = h q qin in record { promised = lt_of_lt_of_le x.promised l; own = lt_of_lt_of_le x.own l }

module _ (service : Declarations) (requests : List Request) (seed n : ℕ) (few : n ≤ most_nodes) (limit : ℕ) (some : 0 < limit) where
  abbrev sv : Service Value StateValue
  sv = service_of service seed

  -- in a call of a node its promise and own ballot are below this limit, and nothing that it said lacks a round
  abbrev LowAt : ℕ → CallHere → Type 0
  LowAt = LowHere service seed n limit some

  -- ---- steps

  nodes_after : (w : World) → length w.nodes ≡ n → AreLow n limit w → (m : ℕ) → IsNode n m → (d : CallHere) → IsLow limit d.node → AreLow n limit (after w m d).world
  nodes_after w many h m min d k q qin = subst (IsLow limit) (sym (node_put w.nodes m d.node q (subst (λ k. IsNode k m) (sym many) min))) (place (eqb q m))
    where
      place : (t : Bool) → IsLow limit (cond t d.node (node_at w.nodes q))
      place true = k
      place false = h q qin

  after_low : (w : World) → length w.nodes ≡ n → AreLow n limit w → (m : ℕ) → IsNode n m → (d : CallHere) → LowAt m d → StepLow n limit (after w m d)
  after_low w many h m min d k = record { nodes = nodes_after w many h m min d (record { promised = k.promised; own = k.own }); calm = k.calm }

  begun : (w : World) → AreLow n limit w → (m : ℕ) → IsNode n m → LowAt m (begin (node_at w.nodes m))
  begun w h m min = let x = h m min in record { promised = x.promised; own = x.own; calm = calm_none }

  only_low : (w : World) → AreLow n limit w → (e : Effect) → Other e → StepLow n limit (only w e)
  only_low w h e o = record { nodes = h; calm = calm_one e o }

  at_low : (w : World) → length w.nodes ≡ n → AreLow n limit w → (m : ℕ) (call : CallHere → CallHere) → (IsNode n m → LowAt m (call (begin (node_at w.nodes m)))) → StepLow n limit (at_node w m call)
  at_low w many h m call k = at_either n w many m call (StepLow n limit) (only_low w h (effect.IsDown m) (λ m e. cc)) (λ min. after_low w many h m min (call (begin (node_at w.nodes m))) (k min))

  each_low : (w : World) → length w.nodes ≡ n → AreLow n limit w → (m : ℕ) (call : CallHere → CallHere) → ((d : CallHere) → LowAt m d → LowAt m (call d)) → StepLow n limit (at_node w m call)
  each_low w many h m call k = at_low w many h m call (λ min. k (begin (node_at w.nodes m)) (begun w h m min))

  told_low : (e : Effect) (r : Row) → Other e → StepLow n limit r → StepLow n limit (first_told e r)
  told_low e r o h = record { nodes = h.nodes; calm = calm_both (e ∷ []) r.effects (calm_one e o) h.calm }

  content_low : (w : World) → IsWorld n sv w → AreLow n limit w → (from m : ℕ) (c : Content Value) → IsJustified n (logs w) from c → ContentLow n sv m limit some (calm_replies service seed) c
  content_low w ok h from m (Prepare b first) j = let p = (h (node_of b) j.1).promised in omega (arith, j.2, p)
  content_low w ok h from m (Promise b ps) j = tt
  content_low w ok h from m (Accept b i v) j = let p = (h (node_of b) j.0).promised in let a = acc_below b i v (logs w (node_of b)) j.1 in omega (arith, a, p)
  content_low w ok h from m (Voted b i) j = tt
  content_low w ok h from m (Chose i v) j = tt
  content_low w ok h from m (Nack b p) j = tt
  content_low w ok h from m (Ask first) j = tt
  content_low w ok h from m (Snapshot values) j = tt

  deliver_low : (w : World) → IsWorld n sv w → AreLow n limit w → (number : ℕ) (o : Option (Message Value)) → message_at w.messages number ≡ o → StepLow n limit (deliver_found service seed n w number o)
  deliver_low w ok h number None e = only_low w h (effect.NoMessage number) (λ m e. cc)
  deliver_low w ok h number (Some x) e =
      told_low (effect.Delivered number (kind_of x.content) x.from x.to) (at_node (with_handed w number) x.to (receive n sv x.to x.from x.content)) (λ m e. cc)
      (at_low (with_handed w number) ok.many h x.to (receive n sv x.to x.from x.content)
      (λ min. receive_low n sv x.to limit some (calm_replies service seed) x.from x.content (content_low w ok h x.from x.to x.content (ok.cluster.messages x (message_in w.messages number x e))) (begin (node_at w.nodes x.to)) (begun w h x.to min)))

  -- a number of no node has none that could change
  none_low : (w : World) → length w.nodes ≡ n → AreLow n limit w → (m : ℕ) → (IsNode n m → ⊥) → (d : CallHere) → NoneIsSpent d.effects → StepLow n limit (after w m d)
  none_low w many h m none d c = record {
    nodes = λ q qin. subst (λ (xs : List Here). IsLow limit (node_at xs q)) (sym (put_none w.nodes m d.node (λ l. none (subst (λ k. IsNode k m) many l)))) (h q qin);
    calm = c;
  }

  -- a number of no node is that of one without records
  no_node : (w : World) → length w.nodes ≡ n → (m : ℕ) → (IsNode n m → ⊥) → LowAt m (begin (node_at w.nodes m))
  no_node w many m none =
      let e = none_down w.nodes m (λ l. none (subst (λ k. IsNode k m) many l)) in
      record {
        promised = subst (λ (x : Here). promise x.log < limit) (sym e) some;
        own = subst (λ (x : Here). own_ballot x.role < limit) (sym e) some;
        calm = calm_none;
      }

  any_low : (w : World) → length w.nodes ≡ n → AreLow n limit w → (m : ℕ) (call : CallHere → CallHere) → ((d : CallHere) → LowAt m d → LowAt m (call d)) → StepLow n limit (after w m (call (begin (node_at w.nodes m))))
  any_low w many h m call k = go (node_or_not n m)
    where
      go : IsNode n m ⊎ (IsNode n m → ⊥) → StepLow n limit (after w m (call (begin (node_at w.nodes m))))
      go (inl min) = after_low w many h m min (call (begin (node_at w.nodes m))) (k (begin (node_at w.nodes m)) (begun w h m min))
      go (inr none) = none_low w many h m none (call (begin (node_at w.nodes m))) (k (begin (node_at w.nodes m)) (no_node w many m none)).calm

  read_low : (w : World) → AreLow n limit w → (m client variable : ℕ) (a : Told) → StepLow n limit (read_row w m client variable a)
  read_low w h m client variable a = record { nodes = h; calm = calm_one (read_effect m client variable a) (other a) }
    where
      other : (a : Told) → Other (read_effect m client variable a)
      other told.Down k e = cc
      other told.Primary k e = cc
      other (told.Behind have seen) k e = cc
      other (told.Value value number) k e = cc

  pub step_low : (w : World) → IsWorld n sv w → AreLow n limit w → (x : ScheduleLine) → IsOther x → StepLow n limit (step service requests seed n w x)
  step_low w ok h =
      of_step service requests seed n w (λ y r. IsOther y → StepLow n limit r)
      (record {
        calls = λ y m call k o. each_low w ok.many h m call (k.low o limit some);
        silent = λ y m call k s o. any_low w ok.many h m call (k.low o limit some);
        is_up = λ m o. only_low w h (effect.IsUp m) (λ m e. cc);
        delivers = λ number o. deliver_low w ok h number (message_at w.messages number) refl;
        flush = λ o. only_low w h effect.Nothing (λ m e. cc);
        reads = λ m client variable o. read_low w h m client variable (read_at service (node_at w.nodes m) variable (get_or w.seen client 0));
      })

  take_low : (w : World) → IsWorld n sv w → AreLow n limit w → (m : ℕ) (e : Event) → StepLow n limit (at_node w m (λ d. active_only (is_active d.node.role) d (take_event service e d)))
  take_low w ok h m e = each_low w ok.many h m _ (λ d b. active_low service seed n limit some m (is_active d.node.role) d (take_event service e d) b (record { promised = b.promised; own = b.own; calm = b.calm }))

  -- an election whose ballot is below the limit
  abbrev pub CallsLow : World → ℕ → Type 0
  CallsLow w m = ballot_above m (promise (logs w m)) < limit

  elected_nodes : (w : World) → length w.nodes ≡ n → AreLow n limit w → (m : ℕ) → (IsNode n m → CallsLow w m) → AreLow n limit (at_node w m (elect n sv m)).world
  elected_nodes w many h m b =
      at_either n w many m (elect n sv m) (λ r. AreLow n limit r.world) h
      (λ min. nodes_after w many h m min (elect n sv m (begin (node_at w.nodes m))) (stood min (elect_either n sv m limit some (calm_replies service seed) (begin (node_at w.nodes m)))))
    where
      stood : (min : IsNode n m) → (round_of (ballot_above m (promise (logs w m))) ≤ greatest_round) ⊎ (elect n sv m (begin (node_at w.nodes m)) ≡ say (effect.Spent m) (begin (node_at w.nodes m))) → IsLow limit (elect n sv m (begin (node_at w.nodes m))).node
      stood min (inl r) = let k = elect_low n sv m limit some (calm_replies service seed) (begin (node_at w.nodes m)) (begun w h m min) (b min) r in record { promised = k.promised; own = k.own }
      stood min (inr e) = subst (λ (d : CallHere). IsLow limit d.node) (sym e) (h m min)

  elected_low : (w : World) → length w.nodes ≡ n → AreLow n limit w → (m : ℕ) → (IsNode n m → CallsLow w m) → (IsNode n m → round_of (ballot_above m (promise (logs w m))) ≤ greatest_round) → StepLow n limit (at_node w m (elect n sv m))
  elected_low w many h m b r = at_low w many h m (elect n sv m) (λ min. elect_low n sv m limit some (calm_replies service seed) (begin (node_at w.nodes m)) (begun w h m min) (b min) (r min))

  -- ---- lines but elections

  pub steps_low : (w : World) → IsWorld n sv w → AreLow n limit w → (xs : List ScheduleLine) → AreOther xs → StepLow n limit (steps service requests seed n w xs)
  steps_low w ok h [] o = record { nodes = h; calm = calm_none }
  steps_low w ok h (x ∷ xs) o =
      let first = step_low w ok h x o.0 in
      let rest = steps_low (step service requests seed n w x).world (step_ok service requests seed n few w x ok).0 first.nodes xs o.1 in
      record { nodes = rest.nodes; calm = calm_both (step service requests seed n w x).effects (steps service requests seed n (step service requests seed n w x).world xs).effects first.calm rest.calm }

-- ---- rounds

sent_calm : (number : ℕ) (xs : List (Message Value)) → NoneIsSpent (sent_from number xs)
sent_calm number [] m h = h
sent_calm number (x ∷ xs) m (inl h) = cc
sent_calm number (x ∷ xs) m (inr h) = sent_calm (suc number) xs m h

flush_other : (numbers : List ℕ) → AreOther (flush_steps numbers)
flush_other [] = (tt, tt)
flush_other (k ∷ ks) = (tt, delivers ks)
  where
    delivers : (numbers : List ℕ) → AreOther (map line.Deliver numbers)
    delivers [] = tt
    delivers (k ∷ ks) = (tt, delivers ks)

-- a line is an election, or none of its steps is
elects_or_not : (w : World) (x : ScheduleLine) → ((m : ℕ) × (x ≡ line.Elect m)) ⊎ AreOther (steps_of w x)
elects_or_not w (line.Elect m) = inl (m, refl)
elects_or_not w line.Flush = inr (flush_other (waiting_from 1 w.handed))
elects_or_not w _ = inr (tt, tt)

-- below the ballots of the rounds above this one
abbrev pub end_of : ℕ → ℕ
end_of round = 16 * suc round

-- what a step leaves where rounds are at most so many before it
pub record StepRises (n round : ℕ) (r : Row) : Type 0 where
  pub nodes : AreLow n (end_of (suc round)) r.world
  pub calm : suc round ≤ greatest_round → NoneIsSpent r.effects

module _ (service : Declarations) (requests : List Request) (seed n : ℕ) (few : n ≤ most_nodes) where
  abbrev here : Service Value StateValue
  here = service_of service seed

  some_round : (round : ℕ) → 0 < end_of round
  some_round round = omega arith

  one_more : (round : ℕ) → end_of round ≤ end_of (suc round)
  one_more round = omega arith

  rises : (round : ℕ) (r : Row) → StepLow n (end_of round) r → StepRises n round r
  rises round r h = record { nodes = low_more n (end_of round) (end_of (suc round)) r.world (one_more round) h.nodes; calm = λ l. h.calm }

  others_rise : (round : ℕ) (w : World) → IsWorld n here w → AreLow n (end_of round) w → (xs : List ScheduleLine) → AreOther xs → StepRises n round (steps service requests seed n w xs)
  others_rise round w ok h xs o = rises round (steps service requests seed n w xs) (steps_low service requests seed n few (end_of round) (some_round round) w ok h xs o)

  -- the ballot with which a node would ask to lead is of at most one round more
  next_round : (round : ℕ) (w : World) → AreLow n (end_of round) w → (m : ℕ) → IsNode n m → ballot_above m (promise (logs w m)) < end_of (suc round)
  next_round round w h m min = next_low m (promise (logs w m)) round (omega (arith, min.1, few)) (h m min).promised

  elect_rises : (round : ℕ) (w : World) → IsWorld n here w → AreLow n (end_of round) w → (m : ℕ) → StepRises n round (at_node w m (elect n here m))
  elect_rises round w ok h m = record {
    nodes = elected_nodes service requests seed n few (end_of (suc round)) (some_round (suc round)) w ok.many more m (next_round round w h m);
    calm = λ l. (elected_low service requests seed n few (end_of (suc round)) (some_round (suc round)) w ok.many more m (next_round round w h m)
        (λ min. let c = next_round round w h m min in omega (arith, c, l))).calm;
  }
    where
      more : AreLow n (end_of (suc round)) w
      more = low_more n (end_of round) (end_of (suc round)) w (one_more round) h

  -- the one step of an election
  elect_steps : (round : ℕ) (w : World) → IsWorld n here w → AreLow n (end_of round) w → (m : ℕ) → StepRises n round (steps service requests seed n w (line.Elect m ∷ []))
  elect_steps round w ok h m =
      let r = elect_rises round w ok h m in
      record { nodes = r.nodes; calm = λ l. calm_both (at_node w m (elect n here m)).effects [] (r.calm l) calm_none }

  steps_rise : (round : ℕ) (w : World) → IsWorld n here w → AreLow n (end_of round) w → (x : ScheduleLine) → StepRises n round (steps service requests seed n w (steps_of w x))
  steps_rise round w ok h x = go (elects_or_not w x)
    where
      go : ((m : ℕ) × (x ≡ line.Elect m)) ⊎ AreOther (steps_of w x) → StepRises n round (steps service requests seed n w (steps_of w x))
      go (inl e) = subst (λ y. StepRises n round (steps service requests seed n w (steps_of w y))) (sym e.1) (elect_steps round w ok h e.0)
      go (inr o) = others_rise round w ok h (steps_of w x) o

  row_rises : (round : ℕ) (w : World) → IsWorld n here w → AreLow n (end_of round) w → (x : ScheduleLine) → StepRises n round (row service requests seed n w x)
  row_rises round w ok h x =
      let r = steps_rise round w ok h x in
      record {
        nodes = r.nodes;
        calm = λ l. calm_both (steps service requests seed n w (steps_of w x)).effects (sent_from (suc (length w.messages)) (drop (length w.messages) (steps service requests seed n w (steps_of w x)).world.messages)) (r.calm l)
            (sent_calm (suc (length w.messages)) (drop (length w.messages) (steps service requests seed n w (steps_of w x)).world.messages));
      }

  lines_rise : (round : ℕ) (w : World) → IsWorld n here w → AreLow n (end_of round) w → (xs : List ScheduleLine) → AreLow n (end_of (round + length xs)) (after_lines service requests seed n w xs)
  lines_rise round w ok h [] = subst (λ k. AreLow n (end_of k) w) (omega arith) h
  lines_rise round w ok h (x ∷ xs) =
      subst (λ k. AreLow n (end_of k) (after_lines service requests seed n (row service requests seed n w x).world xs)) (omega arith)
      (lines_rise (suc round) (row service requests seed n w x).world (row_ok service requests seed n few w x ok).0 (row_rises round w ok h x).nodes xs)

  lines_calm : (round : ℕ) (w : World) → IsWorld n here w → AreLow n (end_of round) w → (xs : List ScheduleLine) → round + length xs ≤ greatest_round → NoneIsSpent (effects_of service requests seed n w xs)
  lines_calm round w ok h [] l = calm_none
  lines_calm round w ok h (x ∷ xs) l =
      let r = row_rises round w ok h x in
      calm_both (row service requests seed n w x).effects (effects_of service requests seed n (row service requests seed n w x).world xs) (r.calm (omega arith))
      (lines_calm (suc round) (row service requests seed n w x).world (row_ok service requests seed n few w x ok).0 r.nodes xs (omega arith))

  -- ---- from the beginning

  fresh_low : (x : Here) → IsFresh x → IsLow (end_of 0) x
  fresh_low x (inl e) = subst (IsLow (end_of 0)) (sym e) (record { promised = omega arith; own = omega arith })
  fresh_low x (inr e) = subst (IsLow (end_of 0)) (sym e) (record { promised = omega arith; own = omega arith })

  begins_low : AreLow n (end_of 0) (beginning n)
  begins_low q qin = fresh_low (node_at (beginning n).nodes q) (fresh_at Value StateValue n q)

  at_most : (round : ℕ) (w : World) → AreLow n (end_of round) w → RoundsAreAtMost n w round
  at_most round w h = record {
    promised = λ m min. let p = (h m min).promised in omega (arith, p);
    own = λ m min. let p = (h m min).own in omega (arith, p);
    next = λ m min. let p = next_round round w h m min in omega (arith, p);
  }

  pub rounds_few : (lines : List ScheduleLine) → RoundsAreAtMost n (world_after service requests seed n lines) (length lines)
  rounds_few lines = at_most (length lines) (world_after service requests seed n lines) (subst (λ k. AreLow n (end_of k) (world_after service requests seed n lines)) (omega arith) (lines_rise 0 (beginning n) (beginning_ok service requests seed n few) begins_low lines))

  pub rounds_left : (lines : List ScheduleLine) → length lines ≤ greatest_round → NoneIsSpent (effects_of service requests seed n (beginning n) lines)
  rounds_left lines l = lines_calm 0 (beginning n) (beginning_ok service requests seed n few) begins_low lines (omega (arith, l))

  -- ---- with events that nodes are handed

  take_rises : (round : ℕ) (w : World) → IsWorld n here w → AreLow n (end_of round) w → (m : ℕ) (e : Event) → AreLow n (end_of round) (take service w m e)
  take_rises round w ok h m e = (take_low service requests seed n few (end_of round) (some_round round) w ok h m e).nodes

  doings_rise : (round : ℕ) (w : World) → IsWorld n here w → AreLow n (end_of round) w → (xs : List Doing) → AreLow n (end_of (round + lines_among xs)) (after_doings service requests seed n w xs)
  doings_rise round w ok h [] = subst (λ k. AreLow n (end_of k) w) (omega arith) h
  doings_rise round w ok h (Does x ∷ xs) =
      subst (λ k. AreLow n (end_of k) (after_doings service requests seed n (row service requests seed n w x).world xs)) (omega arith)
      (doings_rise (suc round) (row service requests seed n w x).world (does_ok service requests seed n few w (Does x) ok).0 (row_rises round w ok h x).nodes xs)
  doings_rise round w ok h (Takes m e ∷ xs) = doings_rise round (take service w m e) (does_ok service requests seed n few w (Takes m e) ok).0 (take_rises round w ok h m e) xs

  -- each of these moments reported no lack of a round
  abbrev pub AreCalm : List Moment → Type 0
  AreCalm [] = Unit {0}
  AreCalm (x ∷ xs) = NoneIsSpent x.effects × AreCalm xs

  calm_moments : (xs ys : List Moment) → AreCalm xs → AreCalm ys → AreCalm (xs ++ ys)
  calm_moments [] ys h k = k
  calm_moments (x ∷ xs) ys h k = (h.0, calm_moments xs ys h.1 k)

  calm_at : (xs : List Moment) (i : ℕ) (x : Moment) → AreCalm xs → slice_get xs i ≡ Some x → NoneIsSpent x.effects
  calm_at [] i x h e = absurd (cc)
  calm_at (y ∷ ys) zero x h e = subst (λ (z : Moment). NoneIsSpent z.effects) (same_Some y x e) h.0
  calm_at (y ∷ ys) (suc i) x h e = calm_at ys i x h.1 e

  others_calm : (round number : ℕ) (w : World) → IsWorld n here w → AreLow n (end_of round) w → (xs : List ScheduleLine) → AreOther xs → AreCalm (step_moments service requests seed n number w xs)
  others_calm round number w ok h [] o = tt
  others_calm round number w ok h (x ∷ xs) o =
      let first = step_low service requests seed n few (end_of round) (some_round round) w ok h x o.0 in
      (first.calm, others_calm round number (step service requests seed n w x).world (step_ok service requests seed n few w x ok).0 first.nodes xs o.1)

  steps_calm : (round number : ℕ) (w : World) → IsWorld n here w → AreLow n (end_of round) w → (x : ScheduleLine) → suc round ≤ greatest_round → AreCalm (step_moments service requests seed n number w (steps_of w x))
  steps_calm round number w ok h x l = go (elects_or_not w x)
    where
      go : ((m : ℕ) × (x ≡ line.Elect m)) ⊎ AreOther (steps_of w x) → AreCalm (step_moments service requests seed n number w (steps_of w x))
      go (inl e) = subst (λ y. AreCalm (step_moments service requests seed n number w (steps_of w y))) (sym e.1) ((elect_rises round w ok h e.0).calm l, tt)
      go (inr o) = others_calm round number w ok h (steps_of w x) o

  doings_calm : (round : ℕ) (w : World) → IsWorld n here w → AreLow n (end_of round) w → (xs : List Doing) → round + lines_among xs ≤ greatest_round → AreCalm (moments_of_doings service requests seed n w xs)
  doings_calm round w ok h [] l = tt
  doings_calm round w ok h (Does x ∷ xs) l =
      calm_moments (step_moments service requests seed n (w.done + 1) w (steps_of w x)) (moments_of_doings service requests seed n (row service requests seed n w x).world xs)
      (steps_calm round (w.done + 1) w ok h x (omega arith))
      (doings_calm (suc round) (row service requests seed n w x).world (does_ok service requests seed n few w (Does x) ok).0 (row_rises round w ok h x).nodes xs (omega arith))
  doings_calm round w ok h (Takes m e ∷ xs) l =
      (calm_none, doings_calm round (take service w m e) (does_ok service requests seed n few w (Takes m e) ok).0 (take_rises round w ok h m e) xs l)

  pub doings_few : (doings : List Doing) → RoundsAreAtMost n (world_after_doings service requests seed n doings) (lines_among doings)
  doings_few doings = at_most (lines_among doings) (world_after_doings service requests seed n doings) (subst (λ k. AreLow n (end_of k) (world_after_doings service requests seed n doings)) (omega arith) (doings_rise 0 (beginning n) (beginning_ok service requests seed n few) begins_low doings))

  pub doings_left : (doings : List Doing) → lines_among doings ≤ greatest_round → (i : ℕ) (x : Moment) → slice_get (moments_of_doings service requests seed n (beginning n) doings) i ≡ Some x → NoneIsSpent x.effects
  doings_left doings l i x e = calm_at (moments_of_doings service requests seed n (beginning n) doings) i x (doings_calm 0 (beginning n) (beginning_ok service requests seed n few) begins_low doings (omega (arith, l))) e
