-- Each line keeps numbers in their ranges.
pub use Rattle.rex_safety.proofs.LineCalls.{active_fits}
use Rattle.std.proofs.Common.{◌≡◌, ℕ, suc, ◌<◌, ◌≤◌, Bool, true, false, cond, ◌⊎◌, List, [], ◌∷◌, ◌++◌, length, Option, Some, None, eqb, refl, sym, ◌∙◌, ap, subst, inl, inr, arith, append-nil}
use Rattle.std.specs.Prelude.{map}
use Rattle.rex_ballot.specs.Limits.{most_nodes}
use Rattle.rex_syntax.specs.declared.request.Request.{Request}
use Rattle.rex_syntax.specs.declared.service.Declarations.{Declarations}
use Rattle.rex_state.specs.Value.{StateValue}
use Rattle.rex_schedule.specs.declared.scenario.ScheduleLine.{ScheduleLine}
use Rattle.rex_schedule.specs.declared.scenario.ScheduleLine.TheVariants as line
use Rattle.rex_cluster.specs.Quorum.{IsNode}
use Rattle.rex_cluster.specs.Node.{Service, Message}
use Rattle.rex_cluster.specs.Calls.{begin, receive}
use Rattle.rex_cluster.specs.Values.{Value, service_of}
use Rattle.rex_cluster.specs.Lanes.{Here, CallHere}
use Rattle.rex_cluster.specs.World.{World, node_at, put, beginning, after, at_node, with_handed, deliver_found, message_at, step, waiting_from, flush_steps, steps_of, steps, row, after_lines}
use Rattle.rex_cluster.specs.Invariant.{IsIn}
use Rattle.std.specs.List.{All}
use Rattle.std.proofs.lemmas.List.Elements.{All-head, All-tail}
use Rattle.rex_schedule.specs.Fits.{LineFits}
use Rattle.rex_cluster.specs.Agreed.{world_after}
use Rattle.rex_cluster.specs.Ranges.{MessageFits, NodeFits}
use Rattle.rex_safety.specs.Laws.{NumbersFit}
use Rattle.rex_cluster.proofs.Lists.{in_cases}
use Rattle.rex_safety.proofs.Lawful.{of_step}
use Rattle.rex_safety.proofs.Nodes.{node_put, put_none, IsFresh, fresh_at}
use Rattle.rex_safety.proofs.Worlds.{IsWorld, message_in, node_or_not, at_either}
use Rattle.rex_safety.proofs.Steps.{step_ok, row_ok, beginning_ok}
use Rattle.rex_cluster.proofs.Ranged.{Fits, receive_fits}

module _ (service : Declarations) (requests : List Request) (seed n : ℕ) (few : n ≤ most_nodes) where
  abbrev sv : Service Value StateValue
  sv = service_of service seed

  abbrev FitsAt : (m : ℕ) → IsNode n m → CallHere → Type 0
  FitsAt m min d = Fits n few sv m min d

  -- ---- worlds

  abbrev AllFit : World → Type 0
  AllFit w = NumbersFit n w

  begun : (w : World) → AllFit w → (m : ℕ) (min : IsNode n m) → FitsAt m min (begin (node_at w.nodes m))
  begun w h m min = let x = h.nodes m min in record { log = x.log; role = x.role; sends = λ y i. absurd i }

  after_fits : (w : World) → length w.nodes ≡ n → AllFit w → (m : ℕ) (min : IsNode n m) (d : CallHere) → FitsAt m min d → AllFit (after w m d).world
  after_fits w many h m min d k = record { nodes = nodes; messages = λ x i. sent x (in_cases x w.messages d.sends i) }
    where
      sent : (x : Message Value) → IsIn x w.messages ⊎ IsIn x d.sends → MessageFits n x
      sent x (inl i) = h.messages x i
      sent x (inr i) = k.sends x i

      place : (q : ℕ) → IsNode n q → (t : Bool) → NodeFits (cond t d.node (node_at w.nodes q))
      place q qin true = record { log = k.log; role = k.role }
      place q qin false = h.nodes q qin

      nodes : (q : ℕ) → IsNode n q → NodeFits (node_at (put w.nodes m d.node) q)
      nodes q qin = subst NodeFits (sym (node_put w.nodes m d.node q (subst (λ k. IsNode k m) (sym many) min))) (place q qin (eqb q m))

  -- a number of no node that sends nothing
  none_fits : (w : World) → length w.nodes ≡ n → AllFit w → (m : ℕ) → (IsNode n m → ⊥) → (d : CallHere) → d.sends ≡ [] → AllFit (after w m d).world
  none_fits w many h m none d e = record {
    nodes = λ q qin. subst (λ (xs : List Here). NodeFits (node_at xs q)) (sym (put_none w.nodes m d.node (λ l. none (subst (λ k. IsNode k m) many l)))) (h.nodes q qin);
    messages = λ x i. h.messages x (subst (IsIn x) (ap (λ xs. w.messages ++ xs) e ∙ append-nil w.messages) i);
  }

  -- the same of one node, and of any
  here_fits : (w : World) → length w.nodes ≡ n → AllFit w → (m : ℕ) (call : CallHere → CallHere) → ((min : IsNode n m) → FitsAt m min (begin (node_at w.nodes m)) → FitsAt m min (call (begin (node_at w.nodes m)))) → AllFit (at_node w m call).world
  here_fits w many h m call k =
      at_either n w many m call (λ r. AllFit r.world) (record { nodes = h.nodes; messages = h.messages }) (λ min. after_fits w many h m min (call (begin (node_at w.nodes m))) (k min (begun w h m min)))

  pub any_fits : (w : World) → length w.nodes ≡ n → AllFit w → (m : ℕ) (call : CallHere → CallHere) → ((min : IsNode n m) (d : CallHere) → FitsAt m min d → FitsAt m min (call d)) → AllFit (at_node w m call).world
  any_fits w many h m call k = here_fits w many h m call (λ min f. k min (begin (node_at w.nodes m)) f)

  deliver_fits : (w : World) → IsWorld n sv w → AllFit w → (number : ℕ) (o : Option (Message Value)) → message_at w.messages number ≡ o → AllFit (deliver_found service seed n w number o).world
  deliver_fits w ok h number None e = record { nodes = h.nodes; messages = h.messages }
  deliver_fits w ok h number (Some x) e =
      let f = h.messages x (message_in w.messages number x e) in
      here_fits (with_handed w number) ok.many (record { nodes = h.nodes; messages = h.messages }) x.to (receive n sv x.to x.from x.content)
      (λ min k. receive_fits n few sv x.to min x.from f.from (λ s. f.apart (sym s)) x.content f.content (begin (node_at w.nodes x.to)) (ok.cluster.safe.sorted x.to min) k)

  silent_fits : (w : World) → length w.nodes ≡ n → AllFit w → (m : ℕ) (call : CallHere → CallHere) → ((min : IsNode n m) (d : CallHere) → FitsAt m min d → FitsAt m min (call d)) → (call (begin (node_at w.nodes m))).sends ≡ [] → AllFit (after w m (call (begin (node_at w.nodes m)))).world
  silent_fits w many h m call k s = go (node_or_not n m)
    where
      go : IsNode n m ⊎ (IsNode n m → ⊥) → AllFit (after w m (call (begin (node_at w.nodes m)))).world
      go (inl min) = after_fits w many h m min (call (begin (node_at w.nodes m))) (k min (begin (node_at w.nodes m)) (begun w h m min))
      go (inr none) = none_fits w many h m none (call (begin (node_at w.nodes m))) s

  pub step_fits : (w : World) → IsWorld n sv w → AllFit w → (x : ScheduleLine) → LineFits n (length requests) service.lanes x → AllFit (step service requests seed n w x).world
  step_fits w ok h =
      of_step service requests seed n w (λ y r. LineFits n (length requests) service.lanes y → AllFit r.world)
      (record {
        calls = λ y m call k l. any_fits w ok.many h m call (k.fits l few);
        silent = λ y m call k s l. silent_fits w ok.many h m call (k.fits l few) (s.sends (node_at w.nodes m));
        is_up = λ m l. record { nodes = h.nodes; messages = h.messages };
        delivers = λ number l. deliver_fits w ok h number (message_at w.messages number) refl;
        flush = λ l. record { nodes = h.nodes; messages = h.messages };
        reads = λ m client variable l. record { nodes = h.nodes; messages = h.messages };
      })

  -- ---- lines

  abbrev pub AllLinesFit : List ScheduleLine → Type 0
  AllLinesFit [] = Unit {0}
  AllLinesFit (x ∷ xs) = LineFits n (length requests) service.lanes x × AllLinesFit xs

  waiting_fit : (k : ℕ) (flags : List Bool) → 0 < k → AllLinesFit (map line.Deliver (waiting_from k flags))
  waiting_fit k [] l = tt
  waiting_fit k (true ∷ flags) l = waiting_fit (suc k) flags (omega arith)
  waiting_fit k (false ∷ flags) l = (l, waiting_fit (suc k) flags (omega arith))

  flush_fit : (numbers : List ℕ) → AllLinesFit (map line.Deliver numbers) → AllLinesFit (flush_steps numbers)
  flush_fit [] h = (tt, tt)
  flush_fit (k ∷ ks) h = h

  pub steps_fit : (w : World) (x : ScheduleLine) → LineFits n (length requests) service.lanes x → AllLinesFit (steps_of w x)
  steps_fit w line.Flush l = flush_fit (waiting_from 1 w.handed) (waiting_fit 1 w.handed (omega arith))
  steps_fit w x l = (l, tt)

  all_steps_fit : (w : World) (xs : List ScheduleLine) → IsWorld n sv w → AllFit w → AllLinesFit xs → AllFit (steps service requests seed n w xs).world
  all_steps_fit w [] ok h l = h
  all_steps_fit w (x ∷ xs) ok h l = all_steps_fit (step service requests seed n w x).world xs (step_ok service requests seed n few w x ok).0 (step_fits w ok h x l.0) l.1

  row_fits : (w : World) (x : ScheduleLine) → IsWorld n sv w → AllFit w → LineFits n (length requests) service.lanes x → AllFit (row service requests seed n w x).world
  row_fits w x ok h l = let r = all_steps_fit w (steps_of w x) ok h (steps_fit w x l) in record { nodes = r.nodes; messages = r.messages }

  lines_fit : (w : World) (xs : List ScheduleLine) → IsWorld n sv w → AllFit w → All (LineFits n (length requests) service.lanes) xs → AllFit (after_lines service requests seed n w xs)
  lines_fit w [] ok h l = h
  lines_fit w (x ∷ xs) ok h l =
      lines_fit (row service requests seed n w x).world xs (row_ok service requests seed n few w x ok).0
      (row_fits w x ok h (All-head (LineFits n (length requests) service.lanes) x xs l)) (All-tail (LineFits n (length requests) service.lanes) x xs l)

  fresh_fits : (x : Here) → IsFresh x → NodeFits x
  fresh_fits x (inl e) = subst NodeFits (sym e) (record { log = record { ballots = λ b h. absurd h; instances = λ b i v h. absurd h; few = omega arith }; role = tt })
  fresh_fits x (inr e) = subst NodeFits (sym e) (record { log = record { ballots = λ b h. absurd h; instances = λ b i v h. absurd h; few = omega arith }; role = tt })

  pub numbers_fit : (lines : List ScheduleLine) → All (LineFits n (length requests) service.lanes) lines → NumbersFit n (world_after service requests seed n lines)
  numbers_fit lines l =
      lines_fit (beginning n) lines (beginning_ok service requests seed n few)
      (record { nodes = λ q qin. fresh_fits (node_at (beginning n).nodes q) (fresh_at Value StateValue n q); messages = λ x h. absurd h }) l
