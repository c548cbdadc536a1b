-- A fact of what active nodes know and work with is kept in a world by each step that isn't of clients and lanes.
use Rattle.std.proofs.Common.{◌≡◌, ℕ, Bool, true, false, cond, ◌⊎◌, List, [], ◌∷◌, ◌++◌, length, Option, Some, None, eqb, refl, sym, subst, inl, inr}
use Rattle.rand_pcg.specs.Lcg.{Lcg}
use Rattle.rex_syntax.specs.declared.request.Request.{Request}
use Rattle.rex_syntax.specs.declared.service.Declarations.{Declarations}
use Rattle.rex_state.specs.Value.{StateValue}
use Rattle.rex_schedule.specs.declared.scenario.ScheduleLine.{ScheduleLine}
use Rattle.rex_cluster.specs.Records.{Proposal}
use Rattle.rex_cluster.specs.Quorum.{IsNode}
use Rattle.rex_cluster.specs.Node.{Service, Message, Work}
use Rattle.rex_cluster.specs.Calls.{begin, receive, work_known}
use Rattle.rex_cluster.specs.Values.{Value, service_of}
use Rattle.rex_cluster.specs.Lanes.{Here, CallHere, active_only}
use Rattle.rex_cluster.specs.World.{World, node_at, put, after, at_node, with_handed, deliver_found, message_at, step}
use Rattle.rex_safety.proofs.Lawful.{LanesKeep, of_step}
use Rattle.rex_safety.proofs.Nodes.{node_put, put_none, IsFresh}
use Rattle.rex_safety.proofs.Worlds.{node_or_not, at_either}
use Rattle.rex_cluster.proofs.Working.{fresh_work, Works, passive, receive_works}

module _ (service : Declarations) (seed n : ℕ) (A : List Value → Option (Proposal Value) → Work → Type 0)
    (new : (vs : List Value) (dice : Lcg) → (service_of service seed).fits vs ≡ true → A vs None (fresh_work dice))
    (more : (vs : List Value) (p : Proposal Value) (w : Work) → (service_of service seed).fits (vs ++ p.value ∷ []) ≡ true → ((service_of service seed).fits vs ≡ true → A vs (Some p) w) → A (vs ++ p.value ∷ []) None (work_known (service_of service seed) true (vs ++ p.value ∷ []) w)) where
  abbrev sv : Service Value StateValue
  sv = service_of service seed

  -- it holds of a node in a call, and of each node between calls
  abbrev pub WorksAt : ℕ → CallHere → Type 0
  WorksAt m d = Works n sv m A new more d

  abbrev pub AllWorks : World → Type 0
  AllWorks w = (m : ℕ) → WorksAt m (begin (node_at w.nodes m))

  pub only_works : (m : ℕ) (t : Bool) (d e : CallHere) → WorksAt m d → WorksAt m e → WorksAt m (active_only t d e)
  only_works m true d e w h = h
  only_works m false d e w h = record { each = w.each }

  pub after_works : (w : World) → length w.nodes ≡ n → AllWorks w → (m : ℕ) (d : CallHere) → WorksAt m d → AllWorks (after w m d).world
  after_works w many h m d k q = go (node_or_not n m)
    where
      place : (t : Bool) → eqb q m ≡ t → node_at (put w.nodes m d.node) q ≡ cond t d.node (node_at w.nodes q) → WorksAt q (begin (node_at (put w.nodes m d.node) q))
      place true e p = subst (λ (y : Here). WorksAt q (begin y)) (sym p) (record { each = k.each })
      place false e p = subst (λ (y : Here). WorksAt q (begin y)) (sym p) (h q)

      go : IsNode n m ⊎ (IsNode n m → ⊥) → WorksAt q (begin (node_at (put w.nodes m d.node) q))
      go (inl min) = place (eqb q m) refl (node_put w.nodes m d.node q (subst (λ k. IsNode k m) (sym many) min))
      go (inr none) = subst (λ (xs : List Here). WorksAt q (begin (node_at xs q))) (sym (put_none w.nodes m d.node (λ l. none (subst (λ k. IsNode k m) many l)))) (h q)

  pub at_works : (w : World) → length w.nodes ≡ n → AllWorks w → (m : ℕ) (call : CallHere → CallHere) → ((d : CallHere) → WorksAt m d → WorksAt m (call d)) → AllWorks (at_node w m call).world
  at_works w many h m call k = at_either n w many m call (λ r. AllWorks r.world) h (λ min. after_works w many h m (call (begin (node_at w.nodes m))) (k (begin (node_at w.nodes m)) (h m)))

  pub deliver_works : (w : World) → length w.nodes ≡ n → AllWorks w → (number : ℕ) (o : Option (Message Value)) → AllWorks (deliver_found service seed n w number o).world
  deliver_works w many h number None = h
  deliver_works w many h number (Some y) = at_works (with_handed w number) many h y.to (receive n sv y.to y.from y.content) (λ d k. receive_works n sv y.to A new more y.from y.content d k)

  pub step_works : (requests : List Request) (w : World) → length w.nodes ≡ n → AllWorks w → (x : ScheduleLine) → LanesKeep service requests seed n w WorksAt x → AllWorks (step service requests seed n w x).world
  step_works requests w many h =
      of_step service requests seed n w (λ y r. LanesKeep service requests seed n w WorksAt y → AllWorks r.world)
      (record {
        calls = λ y m call k l. at_works w many h m call (k.works A new more l);
        silent = λ y m call k s l. after_works w many h m (call (begin (node_at w.nodes m))) (k.works A new more l (begin (node_at w.nodes m)) (h m));
        is_up = λ m l. h;
        delivers = λ number l. deliver_works w many h number (message_at w.messages number);
        flush = λ l. h;
        reads = λ m client variable l. h;
      })

  pub fresh_works : (m : ℕ) (x : Here) → IsFresh x → WorksAt m (begin x)
  fresh_works m x (inl e) = subst (λ (y : Here). WorksAt m (begin y)) (sym e) (passive n sv m A new more _ refl)
  fresh_works m x (inr e) = subst (λ (y : Here). WorksAt m (begin y)) (sym e) (passive n sv m A new more _ refl)
