-- What happens to one process of a world.
use Rattle.std.proofs.Common.{◌≡◌, ℕ, Bool, true, false, cond, List, [], ◌∷◌, ◌++◌, length, None, refl, sym, ◌∙◌, ap, subst, append-nil, append_assoc, eq-eqb}
use Rattle.std.specs.Prelude.{◌≢◌}
use Rattle.std.proofs.lemmas.Bool.{ne_eqb}
use Rattle.std.proofs.lemmas.List.{map-append}
use Rattle.rex_syntax.specs.declared.service.Declarations.{Declarations}
use Rattle.rex_cluster.specs.Quorum.{IsNode}
use Rattle.rex_cluster.specs.Node.{Message, down_node}
use Rattle.rex_cluster.specs.Calls.{begin, start}
use Rattle.rex_cluster.specs.Values.{Value, service_of}
use Rattle.rex_cluster.specs.Lanes.{Here, CallHere}
use Rattle.rex_cluster.specs.World.{World, Row, node_at, after, at_node, if_up, start_if}
use Rattle.rex_safety.proofs.Nodes.{node_put, put_length}
use Rattle.rex_processes.specs.Processes.{Task, Happening, OfTask, call_for, armed_after, dead, happens, after_happenings, TaskIsHonest, IsHonest, AreHonest}
use Rattle.rex_processes.specs.Processes.Happening.{Does, DiesDoing, Dies, ComesUp}
use Rattle.rex_processes.specs.Plain.{ArePlain, EachTask, IsPlainTask, NamesAnother}
use Rattle.rex_serve.specs.Standing.{each_at}

-- ---- worlds

-- in the second world the node of this number is this one, the others are as in the first one, and these messages were sent more
pub record Reaches (m : ℕ) (w v : World) (x : Here) (sends : List (Message Value)) : Type 0 where
  pub many : length v.nodes ≡ length w.nodes
  pub own : node_at v.nodes m ≡ x
  pub others : (k : ℕ) → (k ≢ m) → node_at v.nodes k ≡ node_at w.nodes k
  pub messages : v.messages ≡ w.messages ++ sends

pub same_reaches : (m : ℕ) (w : World) (x : Here) → node_at w.nodes m ≡ x → Reaches m w w x []
same_reaches m w x e = record { many = refl; own = e; others = λ k o. refl; messages = sym (append-nil w.messages) }

pub reaches_join : (m : ℕ) (w v u : World) (y x : Here) (s t : List (Message Value)) → Reaches m w v y s → Reaches m v u x t → Reaches m w u x (s ++ t)
reaches_join m w v u y x s t a b = record {
  many = b.many ∙ a.many;
  own = b.own;
  others = λ k o. b.others k o ∙ a.others k o;
  messages = b.messages ∙ (ap (λ (ms : List (Message Value)). ms ++ t) a.messages ∙ append_assoc w.messages s t);
}

after_reaches : (m : ℕ) (w : World) (d : CallHere) → IsNode (length w.nodes) m → Reaches m w (after w m d).world d.node d.sends
after_reaches m w d there = record {
  many = put_length w.nodes m d.node;
  own = node_put w.nodes m d.node m there ∙ ap (λ (t : Bool). cond t d.node (node_at w.nodes m)) (eq-eqb m m refl);
  others = λ k o. node_put w.nodes m d.node k there ∙ ap (λ (t : Bool). cond t d.node (node_at w.nodes k)) (ne_eqb k m o);
  messages = refl;
}

-- a node that is up does a call
at_reaches : (m : ℕ) (w : World) (x : Here) (call : CallHere → CallHere) → node_at w.nodes m ≡ x → x.up ≡ true → IsNode (length w.nodes) m
    → Reaches m w (at_node w m call).world (call (begin x)).node (call (begin x)).sends
at_reaches m w x call e up there = subst (λ (r : Row). Reaches m w r.world (call (begin x)).node (call (begin x)).sends) (sym is) (after_reaches m w (call (begin x)) there)
  where
    is : at_node w m call ≡ after w m (call (begin x))
    is = ap (λ (y : Here). if_up y.up w m (call (begin y))) e ∙ ap (λ (t : Bool). if_up t w m (call (begin x))) up

-- a node that is down comes up
up_reaches : (m seed : ℕ) (service : Declarations) (w : World) (x : Here) → node_at w.nodes m ≡ x → x.up ≡ false → IsNode (length w.nodes) m
    → Reaches m w (start_if (service_of service seed) (node_at w.nodes m).up w m).world (start (service_of service seed) m (begin x)).node (start (service_of service seed) m (begin x)).sends
up_reaches m seed service w x e down there =
    subst (λ (r : Row). Reaches m w r.world (start (service_of service seed) m (begin x)).node (start (service_of service seed) m (begin x)).sends) (sym is) (after_reaches m w (start (service_of service seed) m (begin x)) there)
  where
    is : start_if (service_of service seed) (node_at w.nodes m).up w m ≡ after w m (start (service_of service seed) m (begin x))
    is =
        ap (λ (t : Bool). start_if (service_of service seed) t w m) (ap (λ (y : Here). y.up) e ∙ down)
        ∙ ap (λ (y : Here). after w m (start (service_of service seed) m (begin y))) e

-- ---- lists of happenings

module _ (service : Declarations) (seed n : ℕ) where
  pub after_both : (w : World) (xs ys : List (ℕ × Happening))
      → after_happenings service seed n w (xs ++ ys) ≡ after_happenings service seed n (after_happenings service seed n w xs) ys
  after_both w [] ys = refl
  after_both w (x ∷ xs) ys = after_both (happens service seed n w x.0 x.1).world xs ys

  pub honest_both : (w : World) (xs ys : List (ℕ × Happening)) → AreHonest service seed n w xs
      → AreHonest service seed n (after_happenings service seed n w xs) ys → AreHonest service seed n w (xs ++ ys)
  honest_both w [] ys h k = k
  honest_both w (x ∷ xs) ys h k = (h.0, honest_both (happens service seed n w x.0 x.1).world xs ys h.1 k)

pub each_both : (P : ℕ → Task → Type 0) (xs ys : List (ℕ × Happening)) → EachTask P xs → EachTask P ys → EachTask P (xs ++ ys)
each_both P [] ys h k = k
each_both P (x ∷ xs) ys h k = (h.0, each_both P xs ys h.1 k)

-- ---- one process

module _ (service : Declarations) (seed n m : ℕ) where
  -- honest happenings, to what the node of this number comes by them, and what is sent
  pub record Goes (w : World) (l : List (ℕ × Happening)) (x : Here) (sends : List (Message Value)) : Type 0 where
    pub honest : AreHonest service seed n w l
    pub plain : ArePlain l
    pub named : EachTask (NamesAnother n) l
    pub reaches : Reaches m w (after_happenings service seed n w l) x sends

  -- all to its process
  abbrev pub Happens : World → List Happening → Here → List (Message Value) → Type 0
  Happens w xs x sends = Goes w (each_at m xs) x sends

  -- one is honest
  pub record MayDo (w : World) (h : Happening) : Type 0 where
    pub honest : IsHonest service w h
    pub plain : OfTask IsPlainTask h
    pub named : OfTask (NamesAnother n m) h

  pub happens_none : (w : World) (x : Here) → node_at w.nodes m ≡ x → Happens w [] x []
  happens_none w x e = record { honest = tt; plain = tt; named = tt; reaches = same_reaches m w x e }

  happens_one : (w : World) (h : Happening) (x : Here) (s : List (Message Value)) → MayDo w h → Reaches m w (happens service seed n w m h).world x s
      → Happens w (h ∷ []) x s
  happens_one w h x s may r = record { honest = (may.honest, tt); plain = (may.plain, tt); named = (may.named, tt); reaches = r }

  pub happens_and : (w : World) (xs ys : List Happening) (y x : Here) (s t : List (Message Value)) → Happens w xs y s
      → Happens (after_happenings service seed n w (each_at m xs)) ys x t
      → Happens w (xs ++ ys) x (s ++ t)
  happens_and w xs ys y x s t a b = subst (λ (l : List (ℕ × Happening)). Goes w l x (s ++ t)) (sym split) (record {
    honest = honest_both service seed n w (each_at m xs) (each_at m ys) a.honest b.honest;
    plain = each_both (λ k task. IsPlainTask task) (each_at m xs) (each_at m ys) a.plain b.plain;
    named = each_both (NamesAnother n) (each_at m xs) (each_at m ys) a.named b.named;
    reaches = subst (λ (v : World). Reaches m w v x (s ++ t)) (sym (after_both service seed n w (each_at m xs) (each_at m ys)))
        (reaches_join m w (after_happenings service seed n w (each_at m xs)) _ y x s t a.reaches b.reaches);
  })
    where
      split : each_at m (xs ++ ys) ≡ each_at m xs ++ each_at m ys
      split = map-append (λ (h : Happening). (m, h)) xs ys

  -- nothing more is sent
  pub then_quiet : (w : World) (xs : List Happening) (x : Here) (s t : List (Message Value)) → t ≡ [] → Happens w xs x (s ++ t) → Happens w xs x s
  then_quiet w xs x s t e h = subst (λ (ms : List (Message Value)). Happens w xs x ms) (ap (λ (ms : List (Message Value)). s ++ ms) e ∙ append-nil s) h

  module _ (w : World) (x : Here) (e : node_at w.nodes m ≡ x) (there : IsNode (length w.nodes) m) where
    -- a process that is up does a task
    pub does : (task : Task) → x.up ≡ true → TaskIsHonest service w task → IsPlainTask task → NamesAnother n m task
        → Happens w (Does task ∷ []) (call_for service seed n m task (begin x)).node (call_for service seed n m task (begin x)).sends
    does task up honest plain named =
        happens_one w (Does task) _ _ (record { honest = honest; plain = plain; named = named }) (at_reaches m w x (call_for service seed n m task) e up there)

    -- it dies while it does one
    pub dies_doing : (before : ℕ) (kept : Bool) (task : Task) → x.up ≡ true → TaskIsHonest service w task → IsPlainTask task → NamesAnother n m task
        → Happens w (DiesDoing before kept task ∷ []) (down_node (call_for service seed n m task (armed_after before kept (begin x))).node.log None) (call_for service seed n m task (armed_after before kept (begin x))).sends
    dies_doing before kept task up honest plain named =
        happens_one w (DiesDoing before kept task) _ _ (record { honest = honest; plain = plain; named = named }) (at_reaches m w x (λ d. dead (call_for service seed n m task (armed_after before kept d))) e up there)

    -- it dies while it does nothing
    pub dies : x.up ≡ true → Happens w (Dies ∷ []) (down_node x.log None) []
    dies up = happens_one w Dies _ _ (record { honest = tt; plain = tt; named = tt }) (at_reaches m w x dead e up there)

    -- it comes up
    pub comes_up : x.up ≡ false
        → Happens w (ComesUp ∷ []) (start (service_of service seed) m (begin x)).node (start (service_of service seed) m (begin x)).sends
    comes_up down = happens_one w ComesUp _ _ (record { honest = tt; plain = tt; named = tt }) (up_reaches m seed service w x e down there)
