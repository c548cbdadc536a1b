-- Each schedule line keeps the invariant, and records only grow.
pub use Rattle.rex_safety.specs.Kept.{roles, IsWorld}
use Rattle.std.proofs.Common.{◌≡◌, ℕ, zero, suc, ◌<◌, ◌≤◌, ◌≢◌, Bool, true, false, cond, ◌⊎◌, List, [], ◌∷◌, ◌++◌, length, Some, eqb, refl, sym, ◌∙◌, ap, subst, inl, inr, arith, eqb-true, append-nil}
use Rattle.std.specs.Prelude.{replicate, slice_get}
use Rattle.std.proofs.lemmas.Bool.{cases_lt, eqb-false, false≢true}
use mathlib.Core.Path.{fun_ext}
use Rattle.rex_state.specs.Value.{StateValue}
use Rattle.rex_report.specs.declared.effect.Effect.TheVariants as effect
use Rattle.rex_cluster.specs.Quorum.{IsNode}
use Rattle.rex_cluster.specs.Node.{Service, Message, Lead}
use Rattle.rex_cluster.specs.Node.Role.{Follower, Leads}
use Rattle.rex_cluster.specs.Calls.{begin}
use Rattle.rex_cluster.specs.Values.{Value}
use Rattle.rex_cluster.specs.Lanes.{Here, CallHere}
use Rattle.rex_cluster.specs.World.{World, Row, node_at, put, logs, after, only, if_up, at_node, message_at}
use Rattle.rex_cluster.specs.Invariant.{IsIn, with_log, AreSafe, Grows, IsRightRole, IsReplayed, AreJustified, KeepsAll}
use Rattle.rex_cluster.proofs.Grow.{grows_same}
use Rattle.rex_cluster.proofs.Roles.{just_both}
use Rattle.rex_safety.proofs.Nodes.{put_length, node_put, put_none, none_down}

-- it is kept, and no record was taken away
abbrev pub GoesOnTo : ℕ → Service Value StateValue → World → World → Type 0
GoesOnTo n sv w w' = IsWorld n sv w' × Grows (logs w) (logs w')

pub row_same : (n : ℕ) (sv : Service Value StateValue) (w : World) → IsWorld n sv w → GoesOnTo n sv w w
row_same n sv w ok = (ok, grows_same (logs w))

pub nth_in : {A : Type 0} (k : ℕ) (xs : List A) (x : A) → slice_get xs k ≡ Some x → IsIn x xs
nth_in k [] x e = absurd (cc)
nth_in zero (y ∷ xs) x e = inl (cc)
nth_in (suc k) (y ∷ xs) x e = inr (nth_in k xs x e)

-- a message that has a number was sent
pub message_in : (messages : List (Message Value)) (number : ℕ) (x : Message Value) → message_at messages number ≡ Some x → IsIn x messages
message_in messages zero x e = absurd (cc)
message_in messages (suc k) x e = nth_in k messages x e

module _ (n : ℕ) (sv : Service Value StateValue) (w : World) (ok : IsWorld n sv w) (m : ℕ) (min : IsNode n m) where
  here-in : IsNode (length w.nodes) m
  here-in = subst (λ k. IsNode k m) (sym ok.many) min

  same : logs w ≡ with_log (logs w) m (node_at w.nodes m).log
  same = fun_ext (λ q. go q (eqb q m) refl)
    where
      go : (q : ℕ) (t : Bool) → eqb q m ≡ t → (node_at w.nodes q).log ≡ cond t (node_at w.nodes m).log (node_at w.nodes q).log
      go q true e = ap (λ x. (node_at w.nodes x).log) (eqb-true q m e)
      go q false e = refl

  enter : KeepsAll n sv (logs w) (roles w) w.messages m (begin (node_at w.nodes m))
  enter = record {
    safe = subst (AreSafe n sv) same ok.cluster.safe;
    role = subst (λ K. IsRightRole n K (node_at w.nodes m).log m (node_at w.nodes m).role) same (ok.cluster.roles m min);
    here = ok.nodes m min;
    others = λ q x d. subst (λ K. IsRightRole n K (logs w q) q (roles w q)) same (ok.cluster.roles q x);
    old = subst (λ K. AreJustified n K w.messages) same ok.cluster.messages;
    grows = subst (λ K. Grows (logs w) K) same (grows_same (logs w));
    out = λ x i. absurd i;
  }

  at_world : (d : CallHere) → with_log (logs w) m d.node.log ≡ logs (after w m d).world
  at_world d = fun_ext (λ q. go q (eqb q m) (node_put w.nodes m d.node q here-in))
    where
      go : (q : ℕ) (t : Bool) → node_at (put w.nodes m d.node) q ≡ cond t d.node (node_at w.nodes q) → cond t d.node.log (node_at w.nodes q).log ≡ (node_at (put w.nodes m d.node) q).log
      go q true e = sym (ap (λ x. x.log) e)
      go q false e = sym (ap (λ x. x.log) e)

  -- what holds of the node after its call and of the others holds of all
  each_node : (P : ℕ → Here → Type 0) (d : CallHere) → P m d.node → ((q : ℕ) → q ≢ m → P q (node_at w.nodes q)) → (q : ℕ) → P q (node_at (put w.nodes m d.node) q)
  each_node P d here away q = subst (P q) (sym (node_put w.nodes m d.node q here-in)) (go (eqb q m) refl)
    where
      go : (t : Bool) → eqb q m ≡ t → P q (cond t d.node (node_at w.nodes q))
      go true e = subst (λ k. P k d.node) (sym (eqb-true q m e)) here
      go false e = away q (eqb-false q m e)

  leave : (d : CallHere) → KeepsAll n sv (logs w) (roles w) w.messages m d → IsWorld n sv (after w m d).world
  leave d good = record {
    many = put_length w.nodes m d.node ∙ ok.many;
    cluster = record {
      safe = subst (AreSafe n sv) (at_world d) good.safe;
      roles = λ q x. subst (λ K. IsRightRole n K (node_at (put w.nodes m d.node) q).log q (node_at (put w.nodes m d.node) q).role) (at_world d)
          (each_node (λ q y. IsNode n q → IsRightRole n (with_log (logs w) m d.node.log) y.log q y.role) d (λ _. good.role) (λ q e x. good.others q x e) q x);
      messages = subst (λ K. AreJustified n K (w.messages ++ d.sends)) (at_world d) (just_both n (with_log (logs w) m d.node.log) w.messages d.sends good.old good.out);
    };
    nodes = each_node (λ q y. IsNode n q → IsReplayed y) d (λ _. good.here) (λ q e x. ok.nodes q x);
  }

  pub row_after : (d : CallHere) → KeepsAll n sv (logs w) (roles w) w.messages m d → GoesOnTo n sv w (after w m d).world
  row_after d good = (leave d good, subst (λ K. Grows (logs w) K) (at_world d) good.grows)

  pub called : (call : CallHere → CallHere) → ((d : CallHere) → KeepsAll n sv (logs w) (roles w) w.messages m d → KeepsAll n sv (logs w) (roles w) w.messages m (call d)) → GoesOnTo n sv w (after w m (call (begin (node_at w.nodes m)))).world
  called call keeps = row_after (call (begin (node_at w.nodes m))) (keeps (begin (node_at w.nodes m)) enter)

-- a number is a node's or not
pub node_or_not : (n m : ℕ) → IsNode n m ⊎ (IsNode n m → ⊥)
node_or_not n m = go (cases_lt 0 m) (cases_lt n m)
  where
    go : (0 < m) ⊎ (m ≤ 0) → (n < m) ⊎ (m ≤ n) → IsNode n m ⊎ (IsNode n m → ⊥)
    go (inl a) (inr b) = inl (a, b)
    go (inl a) (inl b) = inr (λ h. absurd (omega (arith, h.1)))
    go (inr a) b = inr (λ h. absurd (omega (arith, h.0)))

-- what holds of a call of a node that is up, and of the report that it is down, holds of a call of any number: that of no node is down
pub at_either : (n : ℕ) (w : World) → length w.nodes ≡ n → (m : ℕ) (call : CallHere → CallHere) (P : Row → Type 0)
    → P (only w (effect.IsDown m)) → (IsNode n m → P (after w m (call (begin (node_at w.nodes m))))) → P (at_node w m call)
at_either n w many m call P down up = go (node_at w.nodes m).up refl (node_or_not n m)
  where
    go : (t : Bool) → (node_at w.nodes m).up ≡ t → IsNode n m ⊎ (IsNode n m → ⊥) → P (if_up t w m (call (begin (node_at w.nodes m))))
    go false e h = down
    go true e (inl min) = up min
    go true e (inr none) = absurd (false≢true (sym (ap (λ (x : Here). x.up) (none_down w.nodes m (λ l. none (subst (λ k. IsNode k m) many l)))) ∙ e))

-- a call of a number of no node that sends nothing changes nothing
pub none_same : (n : ℕ) (sv : Service Value StateValue) (w : World) → IsWorld n sv w → (m : ℕ) → (IsNode n m → ⊥) → (d : CallHere) → d.sends ≡ [] → GoesOnTo n sv w (after w m d).world
none_same n sv w ok m none d e =
    subst (λ (x : World). GoesOnTo n sv w x) (sym same) (changed, grows_same (logs w))
  where
    flags : World
    flags = record w { handed = w.handed ++ replicate (length d.sends) false; seen = (after w m d).world.seen }

    same : (after w m d).world ≡ record w { handed = w.handed ++ replicate (length d.sends) false; seen = (after w m d).world.seen }
    same =
        let a : put w.nodes m d.node ≡ w.nodes = put_none w.nodes m d.node (λ l. none (subst (λ k. IsNode k m) ok.many l)) in
        let b : w.messages ++ d.sends ≡ w.messages = ap (λ xs. w.messages ++ xs) e ∙ append-nil w.messages in
        ap (λ (xs : List Here). record w { nodes = xs; messages = w.messages ++ d.sends; handed = w.handed ++ replicate (length d.sends) false; seen = (after w m d).world.seen }) a
        ∙ ap (λ (ms : List (Message Value)). record w { messages = ms; handed = w.handed ++ replicate (length d.sends) false; seen = (after w m d).world.seen }) b

    changed : IsWorld n sv (record w { handed = w.handed ++ replicate (length d.sends) false; seen = (after w m d).world.seen })
    changed = record { many = ok.many; cluster = ok.cluster; nodes = ok.nodes }

-- a call of any number keeps it, where it does of a node's
pub at_any_ok : (n : ℕ) (sv : Service Value StateValue) (w : World) → IsWorld n sv w → (m : ℕ) (call : CallHere → CallHere) → (IsNode n m → (d : CallHere) → KeepsAll n sv (logs w) (roles w) w.messages m d → KeepsAll n sv (logs w) (roles w) w.messages m (call d)) → GoesOnTo n sv w (at_node w m call).world
at_any_ok n sv w ok m call keeps = at_either n w ok.many m call (λ r. GoesOnTo n sv w r.world) (row_same n sv w ok) (λ min. called n sv w ok m min call (keeps min))

-- who leads is a node
pub node_of_lead : (n : ℕ) (sv : Service Value StateValue) (w : World) → IsWorld n sv w → (m : ℕ) (l : Lead Value) → roles w m ≡ Leads l → IsNode n m
node_of_lead n sv w ok m l e = go (node_or_not n m)
  where
    go : IsNode n m ⊎ (IsNode n m → ⊥) → IsNode n m
    go (inl h) = h
    go (inr none) = absurd (clash (sym (ap (λ (x : Here). x.role) (none_down w.nodes m (λ k. none (subst (λ q. IsNode q m) ok.many k)))) ∙ e))
      where
        clash : Follower ≡ Leads l → ⊥
        clash h = cc
