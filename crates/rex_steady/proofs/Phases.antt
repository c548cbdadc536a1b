-- A flush of what node 1 asks or tells all others, and a flush of what they answer.
use Rattle.std.proofs.Common.{◌≡◌, ℕ, zero, suc, ◌<◌, ◌≤◌, Bool, true, false, cond, ◌⊎◌, List, [], ◌∷◌, ◌++◌, length, eqb, refl, sym, ◌∙◌, ap, subst, inl, inr, arith, append_assoc, append-nil, eq-eqb}
use Rattle.std.proofs.lemmas.Bool.{cases_eq, ne_eqb}
use Rattle.rex_syntax.specs.declared.request.Request.{Request}
use Rattle.rex_syntax.specs.declared.service.Declarations.{Declarations}
use Rattle.rex_schedule.specs.declared.scenario.ScheduleLine.TheVariants.{Flush}
use Rattle.rex_cluster.specs.Quorum.{IsNode}
use Rattle.rex_cluster.specs.Node.{Message, Content}
use Rattle.rex_cluster.specs.Calls.{begin, others, receive}
use Rattle.rex_cluster.specs.Values.{Value, service_of}
use Rattle.rex_cluster.specs.Lanes.{Here, CallHere}
use Rattle.rex_cluster.specs.World.{World, node_at, put, at_node, row}
use Rattle.rex_safety.proofs.Nodes.{node_put, put_length}
use Rattle.rex_steady.proofs.Flushes.{Waits, Flushed, Called, received, nodes_after, sends_after, ReachUp, flush_hands, call_sends}

-- ---- messages one after the other

module _ (service : Declarations) (seed n : ℕ) where
  nodes_both : (nodes : List Here) (xs ys : List (Message Value)) → nodes_after service seed n nodes (xs ++ ys) ≡ nodes_after service seed n (nodes_after service seed n nodes xs) ys
  nodes_both nodes [] ys = refl
  nodes_both nodes (x ∷ xs) ys = nodes_both (put nodes x.to (received service seed n nodes x).node) xs ys

  sends_both : (nodes : List Here) (xs ys : List (Message Value)) → sends_after service seed n nodes (xs ++ ys) ≡ sends_after service seed n nodes xs ++ sends_after service seed n (nodes_after service seed n nodes xs) ys
  sends_both nodes [] ys = refl
  sends_both nodes (x ∷ xs) ys =
      ap (λ (s : List (Message Value)). (received service seed n nodes x).sends ++ s) (sends_both (put nodes x.to (received service seed n nodes x).node) xs ys)
      ∙ sym (append_assoc (received service seed n nodes x).sends (sends_after service seed n (put nodes x.to (received service seed n nodes x).node) xs) _)

  up_both : (nodes : List Here) (xs ys : List (Message Value)) → ReachUp service seed n nodes xs → ReachUp service seed n (nodes_after service seed n nodes xs) ys → ReachUp service seed n nodes (xs ++ ys)
  up_both nodes [] ys h k = k
  up_both nodes (x ∷ xs) ys h k = (h.0, up_both (put nodes x.to (received service seed n nodes x).node) xs ys h.1 k)

  -- these messages lead from nodes to nodes, which send these
  record Hands (nodes : List Here) (xs : List (Message Value)) (after : List Here) (sends : List (Message Value)) : Type 0 where
    up : ReachUp service seed n nodes xs
    leads : nodes_after service seed n nodes xs ≡ after
    sent : sends_after service seed n nodes xs ≡ sends

  hands_none : (nodes : List Here) → Hands nodes [] nodes []
  hands_none nodes = record { up = tt; leads = refl; sent = refl }

  -- and then one more
  hands_push : (nodes after : List Here) (xs sends : List (Message Value)) (x : Message Value) (y : Here) (more : List (Message Value)) → Hands nodes xs after sends
      → (node_at after x.to).up ≡ true → (received service seed n after x).node ≡ y → (received service seed n after x).sends ≡ more
      → Hands nodes (xs ++ x ∷ []) (put after x.to y) (sends ++ more)
  hands_push nodes after xs sends x y more h up node sent = record {
    up = up_both nodes xs (x ∷ []) h.up (subst (λ (a : List Here). ReachUp service seed n a (x ∷ [])) (sym h.leads) (up, tt));
    leads = nodes_both nodes xs (x ∷ []) ∙ (ap (λ (a : List Here). put a x.to (received service seed n a x).node) h.leads ∙ ap (λ (d : Here). put after x.to d) node);
    sent = sends_both nodes xs (x ∷ [])
        ∙ (ap (λ (a : List Here). sends_after service seed n nodes xs ++ ((received service seed n a x).sends ++ [])) h.leads
        ∙ (ap (λ (s : List (Message Value)). sends_after service seed n nodes xs ++ s) (append-nil (received service seed n after x).sends ∙ sent)
        ∙ ap (λ (s : List (Message Value)). s ++ more) h.sent));
  }

-- ---- the nodes

-- of n nodes node 1 is x, those up to k are z, and the others y
pub record AreNodes (n k : ℕ) (x z y : Here) (nodes : List Here) : Type 0 where
  pub many : length nodes ≡ n
  pub first : node_at nodes 1 ≡ x
  pub earlier : (q : ℕ) → 1 < q → q ≤ n → q ≤ k → node_at nodes q ≡ z
  pub later : (q : ℕ) → 1 < q → q ≤ n → k < q → node_at nodes q ≡ y

-- of n nodes node 1 is x, and the others are y
pub record IsPair (n : ℕ) (x y : Here) (nodes : List Here) : Type 0 where
  pub many : length nodes ≡ n
  pub first : node_at nodes 1 ≡ x
  pub others : (q : ℕ) → 1 < q → q ≤ n → node_at nodes q ≡ y

module _ (n : ℕ) (x z y : Here) (nodes : List Here) where
  pub begin_at : IsPair n x y nodes → AreNodes n 1 x z y nodes
  begin_at h = record { many = h.many; first = h.first; earlier = λ q l m e. absurd (omega (arith, l, e)); later = λ q l m e. h.others q l m }

  pub end_at : AreNodes n n x z y nodes → IsPair n x z nodes
  end_at h = record { many = h.many; first = h.first; others = λ q l m. h.earlier q l m m }

  -- the next one is z, too
  pub move_on : (k : ℕ) → 1 < suc k → suc k ≤ n → AreNodes n k x z y nodes → AreNodes n (suc k) x z y (put nodes (suc k) z)
  move_on k some l h = record {
    many = put_length nodes (suc k) z ∙ h.many;
    first = node_put nodes (suc k) z 1 there ∙ (ap (λ (t : Bool). cond t z (node_at nodes 1)) (ne_eqb 1 (suc k) (λ e. omega (arith, e, some))) ∙ h.first);
    earlier = λ q a b c. go q a b c (cases_eq q (suc k));
    later = λ q a b c. node_put nodes (suc k) z q there ∙ (ap (λ (t : Bool). cond t z (node_at nodes q)) (ne_eqb q (suc k) (λ e. omega (arith, e, c))) ∙ h.later q a b (omega (arith, c)));
  }
    where
      there : IsNode (length nodes) (suc k)
      there = (omega arith, subst (λ (m : ℕ). suc k ≤ m) (sym h.many) l)

      go : (q : ℕ) → 1 < q → q ≤ n → q ≤ suc k → (q ≡ suc k) ⊎ (q ≡ suc k → ⊥) → node_at (put nodes (suc k) z) q ≡ z
      go q a b c (inl e) = node_put nodes (suc k) z q there ∙ ap (λ (t : Bool). cond t z (node_at nodes q)) (eq-eqb q (suc k) e)
      go q a b c (inr d) =
          node_put nodes (suc k) z q there ∙ (ap (λ (t : Bool). cond t z (node_at nodes q)) (ne_eqb q (suc k) d) ∙ h.earlier q a b (omega (arith, c, d)))

-- node 1 is another one
pub put_first : (n : ℕ) (x z y : Here) (nodes : List Here) → 1 ≤ n → IsPair n x y nodes → IsPair n z y (put nodes 1 z)
put_first n x z y nodes some h = record {
  many = put_length nodes 1 z ∙ h.many;
  first = node_put nodes 1 z 1 there;
  others = λ q a b. node_put nodes 1 z q there ∙ (ap (λ (t : Bool). cond t z (node_at nodes q)) (ne_eqb q 1 (λ e. omega (arith, e, a))) ∙ h.others q a b);
}
  where
    there : IsNode (length nodes) 1
    there = (omega arith, subst (λ (m : ℕ). 1 ≤ m) (sym h.many) some)

-- ---- messages of the nodes from 2 on

-- what each of the nodes 2 to k has
abbrev pub each_other : ℕ → (ℕ → List (Message Value)) → List (Message Value)
each_other zero f = []
each_other (suc k) f = cond (eqb (suc k) 1) (each_other k f) (each_other k f ++ f (suc k))

-- the same message of each of them to node 1
abbrev pub answers : ℕ → Content Value → List (Message Value)
answers k c = each_other k (λ q. record { from = q; to = 1; content = c } ∷ [])

pub others_are : (k : ℕ) (c : Content Value) → others k 1 c ≡ each_other k (λ q. record { from = 1; to = q; content = c } ∷ [])
others_are zero c = refl
others_are (suc k) c = ap (λ (ms : List (Message Value)). cond (eqb (suc k) 1) ms (ms ++ record { from = 1; to = suc k; content = c } ∷ [])) (others_are k c)

pub each_none : (k : ℕ) → each_other k (λ q. []) ≡ []
each_none zero = refl
each_none (suc k) = go (eqb (suc k) 1) (each_other k (λ q. [])) (each_none k)
  where
    go : (t : Bool) (ms : List (Message Value)) → ms ≡ [] → cond t ms (ms ++ []) ≡ []
    go true ms e = e
    go false ms e = append-nil ms ∙ e

-- the world has such nodes, and these messages wait
pub record Holds (n : ℕ) (w : World) (x y : Here) (waiting : List (Message Value)) : Type 0 where
  pub nodes : IsPair n x y w.nodes
  pub waits : Waits w waiting

-- ---- node 1 asks or tells the others

module _ (service : Declarations) (requests : List Request) (seed n : ℕ) where
  flush_pair : (w : World) (x y x' y' : Here) (xs sends : List (Message Value)) (after : List Here) → Holds n w x y xs → Hands service seed n w.nodes xs after sends → IsPair n x' y' after → Holds n (row service requests seed n w Flush).world x' y' sends
  flush_pair w x y x' y' xs sends after h hands pair =
      let f : Flushed service requests seed n w xs = flush_hands service requests seed n w xs h.waits hands.up in
      record {
        nodes = subst (IsPair n x' y') (sym (f.nodes ∙ hands.leads)) pair;
        waits = subst (λ (ms : List (Message Value)). Waits (row service requests seed n w Flush).world ms) hands.sent f.waits;
      }

  module _ (x y z : Here) (c : Content Value) (f : ℕ → List (Message Value)) (up : y.up ≡ true)
      (node : (q : ℕ) → (receive n (service_of service seed) q 1 c (begin y)).node ≡ z)
      (sends : (q : ℕ) → (receive n (service_of service seed) q 1 c (begin y)).sends ≡ f q) where
    -- the nodes after the first k were told
    record Told (nodes : List Here) (k : ℕ) : Type 0 where
      after : List Here
      hands : Hands service seed n nodes (each_other k (λ q. record { from = 1; to = q; content = c } ∷ [])) after (each_other k f)
      are : AreNodes n k x z y after

    told : (nodes : List Here) → IsPair n x y nodes → (k : ℕ) → suc k ≤ n → Told nodes (suc k)
    told nodes pair zero l = record { after = nodes; hands = hands_none service seed n nodes; are = begin_at n x z y nodes pair }
    told nodes pair (suc k) l = go (told nodes pair k (omega (arith, l)))
      where
        go : Told nodes (suc k) → Told nodes (suc (suc k))
        go h =
            let there : node_at h.after (suc (suc k)) ≡ y = h.are.later (suc (suc k)) (omega arith) l (omega arith) in
            let no : eqb (suc (suc k)) 1 ≡ false = ne_eqb (suc (suc k)) 1 (λ e. omega (arith, e)) in
            record {
              after = put h.after (suc (suc k)) z;
              hands =
                  subst (λ (t : Bool). Hands service seed n nodes (cond t (each_other (suc k) (λ q. record { from = 1; to = q; content = c } ∷ [])) (each_other (suc k) (λ q. record { from = 1; to = q; content = c } ∷ []) ++ record { from = 1; to = suc (suc k); content = c } ∷ [])) (put h.after (suc (suc k)) z) (cond t (each_other (suc k) f) (each_other (suc k) f ++ f (suc (suc k))))) (sym no)
                  (hands_push service seed n nodes h.after (each_other (suc k) (λ q. record { from = 1; to = q; content = c } ∷ [])) (each_other (suc k) f) (record { from = 1; to = suc (suc k); content = c }) z (f (suc (suc k))) h.hands
                  (ap (λ (d : Here). d.up) there ∙ up)
                  (ap (λ (d : Here). (receive n (service_of service seed) (suc (suc k)) 1 c (begin d)).node) there ∙ node (suc (suc k)))
                  (ap (λ (d : Here). (receive n (service_of service seed) (suc (suc k)) 1 c (begin d)).sends) there ∙ sends (suc (suc k))));
              are = move_on n x z y h.after (suc k) (omega arith) l h.are;
            }

    tell_by : (m : ℕ) → m ≡ n → (w : World) → 1 ≤ m → Holds n w x y (others m 1 c) → Holds n (row service requests seed n w Flush).world x z (each_other m f)
    tell_by zero e w some h = absurd (omega (arith, some))
    tell_by (suc k) e w some h =
        let g : Told w.nodes (suc k) = told w.nodes h.nodes k (omega (arith, e)) in
        flush_pair w x y x z (each_other (suc k) (λ q. record { from = 1; to = q; content = c } ∷ [])) (each_other (suc k) f) g.after
        (record { nodes = h.nodes; waits = subst (Waits w) (others_are (suc k) c) h.waits })
        g.hands (end_at n x z y g.after (subst (λ (m : ℕ). AreNodes n m x z y g.after) e g.are))

    -- a flush of what node 1 asks or tells them
    pub tell : (w : World) → 1 ≤ n → Holds n w x y (others n 1 c) → Holds n (row service requests seed n w Flush).world x z (each_other n f)
    tell w some h = tell_by n refl w some h

  -- ---- the others answer

  module _ (y : Here) (c : Content Value) (J : ℕ → Here → List (Message Value) → Type 0)
      (up : (k : ℕ) (x : Here) (s : List (Message Value)) → J k x s → x.up ≡ true)
      (next : (k : ℕ) (x : Here) (s : List (Message Value)) → 1 ≤ k → suc k ≤ n → J k x s
      → J (suc k) (receive n (service_of service seed) 1 (suc k) c (begin x)).node (s ++ (receive n (service_of service seed) 1 (suc k) c (begin x)).sends)) where
    -- the nodes after the answers of the nodes up to k
    record Heard (nodes : List Here) (k : ℕ) : Type 0 where
      after : List Here
      x : Here
      sends : List (Message Value)
      hands : Hands service seed n nodes (answers k c) after sends
      are : IsPair n x y after
      holds : J k x sends

    heard : (nodes : List Here) (x : Here) → IsPair n x y nodes → J 1 x [] → (k : ℕ) → suc k ≤ n → Heard nodes (suc k)
    heard nodes x pair j zero l = record { after = nodes; x = x; sends = []; hands = hands_none service seed n nodes; are = pair; holds = j }
    heard nodes x pair j (suc k) l = go (heard nodes x pair j k (omega (arith, l)))
      where
        go : Heard nodes (suc k) → Heard nodes (suc (suc k))
        go h =
            let no : eqb (suc (suc k)) 1 ≡ false = ne_eqb (suc (suc k)) 1 (λ e. omega (arith, e)) in
            record {
              after = put h.after 1 (receive n (service_of service seed) 1 (suc (suc k)) c (begin h.x)).node;
              x = (receive n (service_of service seed) 1 (suc (suc k)) c (begin h.x)).node;
              sends = h.sends ++ (receive n (service_of service seed) 1 (suc (suc k)) c (begin h.x)).sends;
              hands =
                  subst (λ (t : Bool). Hands service seed n nodes (cond t (answers (suc k) c) (answers (suc k) c ++ record { from = suc (suc k); to = 1; content = c } ∷ [])) (put h.after 1 (receive n (service_of service seed) 1 (suc (suc k)) c (begin h.x)).node) (h.sends ++ (receive n (service_of service seed) 1 (suc (suc k)) c (begin h.x)).sends)) (sym no)
                  (hands_push service seed n nodes h.after (answers (suc k) c) h.sends (record { from = suc (suc k); to = 1; content = c }) _ _ h.hands
                  (ap (λ (d : Here). d.up) h.are.first ∙ up (suc k) h.x h.sends h.holds)
                  (ap (λ (d : Here). (receive n (service_of service seed) 1 (suc (suc k)) c (begin d)).node) h.are.first)
                  (ap (λ (d : Here). (receive n (service_of service seed) 1 (suc (suc k)) c (begin d)).sends) h.are.first));
              are = put_first n h.x _ y h.after (omega (arith, l)) h.are;
              holds = next (suc k) h.x h.sends (omega arith) l h.holds;
            }

    -- the world after the answers of all
    pub record Answered (w : World) : Type 0 where
      pub x : Here
      pub sends : List (Message Value)
      pub holds : Holds n w x y sends
      pub leads : J n x sends

    answer_by : (m : ℕ) → m ≡ n → (w : World) (x : Here) → 1 ≤ m → Holds n w x y (answers m c) → J 1 x [] → Answered (row service requests seed n w Flush).world
    answer_by zero e w x some h j = absurd (omega (arith, some))
    answer_by (suc k) e w x some h j =
        let g : Heard w.nodes (suc k) = heard w.nodes x h.nodes j k (omega (arith, e)) in
        record {
          x = g.x;
          sends = g.sends;
          holds = flush_pair w x y g.x y (answers (suc k) c) g.sends g.after h g.hands g.are;
          leads = subst (λ (m : ℕ). J m g.x g.sends) e g.holds;
        }

    -- a flush of what they answer
    pub answer : (w : World) (x : Here) → 1 ≤ n → Holds n w x y (answers n c) → J 1 x [] → Answered (row service requests seed n w Flush).world
    answer w x some h j = answer_by n refl w x some h j

-- ---- node 1 does something

pub call_first : (n : ℕ) (w : World) (x y : Here) (call : CallHere → CallHere) (done : ℕ) → 1 ≤ n → x.up ≡ true → Holds n w x y []
    → Holds n (record (at_node w 1 call).world { done = done }) (call (begin x)).node y (call (begin x)).sends
call_first n w x y call done some up h =
    let c : Called w (record (at_node w 1 call).world { done = done }) 1 (call (begin (node_at w.nodes 1))) = call_sends w 1 call done h.waits (ap (λ (d : Here). d.up) h.nodes.first ∙ up) in
    record {
      nodes = subst (IsPair n (call (begin x)).node y) (sym (c.nodes ∙ ap (λ (d : Here). put w.nodes 1 (call (begin d)).node) h.nodes.first)) (put_first n x (call (begin x)).node y w.nodes some h.nodes);
      waits = subst (λ (d : Here). Waits (record (at_node w 1 call).world { done = done }) (call (begin d)).sends) h.nodes.first c.waits;
    }
