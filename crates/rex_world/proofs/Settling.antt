-- A node's step that was told, and of which what the node has come to know was agreed.
use Rattle.rex_world.proofs.Common.{◌≡◌, ℕ, length, drop, sym, ap, subst, ◌∙◌, Vec, Declarations, IsNode, Begins, Row, node_at, put, Step, Told, World, learned, Member, heres, records_at, nodes_of, IsRunning, ComesTo, IsSettled}
use Rattle.rex_world.proofs.Coming.{CameTo, TellsStep}
use Rattle.rex_world.proofs.Growing.{settled_running, settled_world}

module _ {S : Type 0} {service : Declarations} {w x : World S} (h : IsRunning service w) {m : ℕ} (there : IsNode (nodes_of w) m) {count : ℕ} (count_is : count ≡ length (records_at w.nodes.items m)) {nodes : Vec Member} {told told2 : Told} {step : Step}
    (t : IsSettled service m count (record w { nodes = nodes }) x told told2 step) where
  nodes_are : x.nodes.items ≡ nodes.items
  nodes_are = ap (λ v. v.nodes.items) t.rest

  -- before what the node has come to know was agreed, its step was told
  pub tells_step : TellsStep w (record x { agreed = w.agreed }) nodes told told2 step
  tells_step = record { sends = t.sends; effects = t.effects; rest = ap (λ v. let y : World S = record v { agreed = w.agreed } in y) t.rest }

  pub settled : {r : Row} → CameTo service w (record x { agreed = w.agreed }) told told2 r → heres service w.agreed nodes.items ≡ put (heres service w.agreed w.nodes.items) m (node_at (heres service w.agreed nodes.items) m)
      → length nodes.items ≡ nodes_of w → Begins (records_at w.nodes.items m) (records_at nodes.items m) → ComesTo service w x told told2 r
  settled c others many grown =
      let on : heres service w.agreed x.nodes.items ≡ put (heres service w.agreed w.nodes.items) m (node_at (heres service w.agreed x.nodes.items) m) =
      subst (λ xs. heres service w.agreed xs ≡ put (heres service w.agreed w.nodes.items) m (node_at (heres service w.agreed xs) m)) (sym nodes_are) others in
      let as_many : nodes_of x ≡ nodes_of w = ap length nodes_are ∙ many in
      let more : Begins (records_at w.nodes.items m) (records_at x.nodes.items m) = subst (λ xs. Begins (records_at w.nodes.items m) (records_at xs m)) (sym nodes_are) grown in
      let is : x.agreed ≡ learned w.agreed (drop (length (records_at w.nodes.items m)) (records_at x.nodes.items m)) =
      t.agreed ∙ ap (λ xs. learned w.agreed (drop count (records_at xs m))) (sym nodes_are) ∙ ap (λ k. learned w.agreed (drop k (records_at x.nodes.items m))) count_is in
      record {
        did = record { world = settled_world service w x h m there c.works as_many on more is ∙ c.did.world; effects = c.did.effects; sent = c.did.sent };
        goes = record {
          running = settled_running service w x h m there c.works as_many on more is;
          same = record { nodes = as_many; requests = c.same.requests; seed = c.same.seed };
          done = c.done;
        };
      }
