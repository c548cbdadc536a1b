-- A flush hands over what waits, one message after the other.
use Rattle.std.proofs.Common.{◌≡◌, ℕ, suc, Bool, true, false, List, [], ◌∷◌, ◌++◌, length, refl, sym, ◌∙◌, ap, subst, arith, append_assoc, append-nil, length-append}
use Rattle.std.specs.Prelude.{◌+◌, ◌-◌, Option, Some, map, replicate, slice_get, slice_set}
use Rattle.std.proofs.Math.Seq.{set-append_seam}
use Rattle.rex_syntax.specs.declared.request.Request.{Request}
use Rattle.rex_syntax.specs.declared.service.Declarations.{Declarations}
use Rattle.rex_schedule.specs.declared.scenario.ScheduleLine.TheVariants.{Deliver, Flush}
use Rattle.rex_cluster.specs.Node.{Message}
use Rattle.rex_cluster.specs.Calls.{begin, receive}
use Rattle.rex_cluster.specs.Values.{Value, service_of}
use Rattle.rex_cluster.specs.Lanes.{Here, CallHere}
use Rattle.rex_cluster.specs.Reading.{stamp_at, seen_by_releases}
use Rattle.rex_cluster.specs.World.{World, node_at, put, after, if_up, at_node, with_handed, deliver_found, step, waiting_from, flush_steps, steps, finished, row}

-- ---- which messages were handed over

-- a flag for each message: each was handed over, or none
abbrev pub trues : {A : Type 0} → List A → List Bool
trues [] = []
trues (x ∷ xs) = true ∷ trues xs

abbrev pub falses : {A : Type 0} → List A → List Bool
falses [] = []
falses (x ∷ xs) = false ∷ falses xs

-- the numbers of messages, rising from this one on
abbrev numbers : {A : Type 0} → ℕ → List A → List ℕ
numbers number [] = []
numbers number (x ∷ xs) = number ∷ numbers (suc number) xs

module _ {A : Type 0} where
  pub trues_are : (xs : List A) → trues xs ≡ replicate (length xs) true
  trues_are [] = refl
  trues_are (x ∷ xs) = ap (λ (ts : List Bool). true ∷ ts) (trues_are xs)

  pub falses_are : (xs : List A) → replicate (length xs) false ≡ falses xs
  falses_are [] = refl
  falses_are (x ∷ xs) = ap (λ (ts : List Bool). false ∷ ts) (falses_are xs)

  trues_both : (xs ys : List A) → trues (xs ++ ys) ≡ trues xs ++ trues ys
  trues_both [] ys = refl
  trues_both (x ∷ xs) ys = ap (λ (ts : List Bool). true ∷ ts) (trues_both xs ys)

  falses_both : (xs ys : List A) → falses (xs ++ ys) ≡ falses xs ++ falses ys
  falses_both [] ys = refl
  falses_both (x ∷ xs) ys = ap (λ (ts : List Bool). false ∷ ts) (falses_both xs ys)

  trues_long : (xs : List A) → length (trues xs) ≡ length xs
  trues_long [] = refl
  trues_long (x ∷ xs) = ap suc (trues_long xs)

  found : (xs : List A) (y : A) (ys : List A) → slice_get (xs ++ y ∷ ys) (length xs) ≡ Some y
  found [] y ys = refl
  found (x ∷ xs) y ys = found xs y ys

  -- what waits are the messages after those that were handed over
  rest_waits : (number : ℕ) (xs : List A) → waiting_from number (falses xs) ≡ numbers number xs
  rest_waits number [] = refl
  rest_waits number (x ∷ xs) = ap (λ (ns : List ℕ). number ∷ ns) (rest_waits (suc number) xs)

  waits : (number : ℕ) (old xs : List A) → waiting_from number (trues old ++ falses xs) ≡ numbers (number + length old) xs
  waits number [] xs = rest_waits number xs ∙ ap (λ (k : ℕ). numbers k xs) (omega arith)
  waits number (y ∷ old) xs = waits (suc number) old xs ∙ ap (λ (k : ℕ). numbers k xs) (omega arith)

  -- one more message was handed over, and more were sent
  one_more : (old : List A) (x : A) (xs more sends : List A)
      → slice_set (trues old ++ falses (x ∷ (xs ++ more))) (length old) true ++ replicate (length sends) false ≡ trues (old ++ x ∷ []) ++ falses (xs ++ (more ++ sends))
  one_more old x xs more sends =
      let set : slice_set (trues old ++ false ∷ falses (xs ++ more)) (length old) true ≡ trues old ++ true ∷ falses (xs ++ more) =
      subst (λ (k : ℕ). slice_set (trues old ++ false ∷ falses (xs ++ more)) k true ≡ trues old ++ true ∷ falses (xs ++ more)) (trues_long old) (set-append_seam (trues old) false (falses (xs ++ more)) true) in
      let tail : falses (xs ++ more) ++ falses sends ≡ falses (xs ++ (more ++ sends)) = sym (falses_both (xs ++ more) sends) ∙ ap falses (append_assoc xs more sends) in
      ap (λ (ts : List Bool). ts ++ replicate (length sends) false) set
      ∙ (ap (λ (ts : List Bool). (trues old ++ true ∷ falses (xs ++ more)) ++ ts) (falses_are sends)
      ∙ (append_assoc (trues old) (true ∷ falses (xs ++ more)) (falses sends)
      ∙ (ap (λ (ts : List Bool). trues old ++ true ∷ ts) tail
      ∙ (sym (append_assoc (trues old) (true ∷ []) (falses (xs ++ (more ++ sends))))
      ∙ ap (λ (ts : List Bool). ts ++ falses (xs ++ (more ++ sends))) (sym (trues_both old (x ∷ [])))))))

  moved : (old : List A) (x : A) (xs more sends : List A) → (old ++ x ∷ (xs ++ more)) ++ sends ≡ (old ++ x ∷ []) ++ (xs ++ (more ++ sends))
  moved old x xs more sends =
      append_assoc old (x ∷ (xs ++ more)) sends
      ∙ (ap (λ (ys : List A). old ++ x ∷ ys) (append_assoc xs more sends)
      ∙ sym (append_assoc old (x ∷ []) (xs ++ (more ++ sends))))

-- these messages of the world wait, and all before them were handed over
pub record Waits (w : World) (waiting : List (Message Value)) : Type 0 where
  pub old : List (Message Value)
  pub messages : w.messages ≡ old ++ waiting
  pub handed : w.handed ≡ trues old ++ falses waiting

module _ (service : Declarations) (seed n : ℕ) where
  -- what a message's node does on it
  abbrev pub received : List Here → Message Value → CallHere
  received nodes x = receive n (service_of service seed) x.to x.from x.content (begin (node_at nodes x.to))

  -- the nodes after messages, one after the other, and what was sent then
  abbrev pub nodes_after : List Here → List (Message Value) → List Here
  nodes_after nodes [] = nodes
  nodes_after nodes (x ∷ xs) = nodes_after (put nodes x.to (received nodes x).node) xs

  abbrev pub sends_after : List Here → List (Message Value) → List (Message Value)
  sends_after nodes [] = []
  sends_after nodes (x ∷ xs) = (received nodes x).sends ++ sends_after (put nodes x.to (received nodes x).node) xs

  -- what clients have seen after a message, and after messages
  abbrev pub seen_next : List ℕ → List Here → Message Value → List ℕ
  seen_next seen nodes x = seen_by_releases (stamp_at (received nodes x).node) (received nodes x).effects seen

  abbrev pub seen_after : List ℕ → List Here → List (Message Value) → List ℕ
  seen_after seen nodes [] = seen
  seen_after seen nodes (x ∷ xs) = seen_after (seen_next seen nodes x) (put nodes x.to (received nodes x).node) xs

  -- each message reaches a node that is up
  abbrev pub ReachUp : List Here → List (Message Value) → Type 0
  ReachUp nodes [] = Unit {0}
  ReachUp nodes (x ∷ xs) = ((node_at nodes x.to).up ≡ true) × ReachUp (put nodes x.to (received nodes x).node) xs

module _ (service : Declarations) (requests : List Request) (seed n : ℕ) where
  -- a world in which all but the last messages were handed over
  abbrev shaped : ℕ → List ℕ → List Here → List (Message Value) → List (Message Value) → World
  shaped done seen nodes old xs = record { done = done; nodes = nodes; messages = old ++ xs; handed = trues old ++ falses xs; seen = seen }

  called : (t : Bool) (w : World) (m : ℕ) (d : CallHere) → t ≡ true → (if_up t w m d).world ≡ (after w m d).world
  called t w m d e = ap (λ (t : Bool). (if_up t w m d).world) e

  delivered : (done : ℕ) (seen : List ℕ) (nodes : List Here) (old : List (Message Value)) (x : Message Value) (xs more : List (Message Value)) → (node_at nodes x.to).up ≡ true
      → (step service requests seed n (shaped done seen nodes old (x ∷ (xs ++ more))) (Deliver (suc (length old)))).world
      ≡ shaped done (seen_next service seed n seen nodes x) (put nodes x.to (received service seed n nodes x).node) (old ++ x ∷ []) (xs ++ (more ++ (received service seed n nodes x).sends))
  delivered done seen nodes old x xs more up =
      ap (λ (o : Option (Message Value)). (deliver_found service seed n (shaped done seen nodes old (x ∷ (xs ++ more))) (suc (length old)) o).world) (found old x (xs ++ more))
      ∙ (called (node_at nodes x.to).up (with_handed (shaped done seen nodes old (x ∷ (xs ++ more))) (suc (length old))) x.to (received service seed n nodes x) up
      ∙ (ap (λ (k : ℕ). (after (record (shaped done seen nodes old (x ∷ (xs ++ more))) { handed = slice_set (trues old ++ falses (x ∷ (xs ++ more))) k true }) x.to (received service seed n nodes x)).world) less
      ∙ (ap (λ (ms : List (Message Value)). record { done = done; nodes = put nodes x.to (received service seed n nodes x).node; messages = ms; handed = slice_set (trues old ++ falses (x ∷ (xs ++ more))) (length old) true ++ replicate (length (received service seed n nodes x).sends) false; seen = seen_next service seed n seen nodes x }) (moved old x xs more (received service seed n nodes x).sends)
      ∙ ap (λ (ts : List Bool). record { done = done; nodes = put nodes x.to (received service seed n nodes x).node; messages = (old ++ x ∷ []) ++ (xs ++ (more ++ (received service seed n nodes x).sends)); handed = ts; seen = seen_next service seed n seen nodes x }) (one_more old x xs more (received service seed n nodes x).sends))))
    where
      less : suc (length old) - 1 ≡ length old
      less = omega arith

  deliveries : (xs : List (Message Value)) (done : ℕ) (seen : List ℕ) (nodes : List Here) (old more : List (Message Value)) → ReachUp service seed n nodes xs
      → (steps service requests seed n (shaped done seen nodes old (xs ++ more)) (map Deliver (numbers (suc (length old)) xs))).world ≡ shaped done (seen_after service seed n seen nodes xs) (nodes_after service seed n nodes xs) (old ++ xs) (more ++ sends_after service seed n nodes xs)
  deliveries [] done seen nodes old more up =
      ap (λ (ms : List (Message Value)). shaped done seen nodes ms more) (sym (append-nil old)) ∙ ap (λ (ms : List (Message Value)). shaped done seen nodes (old ++ []) ms) (sym (append-nil more))
  deliveries (x ∷ xs) done seen nodes old more up =
      let longer : suc (suc (length old)) ≡ suc (length (old ++ x ∷ [])) = ap suc (omega (arith, length-append old (x ∷ []))) in
      ap (λ (w : World). (steps service requests seed n w (map Deliver (numbers (suc (suc (length old))) xs))).world) (delivered done seen nodes old x xs more up.0)
      ∙ (ap (λ (k : ℕ). (steps service requests seed n (shaped done (seen_next service seed n seen nodes x) (put nodes x.to (received service seed n nodes x).node) (old ++ x ∷ []) (xs ++ (more ++ (received service seed n nodes x).sends))) (map Deliver (numbers k xs))).world) longer
      ∙ (deliveries xs done (seen_next service seed n seen nodes x) (put nodes x.to (received service seed n nodes x).node) (old ++ x ∷ []) (more ++ (received service seed n nodes x).sends) up.1
      ∙ (ap (λ (ms : List (Message Value)). shaped done (seen_after service seed n (seen_next service seed n seen nodes x) (put nodes x.to (received service seed n nodes x).node) xs) (nodes_after service seed n (put nodes x.to (received service seed n nodes x).node) xs) ms ((more ++ (received service seed n nodes x).sends) ++ sends_after service seed n (put nodes x.to (received service seed n nodes x).node) xs)) (append_assoc old (x ∷ []) xs)
      ∙ ap (λ (ms : List (Message Value)). shaped done (seen_after service seed n (seen_next service seed n seen nodes x) (put nodes x.to (received service seed n nodes x).node) xs) (nodes_after service seed n (put nodes x.to (received service seed n nodes x).node) xs) (old ++ x ∷ xs) ms) (append_assoc more (received service seed n nodes x).sends (sends_after service seed n (put nodes x.to (received service seed n nodes x).node) xs)))))

  -- a flush hands over all that waits, and what is sent then waits
  flushes : (xs : List (Message Value)) (done : ℕ) (seen : List ℕ) (nodes : List Here) (old : List (Message Value)) → ReachUp service seed n nodes xs
      → (steps service requests seed n (shaped done seen nodes old xs) (flush_steps (numbers (suc (length old)) xs))).world ≡ shaped done (seen_after service seed n seen nodes xs) (nodes_after service seed n nodes xs) (old ++ xs) (sends_after service seed n nodes xs)
  flushes [] done seen nodes old up = ap (λ (ms : List (Message Value)). shaped done seen nodes ms []) (sym (append-nil old))
  flushes (x ∷ xs) done seen nodes old up =
      ap (λ (ms : List (Message Value)). (steps service requests seed n (shaped done seen nodes old (x ∷ ms)) (map Deliver (numbers (suc (length old)) (x ∷ xs)))).world) (sym (append-nil xs))
      ∙ deliveries (x ∷ xs) done seen nodes old [] up

  flushed : (w : World) (xs : List (Message Value)) (h : Waits w xs) → ReachUp service seed n w.nodes xs
      → (row service requests seed n w Flush).world ≡ shaped (w.done + 1) (seen_after service seed n w.seen w.nodes xs) (nodes_after service seed n w.nodes xs) (h.old ++ xs) (sends_after service seed n w.nodes xs)
  flushed w xs h up =
      let same : w ≡ shaped w.done w.seen w.nodes h.old xs =
      ap (λ (ms : List (Message Value)). record w { messages = ms }) h.messages ∙ ap (λ (ts : List Bool). record w { messages = h.old ++ xs; handed = ts }) h.handed in
      ap (λ (w : World). (row service requests seed n w Flush).world) same
      ∙ (ap (λ (ns : List ℕ). (finished (shaped w.done w.seen w.nodes h.old xs) (steps service requests seed n (shaped w.done w.seen w.nodes h.old xs) (flush_steps ns))).world) (waits 1 h.old xs ∙ ap (λ (k : ℕ). numbers k xs) (omega arith))
      ∙ ap (λ (v : World). record v { done = w.done + 1 }) (flushes xs w.done w.seen w.nodes h.old up))

  -- the world after a flush
  pub record Flushed (w : World) (xs : List (Message Value)) : Type 0 where
    pub nodes : (row service requests seed n w Flush).world.nodes ≡ nodes_after service seed n w.nodes xs
    pub waits : Waits (row service requests seed n w Flush).world (sends_after service seed n w.nodes xs)

  pub flush_hands : (w : World) (xs : List (Message Value)) → Waits w xs → ReachUp service seed n w.nodes xs → Flushed w xs
  flush_hands w xs h up =
      let e = flushed w xs h up in
      record {
        nodes = ap (λ (v : World). v.nodes) e;
        waits = record { old = h.old ++ xs; messages = ap (λ (v : World). v.messages) e; handed = ap (λ (v : World). v.handed) e };
      }

-- ---- calls

-- the world after a node that is up did something while nothing waited
pub record Called (w after : World) (m : ℕ) (d : CallHere) : Type 0 where
  pub nodes : after.nodes ≡ put w.nodes m d.node
  pub waits : Waits after d.sends

pub call_sends : (w : World) (m : ℕ) (call : CallHere → CallHere) (done : ℕ) → Waits w [] → (node_at w.nodes m).up ≡ true → Called w (record (at_node w m call).world { done = done }) m (call (begin (node_at w.nodes m)))
call_sends w m call done h up =
    let e : (at_node w m call).world ≡ (after w m (call (begin (node_at w.nodes m)))).world = ap (λ (t : Bool). (if_up t w m (call (begin (node_at w.nodes m)))).world) up in
    let none : w.messages ≡ h.old = h.messages ∙ append-nil h.old in
    let all : w.handed ≡ trues h.old = h.handed ∙ append-nil (trues h.old) in
    record {
      nodes = ap (λ (v : World). v.nodes) e;
      waits = record {
        old = h.old;
        messages = ap (λ (v : World). v.messages) e ∙ ap (λ (ms : List (Message Value)). ms ++ (call (begin (node_at w.nodes m))).sends) none;
        handed = ap (λ (v : World). v.handed) e
            ∙ (ap (λ (ts : List Bool). ts ++ replicate (length (call (begin (node_at w.nodes m))).sends) false) all
            ∙ ap (λ (ts : List Bool). trues h.old ++ ts) (falses_are (call (begin (node_at w.nodes m))).sends));
      };
    }
