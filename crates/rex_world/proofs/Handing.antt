-- The messages that wait are handed over, one after the other.
use Rattle.rex_world.proofs.Common.{◌≡◌, ℕ, suc, ◌+◌, ◌<◌, ◌≤◌, Bool, true, false, List, [], ◌∷◌, ◌++◌, length, map, take, drop, get_or, refl, sym, ◌∙◌, ap, subst, arith, append_assoc, add-one, length-append, if◌then◌else◌, list_all, take-suc, drop-length, replicate, map-append, length-drop, Request, Declarations, ScheduleLine, ModelWorld, Row, sent_from, Told, World, nodes_of, IsSame, Did}
use Rattle.std.proofs.Math.Seq.{take-append_seam}
use Rattle.std.proofs.lemmas.List.{append-nil, length-replicate, length-take-le, take-append-drop}
use Rattle.rex_schedule.specs.declared.scenario.ScheduleLine.TheVariants.{Deliver}
use Rattle.rex_cluster.specs.World.{step, steps, waiting_from}
use Rattle.rex_world.specs.Calls.{DidSteps}
use Rattle.rex_world.specs.Handing.{HandsOver, is_some_there, step_at}
use Rattle.rex_cluster.proofs.Handing.{all_are, are_all, deliver_leaves, front_set, front_true, grows_both, IsFront, none_wait, same_at, sent_parts, sent_since, SentMore, steps_effects, steps_world, waiting_more}

-- ---- which messages wait

steps_more : (place : ℕ) (b : Bool) (k : ℕ) → k ≡ place + 1 → map Deliver (if b then [] else k ∷ []) ≡ step_at place b
steps_more place true k e = refl
steps_more place false k e = ap (λ m. Deliver m ∷ []) e

some_more : (ns : List ℕ) (b : Bool) (k : ℕ) → is_some_there (ns ++ (if b then [] else k ∷ [])) ≡ (if b then is_some_there ns else true)
some_more [] true k = refl
some_more [] false k = refl
some_more (n ∷ ns) true k = refl
some_more (n ∷ ns) false k = refl

-- ---- steps one after the other

module _ (service : Declarations) (requests : List Request) (seed n : ℕ) where
  told_sent : {w v : ModelWorld} {a b : Told} {r : Row} → Did w v a b r → b.sent.items ≡ a.sent.items ++ sent_since w.messages v.messages
  told_sent {w} {a} d = d.sent ∙ ap (λ z. a.sent.items ++ sent_since w.messages z.messages) (sym d.world)

  did_both : {w v u : ModelWorld} {a b c : Told} (xs ys : List ScheduleLine) → DidSteps service requests seed n w v a b xs → DidSteps service requests seed n v u b c ys
      → SentMore w.messages v.messages → SentMore v.messages u.messages → DidSteps service requests seed n w u a c (xs ++ ys)
  did_both {w} {v} {u} {a} {b} {c} xs ys d e g h =
      let world : u ≡ (steps service requests seed n w (xs ++ ys)).world =
      e.world ∙ ap (λ z. (steps service requests seed n z ys).world) d.world ∙ sym (steps_world service requests seed n w xs ys) in
      record {
        world = world;
        effects = e.effects ∙ ap (λ es. es ++ (steps service requests seed n v ys).effects) d.effects
            ∙ ap (λ z. (a.effects.items ++ (steps service requests seed n w xs).effects) ++ (steps service requests seed n z ys).effects) d.world
            ∙ append_assoc a.effects.items (steps service requests seed n w xs).effects (steps service requests seed n (steps service requests seed n w xs).world ys).effects
            ∙ ap (λ es. a.effects.items ++ es) (sym (steps_effects service requests seed n w xs ys));
        sent = told_sent e
            ∙ ap (λ es. es ++ sent_since v.messages u.messages) (told_sent d)
            ∙ append_assoc a.sent.items (sent_since w.messages v.messages) (sent_since v.messages u.messages)
            ∙ ap (λ es. a.sent.items ++ es) (sym (sent_parts g h))
            ∙ ap (λ z. a.sent.items ++ sent_since w.messages z.messages) world;
      }

  -- ---- the messages up to a place

  -- those that waited below the place were handed over
  pub record HasHanded (w v : ModelWorld) (a b : Told) (place : ℕ) (waits : Bool) : Type 0 where
    pub did : DidSteps service requests seed n w v a b (map Deliver (waiting_from 1 (take place w.handed)))
    pub grows : SentMore w.messages v.messages
    pub front : IsFront place w.handed v.handed
    pub waits-is : waits ≡ is_some_there (waiting_from 1 (take place w.handed))

  -- none waits where each was handed over
  pub handed_first : {w : ModelWorld} {a : Told} {place : ℕ} → place ≤ length w.handed → list_all (λ (b : Bool). b) (take place w.handed) ≡ true → HasHanded w w a a place false
  handed_first {w} {a} {place} l h =
      let none : waiting_from 1 (take place w.handed) ≡ [] = none_wait 1 (take place w.handed) h in
      let front : take place w.handed ≡ replicate place true = all_are _ h ∙ ap (λ k. replicate k true) (length-take-le place w.handed l) in
      record {
        did = subst (λ ns. DidSteps service requests seed n w w a a (map Deliver ns)) (sym none) (record {
          world = refl;
          effects = sym (append-nil a.effects.items);
          sent = sym (append-nil a.sent.items) ∙ ap (λ xs. a.sent.items ++ sent_from (suc (length w.messages)) xs) (sym (drop-length w.messages));
        });
        grows = record { more = []; is = sym (append-nil w.messages) };
        front = record {
          more = [];
          is = sym (take-append-drop place w.handed) ∙ ap (λ xs. xs ++ drop place w.handed) front ∙ ap (λ xs. replicate place true ++ xs) (sym (append-nil (drop place w.handed)));
        };
        waits-is = ap is_some_there (sym none);
      }

  -- what a step for a place leaves
  record HasStepped (w v u : ModelWorld) (place : ℕ) : Type 0 where
    pub grows : SentMore v.messages u.messages
    pub front : IsFront (place + 1) w.handed u.handed

  stepped : {w v u : ModelWorld} {place : ℕ} (b : Bool) → place < length w.handed → length v.handed ≡ length v.messages → IsFront place w.handed v.handed → get_or w.handed place true ≡ b
      → u ≡ (steps service requests seed n v (step_at place b)).world → HasStepped w v u place
  stepped {w} {v} {place} true l even f e is =
      subst (λ z. HasStepped w v z place) (sym is)
      (record { grows = record { more = []; is = sym (append-nil v.messages) }; front = front_true l f e })
  stepped {w} {v} {place} false l even f e is =
      let inside : place < length v.messages =
      omega (arith, even, ap length f.is, length-append (replicate place true) (drop place w.handed ++ f.more), length-replicate place true, length-append (drop place w.handed) f.more, length-drop place w.handed, l) in
      let d = deliver_leaves service requests seed n v inside in
      subst (λ z. HasStepped w v z place) (sym (is ∙ ap (λ k. (step service requests seed n v (Deliver k)).world) (add-one place)))
      (record { grows = d.grows; front = front_set l f d.more d.handed-is })

  pub handed_next : {w v u : ModelWorld} {a b c : Told} {place : ℕ} {waited waits : Bool} → place < length w.handed → length v.handed ≡ length v.messages
      → HasHanded w v a b place waited → HandsOver service requests seed n v u b c place waited waits → HasHanded w u a c (place + 1) waits
  handed_next {w} {v} {u} {a} {b} {c} {place} {waited} l even h over =
      let at : Bool = get_or w.handed place true in
      let same : get_or v.handed place true ≡ at = same_at l h.front in
      let did : DidSteps service requests seed n v u b c (step_at place at) = subst (λ z. DidSteps service requests seed n v u b c (step_at place z)) same over.did in
      let s : HasStepped w v u place = stepped at l even h.front refl did.world in
      let k : 1 + length (take place w.handed) ≡ place + 1 = omega (arith, length-take-le place w.handed, l) in
      let next : waiting_from 1 (take (place + 1) w.handed) ≡ waiting_from 1 (take place w.handed) ++ (if at then [] else (1 + length (take place w.handed)) ∷ []) =
      ap (λ j. waiting_from 1 (take j w.handed)) (add-one place) ∙ ap (λ xs. waiting_from 1 xs) (take-suc w.handed place true l) ∙ waiting_more 1 (take place w.handed) at in
      record {
        did = subst (λ xs. DidSteps service requests seed n w u a c xs)
            (ap (λ xs. map Deliver (waiting_from 1 (take place w.handed)) ++ xs) (sym (steps_more place at (1 + length (take place w.handed)) k))
            ∙ sym (map-append Deliver (waiting_from 1 (take place w.handed)) (if at then [] else (1 + length (take place w.handed)) ∷ []))
            ∙ ap (λ ns. map Deliver ns) (sym next))
            (did_both (map Deliver (waiting_from 1 (take place w.handed))) (step_at place at) h.did did h.grows s.grows);
        grows = grows_both h.grows s.grows;
        front = s.front;
        waits-is = over.waits-is ∙ ap (λ z. if z then waited else true) same ∙ ap (λ z. if at then z else true) h.waits-is
            ∙ sym (some_more _ at (1 + length (take place w.handed))) ∙ ap is_some_there (sym next);
      }

  pub flushed_all : {w v : ModelWorld} {a b : Told} {place : ℕ} {waits : Bool} → HasHanded w v a b place waits → (place ≤ length v.handed) × (list_all (λ (b : Bool). b) (take place v.handed) ≡ true)
  flushed_all {w} {v} {b} {place} h =
      let long : length v.handed ≡ place + length (drop place w.handed ++ h.front.more) =
      ap length h.front.is ∙ length-append (replicate place true) (drop place w.handed ++ h.front.more) ∙ ap (λ k. k + length (drop place w.handed ++ h.front.more)) (length-replicate place true) in
      let front : take place v.handed ≡ replicate place true =
      ap (λ xs. take place xs) h.front.is
      ∙ subst (λ k. take k (replicate place true ++ (drop place w.handed ++ h.front.more)) ≡ replicate place true) (length-replicate place true) (take-append_seam (replicate place true) (drop place w.handed ++ h.front.more)) in
      (omega arith, ap (λ xs. list_all (λ b. b) xs) front ∙ are_all place)

-- ---- the same requests, seed and nodes

pub over_as : {S : Type 0} → {service : Declarations} {before after : World S} {v u : ModelWorld} {b c : Told} {place : ℕ} {waited waits : Bool} → IsSame before after
    → HandsOver service after.requests after.seed (nodes_of after) v u b c place waited waits → HandsOver service before.requests before.seed (nodes_of before) v u b c place waited waits
over_as {service} {before} {after} {v} {u} {b} {c} {place} {waited} {waits} same h =
    subst (λ k. HandsOver service before.requests before.seed k v u b c place waited waits) same.nodes
    (subst (λ s. HandsOver service before.requests s (nodes_of after) v u b c place waited waits) same.seed
    (subst (λ rs. HandsOver service rs after.seed (nodes_of after) v u b c place waited waits) same.requests h))

pub same_both : {S : Type 0} → {a b c : World S} → IsSame a b → IsSame b c → IsSame a c
same_both s t = record { nodes = t.nodes ∙ s.nodes; requests = t.requests ∙ s.requests; seed = t.seed ∙ s.seed }
