-- Orders that keep edges are linear extensions.
use Rattle.std.proofs.Common.{◌≡◌, ◌⊎◌, inl, inr, ℕ, true, List, [], ◌∷◌, ◌++◌}
use Rattle.rex_event.specs.declared.event.Event.{Event}
use Rattle.rex_event.specs.declared.delta.Cause.{Cause}
use Rattle.rex_event.specs.declared.delta.Delta.{Delta}
use Rattle.rex_event.specs.Order.{Has, Precedes, ConflictsBefore, Chain, IsLed, IsOrdered}
use Rattle.rex_event.specs.Cuts.{AreNumbered, is_below, below, IsConsistent}
use Rattle.rex_event.specs.Causes.{StepsTo, AreRight}
use Rattle.rex_clocks.proofs.Leads.{leads_through, leads_back, precedes_second, precedes_left, precedes_across}
use Rattle.rex_order.specs.Edges.{KeepsEdges, joined, HasEdge, AllRight}
use Rattle.rex_order.specs.Laws.{AllowExtensions}
use Rattle.rex_order.proofs.Lists.{NoneTwice, precedes_right, precedes_parts, precedes_through, chain_forward, kept_there, precedes_kept, kept_precedes}
use Rattle.rex_order.proofs.Numbered.{below_none}

one : {X : Type 0} {S : X → X → Type 0} {d e : X} → S d e → IsLed S d e
one s = ([], s)

module _ (counts : List ℕ) (es : List Event) (cut : List ℕ) (n : AreNumbered counts es) (c : IsConsistent es cut) where
  -- what has to come first in the part below the cut has to come first in the whole, and the other way round
  pub conflicts_whole : (d e : Event) → ConflictsBefore (below cut es) d e → ConflictsBefore es d e
  conflicts_whole d e k = record { before = kept_precedes (is_below cut) es d e k.before; meets = k.meets }

  pub conflicts_below : (d e : Event) → ConflictsBefore es d e → is_below cut e ≡ true → ConflictsBefore (below cut es) d e
  conflicts_below d e k b = record { before = precedes_kept (is_below cut) es d e (c.closed d e (one k) b) b k.before; meets = k.meets }

  second_below : (d e : Event) → ConflictsBefore (below cut es) d e → is_below cut e ≡ true
  second_below d e k = (kept_there (is_below cut) es e (precedes_second d e (below cut es) k.before)).1

  ordered_by : (d e : Event) (via : List Event) → Chain (ConflictsBefore es) d via e → is_below cut e ≡ true → Chain (ConflictsBefore (below cut es)) d via e
  ordered_by d e [] k b = conflicts_below d e k b
  ordered_by d e (y ∷ via) k b = (conflicts_below d y k.0 (c.closed y e (via, k.1) b), ordered_by y e via k.1 b)

  module _ (Edge : Event → Event → Type 0) (sound : (d e : Event) → Edge d e → IsOrdered es d e) (complete : (d e : Event) → ConflictsBefore es d e → IsLed Edge d e) where
    below_back : (d e : Event) → Edge d e → is_below cut e ≡ true → is_below cut d ≡ true
    below_back d e s b = c.closed d e (sound d e s) b

    -- edges lead forward in an order that keeps them
    forward : (fs : List Event) → NoneTwice fs → KeepsEdges Edge es cut fs → (d e : Event) (via : List Event) → Chain Edge d via e → is_below cut e ≡ true → Precedes d e fs
    forward fs none k d e [] s b = k.kept d e s b
    forward fs none k d e (y ∷ via) s b =
        let b' : is_below cut y ≡ true = leads_back Edge (λ (x : Event). is_below cut x ≡ true) below_back y e (via, s.1) b in
        precedes_through fs d y e none (k.kept d y s.0 b') (forward fs none k y e via s.1 b)

    pub allow_extensions : AllowExtensions Edge es cut
    allow_extensions = record {
      only = λ fs k.
          let none : NoneTwice fs = below_none counts es cut fs n k.rearranged in
          record {
            rearranged = k.rearranged;
            kept = λ d e o. chain_forward (ConflictsBefore (below cut es)) fs d e o.0 none
                (λ x y m. let l = complete x y (conflicts_whole x y m) in forward fs none k x y l.0 l.1 (second_below x y m)) o.1;
          };
      each = λ fs x. record {
        rearranged = x.rearranged;
        kept = λ d e s b. let o = sound d e s in x.kept d e (o.0, ordered_by d e o.0 o.1 b);
      };
    }

-- where causes are right, the order of each lane with them allows linear extensions
pub edges_allow_extensions : (counts : List ℕ) (es : List Event) (causes : List (List Cause)) (cut : List ℕ) → AreNumbered counts es → AreRight es causes → IsConsistent es cut → AllowExtensions (StepsTo es causes) es cut
edges_allow_extensions counts es causes cut n right c =
    allow_extensions counts es cut n c (StepsTo es causes) (λ d e s. right.sound d e (one s)) (λ d e k. right.complete d e (one k))

-- ---- deltas

ordered_left : (xs ys : List Event) (d e : Event) → IsOrdered xs d e → IsOrdered (xs ++ ys) d e
ordered_left xs ys d e o = leads_through (ConflictsBefore xs) (ConflictsBefore (xs ++ ys)) (λ x y k. one (record { before = precedes_left x y xs ys k.before; meets = k.meets })) d e o

ordered_right : (xs ys : List Event) (d e : Event) → IsOrdered ys d e → IsOrdered (xs ++ ys) d e
ordered_right xs ys d e o = leads_through (ConflictsBefore ys) (ConflictsBefore (xs ++ ys)) (λ x y k. one (record { before = precedes_right xs ys x y k.before; meets = k.meets })) d e o

-- edges of deltas go from what has to come first
edges_sound : (deltas : List Delta) → AllRight deltas → (d e : Event) → HasEdge deltas d e → IsOrdered (joined deltas) d e
edges_sound [] right d e h = absurd h
edges_sound (delta ∷ deltas) right d e (inl s) = ordered_left delta.events (joined deltas) d e (right.0.sound d e (one s))
edges_sound (delta ∷ deltas) right d e (inr (inl h)) = one (record { before = precedes_across d e delta.events (joined deltas) h.here h.later; meets = h.meets })
edges_sound (delta ∷ deltas) right d e (inr (inr h)) = ordered_right delta.events (joined deltas) d e (edges_sound deltas right.1 d e h)

-- edges of deltas lead from each event to those that conflict with it behind it
edges_complete : (deltas : List Delta) → AllRight deltas → (d e : Event) → ConflictsBefore (joined deltas) d e → IsLed (HasEdge deltas) d e
edges_complete [] right d e k = absurd k.before
edges_complete (delta ∷ deltas) right d e k = by (edges_complete deltas right.1 d e) (precedes_parts delta.events (joined deltas) d e k.before)
  where
    by : (ConflictsBefore (joined deltas) d e → IsLed (HasEdge deltas) d e) → Precedes d e delta.events ⊎ ((Has d delta.events × Has e (joined deltas)) ⊎ Precedes d e (joined deltas)) → IsLed (HasEdge (delta ∷ deltas)) d e
    by later (inl b) = leads_through (StepsTo delta.events delta.causes) (HasEdge (delta ∷ deltas)) (λ x y s. one (inl s)) d e (right.0.complete d e (one (record { before = b; meets = k.meets })))
    by later (inr (inl b)) = one (inr (inl (record { here = b.0; later = b.1; meets = k.meets })))
    by later (inr (inr b)) = leads_through (HasEdge deltas) (HasEdge (delta ∷ deltas)) (λ x y s. one (inr (inr s))) d e (later (record { before = b; meets = k.meets }))

-- the same of deltas with causes that are right
pub deltas_allow_extensions : (counts : List ℕ) (deltas : List Delta) (cut : List ℕ) → AreNumbered counts (joined deltas) → AllRight deltas → IsConsistent (joined deltas) cut → AllowExtensions (HasEdge deltas) (joined deltas) cut
deltas_allow_extensions counts deltas cut n right c = allow_extensions counts (joined deltas) cut n c (HasEdge deltas) (edges_sound deltas right) (edges_complete deltas right)
