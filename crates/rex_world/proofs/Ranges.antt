-- Messages of a kept world have spellings.
use Rattle.rex_world.proofs.Common.{ℕ, ◌≤◌, List, [], ◌∷◌, ◌++◌, map, inl, inr, refl, subst, All, All-nil, All-cons, All-head, All-tail, most_nodes, Said, Declarations, Message, IsIn, Value, message_in, AreTold, IsTold}
use Rattle.rex_msg.specs.Spelling as message
use Rattle.rex_cluster.specs.World.{World}
use Rattle.rex_safety.specs.Laws.{NumbersFit, ValuesAreShort}
use Rattle.rex_log.proofs.Ranges.{HasShort, message_fits}

module _ {service : Declarations} {n : ℕ} (few : n ≤ most_nodes) {w : World} (numbers : NumbersFit n w) (short : ValuesAreShort service n w) where
  short_of : (x : Message Value) → IsIn x w.messages → HasShort x.content
  short_of x i = record {
    promised = λ b ps p e j. short.promised x b ps p i e j;
    asked = λ b k v e. short.asked x b k v i e;
    told = λ k v e. short.told x k v i e;
  }

  pub all_fit : (past : List Value) (ms : List Said) → AreTold service past ms → ((x : Message Value) → IsIn x (map (message_in past) ms) → IsIn x w.messages) → All message.IsMessage ms
  all_fit past [] told inside = All-nil message.IsMessage
  all_fit past (m ∷ ms) told inside =
      All-cons message.IsMessage m ms
      (message_fits past few (numbers.messages _ (inside (message_in past m) (inl refl))) (short_of _ (inside (message_in past m) (inl refl)))
      (λ k bytes e. (subst (IsTold service past) e (All-head (λ x. IsTold service past x.content) m ms told)).short))
      (all_fit past ms (All-tail (λ x. IsTold service past x.content) m ms told) (λ x i. inside x (inr i)))

-- it is behind other messages
pub is_behind : {A : Type 0} (xs ys : List A) (x : A) → IsIn x ys → IsIn x (xs ++ ys)
is_behind [] ys x i = i
is_behind (z ∷ xs) ys x i = inr (is_behind xs ys x i)
