-- Lists that are read at a place.
use Rattle.std.proofs.Common.{◌≡◌, ℕ, zero, suc, ◌<◌, inl, inr, arith, List, [], ◌∷◌, length, get_or, sym}
use Rattle.rex_event.specs.Order.{Has}

pub has_at : {A : Type 0} (l : List A) (i : ℕ) (a : A) → i < length l → a ≡ get_or l i a → Has a l
has_at [] i a h e = absurd (omega arith)
has_at (x ∷ xs) zero a h e = inl (sym e)
has_at (x ∷ xs) (suc i) a h e = inr (has_at xs i a (omega arith) e)
