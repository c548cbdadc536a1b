-- What the tests of a line's place and shape mean.
use Rattle.std.proofs.Common.{◌≡◌, ℕ, ◌≤◌, List, [], ◌∷◌, length, Bool, true, false, refl, ap, arith}
use Rattle.std.specs.Prelude.{◌&&◌, ◌||◌, not, nat_lt}
use Rattle.std.specs.Str.{bytes_eq}
use Rattle.std.proofs.lemmas.Bool.Decides.{nat_tests}
use Rattle.std.proofs.lemmas.Slice.Eq.{bytes_eq-Decides}
use Rattle.rex_text.specs.Text.{Word}
use Rattle.rex_parse.specs.Above.{is_open, innermost}
use Rattle.rex_parse.specs.Table.{Slot, Fixed, Heading, Expression, is_inside, suits, same, is_placed, is_misshapen}
use Rattle.rex_parse.specs.Fitting.{Fill}
use Rattle.rex_parse.specs.declared.language.Above.{Above}
use Rattle.rex_parse.specs.declared.language.Form.{Form}

same_is : (b c : Bool) → same b c ≡ true → b ≡ c
same_is true true e = refl
same_is true false e = absurd cc
same_is false true e = absurd cc
same_is false false e = refl

same_of : (b : Bool) → same b b ≡ true
same_of true = refl
same_of false = refl

both : (b c : Bool) → (b && c) ≡ true → (b ≡ true) × (c ≡ true)
both true c e = (refl, e)
both false c e = absurd cc

-- a line that may stand there
pub placed_is : (a : Above) (f : Form) → is_placed a f ≡ true → (is_inside f ≡ is_open a) × (suits f (innermost a) ≡ true)
placed_is a f e = let parts = both (same (is_inside f) (is_open a)) (suits f (innermost a)) e in (same_is (is_inside f) (is_open a) parts.0, parts.1)

pub placed_of : (a : Above) (f : Form) → is_inside f ≡ is_open a → suits f (innermost a) ≡ true → is_placed a f ≡ true
placed_of a f side block = rw (side, block, same_of (is_open a)) refl

-- ---- shapes

or_first : (b c : Bool) → (b || c) ≡ false → b ≡ false
or_first true c e = absurd cc
or_first false c e = refl

or_second : (b c : Bool) → (b || c) ≡ false → c ≡ false
or_second true c e = absurd cc
or_second false c e = e

fixed_is : (f w : Word) → not (bytes_eq w f) ≡ false → w ≡ f
fixed_is f w e = (bytes_eq-Decides w f).0 (undone (bytes_eq w f) e)
  where
    undone : (b : Bool) → not b ≡ false → b ≡ true
    undone true h = refl
    undone false h = absurd cc

fixed_of : (f : Word) → not (bytes_eq f f) ≡ false
fixed_of f = rw ((bytes_eq-Decides f f).1 refl) refl

few : (n : ℕ) → nat_lt 4 n ≡ false → n ≤ 4
few n e = grind (arith, nat_tests)

few_of : (n : ℕ) → n ≤ 4 → nat_lt 4 n ≡ false
few_of n le = grind (arith, nat_tests)

-- words of the right shape fill the slots
pub fill_of : (ss : List Slot) (ws : List Word) → is_misshapen ss ws ≡ false → Fill ss ws
fill_of [] [] e = refl
fill_of [] (w ∷ ws) e = absurd cc
fill_of (s ∷ ss) [] e = absurd cc
fill_of (Expression ∷ ss) (w ∷ ws) e = omega arith
fill_of (Heading ∷ ss) (w ∷ ws) e = (omega arith, omega (arith, few (length ws) e))
fill_of (Fixed f ∷ ss) (w ∷ ws) e =
    let here : w ≡ f = fixed_is f w (or_first (not (bytes_eq w f)) (is_misshapen ss ws) e) in
    (ws, ap (λ (x : Word). x ∷ ws) here, fill_of ss ws (or_second (not (bytes_eq w f)) (is_misshapen ss ws) e))
fill_of (_ ∷ ss) (w ∷ ws) e = (w, ws, refl, fill_of ss ws e)

-- words that fill the slots have the right shape
pub shape_of : (ss : List Slot) (ws : List Word) → Fill ss ws → is_misshapen ss ws ≡ false
shape_of [] ws h = rw h refl
shape_of (Expression ∷ ss) [] h = absurd (omega arith)
shape_of (Expression ∷ ss) (w ∷ ws) h = refl
shape_of (Heading ∷ ss) [] h = absurd (omega (arith, h.0))
shape_of (Heading ∷ ss) (w ∷ ws) h = few_of (length ws) (omega (arith, h.1))
shape_of (Fixed f ∷ ss) ws h = rw (h.1, fixed_of f) (shape_of ss h.0 h.2)
shape_of (_ ∷ ss) ws h = rw h.2 (shape_of ss h.1 h.3)
