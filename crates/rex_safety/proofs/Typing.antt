-- Where all numbers of a service and of events are of 64 bits, those of states are.
use Rattle.std.proofs.Common.{ℕ, zero, suc, ◌/◌, Bool, true, false, cond, List, [], ◌∷◌, get_or, sym, subst, arith, div-le_self, Fits, of_z}
use Rattle.std.specs.Prelude.{ℤ, pos, negsuc, FitsSigned, fold, int_div, int_rem, neg_ℤ, ◌+ℤ◌, ◌-ℤ◌, ◌*ℤ◌}
use Rattle.std.specs.List.{All}
use Rattle.std.specs.Int.{w64, int_wrapping_div}
use lib.Signed.{mag_rem}
use Rattle.std.specs.Ordering.{int_eq}
use Rattle.std.proofs.Math.Facts.{sfits_to_z}
use Rattle.std.proofs.lemmas.Int.{SFits-int_wrap, wrapping_add_is, wrapping_sub_is, wrapping_mul_is}
use Rattle.rex_syntax.specs.declared.expr.Operator.{Operator}
use Rattle.rex_syntax.specs.declared.expr.Operator.TheVariants.{Add, Sub, Mul, Div, Rem, Equal, NotEqual, Less, LessEqual, Greater, GreaterEqual}
use Rattle.rex_syntax.specs.Expr.{truth_value, applied, operand_value, joined_with, expr_value}
use Rattle.std.specs.Prelude.{nat_le}
use Rattle.std.proofs.lemmas.List.Elements.{All-head, All-tail, All-set}
use Rattle.rex_syntax.specs.declared.expr.Operand.{Operand}
use Rattle.rex_syntax.specs.declared.expr.Operand.TheVariants.{Number, Local, Variable as OfVariable}
use Rattle.rex_syntax.specs.declared.expr.Term.{Term}
use Rattle.rex_syntax.specs.declared.expr.Expr.{Expr}
use Rattle.rex_syntax.specs.declared.line.Line.{Line}
use Rattle.rex_syntax.specs.declared.line.Line.TheVariants as line
use Rattle.rex_frame.specs.declared.frame.Frame.{Frame}
use Rattle.rex_frame.specs.Step.{value_in, does_stand, innermost, turned_by, frame_after, variables_after}
use Rattle.rex_frame.specs.Segment.{line_at, walk}
use Rattle.rex_syntax.specs.Typed.{OperandIsTyped, TermIsTyped, ExprIsTyped, NumbersAreTyped, LineIsTyped}

pub truth_fits : (b : Bool) → FitsSigned w64 (truth_value b)
truth_fits true = record { sfits = omega arith }
truth_fits false = record { sfits = omega arith }

-- the bits of a quotient are of 64 bits
quot_bits : (x y : ℤ) → FitsSigned w64 x → Fits w64 (of_z w64 (int_div x y))
quot_bits (pos a) (pos b) f = record { fits = omega (arith, div-le_self a b, f.sfits) }
quot_bits (pos a) (negsuc b) f = below (a / suc b)
  where
    below : (k : ℕ) → Fits w64 (of_z w64 (neg_ℤ (pos k)))
    below zero = record { fits = omega arith }
    below (suc k) = record { fits = omega arith }
quot_bits (negsuc a) (pos b) f = below (suc a / b)
  where
    below : (k : ℕ) → Fits w64 (of_z w64 (neg_ℤ (pos k)))
    below zero = record { fits = omega arith }
    below (suc k) = record { fits = omega arith }
quot_bits (negsuc a) (negsuc b) f = record { fits = omega (arith, div-le_self (suc a) (suc b), f.sfits) }

rem_fits : (x y : ℤ) → FitsSigned w64 x → FitsSigned w64 (int_rem x y)
rem_fits x y f = record { sfits = omega (arith, mag_rem x y, f.sfits) }

pub applied_fits : (o : Operator) (x y : ℤ) → FitsSigned w64 x → FitsSigned w64 y → FitsSigned w64 (applied o x y)
applied_fits Add x y f g = subst (FitsSigned w64) (sym (wrapping_add_is w64 x y f g)) (SFits-int_wrap w64 (x +ℤ y))
applied_fits Sub x y f g = subst (FitsSigned w64) (sym (wrapping_sub_is w64 x y f g)) (SFits-int_wrap w64 (x -ℤ y))
applied_fits Mul x y f g = subst (FitsSigned w64) (sym (wrapping_mul_is w64 x y f g)) (SFits-int_wrap w64 (x *ℤ y))
applied_fits Div x y f g = go (int_eq y (pos 0))
  where
    go : (t : Bool) → FitsSigned w64 (cond t (pos 0) (int_wrapping_div w64 x y))
    go true = record { sfits = omega arith }
    go false = sfits_to_z (quot_bits x y f)
applied_fits Rem x y f g = go (int_eq y (pos 0))
  where
    go : (t : Bool) → FitsSigned w64 (cond t x (int_rem x y))
    go true = f
    go false = rem_fits x y f
applied_fits Equal x y f g = truth_fits _
applied_fits NotEqual x y f g = truth_fits _
applied_fits Less x y f g = truth_fits _
applied_fits LessEqual x y f g = truth_fits _
applied_fits Greater x y f g = truth_fits _
applied_fits GreaterEqual x y f g = truth_fits _

-- ---- expressions

-- each of these numbers is of 64 bits
abbrev pub AreTyped : List ℤ → Type 0
AreTyped xs = All (FitsSigned w64) xs

pub zero_fits : FitsSigned w64 (pos 0)
zero_fits = record { sfits = omega arith }

at_fits : (xs : List ℤ) → AreTyped xs → (i : ℕ) → FitsSigned w64 (get_or xs i (pos 0))
at_fits [] h i = zero_fits
at_fits (x ∷ xs) h zero = All-head (FitsSigned w64) x xs h
at_fits (x ∷ xs) h (suc i) = at_fits xs (All-tail (FitsSigned w64) x xs h) i

module _ (locals variables : List ℤ) (l : AreTyped locals) (v : AreTyped variables) where
  operand_fits : (o : Operand) → OperandIsTyped o → FitsSigned w64 (operand_value o locals variables)
  operand_fits (Number n) h = h
  operand_fits (Local i) h = at_fits locals l i
  operand_fits (OfVariable i) h = at_fits variables v i

  rest_fits : (ts : List Term) → All TermIsTyped ts → (x : ℤ) → FitsSigned w64 x → FitsSigned w64 (fold (joined_with locals variables) x ts)
  rest_fits [] h x f = f
  rest_fits (t ∷ ts) h x f =
      rest_fits ts (All-tail TermIsTyped t ts h) (joined_with locals variables x t)
      (applied_fits t.operator x (operand_value t.operand locals variables) f (operand_fits t.operand (All-head TermIsTyped t ts h).operand))

  pub expr_fits : (e : Expr) → ExprIsTyped e → FitsSigned w64 (expr_value e locals variables)
  expr_fits e h = rest_fits e.rest h.rest (operand_value e.first locals variables) (operand_fits e.first h.first)

-- ---- lines

-- a frame's locals are
pub record FrameIsTyped (f : Frame) : Type 0 where
  pub locals : AreTyped f.locals.items

module _ (f : Frame) (variables : List ℤ) (h : FrameIsTyped f) (v : AreTyped variables) where
  pub value_fits : (e : Expr) → ExprIsTyped e → FitsSigned w64 (value_in e f variables)
  value_fits e t = expr_fits f.locals.items variables h.locals v e t

  turned_typed : (t : Bool) → FrameIsTyped (turned_by t f)
  turned_typed true = record { locals = h.locals }
  turned_typed false = record { locals = h.locals }

  frame_typed : (line : Line) → NumbersAreTyped line → FrameIsTyped (frame_after line f variables)
  frame_typed (line.Let local value) t = record { locals = All-set (FitsSigned w64) f.locals.items local (value_in value f variables) (value_fits value t) h.locals }
  frame_typed line.EndRepeat t = turned_typed (nat_le (innermost f).left 1)
  frame_typed _ t = record { locals = h.locals }

  variables_typed : (line : Line) → NumbersAreTyped line → AreTyped (variables_after line f variables)
  variables_typed (line.Set variable value) t = All-set (FitsSigned w64) variables variable (value_in value f variables) (value_fits value t) v
  variables_typed _ t = v

-- the line at a place, past the last one too
pub line_typed : (lines : List Line) → All LineIsTyped lines → (i : ℕ) → NumbersAreTyped (get_or lines i line.EndIf)
line_typed [] h i = tt
line_typed (x ∷ xs) h zero = (All-head LineIsTyped x xs h).numbers
line_typed (x ∷ xs) h (suc i) = line_typed xs (All-tail LineIsTyped x xs h) i

-- a frame and variables are
pub record RunIsTyped (r : Frame × List ℤ) : Type 0 where
  pub frame : FrameIsTyped r.0
  pub variables : AreTyped r.1

pub walk_typed : (lines : List Line) → All LineIsTyped lines → (k : ℕ) (f : Frame) (variables : List ℤ) → FrameIsTyped f → AreTyped variables → RunIsTyped (walk lines k f variables)
walk_typed lines t zero f variables h v = record { frame = h; variables = v }
walk_typed lines t (suc k) f variables h v =
    go (does_stand (line_at lines f) f variables)
    (walk_typed lines t k (frame_after (line_at lines f) f variables) (variables_after (line_at lines f) f variables)
    (frame_typed f variables h v (line_at lines f) (line_typed lines t f.place)) (variables_typed f variables h v (line_at lines f) (line_typed lines t f.place)))
  where
    go : (b : Bool) → RunIsTyped (walk lines k (frame_after (line_at lines f) f variables) (variables_after (line_at lines f) f variables))
        → RunIsTyped (cond b (f, variables) (walk lines k (frame_after (line_at lines f) f variables) (variables_after (line_at lines f) f variables)))
    go true r = record { frame = h; variables = v }
    go false r = r
