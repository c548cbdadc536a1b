-- Declarations that grow keep what they had.
use Rattle.std.proofs.Common.{◌≡◌, ℕ, zero, suc, ◌≤◌, List, [], ◌∷◌, ◌++◌, length, Some, arith}
use Rattle.std.specs.Prelude.{slice_get}
use Rattle.std.specs.List.{All}
use Rattle.std.proofs.lemmas.List.Elements.{All-weaker}
use Rattle.rex_syntax.specs.declared.expr.Operand.{Operand}
use Rattle.rex_syntax.specs.declared.expr.Operand.TheVariants.{Number, Local, Variable}
use Rattle.rex_syntax.specs.declared.expr.Term.{Term}
use Rattle.rex_syntax.specs.declared.expr.Expr.{Expr}
use Rattle.rex_syntax.specs.declared.line.Line.{Line}
use Rattle.rex_syntax.specs.declared.line.Line.TheVariants.{Share, Try, Busy, EndTry, Wait, Set, Let, If, Else, EndIf, Repeat, EndRepeat, Reply}
use Rattle.rex_syntax.specs.declared.service.Lock.{Lock}
use Rattle.rex_syntax.specs.declared.service.LockKind.{LockKind}
use Rattle.rex_syntax.specs.declared.service.Handler.{Handler}
use Rattle.rex_syntax.specs.declared.service.Declarations.{Declarations}
use Rattle.rex_syntax.specs.Expr.{OperandFits, ExprFits}
use Rattle.rex_syntax.specs.Service.{IsLock, LineNames, IsHandler}

-- the locks of one are the first of the other, which has as many semaphores, conditions and variables at least
pub record Extends (old new : Declarations) : Type 0 where
  pub locks : (n : ℕ) (l : Lock) → slice_get old.locks n ≡ Some l → slice_get new.locks n ≡ Some l
  pub more_locks : length old.locks ≤ length new.locks
  pub more_semaphores : length old.semaphores ≤ length new.semaphores
  pub more_conditions : length old.conditions ≤ length new.conditions
  pub more_variables : length old.variables ≤ length new.variables

pub slice_get-push : {X : Type 0} (xs ys : List X) (n : ℕ) (x : X) → slice_get xs n ≡ Some x → slice_get (xs ++ ys) n ≡ Some x
slice_get-push [] ys n x e = absurd cc
slice_get-push (y ∷ xs) ys zero x e = e
slice_get-push (y ∷ xs) ys (suc n) x e = slice_get-push xs ys n x e

pub IsLock-more : (old new : Declarations) → Extends old new → (kind : LockKind) (n : ℕ) → IsLock old kind n → IsLock new kind n
IsLock-more old new x kind n h = record { found = h.found; there = x.locks n h.found h.there; kind_is = h.kind_is }

operand_more : (l m v w : ℕ) → l ≤ m → v ≤ w → (o : Operand) → OperandFits l v o → OperandFits m w o
operand_more l m v w few less (Number n) h = h
operand_more l m v w few less (Local i) h = omega arith
operand_more l m v w few less (Variable i) h = omega arith

pub expr_more : (l m v w : ℕ) → l ≤ m → v ≤ w → (e : Expr) → ExprFits l v e → ExprFits m w e
expr_more l m v w few less e h =
    (operand_more l m v w few less e.first h.0, All-weaker (λ (t : Term). OperandFits l v t.operand) (λ (t : Term). OperandFits m w t.operand) (λ t q. operand_more l m v w few less t.operand q) e.rest h.1)

pub line_more : (old new : Declarations) → Extends old new → (l m : ℕ) → l ≤ m → (line : Line) → LineNames old l line → LineNames new m line
line_more old new x l m few (Share lock) h = IsLock-more old new x _ lock h
line_more old new x l m few (Try lock busy) h = IsLock-more old new x _ lock h
line_more old new x l m few (Busy end) h = tt
line_more old new x l m few EndTry h = tt
line_more old new x l m few (Wait condition test) h = (omega (arith, x.more_conditions, h.0), expr_more l m _ _ few x.more_variables test h.1)
line_more old new x l m few (Set variable value) h = (omega (arith, x.more_variables, h.0), expr_more l m _ _ few x.more_variables value h.1)
line_more old new x l m few (Let local value) h = (omega (arith, h.0), expr_more l m _ _ few x.more_variables value h.1)
line_more old new x l m few (If test otherwise) h = expr_more l m _ _ few x.more_variables test h
line_more old new x l m few (Else end) h = tt
line_more old new x l m few EndIf h = tt
line_more old new x l m few (Repeat turns after) h = h
line_more old new x l m few EndRepeat h = tt
line_more old new x l m few (Reply value) h = expr_more l m _ _ few x.more_variables value h
line_more old new x l m few _ h = omega (arith, x.more_locks, x.more_semaphores, x.more_conditions)

pub lines_more : (old new : Declarations) → Extends old new → (l m : ℕ) → l ≤ m → (lines : List Line) → All (LineNames old l) lines → All (LineNames new m) lines
lines_more old new x l m few lines h = All-weaker (LineNames old l) (LineNames new m) (λ line q. line_more old new x l m few line q) lines h

pub handler_more : (old new : Declarations) → Extends old new → (h : Handler) → IsHandler old h → IsHandler new h
handler_more old new x h good = record {
  parameters = good.parameters;
  fewer = good.fewer;
  locals = good.locals;
  some = good.some;
  short = good.short;
  numbered = good.numbered;
  matched = good.matched;
  shaped = good.shaped;
  branches = good.branches;
  names = lines_more old new x h.locals h.locals (omega arith) h.lines good.names;
}
