-- What a word names is there, where no code fits it.
use Rattle.std.specs.Option.{option_or}
use Rattle.std.proofs.Common.{◌≡◌, ℕ, ℤ, ◌<◌, Bool, true, false, cond, not, ◌||◌, List, [], ◌∷◌, ◌++◌, length, Option, Some, None, refl, arith}
use Rattle.std.specs.Prelude.{find, option_map, slice_get}
use Rattle.std.proofs.lemmas.Bool.{not-false}
use Rattle.std.specs.List.{All, list_any, position_or_len}
use Rattle.std.specs.Str.{bytes_eq}
use Rattle.std.proofs.lemmas.List.Elements.{All-nil, All-cons, All-head, All-tail}
use Rattle.std.proofs.lemmas.List.Folds.{list_any-append}
use Rattle.std.proofs.lemmas.Slice.Eq.{bytes_eq-Decides}
use Rattle.rex_text.specs.Text.{Word}
use Rattle.rex_syntax.specs.declared.expr.Operand.TheVariants.{Number, Local, Variable}
use Rattle.rex_syntax.specs.declared.expr.Term.{Term}
use Rattle.rex_syntax.specs.declared.service.Lock.{Lock}
use Rattle.rex_syntax.specs.declared.service.LockKind.{LockKind}
use Rattle.rex_syntax.specs.declared.service.LockKind.TheVariants.{Plain, ReadersWriter}
use Rattle.rex_syntax.specs.Service.{IsLock}
use Rattle.rex_syntax.specs.Expr.{OperandFits, ExprFits}
use Rattle.rex_parse.specs.Words.{is_name, least, fits}
use Rattle.rex_parse.specs.Above.{meaning_in, meaning_of, is_local, local_place}
use Rattle.rex_parse.specs.Table.{lock_kind_code, lock_code, semaphore_kind_code, semaphore_code, is_same_kind, is_of_kind, lock_of_kind_code, lock_of_code, condition_kind_code, condition_code, variable_kind_code, variable_code, begins_number, number_code, operand_code, operator_code, expr_code, whole_expr_code}
use Rattle.rex_parse.specs.After.{service_of, lock_number, semaphore_number, condition_number, variable_number, operand_of, terms_of, expr_of, with_local}
use Rattle.rex_parse.specs.Good.{MeaningFits, IsGood}
use Rattle.rex_parse.specs.declared.language.Above.{Above}
use Rattle.rex_parse.specs.declared.language.Entry.{Entry}
use Rattle.rex_parse.specs.declared.language.Meaning.{Meaning}
use Rattle.rex_parse.specs.declared.language.Meaning.TheVariants as meaning
use Rattle.rex_parse.specs.declared.language.ServiceCode.{ServiceCode}
use Rattle.rex_parse.specs.declared.language.ServiceCode.TheVariants.{WrongKind, NoName, BadExpression}
use Rattle.rex_parse.proofs.Fine.{fits_not, least_both}

-- ---- declared names

found_step : (P : Meaning → Type 0) (b : Bool) (e : Entry) (rest : Option Entry) (m : Meaning) → P e.meaning → (option_map meaning_in rest ≡ Some m → P m)
    → option_map meaning_in (cond b (Some e) rest) ≡ Some m → P m
found_step P true e rest m here there is = let same : e.meaning ≡ m = cc in rw (← same) here
found_step P false e rest m here there is = there is

found_fits : (P : Meaning → Type 0) (p : Entry → Bool) (names : List Entry) (m : Meaning) → All (λ (e : Entry). P e.meaning) names → option_map meaning_in (find p names) ≡ Some m → P m
found_fits P p [] m all is = absurd cc
found_fits P p (e ∷ names) m all is =
    found_step P (p e) e (find p names) m (All-head (λ (x : Entry). P x.meaning) e names all)
    (found_fits P p names m (All-tail (λ (x : Entry). P x.meaning) e names all)) is

meaning_fits : (a : Above) (w : Word) (m : Meaning) → IsGood a → meaning_of a w ≡ Some m → MeaningFits a m
meaning_fits a w m good is = found_fits (MeaningFits a) (λ (e : Entry). bytes_eq e.name w) a.names m good.names is

lock_at : (a : Above) (o : Option Meaning) → ((m : Meaning) → o ≡ Some m → MeaningFits a m) → lock_kind_code o ≡ None → lock_number o < length a.locks
lock_at a None fits e = absurd cc
lock_at a (Some (meaning.Lock n)) fits e = fits (meaning.Lock n) refl
lock_at a (Some (meaning.Semaphore n)) fits e = absurd cc
lock_at a (Some (meaning.Condition n)) fits e = absurd cc
lock_at a (Some (meaning.Variable n)) fits e = absurd cc
lock_at a (Some (meaning.Handler n)) fits e = absurd cc

variable_at : (a : Above) (o : Option Meaning) → ((m : Meaning) → o ≡ Some m → MeaningFits a m) → variable_kind_code o ≡ None → variable_number o < length a.variables
variable_at a None fits e = absurd cc
variable_at a (Some (meaning.Variable n)) fits e = fits (meaning.Variable n) refl
variable_at a (Some (meaning.Semaphore n)) fits e = absurd cc
variable_at a (Some (meaning.Condition n)) fits e = absurd cc
variable_at a (Some (meaning.Lock n)) fits e = absurd cc
variable_at a (Some (meaning.Handler n)) fits e = absurd cc

semaphore_at : (a : Above) (o : Option Meaning) → ((m : Meaning) → o ≡ Some m → MeaningFits a m) → semaphore_kind_code o ≡ None → semaphore_number o < length a.semaphores
semaphore_at a None fits e = absurd cc
semaphore_at a (Some (meaning.Semaphore n)) fits e = fits (meaning.Semaphore n) refl
semaphore_at a (Some (meaning.Lock n)) fits e = absurd cc
semaphore_at a (Some (meaning.Condition n)) fits e = absurd cc
semaphore_at a (Some (meaning.Variable n)) fits e = absurd cc
semaphore_at a (Some (meaning.Handler n)) fits e = absurd cc

condition_at : (a : Above) (o : Option Meaning) → ((m : Meaning) → o ≡ Some m → MeaningFits a m) → condition_kind_code o ≡ None → condition_number o < length a.conditions
condition_at a None fits e = absurd cc
condition_at a (Some (meaning.Condition n)) fits e = fits (meaning.Condition n) refl
condition_at a (Some (meaning.Semaphore n)) fits e = absurd cc
condition_at a (Some (meaning.Lock n)) fits e = absurd cc
condition_at a (Some (meaning.Variable n)) fits e = absurd cc
condition_at a (Some (meaning.Handler n)) fits e = absurd cc

same_kind : (k l : LockKind) → is_same_kind k l ≡ true → l ≡ k
same_kind Plain Plain e = refl
same_kind Plain ReadersWriter e = absurd cc
same_kind ReadersWriter Plain e = absurd cc
same_kind ReadersWriter ReadersWriter e = refl

of_kind : (a : Above) (kind : LockKind) (n : ℕ) (o : Option Lock) → slice_get a.locks n ≡ o → is_of_kind kind o ≡ true → IsLock (service_of a) kind n
of_kind a kind n None at e = absurd cc
of_kind a kind n (Some l) at e = record { found = l; there = at; kind_is = same_kind kind l.kind e }

lock_of_at : (a : Above) (kind : LockKind) (o : Option Meaning) → lock_of_kind_code a kind o ≡ None → IsLock (service_of a) kind (lock_number o)
lock_of_at a kind None e = absurd cc
lock_of_at a kind (Some (meaning.Lock n)) e = of_kind a kind n (slice_get a.locks n) refl (not-false (is_of_kind kind (slice_get a.locks n)) (fits_not _ _ e))
lock_of_at a kind (Some (meaning.Semaphore n)) e = absurd cc
lock_of_at a kind (Some (meaning.Condition n)) e = absurd cc
lock_of_at a kind (Some (meaning.Variable n)) e = absurd cc
lock_of_at a kind (Some (meaning.Handler n)) e = absurd cc

by_kind : (named local : Bool) (kind : Option ServiceCode) → option_or (cond named (fits local WrongKind) (Some NoName)) kind ≡ None → kind ≡ None
by_kind true true kind e = absurd cc
by_kind true false kind e = e
by_kind false local kind e = absurd cc

pub lock_there : (a : Above) (w : Word) → IsGood a → lock_code a w ≡ None → lock_number (meaning_of a w) < length a.locks
unfolding lock_code
lock_there a w good e = lock_at a (meaning_of a w) (λ m is. meaning_fits a w m good is) (by_kind (is_name w) (is_local a w) (lock_kind_code (meaning_of a w)) e)

variable_fits : (a : Above) (w : Word) → IsGood a → variable_kind_code (meaning_of a w) ≡ None → variable_number (meaning_of a w) < length a.variables
variable_fits a w good e = variable_at a (meaning_of a w) (λ m is. meaning_fits a w m good is) e

pub variable_there : (a : Above) (w : Word) → IsGood a → variable_code a w ≡ None → variable_number (meaning_of a w) < length a.variables
unfolding variable_code
variable_there a w good e = variable_fits a w good (by_kind (is_name w) (is_local a w) (variable_kind_code (meaning_of a w)) e)

pub semaphore_there : (a : Above) (w : Word) → IsGood a → semaphore_code a w ≡ None → semaphore_number (meaning_of a w) < length a.semaphores
unfolding semaphore_code
semaphore_there a w good e = semaphore_at a (meaning_of a w) (λ m is. meaning_fits a w m good is) (by_kind (is_name w) (is_local a w) (semaphore_kind_code (meaning_of a w)) e)

pub condition_there : (a : Above) (w : Word) → IsGood a → condition_code a w ≡ None → condition_number (meaning_of a w) < length a.conditions
unfolding condition_code
condition_there a w good e = condition_at a (meaning_of a w) (λ m is. meaning_fits a w m good is) (by_kind (is_name w) (is_local a w) (condition_kind_code (meaning_of a w)) e)

pub lock_of_there : (a : Above) (kind : LockKind) (w : Word) → lock_of_code a kind w ≡ None → IsLock (service_of a) kind (lock_number (meaning_of a w))
unfolding lock_of_code
lock_of_there a kind w e = lock_of_at a kind (meaning_of a w) (by_kind (is_name w) (is_local a w) (lock_of_kind_code a kind (meaning_of a w)) e)

-- ---- locals

place_within : (p : Word → Bool) (names : List Word) → list_any p names ≡ true → position_or_len p names < length names
place_within p [] any = absurd cc
place_within p (x ∷ names) any = at_first p (p x) x names refl any (λ rest. place_within p names rest) where
  at_first : (p : Word → Bool) (b : Bool) (x : Word) (names : List Word) → p x ≡ b → (b || list_any p names) ≡ true → (list_any p names ≡ true → position_or_len p names < length names)
      → position_or_len p (x ∷ names) < length (x ∷ names)
  at_first p true x names is any rest = rw is (omega arith)
  at_first p false x names is any rest = rw is (omega (arith, rest any))

pub local_within : (a : Above) (w : Word) → is_local a w ≡ true → local_place a w < length a.locals
local_within a w is = place_within (λ l. bytes_eq l w) a.locals is

bytes_eq-same : (w : Word) → bytes_eq w w ≡ true
bytes_eq-same w = (bytes_eq-Decides w w).1 refl

or_true : (b c : Bool) → c ≡ true → (b || c) ≡ true
or_true true c e = refl
or_true false c e = e

made_is_local : (names : List Word) (w : Word) → list_any (λ l. bytes_eq l w) (names ++ w ∷ []) ≡ true
made_is_local names w =
    rw (list_any-append (λ l. bytes_eq l w) names (w ∷ [])) (or_true (list_any (λ l. bytes_eq l w) names) _ (rw (bytes_eq-same w) refl))

made_within : (a : Above) (w : Word) (b : Bool) → is_local a w ≡ b → local_place (cond b a (record a { locals = a.locals ++ w ∷ [] })) w < length (cond b a (record a { locals = a.locals ++ w ∷ [] })).locals
made_within a w true is = local_within a w is
made_within a w false is = place_within (λ l. bytes_eq l w) (a.locals ++ w ∷ []) (made_is_local a.locals w)

pub made_there : (a : Above) (w : Word) → local_place (with_local a w) w < length (with_local a w).locals
made_there a w = made_within a w (is_local a w) refl

-- ---- expressions

operand_by : (locals variables : ℕ) (b n l : Bool) (number kind : Option ServiceCode) (z : ℤ) (i v : ℕ) → (l ≡ true → i < locals) → (kind ≡ None → v < variables)
    → cond b number (cond (not n) (Some BadExpression) (cond l None kind)) ≡ None → OperandFits locals variables (cond b (Number z) (cond l (Local i) (Variable v)))
operand_by locals variables true n l number kind z i v within there e = tt
operand_by locals variables false false l number kind z i v within there e = absurd cc
operand_by locals variables false true true number kind z i v within there e = within refl
operand_by locals variables false true false number kind z i v within there e = there e

operand_fits : (a : Above) (w : Word) → IsGood a → operand_code a w ≡ None → OperandFits (length a.locals) (length a.variables) (operand_of a w)
operand_fits a w good e =
    operand_by (length a.locals) (length a.variables) (begins_number w) (is_name w) (is_local a w) (number_code w) (variable_kind_code (meaning_of a w)) _ (local_place a w) (variable_number (meaning_of a w))
    (local_within a w) (variable_fits a w good) e

abbrev TermFits : Above → Term → Type 0
TermFits a t = OperandFits (length a.locals) (length a.variables) t.operand

words_fit : (a : Above) (w : Word) (ws : List Word) → IsGood a → expr_code a (w ∷ ws) ≡ None → OperandFits (length a.locals) (length a.variables) (operand_of a w) × All (TermFits a) (terms_of a ws)
unfolding expr_code
words_fit a w [] good e = (operand_fits a w good e, All-nil (TermFits a))
words_fit a w (o ∷ []) good e =
    let k : Some BadExpression ≡ None = (least_both (least (operand_code a w) (operator_code o)) (Some BadExpression) e).1 in absurd cc
words_fit a w (o ∷ v ∷ ws) good e =
    let both = least_both (least (operand_code a w) (operator_code o)) (expr_code a (v ∷ ws)) e in
    let here = least_both (operand_code a w) (operator_code o) both.0 in
    let rest = words_fit a v ws good both.1 in
    (operand_fits a w good here.0, All-cons (TermFits a) _ (terms_of a ws) rest.0 rest.1)

expr_fits : (a : Above) (ws : List Word) → IsGood a → expr_code a ws ≡ None → ExprFits (length a.locals) (length a.variables) (expr_of a ws)
unfolding expr_code
expr_fits a [] good e = absurd cc
expr_fits a (w ∷ ws) good e = words_fit a w ws good e

pub whole_expr_fits : (a : Above) (ws : List Word) → IsGood a → whole_expr_code a ws ≡ None → ExprFits (length a.locals) (length a.variables) (expr_of a ws)
whole_expr_fits a ws good e = expr_fits a ws good (least_both _ (expr_code a ws) e).1
