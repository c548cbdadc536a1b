-- The least of the codes that fit the places of a line.
use Rattle.std.specs.Option.{option_or}
use Rattle.std.proofs.Common.{◌≡◌, ℕ, zero, suc, ◌≤◌, ◌⊎◌, List, [], ◌∷◌, Option, Some, None, Bool, true, false, refl, sym, ap, subst, ◌∙◌, arith, inl, inr}
use Rattle.std.specs.Prelude.{◌&&◌, ◌||◌, ◌==◌, not, IsTrue, is_some, if◌then◌else◌, option_map}
use Rattle.std.specs.Bool.{IsFalse, Decides}
use Rattle.std.specs.Str.{bytes_eq}
use Rattle.std.specs.List.{Contains, list_any}
use Rattle.std.proofs.lemmas.Bool.Decides.{nat_tests}
use Rattle.std.proofs.lemmas.Slice.Eq.{bytes_eq-Decides}
use Rattle.rex_text.specs.Text.{Word}
use Rattle.rex_text.specs.Numbers.{i64_at}
use Rattle.rex_syntax.specs.declared.service.LockKind.{LockKind}
use Rattle.rex_parse.specs.Words.{is_name, is_letter, is_digit, begins_letter, fits, rank}
use Rattle.rex_parse.specs.Above.{meaning_of, is_declared, is_local}
use Rattle.rex_parse.specs.Table.{count_of, number_code, begins_number, operator_of, operator_code, operand_code, new_code, parameter_code, lock_code, lock_kind_code, lock_of_code, lock_of_kind_code, semaphore_code, semaphore_kind_code, condition_code, condition_kind_code, variable_code, variable_kind_code, local_code}
use Rattle.rex_parse.specs.Fitting.{Sense, OwnLocal, Declared, sense_of, Kind, AnyLock, LockOfKind, ASemaphore, ACondition, AVariable, ALocal, AValue, is_of, NumberFrom, SignedNumber, NewName, NameOf, Operand, Operator, Place, At, LacksName, LacksNumber, SpoilsExpression, IsUnknown, IsUndeclared, IsOther, IsOfWrongKind, IsTaken}
use Rattle.rex_parse.specs.declared.language.Above.{Above}
use Rattle.rex_parse.specs.declared.language.ServiceCode.{ServiceCode}
use Rattle.rex_parse.specs.declared.language.ServiceCode.TheVariants.{BadByte, Misplaced, BadForm, NoName, NoNumber, BadExpression, Undeclared, WrongKind, Taken}
use Rattle.rex_parse.specs.declared.language.Meaning.{Meaning}
use Rattle.rex_parse.specs.declared.language.Meaning.TheVariants as meaning
use Rattle.rex_parse.proofs.Weighed.{Weighs, Somewhere}

-- a code fits a place
abbrev pub FitsPlace : Above → Place → ServiceCode → Type 0
FitsPlace a p NoName = LacksName p
FitsPlace a p NoNumber = LacksNumber p
FitsPlace a p BadExpression = SpoilsExpression p
FitsPlace a p Undeclared = IsUndeclared a p
FitsPlace a p WrongKind = IsOfWrongKind a p
FitsPlace a p Taken = IsTaken a p
FitsPlace a p _ = ⊥

-- a code fits one of these places
abbrev pub FitsPlaces : Above → List Place → ServiceCode → Type 0
FitsPlaces a spots c = Somewhere (λ p. FitsPlace a p c) spots

-- ---- one place, by which codes don't fit it

pub fine : (a : Above) (p : Place) → ¬ (LacksName p) → ¬ (LacksNumber p) → ¬ (SpoilsExpression p) → ¬ (IsUndeclared a p) → ¬ (IsOfWrongKind a p) → ¬ (IsTaken a p) → Weighs (FitsPlace a p) None
fine a p n m b u k t NoName h = n h
fine a p n m b u k t NoNumber h = m h
fine a p n m b u k t BadExpression h = b h
fine a p n m b u k t Undeclared h = u h
fine a p n m b u k t WrongKind h = k h
fine a p n m b u k t Taken h = t h
fine a p n m b u k t _ h = h

after_name : (a : Above) (p : Place) (d : ServiceCode) → FitsPlace a p d → 4 ≤ rank d
after_name a p BadByte h = absurd h
after_name a p Misplaced h = absurd h
after_name a p BadForm h = absurd h
after_name a p _ h = omega arith

name_least : (a : Above) (p : Place) → LacksName p → Weighs (FitsPlace a p) (Some NoName)
name_least a p h = (h, after_name a p)

after_number : (a : Above) (p : Place) → ¬ (LacksName p) → (d : ServiceCode) → FitsPlace a p d → 5 ≤ rank d
after_number a p n BadByte h = absurd h
after_number a p n Misplaced h = absurd h
after_number a p n BadForm h = absurd h
after_number a p n NoName h = absurd (n h)
after_number a p n _ h = omega arith

number_least : (a : Above) (p : Place) → ¬ (LacksName p) → LacksNumber p → Weighs (FitsPlace a p) (Some NoNumber)
number_least a p n h = (h, after_number a p n)

after_expression : (a : Above) (p : Place) → ¬ (LacksName p) → ¬ (LacksNumber p) → (d : ServiceCode) → FitsPlace a p d → 6 ≤ rank d
after_expression a p n m BadByte h = absurd h
after_expression a p n m Misplaced h = absurd h
after_expression a p n m BadForm h = absurd h
after_expression a p n m NoName h = absurd (n h)
after_expression a p n m NoNumber h = absurd (m h)
after_expression a p n m _ h = omega arith

pub expression_least : (a : Above) (p : Place) → ¬ (LacksName p) → ¬ (LacksNumber p) → SpoilsExpression p → Weighs (FitsPlace a p) (Some BadExpression)
expression_least a p n m h = (h, after_expression a p n m)

after_undeclared : (a : Above) (p : Place) → ¬ (LacksName p) → ¬ (LacksNumber p) → ¬ (SpoilsExpression p) → (d : ServiceCode) → FitsPlace a p d → 7 ≤ rank d
after_undeclared a p n m b BadByte h = absurd h
after_undeclared a p n m b Misplaced h = absurd h
after_undeclared a p n m b BadForm h = absurd h
after_undeclared a p n m b NoName h = absurd (n h)
after_undeclared a p n m b NoNumber h = absurd (m h)
after_undeclared a p n m b BadExpression h = absurd (b h)
after_undeclared a p n m b _ h = omega arith

undeclared_least : (a : Above) (p : Place) → ¬ (LacksName p) → ¬ (LacksNumber p) → ¬ (SpoilsExpression p) → IsUndeclared a p → Weighs (FitsPlace a p) (Some Undeclared)
undeclared_least a p n m b h = (h, after_undeclared a p n m b)

after_kind : (a : Above) (p : Place) → ¬ (LacksName p) → ¬ (LacksNumber p) → ¬ (SpoilsExpression p) → ¬ (IsUndeclared a p) → (d : ServiceCode) → FitsPlace a p d → 8 ≤ rank d
after_kind a p n m b u BadByte h = absurd h
after_kind a p n m b u Misplaced h = absurd h
after_kind a p n m b u BadForm h = absurd h
after_kind a p n m b u NoName h = absurd (n h)
after_kind a p n m b u NoNumber h = absurd (m h)
after_kind a p n m b u BadExpression h = absurd (b h)
after_kind a p n m b u Undeclared h = absurd (u h)
after_kind a p n m b u _ h = omega arith

kind_least : (a : Above) (p : Place) → ¬ (LacksName p) → ¬ (LacksNumber p) → ¬ (SpoilsExpression p) → ¬ (IsUndeclared a p) → IsOfWrongKind a p → Weighs (FitsPlace a p) (Some WrongKind)
kind_least a p n m b u h = (h, after_kind a p n m b u)

after_taken : (a : Above) (p : Place) → ¬ (LacksName p) → ¬ (LacksNumber p) → ¬ (SpoilsExpression p) → ¬ (IsUndeclared a p) → ¬ (IsOfWrongKind a p) → (d : ServiceCode) → FitsPlace a p d → 9 ≤ rank d
after_taken a p n m b u k BadByte h = absurd h
after_taken a p n m b u k Misplaced h = absurd h
after_taken a p n m b u k BadForm h = absurd h
after_taken a p n m b u k NoName h = absurd (n h)
after_taken a p n m b u k NoNumber h = absurd (m h)
after_taken a p n m b u k BadExpression h = absurd (b h)
after_taken a p n m b u k Undeclared h = absurd (u h)
after_taken a p n m b u k WrongKind h = absurd (k h)
after_taken a p n m b u k _ h = omega arith

taken_least : (a : Above) (p : Place) → ¬ (LacksName p) → ¬ (LacksNumber p) → ¬ (SpoilsExpression p) → ¬ (IsUndeclared a p) → ¬ (IsOfWrongKind a p) → IsTaken a p → Weighs (FitsPlace a p) (Some Taken)
taken_least a p n m b u k h = (h, after_taken a p n m b u k)

-- no code fits
pub never : ⊥ → ⊥
never h = h

-- ---- numbers

pub count_by : (a : Above) (low high : ℕ) (w : Word) (b : Bool) → is_some (count_of low high w) ≡ b → Weighs (FitsPlace a (At (NumberFrom low high) w)) (fits (not b) NoNumber)
count_by a low high w true e = fine a (At (NumberFrom low high) w) never (λ h. let t : true ≡ false = sym e ∙ h in cc) never never never never
count_by a low high w false e = number_least a (At (NumberFrom low high) w) never e

signed_by : (a : Above) (w : Word) (b : Bool) → is_some (i64_at w) ≡ b → Weighs (FitsPlace a (At SignedNumber w)) (fits (not b) NoNumber)
signed_by a w true e = fine a (At SignedNumber w) never (λ h. let t : true ≡ false = sym e ∙ h in cc) never never never never
signed_by a w false e = number_least a (At SignedNumber w) never e

pub signed : (a : Above) (w : Word) → Weighs (FitsPlace a (At SignedNumber w)) (number_code w)
unfolding number_code
signed a w = signed_by a w (is_some (i64_at w)) refl

-- ---- names that a line makes

pub or_parts : (b c : Bool) (P Q : Type 0) → Decides b P → Decides c Q → Decides (b || c) (P ⊎ Q)
or_parts true c P Q p q = (λ e. inl (p.0 refl), λ h. refl)
or_parts false c P Q p q = (λ e. inr (q.0 e), λ h. elim h [ inl x ↦ absurd (let t : false ≡ true = p.1 x in cc) | inr y ↦ q.1 y ])

pub decides_same : (b : Bool) (P Q : Type 0) → (P → Q) → (Q → P) → Decides b P → Decides b Q
decides_same b P Q to from h = (λ e. to (h.0 e), λ q. h.1 (from q))

contains_to : (x w : Word) (xs : List Word) → (x ≡ w) ⊎ Contains xs w → Contains (x ∷ xs) w
contains_to x w xs (inl e) = (0, omega arith, e)
contains_to x w xs (inr h) = (suc h.0, omega (arith, h.1), h.2)

contains_from : (x w : Word) (xs : List Word) → Contains (x ∷ xs) w → (x ≡ w) ⊎ Contains xs w
contains_from x w xs (zero, lt, e) = inl e
contains_from x w xs (suc k, lt, e) = inr (k, omega arith, e)

contains_test : (w : Word) (before : List Word) → Decides (list_any (λ b. bytes_eq b w) before) (Contains before w)
contains_test w [] = (λ e. absurd cc, λ h. absurd (omega (arith, h.1)))
contains_test w (x ∷ xs) =
    decides_same _ _ _ (contains_to x w xs) (contains_from x w xs) (or_parts (bytes_eq x w) (list_any (λ b. bytes_eq b w) xs) (x ≡ w) (Contains xs w) (bytes_eq-Decides x w) (contains_test w xs))

-- a word is declared above, or made before
made : (a : Above) (before : List Word) (w : Word) → Decides (is_declared a w || list_any (λ b. bytes_eq b w) before) (IsTrue (is_declared a w) ⊎ Contains before w)
made a before w = or_parts (is_declared a w) (list_any (λ b. bytes_eq b w) before) _ _ (λ e. e, λ e. e) (contains_test w before)

new_by : (a : Above) (before : List Word) (w : Word) (n t : Bool) → is_name w ≡ n → (is_declared a w || list_any (λ b. bytes_eq b w) before) ≡ t
    → Weighs (FitsPlace a (At (NewName before) w)) (if n then fits t Taken else Some NoName)
new_by a before w false t e s = name_least a (At (NewName before) w) e
new_by a before w true true e s = taken_least a (At (NewName before) w) (λ h. let f : true ≡ false = sym e ∙ h in cc) never never never never (e, (made a before w).0 s)
new_by a before w true false e s =
    fine a (At (NewName before) w) (λ h. let f : true ≡ false = sym e ∙ h in cc) never never never never (λ h. let f : false ≡ true = sym s ∙ (made a before w).1 h.1 in cc)

pub new_place : (a : Above) (before : List Word) (w : Word) → Weighs (FitsPlace a (At (NewName before) w)) (parameter_code a before w)
new_place a before w = new_by a before w (is_name w) (is_declared a w || list_any (λ b. bytes_eq b w) before) refl refl

both_first : (b c : Bool) → (b && c) ≡ true → b ≡ true
both_first true c h = refl
both_first false c h = absurd cc

or_none : (b : Bool) → (b || false) ≡ b
or_none true = refl
or_none false = refl

pub first_new : (a : Above) (w : Word) → parameter_code a [] w ≡ new_code a w
unfolding new_code
first_new a w = rw (or_none (is_declared a w)) refl

-- ---- names that stand for something

-- the code of a name that is due to be of a kind, by what it stands for
abbrev pub kind_code : Above → Kind → Option Sense → Option ServiceCode
kind_code a ALocal None = None
kind_code a _ None = Some Undeclared
kind_code a kind (Some s) = fits (not (is_of a kind s)) WrongKind

abbrev pub name_code : Above → Kind → Word → Option ServiceCode
name_code a kind w = if is_name w then kind_code a kind (sense_of a w) else Some NoName

-- a name
right : (w : Word) → is_name w ≡ true → IsFalse (is_name w) → ⊥
right w e h = let t : true ≡ false = sym e ∙ h in cc

some_kind : (a : Above) (kind : Kind) (w : Word) (s : Sense) (b : Bool) → is_name w ≡ true → sense_of a w ≡ Some s → is_of a kind s ≡ b → ¬ (IsUndeclared a (At (NameOf kind) w))
    → Weighs (FitsPlace a (At (NameOf kind) w)) (fits (not b) WrongKind)
some_kind a kind w s true e is of u =
    fine a (At (NameOf kind) w) (right w e) never never u (λ h. let same : s ≡ h.1 = cc in let t : true ≡ false = sym of ∙ ap (is_of a kind) same ∙ h.3 in cc) never
some_kind a kind w s false e is of u = kind_least a (At (NameOf kind) w) (right w e) never never u (e, s, is, of)

stands : (a : Above) (w : Word) (s : Sense) → sense_of a w ≡ Some s → ¬ (IsUnknown a w)
stands a w s is h = let t : Some s ≡ None = sym is ∙ h.1 in cc

stands_undeclared : (a : Above) (kind : Kind) (w : Word) (s : Sense) → sense_of a w ≡ Some s → ¬ (IsUndeclared a (At (NameOf kind) w))
stands_undeclared a ALocal w s is h = h
stands_undeclared a _ w s is h = stands a w s is h

unknown_other : (a : Above) (kind : Kind) (w : Word) → sense_of a w ≡ None → ¬ (IsOther a kind w)
unknown_other a kind w none h = let t : None ≡ Some h.1 = sym none ∙ h.2 in cc

none_kind : (a : Above) (kind : Kind) (w : Word) → is_name w ≡ true → sense_of a w ≡ None → Weighs (FitsPlace a (At (NameOf kind) w)) (kind_code a kind None)
none_kind a ALocal w e is = fine a (At (NameOf ALocal) w) (right w e) never never never (unknown_other a ALocal w is) never
none_kind a AnyLock w e is = undeclared_least a (At (NameOf AnyLock) w) (right w e) never never (e, is)
none_kind a (LockOfKind k) w e is = undeclared_least a (At (NameOf (LockOfKind k)) w) (right w e) never never (e, is)
none_kind a ASemaphore w e is = undeclared_least a (At (NameOf ASemaphore) w) (right w e) never never (e, is)
none_kind a ACondition w e is = undeclared_least a (At (NameOf ACondition) w) (right w e) never never (e, is)
none_kind a AVariable w e is = undeclared_least a (At (NameOf AVariable) w) (right w e) never never (e, is)
none_kind a AValue w e is = undeclared_least a (At (NameOf AValue) w) (right w e) never never (e, is)

sense_by : (a : Above) (kind : Kind) (w : Word) (o : Option Sense) → is_name w ≡ true → sense_of a w ≡ o → Weighs (FitsPlace a (At (NameOf kind) w)) (kind_code a kind o)
sense_by a kind w None e is = none_kind a kind w e is
sense_by a kind w (Some s) e is = some_kind a kind w s (is_of a kind s) e is refl (stands_undeclared a kind w s is)

name_by : (a : Above) (kind : Kind) (w : Word) (n : Bool) → is_name w ≡ n → Weighs (FitsPlace a (At (NameOf kind) w)) (if n then kind_code a kind (sense_of a w) else Some NoName)
name_by a kind w true e = sense_by a kind w (sense_of a w) e refl
name_by a kind w false e = name_least a (At (NameOf kind) w) e

pub named : (a : Above) (kind : Kind) (w : Word) → Weighs (FitsPlace a (At (NameOf kind) w)) (name_code a kind w)
named a kind w = name_by a kind w (is_name w) refl

-- ---- the codes of the kinds of names

lock_by : (a : Above) (w : Word) (n l : Bool) (m : Option Meaning)
    → (if n then kind_code a AnyLock (if l then Some OwnLocal else option_map Declared m) else Some NoName) ≡ option_or (if n then fits l WrongKind else Some NoName) (lock_kind_code m)
lock_by a w false l m = refl
lock_by a w true true m = refl
lock_by a w true false None = refl
lock_by a w true false (Some (meaning.Lock n)) = refl
lock_by a w true false (Some _) = refl

pub lock_place : (a : Above) (w : Word) → name_code a AnyLock w ≡ lock_code a w
unfolding lock_code
lock_place a w = lock_by a w (is_name w) (is_local a w) (meaning_of a w)

lock_of_by : (a : Above) (k : LockKind) (w : Word) (n l : Bool) (m : Option Meaning)
    → (if n then kind_code a (LockOfKind k) (if l then Some OwnLocal else option_map Declared m) else Some NoName) ≡ option_or (if n then fits l WrongKind else Some NoName) (lock_of_kind_code a k m)
lock_of_by a k w false l m = refl
lock_of_by a k w true true m = refl
lock_of_by a k w true false None = refl
lock_of_by a k w true false (Some (meaning.Lock n)) = refl
lock_of_by a k w true false (Some _) = refl

pub lock_of_place : (a : Above) (k : LockKind) (w : Word) → name_code a (LockOfKind k) w ≡ lock_of_code a k w
unfolding lock_of_code
lock_of_place a k w = lock_of_by a k w (is_name w) (is_local a w) (meaning_of a w)

semaphore_by : (a : Above) (w : Word) (n l : Bool) (m : Option Meaning)
    → (if n then kind_code a ASemaphore (if l then Some OwnLocal else option_map Declared m) else Some NoName) ≡ option_or (if n then fits l WrongKind else Some NoName) (semaphore_kind_code m)
semaphore_by a w false l m = refl
semaphore_by a w true true m = refl
semaphore_by a w true false None = refl
semaphore_by a w true false (Some (meaning.Semaphore n)) = refl
semaphore_by a w true false (Some _) = refl

pub semaphore_place : (a : Above) (w : Word) → name_code a ASemaphore w ≡ semaphore_code a w
unfolding semaphore_code
semaphore_place a w = semaphore_by a w (is_name w) (is_local a w) (meaning_of a w)

condition_by : (a : Above) (w : Word) (n l : Bool) (m : Option Meaning)
    → (if n then kind_code a ACondition (if l then Some OwnLocal else option_map Declared m) else Some NoName) ≡ option_or (if n then fits l WrongKind else Some NoName) (condition_kind_code m)
condition_by a w false l m = refl
condition_by a w true true m = refl
condition_by a w true false None = refl
condition_by a w true false (Some (meaning.Condition n)) = refl
condition_by a w true false (Some _) = refl

pub condition_place : (a : Above) (w : Word) → name_code a ACondition w ≡ condition_code a w
unfolding condition_code
condition_place a w = condition_by a w (is_name w) (is_local a w) (meaning_of a w)

variable_by : (a : Above) (w : Word) (n l : Bool) (m : Option Meaning)
    → (if n then kind_code a AVariable (if l then Some OwnLocal else option_map Declared m) else Some NoName) ≡ option_or (if n then fits l WrongKind else Some NoName) (variable_kind_code m)
variable_by a w false l m = refl
variable_by a w true true m = refl
variable_by a w true false None = refl
variable_by a w true false (Some (meaning.Variable n)) = refl
variable_by a w true false (Some _) = refl

pub variable_place : (a : Above) (w : Word) → name_code a AVariable w ≡ variable_code a w
unfolding variable_code
variable_place a w = variable_by a w (is_name w) (is_local a w) (meaning_of a w)

local_by : (a : Above) (w : Word) (n l : Bool) (m : Option Meaning)
    → (if n then kind_code a ALocal (if l then Some OwnLocal else option_map Declared m) else Some NoName) ≡ (if n then fits (not l && is_some m) WrongKind else Some NoName)
local_by a w false l m = refl
local_by a w true true m = refl
local_by a w true false None = refl
local_by a w true false (Some _) = refl

pub local_place : (a : Above) (w : Word) → name_code a ALocal w ≡ local_code a w
unfolding local_code
local_place a w = local_by a w (is_name w) (is_local a w) (meaning_of a w)

-- ---- operands and operators

-- a name begins with a letter, so with no digit or `-`
letter_digit : (b : ℕ) → is_letter b ≡ true → (is_digit b || b == 45) ≡ false
letter_digit b h = grind (arith, nat_tests)

begins_name : (w : Word) (more : Bool) → (begins_letter w && more) ≡ true → begins_number w ≡ false
begins_name [] more h = refl
begins_name (b ∷ bs) more h = letter_digit b (both_first (is_letter b) more h)

name_begins : (w : Word) → is_name w ≡ true → begins_number w ≡ false
unfolding is_name
name_begins w h = begins_name w _ h

-- the code of a name that is an operand, by what it stands for
value_code : Above → Option Sense → Option ServiceCode
value_code a None = Some Undeclared
value_code a (Some s) = fits (not (is_of a AValue s)) WrongKind

value_some : (a : Above) (w : Word) (s : Sense) (b : Bool) → begins_number w ≡ false → is_name w ≡ true → sense_of a w ≡ Some s → is_of a AValue s ≡ b → Weighs (FitsPlace a (At Operand w)) (fits (not b) WrongKind)
value_some a w s true d e is of =
    fine a (At Operand w) never (λ h. let t : false ≡ true = sym d ∙ h.0 in cc) (λ h. right w e h.1) (stands a w s is)
    (λ h. let same : s ≡ h.1 = cc in let t : true ≡ false = sym of ∙ ap (is_of a AValue) same ∙ h.3 in cc) never
value_some a w s false d e is of =
    kind_least a (At Operand w) never (λ h. let t : false ≡ true = sym d ∙ h.0 in cc) (λ h. right w e h.1) (stands a w s is) (e, s, is, of)

value_by : (a : Above) (w : Word) (o : Option Sense) → begins_number w ≡ false → is_name w ≡ true → sense_of a w ≡ o → Weighs (FitsPlace a (At Operand w)) (value_code a o)
unfolding value_code
value_by a w None d e is = undeclared_least a (At Operand w) never (λ h. let t : false ≡ true = sym d ∙ h.0 in cc) (λ h. right w e h.1) (e, is)
value_by a w (Some s) d e is = value_some a w s (is_of a AValue s) d e is refl

operand_number : (a : Above) (w : Word) (b : Bool) → begins_number w ≡ true → is_some (i64_at w) ≡ b → Weighs (FitsPlace a (At Operand w)) (fits (not b) NoNumber)
operand_number a w true d e =
    let no_name : is_name w ≡ true → ⊥ = λ h. let t : true ≡ false = sym d ∙ name_begins w h in cc in
    fine a (At Operand w) never (λ h. let t : true ≡ false = sym e ∙ h.1 in cc) (λ h. let t : true ≡ false = sym d ∙ h.0 in cc) (λ h. no_name h.0) (λ h. no_name h.0) never
operand_number a w false d e = number_least a (At Operand w) never (d, e)

value_is : (a : Above) (l : Bool) (m : Option Meaning) → value_code a (if l then Some OwnLocal else option_map Declared m) ≡ (if l then None else variable_kind_code m)
unfolding value_code
value_is a true m = refl
value_is a false None = refl
value_is a false (Some (meaning.Variable n)) = refl
value_is a false (Some _) = refl

operand_by : (a : Above) (w : Word) (d n : Bool) → begins_number w ≡ d → is_name w ≡ n
    → Weighs (FitsPlace a (At Operand w)) (if d then number_code w else if not n then Some BadExpression else if is_local a w then None else variable_kind_code (meaning_of a w))
unfolding number_code
operand_by a w true n d e = operand_number a w (is_some (i64_at w)) d refl
operand_by a w false false d e = expression_least a (At Operand w) never (λ h. let t : false ≡ true = sym d ∙ h.0 in cc) (d, e)
operand_by a w false true d e = subst (Weighs (FitsPlace a (At Operand w))) (value_is a (is_local a w) (meaning_of a w)) (value_by a w (sense_of a w) d e refl)

pub operand : (a : Above) (w : Word) → Weighs (FitsPlace a (At Operand w)) (operand_code a w)
operand a w = operand_by a w (begins_number w) (is_name w) refl refl

operator_by : (a : Above) (w : Word) (b : Bool) → is_some (operator_of w) ≡ b → Weighs (FitsPlace a (At Operator w)) (fits (not b) BadExpression)
operator_by a w true e = fine a (At Operator w) never never (λ h. let t : true ≡ false = sym e ∙ h in cc) never never never
operator_by a w false e = expression_least a (At Operator w) never never e

pub operator : (a : Above) (w : Word) → Weighs (FitsPlace a (At Operator w)) (operator_code w)
operator a w = operator_by a w (is_some (operator_of w)) refl
