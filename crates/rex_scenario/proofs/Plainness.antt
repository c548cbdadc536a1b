-- A service is plain where none of its lines declared anything beyond lock words.
use Rattle.std.proofs.Common.{◌≡◌, ℕ, Bool, true, false, cond, ◌&&◌, List, [], ◌∷◌, ◌++◌, Option, Some, None, refl, sym, ap, ◌∙◌}
use Rattle.std.specs.Prelude.{find, option_map, if◌then◌else◌}
use Rattle.std.specs.List.{list_all, All}
use Rattle.std.specs.Str.{bytes_eq}
use Rattle.std.proofs.lemmas.Bool.{and_right, and_parts}
use Rattle.std.proofs.lemmas.List.Folds.{list_all-append}
use Rattle.std.proofs.lemmas.List.Elements.{All-nil, All-cons, All-head, All-tail}
use Rattle.std.proofs.lemmas.Slice.Eq.{bytes_eq-Decides}
use Rattle.rex_text.specs.Text.{Word, words_of, is_skipped, is_allowed}
use Rattle.rex_syntax.specs.declared.line.Line.TheVariants as line
use Rattle.rex_syntax.specs.declared.service.Condition.{Condition}
use Rattle.rex_syntax.specs.declared.service.Lock.{Lock}
use Rattle.rex_syntax.specs.declared.service.LockKind.{LockKind}
use Rattle.rex_syntax.specs.declared.service.LockKind.TheVariants.{Plain, ReadersWriter}
use Rattle.rex_syntax.specs.declared.service.Semaphore.{Semaphore}
use Rattle.rex_parse.specs.Above.{is_local}
use Rattle.rex_parse.specs.After.{after, after_found, after_form, service_of, with_line, with_local, with_handler, expr_of}
use Rattle.rex_parse.specs.Reading.{raw_code, raw_after}
use Rattle.rex_parse.specs.Table.{form_of, forms, found_code, line_code, is_misshapen, slots, is_same_kind, same}
use Rattle.rex_parse.specs.declared.language.Above.{Above}
use Rattle.rex_parse.specs.declared.language.Form.{Form}
use Rattle.rex_parse.specs.declared.language.Form.TheVariants as form
use Rattle.rex_parse.specs.declared.language.OpenHandler.{OpenHandler}
use Rattle.rex_parse.proofs.Fine.{fine_line}
use Rattle.rex_parse.proofs.Shapes.{or_true}
use Rattle.rex_scenario.specs.Beyond.{is_beyond, declares_beyond, IsPlain}

-- ---- a service of plain locks, as a test

abbrev pub is_plain_lock : Lock → Bool
is_plain_lock lock = is_same_kind Plain lock.kind

abbrev pub has_none : {A : Type 0} → List A → Bool
has_none [] = true
has_none (x ∷ xs) = false

abbrev pub are_plain : List Lock → List Condition → List Semaphore → Bool
are_plain locks conditions semaphores = list_all is_plain_lock locks && (has_none conditions && has_none semaphores)

abbrev pub is_plain : Above → Bool
is_plain a = are_plain a.locks a.conditions a.semaphores

-- ---- what a line's form says of it

abbrev is_beyond_form : Form → Bool
is_beyond_form form.RwLock = true
is_beyond_form form.Cond = true
is_beyond_form form.Sem = true
is_beyond_form _ = false

-- a word declares as its form does
abbrev agrees : Word × Form → Bool
agrees e = same (is_beyond_form e.1) (is_beyond e.0)

agreed : (b c : Bool) → same b c ≡ true → b ≡ c
agreed true c e = sym e
agreed false true e = absurd cc
agreed false false e = refl

looked_at : (w : Word) (e : Word × Form) (next : Option (Word × Form)) (f : Form) (b : Bool) → bytes_eq w e.0 ≡ b → agrees e ≡ true
    → (option_map (λ (x : Word × Form). x.1) next ≡ Some f → is_beyond_form f ≡ is_beyond w) → option_map (λ (x : Word × Form). x.1) (cond b (Some e) next) ≡ Some f → is_beyond_form f ≡ is_beyond w
looked_at w e next f true word agree later is =
    let at : e.1 ≡ f = cc in
    ap is_beyond_form (sym at) ∙ agreed (is_beyond_form e.1) (is_beyond e.0) agree ∙ ap is_beyond (sym ((bytes_eq-Decides w e.0).0 word))
looked_at w e next f false word agree later is = later is

looked_up : (w : Word) (table : List (Word × Form)) (f : Form) → list_all agrees table ≡ true → option_map (λ (x : Word × Form). x.1) (find (λ (x : Word × Form). bytes_eq w x.0) table) ≡ Some f
    → is_beyond_form f ≡ is_beyond w
looked_up w [] f all is = absurd cc
looked_up w (e ∷ rest) f all is =
    let both = and_parts (agrees e) (list_all agrees rest) all in
    looked_at w e (find (λ (x : Word × Form). bytes_eq w x.0) rest) f (bytes_eq w e.0) refl both.0 (looked_up w rest f both.1) is

forms_agree : list_all agrees forms ≡ true
forms_agree = refl

form_is : (w : Word) (f : Form) → form_of w ≡ Some f → is_beyond_form f ≡ is_beyond w
form_is w f is = looked_up w forms f forms_agree is

-- ---- what each form adds

and-true : (b : Bool) → (b && true) ≡ b
and-true true = refl
and-true false = refl

not_empty : {A : Type 0} (xs : List A) (x : A) → has_none (xs ++ x ∷ []) ≡ false
not_empty [] x = refl
not_empty (y ∷ ys) x = refl

more_plain : (locks : List Lock) (conditions : List Condition) (semaphores : List Semaphore) (lock : Lock) → lock.kind ≡ Plain
    → are_plain (locks ++ lock ∷ []) conditions semaphores ≡ are_plain locks conditions semaphores
more_plain locks conditions semaphores lock kind =
    ap (λ b. b && (has_none conditions && has_none semaphores))
    (list_all-append is_plain_lock locks (lock ∷ []) ∙ ap (λ (k : LockKind). list_all is_plain_lock locks && (is_same_kind Plain k && true)) kind ∙ and-true (list_all is_plain_lock locks))

more_shared : (locks : List Lock) (conditions : List Condition) (semaphores : List Semaphore) (lock : Lock) → lock.kind ≡ ReadersWriter → are_plain (locks ++ lock ∷ []) conditions semaphores ≡ false
more_shared locks conditions semaphores lock kind =
    ap (λ b. b && (has_none conditions && has_none semaphores))
    (list_all-append is_plain_lock locks (lock ∷ []) ∙ ap (λ (k : LockKind). list_all is_plain_lock locks && (is_same_kind Plain k && true)) kind ∙ and_right (list_all is_plain_lock locks) false refl)

more_conditions : (locks : List Lock) (conditions : List Condition) (semaphores : List Semaphore) (condition : Condition) → are_plain locks (conditions ++ condition ∷ []) semaphores ≡ false
more_conditions locks conditions semaphores condition = and_right (list_all is_plain_lock locks) _ (ap (λ b. b && has_none semaphores) (not_empty conditions condition))

more_semaphores : (locks : List Lock) (conditions : List Condition) (semaphores : List Semaphore) (semaphore : Semaphore) → are_plain locks conditions (semaphores ++ semaphore ∷ []) ≡ false
more_semaphores locks conditions semaphores semaphore = and_right (list_all is_plain_lock locks) _ (and_right (has_none conditions) _ (not_empty semaphores semaphore))

local_by : (a : Above) (locals : List Word) (b : Bool) → is_plain (if b then a else record a { locals = locals }) ≡ is_plain a
local_by a locals true = refl
local_by a locals false = refl

local_plain : (a : Above) (w : Word) → is_plain (with_local a w) ≡ is_plain a
local_plain a w = local_by a (a.locals ++ w ∷ []) (is_local a w)

handler_plain : (a : Above) (o : Option OpenHandler) → is_plain (with_handler a o) ≡ is_plain a
handler_plain a None = refl
handler_plain a (Some h) = refl

misshapen : (b : Bool) {A : Type 0} → b ≡ false → b ≡ true → A
misshapen true e h = absurd cc
misshapen false e h = absurd cc

-- a line of a form that no code fits: after it a service is plain as before, unless it declares what is beyond lock words
form_plain : (a : Above) (n : ℕ) (f : Form) (ws : List Word) → is_misshapen (slots f) ws ≡ false → is_plain (after_form a n f ws) ≡ cond (is_beyond_form f) false (is_plain a)
form_plain a n form.Lock (w ∷ ws) e = more_plain a.locks a.conditions a.semaphores (record { name = w; kind = Plain }) refl
form_plain a n form.RwLock [] e = misshapen true e refl
form_plain a n form.RwLock (w ∷ ws) e = more_shared a.locks a.conditions a.semaphores (record { name = w; kind = ReadersWriter }) refl
form_plain a n form.Sem [] e = misshapen true e refl
form_plain a n form.Sem (w ∷ []) e = misshapen true e refl
form_plain a n form.Sem (w ∷ o ∷ []) e = misshapen _ e (or_true _)
form_plain a n form.Sem (w ∷ o ∷ v ∷ ws) e = more_semaphores a.locks a.conditions a.semaphores _
form_plain a n form.Cond [] e = misshapen true e refl
form_plain a n form.Cond (w ∷ []) e = misshapen true e refl
form_plain a n form.Cond (w ∷ o ∷ []) e = misshapen _ e (or_true _)
form_plain a n form.Cond (w ∷ o ∷ l ∷ ws) e = more_conditions a.locks a.conditions a.semaphores _
form_plain a n form.Var (w ∷ o ∷ []) e = refl
form_plain a n form.Var (w ∷ o ∷ l ∷ []) e = refl
form_plain a n form.Var (w ∷ o ∷ l ∷ q ∷ []) e = refl
form_plain a n form.Var (w ∷ o ∷ l ∷ q ∷ v ∷ ws) e = refl
form_plain a n form.Let (w ∷ o ∷ ws) e = local_plain a w
form_plain a n form.Clock (w ∷ ws) e = local_plain a w
form_plain a n form.Random (w ∷ ws) e = local_plain a w
form_plain a n form.Reply ws e = let b : Above = with_line a n (line.Reply (expr_of a ws)) in handler_plain b b.open_handler
form_plain a n f [] e = refl
form_plain a n f (w ∷ []) e = refl
form_plain a n f (w ∷ o ∷ ws) e = refl

-- ---- a line as it stands

found_plain : (a : Above) (n : ℕ) (w : Word) (ws : List Word) (o : Option Form) → form_of w ≡ o → found_code a o ws ≡ None → is_plain (after_found a n o ws) ≡ cond (is_beyond w) false (is_plain a)
found_plain a n w ws None is e = absurd cc
found_plain a n w ws (Some f) is e = form_plain a n f ws (fine_line a f ws e).shaped ∙ ap (λ (b : Bool). cond b false (is_plain a)) (form_is w f is)

line_plain : (a : Above) (n : ℕ) (ws : List Word) → line_code a ws ≡ None → is_plain (after a n ws) ≡ cond (declares_beyond ws) false (is_plain a)
line_plain a n [] e = refl
line_plain a n (w ∷ ws) e = found_plain a n w ws (form_of w) refl e

raw_by : (a : Above) (n : ℕ) (line : List ℕ) (allowed skipped : Bool) → list_all is_allowed line ≡ allowed → is_skipped (words_of line) ≡ skipped → (is_skipped (words_of line) ≡ true → declares_beyond (words_of line) ≡ false)
    → raw_code a line ≡ None → is_plain (raw_after a n line) ≡ cond (declares_beyond (words_of line)) false (is_plain a)
raw_by a n line false skipped c k differs e = absurd (let f = rw c at e in cc)
raw_by a n line true true c k differs e = rw (k, differs k) refl
raw_by a n line true false c k differs e = let f = rw (c, k) at e in rw k (line_plain a n (words_of line) f)

-- after a good line of a service it is plain as before, unless the line declares what is beyond lock words
pub raw_plain : (a : Above) (n : ℕ) (line : List ℕ) → (is_skipped (words_of line) ≡ true → declares_beyond (words_of line) ≡ false) → raw_code a line ≡ None
    → is_plain (raw_after a n line) ≡ cond (declares_beyond (words_of line)) false (is_plain a)
raw_plain a n line differs e = raw_by a n line (list_all is_allowed line) (is_skipped (words_of line)) refl refl differs e

-- ---- the test says what it should

plain_kind : (k : LockKind) → is_same_kind Plain k ≡ true → k ≡ Plain
plain_kind Plain e = refl
plain_kind ReadersWriter e = absurd cc

all_plain : (locks : List Lock) → list_all is_plain_lock locks ≡ true → All (λ (lock : Lock). lock.kind ≡ Plain) locks
all_plain [] e = All-nil _
all_plain (l ∷ ls) e = let both = and_parts (is_plain_lock l) (list_all is_plain_lock ls) e in All-cons (λ (lock : Lock). lock.kind ≡ Plain) l ls (plain_kind l.kind both.0) (all_plain ls both.1)

plain_all : (locks : List Lock) → All (λ (lock : Lock). lock.kind ≡ Plain) locks → list_all is_plain_lock locks ≡ true
plain_all [] h = refl
plain_all (l ∷ ls) h =
    let kind : l.kind ≡ Plain = All-head (λ (lock : Lock). lock.kind ≡ Plain) l ls h in
    rw (kind, plain_all ls (All-tail (λ (lock : Lock). lock.kind ≡ Plain) l ls h)) refl

empty_if : {A : Type 0} (xs : List A) → has_none xs ≡ true → xs ≡ []
empty_if [] e = refl
empty_if (x ∷ xs) e = absurd cc

pub plain_if : (a : Above) → is_plain a ≡ true → IsPlain (service_of a)
plain_if a e =
    let both = and_parts (list_all is_plain_lock a.locks) (has_none a.conditions && has_none a.semaphores) e in
    let rest = and_parts (has_none a.conditions) (has_none a.semaphores) both.1 in
    record { locks = all_plain a.locks both.0; conditions = empty_if a.conditions rest.0; semaphores = empty_if a.semaphores rest.1 }

pub if_plain : (a : Above) → IsPlain (service_of a) → is_plain a ≡ true
if_plain a h = rw (plain_all a.locks h.locks, h.conditions, h.semaphores) refl
