-- The least of the codes that fit a line for what is there already.
use Rattle.std.proofs.Common.{◌≡◌, ◌≢◌, ℕ, ◌≤◌, ◌⊎◌, ◌++◌, List, [], ◌∷◌, length, Option, Bool, true, false, refl, sym, subst, ◌∙◌, arith, inl, inr}
use Rattle.std.specs.Prelude.{◌&&◌, ◌||◌, not, is_some, nat_le, count_by, codes}
use Rattle.std.specs.Bool.{IsFalse, Decides}
use Rattle.std.specs.List.{Any, list_any}
use Rattle.std.proofs.lemmas.Bool.{le-leb}
use Rattle.std.proofs.lemmas.Bool.Decides.{nat_tests}
use Rattle.rex_text.specs.Text.{Word}
use Rattle.rex_syntax.specs.Limits.{most_variables}
use Rattle.rex_parse.specs.Words.{least, fits}
use Rattle.rex_parse.specs.Above.{is_local, blocks_of, innermost}
use Rattle.rex_parse.specs.Table.{Slot, Fixed, Heading, LocalName, Expression, slots, is_loop, lines_of_open, limit_code, locals_code, order_code, is_lanes}
use Rattle.rex_syntax.specs.declared.locks.TheConstants.{LOCKS}
use Rattle.rex_syntax.specs.declared.service.TheConstants.{SEMAPHORES, CONDITIONS, HANDLERS, LINES, LOCALS}
use Rattle.rex_parse.specs.Fitting.{term_places, new_places, slot_places, places, places_of, IsTooDeep, IsFull, MakesLocal, MakesTooMany, IsOutOfOrder, RepliesInside}
use Rattle.rex_parse.specs.declared.language.Above.{Above}
use Rattle.rex_parse.specs.declared.language.Form.{Form}
use Rattle.rex_parse.specs.declared.language.Form.TheVariants as form
use Rattle.rex_parse.specs.declared.language.ServiceCode.{ServiceCode}
use Rattle.rex_parse.specs.declared.language.ServiceCode.TheVariants.{TooDeep, TooMany, LanesFirst, ReplyInBlock}
use Rattle.rex_parse.proofs.Weighed.{Weighs, weighs_same, weighs_both, weighs_test, Somewhere, somewhere_parts, any_from, any_to}
use Rattle.rex_parse.proofs.PlacesWeighed.{never, or_parts, decides_same}

-- ---- tests

no_test : (P : Type 0) → ¬ P → Decides false P
no_test P h = (λ e. absurd cc, λ p. absurd (h p))

and_parts : (b c : Bool) (P Q : Type 0) → Decides b P → Decides c Q → Decides (b && c) (P × Q)
and_parts true c P Q p q = (λ e. (p.0 refl, q.0 e), λ h. q.1 h.1)
and_parts false c P Q p q = (λ e. absurd cc, λ h. p.1 h.0)

not_test : (b : Bool) → Decides (not b) (IsFalse b)
not_test true = (λ e. absurd cc, λ e. absurd cc)
not_test false = (λ e. refl, λ e. refl)

at_least : (m n : ℕ) → Decides (nat_le m n) (m ≤ n)
at_least m n = (λ e. grind (arith, nat_tests), λ h. le-leb m n h)

-- ---- loops

deep : Above → Form → Bool
deep a form.Repeat = nat_le 4 (count_by is_loop (blocks_of a))
deep a _ = false

deep_decides : (a : Above) (f : Form) → Decides (deep a f) (IsTooDeep a f)
unfolding deep
deep_decides a form.Repeat = let test : Decides (nat_le 4 (count_by is_loop (blocks_of a))) (4 ≤ count_by is_loop (blocks_of a)) = at_least _ _ in (λ e. (refl, test.0 e), λ h. test.1 h.1)
deep_decides a _ = no_test _ (λ h. let e = h.0 in cc)

-- ---- replies

inside : Above → Form → Bool
inside a form.Reply = is_some (innermost a)
inside a _ = false

inside_decides : (a : Above) (f : Form) → Decides (inside a f) (RepliesInside a f)
unfolding inside
inside_decides a form.Reply = (λ e. (refl, e), λ h. h.1)
inside_decides a _ = no_test _ (λ h. let e = h.0 in cc)

-- ---- counts

full : Above → Form → Bool
full a form.Lanes = false
full a form.Lock = nat_le LOCKS (length a.locks)
full a form.RwLock = nat_le LOCKS (length a.locks)
full a form.Sem = nat_le SEMAPHORES (length a.semaphores)
full a form.Cond = nat_le CONDITIONS (length a.conditions)
full a form.Var = nat_le most_variables (length a.variables)
full a form.Handler = nat_le HANDLERS (length a.handlers)
full a _ = nat_le LINES (lines_of_open a.open_handler)

full_decides : (a : Above) (f : Form) → Decides (full a f) (IsFull a f)
unfolding full
full_decides a form.Lanes = no_test _ never
full_decides a form.Lock = at_least _ _
full_decides a form.RwLock = at_least _ _
full_decides a form.Sem = at_least _ _
full_decides a form.Cond = at_least _ _
full_decides a form.Var = at_least _ _
full_decides a form.Handler = at_least _ _
full_decides a _ = at_least _ _

-- ---- locals

abbrev is_local_slot : Slot → Bool
is_local_slot LocalName = true
is_local_slot _ = false

no_local_news : (a : Above) (before ws : List Word) → ¬ (Somewhere (MakesLocal a) (new_places before ws))
no_local_news a before [] h = h
no_local_news a before (w ∷ ws) (inl h) = h
no_local_news a before (w ∷ ws) (inr h) = no_local_news a (before ++ w ∷ []) ws h

no_local_terms : (a : Above) (ws : List Word) → ¬ (Somewhere (MakesLocal a) (term_places ws))
no_local_terms a [] h = h
no_local_terms a (w ∷ []) (inl h) = h
no_local_terms a (w ∷ []) (inr h) = h
no_local_terms a (w ∷ o ∷ ws) (inl h) = h
no_local_terms a (w ∷ o ∷ ws) (inr (inl h)) = h
no_local_terms a (w ∷ o ∷ ws) (inr (inr h)) = no_local_terms a ws h

no_local_slot : (a : Above) (s : Slot) (w : Word) (ws : List Word) → is_local_slot s ≡ false → ¬ (Somewhere (MakesLocal a) (slot_places s w ws))
no_local_slot a LocalName w ws e h = absurd cc
no_local_slot a Heading w ws e h = no_local_news a [] (w ∷ ws) h
no_local_slot a Expression w ws e (inl h) = h
no_local_slot a Expression w ws e (inr h) = no_local_terms a (w ∷ ws) h
no_local_slot a (Fixed f) w ws e h = h
no_local_slot a _ w ws e h = elim h [ inl x ↦ x | inr y ↦ y ]

or_first : (b c : Bool) → (b || c) ≡ false → b ≡ false
or_first true c e = absurd cc
or_first false c e = refl

or_second : (b c : Bool) → (b || c) ≡ false → c ≡ false
or_second true c e = absurd cc
or_second false c e = e

no_local : (a : Above) (ss : List Slot) (ws : List Word) → list_any is_local_slot ss ≡ false → ¬ (Somewhere (MakesLocal a) (places ss ws))
no_local a [] ws e h = h
no_local a (s ∷ ss) [] e h = h
no_local a (s ∷ ss) (w ∷ ws) e h =
    elim (somewhere_parts (MakesLocal a) (slot_places s w ws) (places ss ws) h) [
      | inl x ↦ no_local_slot a s w ws (or_first (is_local_slot s) (list_any is_local_slot ss) e) x
      | inr y ↦ no_local a ss ws (or_second (is_local_slot s) (list_any is_local_slot ss) e) y
    ]

-- the first word makes a local
makes : Above → List Word → Bool
makes a [] = false
makes a (w ∷ ws) = not (is_local a w)

makes_decides : (a : Above) (ss : List Slot) (ws : List Word) → list_any is_local_slot ss ≡ false → Decides (makes a ws) (Any (MakesLocal a) (places (LocalName ∷ ss) ws))
unfolding makes
makes_decides a ss [] e = no_test _ (λ h. any_to (MakesLocal a) [] h)
makes_decides a ss (w ∷ ws) e =
    decides_same _ (IsFalse (is_local a w)) _ (λ h. any_from (MakesLocal a) (places (LocalName ∷ ss) (w ∷ ws)) (inl h))
    (λ h. elim (any_to (MakesLocal a) (places (LocalName ∷ ss) (w ∷ ws)) h) [ inl x ↦ x | inr y ↦ absurd (no_local a ss ws e y) ]) (not_test (is_local a w))

makes_not : (a : Above) (ss : List Slot) (ws : List Word) → list_any is_local_slot ss ≡ false → Decides false (MakesTooMany a (places ss ws))
makes_not a ss ws e = no_test _ (λ h. no_local a ss ws e (any_to (MakesLocal a) (places ss ws) h.0))

seventeenth : Above → Form → List Word → Bool
seventeenth a form.Let ws = makes a ws && nat_le LOCALS (length a.locals)
seventeenth a form.Clock ws = makes a ws && nat_le LOCALS (length a.locals)
seventeenth a form.Random ws = makes a ws && nat_le LOCALS (length a.locals)
seventeenth a _ ws = false

seventeenth_decides : (a : Above) (f : Form) (ws : List Word) → Decides (seventeenth a f ws) (MakesTooMany a (places_of f ws))
unfolding seventeenth
seventeenth_decides a form.Let ws = and_parts (makes a ws) (nat_le LOCALS (length a.locals)) _ _ (makes_decides a (Fixed (codes "=") ∷ Expression ∷ []) ws refl) (at_least _ _)
seventeenth_decides a form.Clock ws = and_parts (makes a ws) (nat_le LOCALS (length a.locals)) _ _ (makes_decides a [] ws refl) (at_least _ _)
seventeenth_decides a form.Random ws = and_parts (makes a ws) (nat_le LOCALS (length a.locals)) _ _ (makes_decides a [] ws refl) (at_least _ _)
seventeenth_decides a f ws = makes_not a (slots f) ws refl

-- ---- all of them

-- a code fits a line for what is there already
abbrev pub FitsLimits : Above → Form → List Word → ServiceCode → Type 0
FitsLimits a f ws TooDeep = IsTooDeep a f
FitsLimits a f ws TooMany = IsFull a f ⊎ MakesTooMany a (places_of f ws)
FitsLimits a f ws ReplyInBlock = RepliesInside a f
FitsLimits a f ws _ = ⊥

abbrev of_limits : Bool → Bool → Bool → Option ServiceCode
of_limits d m r = least (fits d TooDeep) (least (fits m TooMany) (fits r ReplyInBlock))

abbrev Parts : Above → Form → List Word → ServiceCode → Type 0
Parts a f ws c = ((c ≡ TooDeep) × IsTooDeep a f) ⊎ (((c ≡ TooMany) × (IsFull a f ⊎ MakesTooMany a (places_of f ws))) ⊎ ((c ≡ ReplyInBlock) × RepliesInside a f))

parts_to : (a : Above) (f : Form) (ws : List Word) (c : ServiceCode) → Parts a f ws c → FitsLimits a f ws c
parts_to a f ws c (inl h) = subst (FitsLimits a f ws) (sym h.0) h.1
parts_to a f ws c (inr (inl h)) = subst (FitsLimits a f ws) (sym h.0) h.1
parts_to a f ws c (inr (inr h)) = subst (FitsLimits a f ws) (sym h.0) h.1

parts_from : (a : Above) (f : Form) (ws : List Word) (c : ServiceCode) → FitsLimits a f ws c → Parts a f ws c
parts_from a f ws TooDeep h = inl (refl, h)
parts_from a f ws TooMany h = inr (inl (refl, h))
parts_from a f ws ReplyInBlock h = inr (inr (refl, h))
parts_from a f ws _ h = absurd h

all_limits : (a : Above) (f : Form) (ws : List Word) → Weighs (FitsLimits a f ws) (of_limits (deep a f) (full a f || seventeenth a f ws) (inside a f))
all_limits a f ws =
    weighs_same (Parts a f ws) (FitsLimits a f ws) _ (parts_to a f ws) (parts_from a f ws)
    (weighs_both _ _ (fits (deep a f) TooDeep) (least (fits (full a f || seventeenth a f ws) TooMany) (fits (inside a f) ReplyInBlock)) (weighs_test _ (deep a f) TooDeep (deep_decides a f))
    (weighs_both _ _ (fits (full a f || seventeenth a f ws) TooMany) (fits (inside a f) ReplyInBlock)
    (weighs_test _ (full a f || seventeenth a f ws) TooMany (or_parts (full a f) (seventeenth a f ws) _ _ (full_decides a f) (seventeenth_decides a f ws)))
    (weighs_test _ (inside a f) ReplyInBlock (inside_decides a f))))

counted : (m : Bool) → of_limits false (m || false) false ≡ fits m TooMany
counted true = refl
counted false = refl

in_loops : (d m : Bool) → of_limits d (m || false) false ≡ least (fits d TooDeep) (fits m TooMany)
in_loops true true = refl
in_loops true false = refl
in_loops false true = refl
in_loops false false = refl

in_blocks : (m r : Bool) → of_limits false (m || false) r ≡ least (fits m TooMany) (fits r ReplyInBlock)
in_blocks true r = refl
in_blocks false r = refl

of_locals : (l m : Bool) → of_limits false (m || l) false ≡ least (fits l TooMany) (fits m TooMany)
of_locals true true = refl
of_locals true false = refl
of_locals false true = refl
of_locals false false = refl

made_local : (a : Above) (ws : List Word) (m : Bool) → of_limits false (m || (makes a ws && nat_le LOCALS (length a.locals))) false ≡ least (locals_code a ws) (fits m TooMany)
unfolding makes
made_local a [] m = counted m
made_local a (w ∷ ws) m = of_locals (not (is_local a w) && nat_le LOCALS (length a.locals)) m

limits_are : (a : Above) (f : Form) (ws : List Word) → of_limits (deep a f) (full a f || seventeenth a f ws) (inside a f) ≡ limit_code a f ws
unfolding deep full seventeenth inside
limits_are a form.Lanes ws = refl
limits_are a form.Let ws = made_local a ws _
limits_are a form.Clock ws = made_local a ws _
limits_are a form.Random ws = made_local a ws _
limits_are a form.Repeat ws = in_loops _ _
limits_are a form.Reply ws = in_blocks _ _
limits_are a _ ws = counted _

pub limits_weighed : (a : Above) (f : Form) (ws : List Word) → Weighs (FitsLimits a f ws) (limit_code a f ws)
limits_weighed a f ws = subst (Weighs (FitsLimits a f ws)) (limits_are a f ws) (all_limits a f ws)

-- ---- the order of lines

lanes_test : (f : Form) → Decides (is_lanes f) (f ≡ form.Lanes)
lanes_test form.Lanes = (λ e. refl, λ e. refl)
lanes_test _ = (λ e. absurd cc, λ e. absurd cc)

not_lanes : (f : Form) (b : Bool) → is_lanes f ≡ b → Decides (not b) (f ≢ form.Lanes)
not_lanes f true e = (λ t. absurd cc, λ h. absurd (h ((lanes_test f).0 e)))
not_lanes f false e = (λ t is. let u : false ≡ true = sym e ∙ (lanes_test f).1 is in cc, λ h. refl)

-- a code fits a line for its order
abbrev pub FitsOrder : Above → Form → ServiceCode → Type 0
FitsOrder a f c = (c ≡ LanesFirst) × IsOutOfOrder a f

pub order_weighed : (a : Above) (f : Form) → Weighs (FitsOrder a f) (order_code a f)
order_weighed a f =
    weighs_test (IsOutOfOrder a f) (not (is_some a.lanes) && not (is_lanes f) || is_some a.lanes && is_lanes f) LanesFirst
    (or_parts _ _ _ _ (and_parts (not (is_some a.lanes)) (not (is_lanes f)) _ _ (not_test (is_some a.lanes)) (not_lanes f (is_lanes f) refl))
    (and_parts (is_some a.lanes) (is_lanes f) _ _ (λ e. e, λ e. e) (lanes_test f)))
