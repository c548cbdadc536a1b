-- The forms in which lines lead on.
use Rattle.std.proofs.Common.{◌≡◌, ℕ, ◌+◌, ◌-◌, ◌<◌, ◌⊎◌, List, length, get_or, arith, refl, sym, subst, Ok, inl, inr}
use Rattle.std.specs.Prelude.{Option, Some, None, IfSome, slice_get}
use Rattle.rex_syntax.specs.declared.line.Line.{Line}
use Rattle.rex_syntax.specs.declared.line.Line.TheVariants.{Try, Busy, If, Else, Repeat, EndRepeat, Reply}
use Rattle.rex_syntax.specs.declared.locks.Lockset.{Lockset}
use Rattle.rex_syntax.specs.declared.flow.Leads.{Leads}
use Rattle.rex_syntax.specs.declared.service.Declarations.{Declarations}
use Rattle.rex_syntax.specs.Leads.{leads_of, on, fork, jump, nowhere}
use Rattle.rex_syntax.specs.declared.service.Handler.{Handler}
use Rattle.rex_syntax.specs.Service.{IsHandler}
use Rattle.rex_syntax.specs.Shape.{LeadsOn}
use Rattle.rex_syntax.proofs.Traced.{led, is_led}
use Rattle.std.proofs.lemmas.Option.{slice_get_read}
use Rattle.rex_lockset.specs.declared.known.Known.{Known}
use Rattle.rex_lockset.specs.declared.known.Known.TheVariants.{Nothing, Held, Differs}
use Rattle.rex_lockset.specs.Refusal.{outcome}

-- a line leads on to the next line, to another one, to both or nowhere, by its kind
abbrev pub HasForm : Line → Lockset → Leads → Type 0
HasForm (If test otherwise) held leads = leads ≡ fork held otherwise held
HasForm (Try lock busy) held leads = (taken : Lockset) × (leads ≡ fork taken busy held)
HasForm (Repeat turns after) held leads = leads ≡ fork held (after - 1) held
HasForm (Else end) held leads = leads ≡ jump held end
HasForm (Busy end) held leads = leads ≡ jump held end
HasForm (Reply value) held leads = leads ≡ nowhere
HasForm _ held leads = (after : Lockset) × (leads ≡ on after)

form_by : (line : Line) (held : Lockset) (leads : Leads) → leads ≡ led line held → HasForm line held leads
form_by (If test otherwise) held leads e = e
form_by (Repeat turns after) held leads e = e
form_by (Else end) held leads e = e
form_by (Busy end) held leads e = e
form_by (Reply value) held leads e = e
form_by _ held leads e = (_, e)

-- a line that isn't refused leads on in its form
pub has_form : (service : Declarations) (line : Line) (held : Lockset) (leads : Leads) → leads_of service line held ≡ Ok leads → HasForm line held leads
has_form service line held leads e = form_by line held leads (is_led service line held leads e)

-- a line further on, or the line itself with what is held there
abbrev pub IsAhead : ℕ → Lockset → ℕ → Lockset → Type 0
IsAhead place held target there = (place < target) ⊎ ((target ≡ place) × (there ≡ held))

-- it leads to lines that are there and ahead
pub record LeadsInside (count place : ℕ) (held : Lockset) (leads : Leads) : Type 0 where
  pub next : IfSome leads.next (λ _. place + 1 < count)
  pub other : IfSome leads.other.held (λ there. (leads.other.line < count) × IsAhead place held leads.other.line there)

inside_on : (count place : ℕ) (held after : Lockset) (leads : Leads) → place + 1 < count → leads ≡ on after → LeadsInside count place held leads
inside_on count place held after leads h e = let P : Leads → Type 0 = λ l. LeadsInside count place held l in subst P (sym e) (record { next = h; other = tt })

inside_fork : (count place target : ℕ) (held after there : Lockset) (leads : Leads) → place + 1 < count → target < count → IsAhead place held target there → leads ≡ fork after target there → LeadsInside count place held leads
inside_fork count place target held after there leads h k o e = let P : Leads → Type 0 = λ l. LeadsInside count place held l in subst P (sym e) (record { next = h; other = (k, o) })

inside_jump : (count place target : ℕ) (held : Lockset) (leads : Leads) → target < count → place < target → leads ≡ jump held target → LeadsInside count place held leads
inside_jump count place target held leads k o e = let P : Leads → Type 0 = λ l. LeadsInside count place held l in subst P (sym e) (record { next = tt; other = (k, inl o) })

-- the last line of a loop is the loop's first line, or comes after it
loop_end : (place after : ℕ) → place < after → (place < after - 1) ⊎ (after - 1 ≡ place)
loop_end place after h = grind arith

ended : (place after : ℕ) (held : Lockset) → (place < after - 1) ⊎ (after - 1 ≡ place) → IsAhead place held (after - 1) held
ended place after held (inl h) = inl h
ended place after held (inr h) = inr (h, refl)

pub leads_inside : (lines : List Line) (place : ℕ) (line : Line) (held : Lockset) (leads : Leads) → LeadsOn lines place line → HasForm line held leads → LeadsInside (length lines) place held leads
leads_inside lines place (If test otherwise) held leads o f = inside_fork _ place otherwise held held held leads o.0 o.1.inside (inl o.1.later) f
leads_inside lines place (Try lock busy) held leads o f = inside_fork _ place busy held f.0 held leads o.0 o.1.inside (inl o.1.later) f.1
leads_inside lines place (Repeat turns after) held leads o f = inside_fork _ place (after - 1) held held held leads o.next (omega (arith, o.over.inside)) (ended place after held (loop_end place after o.over.later)) f
leads_inside lines place (Else end) held leads o f = inside_jump _ place end held leads o.inside o.later f
leads_inside lines place (Busy end) held leads o f = inside_jump _ place end held leads o.inside o.later f
leads_inside lines place (Reply value) held leads o f = let P : Leads → Type 0 = λ l. LeadsInside (length lines) place held l in subst P (sym f) (record { next = tt; other = tt })
leads_inside lines place EndRepeat held leads o f = inside_on _ place held f.0 leads o.next f.1
leads_inside lines place _ held leads o f = inside_on _ place held f.0 leads o f.1

-- the target is there
pub target_there : (o : Option Lockset) (count target place : ℕ) (held : Lockset) → IfSome o (λ there. (target < count) × IsAhead place held target there) → IfSome o (λ _. target < count)
target_there None count target place held h = h
target_there (Some there) count target place held h = h.0

-- a line that isn't refused leads to lines that are there
pub outcome_inside : (service : Declarations) (lines : List Line) (place : ℕ) (line : Line) (known : Known) (leads : Leads) → LeadsOn lines place line → outcome service line known ≡ Ok leads → IfSome leads.next (λ _. place + 1 < length lines) × IfSome leads.other.held (λ _. leads.other.line < length lines)
outcome_inside service lines place line Nothing leads o e =
    let n : leads ≡ nowhere = cc in
    let P : Leads → Type 0 = λ l. IfSome l.next (λ _. place + 1 < length lines) × IfSome l.other.held (λ _. l.other.line < length lines) in
    subst P (sym n) (tt, tt)
outcome_inside service lines place line (Held held) leads o e =
    let i = leads_inside lines place line held leads o (has_form service line held leads e) in
    (i.next, target_there leads.other.held (length lines) leads.other.line place held i.other)
outcome_inside service lines place line Differs leads o e = absurd (cc)

-- the same of a handler's line that was read
pub read_inside : (service : Declarations) (h : Handler) (items : List Line) (count place : ℕ) (line : Line) (known : Known) (leads : Leads) → IsHandler service h → items ≡ h.lines → count ≡ length h.lines → place < length items → line ≡ get_or items place line → outcome service line known ≡ Ok leads → IfSome leads.next (λ _. place + 1 < count) × IfSome leads.other.held (λ _. leads.other.line < count)
read_inside service h items count place line known leads good same long k e o =
    let there : slice_get h.lines place ≡ Some line = slice_get_read h.lines (length h.lines) place line refl (rw same at k) (rw same at e) in
    rw long (outcome_inside service h.lines place line known leads (good.shaped.each place line there) o)
