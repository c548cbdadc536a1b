-- What holds of a line that no code fits.
use Rattle.std.proofs.Common.{◌≡◌, ◌≤◌, Bool, true, false, cond, not, ◌&&◌, List, [], ◌∷◌, length, get_or, Option, Some, None, refl, arith}
use Rattle.std.specs.Borrow.{Bor}
use Rattle.rex_text.specs.Text.{Word}
use Rattle.rex_parse.specs.Answers.{texts}
use Rattle.rex_parse.specs.Words.{least, fits}
use Rattle.rex_parse.specs.Above.{is_open, innermost}
use Rattle.rex_parse.specs.Table.{slots, slots_code, is_misshapen, is_inside, suits, same, limit_code, order_code, form_code, full_code, locals_code}
use Rattle.rex_parse.specs.declared.language.Above.{Above}
use Rattle.rex_parse.specs.declared.language.ServiceCode.{ServiceCode}
use Rattle.rex_parse.specs.declared.language.ServiceCode.TheVariants.{Misplaced, BadForm}
use Rattle.rex_parse.specs.declared.language.Form.{Form}
use Rattle.rex_parse.specs.declared.language.Form.TheVariants as form

pub least_both : (x y : Option ServiceCode) → least x y ≡ None → (x ≡ None) × (y ≡ None)
least_both None y e = (refl, e)
least_both (Some a) None e = absurd cc
least_both (Some a) (Some b) e = absurd cc

pub fits_not : (b : Bool) (c : ServiceCode) → fits b c ≡ None → b ≡ false
fits_not true c e = absurd cc
fits_not false c e = refl

-- a line of a form that no code fits
pub record IsFine (a : Above) (f : Form) (ws : List Word) : Type 0 where
  pub placed : same (is_inside f) (is_open a) ≡ true
  pub suited : suits f (innermost a) ≡ true
  pub shaped : is_misshapen (slots f) ws ≡ false
  pub places : slots_code a (slots f) ws ≡ None
  pub limits : limit_code a f ws ≡ None
  pub order : order_code a f ≡ None

by_tests : (b c m : Bool) (x y z : Option ServiceCode) → cond (not (b && c)) (Some Misplaced) (cond m (Some BadForm) (least x (least y z))) ≡ None
    → (b ≡ true) × (c ≡ true) × (m ≡ false) × (x ≡ None) × (y ≡ None) × (z ≡ None)
by_tests false c m x y z e = absurd cc
by_tests true false m x y z e = absurd cc
by_tests true true true x y z e = absurd cc
by_tests true true false x y z e =
    let p : (x ≡ None) × (least y z ≡ None) = least_both x (least y z) e in
    let q : (y ≡ None) × (z ≡ None) = least_both y z p.1 in
    (refl, refl, refl, p.0, q.0, q.1)

pub fine_line : (a : Above) (f : Form) (ws : List Word) → form_code a f ws ≡ None → IsFine a f ws
fine_line a f ws e =
    let t = by_tests (same (is_inside f) (is_open a)) (suits f (innermost a)) (is_misshapen (slots f) ws) (slots_code a (slots f) ws) (limit_code a f ws) (order_code a f) e in
    record { placed = t.0; suited = t.1; shaped = t.2; places = t.3; limits = t.4; order = t.5 }

-- ---- room

pub local_room : (a : Above) (ws : List (Bor Word)) (d : Bor Word) → 2 ≤ length ws → form_code a form.Let (texts ws) ≡ None → locals_code a ((get_or ws 0 d).now ∷ []) ≡ None
local_room a [] d two e = absurd (omega arith)
local_room a (w ∷ ws) d two e = (least_both (locals_code a (w.now ∷ texts ws)) (full_code a) (fine_line a form.Let (w.now ∷ texts ws) e).limits).0
