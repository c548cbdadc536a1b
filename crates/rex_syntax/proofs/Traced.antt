-- What is held at a line follows from what is held at an earlier one.
use Rattle.std.proofs.Common.{◌≡◌, ℕ, ◌+◌, ◌-◌, ◌<◌, Bool, true, false, List, [], length, refl, ap, sym, ◌∙◌, subst, arith}
use Rattle.std.specs.Prelude.{Option, Some, Ok, Err, IfSome, slice_get, if◌then◌else◌}
use Rattle.std.proofs.lemmas.Option.{same_Some}
use Rattle.rex_syntax.specs.declared.line.Line.{Line}
use Rattle.rex_syntax.specs.declared.line.Line.TheVariants.{Try, Busy, Wait, Set, If, Else, Repeat, Reply}
use Rattle.rex_syntax.specs.declared.locks.Lockset.{Lockset}
use Rattle.rex_syntax.specs.declared.service.Declarations.{Declarations}
use Rattle.rex_syntax.specs.declared.flow.CheckCode.{CheckCode}
use Rattle.rex_syntax.specs.declared.flow.Leads.{Leads}
use Rattle.rex_syntax.specs.declared.flow.Target.{Target}
use Rattle.rex_syntax.specs.Leads.{leads_of, only_if, on, fork, jump, nowhere}
use Rattle.rex_syntax.specs.Blocks.{is_reply_line}
use Rattle.rex_syntax.specs.Shape.{branch_of, is_divider, IsBranch}
use Rattle.rex_syntax.specs.Flow.{entry, IsRightAt, IsFlow}
use Rattle.rex_syntax.specs.Held.{held_after, IsTraceable, ForksTo, ForksBy}
use Rattle.rex_syntax.proofs.Replies.{reply_last}

-- ---- where a line leads

only_ok : (b : Bool) (there : Leads) (code : CheckCode) (leads : Leads) → only_if b there code ≡ Ok leads → leads ≡ there
only_ok true there code leads e = cc
only_ok false there code leads e = absurd (cc)

both_ok : (a b : Bool) (there : Leads) (code other : CheckCode) (leads : Leads) → (if a then only_if b there code else Err other) ≡ Ok leads → leads ≡ there
both_ok true b there code other leads e = only_ok b there code leads e
both_ok false b there code other leads e = absurd (cc)

-- where a line leads that isn't refused
abbrev pub led : Line → Lockset → Leads
led (If test otherwise) held = fork held otherwise held
led (Try lock busy) held = fork (held_after (Try lock busy) held) busy held
led (Repeat turns after) held = fork held (after - 1) held
led (Else end) held = jump held end
led (Busy end) held = jump held end
led (Reply value) held = nowhere
led line held = on (held_after line held)

pub is_led : (service : Declarations) (line : Line) (held : Lockset) (leads : Leads) → leads_of service line held ≡ Ok leads → leads ≡ led line held
is_led service (Wait condition test) held leads e = both_ok _ _ _ _ _ leads e
is_led service (Set variable value) held leads e = both_ok _ _ _ _ _ leads e
is_led service (Reply value) held leads e = both_ok _ _ _ _ _ leads e
is_led service _ held leads e = first_of (cc, search (only_ok, e))

next_is : {there : Leads} (leads : Leads) → leads ≡ there → leads.next ≡ there.next
next_is leads e = ap (λ (l : Leads). l.next) e

other_is : {there : Leads} (leads : Leads) → leads ≡ there → leads.other ≡ there.other
other_is leads e = ap (λ (l : Leads). l.other) e

next_by : (line : Line) (held : Lockset) (leads : Leads) → leads ≡ led line held → is_divider line ≡ false → is_reply_line line ≡ false → leads.next ≡ Some (held_after line held)
next_by (Else end) held leads e d r = absurd (cc)
next_by (Busy end) held leads e d r = absurd (cc)
next_by (Reply value) held leads e d r = absurd (cc)
next_by _ held leads e d r = next_is leads e

-- a line that neither divides branches nor ends the handler leads to the next one
leads_next : (service : Declarations) (line : Line) (held : Lockset) (leads : Leads) → leads_of service line held ≡ Ok leads → is_divider line ≡ false → is_reply_line line ≡ false → leads.next ≡ Some (held_after line held)
leads_next service line held leads e d r = next_by line held leads (is_led service line held leads e) d r

target_is : (target place : ℕ) (held : Lockset) (o : Target) → o ≡ record { line = target; held = Some held } → (let b : Option ℕ = Some target in b) ≡ Some place → o ≡ record { line = place; held = Some held }
target_is target place held o e b = e ∙ ap (λ (n : ℕ). let t : Target = record { line = n; held = Some held } in t) (same_Some target place b)

-- an `if` or a `try` leads to its second branch with what it is come to with
leads_branch : (service : Declarations) (line : Line) (held : Lockset) (leads : Leads) (place : ℕ) → leads_of service line held ≡ Ok leads → branch_of line ≡ Some place → leads.other ≡ record { line = place; held = Some held }
leads_branch service (If test otherwise) held leads place e b = target_is otherwise place held _ (other_is leads (is_led service (If test otherwise) held leads e)) b
leads_branch service (Try lock busy) held leads place e b = target_is busy place held _ (other_is leads (is_led service (Try lock busy) held leads e)) b
leads_branch service _ held leads place e b = absurd (cc)

-- ---- what is held

-- a line that isn't the last one is no reply
no_reply : (lines : List Line) (place : ℕ) (line : Line) (b : Bool) → IsTraceable lines → place + 1 < length lines → slice_get lines place ≡ Some line → is_reply_line line ≡ b → is_reply_line line ≡ false
no_reply lines place line false t h e r = r
no_reply lines place line true t h e r = absurd (omega (arith, reply_last (Some []) lines place line t.matched e r))

module _ (service : Declarations) (lines : List Line) (flow : List (Option Lockset)) (right : IsFlow service lines flow) where
  -- what is held at the line after one that leads on
  next_held : (place : ℕ) (line : Line) (held : Lockset) → IsTraceable lines → place + 1 < length lines → slice_get lines place ≡ Some line → is_divider line ≡ false → entry flow place ≡ Some held → entry flow (place + 1) ≡ Some (held_after line held)
  next_held place line held t h e d k =
      let r : IsRightAt service line place flow = right.each place line (omega arith) e in
      let same : r.held ≡ held = same_Some r.held held (sym r.before ∙ k) in
      let l : r.leads.next ≡ Some (held_after line held) = leads_next service line held r.leads (rw (← same) r.may) d (no_reply lines place line _ t h e refl) in
      let P : Option Lockset → Type 0 = λ x. IfSome x (λ a. entry flow (place + 1) ≡ Some a) in
      subst P l r.next

  -- what is held at the line at which an `if` or a `try` goes on
  pub branch_held : (place from : ℕ) (held : Lockset) → from < length lines → ForksTo lines place from → entry flow from ≡ Some held → entry flow place ≡ Some held
  branch_held place from held h f k =
      let r : IsRightAt service f.fork from flow = right.each from f.fork h f.there in
      let same : r.held ≡ held = same_Some r.held held (sym r.before ∙ k) in
      let l : r.leads.other ≡ record { line = place; held = Some held } = leads_branch service f.fork held r.leads place (rw (← same) r.may) f.leads in
      let P : Target → Type 0 = λ x. IfSome x.held (λ a. entry flow x.line ≡ Some a) in
      subst P l r.other

  -- the same of a line that was read
  pub before_held : (place : ℕ) (line : Line) (held : Lockset) → IsTraceable lines → 0 < place → place < length lines → slice_get lines (place - 1) ≡ Some line → is_divider line ≡ false → entry flow (place - 1) ≡ Some held → entry flow place ≡ Some (held_after line held)
  before_held place line held t z h e d k =
      let n : place - 1 + 1 ≡ place = omega arith in
      let g : entry flow (place - 1 + 1) ≡ Some (held_after line held) = next_held (place - 1) line held t (omega arith) e d k in
      rw n at g

-- ---- forks

-- the line after a divider is one at which an earlier line goes on
pub forks_by : (lines : List Line) (place : ℕ) (line : Line) → IsTraceable lines → 0 < place → slice_get lines (place - 1) ≡ Some line → is_divider line ≡ true → ForksBy lines place (place - 1)
forks_by lines place line t z e d =
    let n : place - 1 + 1 ≡ place = omega arith in
    let b : IsBranch lines place = subst (IsBranch lines) n (t.branches.each (place - 1) line e d) in
    record { from = b.from; by = omega (arith, b.earlier); forks = record { fork = b.fork; there = b.there; leads = b.leads } }
