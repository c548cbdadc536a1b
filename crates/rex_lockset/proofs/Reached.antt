-- Each line of a handler is led to by the lines before it.
use Rattle.std.proofs.Common.{◌≡◌, ℕ, ◌∙◌, ap, false}
use Rattle.std.specs.Prelude.{Some}
use Rattle.rex_syntax.specs.declared.line.Line.{Line}
use Rattle.rex_syntax.specs.declared.line.Line.TheVariants.{Try, Busy, If, Else, Repeat, Reply}
use Rattle.rex_syntax.specs.declared.locks.Lockset.{Lockset}
use Rattle.rex_syntax.specs.declared.flow.Leads.{Leads}
use Rattle.rex_syntax.specs.Blocks.{is_reply_line}
use Rattle.rex_syntax.specs.Shape.{branch_of, is_divider}
use Rattle.rex_lockset.proofs.Forms.{HasForm}

-- ---- where lines lead

-- a line that neither divides branches nor ends the handler leads to the next one
pub leads_next : (line : Line) (held : Lockset) (leads : Leads) → HasForm line held leads → is_divider line ≡ false → is_reply_line line ≡ false → (after : Lockset) × (leads.next ≡ Some after)
leads_next (If test otherwise) held leads f d r = (held, ap (λ (l : Leads). l.next) f)
leads_next (Try lock busy) held leads f d r = (f.0, ap (λ (l : Leads). l.next) f.1)
leads_next (Repeat turns after) held leads f d r = (held, ap (λ (l : Leads). l.next) f)
leads_next (Else end) held leads f d r = absurd (cc)
leads_next (Busy end) held leads f d r = absurd (cc)
leads_next (Reply value) held leads f d r = absurd (cc)
leads_next _ held leads f d r = (f.0, ap (λ (l : Leads). l.next) f.1)

-- an `if` or a `try` leads to its second branch
pub leads_branch : (line : Line) (held : Lockset) (leads : Leads) (target : ℕ) → HasForm line held leads → branch_of line ≡ Some target → (there : Lockset) × (leads.other.line ≡ target) × (leads.other.held ≡ Some there)
leads_branch (If test otherwise) held leads target f b = (held, ap (λ (l : Leads). l.other.line) f ∙ (let e : otherwise ≡ target = cc in e), ap (λ (l : Leads). l.other.held) f)
leads_branch (Try lock busy) held leads target f b = (held, ap (λ (l : Leads). l.other.line) f.1 ∙ (let e : busy ≡ target = cc in e), ap (λ (l : Leads). l.other.held) f.1)
leads_branch _ held leads target f b = absurd (cc)
