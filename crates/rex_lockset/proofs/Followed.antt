-- What is known of the lines once one more was followed.
use Rattle.std.proofs.Common.{◌≡◌, ℕ, ◌+◌, ◌<◌, List, length, arith, sym, ◌∙◌, ap, subst, inl, inr, get_or-set_same}
use Rattle.std.specs.Prelude.{Option, Some, None, IfSome}
use Rattle.rex_syntax.specs.declared.locks.Lockset.{Lockset}
use Rattle.rex_syntax.specs.declared.flow.Leads.{Leads}
use Rattle.rex_lockset.specs.declared.known.Known.{Known}
use Rattle.rex_lockset.specs.declared.known.Known.TheVariants.{Nothing, Held}
use Rattle.rex_lockset.specs.Known.{joined, known_at, noted, followed}
use Rattle.rex_lockset.proofs.Noted.{Has, joined-same, noted-has, noted-keeps, noted-other, length-noted}
use Rattle.rex_lockset.proofs.Forms.{LeadsInside, IsAhead}

-- noting what is held further on, or at the line itself what is held there, keeps what is known of a line
stays : (known : List Known) (at target : ℕ) (held : Lockset) (o : Option Lockset) → at < length known → known_at known at ≡ Held held → IfSome o (λ there. IsAhead at held target there) → known_at (noted known target o) at ≡ Held held
stays known at target held None l e h = e
stays known at target held (Some there) l e (inl h) = noted-other known target at (Some there) (λ q. omega arith) ∙ e
stays known at target held (Some there) l e (inr h) =
    let P : ℕ → Type 0 = λ t. known_at (noted known t (Some there)) at ≡ Held held in
    let q : known_at (noted known at (Some there)) at ≡ Held held =
    get_or-set_same known at (joined (known_at known at) there) Nothing l
    ∙ ap (λ k. joined k there) e
    ∙ ap (λ x. joined (Held held) x) h.1
    ∙ joined-same held in
    subst P (sym h.0) q

-- a target that is no line before
abbrev pub NotBefore : ℕ → Lockset → ℕ → Option Lockset → Type 0
NotBefore place held target o = IfSome o (λ there. IsAhead place held target there)

pub not_before : (o : Option Lockset) (count target place : ℕ) (held : Lockset) → IfSome o (λ there. (target < count) × IsAhead place held target there) → NotBefore place held target o
not_before None count target place held h = h
not_before (Some there) count target place held h = h.1

past_by : (at place target : ℕ) (there held other : Lockset) → at < place → IsAhead place held target there → at < target
past_by at place target there held other l (inl h) = omega arith
past_by at place target there held other l (inr h) = omega (arith, h.0)

pub past : (o : Option Lockset) (at place target : ℕ) (held other : Lockset) → at < place → NotBefore place held target o → NotBefore at other target o
past None at place target held other l h = h
past (Some there) at place target held other l h = inl (past_by at place target there held other l h)

pub any_next : (o : Option Lockset) (place : ℕ) (held : Lockset) → NotBefore place held (place + 1) o
any_next None place held = tt
any_next (Some after) place held = inl (omega arith)

pub any_later : (o : Option Lockset) (at place : ℕ) (held : Lockset) → at < place → NotBefore at held (place + 1) o
any_later None at place held l = tt
any_later (Some after) at place held l = inl (omega arith)

has_next : (known : List Known) (place : ℕ) (o : Option Lockset) → IfSome o (λ _. place + 1 < length known) → IfSome o (λ after. Has (known_at (noted known (place + 1) o) (place + 1)) after)
has_next known place None h = tt
has_next known place (Some after) h = noted-has known (place + 1) after h

has_other : (known : List Known) (count target place : ℕ) (held : Lockset) (o : Option Lockset) → length known ≡ count → IfSome o (λ there. (target < count) × IsAhead place held target there) → IfSome o (λ there. Has (known_at (noted known target o) target) there)
has_other known count target place held None l h = tt
has_other known count target place held (Some there) l h = noted-has known target there (omega (arith, h.0))

keeps : (known : List Known) (line at : ℕ) (more o : Option Lockset) → IfSome o (λ there. Has (known_at known at) there) → IfSome o (λ there. Has (known_at (noted known line more) at) there)
keeps known line at more None h = h
keeps known line at more (Some there) h = noted-keeps known line at more there h

module _ (known : List Known) (count place : ℕ) (held : Lockset) (leads : Leads) (long : length known ≡ count) (inside : LeadsInside count place held leads) where
  long_mid : length (noted known (place + 1) leads.next) ≡ count
  long_mid = length-noted known (place + 1) leads.next ∙ long

  pub length-followed : length (followed known place leads) ≡ count
  length-followed = length-noted (noted known (place + 1) leads.next) leads.other.line leads.other.held ∙ long_mid

  pub followed-keeps : (at : ℕ) (o : Option Lockset) → IfSome o (λ there. Has (known_at known at) there) → IfSome o (λ there. Has (known_at (followed known place leads) at) there)
  followed-keeps at o h = keeps (noted known (place + 1) leads.next) leads.other.line at leads.other.held o (keeps known (place + 1) at leads.next o h)

  pub followed-before : (at : ℕ) (there : Lockset) → at < count → NotBefore at there (place + 1) leads.next → NotBefore at there leads.other.line leads.other.held → known_at known at ≡ Held there → known_at (followed known place leads) at ≡ Held there
  followed-before at there l n o e =
      stays (noted known (place + 1) leads.next) at leads.other.line there leads.other.held (omega (arith, long_mid)) (stays known at (place + 1) there leads.next (omega (arith, long)) e n) o

  pub followed-next : IfSome leads.next (λ after. Has (known_at (followed known place leads) (place + 1)) after)
  followed-next = keeps (noted known (place + 1) leads.next) leads.other.line (place + 1) leads.other.held leads.next (has_next known place leads.next (rw long inside.next))

  pub followed-other : IfSome leads.other.held (λ there. Has (known_at (followed known place leads) leads.other.line) there)
  followed-other = has_other (noted known (place + 1) leads.next) count leads.other.line place held leads.other.held long_mid inside.other
