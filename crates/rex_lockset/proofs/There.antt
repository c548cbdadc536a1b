-- What the check refuses is there: a handler of the service, or a line of it.
use Rattle.std.proofs.Common.{◌≡◌, ℕ, suc, ◌+◌, ◌<◌, ◌≤◌, List, [], ◌∷◌, length, Option, Some, None, Result, Ok, Err, Bool, true, false, refl, ap, subst, ◌∙◌, arith}
use Rattle.std.specs.Prelude.{IfSome, nat_le, slice_get, if◌then◌else◌}
use Rattle.std.specs.Option.{option_or}
use Rattle.rex_syntax.specs.declared.flow.CheckCode.{CheckCode}
use Rattle.rex_syntax.specs.declared.flow.CheckCode.TheVariants.{TooLong}
use Rattle.rex_syntax.specs.declared.flow.Leads.{Leads}
use Rattle.rex_syntax.specs.declared.line.Line.{Line}
use Rattle.rex_syntax.specs.declared.service.Handler.{Handler}
use Rattle.rex_syntax.specs.declared.service.Declarations.{Declarations}
use Rattle.rex_syntax.specs.Check.{step_bound}
use Rattle.rex_lockset.specs.declared.known.Known.{Known}
use Rattle.rex_lockset.specs.declared.refusal.Refused.{Refused}
use Rattle.rex_lockset.specs.Known.{known_at, followed, at_start}
use Rattle.rex_lockset.specs.Refusal.{outcome, refused_line, too_long, refusal_in, refusal_among}
use Rattle.rex_lockset.specs.Laws.{RefusalsAreThere}

-- the refusal is of this handler, or of a line of it before this place
record IsBefore (number place : ℕ) (r : Refused) : Type 0 where
  handler : r.handler ≡ number
  line : IfSome r.line (λ l. l < place)

further : (o : Option ℕ) (a b : ℕ) → a ≤ b → IfSome o (λ l. l < a) → IfSome o (λ l. l < b)
further None a b le h = tt
further (Some l) a b le h = omega arith

refused_here : (number place : ℕ) (rest : List Line) (code : CheckCode) (r : Refused)
    → Some (let x : Refused = record { handler = number; line = Some place; code = code } in x) ≡ Some r → IsBefore number (place + suc (length rest)) r
refused_here number place rest code r e =
    let x : Refused = record { handler = number; line = Some place; code = code } in
    let same : x ≡ r = cc in
    subst (λ (y : Refused). IsBefore number (place + suc (length rest)) y) same (record { handler = refl; line = omega arith })

by_outcome : (service : Declarations) (number place : ℕ) (known : List Known) (rest : List Line) (r : Refused) (o : Result Leads CheckCode)
    → ((k : List Known) → refused_line service number (place + 1) k rest ≡ Some r → IsBefore number (place + 1 + length rest) r)
    → (elim o [ Ok leads ↦ refused_line service number (place + 1) (followed known place leads) rest | Err code ↦ Some (record { handler = number; line = Some place; code = code }) ]) ≡ Some r
    → IsBefore number (place + suc (length rest)) r
by_outcome service number place known rest r (Ok leads) later e =
    let h = later (followed known place leads) e in
    record { handler = h.handler; line = further r.line (place + 1 + length rest) (place + suc (length rest)) (omega arith) h.line }
by_outcome service number place known rest r (Err code) later e = refused_here number place rest code r e

refused_line_before : (service : Declarations) (number place : ℕ) (known : List Known) (lines : List Line) (r : Refused) → refused_line service number place known lines ≡ Some r
    → IsBefore number (place + length lines) r
refused_line_before service number place known [] r e = absurd cc
refused_line_before service number place known (line ∷ rest) r e =
    by_outcome service number place known rest r (outcome service line (known_at known place)) (λ k h. refused_line_before service number (place + 1) k rest r h) e

too_long_before : (number place : ℕ) (b : Bool) (r : Refused) → (if b then None else Some (record { handler = number; line = None; code = TooLong })) ≡ Some r → IsBefore number place r
too_long_before number place true r e = absurd cc
too_long_before number place false r e =
    let x : Refused = record { handler = number; line = None; code = TooLong } in
    let same : x ≡ r = cc in
    subst (λ (y : Refused). IsBefore number place y) same (record { handler = refl; line = tt })

by_line : (number place : ℕ) (o later : Option Refused) (r : Refused) → (o ≡ Some r → IsBefore number place r) → (later ≡ Some r → IsBefore number place r) → option_or o later ≡ Some r
    → IsBefore number place r
by_line number place None later r f g e = g e
by_line number place (Some x) later r f g e = f e

refusal_in_before : (service : Declarations) (number : ℕ) (h : Handler) (r : Refused) → refusal_in service number h ≡ Some r → IsBefore number (length h.lines) r
refusal_in_before service number h r e =
    by_line number (length h.lines) (refused_line service number 0 (at_start (length h.lines)) h.lines) (too_long number h.lines) r
    (λ f. let b = refused_line_before service number 0 (at_start (length h.lines)) h.lines r f in
    record { handler = b.handler; line = further r.line (0 + length h.lines) (length h.lines) (omega arith) b.line })
    (λ f. too_long_before number (length h.lines) (nat_le (step_bound h.lines) 100000) r f) e

-- the refusal is of the handler at this place of a list, or of a line of it
record IsAt (handlers : List Handler) (number place : ℕ) (r : Refused) : Type 0 where
  handler : r.handler ≡ number + place
  found : Handler
  there : slice_get handlers place ≡ Some found
  line : IfSome r.line (λ l. l < length found.lines)

among : (service : Declarations) (number : ℕ) (h : Handler) (rest : List Handler) (r : Refused) (o later : Option Refused) → refusal_in service number h ≡ o
    → (later ≡ Some r → (place : ℕ) × IsAt rest (number + 1) place r) → option_or o later ≡ Some r → (place : ℕ) × IsAt (h ∷ rest) number place r
among service number h rest r None later f g e =
    let at = g e in
    (suc at.0, record { handler = omega (arith, at.1.handler); found = at.1.found; there = at.1.there; line = at.1.line })
among service number h rest r (Some x) later f g e =
    let b = refusal_in_before service number h r (f ∙ e) in
    (0, record { handler = omega (arith, b.handler); found = h; there = refl; line = b.line })

refusal_among_at : (service : Declarations) (number : ℕ) (handlers : List Handler) (r : Refused) → refusal_among service number handlers ≡ Some r → (place : ℕ) × IsAt handlers number place r
refusal_among_at service number [] r e = absurd cc
refusal_among_at service number (h ∷ rest) r e =
    among service number h rest r (refusal_in service number h) (refusal_among service (number + 1) rest) refl (λ f. refusal_among_at service (number + 1) rest r f) e

pub refusals_are_there : RefusalsAreThere
refusals_are_there service r e =
    let at = refusal_among_at service 0 service.handlers r e in
    let place : r.handler ≡ at.0 = omega (arith, at.1.handler) in
    record { found = at.1.found; there = ap (λ (i : ℕ). slice_get service.handlers i) place ∙ at.1.there; line = at.1.line }
