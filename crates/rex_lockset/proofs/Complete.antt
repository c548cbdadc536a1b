-- Lines that have a flow aren't refused.
use Rattle.std.proofs.Common.{◌≡◌, ℕ, suc, ◌+◌, ◌<◌, ◌≤◌, ◌⊎◌, List, [], ◌∷◌, length, arith, refl, sym, ◌∙◌, ap, subst, inl, inr, Ok, Err, Result, get_or-set_same, length-set}
use Rattle.std.specs.Prelude.{Option, Some, None, IfSome, slice_get}
use Rattle.std.proofs.lemmas.List.{get_or_past}
use Rattle.std.proofs.lemmas.Option.{same_Some}
use Rattle.std.proofs.lemmas.Bool.{cases_eq, cases_lt}
use Rattle.rex_syntax.specs.declared.line.Line.{Line}
use Rattle.rex_syntax.specs.declared.locks.Lockset.{Lockset}
use Rattle.rex_syntax.specs.declared.flow.CheckCode.{CheckCode}
use Rattle.rex_syntax.specs.declared.flow.Leads.{Leads}
use Rattle.rex_syntax.specs.declared.service.Declarations.{Declarations}
use Rattle.rex_syntax.specs.Flow.{entry, IsRightAt}
use Rattle.rex_syntax.specs.Leads.{leads_of, nowhere}
use Rattle.rex_lockset.specs.declared.known.Known.{Known}
use Rattle.rex_lockset.specs.declared.known.Known.TheVariants.{Nothing, Held, Differs}
use Rattle.rex_lockset.specs.declared.refusal.Refused.{Refused}
use Rattle.rex_lockset.specs.Known.{joined, known_at, noted, followed}
use Rattle.rex_lockset.specs.Refusal.{outcome, refused_line}
use Rattle.rex_lockset.proofs.Noted.{noted-other, joined-same}

-- what is known of a line is so in a flow
abbrev pub AgreesAt : Known → Option Lockset → Type 0
AgreesAt Nothing there = Unit {0}
AgreesAt (Held held) there = there ≡ Some held
AgreesAt Differs there = ⊥

-- what is known of each line is so in a flow
pub record Agrees (known : List Known) (flow : List (Option Lockset)) : Type 0 where
  pub each : (place : ℕ) → AgreesAt (known_at known place) (entry flow place)

agrees_joined : (known : Known) (held : Lockset) (there : Option Lockset) → AgreesAt known there → there ≡ Some held → AgreesAt (joined known held) there
agrees_joined Nothing held there a e = e
agrees_joined (Held before) held there a e =
    let same : before ≡ held = same_Some before held (sym a ∙ e) in
    let P : Lockset → Type 0 = λ l. AgreesAt (joined (Held before) l) there in
    subst P same (let Q : Known → Type 0 = λ k. AgreesAt k there in subst Q (sym (joined-same before)) a)
agrees_joined Differs held there a e = absurd a

module _ (known : List Known) (flow : List (Option Lockset)) (a : Agrees known flow) where
  agrees_set : (line : ℕ) (held : Lockset) → entry flow line ≡ Some held → (at : ℕ) → (at ≡ line) ⊎ (at ≡ line → ⊥) → (at < length known) ⊎ (length known ≤ at) → AgreesAt (known_at (noted known line (Some held)) at) (entry flow at)
  agrees_set line held e at (inr n) b = rw (noted-other known line at (Some held) n) (a.each at)
  agrees_set line held e at (inl s) (inl l) =
      let P : ℕ → Type 0 = λ i. AgreesAt (known_at (noted known i (Some held)) at) (entry flow at) in
      let there : entry flow at ≡ Some held = ap (entry flow) s ∙ e in
      subst P s (rw (get_or-set_same known at _ Nothing l) (agrees_joined (known_at known at) held (entry flow at) (a.each at) there))
  agrees_set line held e at (inl s) (inr l) =
      let past : known_at (noted known line (Some held)) at ≡ Nothing = get_or_past _ at Nothing (omega (arith, length-set known line (joined (known_at known line) held))) in
      rw past tt

  pub agrees_noted : (line : ℕ) (o : Option Lockset) → IfSome o (λ held. entry flow line ≡ Some held) → Agrees (noted known line o) flow
  agrees_noted line None h = a
  agrees_noted line (Some held) h = record { each = λ at. agrees_set line held h at (cases_eq at line) (cases_lt at (length known)) }

-- where a flow leads from a line
record LeadsIn (flow : List (Option Lockset)) (place : ℕ) (leads : Leads) : Type 0 where
  pub next : IfSome leads.next (λ after. entry flow (place + 1) ≡ Some after)
  pub other : IfSome leads.other.held (λ there. entry flow leads.other.line ≡ Some there)

agrees_followed : (known : List Known) (flow : List (Option Lockset)) (place : ℕ) (leads : Leads) → Agrees known flow → LeadsIn flow place leads → Agrees (followed known place leads) flow
agrees_followed known flow place leads a l =
    agrees_noted (noted known (place + 1) leads.next) flow (agrees_noted known flow a (place + 1) leads.next l.next) leads.other.line leads.other.held l.other

leads_in : (service : Declarations) (line : Line) (place : ℕ) (flow : List (Option Lockset)) (known : Known) → IsRightAt service line place flow → AgreesAt known (entry flow place) → (leads : Leads) × (outcome service line known ≡ Ok leads) × LeadsIn flow place leads
leads_in service line place flow Nothing r a = (nowhere, refl, record { next = tt; other = tt })
leads_in service line place flow (Held held) r a =
    let same : r.held ≡ held = same_Some r.held held (sym r.before ∙ a) in
    (r.leads, ap (leads_of service line) (sym same) ∙ r.may, record { next = r.next; other = r.other })
leads_in service line place flow Differs r a = absurd a

goes_by : (service : Declarations) (number place : ℕ) (known : List Known) (line : Line) (rest : List Line) (leads : Leads) (o : Result Leads CheckCode) → o ≡ Ok leads → ◌≡◌ {A = Option Refused} (elim o [ Ok l ↦ refused_line service number (place + 1) (followed known place l) rest | Err code ↦ Some (let r : Refused = record { handler = number; line = Some place; code = code } in r) ]) (refused_line service number (place + 1) (followed known place leads) rest)
goes_by service number place known line rest leads (Ok l) e = ap (λ x. refused_line service number (place + 1) (followed known place x) rest) (let same : l ≡ leads = cc in same)
goes_by service number place known line rest leads (Err code) e = absurd (cc)

refused_line-goes : (service : Declarations) (number place : ℕ) (known : List Known) (line : Line) (rest : List Line) (leads : Leads) → outcome service line (known_at known place) ≡ Ok leads → refused_line service number place known (line ∷ rest) ≡ refused_line service number (place + 1) (followed known place leads) rest
refused_line-goes service number place known line rest leads e = goes_by service number place known line rest leads (outcome service line (known_at known place)) e

-- lines that have a flow from a place on aren't refused
pub none_refused : (service : Declarations) (number : ℕ) (rest : List Line) (place : ℕ) (known : List Known) (flow : List (Option Lockset)) → ((i : ℕ) (line : Line) → slice_get rest i ≡ Some line → IsRightAt service line (place + i) flow) → Agrees known flow → refused_line service number place known rest ≡ None
none_refused service number [] place known flow right a = refl
none_refused service number (line ∷ rest) place known flow right a =
    let z : place + 0 ≡ place = omega arith in
    let here : IsRightAt service line place flow = let P : ℕ → Type 0 = λ n. IsRightAt service line n flow in subst P z (right 0 line refl) in
    let l = leads_in service line place flow (known_at known place) here (a.each place) in
    refused_line-goes service number place known line rest l.0 l.1
    ∙ none_refused service number rest (place + 1) (followed known place l.0) flow
    (λ i there e. let w : place + suc i ≡ place + 1 + i = omega arith in let P : ℕ → Type 0 = λ n. IsRightAt service there n flow in subst P w (right (suc i) there e))
    (agrees_followed known flow place l.0 a l.2)
