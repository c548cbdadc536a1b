-- Lines of which none is refused have a flow.
use Rattle.std.proofs.Common.{◌≡◌, ℕ, zero, suc, ◌+◌, ◌<◌, ◌≤◌, List, [], ◌∷◌, length, drop, map, get_or, arith, refl, sym, ◌∙◌, ap, subst, Ok, Err, Result, length-drop, get_or-drop}
use Rattle.std.specs.Prelude.{Option, Some, None, IfSome, slice_get}
use Rattle.std.proofs.lemmas.List.{drop-drop, length-map}
use Rattle.std.proofs.lemmas.Option.{slice_get-get_or, slice_get_read}
use Rattle.rex_syntax.specs.declared.line.Line.{Line}
use Rattle.rex_syntax.specs.declared.line.Line.TheVariants.{EndIf}
use Rattle.rex_syntax.specs.declared.locks.Lockset.{Lockset}
use Rattle.rex_syntax.specs.declared.flow.CheckCode.{CheckCode}
use Rattle.rex_syntax.specs.declared.flow.Leads.{Leads}
use Rattle.rex_syntax.specs.declared.service.Declarations.{Declarations}
use Rattle.rex_syntax.specs.declared.service.Handler.{Handler}
use Rattle.rex_syntax.specs.Flow.{entry, IsRightAt, IsFlow}
use Rattle.rex_syntax.specs.Leads.{leads_of}
use Rattle.rex_syntax.specs.Locks.{no_locks}
use Rattle.rex_syntax.specs.Service.{IsHandler}
use Rattle.rex_syntax.specs.Shape.{IsShaped}
use Rattle.rex_lockset.specs.declared.known.Known.{Known}
use Rattle.rex_lockset.specs.declared.known.Known.TheVariants.{Nothing, Held, Differs}
use Rattle.rex_lockset.specs.declared.refusal.Refused.{Refused}
use Rattle.rex_lockset.specs.Known.{known_at, followed}
use Rattle.rex_lockset.specs.Refusal.{outcome, refused_line}
use Rattle.rex_lockset.proofs.Noted.{Has}
use Rattle.rex_lockset.proofs.Forms.{has_form, LeadsInside, leads_inside, target_there}
use Rattle.rex_lockset.proofs.Sound.{IsFollowed, IsFollowedTo, IsFollowedTo-more, is_known}

-- ---- the rest of the lines

-- the lines from a place on begin with this one
pub record BeginsWith (lines : List Line) (place : ℕ) (line : Line) (rest : List Line) : Type 0 where
  pub there : slice_get lines place ≡ Some line
  pub after : drop (place + 1) lines ≡ rest

pub begins_with : (lines : List Line) (place : ℕ) (line : Line) (rest : List Line) → drop place lines ≡ line ∷ rest → BeginsWith lines place line rest
begins_with lines place line rest e =
    let k : place < length lines = omega (arith, length-drop place lines, ap length e) in
    let z : place + 0 ≡ place = omega arith in
    let at : get_or lines place line ≡ line = (rw z at (sym (get_or-drop place lines 0 line))) ∙ ap (λ ls. get_or ls 0 line) e in
    record {
      there = slice_get_read lines (length lines) place line refl k (sym at);
      after = sym (drop-drop 1 place lines) ∙ ap (drop 1) e;
    }

passes_by : (service : Declarations) (number place : ℕ) (known : List Known) (rest : List Line) (o : Result Leads CheckCode) → ◌≡◌ {A = Option Refused} (elim o [ Ok leads ↦ refused_line service number (place + 1) (followed known place leads) rest | Err code ↦ Some (let r : Refused = record { handler = number; line = Some place; code = code } in r) ]) None → (leads : Leads) × (o ≡ Ok leads) × (refused_line service number (place + 1) (followed known place leads) rest ≡ None)
passes_by service number place known rest (Ok leads) h = (leads, refl, h)
passes_by service number place known rest (Err code) h = absurd (cc)

passes_line : (service : Declarations) (number place : ℕ) (known : List Known) (line : Line) (rest : List Line) → refused_line service number place known (line ∷ rest) ≡ None → (leads : Leads) × (outcome service line (known_at known place) ≡ Ok leads) × (refused_line service number (place + 1) (followed known place leads) rest ≡ None)
passes_line service number place known line rest h = passes_by service number place known rest (outcome service line (known_at known place)) h

known_held : (service : Declarations) (line : Line) (known : Known) (leads : Leads) → (known ≡ Nothing → ⊥) → outcome service line known ≡ Ok leads → (held : Lockset) × (known ≡ Held held) × (leads_of service line held ≡ Ok leads)
known_held service line Nothing leads n e = absurd (n refl)
known_held service line (Held held) leads n e = (held, refl, e)
known_held service line Differs leads n e = absurd (cc)

module _ (service : Declarations) (h : Handler) (good : IsHandler service h) (number : ℕ) where
  one_more : (place : ℕ) (known : List Known) (line : Line) (leads : Leads) → slice_get h.lines place ≡ Some line → place < length h.lines → IsFollowedTo service h.lines place known → outcome service line (known_at known place) ≡ Ok leads → IsFollowedTo service h.lines (place + 1) (followed known place leads)
  one_more place known line leads there k f e =
      let held = known_held service line (known_at known place) leads (is_known service h good place known f k) e in
      let inside : LeadsInside (length h.lines) place held.0 leads = leads_inside h.lines place line held.0 leads (good.shaped.each place line there) (has_form service line held.0 leads held.2) in
      IsFollowedTo-more service h.lines known place line held.0 leads f inside there held.1 held.2

  pub all_followed : (rest : List Line) (place : ℕ) (known : List Known) → drop place h.lines ≡ rest → place ≤ length h.lines → IsFollowedTo service h.lines place known → refused_line service number place known rest ≡ None → (last : List Known) × IsFollowedTo service h.lines (length h.lines) last
  all_followed [] place known e k f r =
      let same : place ≡ length h.lines = omega (arith, length-drop place h.lines, ap length e) in
      let P : ℕ → Type 0 = λ n. IsFollowedTo service h.lines n known in
      (known, subst P same f)
  all_followed (line ∷ rest) place known e k f r =
      let b : BeginsWith h.lines place line rest = begins_with h.lines place line rest e in
      let inside : place < length h.lines = omega (arith, length-drop place h.lines, ap length e) in
      let p = passes_line service number place known line rest r in
      all_followed rest (place + 1) (followed known place p.0) b.after (omega arith) (one_more place known line p.0 b.there inside f p.1) p.2

-- ---- the flow

-- what is held where it is known
abbrev pub held_of : Known → Option Lockset
held_of Nothing = None
held_of (Held held) = Some held
held_of Differs = None

-- what is held at each line
abbrev pub flow_of : List Known → List (Option Lockset)
flow_of known = map held_of known

entry-flow_of : (known : List Known) (place : ℕ) → entry (flow_of known) place ≡ held_of (known_at known place)
entry-flow_of [] place = refl
entry-flow_of (k ∷ known) zero = refl
entry-flow_of (k ∷ known) (suc place) = entry-flow_of known place

led_to : (known : Known) (after : Lockset) → (held : Lockset) × (known ≡ Held held) → Has known after → held_of known ≡ Some after
led_to Nothing after k h = absurd h
led_to (Held before) after k h = ap (λ x. Some x) h
led_to Differs after k h = absurd (let e = k.1 in cc)

module _ (service : Declarations) (lines : List Line) (known : List Known) (f : IsFollowedTo service lines (length lines) known) where
  known_there : (place : ℕ) → place < length lines → (held : Lockset) × (known_at known place ≡ Held held)
  known_there place k =
      let at : IsFollowed service (get_or lines place EndIf) place known = f.each place (get_or lines place EndIf) k (slice_get-get_or lines place EndIf k) in
      (at.held, at.before)

  leads_right : (o : Option Lockset) (target : ℕ) → IfSome o (λ _. target < length lines) → IfSome o (λ there. Has (known_at known target) there) → IfSome o (λ there. entry (flow_of known) target ≡ Some there)
  leads_right None target k h = tt
  leads_right (Some there) target k h = entry-flow_of known target ∙ led_to (known_at known target) there (known_there target k) h

module _ (service : Declarations) (lines : List Line) (shaped : IsShaped lines) (some : 0 < length lines) (known : List Known) (f : IsFollowedTo service lines (length lines) known) where
  right_at : (place : ℕ) (line : Line) → slice_get lines place ≡ Some line → IsFollowed service line place known → IsRightAt service line place (flow_of known)
  right_at place line e at =
      let inside : LeadsInside (length lines) place at.held at.leads = leads_inside lines place line at.held at.leads (shaped.each place line e) (has_form service line at.held at.leads at.may) in
      record {
        held = at.held;
        leads = at.leads;
        before = entry-flow_of known place ∙ ap held_of at.before;
        may = at.may;
        next = leads_right service lines known f at.leads.next (place + 1) inside.next at.next;
        other = leads_right service lines known f at.leads.other.held at.leads.other.line (target_there at.leads.other.held (length lines) at.leads.other.line place at.held inside.other) at.other;
      }

  pub is_flow : IsFlow service lines (flow_of known)
  is_flow = record {
    long = length-map known held_of ∙ f.long;
    start = entry-flow_of known 0 ∙ led_to (known_at known 0) no_locks (known_there service lines known f 0 some) f.start;
    each = λ place line k e. right_at place line e (f.each place line k e);
  }
