-- Lines that aren't refused have a flow.
use Rattle.std.proofs.Common.{◌≡◌, ℕ, zero, suc, ◌+◌, ◌<◌, ◌⊎◌, List, [], length, get_or, arith, refl, sym, ◌∙◌, ap, subst, inl, inr, Bool, true, false, Ok}
use Rattle.std.specs.Prelude.{Option, Some, None, IfSome, slice_get}
use Rattle.std.proofs.lemmas.Option.{slice_get-get_or, slice_get_within, same_Some}
use Rattle.rex_syntax.specs.declared.line.Line.{Line}
use Rattle.rex_syntax.specs.declared.line.Line.TheVariants.{EndIf}
use Rattle.rex_syntax.specs.declared.locks.Lockset.{Lockset}
use Rattle.rex_syntax.specs.declared.flow.Leads.{Leads}
use Rattle.rex_syntax.specs.declared.service.Declarations.{Declarations}
use Rattle.rex_syntax.specs.declared.service.Handler.{Handler}
use Rattle.rex_syntax.specs.Blocks.{is_reply_line}
use Rattle.rex_syntax.specs.Leads.{leads_of}
use Rattle.rex_syntax.specs.Locks.{no_locks}
use Rattle.rex_syntax.specs.Service.{IsHandler}
use Rattle.rex_syntax.specs.Shape.{is_divider, IsBranch}
use Rattle.rex_lockset.specs.declared.known.Known.{Known}
use Rattle.rex_lockset.specs.declared.known.Known.TheVariants.{Nothing, Held}
use Rattle.rex_lockset.specs.Known.{known_at, followed}
use Rattle.rex_lockset.proofs.Noted.{Has}
use Rattle.rex_lockset.proofs.Forms.{has_form, LeadsInside}
use Rattle.rex_lockset.proofs.Followed.{length-followed, followed-keeps, followed-before, followed-next, followed-other, not_before, past, any_next, any_later}
use Rattle.rex_syntax.proofs.Replies.{reply_last}
use Rattle.rex_lockset.proofs.Reached.{leads_next, leads_branch}

-- the line at a place was followed with what is known of it
pub record IsFollowed (service : Declarations) (line : Line) (place : ℕ) (known : List Known) : Type 0 where
  pub held : Lockset
  pub leads : Leads
  pub before : known_at known place ≡ Held held
  pub may : leads_of service line held ≡ Ok leads
  pub next : IfSome leads.next (λ after. Has (known_at known (place + 1)) after)
  pub other : IfSome leads.other.held (λ there. Has (known_at known leads.other.line) there)

-- the lines before a place were followed
pub record IsFollowedTo (service : Declarations) (lines : List Line) (place : ℕ) (known : List Known) : Type 0 where
  pub long : length known ≡ length lines
  pub start : Has (known_at known 0) no_locks
  pub each : (at : ℕ) (line : Line) → at < place → slice_get lines at ≡ Some line → IsFollowed service line at known

-- ---- every line is known when the check comes to it

has_some : (known : Known) (held : Lockset) → Has known held → known ≡ Nothing → ⊥
has_some known held h e = let P : Known → Type 0 = λ k. Has k held in subst P e h

at_some : (o : Option Lockset) (there : Lockset) (P : Lockset → Type 0) → o ≡ Some there → IfSome o P → P there
at_some None there P e h = absurd (cc)
at_some (Some held) there P e h = subst P (same_Some held there e) h

module _ (service : Declarations) (h : Handler) (good : IsHandler service h) where
  by_next : (place : ℕ) (line : Line) (known : List Known) → IsFollowed service line place known → place + 1 < length h.lines → slice_get h.lines place ≡ Some line → is_divider line ≡ false → (b : Bool) → is_reply_line line ≡ b → known_at known (place + 1) ≡ Nothing → ⊥
  by_next place line known f k e d true r n = omega (arith, reply_last (Some []) h.lines place line good.matched e r)
  by_next place line known f k e d false r n =
      let next = leads_next line f.held f.leads (has_form service line f.held f.leads f.may) d r in
      has_some (known_at known (place + 1)) next.0 (at_some f.leads.next next.0 (λ after. Has (known_at known (place + 1)) after) next.1 f.next) n

  by_branch : (place : ℕ) (known : List Known) → IsFollowedTo service h.lines place known → IsBranch h.lines place → known_at known place ≡ Nothing → ⊥
  by_branch place known f b n =
      let from : IsFollowed service b.fork b.from known = f.each b.from b.fork b.earlier b.there in
      let there = leads_branch b.fork from.held from.leads place (has_form service b.fork from.held from.leads from.may) b.leads in
      let P : ℕ → Type 0 = λ line. Has (known_at known line) there.0 in
      has_some (known_at known place) there.0 (subst P there.1 (at_some from.leads.other.held there.0 (λ held. Has (known_at known from.leads.other.line) held) there.2 from.other)) n

  by_line : (place : ℕ) (line : Line) (known : List Known) → IsFollowedTo service h.lines (place + 1) known → place + 1 < length h.lines → slice_get h.lines place ≡ Some line → (b : Bool) → is_divider line ≡ b → known_at known (place + 1) ≡ Nothing → ⊥
  by_line place line known f k e true d n = by_branch (place + 1) known f (good.branches.each place line e d) n
  by_line place line known f k e false d n = by_next place line known (f.each place line (omega arith) e) k e d (is_reply_line line) refl n

  pub is_known : (place : ℕ) (known : List Known) → IsFollowedTo service h.lines place known → place < length h.lines → known_at known place ≡ Nothing → ⊥
  is_known zero known f k n = has_some (known_at known 0) no_locks f.start n
  is_known (suc place) known f k n =
      let s : suc place ≡ place + 1 = omega arith in
      let e : slice_get h.lines place ≡ Some (get_or h.lines place EndIf) = slice_get-get_or h.lines place EndIf (omega arith) in
      by_line place (get_or h.lines place EndIf) known (rw s at f) (omega arith) e (is_divider (get_or h.lines place EndIf)) refl (rw s at n)

-- ---- one line more

below_or_at : (m n : ℕ) → m < n + 1 → (m < n) ⊎ (m ≡ n)
below_or_at m n h = grind arith

IsFollowed-more : (service : Declarations) (count : ℕ) (line : Line) (at : ℕ) (known : List Known) (place : ℕ) (held : Lockset) (leads : Leads) → length known ≡ count → LeadsInside count place held leads → place < count → at < place → IsFollowed service line at known → IsFollowed service line at (followed known place leads)
IsFollowed-more service count line at known place held leads long inside k l f = record {
  held = f.held;
  leads = f.leads;
  before = followed-before known count place held leads long inside at f.held (omega arith) (any_later leads.next at place f.held l) (past leads.other.held at place leads.other.line held f.held l (not_before leads.other.held count leads.other.line place held inside.other)) f.before;
  may = f.may;
  next = followed-keeps known count place held leads long inside (at + 1) f.leads.next f.next;
  other = followed-keeps known count place held leads long inside f.leads.other.line f.leads.other.held f.other;
}

IsFollowed-here : (service : Declarations) (count : ℕ) (line : Line) (known : List Known) (place : ℕ) (held : Lockset) (leads : Leads) → length known ≡ count → LeadsInside count place held leads → place < count → known_at known place ≡ Held held → leads_of service line held ≡ Ok leads → IsFollowed service line place (followed known place leads)
IsFollowed-here service count line known place held leads long inside k e may = record {
  held = held;
  leads = leads;
  before = followed-before known count place held leads long inside place held k (any_next leads.next place held) (not_before leads.other.held count leads.other.line place held inside.other) e;
  may = may;
  next = followed-next known count place held leads long inside;
  other = followed-other known count place held leads long inside;
}

module _ (service : Declarations) (lines : List Line) (known : List Known) (place : ℕ) (line : Line) (held : Lockset) (leads : Leads) (f : IsFollowedTo service lines place known) (inside : LeadsInside (length lines) place held leads) (there : slice_get lines place ≡ Some line) (is : known_at known place ≡ Held held) (may : leads_of service line held ≡ Ok leads) where
  followed_each : (at : ℕ) (l : Line) → slice_get lines at ≡ Some l → (at < place) ⊎ (at ≡ place) → IsFollowed service l at (followed known place leads)
  followed_each at l e (inl h) = IsFollowed-more service (length lines) l at known place held leads f.long inside (slice_get_within lines place line there) h (f.each at l h e)
  followed_each at l e (inr h) =
      let same : line ≡ l = same_Some line l (sym there ∙ ap (slice_get lines) (sym h) ∙ e) in
      let P : Line → Type 0 = λ x. IsFollowed service x place (followed known place leads) in
      let Q : ℕ → Type 0 = λ n. IsFollowed service l n (followed known place leads) in
      subst Q (sym h) (subst P same (IsFollowed-here service (length lines) line known place held leads f.long inside (slice_get_within lines place line there) is may))

  pub IsFollowedTo-more : IsFollowedTo service lines (place + 1) (followed known place leads)
  IsFollowedTo-more = record {
    long = length-followed known (length lines) place held leads f.long inside;
    start = followed-keeps known (length lines) place held leads f.long inside 0 (Some no_locks) f.start;
    each = λ at l k e. followed_each at l e (below_or_at at place k);
  }
