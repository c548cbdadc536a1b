-- No refusal, exactly where each handler passes.
use Rattle.std.proofs.Common.{◌≡◌, ℕ, zero, suc, ◌+◌, ◌<◌, List, [], ◌∷◌, length, arith, refl, ◌∙◌, Bool, true, false, length-set}
use Rattle.std.specs.Prelude.{Option, Some, None, replicate, if◌then◌else◌}
use Rattle.std.specs.List.{All}
use Rattle.std.specs.Option.{option_or}
use Rattle.std.proofs.lemmas.List.{length-replicate}
use Rattle.std.proofs.lemmas.List.Elements.{All-nil, All-cons, All-head, All-tail}
use Rattle.std.proofs.lemmas.Bool.{leb-true, le-leb}
use Rattle.std.proofs.lemmas.Option.{slice_get_within}
use Rattle.rex_syntax.specs.declared.line.Line.{Line}
use Rattle.rex_syntax.specs.declared.locks.Lockset.{Lockset}
use Rattle.rex_syntax.specs.declared.service.Declarations.{Declarations}
use Rattle.rex_syntax.specs.declared.service.Handler.{Handler}
use Rattle.rex_syntax.specs.Check.{Passes, IsChecked, step_bound}
use Rattle.rex_syntax.specs.Flow.{entry}
use Rattle.rex_syntax.specs.Locks.{no_locks}
use Rattle.rex_syntax.specs.Service.{IsService, IsHandler}
use Rattle.rex_lockset.specs.declared.known.Known.TheVariants.{Nothing, Held}
use Rattle.rex_lockset.specs.declared.refusal.Refused.{Refused}
use Rattle.rex_lockset.specs.Known.{known_at, at_start}
use Rattle.rex_lockset.specs.Refusal.{refused_line, too_long, refusal_in, refusal_among, refusal_of}
use Rattle.rex_lockset.specs.Laws.{RefusalsAreExact}
use Rattle.rex_lockset.proofs.Complete.{AgreesAt, none_refused}
use Rattle.rex_lockset.proofs.Flows.{all_followed, flow_of, is_flow}
use Rattle.rex_lockset.proofs.Sound.{IsFollowedTo}

-- ---- at first

nothing_at : (n place : ℕ) → known_at (replicate n Nothing) place ≡ Nothing
nothing_at zero place = refl
nothing_at (suc n) zero = refl
nothing_at (suc n) (suc place) = nothing_at n place

agrees_at_start : (count : ℕ) (flow : List (Option Lockset)) → entry flow 0 ≡ Some no_locks → (place : ℕ) → AgreesAt (known_at (at_start count) place) (entry flow place)
agrees_at_start zero flow e place = tt
agrees_at_start (suc count) flow e zero = e
agrees_at_start (suc count) flow e (suc place) = rw (nothing_at count place) tt

first_held : (count : ℕ) → 0 < count → known_at (at_start count) 0 ≡ Held no_locks
first_held zero k = absurd (omega arith)
first_held (suc count) k = refl

followed_at_start : (service : Declarations) (lines : List Line) → 0 < length lines → IsFollowedTo service lines 0 (at_start (length lines))
followed_at_start service lines some = record {
  long = length-set (replicate (length lines) Nothing) 0 (Held no_locks) ∙ length-replicate (length lines) Nothing;
  start = rw (first_held (length lines) some) refl;
  each = λ at line k e. absurd (omega arith);
}

-- ---- one handler

none_or : (first second : Option Refused) → option_or first second ≡ None → (first ≡ None) × (second ≡ None)
none_or None second e = (refl, e)
none_or (Some refused) second e = absurd (cc)

short_by : (b : Bool) (refused : Refused) → (if b then None else Some refused) ≡ None → b ≡ true
short_by true refused e = refl
short_by false refused e = absurd (cc)

not_refused : (service : Declarations) (number : ℕ) (h : Handler) → Passes service h → refusal_in service number h ≡ None
not_refused service number h p =
    let lines : refused_line service number 0 (at_start (length h.lines)) h.lines ≡ None =
    none_refused service number h.lines 0 (at_start (length h.lines)) p.flow
    (λ i line e. let z : 0 + i ≡ i = omega arith in rw z (p.right.each i line (slice_get_within h.lines i line e) e))
    (record { each = agrees_at_start (length h.lines) p.flow p.right.start }) in
    let short : too_long number h.lines ≡ None = rw (le-leb (step_bound h.lines) 100000 p.short) refl in
    rw (lines, short) refl

passes : (service : Declarations) (number : ℕ) (h : Handler) → IsHandler service h → refusal_in service number h ≡ None → Passes service h
passes service number h good e =
    let n = none_or (refused_line service number 0 (at_start (length h.lines)) h.lines) (too_long number h.lines) e in
    let last = all_followed service h good number h.lines 0 (at_start (length h.lines)) refl (omega arith) (followed_at_start service h.lines good.some) n.0 in
    record {
      flow = flow_of last.0;
      right = is_flow service h.lines good.shaped good.some last.0 last.1;
      short = leb-true (step_bound h.lines) 100000 (short_by _ _ n.1);
    }

-- ---- all handlers

none_among : (service : Declarations) (number : ℕ) (handlers : List Handler) → All (Passes service) handlers → refusal_among service number handlers ≡ None
none_among service number [] p = refl
none_among service number (h ∷ handlers) p =
    rw (not_refused service number h (All-head (Passes service) h handlers p), none_among service (number + 1) handlers (All-tail (Passes service) h handlers p)) refl

all_pass : (service : Declarations) (number : ℕ) (handlers : List Handler) → All (IsHandler service) handlers → refusal_among service number handlers ≡ None → All (Passes service) handlers
all_pass service number [] good e = All-nil (Passes service)
all_pass service number (h ∷ handlers) good e =
    let n = none_or (refusal_in service number h) (refusal_among service (number + 1) handlers) e in
    All-cons (Passes service) h handlers (passes service number h (All-head (IsHandler service) h handlers good) n.0)
    (all_pass service (number + 1) handlers (All-tail (IsHandler service) h handlers good) n.1)

pub is_checked : (service : Declarations) → IsService service → refusal_of service ≡ None → IsChecked service
is_checked service good e = record { handlers = all_pass service 0 service.handlers good.handlers e }

pub none_in_checked : (service : Declarations) → IsChecked service → refusal_of service ≡ None
none_in_checked service c = none_among service 0 service.handlers c.handlers

pub refusals_are_exact : RefusalsAreExact
refusals_are_exact service good = (is_checked service good, none_in_checked service)

-- a service in which something is refused doesn't pass
pub fails : (service : Declarations) (refused : Refused) → refusal_of service ≡ Some refused → IsChecked service → ⊥
fails service refused e c = let n : refusal_of service ≡ None = none_in_checked service c in cc
