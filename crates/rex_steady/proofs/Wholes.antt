-- Where no limit is set, a cut takes all live events; and an event that runs on is taken.
use Rattle.std.proofs.Common.{◌≡◌, ℕ, ◌<◌, Bool, true, false, cond, List, [], ◌∷◌, ◌++◌, refl, ◌∙◌, ap, subst, inl, inr}
use Rattle.std.specs.Prelude.{◌&&◌, not, Some, None, nat_eq, if◌then◌else◌}
use Rattle.std.proofs.lemmas.Bool.{lt-ltb, lt-leb}
use Rattle.rex_syntax.specs.declared.service.Declarations.{Declarations}
use Rattle.rex_event.specs.declared.event.Event.{Event}
use Rattle.rex_event.specs.declared.event.Kind.{Kind}
use Rattle.rex_event.specs.declared.event.Kind.TheVariants.{Begin}
use Rattle.rex_event.specs.Order.{Has}
use Rattle.rex_event.specs.Cuts.{count_at, is_below, below, beyond}
use Rattle.rex_cut.specs.Greatest.{meets_any, stopped, lowered, greatest_cut}
use Rattle.rex_clocks.proofs.Numbered.{numbered_below}
use Rattle.rex_state.specs.Value.{StateValue}
use Rattle.rex_state.specs.Machine.{lane_of, enabled, after, next, run}
use Rattle.rex_state.specs.Counts.{counts_of, CountsOn}
use Rattle.rex_state.proofs.Counts.{runs_count_on}
use Rattle.rex_record.specs.declared.turns.Turn.TheVariants.{Done, Full, Unfit}
use Rattle.rex_record.specs.Take.{begins_queued, is_fit, taken_turn}

-- ---- cuts

-- each event is below the cut
abbrev pub AllBelow : List ℕ → List Event → Type 0
AllBelow cut [] = Unit {0}
AllBelow cut (e ∷ es) = (is_below cut e ≡ true) × AllBelow cut es

from_each : (cut : List ℕ) (es : List Event) → ((e : Event) → Has e es → is_below cut e ≡ true) → AllBelow cut es
from_each cut [] h = tt
from_each cut (e ∷ es) h = (h e (inl refl), from_each cut es (λ d k. h d (inr k)))

-- the events of a run are below the counts of its last state
pub all_below : (service : Declarations) (s t : StateValue) (es : List Event) → run service s es ≡ Some t → AllBelow (counts_of t) es
all_below service s t es h =
    let c : CountsOn s es t = runs_count_on service s t es h in
    from_each (counts_of t) es (λ e k. lt-ltb e.index (count_at (counts_of t) e.lane) (subst (λ (cs : List ℕ). e.index < count_at cs e.lane) c.counts (numbered_below (counts_of s) es e c.numbered k)))

pub whole : (cut : List ℕ) (es : List Event) → AllBelow cut es → below cut es ≡ es
whole cut [] h = refl
whole cut (e ∷ es) h = ap (λ (t : Bool). cond t (e ∷ below cut es) (below cut es)) h.0 ∙ ap (λ (ds : List Event). e ∷ ds) (whole cut es h.1)

pub none_beyond : (cut : List ℕ) (es : List Event) → AllBelow cut es → beyond cut es ≡ []
none_beyond cut [] h = refl
none_beyond cut (e ∷ es) h = ap (λ (t : Bool). cond (not t) (e ∷ beyond cut es) (beyond cut es)) h.0 ∙ none_beyond cut es h.1

pub greatest_all : (cut : List ℕ) (es : List Event) → AllBelow cut es → greatest_cut cut es ≡ cut
greatest_all cut [] h = refl
greatest_all cut (e ∷ es) h =
    ap (λ (t : Bool). if t && not (meets_any [] e) then lowered [] cut es else lowered ([] ++ e ∷ []) (stopped cut e) es) h.0 ∙ greatest_all cut es h.1

-- ---- takes

none_queued : (kind : Kind) → begins_queued kind [] ≡ false
none_queued (Begin client sequence handler arguments) = refl
none_queued _ = refl

allowed : (b : Bool) (x t : StateValue) → (if b then Some x else None) ≡ Some t → b ≡ true
allowed true x t h = refl
allowed false x t h = absurd (cc)

both : (a b : Bool) → (a && b) ≡ true → (a && (b && true)) ≡ true
both true true h = refl
both true false h = absurd (cc)
both false b h = absurd (cc)

-- an event that is next is taken, where fewer than 4,096 are live and no request is queued
pub next_is_taken : (service : Declarations) (s t : StateValue) (live : ℕ) (e : Event) → next service s e ≡ Some t → live < 4096 → taken_turn service s [] live e ≡ Done e
next_is_taken service s t live e h l =
    ap (λ (b : Bool). if b then Full else if is_fit service s [] e then Done e else Unfit) (lt-leb 4096 live l)
    ∙ ap (λ (b : Bool). if b then Done e else Unfit) fit
  where
    fit : is_fit service s [] e ≡ true
    fit =
        ap (λ (q : Bool). nat_eq (lane_of s e.lane).done e.index && (enabled service e.lane e.kind s && not q)) (none_queued e.kind)
        ∙ both (nat_eq (lane_of s e.lane).done e.index) (enabled service e.lane e.kind s) (allowed (nat_eq (lane_of s e.lane).done e.index && enabled service e.lane e.kind s) (after service e.lane e.kind s) t h)
