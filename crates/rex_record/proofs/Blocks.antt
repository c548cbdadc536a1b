-- A recorder that is handed a block which runs and has its place takes all of it.
use Rattle.std.proofs.Common.{◌≡◌, ℕ, ◌+◌, ◌<◌, ◌≤◌, ◌^◌, ◌-◌, Bool, true, false, List, ◌∷◌, [], ◌++◌, length, get_or, drop, refl, ap, sym, ◌∙◌, subst, arith, append_assoc, append-nil, length-append}
use Rattle.std.specs.Prelude.{nat_le, nat_eq, Some, None, not, ◌&&◌, if◌then◌else◌}
use Rattle.std.proofs.lemmas.Bool.{and_parts, and_from, leb-true}
use Rattle.std.proofs.lemmas.Option.{same_Some}
use Rattle.std.proofs.lemmas.List.Elements.{All-append, All-head, All-tail}
use Rattle.rex_syntax.specs.declared.service.Declarations.{Declarations}
use Rattle.rex_syntax.specs.Service.{IsService}
use Rattle.rex_event.specs.declared.event.Event.{Event}
use Rattle.rex_state.specs.Value.{StateValue}
use Rattle.rex_state.specs.Machine.{lane_of, enabled, after, next, run}
use Rattle.rex_state.proofs.Run.{run-first}
use Rattle.rex_record.specs.declared.turns.Turn.{Turn}
use Rattle.rex_record.specs.Value.{RecorderValue}
use Rattle.rex_record.specs.Kept.{AreCounted, IsRecorder}
use Rattle.rex_record.specs.Take.{begins_queued, is_fit, taken_turn, taken}
use Rattle.rex_record.specs.Block.{taken_all, none_queued, has_place}
use Rattle.rex_record.proofs.Releasing.{rest_is}
use Rattle.rex_record.proofs.Takes.{can_take, fit_room, fit_turn}

-- ---- the whole block

may_be : (b : Bool) (x a : StateValue) → (if b then Some x else None) ≡ Some a → b ≡ true
may_be true x a h = refl
may_be false x a h = absurd (cc)

-- an event that is next, and begins no queued request, is fit
next_fits : (service : Declarations) (r : RecorderValue) (e : Event) (t : StateValue) → next service r.state e ≡ Some t → not (begins_queued e.kind r.queue) ≡ true → is_fit service r.state r.queue e ≡ true
next_fits service r e t n free =
    let p : (nat_eq (lane_of r.state e.lane).done e.index ≡ true) × (enabled service e.lane e.kind r.state ≡ true) = and_parts _ _ (may_be (nat_eq (lane_of r.state e.lane).done e.index && enabled service e.lane e.kind r.state) (after service e.lane e.kind r.state) t n) in
    and_from _ _ p.0 (and_from _ _ p.1 free)

-- taking the events one after the other comes to a recorder that has all of them, and this state
pub record TakesAll (service : Declarations) (r : RecorderValue) (es : List Event) (t : StateValue) : Type 0 where
  pub is : taken_all service r es ≡ record r { live = r.live ++ es; state = t }
  pub kept : IsRecorder service (record r { live = r.live ++ es; state = t })

module _ (service : Declarations) (good : IsService service) where
  pub takes_all : (r : RecorderValue) (es : List Event) (t : StateValue) → IsRecorder service r → AreCounted r.live → AreCounted es → run service r.state es ≡ Some t → length es + length r.live ≤ 4096
      → none_queued r.queue es ≡ true → TakesAll service r es t
  takes_all r [] t kept counted more runs room free =
      let same : r ≡ record r { live = r.live ++ []; state = t } =
      ap (λ (ls : List Event). record r { live = ls }) (sym (append-nil r.live)) ∙ ap (λ (s : StateValue). record r { live = r.live ++ []; state = s }) (same_Some r.state t runs) in
      record { is = same; kept = subst (λ (q : RecorderValue). IsRecorder service q) same kept }
  takes_all r (e ∷ es) t kept counted more runs room free =
      let f = run-first service r.state t e es runs in
      let p : (not (begins_queued e.kind r.queue) ≡ true) × (none_queued r.queue es ≡ true) = and_parts _ _ free in
      let few : length r.live < 4096 = omega (arith, room) in
      let fit : is_fit service r.state r.queue e ≡ true = next_fits service r e f.0 f.1 p.0 in
      let c = can_take service r e good kept few counted (fit_room service r.state r.queue e fit (All-head (λ (x : Event). x.index + 1 < 2 ^ 32) e es more.each)) fit in
      let left : length es + length (r.live ++ e ∷ []) ≤ 4096 = omega (arith, room, length-append r.live (e ∷ [])) in
      let rest : TakesAll service (record r { live = r.live ++ e ∷ []; state = f.0 }) es t =
      takes_all (record r { live = r.live ++ e ∷ []; state = f.0 }) es t (c.kept f.0 f.1) c.counted (record { each = All-tail (λ (x : Event). x.index + 1 < 2 ^ 32) e es more.each }) f.2 left p.1 in
      record {
        is =
            ap (λ (u : Turn). taken_all service (taken service r u) es) (fit_turn service r e few fit)
            ∙ ap (λ (q : RecorderValue). taken_all service q es) (c.same f.0 f.1)
            ∙ rest.is
            ∙ ap (λ (ls : List Event). record r { live = ls; state = t }) (append_assoc r.live (e ∷ []) es);
        kept = subst (λ (ls : List Event). IsRecorder service (record r { live = ls; state = t })) (append_assoc r.live (e ∷ []) es) rest.kept;
      }

-- with a block the live events leave room for the next indices
pub counted_both : (es fs : List Event) → AreCounted es → AreCounted fs → AreCounted (es ++ fs)
counted_both es fs h k = record { each = All-append (λ (e : Event). e.index + 1 < 2 ^ 32) es fs h.each k.each }

-- so a block does that has its place
pub block_taken : (service : Declarations) (r : RecorderValue) (es : List Event) (t : StateValue) → IsService service → IsRecorder service r → AreCounted r.live → AreCounted es → run service r.state es ≡ Some t → has_place r.live r.queue es ≡ true → TakesAll service r es t
block_taken service r es t good kept counted more runs place =
    let p : (nat_le (length es) (4096 - length r.live) ≡ true) × (none_queued r.queue es ≡ true) = and_parts _ _ place in
    let short : length es ≤ 4096 - length r.live = leb-true (length es) (4096 - length r.live) p.0 in
    let few : length r.live ≤ 4096 = kept.few in
    takes_all service good r es t kept counted more runs (omega (arith, short, few)) p.1

-- ---- one event after the other

-- the events that are left lead where all lead from the first recorder, and there is room for them
pub record TakesOn (service : Declarations) (first : RecorderValue) (es : List Event) (r : RecorderValue) (rest : List Event) (spare : ℕ) : Type 0 where
  pub kept : IsRecorder service r
  pub all : taken_all service r rest ≡ taken_all service first es
  pub room : length rest ≤ spare

-- with one event more taken
pub takes_more : (service : Declarations) (first : RecorderValue) (es : List Event) (r q : RecorderValue) (i : ℕ) (e : Event) (u : Turn) (spare left : ℕ) → i < length es → e ≡ get_or es i e → TakesOn service first es r (drop i es) spare
    → u ≡ taken_turn service r.state r.queue (length r.live) e → q ≡ taken service r u → IsRecorder service q → spare ≤ left + 1 → TakesOn service first es q (drop (i + 1) es) left
takes_more service first es r q i e u spare left there is h turn q_is kept less =
    let rest : drop i es ≡ e ∷ drop (i + 1) es = rest_is es i e there is in
    let long : length (drop i es) ≡ length (drop (i + 1) es) + 1 = omega (arith, ap (λ (xs : List Event). length xs) rest) in
    let room : length (drop i es) ≤ spare = h.room in
    record {
      kept = kept;
      all = ap (λ (x : RecorderValue). taken_all service x (drop (i + 1) es)) (q_is ∙ ap (taken service r) turn) ∙ ap (taken_all service r) (sym rest) ∙ h.all;
      room = omega (arith, long, room, less);
    }
