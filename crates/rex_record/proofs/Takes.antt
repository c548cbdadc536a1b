-- A recorder that takes an event stays one.
use Rattle.std.proofs.Common.{◌≡◌, ℕ, ◌+◌, ◌<◌, ◌^◌, Bool, true, false, List, ◌∷◌, [], ◌++◌, length, refl, ap, sym, ◌∙◌, subst, arith, length-append, Bor}
use Rattle.std.specs.Prelude.{nat_le, Option, Some, None, IsSome, not, ◌&&◌, nat_eq, if◌then◌else◌, unwrap_or, find, is_some, ◌==◌}
use Rattle.std.specs.Option.{option_map, option_copied}
use Rattle.std.proofs.lemmas.Bool.{true≢false, and_parts, eqb-true, leb-false, lt-leb}
use Rattle.std.proofs.lemmas.Option.{same_Some}
use Rattle.std.proofs.lemmas.List.Elements.{All-push}
use Rattle.rex_syntax.specs.declared.request.Request.{Request}
use Rattle.rex_syntax.specs.declared.service.Declarations.{Declarations}
use Rattle.rex_syntax.specs.Service.{IsService}
use Rattle.rex_frame.specs.declared.frame.Frame.{Frame}
use Rattle.rex_event.specs.declared.event.Event.{Event}
use Rattle.rex_event.specs.declared.event.Kind.{Kind}
use Rattle.rex_event.specs.declared.event.Kind.TheVariants.{Begin, Reply}
use Rattle.rex_event.specs.Conflict.{named_client}
use Rattle.rex_state.specs.Value.{StateValue}
use Rattle.rex_state.specs.Machine.{lane_of, frame_at, own_can, enabled, after, next}
use Rattle.rex_state.specs.Sound.{IsSound}
use Rattle.rex_state.proofs.Keep.{next_is}
use Rattle.rex_state.proofs.Run.{run-push}
use Rattle.rex_record.specs.declared.turns.Turn.{Turn}
use Rattle.rex_record.specs.declared.turns.Turn.TheVariants.{Done, Full, Unfit}
use Rattle.rex_record.specs.Value.{RecorderValue, queued_in}
use Rattle.rex_record.specs.Kept.{AreQueued, AreCounted, IsRecorder}
use Rattle.rex_record.specs.Take.{begins_queued, is_fit, taken_turn, taken}
use Rattle.rex_record.proofs.Queue.{none_served, queued_still, queued_found}
use Rattle.rex_record.proofs.Follows.{state_sound}

none_there : (o : Option ℕ) → is_some o ≡ false → o ≡ None
none_there None h = refl
none_there (Some n) h = absurd (cc)

there_by : (o : Option (Bor Request)) → is_some o ≡ is_some (option_map (λ (r : Request). r.sequence) (option_copied o))
there_by None = refl
there_by (Some r) = refl

-- a client has a queued request where one is found
pub found_there : (o : Option (Bor Request)) (queue : List Request) (client : ℕ) → option_copied o ≡ find (λ r. r.client == client) queue → is_some o ≡ is_some (queued_in queue client)
found_there o queue client h = there_by o ∙ ap is_some (queued_found queue client (option_copied o) h)

not_true : (b : Bool) → not b ≡ true → b ≡ false
not_true true h = absurd (cc)
not_true false h = refl

-- the client whose entry a fit event changes has no queued request
named_free : (service : Declarations) (s : StateValue) (queue : List Request) (lane : ℕ) (k : Kind) (o : Option Frame) (client : ℕ) → IsSound service s → AreQueued service s queue → frame_at s lane ≡ o
    → own_can service k o s.variables ≡ true → begins_queued k queue ≡ false → named_client k ≡ Some client → queued_in queue client ≡ None
named_free service s queue lane (Begin c q h a) o client sound free b own none z = subst (λ (x : ℕ). queued_in queue x ≡ None) (same_Some c client z) (none_there (queued_in queue c) none)
named_free service s queue lane (Reply c v) None client sound free b own none z = absurd (true≢false (sym own))
named_free service s queue lane (Reply c v) (Some f) client sound free b own none z =
    let same : f.client ≡ c = eqb-true _ _ ((and_parts _ _ ((and_parts _ _ own).1)).0) in
    subst (λ (x : ℕ). queued_in queue x ≡ None) (same ∙ same_Some c client z) (none_served service s f queue (sound.by.served.busy lane f b) free)
named_free service s queue lane _ o client sound free b own none z = absurd (cc)

next_by : (b : Bool) (x : StateValue) → b ≡ true → (if b then Some x else None) ≡ Some x
next_by true x h = refl
next_by false x h = absurd (cc)

and_true : (a b : Bool) → a ≡ true → b ≡ true → (a && b) ≡ true
and_true true b h e = e
and_true false b h e = absurd (cc)

-- a fit event's index is how many events its lane did
pub fit_count : (service : Declarations) (s : StateValue) (queue : List Request) (e : Event) → (lane_of s e.lane).done + 1 < 2 ^ 32 → is_fit service s queue e ≡ true → e.index + 1 < 2 ^ 32
fit_count service s queue e count fit = subst (λ (x : ℕ). x + 1 < 2 ^ 32) (eqb-true _ _ (and_parts _ _ fit).0) count

pub fit_room : (service : Declarations) (s : StateValue) (queue : List Request) (e : Event) → is_fit service s queue e ≡ true → e.index + 1 < 2 ^ 32 → (lane_of s e.lane).done + 1 < 2 ^ 32
fit_room service s queue e fit count = subst (λ (x : ℕ). x + 1 < 2 ^ 32) (sym (eqb-true _ _ (and_parts _ _ fit).0)) count

-- an event that can be taken is next, leaves room for the index after it, and leaves a recorder
pub record CanTake (service : Declarations) (r : RecorderValue) (e : Event) : Type 0 where
  pub is : next service r.state e ≡ Some (after service e.lane e.kind r.state)
  pub some : IsSome (next service r.state e)
  pub count : e.index + 1 < 2 ^ 32
  pub counted : AreCounted (r.live ++ e ∷ [])
  pub kept : (t : StateValue) → next service r.state e ≡ Some t → IsRecorder service (record r { live = r.live ++ e ∷ []; state = t })
  pub same : (t : StateValue) → next service r.state e ≡ Some t → taken service r (Done e) ≡ record r { live = r.live ++ e ∷ []; state = t }

module _ (service : Declarations) (r : RecorderValue) (e : Event) (good : IsService service) (kept : IsRecorder service r) (few : length r.live < 4096) where
  queue_kept : (fit : is_fit service r.state r.queue e ≡ true) → AreQueued service (after service e.lane e.kind r.state) r.queue
  queue_kept fit =
      let p = and_parts _ _ fit in let q = and_parts _ _ p.1 in
      let n : next service r.state e ≡ Some (after service e.lane e.kind r.state) = next_by (nat_eq (lane_of r.state e.lane).done e.index && enabled service e.lane e.kind r.state) (after service e.lane e.kind r.state) (and_true _ _ p.0 q.0) in
      let i = next_is service r.state e (after service e.lane e.kind r.state) n in
      queued_still service r.state e.lane e.kind r.queue
      (λ client z. named_free service r.state r.queue e.lane e.kind (frame_at r.state e.lane) client (state_sound service r good kept) kept.queue refl i.enabled.own (not_true _ q.1) z) kept.queue

  pub fit_next : is_fit service r.state r.queue e ≡ true → next service r.state e ≡ Some (after service e.lane e.kind r.state)
  fit_next fit =
      let p : (nat_eq (lane_of r.state e.lane).done e.index ≡ true) × ((enabled service e.lane e.kind r.state && not (begins_queued e.kind r.queue)) ≡ true) = and_parts _ _ fit in
      let q : (enabled service e.lane e.kind r.state ≡ true) × (not (begins_queued e.kind r.queue) ≡ true) = and_parts _ _ p.1 in
      next_by (nat_eq (lane_of r.state e.lane).done e.index && enabled service e.lane e.kind r.state) (after service e.lane e.kind r.state) (and_true _ _ p.0 q.0)

  -- a fit event leaves a recorder
  pub fit_kept : is_fit service r.state r.queue e ≡ true → (t : StateValue) → next service r.state e ≡ Some t → IsRecorder service (record r { live = r.live ++ e ∷ []; state = t })
  fit_kept fit t h = record {
    sound = kept.sound;
    runs = run-push service r.start r.state t r.live e kept.runs h;
    few = omega (arith, length-append r.live (e ∷ []));
    queue = subst (λ (s : StateValue). AreQueued service s r.queue) (same_Some (after service e.lane e.kind r.state) t (sym (fit_next fit) ∙ h)) (queue_kept fit);
  }

  pub can_take : AreCounted r.live → (lane_of r.state e.lane).done + 1 < 2 ^ 32 → is_fit service r.state r.queue e ≡ true → CanTake service r e
  can_take counted count fit =
      let more : e.index + 1 < 2 ^ 32 = fit_count service r.state r.queue e count fit in
      record {
        is = fit_next fit;
        some = subst IsSome (sym (fit_next fit)) refl;
        count = more;
        counted = record { each = All-push (λ (x : Event). x.index + 1 < 2 ^ 32) r.live e counted.each more };
        kept = fit_kept fit;
        same = λ t h. ap (λ (o : Option StateValue). record r { live = r.live ++ e ∷ []; state = unwrap_or o r.state }) h;
      }

-- what comes of an event, where there is room: it is done where it is fit, else unfit
turn_by : (b c : Bool) (e : Event) (d : Turn) → b ≡ false → (if c then Done e else Unfit) ≡ d → (if b then Full else if c then Done e else Unfit) ≡ d
turn_by true c e d h i = absurd (cc)
turn_by false c e d h i = i

pub fit_turn : (service : Declarations) (r : RecorderValue) (e : Event) → length r.live < 4096 → is_fit service r.state r.queue e ≡ true → taken_turn service r.state r.queue (length r.live) e ≡ Done e
fit_turn service r e few fit = turn_by _ (is_fit service r.state r.queue e) e (Done e) (lt-leb 4096 (length r.live) few) (ap (λ (b : Bool). if b then Done e else Unfit) fit)

-- an event that is done is fit, and there was room for it
pub done_fits : (service : Declarations) (r : RecorderValue) (e d : Event) → taken_turn service r.state r.queue (length r.live) e ≡ Done d → (nat_le 4096 (length r.live) ≡ false) × (is_fit service r.state r.queue e ≡ true) × (e ≡ d)
done_fits service r e d = by (nat_le 4096 (length r.live)) (is_fit service r.state r.queue e)
  where
    by : (b c : Bool) → (if b then Full else if c then Done e else Unfit) ≡ Done d → (b ≡ false) × (c ≡ true) × (e ≡ d)
    by true c h = absurd (cc)
    by false true h = (refl, refl, cc)
    by false false h = absurd (cc)

-- whatever comes of an event that is handed in, it leaves a recorder
pub taken_keeps : (service : Declarations) (r : RecorderValue) (e : Event) → IsService service → IsRecorder service r → IsRecorder service (taken service r (taken_turn service r.state r.queue (length r.live) e))
taken_keeps service r e good kept = by (taken_turn service r.state r.queue (length r.live) e) refl
  where
    by : (t : Turn) → taken_turn service r.state r.queue (length r.live) e ≡ t → IsRecorder service (taken service r t)
    by (Done d) h =
        let f = done_fits service r e d h in
        let n : next service r.state e ≡ Some (after service e.lane e.kind r.state) = fit_next service r e good kept (leb-false 4096 (length r.live) f.0) f.1 in
        subst (λ (x : Event). IsRecorder service (taken service r (Done x))) f.2
        (subst (λ (s : StateValue). IsRecorder service (record r { live = r.live ++ e ∷ []; state = s })) (sym (ap (λ (o : Option StateValue). unwrap_or o r.state) n))
        (fit_kept service r e good kept (leb-false 4096 (length r.live) f.0) f.1 (after service e.lane e.kind r.state) n))
    by _ h = kept
