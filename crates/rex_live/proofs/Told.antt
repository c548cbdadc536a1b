-- What the events of a history say of the floor where they are recorded.
use Rattle.std.proofs.Common.{◌≡◌, ℕ, inl, inr, Bool, true, false, List, [], ◌∷◌, ◌++◌, length, refl, ap, sym, ◌∙◌, subst, arith, length-append, append_assoc, append-nil}
use Rattle.std.specs.Prelude.{Option, Some, None, pos, find, if◌then◌else◌}
use Rattle.rand_pcg.specs.Lcg.{Lcg}
use Rattle.rand_pcg.specs.Pcg.{pcg32}
use Rattle.rex_syntax.specs.declared.line.Line.{Line}
use Rattle.rex_syntax.specs.declared.line.Line.TheVariants as line
use Rattle.rex_syntax.specs.declared.request.Request.{Request}
use Rattle.rex_syntax.specs.declared.service.Declarations.{Declarations}
use Rattle.rex_syntax.specs.Leads.{lock_of}
use Rattle.rex_syntax.specs.Locks.{mode_of, is_exclusive}
use Rattle.rex_frame.specs.declared.frame.Frame.{Frame}
use Rattle.rex_frame.specs.Phases.{is_running}
use Rattle.rex_event.specs.declared.event.Event.{Event}
use Rattle.rex_event.specs.declared.event.Kind.TheVariants.{TryOk, TryBusy, RelEx, RelSh, Wake}
use Rattle.rex_event.specs.Order.{Has}
use Rattle.rex_state.specs.Lines.{line_of}
use Rattle.rex_state.specs.Locks.{is_free}
use Rattle.rex_state.specs.Machine.{frame_at, queue_at, is_in, enabled}
use Rattle.rex_record.specs.declared.turns.Turn.TheVariants.{Done, Unsignalled}
use Rattle.rex_record.specs.Turn.{begin_of, wanted, held_by, zero_at, event_at, done_unless, turn_for, waiting_turn, busy_turn}
use Rattle.rex_live.specs.Floor.{FloorValue, opened, begin_at, lane_event, next_event, recorded, LeadsTo, IsMade}
use Rattle.rex_live.specs.Laws.{IsTold, IsToldAfter}
use Rattle.rex_live.proofs.Goes.{done_of}

-- ---- where an event stands

-- the floor before an event of a list
pub record Split (service : Declarations) (requests : List Request) (f : FloorValue) (before : List Event) (e : Event) : Type 0 where
  pub floor : FloorValue
  pub leads : LeadsTo service requests f before floor
  pub next : next_event service requests floor e.lane ≡ Some e

split : (service : Declarations) (requests : List Request) (f g : FloorValue) (before rest : List Event) (e : Event) → LeadsTo service requests f (before ++ e ∷ rest) g → Split service requests f before e
split service requests f g [] rest e h = record { floor = f; leads = refl; next = h.1 }
split service requests f g (d ∷ before) rest e h =
    let s = split service requests (recorded service f d) g before rest e h.2 in
    record { floor = s.floor; leads = (h.0, h.1, s.leads); next = s.next }

-- the events that lead on stand behind those that were there
leads_history : (service : Declarations) (requests : List Request) (f g : FloorValue) (es : List Event) → LeadsTo service requests f es g → g.history ≡ f.history ++ es
leads_history service requests f g [] h = ap (λ (x : FloorValue). x.history) (sym h) ∙ sym (append-nil f.history)
leads_history service requests f g (e ∷ es) h = leads_history service requests (recorded service f e) g es h.2 ∙ append_assoc f.history (e ∷ []) es

-- ---- what it says

done_kind : (o z : Option ℕ) (d e : Event) → done_unless o z d ≡ Done e → d ≡ e
done_kind None None d e h = cc
done_kind None (Some semaphore) d e h = absurd (cc)
done_kind (Some by) z d e h = absurd (cc)

-- a begun request was handed in
has_cond : (test : Request → Bool) (rs : List Request) (r x : Request) (b : Bool) → (find test rs ≡ Some x → Has x rs) → (if b then Some r else find test rs) ≡ Some x → Has x (r ∷ rs)
has_cond test rs r x true more h = let same : r ≡ x = cc in inl same
has_cond test rs r x false more h = inr (more h)

has_found : (test : Request → Bool) (rs : List Request) (x : Request) → find test rs ≡ Some x → Has x rs
has_found test [] x h = absurd (cc)
has_found test (r ∷ rs) x h = has_cond test rs r x (test r) (has_found test rs x) h

begun_told : (requests : List Request) (f : FloorValue) (lane : ℕ) (o : Option Request) (e : Event) → ((x : Request) → o ≡ Some x → Has x requests) → begin_at f.state lane o ≡ Some e → IsTold requests f e.kind
begun_told requests f lane None e has h = absurd (cc)
begun_told requests f lane (Some x) e has h =
    let same : event_at f.state lane (begin_of x) ≡ e = cc in
    subst (λ (d : Event). IsTold requests f d.kind) same (has x refl)

tried : (requests : List Request) (f : FloorValue) (lock : ℕ) (b : Bool) → is_free lock f.state.lanes ≡ b → IsTold requests f (if b then TryOk lock else TryBusy lock)
tried requests f lock true is = tt
tried requests f lock false is = is

released : (requests : List Request) (f : FloorValue) (lock : ℕ) (b : Bool) → IsTold requests f (if b then RelEx lock else RelSh lock)
released requests f lock true = tt
released requests f lock false = tt

wanted_told : (service : Declarations) (requests : List Request) (f : FloorValue) (frame : Frame) (l : Line) → IsTold requests f (wanted service f.state frame (pos (length f.history)) (pcg32 f.dice).0 l)
wanted_told service requests f frame (line.Release lock) = released requests f lock (is_exclusive (mode_of frame.held lock))
wanted_told service requests f frame (line.Try lock busy) = tried requests f lock (is_free lock f.state.lanes) refl
wanted_told service requests f frame (line.Clock local) = refl
wanted_told service requests f frame (line.Random local) = refl
wanted_told service requests f frame _ = tt

woken_told : (requests : List Request) (f : FloorValue) (lane condition lock : ℕ) (b : Bool) (e : Event) → (if b then Unsignalled else turn_for f.state lane (Wake condition lock)) ≡ Done e → IsTold requests f e.kind
woken_told requests f lane condition lock true e h = absurd (cc)
woken_told requests f lane condition lock false e h =
    subst (λ (d : Event). IsTold requests f d.kind) (done_kind (held_by (Wake condition lock) f.state.lanes) None (event_at f.state lane (Wake condition lock)) e h) tt

waiting_told : (service : Declarations) (requests : List Request) (f : FloorValue) (lane : ℕ) (l : Line) (e : Event) → waiting_turn service f.state lane l ≡ Done e → IsTold requests f e.kind
waiting_told service requests f lane (line.Wait condition test) e h = woken_told requests f lane condition (lock_of service condition) (is_in lane (queue_at f.state.queues condition)) e h
waiting_told service requests f lane _ e h = absurd (cc)

busy_told : (service : Declarations) (requests : List Request) (f : FloorValue) (lane : ℕ) (frame : Frame) (b : Bool) (e : Event)
    → busy_turn service f.state lane frame (pos (length f.history)) (pcg32 f.dice).0 b ≡ Done e → IsTold requests f e.kind
busy_told service requests f lane frame true e h =
    let k = wanted service f.state frame (pos (length f.history)) (pcg32 f.dice).0 (line_of service frame) in
    subst (λ (d : Event). IsTold requests f d.kind) (done_kind (held_by k f.state.lanes) (zero_at k f.state.semaphores) (event_at f.state lane k) e h) (wanted_told service requests f frame (line_of service frame))
busy_told service requests f lane frame false e h = waiting_told service requests f lane (line_of service frame) e h

told_at : (service : Declarations) (requests : List Request) (f : FloorValue) (lane : ℕ) (o : Option Frame) (e : Event)
    → lane_event service requests f.state lane (pos (length f.history)) (pcg32 f.dice).0 o ≡ Some e → IsTold requests f e.kind
told_at service requests f lane None e h = begun_told requests f lane _ e (λ x found. has_found (λ request. enabled service lane (begin_of request) f.state) requests x found) h
told_at service requests f lane (Some frame) e h = busy_told service requests f lane frame (is_running frame.phase) e (done_of _ e h)

-- ---- both

pub events_told : (service : Declarations) (requests : List Request) (dice : Lcg) (f : FloorValue) (before rest : List Event) (e : Event) → IsMade service requests dice f
    → f.history ≡ before ++ e ∷ rest → IsToldAfter service requests dice before e
events_told service requests dice f before rest e made h =
    let s = split service requests (opened service dice) f before rest e (subst (λ (es : List Event). LeadsTo service requests (opened service dice) es f) h made.leads) in
    let events : s.floor.history ≡ before = leads_history service requests (opened service dice) s.floor before s.leads in
    record {
      floor = s.floor;
      events = events;
      made = record {
        leads = subst (λ (es : List Event). LeadsTo service requests (opened service dice) es s.floor) (sym events) s.leads;
        few = omega (arith, made.few, ap (λ (es : List Event). length es) h, length-append before (e ∷ rest), ap (λ (es : List Event). length es) events);
      };
      next = s.next;
      told = told_at service requests s.floor e.lane (frame_at s.floor.state e.lane) e s.next;
    }
