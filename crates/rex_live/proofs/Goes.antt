-- A lane's event is its next one in the state, and is enabled.
use Rattle.std.proofs.Common.{◌≡◌, ℕ, ◌<◌, Bool, true, List, [], ◌∷◌, refl, subst, eq-eqb, arith, false}
use Rattle.std.specs.Prelude.{Option, Some, None, ℤ, find, if◌then◌else◌}
use Rattle.rex_syntax.specs.declared.request.Request.{Request}
use Rattle.rex_syntax.specs.declared.service.Declarations.{Declarations}
use Rattle.rex_syntax.specs.Service.{IsService}
use Rattle.rex_frame.specs.declared.frame.Frame.{Frame}
use Rattle.rex_event.specs.declared.event.Event.{Event}
use Rattle.rex_state.specs.Value.{StateValue}
use Rattle.rex_state.specs.Machine.{lane_of, frame_at, enabled, after, next}
use Rattle.rex_state.specs.Sound.{IsSound}
use Rattle.rex_record.specs.declared.turns.Turn.{Turn}
use Rattle.rex_record.specs.declared.turns.Turn.TheVariants.{Done, Full, Idle, Held, Unsignalled, Zero, Unfit}
use Rattle.rex_record.specs.Turn.{begin_of, event_at, lane_turn}
use Rattle.rex_record.specs.Value.{started}
use Rattle.rex_record.proofs.Goes.{turn_goes_on}
use Rattle.rex_live.specs.Floor.{begin_at, event_of, lane_event}

-- the event is the lane's, and is next
pub record IsNextOf (service : Declarations) (s : StateValue) (lane : ℕ) (e : Event) : Type 0 where
  pub own : e.lane ≡ lane
  pub state : StateValue
  pub is : next service s e ≡ Some state

-- what is found passes the test
cond_found : (test : Request → Bool) (rs : List Request) (r x : Request) (b : Bool) → test r ≡ b → (find test rs ≡ Some x → test x ≡ true) → (if b then Some r else find test rs) ≡ Some x → test x ≡ true
cond_found test rs r x true is more h = let same : r ≡ x = cc in subst (λ (y : Request). test y ≡ true) same is
cond_found test rs r x false is more h = more h

found : (test : Request → Bool) (rs : List Request) (x : Request) → find test rs ≡ Some x → test x ≡ true
found test [] x h = absurd (cc)
found test (r ∷ rs) x h = cond_found test rs r x (test r) refl (found test rs x) h

-- a begin that the state allows is next
begins : (service : Declarations) (s : StateValue) (lane : ℕ) (o : Option Request) (e : Event) → ((x : Request) → o ≡ Some x → enabled service lane (begin_of x) s ≡ true)
    → begin_at s lane o ≡ Some e → IsNextOf service s lane e
begins service s lane None e allowed h = absurd (cc)
begins service s lane (Some x) e allowed h =
    let same : event_at s lane (begin_of x) ≡ e = cc in
    subst (IsNextOf service s lane) same
    (record {
      own = refl;
      state = after service lane (begin_of x) s;
      is = rw (eq-eqb (lane_of s lane).done (lane_of s lane).done refl, allowed x refl) refl;
    })

pub done_of : (t : Turn) (e : Event) → event_of t ≡ Some e → t ≡ Done e
done_of (Done d) e h = cc
done_of Full e h = absurd (cc)
done_of Idle e h = absurd (cc)
done_of (Held by) e h = absurd (cc)
done_of Unsignalled e h = absurd (cc)
done_of (Zero semaphore) e h = absurd (cc)
done_of Unfit e h = absurd (cc)

goes_from : (service : Declarations) (requests : List Request) (s : StateValue) (lane : ℕ) (clock : ℤ) (random : ℕ) (e : Event) (o : Option Frame) → IsService service → IsSound service s
    → lane < service.lanes → frame_at s lane ≡ o → lane_event service requests s lane clock random o ≡ Some e → IsNextOf service s lane e
goes_from service requests s lane clock random e None good sound there is h =
    begins service s lane _ e (λ x found_x. found (λ request. enabled service lane (begin_of request) s) requests x found_x) h
goes_from service requests s lane clock random e (Some f) good sound there is h =
    let turn : lane_turn service s [] lane clock random (frame_at s lane) ≡ Done e = rw is (done_of _ e h) in
    let g = turn_goes_on service (started s) lane clock random e good (record { sound = sound; runs = refl; few = omega arith; queue = tt }) there turn in
    record { own = g.own; state = g.state; is = g.is }

-- the event of a lane is next
pub goes : (service : Declarations) (requests : List Request) (s : StateValue) (lane : ℕ) (clock : ℤ) (random : ℕ) (e : Event) → IsService service → IsSound service s
    → lane < service.lanes → lane_event service requests s lane clock random (frame_at s lane) ≡ Some e → IsNextOf service s lane e
goes service requests s lane clock random e good sound there h = goes_from service requests s lane clock random e (frame_at s lane) good sound there refl h
