-- Histories that lanes make run, and grow by the lanes' next events.
use Rattle.std.proofs.Common.{◌≡◌, ◌<◌, List, [], ◌∷◌, ◌++◌, refl, ap, sym, ◌∙◌, subst}
use Rattle.std.specs.Prelude.{Option, Some, unwrap_or}
use Rattle.rand_pcg.specs.Lcg.{Lcg}
use Rattle.rex_syntax.specs.declared.request.Request.{Request}
use Rattle.rex_syntax.specs.declared.service.Declarations.{Declarations}
use Rattle.rex_syntax.specs.Service.{IsService}
use Rattle.rex_syntax.specs.Check.{IsChecked}
use Rattle.rex_event.specs.declared.event.Event.{Event}
use Rattle.rex_state.specs.Value.{StateValue}
use Rattle.rex_state.specs.Machine.{next, run, run_from}
use Rattle.rex_state.specs.Sound.{IsSound}
use Rattle.rex_state.proofs.Sounds.{next_keeps, start_keeps}
use Rattle.rex_live.specs.Floor.{FloorValue, opened, next_event, recorded, LeadsTo, IsMade}
use Rattle.rex_live.specs.Laws.{Runs}
use Rattle.rex_live.proofs.Goes.{IsNextOf, goes}

-- one more event of a lane
pub leads_push : (service : Declarations) (requests : List Request) (f g : FloorValue) (es : List Event) (e : Event) → LeadsTo service requests f es g → e.lane < service.lanes
    → next_event service requests g e.lane ≡ Some e → LeadsTo service requests f (es ++ e ∷ []) (recorded service g e)
leads_push service requests f g [] e h there is =
    subst (λ (x : FloorValue). LeadsTo service requests x (e ∷ []) (recorded service g e)) (sym h) (there, is, refl)
leads_push service requests f g (d ∷ es) e h there is = (h.0, h.1, leads_push service requests (recorded service f d) g es e h.2 there is)

-- the events run, and stand in the history
pub record RunsTo (service : Declarations) (f : FloorValue) (es : List Event) (g : FloorValue) : Type 0 where
  pub runs : run service f.state es ≡ Some g.state
  pub sound : IsSound service g.state

recorded_state : (service : Declarations) (f : FloorValue) (e : Event) (s : StateValue) → next service f.state e ≡ Some s → (recorded service f e).state ≡ s
recorded_state service f e s h = ap (λ (o : Option StateValue). unwrap_or o f.state) h

pub leads_run : (service : Declarations) (requests : List Request) (f g : FloorValue) (es : List Event) → IsService service → IsSound service f.state → LeadsTo service requests f es g → RunsTo service f es g
leads_run service requests f g [] good sound h = subst (RunsTo service f []) h (record { runs = refl; sound = sound })
leads_run service requests f g (e ∷ es) good sound h =
    let n : IsNextOf service f.state e.lane e = goes service requests f.state e.lane _ _ e good sound h.0 h.1 in
    let state : (recorded service f e).state ≡ n.state = recorded_state service f e n.state n.is in
    let sound' : IsSound service (recorded service f e).state = subst (IsSound service) (sym state) (next_keeps service f.state n.state e good sound n.is) in
    let r : RunsTo service (recorded service f e) es g = leads_run service requests (recorded service f e) g es good sound' h.2 in
    record {
      runs = ap (λ (o : Option StateValue). run_from service o es) (n.is ∙ ap Some (sym state)) ∙ r.runs;
      sound = r.sound;
    }

-- a history that lanes make runs
pub made_runs : (service : Declarations) (requests : List Request) (dice : Lcg) (f : FloorValue) → IsService service → IsChecked service → IsMade service requests dice f → Runs service f
made_runs service requests dice f good checked made =
    let r = leads_run service requests (opened service dice) f f.history good (start_keeps service good checked) made.leads in
    record { runs = r.runs; sound = r.sound }
