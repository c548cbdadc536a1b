-- Linear extensions run alike.
use Rattle.std.proofs.Common.{◌≡◌, ℕ, false, List, []}
use Rattle.std.specs.Prelude.{Some}
use Rattle.rex_syntax.specs.declared.service.Declarations.{Declarations}
use Rattle.rex_syntax.specs.Service.{IsService}
use Rattle.rex_event.specs.declared.event.Event.{Event}
use Rattle.rex_event.specs.Conflict.{conflict}
use Rattle.rex_event.specs.Cuts.{below, IsConsistent}
use Rattle.rex_state.specs.Value.{StateValue}
use Rattle.rex_state.specs.Machine.{run}
use Rattle.rex_state.specs.Sound.{IsSound}
use Rattle.rex_state.specs.Counts.{counts_of}
use Rattle.rex_state.proofs.Commute.{neighbours_commute}
use Rattle.rex_state.proofs.Counts.{runs_count_on}
use Rattle.rex_state.proofs.Cuts.{Leads, runs_from, run_from_runs, cuts_go_first}
use Rattle.rex_state.proofs.Sounds.{next_keeps}
use Rattle.rex_order.specs.Extensions.{IsLinearExtension}
use Rattle.rex_order.specs.Laws.{CutRunsAlike}
use Rattle.rex_order.proofs.Numbered.{numbered_alike}
use Rattle.rex_order.proofs.Runs.{runs_alike}

leads_commute : (service : Declarations) (good : IsService service) (s a b : StateValue) (e y : Event) → conflict e y ≡ false → Leads service good s e a → Leads service good a y b
    → (c : StateValue) × Leads service good s y c × Leads service good c e b
leads_commute service good s a b e y apart g h =
    let w = neighbours_commute service s a b e y good g.0 apart g.1 h.1 in
    (w.between, (g.0, w.first), (next_keeps service s w.between y good g.0 w.first, w.second))

-- a linear extension runs to the same state
pub extensions_run_alike : (service : Declarations) (s t : StateValue) (es fs : List Event) → IsService service → IsSound service s → run service s es ≡ Some t → IsLinearExtension es fs → run service s fs ≡ Some t
extensions_run_alike service s t es fs good sound h x =
    run_from_runs service good s t fs
    (runs_alike (Leads service good) conflict (leads_commute service good) s t es fs
    (numbered_alike (counts_of s) es fs (runs_count_on service s t es h).numbered x.rearranged)
    (λ d e b c. x.kept d e ([], record { before = b; meets = c }))
    (runs_from service good s t es sound h))

-- so does one of the events below a consistent cut
pub cuts_run_alike : (service : Declarations) (s t : StateValue) (es : List Event) (cut : List ℕ) → IsService service → IsSound service s → run service s es ≡ Some t → IsConsistent es cut → CutRunsAlike service s es cut
cuts_run_alike service s t es cut good sound h c =
    let first = cuts_go_first service s t cut es good sound c h in
    record { state = first.state; at = first.first; alike = λ fs x. extensions_run_alike service s first.state (below cut es) fs good sound first.first x }
