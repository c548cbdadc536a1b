-- Reduced causes are least and fit.
use Rattle.std.proofs.Common.{⊎_elim, ◌≤◌, List, [], length, refl, sym, subst, arith}
use Rattle.rex_event.specs.declared.event.Event.{Event}
use Rattle.rex_event.specs.declared.delta.Cause.{Cause}
use Rattle.rex_event.specs.Order.{Has}
use Rattle.rex_event.specs.Causes.{cause_of, HasCauses}
use Rattle.rex_clocks.specs.Clocks.{clock_before}
use Rattle.rex_reduce.specs.Clocks.{clock_beneath}
use Rattle.rex_reduce.specs.Direct.{AreDirect}
use Rattle.rex_reduce.specs.Reduced.{AreLeast, FitPieces, IsTrace}
use Rattle.rex_reduce.specs.Reduction.{first_indices, reduced}
use Rattle.rex_reduce.proofs.First.{first_long, numbered_first}
use Rattle.rex_reduce.proofs.Beneath.{stands}
use Rattle.rex_reduce.proofs.Direct.{Lies, IsEnd, ordered_first, lies_or_end, cause_direct, end_cause}
use Rattle.rex_reduce.proofs.Right.{placed_from, reduced_right}
use Rattle.rex_reduce.proofs.Least.{reduced_among, reduced_rising}
use Rattle.rex_event.specs.declared.event.TheConstants.{LANES}
use Rattle.rex_reduce.proofs.Fits.{reduced_fit}

pub reduced_least : (es : List Event) → IsTrace es → AreLeast es (reduced es)
reduced_least es t =
    let few = let l = first_long es in let r : length (first_indices es) ≤ LANES = omega arith in r in
    let n = numbered_first t.bases es t.few t.numbered in
    record {
      right = reduced_right (first_indices es) es few n;
      least = λ others r. reduced_among (first_indices es) es others few n r;
      rising = reduced_rising (first_indices es) [] es;
    }

pub reduced_fits : (es : List Event) → IsTrace es → FitPieces es (reduced es)
reduced_fits es t = record {
  fit = λ bases few n.
      let l = first_long es in
      reduced_fit (first_indices es) bases es (omega arith) (numbered_first t.bases es t.few t.numbered) n;
}

pub reduced_direct : (es : List Event) → IsTrace es → (e : Event) (causes : List Cause) → HasCauses e causes es (reduced es) → AreDirect es e causes
reduced_direct es t e causes h =
    let first = first_indices es in
    let few = let l = first_long es in let r : length (first_indices es) ≤ LANES = omega arith in r in
    let p = placed_from first es [] es e causes refl h in
    let s = stands first es p.past p.rest e few (numbered_first t.bases es t.few t.numbered) p.split in
    record {
      only = λ c k. cause_direct first es p.past p.rest e c s (subst (Has c) p.is k);
      all = λ d i o.
          subst (Has (cause_of d)) (sym p.is)
          (⊎_elim (λ (l : Lies es d e). absurd (i.next l.event l.after l.before))
          (λ (l : IsEnd first (clock_before p.past e) (clock_beneath p.past e) d). end_cause first es p.past p.rest d e s (ordered_first es d e i.before) l o)
          (lies_or_end first es p.past p.rest d e s i.before));
    }
