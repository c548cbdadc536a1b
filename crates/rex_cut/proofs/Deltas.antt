-- The delta below a cut.
use Rattle.std.proofs.Common.{◌≡◌, ℕ, ◌≤◌, List, length, sym, subst, arith}
use Rattle.std.specs.List.{All}
use Rattle.rex_event.specs.declared.event.Event.{Event}
use Rattle.rex_event.specs.declared.delta.Delta.{Delta}
use Rattle.rex_event.specs.Cuts.{AreNumbered, below}
use Rattle.rex_event.specs.Pieces.{AllCausesFit}
use Rattle.rex_event.specs.declared.event.TheConstants.{LANES}
use Rattle.rex_clocks.specs.Lanes.{HasLane}
use Rattle.rex_clocks.proofs.Leads.{all_from_has}
use Rattle.rex_clocks.proofs.Numbered.{numbered_lane}
use Rattle.rex_reduce.specs.Reduced.{AreLeast, IsTrace}
use Rattle.rex_reduce.proofs.Reduced.{reduced_least, reduced_fits}
use Rattle.rex_cut.specs.Greatest.{IsCutOf}
use Rattle.rex_cut.specs.Delta.{bases_from, delta_at}
use Rattle.rex_cut.proofs.Bases.{bases_long, below_bases}

bases_few : (cut : List ℕ) (es : List Event) → IsCutOf es cut → length (bases_from es 0 cut) ≤ LANES
bases_few cut es good = let long = bases_long es 0 cut in let few = good.few in omega arith

-- its events are numbered on from its bases
pub delta_numbered : (cut : List ℕ) (es : List Event) → IsCutOf es cut → AreNumbered (delta_at cut es).bases (delta_at cut es).events
delta_numbered cut es good = below_bases cut es good

-- and a trace
pub delta_trace : (cut : List ℕ) (es : List Event) → IsCutOf es cut → IsTrace (delta_at cut es).events
delta_trace cut es good = record { bases = bases_from es 0 cut; few = bases_few cut es good; numbered = below_bases cut es good }

-- its causes are the least that are right
pub delta_least : (cut : List ℕ) (es : List Event) → IsCutOf es cut → AreLeast (delta_at cut es).events (delta_at cut es).causes
delta_least cut es good = reduced_least (below cut es) (delta_trace cut es good)

-- and fit
pub delta_fits : (cut : List ℕ) (es : List Event) → IsCutOf es cut → AllCausesFit (delta_at cut es).bases (delta_at cut es).bases (delta_at cut es).events (delta_at cut es).causes
delta_fits cut es good = (reduced_fits (below cut es) (delta_trace cut es good)).fit (bases_from es 0 cut) (bases_few cut es good) (below_bases cut es good)

-- the lanes of a trace's events have counts in its cuts
pub cut_lanes : (cut : List ℕ) (es : List Event) → IsCutOf es cut → All (HasLane (length cut)) es
cut_lanes cut es good =
    subst (λ (n : ℕ). All (HasLane n) es) good.long
    (all_from_has (HasLane (length good.bases)) es (λ e h. record { below = numbered_lane good.bases es e good.numbered h }))

-- what is known of the delta below a cut
pub record IsPiece (d : Delta) : Type 0 where
  pub numbered : AreNumbered d.bases d.events
  pub fit : AllCausesFit d.bases d.bases d.events d.causes

pub is_piece : (cut : List ℕ) (es : List Event) (d : Delta) → IsCutOf es cut → d ≡ delta_at cut es → IsPiece d
is_piece cut es d good q = subst IsPiece (sym q) (record { numbered = delta_numbered cut es good; fit = delta_fits cut es good })
