-- What moments tell.
use Rattle.std.proofs.Common.{◌≡◌, ℕ, sym, ap, ◌∙◌, subst}
use Rattle.atomic_table.specs.Table.{State}
use Rattle.rex_state.specs.Start.{start_of}
use Rattle.rex_state.proofs.Sounds.{run_keeps, start_keeps}
use Rattle.rex_words.specs.declared.assignment.Assignment.{Assignment}
use Rattle.rex_words.specs.declared.view.View.{View}
use Rattle.rex_words.specs.declared.view.Role.TheVariants.{Lane}
use Rattle.rex_words.specs.Stamps.{events_in}
use Rattle.rex_words.specs.Alone.{service_of}
use Rattle.rex_words.specs.Moment.{IsKnown, IsMoment}
use Rattle.rex_words.specs.Moments.{HasView, IsRunAt}
use Rattle.rex_words.proofs.Keeps.{says_lane}

pub views_know : (r : Assignment) (t : State (Unit {0}) View) (now : IsMoment r t) (seat : ℕ) (v : View) → HasView t seat v → v.role ≡ Lane → IsKnown r t.words now.common.history now.common.state v.lane v.knows
views_know r t now seat v at role = let q = says_lane r t now seat v at role in subst (IsKnown r t.words now.common.history now.common.state v.lane) q.4 (now.common.lanes v.lane q.2)

pub one_view : (r : Assignment) (t : State (Unit {0}) View) → IsMoment r t → (i j : ℕ) (v w : View) → HasView t i v → HasView t j w → v.role ≡ Lane → w.role ≡ Lane → v.lane ≡ w.lane → i ≡ j
one_view r t now i j v w at at' role role' same =
    let q = says_lane r t now i v at role in
    let p = says_lane r t now j w at' role' in
    sym q.3 ∙ (ap now.owner same ∙ p.3)

pub moment_runs : (r : Assignment) (t : State (Unit {0}) View) (now : IsMoment r t) → IsRunAt r t now
moment_runs r t now = record {
  order = now.common.recorded.order;
  runs = now.common.recorded.runs;
  sound = run_keeps (service_of r) (start_of (service_of r)) now.common.state (events_in now.common.history) now.right.good (start_keeps (service_of r) now.right.good now.right.checked) now.common.recorded.runs;
  locks = now.common.locks;
}
