-- A journal on a disk in memory once it is armed.
use Rattle.std.proofs.Common.{◌≡◌, true, Some, refl, ◌∙◌, ap}
use Rattle.std.specs.Prelude.{◌&&◌, not}
use Rattle.std.proofs.lemmas.Bool.{and_parts}
use Rattle.rex_disk.specs.Memory.{DiskValue}
use Rattle.rex_disk.specs.Record.{are_within}
use Rattle.rex_disk.specs.declared.plan.Plan.{Plan}
use Rattle.rex_journal.specs.Keeping.{JournalValue}
use Rattle.rex_journal.specs.Storing.{armed_by, fails_as_armed, is_empty, is_of_fate, plan_of}
use Rattle.rex_journal.specs.StoringLaws.{value_of}
use Rattle.rex_traits.specs.Stores.{armed_to}
use Rattle.rex_traits.specs.declared.mem_keeper.Fate.{Fate}
use Rattle.rex_traits.specs.declared.mem_keeper.Fate.TheVariants.{Kept, Lost}

armed_as : (fate : Fate) → armed_by (Some (plan_of fate)) ≡ Some fate
armed_as Kept = refl
armed_as Lost = refl

of_fate : (fate : Fate) → is_of_fate (Some (plan_of fate)) ≡ true
of_fate Kept = refl
of_fate Lost = refl

pub armed_is : (old new : JournalValue DiskValue) (fate : Fate) (plan : Plan) → plan ≡ plan_of fate → new ≡ record old { disk = record old.disk { plan = Some plan } } → fails_as_armed old ≡ true → value_of new ≡ armed_to fate (value_of old)
armed_is old new fate plan is set always =
    let parts = and_parts (is_empty old.disk.failing) (is_of_fate old.disk.plan && (are_within old.disk.first old.disk.done && not old.unsure)) always in
    let was : is_of_fate old.disk.plan ≡ true = (and_parts (is_of_fate old.disk.plan) (are_within old.disk.first old.disk.done && not old.unsure) parts.1).0 in
    ap value_of set ∙ rw (is, armed_as fate, of_fate fate, was) refl
