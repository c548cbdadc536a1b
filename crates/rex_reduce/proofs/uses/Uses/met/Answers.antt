use Rattle.std.proofs.Common.{◌≡◌, ap, ◌∙◌}
use Rattle.rex_event.specs.declared.event.Event.{Event}
use Rattle.rex_event.specs.declared.event.TheConstants.{LANES}
use Rattle.rex_event.specs.Conflict.{named_lock, named_client, named_semaphore}
use Rattle.rex_reduce.specs.declared.summary.Summary.{Summary}
use Rattle.rex_reduce.specs.declared.uses.Uses.{Uses}
use Rattle.rex_reduce.specs.Names.{exclusive_lock, wake_slot}
use Rattle.rex_reduce.specs.Tables.{at, with_at, with_woken}
use Rattle.rex_reduce.specs.Uses.{met}
use Rattle.rex_reduce.proofs.uses.Uses.met.Goals as goal

-- one table after the other is merged
merged : (u : Uses) (e : Event) (m0 m1 m2 m3 m4 m5 m6 : Summary) → m0 ≡ at u.lanes e.lane → m1 ≡ with_at m0 u.exclusive (named_lock e.kind) → m2 ≡ with_at m1 u.shared (exclusive_lock e.kind) → m3 ≡ with_at m2 u.clients (named_client e.kind)
    → m4 ≡ with_at m3 u.semaphores (named_semaphore e.kind) → m5 ≡ with_at m4 u.wakers (wake_slot e) → m6 ≡ with_woken m5 u.wakes e.kind LANES → m6 ≡ met u e
merged u e m0 m1 m2 m3 m4 m5 m6 p0 p1 p2 p3 p4 p5 p6 =
    p6
    ∙ ap (λ (m : Summary). with_woken m u.wakes e.kind LANES)
    (p5
    ∙ ap (λ (m : Summary). with_at m u.wakers (wake_slot e))
    (p4
    ∙ ap (λ (m : Summary). with_at m u.semaphores (named_semaphore e.kind))
    (p3 ∙ ap (λ (m : Summary). with_at m u.clients (named_client e.kind)) (p2 ∙ ap (λ (m : Summary). with_at m u.shared (exclusive_lock e.kind)) (p1 ∙ ap (λ (m : Summary). with_at m u.exclusive (named_lock e.kind)) p0)))))

pub returns : goal.returns
returns c =
    merged c.args.self.now c.args.event.now c.copy_at.new.met c.merge_at.new.met c.merge_at-2.new.met c.merge_at-3.new.met c.merge_at-4.new.met c.merge_at-5.new.met c.merge_woken.new.met
    (rw c.from.ensures at c.copy_at.ensures)
    (rw c.any_lock.ensures at c.merge_at.ensures)
    (rw c.exclusive_lock.ensures at c.merge_at-2.ensures)
    (rw c.client.ensures at c.merge_at-3.ensures)
    (rw c.semaphore.ensures at c.merge_at-4.ensures)
    (rw c.wake_slot.ensures at c.merge_at-5.ensures)
    c.merge_woken.ensures
