-- Summaries of the events so far, by what they name.
use Rattle.std.specs.Prelude.{◌≡◌, [], Some}
use Rattle.rex_event.specs.declared.event.Event.{Event}
use Rattle.rex_event.specs.Conflict.{named_lock, named_client, named_semaphore}
use Rattle.rex_reduce.specs.declared.summary.Summary.{Summary}
use Rattle.rex_reduce.specs.declared.uses.Uses.{Uses}
use Rattle.rex_reduce.specs.Names.{exclusive_lock, shared_lock, wake_slot}
use Rattle.rex_event.specs.declared.event.TheConstants.{LANES}
use Rattle.rex_reduce.specs.Tables.{at, with_at, with_woken, Covers, AreAddedAt, AreAddedWoken}

-- the summary of what conflicts with an event
abbrev pub met : Uses → Event → Summary
met u e =
    with_woken
    (with_at
    (with_at (with_at (with_at (with_at (at u.lanes e.lane) u.exclusive (named_lock e.kind)) u.shared (exclusive_lock e.kind)) u.clients (named_client e.kind)) u.semaphores (named_semaphore e.kind))
    u.wakers (wake_slot e))
    u.wakes e.kind LANES

-- an event is added at what it names
pub record AreAdded (u : Uses) (e : Event) (own : Summary) (more : Uses) : Type 0 where
  pub lanes : AreAddedAt u.lanes (Some e.lane) own more.lanes
  pub exclusive : AreAddedAt u.exclusive (exclusive_lock e.kind) own more.exclusive
  pub shared : AreAddedAt u.shared (shared_lock e.kind) own more.shared
  pub clients : AreAddedAt u.clients (named_client e.kind) own more.clients
  pub semaphores : AreAddedAt u.semaphores (named_semaphore e.kind) own more.semaphores
  pub wakers : AreAddedWoken u.wakers e.kind own LANES more.wakers
  pub wakes : AreAddedAt u.wakes (wake_slot e) own more.wakes

-- the summary of an event covers what stands where it excludes all others
pub record CoversUses (own : Summary) (u : Uses) (e : Event) : Type 0 where
  pub lanes : Covers own u.lanes (Some e.lane)
  pub exclusive : Covers own u.exclusive (exclusive_lock e.kind)
  pub clients : Covers own u.clients (named_client e.kind)
  pub semaphores : Covers own u.semaphores (named_semaphore e.kind)

-- of no events
pub record AreEmpty (u : Uses) : Type 0 where
  pub lanes : u.lanes ≡ []
  pub exclusive : u.exclusive ≡ []
  pub shared : u.shared ≡ []
  pub clients : u.clients ≡ []
  pub semaphores : u.semaphores ≡ []
  pub wakers : u.wakers ≡ []
  pub wakes : u.wakes ≡ []
