-- An event that is no signal or broadcast has no places of wakers.
use Rattle.std.proofs.Common.{◌≡◌, ℕ, zero, suc, false, List, refl}
use Rattle.std.specs.Prelude.{Option, Some, None}
use Rattle.rex_event.specs.declared.event.Kind.{Kind}
use Rattle.rex_event.specs.declared.event.Kind.TheVariants.{Begin}
use Rattle.rex_reduce.specs.declared.summary.Summary.{Summary}
use Rattle.rex_event.specs.Conflict.{is_waker}
use Rattle.rex_reduce.specs.Names.{waker_slot, is_waker_at}
use Rattle.rex_reduce.specs.Tables.{with_woken, AreAddedWoken}

no_slot : (kind : Kind) (lane : ℕ) → is_waker kind ≡ false → waker_slot kind lane ≡ None
no_slot (Begin client sequence handler arguments) lane e = refl
no_slot _ lane e = cc

-- nothing is merged
pub none_merged : (met : Summary) (rows : List Summary) (kind : Kind) (n : ℕ) → is_waker kind ≡ false → met ≡ with_woken met rows kind n
none_merged met rows kind zero e = refl
none_merged met rows kind (suc n) e = rw (no_slot kind n e) (none_merged met rows kind n e)

never_waker : (kind : Kind) (place : Option ℕ) (n : ℕ) → is_waker kind ≡ false → is_waker_at kind place n ≡ false
never_waker kind place zero e = refl
never_waker kind place (suc n) e = rw (never_waker kind place n e, no_slot kind n e) refl

-- nothing is added
pub none_added : (rows : List Summary) (kind : Kind) (own : Summary) (n : ℕ) → is_waker kind ≡ false → AreAddedWoken rows kind own n rows
none_added rows kind own n e = λ k. rw (never_waker kind (Some k) n e) refl
