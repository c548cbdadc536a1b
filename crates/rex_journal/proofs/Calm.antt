-- A disk in memory of which no call is to fail.
use Rattle.std.proofs.Common.{◌≡◌, ℕ, Bool, true, false, List, [], ◌∷◌, None, refl, sym, ◌∙◌, ap, subst}
use Rattle.std.specs.Prelude.{◌||◌, ◌==◌}
use Rattle.std.specs.List.{list_any}
use Rattle.rex_disk.specs.Calls.{Call, CallsInTurn}
use Rattle.rex_disk.specs.Calls.Call.{Reads, Writes, Syncs, Reserves}
use Rattle.rex_disk.specs.Memory.{DiskValue, DoesCall, plan_after_sync, plan_after_write, sync_fails, write_fails}
use Rattle.rex_journal.specs.Giving.{Ends, IsOfDevice}
use Rattle.rex_journal.proofs.Making.{ends_calls}

-- no call is named, and none is planned to fail
pub record IsCalm (d : DiskValue) : Type 0 where
  pub none : d.failing ≡ []
  pub unplanned : d.plan ≡ None

stays_calm : (call : Call) (old new : DiskValue) (failed : Bool) → IsCalm old → DoesCall old call failed new → IsCalm new
stays_calm (Reads at n) old new failed c f = record { none = f.same_failing ∙ c.none; unplanned = f.planned ∙ c.unplanned }
stays_calm (Writes at bytes) old new failed c f = record { none = f.same_failing ∙ c.none; unplanned = f.planned ∙ ap plan_after_write c.unplanned }
stays_calm Syncs old new failed c f = record { none = f.same_failing ∙ c.none; unplanned = f.planned ∙ ap plan_after_sync c.unplanned }
stays_calm (Reserves calls bytes) old new failed c r = record { none = ap (λ (d : DiskValue). d.failing) r.same ∙ c.none; unplanned = ap (λ (d : DiskValue). d.plan) r.same ∙ c.unplanned }

pub goes_calm : (calls : List Call) (old new : DiskValue) → IsCalm old → CallsInTurn DoesCall old calls new → IsCalm new
goes_calm [] old new c h = let same : new ≡ old = h in subst IsCalm (sym same) c
goes_calm (call ∷ calls) old new c h = goes_calm calls h.0 new (stays_calm call old h.0 false c h.1) h.2

named_none : (failing : List ℕ) (made : ℕ) (planned : Bool) → failing ≡ [] → planned ≡ false → true ≡ (list_any (λ number. number == made) failing || planned) → ⊥
named_none [] made planned none calm is = let untrue : true ≡ false = is ∙ calm in cc
named_none (n ∷ ns) made planned none calm is = cc

never_fails : (call : Call) (old new : DiskValue) → IsOfDevice call → IsCalm old → DoesCall old call true new → ⊥
never_fails (Reads at n) old new of c f = named_none old.failing new.made _ c.none refl f.fails
never_fails (Writes at bytes) old new of c f = named_none old.failing new.made _ c.none (ap write_fails c.unplanned) f.fails
never_fails Syncs old new of c f = named_none old.failing new.made _ c.none (ap sync_fails c.unplanned) f.fails
never_fails (Reserves calls bytes) old new of c f = of

-- so no calls end in one that fails
pub no_end : (old new : DiskValue) → IsCalm old → Ends DoesCall old new → ⊥
no_end old new c h = let e = ends_calls DoesCall old new h in never_fails e.1 e.3.between new e.2 (goes_calm e.0 old e.3.between c e.3.before) e.3.fails
