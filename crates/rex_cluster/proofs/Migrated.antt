-- A node that writes down its last checkpoint again has one, and sends nothing with it; what its records say stays as it was.
use Rattle.std.proofs.Common.{◌≡◌, ℕ, zero, suc, ◌<◌, Bool, true, false, cond, ◌∷◌, [], List, take, Option, Some, None, refl, sym, ap, arith}
use Rattle.rex_report.specs.declared.effect.Effect.TheVariants as effect
use Rattle.rex_state.specs.Value.{StateValue}
use Rattle.rex_syntax.specs.declared.version.Version.TheVariants.{Two}
use Rattle.rex_cluster.specs.Records.{Rec, known, base, has_old_base}
use Rattle.rex_cluster.specs.Records.Rec.{Promised, Accepted, Known, Checkpoint, Dropped, Transferred}
use Rattle.rex_cluster.specs.Node.{Service, Failure}
use Rattle.rex_cluster.specs.Node.Failure.{After}
use Rattle.rex_cluster.specs.Calls.{Call, append, say}
use Rattle.rex_cluster.specs.Invariant.{AreRecords}
use Rattle.rex_cluster.specs.Values.{Value}
use Rattle.rex_cluster.specs.Agreed.{base_state}
use Rattle.rex_cluster.specs.Migrating.{SayTheSame}

module _ {V S : Type 0} where
  -- its base isn't 0
  pub old_some : (sv : Service V S) (log : List (Rec V S)) → AreRecords sv log → has_old_base log ≡ true → 0 < base log
  old_some sv [] r e = absurd cc
  old_some sv (Promised b ∷ log) r e = old_some sv log r e
  old_some sv (Accepted b i v ∷ log) r e = old_some sv log r.1 e
  old_some sv (Known i v ∷ log) r e = old_some sv log r.1 e
  old_some sv (Checkpoint version k t ∷ log) r e = r.0.0
  old_some sv (Dropped k ∷ log) r e = old_some sv log r.1 e
  old_some sv (Transferred values t ∷ log) r e = omega (arith, r.0.0)

  pub migrated_sends : (t : Bool) (me : ℕ) (d : Call V S) (k : ℕ) (r : Rec V S) → d.sends ≡ [] → (cond t (append d.node.armed me r d (say (effect.Migrated me k))) d).sends ≡ []
  migrated_sends false me d k r e = e
  migrated_sends true me d k r e = by d.node.armed
    where
      by : (a : Option Failure) → (append a me r d (say (effect.Migrated me k))).sends ≡ []
      by None = e
      by (Some (After (suc before) kept)) = e
      by (Some (After zero kept)) = refl

-- ---- what the records say

module _ (sv : Service Value StateValue) (me : ℕ) (d : Call Value StateValue) where
  abbrev pub written : Rec Value StateValue
  written = Checkpoint Two (base d.node.log) (sv.state (take (base d.node.log) (known d.node.log)))

  abbrev pub log_after : Bool → Option Failure → List (Rec Value StateValue)
  log_after t a = (cond t (append a me written d (say (effect.Migrated me (base d.node.log)))) d).node.log

  pub says_same : (t : Bool) (a : Option Failure) → SayTheSame (log_after t a) d.node.log
  says_same false a = record { promises = refl; acceptances = refl; values = refl; bases = refl }
  says_same true None = record { promises = refl; acceptances = refl; values = refl; bases = refl }
  says_same true (Some (After (suc before) kept)) = record { promises = refl; acceptances = refl; values = refl; bases = refl }
  says_same true (Some (After zero true)) = record { promises = refl; acceptances = refl; values = refl; bases = refl }
  says_same true (Some (After zero false)) = record { promises = refl; acceptances = refl; values = refl; bases = refl }

  pub keeps_state : (s : StateValue) → base_state d.node.log ≡ Some s → s ≡ sv.state (take (base d.node.log) (known d.node.log)) → (t : Bool) (a : Option Failure) → base_state (log_after t a) ≡ Some s
  keeps_state s was is false a = was
  keeps_state s was is true None = ap Some (sym is)
  keeps_state s was is true (Some (After (suc before) kept)) = ap Some (sym is)
  keeps_state s was is true (Some (After zero true)) = ap Some (sym is)
  keeps_state s was is true (Some (After zero false)) = was

  pub ends_new : (t : Bool) → has_old_base d.node.log ≡ t → has_old_base (log_after t None) ≡ false
  ends_new false e = e
  ends_new true e = refl
