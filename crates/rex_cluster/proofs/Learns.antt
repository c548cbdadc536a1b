-- What a node knew before a call begins what it knows after it.
use Rattle.std.proofs.Common.{◌≡◌, ℕ, zero, suc, true, List, [], ◌∷◌, ◌++◌, Option, Some, None, refl, sym, subst, append-nil, append_assoc}
use Rattle.std.specs.Prelude.{false}
use Rattle.rex_syntax.specs.declared.service.Declarations.{Declarations}
use Rattle.rex_syntax.specs.Service.{IsService}
use Rattle.rex_syntax.specs.Check.{IsChecked}
use Rattle.rex_cluster.specs.Records.{Rec, known}
use Rattle.rex_cluster.specs.Records.Rec.{Promised, Accepted, Known, Checkpoint, Dropped, Transferred}
use Rattle.rex_cluster.specs.Node.{Failure, Service}
use Rattle.rex_cluster.specs.Node.Failure.{After}
use Rattle.rex_cluster.specs.Invariant.{Begins}
use Rattle.rex_cluster.specs.Calls.{Call, append, logged, settle}
use Rattle.rex_cluster.specs.Lanes.{CallHere}
use Rattle.rex_cluster.specs.Values.{Value, values_fit}
use Rattle.rex_cluster.proofs.Grow.{begins_trans, begins_same}
use Rattle.rex_cluster.proofs.Acting.{fits_front}
use Rattle.rex_cluster.proofs.CallLaws.{IsLaw, Rests, settle_holds}

module _ {V S : Type 0} where
  -- what a call's node knows begins what another one's does
  pub record Learns (d e : Call V S) : Type 0 where
    pub begins : Begins (known d.node.log) (known e.node.log)

  learns_same : {d e : Call V S} → e.node.log ≡ d.node.log → Learns d e
  learns_same {d} h = record { begins = subst (λ log. Begins (known d.node.log) (known log)) (sym h) (begins_same _) }

  learns_then : {d e f : Call V S} → Learns d e → Learns e f → Learns d f
  learns_then {d} {e} {f} h k = record { begins = begins_trans _ _ _ h.begins k.begins }

  -- a record of something else than a state that was taken over
  abbrev IsOwn : Rec V S → Type 0
  IsOwn (Transferred values s) = ⊥
  IsOwn _ = Unit {0}

  more : (r : Rec V S) (log : List (Rec V S)) → IsOwn r → Begins (known log) (known (r ∷ log))
  more (Promised b) log own = begins_same _
  more (Accepted b i v) log own = begins_same _
  more (Known i v) log own = (v ∷ [], refl)
  more (Checkpoint version k s) log own = begins_same _
  more (Dropped k) log own = begins_same _
  more (Transferred values s) log own = absurd own

  learns_more : {d e : Call V S} {r : Rec V S} → IsOwn r → e.node.log ≡ r ∷ d.node.log → Learns d e
  learns_more {d} {r} own h = record { begins = subst (λ log. Begins (known d.node.log) (known log)) (sym h) (more r _ own) }

  rests_learns : (d c e beside : Call V S) → Rests ⊥ d c → Learns c e → Learns d e
  rests_learns d c e beside r h = learns_then (learns_same r.log) h

  appends_learns : (me : ℕ) (r : Rec V S) (d : Call V S) (k : Call V S → Call V S) → IsOwn r → ((b : Option Failure) → Learns (logged r b d) (k (logged r b d))) → Learns d (append d.node.armed me r d k)
  appends_learns me r d k own h = by d.node.armed
    where
      by : (a : Option Failure) → Learns d (append a me r d k)
      by None = learns_then (learns_more own refl) (h None)
      by (Some (After (suc before) kept)) = learns_then (learns_more own refl) (h (Some (After before kept)))
      by (Some (After zero true)) = learns_more own refl
      by (Some (After zero false)) = learns_same refl

  learns : IsLaw None ⊥ IsOwn (λ d e beside. Learns d e)
  learns = record { here = λ d. learns_same refl; rests = rests_learns; appends = appends_learns }

  pub settle_learns : (n : ℕ) (sv : Service V S) (me f : ℕ) (d : Call V S) → Learns d (settle f n sv me d)
  settle_learns n sv me = settle_holds learns n sv me (λ h. absurd h) (λ b i v. tt) (λ i v. tt)

-- ---- values that fit

module _ {service : Declarations} (good : IsService service) (checked : IsChecked service) where
  -- a front of values that fit fits
  begins_fit : (vs : List Value) {ws : List Value} → Begins vs ws → values_fit service ws ≡ true → values_fit service vs ≡ true
  begins_fit vs b h = shorter b.0 vs (subst (λ us. values_fit service us ≡ true) (sym b.1) h)
    where
      shorter : (rest us : List Value) → values_fit service (us ++ rest) ≡ true → values_fit service us ≡ true
      shorter [] us k = subst (λ xs. values_fit service xs ≡ true) (append-nil us) k
      shorter (v ∷ rest) us k = fits_front service good checked us v (shorter rest (us ++ v ∷ []) (subst (λ xs. values_fit service xs ≡ true) (sym (append_assoc us (v ∷ []) rest)) k))

  -- what a call knows at first fits where what it knows in the end does
  pub fits_before : {d e : CallHere} → Learns d e → values_fit service (known e.node.log) ≡ true → values_fit service (known d.node.log) ≡ true
  fits_before {d} {e} l h = begins_fit _ l.begins h
