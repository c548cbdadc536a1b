-- A call under which no append fails doesn't report that its node is down.
use Rattle.std.proofs.Common.{◌≡◌, ℕ, List, Option, None, refl, sym, subst, ◌∙◌}
use Rattle.rex_syntax.specs.declared.service.Declarations.{Declarations}
use Rattle.rex_cluster.specs.Records.{Rec}
use Rattle.rex_cluster.specs.Node.{Content, Failure, Service}
use Rattle.rex_cluster.specs.Calls.{Call, append, drop_known, elect, logged, receive}
use Rattle.rex_cluster.specs.Lanes.{CallHere, cut}
use Rattle.rex_cluster.proofs.CallLaws.{Any, IsLaw, IsQuiet, RepliesQuietly, Rests, cut_holds, drop_holds, elect_holds, receive_holds}

module _ {V S : Type 0} where
  -- no append will fail, and the call hasn't told that its node is down
  pub record IsWell (d : Call V S) : Type 0 where
    pub armed : d.node.armed ≡ None
    pub quiet : IsQuiet d.effects

  rests_well : (d c e beside : Call V S) → Rests (Unit {0}) d c → (IsWell c → IsWell e) → IsWell d → IsWell e
  rests_well d c e beside r h w = h (record { armed = r.armed ∙ w.armed; quiet = r.quiet tt w.quiet })

  appends_well : (me : ℕ) (r : Rec V S) (d : Call V S) (k : Call V S → Call V S) → Any r → ((b : Option Failure) → IsWell (logged r b d) → IsWell (k (logged r b d))) → IsWell d → IsWell (append d.node.armed me r d k)
  appends_well me r d k any h w = subst (λ a. IsWell (append a me r d k)) (sym w.armed) (h None (record { armed = refl; quiet = w.quiet }))

  -- it is a law of calls that they leave that so
  well : IsLaw None (Unit {0}) Any (λ d e beside. IsWell d → IsWell e)
  well = record { here = λ d w. w; rests = rests_well; appends = appends_well }

  module _ (n : ℕ) (sv : Service V S) (me : ℕ) (replies : RepliesQuietly sv) where
    pub elect_well : (d : Call V S) → IsWell d → IsWell (elect n sv me d)
    elect_well = elect_holds well (λ r. tt) n sv me (λ h. replies)

    pub receive_well : (from : ℕ) (m : Content V) (d : Call V S) → IsWell d → IsWell (receive n sv me from m d)
    receive_well = receive_holds well (λ r. tt) n sv me (λ h. replies)

    pub dropped_well : (d : Call V S) → IsWell d → IsWell (drop_known me d)
    dropped_well = drop_holds well (λ r. tt) me

pub cut_well : (service : Declarations) (seed n me : ℕ) (counts : List ℕ) (d : CallHere) → IsWell d → IsWell (cut service seed n me counts d)
cut_well = cut_holds well (λ r. tt)
