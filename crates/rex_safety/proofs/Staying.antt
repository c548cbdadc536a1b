-- A node that is up before a call, and active after it, is up after it too.
use Rattle.std.proofs.Common.{◌≡◌, ℕ, zero, suc, Bool, true, List, Option, Some, None, ◌∙◌}
use Rattle.std.proofs.lemmas.Bool.{false≢true}
use Rattle.rex_syntax.specs.declared.request.Request.{Request}
use Rattle.rex_syntax.specs.declared.service.Declarations.{Declarations}
use Rattle.rex_syntax.specs.declared.version.Version.{Version}
use Rattle.rex_cluster.specs.Records.{Rec}
use Rattle.rex_cluster.specs.Node.{Content, Failure, Service, is_active}
use Rattle.rex_cluster.specs.Node.Failure.{After}
use Rattle.rex_cluster.specs.Calls.{Call, append, checkpoint, drop_known, elect, logged, receive, replay}
use Rattle.rex_cluster.specs.Lanes.{CallHere, active_only, cut, submit_request}
use Rattle.rex_cluster.proofs.CallLaws.{Any, IsLaw, Rests, active_holds, checkpoint_holds, cut_holds, drop_holds, elect_holds, receive_holds, replay_holds}

module _ {V S : Type 0} where
  -- where it is active it is up
  pub record StaysUp (d : Call V S) : Type 0 where
    pub at : is_active d.node.role ≡ true → d.node.up ≡ true

  -- so it is after a call
  abbrev pub KeepsUp : (Call V S → Call V S) → Type 0
  KeepsUp k = (e : Call V S) → e.node.up ≡ true → StaysUp (k e)

  rests_up : (d c e beside : Call V S) → Rests ⊥ d c → (c.node.up ≡ true → StaysUp e) → d.node.up ≡ true → StaysUp e
  rests_up d c e beside r h u = h (r.up ∙ u)

  appends_up : (me : ℕ) (r : Rec V S) (d : Call V S) (k : Call V S → Call V S) → Any r → ((b : Option Failure) → d.node.up ≡ true → StaysUp (k (logged r b d))) → d.node.up ≡ true → StaysUp (append d.node.armed me r d k)
  appends_up me r d k any h u = by d.node.armed
    where
      by : (a : Option Failure) → StaysUp (append a me r d k)
      by None = h None u
      by (Some (After (suc before) kept)) = h (Some (After before kept)) u
      by (Some (After zero kept)) = record { at = λ t. absurd (false≢true t) }

  staying : IsLaw None ⊥ Any (λ d e beside. d.node.up ≡ true → StaysUp e)
  staying = record { here = λ d u. record { at = λ t. u }; rests = rests_up; appends = appends_up }

  module _ (n : ℕ) (sv : Service V S) (me : ℕ) where
    pub elect_up : KeepsUp (elect n sv me)
    elect_up = elect_holds staying (λ r. tt) n sv me (λ h. absurd h)

    pub receive_up : (from : ℕ) (content : Content V) → KeepsUp (receive n sv me from content)
    receive_up = receive_holds staying (λ r. tt) n sv me (λ h. absurd h)

  pub replay_up : (me : ℕ) → KeepsUp (replay me)
  replay_up = replay_holds staying

  pub checkpoint_up : (version : Version) (sv : Service V S) (me : ℕ) → KeepsUp (checkpoint version sv me)
  checkpoint_up = checkpoint_holds staying (λ r. tt)

  pub drop_up : (me : ℕ) → KeepsUp (drop_known me)
  drop_up = drop_holds staying (λ r. tt)

-- ---- the calls of an active node

module _ (service : Declarations) (seed n me : ℕ) where
  pub active_up : (t : Bool) (d e : CallHere) → d.node.up ≡ true → StaysUp e → StaysUp (active_only t d e)
  active_up t d e u h = active_holds staying t {d = d} {e = e} {beside = e} (λ _. h) u

  pub submit_up : (o : Option Request) (d : CallHere) → d.node.up ≡ true → StaysUp (submit_request service o d)
  submit_up None d u = record { at = λ t. u }
  submit_up (Some r) d u = record { at = λ t. u }

  pub cut_up : (counts : List ℕ) (d : CallHere) → d.node.up ≡ true → StaysUp (cut service seed n me counts d)
  cut_up = cut_holds staying (λ r. tt) service seed n me
