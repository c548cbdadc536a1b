-- A call that appends nothing is the same where its next append will fail, and leaves that so.
use Rattle.std.proofs.Common.{◌≡◌, ◌≤◌, ◌⊎◌, ℕ, suc, List, length, Option, None, refl, sym, ap, subst, ◌∙◌, inl, inr, arith, le_refl}
use Rattle.rex_syntax.specs.declared.service.Declarations.{Declarations}
use Rattle.rex_syntax.specs.declared.version.Version.{Version}
use Rattle.rex_cluster.specs.Records.{Rec}
use Rattle.rex_cluster.specs.Node.{Content, Failure, Node, Service, is_active}
use Rattle.rex_cluster.specs.Calls.{Call, append, ask, begin, checkpoint, drop_known, elect, logged, migrate, receive, replay}
use Rattle.rex_cluster.specs.Lanes.{CallHere, active_only, cut}
use Rattle.rex_cluster.proofs.CallLaws.{Any, IsLaw, Rests, active_holds, armed_as, ask_holds, checkpoint_holds, cut_holds, drop_holds, elect_holds, migrate_holds, receive_holds, replay_holds}

module _ {V S : Type 0} (failure : Option Failure) where
  -- from d on the call either adds a record, or comes to the same where an append will fail
  pub record IsUnseen (d e armed : Call V S) : Type 0 where
    pub log : e.node.log ≡ d.node.log
    pub same : armed ≡ armed_as failure e

  abbrev pub Either : (d e armed : Call V S) → Type 0
  Either d e armed = (suc (length d.node.log) ≤ length e.node.log) ⊎ IsUnseen d e armed

  -- it is so of a call from wherever it isn't armed
  abbrev pub Goes : (Call V S → Call V S) → Type 0
  Goes k = (e : Call V S) → e.node.armed ≡ None → Either e (k e) (k (armed_as failure e))

  -- records are only added
  grows : {d e armed : Call V S} → Either d e armed → length d.node.log ≤ length e.node.log
  grows (inl l) = omega arith
  grows {d} (inr u) = let same = u.log in rw same (le_refl (length d.node.log))

  rests_unseen : (d c e beside : Call V S) → Rests ⊥ d c → (c.node.armed ≡ None → Either c e beside) → d.node.armed ≡ None → Either d e beside
  rests_unseen d c e beside r h armed = by (h (r.armed ∙ armed))
    where
      by : Either c e beside → Either d e beside
      by (inl m) = inl (omega (arith, m, ap length r.log))
      by (inr u) = inr (record { log = u.log ∙ r.log; same = u.same })

  appends_unseen : (me : ℕ) (r : Rec V S) (d : Call V S) (k : Call V S → Call V S) → Any r
      → ((b : Option Failure) → b ≡ None → Either (logged r b d) (k (logged r b d)) (k (armed_as failure (logged r b d))))
      → d.node.armed ≡ None → Either d (append d.node.armed me r d k) (append failure me r (armed_as failure d) k)
  appends_unseen me r d k any h armed = inl (subst (λ a. suc (length d.node.log) ≤ length (append a me r d k).node.log) (sym armed) (grows (h None refl)))

  unseen_law : IsLaw failure ⊥ Any (λ d e beside. d.node.armed ≡ None → Either d e beside)
  unseen_law = record { here = λ d armed. inr (record { log = refl; same = refl }); rests = rests_unseen; appends = appends_unseen }

  module _ (n : ℕ) (sv : Service V S) (me : ℕ) where
    pub elect_either : Goes (elect n sv me)
    elect_either = elect_holds unseen_law (λ r. tt) n sv me (λ h. absurd h)

    pub receive_either : (from : ℕ) (m : Content V) → Goes (receive n sv me from m)
    receive_either = receive_holds unseen_law (λ r. tt) n sv me (λ h. absurd h)

  pub checkpoint_either : (version : Version) (sv : Service V S) (me : ℕ) → Goes (checkpoint version sv me)
  checkpoint_either = checkpoint_holds unseen_law (λ r. tt)

  pub drop_either : (me : ℕ) → Goes (drop_known me)
  drop_either = drop_holds unseen_law (λ r. tt)

  pub migrate_either : (sv : Service V S) (me : ℕ) → Goes (migrate sv me)
  migrate_either = migrate_holds unseen_law (λ r. tt)

  pub replay_either : (me : ℕ) → Goes (replay me)
  replay_either = replay_holds unseen_law

  pub ask_either : (me other : ℕ) → Goes (ask me other)
  ask_either = ask_holds unseen_law

  -- so a call that leaves as many records does the same where an append will fail
  pub unseen : {call : Call V S → Call V S} {x : Node V S} → Goes call → x.armed ≡ None → length (call (begin x)).node.log ≡ length x.log → call (armed_as failure (begin x)) ≡ armed_as failure (call (begin x))
  unseen {call} {x} g e same = by (g (begin x) e)
    where
      by : Either (begin x) (call (begin x)) (call (armed_as failure (begin x))) → call (armed_as failure (begin x)) ≡ armed_as failure (call (begin x))
      by (inl l) = absurd (omega arith)
      by (inr u) = u.same

-- ---- what only an active node does

pub cut_either : (failure : Option Failure) (service : Declarations) (seed n me : ℕ) (counts : List ℕ) → Goes failure (cut service seed n me counts)
cut_either failure = cut_holds (unseen_law failure) (λ r. tt)

-- such a call goes so where it appends nothing
module _ {failure : Option Failure} (call : CallHere → CallHere) (log : (d : CallHere) → (call d).node.log ≡ d.node.log) (same : (d : CallHere) → call (armed_as failure d) ≡ armed_as failure (call d)) where
  pub active_either : Goes failure (λ d. active_only (is_active d.node.role) d (call d))
  active_either d = active_holds (unseen_law failure) (is_active d.node.role) {d = d} {e = call d} {beside = call (armed_as failure d)} (λ _. inr (record { log = log d; same = same d }))
