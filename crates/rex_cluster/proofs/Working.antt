-- A fact of what an active node knows and works with is kept by each call that keeps it where a value becomes known.
use Rattle.std.proofs.Common.{◌≡◌, ℕ, zero, suc, Bool, true, false, cond, ◌||◌, List, [], ◌∷◌, ◌++◌, length, Option, Some, None, refl, sym, ◌∙◌, ap, subst}
use Rattle.std.specs.Prelude.{take, ◌==◌, nat_lt, nat_le}
use Rattle.std.proofs.lemmas.Bool.{false≢true}
use Rattle.rex_report.specs.declared.effect.Effect.{Effect}
use Rattle.rex_report.specs.declared.effect.Effect.TheVariants as effect
use Rattle.rex_syntax.specs.declared.version.Version.{Version}
use Rattle.rex_syntax.specs.declared.version.Version.TheVariants.{Two}
use Rattle.rex_cluster.specs.Records.{Rec, Proposal, proposal_of, promise, accepted, offset, known, base, has_old_base}
use Rattle.rex_cluster.specs.Records.Rec.{Promised, Accepted, Known, Checkpoint, Dropped, Transferred}
use Rattle.rex_cluster.specs.Quorum.{round_of, ballot_above, is_in, is_majority}
use Rattle.rex_cluster.specs.Node.{Service, Content, Lead, Role, Work, is_active, Failure}
use Rattle.rex_cluster.specs.Node.Failure.{After}
use Rattle.rex_cluster.specs.Node.Content.{Prepare, Promise, Accept, Accepted as Voted, Chosen as Chose, Nack, Ask, Snapshot}
use Rattle.rex_cluster.specs.Node.Role.{Follower, Leads}
use Rattle.rex_cluster.specs.Calls.{Call, append, led, propose, work_known, decide, activate, best, choose, lead, turn, settle, enough, elect, on_prepare, heard, on_own_promise, on_promise, has_last, on_accept, voted, on_own_vote, on_voted, on_chosen, on_nack, receive, replay, checkpoint, drop_known, restart, start, logged, own_reports}
use Rattle.rand_pcg.specs.Lcg.{Lcg}

-- the work of a node that becomes active
abbrev pub fresh_work : Lcg → Work
fresh_work dice = record { queue = []; live = []; dice = dice }

module _ {V S : Type 0} (n : ℕ) (sv : Service V S) (me : ℕ) (A : List V → Option (Proposal V) → Work → Type 0)
    (new : (vs : List V) (dice : Lcg) → sv.fits vs ≡ true → A vs None (fresh_work dice))
    (more : (vs : List V) (p : Proposal V) (w : Work) → sv.fits (vs ++ p.value ∷ []) ≡ true → (sv.fits vs ≡ true → A vs (Some p) w) → A (vs ++ p.value ∷ []) None (work_known sv true (vs ++ p.value ∷ []) w)) where
  -- it holds where the node is active and what it knows fits
  pub record Works (d : Call V S) : Type 0 where
    pub each : (l : Lead V) → d.node.role ≡ Leads l → l.active ≡ true → sv.fits (known d.node.log) ≡ true → A (known d.node.log) l.proposal d.node.work

  -- a node that isn't active has no work
  pub passive : (d : Call V S) → is_active d.node.role ≡ false → Works d
  passive d h = record { each = λ l e a f. absurd (false≢true (sym h ∙ (ap is_active e ∙ a))) }

  idle : {d : Call V S} → is_active d.node.role ≡ false → Works d
  idle {d} h = passive d h

  -- the same role, known values and work
  pub same_works : (d e : Call V S) → d.node.role ≡ e.node.role → known d.node.log ≡ known e.node.log → d.node.work ≡ e.node.work → Works d → Works e
  same_works d e r k w h = record {
    each = λ l q a f.
        subst (λ (u : Work). A (known e.node.log) l.proposal u) w (subst (λ (vs : List V). A vs l.proposal d.node.work) k (h.each l (r ∙ q) a (subst (λ (vs : List V). sv.fits vs ≡ true) (sym k) f)));
  }

  pub if_works : (t : Bool) {d e : Call V S} → (t ≡ true → Works d) → (t ≡ false → Works e) → Works (cond t d e)
  if_works true p q = p refl
  if_works false p q = q refl

  pub append_works : (a : Option Failure) (r : Rec V S) (d : Call V S) (k : Call V S → Call V S) → ((b : Option Failure) → Works (k (logged r b d))) → Works (append a me r d k)
  append_works None r d k h = h None
  append_works (Some (After (suc before) kept)) r d k h = h (Some (After before kept))
  append_works (Some (After zero kept)) r d k h = passive (append (Some (After zero kept)) me r d k) refl

  abbrev pub Keeps : (Call V S → Call V S) → Type 0
  Keeps k = (e : Call V S) → Works e → Works (k e)

  -- a node that leads with these, and is active only where it holds
  leads_works : {d : Call V S} (l : Lead V) → d.node.role ≡ Leads l → (l.active ≡ true → sv.fits (known d.node.log) ≡ true → A (known d.node.log) l.proposal d.node.work) → Works d
  leads_works {d} l e h = record { each = λ k f a g. subst (λ (o : Option (Proposal V)). A (known d.node.log) o d.node.work) (ap proposal_in (sym e ∙ f)) (h (sym (ap is_active e) ∙ (ap is_active f ∙ a)) g) }
    where
      proposal_in : Role V → Option (Proposal V)
      proposal_in Follower = None
      proposal_in (Leads l) = l.proposal

  pub propose_works : (told : Effect) (d : Call V S) (l : Lead V) (i : ℕ) (v : V) (k : Call V S → Call V S) → (l.active ≡ true → sv.fits (known d.node.log) ≡ true → A (known d.node.log) (Some (proposal_of l.ballot i v)) d.node.work) → Keeps k → Works (propose n me told d l i v k)
  propose_works told d l i v k h g =
      append_works d.node.armed (Accepted l.ballot i v) d _
      (λ b. g _ (leads_works
      (record { ballot = l.ballot; counted = l.counted; reported = l.reported; proposal = Some (proposal_of l.ballot i v); accepted_by = me ∷ []; active = l.active }) refl h))

  decide_works : (d : Call V S) → Works d → (l : Lead V) (p : Proposal V) → d.node.role ≡ Leads l → l.proposal ≡ Some p → (k : Call V S → Call V S) → Keeps k → Works (decide n sv me d l p.instance p.value k)
  decide_works d w l p r e k g =
      append_works d.node.armed (Known p.instance p.value) d _
      (λ b. g _ (leads_works
      (record { ballot = l.ballot; counted = l.counted; reported = l.reported; proposal = None; accepted_by = []; active = l.active }) refl now))
    where
      now : l.active ≡ true → sv.fits (known d.node.log ++ p.value ∷ []) ≡ true → A (known d.node.log ++ p.value ∷ []) None (work_known sv l.active (known d.node.log ++ p.value ∷ []) d.node.work)
      now a f =
          subst (λ t. A (known d.node.log ++ p.value ∷ []) None (work_known sv t (known d.node.log ++ p.value ∷ []) d.node.work)) (sym a)
          (more (known d.node.log) p d.node.work f (λ q. subst (λ o. A (known d.node.log) o d.node.work) e (w.each l r a q)))

  activate_works : (d : Call V S) (l : Lead V) → Works (activate sv me l d)
  activate_works d l = leads_works (record { ballot = l.ballot; counted = l.counted; reported = l.reported; proposal = None; accepted_by = []; active = true }) refl (λ a f. new (known d.node.log) (sv.dice l.ballot) f)

  pub settle_works : (f : ℕ) → Keeps (settle f n sv me)
  settle_works zero d w = record { each = w.each }
  settle_works (suc f) d w = by d.node.role refl (settle_works f)
    where
      choose_works : (l : Lead V) → l.active ≡ false → (i : ℕ) (o : Option (Proposal V)) → Keeps (settle f n sv me) → Works (choose n sv me d l i o (settle f n sv me))
      choose_works l a i None g = activate_works d l
      choose_works l a i (Some p) g = propose_works (effect.Adopts me i (sv.size p.value)) d l i p.value (settle f n sv me) (λ b. absurd (false≢true (sym a ∙ b))) g

      lead_works : (l : Lead V) → d.node.role ≡ Leads l → (o : Option (Proposal V)) → l.proposal ≡ o → Keeps (settle f n sv me) → Works (lead n sv me d l o (settle f n sv me))
      lead_works l r (Some p) e g = if_works (is_majority n l.accepted_by) (λ _. decide_works d w l p r e (settle f n sv me) g) (λ _. record { each = w.each })
      lead_works l r None e g =
          if_works l.active (λ _. record { each = w.each }) (λ a.
          if_works (is_majority n l.counted) (λ _. choose_works l a (suc (length (known d.node.log))) (best (suc (length (known d.node.log))) l.reported) g) (λ _. record { each = w.each }))

      by : (r : Role V) → d.node.role ≡ r → Keeps (settle f n sv me) → Works (turn n sv me d r (settle f n sv me))
      by Follower r g = record { each = w.each }
      by (Leads l) r g = lead_works l r l.proposal refl g

  pub elect_works : (d : Call V S) → Works d → Works (elect n sv me d)
  elect_works d w =
      if_works (nat_lt 4294967296 (round_of (ballot_above me (promise d.node.log)))) (λ _. record { each = w.each })
      (λ _. append_works d.node.armed (Promised (ballot_above me (promise d.node.log))) d _ (λ b. settle_works (enough (own_reports d.node.log)) _ (idle refl)))

  prepare_works : (from b first : ℕ) (d : Call V S) → Works d → Works (on_prepare me from b first d)
  prepare_works from b first d w =
      if_works (nat_lt b (promise d.node.log)) (λ _. record { each = w.each }) (λ _. if_works (nat_le first (offset d.node.log)) (λ _. record { each = w.each }) (λ _.
      if_works (nat_lt (promise d.node.log) b) (λ _. append_works d.node.armed (Promised b) d _ (λ a. idle refl)) (λ _. record { each = w.each })))

  promise_works : (from b : ℕ) (ps : List (Proposal V)) (d : Call V S) → Works d → (r : Role V) → Works (on_promise n sv me from b ps d r)
  promise_works from b ps d w Follower = record { each = w.each }
  promise_works from b ps d w (Leads l) = if_works (l.ballot == b) (λ _. own l.proposal) (λ _. record { each = w.each })
    where
      own : (o : Option (Proposal V)) → Works (on_own_promise n sv me from ps d l o)
      own (Some p) = record { each = w.each }
      own None =
          if_works l.active (λ _. record { each = w.each }) (λ _. if_works (is_in from l.counted) (λ _. record { each = w.each }) (λ _.
          if_works (is_majority n (heard l from ps).counted) (λ _. settle_works (enough (heard l from ps).reported) _ (idle refl)) (λ _. idle refl)))

  accept_works : (from b i : ℕ) (v : V) (d : Call V S) → Works d → Works (on_accept me from b i v d)
  accept_works from b i v d w =
      if_works (nat_lt b (promise d.node.log)) (λ _. record { each = w.each }) (λ _. if_works (nat_le i (offset d.node.log)) (λ _. record { each = w.each }) (λ _.
      if_works (has_last b i (accepted d.node.log)) (λ _. record { each = w.each }) (λ _. append_works d.node.armed (Accepted b i v) d _ (λ a. idle refl))))

  voted_works : (from b i : ℕ) (d : Call V S) → Works d → (r : Role V) → d.node.role ≡ r → Works (on_voted n sv me from b i d r)
  voted_works from b i d w Follower e = record { each = w.each }
  voted_works from b i d w (Leads l) e = if_works (l.ballot == b) (λ _. own l.proposal refl) (λ _. record { each = w.each })
    where
      counted : (p : Proposal V) → l.proposal ≡ Some p → Works (led (Leads (voted l from p)) d)
      counted p f = leads_works (voted l from p) refl (λ a g. subst (λ o. A (known d.node.log) o d.node.work) f (w.each l e a g))

      own : (o : Option (Proposal V)) → l.proposal ≡ o → Works (on_own_vote n sv me from i d l o)
      own None f = record { each = w.each }
      own (Some p) f =
          if_works (p.instance == i) (λ _. if_works (is_in from l.accepted_by) (λ _. record { each = w.each }) (λ _.
          if_works (is_majority n (voted l from p).accepted_by) (λ _. settle_works (enough (voted l from p).reported) _ (counted p f)) (λ _. record { each = (counted p f).each }))) (λ _. record { each = w.each })

  chosen_works : (i : ℕ) (v : V) (d : Call V S) → Works d → Works (on_chosen me i v d)
  chosen_works i v d w = if_works (i == suc (length (known d.node.log))) (λ _. append_works d.node.armed (Known i v) d _ (λ a. idle refl)) (λ _. record { each = w.each })

  nack_works : (p : ℕ) (d : Call V S) → Works d → (r : Role V) → Works (on_nack me p d r)
  nack_works p d w Follower = record { each = w.each }
  nack_works p d w (Leads l) = if_works (nat_lt l.ballot p) (λ _. idle refl) (λ _. record { each = w.each })

  pub receive_works : (from : ℕ) (m : Content V) (d : Call V S) → Works d → Works (receive n sv me from m d)
  receive_works from (Prepare b first) d w = prepare_works from b first d w
  receive_works from (Promise b ps) d w = promise_works from b ps d w d.node.role
  receive_works from (Accept b i v) d w = accept_works from b i v d w
  receive_works from (Voted b i) d w = voted_works from b i d w d.node.role refl
  receive_works from (Chose i v) d w = chosen_works i v d w
  receive_works from (Nack b p) d w = nack_works p d w d.node.role
  receive_works from (Ask first) d w = if_works (nat_le first (offset d.node.log)) (λ _. record { each = w.each }) (λ _. if_works (nat_lt (length (known d.node.log)) first) (λ _. record { each = w.each }) (λ _. record { each = w.each }))
  receive_works from (Snapshot values) d w = if_works (nat_le (length values) (length (known d.node.log))) (λ _. record { each = w.each }) (λ _. append_works d.node.armed (Transferred values (sv.state values)) d _ (λ a. idle refl))

  pub replay_works : (d : Call V S) → Works d → Works (replay me d)
  replay_works d w = if_works (is_active d.node.role || d.node.replayed == length (known d.node.log)) (λ _. record { each = w.each }) (λ _. same_works d _ refl refl refl w)

  pub checkpoint_works : (version : Version) (d : Call V S) → Works d → Works (checkpoint version sv me d)
  checkpoint_works version d w =
      if_works (d.node.replayed == base d.node.log) (λ _. record { each = w.each }) (λ _. if_works (nat_lt 0 (length d.node.work.live)) (λ _. record { each = w.each }) (λ _.
      append_works d.node.armed (Checkpoint version d.node.replayed (sv.state (take d.node.replayed (known d.node.log)))) d _
      (λ b. same_works d _ refl refl refl w)))

  pub start_works : (d : Call V S) → Works (start sv me d)
  start_works d =
      if_works (has_old_base d.node.log) (λ _. append_works d.node.armed (Checkpoint Two (base d.node.log) (sv.state (take (base d.node.log) (known d.node.log)))) (restart me d) _ (λ b. idle refl)) (λ _. idle refl)

  pub drop_works : (d : Call V S) → Works d → Works (drop_known me d)
  drop_works d w =
      if_works (base d.node.log == offset d.node.log) (λ _. record { each = w.each })
      (λ _. append_works d.node.armed (Dropped (base d.node.log)) d _ (λ b. same_works d _ refl refl refl w))
