-- A node that leads goes on to the end: its turns are enough.
use Rattle.std.proofs.Common.{◌≡◌, ℕ, zero, suc, ◌+◌, ◌*◌, ◌<◌, ◌≤◌, Bool, true, false, cond, List, [], ◌∷◌, ◌++◌, length, Option, Some, None, eqb, ltb, refl, sym, ◌∙◌, ap, subst, arith, le_refl, eqb-true, ltb-true, ltb-false, length-append}
use Rattle.std.specs.Prelude.{nat_lt}
use Rattle.rex_report.specs.declared.effect.Effect.TheVariants as effect
use Rattle.rex_cluster.specs.Records.{Rec, Proposal, proposal_of, known}
use Rattle.rex_cluster.specs.Records.Rec.{Accepted, Known}
use Rattle.rex_cluster.specs.Quorum.{is_majority}
use Rattle.rex_cluster.specs.Node.{Service, Lead, Role, Failure}
use Rattle.rex_cluster.specs.Node.Failure.{After}
use Rattle.rex_cluster.specs.Node.Content.{Accept, Chosen as Chose}
use Rattle.rex_cluster.specs.Node.Role.{Follower, Leads}
use Rattle.rex_cluster.specs.Calls.{Call, say, send, others, append, leading, led, learned, decide, activate, better, best, choose, lead, turn, settle, enough, logged}

module _ {V : Type 0} where
  -- how many proposals are past an instance
  abbrev pub above : ℕ → List (Proposal V) → ℕ
  above k [] = 0
  above k (p ∷ ps) = cond (nat_lt k p.instance) (suc (above k ps)) (above k ps)

  above_most : (k : ℕ) (ps : List (Proposal V)) → above k ps ≤ length ps
  above_most k [] = le_refl _
  above_most k (p ∷ ps) = go (ltb k p.instance) (above_most k ps)
    where
      go : (t : Bool) → above k ps ≤ length ps → cond t (suc (above k ps)) (above k ps) ≤ suc (length ps)
      go true h = omega arith
      go false h = omega arith

  above_less : (k : ℕ) (ps : List (Proposal V)) → above (suc k) ps ≤ above k ps
  above_less k [] = le_refl _
  above_less k (p ∷ ps) = go (ltb (suc k) p.instance) refl (ltb k p.instance) refl (above_less k ps)
    where
      go : (t : Bool) → ltb (suc k) p.instance ≡ t → (u : Bool) → ltb k p.instance ≡ u → above (suc k) ps ≤ above k ps → cond t (suc (above (suc k) ps)) (above (suc k) ps) ≤ cond u (suc (above k ps)) (above k ps)
      go true a true b h = omega arith
      go true a false b h = let x = ltb-true (suc k) p.instance a in let y = ltb-false k p.instance b in absurd (omega arith)
      go false a true b h = omega arith
      go false a false b h = h

  -- one that is taken is one less
  pub above_best : (k : ℕ) (ps : List (Proposal V)) (q : Proposal V) → best (suc k) ps ≡ Some q → above (suc k) ps < above k ps
  above_best k [] q e = absurd (cc)
  above_best k (p ∷ ps) q e = go (eqb p.instance (suc k)) refl e (ltb (suc k) p.instance) refl (ltb k p.instance) refl (above_less k ps) (above_best k ps q)
    where
      go : (r : Bool) → eqb p.instance (suc k) ≡ r → cond r (better p (best (suc k) ps)) (best (suc k) ps) ≡ Some q → (t : Bool) → ltb (suc k) p.instance ≡ t → (u : Bool) → ltb k p.instance ≡ u
          → above (suc k) ps ≤ above k ps → (best (suc k) ps ≡ Some q → above (suc k) ps < above k ps) → cond t (suc (above (suc k) ps)) (above (suc k) ps) < cond u (suc (above k ps)) (above k ps)
      go true r e true a u b h ih = let x = ltb-true (suc k) p.instance a in let y = eqb-true p.instance (suc k) r in absurd (omega arith)
      go true r e false a true b h ih = omega arith
      go true r e false a false b h ih = let x = ltb-false k p.instance b in let y = eqb-true p.instance (suc k) r in absurd (omega arith)
      go false r e true a true b h ih = let x = ih e in omega arith
      go false r e true a false b h ih = let x = ltb-true (suc k) p.instance a in let y = ltb-false k p.instance b in absurd (omega arith)
      go false r e false a true b h ih = let x = ih e in omega arith
      go false r e false a false b h ih = ih e

module _ {V S : Type 0} (n : ℕ) (sv : Service V S) (me : ℕ) where
  -- the node doesn't go on from here
  abbrev pub Stops : Call V S → Type 0
  Stops d = (k : Call V S → Call V S) → turn n sv me d d.node.role k ≡ d

  stops_follower : (d : Call V S) → d.node.role ≡ Follower → Stops d
  stops_follower d e k = ap (λ (r : Role V). turn n sv me d r k) e

  stops_if : (d : Call V S) (l : Lead V) → d.node.role ≡ Leads l → (o : Option (Proposal V)) → l.proposal ≡ o → ((k : Call V S → Call V S) → lead n sv me d l o k ≡ d) → Stops d
  stops_if d l e o p h k = ap (λ (r : Role V). turn n sv me d r k) e ∙ (ap (λ (x : Option (Proposal V)). lead n sv me d l x k) p ∙ h k)

  -- so many turns are enough
  abbrev Bound : ℕ → ℕ → List (Proposal V) → Option (Proposal V) → Type 0
  Bound f known reported None = 2 * above known reported + 1 ≤ f
  Bound f known reported (Some p) = 2 * above (suc known) reported + 2 ≤ f

  abbrev Within : ℕ → Call V S → Type 0
  Within f d = (l : Lead V) → d.node.role ≡ Leads l → Bound f (length (known d.node.log)) l.reported l.proposal

  if_stops : (t : Bool) {d e : Call V S} → (t ≡ true → Stops d) → (t ≡ false → Stops e) → Stops (cond t d e)
  if_stops true p q = p refl
  if_stops false p q = q refl

  append_stops : (a : Option Failure) (r : Rec V S) (d : Call V S) (k : Call V S → Call V S) → ((b : Option Failure) → Stops (k (logged r b d))) → Stops (append a me r d k)
  append_stops None r d k h = h None
  append_stops (Some (After (suc before) kept)) r d k h = h (Some (After before kept))
  append_stops (Some (After zero kept)) r d k h = stops_follower (append (Some (After zero kept)) me r d k) refl

  reported_in : Role V → List (Proposal V)
  reported_in Follower = []
  reported_in (Leads l) = l.reported

  proposal_in : Role V → Option (Proposal V)
  proposal_in Follower = None
  proposal_in (Leads l) = l.proposal

  -- a bound of one role is of any that it equals
  bound_of : (f : ℕ) (d : Call V S) (l : Lead V) → d.node.role ≡ Leads l → Bound f (length (known d.node.log)) l.reported l.proposal → Within f d
  unfolding reported_in proposal_in
  bound_of f d l e h k g =
      subst (λ (o : Option (Proposal V)). Bound f (length (known d.node.log)) k.reported o) (ap proposal_in (sym e ∙ g))
      (subst (λ (ps : List (Proposal V)). Bound f (length (known d.node.log)) ps l.proposal) (ap reported_in (sym e ∙ g)) h)

  settle_stops : (f : ℕ) (d : Call V S) → Within f d → Stops (settle f n sv me d)
  settle_stops zero d w = by d.node.role refl
    where
      none : (l : Lead V) (o : Option (Proposal V)) → Bound zero (length (known d.node.log)) l.reported o → ⊥
      none l None h = absurd (omega arith)
      none l (Some p) h = absurd (omega arith)

      by : (r : Role V) → d.node.role ≡ r → Stops d
      by Follower e = stops_follower d e
      by (Leads l) e = absurd (none l l.proposal (w l e))
  settle_stops (suc f) d w = by d.node.role refl (settle_stops f)
    where
      next_known : (v : V) → length (known d.node.log ++ v ∷ []) ≡ suc (length (known d.node.log))
      next_known v = omega (arith, length-append (known d.node.log) (v ∷ []))

      decide_stops : (l : Lead V) (p : Proposal V) → 2 * above (suc (length (known d.node.log))) l.reported + 2 ≤ suc f → ((e : Call V S) → Within f e → Stops (settle f n sv me e)) → Stops (decide n sv me d l p.instance p.value (settle f n sv me))
      decide_stops l p b g =
          append_stops d.node.armed (Known p.instance p.value) d _
          (λ a. g _ (bound_of f (send (learned sv me l p.instance p.value (known d.node.log) (logged (Known p.instance p.value) a d)) (others n me (Chose p.instance p.value))) (record { ballot = l.ballot; counted = l.counted; reported = l.reported; proposal = None; accepted_by = []; active = l.active }) refl
          (subst (λ k. 2 * above k l.reported + 1 ≤ f) (sym (next_known p.value)) (omega arith))))

      choose_stops : (l : Lead V) (o : Option (Proposal V)) → best (suc (length (known d.node.log))) l.reported ≡ o → 2 * above (length (known d.node.log)) l.reported + 1 ≤ suc f → ((e : Call V S) → Within f e → Stops (settle f n sv me e)) → Stops (choose n sv me d l (suc (length (known d.node.log))) o (settle f n sv me))
      choose_stops l None e b g = stops_if (activate sv me l d) (record { ballot = l.ballot; counted = l.counted; reported = l.reported; proposal = None; accepted_by = []; active = true }) refl None refl (λ k. refl)
      choose_stops l (Some p) e b g =
          append_stops d.node.armed (Accepted l.ballot (suc (length (known d.node.log))) p.value) d _
          (λ a. g _ (bound_of f (send (say (effect.Adopts me (suc (length (known d.node.log))) (sv.size p.value)) (led (leading l (Some (proposal_of l.ballot (suc (length (known d.node.log))) p.value)) (me ∷ []) l.active) (logged (Accepted l.ballot (suc (length (known d.node.log))) p.value) a d))) (others n me (Accept l.ballot (suc (length (known d.node.log))) p.value))) (record { ballot = l.ballot; counted = l.counted; reported = l.reported; proposal = Some (proposal_of l.ballot (suc (length (known d.node.log))) p.value); accepted_by = me ∷ []; active = l.active }) refl
          (let less = above_best (length (known d.node.log)) l.reported p e in omega arith)))

      lead_stops : (l : Lead V) → d.node.role ≡ Leads l → (o : Option (Proposal V)) → l.proposal ≡ o → Bound (suc f) (length (known d.node.log)) l.reported o → ((e : Call V S) → Within f e → Stops (settle f n sv me e)) → Stops (lead n sv me d l o (settle f n sv me))
      lead_stops l r (Some p) e b g =
          if_stops (is_majority n l.accepted_by) (λ _. decide_stops l p b g)
          (λ x. stops_if d l r (Some p) e (λ k. ap (λ t. cond t (decide n sv me d l p.instance p.value k) d) x))
      lead_stops l r None e b g =
          if_stops l.active
          (λ x. stops_if d l r None e (λ k. ap (λ t. cond t d (cond (is_majority n l.counted) (choose n sv me d l (suc (length (known d.node.log))) (best (suc (length (known d.node.log))) l.reported) k) d)) x))
          (λ x. if_stops (is_majority n l.counted) (λ _. choose_stops l (best (suc (length (known d.node.log))) l.reported) refl b g)
          (λ y. stops_if d l r None e (λ k.
          ap (λ t. cond t d (cond (is_majority n l.counted) (choose n sv me d l (suc (length (known d.node.log))) (best (suc (length (known d.node.log))) l.reported) k) d)) x
          ∙ ap (λ t. cond t (choose n sv me d l (suc (length (known d.node.log))) (best (suc (length (known d.node.log))) l.reported) k) d) y)))

      by : (r : Role V) → d.node.role ≡ r → ((e : Call V S) → Within f e → Stops (settle f n sv me e)) → Stops (turn n sv me d r (settle f n sv me))
      by Follower e g = stops_follower d e
      by (Leads l) e g = lead_stops l e l.proposal refl (w l e) g

  -- a node that leads goes on until it can't
  pub goes_to_end : (d : Call V S) (l : Lead V) → d.node.role ≡ Leads l → Stops (settle (enough l.reported) n sv me d)
  goes_to_end d l e = settle_stops (enough l.reported) d (bound_of (enough l.reported) d l e (bound l.proposal))
    where
      bound : (o : Option (Proposal V)) → Bound (2 * length l.reported + 3) (length (known d.node.log)) l.reported o
      bound None = omega (arith, above_most (length (known d.node.log)) l.reported)
      bound (Some p) = omega (arith, above_most (suc (length (known d.node.log))) l.reported)
