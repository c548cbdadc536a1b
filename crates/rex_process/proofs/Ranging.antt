-- Numbers stay in their ranges where a node whose records are plain hears a message.
use Rattle.std.proofs.Common.{arith, ◌≡◌, ◌≢◌, ◌⊎◌, ℕ, zero, suc, ◌+◌, ◌<◌, ◌≤◌, Bool, true, false, cond, List, [], ◌∷◌, ◌++◌, length, Option, Some, None, leb, inl, inr, refl, sym, subst, leb-true, ltb-true, eqb-true}
use Rattle.std.specs.Prelude.{take, ◌==◌, nat_lt, nat_le}
use Rattle.std.proofs.lemmas.Option.{same_Some}
use Rattle.rex_ballot.specs.Limits.{most_nodes}
use Rattle.rex_report.specs.declared.effect.Effect.TheVariants as effect
use Rattle.rex_state.specs.Value.{StateValue}
use Rattle.rex_cluster.specs.Records.{Proposal, promise, accepted, from_on, offset, known}
use Rattle.rex_cluster.specs.Records.Rec.{Promised, Accepted, Known}
use Rattle.rex_cluster.specs.Quorum.{IsNode, is_in, is_majority}
use Rattle.rex_cluster.specs.Node.{Service, Content, Message, Role}
use Rattle.rex_cluster.specs.Node.Content.{Prepare, Promise, Accept, Accepted as Voted, Chosen as Chose, Nack, Ask, Snapshot}
use Rattle.rex_cluster.specs.Node.Role.{Follower, Leads}
use Rattle.rex_cluster.specs.Invariant.{IsIn}
use Rattle.rex_cluster.specs.Calls.{send, answer, follow, enough, promised, on_prepare, heard, on_own_promise, on_promise, has_last, on_accept, voted, on_own_vote, on_voted, on_chosen, on_nack, on_ask, tell, receive, logged}
use Rattle.rex_cluster.specs.Ranges.{IsBallot, IsInstance, AreRising, ProposalFits, ContentFits, MessageFits, LeadFits, RoleFits}
use Rattle.rex_cluster.specs.Telling.{TellsNoState}
use Rattle.rex_cluster.specs.Values.{Value}
use Rattle.rex_cluster.specs.Lanes.{CallHere}
use Rattle.rex_cluster.proofs.Calls.{if_good}
use Rattle.rex_cluster.proofs.Lists.{in_cases, in_from_on}
use Rattle.rex_cluster.proofs.Ranged.{Fits, accepted_fit, accepted_rising, append_fits, log_accepted, log_known, log_promised, rising_more, settle_fits}
use Rattle.rex_processes.specs.Plain.{IsPlain}
use Rattle.rex_processes.proofs.Calling.{plain_offset}

-- proposals from an instance on rise, too
from_on_rising : (i first : ℕ) (ps : List (Proposal Value)) → AreRising i ps → AreRising i (from_on first ps)
from_on_rising i first [] h = tt
from_on_rising i first (p ∷ ps) h = go (leb first p.instance) (from_on_rising p.instance first ps h.1)
  where
    go : (t : Bool) → AreRising p.instance (from_on first ps) → AreRising i (cond t (p ∷ from_on first ps) (from_on first ps))
    go true r = (h.0, r)
    go false r = rising_more i p.instance (from_on first ps) (omega (arith, h.0)) r

-- without an open proposal none is for another instance
none_open : (k : ℕ) (q : Proposal Value) → None ≡ Some q → (q.instance ≡ suc k) × IsInstance q.instance
none_open k q e = absurd (cc)

module _ (n : ℕ) (few : n ≤ most_nodes) (sv : Service Value StateValue) (me : ℕ) (min : IsNode n me) (from : ℕ) (there : IsNode n from) (apart : me ≢ from) (d : CallHere) (plain : IsPlain d.node.log) (h : Fits n few sv me min d) where
  abbrev F : CallHere → Type 0
  F e = Fits n few sv me min e

  -- ---- what it sends

  abbrev AllFit : List (Message Value) → Type 0
  AllFit xs = (x : Message Value) → IsIn x xs → MessageFits n x

  -- two lists of messages that fit are one
  both_fit : (xs ys : List (Message Value)) → AllFit xs → AllFit ys → AllFit (xs ++ ys)
  both_fit xs ys p q x i = go (in_cases x xs ys i)
    where
      go : IsIn x xs ⊎ IsIn x ys → MessageFits n x
      go (inl k) = p x k
      go (inr k) = q x k

  -- an answer fits that has its numbers in their ranges
  one_fits : (c : Content Value) → ContentFits c → AllFit (answer me from c)
  one_fits c k x (inl e) = subst (MessageFits n) (sym e) (record { from = min; to = there; apart = apart; content = k })
  one_fits c k x (inr i) = absurd i

  -- so the call still fits that sends it
  send_fits : (e : CallHere) → F e → (c : Content Value) → ContentFits c → F (send e (answer me from c))
  send_fits e k c f = record { log = k.log; role = k.role; sends = both_fit e.sends (answer me from c) k.sends (one_fits c f) }

  -- so do values that are told, and as many of them as are told at once
  tell_fits : (first i : ℕ) (vs : List Value) → 0 < i → i + length vs ≤ 65536 → AllFit (tell me from first i vs)
  tell_fits first i [] l k x j = absurd j
  tell_fits first i (v ∷ vs) l k x j = go (leb first i) (tell_fits first (suc i) vs (omega arith) (omega arith) x) j
    where
      go : (t : Bool) → (IsIn x (tell me from first (suc i) vs) → MessageFits n x) → IsIn x (cond t (record { from = me; to = from; content = Chose i v } ∷ tell me from first (suc i) vs) (tell me from first (suc i) vs)) → MessageFits n x
      go true rest (inl e) = one_fits (Chose i v) (l, omega arith) x (inl e)
      go true rest (inr y) = rest y
      go false rest y = rest y

  take_fits : (k : ℕ) (xs : List (Message Value)) → AllFit xs → AllFit (take k xs)
  take_fits zero [] f x y = absurd y
  take_fits zero (z ∷ zs) f x y = absurd y
  take_fits (suc k) [] f x y = absurd y
  take_fits (suc k) (z ∷ zs) f x (inl e) = f x (inl e)
  take_fits (suc k) (z ∷ zs) f x (inr y) = take_fits k zs (λ u i. f u (inr i)) x y

  -- with plain records no instance is too old to be answered with values
  never_old : (first : ℕ) → 0 < first → nat_le first (offset d.node.log) ≡ true → ⊥
  never_old first l e = let o : offset d.node.log ≡ 0 = plain_offset d.node.log plain in omega (arith, l, o, leb-true first (offset d.node.log) e)

  -- ---- what it does on a message

  -- a promise tells of what was accepted
  promised_fits : (b first : ℕ) (e : CallHere) → IsBallot b → F e → F (promised me from b first e)
  promised_fits b first e k f =
      send_fits e f (Promise b (from_on first (accepted e.node.log)))
      (k, from_on_rising 0 first (accepted e.node.log) (accepted_rising e.node.log f.log.instances), λ p i. accepted_fit e.node.log f.log p (in_from_on first p (accepted e.node.log) i))

  prepare_fits : (b first : ℕ) → IsBallot b → 0 < first → F (on_prepare me from b first d)
  prepare_fits b first k p =
      if_good F (nat_lt b (promise d.node.log)) (λ e. send_fits d h (Nack b (promise d.node.log)) (k, ltb-true b (promise d.node.log) e)) (λ _.
      if_good F (nat_le first (offset d.node.log)) (λ e. absurd (never_old first p e)) (λ _.
      if_good F (nat_lt (promise d.node.log) b)
      (λ _. append_fits n few sv me min d.node.armed (Promised b) d _ h (log_promised d.node.log b k h.log)
      (λ a. promised_fits b first (follow me (effect.Promised me b ∷ []) (logged (Promised b) a d)) k (record { log = log_promised d.node.log b k h.log; role = tt; sends = h.sends })))
      (λ _. promised_fits b first d k h)))

  promise_fits : (b : ℕ) (ps : List (Proposal Value)) → ((p : Proposal Value) → IsIn p ps → ProposalFits p) → (r : Role Value) → RoleFits (length (known d.node.log)) r → F (on_promise n sv me from b ps d r)
  promise_fits b ps m Follower k = record { log = h.log; role = h.role; sends = h.sends }
  promise_fits b ps m (Leads l) k = if_good F (l.ballot == b) (λ _. own l.proposal) (λ _. record { log = h.log; role = h.role; sends = h.sends })
    where
      said : (p : Proposal Value) → IsIn p l.reported ⊎ IsIn p ps → ProposalFits p
      said p (inl x) = k.reported p x
      said p (inr x) = m p x

      counted : LeadFits (length (known d.node.log)) (heard l from ps)
      counted = record { ballot = k.ballot; reported = λ p x. said p (in_cases p l.reported ps x); next = λ q x. none_open (length (known d.node.log)) q x }

      own : (o : Option (Proposal Value)) → F (on_own_promise n sv me from ps d l o)
      own (Some p) = record { log = h.log; role = h.role; sends = h.sends }
      own None =
          if_good F l.active (λ _. record { log = h.log; role = h.role; sends = h.sends }) (λ _. if_good F (is_in from l.counted) (λ _. record { log = h.log; role = h.role; sends = h.sends }) (λ _.
          if_good F (is_majority n (heard l from ps).counted) (λ _. settle_fits n few sv me min (enough (heard l from ps).reported) _ (record { log = h.log; role = counted; sends = h.sends })) (λ _. record { log = h.log; role = counted; sends = h.sends })))

  accept_fits : (b i : ℕ) (v : Value) → IsBallot b → IsInstance i → F (on_accept me from b i v d)
  accept_fits b i v k j =
      if_good F (nat_lt b (promise d.node.log)) (λ e. send_fits d h (Nack b (promise d.node.log)) (k, ltb-true b (promise d.node.log) e)) (λ _.
      if_good F (nat_le i (offset d.node.log)) (λ e. absurd (never_old i j.0 e)) (λ _.
      if_good F (has_last b i (accepted d.node.log)) (λ _. send_fits d h (Voted b i) (k, j)) (λ _.
      append_fits n few sv me min d.node.armed (Accepted b i v) d _ h (log_accepted d.node.log b i v k j h.log)
      (λ a. send_fits (follow me (effect.Accepted me b i ∷ []) (logged (Accepted b i v) a d)) (record { log = log_accepted d.node.log b i v k j h.log; role = tt; sends = h.sends }) (Voted b i) (k, j)))))

  voted_fits : (b i : ℕ) (r : Role Value) → RoleFits (length (known d.node.log)) r → F (on_voted n sv me from b i d r)
  voted_fits b i Follower k = record { log = h.log; role = h.role; sends = h.sends }
  voted_fits b i (Leads l) k = if_good F (l.ballot == b) (λ _. own l.proposal refl) (λ _. record { log = h.log; role = h.role; sends = h.sends })
    where
      counted : (p : Proposal Value) → l.proposal ≡ Some p → LeadFits (length (known d.node.log)) (voted l from p)
      counted p e = record { ballot = k.ballot; reported = k.reported; next = λ q x. subst (λ (z : Proposal Value). (z.instance ≡ suc (length (known d.node.log))) × IsInstance z.instance) (same_Some p q x) (k.next p e) }

      own : (o : Option (Proposal Value)) → l.proposal ≡ o → F (on_own_vote n sv me from i d l o)
      own None e = record { log = h.log; role = h.role; sends = h.sends }
      own (Some p) e =
          if_good F (p.instance == i) (λ _. if_good F (is_in from l.accepted_by) (λ _. record { log = h.log; role = h.role; sends = h.sends }) (λ _.
          if_good F (is_majority n (voted l from p).accepted_by) (λ _. settle_fits n few sv me min (enough (voted l from p).reported) _ (record { log = h.log; role = counted p e; sends = h.sends })) (λ _. record { log = h.log; role = counted p e; sends = h.sends })))
          (λ _. record { log = h.log; role = h.role; sends = h.sends })

  chosen_fits : (i : ℕ) (v : Value) → IsInstance i → F (on_chosen me i v d)
  chosen_fits i v k =
      if_good F (i == suc (length (known d.node.log)))
      (λ e. append_fits n few sv me min d.node.armed (Known i v) d _ h (log_known d.node.log i v (eqb-true i (suc (length (known d.node.log))) e) k h.log)
      (λ a. record { log = log_known d.node.log i v (eqb-true i (suc (length (known d.node.log))) e) k h.log; role = tt; sends = h.sends }))
      (λ _. record { log = h.log; role = h.role; sends = h.sends })

  nack_fits : (p : ℕ) (r : Role Value) → F (on_nack me p d r)
  nack_fits p Follower = record { log = h.log; role = h.role; sends = h.sends }
  nack_fits p (Leads l) = if_good F (nat_lt l.ballot p) (λ _. record { log = h.log; role = tt; sends = h.sends }) (λ _. record { log = h.log; role = h.role; sends = h.sends })

  asked_fits : (first : ℕ) → 0 < first → F (on_ask me from first d)
  asked_fits first l =
      if_good F (nat_le first (offset d.node.log)) (λ e. absurd (never_old first l e)) (λ _.
      if_good F (nat_lt (length (known d.node.log)) first) (λ _. record { log = h.log; role = h.role; sends = h.sends })
      (λ _. record {
        log = h.log;
        role = h.role;
        sends = both_fit d.sends (take 64 (tell me from first 1 (known d.node.log))) h.sends
            (take_fits 64 (tell me from first 1 (known d.node.log)) (tell_fits first 1 (known d.node.log) (omega arith) (omega (arith, h.log.few))));
      }))

  -- any of them that tells no state
  pub hear_fits : (c : Content Value) → ContentFits c → TellsNoState c → F (receive n sv me from c d)
  hear_fits (Prepare b first) k s = prepare_fits b first k.0 k.1.0
  hear_fits (Promise b ps) k s = promise_fits b ps k.2 d.node.role h.role
  hear_fits (Accept b i v) k s = accept_fits b i v k.0 k.1
  hear_fits (Voted b i) k s = voted_fits b i d.node.role h.role
  hear_fits (Chose i v) k s = chosen_fits i v k
  hear_fits (Nack b p) k s = nack_fits p d.node.role
  hear_fits (Ask first) k s = asked_fits first k.0
  hear_fits (Snapshot values) k s = absurd s
