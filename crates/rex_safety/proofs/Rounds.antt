-- Only an election raises rounds, by one, and only one that lacks a round says so.
use Rattle.std.proofs.Common.{◌≡◌, ℕ, zero, suc, ◌+◌, ◌*◌, ◌/◌, ◌-◌, ◌<◌, ◌≤◌, Bool, true, false, cond, ◌⊎◌, List, [], ◌∷◌, ◌++◌, length, Option, Some, None, ltb, refl, inl, inr, arith, ltb-true, ltb-false}
use Rattle.std.specs.Prelude.{map, ◌==◌, nat_lt, nat_le}
use Rattle.rex_record.specs.declared.recorder.Release.{Release}
use Rattle.rex_report.specs.declared.effect.Effect.{Effect}
use Rattle.rex_report.specs.declared.effect.Effect.TheVariants as effect
use Rattle.rex_cluster.specs.Records.{Rec, Proposal, promise, accepted, offset, known}
use Rattle.rex_cluster.specs.Records.Rec.{Promised, Accepted, Known, Transferred}
use Rattle.rex_cluster.specs.Quorum.{is_in, is_majority, ballot_above, round_of}
use Rattle.rex_cluster.specs.Node.{Service, Content, Message, Lead, Role, Failure, own_ballot}
use Rattle.rex_cluster.specs.Node.Failure.{After}
use Rattle.rex_cluster.specs.Node.Content.{Prepare, Promise, Accept, Accepted as Voted, Chosen as Chose, Nack, Ask, Snapshot}
use Rattle.rex_cluster.specs.Node.Role.{Follower, Leads}
use Rattle.rex_cluster.specs.Calls.{Call, say, send, append, logged, followed, follow, led, propose, released, decide, best, choose, lead, turn, settle, enough, own_reports, stand, elect, on_prepare, heard, on_own_promise, on_promise, has_last, on_accept, voted, on_own_vote, on_voted, on_chosen, on_nack, with_replayed, on_snapshot, receive}
use Rattle.rex_cluster.specs.Releases.{IsAmong}
use Rattle.rex_safety.specs.Rounds.{NoneIsSpent, greatest_round}
use Rattle.rex_cluster.specs.Values.{release_effect}
use Rattle.rex_cluster.proofs.Saying.{among_either}
use Rattle.rex_cluster.proofs.Calls.{if_good}

-- ---- effects

-- this effect says no such thing
abbrev pub Other : Effect → Type 0
Other e = (m : ℕ) → e ≡ effect.Spent m → ⊥

pub calm_none : NoneIsSpent []
calm_none m h = h

pub calm_one : (e : Effect) → Other e → NoneIsSpent (e ∷ [])
calm_one e o m (inl h) = o m h
calm_one e o m (inr h) = h

pub calm_both : (xs ys : List Effect) → NoneIsSpent xs → NoneIsSpent ys → NoneIsSpent (xs ++ ys)
calm_both xs ys p q m h = go (among_either (effect.Spent m) xs ys h)
  where
    go : IsAmong (effect.Spent m) xs ⊎ IsAmong (effect.Spent m) ys → ⊥
    go (inl k) = p m k
    go (inr k) = q m k

pub calm_push : (xs : List Effect) (e : Effect) → NoneIsSpent xs → Other e → NoneIsSpent (xs ++ e ∷ [])
calm_push xs e p o = calm_both xs (e ∷ []) p (calm_one e o)

pub calm_releases : (rs : List Release) → NoneIsSpent (map release_effect rs)
calm_releases [] m h = h
calm_releases (r ∷ rs) m (inl h) = cc
calm_releases (r ∷ rs) m (inr h) = calm_releases rs m h

-- ---- the next ballot

-- below the ballots of the round after this one
abbrev pub below_round : ℕ → ℕ
below_round round = 16 * suc (suc round)

pub next_low : (me p round : ℕ) → me < 16 → p < 16 * suc round → ballot_above me p < below_round round
next_low me p round l h = go (ltb p (16 + me)) refl
  where
    go : (t : Bool) → ltb p (16 + me) ≡ t → cond t (16 + me) ((p - me) / 16 * 16 + 16 + me) < 16 * suc (suc round)
    go true e = omega arith
    go false e = let k = ltb-false p (16 + me) e in omega (arith, k)

-- ---- calls

module _ {V S : Type 0} (n : ℕ) (sv : Service V S) (me limit : ℕ) (some : 0 < limit) (calm_replies : (before : List V) (v : V) → NoneIsSpent (sv.replies before v)) where
  -- the promise and the own ballot are below the limit, and nothing that was said lacks a round
  pub record Low (d : Call V S) : Type 0 where
    pub promised : promise d.node.log < limit
    pub own : own_ballot d.node.role < limit
    pub calm : NoneIsSpent d.effects

  abbrev Goes : (Call V S → Call V S) → Type 0
  Goes k = (e : Call V S) → Low e → Low (k e)

  pub say_low : (e : Effect) (d : Call V S) → Other e → Low d → Low (say e d)
  say_low e d o h = record { promised = h.promised; own = h.own; calm = calm_push d.effects e h.calm o }

  pub if_low : (t : Bool) {d e : Call V S} → Low d → Low e → Low (cond t d e)
  if_low true p q = p
  if_low false p q = q

  pub append_low : (a : Option Failure) (r : Rec V S) (d : Call V S) (k : Call V S → Call V S) → Low d → promise (r ∷ d.node.log) < limit → ((b : Option Failure) → Low (k (logged r b d))) → Low (append a me r d k)
  append_low None r d k h p c = c None
  append_low (Some (After (suc before) kept)) r d k h p c = c (Some (After before kept))
  append_low (Some (After zero true)) r d k h p c = record { promised = p; own = some; calm = calm_push d.effects (effect.Down me) h.calm (λ m e. cc) }
  append_low (Some (After zero false)) r d k h p c = record { promised = h.promised; own = some; calm = calm_push d.effects (effect.Down me) h.calm (λ m e. cc) }

  -- ---- a node that leads goes on

  pub propose_low : (told : Effect) (d : Call V S) (l : Lead V) (i : ℕ) (v : V) (k : Call V S → Call V S) → Other told → Low d → l.ballot < limit → Goes k → Low (propose n me told d l i v k)
  propose_low told d l i v k o h b g =
      let p = h.promised in
      append_low d.node.armed (Accepted l.ballot i v) d _ h (omega (arith, p)) (λ a. g _ (record { promised = omega (arith, p); own = b; calm = calm_push d.effects told h.calm o }))

  released_calm : (t : Bool) (before : List V) (v : V) → NoneIsSpent (released sv t before v)
  released_calm true before v = calm_replies before v
  released_calm false before v = calm_none

  decide_low : (d : Call V S) (l : Lead V) (i : ℕ) (v : V) (k : Call V S → Call V S) → Low d → l.ballot < limit → Goes k → Low (decide n sv me d l i v k)
  decide_low d l i v k h b g =
      append_low d.node.armed (Known i v) d _ h h.promised
      (λ a. g _ (record {
        promised = h.promised;
        own = b;
        calm = calm_both d.effects (effect.Known me i ∷ released sv l.active (known d.node.log) v) h.calm
            (calm_both (effect.Known me i ∷ []) (released sv l.active (known d.node.log) v) (calm_one (effect.Known me i) (λ m e. cc)) (released_calm l.active (known d.node.log) v));
      }))

  choose_low : (d : Call V S) (l : Lead V) (i : ℕ) (o : Option (Proposal V)) (k : Call V S → Call V S) → Low d → l.ballot < limit → Goes k → Low (choose n sv me d l i o k)
  choose_low d l i None k h b g = record { promised = h.promised; own = b; calm = calm_push d.effects (effect.Active me l.ballot) h.calm (λ m e. cc) }
  choose_low d l i (Some p) k h b g = propose_low (effect.Adopts me i (sv.size p.value)) d l i p.value k (λ m e. cc) h b g

  lead_low : (d : Call V S) (l : Lead V) (o : Option (Proposal V)) (k : Call V S → Call V S) → Low d → l.ballot < limit → Goes k → Low (lead n sv me d l o k)
  lead_low d l (Some p) k h b g = if_low (is_majority n l.accepted_by) (decide_low d l p.instance p.value k h b g) h
  lead_low d l None k h b g =
      if_low l.active h
      (if_low (is_majority n l.counted) (choose_low d l (suc (length (known d.node.log))) (best (suc (length (known d.node.log))) l.reported) k h b g) h)

  turn_low : (d : Call V S) (r : Role V) (k : Call V S → Call V S) → Low d → own_ballot r < limit → Goes k → Low (turn n sv me d r k)
  turn_low d Follower k h b g = h
  turn_low d (Leads l) k h b g = lead_low d l l.proposal k h b g

  pub settle_low : (f : ℕ) → Goes (settle f n sv me)
  settle_low zero d h = h
  settle_low (suc f) d h = turn_low d d.node.role (settle f n sv me) h h.own (settle_low f)

  -- ---- elections

  pub elect_low : (d : Call V S) → Low d → ballot_above me (promise d.node.log) < limit → round_of (ballot_above me (promise d.node.log)) ≤ greatest_round → Low (elect n sv me d)
  elect_low d h b few =
      if_good Low (nat_lt 4294967296 (round_of c)) (λ e. let l = ltb-true 4294967296 (round_of c) e in absurd (omega (arith, l, few)))
      (λ _. append_low d.node.armed (Promised c) d _ h (omega (arith, b, p))
      (λ a. settle_low (enough (own_reports d.node.log)) _ (record { promised = omega (arith, b, p); own = b; calm = calm_push d.effects (effect.Candidate me c) h.calm (λ m e. cc) })))
    where
      c : ℕ
      c = ballot_above me (promise d.node.log)

      p : promise d.node.log < limit
      p = h.promised

  -- or it says that no round is left, and nothing else
  pub elect_either : (d : Call V S) → (round_of (ballot_above me (promise d.node.log)) ≤ greatest_round) ⊎ (elect n sv me d ≡ say (effect.Spent me) d)
  elect_either d = go (nat_lt 4294967296 (round_of (ballot_above me (promise d.node.log)))) refl
    where
      go : (t : Bool) → nat_lt 4294967296 (round_of (ballot_above me (promise d.node.log))) ≡ t
          → (round_of (ballot_above me (promise d.node.log)) ≤ greatest_round) ⊎ (cond t (say (effect.Spent me) d) (stand n sv me (ballot_above me (promise d.node.log)) d) ≡ say (effect.Spent me) d)
      go true e = inr refl
      go false e = inl (ltb-false 4294967296 (round_of (ballot_above me (promise d.node.log))) e)

  -- ---- messages

  follow_low : (cause : List Effect) (d : Call V S) → NoneIsSpent cause → Low d → Low (follow me cause d)
  follow_low cause d c h = record {
    promised = h.promised;
    own = some;
    calm = calm_both d.effects (cause ++ followed me d.node.role) h.calm (calm_both cause (followed me d.node.role) c (calm_followed d.node.role));
  }
    where
      calm_followed : (r : Role V) → NoneIsSpent (followed me r)
      calm_followed Follower = calm_none
      calm_followed (Leads l) = calm_one (effect.Followed me) (λ m e. cc)

  prepare_low : (from b first : ℕ) (d : Call V S) → b < limit → Low d → Low (on_prepare me from b first d)
  prepare_low from b first d l h =
      let p = h.promised in
      if_low (nat_lt b (promise d.node.log)) (same _) (if_low (nat_le first (offset d.node.log)) (same _)
      (if_low (nat_lt (promise d.node.log) b)
      (append_low d.node.armed (Promised b) d _ h (omega (arith, l, p))
      (λ a. let f = follow_low (effect.Promised me b ∷ []) (logged (Promised b) a d) (calm_one (effect.Promised me b) (λ m e. cc)) (record { promised = omega (arith, l, p); own = h.own; calm = h.calm }) in
      record { promised = f.promised; own = f.own; calm = f.calm }))
      (same _)))
    where
      same : (ms : List (Message V)) → Low (send d ms)
      same ms = record { promised = h.promised; own = h.own; calm = h.calm }

  promise_low : (from b : ℕ) (ps : List (Proposal V)) (d : Call V S) (r : Role V) → own_ballot r < limit → Low d → Low (on_promise n sv me from b ps d r)
  promise_low from b ps d Follower l h = say_low (effect.IgnoredBallot b 0) d (λ m e. cc) h
  promise_low from b ps d (Leads lead) l h = if_low (lead.ballot == b) (own lead.proposal) (say_low (effect.IgnoredBallot b lead.ballot) d (λ m e. cc) h)
    where
      own : (o : Option (Proposal V)) → Low (on_own_promise n sv me from ps d lead o)
      own (Some p) = say_low effect.IgnoredLate d (λ m e. cc) h
      own None =
          if_low lead.active (say_low effect.IgnoredLate d (λ m e. cc) h)
          (if_low (is_in from lead.counted) (say_low (effect.IgnoredAgain from) d (λ m e. cc) h)
          (if_low (is_majority n (heard lead from ps).counted) (settle_low (enough (heard lead from ps).reported) _ (record { promised = h.promised; own = l; calm = h.calm }))
          (say_low (effect.Have (length (heard lead from ps).counted)) (led (Leads (heard lead from ps)) d) (λ m e. cc) (record { promised = h.promised; own = l; calm = h.calm }))))

  accept_low : (from b i : ℕ) (v : V) (d : Call V S) → b < limit → Low d → Low (on_accept me from b i v d)
  accept_low from b i v d l h =
      let p = h.promised in
      if_low (nat_lt b (promise d.node.log)) (same _) (if_low (nat_le i (offset d.node.log)) (same _)
      (if_low (has_last b i (accepted d.node.log)) (same _)
      (append_low d.node.armed (Accepted b i v) d _ h (omega (arith, l, p))
      (λ a. let f = follow_low (effect.Accepted me b i ∷ []) (logged (Accepted b i v) a d) (calm_one (effect.Accepted me b i) (λ m e. cc)) (record { promised = omega (arith, l, p); own = h.own; calm = h.calm }) in
      record { promised = f.promised; own = f.own; calm = f.calm }))))
    where
      same : (ms : List (Message V)) → Low (send d ms)
      same ms = record { promised = h.promised; own = h.own; calm = h.calm }

  voted_low : (from b i : ℕ) (d : Call V S) (r : Role V) → own_ballot r < limit → Low d → Low (on_voted n sv me from b i d r)
  voted_low from b i d Follower l h = say_low (effect.IgnoredBallot b 0) d (λ m e. cc) h
  voted_low from b i d (Leads lead) l h = if_low (lead.ballot == b) (own lead.proposal) (say_low (effect.IgnoredBallot b lead.ballot) d (λ m e. cc) h)
    where
      own : (o : Option (Proposal V)) → Low (on_own_vote n sv me from i d lead o)
      own None = say_low (effect.IgnoredInstance i 0) d (λ m e. cc) h
      own (Some p) =
          if_low (p.instance == i)
          (if_low (is_in from lead.accepted_by) (say_low (effect.IgnoredAgain from) d (λ m e. cc) h)
          (if_low (is_majority n (voted lead from p).accepted_by) (settle_low (enough (voted lead from p).reported) _ (record { promised = h.promised; own = l; calm = h.calm }))
          (say_low (effect.Have (length (voted lead from p).accepted_by)) (led (Leads (voted lead from p)) d) (λ m e. cc) (record { promised = h.promised; own = l; calm = h.calm }))))
          (say_low (effect.IgnoredInstance i p.instance) d (λ m e. cc) h)

  chosen_low : (i : ℕ) (v : V) (d : Call V S) → Low d → Low (on_chosen me i v d)
  chosen_low i v d h =
      if_low (i == suc (length (known d.node.log)))
      (append_low d.node.armed (Known i v) d _ h h.promised
      (λ a. follow_low (effect.Known me i ∷ []) (logged (Known i v) a d) (calm_one (effect.Known me i) (λ m e. cc)) (record { promised = h.promised; own = h.own; calm = h.calm })))
      (say_low (effect.IgnoredInstance i (suc (length (known d.node.log)))) d (λ m e. cc) h)

  nack_low : (p : ℕ) (d : Call V S) (r : Role V) → Low d → Low (on_nack me p d r)
  nack_low p d Follower h = say_low (effect.IgnoredBallot p 0) d (λ m e. cc) h
  nack_low p d (Leads l) h = if_low (nat_lt l.ballot p) (follow_low [] d calm_none h) (say_low (effect.IgnoredBallot p l.ballot) d (λ m e. cc) h)

  snapshot_low : (values : List V) (d : Call V S) → Low d → Low (on_snapshot sv me values d)
  snapshot_low values d h =
      if_low (nat_le (length values) (length (known d.node.log))) (say_low (effect.IgnoredInstance (length values) (suc (length (known d.node.log)))) d (λ m e. cc) h)
      (append_low d.node.armed (Transferred values (sv.state values)) d _ h h.promised
      (λ a. follow_low (effect.Transferred me (length values) ∷ []) (with_replayed (length values) (logged (Transferred values (sv.state values)) a d)) (calm_one (effect.Transferred me (length values)) (λ m e. cc))
      (record { promised = h.promised; own = h.own; calm = h.calm })))

  -- the ballot of a message that asks for a promise or an acceptance is below the limit
  abbrev pub ContentLow : Content V → Type 0
  ContentLow (Prepare b first) = b < limit
  ContentLow (Accept b i v) = b < limit
  ContentLow _ = Unit {0}

  pub receive_low : (from : ℕ) (c : Content V) → ContentLow c → (d : Call V S) → Low d → Low (receive n sv me from c d)
  receive_low from (Prepare b first) l d h = prepare_low from b first d l h
  receive_low from (Promise b ps) l d h = promise_low from b ps d d.node.role h.own h
  receive_low from (Accept b i v) l d h = accept_low from b i v d l h
  receive_low from (Voted b i) l d h = voted_low from b i d d.node.role h.own h
  receive_low from (Chose i v) l d h = chosen_low i v d h
  receive_low from (Nack b p) l d h = nack_low p d d.node.role h
  receive_low from (Snapshot values) l d h = snapshot_low values d h
  receive_low from (Ask first) l d h =
      if_low (nat_le first (offset d.node.log)) (record { promised = h.promised; own = h.own; calm = h.calm })
      (if_low (nat_lt (length (known d.node.log)) first) (say_low effect.Nothing d (λ m e. cc) h) (record { promised = h.promised; own = h.own; calm = h.calm }))
