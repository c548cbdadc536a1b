-- Which calls tell no state.
use Rattle.std.proofs.Common.{ℕ, zero, suc, Bool, true, false, cond, List, [], ◌∷◌, ◌++◌, length, Option, Some, None, eqb}
use Rattle.std.specs.Prelude.{◌==◌, nat_lt, nat_le}
use Rattle.rex_syntax.specs.declared.service.Declarations.{Declarations}
use Rattle.rex_cut.specs.Greatest.{greatest_cut}
use Rattle.rex_report.specs.declared.effect.Effect.{Effect}
use Rattle.rex_report.specs.declared.effect.Effect.TheVariants as effect
use Rattle.rex_cluster.specs.Records.{Rec, Proposal, promise, known}
use Rattle.rex_cluster.specs.Records.Rec.{Promised, Accepted, Known, Transferred}
use Rattle.rex_cluster.specs.Quorum.{is_in, is_majority, ballot_above, round_of}
use Rattle.rex_cluster.specs.Node.{Service, Content, Message, Lead, Role, Failure}
use Rattle.rex_cluster.specs.Node.Failure.{After}
use Rattle.rex_cluster.specs.Node.Content.{Prepare, Promise, Accept, Accepted as Voted, Chosen as Chose, Nack, Ask, Snapshot}
use Rattle.rex_cluster.specs.Node.Role.{Follower, Leads}
use Rattle.rex_cluster.specs.Calls.{Call, others, append, logged, propose, decide, best, choose, lead, turn, settle, enough, own_reports, stand, elect, heard, on_own_promise, on_promise, voted, on_own_vote, on_voted, on_nack, receive}
use Rattle.rex_cluster.specs.Values.{service_of}
use Rattle.rex_cluster.specs.Lanes.{CallHere, cut, value_at}
use Rattle.rex_cluster.proofs.Cutting.{cut_keeps}
use Rattle.rex_cluster.specs.Telling.{TellsNoState, TellNoState, AsksNoState}

module _ {V : Type 0} where
  pub both_tell_none : (xs ys : List (Message V)) → TellNoState xs → TellNoState ys → TellNoState (xs ++ ys)
  both_tell_none [] ys h k = k
  both_tell_none (x ∷ xs) ys h k = (h.0, both_tell_none xs ys h.1 k)

  pub others_tell_none : (n me : ℕ) (c : Content V) → TellsNoState c → TellNoState (others n me c)
  others_tell_none zero me c h = tt
  others_tell_none (suc k) me c h = go (eqb (suc k) me) (others_tell_none k me c h)
    where
      go : (t : Bool) → TellNoState (others k me c) → TellNoState (cond t (others k me c) (others k me c ++ record { from = me; to = suc k; content = c } ∷ []))
      go true rest = rest
      go false rest = both_tell_none (others k me c) (record { from = me; to = suc k; content = c } ∷ []) rest (h, tt)

module _ {V S : Type 0} where
  -- a call that tells none so far
  abbrev pub TellsNone : Call V S → Type 0
  TellsNone d = TellNoState d.sends

  pub if_tells_none : (t : Bool) (d e : Call V S) → TellsNone d → TellsNone e → TellsNone (cond t d e)
  if_tells_none true d e h k = h
  if_tells_none false d e h k = k

  pub append_tells_none : (a : Option Failure) (me : ℕ) (r : Rec V S) (d : Call V S) (k : Call V S → Call V S) → ((b : Option Failure) → TellsNone (k (logged r b d))) → TellsNone (append a me r d k)
  append_tells_none None me r d k h = h None
  append_tells_none (Some (After (suc before) kept)) me r d k h = h (Some (After before kept))
  append_tells_none (Some (After zero kept)) me r d k h = tt

  module _ (n : ℕ) (sv : Service V S) (me : ℕ) where
    -- ---- a node that leads goes on

    pub propose_tells_none : (told : Effect) (d : Call V S) (l : Lead V) (i : ℕ) (v : V) (k : Call V S → Call V S) → ((e : Call V S) → TellsNone e → TellsNone (k e)) → TellsNone d → TellsNone (propose n me told d l i v k)
    propose_tells_none told d l i v k c h =
        append_tells_none d.node.armed me (Accepted l.ballot i v) d _
        (λ b. c _ (both_tell_none d.sends (others n me (Accept l.ballot i v)) h (others_tell_none n me (Accept l.ballot i v) tt)))

    decide_tells_none : (d : Call V S) (l : Lead V) (i : ℕ) (v : V) (k : Call V S → Call V S) → ((e : Call V S) → TellsNone e → TellsNone (k e)) → TellsNone d → TellsNone (decide n sv me d l i v k)
    decide_tells_none d l i v k c h =
        append_tells_none d.node.armed me (Known i v) d _
        (λ b. c _ (both_tell_none d.sends (others n me (Chose i v)) h (others_tell_none n me (Chose i v) tt)))

    choose_tells_none : (d : Call V S) (l : Lead V) (i : ℕ) (o : Option (Proposal V)) (k : Call V S → Call V S) → ((e : Call V S) → TellsNone e → TellsNone (k e)) → TellsNone d → TellsNone (choose n sv me d l i o k)
    choose_tells_none d l i None k c h = h
    choose_tells_none d l i (Some p) k c h = propose_tells_none (effect.Adopts me i (sv.size p.value)) d l i p.value k c h

    lead_tells_none : (d : Call V S) (l : Lead V) (o : Option (Proposal V)) (k : Call V S → Call V S) → ((e : Call V S) → TellsNone e → TellsNone (k e)) → TellsNone d → TellsNone (lead n sv me d l o k)
    lead_tells_none d l (Some p) k c h = if_tells_none (is_majority n l.accepted_by) _ _ (decide_tells_none d l p.instance p.value k c h) h
    lead_tells_none d l None k c h =
        if_tells_none l.active _ _ h
        (if_tells_none (is_majority n l.counted) _ _ (choose_tells_none d l (suc (length (known d.node.log))) (best (suc (length (known d.node.log))) l.reported) k c h) h)

    turn_tells_none : (d : Call V S) (r : Role V) (k : Call V S → Call V S) → ((e : Call V S) → TellsNone e → TellsNone (k e)) → TellsNone d → TellsNone (turn n sv me d r k)
    turn_tells_none d Follower k c h = h
    turn_tells_none d (Leads l) k c h = lead_tells_none d l l.proposal k c h

    pub settle_tells_none : (f : ℕ) (d : Call V S) → TellsNone d → TellsNone (settle f n sv me d)
    settle_tells_none zero d h = h
    settle_tells_none (suc f) d h = turn_tells_none d d.node.role (settle f n sv me) (settle_tells_none f) h

    -- ---- schedule lines

    pub elect_tells_none : (d : Call V S) → TellsNone d → TellsNone (elect n sv me d)
    elect_tells_none d h = if_tells_none (nat_lt 4294967296 (round_of (ballot_above me (promise d.node.log)))) _ _ h (stands (ballot_above me (promise d.node.log)))
      where
        stands : (b : ℕ) → TellsNone (stand n sv me b d)
        stands b =
            append_tells_none d.node.armed me (Promised b) d _
            (λ a. settle_tells_none (enough (own_reports d.node.log)) _
            (both_tell_none d.sends (others n me (Prepare b (suc (length (known d.node.log))))) h (others_tell_none n me (Prepare b (suc (length (known d.node.log)))) tt)))

    -- ---- messages

    promise_tells_none : (from b : ℕ) (ps : List (Proposal V)) (d : Call V S) (r : Role V) → TellsNone d → TellsNone (on_promise n sv me from b ps d r)
    promise_tells_none from b ps d Follower h = h
    promise_tells_none from b ps d (Leads l) h = if_tells_none (l.ballot == b) _ _ (own l.proposal) h
      where
        own : (o : Option (Proposal V)) → TellsNone (on_own_promise n sv me from ps d l o)
        own (Some p) = h
        own None =
            if_tells_none l.active _ _ h
            (if_tells_none (is_in from l.counted) _ _ h
            (if_tells_none (is_majority n (heard l from ps).counted) _ _ (settle_tells_none (enough (heard l from ps).reported) _ h) h))

    vote_tells_none : (from b i : ℕ) (d : Call V S) (r : Role V) → TellsNone d → TellsNone (on_voted n sv me from b i d r)
    vote_tells_none from b i d Follower h = h
    vote_tells_none from b i d (Leads l) h = if_tells_none (l.ballot == b) _ _ (own l.proposal) h
      where
        own : (o : Option (Proposal V)) → TellsNone (on_own_vote n sv me from i d l o)
        own None = h
        own (Some p) =
            if_tells_none (p.instance == i) _ _
            (if_tells_none (is_in from l.accepted_by) _ _ h
            (if_tells_none (is_majority n (voted l from p).accepted_by) _ _ (settle_tells_none (enough (voted l from p).reported) _ h) h)) h

    pub receive_tells_none : (from : ℕ) (c : Content V) → AsksNoState c → (d : Call V S) → TellsNone d → TellsNone (receive n sv me from c d)
    receive_tells_none from (Prepare b first) a d h = absurd a
    receive_tells_none from (Promise b ps) a d h = promise_tells_none from b ps d d.node.role h
    receive_tells_none from (Accept b i v) a d h = absurd a
    receive_tells_none from (Voted b i) a d h = vote_tells_none from b i d d.node.role h
    receive_tells_none from (Chose i v) a d h = if_tells_none (i == suc (length (known d.node.log))) _ _ (append_tells_none d.node.armed me (Known i v) d _ (λ b. h)) h
    receive_tells_none from (Nack b p) a d h = nack d.node.role
      where
        nack : (r : Role V) → TellsNone (on_nack me p d r)
        nack Follower = h
        nack (Leads l) = if_tells_none (nat_lt l.ballot p) _ _ h h
    receive_tells_none from (Ask first) a d h = absurd a
    receive_tells_none from (Snapshot values) a d h =
        if_tells_none (nat_le (length values) (length (known d.node.log))) _ _ h (append_tells_none d.node.armed me (Transferred values (sv.state values)) d _ (λ b. h))

-- ---- cuts

pub cut_tells_none : (service : Declarations) (seed n me : ℕ) (counts : List ℕ) (d : CallHere) → TellNoState d.sends → TellNoState (cut service seed n me counts d).sends
cut_tells_none service seed n me counts d h =
    cut_keeps (λ e. TellNoState e.sends) service seed n me counts d h (λ i. h) h h
    (λ l r a p i f. propose_tells_none n (service_of service seed) me _ d l (suc (length (known d.node.log))) (value_at (greatest_cut counts d.node.work.live) d.node.work.live) (settle (enough l.reported) n (service_of service seed) me) (settle_tells_none n (service_of service seed) me (enough l.reported)) h)
