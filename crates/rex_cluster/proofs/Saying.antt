-- A call that releases a reply leaves an active node, in whose known trace the reply stands.
use Rattle.std.proofs.Common.{◌≡◌, ℕ, zero, suc, Bool, true, false, cond, ◌||◌, ◌⊎◌, List, [], ◌∷◌, ◌++◌, length, Option, Some, None, refl, sym, ◌∙◌, ap, subst, inl, inr}
use Rattle.std.specs.Prelude.{take, ◌==◌, nat_lt, nat_le}
use Rattle.std.proofs.lemmas.Bool.{false≢true}
use Rattle.rex_report.specs.declared.effect.Effect.{Effect}
use Rattle.rex_report.specs.declared.effect.Effect.TheVariants as effect
use Rattle.rex_syntax.specs.declared.version.Version.{Version}
use Rattle.rex_syntax.specs.declared.version.Version.TheVariants.{Two}
use Rattle.rex_cluster.specs.Records.{Rec, Proposal, promise, accepted, offset, known, base, has_old_base}
use Rattle.rex_cluster.specs.Records.Rec.{Promised, Accepted, Known, Checkpoint, Dropped, Transferred}
use Rattle.rex_cluster.specs.Quorum.{round_of, ballot_above, is_in, is_majority}
use Rattle.rex_cluster.specs.Node.{Service, Content, Lead, Role, is_active, Failure}
use Rattle.rex_cluster.specs.Node.Failure.{After}
use Rattle.rex_cluster.specs.Node.Content.{Prepare, Promise, Accept, Accepted as Voted, Chosen as Chose, Nack, Ask, Snapshot}
use Rattle.rex_cluster.specs.Node.Role.{Follower, Leads}
use Rattle.rex_cluster.specs.Calls.{Call, say, send, others, append, followed, follow, led, propose, released, learned, decide, activate, best, choose, lead, turn, settle, enough, elect, on_prepare, heard, on_own_promise, on_promise, has_last, on_accept, voted, on_own_vote, on_voted, on_chosen, on_nack, receive, replay, checkpoint, drop_known, restart, start, stop, logged, own_reports}
use Rattle.std.specs.Prelude.{ℤ}
use Rattle.rex_cluster.specs.Releases.{IsAmong}

-- ---- effects that are no releases

-- none of these is a release
abbrev pub Quiet : List Effect → Type 0
Quiet es = (c s : ℕ) (x : ℤ) → IsAmong (effect.Released c s x) es → ⊥

-- this one isn't
abbrev pub Other : Effect → Type 0
Other e = (c s : ℕ) (x : ℤ) → e ≡ effect.Released c s x → ⊥

pub among_either : (e : Effect) (xs ys : List Effect) → IsAmong e (xs ++ ys) → IsAmong e xs ⊎ IsAmong e ys
among_either e [] ys h = inr h
among_either e (x ∷ xs) ys (inl h) = inl (inl h)
among_either e (x ∷ xs) ys (inr h) = go (among_either e xs ys h)
  where
    go : IsAmong e xs ⊎ IsAmong e ys → IsAmong e (x ∷ xs) ⊎ IsAmong e ys
    go (inl k) = inl (inr k)
    go (inr k) = inr k

pub quiet_one : (e : Effect) → Other e → Quiet (e ∷ [])
quiet_one e o c s x (inl h) = o c s x h
quiet_one e o c s x (inr h) = h

pub quiet_both : (xs ys : List Effect) → Quiet xs → Quiet ys → Quiet (xs ++ ys)
quiet_both xs ys p q c s x h = go (among_either (effect.Released c s x) xs ys h)
  where
    go : IsAmong (effect.Released c s x) xs ⊎ IsAmong (effect.Released c s x) ys → ⊥
    go (inl k) = p c s x k
    go (inr k) = q c s x k

pub quiet_push : (xs : List Effect) (e : Effect) → Quiet xs → Other e → Quiet (xs ++ e ∷ [])
quiet_push xs e p o = quiet_both xs (e ∷ []) p (quiet_one e o)

pub quiet_none : Quiet []
quiet_none c s x h = h

quiet_followed : {V : Type 0} (me : ℕ) (r : Role V) → Quiet (followed me r)
quiet_followed me Follower = quiet_none
quiet_followed me (Leads l) = quiet_one (effect.Followed me) (λ c s x e. cc)

-- ---- a node that comes back

module _ {V S : Type 0} (sv : Service V S) (me : ℕ) where
  migrated_quiet : (t : Bool) (d : Call V S) (k : ℕ) (r : Rec V S) → Quiet d.effects → Quiet (cond t (append d.node.armed me r d (say (effect.Migrated me k))) d).effects
  migrated_quiet false d k r q = q
  migrated_quiet true d k r q = by d.node.armed
    where
      by : (a : Option Failure) → Quiet (append a me r d (say (effect.Migrated me k))).effects
      by None = quiet_push d.effects (effect.Migrated me k) q (λ c s x e. cc)
      by (Some (After (suc before) kept)) = quiet_push d.effects (effect.Migrated me k) q (λ c s x e. cc)
      by (Some (After zero kept)) = quiet_push d.effects (effect.Down me) q (λ c s x e. cc)

  pub start_quiet : (d : Call V S) → Quiet d.effects → Quiet (start sv me d).effects
  start_quiet d q = migrated_quiet (has_old_base d.node.log) (restart me d) (base d.node.log) (Checkpoint Two (base d.node.log) (sv.state (take (base d.node.log) (known d.node.log)))) (quiet_push d.effects _ q (λ c s x e. cc))

-- ---- calls

module _ {V S : Type 0} (n : ℕ) (sv : Service V S) (me : ℕ) (St : List V → ℕ → ℕ → ℤ → Type 0) (rep : (before : List V) (v : V) (c s : ℕ) (x : ℤ) → IsAmong (effect.Released c s x) (sv.replies before v) → St (before ++ v ∷ []) c s x) where
  -- what it releases holds of what the node knows, and the node is active
  pub record Says (d : Call V S) : Type 0 where
    pub each : (c s : ℕ) (x : ℤ) → IsAmong (effect.Released c s x) d.effects → (is_active d.node.role ≡ true) × St (known d.node.log) c s x

  pub quiet_says : (d : Call V S) → Quiet d.effects → Says d
  quiet_says d q = record { each = λ c s x h. absurd (q c s x h) }

  hush : {d : Call V S} → Quiet d.effects → Says d
  hush {d} q = quiet_says d q

  pub say_says : (e : Effect) (d : Call V S) → Quiet d.effects → Other e → Says (say e d)
  say_says e d q o = quiet_says (say e d) (quiet_push d.effects e q o)

  pub if_says : (t : Bool) {d e : Call V S} → Says d → Says e → Says (cond t d e)
  if_says true p q = p
  if_says false p q = q

  pub append_says : (a : Option Failure) (r : Rec V S) (d : Call V S) (k : Call V S → Call V S) → Quiet d.effects → ((b : Option Failure) → Says (k (logged r b d))) → Says (append a me r d k)
  append_says None r d k q h = h None
  append_says (Some (After (suc before) kept)) r d k q h = h (Some (After before kept))
  append_says (Some (After zero kept)) r d k q h = quiet_says (append (Some (After zero kept)) me r d k) (quiet_push d.effects (effect.Down me) q (λ c s x e. cc))

  -- an active node without an open proposal doesn't go on
  idle : (f : ℕ) (e : Call V S) (l : Lead V) → e.node.role ≡ Leads l → l.proposal ≡ None → l.active ≡ true → settle f n sv me e ≡ e
  idle zero e l r p a = refl
  idle (suc f) e l r p a = ap (λ (x : Role V). turn n sv me e x (settle f n sv me)) r ∙ (ap (λ (o : Option (Proposal V)). lead n sv me e l o (settle f n sv me)) p ∙ stays l.active a)
    where
      stays : (t : Bool) → t ≡ true → cond t e (cond (is_majority n l.counted) (choose n sv me e l (suc (length (known e.node.log))) (best (suc (length (known e.node.log))) l.reported) (settle f n sv me)) e) ≡ e
      stays true h = refl
      stays false h = absurd (false≢true h)

  abbrev pub Goes : (Call V S → Call V S) → Type 0
  Goes k = (e : Call V S) → Quiet e.effects → Says (k e)

  propose_says : (told : Effect) (d : Call V S) (l : Lead V) (i : ℕ) (v : V) (k : Call V S → Call V S) → Other told → Quiet d.effects → Goes k → Says (propose n me told d l i v k)
  propose_says told d l i v k o q g = append_says d.node.armed (Accepted l.ballot i v) d _ q (λ a. g _ (quiet_push d.effects told q o))

  decide_says : (f : ℕ) (d : Call V S) (l : Lead V) (i : ℕ) (v : V) → Quiet d.effects → Goes (settle f n sv me) → Says (decide n sv me d l i v (settle f n sv me))
  decide_says f d l i v q g = append_says d.node.armed (Known i v) d _ q (λ b. by b l.active refl)
    where
      e : Option Failure → Call V S
      e b = send (learned sv me l i v (known d.node.log) (logged (Known i v) b d)) (others n me (Chose i v))

      by : (b : Option Failure) (t : Bool) → l.active ≡ t → Says (settle f n sv me (e b))
      by b true a = subst Says (sym (idle f (e b) (record { ballot = l.ballot; counted = l.counted; reported = l.reported; proposal = None; accepted_by = []; active = l.active }) refl refl a)) (record { each = each })
        where
          each : (c s : ℕ) (x : ℤ) → IsAmong (effect.Released c s x) (e b).effects → (is_active (e b).node.role ≡ true) × St (known (e b).node.log) c s x
          each c s x h = split (among_either (effect.Released c s x) d.effects (effect.Known me i ∷ released sv l.active (known d.node.log) v) h)
            where
              last : IsAmong (effect.Released c s x) (effect.Known me i ∷ released sv l.active (known d.node.log) v) → (l.active ≡ true) × St (known d.node.log ++ v ∷ []) c s x
              last (inl y) = absurd (cc)
              last (inr y) = (a, rep (known d.node.log) v c s x (subst (λ t. IsAmong (effect.Released c s x) (released sv t (known d.node.log) v)) a y))

              split : IsAmong (effect.Released c s x) d.effects ⊎ IsAmong (effect.Released c s x) (effect.Known me i ∷ released sv l.active (known d.node.log) v) → (l.active ≡ true) × St (known d.node.log ++ v ∷ []) c s x
              split (inl y) = absurd (q c s x y)
              split (inr y) = last y
      by b false a = g (e b) (quiet_both d.effects (effect.Known me i ∷ released sv l.active (known d.node.log) v) q quiet)
        where
          quiet : Quiet (effect.Known me i ∷ released sv l.active (known d.node.log) v)
          quiet c s x (inl y) = absurd (cc)
          quiet c s x (inr y) = subst (λ t. IsAmong (effect.Released c s x) (released sv t (known d.node.log) v)) a y

  pub settle_says : (f : ℕ) → Goes (settle f n sv me)
  settle_says zero d q = quiet_says d q
  settle_says (suc f) d q = by d.node.role (settle_says f)
    where
      choose_says : (l : Lead V) (i : ℕ) (o : Option (Proposal V)) → Goes (settle f n sv me) → Says (choose n sv me d l i o (settle f n sv me))
      choose_says l i None g = quiet_says (activate sv me l d) (quiet_push d.effects (effect.Active me l.ballot) q (λ c s x e. cc))
      choose_says l i (Some p) g = propose_says (effect.Adopts me i (sv.size p.value)) d l i p.value (settle f n sv me) (λ c s x e. cc) q g

      lead_says : (l : Lead V) (o : Option (Proposal V)) → Goes (settle f n sv me) → Says (lead n sv me d l o (settle f n sv me))
      lead_says l (Some p) g = if_says (is_majority n l.accepted_by) (decide_says f d l p.instance p.value q g) (quiet_says d q)
      lead_says l None g =
          if_says l.active (quiet_says d q)
          (if_says (is_majority n l.counted) (choose_says l (suc (length (known d.node.log))) (best (suc (length (known d.node.log))) l.reported) g) (quiet_says d q))

      by : (r : Role V) → Goes (settle f n sv me) → Says (turn n sv me d r (settle f n sv me))
      by Follower g = quiet_says d q
      by (Leads l) g = lead_says l l.proposal g

  follow_quiet : (cause : List Effect) (d : Call V S) → Quiet d.effects → Quiet cause → Quiet (follow me cause d).effects
  follow_quiet cause d q c = quiet_both d.effects (cause ++ followed me d.node.role) q (quiet_both cause (followed me d.node.role) c (quiet_followed me d.node.role))

  pub elect_says : (d : Call V S) → Quiet d.effects → Says (elect n sv me d)
  elect_says d q =
      if_says (nat_lt 4294967296 (round_of (ballot_above me (promise d.node.log)))) (say_says (effect.Spent me) d q (λ c s x e. cc))
      (append_says d.node.armed (Promised (ballot_above me (promise d.node.log))) d _ q
      (λ a. settle_says (enough (own_reports d.node.log)) _ (quiet_push d.effects (effect.Candidate me (ballot_above me (promise d.node.log))) q (λ c s x e. cc))))

  prepare_says : (from b first : ℕ) (d : Call V S) → Quiet d.effects → Says (on_prepare me from b first d)
  prepare_says from b first d q =
      if_says (nat_lt b (promise d.node.log)) (hush q) (if_says (nat_le first (offset d.node.log)) (hush q)
      (if_says (nat_lt (promise d.node.log) b)
      (append_says d.node.armed (Promised b) d _ q (λ a. hush (follow_quiet (effect.Promised me b ∷ []) d q (quiet_one (effect.Promised me b) (λ c s x e. cc)))))
      (hush q)))

  promise_says : (from b : ℕ) (ps : List (Proposal V)) (d : Call V S) → Quiet d.effects → (r : Role V) → Says (on_promise n sv me from b ps d r)
  promise_says from b ps d q Follower = say_says (effect.IgnoredBallot b 0) d q (λ c s x e. cc)
  promise_says from b ps d q (Leads l) = if_says (l.ballot == b) (own l.proposal) (say_says (effect.IgnoredBallot b l.ballot) d q (λ c s x e. cc))
    where
      own : (o : Option (Proposal V)) → Says (on_own_promise n sv me from ps d l o)
      own (Some p) = say_says effect.IgnoredLate d q (λ c s x e. cc)
      own None =
          if_says l.active (say_says effect.IgnoredLate d q (λ c s x e. cc))
          (if_says (is_in from l.counted) (say_says (effect.IgnoredAgain from) d q (λ c s x e. cc))
          (if_says (is_majority n (heard l from ps).counted) (settle_says (enough (heard l from ps).reported) _ q)
          (say_says (effect.Have (length (heard l from ps).counted)) (led (Leads (heard l from ps)) d) q (λ c s x e. cc))))

  accept_says : (from b i : ℕ) (v : V) (d : Call V S) → Quiet d.effects → Says (on_accept me from b i v d)
  accept_says from b i v d q =
      if_says (nat_lt b (promise d.node.log)) (hush q) (if_says (nat_le i (offset d.node.log)) (hush q)
      (if_says (has_last b i (accepted d.node.log)) (hush q)
      (append_says d.node.armed (Accepted b i v) d _ q (λ a. hush (follow_quiet (effect.Accepted me b i ∷ []) d q (quiet_one (effect.Accepted me b i) (λ c s x e. cc)))))))

  voted_says : (from b i : ℕ) (d : Call V S) → Quiet d.effects → (r : Role V) → Says (on_voted n sv me from b i d r)
  voted_says from b i d q Follower = say_says (effect.IgnoredBallot b 0) d q (λ c s x e. cc)
  voted_says from b i d q (Leads l) = if_says (l.ballot == b) (own l.proposal) (say_says (effect.IgnoredBallot b l.ballot) d q (λ c s x e. cc))
    where
      own : (o : Option (Proposal V)) → Says (on_own_vote n sv me from i d l o)
      own None = say_says (effect.IgnoredInstance i 0) d q (λ c s x e. cc)
      own (Some p) =
          if_says (p.instance == i)
          (if_says (is_in from l.accepted_by) (say_says (effect.IgnoredAgain from) d q (λ c s x e. cc))
          (if_says (is_majority n (voted l from p).accepted_by) (settle_says (enough (voted l from p).reported) _ q)
          (say_says (effect.Have (length (voted l from p).accepted_by)) (led (Leads (voted l from p)) d) q (λ c s x e. cc))))
          (say_says (effect.IgnoredInstance i p.instance) d q (λ c s x e. cc))

  chosen_says : (i : ℕ) (v : V) (d : Call V S) → Quiet d.effects → Says (on_chosen me i v d)
  chosen_says i v d q =
      if_says (i == suc (length (known d.node.log)))
      (append_says d.node.armed (Known i v) d _ q (λ a. hush (follow_quiet (effect.Known me i ∷ []) d q (quiet_one (effect.Known me i) (λ c s x e. cc)))))
      (say_says (effect.IgnoredInstance i (suc (length (known d.node.log)))) d q (λ c s x e. cc))

  nack_says : (p : ℕ) (d : Call V S) → Quiet d.effects → (r : Role V) → Says (on_nack me p d r)
  nack_says p d q Follower = say_says (effect.IgnoredBallot p 0) d q (λ c s x e. cc)
  nack_says p d q (Leads l) = if_says (nat_lt l.ballot p) (hush (follow_quiet [] d q quiet_none)) (say_says (effect.IgnoredBallot p l.ballot) d q (λ c s x e. cc))

  pub receive_says : (from : ℕ) (m : Content V) (d : Call V S) → Quiet d.effects → Says (receive n sv me from m d)
  receive_says from (Prepare b first) d q = prepare_says from b first d q
  receive_says from (Promise b ps) d q = promise_says from b ps d q d.node.role
  receive_says from (Accept b i v) d q = accept_says from b i v d q
  receive_says from (Voted b i) d q = voted_says from b i d q d.node.role
  receive_says from (Chose i v) d q = chosen_says i v d q
  receive_says from (Nack b p) d q = nack_says p d q d.node.role
  receive_says from (Ask first) d q = if_says (nat_le first (offset d.node.log)) (hush q) (if_says (nat_lt (length (known d.node.log)) first) (say_says effect.Nothing d q (λ c s x e. cc)) (hush q))
  receive_says from (Snapshot values) d q =
      if_says (nat_le (length values) (length (known d.node.log))) (say_says (effect.IgnoredInstance (length values) (suc (length (known d.node.log)))) d q (λ c s x e. cc))
      (append_says d.node.armed (Transferred values (sv.state values)) d _ q (λ a. hush (follow_quiet (effect.Transferred me (length values) ∷ []) d q (quiet_one (effect.Transferred me (length values)) (λ c s x e. cc)))))

  pub replay_says : (d : Call V S) → Quiet d.effects → Says (replay me d)
  replay_says d q = if_says (is_active d.node.role || d.node.replayed == length (known d.node.log)) (say_says (effect.UpToDate me) d q (λ c s x e. cc)) (hush (quiet_push d.effects _ q (λ c s x e. cc)))

  pub checkpoint_says : (version : Version) (d : Call V S) → Quiet d.effects → Says (checkpoint version sv me d)
  checkpoint_says version d q =
      if_says (d.node.replayed == base d.node.log) (say_says effect.Nothing d q (λ c s x e. cc))
      (if_says (nat_lt 0 (length d.node.work.live)) (say_says (effect.Live (length d.node.work.live)) d q (λ c s x e. cc))
      (append_says d.node.armed (Checkpoint version d.node.replayed (sv.state (take d.node.replayed (known d.node.log)))) d _ q (λ a. say_says (effect.Checkpointed me d.node.replayed) _ q (λ c s x e. cc))))

  pub drop_says : (d : Call V S) → Quiet d.effects → Says (drop_known me d)
  drop_says d q =
      if_says (base d.node.log == offset d.node.log) (say_says effect.Nothing d q (λ c s x e. cc))
      (append_says d.node.armed (Dropped (base d.node.log)) d _ q (λ a. say_says (effect.Dropped me (base d.node.log)) _ q (λ c s x e. cc)))

  pub stop_says : (d : Call V S) → Quiet d.effects → Says (stop me d)
  stop_says d q = hush (quiet_push d.effects (effect.Stopped me) q (λ c s x e. cc))

  -- an active node that proposes
  pub cut_says : (told : Effect) (d : Call V S) (l : Lead V) (i : ℕ) (v : V) (f : ℕ) → Other told → Quiet d.effects → Says (propose n me told d l i v (settle f n sv me))
  cut_says told d l i v f o q = propose_says told d l i v (settle f n sv me) o q (settle_says f)
