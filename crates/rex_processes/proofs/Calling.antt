-- A call of a process with plain records: they stay plain, and it sends what it may send.
use Rattle.std.proofs.Common.{◌≡◌, ℕ, zero, suc, ◌<◌, Bool, true, false, cond, ◌⊎◌, ◌||◌, List, [], ◌∷◌, ◌++◌, length, Option, Some, None, eqb, refl, sym, ◌∙◌, ap, subst, inl, inr, arith, leb, leb-false, lt-ltb, eq-eqb}
use Rattle.std.proofs.lemmas.Bool.{false≢true}
use Rattle.std.specs.Prelude.{take, ◌==◌, nat_lt, nat_le}
use Rattle.rex_syntax.specs.declared.service.Declarations.{Declarations}
use Rattle.rex_event.specs.declared.event.Event.{Event}
use Rattle.rex_event.specs.Cuts.{below}
use Rattle.rex_cut.specs.Greatest.{greatest_cut}
use Rattle.rex_state.specs.Value.{StateValue}
use Rattle.rex_report.specs.declared.effect.Effect.{Effect}
use Rattle.rex_report.specs.declared.effect.Effect.TheVariants as effect
use Rattle.rex_cluster.specs.Records.{Rec, Proposal, promise, accepted, from_on, offset, base, known, known_above, has_old_base, HasKnown}
use Rattle.rex_cluster.specs.Records.Rec.{Promised, Accepted, Known, Checkpoint, Dropped, Transferred}
use Rattle.rex_cluster.specs.Quorum.{is_in, is_majority, ballot_above, round_of}
use Rattle.rex_cluster.specs.Node.{Service, Content, Message, Lead, Role, Failure, is_active, role_name}
use Rattle.rex_cluster.specs.Node.Failure.{After}
use Rattle.rex_cluster.specs.Node.Content.{Prepare, Promise, Accept, Accepted as Voted, Chosen as Chose, Nack, Ask, Snapshot}
use Rattle.rex_cluster.specs.Node.Role.{Follower, Leads}
use Rattle.rex_cluster.specs.Calls.{append, logged, say, send, others, answer, follow, led, propose, decide, best, choose, lead, turn, settle, enough, own_reports, stand, elect, answer_base, on_prepare, heard, on_own_promise, on_promise, has_last, on_accept, voted, on_own_vote, on_voted, on_nack, tell, receive}
use Rattle.rex_cluster.specs.Values.{Value, service_of}
use Rattle.rex_cluster.specs.Lanes.{CallHere, active_only, is_faithful, cut_live, cut_lead, cut_role, cut, value_at, no_limits, submit_request, lane_turn}
use Rattle.rex_cluster.specs.Agreed.{base_state}
use Rattle.rex_cluster.specs.Invariant.{IsIn}
use Rattle.rex_cluster.proofs.Calls.{if_good}
use Rattle.rex_cluster.proofs.Lists.{in_cases}
use Rattle.rex_processes.specs.Processes.{Task, call_for}
use Rattle.rex_processes.specs.Processes.Task.{Elect, Submit, Turn, Cut, Hear, Ask as AskOther, Replay, Save, Forget}
use Rattle.rex_processes.specs.Plain.{IsPlain, HoldsAll}

-- ---- plain records

module _ {V S : Type 0} where
  pub plain_offset : (log : List (Rec V S)) → IsPlain log → offset log ≡ 0
  plain_offset [] h = refl
  plain_offset (Promised b ∷ log) h = plain_offset log h
  plain_offset (Accepted b i v ∷ log) h = plain_offset log h
  plain_offset (Known i v ∷ log) h = plain_offset log h
  plain_offset (Checkpoint version k s ∷ log) h = absurd h
  plain_offset (Dropped k ∷ log) h = absurd h
  plain_offset (Transferred values s ∷ log) h = absurd h

  plain_base : (log : List (Rec V S)) → IsPlain log → base log ≡ 0
  plain_base [] h = refl
  plain_base (Promised b ∷ log) h = plain_base log h
  plain_base (Accepted b i v ∷ log) h = plain_base log h
  plain_base (Known i v ∷ log) h = plain_base log h
  plain_base (Checkpoint version k s ∷ log) h = absurd h
  plain_base (Dropped k ∷ log) h = absurd h
  plain_base (Transferred values s ∷ log) h = absurd h

  plain_state : (log : List (Rec V S)) → IsPlain log → base_state log ≡ None
  plain_state [] h = refl
  plain_state (Promised b ∷ log) h = plain_state log h
  plain_state (Accepted b i v ∷ log) h = plain_state log h
  plain_state (Known i v ∷ log) h = plain_state log h
  plain_state (Checkpoint version k s ∷ log) h = absurd h
  plain_state (Dropped k ∷ log) h = absurd h
  plain_state (Transferred values s ∷ log) h = absurd h

  pub plain_new : (log : List (Rec V S)) → IsPlain log → has_old_base log ≡ false
  plain_new [] h = refl
  plain_new (Promised b ∷ log) h = plain_new log h
  plain_new (Accepted b i v ∷ log) h = plain_new log h
  plain_new (Known i v ∷ log) h = plain_new log h
  plain_new (Checkpoint version k s ∷ log) h = absurd h
  plain_new (Dropped k ∷ log) h = absurd h
  plain_new (Transferred values s ∷ log) h = absurd h

  -- all that they know is above 0
  plain_above : (log : List (Rec V S)) → IsPlain log → ((i : ℕ) (v : V) → HasKnown i v log → 0 < i) → known_above 0 log ≡ known log
  plain_above [] h k = refl
  plain_above (Promised b ∷ log) h k = plain_above log h k
  plain_above (Accepted b i v ∷ log) h k = plain_above log h k
  plain_above (Known i v ∷ log) h k =
      rw (lt-ltb 0 i (k i v (inl (refl, refl)))) (ap (λ (vs : List V). vs ++ v ∷ []) (plain_above log h (λ j w x. k j w (inr x))))
  plain_above (Checkpoint version j s ∷ log) h k = absurd h
  plain_above (Dropped j ∷ log) h k = absurd h
  plain_above (Transferred values s ∷ log) h k = absurd h

pub plain_holds : (log : List (Rec Value StateValue)) → IsPlain log → ((i : ℕ) (v : Value) → HasKnown i v log → 0 < i) → HoldsAll log
plain_holds log h k = record {
  no_offset = plain_offset log h;
  no_base = plain_base log h;
  all = ap (λ (o : ℕ). known_above o log) (plain_offset log h) ∙ plain_above log h k;
  no_state = plain_state log h;
  no_old = plain_new log h;
}

-- ---- what a process may send

-- by itself, where B says which ballots are its own: to whomever it may say this, if the ballot is one, and the instance is from 1 on
pub record MaySend (m : ℕ) (B : ℕ → Type 0) (M : Message Value → Type 0) : Type 0 where
  pub prepare : (to b first : ℕ) → B b → 0 < first → M (record { from = m; to = to; content = Prepare b first })
  pub accept : (to b i : ℕ) (v : Value) → B b → 0 < i → M (record { from = m; to = to; content = Accept b i v })
  pub chosen : (to i : ℕ) (v : Value) → M (record { from = m; to = to; content = Chose i v })
  pub ask : (to first : ℕ) → 0 < first → M (record { from = m; to = to; content = Ask first })

-- the role's ballot is its own
abbrev pub OwnBallot : (ℕ → Type 0) → Role Value → Type 0
OwnBallot B Follower = Unit {0}
OwnBallot B (Leads l) = B l.ballot

module _ (m : ℕ) (M : Message Value → Type 0) where
  abbrev To : ℕ → Content Value → Type 0
  To to c = M (record { from = m; to = to; content = c })

  -- it may tell a state where the instance is not from 1 on
  abbrev pub MayTell : ℕ → ℕ → Type 0
  MayTell to first = (values : List Value) → nat_le first 0 ≡ true → To to (Snapshot values)

  -- what it may answer to this; it hears no state
  abbrev pub CanAnswer : ℕ → Content Value → Type 0
  CanAnswer to (Prepare b first) = ((ps : List (Proposal Value)) → To to (Promise b ps)) × ((p : ℕ) → To to (Nack b p)) × MayTell to first
  CanAnswer to (Accept b i v) = To to (Voted b i) × ((p : ℕ) → To to (Nack b p)) × MayTell to i
  CanAnswer to (Ask first) = MayTell to first
  CanAnswer to (Snapshot values) = ⊥
  CanAnswer to _ = Unit {0}

-- what a task asks for
abbrev pub CanDo : (m : ℕ) → (ℕ → Type 0) → (Message Value → Type 0) → List (Rec Value StateValue) → Task → Type 0
CanDo m B M log Elect = B (ballot_above m (promise log))
CanDo m B M log (Hear x) = CanAnswer m M x.from x.content
CanDo m B M log (Save version) = ⊥
CanDo m B M log _ = Unit {0}

-- ---- cuts

-- what a cut comes to, whatever it keeps that no report matters to
pub cut_by : (service : Declarations) (seed n m : ℕ) (G : CallHere → Type 0) (counts : List ℕ) (d : CallHere) → ((e : Effect) → G (say e d))
    → ((told : Effect) (l : Lead Value) (v : Value) → d.node.role ≡ Leads l → length (known d.node.log) < 65535 → G (propose n m told d l (suc (length (known d.node.log))) v (settle (enough l.reported) n (service_of service seed) m)))
    → G (cut service seed n m counts d)
cut_by service seed n m G counts d says goes = by d.node.role refl
  where
    live : (c : List ℕ) (l : Lead Value) → d.node.role ≡ Leads l → length (known d.node.log) < 65535 → (es : List Event) → G (cut_live service seed n m c l es d)
    live c l r few [] = says effect.Nothing
    live c l r few (y ∷ ys) =
        if_good G (is_faithful service seed (known d.node.log) c d.node.work.live) (λ _. goes _ l (value_at c d.node.work.live) r few) (λ _. says effect.Nothing)

    leads : (l : Lead Value) → d.node.role ≡ Leads l → (o : Option (Proposal Value)) → G (cut_lead service seed n m counts l o d)
    leads l r (Some p) = says (effect.Open p.instance)
    leads l r None =
        if_good G (nat_le 65535 (length (known d.node.log))) (λ _. says effect.Ended)
        (λ e. live (greatest_cut counts d.node.work.live) l r (leb-false 65535 (length (known d.node.log)) e) (below (greatest_cut counts d.node.work.live) d.node.work.live))

    active : (l : Lead Value) → d.node.role ≡ Leads l → (t : Bool) → G (active_only t d (cut_lead service seed n m counts l l.proposal d))
    active l r true = leads l r l.proposal
    active l r false = says (effect.NotActive (role_name d.node.role))

    by : (r : Role Value) → d.node.role ≡ r → G (cut_role service seed n m counts r d)
    by Follower e = says (effect.NotActive (role_name d.node.role))
    by (Leads l) e = active l e l.active

-- ---- calls

module _ (service : Declarations) (seed n m : ℕ) (B : ℕ → Type 0) (M : Message Value → Type 0) (may : MaySend m B M) where
  abbrev sv : Service Value StateValue
  sv = service_of service seed

  abbrev AllMay : List (Message Value) → Type 0
  AllMay xs = (x : Message Value) → IsIn x xs → M x

  -- a call that keeps to that so far
  pub record Keeps (d : CallHere) : Type 0 where
    pub plain : IsPlain d.node.log
    pub role : OwnBallot B d.node.role
    pub sends : AllMay d.sends

  -- ---- what is sent

  both : (xs ys : List (Message Value)) → AllMay xs → AllMay ys → AllMay (xs ++ ys)
  both xs ys p q x h = go (in_cases x xs ys h)
    where
      go : IsIn x xs ⊎ IsIn x ys → M x
      go (inl k) = p x k
      go (inr k) = q x k

  one : (to : ℕ) (c : Content Value) → M (record { from = m; to = to; content = c }) → AllMay (answer m to c)
  one to c h x (inl e) = subst M (sym e) h
  one to c h x (inr k) = absurd k

  to_others : (k : ℕ) (c : Content Value) → ((to : ℕ) → M (record { from = m; to = to; content = c })) → AllMay (others k m c)
  to_others zero c h x i = absurd i
  to_others (suc k) c h x i = go (eqb (suc k) m) (to_others k c h) x i
    where
      go : (t : Bool) → AllMay (others k m c) → AllMay (cond t (others k m c) (others k m c ++ record { from = m; to = suc k; content = c } ∷ []))
      go true rest = rest
      go false rest = both (others k m c) (answer m (suc k) c) rest (one (suc k) c (h (suc k)))

  told : (to first i : ℕ) (vs : List Value) → AllMay (tell m to first i vs)
  told to first i [] x h = absurd h
  told to first i (v ∷ vs) x h = go (leb first i) (told to first (suc i) vs) x h
    where
      go : (t : Bool) → AllMay (tell m to first (suc i) vs) → AllMay (cond t (record { from = m; to = to; content = Chose i v } ∷ tell m to first (suc i) vs) (tell m to first (suc i) vs))
      go true rest x (inl e) = subst M (sym e) (may.chosen to i v)
      go true rest x (inr k) = rest x k
      go false rest x k = rest x k

  taken : (k : ℕ) (xs : List (Message Value)) → AllMay xs → AllMay (take k xs)
  taken zero [] h x y = absurd y
  taken zero (z ∷ zs) h x y = absurd y
  taken (suc k) [] h x y = absurd y
  taken (suc k) (z ∷ zs) h x (inl e) = h x (inl e)
  taken (suc k) (z ∷ zs) h x (inr y) = taken k zs (λ u i. h u (inr i)) x y

  sent : (d : CallHere) (to : ℕ) (c : Content Value) → M (record { from = m; to = to; content = c }) → Keeps d → Keeps (send d (answer m to c))
  sent d to c h g = record { plain = g.plain; role = g.role; sends = both d.sends (answer m to c) g.sends (one to c h) }

  said : (e : Effect) (d : CallHere) → Keeps d → Keeps (say e d)
  said e d g = record { plain = g.plain; role = g.role; sends = g.sends }

  -- ---- a node that leads goes on

  append_keeps : (a : Option Failure) (r : Rec Value StateValue) (d : CallHere) (k : CallHere → CallHere) → Keeps d → IsPlain (r ∷ d.node.log) → ((b : Option Failure) → Keeps (k (logged r b d))) → Keeps (append a m r d k)
  append_keeps None r d k g p c = c None
  append_keeps (Some (After (suc before) kept)) r d k g p c = c (Some (After before kept))
  append_keeps (Some (After zero true)) r d k g p c = record { plain = p; role = tt; sends = λ x i. absurd i }
  append_keeps (Some (After zero false)) r d k g p c = record { plain = g.plain; role = tt; sends = λ x i. absurd i }

  propose_keeps : (e : Effect) (d : CallHere) (l : Lead Value) (i : ℕ) (v : Value) (k : CallHere → CallHere) → Keeps d → B l.ballot → 0 < i → ((x : CallHere) → Keeps x → Keeps (k x)) → Keeps (propose n m e d l i v k)
  propose_keeps e d l i v k g own first c =
      append_keeps d.node.armed (Accepted l.ballot i v) d _ g g.plain
      (λ b. c _ (record { plain = g.plain; role = own; sends = both d.sends (others n m (Accept l.ballot i v)) g.sends (to_others n (Accept l.ballot i v) (λ to. may.accept to l.ballot i v own first)) }))

  decide_keeps : (d : CallHere) (l : Lead Value) (i : ℕ) (v : Value) (k : CallHere → CallHere) → Keeps d → B l.ballot → ((x : CallHere) → Keeps x → Keeps (k x)) → Keeps (decide n sv m d l i v k)
  decide_keeps d l i v k g own c =
      append_keeps d.node.armed (Known i v) d _ g g.plain
      (λ b. c _ (record { plain = g.plain; role = own; sends = both d.sends (others n m (Chose i v)) g.sends (to_others n (Chose i v) (λ to. may.chosen to i v)) }))

  choose_keeps : (d : CallHere) (l : Lead Value) (i : ℕ) (o : Option (Proposal Value)) (k : CallHere → CallHere) → Keeps d → B l.ballot → 0 < i → ((x : CallHere) → Keeps x → Keeps (k x)) → Keeps (choose n sv m d l i o k)
  choose_keeps d l i None k g own first c = record { plain = g.plain; role = own; sends = g.sends }
  choose_keeps d l i (Some p) k g own first c = propose_keeps (effect.Adopts m i (sv.size p.value)) d l i p.value k g own first c

  lead_keeps : (d : CallHere) (l : Lead Value) (o : Option (Proposal Value)) (k : CallHere → CallHere) → Keeps d → B l.ballot → ((x : CallHere) → Keeps x → Keeps (k x)) → Keeps (lead n sv m d l o k)
  lead_keeps d l (Some p) k g own c = if_good Keeps (is_majority n l.accepted_by) (λ _. decide_keeps d l p.instance p.value k g own c) (λ _. g)
  lead_keeps d l None k g own c =
      if_good Keeps l.active (λ _. g)
      (λ _. if_good Keeps (is_majority n l.counted)
      (λ _. choose_keeps d l (suc (length (known d.node.log))) (best (suc (length (known d.node.log))) l.reported) k g own (omega arith) c) (λ _. g))

  turn_keeps : (d : CallHere) (r : Role Value) (k : CallHere → CallHere) → Keeps d → OwnBallot B r → ((x : CallHere) → Keeps x → Keeps (k x)) → Keeps (turn n sv m d r k)
  turn_keeps d Follower k g own c = g
  turn_keeps d (Leads l) k g own c = lead_keeps d l l.proposal k g own c

  settle_keeps : (f : ℕ) (d : CallHere) → Keeps d → Keeps (settle f n sv m d)
  settle_keeps zero d g = g
  settle_keeps (suc f) d g = turn_keeps d d.node.role (settle f n sv m) g g.role (settle_keeps f)

  elect_keeps : (d : CallHere) → B (ballot_above m (promise d.node.log)) → Keeps d → Keeps (elect n sv m d)
  elect_keeps d own g =
      if_good Keeps (nat_lt 4294967296 (round_of (ballot_above m (promise d.node.log)))) (λ _. said (effect.Spent m) d g)
      (λ _. stands (ballot_above m (promise d.node.log)) own)
    where
      stands : (b : ℕ) → B b → Keeps (stand n sv m b d)
      stands b own =
          append_keeps d.node.armed (Promised b) d _ g g.plain
          (λ a. settle_keeps (enough (own_reports d.node.log)) _ (record {
            plain = g.plain;
            role = own;
            sends = both d.sends (others n m (Prepare b (suc (length (known d.node.log))))) g.sends
                (to_others n (Prepare b (suc (length (known d.node.log)))) (λ to. may.prepare to b (suc (length (known d.node.log))) own (omega arith)));
          }))

  -- ---- messages

  -- who asks of instances that none are is told the base
  base_keeps : (from first : ℕ) (d : CallHere) → MayTell m M from first → nat_le first (offset d.node.log) ≡ true → Keeps d → Keeps (answer_base m from d)
  base_keeps from first d t e g =
      sent d from (Snapshot (take (base d.node.log) (known d.node.log)))
      (t (take (base d.node.log) (known d.node.log)) (subst (λ (o : ℕ). nat_le first o ≡ true) (plain_offset d.node.log g.plain) e)) g

  prepare_keeps : (from b first : ℕ) (d : CallHere) → CanAnswer m M from (Prepare b first) → Keeps d → Keeps (on_prepare m from b first d)
  prepare_keeps from b first d c g =
      if_good Keeps (nat_lt b (promise d.node.log)) (λ _. sent d from (Nack b (promise d.node.log)) (c.1 (promise d.node.log)) g)
      (λ _. if_good Keeps (nat_le first (offset d.node.log)) (λ e. base_keeps from first d c.2 e g)
      (λ _. if_good Keeps (nat_lt (promise d.node.log) b)
      (λ _. append_keeps d.node.armed (Promised b) d _ g g.plain
      (λ a. sent (follow m (effect.Promised m b ∷ []) (logged (Promised b) a d)) from (Promise b (from_on first (accepted (Promised b ∷ d.node.log)))) (c.0 _) (record { plain = g.plain; role = tt; sends = g.sends })))
      (λ _. sent d from (Promise b (from_on first (accepted d.node.log))) (c.0 _) g)))

  promise_keeps : (from b : ℕ) (ps : List (Proposal Value)) (d : CallHere) (r : Role Value) → OwnBallot B r → Keeps d → Keeps (on_promise n sv m from b ps d r)
  promise_keeps from b ps d Follower own g = said _ d g
  promise_keeps from b ps d (Leads l) own g = if_good Keeps (l.ballot == b) (λ _. counts l.proposal) (λ _. said _ d g)
    where
      now : Keeps (led (Leads (heard l from ps)) d)
      now = record { plain = g.plain; role = own; sends = g.sends }

      counts : (o : Option (Proposal Value)) → Keeps (on_own_promise n sv m from ps d l o)
      counts (Some p) = said effect.IgnoredLate d g
      counts None =
          if_good Keeps l.active (λ _. said effect.IgnoredLate d g) (λ _. if_good Keeps (is_in from l.counted) (λ _. said (effect.IgnoredAgain from) d g) (λ _.
          if_good Keeps (is_majority n (heard l from ps).counted) (λ _. settle_keeps (enough (heard l from ps).reported) (led (Leads (heard l from ps)) d) now)
          (λ _. said (effect.Have (length (heard l from ps).counted)) (led (Leads (heard l from ps)) d) now)))

  accept_keeps : (from b i : ℕ) (v : Value) (d : CallHere) → CanAnswer m M from (Accept b i v) → Keeps d → Keeps (on_accept m from b i v d)
  accept_keeps from b i v d c g =
      if_good Keeps (nat_lt b (promise d.node.log)) (λ _. sent d from (Nack b (promise d.node.log)) (c.1 (promise d.node.log)) g)
      (λ _. if_good Keeps (nat_le i (offset d.node.log)) (λ e. base_keeps from i d c.2 e g)
      (λ _. if_good Keeps (has_last b i (accepted d.node.log)) (λ _. sent d from (Voted b i) c.0 g)
      (λ _. append_keeps d.node.armed (Accepted b i v) d _ g g.plain
      (λ a. sent (follow m (effect.Accepted m b i ∷ []) (logged (Accepted b i v) a d)) from (Voted b i) c.0 (record { plain = g.plain; role = tt; sends = g.sends })))))

  vote_keeps : (from b i : ℕ) (d : CallHere) (r : Role Value) → OwnBallot B r → Keeps d → Keeps (on_voted n sv m from b i d r)
  vote_keeps from b i d Follower own g = said _ d g
  vote_keeps from b i d (Leads l) own g = if_good Keeps (l.ballot == b) (λ _. counts l.proposal) (λ _. said _ d g)
    where
      now : (p : Proposal Value) → Keeps (led (Leads (voted l from p)) d)
      now p = record { plain = g.plain; role = own; sends = g.sends }

      counts : (o : Option (Proposal Value)) → Keeps (on_own_vote n sv m from i d l o)
      counts None = said _ d g
      counts (Some p) =
          if_good Keeps (p.instance == i) (λ _. if_good Keeps (is_in from l.accepted_by) (λ _. said (effect.IgnoredAgain from) d g) (λ _.
          if_good Keeps (is_majority n (voted l from p).accepted_by) (λ _. settle_keeps (enough (voted l from p).reported) (led (Leads (voted l from p)) d) (now p))
          (λ _. said (effect.Have (length (voted l from p).accepted_by)) (led (Leads (voted l from p)) d) (now p)))) (λ _. said (effect.IgnoredInstance i p.instance) d g)

  nack_keeps : (p : ℕ) (d : CallHere) (r : Role Value) → Keeps d → Keeps (on_nack m p d r)
  nack_keeps p d Follower g = said _ d g
  nack_keeps p d (Leads l) g = if_good Keeps (nat_lt l.ballot p) (λ _. record { plain = g.plain; role = tt; sends = g.sends }) (λ _. said _ d g)

  receive_keeps : (from : ℕ) (c : Content Value) (d : CallHere) → CanAnswer m M from c → Keeps d → Keeps (receive n sv m from c d)
  receive_keeps from (Prepare b first) d h g = prepare_keeps from b first d h g
  receive_keeps from (Promise b ps) d h g = promise_keeps from b ps d d.node.role g.role g
  receive_keeps from (Accept b i v) d h g = accept_keeps from b i v d h g
  receive_keeps from (Voted b i) d h g = vote_keeps from b i d d.node.role g.role g
  receive_keeps from (Chose i v) d h g =
      if_good Keeps (i == suc (length (known d.node.log)))
      (λ _. append_keeps d.node.armed (Known i v) d _ g g.plain (λ a. record { plain = g.plain; role = tt; sends = g.sends })) (λ _. said _ d g)
  receive_keeps from (Nack b p) d h g = nack_keeps p d d.node.role g
  receive_keeps from (Ask first) d h g =
      if_good Keeps (nat_le first (offset d.node.log)) (λ e. base_keeps from first d h e g)
      (λ _. if_good Keeps (nat_lt (length (known d.node.log)) first) (λ _. said effect.Nothing d g)
      (λ _. record { plain = g.plain; role = g.role; sends = both d.sends (take 64 (tell m from first 1 (known d.node.log))) g.sends (taken 64 (tell m from first 1 (known d.node.log)) (told from first 1 (known d.node.log))) }))
  receive_keeps from (Snapshot values) d h g = absurd h

  -- ---- tasks

  active_keeps : (t : Bool) (d e : CallHere) → Keeps d → Keeps e → Keeps (active_only t d e)
  active_keeps true d e g h = h
  active_keeps false d e g h = said _ d g

  pub call_keeps : (task : Task) (d : CallHere) → CanDo m B M d.node.log task → Keeps d → Keeps (call_for service seed n m task d)
  call_keeps Elect d h g = elect_keeps d h g
  call_keeps (Submit r) d h g = active_keeps (is_active d.node.role) d (submit_request service (Some r) d) g (record { plain = g.plain; role = g.role; sends = g.sends })
  call_keeps (Turn lane clock) d h g = active_keeps (is_active d.node.role) d (lane_turn service clock lane d) g (record { plain = g.plain; role = g.role; sends = g.sends })
  call_keeps Cut d h g =
      cut_by service seed n m Keeps (no_limits service d.node) d (λ e. said e d g)
      (λ e l v r few. propose_keeps e d l (suc (length (known d.node.log))) v _ g (subst (OwnBallot B) r g.role) (omega arith) (settle_keeps (enough l.reported)))
  call_keeps (Hear x) d h g = receive_keeps x.from x.content d h g
  call_keeps (AskOther other) d h g = sent d other (Ask (suc (length (known d.node.log)))) (may.ask other (suc (length (known d.node.log))) (omega arith)) g
  call_keeps Replay d h g =
      if_good Keeps (is_active d.node.role || d.node.replayed == length (known d.node.log)) (λ _. said (effect.UpToDate m) d g)
      (λ _. record { plain = g.plain; role = g.role; sends = g.sends })
  call_keeps (Save version) d h g = absurd h
  call_keeps Forget d h g =
      if_good Keeps (base d.node.log == offset d.node.log) (λ _. said effect.Nothing d g)
      (λ e. absurd (false≢true (sym e ∙ eq-eqb (base d.node.log) (offset d.node.log) (plain_base d.node.log g.plain ∙ sym (plain_offset d.node.log g.plain)))))
