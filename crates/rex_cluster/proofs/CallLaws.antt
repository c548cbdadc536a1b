-- What holds of the steps of calls holds of each call: of those that leave a node its records, and of those that append one.
use Rattle.std.proofs.Common.{◌≡◌, ◌⊎◌, ℕ, zero, suc, Bool, true, false, cond, List, [], ◌∷◌, ◌++◌, length, Option, Some, None, refl, sym, ap, subst, inl, inr, map}
use Rattle.std.specs.Prelude.{◌==◌, nat_lt, nat_le}
use Rattle.rex_syntax.specs.declared.service.Declarations.{Declarations}
use Rattle.rex_syntax.specs.declared.version.Version.{Version}
use Rattle.rex_event.specs.declared.event.Event.{Event}
use Rattle.rex_record.specs.declared.recorder.Release.{Release}
use Rattle.rex_state.specs.Value.{StateValue}
use Rattle.rex_report.specs.declared.effect.Effect.{Effect}
use Rattle.rex_report.specs.declared.effect.Effect.TheVariants as effect
use Rattle.rex_cluster.specs.Records.{Rec, Proposal, accepted, base, known, offset, promise}
use Rattle.rex_cluster.specs.Records.Rec.{Accepted, Known}
use Rattle.rex_cluster.specs.Quorum.{is_in, is_majority}
use Rattle.rex_cluster.specs.Node.{Content, Failure, Lead, Role, Service}
use Rattle.rex_cluster.specs.Node.Content.{Prepare, Promise, Accept, Accepted as Voted, Chosen as Chose, Nack, Ask, Snapshot}
use Rattle.rex_cluster.specs.Node.Role.{Follower, Leads}
use Rattle.rex_cluster.specs.Calls.{Call, append, ask, checkpoint, choose, decide, drop_known, elect, enough, followed, has_last, heard, lead, logged, migrate, on_accept, on_chosen, on_nack, on_own_promise, on_own_vote, on_prepare, on_promise, on_snapshot, on_voted, own_reports, propose, receive, released, replay, settle, stand, turn, voted}
use Rattle.rex_cluster.specs.Lanes.{CallHere, active_only, cut, cut_lead, cut_live, cut_role}
use Rattle.rex_cluster.specs.Releases.{IsAmong}
use Rattle.rex_cluster.specs.Values.{Value, release_effect, service_of}
use Rattle.rex_cluster.proofs.Saying.{among_either}

-- ---- effects

-- none of these tells that a node is down
abbrev pub IsQuiet : List Effect → Type 0
IsQuiet es = (id : ℕ) → IsAmong (effect.Down id) es → ⊥

-- this one doesn't
abbrev Other : Effect → Type 0
Other e = (id : ℕ) → e ≡ effect.Down id → ⊥

quiet_one : {e : Effect} → Other e → IsQuiet (e ∷ [])
quiet_one o id (inl h) = o id h
quiet_one o id (inr h) = h

quiet_both : (xs ys : List Effect) → IsQuiet xs → IsQuiet ys → IsQuiet (xs ++ ys)
quiet_both xs ys p q id h = go (among_either _ xs ys h)
  where
    go : IsAmong (effect.Down id) xs ⊎ IsAmong (effect.Down id) ys → ⊥
    go (inl k) = p id k
    go (inr k) = q id k

quiet_none : IsQuiet []
quiet_none id h = h

quiet_followed : {V : Type 0} (me : ℕ) (r : Role V) → IsQuiet (followed me r)
quiet_followed me Follower = quiet_none
quiet_followed me (Leads l) = quiet_one (λ id e. cc)

module _ {V S : Type 0} where
  -- a service's replies tell of no node
  abbrev pub RepliesQuietly : Service V S → Type 0
  RepliesQuietly sv = (before : List V) (v : V) → IsQuiet (sv.replies before v)

released_quietly : (rs : List Release) → IsQuiet (map release_effect rs)
released_quietly [] id h = h
released_quietly (r ∷ rs) id (inl h) = absurd (cc)
released_quietly (r ∷ rs) id (inr h) = released_quietly rs id h

pub replies_quiet : (service : Declarations) (seed : ℕ) → RepliesQuietly (service_of service seed)
replies_quiet service seed before v = released_quietly _

-- ---- laws

-- the call where this append of its node will fail
abbrev pub armed_as : {V S : Type 0} → Option Failure → Call V S → Call V S
armed_as failure d = record d { node = record d.node { armed = failure } }

-- what a node keeps while it does no more than change its role and work
abbrev pub standing : {V S : Type 0} → Call V S → List (Rec V S) × Option Failure × Bool
standing d = (d.node.log, d.node.armed, d.node.up)

module _ {V S : Type 0} where
  -- from d to e a node keeps that, and where this is asked for it doesn't tell that it is down
  pub record Rests (Hushed : Type 0) (d e : Call V S) : Type 0 where
    pub log : e.node.log ≡ d.node.log
    pub armed : e.node.armed ≡ d.node.armed
    pub up : e.node.up ≡ d.node.up
    pub quiet : Hushed → IsQuiet d.effects → IsQuiet e.effects

  -- P speaks of how a call begins, how it ends, and how it ends where this append of its node will fail: it holds where nothing is done, of what goes on after a rest, and of what goes on after an append of such a record
  pub record IsLaw (failure : Option Failure) (Hushed : Type 0) (May : Rec V S → Type 0) (P : Call V S → Call V S → Call V S → Type 0) : Type 0 where
    pub here : (d : Call V S) → P d d (armed_as failure d)
    pub rests : (d c e beside : Call V S) → Rests Hushed d c → P c e beside → P d e beside
    pub appends : (me : ℕ) (r : Rec V S) (d : Call V S) (k : Call V S → Call V S) → May r → ((b : Option Failure) → P (logged r b d) (k (logged r b d)) (k (armed_as failure (logged r b d))))
        → P d (append d.node.armed me r d k) (append failure me r (armed_as failure d) k)

  -- a record of any kind
  abbrev pub Any : Rec V S → Type 0
  Any r = Unit {0}

  -- nothing more is told
  calm : {Hushed : Type 0} {d e : Call V S} → standing e ≡ standing d → e.effects ≡ d.effects → Rests Hushed d e
  calm s t = record {
    log = ap (λ (x : List (Rec V S) × Option Failure × Bool). x.0) s;
    armed = ap (λ (x : List (Rec V S) × Option Failure × Bool). x.1) s;
    up = ap (λ (x : List (Rec V S) × Option Failure × Bool). x.2) s;
    quiet = λ h. subst IsQuiet (sym t);
  }

  -- this is told besides
  tells : {Hushed : Type 0} (es : List Effect) {d e : Call V S} → standing e ≡ standing d → e.effects ≡ d.effects ++ es → (Hushed → IsQuiet es) → Rests Hushed d e
  tells es {d} s t o = record {
    log = ap (λ (x : List (Rec V S) × Option Failure × Bool). x.0) s;
    armed = ap (λ (x : List (Rec V S) × Option Failure × Bool). x.1) s;
    up = ap (λ (x : List (Rec V S) × Option Failure × Bool). x.2) s;
    quiet = λ h q. subst IsQuiet (sym t) (quiet_both d.effects es q (o h));
  }

module _ {V S : Type 0} {failure : Option Failure} {Hushed : Type 0} {May : Rec V S → Type 0} {P : Call V S → Call V S → Call V S → Type 0} (law : IsLaw failure Hushed May P) where
  -- the law holds of the call, from wherever it begins
  abbrev pub Holds : (Call V S → Call V S) → Type 0
  Holds k = (d : Call V S) → P d (k d) (k (armed_as failure d))

  if_holds : (t : Bool) {d e f beside other : Call V S} → P d e beside → P d f other → P d (cond t e f) (cond t beside other)
  if_holds true h k = h
  if_holds false h k = k

  -- the call goes on after a rest
  on : {k : Call V S → Call V S} {d c : Call V S} → Holds k → Rests Hushed d c → P d (k c) (k (armed_as failure c))
  on {k} {d} {c} g h = law.rests d c _ _ h (g c)

  still : {d e : Call V S} → Rests Hushed d e → P d e (armed_as failure e)
  still {d} {e} h = law.rests d e _ _ h (law.here e)

  quietly : {d e : Call V S} → standing e ≡ standing d → e.effects ≡ d.effects → P d e (armed_as failure e)
  quietly s t = still (calm s t)

  says : {told : Effect} {d e : Call V S} → standing e ≡ standing d → e.effects ≡ d.effects ++ told ∷ [] → Other told → P d e (armed_as failure e)
  says s t o = still (tells _ s t (λ h. quiet_one o))

  -- the node is a follower from here on
  follows : (me : ℕ) {told : Effect} {d e : Call V S} → standing e ≡ standing d → e.effects ≡ d.effects ++ (told ∷ followed me d.node.role) → Other told → P d e (armed_as failure e)
  follows me {told} {d} s t o = still (tells _ s t (λ h. quiet_both (told ∷ []) _ (quiet_one o) (quiet_followed me d.node.role)))

  -- ---- a node that leads goes on

  module _ (n : ℕ) (sv : Service V S) (me : ℕ) (replies : Hushed → RepliesQuietly sv) (accepts : (b i : ℕ) (v : V) → May (Accepted b i v)) (knows : (i : ℕ) (v : V) → May (Known i v)) where
    pub propose_holds : {told : Effect} {d : Call V S} (l : Lead V) (i : ℕ) (v : V) {k : Call V S → Call V S} → Other told → Holds k → P d (propose n me told d l i v k) (propose n me told (armed_as failure d) l i v k)
    propose_holds {told} {d} l i v {k} o g = law.appends me _ d _ (accepts _ _ _) (λ b. on g (tells _ refl refl (λ h. quiet_one o)))

    released_quiet : (t : Bool) (before : List V) (v : V) → Hushed → IsQuiet (released sv t before v)
    released_quiet true before v h = replies h before v
    released_quiet false before v h = quiet_none

    decide_holds : {d : Call V S} (l : Lead V) (i : ℕ) (v : V) {k : Call V S → Call V S} → Holds k → P d (decide n sv me d l i v k) (decide n sv me (armed_as failure d) l i v k)
    decide_holds {d} l i v {k} g =
        law.appends me _ d _ (knows _ _)
        (λ b. on g (tells _ refl refl (λ h. quiet_both (effect.Known me i ∷ []) _ (quiet_one (λ id e. cc)) (released_quiet l.active (known d.node.log) v h))))

    choose_holds : {d : Call V S} (l : Lead V) (i : ℕ) (o : Option (Proposal V)) {k : Call V S → Call V S} → Holds k → P d (choose n sv me d l i o k) (choose n sv me (armed_as failure d) l i o k)
    choose_holds l i None g = says refl refl (λ id e. cc)
    choose_holds l i (Some p) {k} g = propose_holds l i p.value (λ id e. cc) g

    lead_holds : {d : Call V S} (l : Lead V) (o : Option (Proposal V)) {k : Call V S → Call V S} → Holds k → P d (lead n sv me d l o k) (lead n sv me (armed_as failure d) l o k)
    lead_holds {d} l (Some p) {k} g = if_holds _ (decide_holds l _ p.value g) (law.here d)
    lead_holds {d} l None {k} g = if_holds l.active (law.here d) (if_holds _ (choose_holds l _ _ g) (law.here d))

    turn_holds : {d : Call V S} (r : Role V) {k : Call V S → Call V S} → Holds k → P d (turn n sv me d r k) (turn n sv me (armed_as failure d) r k)
    turn_holds {d} Follower g = law.here d
    turn_holds {d} (Leads l) {k} g = lead_holds l _ g

    pub settle_holds : (f : ℕ) → Holds (settle f n sv me)
    settle_holds zero d = law.here d
    settle_holds (suc f) d = turn_holds _ (settle_holds f)

  -- ---- messages and schedule lines

  module _ (any : (r : Rec V S) → May r) where
    module _ (n : ℕ) (sv : Service V S) (me : ℕ) (replies : Hushed → RepliesQuietly sv) where
      settles : (f : ℕ) → Holds (settle f n sv me)
      settles f = settle_holds n sv me replies (λ b i v. any _) (λ i v. any _) f

      stand_holds : (b : ℕ) → Holds (stand n sv me b)
      stand_holds b d = law.appends me _ d _ (any _) (λ a. on (settles (enough (own_reports d.node.log))) (tells _ refl refl (λ h. quiet_one (λ id e. cc))))

      pub elect_holds : Holds (elect n sv me)
      elect_holds d = if_holds _ (says refl refl (λ id e. cc)) (stand_holds _ d)

      prepare_holds : (from b first : ℕ) → Holds (on_prepare me from b first)
      prepare_holds from b first d =
          if_holds (nat_lt b (promise d.node.log)) (quietly refl refl)
          (if_holds (nat_le first (offset d.node.log)) (quietly refl refl)
          (if_holds (nat_lt (promise d.node.log) b) (law.appends me _ d _ (any _) (λ a. follows me refl refl (λ id e. cc))) (quietly refl refl)))

      promise_holds : (from b : ℕ) (ps : List (Proposal V)) {d : Call V S} (r : Role V) → P d (on_promise n sv me from b ps d r) (on_promise n sv me from b ps (armed_as failure d) r)
      promise_holds from b ps Follower = says refl refl (λ id e. cc)
      promise_holds from b ps {d} (Leads l) = if_holds _ (own l.proposal) (says refl refl (λ id e. cc))
        where
          own : (o : Option (Proposal V)) → P d (on_own_promise n sv me from ps d l o) (on_own_promise n sv me from ps (armed_as failure d) l o)
          own (Some p) = says refl refl (λ id e. cc)
          own None =
              if_holds l.active (says refl refl (λ id e. cc))
              (if_holds (is_in from l.counted) (says refl refl (λ id e. cc))
              (if_holds (is_majority n (heard l from ps).counted) (on (settles _) (calm refl refl)) (says refl refl (λ id e. cc))))

      accept_holds : (from b i : ℕ) (v : V) → Holds (on_accept me from b i v)
      accept_holds from b i v d =
          if_holds (nat_lt b (promise d.node.log)) (quietly refl refl)
          (if_holds (nat_le i (offset d.node.log)) (quietly refl refl)
          (if_holds (has_last b i (accepted d.node.log)) (quietly refl refl) (law.appends me _ d _ (any _) (λ a. follows me refl refl (λ id e. cc)))))

      voted_holds : (from b i : ℕ) {d : Call V S} (r : Role V) → P d (on_voted n sv me from b i d r) (on_voted n sv me from b i (armed_as failure d) r)
      voted_holds from b i Follower = says refl refl (λ id e. cc)
      voted_holds from b i {d} (Leads l) = if_holds _ (own l.proposal) (says refl refl (λ id e. cc))
        where
          own : (o : Option (Proposal V)) → P d (on_own_vote n sv me from i d l o) (on_own_vote n sv me from i (armed_as failure d) l o)
          own None = says refl refl (λ id e. cc)
          own (Some p) =
              if_holds (p.instance == i)
              (if_holds (is_in from l.accepted_by) (says refl refl (λ id e. cc))
              (if_holds (is_majority n (voted l from p).accepted_by) (on (settles _) (calm refl refl)) (says refl refl (λ id e. cc))))
              (says refl refl (λ id e. cc))

      chosen_holds : (i : ℕ) (v : V) → Holds (on_chosen me i v)
      chosen_holds i v d = if_holds _ (law.appends me _ d _ (any _) (λ a. follows me refl refl (λ id e. cc))) (says refl refl (λ id e. cc))

      nack_holds : (p : ℕ) {d : Call V S} (r : Role V) → P d (on_nack me p d r) (on_nack me p (armed_as failure d) r)
      nack_holds p Follower = says refl refl (λ id e. cc)
      nack_holds p {d} (Leads l) = if_holds _ (still (tells _ refl refl (λ h. quiet_followed me d.node.role))) (says refl refl (λ id e. cc))

      snapshot_holds : (values : List V) → Holds (on_snapshot sv me values)
      snapshot_holds values d = if_holds _ (says refl refl (λ id e. cc)) (law.appends me _ d _ (any _) (λ a. follows me refl refl (λ id e. cc)))

      pub receive_holds : (from : ℕ) (m : Content V) → Holds (receive n sv me from m)
      receive_holds from (Prepare b first) d = prepare_holds from b first d
      receive_holds from (Promise b ps) d = promise_holds from b ps d.node.role
      receive_holds from (Accept b i v) d = accept_holds from b i v d
      receive_holds from (Voted b i) d = voted_holds from b i d.node.role
      receive_holds from (Chose i v) d = chosen_holds i v d
      receive_holds from (Nack b p) d = nack_holds p d.node.role
      receive_holds from (Ask first) d =
          if_holds (nat_le first (offset d.node.log)) (quietly refl refl) (if_holds (nat_lt (length (known d.node.log)) first) (says refl refl (λ id e. cc)) (quietly refl refl))
      receive_holds from (Snapshot values) d = snapshot_holds values d

    pub checkpoint_holds : (version : Version) (sv : Service V S) (me : ℕ) → Holds (checkpoint version sv me)
    checkpoint_holds version sv me d =
        if_holds (d.node.replayed == base d.node.log) (says refl refl (λ id e. cc))
        (if_holds (nat_lt 0 (length d.node.work.live)) (says refl refl (λ id e. cc)) (law.appends me _ d _ (any _) (λ a. says refl refl (λ id e. cc))))

    pub drop_holds : (me : ℕ) → Holds (drop_known me)
    drop_holds me d = if_holds _ (says refl refl (λ id e. cc)) (law.appends me _ d _ (any _) (λ a. says refl refl (λ id e. cc)))

    pub migrate_holds : (sv : Service V S) (me : ℕ) → Holds (migrate sv me)
    migrate_holds sv me d = if_holds _ (law.appends me _ d _ (any _) (λ a. says refl refl (λ id e. cc))) (law.here d)

  pub replay_holds : (me : ℕ) → Holds (replay me)
  replay_holds me d = if_holds _ (says refl refl (λ id e. cc)) (says refl refl (λ id e. cc))

  pub ask_holds : (me other : ℕ) → Holds (ask me other)
  ask_holds me other d = quietly refl refl

-- ---- what only an active node does

module _ {failure : Option Failure} {Hushed : Type 0} {May : Rec Value StateValue → Type 0} {P : CallHere → CallHere → CallHere → Type 0} (law : IsLaw failure Hushed May P) where
  pub active_holds : (t : Bool) {d e beside : CallHere} → P d e beside → P d (active_only t d e) (active_only t (armed_as failure d) beside)
  active_holds true h = h
  active_holds false h = says law refl refl (λ id e. cc)

  module _ (any : (r : Rec Value StateValue) → May r) (service : Declarations) (seed n me : ℕ) where
    replies : Hushed → RepliesQuietly (service_of service seed)
    replies h = replies_quiet service seed

    live_holds : (counts : List ℕ) (l : Lead Value) (es : List Event) → Holds law (cut_live service seed n me counts l es)
    live_holds counts l [] d = says law refl refl (λ id e. cc)
    live_holds counts l (x ∷ xs) d =
        if_holds law _
        (propose_holds law n (service_of service seed) me replies (λ b i v. any _) (λ i v. any _) l _ _ (λ id e. cc) (settles law any n (service_of service seed) me replies _))
        (says law refl refl (λ id e. cc))

    lead_cut_holds : (counts : List ℕ) (l : Lead Value) (o : Option (Proposal Value)) → Holds law (cut_lead service seed n me counts l o)
    lead_cut_holds counts l (Some p) d = says law refl refl (λ id e. cc)
    lead_cut_holds counts l None d = if_holds law _ (says law refl refl (λ id e. cc)) (live_holds _ l _ d)

    role_holds : (counts : List ℕ) (r : Role Value) {d : CallHere} → P d (cut_role service seed n me counts r d) (cut_role service seed n me counts r (armed_as failure d))
    role_holds counts Follower = says law refl refl (λ id e. cc)
    role_holds counts (Leads l) {d} = active_holds l.active (lead_cut_holds counts l _ d)

    pub cut_holds : (counts : List ℕ) → Holds law (cut service seed n me counts)
    cut_holds counts d = role_holds counts _
