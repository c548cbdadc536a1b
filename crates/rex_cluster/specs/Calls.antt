-- What a node does on a message and on the schedule lines that concern agreement: Paxos (Lamport, 2001), phases 1 and 2.
use Rattle.std.specs.Prelude.{◌==◌, ℕ, zero, suc, ◌+◌, ◌*◌, ◌||◌, Bool, true, false, nat_lt, nat_le, List, [], ◌∷◌, ◌++◌, length, take, Option, Some, None, if◌then◌else◌}
use Rattle.rex_report.specs.declared.effect.Effect.{Effect}
use Rattle.rex_report.specs.declared.effect.Effect.TheVariants as effect
use Rattle.rex_syntax.specs.declared.version.Version.{Version}
use Rattle.rex_syntax.specs.declared.version.Version.TheVariants.{Two}
use Rattle.rex_cluster.specs.Records.{Rec, Proposal, proposal_of, promise, accepted, from_on, offset, known, base, has_old_base}
use Rattle.rex_cluster.specs.Records.Rec.{Promised, Accepted, Known, Checkpoint, Dropped, Transferred}
use Rattle.rex_cluster.specs.Quorum.{is_in, is_majority, ballot_above, round_of}
use Rattle.rex_cluster.specs.Node.{Service, Content, Message, Lead, Role, Work, Failure, Node, no_work, down_node, is_active}
use Rattle.rex_cluster.specs.Node.Failure.{After}
use Rattle.rex_cluster.specs.Node.Content.{Prepare, Promise, Accept, Accepted as Voted, Chosen as Chose, Nack, Ask, Snapshot}
use Rattle.rex_cluster.specs.Node.Role.{Follower, Leads}
use Rattle.rex_ballot.specs.declared.ballots.TheConstants.{ROUNDS, TOLD_VALUES}

-- a node within a call: what it is so far, what it will send, and what it reports
pub record Call (V S : Type 0) : Type 0 where
  pub node : Node V S
  pub sends : List (Message V)
  pub effects : List Effect

-- a call begins with nothing sent
abbrev pub begin : {V S : Type 0} → Node V S → Call V S
begin x = record { node = x; sends = []; effects = [] }

abbrev pub say : {V S : Type 0} → Effect → Call V S → Call V S
say e d = record d { effects = d.effects ++ e ∷ [] }

abbrev pub send : {V S : Type 0} → Call V S → List (Message V) → Call V S
send d ms = record d { sends = d.sends ++ ms }

-- the same to each other node of 1 to n, in rising order
abbrev pub others : {V : Type 0} → ℕ → ℕ → Content V → List (Message V)
others zero me c = []
others (suc k) me c = if suc k == me then others k me c else others k me c ++ record { from = me; to = suc k; content = c } ∷ []

abbrev pub answer : {V : Type 0} → ℕ → ℕ → Content V → List (Message V)
answer me to c = record { from = me; to = to; content = c } ∷ []

-- the record is there, and this append will fail next, if one will
abbrev pub logged : {V S : Type 0} → Rec V S → Option Failure → Call V S → Call V S
logged r armed d = record d { node = record d.node { log = r ∷ d.node.log; armed = armed } }

-- the record is appended, and the call goes on as k says; or the append fails, and the node is down with nothing sent
abbrev pub append : {V S : Type 0} → Option Failure → ℕ → Rec V S → Call V S → (Call V S → Call V S) → Call V S
append None me r d k = k (logged r None d)
append (Some (After (suc before) kept)) me r d k = k (logged r (Some (After before kept)) d)
append (Some (After zero kept)) me r d k = record {
  node = down_node (if kept then r ∷ d.node.log else d.node.log) None;
  sends = [];
  effects = d.effects ++ effect.Down me ∷ [];
}

-- ---- leaving a role

-- leaving active drops queue and live events
abbrev pub work_left : Bool → Work → Work
work_left true work = no_work
work_left false work = work

-- and what was replayed goes back to the base
abbrev pub replayed_left : Bool → ℕ → ℕ → ℕ
replayed_left true based replayed = based
replayed_left false based replayed = replayed

-- the node leaves its role for this one
abbrev pub with_role : {V S : Type 0} → Role V → Call V S → Call V S
with_role role d = record d {
  node = record d.node {
    role = role;
    work = work_left (is_active d.node.role) d.node.work;
    replayed = replayed_left (is_active d.node.role) (base d.node.log) d.node.replayed;
  };
}

abbrev pub followed : {V : Type 0} → ℕ → Role V → List Effect
followed me Follower = []
followed me (Leads l) = effect.Followed me ∷ []

-- the node is a follower from here on, after what caused it
abbrev pub follow : {V S : Type 0} → ℕ → List Effect → Call V S → Call V S
follow me cause d = record (with_role Follower d) { effects = d.effects ++ (cause ++ followed me d.node.role) }

-- ---- a node that leads goes on

-- it leads on with this proposal open, accepted by these nodes, active or not
abbrev pub leading : {V : Type 0} → Lead V → Option (Proposal V) → List ℕ → Bool → Role V
leading l proposal accepted_by active = Leads (record { ballot = l.ballot; counted = l.counted; reported = l.reported; proposal = proposal; accepted_by = accepted_by; active = active })

-- the role alone is another one
abbrev pub led : {V S : Type 0} → Role V → Call V S → Call V S
led role d = record d { node = record d.node { role = role } }

-- it proposes a value for an instance: it accepts it itself, and sends it to the others
abbrev pub propose : {V S : Type 0} → ℕ → ℕ → Effect → Call V S → Lead V → ℕ → V → (Call V S → Call V S) → Call V S
propose n me told d l i v k =
    append d.node.armed me (Accepted l.ballot i v) d
    (λ e. k (send (say told (led (leading l (Some (proposal_of l.ballot i v)) (me ∷ []) l.active) e)) (others n me (Accept l.ballot i v))))

-- an active node has the events of a value that became known no longer live, and has replayed it
abbrev pub work_known : {V S : Type 0} → Service V S → Bool → List V → Work → Work
work_known sv true values work = record work { live = sv.remaining values work.live }
work_known sv false values work = work

abbrev pub replayed_known : Bool → ℕ → ℕ → ℕ
replayed_known true i replayed = i
replayed_known false i replayed = replayed

-- an active node releases the replies of the value, in their order
abbrev pub released : {V S : Type 0} → Service V S → Bool → List V → V → List Effect
released sv true before v = sv.replies before v
released sv false before v = []

-- the value of its open proposal is known
abbrev pub learned : {V S : Type 0} → Service V S → ℕ → Lead V → ℕ → V → List V → Call V S → Call V S
learned sv me l i v before e = record e {
  node = record e.node {
    role = leading l None [] l.active;
    work = work_known sv l.active (before ++ v ∷ []) e.node.work;
    replayed = replayed_known l.active i e.node.replayed;
  };
  effects = e.effects ++ (effect.Known me i ∷ released sv l.active before v);
}

-- a majority accepted its open proposal: the value is known, and it tells the others
abbrev pub decide : {V S : Type 0} → ℕ → Service V S → ℕ → Call V S → Lead V → ℕ → V → (Call V S → Call V S) → Call V S
decide n sv me d l i v k =
    append d.node.armed me (Known i v) d (λ e. k (send (learned sv me l i v (known d.node.log) e) (others n me (Chose i v))))

-- it has replayed what it knows, and is active with that state live and a generator of its ballot
abbrev pub activate : {V S : Type 0} → Service V S → ℕ → Lead V → Call V S → Call V S
activate sv me l d = record d {
  node = record d.node {
    role = leading l None [] true;
    work = record { queue = []; live = []; dice = sv.dice l.ballot };
    replayed = length (known d.node.log);
  };
  effects = d.effects ++ effect.Active me l.ballot ∷ [];
}

-- of the proposals for an instance the one of the greatest ballot, in a tie the first
abbrev pub better : {V : Type 0} → Proposal V → Option (Proposal V) → Option (Proposal V)
better p None = Some p
better p (Some q) = if nat_le q.ballot p.ballot then Some p else Some q

abbrev pub best : {V : Type 0} → ℕ → List (Proposal V) → Option (Proposal V)
best i [] = None
best i (p ∷ ps) = if p.instance == i then better p (best i ps) else best i ps

-- a majority promised: it adopts the value that was reported for the next instance, or is active if none was
abbrev pub choose : {V S : Type 0} → ℕ → Service V S → ℕ → Call V S → Lead V → ℕ → Option (Proposal V) → (Call V S → Call V S) → Call V S
choose n sv me d l i None k = activate sv me l d
choose n sv me d l i (Some p) k = propose n me (effect.Adopts me i (sv.size p.value)) d l i p.value k

-- with an open proposal it goes on once a majority accepted it; without one it goes on where it isn't active and a majority promised
abbrev pub lead : {V S : Type 0} → ℕ → Service V S → ℕ → Call V S → Lead V → Option (Proposal V) → (Call V S → Call V S) → Call V S
lead n sv me d l (Some p) k = if is_majority n l.accepted_by then decide n sv me d l p.instance p.value k else d
lead n sv me d l None k =
    if l.active then d
    else if is_majority n l.counted then choose n sv me d l (suc (length (known d.node.log))) (best (suc (length (known d.node.log))) l.reported) k
    else d

abbrev pub turn : {V S : Type 0} → ℕ → Service V S → ℕ → Call V S → Role V → (Call V S → Call V S) → Call V S
turn n sv me d Follower k = d
turn n sv me d (Leads l) k = lead n sv me d l l.proposal k

-- it goes on as far as it can, at most so many times
abbrev pub settle : {V S : Type 0} → ℕ → ℕ → Service V S → ℕ → Call V S → Call V S
settle zero n sv me d = d
settle (suc f) n sv me d = turn n sv me d d.node.role (settle f n sv me)

-- each proposal that was reported is adopted and known at most once, and then the node is active
abbrev pub enough : {V : Type 0} → List (Proposal V) → ℕ
enough reported = 2 * length reported + 3

-- ---- elect

-- what it accepted itself for the instances that it doesn't know
abbrev pub own_reports : {V S : Type 0} → List (Rec V S) → List (Proposal V)
own_reports log = from_on (suc (length (known log))) (accepted log)

abbrev pub candidacy : {V S : Type 0} → ℕ → ℕ → List (Rec V S) → Lead V
candidacy me b log = record { ballot = b; counted = me ∷ []; reported = own_reports log; proposal = None; accepted_by = []; active = false }

-- it promises the ballot to itself, counts that with what it accepted, and asks the others
abbrev pub stand : {V S : Type 0} → ℕ → Service V S → ℕ → ℕ → Call V S → Call V S
stand n sv me b d =
    append d.node.armed me (Promised b) d
    (λ e. settle (enough (own_reports d.node.log)) n sv me
    (send (say (effect.Candidate me b) (with_role (Leads (candidacy me b d.node.log)) e)) (others n me (Prepare b (suc (length (known d.node.log)))))))

-- with the least own ballot above the promise, unless no round is left
abbrev pub elect : {V S : Type 0} → ℕ → Service V S → ℕ → Call V S → Call V S
elect n sv me d =
    if nat_lt ROUNDS (round_of (ballot_above me (promise d.node.log))) then say (effect.Spent me) d
    else stand n sv me (ballot_above me (promise d.node.log)) d

-- ---- messages that are too old to be answered with values

-- who asks of instances whose values the node doesn't hold any more is told the state at its base
abbrev pub answer_base : {V S : Type 0} → ℕ → ℕ → Call V S → Call V S
answer_base me from d = send d (answer me from (Snapshot (take (base d.node.log) (known d.node.log))))

-- ---- Prepare

-- a promise, with all accepted proposals from an instance on
abbrev pub promised : {V S : Type 0} → ℕ → ℕ → ℕ → ℕ → Call V S → Call V S
promised me from b first d = send d (answer me from (Promise b (from_on first (accepted d.node.log))))

abbrev pub on_prepare : {V S : Type 0} → ℕ → ℕ → ℕ → ℕ → Call V S → Call V S
on_prepare me from b first d =
    if nat_lt b (promise d.node.log) then send d (answer me from (Nack b (promise d.node.log)))
    else if nat_le first (offset d.node.log) then answer_base me from d
    else if nat_lt (promise d.node.log) b then
    append d.node.armed me (Promised b) d (λ e. promised me from b first (follow me (effect.Promised me b ∷ []) e))
    else promised me from b first d

-- ---- Promise

abbrev pub heard : {V : Type 0} → Lead V → ℕ → List (Proposal V) → Lead V
heard l from ps = record { ballot = l.ballot; counted = l.counted ++ from ∷ []; reported = l.reported ++ ps; proposal = None; accepted_by = []; active = false }

-- a promise is counted, and a majority goes on
abbrev pub hear : {V S : Type 0} → ℕ → Service V S → ℕ → Lead V → Call V S → Call V S
hear n sv me l d =
    if is_majority n l.counted then settle (enough l.reported) n sv me (led (Leads l) d)
    else say (effect.Have (length l.counted)) (led (Leads l) d)

-- a candidate counts each node once; a node that is no candidate any more comes too late
abbrev pub on_own_promise : {V S : Type 0} → ℕ → Service V S → ℕ → ℕ → List (Proposal V) → Call V S → Lead V → Option (Proposal V) → Call V S
on_own_promise n sv me from ps d l (Some p) = say effect.IgnoredLate d
on_own_promise n sv me from ps d l None =
    if l.active then say effect.IgnoredLate d
    else if is_in from l.counted then say (effect.IgnoredAgain from) d
    else hear n sv me (heard l from ps) d

abbrev pub on_promise : {V S : Type 0} → ℕ → Service V S → ℕ → ℕ → ℕ → List (Proposal V) → Call V S → Role V → Call V S
on_promise n sv me from b ps d Follower = say (effect.IgnoredBallot b 0) d
on_promise n sv me from b ps d (Leads l) =
    if l.ballot == b then on_own_promise n sv me from ps d l l.proposal else say (effect.IgnoredBallot b l.ballot) d

-- ---- Accept

-- the last acceptance for the instance is at this very ballot
abbrev pub has_last : {V : Type 0} → ℕ → ℕ → List (Proposal V) → Bool
has_last b i [] = false
has_last b i (p ∷ ps) = if p.ballot == b then (p.instance == i || has_last b i ps) else has_last b i ps

abbrev pub on_accept : {V S : Type 0} → ℕ → ℕ → ℕ → ℕ → V → Call V S → Call V S
on_accept me from b i v d =
    if nat_lt b (promise d.node.log) then send d (answer me from (Nack b (promise d.node.log)))
    else if nat_le i (offset d.node.log) then answer_base me from d
    else if has_last b i (accepted d.node.log) then send d (answer me from (Voted b i))
    else append d.node.armed me (Accepted b i v) d
    (λ e. send (follow me (effect.Accepted me b i ∷ []) e) (answer me from (Voted b i)))

-- ---- Accepted

abbrev pub voted : {V : Type 0} → Lead V → ℕ → Proposal V → Lead V
voted l from p = record { ballot = l.ballot; counted = l.counted; reported = l.reported; proposal = Some p; accepted_by = l.accepted_by ++ from ∷ []; active = l.active }

-- an acceptance is counted, and a majority goes on
abbrev pub count_vote : {V S : Type 0} → ℕ → Service V S → ℕ → Lead V → Call V S → Call V S
count_vote n sv me l d =
    if is_majority n l.accepted_by then settle (enough l.reported) n sv me (led (Leads l) d)
    else say (effect.Have (length l.accepted_by)) (led (Leads l) d)

-- it counts each node once for its open proposal
abbrev pub on_own_vote : {V S : Type 0} → ℕ → Service V S → ℕ → ℕ → ℕ → Call V S → Lead V → Option (Proposal V) → Call V S
on_own_vote n sv me from i d l None = say (effect.IgnoredInstance i 0) d
on_own_vote n sv me from i d l (Some p) =
    if p.instance == i then (if is_in from l.accepted_by then say (effect.IgnoredAgain from) d else count_vote n sv me (voted l from p) d)
    else say (effect.IgnoredInstance i p.instance) d

abbrev pub on_voted : {V S : Type 0} → ℕ → Service V S → ℕ → ℕ → ℕ → ℕ → Call V S → Role V → Call V S
on_voted n sv me from b i d Follower = say (effect.IgnoredBallot b 0) d
on_voted n sv me from b i d (Leads l) =
    if l.ballot == b then on_own_vote n sv me from i d l l.proposal else say (effect.IgnoredBallot b l.ballot) d

-- ---- Chosen, Nack, Ask and Snapshot

-- the value of the next instance is known, and the node is a follower
abbrev pub on_chosen : {V S : Type 0} → ℕ → ℕ → V → Call V S → Call V S
on_chosen me i v d =
    if i == suc (length (known d.node.log)) then append d.node.armed me (Known i v) d (λ e. follow me (effect.Known me i ∷ []) e)
    else say (effect.IgnoredInstance i (suc (length (known d.node.log)))) d

-- a promise above the own ballot ends the role
abbrev pub on_nack : {V S : Type 0} → ℕ → ℕ → Call V S → Role V → Call V S
on_nack me p d Follower = say (effect.IgnoredBallot p 0) d
on_nack me p d (Leads l) = if nat_lt l.ballot p then follow me [] d else say (effect.IgnoredBallot p l.ballot) d

-- that values are chosen, for the instances from the first one on that is asked for; the list's head is instance i
abbrev pub tell : {V : Type 0} → ℕ → ℕ → ℕ → ℕ → List V → List (Message V)
tell me to first i [] = []
tell me to first i (v ∷ vs) =
    if nat_le first i then record { from = me; to = to; content = Chose i v } ∷ tell me to first (suc i) vs else tell me to first (suc i) vs

-- as much of what it knows as it tells at once
abbrev pub on_ask : {V S : Type 0} → ℕ → ℕ → ℕ → Call V S → Call V S
on_ask me from first d =
    if nat_le first (offset d.node.log) then answer_base me from d
    else if nat_lt (length (known d.node.log)) first then say effect.Nothing d
    else send d (take TOLD_VALUES (tell me from first 1 (known d.node.log)))

-- the node has replayed so many values
abbrev pub with_replayed : {V S : Type 0} → ℕ → Call V S → Call V S
with_replayed replayed d = record d { node = record d.node { replayed = replayed } }

-- values of which it knows fewer are taken over with the state after them, and the node is a follower
abbrev pub on_snapshot : {V S : Type 0} → Service V S → ℕ → List V → Call V S → Call V S
on_snapshot sv me values d =
    if nat_le (length values) (length (known d.node.log)) then say (effect.IgnoredInstance (length values) (suc (length (known d.node.log)))) d
    else append d.node.armed me (Transferred values (sv.state values)) d
    (λ e. follow me (effect.Transferred me (length values) ∷ []) (with_replayed (length values) e))

-- what a node does on a message
abbrev pub receive : {V S : Type 0} → ℕ → Service V S → ℕ → ℕ → Content V → Call V S → Call V S
receive n sv me from (Prepare b first) d = on_prepare me from b first d
receive n sv me from (Promise b ps) d = on_promise n sv me from b ps d d.node.role
receive n sv me from (Accept b i v) d = on_accept me from b i v d
receive n sv me from (Voted b i) d = on_voted n sv me from b i d d.node.role
receive n sv me from (Chose i v) d = on_chosen me i v d
receive n sv me from (Nack b p) d = on_nack me p d d.node.role
receive n sv me from (Ask first) d = on_ask me from first d
receive n sv me from (Snapshot values) d = on_snapshot sv me values d

-- ---- schedule lines

-- it asks another node for what it doesn't know
abbrev pub ask : {V S : Type 0} → ℕ → ℕ → Call V S → Call V S
ask me other d = send d (answer me other (Ask (suc (length (known d.node.log)))))

-- a node that isn't active replays what it knows
abbrev pub replay : {V S : Type 0} → ℕ → Call V S → Call V S
replay me d =
    if is_active d.node.role || d.node.replayed == length (known d.node.log) then say (effect.UpToDate me) d
    else record d {
      node = record d.node { replayed = length (known d.node.log) };
      effects = d.effects ++ effect.Replayed me (length (known d.node.log)) ∷ [];
    }

-- it writes down the state after what it has replayed, in a version, where no event is live
abbrev pub checkpoint : {V S : Type 0} → Version → Service V S → ℕ → Call V S → Call V S
checkpoint version sv me d =
    if d.node.replayed == base d.node.log then say effect.Nothing d
    else if nat_lt 0 (length d.node.work.live) then say (effect.Live (length d.node.work.live)) d
    else append d.node.armed me (Checkpoint version d.node.replayed (sv.state (take d.node.replayed (known d.node.log)))) d
    (say (effect.Checkpointed me d.node.replayed))

-- it forgets the values up to its base, and what it accepted for their instances
abbrev pub drop_known : {V S : Type 0} → ℕ → Call V S → Call V S
drop_known me d =
    if base d.node.log == offset d.node.log then say effect.Nothing d
    else append d.node.armed me (Dropped (base d.node.log)) d (say (effect.Dropped me (base d.node.log)))

-- it forgets all but its records
abbrev pub stop : {V S : Type 0} → ℕ → Call V S → Call V S
stop me d = record d { node = down_node d.node.log d.node.armed; effects = d.effects ++ effect.Stopped me ∷ [] }

-- where its last checkpoint is in the old version it writes down the state there again, in the new one
abbrev pub migrate : {V S : Type 0} → Service V S → ℕ → Call V S → Call V S
migrate sv me d =
    if has_old_base d.node.log then append d.node.armed me (Checkpoint Two (base d.node.log) (sv.state (take (base d.node.log) (known d.node.log)))) d
    (say (effect.Migrated me (base d.node.log)))
    else d

-- a node that is down comes back with its records; what it has replayed is the base
abbrev pub restart : {V S : Type 0} → ℕ → Call V S → Call V S
restart me d = record d {
  node = record (down_node d.node.log d.node.armed) { up = true };
  effects = d.effects ++ effect.Started me (promise d.node.log) (length (known d.node.log)) (base d.node.log) ∷ [];
}

-- it comes back, and has its checkpoint in the new version from then on
abbrev pub start : {V S : Type 0} → Service V S → ℕ → Call V S → Call V S
start sv me d = migrate sv me (restart me d)

-- the next append fails, and keeps or loses its record
abbrev pub arm : {V S : Type 0} → ℕ → Bool → Call V S → Call V S
arm me kept d = record d { node = record d.node { armed = Some (After 0 kept) }; effects = d.effects ++ effect.WillFail me kept ∷ [] }
