-- What a process sends is right.
use Rattle.std.proofs.Common.{arith, ℤ, ◌≡◌, ℕ, ◌+◌, ◌≤◌, Bool, true, false, List, [], ◌∷◌, length, map, Result, Ok, Err, Option, Some, None, IfOk, inl, inr, refl, sym, ◌∙◌, ap, subst}
use Rattle.std.specs.Prelude.{if◌then◌else◌, ◌||◌, ◌==◌, is_some, option_map}
use Rattle.std.proofs.lemmas.Option.{same_Some}
use Rattle.std.specs.List.{All}
use Rattle.std.specs.declared.alloc.AllocError.{AllocError}
use Rattle.std.proofs.lemmas.List.Elements.{All-nil, All-cons, All-head, All-tail}
use Rattle.rex_ballot.specs.Limits.{most_nodes}
use Rattle.rex_ballot.specs.declared.proposal.Proposal.{Proposal as Kept}
use Rattle.rex_ballot.specs.Ballot as ballot
use Rattle.rex_ballot.specs.Proposals as proposals
use Rattle.rex_ballot.specs.Proposals.{IsValue, proposal_for}
use Rattle.rex_msg.specs.declared.message.Message.{Message as Said}
use Rattle.rex_msg.specs.declared.message.Content.{Content as Says}
use Rattle.rex_msg.specs.declared.message.Content.TheVariants as says
use Rattle.rex_msg.specs.Spelling as message
use Rattle.rex_msg.specs.Spelling.{IsMessage}
use Rattle.rex_syntax.specs.declared.service.Declarations.{Declarations}
use Rattle.rex_state.specs.Value.{StateValue}
use Rattle.rex_paxos.specs.Acceptor.{AcceptorValue}
use Rattle.rex_paxos.specs.Proposer.{ProposerValue}
use Rattle.rex_cluster.specs.Records.{Proposal, known}
use Rattle.rex_cluster.specs.Quorum.{IsNode}
use Rattle.rex_cluster.specs.Node.{Message, Service, is_active}
use Rattle.rex_cluster.specs.Calls.{begin, enough, replay}
use Rattle.rex_cluster.specs.Invariant.{IsIn}
use Rattle.rex_cluster.specs.Ranges.{IsBallot, IsInstance, IsFirst, AreRising, ProposalFits, ContentFits, MessageFits, RoleFits}
use Rattle.rex_cluster.specs.Telling.{TellsNoState, TellNoState}
use Rattle.rex_cluster.specs.Values.{Value, greatest_value, service_of}
use Rattle.rex_cluster.specs.Lanes.{CallHere, lane_turn, no_limits, submit_request}
use Rattle.rex_cluster.proofs.Ranged.{Fits, ask_fits, elect_fits, proposed_fits, replay_fits}
use Rattle.rex_safety.proofs.Numbers.{active_fits}
use Rattle.rex_log.specs.Log.{proposal_in}
use Rattle.rex_log.specs.Messages.{content_in, message_in}
use Rattle.rex_node.specs.declared.step.Step.{Step}
use Rattle.rex_node.specs.Parts.{AreShort as AreKeptShort, IsProposer, IsUp, open_of, role_of}
use Rattle.rex_node.proofs.Votes.{found_all}
use Rattle.rex_processes.specs.Processes.{Task, call_for}
use Rattle.rex_processes.specs.Processes.Task.{Elect, Submit, Turn, Cut, Hear, Ask as AskOther, Replay, Save, Forget}
use Rattle.rex_processes.specs.Plain.{HeardFits, IsPlain}
use Rattle.rex_processes.proofs.Calling.{cut_by}
use Rattle.rex_processes.proofs.Stateless.{plain_tells_none}
use Rattle.rex_process.specs.Coming.{Comes}
use Rattle.rex_process.specs.Hearing.{IsHeard}
use Rattle.rex_process.specs.Process.{ComesTo, HasTurn, IsProcess, ProcessValue, call_in, task_in, caught_up, here, is_behind}
use Rattle.rex_process.specs.Sending.{AreShort, IsGood, MayBeTold, TellsShort}
use Rattle.rex_process.proofs.Ranging.{hear_fits}
use Rattle.rex_process.proofs.Shortness.{HasShort, RoleShort, ValuesShort, call_short, fitting_short}
use Rattle.rex_process.proofs.Standing.{up_is}

-- ---- ranges

-- ranges of the cluster's model are those of messages
node_fits : (n m : ℕ) → n ≤ most_nodes → IsNode n m → ballot.IsNode m
node_fits n m few l = record { first = omega (arith, l.0); last = omega (arith, l.1) }

ballot_fits : (b : ℕ) → IsBallot b → ballot.IsBallot b
ballot_fits b h = record { first = omega (arith, h.some); last = omega (arith, h.few); node = record { first = omega (arith, h.node.0); last = omega (arith, h.node.1) } }

instance_fits : (i : ℕ) → IsInstance i → ballot.IsInstance i
instance_fits i h = record { first = omega (arith, h.0); last = h.1 }

first_fits : (i : ℕ) → IsFirst i → message.IsFirst i
first_fits i h = (omega (arith, h.0), h.1)

-- so are those of a list of proposals
rising_fit : (before least : ℕ) (ps : List Kept) → least ≤ before + 1 → AreRising before (map proposal_in ps) → proposals.AreRising least ps
rising_fit before least [] l h = tt
rising_fit before least (p ∷ ps) l h = (omega (arith, h.0), rising_fit p.instance (p.instance + 1) ps (omega arith) h.1)

proposals_fit : (ps : List Kept) → ((p : Proposal Value) → IsIn p (map proposal_in ps) → ProposalFits p) → AreShort (map proposal_in ps) → All proposals.IsProposal ps
proposals_fit [] fits short = All-nil proposals.IsProposal
proposals_fit (p ∷ ps) fits short =
    let f : ProposalFits (proposal_in p) = fits (proposal_in p) (inl refl) in
    All-cons proposals.IsProposal p ps
    (record { instance = instance_fits p.instance f.instance; ballot = ballot_fits p.ballot f.ballot; value = record { few = short (proposal_in p) (inl refl) } })
    (proposals_fit ps (λ q i. fits q (inr i)) (λ q i. short q (inr i)))

-- and of what a message says that tells no state
content_fits : (c : Says) → TellsNoState (content_in [] c) → ContentFits (content_in [] c) → TellsShort (content_in [] c) → message.ContentFits c
content_fits (says.Prepare b first) none h s = (ballot_fits b h.0, first_fits first h.1)
content_fits (says.Promise b ps) none h s = (ballot_fits b h.0, record { each = proposals_fit ps h.2 s; rising = rising_fit 0 0 ps (omega arith) h.1 })
content_fits (says.Accept b i v) none h s = (ballot_fits b h.0, instance_fits i h.1, record { few = s })
content_fits (says.Accepted b i) none h s = (ballot_fits b h.0, instance_fits i h.1)
content_fits (says.Chosen i v) none h s = (instance_fits i h, record { few = s })
content_fits (says.Nack b p) none h s = (ballot_fits b h.0, h.1)
content_fits (says.Ask first) none h s = first_fits first h
content_fits (says.Snapshot k bytes) none h s = absurd none

-- messages have all in their ranges where the model's do, and tell no value that is too long
all_fit : (n : ℕ) → n ≤ most_nodes → (ms : List Said) → TellNoState (map (message_in []) ms) → ((x : Message Value) → IsIn x (map (message_in []) ms) → MessageFits n x) → ((x : Message Value) → IsIn x (map (message_in []) ms) → TellsShort x.content) → All IsMessage ms
all_fit n few [] none fits short = All-nil IsMessage
all_fit n few (m ∷ ms) none fits short =
    let f : MessageFits n (message_in [] m) = fits (message_in [] m) (inl refl) in
    All-cons IsMessage m ms
    (record { from = node_fits n m.from few f.from; to = node_fits n m.to few f.to; another = λ e. f.apart (sym e); content = content_fits m.content none.0 f.content (short (message_in [] m) (inl refl)) })
    (all_fit n few ms none.1 (λ x i. fits x (inr i)) (λ x i. short x (inr i)))

-- ---- what a node has

-- proposals whose values may be written down have none that is too long
pub short_of : (P : Kept → Type 0) → ((q : Kept) → P q → IsValue q.value) → (ps : List Kept) → All P ps → AreShort (map proposal_in ps)
short_of P value [] h p i = absurd i
short_of P value (q ∷ ps) h p (inl e) = subst (λ (r : Proposal Value). length r.value ≤ greatest_value) (sym e) (value q (All-head P q ps h)).few
short_of P value (q ∷ ps) h p (inr i) = short_of P value ps (All-tail P q ps h) p i

-- one that is open was accepted
open_short : (a : AcceptorValue) (at : Option ℕ) → AreKeptShort a.accepted → (p : Proposal Value) → open_of a at ≡ Some p → length p.value ≤ greatest_value
open_short a None all p e = absurd (cc)
open_short a (Some i) all p e = by (proposal_for i a.accepted) refl e
  where
    by : (o : Option Kept) → proposal_for i a.accepted ≡ o → option_map proposal_in o ≡ Some p → length p.value ≤ greatest_value
    by None f g = absurd (cc)
    by (Some q) f g = subst (λ (r : Proposal Value). length r.value ≤ greatest_value) (same_Some (proposal_in q) p g) (found_all (λ (k : Kept). IsValue k.value) i a.accepted all f).few

-- so is each that the node was reported
role_short : (nodes id : ℕ) (a : AcceptorValue) (o : Option ProposerValue) (active : Bool) → AreKeptShort a.accepted → IsProposer nodes id a o → RoleShort (role_of a o active)
role_short nodes id a None active all h = tt
role_short nodes id a (Some p) active all h = record { reported = short_of (λ (q : Kept). IsValue q.value) (λ q v. v) p.reported h.short; open_one = open_short a p.open_instance all }

-- ---- a call

module _ (service : Declarations) (seed n : ℕ) (few : n ≤ most_nodes) (m : ℕ) (min : IsNode n m) (d : CallHere) (plain : IsPlain d.node.log) where
  abbrev sv : Service Value StateValue
  sv = service_of service seed

  -- the numbers of a call stay in their ranges
  call_fits : Fits n few sv m min d → (task : Task) → MayBeTold n m task → Fits n few sv m min (call_for service seed n m task d)
  call_fits h Elect a = elect_fits n few sv m min d h
  call_fits h (Submit r) a = active_fits service [] seed n few m min (is_active d.node.role) d (submit_request service (Some r) d) h (record { log = h.log; role = h.role; sends = h.sends })
  call_fits h (Turn lane clock) a = active_fits service [] seed n few m min (is_active d.node.role) d (lane_turn service clock lane d) h (record { log = h.log; role = h.role; sends = h.sends })
  call_fits h Cut a =
      cut_by service seed n m (λ (e : CallHere). Fits n few sv m min e) (no_limits service d.node) d (λ e. record { log = h.log; role = h.role; sends = h.sends })
      (λ told l v role i. proposed_fits n few sv m min told d l v (enough l.reported) h (subst (RoleFits (length (known d.node.log))) role h.role) i)
  call_fits h (Hear x) a = hear_fits n few sv m min x.from a.fits.from a.another d plain h x.content a.fits.content a.stateless
  call_fits h (AskOther other) a = ask_fits n few sv m min other a.0 a.1 d h
  call_fits h Replay a = replay_fits n few sv m min d h
  call_fits h (Save version) a = absurd a
  call_fits h Forget a = absurd a

  -- so are those that are heard
  heard_fit : (task : Task) → MayBeTold n m task → HeardFits task
  heard_fit (Hear x) a = a.fits.content
  heard_fit _ a = tt

-- what is replayed behind a call sends nothing
caught_sends : (m : ℕ) (d : CallHere) → (caught_up m d).sends ≡ d.sends
caught_sends m d = by (is_behind d.node)
  where
    replayed : (t : Bool) (x y : CallHere) → x.sends ≡ d.sends → y.sends ≡ d.sends → (if t then x else y).sends ≡ d.sends
    replayed true x y e f = e
    replayed false x y e f = f

    by : (t : Bool) → (if t then replay m d else d).sends ≡ d.sends
    by true = replayed (is_active d.node.role || d.node.replayed == length (known d.node.log)) _ _ refl refl
    by false = refl

-- ---- a process

module _ {K : Type 0} (records : K → List (List ℕ)) (faults : K → ℕ) (p q : ProcessValue K) (process : IsProcess records faults p) (up : p.node.up ≡ true) (task : Task) (may : MayBeTold p.node.nodes p.node.id task) where
  abbrev before : CallHere
  before = begin (here records p)

  -- what is kept of its node
  stands : IsUp p.service p.node (here records p)
  stands = up_is records p.service p.node process.node process.plain up

  -- none of its values is too long
  has_short : HasShort before
  has_short = record {
    accepted_ones = subst AreShort stands.accepted (short_of (λ (k : Kept). IsValue k.value) (λ k v. v) p.node.acceptor.accepted stands.short);
    known_ones = subst ValuesShort stands.known (fitting_short p.service p.node.known stands.fits);
    role = role_short p.node.nodes p.node.id p.node.acceptor p.node.proposer (is_some p.node.acting) stands.short stands.proposer;
  }

  -- all messages of the call that does the task are right
  done_fit : (ms : List Said) → map (message_in []) ms ≡ (call_in p task before).sends → All IsMessage ms
  done_fit ms e =
      all_fit p.node.nodes process.node.few ms
      (subst (λ (xs : List (Message Value)). TellNoState xs) (sym e) (plain_tells_none p.service p.node.seed p.node.nodes p.node.id before process.plain tt task (heard_fit p.service p.node.seed p.node.nodes process.node.few p.node.id process.node.id before process.plain task may)))
      (λ x i. (call_fits p.service p.node.seed p.node.nodes process.node.few p.node.id process.node.id before process.plain (record { log = stands.numbers.log; role = stands.numbers.role; sends = λ y j. absurd j }) task may).sends x (subst (IsIn x) e i))
      (λ x i. call_short p.service p.node.seed p.node.nodes p.node.id before has_short (λ y j. absurd j) task may x (subst (IsIn x) e i))

  -- and so are those of a step that comes of it
  pub sends_are : (step : Step) → ComesTo records faults p q task step → All IsMessage step.sends
  sends_are step comes = by comes.came
    where
      by : Comes records faults p.service (task_in p task) p.node q.node step → All IsMessage step.sends
      by (goes, inl h) = done_fit step.sends (ap (λ (d : CallHere). d.sends) h.is ∙ caught_sends p.node.id (call_in p task before))
      by (goes, inr h) = subst (All IsMessage) (sym h.quiet) (All-nil IsMessage)

  -- if there is one
  pub sends_in : (result : Result Step AllocError) → IfOk result (ComesTo records faults p q task) → IfOk result (λ (step : Step). All IsMessage step.sends)
  sends_in (Ok step) comes = sends_are step comes
  sends_in (Err e) comes = tt

-- a lane's turn sends nothing that isn't right
pub turn_sends_in : {K : Type 0} (records : K → List (List ℕ)) (faults : K → ℕ) (p q : ProcessValue K) → IsProcess records faults p → p.node.up ≡ true → (lane : ℕ) (clock : ℤ) (result : Result Step AllocError)
    → IfOk result (HasTurn records faults p q lane clock) → IfOk result (λ (step : Step). All IsMessage step.sends)
turn_sends_in records faults p q process up lane clock (Ok step) h = sends_are records faults p q process up (Turn lane h.reads) tt step h.comes
turn_sends_in records faults p q process up lane clock (Err e) h = tt

-- ---- what is heard

-- what a message with a spelling tells isn't too long
told_short : (c : Says) → message.ContentFits c → TellsShort (content_in [] c)
told_short (says.Prepare b first) h = tt
told_short (says.Promise b ps) h = short_of proposals.IsProposal (λ q i. i.value) ps h.1.each
told_short (says.Accept b i v) h = h.2.few
told_short (says.Accepted b i) h = tt
told_short (says.Chosen i v) h = h.1.few
told_short (says.Nack b p) h = tt
told_short (says.Ask first) h = tt
told_short (says.Snapshot k bytes) h = tt

-- a message that a process hears is good
pub heard_good : (id nodes : ℕ) (m : Said) → IsHeard id nodes m → IsGood nodes id (message_in [] m)
heard_good id nodes m heard = record {
  fits = heard.numbers [];
  another = λ e. (heard.numbers []).apart (sym e ∙ sym heard.here);
  stateless = heard.stateless;
  short = told_short m.content heard.spelling.message.content;
}
