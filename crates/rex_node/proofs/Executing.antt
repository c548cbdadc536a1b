-- What an active node executes is what the model computes from its records.
use Rattle.rex_node.proofs.Common.{◌≡◌, ℕ, Bool, true, false, cond, drop, refl, List, [], ◌∷◌, ◌++◌, length, Option, Some, None, ap, sym, subst, ◌∙◌, ℤ, is_some, All, All-nil, All-tail, Lcg, pcg32, Request, Declarations, IsService, Event, start_of, entry_at, run-then, run_keeps, Turn, turn_of, queued_in, taken_turn, IsRecorder, CanBegin, AcceptorValue, ProposerValue, RequestFits, Proposal, known, Value, trace_of, state_after, RoleFits, begin, Refusal, LeadsTo, if_up, StaysResting, state_is, ActingValue, NodeValue, Executes, ActsFor, OpenIsCut, NumbersReplies, IsActing, HasStamps, IsUp, IsResting, HasGoneOn, here_of, open_of, role_of, work_of, given, StateValue, Work, Here}
use Rattle.std.proofs.lemmas.List.Elements.{All-push}
use Rattle.rex_record.specs.declared.turns.Turn.TheVariants as turn
use Rattle.rex_record.specs.Turn.{does_draw, dice_after}
use Rattle.rex_record.specs.Value.{queue_after, is_begin, turned}
use Rattle.rex_gate.specs.declared.answer.Answer.{Answer}
use Rattle.rex_gate.specs.declared.answer.Answer.TheVariants.{Queued}
use Rattle.rex_gate.specs.Answer.{answer_to}
use Rattle.rex_gate.specs.Laws.{IsDue}
use Rattle.rex_gate.proofs.Due.{queued_due}
use Rattle.rex_cluster.specs.Lanes as lanes
use Rattle.rex_cluster.specs.Takes as takes
use Rattle.rex_cluster.specs.Lanes.{queue_with, submit_request, live_state, known_state}
use Rattle.rex_node.specs.Calls.{turn_at}
use Rattle.rex_cluster.proofs.Queues.{queued_positive, due_begins, queue_after_answer}
use Rattle.rex_node.proofs.Appended as appended
use Rattle.rex_node.proofs.Proposed.{open_turned}
use Rattle.rex_node.specs.Submitting.{answer_in, taken}

-- what is executed after a turn, with these dice
abbrev after_turn : Declarations → ActingValue → Turn → Lcg → ActingValue
after_turn service a t dice = record { recorder = turned service a.recorder t; dice = dice; proposed = a.proposed; answers = a.answers }

module _ {service : Declarations} {values : List Value} {a : ActingValue} (h : Executes service values a) where
  pub start_is : state_after service (trace_of values) ≡ a.recorder.start
  start_is = state_is service _ _ h.known

  pub live_is : state_after service (trace_of values ++ a.recorder.live) ≡ a.recorder.state
  live_is =
      state_is service _ _
      (run-then service (start_of service) _ (trace_of values) _ h.known ∙ h.recorder.runs)

  -- the state after what the node knows and its live events is the recorder's
  pub live_state_is : {vs : List Value} {w : Option ActingValue} → values ≡ vs → w ≡ Some a → state_after service (trace_of vs ++ (work_of w).live) ≡ a.recorder.state
  live_state_is {vs} e f =
      ap (λ u. state_after service (trace_of vs ++ (work_of u).live)) f
      ∙ ap (λ us. state_after service (trace_of us ++ a.recorder.live)) (sym e)
      ∙ live_is

  -- what is computed from that state and the work is computed from the recorder
  by_recorder : {T : Type 0} (f : StateValue → Work → T) {vs : List Value} {w : Option ActingValue} → values ≡ vs → w ≡ Some a → f a.recorder.state (work_of (Some a)) ≡ f (state_after service (trace_of vs ++ (work_of w).live)) (work_of w)
  by_recorder f {vs} {w} e g =
      ap (λ s. f s (work_of (Some a))) (sym (live_state_is e g))
      ∙ ap (λ u. f (state_after service (trace_of vs ++ (work_of w).live)) (work_of u)) (sym g)

  -- the answer to a request is the one in the model
  pub answer_is : (r : Request) {vs : List Value} {w : Option ActingValue} → values ≡ vs → w ≡ Some a
      → answer_in a r ≡ answer_to r (queued_in (work_of w).queue r.client) (state_after service (trace_of vs ++ (work_of w).live)).clients (state_after service (trace_of vs)).clients
  answer_is r {vs} e f =
      ap (answer_to r (queued_in a.recorder.queue r.client) a.recorder.state.clients) (h.answers ∙ ap (λ s. s.clients) (sym start_is) ∙ ap (λ us. (state_after service (trace_of us)).clients) e)
      ∙ by_recorder (λ s k. answer_to r (queued_in k.queue r.client) s.clients (state_after service (trace_of vs)).clients) e f

  -- so is the turn of a lane
  pub turn_is : (lane : ℕ) (now : ℤ) {vs : List Value} {w : Option ActingValue} → values ≡ vs → w ≡ Some a
      → turn_of service a.recorder.state a.recorder.queue (length a.recorder.live) lane now (pcg32 a.dice).0
      ≡ turn_of service (state_after service (trace_of vs ++ (work_of w).live)) (work_of w).queue (length (work_of w).live) lane now (pcg32 (work_of w).dice).0
  turn_is lane now = by_recorder (λ s k. turn_of service s k.queue (length k.live) lane now (pcg32 k.dice).0)

  -- the recorder could still begin each request after an answer
  requests_kept : {r : Request} (e : Answer) → RequestFits service r → All (RequestFits service) (queue_with a.recorder.queue r e)
  requests_kept {r} Queued fits = All-push (RequestFits service) a.recorder.queue r h.requests fits
  requests_kept _ fits = h.requests

  pub answered : {r : Request} → IsService service → RequestFits service r → Executes service values (taken a r (answer_in a r))
  answered {r} good fits = record {
    recorder = record {
      sound = h.recorder.sound;
      runs = h.recorder.runs;
      few = h.recorder.few;
      queue =
          queue_after_answer service _ _ r _ fits
          (run_keeps service _ _ _ good h.recorder.sound h.recorder.runs).by.complete.clients h.recorder.queue;
    };
    known = h.known;
    requests = requests_kept _ fits;
    answers = h.answers;
  }

  -- after a turn the recorder still begins where it did, with no more requests
  pub turned_executes : (t : Turn) {dice : Lcg} {proposed : List ℕ} → IsRecorder service (turned service a.recorder t) → Executes service values (record { recorder = turned service a.recorder t; dice = dice; proposed = proposed; answers = a.answers })
  turned_executes t k = record { recorder = k; known = h.known; requests = fewer t a.recorder.queue h.requests; answers = h.answers }
    where
      dropped : (b : Bool) (queue : List Request) → All (RequestFits service) queue → All (RequestFits service) (cond b (drop 1 queue) queue)
      dropped true [] k = All-nil (RequestFits service)
      dropped true (r ∷ rest) k = All-tail (RequestFits service) r rest k
      dropped false queue k = k

      fewer : (t : Turn) (queue : List Request) → All (RequestFits service) queue → All (RequestFits service) (queue_after queue t)
      fewer (turn.Done e) queue k = dropped (is_begin e.kind) queue k
      fewer _ queue k = k

  -- so it does after an event that it was handed, with the same requests
  pub given_executes : (t : Turn) → IsRecorder service (given service a t).recorder → Executes service values (given service a t)
  given_executes t k = record { recorder = k; known = h.known; requests = h.requests; answers = h.answers }

  -- what comes of an event that is handed in is what comes of it in the model
  pub given_is : (e : Event) {vs : List Value} {w : Option ActingValue} → values ≡ vs → w ≡ Some a
      → taken_turn service a.recorder.state a.recorder.queue (length a.recorder.live) e
      ≡ taken_turn service (state_after service (trace_of vs ++ (work_of w).live)) (work_of w).queue (length (work_of w).live) e
  given_is e = by_recorder (λ s k. taken_turn service s k.queue (length k.live) e)

-- ---- what the recorder may take

module _ {service : Declarations} (a : ActingValue) (h : IsRecorder service a.recorder) {r : Request} (fits : RequestFits service r) (e : answer_in a r ≡ Queued) where
  due : IsDue r.sequence (queued_in a.recorder.queue r.client) (entry_at a.recorder.state.clients r.client)
  due =
      queued_due _ _ _ _
      (λ k z. queued_positive service _ _ r.client k h.queue z) e

  pub none_queued : queued_in a.recorder.queue r.client ≡ None
  none_queued = due.none

  pub can_begin : IsService service → CanBegin service a.recorder.state r
  can_begin good =
      due_begins service _ r _ fits
      (run_keeps service _ _ _ good h.sound h.runs).by.complete.clients due

-- ---- an active node with other work

-- a queue doesn't matter to an open proposal
open_answered : (service : Declarations) (values : List Value) (a : ActingValue) (r : Request) (answer : Answer) (o : Option (Proposal Value)) → OpenIsCut service values a o → OpenIsCut service values (taken a r answer) o
open_answered service values a r answer None c = tt
open_answered service values a r answer (Some p) c = record { consistent = c.consistent; within = c.within; events = c.events; others = c.others }

-- whatever proposal is open
abbrev pub ActsAlike : Declarations → List Value → ActingValue → ActingValue → Type 0
ActsAlike service values a b = (b.answers ≡ a.answers) × ((p : Option (Proposal Value)) → ActsFor service values p a → ActsFor service values p b)

acting_with : {service : Declarations} {values : List Value} (c : AcceptorValue) (o : Option ProposerValue) {a b : ActingValue} → IsActing service values c o (Some a) → ActsAlike service values a b → IsActing service values c o (Some b)
acting_with c None h k = h
acting_with c (Some p) h k = k.1 (open_of c p.open_instance) h

-- a node that has a recorder has a proposer, and executes what it knows
pub executes : (service : Declarations) (values : List Value) (c : AcceptorValue) (o : Option ProposerValue) (w : Option ActingValue) (a : ActingValue) → IsActing service values c o w → w ≡ Some a → Executes service values a
executes service values c None w a h e = absurd (subst (IsActing service values c None) e h)
executes service values c (Some p) w a h e = (subst (IsActing service values c (Some p)) e h).executes

none_or_some : {A : Type 0} {x : A} → Some x ≡ None → ⊥
none_or_some e = absurd (cc)

module _ {K : Type 0} (records : K → List (List ℕ)) (service : Declarations) (past : List Value) (x : NodeValue K) (a b : ActingValue) where
  abbrev here : NodeValue K → Here
  here = here_of records service past

  abbrev pub with_acting : NodeValue K
  with_acting = record x { acting = Some b }

  up_with : IsUp service x (here x) → x.acting ≡ Some a → ActsAlike service x.known a b → IsUp service with_acting (here with_acting)
  up_with u e k =
      let o = appended.beside_of records service past x u in
      appended.up_of records service past with_acting
      (appended.logged_as refl (appended.logged_of records service past x u))
      (record {
        based = o.based;
        replayed = o.replayed;
        ahead = λ n. absurd (none_or_some n);
        caught_up = λ _. o.caught_up (ap (λ w. is_some w) e);
        proposer = o.proposer;
        acting = acting_with x.acceptor _ (subst (IsActing service x.known x.acceptor x.proposer) e o.acting) k;
        stamped = subst (NumbersReplies x.known) (sym k.0) (subst (HasStamps x.known) e o.stamped);
        role = subst (λ w. RoleFits (length x.known) (role_of x.acceptor x.proposer (is_some w))) e o.role;
      })

  pub node_with : IsResting records service past x → x.acting ≡ Some a → ActsAlike service x.known a b → IsResting records service past with_acting
  node_with h e k = record {
    id = h.id;
    few = h.few;
    up = λ t. up_with (h.up t) e k;
    reached = h.reached;
    decoded = h.decoded;
    rests = λ t. subst (λ w. HasGoneOn x.proposer (is_some w)) e (h.rests t);
  }

  -- ---- what the calls of an active node lead to

  submitted : (r : Request) → x.acting ≡ Some a → known (here x).log ≡ x.known → Executes service x.known a
      → here (record x { acting = Some (taken a r (answer_in a r)) }) ≡ (submit_request service (Some r) (begin (here x))).node
  submitted r e k h =
      ap (λ answer. here (record x { acting = Some (taken a r answer) })) (answer_is h r (sym k) e)
      ∙ ap (λ w. (lanes.answered r (answer_to r (queued_in (work_of x.acting).queue r.client) (live_state service (here x)).clients (known_state service (here x)).clients) (begin (here (record x { acting = w })))).node) (sym e)

  turned_to : (lane : ℕ) (t : Turn) → x.acting ≡ Some a → known (here x).log ≡ x.known → Executes service x.known a
      → here (record x { acting = Some (after_turn service a t (dice_after (does_draw service a.recorder.state (length a.recorder.live) lane) a.dice)) })
      ≡ (lanes.turned service lane t (begin (here x))).node
  turned_to lane t e k h =
      ap (λ s. here (record x { acting = Some (after_turn service a t (dice_after (does_draw service s (length a.recorder.live) lane) a.dice)) }))
      (sym (live_state_is h (sym k) refl))
      ∙ ap (λ w. (lanes.turned service lane t (begin (here (record x { acting = w })))).node) (sym e)

  given_to : (t : Turn) → x.acting ≡ Some a → here (record x { acting = Some (given service a t) }) ≡ (takes.taken t (begin (here x))).node
  given_to t e = ap (λ w. (takes.taken t (begin (here (record x { acting = w })))).node) (sym e)

-- a node that isn't refused is up
pub up_of : (b : Bool) (o : Option Refusal) → if_up b o ≡ None → b ≡ true
up_of true o e = refl
up_of false o e = absurd (cc)

-- ---- the same where the parts are those of a node

module _ {K : Type 0} {records : K → List (List ℕ)} {service : Declarations} {past : List Value} {x z : NodeValue K} {a : ActingValue} (z_is : z ≡ x) (node : IsResting records service past x) (o : Option Refusal) (due : if_up x.up o ≡ None) (e : Some a ≡ z.acting) where
  abbrev model : NodeValue K → Here
  model = here_of records service past

  x_has : x.acting ≡ Some a
  x_has = ap (λ n. n.acting) (sym z_is) ∙ sym e

  is_up : IsUp service x (model x)
  is_up = node.up (up_of x.up o due)

  pub has : Executes service x.known a
  has = executes service x.known x.acceptor _ x.acting a is_up.acting x_has

  pub live_state_of : live_state service (model x) ≡ a.recorder.state
  live_state_of = live_state_is has is_up.known x_has

  pub answer_of_node : (r : Request) → answer_in a r ≡ answer_to r (queued_in (work_of x.acting).queue r.client) (live_state service (model x)).clients (known_state service (model x)).clients
  answer_of_node r = answer_is has r is_up.known x_has

  pub turn_of_node : (lane : ℕ) (now : ℤ) → turn_of service a.recorder.state a.recorder.queue (length a.recorder.live) lane now (pcg32 a.dice).0 ≡ turn_at service (model x) lane now
  turn_of_node lane now = turn_is has lane now is_up.known x_has

  -- the same node in the model where the same is executed
  here_with : {b c : ActingValue} → b ≡ c → model (record z { acting = Some b }) ≡ model (record x { acting = Some c })
  here_with {b} f =
      ap (λ n. model (record n { acting = Some b })) z_is
      ∙ ap (λ c. model (record x { acting = Some c })) f

  pub submit_leads : (r : Request) {b : ActingValue} {answer : Answer} → b ≡ taken a r answer → answer ≡ answer_in a r
      → model (record z { acting = Some b }) ≡ (submit_request service (Some r) (begin (model x))).node
  submit_leads r {b} f g =
      here_with (f ∙ ap (taken a r) g)
      ∙ submitted records service past x a b r x_has (sym is_up.known) has

  pub turn_leads : (lane : ℕ) (t : Turn) {b : ActingValue} → b ≡ after_turn service a t (dice_after (does_draw service a.recorder.state (length a.recorder.live) lane) a.dice)
      → LeadsTo (lanes.turned service lane t) (model x) (model (record z { acting = Some b }))
  turn_leads lane t {b} f =
      here_with f
      ∙ turned_to records service past x a b lane t x_has (sym is_up.known) has

  pub stays : {b : ActingValue} → ActsAlike service x.known a b → StaysResting records service past x (record z { acting = Some b })
  stays {b} k =
      subst (λ n. StaysResting records service past x (record n { acting = Some b })) (sym z_is)
      (record { same = record { id = refl; nodes = refl; seed = refl; decoded = refl }; kept = node_with records service past x a b node x_has k })

  -- it stays where what is executed acts as before
  stays_as : {b c : ActingValue} → b ≡ c → c.answers ≡ a.answers → ((p : Option (Proposal Value)) → ActsFor service x.known p a → ActsFor service x.known p c) → StaysResting records service past x (record z { acting = Some b })
  stays_as f same k = subst (λ c. StaysResting records service past x (record z { acting = Some c })) (sym f) (stays (same, k))

  pub submit_stays : {r : Request} {b : ActingValue} {answer : Answer} → b ≡ taken a r answer → answer ≡ answer_in a r → IsService service → RequestFits service r → StaysResting records service past x (record z { acting = Some b })
  submit_stays {r} f g good fits = stays_as (f ∙ ap (taken a r) g) refl (λ p h. record { executes = answered h.executes good fits; open_is_cut = open_answered service x.known a r _ p h.open_is_cut })

  pub turn_stays : (t : Turn) {dice : Lcg} {b : ActingValue} → b ≡ after_turn service a t dice → IsRecorder service b.recorder → IsService service → StaysResting records service past x (record z { acting = Some b })
  turn_stays t {dice} {b} f k good =
      let kept : IsRecorder service (turned service a.recorder t) = subst (λ c. IsRecorder service c.recorder) f k in
      stays_as f refl (λ p h. record { executes = turned_executes h.executes t kept; open_is_cut = open_turned good h.executes t dice kept p h.open_is_cut })

  pub given_of_node : (event : Event) → taken_turn service a.recorder.state a.recorder.queue (length a.recorder.live) event ≡ takes.taken_in service (model x) event
  given_of_node event = given_is has event is_up.known x_has

  pub given_leads : (t : Turn) {b : ActingValue} → b ≡ given service a t → LeadsTo (takes.taken t) (model x) (model (record z { acting = Some b }))
  given_leads t {b} f =
      here_with f
      ∙ given_to records service past x a b t x_has

  pub given_stays : (t : Turn) {b : ActingValue} → b ≡ given service a t → IsRecorder service b.recorder → IsService service → StaysResting records service past x (record z { acting = Some b })
  given_stays t {b} f k good =
      let kept : IsRecorder service (given service a t).recorder = subst (λ c. IsRecorder service c.recorder) f k in
      stays_as f refl (λ p h. record { executes = given_executes h.executes t kept; open_is_cut = open_turned good h.executes t a.dice kept p h.open_is_cut })
