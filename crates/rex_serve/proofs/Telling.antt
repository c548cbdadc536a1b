-- What a process says that it released stands in what its node knows, and its node is up and active.
use Rattle.std.proofs.Common.{◌≡◌, ℕ, ℤ, Bool, true, false, not, ◌&&◌, ◌||◌, ◌==◌, List, [], ◌∷◌, ◌++◌, length, Some, inl, inr, refl, sym, ◌∙◌, subst}
use Rattle.std.specs.Prelude.{nat_lt, if◌then◌else◌}
use Rattle.std.proofs.lemmas.Bool.{and_parts, false≢true}
use Rattle.std.proofs.lemmas.List.Elements.{All-nil, All-cons}
use Rattle.rex_syntax.specs.declared.service.Declarations.{Declarations}
use Rattle.rex_syntax.specs.declared.request.Request.{Request}
use Rattle.rex_syntax.specs.Service.{IsService}
use Rattle.rex_syntax.specs.Check.{IsChecked}
use Rattle.rex_state.specs.Value.{StateValue}
use Rattle.rex_schedule.specs.Fits.{RequestFits}
use Rattle.rex_report.specs.declared.effect.Effect.{Effect}
use Rattle.rex_report.specs.declared.effect.Effect.TheVariants as effect
use Rattle.rex_log.specs.Messages.{message_in}
use Rattle.rex_cluster.specs.Records.{known}
use Rattle.rex_cluster.specs.Node.{Message, Service, is_active}
use Rattle.rex_cluster.specs.Calls.{ask, begin, replay, say}
use Rattle.rex_cluster.specs.Values.{Value, service_of}
use Rattle.rex_cluster.specs.Lanes.{Here, CallHere, lane_turn, no_limits, submit_request}
use Rattle.rex_cluster.specs.Releases.{IsAmong}
use Rattle.rex_cluster.proofs.Replies.{SaysHere, StandsIn, cut_tells, quietly, replies_stand, submit_says, turn_says}
use Rattle.rex_cluster.proofs.Saying.{Quiet, elect_says, quiet_none, receive_says, replay_says}
use Rattle.rex_safety.proofs.Staying.{active_up, cut_up, elect_up, receive_up, submit_up}
use Rattle.rex_node.specs.declared.step.Step.{Step}
use Rattle.rex_node.specs.Calls.{call_of}
use Rattle.rex_node.specs.Parts.{here_of}
use Rattle.rex_processes.specs.Processes.{Task, armed_after, call_for}
use Rattle.rex_processes.specs.Processes.Task.{Elect as ToElect, Submit as ToSubmit, Turn as ToTurn, Cut as ToCut, Hear as ToHear, Ask as ToAsk}
use Rattle.rex_frames.specs.declared.asking.Asked.{Asked}
use Rattle.rex_frames.specs.declared.asking.Asked.TheVariants.{Elect, Submit, Run, Turn, Cut, Hear, Foretell, Ask, Read, Look, Nothing}
use Rattle.rex_process.specs.declared.answers.Answer.{Answer}
use Rattle.rex_process.specs.declared.answers.Answer.TheVariants.{Did, Unfit}
use Rattle.rex_process.specs.Coming.{Comes}
use Rattle.rex_process.specs.Process.{ProcessValue, Answers, ComesTo, call_in, caught_up, here, is_behind, task_in}
use Rattle.rex_serve.specs.Answering.{Answered}
use Rattle.rex_serve.specs.Standing.{step_in, step_of}
use Rattle.rex_serve.proofs.There.{IsThere}

module _ (service : Declarations) (good : IsService service) (checked : IsChecked service) (seed n m : ℕ) where
  abbrev sv : Service Value StateValue
  sv = service_of service seed

  -- a node that is active is up; and what it says that it released stands in what it knows, and it is active
  pub record IsRight (d : CallHere) : Type 0 where
    pub says : SaysHere service good checked seed n m d
    pub up : is_active d.node.role ≡ true → d.node.up ≡ true

  elect_right : (d : CallHere) → Quiet d.effects → d.node.up ≡ true → IsRight (call_for service seed n m ToElect d)
  elect_right d q u = record { says = elect_says n sv m (StandsIn service good checked) (replies_stand service good checked) d q; up = (elect_up n sv m d u).at }

  submit_right : (d : CallHere) → Quiet d.effects → d.node.up ≡ true → (r : Request) → RequestFits service r
      → IsRight (call_for service seed n m (ToSubmit r) d)
  submit_right d q u r fits = record {
    says = submit_says service good checked seed n m (r ∷ []) (All-cons (RequestFits service) r [] fits (All-nil (RequestFits service))) 0 d q;
    up = (active_up service seed n m (is_active d.node.role) d (submit_request service (Some r) d) u (submit_up service seed n m (Some r) d u)).at;
  }

  turn_right : (d : CallHere) → Quiet d.effects → d.node.up ≡ true → (lane reads : ℕ) → IsRight (call_for service seed n m (ToTurn lane reads) d)
  turn_right d q u lane reads = record {
    says = turn_says service good checked seed n m reads lane d q;
    up = (active_up service seed n m (is_active d.node.role) d (lane_turn service reads lane d) u (record { at = λ t. u })).at;
  }

  cut_right : (d : CallHere) → Quiet d.effects → d.node.up ≡ true → IsRight (call_for service seed n m ToCut d)
  cut_right d q u = record { says = cut_tells service good checked seed n m (no_limits service d.node) d q; up = (cut_up service seed n m (no_limits service d.node) d u).at }

  hear_right : (d : CallHere) → Quiet d.effects → d.node.up ≡ true → (x : Message Value) → IsRight (call_for service seed n m (ToHear x) d)
  hear_right d q u x =
      record { says = receive_says n sv m (StandsIn service good checked) (replies_stand service good checked) x.from x.content d q; up = (receive_up n sv m x.from x.content d u).at }

  ask_right : (d : CallHere) → Quiet d.effects → d.node.up ≡ true → (other : ℕ) → IsRight (call_for service seed n m (ToAsk other) d)
  ask_right d q u other = record { says = quietly service good checked seed n m (ask m other d) q; up = λ t. u }

  -- so it is after it caught up
  caught_right : (d : CallHere) → IsRight d → IsRight (caught_up m d)
  caught_right d h = by (is_behind d.node) refl
    where
      all : CallHere
      all = record d { node = record d.node { replayed = length (known d.node.log) }; effects = d.effects ++ effect.Replayed m (length (known d.node.log)) ∷ [] }

      replay_up : d.node.up ≡ true → (t : Bool) → (if t then say (effect.UpToDate m) d else all).node.up ≡ true
      replay_up u true = u
      replay_up u false = u

      idle : is_behind d.node ≡ true → is_active d.node.role ≡ false
      idle e = not_true (is_active d.node.role)
          (and_parts (not (is_active d.node.role)) (nat_lt d.node.replayed (length (known d.node.log))) (and_parts d.node.up (not (is_active d.node.role) && nat_lt d.node.replayed (length (known d.node.log))) e).1).0
        where
          not_true : (b : Bool) → not b ≡ true → b ≡ false
          not_true true k = absurd cc
          not_true false k = refl

      quiet : is_behind d.node ≡ true → Quiet d.effects
      quiet e c s x k = absurd (false≢true (sym (idle e) ∙ (h.says.each c s x k).0))

      by : (t : Bool) → is_behind d.node ≡ t → IsRight (if t then replay m d else d)
      by false e = h
      by true e = record {
        says = replay_says n sv m (StandsIn service good checked) (replies_stand service good checked) d (quiet e);
        up = λ t. replay_up (and_parts d.node.up (not (is_active d.node.role) && nat_lt d.node.replayed (length (known d.node.log))) e).0 (is_active d.node.role || d.node.replayed == length (known d.node.log));
      }

-- ---- what a process tells

module _ {K : Type 0} (records : K → List (List ℕ)) (faults : K → ℕ) (p q : ProcessValue K) (up : p.node.up ≡ true) (good : IsService p.service) (checked : IsChecked p.service) where
  abbrev own : Here
  own = here_of records p.service [] q.node

  -- what it reports that it released stands in what its node knows then, which is up and active
  abbrev pub IsTrueOf : List Effect → Type 0
  IsTrueOf effects = (c s : ℕ) (x : ℤ) → IsAmong (effect.Released c s x) effects → (q.node.up ≡ true) × (is_active own.role ≡ true) × StandsIn p.service good checked (known own.log) c s x

  abbrev Right : CallHere → Type 0
  Right d = IsRight p.service good checked p.node.seed p.node.nodes p.node.id d

  right_true : (step : Step) → Right (call_of records p.service [] q.node step) → IsTrueOf step.effects
  right_true step h c s x among = let r = h.says.each c s x among in (h.up r.0, r.0, r.1)

  task_true : (task : Task) (step : Step) → ((d : CallHere) → Quiet d.effects → d.node.up ≡ true → Right (call_in p task d))
      → ComesTo records faults p q task step → IsTrueOf step.effects
  task_true task step right c = right_true step (by c.came)
    where
      by : Comes records faults p.service (task_in p task) p.node q.node step → Right (call_of records p.service [] q.node step)
      by (goes, inl h) = subst Right (sym h.is) (caught_right p.service good checked p.node.seed p.node.nodes p.node.id _ (right (begin (here records p)) quiet_none up))
      by (goes, inr h) = subst Right (sym h.is) (caught_right p.service good checked p.node.seed p.node.nodes p.node.id _ (right (armed_after h.before h.kept (begin (here records p))) quiet_none up))

  answers_true : (task : Task) (a : Answer) → ((d : CallHere) → Quiet d.effects → d.node.up ≡ true → Right (call_in p task d))
      → Answers records faults p q task a → IsTrueOf (step_of a).effects
  answers_true task (Did step) right c = task_true task step right c
  answers_true task Unfit right c = λ k s x among. absurd among

  -- whatever it answers
  pub answered_true : (asked : Asked) (out : List ℕ) → IsThere p.service p.node.id p.node.nodes asked → (h : Answered records faults p q asked out)
      → IsTrueOf (step_in records faults p q asked out h).effects
  answered_true Elect out fits h = answers_true ToElect h.outcome (λ d k u. elect_right p.service good checked p.node.seed p.node.nodes p.node.id d k u) h.came
  answered_true (Submit request) out fits h = task_true (ToSubmit request) h.outcome (λ d k u. submit_right p.service good checked p.node.seed p.node.nodes p.node.id d k u request fits) h.came
  answered_true (Run clock) out fits h = λ c s x among. absurd among
  answered_true (Turn lane clock) out fits h = task_true (ToTurn lane h.came.reads) h.outcome (λ d k u. turn_right p.service good checked p.node.seed p.node.nodes p.node.id d k u lane h.came.reads) h.came.comes
  answered_true Cut out fits h = task_true ToCut h.outcome (λ d k u. cut_right p.service good checked p.node.seed p.node.nodes p.node.id d k u) h.came
  answered_true (Hear message) out fits h =
      answers_true (ToHear (message_in [] message)) h.outcome (λ d k u. hear_right p.service good checked p.node.seed p.node.nodes p.node.id d k u (message_in [] message)) h.came
  answered_true (Foretell message) out fits h = λ c s x among. absurd among
  answered_true (Ask to) out fits h = task_true (ToAsk to) h.outcome (λ d k u. ask_right p.service good checked p.node.seed p.node.nodes p.node.id d k u to) h.came
  answered_true (Read client variable seen) out fits h = λ c s x among. absurd among
  answered_true Look out fits h = λ c s x among. absurd among
  answered_true Nothing out fits h = λ c s x among. absurd among
