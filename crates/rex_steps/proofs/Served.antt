-- A node that serves a call did the model's call.
use Rattle.std.proofs.Common.{◌≡◌, ℕ, Bool, true, false, List, [], ◌∷◌, length, map, zero, suc, ℤ, cond, OnOk, Result, Ok, Err, Option, Some, None, inl, inr, IfOk, OnErr, refl, sym, ◌∙◌, ap, ap₂, subst, arith, append-nil}
use Rattle.std.specs.Prelude.{◌==◌, ◌||◌, nat_lt, if◌then◌else◌}
use Rattle.std.specs.declared.alloc.AllocError.{AllocError}
use Rattle.std.proofs.lemmas.List.Elements.{All-nil}
use Rattle.rex_syntax.specs.declared.service.Declarations.{Declarations}
use Rattle.rex_syntax.specs.declared.request.Request.{Request}
use Rattle.rex_syntax.specs.declared.version.Version.{Version}
use Rattle.rex_state.specs.Value.{StateValue}
use Rattle.rex_cut.specs.Greatest.{greatest_cut}
use Rattle.rex_event.specs.Cuts.{below}
use Rattle.rex_gate.specs.declared.answer.Answer.{Answer as Answered}
use Rattle.rex_gate.specs.declared.answer.Answer.TheVariants as answer
use Rattle.rex_record.specs.declared.turns.Turn.{Turn}
use Rattle.rex_record.specs.declared.turns.Turn.TheVariants as turn
use Rattle.rex_report.specs.declared.effect.Effect.{Effect}
use Rattle.rex_report.specs.declared.effect.Effect.TheVariants as effect
use Rattle.rex_msg.specs.declared.message.Message.{Message}
use Rattle.rex_traits.specs.Chains.{Answer}
use Rattle.rex_cluster.specs.Node.{Failure, Role, Service, is_active, role_name}
use Rattle.rex_cluster.specs.Node.Failure.{After}
use Rattle.rex_cluster.specs.Node.Role.{Follower, Leads}
use Rattle.rex_cluster.specs.Records.{Rec, base, known, offset}
use Rattle.rex_cluster.specs.Calls.{append, begin, checkpoint, drop_known, replay, say}
use Rattle.rex_cluster.specs.Values.{Value}
use Rattle.rex_cluster.specs.Lanes as lanes
use Rattle.rex_cluster.specs.Lanes.{Here, CallHere}
use Rattle.rex_log.specs.Log.{log_of}
use Rattle.rex_log.specs.Messages.{message_in}
use Rattle.rex_node.specs.declared.refusal.Refusal.{Refusal}
use Rattle.rex_node.specs.declared.refusal.Refusal.TheVariants as why
use Rattle.rex_node.specs.declared.step.Step.{Step}
use Rattle.rex_node.specs.Calls.{Does, EndsDown, IsSpared, LeadsTo, Refuses, RefusesThen, call_of, if_up, last_of, refusal_active, refusal_of_lead, refusal_of_none, turn_at}
use Rattle.rex_node.specs.Calls as calls
use Rattle.rex_node.specs.Parts.{IsNode, NodeValue, here_of, knows}
use Rattle.rex_node.specs.Telling.{AreTold, IsTold}
use Rattle.rex_node.proofs.Ending.{no_messages}
use Rattle.rex_steps.specs.Steps.{Acts, IsRefused, IsStepOf, IsTelling, TellsOf, WasDown, effect_of}
use Rattle.rex_steps.specs.declared.serving.Call.{Call}
use Rattle.rex_steps.specs.declared.serving.Call.TheVariants as called
use Rattle.rex_steps.specs.Serving.{DoesCall, Serves, ServesIf, Spares, if_active}
use Rattle.rex_steps.proofs.Refusing.{Excused, acts_then, cut_excused, cut_late, nothing_below}

-- what refuses leaves as it was, and so whatever is made of it
pub spared_of : {A B C : Type 0} → (f : B → C) (result : Result A Refusal) (b c : B) → IsSpared result b c → IsSpared result (f b) (f c)
spared_of f (Ok x) b c same = tt
spared_of f (Err why.OutOfMemory) b c same = tt
spared_of f (Err why.Down) b c same = ap f same
spared_of f (Err (why.NotActive role)) b c same = ap f same
spared_of f (Err (why.Open i)) b c same = ap f same
spared_of f (Err why.Ended) b c same = ap f same
spared_of f (Err why.Nothing) b c same = ap f same
spared_of f (Err (why.Live many)) b c same = ap f same
spared_of f (Err why.UpToDate) b c same = ap f same
spared_of f (Err why.Spent) b c same = ap f same
spared_of f (Err (why.BadSnapshot at)) b c same = ap f same

abbrev err_of : Refusal → Result Step Refusal
err_of refusal = Err refusal

-- what is reported of a refusal is no fall
no_fall : (number id : ℕ) (refusal : Refusal) → ◌≡◌ {A = Option Effect} (Some (effect_of number refusal)) (Some (effect.Down id)) → ⊥
no_fall number id why.Down e = absurd (cc)
no_fall number id (why.NotActive role) e = absurd (cc)
no_fall number id (why.Open i) e = absurd (cc)
no_fall number id why.Ended e = absurd (cc)
no_fall number id why.Nothing e = absurd (cc)
no_fall number id (why.Live many) e = absurd (cc)
no_fall number id why.UpToDate e = absurd (cc)
no_fall number id why.Spent e = absurd (cc)
no_fall number id (why.BadSnapshot at) e = absurd (cc)
no_fall number id why.OutOfMemory e = absurd (cc)

-- a step that reports one effect, which is no fall, ends a call in which no append failed
quiet_end : (id faults : ℕ) (up : Bool) (e : Effect) (step : Step) → IsTelling e step → (◌≡◌ {A = Option Effect} (Some e) (Some (effect.Down id)) → ⊥) → EndsDown id faults faults up step
quiet_end id faults up e step tells none = record {
  down = λ l. absurd (omega arith);
  only = λ last. absurd (none (ap last_of (sym tells.effects) ∙ last));
  quiet = λ l. absurd (omega arith);
  falls = λ l. absurd (omega arith);
}

-- nor is what is reported of an answer, of a turn, and of a replay
pub answer_told : (r : Request) (id : ℕ) (x : Answered) → ◌≡◌ {A = Option Effect} (Some (lanes.effect_of r x)) (Some (effect.Down id)) → ⊥
answer_told r id answer.Queued e = absurd (cc)
answer_told r id answer.Waiting e = absurd (cc)
answer_told r id (answer.Released value) e = absurd (cc)
answer_told r id (answer.Old last) e = absurd (cc)
answer_told r id (answer.Gap expected) e = absurd (cc)

pub turn_told : (lane id : ℕ) (t : Turn) → ◌≡◌ {A = Option Effect} (Some (lanes.turn_effect lane t)) (Some (effect.Down id)) → ⊥
turn_told lane id (turn.Done event) e = absurd (cc)
turn_told lane id turn.Full e = absurd (cc)
turn_told lane id turn.Idle e = absurd (cc)
turn_told lane id (turn.Held by) e = absurd (cc)
turn_told lane id turn.Unsignalled e = absurd (cc)
turn_told lane id (turn.Zero semaphore) e = absurd (cc)
turn_told lane id turn.Unfit e = absurd (cc)

pub replay_told : (id : ℕ) (y : Here) → last_of (replay id (begin y)).effects ≡ Some (effect.Down id) → ⊥
replay_told id y e = by (is_active y.role || y.replayed == length (known y.log)) e
  where
    by : (b : Bool) → last_of (cond b (say (effect.UpToDate id) (begin y)) (record { node = record y { replayed = length (known y.log) }; sends = []; effects = effect.Replayed id (length (known y.log)) ∷ [] })).effects ≡ Some (effect.Down id) → ⊥
    by true f = absurd (cc)
    by false f = absurd (cc)

-- ---- calls that send nothing

if_silent : (t : Bool) (d e : CallHere) → d.sends ≡ [] → e.sends ≡ [] → (cond t d e).sends ≡ []
if_silent true d e a b = a
if_silent false d e a b = b

append_silent : (a : Option Failure) (me : ℕ) (r : Rec Value StateValue) (x : Here) (e : Effect) → (append a me r (begin x) (say e)).sends ≡ []
append_silent None me r x e = refl
append_silent (Some (After (suc before) kept)) me r x e = refl
append_silent (Some (After zero kept)) me r x e = refl

pub replay_sends : (me : ℕ) (x : Here) → (replay me (begin x)).sends ≡ []
replay_sends me x = if_silent (is_active x.role || x.replayed == length (known x.log)) _ _ refl refl

pub checkpoint_sends : (version : Version) (sv : Service Value StateValue) (me : ℕ) (x : Here) → (checkpoint version sv me (begin x)).sends ≡ []
checkpoint_sends version sv me x =
    if_silent (x.replayed == base x.log) _ _ refl (if_silent (nat_lt 0 (length x.work.live)) _ _ refl (append_silent x.armed me _ x _))

pub drop_sends : (me : ℕ) (x : Here) → (drop_known me (begin x)).sends ≡ []
drop_sends me x = if_silent (base x.log == offset x.log) _ _ refl (append_silent x.armed me _ x _)

-- ---- results

pub on_if_ok : {A B : Type 0} (P : Type 0) (result : Result A B) → OnOk result P → IfOk result (λ _. P)
on_if_ok P (Ok x) h = h
on_if_ok P (Err e) h = tt

-- what answers a refusal that is due answers no other one
pub refused_first : (due : Option Refusal) (result : Result Step Refusal) → Refuses due result → RefusesThen due None result
refused_first (Some refusal) result is = is
refused_first None (Ok step) is = refl
refused_first None (Err refusal) is = subst (λ (r : Refusal). RefusesThen None None (err_of r)) (sym is) tt

-- a node that is as it was is spared
pub spares_same : {K : Type 0} (call : Call) (x : NodeValue K) → Spares call x x
spares_same (called.Submit request) x = refl
spares_same (called.Lane lane clock) x = refl
spares_same (called.Ask other) x = refl
spares_same _ x = tt

module _ (service : Declarations) (before after : Here) (lane : ℕ) (clock : ℤ) (result : Result Turn Refusal) (told : IfOk result (λ (t : Turn). t ≡ turn_at service before lane clock)) where
  pub turn_effects : IfOk result (λ (t : Turn). lanes.turn_effect lane t ∷ [] ≡ (lanes.turned service lane (turn_at service before lane clock) (begin before)).effects)
  turn_effects = by result told
    where
      by : (r : Result Turn Refusal) → IfOk r (λ (t : Turn). t ≡ turn_at service before lane clock) → IfOk r (λ (t : Turn). lanes.turn_effect lane t ∷ [] ≡ (lanes.turned service lane (turn_at service before lane clock) (begin before)).effects)
      by (Ok t) h = ap (λ (u : Turn). lanes.turn_effect lane u ∷ []) h
      by (Err e) h = tt

  pub turn_node : IfOk result (λ (t : Turn). LeadsTo (lanes.turned service lane t) before after) → IfOk result (λ (t : Turn). after ≡ (lanes.turned service lane (turn_at service before lane clock) (begin before)).node)
  turn_node = by result told
    where
      by : (r : Result Turn Refusal) → IfOk r (λ (t : Turn). t ≡ turn_at service before lane clock) → IfOk r (λ (t : Turn). LeadsTo (lanes.turned service lane t) before after) → IfOk r (λ (t : Turn). after ≡ (lanes.turned service lane (turn_at service before lane clock) (begin before)).node)
      by (Ok t) h n = n ∙ ap (λ (u : Turn). (lanes.turned service lane u (begin before)).node) h
      by (Err e) h n = tt

-- ---- cuts

module _ {K : Type 0} (records : K → List (List ℕ)) (service : Declarations) (past : List Value) (old : NodeValue K) (node : IsNode records service past old) (up : old.up ≡ true) (counts : List ℕ) where
  abbrev it : Here
  it = here_of records service past old

  many : length (knows past old) ≡ length (known (here_of records service past old).log)
  many = ap length (node.up up).known

  pub cut_due : Excused (lanes.cut service old.seed old.nodes old.id counts (begin (here_of records service past old))) old.id (here_of records service past old) (calls.if_active (here_of records service past old).role (refusal_of_lead (here_of records service past old).role (length (knows past old))))
  cut_due =
      subst (λ (k : ℕ). Excused (lanes.cut service old.seed old.nodes old.id counts (begin it)) old.id it (calls.if_active it.role (refusal_of_lead it.role k))) (sym many)
      (cut_excused service old.seed old.nodes old.id counts it)

  pub cut_then : calls.if_active (here_of records service past old).role (refusal_of_lead (here_of records service past old).role (length (knows past old))) ≡ None
      → Excused (lanes.cut service old.seed old.nodes old.id counts (begin (here_of records service past old))) old.id (here_of records service past old) (refusal_of_none (below (greatest_cut counts (here_of records service past old).work.live) (here_of records service past old).work.live))
  cut_then due =
      cut_late service old.seed old.nodes old.id counts it _ (nothing_below service old.seed old.nodes old.id counts it _ _)
      (subst (λ (k : ℕ). calls.if_active it.role (refusal_of_lead it.role k) ≡ None) many due)

module _ {K : Type 0} (records : K → List (List ℕ)) (gives : K → List ℕ → Answer → K → Type 0) (faults : K → ℕ) (service : Declarations) (past : List Value) (old new : NodeValue K) where
  abbrev before : Here
  before = here_of records service past old

  abbrev after : Here
  after = here_of records service past new

  -- a step that reports one effect, and sends nothing
  telling : (e : Effect) (step : Step) → IsTelling e step → call_of records service past new step ≡ record { node = after; sends = []; effects = e ∷ [] }
  telling e step h = ap₂ (λ (ms : List Message) (es : List Effect). record { node = after; sends = map (message_in past) ms; effects = es }) h.sends h.effects

  -- a call that appends nothing, and comes to this step
  quiet : (call : CallHere → CallHere) (step : Step) → new.keeper ≡ old.keeper → call (begin before) ≡ call_of records service past new step → Does records gives faults service past call old new step
  quiet call step same is = inl (record {
    written = [];
    grown = ap records same ∙ sym (append-nil (records old.keeper));
    appends = (refl, same);
    counted = ap faults same;
    stated = refl;
    many = let e = ap (λ (k : K). length (log_of service past (records k))) same in omega (arith, e);
    is = is;
  })

  -- the same with the end of such a call
  quiet_call : (call : CallHere → CallHere) (e : Effect) (step : Step) → new.keeper ≡ old.keeper → IsTelling e step → (◌≡◌ {A = Option Effect} (Some e) (Some (effect.Down old.id)) → ⊥) → call (begin before) ≡ record { node = after; sends = []; effects = e ∷ [] } → DoesCall records gives faults service past call old new step
  quiet_call call e step same tells none is = record {
    does = quiet call step same (is ∙ sym (telling e step tells));
    ends = subst (λ (k : K). EndsDown old.id (faults old.keeper) (faults k) new.up step) (sym same) (quiet_end old.id (faults old.keeper) new.up e step tells none);
  }

  -- a refusal is what the model's call says
  refused : (call : CallHere → CallHere) (refusal : Refusal) (step : Step) → new ≡ old → IsRefused call old.id before after refusal → IsTelling (effect_of old.id refusal) step → DoesCall records gives faults service past call old new step
  refused call refusal step same h tells =
      quiet_call call (effect_of old.id refusal) step (ap (λ (x : NodeValue K). x.keeper) same) tells (no_fall old.id old.id refusal)
      (h.says ∙ ap (λ (x : Here). let d : CallHere = record { node = x; sends = []; effects = effect_of old.id refusal ∷ [] } in d) (sym h.same))

  module _ (call : CallHere → CallHere) (up : old.up ≡ true) (due late : Option Refusal) (says : Excused (call (begin before)) old.id before due) (later : due ≡ None → Excused (call (begin before)) old.id before late) where
    -- the call says what is reported of a refusal that is due
    acted : (refusal : Refusal) → RefusesThen (if_up old.up due) late (err_of refusal) → IsSpared (err_of refusal) old new → Acts past call old.id before after (Err refusal)
    acted refusal is left =
        acts_then past call old.id before after due late (err_of refusal) is (spared_of (here_of records service past) (err_of refusal) old new left) says later (λ _. tt)

    not_down : {P : Type 0} → WasDown before after → P
    not_down h = absurd (let no : true ≡ false = sym up ∙ h.down in cc)

    -- a step of what the node answered is one that the call comes to
    does_then : (step : Step) (result : Result Step Refusal) → RefusesThen (if_up old.up due) late result → IsSpared result old new → IfOk result (Does records gives faults service past call old new) → IfOk result (EndsDown old.id (faults old.keeper) (faults new.keeper) new.up) → IsStepOf old.id result (Ok step)
        → DoesCall records gives faults service past call old new step
    does_then step (Ok done) is left does ends tells = subst (DoesCall records gives faults service past call old new) (sym tells) (record { does = does; ends = ends })
    does_then step (Err why.OutOfMemory) is left does ends tells = absurd tells
    does_then step (Err why.Down) is left does ends tells = not_down (acted why.Down is left)
    does_then step (Err (why.NotActive role)) is left does ends tells = refused call (why.NotActive role) step left (acted (why.NotActive role) is left) tells
    does_then step (Err (why.Open i)) is left does ends tells = refused call (why.Open i) step left (acted (why.Open i) is left) tells
    does_then step (Err why.Ended) is left does ends tells = refused call why.Ended step left (acted why.Ended is left) tells
    does_then step (Err why.Nothing) is left does ends tells = refused call why.Nothing step left (acted why.Nothing is left) tells
    does_then step (Err (why.Live many)) is left does ends tells = refused call (why.Live many) step left (acted (why.Live many) is left) tells
    does_then step (Err why.UpToDate) is left does ends tells = refused call why.UpToDate step left (acted why.UpToDate is left) tells
    does_then step (Err why.Spent) is left does ends tells = refused call why.Spent step left (acted why.Spent is left) tells
    does_then step (Err (why.BadSnapshot at)) is left does ends tells = refused call (why.BadSnapshot at) step left (acted (why.BadSnapshot at) is left) tells

  -- a refusal tells no state
  step_told : (step : Step) (result : Result Step Refusal) → IfOk result (λ (s : Step). AreTold service past s.sends) → IsStepOf old.id result (Ok step) → AreTold service past step.sends
  step_told step (Ok done) told tells = subst (λ (s : Step). AreTold service past s.sends) (sym tells) told
  step_told step (Err refusal) told tells = by refusal tells
    where
      none : (e : Effect) → IsTelling e step → AreTold service past step.sends
      none e h = subst (AreTold service past) (sym h.sends) (All-nil (λ (m : Message). IsTold service past m.content))

      by : (refusal : Refusal) → IsStepOf old.id (err_of refusal) (Ok step) → AreTold service past step.sends
      by why.OutOfMemory h = absurd h
      by why.Down h = none (effect_of old.id why.Down) h
      by (why.NotActive role) h = none (effect_of old.id (why.NotActive role)) h
      by (why.Open i) h = none (effect_of old.id (why.Open i)) h
      by why.Ended h = none (effect_of old.id why.Ended) h
      by why.Nothing h = none (effect_of old.id why.Nothing) h
      by (why.Live many) h = none (effect_of old.id (why.Live many)) h
      by why.UpToDate h = none (effect_of old.id why.UpToDate) h
      by why.Spent h = none (effect_of old.id why.Spent) h
      by (why.BadSnapshot at) h = none (effect_of old.id (why.BadSnapshot at)) h

  -- it served the call
  pub serves_then : (call : CallHere → CallHere) (up : old.up ≡ true) (due late : Option Refusal) → Excused (call (begin before)) old.id before due → (due ≡ None → Excused (call (begin before)) old.id before late) → (result : Result Step Refusal)
      → RefusesThen (if_up old.up due) late result → IsSpared result old new → IfOk result (Does records gives faults service past call old new) → IfOk result (EndsDown old.id (faults old.keeper) (faults new.keeper) new.up) → IfOk result (λ (s : Step). AreTold service past s.sends)
      → (outcome : Result Step AllocError) → IsStepOf old.id result outcome → IfOk outcome (Serves records gives faults service past call old new)
  serves_then call up due late says later result is left does ends told (Err e) tells = tt
  serves_then call up due late says later result is left does ends told (Ok step) tells = record {
    serves = subst (λ (u : Bool). ServesIf u records gives faults service past call old new step) (sym up) (does_then call up due late says later step result is left does ends tells);
    tells = step_told step result told tells;
  }

  -- ---- what only an active node does

  module _ {A : Type 0} (f : A → Effect) (none : (x : A) → ◌≡◌ {A = Option Effect} (Some (f x)) (Some (effect.Down old.id)) → ⊥) (call : CallHere → CallHere) (sends : (call (begin before)).sends ≡ []) (up : old.up ≡ true) (same : new.keeper ≡ old.keeper) (step : Step) where
    idle : is_active before.role ≡ false → if_active call (begin before) ≡ say (effect.NotActive (role_name before.role)) (begin before)
    idle e = rw e refl

    busy : is_active before.role ≡ true → if_active call (begin before) ≡ call (begin before)
    busy e = rw e refl

    -- it isn't, and says so
    idles : is_active before.role ≡ false → new ≡ old → IsTelling (effect.NotActive (role_name before.role)) step → DoesCall records gives faults service past (if_active call) old new step
    idles e all tells =
        quiet_call (if_active call) (effect.NotActive (role_name before.role)) step same tells (λ d. absurd (cc))
        (idle e ∙ ap (λ (x : NodeValue K). let d : CallHere = record { node = here_of records service past x; sends = []; effects = effect.NotActive (role_name before.role) ∷ [] } in d) (sym all))

    -- it is, and did the call, which sends nothing and reports one effect
    works : (x : A) → is_active before.role ≡ true → IsTelling (f x) step → after ≡ (call (begin before)).node → f x ∷ [] ≡ (call (begin before)).effects → DoesCall records gives faults service past (if_active call) old new step
    works x e tells node effects =
        quiet_call (if_active call) (f x) step same tells (none x)
        (busy e
        ∙ ap (λ (ms : List _). let d : CallHere = record { node = (call (begin before)).node; sends = ms; effects = (call (begin before)).effects } in d) sends
        ∙ ap (λ (es : List Effect). let d : CallHere = record { node = (call (begin before)).node; sends = []; effects = es } in d) (sym effects)
        ∙ ap (λ (y : Here). let d : CallHere = record { node = y; sends = []; effects = f x ∷ [] } in d) (sym node))

    due_is : (role : Role Value) → calls.if_active role None ≡ (if is_active role then None else Some (why.NotActive (role_name role)))
    due_is Follower = refl
    due_is (Leads l) = refl

    -- want of memory leaves no step
    none_short : {P : Type 0} (refusal : Refusal) (outcome : Result Step Refusal) → refusal ≡ why.OutOfMemory → outcome ≡ err_of refusal → IsStepOf old.id outcome (Ok step) → P
    none_short refusal outcome short is told = absurd (subst (λ (r : Refusal). IsStepOf old.id (err_of r) (Ok step)) short (subst (λ (o : Result Step Refusal). IsStepOf old.id o (Ok step)) is told))

    by_active : (t : Bool) → is_active before.role ≡ t → (result : Result A Refusal) (outcome : Result Step Refusal) → Refuses (if t then None else Some (why.NotActive (role_name before.role))) result → IfOk result (λ x. f x ∷ [] ≡ (call (begin before)).effects) → IfOk result (λ x. after ≡ (call (begin before)).node) → OnErr result (new ≡ old) → TellsOf f result outcome → IsStepOf old.id outcome (Ok step)
        → DoesCall records gives faults service past (if_active call) old new step
    by_active true a (Ok x) (Ok s) is effects node left tell told = works x a (subst (IsTelling (f x)) (sym told) tell) node effects
    by_active true a (Ok x) (Err refusal) is effects node left tell told = none_short refusal (err_of refusal) tell refl told
    by_active true a (Err refusal) outcome is effects node left tell told = none_short refusal outcome is tell told
    by_active false a (Ok x) outcome is effects node left tell told = absurd (cc)
    by_active false a (Err refusal) outcome is effects node left tell told =
        let due : refusal ≡ why.NotActive (role_name before.role) = same_err refusal (why.NotActive (role_name before.role)) is in
        idles a left (subst (λ (r : Refusal). IsStepOf old.id (err_of r) (Ok step)) due (subst (λ (o : Result Step Refusal). IsStepOf old.id o (Ok step)) tell told))
      where
        same_err : (a b : Refusal) → ◌≡◌ {A = Result A Refusal} (Err a) (Err b) → a ≡ b
        same_err a b e = cc

    none_sent : (t : Result A Refusal) (outcome : Result Step Refusal) → TellsOf f t outcome → IsStepOf old.id outcome (Ok step) → AreTold service past step.sends
    none_sent t outcome tell told = step_told step outcome (by t outcome tell) told
      where
        sent : (e : Effect) (s : Step) → IsTelling e s → AreTold service past s.sends
        sent e s h = subst (AreTold service past) (sym h.sends) (All-nil (λ (m : Message). IsTold service past m.content))

        by : (t : Result A Refusal) (outcome : Result Step Refusal) → TellsOf f t outcome → IfOk outcome (λ (s : Step). AreTold service past s.sends)
        by (Ok x) (Ok s) h = sent (f x) s h
        by t (Err refusal) h = tt
        by (Err refusal) (Ok s) h = absurd (cc)

    does_active : (result : Result A Refusal) (outcome : Result Step Refusal) → Refuses (refusal_active before) result → IfOk result (λ x. f x ∷ [] ≡ (call (begin before)).effects) → IfOk result (λ x. after ≡ (call (begin before)).node) → OnErr result (new ≡ old) → TellsOf f result outcome → IsStepOf old.id outcome (Ok step)
        → DoesCall records gives faults service past (if_active call) old new step
    does_active result outcome is =
        by_active (is_active before.role) refl result outcome
        (subst (λ (due : Option Refusal). Refuses due result) (ap (λ (u : Bool). if_up u (calls.if_active before.role None)) up ∙ due_is before.role) is)

  -- it served such a call
  pub serves_active : {A : Type 0} (f : A → Effect) → ((x : A) → ◌≡◌ {A = Option Effect} (Some (f x)) (Some (effect.Down old.id)) → ⊥) → (call : CallHere → CallHere) → (call (begin before)).sends ≡ [] → old.up ≡ true → new.keeper ≡ old.keeper
      → (result : Result A Refusal) (outcome : Result Step Refusal) → Refuses (refusal_active before) result → IfOk result (λ x. f x ∷ [] ≡ (call (begin before)).effects) → IfOk result (λ x. after ≡ (call (begin before)).node) → OnErr result (new ≡ old) → TellsOf f result outcome
      → (told : Result Step AllocError) → IsStepOf old.id outcome told → IfOk told (Serves records gives faults service past (if_active call) old new)
  serves_active f none call sends up same result outcome is effects node left tell (Err e) told = tt
  serves_active f none call sends up same result outcome is effects node left tell (Ok step) told = record {
    serves = subst (λ (u : Bool). ServesIf u records gives faults service past (if_active call) old new step) (sym up) (does_active f none call sends up same step result outcome is effects node left tell told);
    tells = none_sent f none call sends up same step result outcome tell told;
  }

  -- ---- calls that send nothing, and that append nothing

  -- a step of a call that sends nothing tells no state
  pub silent_step : (call : CallHere → CallHere) (result : Result Step Refusal) → ((y : Here) → (call (begin y)).sends ≡ []) → IfOk result (Does records gives faults service past call old new) → IfOk result (λ (s : Step). AreTold service past s.sends)
  silent_step call (Err refusal) silent does = tt
  silent_step call (Ok step) silent does = subst (AreTold service past) (sym (no_messages past step.sends (none does))) (All-nil (λ (m : Message). IsTold service past m.content))
    where
      none : Does records gives faults service past call old new step → map (message_in past) step.sends ≡ []
      none (inl h) = ap (λ (d : CallHere). d.sends) (sym h.is) ∙ silent before
      none (inr h) = ap (λ (d : CallHere). d.sends) (sym h.is) ∙ silent (record before { armed = Some (After (length h.written) h.kept) })

  -- one that leaves the keeper as it was ends with its node up
  pub kept_ends : (call : CallHere → CallHere) (result : Result Step Refusal) → (last_of (call (begin before)).effects ≡ Some (effect.Down old.id) → ⊥) → new.keeper ≡ old.keeper → IfOk result (Does records gives faults service past call old new) → IfOk result (EndsDown old.id (faults old.keeper) (faults new.keeper) new.up)
  kept_ends call (Err refusal) none same does = tt
  kept_ends call (Ok step) none same does = record {
    down = λ l. absurd (let e = ap faults same in omega arith);
    only = λ last. absurd (ended does last);
    quiet = λ l. absurd (let e = ap faults same in omega arith);
    falls = λ l. absurd (let e = ap faults same in omega arith);
  }
    where
      ended : Does records gives faults service past call old new step → last_of step.effects ≡ Some (effect.Down old.id) → ⊥
      ended (inl h) last = none (ap (λ (d : CallHere). last_of d.effects) h.is ∙ last)
      ended (inr h) last = absurd (let l = h.counted in let e = ap faults same in omega arith)
