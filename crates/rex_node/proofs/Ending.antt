-- How a call that came to its end answers, and what it leaves.
use Rattle.rex_node.proofs.Common.{◌≡◌, ℕ, ◌<◌, ◌≤◌, true, ◌⊎◌, inl, inr, List, [], ◌∷◌, ◌++◌, length, Result, Ok, Err, Some, None, refl, sym, ap, subst, ◌∙◌, arith, length-append, map, IfOk, OnErr, false≢true, same_Some, AllocError, most_nodes, Declarations, Effect, Answer, Failed, down_node, After, IsAmong, begin, Value, CallHere, Going, On, Down, Refusal, Draft, Step, message_in, log_of, HasDecoded, NodeValue, IsUp, IsResting, IsSame, Stands, StaysResting, fallen, here_of, whole, Does, EndsDown, StopsShort, armed_with, call_of, last_of, BreaksOff, Ends, Finishes, IsStuck, Leads, so_far}
use Rattle.std.proofs.lemmas.List.{append_cancel_left}
use Rattle.rex_msg.specs.declared.message.Message.{Message}
use Rattle.rex_report.specs.declared.effect.Effect.TheVariants as effect
use Rattle.rex_traits.specs.Chains.{AppendsInTurn}
use Rattle.rex_log.specs.Log.{first as front_of}
use Rattle.rex_node.specs.Calls.{IsGivenUp, Leaves}
use Rattle.rex_node.proofs.Appended.{IsLogged, call_at, Beside, logged_of, beside_of, up_of}
use Rattle.rex_node.proofs.Grows.{later_none}
use Rattle.rex_cluster.proofs.CallLaws.{IsQuiet}

-- ---- lists

pub no_messages : (past : List Value) (ms : List Message) → map (message_in past) ms ≡ [] → ms ≡ []
no_messages past [] e = refl
no_messages past (m ∷ ms) e = absurd (cc)

last_push : (es : List Effect) {e : Effect} → last_of (es ++ e ∷ []) ≡ Some e
last_push [] = refl
last_push (x ∷ []) = refl
last_push (x ∷ y ∷ es) {e} = last_push (y ∷ es)

last_among : (es : List Effect) {e : Effect} → last_of es ≡ Some e → IsAmong e es
last_among [] h = absurd (cc)
last_among (x ∷ []) {e} h = inl (same_Some x e h)
last_among (x ∷ y ∷ es) {e} h = inr (last_among (y ∷ es) h)

-- ---- another keeper

-- a node is kept with another keeper of the same records
pub node_with_keeper : {K : Type 0} {records : K → List (List ℕ)} {service : Declarations} {past : List Value} {x : NodeValue K} {k : K} → records k ≡ records x.keeper → IsResting records service past x → IsResting records service past (record x { keeper = k })
node_with_keeper {records} {service} {past} {x} {k} same h = record { id = h.id; few = h.few; up = λ t. up (h.up t); reached = h.reached; decoded = h.decoded; rests = h.rests }
  where
    up : IsUp service x (here_of records service past x) → IsUp service (record x { keeper = k }) (here_of records service past (record x { keeper = k }))
    up u =
        let l : IsLogged service x (log_of service past (records k)) = subst (λ kept. IsLogged service x (log_of service past kept)) (sym same) (logged_of records service past x u) in
        let b : Beside records service past x = beside_of records service past x u in
        up_of records service past (record x { keeper = k })
        (record { promised = l.promised; accepted = l.accepted; offset_is = l.offset_is; low = l.low; known = l.known; base = l.base; old_base = l.old_base; few = l.few; start = l.start; short = l.short; fits = l.fits; numbers = l.numbers })
        (record { based = b.based; replayed = b.replayed; ahead = b.ahead; caught_up = b.caught_up; proposer = b.proposer; acting = b.acting; stamped = b.stamped; role = b.role })

-- ---- the end of a public call

-- a call begins with nothing done
pub begins : {K : Type 0} (records : K → List (List ℕ)) (service : Declarations) (past : List Value) (x : NodeValue K) (first : Draft) → first.effects.items ≡ [] → first.sends.items ≡ [] → so_far records service past x first ≡ begin (here_of records service past x)
begins records service past x first e s =
    ap (λ es. call_at (here_of records service past x) (map (message_in past) first.sends.items) es) e
    ∙ ap (λ ms. call_at (here_of records service past x) (map (message_in past) ms) []) s

module _ {K : Type 0} (records : K → List (List ℕ)) (gives : K → List ℕ → Answer → K → Type 0) (faults : K → ℕ) (service : Declarations) (past : List Value) (call : CallHere → CallHere) (x y z : NodeValue K) (before : ℕ) (first draft : Draft) where
  -- what is known of a call that came to its end
  pub record HasCome (end : Result Going AllocError) (result : Result Step Refusal) : Type 0 where
    pub node : IsResting records service past x
    pub up : x.up ≡ true
    pub many : before ≡ length (records x.keeper)
    pub effects : first.effects.items ≡ []
    pub sends : first.sends.items ≡ []
    pub ends : IfOk end (Ends records gives faults service past call x y first draft)
    pub stuck : OnErr end (IsStuck records gives faults service past call x y first)
    pub same : IsSame x y
    pub finishes : Finishes records before draft end y z result

  -- its step is what the draft was in the end
  comes_to : {step : Step} → z ≡ y → step.effects ≡ draft.effects.items → step.sends ≡ draft.sends.items → so_far records service past y draft ≡ call_of records service past z step
  comes_to {step} same effects sends =
      ap (λ n. so_far records service past n draft) (sym same)
      ∙ ap (λ es. record { node = here_of records service past z; sends = map (message_in past) draft.sends.items; effects = es }) (sym effects)
      ∙ ap (λ ms. record { node = here_of records service past z; sends = map (message_in past) ms; effects = step.effects }) (sym sends)

  -- a call that went well is this one of the model with no failure
  call_well : Leads records gives faults service call (λ d. d) x.keeper y.keeper (so_far records service past x first) (so_far records service past y draft) → call (so_far records service past x first) ≡ so_far records service past y draft
  call_well l = ap (λ f. call (armed_with f (so_far records service past x first))) (sym (later_none l.written)) ∙ l.comes None

  told_in : (end : Result Going AllocError) (result : Result Step Refusal) → HasCome end result → IfOk result (Does records gives faults service past call x z)
  told_in (Ok On) (Ok step) h =
      let l = h.ends.0.0 in
      inl (record {
        written = l.written;
        appends = subst (λ n. AppendsInTurn gives x.keeper l.written (Ok tt) n.keeper) (sym h.finishes.0) l.appends;
        grown = ap (λ n. records n.keeper) h.finishes.0 ∙ l.grown;
        counted = ap (λ n. faults n.keeper) h.finishes.0 ∙ l.counted;
        stated = l.stated;
        many = ap (λ n. length (log_of service past (records n.keeper))) h.finishes.0 ∙ l.many;
        is = ap call (sym (begins records service past x first h.effects h.sends)) ∙ call_well l ∙ comes_to h.finishes.0 h.finishes.1 h.finishes.2;
      })
  told_in (Ok Down) (Ok step) h =
      let f = h.ends.0.0.fails in
      inr (record {
        written = f.written;
        bytes = f.bytes;
        kept = f.kept;
        between = f.between;
        appends = f.appends;
        fails = subst (λ n. gives f.between f.bytes (Err Failed) n.keeper) (sym h.finishes.0) f.fails;
        grown = ap (λ n. records n.keeper) h.finishes.0 ∙ f.grown;
        counted = subst (λ n. faults x.keeper < faults n.keeper) (sym h.finishes.0) f.counted;
        stated = f.stated;
        many = ap (λ n. length (log_of service past (records n.keeper))) h.finishes.0 ∙ f.many;
        is = ap (λ d. call (armed_with (Some (After (length f.written) f.kept)) d)) (sym (begins records service past x first h.effects h.sends)) ∙ f.is ∙ comes_to h.finishes.0 h.finishes.1 h.finishes.2;
      })
  told_in end (Err refusal) h = tt
  told_in (Err e) (Ok step) h = absurd h.finishes

  down_in : (end : Result Going AllocError) (result : Result Step Refusal) → HasCome end result → IsQuiet (call (begin (here_of records service past x))).effects → IfOk result (EndsDown x.id (faults x.keeper) (faults z.keeper) z.up)
  down_in (Ok On) (Ok step) h quiet =
      let l = h.ends.0.0 in
      let same : faults z.keeper ≡ faults x.keeper = ap (λ n. faults n.keeper) h.finishes.0 ∙ l.counted in
      let effects : (call (begin (here_of records service past x))).effects ≡ step.effects = ap (λ d. d.effects) (ap call (sym (begins records service past x first h.effects h.sends)) ∙ call_well l) ∙ sym h.finishes.1 in
      record {
        down = λ more. absurd (omega arith);
        only = λ last. absurd (quiet x.id (subst (IsAmong (effect.Down x.id)) (sym effects) (last_among _ last)));
        quiet = λ more. absurd (omega arith);
        falls = λ more. absurd (omega arith);
      }
  down_in (Ok Down) (Ok step) h quiet =
      let f = h.ends.0.0 in
      record {
        down = λ more. ap last_of (h.finishes.1 ∙ f.told) ∙ last_push f.front;
        only = λ last. subst (λ n. faults x.keeper < faults n.keeper) (sym h.finishes.0) f.fails.counted;
        quiet = λ more. h.finishes.2 ∙ no_messages past _ f.quiet;
        falls = λ more. ap (λ n. n.up) h.finishes.0 ∙ h.ends.0.1.down;
      }
  down_in end (Err refusal) h quiet = tt
  down_in (Err e) (Ok step) h quiet = absurd h.finishes

  -- where memory was short nothing has changed, or the call has broken off and the node has fallen
  short : IsStuck records gives faults service past call x y first → before ≡ length (records x.keeper) → (before < length (records y.keeper) → z ≡ fallen y) → (length (records y.keeper) ≤ before → z ≡ y)
      → Stands records faults gives x z ⊎ ((z ≡ fallen y) × BreaksOff records gives faults service past call x y first)
  short (inl s) many fell stands = inl (subst (Stands records faults gives x) (sym (stands (omega (arith, many, ap length s.records)))) s)
  short (inr b) many fell stands = inr (fell (omega (arith, many, ap length b.stops.grown, length-append (records x.keeper) b.stops.written, b.stops.some)), b)

  pub gives_up : z ≡ fallen y → so_far records service past x first ≡ begin (here_of records service past x) → BreaksOff records gives faults service past call x y first → IsGivenUp records gives faults service past call x z
  gives_up fell starts b =
      subst (IsGivenUp records gives faults service past call x) (sym fell) (record {
        stops = subst (λ d. StopsShort records gives faults service call x.keeper y.keeper d (log_of service past (records y.keeper))) starts b.stops;
        down = ap (λ n. record (down_node (log_of service past (records y.keeper)) None) { replayed = n }) b.based;
      })

  pub left_short : {e : AllocError} {refusal : Refusal} → HasCome (Err e) (Err refusal) → Stands records faults gives x z ⊎ IsGivenUp records gives faults service past call x z
  left_short h = by (short h.stuck h.many h.finishes.1 h.finishes.2)
    where
      by : Stands records faults gives x z ⊎ ((z ≡ fallen y) × BreaksOff records gives faults service past call x y first) → Stands records faults gives x z ⊎ IsGivenUp records gives faults service past call x z
      by (inl s) = inl s
      by (inr b) = inr (gives_up b.0 (begins records service past x first h.effects h.sends) b.1)

  kept_short : IsResting records service past x → IsSame x y → Stands records faults gives x z ⊎ ((z ≡ fallen y) × BreaksOff records gives faults service past call x y first) → StaysResting records service past x z
  kept_short n s (inl t) = subst (StaysResting records service past x) (sym t.parts) (record { same = record { id = refl; nodes = refl; seed = refl; decoded = refl }; kept = node_with_keeper t.records n })
  kept_short n s (inr b) = subst (StaysResting records service past x) (sym b.0) (record { same = record { id = s.id; nodes = s.nodes; seed = s.seed; decoded = s.decoded }; kept = down_kept })
    where
      down_kept : IsResting records service past (fallen y)
      down_kept = record {
        id = subst (λ i. (0 < i) × (i ≤ y.nodes)) (sym s.id) (subst (λ m. (0 < x.id) × (x.id ≤ m)) (sym s.nodes) n.id);
        few = subst (λ m. m ≤ most_nodes) (sym s.nodes) n.few;
        up = λ t. absurd (false≢true t);
        reached = tt;
        decoded = subst (HasDecoded service) (sym s.decoded) n.decoded;
        rests = λ t. absurd (false≢true t);
      }

  kept_in : (end : Result Going AllocError) (result : Result Step Refusal) → HasCome end result → StaysResting records service past x z
  kept_in (Ok going) (Ok step) h = subst (StaysResting records service past x) (sym h.finishes.0) (record { same = h.same; kept = h.ends.1 })
  kept_in (Ok going) (Err refusal) h = absurd h.finishes
  kept_in (Err e) (Ok step) h = absurd h.finishes
  kept_in (Err e) (Err refusal) h = kept_short h.node h.same (short h.stuck h.many h.finishes.1 h.finishes.2)

-- ---- the same of a node that holds but some of the values

-- where nothing has changed of all that it knows, nothing has changed of what it holds
pub stands_own : {K : Type 0} {records : K → List (List ℕ)} {gives : K → List ℕ → Answer → K → Type 0} {faults : K → ℕ} (past : List Value) {x z : NodeValue K} → Stands records faults gives (whole past x) (whole past z) → Stands records faults gives x z
stands_own {records} {faults} past {x} {z} s = record {
  parts =
      ap (λ (n : NodeValue _). record n { known = z.known }) s.parts
      ∙ ap (λ (vs : List Value). record x { keeper = z.keeper; known = vs })
      (append_cancel_left (front_of x.offset past) z.known x.known (ap (λ (n : ℕ). front_of n past ++ z.known) (sym (ap (λ (n : NodeValue _). n.offset) s.parts)) ∙ ap (λ (n : NodeValue _). n.known) s.parts));
  records = s.records;
  faults = s.faults;
  short = s.short;
}

-- what a call leaves that came to its end
module _ {K : Type 0} (records : K → List (List ℕ)) (gives : K → List ℕ → Answer → K → Type 0) (faults : K → ℕ) (service : Declarations) (past : List Value) (call : CallHere → CallHere) (x y z : NodeValue K) (before : ℕ) (start draft : Draft) where
  left_in : (end : Result Going AllocError) (result : Result Step Refusal) → HasCome records gives faults service past call (whole past x) y (whole past z) before start draft end result → Leaves records gives faults service past call result x z
  left_in end (Ok step) h = tt
  left_in (Ok going) (Err refusal) h = absurd h.finishes
  left_in (Err e) (Err refusal) h =
      subst (λ r. Leaves {A = Step} records gives faults service past call (Err r) x z) (sym h.finishes.0)
      (by (left_short records gives faults service past call _ y _ before start draft h))
    where
      by : Stands records faults gives (whole past x) (whole past z) ⊎ IsGivenUp records gives faults service past call (whole past x) (whole past z) → Stands records faults gives x z ⊎ IsGivenUp records gives faults service past call x z
      by (inl s) = inl (stands_own past s)
      by (inr g) = inr (record { stops = g.stops; down = g.down })

-- ---- the same of a call that is known to have come to its end

module _ {K : Type 0} {records : K → List (List ℕ)} {gives : K → List ℕ → Answer → K → Type 0} {faults : K → ℕ} {service : Declarations} {past : List Value} {call : CallHere → CallHere} {x y z : NodeValue K} {before : ℕ} {first draft : Draft} {end : Result Going AllocError} {result : Result Step Refusal}
    (come : HasCome records gives faults service past call x y z before first draft end result) where
  pub told : IfOk result (Does records gives faults service past call x z)
  told = told_in _ _ _ _ _ _ _ _ _ _ _ _ end result come

  pub down : IsQuiet (call (begin (here_of records service past x))).effects → IfOk result (EndsDown x.id (faults x.keeper) (faults z.keeper) z.up)
  down = down_in _ gives _ _ _ _ _ _ _ _ _ _ end result come

  pub kept : StaysResting records service past x z
  kept = kept_in _ gives faults _ _ call _ y _ before first draft end result come

-- where the node holds but some of the values
pub left : {K : Type 0} {records : K → List (List ℕ)} {gives : K → List ℕ → Answer → K → Type 0} {faults : K → ℕ} {service : Declarations} {past : List Value} {call : CallHere → CallHere} (x z : NodeValue K) {y : NodeValue K} {before : ℕ} {start draft : Draft} {end : Result Going AllocError} {result : Result Step Refusal}
    → HasCome records gives faults service past call (whole past x) y (whole past z) before start draft end result → Leaves records gives faults service past call result x z
left x z come = left_in _ _ _ _ _ _ x _ z _ _ _ _ _ come
