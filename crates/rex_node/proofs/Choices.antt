-- What a node does on a chosen value.
use Rattle.rex_node.proofs.Common.{◌≡◌, ℕ, suc, ◌<◌, ◌≤◌, true, List, [], ◌∷◌, ◌++◌, length, take, Option, None, refl, sym, ap, subst, ◌∙◌, arith, map, is_some, nat_lt, le-ltb, lt-ltb, lt-leb, le-leb, take-append-le, IsInstance, IsValue, Declarations, HasSpelling, IsDue, record_bytes, Answer, known, offset, Known, Failure, answer_base, append, follow, followed, on_chosen, say, send, tell, Begins, Value, values_fit, CallHere, length_push, Draft, On, Down, message_in, armed_with, Appends, IsStuck, RunsOn, Tells, TellsBase, so_far, log_of, standing_in, NodeValue, IsUp, IsResting, here_of, leaving, role_of, Ends, Rec, StateValue}
use Rattle.std.specs.Prelude.{cond}
use Rattle.std.proofs.lemmas.Bool.{eq-eqb}
use Rattle.rex_durable.specs.declared.records.Rec.TheVariants as kept
use Rattle.rex_report.specs.declared.effect.Effect.TheVariants as effect
use Rattle.rex_cluster.specs.Calls.{on_ask}
use Rattle.rex_node.proofs.Appended.{instance_fits, logged_of, logged_known, IsLogged}
use Rattle.rex_node.proofs.Bases.{tells_base}
use Rattle.rex_node.proofs.Following.{EndsWell, ends_same, far}
use Rattle.rex_node.proofs.Recorded.{recorded_stuck, recorded_down, follows_on, follows_to}

module _ {K : Type 0} {records : K → List (List ℕ)} (gives : K → List ℕ → Answer → K → Type 0) (faults : K → ℕ) {service : Declarations} {past : List Value} {x : NodeValue K} (node : IsResting records service past x) (up : x.up ≡ true) (before : Draft) {i : ℕ} {v : Value}
    (there : IsInstance i) (next : i ≡ suc (length x.known)) (short : IsValue v) (y : NodeValue K) (mid : Draft) where
  abbrev begun : CallHere
  begun = so_far records service past x before

  u : IsUp service x (here_of records service past x)
  u = node.up up

  abbrev chooses : CallHere → CallHere
  chooses = on_chosen x.id i v

  spelled : HasSpelling (kept.Known i v)
  spelled = record { in_range = (there, short) }

  next_here : i ≡ suc (length (known (here_of records service past x).log))
  next_here = next ∙ ap (λ vs. suc (length vs)) u.known

  due : IsDue (standing_in (log_of service past (records x.keeper))) (kept.Known i v)
  due = omega (arith, next_here)

  chosen_is : (f : Option Failure) → on_chosen x.id i v (armed_with f begun) ≡ append f x.id (Known i v) (armed_with f begun) (λ e. follow x.id (effect.Known x.id i ∷ []) e)
  chosen_is f =
      ap (λ t. cond t (append f x.id (Known i v) (armed_with f begun) (λ e. follow x.id (effect.Known x.id i ∷ []) e)) (say (effect.IgnoredInstance i (suc (length (known (here_of records service past x).log)))) (armed_with f begun)))
      (eq-eqb i (suc (length (known (here_of records service past x).log))) next_here)

  pub chosen_down : Appends records faults gives x y before mid (record_bytes (kept.Known i v)) Down
      → Ends records gives faults service past chooses x y before mid Down
  chosen_down h = recorded_down gives faults y before mid node up spelled due refl refl chosen_is h

  pub chosen_stuck : Appends records faults gives x y before mid (record_bytes (kept.Known i v)) On → {z : NodeValue K} → z.keeper ≡ y.keeper → z.base ≡ y.base → IsStuck records gives faults service past chooses x z before
  chosen_stuck h {z} keeper based = recorded_stuck gives faults y before mid node up spelled due refl refl chosen_is h (λ d. refl) keeper based

  -- the value fits behind those that are known
  pub chosen_fits : RunsOn service (on_chosen x.id i v) begun → values_fit service (x.known ++ v ∷ []) ≡ true
  chosen_fits runs =
      ap (λ vs. values_fit service (vs ++ v ∷ [])) u.known
      ∙ subst (λ d. values_fit service (known d.node.log) ≡ true) (chosen_is None) runs

  pub chosen_on : RunsOn service (on_chosen x.id i v) begun → Appends records faults gives x y before mid (record_bytes (kept.Known i v)) On → {z : NodeValue K} {after : Draft} → z ≡ record (leaving y) { known = y.known ++ v ∷ [] }
      → Tells mid after (effect.Known y.id i ∷ followed y.id (role_of y.acceptor y.proposer (is_some y.acting))) → EndsWell records gives faults service past x z before after chooses
  chosen_on runs h {z} {after} z_is t =
      follows_on gives faults y before mid node up spelled due refl refl h logged_here longer front z_here chosen_is after
      (λ f. refl)
      (follows_to gives faults y before mid node up spelled due refl refl h logged_here longer front z_here (λ j. effect.Known j i) t)
    where
      longer : length x.known ≤ length (x.known ++ v ∷ [])
      longer = omega (arith, length_push x.known v)

      front : (n : ℕ) → n ≤ length x.known → take n (x.known ++ v ∷ []) ≡ take n x.known
      front n l = take-append-le n x.known (v ∷ []) l

      z_here : z ≡ record (leaving x) { keeper = y.keeper; acceptor = x.acceptor; known = x.known ++ v ∷ [] }
      z_here = z_is ∙ ap (λ n. record (leaving n) { known = n.known ++ v ∷ [] }) h.0.parts

      logged_here : IsLogged service (record x { known = x.known ++ v ∷ [] }) (Known i v ∷ log_of service past (records x.keeper))
      logged_here = logged_known (logged_of records service past x u) next (instance_fits there) (chosen_fits runs)

-- ---- what a node is asked for

module _ {K : Type 0} {records : K → List (List ℕ)} (gives : K → List ℕ → Answer → K → Type 0) (faults : K → ℕ) {service : Declarations} {past : List Value} {x : NodeValue K} (node : IsResting records service past x) (up : x.up ≡ true) (before after : Draft) (from first : ℕ) where
  abbrev log : List (Rec Value StateValue)
  log = log_of service past (records x.keeper)

  abbrev armed : Option Failure → CallHere
  armed f = armed_with f (so_far records service past x before)

  -- what it does that holds the values from there on
  abbrev held : Option Failure → CallHere
  held f = cond (nat_lt (length (known log)) first) (say effect.Nothing (armed f)) (send (armed f) (take 64 (tell x.id from first 1 (known log))))

  -- so it does where they come after its offset
  holds : x.offset < first → (f : Option Failure) → on_ask x.id from first (armed f) ≡ held f
  holds late f = ap (λ t. cond t (answer_base x.id from (armed f)) (held f)) (lt-leb first (offset log) (subst (λ o. o < first) (node.up up).offset late))

  pub asked_on : x.offset < first → first ≤ length x.known → after.effects.items ≡ before.effects.items → map (message_in past) after.sends.items ≡ map (message_in past) before.sends.items ++ take 64 (tell x.id from first 1 x.known)
      → EndsWell records gives faults service past x x before after (on_ask x.id from first)
  asked_on late few effects sends =
      ends_same x before after refl node up
      (λ f. holds late f
      ∙ ap (λ t. cond t (say effect.Nothing (armed f)) (send (armed f) (take 64 (tell x.id from first 1 (known log)))))
      (le-ltb (length (known log)) first (omega (arith, few, ap length (node.up up).known)))
      ∙ ap (λ vs. send (armed f) (take 64 (tell x.id from first 1 vs))) (sym (node.up up).known)
      ∙ ap (armed_with f) (sym (far records service past x after effects sends)))

  -- it has no more than that
  pub asked_beyond : x.offset < first → length x.known < first → after.effects.items ≡ before.effects.items ++ effect.Nothing ∷ [] → after.sends.items ≡ before.sends.items → EndsWell records gives faults service past x x before after (on_ask x.id from first)
  asked_beyond late more effects sends =
      ends_same x before after refl node up
      (λ f. holds late f
      ∙ ap (λ t. cond t (say effect.Nothing (armed f)) (send (armed f) (take 64 (tell x.id from first 1 (known log)))))
      (lt-ltb (length (known log)) first (subst (λ vs. length vs < first) (node.up up).known more))
      ∙ ap (armed_with f) (sym (far records service past x after effects (ap (map (message_in past)) sends))))

  -- or it doesn't hold the values any more
  pub asked_old : Begins (known log) past → first ≤ x.offset → TellsBase service x from before after → EndsWell records gives faults service past x x before after (on_ask x.id from first)
  asked_old begins old t =
      ends_same x before after refl node up
      (λ f. ap (λ t. cond t (answer_base x.id from (armed f)) (held f)) (le-leb first (offset log) (subst (λ o. first ≤ o) (node.up up).offset old))
      ∙ ap (armed_with f) (sym (tells_base records (node.up up) begins t)))
