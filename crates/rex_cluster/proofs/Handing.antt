-- What waits, what is sent, and what is told, as messages are handed over one after the other.
use Rattle.std.proofs.Common.{◌≡◌, ℕ, zero, suc, ◌+◌, ◌-◌, ◌<◌, Bool, true, false, List, [], ◌∷◌, ◌++◌, length, drop, get_or, refl, sym, ◌∙◌, ap, subst, arith, append_assoc, append-nil, add-zero, add-one, length-append, replicate}
use Rattle.std.specs.Prelude.{if◌then◌else◌, slice_set}
use Rattle.std.specs.List.{list_all}
use Rattle.std.proofs.Math.Seq.{drop-append_seam, drop-cons, get_or-append_seam, set-append_seam}
use Rattle.std.proofs.lemmas.Grind.{replicate_next}
use Rattle.std.proofs.lemmas.List.{length-replicate}
use Rattle.std.proofs.lemmas.Option.{slice_get-get_or}
use Rattle.rex_syntax.specs.declared.request.Request.{Request}
use Rattle.rex_syntax.specs.declared.service.Declarations.{Declarations}
use Rattle.rex_report.specs.declared.effect.Effect.{Effect}
use Rattle.rex_report.specs.declared.effect.Effect.TheVariants.{Sent}
use Rattle.rex_schedule.specs.declared.scenario.ScheduleLine.{ScheduleLine}
use Rattle.rex_schedule.specs.declared.scenario.ScheduleLine.TheVariants.{Deliver}
use Rattle.rex_cluster.specs.Node.{Message, kind_of}
use Rattle.rex_cluster.specs.Node.Content.{Ask}
use Rattle.rex_cluster.specs.Lanes.{CallHere}
use Rattle.rex_cluster.specs.Values.{Value}
use Rattle.rex_cluster.specs.World.{World, deliver_found, if_up, node_at, sent_from, step, steps, waiting_from, with_handed}

-- ---- what was sent

-- what was sent after other messages is told under the numbers after theirs
pub sent_both : (number : ℕ) (xs ys : List (Message Value)) → sent_from number (xs ++ ys) ≡ sent_from number xs ++ sent_from (number + length xs) ys
sent_both number [] ys = ap (λ k. sent_from k ys) (sym (add-zero number))
sent_both number (x ∷ xs) ys =
    let e : suc number + length xs ≡ number + suc (length xs) = omega arith in
    ap (λ es. Sent number (kind_of x.content) x.from x.to ∷ es) (sent_both _ xs ys ∙ ap (λ k. sent_from (suc number) xs ++ sent_from k ys) e)

-- what a world has sent that the other one had not
abbrev pub sent_since : List (Message Value) → List (Message Value) → List Effect
sent_since before after = sent_from (suc (length before)) (drop (length before) after)

sent_two : (ms s t : List (Message Value)) → sent_since ms ((ms ++ s) ++ t) ≡ sent_since ms (ms ++ s) ++ sent_since (ms ++ s) ((ms ++ s) ++ t)
sent_two ms s t =
    let n : suc (length ms) + length s ≡ suc (length (ms ++ s)) = omega (arith, length-append ms s) in
    ap (λ xs. sent_since ms xs) (append_assoc ms s t)
    ∙ ap (λ xs. sent_from (suc (length ms)) xs) (drop-append_seam ms (s ++ t))
    ∙ sent_both _ s t
    ∙ ap (λ k. sent_from (suc (length ms)) s ++ sent_from k t) n
    ∙ ap (λ xs. sent_from (suc (length ms)) xs ++ sent_from (suc (length (ms ++ s))) t) (sym (drop-append_seam ms s))
    ∙ ap (λ xs. sent_since ms (ms ++ s) ++ sent_from (suc (length (ms ++ s))) xs) (sym (drop-append_seam (ms ++ s) t))

-- messages were sent behind those before
pub record SentMore (before after : List (Message Value)) : Type 0 where
  pub more : List (Message Value)
  pub is : after ≡ before ++ more

pub sent_parts : {a b c : List (Message Value)} → SentMore a b → SentMore b c → sent_since a c ≡ sent_since a b ++ sent_since b c
sent_parts {a} {b} g h =
    subst (λ z. sent_since a z ≡ sent_since a b ++ sent_since b z) (sym h.is)
    (subst (λ y. sent_since a (y ++ h.more) ≡ sent_since a y ++ sent_since y (y ++ h.more)) (sym g.is) (sent_two a g.more h.more))

pub grows_both : {a b c : List (Message Value)} → SentMore a b → SentMore b c → SentMore a c
grows_both {a} g h = record { more = g.more ++ h.more; is = h.is ∙ ap (λ xs. xs ++ h.more) g.is ∙ append_assoc a g.more h.more }

-- ---- which messages wait

pub waiting_more : (k : ℕ) (xs : List Bool) (b : Bool) → waiting_from k (xs ++ b ∷ []) ≡ waiting_from k xs ++ (if b then [] else (k + length xs) ∷ [])
waiting_more k [] true = refl
waiting_more k [] false = ap (λ m. m ∷ []) (sym (add-zero k))
waiting_more k (true ∷ xs) b =
    let e : suc k + length xs ≡ k + suc (length xs) = omega arith in
    waiting_more (suc k) xs b ∙ ap (λ m. waiting_from (suc k) xs ++ (if b then [] else m ∷ [])) e
waiting_more k (false ∷ xs) b =
    let e : suc k + length xs ≡ k + suc (length xs) = omega arith in
    ap (λ ns. k ∷ ns) (waiting_more (suc k) xs b ∙ ap (λ m. waiting_from (suc k) xs ++ (if b then [] else m ∷ [])) e)

-- none of those that were handed over
pub none_wait : (k : ℕ) (xs : List Bool) → list_all (λ (b : Bool). b) xs ≡ true → waiting_from k xs ≡ []
none_wait k [] h = refl
none_wait k (true ∷ xs) h = none_wait (suc k) xs h
none_wait k (false ∷ xs) h = absurd (cc)

pub all_are : (xs : List Bool) → list_all (λ (b : Bool). b) xs ≡ true → xs ≡ replicate (length xs) true
all_are [] h = refl
all_are (true ∷ xs) h = ap (λ ys. true ∷ ys) (all_are xs h)
all_are (false ∷ xs) h = absurd (cc)

pub are_all : (k : ℕ) → list_all (λ (b : Bool). b) (replicate k true) ≡ true
are_all zero = refl
are_all (suc k) = are_all k

-- ---- the messages up to a place were handed over

-- those below the place were handed over, and of the others those that were before, or that were sent since
pub record IsFront (place : ℕ) (before after : List Bool) : Type 0 where
  pub more : List Bool
  pub is : after ≡ replicate place true ++ (drop place before ++ more)

module _ {place : ℕ} {before after : List Bool} (inside : place < length before) (f : IsFront place before after) where
  front_at : after ≡ replicate place true ++ (get_or before place true ∷ (drop (suc place) before ++ f.more))
  front_at = f.is ∙ ap (λ xs. replicate place true ++ (xs ++ f.more)) (drop-cons before place true inside)

  pub same_at : get_or after place true ≡ get_or before place true
  same_at =
      ap (λ xs. get_or xs place true) front_at
      ∙ subst (λ k. get_or (replicate place true ++ (get_or before place true ∷ (drop (suc place) before ++ f.more))) k true ≡ get_or before place true) (length-replicate place true)
      (get_or-append_seam (replicate place true) (get_or before place true) (drop (suc place) before ++ f.more) true)

  next_front : (more : List Bool) → replicate place true ++ (true ∷ (drop (suc place) before ++ more)) ≡ replicate (place + 1) true ++ (drop (place + 1) before ++ more)
  next_front more =
      sym (append_assoc (replicate place true) (true ∷ []) (drop (suc place) before ++ more))
      ∙ ap (λ xs. xs ++ (drop (suc place) before ++ more)) (sym (replicate_next place true))
      ∙ ap (λ k. replicate (place + 1) true ++ (drop k before ++ more)) (sym (add-one place))

  -- it had been handed over
  pub front_true : get_or before place true ≡ true → IsFront (place + 1) before after
  front_true e = record { more = f.more; is = front_at ∙ ap (λ b. replicate place true ++ (b ∷ (drop (suc place) before ++ f.more))) e ∙ next_front f.more }

  -- it is handed over, and others are sent
  pub front_set : {later : List Bool} (more : List Bool) → later ≡ slice_set after place true ++ more → IsFront (place + 1) before later
  front_set more e = record {
    more = f.more ++ more;
    is = e ∙ ap (λ xs. slice_set xs place true ++ more) front_at
        ∙ ap (λ xs. xs ++ more)
        (subst (λ k. slice_set (replicate place true ++ (get_or before place true ∷ (drop (suc place) before ++ f.more))) k true ≡ replicate place true ++ (true ∷ (drop (suc place) before ++ f.more))) (length-replicate place true)
        (set-append_seam (replicate place true) (get_or before place true) (drop (suc place) before ++ f.more) true))
        ∙ append_assoc (replicate place true) (true ∷ (drop (suc place) before ++ f.more)) more
        ∙ ap (λ xs. replicate place true ++ (true ∷ xs)) (append_assoc (drop (suc place) before) f.more more)
        ∙ next_front _;
  }

-- ---- one more message

-- what a call of a node leaves of the messages
pub record Leaves (handed : List Bool) (messages : List (Message Value)) (v : World) : Type 0 where
  pub more : List Bool
  pub handed-is : v.handed ≡ handed ++ more
  pub grows : SentMore messages v.messages

up_leaves : (t : Bool) (w : World) (m : ℕ) (d : CallHere) → Leaves w.handed w.messages (if_up t w m d).world
up_leaves true w m d = record { more = replicate (length d.sends) false; handed-is = refl; grows = record { more = d.sends; is = refl } }
up_leaves false w m d = record { more = []; handed-is = sym (append-nil w.handed); grows = record { more = []; is = sym (append-nil w.messages) } }

module _ (service : Declarations) (requests : List Request) (seed n : ℕ) where
  pub deliver_leaves : (w : World) {place : ℕ} → place < length w.messages → Leaves (slice_set w.handed place true) w.messages (step service requests seed n w (Deliver (suc place))).world
  deliver_leaves w {place} l =
      let x : Message Value = get_or w.messages place (record { from = 0; to = 0; content = Ask 0 }) in
      let e : suc place - 1 ≡ place = omega arith in
      subst (λ k. Leaves (slice_set w.handed k true) w.messages (step service requests seed n w (Deliver (suc place))).world) e
      (subst (λ o. Leaves (slice_set w.handed (suc place - 1) true) w.messages (deliver_found service seed n w (suc place) o).world)
      (sym (slice_get-get_or w.messages place (record { from = 0; to = 0; content = Ask 0 }) l))
      (up_leaves (node_at w.nodes x.to).up (with_handed w (suc place)) x.to _))

  -- ---- steps one after the other

  pub steps_world : (w : World) (xs ys : List ScheduleLine) → (steps service requests seed n w (xs ++ ys)).world ≡ (steps service requests seed n (steps service requests seed n w xs).world ys).world
  steps_world w [] ys = refl
  steps_world w (x ∷ xs) ys = steps_world (step service requests seed n w x).world xs ys

  pub steps_effects : (w : World) (xs ys : List ScheduleLine)
      → (steps service requests seed n w (xs ++ ys)).effects ≡ (steps service requests seed n w xs).effects ++ (steps service requests seed n (steps service requests seed n w xs).world ys).effects
  steps_effects w [] ys = refl
  steps_effects w (x ∷ xs) ys =
      let v : World = (step service requests seed n w x).world in
      ap (λ es. (step service requests seed n w x).effects ++ es) (steps_effects v xs ys)
      ∙ sym (append_assoc (step service requests seed n w x).effects (steps service requests seed n v xs).effects (steps service requests seed n (steps service requests seed n v xs).world ys).effects)
