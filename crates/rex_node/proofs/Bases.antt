-- The state at its base is what a node tells that doesn't hold the values any more.
use Rattle.rex_node.proofs.Common.{◌≡◌, ℕ, ◌≤◌, List, [], ◌++◌, take, length, sym, ap, ◌∙◌, subst, arith, le_trans, length-append, take-append-le, All-cons, All-nil, Declarations, IsService, IsChecked, IsSound, run_keeps, start_keeps, IsLimited, Content, start_of, run, base, known, Snapshot, answer, answer_base, send, Begins, Value, trace_of, first, content_in, first_take, Draft, NodeValue, IsUp, here_of, Sends, TellsBase, answering, so_far, AreTold, IsTold}
use Rattle.rex_msg.specs.declared.message.Content.TheVariants as sent
use Rattle.rex_log.proofs.Pasts.{state_told}
use Rattle.rex_node.specs.Telling.{TellsState}
use Rattle.rex_node.proofs.Appended.{logged_of}
use Rattle.rex_node.proofs.Recorded.{sends_to}
use Rattle.rex_node.proofs.Saved.{front_limited}

module _ {K : Type 0} (records : K → List (List ℕ)) {service : Declarations} {past : List Value} {x : NodeValue K} (u : IsUp service x (here_of records service past x)) (begins : Begins (known (here_of records service past x).log) past) where
  -- its base is among what it knows, and the past has that
  based : x.base ≤ length (known (here_of records service past x).log)
  based = subst (λ n. n ≤ length (known (here_of records service past x).log)) (sym u.base) (le_trans u.replayed.based u.replayed.replayed)

  pub base_there : x.base ≤ length past
  base_there = let l = length-append (known (here_of records service past x).log) begins.0 in let b = based in omega (arith, l, ap (λ vs. length vs) begins.1)

  -- the message says what the model's does
  content_is : (snapshot : List ℕ) → content_in past (sent.Snapshot x.base snapshot) ≡ Snapshot (take (base (here_of records service past x).log) (known (here_of records service past x).log))
  content_is snapshot = state_told past _ x.base snapshot begins based ∙ ap (λ n. Snapshot (take n (known (here_of records service past x).log))) u.base

  pub tells_base : {before after : Draft} {to : ℕ} → TellsBase service x to before after → so_far records service past x after ≡ answer_base x.id to (so_far records service past x before)
  tells_base {before} {after} {to} t =
      sends_to records service past x before after to _ t.sends
      ∙ ap (λ c. send (so_far records service past x before) (answer x.id to c)) (content_is t.snapshot)

  -- and its state is the one to which these values run
  pub base_told : {before after : Draft} {to : ℕ} (t : TellsBase service x to before after) → TellsState service past x.base t.snapshot
  base_told t = record {
    state = x.start;
    spelled = t.spelled;
    version = t.version;
    leads = ap (λ vs. run service (start_of service) (trace_of vs)) front ∙ u.start;
    there = base_there;
    short = t.short;
  }
    where
      front : first x.base past ≡ take x.base x.known
      front = first_take x.base past base_there ∙ taken ∙ ap (λ vs. take x.base vs) (sym u.known)
        where
          taken : take x.base past ≡ take x.base (known (here_of records service past x).log)
          taken = ap (λ vs. take x.base vs) (sym begins.1) ∙ take-append-le x.base (known (here_of records service past x).log) begins.0 based

-- ---- messages that tell no state, or one rightly

module _ (service : Declarations) (past : List Value) (before after : Draft) (from to : ℕ) (content : Content) where
  -- a call that sends one message tells what this tells
  pub one_told : before.sends.items ≡ [] → Sends before after (answering from to content) → IsTold service past content → AreTold service past after.sends.items
  one_told none s told =
      let only : after.sends.items ≡ answering from to content = s.sends_are ∙ ap (λ ms. ms ++ answering from to content) none in
      subst (AreTold service past) (sym only) (All-cons (λ m. IsTold service past m.content) (record { from = from; to = to; content = content }) [] told (All-nil (λ m. IsTold service past m.content)))

module _ {K : Type 0} (records : K → List (List ℕ)) {service : Declarations} (past : List Value) {x : NodeValue K} (u : IsUp service x (here_of records service past x)) where
  -- the state at the base is sound, and has a spelling
  pub start_sound : IsService service → IsChecked service → IsSound service x.start
  start_sound good checked = run_keeps service _ x.start _ good (start_keeps service good checked) u.start

  pub start_limited : IsService service → IsChecked service → IsLimited x.start
  start_limited good checked = front_limited records past u good checked (logged_of records service past x u).few u.start

  pub base_tells : Begins (known (here_of records service past x).log) past → {before after : Draft} {to : ℕ} → before.sends.items ≡ [] → TellsBase service x to before after → AreTold service past after.sends.items
  base_tells begins {before} {after} {to} none t = one_told service past before after x.id to _ none t.sends (base_told records u begins t)
