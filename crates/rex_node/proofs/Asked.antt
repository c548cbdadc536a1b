-- The chosen values that a node is asked for are told one after the other.
use Rattle.rex_node.proofs.Common.{◌≡◌, ℕ, ◌+◌, ◌-◌, ◌<◌, ◌≤◌, List, [], ◌∷◌, ◌++◌, length, get_or, take, refl, sym, ap, subst, ◌∙◌, arith, min, map, append-nil, append_assoc, map-append, All-append, All-cons, All-nil, Declarations, Value, Draft, message_in, Sends, answering, AreTold, IsTold, tell}
use Rattle.rex_msg.specs.declared.message.Message.{Message as Sent}
use Rattle.rex_cluster.proofs.Telling.{chose, take_none, told_next, told_all}
use Rattle.rex_msg.specs.declared.message.Content.TheVariants as sent

-- those up to a place were told, and no state
pub record HasTold (service : Declarations) (past : List Value) (me to first skipped place : ℕ) (known : List Value) (before now : Draft) : Type 0 where
  pub effects : now.effects.items ≡ before.effects.items
  pub sends : map (message_in past) now.sends.items ≡ map (message_in past) before.sends.items ++ take (place - skipped) (tell me to first 1 known)
  pub told : AreTold service past before.sends.items → AreTold service past now.sends.items

module _ (service : Declarations) (past : List Value) (me to : ℕ) {first skipped : ℕ} (skips : skipped ≡ first - 1) (known : List Value) (before : Draft) where
  pub told_first : HasTold service past me to first skipped skipped known before before
  told_first = record {
    effects = refl;
    sends = sym (append-nil (map (message_in past) before.sends.items)) ∙ ap (λ ms. map (message_in past) before.sends.items ++ ms) (sym (ap (λ n. take n (tell me to first 1 known)) (none skipped) ∙ take_none (tell me to first 1 known)));
    told = λ h. h;
  }
    where
      none : (n : ℕ) → n - n ≡ 0
      none n = omega arith

  -- and the next one
  pub told_more : {place : ℕ} {now after : Draft} {value : Value} → HasTold service past me to first skipped place known before now → skipped ≤ place → place < length known → value ≡ get_or known place []
      → Sends now after (answering me to (sent.Chosen (place + 1) value)) → HasTold service past me to first skipped (place + 1) known before after
  told_more {place} {now} {value} h l there is s = record {
    effects = s.effects_are ∙ h.effects;
    sends =
        ap (map (message_in past)) s.sends_are
        ∙ map-append (message_in past) now.sends.items (answering me to (sent.Chosen (place + 1) value))
        ∙ ap (λ ms. ms ++ chose me to first (place + 1) value ∷ []) h.sends
        ∙ append_assoc (map (message_in past) before.sends.items) (take (place - skipped) (tell me to first 1 known)) (chose me to first (place + 1) value ∷ [])
        ∙ ap (λ ms. map (message_in past) before.sends.items ++ ms) (told_next me to first known skips [] l there is);
    told = λ k. subst (AreTold service past) (sym s.sends_are) (All-append Told now.sends.items (answering me to (sent.Chosen (place + 1) value)) (h.told k) (All-cons Told (record { from = me; to = to; content = sent.Chosen (place + 1) value }) [] tt (All-nil Told)));
  }
    where
      Told : Sent → Type 0
      Told m = IsTold service past m.content

  -- in the end all were told that had to be
  pub told_end : {end : ℕ} {now : Draft} → HasTold service past me to first skipped end known before now → end ≡ min (length known) (skipped + 64) → skipped ≤ length known → map (message_in past) now.sends.items ≡ map (message_in past) before.sends.items ++ take 64 (tell me to first 1 known)
  told_end {end} h e l = h.sends ∙ ap (λ ms. map (message_in past) before.sends.items ++ ms) (told_all me to first known skips e l)

  pub told_none : {place : ℕ} {now : Draft} → HasTold service past me to first skipped place known before now → before.sends.items ≡ [] → AreTold service past now.sends.items
  told_none h none = h.told (subst (AreTold service past) (sym none) (All-nil (λ m. IsTold service past m.content)))
