-- What is known of an active node's clients numbers their replies as the values do.
use Rattle.rex_node.proofs.Common.{◌≡◌, ℕ, suc, ◌+◌, ◌<◌, ◌≤◌, Bool, true, false, cond, List, [], ◌∷◌, ◌++◌, length, take, drop, Option, Some, None, refl, sym, ap, subst, ◌∙◌, arith, ℤ, slice_index_or, unwrap_or, lt-ltb, length-take-le, entry_at, replies_to, AnswersValue, answers_at, noting, Value, events_of, last_reply, length_push, NumbersReplies, last_held}
use Rattle.std.proofs.Common.{max}
use Rattle.std.proofs.lemmas.List.{take-append-drop}
use Rattle.rex_state.specs.declared.lane.Entry.{Entry}
use Rattle.rex_gate.specs.Numbers.{next_number, stamp_of_state}
use Rattle.rex_gate.specs.Noted.{stamp_of}
use Rattle.rex_gate.proofs.Stamps.{noted_number, numbered_long, state_long, state_stamp}
use Rattle.rex_cluster.proofs.LastReplies.{last_most, last_push, last_append, first_or_rest}

-- ---- one value more

module _ {values : List Value} {a : AnswersValue} (h : NumbersReplies values a) (few : length values < 65535) (v : Value) where
  next : next_number a.count ≡ suc (length values)
  next = ap next_number h.count ∙ ap (λ t. cond t (suc (length values)) (length values)) (lt-ltb (length values) 4294967295 (omega (arith, few)))

  stamp_next : {client : ℕ} → client ≤ 256 → (t : Bool) → 0 < unwrap_or (cond t (Some (suc (length values))) (stamp_of a client)) 0
      → unwrap_or (cond t (Some (suc (length values))) (stamp_of a client)) 0 ≡ max (last_reply client 1 values) (cond t (1 + length values) 0)
  stamp_next {client} l true some = let m = last_most client 0 values in omega (arith, m)
  stamp_next {client} l false some = let s = h.stamps client l some in omega (arith, s)

  pub noted_next : NumbersReplies (values ++ v ∷ []) (noting a (events_of v))
  noted_next = record {
    clients = numbered_long (next_number a.count) a.numbers (events_of v) ∙ h.clients;
    count = next ∙ sym (length_push values v);
    stamps = λ client l some.
        ap (λ o. unwrap_or o 0) (told client l)
        ∙ stamp_next l _ (subst (λ o. 0 < unwrap_or o 0) (told client l) some)
        ∙ sym (last_push client 1 values v);
  }
    where
      told : (client : ℕ) → client ≤ 256 → stamp_of (noting a (events_of v)) client ≡ cond (replies_to client (events_of v)) (Some (suc (length values))) (stamp_of a client)
      told client l =
          noted_number _ client a.numbers (events_of v) (let many = h.clients in omega (arith, l, many))
          ∙ ap (λ k. cond (replies_to client (events_of v)) (Some k) (stamp_of a client)) next

-- ---- a node that is active from here on

-- a state says of no reply in which value it is
pub stamped_in : {values : List Value} {clients : List Entry} → length clients ≡ 257 → NumbersReplies values (answers_at clients (length values))
stamped_in {values} {clients} many = record {
  clients = state_long clients ∙ many;
  count = refl;
  stamps = λ client l some. absurd (none client l some);
}
  where
    zero_of : (o : Option ℤ) → unwrap_or (stamp_of_state o).number 0 ≡ 0
    zero_of None = refl
    zero_of (Some value) = refl

    none : (client : ℕ) → client ≤ 256 → 0 < unwrap_or (stamp_of (answers_at clients (length values)) client) 0 → ⊥
    none client l some =
        let z = ap (λ o. unwrap_or o 0) (state_stamp clients client (omega (arith, l, many))) ∙ zero_of (entry_at clients client).reply in
        omega (arith, some, z)

-- ---- the values that are held

-- where the values that aren't held are no more than the offset it doesn't matter which of them has a reply
pub held_last : {offset : ℕ} (values : List Value) (client : ℕ) → offset ≤ length values → last_held offset (drop offset values) client ≡ max (last_reply client 1 values) offset
held_last {offset} values client low =
    let long : length (take offset values) ≡ offset = length-take-le offset values low in
    let most = last_most client 0 (take offset values) in
    let parts : last_reply client 1 values ≡ max (last_reply client 1 (take offset values)) (last_reply client (suc offset) (drop offset values)) =
    ap (last_reply client 1) (sym (take-append-drop offset values))
    ∙ last_append client 1 (take offset values) (drop offset values)
    ∙ ap (λ k. max (last_reply client 1 (take offset values)) (last_reply client k (drop offset values))) (let m : 1 + length (take offset values) ≡ suc offset = omega (arith, long) in m) in
    omega (arith, long, most, parts)

-- ---- values looked at from the last one back

-- from the value after so many on none replies to the client
abbrev pub IsSilent : ℕ → ℕ → List Value → ℕ → Type 0
IsSilent client offset values n = last_reply client (suc offset + n) (drop n values) ≡ 0

rest_silent : (client offset : ℕ) (values : List Value) (i : ℕ) → IsSilent client offset values (suc i) → last_reply client (suc (suc offset + i)) (drop (suc i) values) ≡ 0
rest_silent client offset values i silent = ap (λ k. last_reply client k (drop (suc i) values)) (let m : suc (suc offset + i) ≡ suc offset + suc i = omega arith in m) ∙ silent

-- the last one that replies
pub found_last : (client offset : ℕ) (values : List Value) {i : ℕ} (d : Value) → i < length values → replies_to client (events_of (slice_index_or values i d)) ≡ true → IsSilent client offset values (suc i) → suc (offset + i) ≡ last_held offset values client
found_last client offset values {i} d l some silent =
    let before : length (take i values) ≡ i = length-take-le i values (omega (arith, l)) in
    let most = last_most client offset (take i values) in
    let rest : last_reply client (suc (suc offset + i)) (drop (suc i) values) ≡ 0 = rest_silent client offset values i silent in
    let from : last_reply client (suc offset + i) (drop i values) ≡ max (suc offset + i) (last_reply client (suc (suc offset + i)) (drop (suc i) values)) =
    first_or_rest client (suc offset + i) values i d l
    ∙ ap (λ t. max (cond t (suc offset + i) 0) (last_reply client (suc (suc offset + i)) (drop (suc i) values))) some in
    let parts : last_reply client (suc offset) values ≡ max (last_reply client (suc offset) (take i values)) (last_reply client (suc offset + i) (drop i values)) =
    ap (last_reply client (suc offset)) (sym (take-append-drop i values))
    ∙ last_append client (suc offset) (take i values) (drop i values)
    ∙ ap (λ k. max (last_reply client (suc offset) (take i values)) (last_reply client (suc offset + k) (drop i values))) before in
    omega (arith, before, most, rest, from, parts)
