-- The last delta with a client's reply: what stands in a trace stands in the front up to it.
use Rattle.std.proofs.Common.{◌≡◌, ℕ, zero, suc, ◌+◌, ◌≤◌, max, Bool, true, false, cond, ◌||◌, List, [], ◌∷◌, ◌++◌, take, drop, refl, sym, ◌∙◌, ap, subst, arith, le_trans, append_assoc, eq-eqb}
use Rattle.std.specs.Prelude.{ℤ}
use Rattle.std.proofs.Math.Nat.{le-max_left, le-max_right}
use Rattle.std.proofs.lemmas.Bool.{false≢true}
use Rattle.std.proofs.lemmas.List.{take-append-drop}
use Rattle.rex_event.specs.declared.event.Event.{Event}
use Rattle.rex_event.specs.declared.event.Kind.{Kind}
use Rattle.rex_event.specs.declared.event.Kind.TheVariants.{Reply}
use Rattle.rex_cluster.specs.Values.{Value, events_of, trace_of}
use Rattle.rex_gate.specs.Numbers.{is_reply_to, replies_to}
use Rattle.rex_cluster.specs.Reading.{last_reply}
use Rattle.rex_cluster.specs.Stands.{Replies, Stands}
use Rattle.rex_cluster.specs.Invariant.{Begins}
use Rattle.rex_cluster.proofs.Fronts.{begins_cons}
use Rattle.rex_cluster.proofs.Replies.{trace_both}

-- ---- events that reply to a client

reply_is : (client : ℕ) (value : ℤ) (kind : Kind) → Replies client value kind → is_reply_to client kind ≡ true
reply_is client value (Reply c v) h = eq-eqb c client h.0
reply_is client value _ h = absurd h

or_false : (a b c : Bool) → (a || b) ≡ false → (b ≡ false → c ≡ false) → (a || c) ≡ false
or_false true b c h k = absurd (false≢true (sym h))
or_false false b c h k = k h

or_true : (a b : Bool) → b ≡ true → (a || b) ≡ true
or_true true b h = refl
or_true false b h = h

replies_either : (client : ℕ) (es fs : List Event) → replies_to client es ≡ false → replies_to client fs ≡ false → replies_to client (es ++ fs) ≡ false
replies_either client [] fs h k = k
replies_either client (e ∷ es) fs h k = or_false (is_reply_to client e.kind) (replies_to client es) (replies_to client (es ++ fs)) h (λ g. replies_either client es fs g k)

reply_within : (client : ℕ) (front : List Event) (e : Event) (later : List Event) → is_reply_to client e.kind ≡ true → replies_to client (front ++ e ∷ later) ≡ true
reply_within client [] e later r = ap (λ (b : Bool). b || replies_to client later) r
reply_within client (x ∷ front) e later r = or_true (is_reply_to client x.kind) (replies_to client (front ++ e ∷ later)) (reply_within client front e later r)

heads : {a b : Event} {xs ys : List Event} → a ∷ xs ≡ b ∷ ys → a ≡ b
heads e = cc

tails : {a b : Event} {xs ys : List Event} → a ∷ xs ≡ b ∷ ys → xs ≡ ys
tails e = cc

cons : {a b : Event} {xs ys : List Event} → a ≡ b → xs ≡ ys → a ∷ xs ≡ b ∷ ys
cons e h = cc

-- a reply in a list whose end has none is in its front
reply_in_front : (client : ℕ) (es fs front : List Event) (e : Event) (later : List Event) → es ++ fs ≡ front ++ e ∷ later → is_reply_to client e.kind ≡ true → replies_to client fs ≡ false → (rest : List Event) × (es ≡ front ++ e ∷ rest)
reply_in_front client [] fs front e later p r none = absurd (false≢true (sym none ∙ (ap (replies_to client) p ∙ reply_within client front e later r)))
reply_in_front client (x ∷ es) fs [] e later p r none = (es, cons (heads p) refl)
reply_in_front client (x ∷ es) fs (y ∷ front) e later p r none =
    let h = reply_in_front client es fs front e later (tails p) r none in
    (h.0, cons (heads p) h.1)

stands_before : (es fs : List Event) (client sequence : ℕ) (value : ℤ) → replies_to client fs ≡ false → Stands (es ++ fs) client sequence value → Stands es client sequence value
stands_before es fs client sequence value none h = record {
  before = h.before;
  begin = h.begin;
  between = h.between;
  reply = h.reply;
  later = found.0;
  parts = found.1 ∙ append_assoc h.before (h.begin ∷ h.between) (h.reply ∷ found.0);
  begins = h.begins;
  quiet = h.quiet;
  replies = h.replies;
}
  where
    found : (rest : List Event) × (es ≡ (h.before ++ h.begin ∷ h.between) ++ h.reply ∷ rest)
    found =
        reply_in_front client es fs (h.before ++ h.begin ∷ h.between) h.reply h.later (h.parts ∙ sym (append_assoc h.before (h.begin ∷ h.between) (h.reply ∷ h.later)))
        (reply_is client value h.reply.kind h.replies) none

-- ---- values

drop_none : (vs : List Value) → drop zero vs ≡ vs
drop_none [] = refl
drop_none (v ∷ vs) = refl

-- a value whose number is above the last one with a reply has none
none_here : (client number : ℕ) (v : Value) (rest : ℕ) → max (cond (replies_to client (events_of v)) (suc number) 0) rest ≤ number → replies_to client (events_of v) ≡ false
none_here client number v rest l = go (replies_to client (events_of v)) l
  where
    go : (t : Bool) → max (cond t (suc number) 0) rest ≤ number → t ≡ false
    go false h = refl
    go true h = let low = le_trans (le-max_left (suc number) rest) h in absurd (omega (arith, low))

-- no value past the last one with a reply has one
none_later : (client number k : ℕ) (vs : List Value) → last_reply client (suc number) vs ≤ number + k → replies_to client (trace_of (drop k vs)) ≡ false
none_later client number zero [] l = refl
none_later client number (suc k) [] l = refl
none_later client number zero (v ∷ vs) l =
    let low : max (cond (replies_to client (events_of v)) (suc number) 0) (last_reply client (suc (suc number)) vs) ≤ number = le_trans l (omega arith) in
    let rest : last_reply client (suc (suc number)) vs ≤ suc number + zero = le_trans (le_trans (le-max_right (cond (replies_to client (events_of v)) (suc number) 0) (last_reply client (suc (suc number)) vs)) low) (omega arith) in
    replies_either client (events_of v) (trace_of vs) (none_here client number v (last_reply client (suc (suc number)) vs) low)
    (subst (λ (us : List Value). replies_to client (trace_of us) ≡ false) (drop_none vs) (none_later client (suc number) zero vs rest))
none_later client number (suc k) (v ∷ vs) l =
    none_later client (suc number) k vs (le_trans (le-max_right (cond (replies_to client (events_of v)) (suc number) 0) (last_reply client (suc (suc number)) vs)) (le_trans l (omega arith)))

-- what stands in a trace stands in the front up to the last reply of its client
pub stands_front : (vs : List Value) (k client sequence : ℕ) (value : ℤ) → last_reply client 1 vs ≤ k → Stands (trace_of vs) client sequence value → Stands (trace_of (take k vs)) client sequence value
stands_front vs k client sequence value l h =
    stands_before (trace_of (take k vs)) (trace_of (drop k vs)) client sequence value (none_later client 0 k vs (le_trans l (omega arith)))
    (subst (λ (es : List Event). Stands es client sequence value) (sym (ap trace_of (take-append-drop k vs)) ∙ trace_both (take k vs) (drop k vs)) h)

-- ---- fronts of lists of values

pub begins_take : (xs ys : List Value) (j k : ℕ) → Begins xs ys → j ≤ k → Begins (take j xs) (take k ys)
begins_take [] ys zero k b l = (take k ys, refl)
begins_take [] ys (suc j) k b l = (take k ys, refl)
begins_take (x ∷ xs) ys zero k b l = (take k ys, refl)
begins_take (x ∷ xs) [] (suc j) k b l = absurd (cc (b.1))
begins_take (x ∷ xs) (y ∷ ys) (suc j) zero b l = absurd (omega arith)
begins_take (x ∷ xs) (y ∷ ys) (suc j) (suc k) b l = begins_cons (take j xs) (take k ys) (first b.1) (begins_take xs ys j k (b.0, others b.1) (omega arith))
  where
    first : {a c : Value} {us vs : List Value} → a ∷ us ≡ c ∷ vs → a ≡ c
    first e = cc

    others : {a c : Value} {us vs : List Value} → a ∷ us ≡ c ∷ vs → us ≡ vs
    others e = cc
