-- The number of the last noted delta with a client's reply.
use Rattle.std.proofs.Common.{◌≡◌, ℕ, zero, suc, ◌+◌, ◌<◌, ◌≤◌, Bool, true, false, cond, ◌||◌, ◌⊎◌, List, [], ◌∷◌, ◌++◌, length, Option, Some, eqb, refl, sym, ◌∙◌, ap, subst, inl, inr, arith, eqb-true}
use Rattle.std.specs.Prelude.{slice_set}
use Rattle.std.proofs.lemmas.Bool.{false≢true, lt-ltb, eqb-false}
use Rattle.std.proofs.lemmas.List.{get_or-set_same, get_or-set_other, length-set}
use Rattle.rex_event.specs.declared.event.Event.{Event}
use Rattle.rex_event.specs.declared.event.Kind.{Kind}
use Rattle.rex_event.specs.declared.event.Kind.TheVariants.{Reply}
use Rattle.rex_event.specs.declared.delta.Delta.{Delta}
use Rattle.rex_state.specs.declared.lane.Entry.{Entry}
use Rattle.rex_state.specs.Machine.{entry_at}
use Rattle.rex_gate.specs.declared.numbers.Stamp.{Stamp}
use Rattle.rex_gate.specs.Numbers.{no_stamp, stamp_of_state, numbers_of_state, is_reply_to, replies_to, numbers_after, numbered, number_at, next_number}
use Rattle.rex_gate.specs.Noted.{AnswersValue, joined, answers_at, numbering, numbering_all, noting, noting_all, stamp_of}
use Rattle.rex_gate.specs.Laws.{HoldsLastReply, IsStamp, StampsAreOfLastReplies}

-- ---- one delta

after_long : (number : ℕ) (kind : Kind) (stamps : List Stamp) → length (numbers_after number kind stamps) ≡ length stamps
after_long number (Reply c value) stamps = length-set stamps c (record { number = Some number })
after_long number _ stamps = refl

pub numbered_long : (number : ℕ) (stamps : List Stamp) (es : List Event) → length (numbered number stamps es) ≡ length stamps
numbered_long number stamps [] = refl
numbered_long number stamps (e ∷ es) = numbered_long number (numbers_after number e.kind stamps) es ∙ after_long number e.kind stamps

set_number : (number c client : ℕ) (stamps : List Stamp) (t : Bool) → eqb c client ≡ t → client < length stamps
    → number_at (slice_set stamps c (record { number = Some number })) client ≡ cond t (Some number) (number_at stamps client)
set_number number c client stamps true e l =
    subst (λ k. number_at (slice_set stamps k (record { number = Some number })) client ≡ Some number) (sym (eqb-true c client e))
    (ap (λ (s : Stamp). s.number) (get_or-set_same stamps client (record { number = Some number }) no_stamp l))
set_number number c client stamps false e l = ap (λ (s : Stamp). s.number) (get_or-set_other stamps c client (record { number = Some number }) no_stamp (λ h. eqb-false c client e (sym h)))

after_number : (number client : ℕ) (kind : Kind) (stamps : List Stamp) → client < length stamps → number_at (numbers_after number kind stamps) client ≡ cond (is_reply_to client kind) (Some number) (number_at stamps client)
after_number number client (Reply c value) stamps l = set_number number c client stamps (eqb c client) refl l
after_number number client _ stamps l = refl

either_way : (t u : Bool) (x y : Option ℕ) → cond u x (cond t x y) ≡ cond (t || u) x y
either_way true true x y = refl
either_way true false x y = refl
either_way false u x y = refl

-- what a delta leaves
pub noted_number : (number client : ℕ) (stamps : List Stamp) (es : List Event) → client < length stamps → number_at (numbered number stamps es) client ≡ cond (replies_to client es) (Some number) (number_at stamps client)
noted_number number client stamps [] l = refl
noted_number number client stamps (e ∷ es) l =
    noted_number number client (numbers_after number e.kind stamps) es (subst (λ k. client < k) (sym (after_long number e.kind stamps)) l)
    ∙ (ap (λ o. cond (replies_to client es) (Some number) o) (after_number number client e.kind stamps l) ∙ either_way (is_reply_to client e.kind) (replies_to client es) (Some number) (number_at stamps client))

-- ---- deltas one after another

or_false : (a b c : Bool) → (a || b) ≡ false → (b ≡ false → c ≡ false) → (a || c) ≡ false
or_false true b c h k = absurd (false≢true (sym h))
or_false false b c h k = k h

replies_either : (client : ℕ) (es fs : List Event) → replies_to client es ≡ false → replies_to client fs ≡ false → replies_to client (es ++ fs) ≡ false
replies_either client [] fs h k = k
replies_either client (e ∷ es) fs h k = or_false (is_reply_to client e.kind) (replies_to client es) (replies_to client (es ++ fs)) h (λ g. replies_either client es fs g k)

-- the stamp is in these deltas, or none of them has a reply and it is as before
abbrev Follows : ℕ → ℕ → Option ℕ → List Delta → Option ℕ → Type 0
Follows client offset before ds stamp = HoldsLastReply client offset ds stamp ⊎ ((replies_to client (joined ds) ≡ false) × (stamp ≡ before))

one_first : (client offset : ℕ) (before : Option ℕ) (d : Delta) (ds : List Delta) (stamp : Option ℕ) → Follows client (suc offset) (cond (replies_to client d.events) (Some (suc offset)) before) ds stamp → Follows client offset before (d ∷ ds) stamp
one_first client offset before d ds stamp (inl h) = inl (record {
  first = d ∷ h.first;
  delta = h.delta;
  later = h.later;
  parts = ap (λ es. d ∷ es) h.parts;
  replies = h.replies;
  quiet = h.quiet;
  number = h.number ∙ ap Some (omega arith);
})
one_first client offset before d ds stamp (inr h) = go (replies_to client d.events) refl h.1
  where
    go : (t : Bool) → replies_to client d.events ≡ t → stamp ≡ cond t (Some (suc offset)) before → Follows client offset before (d ∷ ds) stamp
    go true r e = inl (record { first = []; delta = d; later = ds; parts = refl; replies = r; quiet = h.0; number = e ∙ ap Some (omega arith) })
    go false r e = inr (replies_either client d.events (joined ds) r h.0, e)

follows : (client offset : ℕ) (a : AnswersValue) (ds : List Delta) → a.count ≡ offset → client < length a.numbers → offset + length ds ≤ 4294967295 → Follows client offset (stamp_of a client) ds (stamp_of (noting_all a ds) client)
follows client offset a [] c l few = inr (refl, refl)
follows client offset a (d ∷ ds) c l few =
    let next : next_number a.count ≡ suc offset = ap next_number c ∙ ap (λ (t : Bool). cond t (suc offset) offset) (lt-ltb offset 4294967295 (omega arith)) in
    let rest = follows client (suc offset) (noting a d.events) ds next (subst (λ k. client < k) (sym (numbered_long (next_number a.count) a.numbers d.events)) l) (omega arith) in
    one_first client offset (stamp_of a client) d ds (stamp_of (noting_all (noting a d.events) ds) client)
    (subst (λ (o : Option ℕ). Follows client (suc offset) o ds (stamp_of (noting_all (noting a d.events) ds) client))
    (noted_number (next_number a.count) client a.numbers d.events l ∙ ap (λ k. cond (replies_to client d.events) (Some k) (stamp_of a client)) next) rest)

-- ---- from a state on

pub state_long : (clients : List Entry) → length (numbers_of_state clients) ≡ length clients
state_long [] = refl
state_long (e ∷ es) = ap suc (state_long es)

pub state_stamp : (clients : List Entry) (client : ℕ) → client < length clients → number_at (numbers_of_state clients) client ≡ (stamp_of_state (entry_at clients client).reply).number
state_stamp [] client l = absurd (omega arith)
state_stamp (e ∷ es) zero l = refl
state_stamp (e ∷ es) (suc client) l = state_stamp es client (omega arith)

-- ---- what is numbered and what is noted have the same numbers

same_numbers : (a b : AnswersValue) (ds : List Delta) → a.numbers ≡ b.numbers → a.count ≡ b.count → (noting_all a ds).numbers ≡ (noting_all b ds).numbers
same_numbers a b [] n c = n
same_numbers a b (d ∷ ds) n c = same_numbers (noting a d.events) (noting b d.events) ds (ap (λ (k : ℕ). numbered (next_number k) a.numbers d.events) c ∙ ap (λ (ns : List Stamp). numbered (next_number b.count) ns d.events) n) (ap next_number c)

numbered_first : (a : AnswersValue) (held others : List Delta) → (noting_all (numbering_all a held) others).numbers ≡ (noting_all a (held ++ others)).numbers
numbered_first a [] others = refl
numbered_first a (d ∷ held) others = numbered_first (numbering a d.events) held others ∙ same_numbers (numbering a d.events) (noting a d.events) (held ++ others) refl refl

pub stamps_are : StampsAreOfLastReplies
stamps_are clients offset held others client l few =
    subst (λ (ns : List Stamp). IsStamp client offset (entry_at clients client).reply (held ++ others) (number_at ns client)) (sym (numbered_first (answers_at clients offset) held others))
    (subst (λ (o : Option ℕ). Follows client offset o (held ++ others) (stamp_of (noting_all (answers_at clients offset) (held ++ others)) client)) (state_stamp clients client l)
    (follows client offset (answers_at clients offset) (held ++ others) refl (subst (λ k. client < k) (sym (state_long clients)) l) few))
