-- The last of some values that replies to a client.
use Rattle.std.proofs.Common.{◌≡◌, ℕ, zero, suc, ◌+◌, ◌<◌, ◌≤◌, Bool, true, false, cond, List, [], ◌∷◌, ◌++◌, length, drop, refl, ap, ◌∙◌, arith, max}
use Rattle.std.specs.Prelude.{slice_index_or}
use Rattle.rex_gate.specs.Numbers.{replies_to}
use Rattle.rex_cluster.specs.Values.{Value, events_of}
use Rattle.rex_cluster.specs.Reading.{last_reply}

-- it is none past the last value
pub last_most : (client n : ℕ) (vs : List Value) → last_reply client (suc n) vs ≤ n + length vs
last_most client n [] = omega arith
last_most client n (v ∷ vs) = one (replies_to client (events_of v)) (last_reply client (suc (suc n)) vs) (last_most client (suc n) vs)
  where
    one : (t : Bool) (rest : ℕ) → rest ≤ suc n + length vs → max (cond t (suc n) 0) rest ≤ n + suc (length vs)
    one true rest h = omega (arith, h)
    one false rest h = omega (arith, h)

pub last_push : (client n : ℕ) (vs : List Value) (v : Value) → last_reply client n (vs ++ v ∷ []) ≡ max (last_reply client n vs) (cond (replies_to client (events_of v)) (n + length vs) 0)
last_push client n [] v = one (replies_to client (events_of v))
  where
    one : (t : Bool) → max (cond t n 0) 0 ≡ max 0 (cond t (n + 0) 0)
    one true = omega arith
    one false = omega arith
last_push client n (u ∷ us) v =
    ap (max (cond (replies_to client (events_of u)) n 0)) (last_push client (suc n) us v)
    ∙ one (cond (replies_to client (events_of u)) n 0) (last_reply client (suc n) us) (replies_to client (events_of v))
  where
    one : (a b : ℕ) (t : Bool) → max a (max b (cond t (suc n + length us) 0)) ≡ max (max a b) (cond t (n + suc (length us)) 0)
    one a b true = omega arith
    one a b false = omega arith

-- it is the last one of the later values, or else that of the earlier ones
pub last_append : (client n : ℕ) (us vs : List Value) → last_reply client n (us ++ vs) ≡ max (last_reply client n us) (last_reply client (n + length us) vs)
last_append client n [] vs =
    let from : last_reply client n vs ≡ last_reply client (n + 0) vs = ap (λ k. last_reply client k vs) (let m : n ≡ n + 0 = omega arith in m) in
    let alone : last_reply client (n + 0) vs ≡ max 0 (last_reply client (n + 0) vs) = omega arith in
    from ∙ alone
last_append client n (u ∷ us) vs =
    ap (max (cond (replies_to client (events_of u)) n 0)) (last_append client (suc n) us vs)
    ∙ one (cond (replies_to client (events_of u)) n 0) (last_reply client (suc n) us) (last_reply client (suc n + length us) vs)
    ∙ ap (λ k. max (last_reply client n (u ∷ us)) (last_reply client k vs)) (let m : suc n + length us ≡ n + suc (length us) = omega arith in m)
  where
    one : (a b c : ℕ) → max a (max b c) ≡ max (max a b) c
    one a b c = omega arith

-- among these the first replies to the client, or the last reply is that of the others
pub first_or_rest : (client number : ℕ) (values : List Value) (i : ℕ) (d : Value) → i < length values
    → last_reply client number (drop i values) ≡ max (cond (replies_to client (events_of (slice_index_or values i d))) number 0) (last_reply client (suc number) (drop (suc i) values))
first_or_rest client number [] i d l = absurd (omega (arith, l))
first_or_rest client number (v ∷ vs) zero d l = refl
first_or_rest client number (v ∷ vs) (suc i) d l = first_or_rest client number vs i d (omega (arith, l))
