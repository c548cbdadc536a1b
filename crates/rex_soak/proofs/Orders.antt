-- The schedule lines that rounds have.
use Rattle.std.proofs.Common.{◌≡◌, ℕ, ◌<◌, ◌≤◌, Bool, true, false, ◌&&◌, not, List, [], ◌∷◌, length, Some, None, refl, arith}
use Rattle.std.specs.Prelude.{codes, slice_index, nat_le, nat_lt, ◌==◌}
use Rattle.std.specs.Fmt.{decimal}
use Rattle.std.specs.List.{list_all}
use Rattle.std.proofs.lemmas.Bool.{and_parts, ltb-true, leb-true, lt-ltb}
use Rattle.rex_text.specs.Numbers.{u64_at}
use Rattle.rex_syntax.specs.declared.request.Request.{Request}
use Rattle.rex_gen.specs.Commands.{command}
use Rattle.rex_parse.specs.declared.language.Above.{Above}
use Rattle.rex_scenario.specs.Schedule.{schedule_code}
use Rattle.rex_soak.proofs.Lines.{is_visible, in_range}
use Rattle.rex_soak.proofs.Numbers.{read_u64}
use Rattle.rex_soak.proofs.Steps.{Adds, IsFirst, adds_line, adds_short, adds_long}

-- one of three nodes
abbrev pub IsNode : ℕ → Type 0
IsNode n = (1 ≤ n) × (n ≤ 3)

-- a word of at most ten visible bytes that begins neither with '#' nor with '%'
abbrev is_first : List ℕ → Bool
is_first w = (nat_lt 0 (length w) && list_all is_visible w) && (nat_le (length w) 10 && (not (slice_index w 0 == 35) && not (slice_index w 0 == 37)))

first_is : (w : List ℕ) → is_first w ≡ true → IsFirst w
first_is w e =
    let p = and_parts (nat_lt 0 (length w) && list_all is_visible w) (nat_le (length w) 10 && (not (slice_index w 0 == 35) && not (slice_index w 0 == 37))) e in
    let q = and_parts (nat_lt 0 (length w)) (list_all is_visible w) p.0 in
    let r = and_parts (nat_le (length w) 10) (not (slice_index w 0 == 35) && not (slice_index w 0 == 37)) p.1 in
    let t = and_parts (not (slice_index w 0 == 35)) (not (slice_index w 0 == 37)) r.1 in
    record {
      word = record { some = ltb-true 0 (length w) q.0; visible = q.1 };
      short = leb-true (length w) 10 r.0;
      no_comment = false_of (slice_index w 0 == 35) t.0;
      no_heading = false_of (slice_index w 0 == 37) t.1;
    }
  where
    false_of : (b : Bool) → not b ≡ true → b ≡ false
    false_of true n = absurd cc
    false_of false n = refl

-- a word to which one of three nodes may be added
pub record IsOrder (w : List ℕ) : Type 0 where
  pub first : IsFirst w
  pub fits : (u : List ℕ) (node requests earlier : ℕ) (a : Above) → u64_at u ≡ Some node → (nat_le 1 node && nat_le node 3) ≡ true → nat_le 100000 earlier ≡ false → schedule_code true 3 requests 2 true earlier a (w ∷ u ∷ []) ≡ None

pub elect : IsOrder (codes "elect")
elect = record { first = first_is (codes "elect") refl; fits = λ u node requests earlier a is there room. rw (is, there, room) refl }

pub cut : IsOrder (codes "cut")
cut = record { first = first_is (codes "cut") refl; fits = λ u node requests earlier a is there room. rw (is, there, room) refl }

pub replay : IsOrder (codes "replay")
replay = record { first = first_is (codes "replay") refl; fits = λ u node requests earlier a is there room. rw (is, there, room) refl }

pub checkpoint : IsOrder (codes "checkpoint")
checkpoint = record { first = first_is (codes "checkpoint") refl; fits = λ u node requests earlier a is there room. rw (is, there, room) refl }

pub stop : IsOrder (codes "stop")
stop = record { first = first_is (codes "stop") refl; fits = λ u node requests earlier a is there room. rw (is, there, room) refl }

pub start : IsOrder (codes "start")
start = record { first = first_is (codes "start") refl; fits = λ u node requests earlier a is there room. rw (is, there, room) refl }

pub adds_order : (seed : ℕ) (requests : List Request) (w : List ℕ) (n : ℕ) → IsOrder w → IsNode n → Adds seed requests (command w (n ∷ [])) 1
adds_order seed requests w n order h =
    adds_short seed requests w n order.first (omega (arith, h.1)) (λ earlier a room. order.fits (decimal n) n (length requests) earlier a (read_u64 n (omega (arith, h.1))) (in_range 1 3 n h.0 h.1) room)

pub adds_flush : (seed : ℕ) (requests : List Request) → Adds seed requests (codes "flush\n") 1
adds_flush seed requests = adds_line seed requests (codes "flush") [] (first_is (codes "flush") refl) tt (λ earlier a room. rw room refl) (omega arith)

pub adds_deliver : (seed : ℕ) (requests : List Request) (m : ℕ) → 1 ≤ m → m < 1000000 → Adds seed requests (command (codes "deliver") (m ∷ [])) 1
adds_deliver seed requests m low high =
    adds_short seed requests (codes "deliver") m (first_is (codes "deliver") refl) high (λ earlier a room. rw (read_u64 m (omega arith), room, lt-ltb 0 m low) refl)

pub adds_submit : (seed : ℕ) (requests : List Request) (n r : ℕ) → IsNode n → 1 ≤ r → r ≤ length requests → r < 1000000 → Adds seed requests (command (codes "submit") (n ∷ r ∷ [])) 1
adds_submit seed requests n r h low there high =
    adds_long seed requests (codes "submit") n r (first_is (codes "submit") refl) (omega (arith, h.1)) high
    (λ earlier a room. rw (read_u64 n (omega (arith, h.1)), read_u64 r (omega arith), room, in_range 1 3 n h.0 h.1, in_range 1 (length requests) r low there) refl)

pub adds_lane : (seed : ℕ) (requests : List Request) (n l : ℕ) → IsNode n → 1 ≤ l → l ≤ 2 → Adds seed requests (command (codes "lane") (n ∷ l ∷ [])) 1
adds_lane seed requests n l h low high =
    adds_long seed requests (codes "lane") n l (first_is (codes "lane") refl) (omega (arith, h.1)) (omega arith)
    (λ earlier a room. rw (read_u64 n (omega (arith, h.1)), read_u64 l (omega arith), room, in_range 1 3 n h.0 h.1, in_range 1 2 l low high) refl)
