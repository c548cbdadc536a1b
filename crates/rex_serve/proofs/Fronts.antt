-- The whole frames that bytes begin with.
use Rattle.std.proofs.Common.{◌≡◌, ℕ, ◌≤◌, ◌+◌, ◌-◌, Bool, true, false, cond, ltb, List, [], ◌∷◌, ◌++◌, length, take, drop, refl, sym, ap, subst, ◌∙◌, append_assoc, arith, length-append}
use Rattle.std.specs.Int.{w32, from_be_bytes}
use Rattle.std.proofs.lemmas.Bool.{le-ltb, ltb-false}
use Rattle.std.proofs.lemmas.List.{take-append-drop, take-append-le, drop-append-le, drop_at}
use Rattle.rex_frames.specs.Frames.{AtFront, front_behind, front_of, length_in}
use Rattle.rex_frames.specs.Frames.AtFront.{Whole, More, TooLong}
use Rattle.rex_serve.specs.Serving.{BeginsWith}

abbrev whole_one : List ℕ → List ℕ → AtFront
whole_one frame rest = Whole frame rest

same_whole : (frame other rest end : List ℕ) → whole_one frame rest ≡ whole_one other end → (frame ≡ other) × (rest ≡ end)
same_whole frame other rest end e = (cc, cc)

-- a frame of this length stands behind its length, and this follows it
record IsBehind (len : ℕ) (bytes frame rest : List ℕ) : Type 0 where
  few : ltb 268435456 len ≡ false
  long : len ≤ length bytes
  frame_is : take len bytes ≡ frame
  rest_is : drop len bytes ≡ rest

is_behind : (too_long short : Bool) (len : ℕ) (bytes frame rest : List ℕ) → ltb 268435456 len ≡ too_long → ltb (length bytes) len ≡ short
    → cond too_long TooLong (cond short More (Whole (take len bytes) (drop len bytes))) ≡ Whole frame rest → IsBehind len bytes frame rest
is_behind true short len bytes frame rest a b e = absurd cc
is_behind false true len bytes frame rest a b e = absurd cc
is_behind false false len bytes frame rest a b e =
    let same = same_whole (take len bytes) frame (drop len bytes) rest e in
    record { few = a; long = ltb-false _ _ b; frame_is = same.0; rest_is = same.1 }

-- a whole frame stands at the front of bytes, and this follows it
record HasFront (bytes frame rest : List ℕ) : Type 0 where
  long : 4 ≤ length bytes
  behind_is : IsBehind (length_in bytes) (drop 4 bytes) frame rest

has_front : (bytes frame rest : List ℕ) → front_of bytes ≡ Whole frame rest → HasFront bytes frame rest
has_front bytes frame rest e = by (ltb (length bytes) 4) refl e
  where
    by : (short : Bool) → ltb (length bytes) 4 ≡ short → cond short More (front_behind (length_in bytes) (drop 4 bytes)) ≡ Whole frame rest → HasFront bytes frame rest
    by true s k = absurd cc
    by false s k = record { long = ltb-false _ _ s; behind_is = is_behind _ _ (length_in bytes) (drop 4 bytes) frame rest refl refl k }

-- a frame that stands behind its length stands there too where more bytes follow
behind_more : (len : ℕ) (bytes frame rest more : List ℕ) → IsBehind len bytes frame rest → front_behind len (bytes ++ more) ≡ Whole frame (rest ++ more)
behind_more len bytes frame rest more b =
    let long : ltb (length (bytes ++ more)) len ≡ false = le-ltb _ _ (omega (arith, length-append bytes more, b.long)) in
    let first : take len (bytes ++ more) ≡ frame = take-append-le len bytes more b.long ∙ b.frame_is in
    let last : drop len (bytes ++ more) ≡ rest ++ more = drop-append-le len bytes more b.long ∙ ap (λ (r : List ℕ). r ++ more) b.rest_is in
    rw (b.few, long, first, last) refl

-- a whole frame stands at the front too where more bytes follow
pub front_more : (bytes frame rest more : List ℕ) → front_of bytes ≡ Whole frame rest → front_of (bytes ++ more) ≡ Whole frame (rest ++ more)
front_more bytes frame rest more e =
    let h = has_front bytes frame rest e in
    let long : ltb (length (bytes ++ more)) 4 ≡ false = le-ltb _ _ (omega (arith, length-append bytes more, h.long)) in
    let len : length_in (bytes ++ more) ≡ length_in bytes = ap (from_be_bytes w32) (take-append-le 4 bytes more h.long) in
    let behind_is : drop 4 (bytes ++ more) ≡ drop 4 bytes ++ more = drop-append-le 4 bytes more h.long in
    rw long (ap (λ (n : ℕ). front_behind n (drop 4 (bytes ++ more))) len ∙ ap (λ (b : List ℕ). front_behind (length_in bytes) b) behind_is ∙ behind_more (length_in bytes) (drop 4 bytes) frame rest more h.behind_is)

-- ---- many

-- bytes begin with the same frames where more bytes follow
pub begins_more : (bytes : List ℕ) (frames : List (List ℕ)) (left more : List ℕ) → BeginsWith bytes frames left → BeginsWith (bytes ++ more) frames (left ++ more)
begins_more bytes [] left more h = ap (λ (b : List ℕ). b ++ more) h
begins_more bytes (frame ∷ frames) left more h = (h.0 ++ more, front_more bytes frame h.0 more h.1, begins_more h.0 frames left more h.2)

-- bytes begin with frames, and then with those that what is left begins with
pub begins_join : (bytes : List ℕ) (frames others : List (List ℕ)) (left end : List ℕ) → BeginsWith bytes frames left → BeginsWith left others end → BeginsWith bytes (frames ++ others) end
begins_join bytes [] others left end h k = subst (λ b. BeginsWith b others end) (sym h) k
begins_join bytes (frame ∷ frames) others left end h k = (h.0, h.1, begins_join h.0 frames others left end h.2 k)

-- bytes end with what is left of them
record EndsWith (bytes left : List ℕ) : Type 0 where
  first : List ℕ
  whole : bytes ≡ first ++ left

rest_ends : (bytes frame rest : List ℕ) → front_of bytes ≡ Whole frame rest → EndsWith bytes rest
rest_ends bytes frame rest e =
    let h = has_front bytes frame rest e in
    let b = h.behind_is in
    let len : ℕ = length_in bytes in
    record {
      first = take 4 bytes ++ take len (drop 4 bytes);
      whole =
          sym (take-append-drop 4 bytes)
          ∙ ap (λ (t : List ℕ). take 4 bytes ++ t) (sym (take-append-drop len (drop 4 bytes)) ∙ ap (λ (t : List ℕ). take len (drop 4 bytes) ++ t) b.rest_is)
          ∙ sym (append_assoc (take 4 bytes) (take len (drop 4 bytes)) rest);
    }

left_ends : (bytes : List ℕ) (frames : List (List ℕ)) (left : List ℕ) → BeginsWith bytes frames left → EndsWith bytes left
left_ends bytes [] left h = record { first = []; whole = h }
left_ends bytes (frame ∷ frames) left h =
    let one = rest_ends bytes frame h.0 h.1 in
    let others = left_ends h.0 frames left h.2 in
    record { first = one.first ++ others.first; whole = one.whole ∙ ap (λ (t : List ℕ). one.first ++ t) others.whole ∙ sym (append_assoc one.first others.first left) }

-- what is left of bytes is no longer than they
pub left_is_short : (bytes : List ℕ) (frames : List (List ℕ)) (left : List ℕ) → BeginsWith bytes frames left → length left ≤ length bytes
left_is_short bytes frames left h =
    let ends = left_ends bytes frames left h in
    let many : length bytes ≡ length ends.first + length left = ap length ends.whole ∙ length-append ends.first left in
    omega arith

-- what is left of bytes are as many of their last ones
pub left_is_last : (bytes : List ℕ) (frames : List (List ℕ)) (left : List ℕ) → BeginsWith bytes frames left → drop (length bytes - length left) bytes ≡ left
left_is_last bytes frames left h =
    let ends = left_ends bytes frames left h in
    let many : length bytes ≡ length ends.first + length left = ap length ends.whole ∙ length-append ends.first left in
    let count : length ends.first ≡ length bytes - length left = omega arith in
    ap (λ (b : List ℕ). drop (length bytes - length left) b) ends.whole ∙ drop_at ends.first left (length bytes - length left) count
