-- Joined frames are read back.
use Rattle.std.proofs.Common.{◌≡◌, ℕ, ◌≤◌, Bool, true, false, cond, ltb, List, [], ◌∷◌, ◌++◌, length, take, drop, refl, sym, ap, subst, ◌∙◌, append_assoc, arith, length-append}
use Rattle.std.specs.Int.{w32, from_be_bytes, to_be_bytes}
use Rattle.std.proofs.lemmas.Bool.{le-ltb, ltb-false}
use Rattle.std.proofs.lemmas.List.{append-nil, length-take, take-append-drop, take_at, drop_at}
use Rattle.std.proofs.lemmas.List.Elements.{All-nil, All-cons, All-head, All-tail}
use Rattle.std.proofs.lemmas.Nat.{be_bytes_4, from_be_bytes-to_be_bytes_4}
use Rattle.rex_wire.proofs.Fields.{IsBytes-take, IsBytes-drop}
use Rattle.rex_cluster.specs.Values.{IsBytes}
use Rattle.rex_frames.specs.Frames.{FitsFrame, framed, joined_frames, AtFront, front_behind, front_of, has_frame, length_in, ReadAs}
use Rattle.rex_frames.specs.Frames.AtFront.{Whole, More, TooLong}
use Rattle.rex_frames.specs.Laws.{JoinedFramesAreRead, ReadBytesAreJoined, BytesAreReadOnce, NoFrameBeginsAnother, FramesAreReadBack}

-- ---- one frame

behind_back : (frame rest : List ℕ) → FitsFrame frame → front_behind (length frame) (frame ++ rest) ≡ Whole frame rest
behind_back frame rest h =
    let short : ltb 268435456 (length frame) ≡ false = le-ltb _ _ h.few in
    let long : ltb (length (frame ++ rest)) (length frame) ≡ false = le-ltb _ _ (omega (arith, length-append frame rest)) in
    rw (short, long, take_at frame rest (length frame) refl, drop_at frame rest (length frame) refl) refl

-- a frame stands at the front of itself and anything behind it
pub front_back : (frame rest : List ℕ) → FitsFrame frame → front_of (framed frame ++ rest) ≡ Whole frame rest
front_back frame rest h =
    let head : List ℕ = to_be_bytes w32 (length frame) in
    let all : framed frame ++ rest ≡ head ++ (frame ++ rest) = append_assoc head frame rest in
    let long : ltb (length (head ++ (frame ++ rest))) 4 ≡ false = le-ltb _ _ (omega (arith, length-append head (frame ++ rest))) in
    let len : from_be_bytes w32 head ≡ length frame = from_be_bytes-to_be_bytes_4 (length frame) (omega (arith, h.few)) in
    ap front_of all ∙ rw long (ap (λ (n : ℕ). front_behind n (frame ++ rest)) len ∙ behind_back frame rest h)

abbrev whole_one : List ℕ → List ℕ → AtFront
whole_one frame rest = Whole frame rest

same_whole : (frame other rest end : List ℕ) → whole_one frame rest ≡ whole_one other end → (frame ≡ other) × (rest ≡ end)
same_whole frame other rest end e = (cc, cc)

-- what a whole frame behind a length is
record IsBehind (len : ℕ) (bytes frame rest : List ℕ) : Type 0 where
  few : len ≤ 268435456
  long : len ≤ length bytes
  whole : (take len bytes ≡ frame) × (drop len bytes ≡ rest)

is_behind : (too_long short : Bool) (len : ℕ) (bytes frame rest : List ℕ) → ltb 268435456 len ≡ too_long → ltb (length bytes) len ≡ short
    → cond too_long TooLong (cond short More (Whole (take len bytes) (drop len bytes))) ≡ Whole frame rest → IsBehind len bytes frame rest
is_behind true short len bytes frame rest a b e = absurd cc
is_behind false true len bytes frame rest a b e = absurd cc
is_behind false false len bytes frame rest a b e = record { few = ltb-false _ _ a; long = ltb-false _ _ b; whole = same_whole (take len bytes) frame (drop len bytes) rest e }

-- what stands whole at the front of bytes is a frame, and they are it and what follows it
front_parts : (bytes frame rest : List ℕ) → IsBytes bytes → front_of bytes ≡ Whole frame rest → FitsFrame frame × (bytes ≡ framed frame ++ rest)
front_parts bytes frame rest fits e = by (ltb (length bytes) 4) refl e
  where
    by : (short : Bool) → ltb (length bytes) 4 ≡ short → cond short More (front_behind (length_in bytes) (drop 4 bytes)) ≡ Whole frame rest → FitsFrame frame × (bytes ≡ framed frame ++ rest)
    by true s k = absurd cc
    by false s k =
        let len : ℕ = length_in bytes in
        let b : IsBehind len (drop 4 bytes) frame rest = is_behind _ _ len (drop 4 bytes) frame rest refl refl k in
        let long : 4 ≤ length bytes = ltb-false _ _ s in
        let many : length frame ≡ len = ap length (sym b.whole.0) ∙ omega (arith, length-take len (drop 4 bytes), b.long) in
        let head : to_be_bytes w32 len ≡ take 4 bytes = be_bytes_4 (take 4 bytes) len (omega (arith, length-take 4 bytes)) (IsBytes-take 4 bytes fits) refl in
        let behind_is : frame ++ rest ≡ drop 4 bytes = ap (λ (x : List ℕ). x ++ rest) (sym b.whole.0) ∙ ap (λ (x : List ℕ). take len (drop 4 bytes) ++ x) (sym b.whole.1) ∙ take-append-drop len (drop 4 bytes) in
        let whole : framed frame ++ rest ≡ bytes =
        append_assoc (to_be_bytes w32 (length frame)) frame rest
        ∙ ap (λ (n : ℕ). to_be_bytes w32 n ++ (frame ++ rest)) many
        ∙ ap (λ (x : List ℕ). x ++ (frame ++ rest)) head
        ∙ ap (λ (x : List ℕ). take 4 bytes ++ x) behind_is
        ∙ take-append-drop 4 bytes in
        (record { few = omega (arith, many, b.few) }, sym whole)

-- ---- many

not_whole : (a : AtFront) (frame rest : List ℕ) → has_frame a ≡ false → a ≡ Whole frame rest → (P : Type 0) → P
not_whole (Whole f r) frame rest n e P = absurd cc
not_whole More frame rest n e P = absurd cc
not_whole TooLong frame rest n e P = absurd cc

back : JoinedFramesAreRead
back [] left each over = (refl, over)
back (frame ∷ frames) left each over =
    let rest : List ℕ = joined_frames frames ++ left in (
      rest,
      ap front_of (append_assoc (framed frame) (joined_frames frames) left) ∙ front_back frame rest (All-head FitsFrame frame frames each),
      back frames left (All-tail FitsFrame frame frames each) over,
    )

behind_bytes : (frame rest bytes : List ℕ) → IsBytes bytes → bytes ≡ framed frame ++ rest → IsBytes rest
behind_bytes frame rest bytes fits e =
    let all : drop (length (framed frame)) bytes ≡ rest = ap (λ (b : List ℕ). drop (length (framed frame)) b) e ∙ drop_at (framed frame) rest (length (framed frame)) refl in
    subst IsBytes all (IsBytes-drop (length (framed frame)) bytes fits)

parts : ReadBytesAreJoined
parts bytes [] left fits h = (All-nil FitsFrame, h.0)
parts bytes (frame ∷ frames) left fits h =
    let first = front_parts bytes frame h.0 fits h.1 in
    let others = parts h.0 frames left (behind_bytes frame h.0 bytes fits first.1) h.2 in (
      All-cons FitsFrame frame frames first.0 others.0,
      first.1 ∙ ap (λ (r : List ℕ). framed frame ++ r) others.1 ∙ sym (append_assoc (framed frame) (joined_frames frames) left),
    )

only : BytesAreReadOnce
only bytes [] [] left end h k = (refl, sym h.0 ∙ k.0)
only bytes [] (other ∷ others) left end h k = not_whole (front_of bytes) other k.0 h.1 k.1 _
only bytes (frame ∷ frames) [] left end h k = not_whole (front_of bytes) frame h.0 k.1 h.1 _
only bytes (frame ∷ frames) (other ∷ others) left end h k =
    let same = same_whole frame other h.0 k.0 (sym h.1 ∙ k.1) in
    let rest : ReadAs k.0 frames left = subst (λ r. ReadAs r frames left) same.1 h.2 in
    let more = only k.0 frames others left end rest k.2 in
    (let e : frame ≡ other = same.0 in let f : frames ≡ others = more.0 in cc, more.1)

apart : NoFrameBeginsAnother
apart frame other rest h k e =
    let one : front_of (framed other ++ rest) ≡ Whole frame [] = ap front_of (sym e ∙ sym (append-nil (framed frame))) ∙ front_back frame [] h in
    let same = same_whole frame other [] rest (sym one ∙ front_back other rest k) in
    (same.0, sym same.1)

pub read_back : FramesAreReadBack
read_back = record { back = back; parts = parts; only = only; apart = apart }
