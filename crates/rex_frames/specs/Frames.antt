-- Frames of bytes, and what stands at the front of bytes.
use Rattle.std.specs.Prelude.{◌≡◌, ℕ, ◌≤◌, Bool, true, false, List, [], ◌∷◌, ◌++◌, length, take, drop, nat_lt, nat_le, if◌then◌else◌}
use Rattle.std.specs.List.{flat_map}
use Rattle.std.specs.Int.{w32, from_be_bytes, to_be_bytes}
use Rattle.rex_frames.specs.declared.frames.Front.{Front}
use Rattle.rex_frames.specs.declared.frames.Front.TheVariants as front
use Rattle.rex_frames.specs.declared.frames.TheConstants.{FRAME_BYTES, HEAD_BYTES}

-- ---- frames

-- a frame may have these bytes
pub record FitsFrame (bytes : List ℕ) : Type 0 where
  pub few : length bytes ≤ FRAME_BYTES

-- a frame: how many bytes it has, the most significant byte of four first, and these bytes
abbrev pub framed : List ℕ → List ℕ
framed bytes = to_be_bytes w32 (length bytes) ++ bytes

-- the same where a frame may have them, and else nothing
abbrev pub frame_of : List ℕ → List ℕ
frame_of bytes = if nat_le (length bytes) FRAME_BYTES then framed bytes else []

-- frames one after the other
abbrev pub joined_frames : List (List ℕ) → List ℕ
joined_frames frames = flat_map framed frames

-- ---- what is read

-- what stands at the front of bytes: a whole frame and what follows it, less than a frame, or the length of one that is longer than any may be
pub data AtFront : Type 0 where
  Whole : List ℕ → List ℕ → AtFront
  More : AtFront
  TooLong : AtFront

-- the length that bytes begin with
abbrev pub length_in : List ℕ → ℕ
length_in bytes = from_be_bytes w32 (take HEAD_BYTES bytes)

-- what stands at the front of what follows a length
abbrev pub front_behind : ℕ → List ℕ → AtFront
front_behind len rest = if nat_lt FRAME_BYTES len then TooLong else if nat_lt (length rest) len then More else Whole (take len rest) (drop len rest)

-- what stands at the front of bytes
abbrev pub front_of : List ℕ → AtFront
front_of bytes = if nat_lt (length bytes) HEAD_BYTES then More else front_behind (length_in bytes) (drop HEAD_BYTES bytes)

-- what the program sees of it
abbrev pub at_front : Front → AtFront
at_front (front.Whole frame rest) = Whole frame.now rest.now
at_front front.More = More
at_front front.TooLong = TooLong

-- a whole frame stands there
abbrev pub has_frame : AtFront → Bool
has_frame (Whole frame rest) = true
has_frame _ = false

-- bytes are read as these frames, one after the other, and as what is left, at whose front no whole frame stands
abbrev pub ReadAs : List ℕ → List (List ℕ) → List ℕ → Type 0
ReadAs bytes [] left = (bytes ≡ left) × (has_frame (front_of bytes) ≡ false)
ReadAs bytes (frame ∷ frames) left = (rest : List ℕ) × (front_of bytes ≡ Whole frame rest) × ReadAs rest frames left
