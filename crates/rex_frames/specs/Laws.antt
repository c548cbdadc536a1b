-- What holds of all frames.
use Rattle.std.specs.Prelude.{◌≡◌, ℕ, false, List, [], ◌++◌}
use Rattle.std.specs.List.{All}
use Rattle.rex_cluster.specs.Values.{IsBytes}
use Rattle.rex_frames.specs.Frames.{FitsFrame, framed, joined_frames, front_of, has_frame, ReadAs}

-- joined frames, and what is left behind them, are read as these
abbrev pub JoinedFramesAreRead : Type 0
JoinedFramesAreRead = (frames : List (List ℕ)) (left : List ℕ) → All FitsFrame frames → has_frame (front_of left) ≡ false → ReadAs (joined_frames frames ++ left) frames left

-- bytes are those that they are read as: these frames joined, and what is left
abbrev pub ReadBytesAreJoined : Type 0
ReadBytesAreJoined = (bytes : List ℕ) (frames : List (List ℕ)) (left : List ℕ) → IsBytes bytes → ReadAs bytes frames left → All FitsFrame frames × (bytes ≡ joined_frames frames ++ left)

-- bytes are read as no other frames
abbrev pub BytesAreReadOnce : Type 0
BytesAreReadOnce = (bytes : List ℕ) (frames others : List (List ℕ)) (left end : List ℕ) → ReadAs bytes frames left → ReadAs bytes others end → (frames ≡ others) × (left ≡ end)

-- no frame begins another: where one's bytes begin another's, they are one frame and nothing follows
abbrev pub NoFrameBeginsAnother : Type 0
NoFrameBeginsAnother = (frame other rest : List ℕ) → FitsFrame frame → FitsFrame other → framed frame ≡ framed other ++ rest → (frame ≡ other) × (rest ≡ [])

-- joined frames are read back as these frames and nothing else
pub record FramesAreReadBack : Type 0 where
  pub back : JoinedFramesAreRead
  pub parts : ReadBytesAreJoined
  pub only : BytesAreReadOnce
  pub apart : NoFrameBeginsAnother
