-- What a process comes to by the frames of bytes, one after the other, what a sink takes of the answers, and what is kept for good.
use Rattle.std.specs.Prelude.{◌≡◌, ◌⊎◌, ◌<◌, ◌≤◌, ℕ, ◌≢◌, true, false, List, [], ◌∷◌, ◌++◌, Result, Ok, Err}
use Rattle.rex_traits.specs.Causes.{Rose}
use Rattle.rex_traits.specs.Growth.{GrowsByFront}
use Rattle.rex_frames.specs.Frames.{AtFront, front_of}
use Rattle.rex_frames.specs.Frames.AtFront.{Whole, More, TooLong}
use Rattle.rex_process.specs.Process.{ProcessValue, IsSame}
use Rattle.rex_serve.specs.declared.serving.Ended.{Ended}
use Rattle.rex_serve.specs.declared.serving.Ended.TheVariants as ended
use Rattle.rex_serve.specs.Answering.{AnswersFrame, BreaksOff, IsFlushed, asked_of}

-- ---- bytes

-- bytes grew by some, of which this holds
pub record GrowsBy (P : List ℕ → Type 0) (before now : List ℕ) : Type 0 where
  pub more : List ℕ
  pub grown : now ≡ before ++ more
  pub holds : P more

-- bytes begin with these whole frames, one after the other, and this is what follows them
abbrev pub BeginsWith : List ℕ → List (List ℕ) → List ℕ → Type 0
BeginsWith bytes [] left = bytes ≡ left
BeginsWith bytes (frame ∷ frames) left = (rest : List ℕ) × (front_of bytes ≡ Whole frame rest) × BeginsWith rest frames left

-- ---- ends

-- an end that comes of a piece, and not of reading
abbrev pub IsStop : Ended → Type 0
IsStop ended.Over = ⊥
IsStop ended.TooOften = ⊥
IsStop ended.Unread = ⊥
IsStop _ = Unit {0}

-- an end after which a process may be served again: it did all that it was asked for, and its records are kept for good
abbrev pub IsClean : Ended → Type 0
IsClean ended.Down = ⊥
IsClean ended.OutOfMemory = ⊥
IsClean _ = Unit {0}

-- bytes begin with no length of a frame that is too long; or they do, and so no more is answered
abbrev pub StandsAs : List ℕ → Result (Unit {0}) Ended → Type 0
StandsAs left (Ok ok) = front_of left ≢ TooLong
StandsAs left (Err ended.TooLong) = front_of left ≡ TooLong
StandsAs left (Err e) = ⊥

-- ---- frames

module _ {K : Type 0} (records : K → List (List ℕ)) (faults : K → ℕ) where
  -- a process answered this frame while it was up, after flushes, if any
  pub record AnswersNext (p q : ProcessValue K) (frame out : List ℕ) : Type 0 where
    pub first : ProcessValue K
    pub flushed : IsFlushed records p first
    pub up : first.node.up ≡ true
    pub answers : AnswersFrame records faults first q frame out

  -- it answered these frames, one after the other, and flushed now and then; these are all the answers
  abbrev pub AnswersFrames : ProcessValue K → ProcessValue K → List (List ℕ) → List ℕ → Type 0
  AnswersFrames p q [] out = IsFlushed records p q × (out ≡ [])
  AnswersFrames p q (frame ∷ frames) out =
      (middle : ProcessValue K) × (first : List ℕ) × (others : List ℕ) × AnswersNext p middle frame first × AnswersFrames middle q frames others × (out ≡ first ++ others)

  -- it answered the whole frames that an input begins with, up to what is left of it
  pub record Serves (p q : ProcessValue K) (input left out : List ℕ) : Type 0 where
    pub frames : List (List ℕ)
    pub read : BeginsWith input frames left
    pub answered : AnswersFrames p q frames out

  -- memory was short while a process that is up answered the frame that these bytes begin with; it is the same one
  pub record BreaksOffAt (p q : ProcessValue K) (left : List ℕ) : Type 0 where
    pub frame : List ℕ
    pub rest : List ℕ
    pub front : front_of left ≡ Whole frame rest
    pub up : p.node.up ≡ true
    pub broken : BreaksOff records faults p q (asked_of p frame)
    pub same : IsSame p q

  -- memory was short after whole frames that bytes begin with, or while the next one was answered
  pub record HasBroken (p q : ProcessValue K) (bytes : List ℕ) : Type 0 where
    pub middle : ProcessValue K
    pub left : List ℕ
    pub out : List ℕ
    pub served : Serves p middle bytes left out
    pub broken : (q ≡ middle) ⊎ BreaksOffAt middle q left

-- ---- faults

-- a process that was up is so still, or its keeper failed, and counted that; the count doesn't fall
pub record IsUpOrFailed {K : Type 0} (faults : K → ℕ) (p q : ProcessValue K) : Type 0 where
  pub later : faults p.node.keeper ≤ faults q.node.keeper
  pub failed : q.node.up ≡ false → faults p.node.keeper < faults q.node.keeper

-- ---- what is kept for good

module _ {K : Type 0} (records kept : K → List (List ℕ)) where
  -- all records of a process are kept for good
  abbrev pub IsSettled : ProcessValue K → Type 0
  IsSettled p = kept p.node.keeper ≡ records p.node.keeper

module _ {K : Type 0} (records kept : K → List (List ℕ)) (faults : K → ℕ) where
  -- a process was down, or its keeper failed in a flush, and counted that
  abbrev pub HasFailed : ProcessValue K → ProcessValue K → Type 0
  HasFailed p q = (p.node.up ≡ false) ⊎ Rose (faults p.node.keeper) (faults q.node.keeper)

  -- ---- what a sink took of the answers

  -- it took all answers to the frames of an input, and all records that they rest on are kept for good
  pub record HasServed (p q : ProcessValue K) (input left before now : List ℕ) : Type 0 where
    pub out : List ℕ
    pub served : Serves records faults p q input left out
    pub settled : IsSettled records kept q
    pub taken : now ≡ before ++ out

  -- so it is, the process is up, and what is left has this at its front
  pub record HasServedTo (front : AtFront) (p q : ProcessValue K) (input before now : List ℕ) : Type 0 where
    pub left : List ℕ
    pub served : HasServed p q input left before now
    pub at_front : front_of left ≡ front
    pub up : q.node.up ≡ true

  -- it took a front of them, and all records that they rest on are kept for good
  pub record HasServedSome (p q : ProcessValue K) (input left before now : List ℕ) : Type 0 where
    pub out : List ℕ
    pub served : Serves records faults p q input left out
    pub settled : IsSettled records kept q
    pub taken : GrowsByFront before now out

  -- it took all answers to the first frames of an input, and no others; this happened then to the process that had come of them, and to what was left
  pub record HasServedFirst (Then : ProcessValue K → List ℕ → Type 0) (p : ProcessValue K) (input before now : List ℕ) : Type 0 where
    pub middle : ProcessValue K
    pub left : List ℕ
    pub told : HasServed p middle input left before now
    pub after : Then middle left

  -- ---- frames whose answers weren't written

  -- a process answered the whole frames that bytes begin with, and its node went down, or the flush behind them failed; its records before them are kept for
  -- good, or all are
  pub record GoesDown (p q : ProcessValue K) (bytes : List ℕ) : Type 0 where
    pub last : ProcessValue K
    pub left : List ℕ
    pub out : List ℕ
    pub served : Serves records faults p last bytes left out
    pub flushed : IsFlushed records last q
    pub failed : HasFailed last q
    pub kept_are : (kept q.node.keeper ≡ records p.node.keeper) ⊎ IsSettled records kept q

  -- memory was short while a process answered such frames, or flushed; its records before them are kept for good
  pub record RunsShort (p q : ProcessValue K) (bytes : List ℕ) : Type 0 where
    pub broken : HasBroken records faults p q bytes
    pub kept_are : kept q.node.keeper ≡ records p.node.keeper

  -- ---- how it ended

  -- all whole frames of the input were answered, if the node is still up and memory wasn't short; how it ended says what is left, what the sink took, and
  -- what is kept for good
  abbrev pub EndsAs : Ended → ProcessValue K → ProcessValue K → List ℕ → List ℕ → List ℕ → Type 0
  EndsAs ended.Over p q input before now = HasServedTo More p q input before now
  EndsAs ended.TooOften p q input before now = HasServedTo More p q input before now
  EndsAs ended.Unread p q input before now = HasServedTo More p q input before now
  EndsAs ended.TooLong p q input before now = HasServedTo TooLong p q input before now
  EndsAs ended.Down p q input before now = HasServedFirst (λ middle left. GoesDown middle q left) p input before now
  EndsAs ended.Unwritten p q input before now = (left : List ℕ) × HasServedSome p q input left before now
  EndsAs ended.OutOfMemory p q input before now =
      HasServedFirst (λ middle left. RunsShort middle q left) p input before now ⊎ ((left : List ℕ) × HasServedSome p q input left before now)

  -- ---- pieces

  -- all records were kept for good that answers rest on, and then a sink took these, all of them; or a front, where the write failed, or memory was short
  -- then; or nothing, where the process was down, the flush failed, or memory was short in it
  abbrev pub TellsAs : ProcessValue K → ProcessValue K → List ℕ → List ℕ → List ℕ → Result (Unit {0}) Ended → Type 0
  TellsAs p q out before now (Ok ok) = (p.node.up ≡ true) × IsSettled records kept q × (now ≡ before ++ out)
  TellsAs p q out before now (Err ended.Unwritten) = IsSettled records kept q × GrowsByFront before now out
  TellsAs p q out before now (Err ended.Down) = HasFailed p q × ((kept q.node.keeper ≡ kept p.node.keeper) ⊎ IsSettled records kept q) × (now ≡ before)
  TellsAs p q out before now (Err ended.OutOfMemory) =
      ((kept q.node.keeper ≡ kept p.node.keeper) × (now ≡ before)) ⊎ (IsSettled records kept q × GrowsByFront before now out)
  TellsAs p q out before now (Err e) = ⊥

  -- it goes on, and this is left; or it ended
  abbrev pub IsServed : ProcessValue K → ProcessValue K → List ℕ → List ℕ → List ℕ → List ℕ → Result (Unit {0}) Ended → Type 0
  IsServed p q input left before now (Ok ok) = HasServed p q input left before now × (front_of left ≡ More) × (q.node.up ≡ true)
  IsServed p q input left before now (Err e) = IsStop e × EndsAs e p q input before now
