-- What is left where memory is short.
use Rattle.std.proofs.Common.{◌≡◌, ℕ, true, List, Result, Ok, Err, inl, inr, refl, subst}
use Rattle.std.specs.Prelude.{OnErr}
use Rattle.rex_frames.specs.declared.asking.Asked.{Asked}
use Rattle.rex_frames.specs.declared.asking.Asked.TheVariants.{Elect, Submit, Run, Turn, Cut, Hear, Foretell, Ask, Read, Look, Nothing}
use Rattle.rex_frames.specs.Frames.{front_of}
use Rattle.rex_frames.specs.Frames.AtFront.{Whole}
use Rattle.rex_process.specs.Process.{ProcessValue, IsSame}
use Rattle.rex_serve.specs.Answering.{Answered, BreaksOff, IsLeftOf, asked_of}
use Rattle.rex_serve.specs.Serving.{GrowsBy, HasBroken, Serves}

-- what holds anyway holds where there is an error
pub on_err : {T E : Type 0} (r : Result T E) (P : Type 0) → P → OnErr r P
on_err (Ok x) P p = tt
on_err (Err e) P p = p

module _ {K : Type 0} (records : K → List (List ℕ)) (faults : K → ℕ) where
  -- a process that stays as it is has its records left
  pub left_as_is : (p : ProcessValue K) (asked : Asked) → IsLeftOf records p p asked
  left_as_is p Elect = inl refl
  left_as_is p (Submit request) = inl refl
  left_as_is p (Run clock) = refl
  left_as_is p (Turn lane clock) = refl
  left_as_is p Cut = inl refl
  left_as_is p (Hear message) = inl refl
  left_as_is p (Foretell message) = refl
  left_as_is p (Ask to) = refl
  left_as_is p (Read client variable seen) = refl
  left_as_is p Look = refl
  left_as_is p Nothing = refl

  -- it did what it was asked for, and the answer isn't told
  pub untold : (p q : ProcessValue K) (asked other : Asked) (before now : List ℕ) → asked ≡ other → GrowsBy (Answered records faults p q asked) before now → BreaksOff records faults p q other
  untold p q asked other before now is h = inl (h.more, subst (λ a. Answered records faults p q a h.more) is h.holds)

  -- memory was short at the frame that is next
  pub broken_at : (p m q : ProcessValue K) (bytes left rest frame before now : List ℕ) → GrowsBy (Serves records faults p m bytes left) before now → front_of left ≡ Whole frame rest → m.node.up ≡ true
      → BreaksOff records faults m q (asked_of m frame) → IsSame m q → HasBroken records faults p q bytes
  broken_at p m q bytes left rest frame before now h front up broken same = record {
    middle = m;
    left = left;
    out = h.more;
    served = h.holds;
    broken = inr (record { frame = frame; rest = rest; front = front; up = up; broken = broken; same = same });
  }
