-- What windows tell of a list.
use Rattle.std.specs.Prelude.{◌≡◌, ℕ, ◌-◌, ◌<◌, ◌≤◌, List, [], ◌∷◌, ◌++◌, length, Some, slice_get}
use Rattle.rex_transfer.specs.Window.{WindowValue, known_of, pushed, dropped_to}

-- the window is one of the list: it knows a front of the list, and holds what stands in that after its offset
pub record IsWindowOf (values : List (List ℕ)) (w : WindowValue) : Type 0 where
  pub front : List (List ℕ)
  pub rest : List (List ℕ)
  pub offset : length front ≡ w.offset
  pub parts : values ≡ front ++ (w.values ++ rest)

-- it stays one where it takes the list's next value, forgets values, or jumps to an instance of the list
pub record WindowsStay : Type 0 where
  pub pushed : (front : List (List ℕ)) (value : List ℕ) (rest : List (List ℕ)) (w : WindowValue) → IsWindowOf front w → length front ≡ known_of w → IsWindowOf (front ++ value ∷ rest) (pushed w value)
  pub dropped : (values : List (List ℕ)) (w : WindowValue) (instance : ℕ) → w.offset ≤ instance → instance ≤ known_of w → IsWindowOf values w → IsWindowOf values (dropped_to w instance)
  pub jumped : (values : List (List ℕ)) (instance : ℕ) → instance ≤ length values → IsWindowOf values (record { offset = instance; values = [] })

-- what it holds for an instance is the list's value
abbrev pub WindowsTell : Type 0
WindowsTell =
    (values : List (List ℕ)) (w : WindowValue) (instance : ℕ) (value : List ℕ) → IsWindowOf values w → w.offset < instance
    → slice_get w.values (instance - w.offset - 1) ≡ Some value → slice_get values (instance - 1) ≡ Some value
