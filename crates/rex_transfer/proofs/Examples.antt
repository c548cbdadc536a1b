-- The definitions on examples.
use Rattle.std.specs.Prelude.{◌≡◌, ◌∷◌, [], refl}
use Rattle.rex_transfer.specs.Window.{WindowValue, known_of, pushed, dropped_to}

-- a window that holds the values of instances 3 and 4
two : WindowValue
two = record { offset = 2; values = (7 ∷ []) ∷ (8 ∷ []) ∷ [] }

known : known_of two ≡ 4
unfolding two
known = refl

one_more : pushed two (9 ∷ []) ≡ record { offset = 2; values = (7 ∷ []) ∷ (8 ∷ []) ∷ (9 ∷ []) ∷ [] }
unfolding two
one_more = refl

one_less : dropped_to two 3 ≡ record { offset = 3; values = (8 ∷ []) ∷ [] }
unfolding two
one_less = refl
