-- The array and the count are known from the list.
use Rattle.std.proofs.Common.{◌≡◌, ℕ, List, length, take, drop, replicate, ◌-◌, ◌++◌, ap, sym, ◌∙◌, arith, length-take, take-append-drop, refl}
use Rattle.std.specs.Prelude.{ℤ, pos}
use Rattle.rex_list.specs.Arguments.{IsArguments, arguments_view}
use Rattle.rex_list.specs.declared.arguments.Arguments.TheInside.{Inside}
use Rattle.rex_list.specs.declared.arguments.TheConstants.{ARGUMENTS}

pub inverse_undoes : (values : List ℤ) (count : ℕ) → IsArguments values count → (let i : Inside = record { values = arguments_view values count ++ replicate (ARGUMENTS - length (arguments_view values count)) (pos 0); count = length (arguments_view values count) } in i) ≡ (let j : Inside = record { values = values; count = count } in j)
inverse_undoes values count h =
    let n : length (take count values) ≡ count = rw length-take (omega (arith, h.few, h.long)) in
    let whole : take count values ++ replicate (ARGUMENTS - count) (pos 0) ≡ values = ap (λ r. take count values ++ r) (sym h.rest) ∙ take-append-drop count values in
    rw (n, whole) refl
