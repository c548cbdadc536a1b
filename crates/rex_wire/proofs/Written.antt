-- Fields that are written one after the other.
use Rattle.std.proofs.Common.{◌≡◌, ℕ, ◌+◌, ◌<◌, List, [], ◌∷◌, ◌++◌, length, get_or, take, Result, sym, ap, ◌∙◌, append_assoc}
use Rattle.std.specs.Prelude.{OnOk}
use Rattle.std.specs.List.{flat_map}
use Rattle.std.proofs.lemmas.List.{take_more, flat_map_more}
use Rattle.std.proofs.lemmas.Result.{on_ok_weaker}

-- ---- the last one by a call whose answer is handed on

-- a field, and then the last
pub then_last : {T E : Type 0} (r : Result T E) (start first new s t : List ℕ) → first ≡ start ++ s → OnOk r (new ≡ first ++ t) → OnOk r (new ≡ start ++ (s ++ t))
then_last r start first new s t one last = on_ok_weaker r (λ (e : new ≡ first ++ t). e ∙ ap (λ (text : List ℕ). text ++ t) one ∙ append_assoc start s t) last

-- two fields, and then the last
pub two_then_last : {T E : Type 0} (r : Result T E) (start first second new s t u : List ℕ) → first ≡ start ++ s → second ≡ first ++ t → OnOk r (new ≡ second ++ u) → OnOk r (new ≡ start ++ (s ++ (t ++ u)))
two_then_last r start first second new s t u one two last = then_last r start first new s (t ++ u) one (then_last r first second new t u two last)

-- ---- by a loop

-- one item more is written
pub written_more : {A : Type 0} (spell : A → List ℕ) (start so_far new : List ℕ) (xs : List A) (i : ℕ) (x d : A) → i < length xs → x ≡ get_or xs i d → new ≡ so_far ++ spell x → so_far ≡ start ++ flat_map spell (take i xs) → new ≡ start ++ flat_map spell (take (i + 1) xs)
written_more spell start so_far new xs i x d lt is step before =
    let taken = take_more xs i d lt ∙ ap (λ y. take i xs ++ y ∷ []) (sym is) in
    step ∙ ap (λ (t : List ℕ). t ++ spell x) before ∙ flat_map_more spell start (take i xs) x ∙ ap (λ ys. start ++ flat_map spell ys) (sym taken)
