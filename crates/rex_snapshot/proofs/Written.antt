-- Writing values one after the other, as a loop does.
use Rattle.std.proofs.Common.{◌≡◌, ℕ, List, ◌∷◌, ◌++◌, sym, ap, ◌∙◌, append_assoc}
use Rattle.std.specs.List.{flat_map}

-- the next value is written, and those after it are left
pub written_on : {A : Type 0} (spell : A → List ℕ) (written new whole : List ℕ) (x : A) (rest all : List A) → new ≡ written ++ spell x → all ≡ x ∷ rest → written ++ flat_map spell all ≡ whole → new ++ flat_map spell rest ≡ whole
written_on {A} spell written new whole x rest all step parts so_far =
    ap (λ (t : List ℕ). t ++ flat_map spell rest) step ∙ append_assoc written (spell x) (flat_map spell rest) ∙ ap (λ (xs : List A). written ++ flat_map spell xs) (sym parts) ∙ so_far

-- eight pieces are written one after the other
pub written_whole : (start a b c d e f g h : List ℕ) (w1 w2 w3 w4 w5 w6 w7 w8 : List ℕ) → w1 ≡ start ++ a → w2 ≡ w1 ++ b → w3 ≡ w2 ++ c → w4 ≡ w3 ++ d → w5 ≡ w4 ++ e → w6 ≡ w5 ++ f → w7 ≡ w6 ++ g → w8 ≡ w7 ++ h → w8 ≡ start ++ (a ++ b ++ c ++ d ++ e ++ f ++ g ++ h)
written_whole start a b c d e f g h w1 w2 w3 w4 w5 w6 w7 w8 p1 p2 p3 p4 p5 p6 p7 p8 = rw (p8, p7, p6, p5, p4, p3, p2, p1) (simp append_assoc)
