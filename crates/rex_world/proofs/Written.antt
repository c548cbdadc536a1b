-- A report that is written piece by piece.
use Rattle.rex_world.proofs.Common.{◌≡◌, ℕ, List, [], ◌∷◌, ◌++◌, length, take, drop, refl, sym, ap, ◌∙◌, append_assoc, append-nil, take-append-drop, GrowsByFront, IsWritten}
use Rattle.rex_traits.proofs.Known.{grows_more}

take_none : (xs : List ℕ) → take 0 xs ≡ []
take_none [] = refl
take_none (x ∷ xs) = refl

take_whole : (xs ys : List ℕ) → take (length xs) (xs ++ ys) ≡ xs
take_whole [] ys = take_none ys
take_whole (x ∷ xs) ys = ap (λ zs. x ∷ zs) (take_whole xs ys)

-- nothing was written
pub front_none : {a : List ℕ} (bytes : List ℕ) → GrowsByFront a a bytes
front_none {a} bytes = (0, sym (ap (λ xs. a ++ xs) (take_none bytes) ∙ append-nil a))

-- what was written begins the whole
front_of : (a : List ℕ) {b : List ℕ} (front rest : List ℕ) {whole : List ℕ} → b ≡ a ++ front → front ++ rest ≡ whole → GrowsByFront a b whole
front_of a front rest h e = (length front, h ∙ ap (λ xs. a ++ xs) (sym (ap (take (length front)) (sym e) ∙ take_whole front rest)))

module _ {a b : List ℕ} (c : List ℕ) {waiting : List ℕ} (text : List ℕ) {rest : List ℕ} (left : List ℕ) {whole : List ℕ} (h : IsWritten a b waiting rest whole) (is : rest ≡ text ++ left) where
  -- a front of what comes next was written
  pub front_next : GrowsByFront b c (waiting ++ text) → GrowsByFront a c whole
  front_next f =
      front_of a _ _ (grows_more a b c h.written _ h.taken f.1)
      (append_assoc h.written (take f.0 (waiting ++ text)) (drop f.0 (waiting ++ text) ++ left)
      ∙ ap (λ xs. h.written ++ xs)
      (sym (append_assoc (take f.0 (waiting ++ text)) (drop f.0 (waiting ++ text)) left) ∙ ap (λ xs. xs ++ left) (take-append-drop f.0 (waiting ++ text)) ∙ append_assoc waiting text left ∙ ap (λ xs. waiting ++ xs) (sym is))
      ∙ h.parts)

  -- what comes next was written, or waits
  pub written_next : {now : List ℕ} → IsWritten b c now [] (waiting ++ text) → IsWritten a c now left whole
  written_next {now} k = record {
    written = h.written ++ k.written;
    taken = grows_more a b c h.written k.written h.taken k.taken;
    parts =
        append_assoc h.written k.written (now ++ left)
        ∙ ap (λ xs. h.written ++ xs)
        (sym (append_assoc k.written now left) ∙ ap (λ xs. (k.written ++ xs) ++ left) (sym (append-nil now)) ∙ ap (λ xs. xs ++ left) k.parts ∙ append_assoc waiting text left ∙ ap (λ xs. waiting ++ xs) (sym is))
        ∙ h.parts;
  }

-- what waits and the rest are written last
pub written_last : {a b c waiting text rest whole : List ℕ} → IsWritten a b waiting rest whole → rest ≡ text → c ≡ b ++ (waiting ++ text) → c ≡ a ++ whole
written_last {a} {b} {c} {waiting} {text} h is k =
    grows_more a b c h.written _ h.taken k ∙ ap (λ xs. a ++ xs) (ap (λ xs. h.written ++ (waiting ++ xs)) (sym is) ∙ h.parts)
