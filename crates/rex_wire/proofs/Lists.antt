-- Lists whose items are read one after the other: each is spelled so, and is read again.
use Rattle.std.proofs.Common.{◌≡◌, ℕ, zero, suc, List, [], ◌∷◌, ◌++◌, length, Ok, refl, sym, ap, ◌∙◌, append_assoc}
use Rattle.std.specs.List.{flat_map, All}
use Rattle.std.proofs.lemmas.List.{append-nil}
use Rattle.std.proofs.lemmas.List.Elements.{All-nil, All-cons, All-head, All-tail}
use Rattle.rex_wire.specs.Reading.{Left, Reading, ◌>>=◌, list_at}
use Rattle.rex_wire.proofs.Fields.{is_taken, Takes-none, Takes-then, IsSpelled, step, IsRead, IsRead-none, IsRead-then, IsRead-last, IsRead-same}
use Rattle.rex_wire.proofs.Repeated.{IsRepeated}

abbrev pub alone : {A : Type 0} → A → List A
alone x = x ∷ []

abbrev pub joined : {A : Type 0} → List A → List A → List A
joined xs ys = xs ++ ys

abbrev pub same : {S A : Type 0} → S → A → S
same s x = s

-- a list is read so
abbrev pub list_in : {S A : Type 0} → (S → Left → Reading A) → (S → A → S) → S → ℕ → Left → Reading (List A)
list_in read next s n l = list_at read next n s l

pub list_repeated : {S A : Type 0} (read : S → Left → Reading A) (next : S → A → S) → IsRepeated read next [] alone joined (list_in read next)
unfolding list_at
list_repeated read next = record {
  at_zero = λ s l. refl;
  at_suc = λ s n l. refl;
  nothing = λ xs. append-nil xs;
  joined = λ a b c. append_assoc a b c;
}

-- each item is such a one after those before it
abbrev pub AreEach : {S A : Type 0} → (S → A → S) → (S → A → Type 0) → S → List A → Type 0
AreEach next May s [] = Unit {0}
AreEach next May s (x ∷ xs) = May s x × AreEach next May (next s x) xs

pub AreEach-to_all : {A : Type 0} (P : A → Type 0) (s : Unit {0}) (xs : List A) → AreEach same (λ _. P) s xs → All P xs
AreEach-to_all P s [] each = All-nil P
AreEach-to_all P s (x ∷ xs) each = All-cons P x xs each.0 (AreEach-to_all P s xs each.1)

pub AreEach-from_all : {A : Type 0} (P : A → Type 0) (s : Unit {0}) (xs : List A) → All P xs → AreEach same (λ _. P) s xs
AreEach-from_all P s [] all = tt
AreEach-from_all P s (x ∷ xs) all = (All-head P x xs all, AreEach-from_all P s xs (All-tail P x xs all))

module _ {S A : Type 0} (read : S → Left → Reading A) (next : S → A → S) (all : S → ℕ → Left → Reading (List A)) (h : IsRepeated read next [] alone joined all) (spell : A → List ℕ) (May : S → A → Type 0) where
  pub list_spelled : ((s : S) → IsSpelled (read s) spell (May s)) → (n : ℕ) (s : S) → IsSpelled (all s n) (flat_map spell) (λ xs. AreEach next May s xs × (length xs ≡ n))
  list_spelled each zero s = record {
    takes = λ l x bytes e.
        is_taken (flat_map spell) (λ xs. AreEach next May s xs × (length xs ≡ 0)) l ([], l) x (sym (h.at_zero s l) ∙ e) (Takes-none l bytes, (tt, refl));
  }
  list_spelled each (suc n) s = record {
    takes = λ l x bytes e.
        let a = step (each s) l (λ y. all (next s y.0) n y.1 >>= λ z. Ok (joined (alone y.0) z.0, z.1)) x bytes (sym (h.at_suc s n l) ∙ e) in
        let b = step (list_spelled each n (next s a.value)) a.left (λ z. Ok (a.value ∷ z.0, z.1)) x a.takes.bytes a.next in
        is_taken (flat_map spell) (λ xs. AreEach next May s xs × (length xs ≡ suc n)) l (a.value ∷ b.value, b.left) x b.next
        (Takes-then l a.left b.left (spell a.value) (flat_map spell b.value) a.takes b.takes, ((a.may, b.may.0), ap suc b.may.1));
  }

  pub list_again : ((s : S) (x : A) → May s x → IsRead (read s) (spell x) x) → (s : S) (xs : List A) → AreEach next May s xs → IsRead (all s (length xs)) (flat_map spell xs) xs
  list_again again s [] each = IsRead-same (all s 0) (λ l. Ok ([], l)) [] [] (h.at_zero s) (IsRead-none [])
  list_again again s (x ∷ xs) each =
      let n = length xs in
      IsRead-same (all s (suc n)) (λ l. read s l >>= λ y. all (next s y.0) n y.1 >>= λ z. Ok (joined (alone y.0) z.0, z.1)) (spell x ++ flat_map spell xs) (x ∷ xs) (h.at_suc s n)
      (IsRead-then (read s) (λ y. all (next s y.0) n y.1 >>= λ z. Ok (joined (alone y.0) z.0, z.1)) (spell x) (flat_map spell xs) x (x ∷ xs) (again s x each.0)
      (IsRead-last (all (next s x) n) (λ ys. x ∷ ys) (flat_map spell xs) xs (list_again again (next s x) xs each.1)))
