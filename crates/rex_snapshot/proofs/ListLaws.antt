-- Lists of items that are read one after the other: each is spelled so, and is read again.
use Rattle.std.proofs.Common.{◌≡◌, ℕ, List, [], ◌∷◌, length, Ok}
use Rattle.std.specs.List.{flat_map, All}
use Rattle.std.proofs.lemmas.List.Elements.{All-nil, All-cons}
use Rattle.arrayvec.specs.ArrayVec.{ArrayVec}
use Rattle.rex_wire.specs.Reading.{Left, Reading, list_at}
use Rattle.rex_wire.proofs.Fields.{is_taken, IsSpelled, step, IsRead, IsRead-last}
use Rattle.rex_wire.proofs.Lists.{list_in, list_repeated, AreEach}
use Rattle.rex_wire.proofs.Lists as lists
use Rattle.rex_snapshot.specs.Reading.{into_array}

-- what is so after those before it is such an item anyhow
pub AreEach-all : {S A : Type 0} (next : S → A → S) (May : S → A → Type 0) (P : A → Type 0) → ((s : S) (x : A) → May s x → P x) → (s : S) (xs : List A) → AreEach next May s xs → All P xs
AreEach-all next May P more s [] each = All-nil P
AreEach-all next May P more s (x ∷ xs) each = All-cons P x xs (more s x each.0) (AreEach-all next May P more (next s x) xs each.1)

module _ {S A : Type 0} (read : S → Left → Reading A) (next : S → A → S) (spell : A → List ℕ) (May : S → A → Type 0) where
  pub list_spelled : ((s : S) → IsSpelled (read s) spell (May s)) → (n : ℕ) (s : S) → IsSpelled (list_at read next n s) (flat_map spell) (λ xs. AreEach next May s xs × (length xs ≡ n))
  list_spelled each n s = lists.list_spelled read next (list_in read next) (list_repeated read next) spell May each n s

  pub list_again : ((s : S) (x : A) → May s x → IsRead (read s) (spell x) x) → (s : S) (xs : List A) → AreEach next May s xs → IsRead (list_at read next (length xs) s) (flat_map spell xs) xs
  list_again again s xs each = lists.list_again read next (list_in read next) (list_repeated read next) spell May again s xs each

-- ---- arrays

abbrev pub array_of : {A : Type 0} → List A → ArrayVec A
array_of xs = record { items = xs }

pub array_spelled : {A : Type 0} {read : Left → Reading (List A)} {spell : List A → List ℕ} {May : List A → Type 0} → IsSpelled read spell May → IsSpelled (λ l. into_array (read l)) (λ a. spell a.items) (λ a. May a.items)
array_spelled {A} {read} {spell} {May} h = record {
  takes = λ l x bytes e.
      let a = step h l (λ xs. Ok (array_of xs.0, xs.1)) x bytes e in
      is_taken (λ (b : ArrayVec A). spell b.items) (λ b. May b.items) l (array_of a.value, a.left) x a.next (a.takes, a.may);
}

pub array_again : {A : Type 0} (read : Left → Reading (List A)) (text : List ℕ) (xs : List A) → IsRead read text xs → IsRead (λ l. into_array (read l)) text (array_of xs)
array_again {A} read text xs h = IsRead-last read array_of text xs h
