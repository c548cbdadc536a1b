-- Spellings that are all of the bytes.
use Rattle.std.proofs.Common.{◌≡◌, ℕ, ◌+◌, cond, List, [], ◌++◌, length, Result, Ok, Err, sym, ap, subst, ◌∙◌}
use Rattle.std.specs.Prelude.{◌==◌, IfOk}
use Rattle.std.proofs.lemmas.Bool.{eqb-true}
use Rattle.std.proofs.lemmas.List.{append-nil, nil_from_length}
use Rattle.rex_wire.specs.declared.fault.DecodeError.{DecodeError}
use Rattle.rex_wire.specs.Decoding.{Gives}
use Rattle.rex_wire.specs.Reading.{Left, Reading, ◌>>=◌, all_left, whole}
use Rattle.rex_wire.proofs.Fields.{IsBytes, ok_is, test_ok, left_at, IsSpelled, step, IsRead}

-- all of the bytes spell it
pub record IsFound {A : Type 0} (spell : A → List ℕ) (May : A → Type 0) (bytes : List ℕ) (x : A) : Type 0 where
  pub has : May x
  pub bytes_are : bytes ≡ spell x

-- what is read of all of the bytes is spelled so
pub whole_found : {A : Type 0} {read : Left → Reading A} {spell : A → List ℕ} {May : A → Type 0} → IsSpelled read spell May → (bytes : List ℕ) (x : A) → IsBytes bytes → whole read bytes ≡ Ok x → IsFound spell May bytes x
whole_found {spell = spell} {May = May} spelled bytes x fits e =
    let a = step spelled (all_left bytes) (λ y. cond (length y.1.rest == 0) (Ok y.0) (Err y.1.at)) x fits e in
    let g = test_ok (length a.left.rest == 0) a.left.at a.value x a.next in
    let nothing : a.left.rest ≡ [] = nil_from_length a.left.rest (eqb-true _ _ g.0) in
    let all : bytes ≡ spell a.value = a.takes.parts ∙ ap (λ (r : List ℕ). spell a.value ++ r) nothing ∙ append-nil (spell a.value) in
    subst (λ v. IsFound spell May bytes v) g.1 (record { has = a.may; bytes_are = all })

pub is_found : {A : Type 0} {read : Left → Reading A} {spell : A → List ℕ} {May : A → Type 0} → IsSpelled read spell May → (bytes : List ℕ) (r : Result A DecodeError) → IsBytes bytes → Gives r (whole read bytes) → IfOk r (λ x. May x × (bytes ≡ spell x))
is_found spelled bytes (Ok x) fits given = let f = whole_found spelled bytes x fits given in (f.has, f.bytes_are)
is_found spelled bytes (Err e) fits given = tt

-- what is spelled so is read of it
pub whole_again : {A : Type 0} {read : Left → Reading A} {text : List ℕ} {x : A} → IsRead read text x → whole read text ≡ Ok x
whole_again {read = read} {text = text} {x = x} h =
    let r : read (all_left text) ≡ Ok (x, left_at (0 + length text) []) = ap (λ (bytes : List ℕ). read (all_left bytes)) (sym (append-nil text)) ∙ h.again 0 [] in
    ap (λ y. y >>= λ z. cond (length z.1.rest == 0) (Ok z.0) (Err z.1.at)) r

same_read : {A : Type 0} (x y : A) (i j : ℕ) (rest : List ℕ) → (let r : Reading A = Ok (x, left_at i []) in r) ≡ Ok (y, left_at j rest) → (x ≡ y) × (rest ≡ [])
same_read {A} x y i j rest h =
    let p = ok_is (x, left_at i []) (y, left_at j rest) h in
    (ap (λ (z : A × Left). z.0) p, sym (ap (λ (z : A × Left). z.1.rest) p))

-- no text that is read begins another
pub begins_no_other : {A : Type 0} {read : Left → Reading A} {s t : List ℕ} {x y : A} → IsRead read s x → IsRead read t y → (rest : List ℕ) → s ≡ t ++ rest → (x ≡ y) × (rest ≡ [])
begins_no_other {read = read} {s = s} {t = t} {x = x} {y = y} h k rest same_bytes =
    let one : s ++ [] ≡ t ++ rest = append-nil s ∙ same_bytes in
    same_read x y (0 + length s) (0 + length t) rest (sym (h.again 0 []) ∙ ap (λ (bytes : List ℕ). read (left_at 0 bytes)) one ∙ k.again 0 rest)
