-- Fields one after the other: what is read is spelled so, and what is spelled so is read again.
use Rattle.std.proofs.Common.{◌≡◌, ℕ, ◌+◌, ◌<◌, Bool, true, false, cond, List, [], ◌++◌, length, get_or, take, drop, Result, Ok, Err, refl, sym, ap, subst, ◌∙◌, append_assoc, arith, inl, inr, length-append}
use Rattle.std.proofs.lemmas.Bool.{cases_lt}
use Rattle.std.proofs.lemmas.List.{length-take, get_or-drop, get_or-take, get_or_past}
use Rattle.rex_wire.specs.Reading.{Left, Reading, ◌>>=◌}

-- ---- bytes

abbrev pub IsBytes : List ℕ → Type 0
IsBytes bytes = (i : ℕ) → get_or bytes i 0 < 256

pub IsBytes-drop : (n : ℕ) (bytes : List ℕ) → IsBytes bytes → IsBytes (drop n bytes)
IsBytes-drop n bytes h i = rw get_or-drop (h (n + i))

pub IsBytes-take : (n : ℕ) (bytes : List ℕ) → IsBytes bytes → IsBytes (take n bytes)
IsBytes-take n bytes h i =
    elim (cases_lt i n) [
      | inl lt ↦ rw (get_or-take n bytes i 0 lt) (h i)
      | inr le ↦ rw (get_or_past (take n bytes) i 0 (omega (arith, length-take n bytes))) (omega arith)
    ]

-- ---- steps

-- the value of a step that did not fail
pub bind_ok : {A B : Type 0} (r : Result A ℕ) (f : A → Result B ℕ) (y : B) → (r >>= f) ≡ Ok y → (x : A) × (r ≡ Ok x) × (f x ≡ Ok y)
bind_ok (Ok x) f y e = (x, refl, e)
bind_ok (Err at) f y e = absurd cc

-- a test that did not fail
pub guard_ok : {A : Type 0} (b : Bool) (at : ℕ) (x y : A) → cond b (Err at) (Ok x) ≡ Ok y → (b ≡ false) × (x ≡ y)
guard_ok true at x y e = absurd cc
guard_ok false at x y e = (refl, cc)

-- a test that held
pub test_ok : {A : Type 0} (b : Bool) (at : ℕ) (x y : A) → cond b (Ok x) (Err at) ≡ Ok y → (b ≡ true) × (x ≡ y)
test_ok true at x y e = (refl, cc)
test_ok false at x y e = absurd cc

abbrev done : {A : Type 0} → A → Result A ℕ
done x = Ok x

pub ok_is : {A : Type 0} (x y : A) → done x ≡ done y → x ≡ y
ok_is x y e = cc

-- ---- what is read is spelled so

-- what a reader took from the front
pub record Takes (l : Left) (text : List ℕ) (after : Left) : Type 0 where
  pub parts : l.rest ≡ text ++ after.rest
  pub bytes : IsBytes after.rest

pub Takes-none : (l : Left) → IsBytes l.rest → Takes l [] l
Takes-none l bytes = record { parts = refl; bytes = bytes }

pub Takes-then : (l m n : Left) (x y : List ℕ) → Takes l x m → Takes m y n → Takes l (x ++ y) n
Takes-then l m n x y p q = record { parts = p.parts ∙ ap (λ (t : List ℕ). x ++ t) q.parts ∙ sym (append_assoc x y n.rest); bytes = q.bytes }

-- what is read is spelled so, and is such a value
pub record IsSpelled {A : Type 0} (read : Left → Reading A) (spell : A → List ℕ) (May : A → Type 0) : Type 0 where
  pub takes : (l : Left) (x : A × Left) → IsBytes l.rest → read l ≡ Ok x → Takes l (spell x.0) x.1 × May x.0

pub IsSpelled-weaker : {A : Type 0} {read : Left → Reading A} {spell : A → List ℕ} (May Also : A → Type 0) → ((x : A) → May x → Also x) → IsSpelled read spell May → IsSpelled read spell Also
IsSpelled-weaker May Also more h = record { takes = λ l x bytes e. let t = h.takes l x bytes e in (t.0, more x.0 t.1) }

-- what was taken is what was read
pub is_taken : {A : Type 0} (spell : A → List ℕ) (May : A → Type 0) (l : Left) (made x : A × Left) → done made ≡ done x → Takes l (spell made.0) made.1 × May made.0 → Takes l (spell x.0) x.1 × May x.0
is_taken spell May l made x e t = subst (λ y. Takes l (spell y.0) y.1 × May y.0) (ok_is made x e) t

-- either way of reading, as a test says
pub IsSpelled-either : {A : Type 0} (b : Bool) (read other : Left → Reading A) (spell : A → List ℕ) (May : A → Type 0) → (b ≡ true → IsSpelled read spell May) → (b ≡ false → IsSpelled other spell May) → IsSpelled (λ l. cond b (read l) (other l)) spell May
IsSpelled-either true read other spell May h k = record { takes = (h refl).takes }
IsSpelled-either false read other spell May h k = record { takes = (k refl).takes }

-- the first field was read, and then the others
pub record Step {A B : Type 0} (spell : A → List ℕ) (May : A → Type 0) (l : Left) (others : A × Left → Result B ℕ) (y : B) : Type 0 where
  pub value : A
  pub left : Left
  pub takes : Takes l (spell value) left
  pub may : May value
  pub next : others (value, left) ≡ Ok y

pub step : {A B : Type 0} {read : Left → Reading A} {spell : A → List ℕ} {May : A → Type 0} → IsSpelled read spell May → (l : Left) (others : A × Left → Result B ℕ) (y : B) → IsBytes l.rest → (read l >>= others) ≡ Ok y → Step spell May l others y
step {read = read} h l others y bytes e =
    let b = bind_ok (read l) others y e in
    let t = h.takes l b.0 bytes b.1 in
    record { value = b.0.0; left = b.0.1; takes = t.0; may = t.1; next = b.2 }

-- ---- what is spelled so is read again

-- bytes that are left after so many others
abbrev pub left_at : ℕ → List ℕ → Left
left_at at rest = record { at = at; rest = rest }

-- the text is read as this value, whatever follows it
pub record IsRead {A : Type 0} (read : Left → Reading A) (text : List ℕ) (x : A) : Type 0 where
  pub again : (at : ℕ) (rest : List ℕ) → read (left_at at (text ++ rest)) ≡ Ok (x, left_at (at + length text) rest)

pub IsRead-none : {A : Type 0} (x : A) → IsRead (λ l. Ok (x, l)) [] x
IsRead-none x = record { again = λ at rest. ap (λ (n : ℕ). done (x, left_at n rest)) (omega arith) }

pub IsRead-then : {A B : Type 0} (read : Left → Reading A) (others : A × Left → Reading B) (s t : List ℕ) (a : A) (b : B) → IsRead read s a → IsRead (λ l. others (a, l)) t b → IsRead (λ l. read l >>= others) (s ++ t) b
IsRead-then read others s t a b h k = record {
  again = λ at rest.
      ap (λ (bytes : List ℕ). read (left_at at bytes) >>= others) (append_assoc s t rest)
      ∙ ap (λ r. r >>= others) (h.again at (t ++ rest))
      ∙ k.again (at + length s) rest
      ∙ ap (λ (n : ℕ). done (b, left_at n rest)) (omega (arith, length-append s t));
}

-- a last field
pub IsRead-last : {A B : Type 0} (read : Left → Reading A) (make : A → B) (s : List ℕ) (a : A) → IsRead read s a → IsRead (λ l. read l >>= λ x. Ok (make x.0, x.1)) s (make a)
IsRead-last read make s a h = record {
  again = λ at rest. ap (λ r. r >>= λ x. Ok (make x.0, x.1)) (h.again at rest);
}

-- the same by another name
pub IsRead-same : {A : Type 0} (read other : Left → Reading A) (text : List ℕ) (x : A) → ((l : Left) → read l ≡ other l) → IsRead other text x → IsRead read text x
IsRead-same read other text x same h = record { again = λ at rest. same (left_at at (text ++ rest)) ∙ h.again at rest }
