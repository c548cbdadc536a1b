-- Reading numbers from the front of bytes, from left to right, with the first field that is bad.
use Rattle.std.specs.Prelude.{◌≡◌, ◌==◌, ℕ, zero, suc, ◌+◌, ℤ, Bool, List, [], ◌∷◌, length, take, drop, nat_lt, nat_le, Result, Ok, Err, if◌then◌else◌}
use Rattle.std.specs.Borrow.{Bor}
use Rattle.std.specs.Int.{Width, w32, w64, byte_len, from_be_bytes, cast_signed}
use Rattle.rex_wire.specs.declared.fault.Short.{Short}
use Rattle.rex_ballot.specs.declared.proposal.TheConstants.{VALUE_BYTES}

-- how many bytes were read, and those that are left
pub record Left : Type 0 where
  pub at : ℕ
  pub rest : List ℕ

-- what reading gives: a value and what is left after it, or the offset at which the first bad field begins
abbrev pub Reading : Type 0 → Type 0
Reading A = Result (A × Left) ℕ

-- a step, and then the next one by what it gave
infixl 10 ◌>>=◌
abbrev pub ◌>>=◌ : {A B : Type 0} → Result A ℕ → (A → Result B ℕ) → Result B ℕ
(Ok x) >>= f = f x
(Err at) >>= f = Err at

-- after so many bytes
abbrev pub past : ℕ → Left → Left
past n l = record { at = l.at + n; rest = drop n l.rest }

-- so many bytes
abbrev pub bytes_at : ℕ → Left → Reading (List ℕ)
bytes_at n l = if nat_lt (length l.rest) n then Err l.at else Ok (take n l.rest, past n l)

-- a number of this width, its most significant byte first
abbrev pub number_at : Width → Left → Reading ℕ
number_at w l = if nat_lt (length l.rest) (byte_len w) then Err l.at else Ok (from_be_bytes w (take (byte_len w) l.rest), past (byte_len w) l)

-- a signed number of 64 bits
abbrev pub signed_at : Left → Reading ℤ
signed_at l = number_at w64 l >>= λ n. Ok (cast_signed w64 n.0, n.1)

-- a number of this width that is allowed
abbrev pub allowed_at : Width → (ℕ → Bool) → Left → Reading ℕ
allowed_at w is_allowed l = number_at w l >>= λ n. if is_allowed n.0 then Ok n else Err l.at

-- how many bytes a value may have
abbrev pub is_length : ℕ → Bool
is_length n = nat_le n VALUE_BYTES

-- a value: its length and its bytes, whatever they are
unfoldable pub value_at : Left → Reading (List ℕ)
value_at l = do
  count ← allowed_at w32 is_length l
  bytes_at count.0 count.1

-- so many items one after the other, each read by what those before it led to
unfoldable pub list_at : {S A : Type 0} → (S → Left → Reading A) → (S → A → S) → ℕ → S → Left → Reading (List A)
list_at read next zero s l = Ok ([], l)
list_at read next (suc n) s l = do
  first ← read s l
  others ← list_at read next n (next s first.0) first.1
  Ok (first.0 ∷ others.0, others.1)

-- all of some bytes, before the first is read
abbrev pub all_left : List ℕ → Left
all_left bytes = record { at = 0; rest = bytes }

-- what is spelled by all of the bytes, or the offset at which the first bad field begins; of bytes after a whole spelling that is its length
abbrev pub whole : {A : Type 0} → (Left → Reading A) → List ℕ → Result A ℕ
whole read bytes = do
  x ← read (all_left bytes)
  if length x.1.rest == 0 then Ok x.0 else Err x.1.at

-- what a call on a reader answers, and the reader after it, are what reading gives; where too few bytes are left the reader stays
abbrev pub Reads : {A : Type 0} → Result A Short → Left → Left → Reading A → Type 0
Reads (Ok x) old new read = read ≡ Ok (x, new)
Reads (Err e) old new read = (read ≡ Err e.at) × (new ≡ old)

-- the same of a call that answers bytes
abbrev pub ReadsBytes : Result (Bor (List ℕ)) Short → Left → Left → Reading (List ℕ) → Type 0
ReadsBytes (Ok x) old new read = read ≡ Ok (x.now, new)
ReadsBytes (Err e) old new read = (read ≡ Err e.at) × (new ≡ old)
