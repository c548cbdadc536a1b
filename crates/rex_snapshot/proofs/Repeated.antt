-- Reading lists of items one after the other, as a loop does.
use Rattle.std.proofs.Common.{◌≡◌, ℕ, ◌-◌, ◌+◌, ◌≤◌, ◌<◌, List, [], ◌∷◌, ◌++◌, Ok, Err, refl, ap, ◌∙◌, arith}
use Rattle.rex_wire.specs.Reading.{Left, Reading, list_at}
use Rattle.rex_wire.specs.Decoding.{Fails}
use Rattle.rex_wire.specs.declared.fault.DecodeError.{DecodeError}
use Rattle.rex_wire.specs.declared.fault.DecodeError.TheVariants.{Bad, OutOfMemory}
use Rattle.rex_wire.proofs.Lists.{alone, joined, list_in, list_repeated}
use Rattle.rex_wire.proofs.Repeated as repeated
use Rattle.rex_snapshot.specs.Reading.{into_array}

-- what was read before, and what is still read
abbrev pub with_front : {A : Type 0} → List A → Reading (List A) → Reading (List A)
with_front front read = repeated.with_front joined front read

-- what fails as a list fails as an array
pub fails_too : {A : Type 0} (e : DecodeError) (r : Reading (List A)) → Fails e r → Fails e (into_array r)
fails_too {A} (Bad at) r h = ap (λ (q : Reading (List A)). into_array q) h
fails_too {A} OutOfMemory r h = tt

module _ {S A : Type 0} (read : S → Left → Reading A) (next : S → A → S) where
  pub goes_on : (s : S) (count i : ℕ) (l : Left) (front : List A) (x : A) (after : Left) (total : Reading (List A)) → i < count → read s l ≡ Ok (x, after) → with_front front (list_at read next (count - i) s l) ≡ total → with_front (front ++ x ∷ []) (list_at read next (count - (i + 1)) (next s x) after) ≡ total
  goes_on s count i l front x after total lt e so_far = repeated.goes_on read next [] alone joined (list_in read next) (list_repeated read next) s count i l front x after total lt e so_far

  pub stops : (s : S) (count i : ℕ) (l : Left) (front : List A) (at : ℕ) (total : Reading (List A)) → i < count → read s l ≡ Err at → with_front front (list_at read next (count - i) s l) ≡ total → total ≡ Err at
  stops s count i l front at total lt e so_far = repeated.stops read next [] alone joined (list_in read next) (list_repeated read next) s count i l front at total lt e so_far

  pub fails : (e : DecodeError) (s : S) (count i : ℕ) (l : Left) (front : List A) (total : Reading (List A)) → i < count → Fails e (read s l) → with_front front (list_at read next (count - i) s l) ≡ total → Fails e total
  fails e s count i l front total lt bad so_far = repeated.fails read next [] alone joined (list_in read next) (list_repeated read next) e s count i l front total lt bad so_far

  pub is_done : (s : S) (count i : ℕ) (l : Left) (front : List A) (total : Reading (List A)) → count ≤ i → with_front front (list_at read next (count - i) s l) ≡ total → total ≡ Ok (front, l)
  is_done s count i l front total le so_far = repeated.is_done read next [] alone joined (list_in read next) (list_repeated read next) s count i l front total le so_far

  -- nothing was read yet
  pub none_yet : (count : ℕ) (s : S) (l : Left) → with_front [] (list_at read next (count - 0) s l) ≡ list_at read next count s l
  none_yet count s l =
      let k : count - 0 ≡ count = omega arith in
      ap (λ (n : ℕ). with_front [] (list_at read next n s l)) k ∙ same (list_at read next count s l)
    where
      same : (r : Reading (List A)) → with_front [] r ≡ r
      same (Ok y) = refl
      same (Err at) = refl
