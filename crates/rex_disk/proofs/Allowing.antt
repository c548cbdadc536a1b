-- Tearing write by write leaves just the images that the rules allow of all writes at once.
use Rattle.std.proofs.Common.{◌≡◌, ◌<◌, ◌≤◌, ◌+◌, ℕ, zero, suc, true, false, List, [], ◌∷◌, length, get_or, take, drop, refl, sym, ◌∙◌, ap, inl, inr, cond, ltb, arith, length-drop, length-take, get_or-take, get_or-drop}
use Rattle.std.specs.Prelude.{◌⊎◌, ◌-◌, min, max, nat_le}
use Rattle.std.proofs.lemmas.Bool.{and_parts, cases_lt, cond_above, cond_below, leb-true}
use Rattle.std.proofs.lemmas.List.{ext_get_or}
use Rattle.rex_disk.specs.Images.{length-overwritten}
use Rattle.rex_disk.specs.Record.{Done, LeftAfter, are_within, seen_after}
use Rattle.rex_disk.specs.Record.Done.{Wrote, Synced}
use Rattle.rex_disk.specs.Rules.{AllowedAreLeft, IsAllowed, greatest_end, old_bytes}
use Rattle.rex_disk.specs.Stops.{Torn}

-- ---- what may be left is allowed

-- a torn write keeps each byte outside its range
torn_keeps : (at n : ℕ) (old new : List ℕ) → Torn at n old new → (i : ℕ) → (i < at) ⊎ (at + n ≤ i) → get_or new i 0 ≡ get_or old i 0
torn_keeps at n old new torn i (inl lt) = sym (get_or-take at new i 0 lt) ∙ ap (λ (l : List ℕ). get_or l i 0) torn.before ∙ get_or-take at old i 0 lt
torn_keeps at n old new torn i (inr le) =
    let k = i - (at + n) in
    let there : at + n + k ≡ i = omega (arith, le) in
    ap (λ (j : ℕ). get_or new j 0) (sym there) ∙ sym (get_or-drop (at + n) new k 0) ∙ ap (λ (l : List ℕ). get_or l k 0) torn.behind ∙ get_or-drop (at + n) old k 0 ∙ ap (λ (j : ℕ). get_or old j 0) there

allowed : (first : List ℕ) (done : List Done) (image : List ℕ) → LeftAfter first done image → IsAllowed first done image
allowed first [] image is = let same = ap length is in record { no_shorter = omega (arith, same); no_longer = omega (arith, same); old = λ i lt untouched. ap (λ (l : List ℕ). get_or l i 0) is }
allowed first (Wrote at bytes failed ∷ earlier) image (old, left, torn) =
    let a = allowed first earlier old left in
    record {
      no_shorter = omega (arith, a.no_shorter, torn.no_shorter);
      no_longer = omega (arith, a.no_longer, torn.no_longer);
      old = λ i lt untouched. torn_keeps at (length bytes) old image torn i untouched.0 ∙ a.old i lt untouched.1;
    }
allowed first (Synced false ∷ earlier) image is = let same = ap length is in record { no_shorter = omega (arith, same); no_longer = omega (arith, same); old = λ i lt untouched. ap (λ (l : List ℕ). get_or l i 0) is }
allowed first (Synced true ∷ earlier) image left = let a = allowed first earlier image left in record { no_shorter = a.no_shorter; no_longer = a.no_longer; old = a.old }

-- ---- what is allowed may be left

-- so many numbers, each given by its place
abbrev listed : ℕ → (ℕ → ℕ) → List ℕ
listed zero f = []
listed (suc n) f = f 0 ∷ listed n (λ i. f (suc i))

length-listed : (n : ℕ) (f : ℕ → ℕ) → length (listed n f) ≡ n
length-listed zero f = refl
length-listed (suc n) f = ap suc (length-listed n (λ i. f (suc i)))

get_or-listed : (n : ℕ) (f : ℕ → ℕ) (i : ℕ) → i < n → get_or (listed n f) i 0 ≡ f i
get_or-listed zero f i lt = absurd (omega (arith, lt))
get_or-listed (suc n) f zero lt = refl
get_or-listed (suc n) f (suc i) lt = get_or-listed n (λ k. f (suc k)) i (omega (arith, lt))

-- an image's byte before a write: the old one where the write went, and else the image's
abbrev byte_before : ℕ → ℕ → List ℕ → List ℕ → ℕ → ℕ
byte_before at n old image i = cond (ltb i at) (get_or image i 0) (cond (ltb i (at + n)) (get_or old i 0) (get_or image i 0))

module _ (at n : ℕ) (old image : List ℕ) where
  outside : (i : ℕ) → (i < at) ⊎ (at + n ≤ i) → byte_before at n old image i ≡ get_or image i 0
  outside i (inl lt) = sym (cond_below i at (get_or image i 0) (cond (ltb i (at + n)) (get_or old i 0) (get_or image i 0)) lt)
  outside i (inr le) = sym (cond_above i at (get_or image i 0) (cond (ltb i (at + n)) (get_or old i 0) (get_or image i 0)) (get_or image i 0) (omega (arith, le)) (cond_above i (at + n) (get_or old i 0) (get_or image i 0) (get_or image i 0) le refl))

  inside : (i : ℕ) → at ≤ i → i < at + n → byte_before at n old image i ≡ get_or old i 0
  inside i begun within = sym (cond_above i at (get_or image i 0) (cond (ltb i (at + n)) (get_or old i 0) (get_or image i 0)) (get_or old i 0) begun (cond_below i (at + n) (get_or old i 0) (get_or image i 0) within))

-- the image before a write, no longer than what was written by then
abbrev image_before : ℕ → ℕ → List ℕ → List ℕ → ℕ → List ℕ
image_before at n old image end = listed (min (length image) end) (byte_before at n old image)

module _ (at n : ℕ) (old image : List ℕ) (end : ℕ) (begins : at ≤ end) (no_longer : length image ≤ max end (at + n)) where
  long : length (image_before at n old image end) ≡ min (length image) end
  long = length-listed (min (length image) end) (byte_before at n old image)

  byte : (i : ℕ) → i < min (length image) end → get_or (image_before at n old image end) i 0 ≡ byte_before at n old image i
  byte i lt = get_or-listed (min (length image) end) (byte_before at n old image) i lt

  front : take at image ≡ take at (image_before at n old image end)
  front =
      let a = length-take at image in
      let b = length-take at (image_before at n old image end) in
      let e = long in
      ext_get_or 0 (take at image) (take at (image_before at n old image end)) (omega (arith, a, b, e, begins))
      (λ i lt. let in_front : i < at = omega (arith, lt, a) in get_or-take at image i 0 in_front ∙ sym (get_or-take at (image_before at n old image end) i 0 in_front ∙ byte i (omega (arith, lt, a, begins)) ∙ outside at n old image i (inl in_front)))

  back : drop (at + n) image ≡ drop (at + n) (image_before at n old image end)
  back =
      let a = length-drop (at + n) image in
      let b = length-drop (at + n) (image_before at n old image end) in
      let e = long in
      ext_get_or 0 (drop (at + n) image) (drop (at + n) (image_before at n old image end)) (omega (arith, a, b, e, no_longer))
      (λ i lt. get_or-drop (at + n) image i 0 ∙ sym (get_or-drop (at + n) (image_before at n old image end) i 0 ∙ byte (at + n + i) (omega (arith, lt, a, no_longer)) ∙ outside at n old image (at + n + i) (inr (omega arith))))

  torn : Torn at n (image_before at n old image end) image
  torn = record { before = front; behind = back; no_shorter = omega (arith, long); no_longer = omega (arith, long, no_longer) }

  keeps : (i : ℕ) → i < length old → length old ≤ length image → length old ≤ end → ((i < at) ⊎ (at + n ≤ i) → get_or image i 0 ≡ get_or old i 0) → get_or (image_before at n old image end) i 0 ≡ get_or old i 0
  keeps i lt longer within same = byte i (omega (arith, lt, longer, within)) ∙ by (cases_lt i at) (cases_lt i (at + n))
    where
      by : (i < at) ⊎ (at ≤ i) → (i < at + n) ⊎ (at + n ≤ i) → byte_before at n old image i ≡ get_or old i 0
      by (inl in_front) c = outside at n old image i (inl in_front) ∙ same (inl in_front)
      by (inr begun) (inl in_range) = inside at n old image i begun in_range
      by (inr begun) (inr behind) = outside at n old image i (inr behind) ∙ same (inr behind)

-- neither what is read nor what was read at the last sync goes beyond the greatest end
seen_ends : (first : List ℕ) (done : List Done) → are_within first done ≡ true → length (seen_after first done) ≤ greatest_end first done
seen_ends first [] within = omega arith
seen_ends first (Wrote at bytes false ∷ earlier) within =
    let both = and_parts (nat_le at (length (seen_after first earlier))) (are_within first earlier) within in
    omega (arith, length-overwritten at bytes (seen_after first earlier) (leb-true at (length (seen_after first earlier)) both.0), seen_ends first earlier both.1)
seen_ends first (Wrote at bytes true ∷ earlier) within =
    let both = and_parts (nat_le at (length (seen_after first earlier))) (are_within first earlier) within in
    omega (arith, seen_ends first earlier both.1)
seen_ends first (Synced false ∷ earlier) within = omega arith
seen_ends first (Synced true ∷ earlier) within = seen_ends first earlier within

old_ends : (first : List ℕ) (done : List Done) → length (old_bytes first done) ≤ greatest_end first done
old_ends first [] = omega arith
old_ends first (Wrote at bytes failed ∷ earlier) = omega (arith, old_ends first earlier)
old_ends first (Synced false ∷ earlier) = omega arith
old_ends first (Synced true ∷ earlier) = old_ends first earlier

left : (first : List ℕ) (done : List Done) (image : List ℕ) → are_within first done ≡ true → IsAllowed first done image → LeftAfter first done image
left first [] image within a = ext_get_or 0 image first (omega (arith, a.no_shorter, a.no_longer)) (λ i lt. a.old i (omega (arith, lt, a.no_longer)) tt)
left first (Wrote at bytes failed ∷ earlier) image within a =
    let both = and_parts (nat_le at (length (seen_after first earlier))) (are_within first earlier) within in
    let begins : at ≤ greatest_end first earlier = omega (arith, leb-true at (length (seen_after first earlier)) both.0, seen_ends first earlier both.1) in
    let ends = old_ends first earlier in
    let n = length bytes in
    let old = old_bytes first earlier in
    let end = greatest_end first earlier in
    let before = image_before at n old image end in
    let size = long at n old image end begins a.no_longer in (
      before,
      left first earlier before both.1 (record {
        no_shorter = omega (arith, size, a.no_shorter, ends);
        no_longer = omega (arith, size);
        old = λ i lt untouched. keeps at n old image end begins a.no_longer i lt a.no_shorter ends (λ out. a.old i lt (out, untouched));
      }),
      torn at n old image end begins a.no_longer,
    )
left first (Synced false ∷ earlier) image within a = ext_get_or 0 image (seen_after first earlier) (omega (arith, a.no_shorter, a.no_longer)) (λ i lt. a.old i (omega (arith, lt, a.no_longer)) tt)
left first (Synced true ∷ earlier) image within a = left first earlier image within (record { no_shorter = a.no_shorter; no_longer = a.no_longer; old = a.old })

pub allowed_are_left : AllowedAreLeft
allowed_are_left first done image within = (allowed first done image, left first done image within)
