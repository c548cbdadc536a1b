-- Images of a stop that a test names: each write since the last sync is filled alike.
use Rattle.std.specs.Prelude.{◌≡◌, ◌≤◌, ℕ, ◌+◌, nat_le, max, Bool, true, false, List, [], ◌∷◌, ◌++◌, length, take, drop, replicate, refl}
use Rattle.std.proofs.Common.{ap, subst, arith, length-append, length-drop}
use Rattle.std.proofs.lemmas.List.{length-replicate, length-take-le}
use Rattle.std.proofs.lemmas.Bool.{and_parts, leb-true}
use Rattle.rex_disk.specs.Record.{Done, LeftAfter, are_within, seen_after}
use Rattle.rex_disk.specs.Record.Done.{Wrote, Synced}
use Rattle.rex_disk.specs.RecordLaws.{torn_same, torn_whole}
use Rattle.rex_disk.specs.Stops.{Torn, overwritten}
use Rattle.rex_disk.specs.declared.fill.Fill.{Fill}
use Rattle.rex_disk.specs.declared.fill.Fill.TheVariants.{Old, New, Byte}

-- the range of a write holds the old bytes, those that were written, or one byte throughout
abbrev pub filled : Fill → ℕ → List ℕ → List ℕ → List ℕ
filled Old at bytes image = image
filled New at bytes image = overwritten at bytes image
filled (Byte b) at bytes image = overwritten at (replicate (length bytes) b) image

-- the image once these were done, the newest first
abbrev pub image_after : Fill → List ℕ → List Done → List ℕ
image_after fill first [] = first
image_after fill first (Wrote at bytes failed ∷ earlier) = filled fill at bytes (image_after fill first earlier)
image_after fill first (Synced false ∷ earlier) = seen_after first earlier
image_after fill first (Synced true ∷ earlier) = image_after fill first earlier

-- ---- it is one of those that a stop may leave

pub length-overwritten : (at : ℕ) (bytes old : List ℕ) → at ≤ length old → length (overwritten at bytes old) ≡ max (length old) (at + length bytes)
length-overwritten at bytes old le =
    let n = length-take-le at old le in
    let l = length-append (take at old ++ bytes) (drop (at + length bytes) old) in
    let m = length-append (take at old) bytes in
    let d = length-drop (at + length bytes) old in
    Prim.omega (arith, n, l, m, d)

-- where a write's range isn't left as it was, the image is no shorter than what a read gives
abbrev IsLong : Fill → List ℕ → List Done → Type 0
IsLong Old first done = Unit {0}
IsLong New first done = length (seen_after first done) ≤ length (image_after New first done)
IsLong (Byte b) first done = length (seen_after first done) ≤ length (image_after (Byte b) first done)

-- such an image goes on to be one: what a read gives grows no further than the range
grows : (at : ℕ) (bytes put seen image : List ℕ) (failed : Bool) (after : List ℕ) → length put ≡ length bytes → at ≤ length seen → length seen ≤ length image → (failed ≡ true → after ≡ seen) → (failed ≡ false → after ≡ overwritten at bytes seen) → length after ≤ length (overwritten at put image)
grows at bytes put seen image true after same within le failed written =
    let a = ap length (failed refl) in
    let i = length-overwritten at put image (Prim.omega (arith, within, le)) in
    Prim.omega (arith, a, i, le)
grows at bytes put seen image false after same within le failed written =
    let a = ap length (written refl) in
    let s = length-overwritten at bytes seen within in
    let i = length-overwritten at put image (Prim.omega (arith, within, le)) in
    Prim.omega (arith, a, s, i, le, same)

-- which byte lists a stop may leave has this image among them
record Stays (fill : Fill) (first : List ℕ) (done : List Done) : Type 0 where
  left : LeftAfter first done (image_after fill first done)
  long : IsLong fill first done

seen_failed : (at : ℕ) (bytes first : List ℕ) (earlier : List Done) (failed : Bool) → failed ≡ true → seen_after first (Wrote at bytes failed ∷ earlier) ≡ seen_after first earlier
seen_failed at bytes first earlier failed e = rw e refl

seen_written : (at : ℕ) (bytes first : List ℕ) (earlier : List Done) (failed : Bool) → failed ≡ false → seen_after first (Wrote at bytes failed ∷ earlier) ≡ overwritten at bytes (seen_after first earlier)
seen_written at bytes first earlier failed e = rw e refl

wrote_stays : (fill : Fill) (first : List ℕ) (at : ℕ) (bytes : List ℕ) (failed : Bool) (earlier : List Done) → at ≤ length (seen_after first earlier) → Stays fill first earlier → Stays fill first (Wrote at bytes failed ∷ earlier)
wrote_stays Old first at bytes failed earlier within s = record { left = (image_after Old first earlier, s.left, torn_same at (length bytes) (image_after Old first earlier)); long = tt }
wrote_stays New first at bytes failed earlier within s = record {
  left = (image_after New first earlier, s.left, torn_whole at bytes (image_after New first earlier) (let l = s.long in Prim.omega (arith, within, l)));
  long = grows at bytes bytes (seen_after first earlier) (image_after New first earlier) failed (seen_after first (Wrote at bytes failed ∷ earlier)) refl within s.long (seen_failed at bytes first earlier failed) (seen_written at bytes first earlier failed);
}
wrote_stays (Byte b) first at bytes failed earlier within s =
    let same : length (replicate (length bytes) b) ≡ length bytes = length-replicate (length bytes) b in
    let image = image_after (Byte b) first earlier in
    record {
      left = (image, s.left, subst (λ (n : ℕ). Torn at n image (overwritten at (replicate (length bytes) b) image)) same (torn_whole at (replicate (length bytes) b) image (let l = s.long in Prim.omega (arith, within, l))));
      long = grows at bytes (replicate (length bytes) b) (seen_after first earlier) image failed (seen_after first (Wrote at bytes failed ∷ earlier)) same within s.long (seen_failed at bytes first earlier failed) (seen_written at bytes first earlier failed);
    }

long_at_first : (fill : Fill) (first : List ℕ) → IsLong fill first []
long_at_first Old first = tt
long_at_first New first = Prim.omega arith
long_at_first (Byte b) first = Prim.omega arith

long_synced : (fill : Fill) (first : List ℕ) (earlier : List Done) → IsLong fill first (Synced false ∷ earlier)
long_synced Old first earlier = tt
long_synced New first earlier = Prim.omega arith
long_synced (Byte b) first earlier = Prim.omega arith

long_failed : (fill : Fill) (first : List ℕ) (earlier : List Done) → IsLong fill first earlier → IsLong fill first (Synced true ∷ earlier)
long_failed Old first earlier l = tt
long_failed New first earlier l = l
long_failed (Byte b) first earlier l = l

stays : (fill : Fill) (first : List ℕ) (done : List Done) → are_within first done ≡ true → Stays fill first done
stays fill first [] within = record { left = refl; long = long_at_first fill first }
stays fill first (Wrote at bytes failed ∷ earlier) within =
    let both = and_parts (nat_le at (length (seen_after first earlier))) (are_within first earlier) within in
    wrote_stays fill first at bytes failed earlier (leb-true at (length (seen_after first earlier)) both.0) (stays fill first earlier both.1)
stays fill first (Synced false ∷ earlier) within = record { left = refl; long = long_synced fill first earlier }
stays fill first (Synced true ∷ earlier) within =
    let s = stays fill first earlier within in
    record { left = s.left; long = long_failed fill first earlier s.long }

pub image_left : (fill : Fill) (first : List ℕ) (done : List Done) → are_within first done ≡ true → LeftAfter first done (image_after fill first done)
image_left fill first done within = (stays fill first done within).left

-- the image that is filled so may be left by a stop
abbrev pub ImagesMayBeLeft : Type 0
ImagesMayBeLeft = (fill : Fill) (first : List ℕ) (done : List Done) → are_within first done ≡ true → LeftAfter first done (image_after fill first done)
