-- What follows from the record of a disk in memory.
use Rattle.std.specs.Prelude.{◌≡◌, ◌⊎◌, ◌≤◌, ℕ, zero, suc, ◌+◌, nat_le, Bool, true, false, List, [], ◌∷◌, ◌++◌, length, take, drop, refl}
use Rattle.std.proofs.Common.{sym, ◌∙◌, ap, subst, inl, inr, arith, append_assoc, length-append, length-drop}
use Rattle.std.proofs.lemmas.List.{take_at, drop_at, length-take-le}
use Rattle.std.proofs.lemmas.Bool.{and_parts, leb-true}
use Rattle.rex_disk.specs.Stops.{Elapses, NoMore, Torn, overwritten}
use Rattle.rex_disk.specs.Record.{Done, LeftAfter, LeftSince, are_within, seen_after}
use Rattle.rex_disk.specs.Record.Done.{Wrote, Synced}

-- a write that wasn't torn is one that was
pub torn_whole : (at : ℕ) (bytes old : List ℕ) → at ≤ length old → Torn at (length bytes) old (overwritten at bytes old)
torn_whole at bytes old le =
    let n = length-take-le at old le in
    let l = length-append (take at old ++ bytes) (drop (at + length bytes) old) in
    let m = length-append (take at old) bytes in
    let d = length-drop (at + length bytes) old in
    record {
      before = ap (λ (xs : List ℕ). take at xs) (append_assoc (take at old) bytes (drop (at + length bytes) old)) ∙ take_at (take at old) (bytes ++ drop (at + length bytes) old) at n;
      behind = drop_at (take at old ++ bytes) (drop (at + length bytes) old) (at + length bytes) (omega (arith, n, m));
      no_shorter = omega (arith, n, l, m, d);
      no_longer = omega (arith, n, l, m, d);
    }

-- nor is one that did nothing another
pub torn_same : (at n : ℕ) (old : List ℕ) → Torn at n old old
torn_same at n old = record { before = refl; behind = refl; no_shorter = omega arith; no_longer = omega arith }

-- what a read gives is one of those that a stop may leave
pub seen_left : (first : List ℕ) (done : List Done) → are_within first done ≡ true → LeftAfter first done (seen_after first done)
seen_left first [] within = refl
seen_left first (Wrote at bytes false ∷ earlier) within =
    let both = and_parts (nat_le at (length (seen_after first earlier))) (are_within first earlier) within in
    (seen_after first earlier, seen_left first earlier both.1, torn_whole at bytes (seen_after first earlier) (leb-true at (length (seen_after first earlier)) both.0))
seen_left first (Wrote at bytes true ∷ earlier) within =
    let both = and_parts (nat_le at (length (seen_after first earlier))) (are_within first earlier) within in
    (seen_after first earlier, seen_left first earlier both.1, torn_same at (length bytes) (seen_after first earlier))
seen_left first (Synced false ∷ earlier) within = refl
seen_left first (Synced true ∷ earlier) within = seen_left first earlier within

pub now_since : (first : List ℕ) (done : List Done) (moment : ℕ) (image : List ℕ) → moment ≤ length done → LeftAfter first done image → LeftSince first done moment image
now_since first done moment image le left = (0, omega (arith, le), left)

pub since_now : (first : List ℕ) (done : List Done) (image : List ℕ) → LeftSince first done (length done) image → LeftAfter first done image
since_now first done image (zero, le, left) = left
since_now first done image (suc back, le, left) = absurd (omega (arith, le))

-- time goes on with each write and sync
pub goes_on : (first : List ℕ) (done : List Done) (one : Done) → Elapses (length done) (length (one ∷ done)) (LeftSince first done) (LeftSince first (one ∷ done)) (LeftAfter first (one ∷ done))
goes_on first done one = record {
  later = omega arith;
  nothing_else = else;
  keeps = λ t image le (back, h, left). (suc back, omega (arith, h), left);
}
  where
    else : (t : ℕ) (image : List ℕ) → t ≤ length done → LeftSince first (one ∷ done) t image → LeftSince first done t image ⊎ LeftAfter first (one ∷ done) image
    else t image le (zero, h, left) = inr left
    else t image le (suc back, h, left) = inl (back, omega (arith, h), left)

-- after a sync a stop leaves no more than before
pub sync_no_more : (first : List ℕ) (done : List Done) (failed : Bool) → are_within first done ≡ true → NoMore (LeftAfter first done) (LeftAfter first (Synced failed ∷ done))
sync_no_more first done false within image is = subst (LeftAfter first done) (sym is) (seen_left first done within)
sync_no_more first done true within image left = left
