-- What follows from the record of a disk whose writes tear between bytes only.
use Rattle.std.specs.Prelude.{◌≡◌, ◌⊎◌, ◌<◌, ◌≤◌, ℕ, zero, suc, ◌+◌, ◌-◌, nat_le, Bool, true, false, List, [], ◌∷◌, ◌++◌, length, take, drop, refl}
use Rattle.std.proofs.Common.{sym, ◌∙◌, ap, subst, inl, inr, arith, get_or, append_assoc}
use Rattle.std.proofs.lemmas.List.{get_or_append_left, get_or-append_right, length-take-le}
use Rattle.std.proofs.lemmas.Bool.{and_parts, leb-true}
use Rattle.rex_disk.specs.Record.{Done, are_within, seen_after}
use Rattle.rex_disk.specs.Record.Done.{Wrote, Synced}
use Rattle.rex_disk.specs.RecordLaws.{torn_same, torn_whole}
use Rattle.rex_disk.specs.Stops.{Elapses, NoMore, overwritten}
use Rattle.rex_file.specs.Mixing.{Mixed, MixedAfter, MixedSince, Mixes, byte_at}

-- a write that wasn't torn is one that was
pub mixed_whole : (at : ℕ) (bytes old : List ℕ) → at ≤ length old → Mixed at bytes old (overwritten at bytes old)
mixed_whole at bytes old le = record { torn = torn_whole at bytes old le; each = λ i lt. inr (written i lt) }
  where
    behind : List ℕ
    behind = bytes ++ drop (at + length bytes) old

    written : (i : ℕ) → i < length bytes → byte_at (overwritten at bytes old) (at + i) ≡ byte_at bytes i
    written i lt =
        let there : (at + i) - at ≡ i = omega arith in
        let found : get_or (take at old ++ behind) (at + i) 0 ≡ get_or behind ((at + i) - at) 0 = get_or-append_right (take at old) behind at (at + i) 0 (length-take-le at old le) (omega arith) in
        ap (λ (xs : List ℕ). get_or xs (at + i) 0) (append_assoc (take at old) bytes (drop (at + length bytes) old)) ∙ found ∙ subst (λ (k : ℕ). get_or behind k 0 ≡ get_or bytes i 0) (sym there) (get_or_append_left bytes (drop (at + length bytes) old) 0 i lt)

-- nor is one that did nothing another
pub mixed_same : (at : ℕ) (bytes old : List ℕ) → Mixed at bytes old old
mixed_same at bytes old = record { torn = torn_same at (length bytes) old; each = λ i lt. inl refl }

-- what a read gives is one of those that a stop may leave
pub seen_mixed : (first : List ℕ) (done : List Done) → are_within first done ≡ true → MixedAfter first done (seen_after first done)
seen_mixed first [] within = refl
seen_mixed first (Wrote at bytes false ∷ earlier) within =
    let both = and_parts (nat_le at (length (seen_after first earlier))) (are_within first earlier) within in
    (seen_after first earlier, seen_mixed first earlier both.1, mixed_whole at bytes (seen_after first earlier) (leb-true at (length (seen_after first earlier)) both.0))
seen_mixed first (Wrote at bytes true ∷ earlier) within =
    let both = and_parts (nat_le at (length (seen_after first earlier))) (are_within first earlier) within in
    (seen_after first earlier, seen_mixed first earlier both.1, mixed_same at bytes (seen_after first earlier))
seen_mixed first (Synced false ∷ earlier) within = refl
seen_mixed first (Synced true ∷ earlier) within = seen_mixed first earlier within

pub now_since : (first : List ℕ) (done : List Done) (moment : ℕ) (image : List ℕ) → moment ≤ length done → MixedAfter first done image → MixedSince first done moment image
now_since first done moment image le left = (0, omega (arith, le), left)

pub since_now : (first : List ℕ) (done : List Done) (image : List ℕ) → MixedSince first done (length done) image → MixedAfter first done image
since_now first done image (zero, le, left) = left
since_now first done image (suc back, le, left) = absurd (omega (arith, le))

-- time goes on with each write and sync
pub goes_on : (first : List ℕ) (done : List Done) (one : Done) → Elapses (length done) (length (one ∷ done)) (MixedSince first done) (MixedSince first (one ∷ done)) (MixedAfter first (one ∷ done))
goes_on first done one = record {
  later = omega arith;
  nothing_else = else;
  keeps = λ t image le (back, h, left). (suc back, omega (arith, h), left);
}
  where
    else : (t : ℕ) (image : List ℕ) → t ≤ length done → MixedSince first (one ∷ done) t image → MixedSince first done t image ⊎ MixedAfter first (one ∷ done) image
    else t image le (zero, h, left) = inr left
    else t image le (suc back, h, left) = inl (back, omega (arith, h), left)

-- after a sync a stop leaves no more than before
pub sync_no_more : (first : List ℕ) (done : List Done) (failed : Bool) → are_within first done ≡ true → NoMore (MixedAfter first done) (MixedAfter first (Synced failed ∷ done))
sync_no_more first done false within image is = subst (MixedAfter first done) (sym is) (seen_mixed first done within)
sync_no_more first done true within image left = left

-- what a write may leave of each byte is the old one or the one that was written
pub write_mixes : (old_first new_first : List ℕ) (old_done new_done : List Done) (at : ℕ) (bytes : List ℕ) (failed : Bool) → new_first ≡ old_first → new_done ≡ Wrote at bytes failed ∷ old_done → Mixes at bytes (MixedAfter old_first old_done) (MixedAfter new_first new_done)
write_mixes old_first new_first old_done new_done at bytes failed f d = rw (f, d) (λ image left. left)
