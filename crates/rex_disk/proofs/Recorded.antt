-- What one more write or sync adds to the record.
use Rattle.std.proofs.Common.{◌≡◌, ◌≤◌, ℕ, ◌+◌, Bool, true, List, [], ◌∷◌, ◌++◌, length, take, drop, refl, sym, ◌∙◌, ap, arith, length-append, length-drop}
use Rattle.std.proofs.lemmas.List.{take_all, take-append-le, drop-append-le}
use Rattle.rex_disk.specs.Stops.{Elapses, NoMore}
use Rattle.rex_disk.specs.Memory.{DiskValue}
use Rattle.rex_disk.specs.Record.{Done, LeftAfter, LeftSince, are_within}
use Rattle.rex_disk.specs.Record.Done.{Wrote, Synced}
use Rattle.rex_disk.specs.RecordLaws.{goes_on, sync_no_more}
use Rattle.rex_disk.specs.Decoded.{decoded, written_by}
use Rattle.rex_disk.specs.declared.entry.Entry.{Entry}
use Rattle.rex_disk.specs.declared.entry.Entry.TheVariants.{Write, Sync}

sync_behind : (done : List Done) (es : List Entry) (flat : List ℕ) (failed : Bool) → decoded done (es ++ Sync failed ∷ []) flat ≡ Synced failed ∷ decoded done es flat
sync_behind done [] flat failed = refl
sync_behind done (Write at len f ∷ es) flat failed = sync_behind (Wrote at (take len flat) f ∷ done) es (drop len flat) failed
sync_behind done (Sync f ∷ es) flat failed = sync_behind (Synced f ∷ done) es flat failed

pub sync_noted : (es fs : List Entry) (flat : List ℕ) (failed : Bool) → fs ≡ es ++ Sync failed ∷ [] → decoded [] fs flat ≡ Synced failed ∷ decoded [] es flat
sync_noted es fs flat failed is = ap (λ (l : List Entry). decoded [] l flat) is ∙ sync_behind [] es flat failed

sync_adds : (es : List Entry) (failed : Bool) → written_by (es ++ Sync failed ∷ []) ≡ written_by es
sync_adds [] failed = refl
sync_adds (Write at len f ∷ es) failed = ap (λ n. len + n) (sync_adds es failed)
sync_adds (Sync f ∷ es) failed = sync_adds es failed

pub sync_written : (es fs : List Entry) (n : ℕ) (failed : Bool) → fs ≡ es ++ Sync failed ∷ [] → written_by es ≡ n → written_by fs ≡ n
sync_written es fs n failed is w = ap written_by is ∙ sync_adds es failed ∙ w

write_behind : (done : List Done) (es : List Entry) (flat : List ℕ) (at : ℕ) (bytes : List ℕ) (failed : Bool) → written_by es ≡ length flat → decoded done (es ++ Write at (length bytes) failed ∷ []) (flat ++ bytes) ≡ Wrote at bytes failed ∷ decoded done es flat
write_behind done [] [] at bytes failed w = ap (λ (l : List ℕ). Wrote at l failed ∷ done) (take_all (length bytes) bytes (omega arith))
write_behind done [] (x ∷ flat) at bytes failed w = absurd (omega (arith, w))
write_behind done (Write a len f ∷ es) flat at bytes failed w =
    let le : len ≤ length flat = omega (arith, w) in
    ap (λ (l : List ℕ). decoded (Wrote a l f ∷ done) (es ++ Write at (length bytes) failed ∷ []) (drop len (flat ++ bytes))) (take-append-le len flat bytes le)
    ∙ ap (λ (l : List ℕ). decoded (Wrote a (take len flat) f ∷ done) (es ++ Write at (length bytes) failed ∷ []) l) (drop-append-le len flat bytes le)
    ∙ write_behind (Wrote a (take len flat) f ∷ done) es (drop len flat) at bytes failed (omega (arith, w, length-drop len flat))
write_behind done (Sync f ∷ es) flat at bytes failed w = write_behind (Synced f ∷ done) es flat at bytes failed w

pub write_noted : (es fs : List Entry) (flat more : List ℕ) (at : ℕ) (bytes : List ℕ) (failed : Bool) → written_by es ≡ length flat → fs ≡ es ++ Write at (length bytes) failed ∷ [] → more ≡ flat ++ bytes → decoded [] fs more ≡ Wrote at bytes failed ∷ decoded [] es flat
write_noted es fs flat more at bytes failed w is grown = ap (λ (l : List Entry). decoded [] l more) is ∙ ap (λ (l : List ℕ). decoded [] (es ++ Write at (length bytes) failed ∷ []) l) grown ∙ write_behind [] es flat at bytes failed w

write_adds : (es : List Entry) (at len : ℕ) (failed : Bool) → written_by (es ++ Write at len failed ∷ []) ≡ written_by es + len
write_adds [] at len failed = omega arith
write_adds (Write a n f ∷ es) at len failed = omega (arith, write_adds es at len failed)
write_adds (Sync f ∷ es) at len failed = write_adds es at len failed

pub write_written : (es fs : List Entry) (flat more : List ℕ) (at : ℕ) (bytes : List ℕ) (failed : Bool) → written_by es ≡ length flat → fs ≡ es ++ Write at (length bytes) failed ∷ [] → more ≡ flat ++ bytes → written_by fs ≡ length more
write_written es fs flat more at bytes failed w is grown = ap written_by is ∙ write_adds es at (length bytes) failed ∙ ap (λ n. n + length bytes) w ∙ sym (length-append flat bytes) ∙ ap length (sym grown)

pub time_goes_on : (old new : DiskValue) (one : Done) → new.first ≡ old.first → new.done ≡ one ∷ old.done → Elapses (length old.done) (length new.done) (LeftSince old.first old.done) (LeftSince new.first new.done) (LeftAfter new.first new.done)
time_goes_on old new one f d = rw (f, d) (goes_on old.first old.done one)

pub no_more_left : (old new : DiskValue) (failed : Bool) → new.first ≡ old.first → new.done ≡ Synced failed ∷ old.done → are_within old.first old.done ≡ true → NoMore (LeftAfter old.first old.done) (LeftAfter new.first new.done)
no_more_left old new failed f d within = rw (f, d) (sync_no_more old.first old.done failed within)
