-- How an image goes on from entry to entry.
use Rattle.std.proofs.Common.{◌≡◌, ℕ, Bool, true, false, List, ◌∷◌, take, drop, Result, ◌∙◌, ap}
use Rattle.std.specs.Prelude.{IfOk, if◌then◌else◌}
use Rattle.rex_disk.specs.Decoded.{decoded}
use Rattle.rex_disk.specs.Images.{filled, image_after}
use Rattle.rex_disk.specs.Record.{Done, seen_after}
use Rattle.rex_disk.specs.Record.Done.{Wrote, Synced}
use Rattle.rex_disk.specs.Stops.{overwritten}
use Rattle.rex_disk.specs.declared.entry.Entry.{Entry}
use Rattle.rex_disk.specs.declared.entry.Entry.TheVariants.{Write, Sync}
use Rattle.rex_disk.specs.declared.fill.Fill.{Fill}

pub held_next : (failed : Bool) (at : ℕ) (bytes first old new : List ℕ) (done : List Done) → old ≡ seen_after first done → new ≡ (if failed then old else overwritten at bytes old) → new ≡ seen_after first (Wrote at bytes failed ∷ done)
held_next true at bytes first old new done is next = next ∙ is
held_next false at bytes first old new done is next = next ∙ ap (λ (l : List ℕ). overwritten at bytes l) is

pub image_next : (fill : Fill) (failed : Bool) (at : ℕ) (bytes first old new : List ℕ) (done : List Done) → old ≡ image_after fill first done → new ≡ filled fill at bytes old → new ≡ image_after fill first (Wrote at bytes failed ∷ done)
image_next fill failed at bytes first old new done is next = next ∙ ap (λ (l : List ℕ). filled fill at bytes l) is

pub held_synced : (failed : Bool) (first held : List ℕ) (done : List Done) → held ≡ seen_after first done → held ≡ seen_after first (Synced failed ∷ done)
held_synced failed first held done is = is

pub image_synced : (fill : Fill) (failed : Bool) (first held old new : List ℕ) (done : List Done) → held ≡ seen_after first done → old ≡ image_after fill first done → new ≡ (if failed then old else held) → new ≡ image_after fill first (Synced failed ∷ done)
image_synced fill true first held old new done seen is next = next ∙ is
image_synced fill false first held old new done seen is next = next ∙ seen

module _ {V E : Type 0} (r : Result V E) (items : V → List ℕ) (fill : Fill) (first : List ℕ) (done : List Done) (log later : List Entry) (written : List ℕ) where
  pub goes_write : (at len : ℕ) (failed : Bool) (bytes rest : List ℕ) → log ≡ Write at len failed ∷ later → bytes ≡ take len written → rest ≡ drop len written
      → IfOk r (λ v. items v ≡ image_after fill first (decoded (Wrote at bytes failed ∷ done) later rest)) → IfOk r (λ v. items v ≡ image_after fill first (decoded done log written))
  goes_write at len failed bytes rest log_is bytes_is rest_is h = rw (log_is, ← bytes_is, ← rest_is) h

  pub goes_sync : (failed : Bool) → log ≡ Sync failed ∷ later
      → IfOk r (λ v. items v ≡ image_after fill first (decoded (Synced failed ∷ done) later written)) → IfOk r (λ v. items v ≡ image_after fill first (decoded done log written))
  goes_sync failed log_is h = rw log_is h
