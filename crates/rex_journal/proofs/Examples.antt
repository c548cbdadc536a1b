-- A journal's bytes by example, and which records the images hold that stops of its append leave.
use Rattle.std.proofs.Common.{◌≡◌, ◌≢◌, ◌<◌, ◌^◌, inr, ℕ, false, List, [], ◌∷◌, ◌++◌, length, refl, arith}
use Rattle.std.proofs.lemmas.List.Elements.{All-nil, All-push}
use Rattle.rex_disk.specs.Record.{seen_after}
use Rattle.rex_disk.specs.Record.Done.{Wrote, Synced}
use Rattle.rex_journal.specs.Journal.{AllShort, Holds, IsBad, entry, open_records}

-- the record that ballot 17 was promised
abbrev promised : List ℕ
promised = 1 ∷ 0 ∷ 0 ∷ 0 ∷ 0 ∷ 0 ∷ 0 ∷ 0 ∷ 17 ∷ []

-- the journal of that record alone, behind a gate that holds this
abbrev journal : ℕ → List ℕ
journal gate = gate ∷ 0 ∷ 0 ∷ 0 ∷ 9 ∷ 1 ∷ 0 ∷ 0 ∷ 0 ∷ 0 ∷ 0 ∷ 0 ∷ 0 ∷ 17 ∷ 0 ∷ []

-- its bytes are the record's behind an open gate, and a closed gate
spelled : open_records (promised ∷ []) ++ 0 ∷ [] ≡ journal 1
spelled = refl

-- an empty disk is opened, which closes its first gate, and the record is appended, by two writes that are synced each
appended : seen_after [] (Synced false ∷ Wrote 0 (1 ∷ []) false ∷ Synced false ∷ Wrote 1 (entry promised) false ∷ Synced false ∷ Wrote 0 (0 ∷ []) false ∷ Synced false ∷ []) ≡ journal 1
appended = refl

none_short : AllShort []
none_short = All-nil (λ r. length r < 2 ^ 32)

one_short : AllShort (promised ∷ [])
one_short = All-push (λ r. length r < 2 ^ 32) [] promised none_short (omega arith)

-- a file whose first gate isn't open holds no records
shut : (gate : ℕ) (rest : List ℕ) → gate ≢ 1 → Holds (gate ∷ rest) []
shut gate rest not_open = inr (record { gate = gate; rest = rest; split = refl; shut = not_open; short = none_short })

-- ---- a stop at each call of the append, on a disk that was opened

-- at the first write and sync the gate is closed: the old bytes, the new ones, and 255 in their place
first_old : Holds (0 ∷ []) []
first_old = shut 0 [] (λ is. omega (arith, is))

first_new : Holds (journal 0) []
first_new = shut 0 _ (λ is. omega (arith, is))

first_filled : Holds (0 ∷ 255 ∷ 255 ∷ 255 ∷ 255 ∷ 255 ∷ 255 ∷ 255 ∷ 255 ∷ 255 ∷ 255 ∷ 255 ∷ 255 ∷ 255 ∷ 255 ∷ []) []
first_filled = shut 0 _ (λ is. omega (arith, is))

-- at the second write and sync the entry stands, and the gate is old, new or 255; or 7
second_old : Holds (journal 0) []
second_old = shut 0 _ (λ is. omega (arith, is))

second_new : Holds (journal 1) (promised ∷ [])
second_new = inr (record { gate = 0; rest = []; split = refl; shut = λ is. omega (arith, is); short = one_short })

second_filled : Holds (journal 255) []
second_filled = shut 255 _ (λ is. omega (arith, is))

second_other : Holds (journal 7) []
second_other = shut 7 _ (λ is. omega (arith, is))

-- a journal that is cut short is bad at its open gate
cut_short : IsBad (1 ∷ 0 ∷ 0 ∷ 0 ∷ 9 ∷ 1 ∷ []) 0
cut_short = record { records = []; rest = 0 ∷ 0 ∷ 0 ∷ 9 ∷ 1 ∷ []; split = refl; place = refl; cut_short = omega arith; long = omega arith; short = none_short }
