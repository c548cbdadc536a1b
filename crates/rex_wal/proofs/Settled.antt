-- What a stop may leave of a disk with a settled journal.
use Rattle.std.proofs.Common.{◌≡◌, ◌≤◌, inl, ℕ, ◌+◌, max, Bool, IsTrue, List, [], ◌∷◌, ◌++◌, length, Option, Some, sym, ◌∙◌, ap, subst, arith}
use Rattle.std.proofs.lemmas.List.Elements.{All-push}
use Rattle.rex_disk.specs.Stops.{LeavesOnly, Only, Rests, overwritten}
use Rattle.rex_file.specs.Mixing.{Mixed}
use Rattle.rex_wal.specs.Appending.{IsWritten}
use Rattle.rex_wal.specs.Keeping.{AllStandFor, IsClean, IsSettled}
use Rattle.rex_wal.specs.Journal.{Holds, IsRecord, StandsFor, entry}
use Rattle.rex_wal.specs.Opening.{IsCleaning, IsFound}
use Rattle.rex_wal.proofs.Making.{append_clean, append_place, append_stands, clean_holds, found_holds, stands_on, written_long}
use Rattle.rex_disk.proofs.Moments.{moves_on, rested, started, widen}

module _ {D : Type 0} (meets : D → Bool) (seen : D → List ℕ) (may_leave : D → List ℕ → Type 0) where
  pub settled_stands : (disk : D) (records : List (List ℕ)) (end : ℕ) (pending : Option (List ℕ)) → IsSettled meets seen may_leave disk records end → IsTrue (meets disk) → AllStandFor (may_leave disk) records pending
  settled_stands disk records end pending s met image left = subst (StandsFor records pending) (sym (s.durable met image left)) (inl (clean_holds records (seen disk) (s.clean met) end s.place s.each))

  -- what a stop may leave now it might have left at some moment since an earlier one
  pub torn_stands : (old new : D) (records : List (List ℕ)) (bytes : List ℕ) (moment : D → ℕ) (left_since : D → ℕ → List ℕ → Type 0) → ((t : ℕ) (image : List ℕ) → t ≤ moment new → may_leave new image → left_since new t image)
      → LeavesOnly moment left_since old new (StandsFor records (Some bytes)) → AllStandFor (may_leave new) records (Some bytes)
  torn_stands old new records bytes moment left_since counts leaves image left = leaves.each image (counts (moment old) image leaves.later left)

  -- time stands still, and it stays settled
  pub settled_rests : (old mid : D) (records : List (List ℕ)) (end : ℕ) (moment : D → ℕ) (left_since : D → ℕ → List ℕ → Type 0) → IsSettled meets seen may_leave old records end → meets mid ≡ meets old → length (seen mid) ≡ length (seen old) → (IsTrue (meets old) → seen mid ≡ seen old)
      → (IsTrue (meets old) → Rests (moment old) (moment mid) (left_since old) (left_since mid) (may_leave old) (may_leave mid)) → IsSettled meets seen may_leave mid records end
  settled_rests old mid records end moment left_since s model len same rests = record {
    place = s.place;
    within = omega (arith, s.within, len);
    each = s.each;
    clean = λ met. let before = subst IsTrue model met in subst (λ (file : List ℕ). IsClean file records) (sym (same before)) (s.clean before);
    durable = λ met image left. let before = subst IsTrue model met in s.durable before image (((rests before).same_now image).0 left) ∙ sym (same before);
  }

  -- until the write a stop leaves the records
  pub waits : (old mid : D) (records : List (List ℕ)) (end : ℕ) (pending : Option (List ℕ)) (moment : D → ℕ) (left_since : D → ℕ → List ℕ → Type 0) → ((image : List ℕ) → left_since old (moment old) image → may_leave old image) → IsSettled meets seen may_leave old records end → IsTrue (meets old)
      → Rests (moment old) (moment mid) (left_since old) (left_since mid) (may_leave old) (may_leave mid) → LeavesOnly moment left_since old mid (StandsFor records pending)
  waits old mid records end pending moment left_since only_now s met rests =
      rested moment left_since (started moment left_since old (StandsFor records pending) (λ image left. settled_stands old records end pending s met image (only_now image left))) rests

  -- once the record is written and synced it is settled with it
  pub settled_more : (old new : D) (records : List (List ℕ)) (end len : ℕ) (bytes written : List ℕ) → IsSettled meets seen may_leave old records end → IsRecord bytes → IsWritten bytes written → len ≡ length (entry bytes) → meets new ≡ meets old
      → length (seen new) ≡ max (length (seen old)) (end + length written) → (IsTrue (meets old) → seen new ≡ overwritten end written (seen old)) → (IsTrue (meets old) → Only (seen new) (may_leave new)) → IsSettled meets seen may_leave new (records ++ bytes ∷ []) (end + len)
  settled_more old new records end len bytes written s is_record w size model long seen_is durable = record {
    place = ap (λ (n : ℕ). end + n) size ∙ append_place records end s.place bytes;
    within = omega (arith, long, size, written_long bytes written w);
    each = All-push IsRecord records bytes s.each is_record;
    clean = λ met. let before = subst IsTrue model met in subst (λ (file : List ℕ). IsClean file (records ++ bytes ∷ [])) (sym (seen_is before)) (append_clean records (seen old) (s.clean before) end s.place bytes written w);
    durable = λ met. durable (subst IsTrue model met);
  }

  -- from its beginning to the end of its write a stop leaves the records, with the new one or without
  pub append_leaves : (old mid new : D) (records : List (List ℕ)) (end : ℕ) (bytes written : List ℕ) (moment : D → ℕ) (left_since : D → ℕ → List ℕ → Type 0) → ((image : List ℕ) → left_since old (moment old) image → may_leave old image) → IsSettled meets seen may_leave old records end → IsTrue (meets old)
      → meets mid ≡ meets old → length (seen mid) ≡ length (seen old) → (IsTrue (meets old) → seen mid ≡ seen old) → (IsTrue (meets old) → Rests (moment old) (moment mid) (left_since old) (left_since mid) (may_leave old) (may_leave mid))
      → IsRecord bytes → IsWritten bytes written → (IsTrue (meets mid) → Only (seen mid) (may_leave mid) → LeavesOnly moment left_since mid new (Mixed end written (seen mid))) → LeavesOnly moment left_since old new (StandsFor records (Some bytes))
  append_leaves old mid new records end bytes written moment left_since only_now s met model len same rests is_record w writes =
      let still = subst IsTrue (sym model) met in
      let now = settled_rests old mid records end moment left_since s model len same rests in
      moves_on moment left_since (waits old mid records end (Some bytes) moment left_since only_now s met (rests met))
      (widen moment left_since (writes still (now.durable still)) (λ image m. append_stands records (seen mid) (now.clean still) end now.place bytes written w image now.each is_record m))

  -- as a journal is opened a stop leaves what it left before, and while it is cleaned what holds the records that were found
  pub open_leaves : (old mid new : D) (found records : List (List ℕ)) (end at : ℕ) (begun : Bool) (read file bytes written shown : List ℕ) (pending : Option (List ℕ)) (moment : D → ℕ) (left_since : D → ℕ → List ℕ → Type 0) → read ≡ bytes → file ≡ bytes → shown ≡ written → bytes ≡ seen old → seen mid ≡ seen old
      → IsFound read found end begun → IsCleaning file found at written → may_leave old (seen old) → AllStandFor (may_leave old) records pending
      → LeavesOnly moment left_since old mid (may_leave old) → LeavesOnly moment left_since mid new (Mixed at shown (seen mid)) → LeavesOnly moment left_since old new (StandsFor records pending)
  open_leaves old mid new found records end at begun read file bytes written shown pending moment left_since read_is file_is shown_is bytes_are same is_found cleaning left all reads writes =
      let holds = subst (λ (l : List ℕ). Holds l found) (read_is ∙ bytes_are ∙ sym same) (found_holds read found end begun is_found) in
      let cleans = subst (λ (l : List ℕ). IsCleaning l found at written) (file_is ∙ bytes_are ∙ sym same) cleaning in
      let stands = subst (StandsFor records pending) (sym same) (all (seen old) left) in
      moves_on moment left_since (widen moment left_since reads all)
      (widen moment left_since writes (λ image mixed. stands_on (seen mid) image found records pending holds stands (cleans.keeps image (subst (λ (l : List ℕ). Mixed at l (seen mid) image) shown_is mixed))))
