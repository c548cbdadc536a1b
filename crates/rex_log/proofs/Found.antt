-- Lists of bytes that are read are records.
use Rattle.std.proofs.Common.{◌≡◌, ℕ, suc, ◌+◌, ◌≤◌, List, [], ◌∷◌, ◌++◌, length, Result, Ok, Err, refl, sym, ap, subst, ◌∙◌, arith, append-nil, append_assoc, length-append}
use Rattle.std.specs.Prelude.{map}
use Rattle.rex_syntax.specs.declared.service.Declarations.{Declarations}
use Rattle.rex_state.specs.Value.{StateValue}
use Rattle.rex_durable.specs.declared.records.Rec.{Rec as KeptRec}
use Rattle.rex_durable.specs.declared.records.Standing.{Standing}
use Rattle.rex_durable.specs.Recovery.{standing}
use Rattle.rex_durable.specs.Reading.{record_in}
use Rattle.rex_durable.specs.Spelling.{AreRecords, Follows, IsDue, Spells, record_bytes}
use Rattle.rex_durable.proofs.OneMore.{counts_all, no_records, records_more}
use Rattle.rex_durable.proofs.ReadBehind.{record_found}
use Rattle.rex_cluster.specs.Records.{Rec}
use Rattle.rex_cluster.specs.Values.{Value}
use Rattle.rex_log.specs.Log.{AreRead, log_behind, log_of, log_with, rec_of, standing_in}
use Rattle.rex_log.specs.Laws.{AreBytes, AreSpelled}
use Rattle.rex_log.proofs.Saying.{Front, front_none, front_more, log_front, stands_there}

module _ (service : Declarations) where
  -- no more records are read than there are lists of bytes
  at_most : (past : List Value) (lists : List (List ℕ)) (log : List (Rec Value StateValue)) → length (log_behind service past log lists) ≤ length lists + length log
  at_most past [] log = omega arith
  at_most past (bytes ∷ lists) log = by (at_most past lists) (record_in (standing_in log) bytes)
    where
      by : ((l : List (Rec Value StateValue)) → length (log_behind service past l lists) ≤ length lists + length l) → (r : Result KeptRec ℕ)
          → length (log_behind service past (log_with service past log r) lists) ≤ suc (length lists) + length log
      by most (Ok r) = let h = most (rec_of service past r ∷ log) in omega arith
      by most (Err at) = let h = most log in omega arith

  -- these records are spelled behind those before them
  pub record Behind (before : List KeptRec) (lists : List (List ℕ)) : Type 0 where
    pub rest : List KeptRec
    pub records : AreRecords (before ++ rest)
    pub bytes_are : lists ≡ map record_bytes rest

  found_behind : (past : List Value) (lists : List (List ℕ)) (before : List KeptRec) → AreBytes lists → AreRecords before → Front service past before
      → length (log_behind service past (log_of service past (map record_bytes before)) lists) ≡ length lists + length before → Behind before lists
  found_behind past [] before bytes records h all = record { rest = []; records = rw (append-nil before) records; bytes_are = refl }
  found_behind past (bytes ∷ lists) before fits records h all = by (found_behind past lists) (record_in (standing_in (log_of service past (map record_bytes before))) bytes) refl all
    where
      log : List (Rec Value StateValue)
      log = log_of service past (map record_bytes before)

      few : (standing_in log).count ≤ 65535
      few = subst (λ (s : Standing). s.count ≤ 65535) (stands_there service past before (counts_all before records) h) (counts_all before records).few

      next : ((front : List KeptRec) → AreBytes lists → AreRecords front → Front service past front → length (log_behind service past (log_of service past (map record_bytes front)) lists) ≡ length lists + length front → Behind front lists) →
          (r : KeptRec) → Spells (standing_in log) bytes r → length (log_behind service past (rec_of service past r ∷ log) lists) ≡ suc (length lists) + length before → Behind before (bytes ∷ lists)
      next others r spells all =
          let counts = counts_all before records in
          let due : IsDue (standing before) r = subst (λ (s : Standing). IsDue s r) (sym (stands_there service past before counts h)) spells.due in
          let follows : Follows before r = record { spelling = spells.spelling; due = due } in
          let is = log_front service past before r counts follows h in
          let long = length-append before (r ∷ []) in
          let many : length (log_behind service past (log_of service past (map record_bytes (before ++ r ∷ []))) lists) ≡ length lists + length (before ++ r ∷ []) =
          ap (λ (l : List (Rec Value StateValue)). length (log_behind service past l lists)) is ∙ (all ∙ (omega arith)) in
          let b = others (before ++ r ∷ []) (λ k i. fits (suc k) i) (records_more before r records follows) (front_more service past before r counts follows h) many in
          record {
            rest = r ∷ b.rest;
            records = subst AreRecords (append_assoc before (r ∷ []) b.rest) b.records;
            bytes_are = rw (sym spells.bytes_are) (ap (λ (bs : List (List ℕ)). bytes ∷ bs) b.bytes_are);
          }

      by : ((front : List KeptRec) → AreBytes lists → AreRecords front → Front service past front → length (log_behind service past (log_of service past (map record_bytes front)) lists) ≡ length lists + length front → Behind front lists) →
          (q : Result KeptRec ℕ) → record_in (standing_in log) bytes ≡ q → length (log_behind service past (log_with service past log q) lists) ≡ suc (length lists) + length before → Behind before (bytes ∷ lists)
      by others (Ok r) e all = next others r (record_found (standing_in log) bytes r few (λ i. fits 0 i) e) all
      by others (Err at) e all = let most = at_most past lists log in let many = h.many in absurd (omega arith)

  pub found : (past : List Value) (lists : List (List ℕ)) → AreBytes lists → AreRead service past lists → AreSpelled lists
  found past lists fits all =
      let none : length (log_behind service past (log_of service past (map record_bytes [])) lists) ≡ length lists + length {A = KeptRec} [] = all ∙ (omega arith) in
      let b = found_behind past lists [] fits no_records (front_none service past) none in
      record { rs = b.rest; spelled = record { records = b.records; bytes = b.bytes_are } }
