-- A keeper whose records are all read.
use Rattle.rex_node.proofs.Common.{◌≡◌, ℕ, suc, ◌+◌, ◌<◌, ◌≤◌, Bool, true, false, List, [], ◌∷◌, ◌++◌, length, take, drop, Result, Ok, Err, refl, sym, ap, subst, ◌∙◌, inl, inr, arith, length-append, take-append-drop, map, is_ok, slice_index_or, if◌then◌else◌, cons_option, list_all, and_parts, and_from, list_all-append, Declarations, StateValue, KeptRec, record_bytes, record_in, Delta, delta_in, Rec, known, Value, is_piece, spells, Place, log_of, log_with, rec_of, standing_in, IsRestartFault, bad_at, bad_in, first_bad, place_or, AreStated, is_stated}
use Rattle.std.specs.Prelude.{Option, Some, None}
use Rattle.std.proofs.Math.Seq.{drop-cons}
use Rattle.std.proofs.lemmas.List.Sums.{fold-append}
use Rattle.rex_durable.specs.declared.records.Rec.TheVariants as rec
use Rattle.rex_durable.specs.Recovery as durable
use Rattle.rex_durable.specs.Kept.{IsFirstBad}
use Rattle.rex_cluster.specs.Values.{may_be_value}
use Rattle.rex_node.specs.declared.restart.RestartFault.{RestartFault}
use Rattle.rex_node.specs.declared.restart.RestartFault.TheVariants.{BadRecord, OutOfMemory}
use Rattle.rex_log.specs.Log.{AreRead, log_behind}
use Rattle.rex_node.specs.Restarting.{HasFirstBad}
use Rattle.rex_node.proofs.Recalling.{recovered_says, stands_behind}

-- ---- the only fault is want of memory

module _ (service : Declarations) (past : List Value) where
  -- no more records are read than there are lists of bytes
  at_most : (lists : List (List ℕ)) (log : List (Rec Value StateValue)) → length (log_behind service past log lists) ≤ length lists + length log
  at_most [] log = omega arith
  at_most (bytes ∷ lists) log = by (at_most lists) (record_in (standing_in log) bytes)
    where
      by : ((l : List (Rec Value StateValue)) → length (log_behind service past l lists) ≤ length lists + length l) → (r : Result KeptRec ℕ)
          → length (log_behind service past (log_with service past log r) lists) ≤ suc (length lists) + length log
      by most (Ok r) = let h = most (rec_of service past r ∷ log) in omega arith
      by most (Err at) = let h = most log in omega arith

  -- fewer are where one of them is bad
  fewer : (before : List (List ℕ)) (bytes : List ℕ) (rest : List (List ℕ)) (at : ℕ) → record_in (standing_in (log_of service past before)) bytes ≡ Err at
      → length (log_of service past (before ++ bytes ∷ rest)) < length (before ++ bytes ∷ rest)
  fewer before bytes rest at bad =
      let log = log_of service past before in
      let is : log_of service past (before ++ bytes ∷ rest) ≡ log_behind service past log rest =
      fold-append (λ log bytes. log_with service past log (record_in (standing_in log) bytes)) [] before (bytes ∷ rest) ∙ ap (λ r. log_behind service past (log_with service past log r) rest) bad in
      let most = at_most rest log in
      let front = at_most before [] in
      let long = length-append before (bytes ∷ rest) in
      subst (λ l. length l < length (before ++ bytes ∷ rest)) (sym is) (omega arith)

  -- where all are read, none is bad
  pub not_refused : (kept : List (List ℕ)) (number at : ℕ) → AreRead service past kept → IsFirstBad kept number at → ⊥
  not_refused kept number at all h =
      let n = length h.before in
      let front = take n kept in
      let bytes = slice_index_or kept n [] in
      let rest = drop (suc n) kept in
      let parts : kept ≡ front ++ bytes ∷ rest = sym (take-append-drop n kept) ∙ ap (λ bs. front ++ bs) (drop-cons kept n [] h.there) in
      let bad : record_in (standing_in (log_of service past front)) bytes ≡ Err at =
      subst (λ s. record_in s bytes ≡ Err at) (stands_behind service past h.spelled) h.bad in
      let less = fewer front bytes rest at bad in
      let same : length (log_of service past (front ++ bytes ∷ rest)) ≡ length (front ++ bytes ∷ rest) = subst (λ lists. AreRead service past lists) parts all in
      absurd (omega arith)

module _ (service : Declarations) where
  -- a value that spells a delta isn't bad, nor is one that isn't held
  value_good : (v : Value) (held : Bool) → list_all (spells service) (cons_option (if held then Some v else None) []) ≡ true → ◌≡◌ {A = Option ℕ} (if held then bad_at (delta_in v) else None) None
  value_good v false fit = refl
  value_good v true fit = by (delta_in v) (and_parts (may_be_value v) (is_piece service (delta_in v)) (and_parts (spells service v) true fit).0).1
    where
      by : (d : Result Delta ℕ) → is_piece service d ≡ true → bad_at d ≡ None
      by (Ok d) h = refl
      by (Err at) h = absurd (cc)

  -- nor a state that is spelled
  state_good : (later : Bool) (s : Result StateValue ℕ) → is_ok s ≡ true → ◌≡◌ {A = Option ℕ} (if later then None else bad_at s) None
  state_good true s h = refl
  state_good false (Ok s) h = refl
  state_good false (Err at) h = absurd (cc)

  holds_good : (offset : ℕ) (r : KeptRec) (later : List KeptRec) → is_stated service (record_bytes r) ≡ true → list_all (spells service) (cons_option (durable.value_above offset r) []) ≡ true → bad_in service offset r later ≡ None
  holds_good offset (rec.Promised b) later stated fit = refl
  holds_good offset (rec.Accepted b i v) later stated fit = refl
  holds_good offset (rec.Known i v) later stated fit = value_good v _ fit
  holds_good offset (rec.Checkpoint k bytes) later stated fit = state_good _ _ stated
  holds_good offset (rec.Dropped k) later stated fit = refl
  holds_good offset (rec.Transferred k bytes) later stated fit = state_good _ _ stated

  -- a list's first value, if it has one, and the others
  fit_parts : (o : Option Value) (vs : List Value) → list_all (spells service) (cons_option o vs) ≡ true → (list_all (spells service) (cons_option o []) ≡ true) × (list_all (spells service) vs ≡ true)
  fit_parts None vs h = (refl, h)
  fit_parts (Some v) vs h = let parts = and_parts (spells service v) (list_all (spells service) vs) h in (and_from (spells service v) true parts.0 refl, parts.1)

  no_bad : (offset : ℕ) (rs : List KeptRec) (n : ℕ) → list_all (is_stated service) (map record_bytes rs) ≡ true → list_all (spells service) (durable.known_above offset rs) ≡ true → first_bad service offset n rs ≡ None
  no_bad offset [] n stated fit = refl
  no_bad offset (r ∷ rs) n stated fit =
      let states = and_parts (is_stated service (record_bytes r)) (list_all (is_stated service) (map record_bytes rs)) stated in
      let values = fit_parts (durable.value_above offset r) (durable.known_above offset rs) fit in
      ap (λ o. place_or n o (first_bad service offset (suc n) rs)) (holds_good offset r rs states.0 values.0) ∙ no_bad offset rs (suc n) states.1 values.1

  -- what is past the first values fits, too
  fits_past : (n : ℕ) (vs : List Value) → list_all (spells service) vs ≡ true → list_all (spells service) (drop n vs) ≡ true
  fits_past n vs h =
      (and_parts (list_all (spells service) (take n vs)) (list_all (spells service) (drop n vs))
      (sym (list_all-append (spells service) (take n vs) (drop n vs)) ∙ ap (list_all (spells service)) (take-append-drop n vs) ∙ h)).1

  -- where each state is spelled, and each known value spells a delta, nothing that records hold is bad
  good_read : (past : List Value) {kept : List (List ℕ)} {place : Place} → AreStated service kept → list_all (spells service) (known (log_of service past kept)) ≡ true → HasFirstBad service kept (Some place) → ⊥
  good_read past {kept} {place} stated fit h =
      let said = recovered_says service past h.spelled refl in
      let values : list_all (spells service) (durable.known h.rs) ≡ true =
      ap (λ vs. list_all (spells service) vs) said.held ∙ fits_past (durable.offset h.rs) (known (log_of service past kept)) fit in
      let states : list_all (is_stated service) (map record_bytes h.rs) ≡ true = subst (λ lists. AreStated service lists) h.spelled.bytes stated in
      absurd (some_none place (sym h.first ∙ no_bad _ h.rs 1 states values))
    where
      some_none : (p : Place) → Some p ≡ None → ⊥
      some_none p e = cc

  -- a keeper whose records are all read, whose states are spelled and whose known values spell deltas, is refused for want of memory only
  pub only_memory : (past : List Value) (kept : List (List ℕ)) (fault : RestartFault) → IsRestartFault service kept fault → AreRead service past kept → AreStated service kept
      → list_all (spells service) (known (log_of service past kept)) ≡ true → fault ≡ OutOfMemory
  only_memory past kept (BadRecord number at) (inl h) all stated fit = absurd (not_refused service past kept number at all h)
  only_memory past kept (BadRecord number at) (inr h) all stated fit = absurd (good_read past stated fit h)
  only_memory past kept OutOfMemory h all stated fit = refl
