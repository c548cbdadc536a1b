-- What was recovered from a node's records is what they say, and the version of its last checkpoint with it.
use Rattle.rex_node.proofs.Common.{◌≡◌, ℕ, zero, suc, ◌<◌, ◌≤◌, Bool, List, [], ◌∷◌, length, get_or, take, refl, sym, ap, subst, ◌∙◌, arith, map, take_all, fold_push, Declarations, StateValue, KeptRec, Recovered, recovered, record_bytes, Spell, counts_all, Rec, has_old_base, Value, log_of, rec_of, standing_in, Says, ends_old, old_in}
use Rattle.rex_durable.specs.declared.records.Rec.TheVariants as rec
use Rattle.rex_durable.specs.Recovery.{standing}
use Rattle.rex_durable.specs.Spelling.{AreRecords}
use Rattle.rex_durable.proofs.OneMore.{counts_front, take_one_more}
use Rattle.rex_log.proofs.Saying.{Front, front_none, front_more, log_front, records_say, stands_there}

module _ (service : Declarations) (past : List Value) where
  -- what was recovered from lists of bytes is what they say
  pub recovered_says : {lists : List (List ℕ)} {rs : List KeptRec} {x : Recovered} → Spell lists rs → x ≡ recovered rs → Says service x (log_of service past lists)
  recovered_says {rs} {x} h e =
      subst (λ bs. Says service x (log_of service past bs)) (sym h.bytes)
      (subst (λ y. Says service y (log_of service past (map record_bytes rs))) (sym e) (records_say service past rs h.records).0)

  -- ---- the version of the last checkpoint

  -- with one record more
  old_more : (log : List (Rec Value StateValue)) (r : KeptRec) {before : Bool} → before ≡ has_old_base log → old_in before r ≡ has_old_base (rec_of service past r ∷ log)
  old_more log (rec.Promised b) e = e
  old_more log (rec.Accepted b i v) e = e
  old_more log (rec.Known i v) e = e
  old_more log (rec.Checkpoint k bytes) e = refl
  old_more log (rec.Dropped k) e = e
  old_more log (rec.Transferred k bytes) e = e

  -- so many first records are read, and say so of it
  record SaysOld (rs : List KeptRec) : Type 0 where
    pub front : Front service past rs
    pub old_is : ends_old rs ≡ has_old_base (log_of service past (map record_bytes rs))

  says_old : {rs : List KeptRec} → AreRecords rs → (k : ℕ) → k ≤ length rs → SaysOld (take k rs)
  says_old {rs} h zero le = subst (λ xs. SaysOld xs) (sym (nothing rs)) (record { front = front_none service past; old_is = refl })
    where
      nothing : (xs : List KeptRec) → take zero xs ≡ []
      nothing [] = refl
      nothing (x ∷ xs) = refl
  says_old {rs} h (suc k) le =
      let d = rec.Promised 0 in
      let there : k < length rs = omega arith in
      let before = take k rs in
      let r = get_or rs k d in
      let said = says_old h k (omega arith) in
      let counts = counts_front rs h k (omega arith) in
      let follows = h.each k d there in
      subst (λ xs. SaysOld xs) (sym (take_one_more rs k d there))
      (record {
        front = front_more service past before r counts follows said.front;
        old_is =
            fold_push old_in _ before r ∙ old_more _ r said.old_is
            ∙ ap (λ log. has_old_base log) (sym (log_front service past before r counts follows said.front));
      })

  all_say_old : {rs : List KeptRec} → AreRecords rs → SaysOld rs
  all_say_old {rs} h = rw (take_all (length rs) rs (omega arith)) at (says_old h (length rs) (omega arith))

  -- the last checkpoint is in the old version where the records say so
  pub old_base_is : {lists : List (List ℕ)} {rs : List KeptRec} → Spell lists rs → ends_old rs ≡ has_old_base (log_of service past lists)
  old_base_is {rs} h = subst (λ bs. ends_old rs ≡ has_old_base (log_of service past bs)) (sym h.bytes) (all_say_old h.records).old_is

  -- ---- where the next record stands

  pub stands_behind : {lists : List (List ℕ)} {rs : List KeptRec} → Spell lists rs → standing rs ≡ standing_in (log_of service past lists)
  stands_behind {rs} h =
      subst (λ bs. standing rs ≡ standing_in (log_of service past bs)) (sym h.bytes) (stands_there service past rs (counts_all rs h.records) (all_say_old h.records).front)
