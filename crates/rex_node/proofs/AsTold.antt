-- What a message that tells a state adds to the records.
use Rattle.rex_node.proofs.Common.{◌≡◌, ℕ, ◌<◌, ◌≤◌, ◌⊎◌, inl, inr, Bool, true, false, List, Result, Ok, Err, refl, sym, ap, subst, cases_lt, AllocError, Content, record_bytes, Transferred, Answer, Going, On, Down, Refusal, Draft, Step, Appends, Finishes, NodeValue, failed_records}
use Rattle.std.specs.Prelude.{length}
use Rattle.rex_msg.specs.declared.message.Content.TheVariants as sent
use Rattle.rex_node.specs.Telling.{KeepsAsTold}

-- the same records hold none more
pub none_kept : (c : Content) (kept : List (List ℕ)) → KeepsAsTold c kept kept
none_kept (sent.Snapshot k bytes) kept = inl refl
none_kept _ kept = tt

module _ {K : Type 0} (records : K → List (List ℕ)) where
  -- the same keeper has the same records
  pub then_kept : (c : Content) (kept : List (List ℕ)) (x y : NodeValue K) → y.keeper ≡ x.keeper → KeepsAsTold c kept (records x.keeper) → KeepsAsTold c kept (records y.keeper)
  then_kept c kept x y same h = subst (λ k. KeepsAsTold c kept (records k)) (sym same) h

  -- an append of the record that holds the message's own bytes
  pub append_kept : (faults : K → ℕ) (gives : K → List ℕ → Answer → K → Type 0) (x y : NodeValue K) (before mid : Draft) (k : ℕ) (bytes : List ℕ) (going : Going)
      → Appends records faults gives x y before mid (record_bytes (Transferred k bytes)) going → KeepsAsTold (sent.Snapshot k bytes) (records x.keeper) (records y.keeper)
  append_kept faults gives x y before mid k bytes On h = inr h.0.records
  append_kept faults gives x y before mid k bytes Down h = failed h.0.kept h.0.records
    where
      failed : (b : Bool) → records y.keeper ≡ failed_records b (records x.keeper) (record_bytes (Transferred k bytes)) → KeepsAsTold (sent.Snapshot k bytes) (records x.keeper) (records y.keeper)
      failed true e = inr e
      failed false e = inl e

  -- the end of a call changes no records
  pub finish_keeps : (before : ℕ) (draft : Draft) (end : Result Going AllocError) (y z : NodeValue K) (result : Result Step Refusal) → Finishes records before draft end y z result → z.keeper ≡ y.keeper
  finish_keeps before draft (Ok going) y z (Ok step) h = ap (λ n. n.keeper) h.0
  finish_keeps before draft (Ok going) y z (Err refusal) h = absurd h
  finish_keeps before draft (Err e) y z (Ok step) h = absurd h
  finish_keeps before draft (Err e) y z (Err refusal) h = by (cases_lt before (length (records y.keeper)))
    where
      by : (before < length (records y.keeper)) ⊎ (length (records y.keeper) ≤ before) → z.keeper ≡ y.keeper
      by (inl more) = ap (λ n. n.keeper) (h.1 more)
      by (inr few) = ap (λ n. n.keeper) (h.2 few)
