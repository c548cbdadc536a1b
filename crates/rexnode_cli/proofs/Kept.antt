-- What becomes of a keeper below, by what becomes of the one above it.
use Rattle.std.proofs.Common.{◌≡◌, ◌⊎◌, ◌≢◌, ◌<◌, ◌≤◌, ◌+◌, ℕ, Bool, true, false, IsTrue, Some, List, [], ◌∷◌, Ok, Err, inl, inr, refl, sym, ap, subst, arith, ◌∙◌}
use Rattle.std.proofs.lemmas.Bool.{false≢true}
use Rattle.rex_traits.specs.Causes.{Rose}
use Rattle.rex_traits.specs.Chains.{Answer}
use Rattle.rex_traits.specs.declared.keeper.KeepFault.TheVariants.{Failed, OutOfMemory}
use Rattle.rex_disk.specs.Calls.{Call}
use Rattle.rex_wal.specs.Appending.{Appends}
use Rattle.rex_wal.specs.Keeping.{AllStandFor, WalValue}
use Rattle.rex_identity.specs.Identity.{IdentityValue, identity_bytes}
use Rattle.rex_identity.specs.Claims.{AppendsBelow, GivesFault, IsFirst, OwnedValue}
use Rattle.rex_identity.specs.declared.fault.ClaimFault.{ClaimFault}
use Rattle.rex_identity.specs.declared.fault.ClaimFault.TheVariants as claim_fault
use Rattle.rex_group.specs.Groups.{group}
use Rattle.rex_group.specs.Keeping.{FlushesGroup, GroupValue, Waits}
use Rattle.rex_process.specs.Keeping.{ByAppends, ByAppendsAndFlushes, IsAppend, IsAppendOrFlush}
use Rattle.rex_process.proofs.Keeping.{leads_below, leads_keep, leads_one, leads_same}

-- ---- groups

module _ {K : Type 0} (gives : K → List ℕ → Answer → K → Type 0) where
  abbrev One : GroupValue (OwnedValue K) → GroupValue (OwnedValue K) → Type 0
  One = IsAppendOrFlush Waits (FlushesGroup (AppendsBelow gives))

  -- an append waits
  waits_above : (old new : GroupValue (OwnedValue K)) (bytes : List ℕ) (answer : Answer) → Waits old bytes answer new → new.keeper ≡ old.keeper
  waits_above old new bytes (Ok x) same = ap (λ (g : GroupValue (OwnedValue K)). g.keeper) same
  waits_above old new bytes (Err Failed) same = absurd same
  waits_above old new bytes (Err OutOfMemory) same = ap (λ (g : GroupValue (OwnedValue K)). g.keeper) same

  -- a flush appends once or not at all
  one_below : (old new : GroupValue (OwnedValue K)) → One old new → ByAppends gives old.keeper.keeper new.keeper.keeper
  one_below old new (inl s) = leads_same (IsAppend gives) old.keeper.keeper new.keeper.keeper (ap (λ (o : OwnedValue K). o.keeper) (waits_above old new s.bytes s.answer s.appended))
  one_below old new (inr s) = by s.flushed
    where
      by : FlushesGroup (AppendsBelow gives) old s.answer new → ByAppends gives old.keeper.keeper new.keeper.keeper
      by (inl h) = leads_same (IsAppend gives) old.keeper.keeper new.keeper.keeper (ap (λ (g : GroupValue (OwnedValue K)). g.keeper.keeper) h.same)
      by (inr h) = leads_one (IsAppend gives) old.keeper.keeper new.keeper.keeper (record { bytes = group old.waits; answer = s.answer; appended = h.appended.below })

  one_identity : (old new : GroupValue (OwnedValue K)) → One old new → new.keeper.identity ≡ old.keeper.identity
  one_identity old new (inl s) = ap (λ (o : OwnedValue K). o.identity) (waits_above old new s.bytes s.answer s.appended)
  one_identity old new (inr s) = by s.flushed
    where
      by : FlushesGroup (AppendsBelow gives) old s.answer new → new.keeper.identity ≡ old.keeper.identity
      by (inl h) = ap (λ (g : GroupValue (OwnedValue K)). g.keeper.identity) h.same
      by (inr h) = h.appended.identity

  -- the keeper below appended, and did nothing else
  pub appended_below : (old new : GroupValue (OwnedValue K)) → ByAppendsAndFlushes Waits (FlushesGroup (AppendsBelow gives)) old new → ByAppends gives old.keeper.keeper new.keeper.keeper
  appended_below = leads_below One (IsAppend gives) (λ g. g.keeper.keeper) one_below

  -- whose it is stays so
  pub same_identity : (old new : GroupValue (OwnedValue K)) → ByAppendsAndFlushes Waits (FlushesGroup (AppendsBelow gives)) old new → new.keeper.identity ≡ old.keeper.identity
  same_identity old new h = leads_keep One (λ g. g.keeper.identity ≡ old.keeper.identity) (λ a b s p. one_identity a b s ∙ p) old new h refl

-- a keeper that is handed back still begins with the record of the identity that it was claimed for
pub first_of : {K : Type 0} (records : K → List (List ℕ)) (gives : K → List ℕ → Answer → K → Type 0) (identity : IdentityValue) (grouped last : GroupValue (OwnedValue K)) (owned : OwnedValue K) (back : K) → grouped.keeper.identity ≡ identity
    → ByAppendsAndFlushes Waits (FlushesGroup (AppendsBelow gives)) grouped last → owned ≡ last.keeper → back ≡ owned.keeper → IsFirst (identity_bytes owned.identity) (records owned.keeper) → IsFirst (identity_bytes identity) (records back)
first_of {K} records gives identity grouped last owned back claimed done owned_is back_is first =
    subst (λ (i : IdentityValue). IsFirst (identity_bytes i) (records back)) (ap (λ (o : OwnedValue K). o.identity) owned_is ∙ (same_identity gives grouped last done ∙ claimed))
    (subst (λ k. IsFirst (identity_bytes owned.identity) (records k)) (sym back_is) first)

-- ---- claims

is_empty : {A : Type 0} (xs : List A) → (xs ≡ []) ⊎ (xs ≢ [])
is_empty [] = inl refl
is_empty (x ∷ xs) = inr (λ e. absurd cc)

module _ {K : Type 0} (records : K → List (List ℕ)) (gives : K → List ℕ → Answer → K → Type 0) where
  -- a keeper that is claimed appended the identity's record, or nothing
  pub claim_appends : (bytes : List ℕ) (keeper back : K) → (records keeper ≢ [] → back ≡ keeper) → (records keeper ≡ [] → gives keeper bytes (Ok tt) back) → ByAppends gives keeper back
  claim_appends bytes keeper back same appended = by (is_empty (records keeper))
    where
      by : (records keeper ≡ []) ⊎ (records keeper ≢ []) → ByAppends gives keeper back
      by (inl none) = leads_one (IsAppend gives) keeper back (record { bytes = bytes; answer = Ok tt; appended = appended none })
      by (inr some) = leads_same (IsAppend gives) keeper back (same some)

  refused_by : (bytes : List ℕ) (keeper back : K) (fault : ClaimFault) → GivesFault gives keeper bytes fault back → ByAppends gives keeper back
  refused_by bytes keeper back claim_fault.Foreign h = absurd h
  refused_by bytes keeper back claim_fault.Failed h = leads_one (IsAppend gives) keeper back (record { bytes = bytes; answer = Err Failed; appended = h })
  refused_by bytes keeper back claim_fault.OutOfMemory h = leads_one (IsAppend gives) keeper back (record { bytes = bytes; answer = Err OutOfMemory; appended = h })

  -- and so did one that isn't
  pub refusal_appends : (bytes : List ℕ) (keeper back : K) (fault : ClaimFault) → (records keeper ≢ [] → back ≡ keeper) → (records keeper ≡ [] → GivesFault gives keeper bytes fault back) → ByAppends gives keeper back
  refusal_appends bytes keeper back fault same appended = by (is_empty (records keeper))
    where
      by : (records keeper ≡ []) ⊎ (records keeper ≢ []) → ByAppends gives keeper back
      by (inl none) = refused_by bytes keeper back fault (appended none)
      by (inr some) = leads_same (IsAppend gives) keeper back (same some)

-- ---- a journal

module _ {D : Type 0} (gives : D → Call → Bool → D → Type 0) (meets : D → Bool) (may_leave : D → List ℕ → Type 0) (faults : D → ℕ) where
  one_model : (old new : WalValue D) (bytes : List ℕ) (answer : Answer) → Appends gives meets may_leave faults old bytes answer new → meets new.disk ≡ meets old.disk
  one_model old new bytes (Ok x) h = h.wrote.model
  one_model old new bytes (Err Failed) (inl h) = ap (λ (j : WalValue D). meets j.disk) h.1
  one_model old new bytes (Err Failed) (inr h) = h.wrote.model
  one_model old new bytes (Err OutOfMemory) (inl same) = ap (λ (j : WalValue D). meets j.disk) same
  one_model old new bytes (Err OutOfMemory) (inr h) = h.model

  -- appends don't change whether its disk does what is said of one
  pub same_model : (old new : WalValue D) → ByAppends (λ old bytes answer new. Appends gives meets may_leave faults old bytes answer new) old new → meets new.disk ≡ meets old.disk
  same_model old new h =
      leads_keep (IsAppend (λ old bytes answer new. Appends gives meets may_leave faults old bytes answer new)) (λ j. meets j.disk ≡ meets old.disk) (λ a b s p. one_model a b s.bytes s.answer s.appended ∙ p) old new h refl

  -- behind a journal that is whole: the disk counted no less, one that broke counted more, and only that one refuses appends
  record IsCounted (old new : WalValue D) : Type 0 where
    pub later : faults old.disk ≤ faults new.disk
    pub broken : new.broken ≡ true → faults old.disk < faults new.disk
    pub whole : new.broken ≡ false → new.refused ≡ 0

  -- it stays so where only the disk and the records may have changed, and the count hasn't
  stays_counted : (first old new : WalValue D) → new.broken ≡ old.broken → new.refused ≡ old.refused → faults new.disk ≡ faults old.disk → IsCounted first old → IsCounted first new
  stays_counted first old new broken refused counted p = record {
    later = (let a = p.later in omega (arith, counted));
    broken = λ e. (let a = p.broken (sym broken ∙ e) in omega (arith, counted));
    whole = λ e. refused ∙ p.whole (sym broken ∙ e);
  }

  one_counted : (first old new : WalValue D) (bytes : List ℕ) (answer : Answer) → Appends gives meets may_leave faults old bytes answer new → IsCounted first old → IsCounted first new
  one_counted first old new bytes (Ok x) h p = stays_counted first old new (ap (λ (j : WalValue D). j.broken) h.value) (ap (λ (j : WalValue D). j.refused) h.value) h.counted p
  one_counted first old new bytes (Err Failed) (inl h) p = record {
    later = subst (λ (j : WalValue D). faults first.disk ≤ faults j.disk) (sym h.1) p.later;
    broken = λ e. subst (λ (j : WalValue D). faults first.disk < faults j.disk) (sym h.1) (p.broken h.0);
    whole = λ e. absurd (false≢true (sym e ∙ (ap (λ (j : WalValue D). j.broken) h.1 ∙ h.0)));
  }
  one_counted first old new bytes (Err Failed) (inr h) p = record {
    later = (let a = p.later in omega (arith, h.counted));
    broken = λ e. (let a = p.later in omega (arith, h.counted));
    whole = λ e. absurd (false≢true (sym e ∙ ap (λ (j : WalValue D). j.broken) h.value));
  }
  one_counted first old new bytes (Err OutOfMemory) (inl same) p = stays_counted first old new (ap (λ (j : WalValue D). j.broken) same) (ap (λ (j : WalValue D). j.refused) same) (ap (λ (j : WalValue D). faults j.disk) same) p
  one_counted first old new bytes (Err OutOfMemory) (inr h) p = stays_counted first old new (ap (λ (j : WalValue D). j.broken) h.value) (ap (λ (j : WalValue D). j.refused) h.value) h.counted p

  counted : (old new : WalValue D) → (old.broken ≡ false) × (old.refused ≡ 0) → ByAppends (λ old bytes answer new. Appends gives meets may_leave faults old bytes answer new) old new → IsCounted old new
  counted old new was h =
      leads_keep (IsAppend (λ old bytes answer new. Appends gives meets may_leave faults old bytes answer new)) (IsCounted old) (λ a b s p. one_counted old a b s.bytes s.answer s.appended p) old new h
      (record { later = omega arith; broken = λ e. absurd (false≢true (sym was.0 ∙ e)); whole = λ e. was.1 })

  -- of a journal that broke each image that a stop may leave stands for its records, with one more or without
  abbrev pub IsTorn : WalValue D → Type 0
  IsTorn j = j.broken ≡ true → IsTrue (meets j.disk) → (lost : List ℕ) × AllStandFor (may_leave j.disk) j.records (Some lost)

  -- it stays so where it isn't broken
  unbroken : (j : WalValue D) → j.broken ≡ false → IsTorn j
  unbroken j whole broken = absurd (false≢true (sym whole ∙ broken))

  one_torn : (old new : WalValue D) (bytes : List ℕ) (answer : Answer) → Appends gives meets may_leave faults old bytes answer new → IsTorn old → IsTorn new
  one_torn old new bytes (Ok x) h p = unbroken new (ap (λ (j : WalValue D). j.broken) h.value ∙ h.whole)
  one_torn old new bytes (Err Failed) (inl h) p = subst IsTorn (sym h.1) p
  one_torn old new bytes (Err Failed) (inr h) p = λ broken met.
      (bytes, subst (λ (records : List (List ℕ)). AllStandFor (may_leave new.disk) records (Some bytes)) (sym (ap (λ (j : WalValue D). j.records) h.value)) (h.torn met))
  one_torn old new bytes (Err OutOfMemory) (inl same) p = subst IsTorn (sym same) p
  one_torn old new bytes (Err OutOfMemory) (inr h) p = unbroken new (ap (λ (j : WalValue D). j.broken) h.value ∙ h.whole)

  pub torn_by : (old new : WalValue D) → (old.broken ≡ false) × (old.refused ≡ 0) → ByAppends (λ old bytes answer new. Appends gives meets may_leave faults old bytes answer new) old new → IsTorn new
  torn_by old new was h =
      leads_keep (IsAppend (λ old bytes answer new. Appends gives meets may_leave faults old bytes answer new)) IsTorn (λ a b s p. one_torn a b s.bytes s.answer s.appended p) old new h (unbroken old was.0)

  -- where a journal that was whole is broken, its disk failed
  pub broken_rose : (old new : WalValue D) → (old.broken ≡ false) × (old.refused ≡ 0) → ByAppends (λ old bytes answer new. Appends gives meets may_leave faults old bytes answer new) old new → new.broken ≡ true → faults old.disk < faults new.disk
  broken_rose old new was h = (counted old new was h).broken

  -- and so it did where it failed
  pub disk_rose : (old new : WalValue D) → (old.broken ≡ false) × (old.refused ≡ 0) → ByAppends (λ old bytes answer new. Appends gives meets may_leave faults old bytes answer new) old new
      → Rose (faults old.disk + old.refused) (faults new.disk + new.refused) → Rose (faults old.disk) (faults new.disk)
  disk_rose old new was h rose = by new.broken refl
    where
      by : (broken : Bool) → new.broken ≡ broken → Rose (faults old.disk) (faults new.disk)
      by true e = (let a = broken_rose old new was h e in omega arith)
      by false e = (let a = (counted old new was h).whole e in let b = was.1 in omega (arith, rose))
