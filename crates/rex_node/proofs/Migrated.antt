-- The records that a migration leaves say the same of the node.
use Rattle.rex_node.proofs.Common.{◌≡◌, ℕ, Bool, true, false, List, [], ◌∷◌, ◌++◌, Some, None, refl, sym, ap, subst, ◌∙◌, Declarations, StateValue, Two, KeptRec, Recovered, recovered, Spell, IsDue, record_bytes, counts_all, Value, Answer, refusal_of_migrate, IsCheckpoint, IsResting, NodeValue, failed_records, here_of, IsSaved}
use Rattle.rex_durable.specs.declared.records.Rec.TheVariants as kept
use Rattle.rex_durable.specs.Recovery.{after}
use Rattle.rex_durable.specs.Spelling.{Follows}
use Rattle.rex_durable.proofs.OneMore.{one_more, spell_more}
use Rattle.rex_node.specs.Migrating.{SaysTheSame, SpellsTheSame, StillSay}
use Rattle.rex_node.proofs.Recalling.{recovered_says, stands_behind}
use Rattle.rex_node.proofs.SavedAgain.{base_there, is_due, spelling}

-- records say the same as themselves
pub says_itself : {service : Declarations} {start : StateValue} {x : Recovered} → SaysTheSame service start x x
says_itself = record { promised = refl; accepted = refl; offset = refl; known = refl; base = refl; state = λ s. s }

pub spells_itself : {service : Declarations} {start : StateValue} {lists : List (List ℕ)} → StillSay service start lists lists
spells_itself {service} {start} rs h = record { again = rs; spelled = h; same = says_itself }

-- and so do the same records
pub spells_as : {K : Type 0} (records : K → List (List ℕ)) {service : Declarations} {start : StateValue} (x y : NodeValue K) → records y.keeper ≡ records x.keeper → StillSay service start (records x.keeper) (records y.keeper)
spells_as records {service} {start} x y e = subst (StillSay service start (records x.keeper)) (sym e) (spells_itself)

-- one more that is of the state at their base says the same
says_again : {service : Declarations} {start : StateValue} {x : Recovered} {snapshot : List ℕ} → IsSaved service (Some snapshot) start → SaysTheSame service start x (after x (kept.Checkpoint x.base snapshot))
says_again spelled = record { promised = refl; accepted = refl; offset = refl; known = refl; base = refl; state = λ s. spelled }

module _ {K : Type 0} {records : K → List (List ℕ)} (gives : K → List ℕ → Answer → K → Type 0) (faults : K → ℕ) {service : Declarations} {past : List Value} {x : NodeValue K} (node : IsResting records service past x) (due : refusal_of_migrate (here_of records service past x) ≡ None)
    {r : KeptRec} (is : IsCheckpoint service Two x.base x.start r) {rs : List KeptRec} (spelled : Spell (records x.keeper) rs) where
  follows : Follows rs r
  follows = record {
    spelling = spelling records gives faults service past x node due r is;
    due = subst (λ s. IsDue s r) (sym (stands_behind service past spelled)) (is_due records gives faults service past x node due r is);
  }

  -- the base is that of the records
  based : x.base ≡ (recovered rs).base
  based = base_there records gives faults service past x node due r is ∙ sym (recovered_says service past spelled refl).base

  said : recovered (rs ++ r ∷ []) ≡ after (recovered rs) (kept.Checkpoint (recovered rs).base is.snapshot)
  said =
      one_more rs r (counts_all rs spelled.records) follows ∙ ap (after (recovered rs)) is.is
      ∙ ap (λ n. after (recovered rs) (kept.Checkpoint n is.snapshot)) based

  -- the last checkpoint is kept again
  pub spells_again : {lists : List (List ℕ)} → lists ≡ records x.keeper ++ record_bytes r ∷ [] → SpellsTheSame service x.start rs lists
  spells_again e = record {
    again = rs ++ r ∷ [];
    spelled = subst (λ bs. Spell bs (rs ++ r ∷ [])) (sym e) (spell_more _ rs r spelled follows);
    same = subst (SaysTheSame service x.start (recovered rs)) (sym said) (says_again is.spells);
  }

  -- or its append failed
  pub spells_anyway : (b : Bool) {lists : List (List ℕ)} → lists ≡ failed_records b (records x.keeper) (record_bytes r) → SpellsTheSame service x.start rs lists
  spells_anyway true {lists} e = spells_again e
  spells_anyway false e = subst (SpellsTheSame service x.start rs) (sym e) (spells_itself rs spelled)
