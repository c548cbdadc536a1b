-- Records that are read beside the first of the values that are known, and beside all of them.
use Rattle.std.proofs.Common.{◌≡◌, ℕ, zero, suc, ◌≤◌, ◌⊎◌, inl, inr, true, List, [], ◌∷◌, length, Result, Ok, Err, ap, subst, ◌∙◌, arith}
use Rattle.std.specs.List.{list_all}
use Rattle.std.proofs.lemmas.Bool.{and_parts}
use Rattle.rex_syntax.specs.declared.service.Declarations.{Declarations}
use Rattle.rex_state.specs.Value.{StateValue}
use Rattle.rex_durable.specs.declared.records.Rec.{Rec as KeptRec}
use Rattle.rex_durable.specs.declared.records.Rec.TheVariants as rec
use Rattle.rex_snapshot.specs.Reading.{state_in}
use Rattle.rex_cluster.specs.Records.{Rec, HasTransferred}
use Rattle.rex_cluster.specs.Invariant.{Begins}
use Rattle.rex_cluster.specs.Values.{Value, spells}
use Rattle.rex_cluster.proofs.Bytes.{nothing_spelled}
use Rattle.rex_cluster.proofs.Fronts.{head_of, nil_not, tail_of}
use Rattle.rex_log.specs.Log.{first, log_behind, log_of, log_with, read_state}
use Rattle.rex_log.specs.Laws.{AreInPast}
use Rattle.rex_log.proofs.Firsts.{first_length, first_longer}
use Rattle.rex_log.proofs.Pasts.{longer}

-- ---- values that a list has

-- where the first values of the past begin values that all spell deltas, the past has as many
pub past_has : (service : Declarations) (k : ℕ) (past values : List Value) → list_all (spells service) values ≡ true → Begins (first k past) values → k ≤ length past
past_has service zero past values fits h = omega arith
past_has service (suc k) [] [] fits h = absurd (nil_not h.1)
past_has service (suc k) [] (v ∷ values) fits h =
    absurd (nothing_spelled service (ap (spells service) (head_of h.1) ∙ (and_parts (spells service v) (list_all (spells service) values) fits).0))
past_has service (suc k) (p ∷ past) [] fits h = absurd (nil_not h.1)
past_has service (suc k) (p ∷ past) (v ∷ values) fits h =
    let l = past_has service k past values (and_parts (spells service v) (list_all (spells service) values) fits).1 (h.0, tail_of h.1) in omega (arith, l)

-- ---- records

module _ (service : Declarations) (past : List Value) where
  -- a state was taken over after the first values of the past
  abbrev IsFirst : List Value → Type 0
  IsFirst values = (k : ℕ) × (values ≡ first k past)

  abbrev TakesFirst : List (Rec Value StateValue) → Type 0
  TakesFirst log = (values : List Value) (s : StateValue) → HasTransferred values s log → IsFirst values

  takes_with : (log : List (Rec Value StateValue)) (r : Result KeptRec ℕ) → TakesFirst log → TakesFirst (log_with service past log r)
  takes_with log (Err at) h = h
  takes_with log (Ok (rec.Promised b)) h = h
  takes_with log (Ok (rec.Accepted b i v)) h = h
  takes_with log (Ok (rec.Known i v)) h = h
  takes_with log (Ok (rec.Checkpoint k bytes)) h = h
  takes_with log (Ok (rec.Dropped k)) h = h
  takes_with log (Ok (rec.Transferred k bytes)) h = λ values s there. by values s there
    where
      by : (values : List Value) (s : StateValue) → ((values ≡ first k past) × (s ≡ read_state service (state_in service bytes))) ⊎ HasTransferred values s log → IsFirst values
      by values s (inl e) = (k, e.0)
      by values s (inr there) = h values s there

  takes_behind : (lists : List (List ℕ)) (log : List (Rec Value StateValue)) → TakesFirst log → TakesFirst (log_behind service past log lists)
  takes_behind [] log h = h
  takes_behind (bytes ∷ lists) log h = takes_behind lists _ (takes_with log _ h)

  takes_first : (lists : List (List ℕ)) → TakesFirst (log_of service past lists)
  takes_first lists = takes_behind lists [] (λ values s there. absurd there)

  -- ---- beside a longer past

  module _ (values : List Value) (fits : list_all (spells service) values ≡ true) (front : Begins past values) where
    -- the values of states that were taken over begin the values
    abbrev pub TakesFronts : List (Rec Value StateValue) → Type 0
    TakesFronts log = (taken : List Value) (s : StateValue) → HasTransferred taken s log → Begins taken values

    in_past : (lists : List (List ℕ)) → TakesFronts (log_of service past lists) → AreInPast past (log_of service past lists)
    in_past lists h taken s there =
        let f = takes_first lists taken s there in
        let l = past_has service f.0 past values fits (subst (λ vs. Begins vs values) f.1 (h taken s there)) in
        omega (arith, l, ap length f.1, first_length f.0 past)

    pub log_grown : (lists : List (List ℕ)) → TakesFronts (log_of service past lists) → log_of service values lists ≡ log_of service past lists
    log_grown lists h = subst (λ vs. log_of service vs lists ≡ log_of service past lists) front.1 (longer service past front.0 lists (in_past lists h))

    pub first_grown : {k : ℕ} → k ≤ length past → first k values ≡ first k past
    first_grown {k} l = subst (λ vs. first k vs ≡ first k past) front.1 (first_longer k past front.0 l)
