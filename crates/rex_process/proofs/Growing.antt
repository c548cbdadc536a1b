-- What a node knows goes on where its records do.
use Rattle.std.proofs.Common.{◌≡◌, ℕ, ◌+◌, ◌≤◌, List, [], ◌∷◌, ◌++◌, length, take, Result, Ok, Err, refl, sym, ◌∙◌, ap, subst, arith, append-nil, append_assoc, length-append}
use Rattle.std.proofs.lemmas.List.{take-append-le}
use Rattle.rex_syntax.specs.declared.service.Declarations.{Declarations}
use Rattle.rex_state.specs.Value.{StateValue}
use Rattle.rex_durable.specs.declared.records.Rec.{Rec as KeptRec}
use Rattle.rex_durable.specs.declared.records.Rec.TheVariants as kept
use Rattle.rex_durable.specs.Reading.{record_in}
use Rattle.rex_cluster.specs.Records.{Rec, known}
use Rattle.rex_cluster.specs.Values.{Value}
use Rattle.rex_log.specs.Log.{log_with, log_behind, log_of, standing_in}
use Rattle.rex_processes.specs.Plain.{IsPlain}
use Rattle.rex_process.specs.Coming.{GoesOn}
use Rattle.rex_process.specs.Process.{ProcessValue, here}
use Rattle.rex_process.proofs.Pasts.{plain_before}

abbrev Log : Type 0
Log = List (Rec Value StateValue)

-- what is known in one log goes on in another
pub record KnowsOn (one other : Log) : Type 0 where
  pub more : List Value
  pub is : known other ≡ known one ++ more

module _ (service : Declarations) (past : List Value) where
  none_more : (log : Log) → KnowsOn log log
  none_more log = record { more = []; is = sym (append-nil (known log)) }

  knows_trans : (a b c : Log) → KnowsOn a b → KnowsOn b c → KnowsOn a c
  knows_trans a b c h k = record { more = h.more ++ k.more; is = k.is ∙ ap (λ (vs : List Value). vs ++ k.more) h.is ∙ append_assoc (known a) h.more k.more }

  -- by one record that is plain
  knows_with : (log : Log) (r : Result KeptRec ℕ) → IsPlain (log_with service past log r) → KnowsOn log (log_with service past log r)
  knows_with log (Ok (kept.Promised b)) plain = record { more = []; is = sym (append-nil (known log)) }
  knows_with log (Ok (kept.Accepted b i v)) plain = record { more = []; is = sym (append-nil (known log)) }
  knows_with log (Ok (kept.Known i v)) plain = record { more = v ∷ []; is = refl }
  knows_with log (Ok (kept.Checkpoint k bytes)) plain = absurd plain
  knows_with log (Ok (kept.Dropped k)) plain = absurd plain
  knows_with log (Ok (kept.Transferred k bytes)) plain = absurd plain
  knows_with log (Err at) plain = none_more log

  knows_behind : (log : Log) (lists : List (List ℕ)) → IsPlain (log_behind service past log lists) → KnowsOn log (log_behind service past log lists)
  knows_behind log [] plain = none_more log
  knows_behind log (bytes ∷ lists) plain =
      let next : Log = log_with service past log (record_in (standing_in log) bytes) in
      knows_trans log next (log_behind service past next lists)
      (knows_with log (record_in (standing_in log) bytes) (plain_before service past past next lists plain))
      (knows_behind next lists plain)

  behind_append : (log : Log) (some more : List (List ℕ)) → log_behind service past log (some ++ more) ≡ log_behind service past (log_behind service past log some) more
  behind_append log [] more = refl
  behind_append log (bytes ∷ some) more = behind_append (log_with service past log (record_in (standing_in log) bytes)) some more

  pub knows_on : {K : Type 0} → (records : K → List (List ℕ)) (old new : K) → GoesOn records old new → IsPlain (log_of service past (records new)) → KnowsOn (log_of service past (records old)) (log_of service past (records new))
  knows_on records old new goes plain =
      let e : log_of service past (records new) ≡ log_behind service past (log_of service past (records old)) goes.written =
      ap (log_of service past) goes.grown ∙ behind_append [] (records old) goes.written in
      subst (KnowsOn (log_of service past (records old))) (sym e)
      (knows_behind (log_of service past (records old)) goes.written (subst (λ (l : Log). IsPlain l) e plain))

-- ---- the same records

module _ {K : Type 0} (records : K → List (List ℕ)) (p q : ProcessValue K) (service : q.service ≡ p.service) (keeper : q.node.keeper ≡ p.node.keeper) where
  -- with the same records a process knows the same
  pub same_known : known (here records q).log ≡ known (here records p).log
  same_known =
      ap (λ (s : Declarations). known (log_of s [] (records q.node.keeper))) service
      ∙ ap (λ (k : K). known (log_of p.service [] (records k))) keeper

-- ---- more values

-- its first values are those that were known before
pub first_known : (one other : List (Rec Value StateValue)) (more : List Value) → known other ≡ known one ++ more → take (length (known one)) (known other) ≡ known one
first_known one other more e =
    ap (take (length (known one))) e ∙ take-append-le (length (known one)) (known one) more (omega arith) ∙ take_length (known one)
  where
    take_length : (vs : List Value) → take (length vs) vs ≡ vs
    take_length [] = refl
    take_length (v ∷ vs) = ap (λ (rest : List Value). v ∷ rest) (take_length vs)

pub longer_known : (one other : List (Rec Value StateValue)) (more : List Value) → known other ≡ known one ++ more → length (known one) ≤ length (known other)
longer_known one other more e = let l : length (known other) ≡ length (known one) + length more = ap length e ∙ length-append (known one) more in omega arith
