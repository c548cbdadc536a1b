-- A node that comes up with plain records.
use Rattle.std.proofs.Common.{arith, ◌≡◌, ℕ, zero, suc, ◌<◌, ◌≤◌, ◌-◌, ◌^◌, true, List, [], ◌∷◌, length, get_or, take, drop, Option, Some, None, refl, sym, ◌∙◌, ap, subst}
use Rattle.std.specs.Prelude.{map}
use Rattle.std.proofs.lemmas.Bool.{false≢true}
use Rattle.std.proofs.lemmas.List.{take_all, get_or-map, length-map}
use Rattle.rex_ballot.specs.declared.ballots.TheConstants.{INSTANCES}
use Rattle.rex_syntax.specs.declared.service.Declarations.{Declarations}
use Rattle.rex_state.specs.Value.{StateValue}
use Rattle.rex_durable.specs.declared.records.Rec.{Rec as KeptRec}
use Rattle.rex_durable.specs.declared.records.Rec.TheVariants as kept
use Rattle.rex_durable.specs.declared.recovery.Recovered.{Recovered}
use Rattle.rex_durable.specs.Recovery.{recovered}
use Rattle.rex_durable.specs.Laws.{IsRecovered}
use Rattle.rex_durable.specs.Spelling.{AreRecords, record_bytes}
use Rattle.rex_durable.specs.Kept.{Spell}
use Rattle.rex_durable.proofs.OneMore.{counts_front, take_one_more}
use Rattle.rex_durable.proofs.Ranges.{records_in_range}
use Rattle.rex_cluster.specs.Records.{Rec, base, known}
use Rattle.rex_cluster.specs.Agreed.{base_state}
use Rattle.rex_cluster.specs.Calls.{begin, restart}
use Rattle.rex_cluster.specs.Node.{down_node}
use Rattle.rex_cluster.specs.Values.{Value, values_fit}
use Rattle.rex_log.specs.Log.{first, log_of, rec_of}
use Rattle.rex_log.specs.Laws.{Says}
use Rattle.rex_log.proofs.Saying.{Front, front_none, front_more, log_front}
use Rattle.rex_node.specs.Parts.{NodeValue, IsNode}
use Rattle.rex_node.specs.Restarting.{CameUp, HasForgotten, HasRightBase}
use Rattle.rex_node.proofs.Recalling.{recovered_says}
use Rattle.rex_processes.specs.Plain.{IsPlain}
use Rattle.rex_processes.proofs.Calling.{plain_offset}
use Rattle.rex_process.specs.Starting.{FirstArePlain, HasComeUp, begins_plain}

-- ---- plain records

-- the records of a node, as the model has them
abbrev Log : Type 0
Log = List (Rec Value StateValue)

module _ (service : Declarations) where
  -- a record whose bytes begin so is plain behind plain ones
  one_plain : (r : KeptRec) (log : Log) → begins_plain (record_bytes r) ≡ true → IsPlain log → IsPlain (rec_of service [] r ∷ log)
  one_plain (kept.Promised b) log e h = h
  one_plain (kept.Accepted b i v) log e h = h
  one_plain (kept.Known i v) log e h = h
  one_plain (kept.Checkpoint k bytes) log e h = absurd (false≢true e)
  one_plain (kept.Dropped k) log e h = absurd (false≢true e)
  one_plain (kept.Transferred k bytes) log e h = absurd (false≢true e)

  -- so many first records are read, and plain
  record SaysPlainly (rs : List KeptRec) : Type 0 where
    pub front : Front service [] rs
    pub plain : IsPlain (log_of service [] (map record_bytes rs))

  module _ (rs : List KeptRec) (h : AreRecords rs) (each : FirstArePlain (map record_bytes rs) (length rs)) where
    -- each of these records begins as a plain one
    plain_at : (k : ℕ) (d : KeptRec) → k < length rs → begins_plain (record_bytes (get_or rs k d)) ≡ true
    plain_at k d there = subst (λ (bytes : List ℕ). begins_plain bytes ≡ true) (get_or-map record_bytes rs k d [] there) (each k there)

    -- so it is of each number of them
    says_plainly : (k : ℕ) → k ≤ length rs → SaysPlainly (take k rs)
    says_plainly zero le = subst (λ (xs : List KeptRec). SaysPlainly xs) (sym (nothing rs)) (record { front = front_none service []; plain = tt })
      where
        nothing : (xs : List KeptRec) → take zero xs ≡ []
        nothing [] = refl
        nothing (x ∷ xs) = refl
    says_plainly (suc k) le =
        let d = kept.Promised 0 in
        let there : k < length rs = omega arith in
        let before = take k rs in
        let r = get_or rs k d in
        let said = says_plainly k (omega arith) in
        let counts = counts_front rs h k (omega arith) in
        let follows = h.each k d there in
        subst (λ (xs : List KeptRec). SaysPlainly xs) (sym (take_one_more rs k d there))
        (record {
          front = front_more service [] before r counts follows said.front;
          plain =
              subst (λ (log : Log). IsPlain log) (sym (log_front service [] before r counts follows said.front))
              (one_plain r (log_of service [] (map record_bytes before)) (plain_at k d there) said.plain);
        })

    -- and of all
    all_plain : IsPlain (log_of service [] (map record_bytes rs))
    all_plain = (rw (take_all (length rs) rs (omega arith)) at (says_plainly (length rs) (omega arith))).plain

  -- lists of bytes that begin so, and spell records, spell plain ones
  pub log_plain : (lists : List (List ℕ)) (rs : List KeptRec) → Spell lists rs → FirstArePlain lists (length lists) → IsPlain (log_of service [] lists)
  log_plain lists rs h each =
      subst (λ (bs : List (List ℕ)). IsPlain (log_of service [] bs)) (sym h.bytes)
      (all_plain rs h.records (subst (λ (n : ℕ). FirstArePlain (map record_bytes rs) n) (length-map rs record_bytes) (subst (λ (bs : List (List ℕ)). FirstArePlain bs (length bs)) h.bytes each)))

-- plain records have no state
none_stated : (log : Log) → IsPlain log → base_state log ≡ None
none_stated [] h = refl
none_stated (Rec.Promised b ∷ log) h = none_stated log h
none_stated (Rec.Accepted b i v ∷ log) h = none_stated log h
none_stated (Rec.Known i v ∷ log) h = none_stated log h
none_stated (Rec.Checkpoint version k s ∷ log) h = absurd h
none_stated (Rec.Dropped k ∷ log) h = absurd h
none_stated (Rec.Transferred values s ∷ log) h = absurd h

-- and no base
pub none_based : (log : Log) → IsPlain log → base log ≡ 0
none_based [] h = refl
none_based (Rec.Promised b ∷ log) h = none_based log h
none_based (Rec.Accepted b i v ∷ log) h = none_based log h
none_based (Rec.Known i v ∷ log) h = none_based log h
none_based (Rec.Checkpoint version k s ∷ log) h = absurd h
none_based (Rec.Dropped k ∷ log) h = absurd h
none_based (Rec.Transferred values s ∷ log) h = absurd h

-- so their base is right
plain_right : (service : Declarations) (log : Log) → IsPlain log → HasRightBase service log
plain_right service log h s e = absurd (let no : ◌≡◌ {A = Option StateValue} None (Some s) = sym (none_stated log h) ∙ e in cc)

-- and nothing was forgotten
plain_forgets : (log : Log) → IsPlain log → HasForgotten [] log
plain_forgets log h = subst (λ (o : ℕ). first o [] ≡ take o (known log)) (sym (plain_offset log h)) (none (known log))
  where
    none : (vs : List Value) → [] ≡ take 0 vs
    none [] = refl
    none (v ∷ vs) = refl

-- without no first value the values are the same
drop_none : (vs : List Value) → drop 0 vs ≡ vs
drop_none [] = refl
drop_none (v ∷ vs) = refl

-- ---- a node that came up

module _ {K : Type 0} (records : K → List (List ℕ)) (faults : K → ℕ) (service : Declarations) (id nodes seed : ℕ) (keeper : K) (x : NodeValue K) (came : CameUp records service [] id nodes seed keeper x) (each : FirstArePlain (records keeper) (length (records keeper))) where
  -- its records
  abbrev log : Log
  log = log_of service [] (records keeper)

  -- what they say of it
  abbrev said : Recovered
  said = recovered came.good.rs

  -- the model's records say the same
  says : Says service said log
  says = recovered_says service [] came.good.spelled refl

  -- they are plain
  plain : IsPlain log
  plain = log_plain service (records keeper) came.good.rs came.good.spelled each

  -- no value was forgotten
  none_gone : said.offset ≡ 0
  none_gone = says.offset ∙ plain_offset log plain

  -- the node holds all that it knows
  known_is : x.known ≡ known log
  known_is = came.recovered_is.known_are ∙ says.held ∙ ap (λ (o : ℕ). drop o (known log)) none_gone ∙ drop_none (known log)

  -- that isn't too much
  few : length x.known ≤ INSTANCES
  few =
      let fits : IsRecovered said = records_in_range came.good.rs came.good.spelled.records in
      let within = fits.few in
      let same = came.recovered_is.known_are in
      subst (λ (vs : List Value). length vs ≤ INSTANCES) (sym same) (omega arith)

  -- it is kept as a node once all that it knows fits
  pub has_come_up : (values_fit service (known log) ≡ true → HasRightBase service log → HasForgotten [] log → IsNode records service [] x) → faults keeper < 2 ^ 64 - 1 → HasComeUp records faults service x
  has_come_up kept count =
      let log_is : log_of service [] (records x.keeper) ≡ log = ap (λ (k : K). log_of service [] (records k)) came.keeper_is in
      record {
        is = came.node ∙ ap (λ (l : Log). (restart x.id (begin (down_node l None))).node) (sym log_is);
        plain = subst (λ (l : Log). IsPlain l) (sym log_is) plain;
        holds = came.recovered_is.offset_is ∙ none_gone;
        known_is = known_is ∙ ap (λ (l : Log). known l) (sym log_is);
        few = few;
        kept = λ fit. kept (subst (λ (vs : List Value). values_fit service vs ≡ true) known_is fit) (plain_right service log plain) (plain_forgets log plain);
        count = subst (λ (k : K). faults k < 2 ^ 64 - 1) (sym came.keeper_is) count;
      }
