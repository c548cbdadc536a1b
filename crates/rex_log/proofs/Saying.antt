-- What a node is recovered as is what its records say.
use Rattle.std.proofs.Common.{◌≡◌, ℕ, zero, suc, ◌+◌, ◌<◌, ◌≤◌, List, [], ◌∷◌, ◌++◌, length, get_or, take, refl, sym, ap, subst, ◌∙◌, inl, inr, arith, length-append}
use Rattle.std.specs.Prelude.{◌-◌, fold, map, max, drop, option_map}
use Rattle.std.proofs.lemmas.List.{take_all, map-append, drop_all, drop-drop, drop-append-le, length-drop, length-map}
use Rattle.std.proofs.lemmas.List.Sums.{fold_push}
use Rattle.rex_ballot.specs.declared.proposal.Proposal.{Proposal as Kept}
use Rattle.rex_ballot.specs.Ballot as ballots
use Rattle.rex_ballot.specs.Proposals.{with_proposal}
use Rattle.rex_syntax.specs.declared.service.Declarations.{Declarations}
use Rattle.rex_state.specs.Value.{StateValue}
use Rattle.rex_durable.specs.declared.records.Rec.{Rec as KeptRec}
use Rattle.rex_durable.specs.declared.records.Rec.TheVariants as rec
use Rattle.rex_durable.specs.declared.records.Standing.{Standing}
use Rattle.rex_durable.specs.declared.recovery.Recovered.{Recovered}
use Rattle.rex_durable.specs.Recovery as durable
use Rattle.rex_durable.specs.Recovery.{recovered, after, standing, standing_of, acceptance_in, acceptances}
use Rattle.rex_durable.specs.Spelling.{AreRecords, Follows, HasSpelling, IsDue, record_bytes}
use Rattle.rex_durable.proofs.OneMore.{Counts, counts_all, counts_front, one_more, standing_is, take_one_more, more_some, more_none}
use Rattle.rex_durable.proofs.OneMore as more
use Rattle.rex_cluster.specs.Records.{Rec, Proposal, promise, last_accepted, from_on, known, offset, base, placed, HasAccepted, HasBallot}
use Rattle.rex_cluster.specs.Ranges.{IsBallot, IsInstance}
use Rattle.rex_cluster.specs.Agreed.{base_state}
use Rattle.rex_cluster.specs.Values.{Value}
use Rattle.rex_snapshot.specs.Reading.{state_in}
use Rattle.rex_log.specs.Log.{AreRead, first, log_of, proposal_in, read_state, rec_of, standing_in}
use Rattle.rex_log.specs.Laws.{Says}
use Rattle.rex_log.proofs.Firsts.{first_length}
use Rattle.rex_log.proofs.Pasts.{log_then, same_standing}
use Rattle.rex_log.proofs.Accepting.{above_from, placed_kept, folded_rises}

-- the numbers and the values that are recovered are what the records say
pub record Sums (service : Declarations) (x : Recovered) (log : List (Rec Value StateValue)) : Type 0 where
  pub promised : x.promised ≡ promise log
  pub offset_is : x.offset ≡ offset log
  pub base_is : x.base ≡ base log
  pub count : x.offset + length x.known ≡ length (known log)
  pub held : x.known ≡ drop x.offset (known log)
  pub state : option_map (λ bytes. read_state service (state_in service bytes)) x.snapshot ≡ base_state log

greater : (x p b : ℕ) → x ≡ p → max x b ≡ max b p
greater x p b e = omega arith

-- where a record behind them stands
stands : (service : Declarations) (x : Recovered) (log : List (Rec Value StateValue)) → Sums service x log → standing_of x ≡ standing_in log
stands service x log h = same_standing _ _ _ _ _ _ h.count h.offset_is h.base_is

-- a ballot's numbers are the model's
ballot_fits : (b : ℕ) → ballots.IsBallot b → IsBallot b
ballot_fits b h = record { some = h.first; few = h.last; node = (h.node.first, h.node.last) }

module _ (service : Declarations) (past : List Value) where
  sums_more : (x : Recovered) (log : List (Rec Value StateValue)) (r : KeptRec) → IsDue (standing_of x) r → x.base ≤ x.offset + length x.known → Sums service x log → Sums service (after x r) (rec_of service past r ∷ log)
  sums_more x log (rec.Promised b) due high h = record { promised = greater x.promised (promise log) b h.promised; offset_is = h.offset_is; base_is = h.base_is; count = h.count; held = h.held; state = h.state }
  sums_more x log (rec.Accepted b i v) due high h = record { promised = greater x.promised (promise log) b h.promised; offset_is = h.offset_is; base_is = h.base_is; count = h.count; held = h.held; state = h.state }
  sums_more x log (rec.Known i v) due high h = record {
    promised = h.promised;
    offset_is = h.offset_is;
    base_is = h.base_is;
    count = let a = length-append x.known (v ∷ []) in let b = length-append (known log) (v ∷ []) in let c = h.count in omega arith;
    held =
        ap (λ (vs : List Value). vs ++ v ∷ []) h.held
        ∙ sym (drop-append-le x.offset (known log) (v ∷ []) (let c = h.count in omega arith));
    state = h.state;
  }
  sums_more x log (rec.Checkpoint k bytes) due high h = record { promised = h.promised; offset_is = h.offset_is; base_is = refl; count = h.count; held = h.held; state = refl }
  sums_more x log (rec.Dropped k) due high h =
      let from : x.offset < k = due.0 in
      let at : k ≡ x.base = due.1 in
      record {
        promised = h.promised;
        offset_is = refl;
        base_is = h.base_is;
        count = let a = length-drop (k - x.offset) x.known in let c = h.count in omega arith;
        held =
            let e : x.offset + (k - x.offset) ≡ k = omega arith in
            ap (λ (vs : List Value). drop (k - x.offset) vs) h.held
            ∙ (drop-drop (k - x.offset) x.offset (known log) ∙ ap (λ (n : ℕ). drop n (known log)) e);
        state = h.state;
      }
  sums_more x log (rec.Transferred k bytes) due high h =
      let long = first_length k past in
      record {
        promised = h.promised;
        offset_is = sym long;
        base_is = sym long;
        count = omega arith;
        held = sym (drop_all k (first k past) (omega arith));
        state = refl;
      }

  -- what was accepted last
  last_more : (before : List KeptRec) (log : List (Rec Value StateValue)) (r : KeptRec) → map proposal_in (durable.last_accepted before) ≡ last_accepted log
      → map proposal_in (durable.last_accepted (before ++ r ∷ [])) ≡ last_accepted (rec_of service past r ∷ log)
  last_more before log (rec.Accepted b i v) e =
      let p : Kept = record { instance = i; ballot = b; value = v } in
      ap (λ (ps : List Kept). map proposal_in (fold with_proposal [] ps)) (more_some acceptance_in before (rec.Accepted b i v) p refl)
      ∙ (ap (λ (ps : List Kept). map proposal_in ps) (fold_push with_proposal [] (acceptances before) p)
      ∙ (placed_kept 0 (durable.last_accepted before) p (folded_rises [] (acceptances before) tt) ∙ ap (λ (ps : List (Proposal Value)). placed (proposal_in p) ps) e))
  last_more before log (rec.Promised b) e = ap (λ (ps : List Kept). map proposal_in (fold with_proposal [] ps)) (more_none acceptance_in before (rec.Promised b) refl) ∙ e
  last_more before log (rec.Known i v) e = ap (λ (ps : List Kept). map proposal_in (fold with_proposal [] ps)) (more_none acceptance_in before (rec.Known i v) refl) ∙ e
  last_more before log (rec.Checkpoint k bytes) e = ap (λ (ps : List Kept). map proposal_in (fold with_proposal [] ps)) (more_none acceptance_in before (rec.Checkpoint k bytes) refl) ∙ e
  last_more before log (rec.Dropped k) e = ap (λ (ps : List Kept). map proposal_in (fold with_proposal [] ps)) (more_none acceptance_in before (rec.Dropped k) refl) ∙ e
  last_more before log (rec.Transferred k bytes) e = ap (λ (ps : List Kept). map proposal_in (fold with_proposal [] ps)) (more_none acceptance_in before (rec.Transferred k bytes) refl) ∙ e

  -- the numbers of one record more
  ballots_more : (log : List (Rec Value StateValue)) (r : KeptRec) → HasSpelling r → ((b : ℕ) → HasBallot b log → IsBallot b) → (b : ℕ) → HasBallot b (rec_of service past r ∷ log) → IsBallot b
  ballots_more log (rec.Promised c) s h b (inl same) = subst (λ (n : ℕ). IsBallot n) (sym same) (ballot_fits c s.in_range)
  ballots_more log (rec.Promised c) s h b (inr there) = h b there
  ballots_more log (rec.Accepted c j w) s h b (inl same) = subst (λ (n : ℕ). IsBallot n) (sym same) (ballot_fits c s.in_range.0)
  ballots_more log (rec.Accepted c j w) s h b (inr there) = h b there
  ballots_more log (rec.Known j w) s h b there = h b there
  ballots_more log (rec.Checkpoint k bytes) s h b there = h b there
  ballots_more log (rec.Dropped k) s h b there = h b there
  ballots_more log (rec.Transferred k bytes) s h b there = h b there

  instances_more : (log : List (Rec Value StateValue)) (r : KeptRec) → HasSpelling r → ((b i : ℕ) (v : Value) → HasAccepted b i v log → IsInstance i)
      → (b i : ℕ) (v : Value) → HasAccepted b i v (rec_of service past r ∷ log) → IsInstance i
  instances_more log (rec.Accepted c j w) s h b i v (inl same) = subst (λ (n : ℕ). IsInstance n) (sym same.1) (s.in_range.1.first, s.in_range.1.last)
  instances_more log (rec.Accepted c j w) s h b i v (inr there) = h b i v there
  instances_more log (rec.Promised c) s h b i v there = h b i v there
  instances_more log (rec.Known j w) s h b i v there = h b i v there
  instances_more log (rec.Checkpoint k bytes) s h b i v there = h b i v there
  instances_more log (rec.Dropped k) s h b i v there = h b i v there
  instances_more log (rec.Transferred k bytes) s h b i v there = h b i v there

  -- all that these records say, each of which is read
  pub record Front (rs : List KeptRec) : Type 0 where
    pub sums : Sums service (recovered rs) (log_of service past (map record_bytes rs))
    pub last : map proposal_in (durable.last_accepted rs) ≡ last_accepted (log_of service past (map record_bytes rs))
    pub many : length (log_of service past (map record_bytes rs)) ≡ length rs
    pub ballots : (b : ℕ) → HasBallot b (log_of service past (map record_bytes rs)) → IsBallot b
    pub instances : (b i : ℕ) (v : Value) → HasAccepted b i v (log_of service past (map record_bytes rs)) → IsInstance i

  pub front_none : Front []
  front_none = record {
    sums = record { promised = refl; offset_is = refl; base_is = refl; count = refl; held = sym (drop_all 0 [] (omega arith)); state = refl };
    last = refl;
    many = refl;
    ballots = λ b h. absurd h;
    instances = λ b i v h. absurd h;
  }

  -- where the next record stands
  pub stands_there : (before : List KeptRec) → Counts before → Front before → standing before ≡ standing_in (log_of service past (map record_bytes before))
  stands_there before counts h = standing_is before counts ∙ stands service (recovered before) (log_of service past (map record_bytes before)) h.sums

  -- it is read with those before it
  pub log_front : (before : List KeptRec) (r : KeptRec) → Counts before → Follows before r → Front before
      → log_of service past (map record_bytes (before ++ r ∷ [])) ≡ rec_of service past r ∷ log_of service past (map record_bytes before)
  log_front before r counts follows h =
      let log = log_of service past (map record_bytes before) in
      let there : IsDue (standing_in log) r = subst (λ (s : Standing). IsDue s r) (stands_there before counts h) follows.due in
      ap (λ (lists : List (List ℕ)). log_of service past lists) (map-append record_bytes before (r ∷ []))
      ∙ log_then service past (map record_bytes before) r follows.spelling there

  pub front_more : (before : List KeptRec) (r : KeptRec) → Counts before → Follows before r → Front before → Front (before ++ r ∷ [])
  front_more before r counts follows h =
      let log = log_of service past (map record_bytes before) in
      let due : IsDue (standing_of (recovered before)) r = subst (λ (s : Standing). IsDue s r) (standing_is before counts) follows.due in
      let high : more.base before ≤ durable.offset before + length (durable.known before) = (let a = counts.high in let b = counts.count_is in omega arith) in
      let is = log_front before r counts follows h in
      record {
        sums =
            subst (λ (l : List (Rec Value StateValue)). Sums service (recovered (before ++ r ∷ [])) l) (sym is)
            (subst (λ (x : Recovered). Sums service x (rec_of service past r ∷ log)) (sym (one_more before r counts follows)) (sums_more (recovered before) log r due high h.sums));
        last = last_more before log r h.last ∙ ap last_accepted (sym is);
        ballots = λ b g. ballots_more log r follows.spelling h.ballots b (subst (λ (l : List (Rec Value StateValue)). HasBallot b l) is g);
        instances = λ b i v g. instances_more log r follows.spelling h.instances b i v (subst (λ (l : List (Rec Value StateValue)). HasAccepted b i v l) is g);
        many = ap length is ∙ (ap suc h.many ∙ (let e = length-append before (r ∷ []) in let same : suc (length before) ≡ length (before ++ r ∷ []) = omega arith in same));
      }

  front : (rs : List KeptRec) → AreRecords rs → (k : ℕ) → k ≤ length rs → Front (take k rs)
  front rs h zero le = subst (λ (xs : List KeptRec). Front xs) (sym (nothing rs)) front_none
    where
      nothing : (xs : List KeptRec) → take zero xs ≡ []
      nothing [] = refl
      nothing (x ∷ xs) = refl
  front rs h (suc k) le =
      let d = rec.Promised 0 in
      let there : k < length rs = omega arith in
      subst (λ (xs : List KeptRec). Front xs) (sym (take_one_more rs k d there))
      (front_more (take k rs) (get_or rs k d) (counts_front rs h k (omega arith)) (h.each k d there) (front rs h k (omega arith)))

  pub records_say : (rs : List KeptRec) → AreRecords rs
      → Says service (recovered rs) (log_of service past (map record_bytes rs)) × AreRead service past (map record_bytes rs)
  records_say rs h =
      let all = rw (take_all (length rs) rs (omega arith)) at (front rs h (length rs) (omega arith)) in (
        record {
          promised = all.sums.promised;
          accepted =
              above_from (durable.offset rs) (durable.last_accepted rs)
              ∙ (ap (λ (ps : List (Proposal Value)). from_on (suc (durable.offset rs)) ps) all.last
              ∙ ap (λ (n : ℕ). from_on (suc n) (last_accepted (log_of service past (map record_bytes rs)))) all.sums.offset_is);
          offset = all.sums.offset_is;
          base = all.sums.base_is;
          count = all.sums.count;
          held = all.sums.held;
          state = all.sums.state;
          fits = record {
            ballots = all.ballots;
            instances = all.instances;
            few = (let counts = counts_all rs h in let few = counts.few in let same = counts.count_is in let many = all.sums.count in omega arith);
          };
        },
        all.many ∙ sym (length-map rs record_bytes),
      )
