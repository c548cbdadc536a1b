-- Records that are read beside one past, and beside another one.
use Rattle.std.proofs.Common.{◌≡◌, ℕ, suc, ◌+◌, ◌≤◌, List, [], ◌∷◌, ◌++◌, length, take, Result, Ok, Err, refl, sym, ap, subst, ◌∙◌, inl, inr, arith, length-append}
use Rattle.std.proofs.lemmas.List.Sums.{fold-append}
use Rattle.rex_syntax.specs.declared.service.Declarations.{Declarations}
use Rattle.rex_state.specs.Value.{StateValue}
use Rattle.rex_durable.specs.declared.records.Rec.{Rec as KeptRec}
use Rattle.rex_durable.specs.declared.records.Rec.TheVariants as rec
use Rattle.rex_durable.specs.declared.records.Standing.{Standing}
use Rattle.rex_durable.specs.Reading.{record_in}
use Rattle.rex_durable.specs.Spelling.{HasSpelling, IsDue, record_bytes}
use Rattle.rex_durable.proofs.RecordsAgain.{record_read}
use Rattle.rex_msg.specs.declared.message.Message.{Message}
use Rattle.rex_msg.specs.declared.message.Content.{Content}
use Rattle.rex_msg.specs.declared.message.Content.TheVariants as sent
use Rattle.rex_cluster.specs.Node.{Message as ModelMessage}
use Rattle.rex_snapshot.specs.Reading.{state_in}
use Rattle.rex_cluster.specs.Node.Content.{Snapshot}
use Rattle.rex_cluster.specs.Records.{Rec, known, offset, base, HasTransferred}
use Rattle.rex_cluster.specs.Records.Rec.{Transferred}
use Rattle.rex_cluster.specs.Invariant.{Begins}
use Rattle.rex_cluster.specs.Values.{Value}
use Rattle.rex_log.specs.Log.{first, read_state, rec_of, log_with, standing_in, log_behind, log_of}
use Rattle.rex_log.specs.Messages.{content_in, message_in, IsTold}
use Rattle.rex_log.specs.Laws.{AreAlike, AreInPast}
use Rattle.rex_log.proofs.Firsts.{first_length, first_longer, first_take}

-- ---- one record more

pub log_then : (service : Declarations) (past : List Value) (lists : List (List ℕ)) (r : KeptRec) → HasSpelling r → IsDue (standing_in (log_of service past lists)) r
    → log_of service past (lists ++ record_bytes r ∷ []) ≡ rec_of service past r ∷ log_of service past lists
log_then service past lists r spelling due =
    fold-append (λ log bytes. log_with service past log (record_in (standing_in log) bytes)) [] lists (record_bytes r ∷ [])
    ∙ ap (log_with service past (log_of service past lists)) (record_read (standing_in (log_of service past lists)) r spelling due)

-- ---- two pasts

-- the same in each number
pub same_standing : (c d m n a b : ℕ) → c ≡ d → m ≡ n → a ≡ b → (let x : Standing = record { count = c; offset = m; base = a } in x) ≡ (let y : Standing = record { count = d; offset = n; base = b } in y)
same_standing c d m n a b e f g = rw (e, f, g) refl

stands : (one other : List (Rec Value StateValue)) → length (known one) ≡ length (known other) → offset one ≡ offset other → base one ≡ base other → standing_in one ≡ standing_in other
stands one other k o b = same_standing _ _ _ _ _ _ k o b

-- the numbers of a standing
count_in : {s t : Standing} → s ≡ t → s.count ≡ t.count
count_in e = ap (λ (s : Standing). s.count) e

offset_in : {s t : Standing} → s ≡ t → s.offset ≡ t.offset
offset_in e = ap (λ (s : Standing). s.offset) e

base_in : {s t : Standing} → s ≡ t → s.base ≡ t.base
base_in e = ap (λ (s : Standing). s.base) e

module _ (service : Declarations) (past others : List Value) where
  -- one record more leaves them alike
  alike_more : (one other : List (Rec Value StateValue)) (r : KeptRec) → AreAlike one other → AreAlike (rec_of service past r ∷ one) (rec_of service others r ∷ other)
  alike_more one other (rec.Promised b) h = record { many = ap suc h.many; stands = h.stands }
  alike_more one other (rec.Accepted b i v) h = record { many = ap suc h.many; stands = h.stands }
  alike_more one other (rec.Known i v) h = record {
    many = ap suc h.many;
    stands =
        stands (rec_of service past (rec.Known i v) ∷ one) (rec_of service others (rec.Known i v) ∷ other)
        (length-append (known one) (v ∷ []) ∙ ap (λ (n : ℕ). n + 1) (count_in h.stands) ∙ sym (length-append (known other) (v ∷ []))) (offset_in h.stands) (base_in h.stands);
  }
  alike_more one other (rec.Checkpoint k bytes) h = record {
    many = ap suc h.many;
    stands = stands (rec_of service past (rec.Checkpoint k bytes) ∷ one) (rec_of service others (rec.Checkpoint k bytes) ∷ other) (count_in h.stands) (offset_in h.stands) refl;
  }
  alike_more one other (rec.Dropped k) h = record {
    many = ap suc h.many;
    stands = stands (rec_of service past (rec.Dropped k) ∷ one) (rec_of service others (rec.Dropped k) ∷ other) (count_in h.stands) refl (base_in h.stands);
  }
  alike_more one other (rec.Transferred k bytes) h =
      let same : length (first k past) ≡ length (first k others) = first_length k past ∙ sym (first_length k others) in
      record {
        many = ap suc h.many;
        stands = stands (rec_of service past (rec.Transferred k bytes) ∷ one) (rec_of service others (rec.Transferred k bytes) ∷ other) same same same;
      }

  alike_behind : (lists : List (List ℕ)) (one other : List (Rec Value StateValue)) → AreAlike one other → AreAlike (log_behind service past one lists) (log_behind service others other lists)
  alike_behind [] one other h = h
  alike_behind (bytes ∷ lists) one other h =
      alike_behind lists (log_with service past one (record_in (standing_in one) bytes)) (log_with service others other (record_in (standing_in other) bytes))
      (subst (λ (s : Standing). AreAlike (log_with service past one (record_in (standing_in one) bytes)) (log_with service others other (record_in s bytes))) h.stands (by (record_in (standing_in one) bytes)))
    where
      by : (r : Result KeptRec ℕ) → AreAlike (log_with service past one r) (log_with service others other r)
      by (Ok r) = alike_more one other r h
      by (Err at) = h

  pub alike : (lists : List (List ℕ)) → AreAlike (log_of service past lists) (log_of service others lists)
  alike lists = alike_behind lists [] [] (record { many = refl; stands = refl })

-- ---- a longer past

module _ (service : Declarations) (past more : List Value) where
  -- what stands in records stays there
  stays_with : (values : List Value) (s : StateValue) (log : List (Rec Value StateValue)) (r : Result KeptRec ℕ) → HasTransferred values s log → HasTransferred values s (log_with service past log r)
  stays_with values s log (Err at) h = h
  stays_with values s log (Ok r) h = there r
    where
      there : (r : KeptRec) → HasTransferred values s (rec_of service past r ∷ log)
      there (rec.Promised b) = h
      there (rec.Accepted b i v) = h
      there (rec.Known i v) = h
      there (rec.Checkpoint k bytes) = h
      there (rec.Dropped k) = h
      there (rec.Transferred k bytes) = inr h

  stays_behind : (values : List Value) (s : StateValue) (lists : List (List ℕ)) (log : List (Rec Value StateValue)) → HasTransferred values s log → HasTransferred values s (log_behind service past log lists)
  stays_behind values s [] log h = h
  stays_behind values s (bytes ∷ lists) log h = stays_behind values s lists (log_with service past log (record_in (standing_in log) bytes)) (stays_with values s log (record_in (standing_in log) bytes) h)

  -- one record is read the same
  rec_same : (log : List (Rec Value StateValue)) (r : KeptRec) → AreInPast past (rec_of service past r ∷ log) → rec_of service (past ++ more) r ≡ rec_of service past r
  rec_same log (rec.Promised b) h = refl
  rec_same log (rec.Accepted b i v) h = refl
  rec_same log (rec.Known i v) h = refl
  rec_same log (rec.Checkpoint k bytes) h = refl
  rec_same log (rec.Dropped k) h = refl
  rec_same log (rec.Transferred k bytes) h =
      let le = h (first k past) (read_state service (state_in service bytes)) (inl (refl, refl)) in
      let long = first_length k past in
      ap (λ (vs : List Value). Transferred vs (read_state service (state_in service bytes))) (first_longer k past more (omega arith))

  longer_behind : (lists : List (List ℕ)) (log : List (Rec Value StateValue)) → AreInPast past (log_behind service past log lists)
      → log_behind service (past ++ more) log lists ≡ log_behind service past log lists
  longer_behind [] log h = refl
  longer_behind (bytes ∷ lists) log h =
      ap (λ (l : List (Rec Value StateValue)). log_behind service (past ++ more) l lists) (by (record_in (standing_in log) bytes) now)
      ∙ longer_behind lists (log_with service past log (record_in (standing_in log) bytes)) h
    where
      now : AreInPast past (log_with service past log (record_in (standing_in log) bytes))
      now values s there = h values s (stays_behind values s lists (log_with service past log (record_in (standing_in log) bytes)) there)

      by : (r : Result KeptRec ℕ) → AreInPast past (log_with service past log r) → log_with service (past ++ more) log r ≡ log_with service past log r
      by (Ok r) g = ap (λ (q : Rec Value StateValue). q ∷ log) (rec_same log r g)
      by (Err at) g = refl

  pub longer : (lists : List (List ℕ)) → AreInPast past (log_of service past lists) → log_of service (past ++ more) lists ≡ log_of service past lists
  longer lists h = longer_behind lists [] h

-- ---- messages

content_longer : (past more : List Value) (c : Content) → IsTold past c → content_in (past ++ more) c ≡ content_in past c
content_longer past more (sent.Prepare b i) h = refl
content_longer past more (sent.Promise b ps) h = refl
content_longer past more (sent.Accept b i v) h = refl
content_longer past more (sent.Accepted b i) h = refl
content_longer past more (sent.Chosen i v) h = refl
content_longer past more (sent.Nack b p) h = refl
content_longer past more (sent.Ask i) h = refl
content_longer past more (sent.Snapshot k bytes) h = ap Snapshot (first_longer k past more h)

pub message_longer : (past more : List Value) (m : Message) → IsTold past m.content → message_in (past ++ more) m ≡ message_in past m
message_longer past more m h = by m.content h
  where
    by : (c : Content) → IsTold past c → (let x : ModelMessage Value = record { from = m.from; to = m.to; content = content_in (past ++ more) c } in x) ≡ record { from = m.from; to = m.to; content = content_in past c }
    by c g = rw (content_longer past more c g) refl

pub state_told : (past values : List Value) (k : ℕ) (bytes : List ℕ) → Begins values past → k ≤ length values → content_in past (sent.Snapshot k bytes) ≡ Snapshot (take k values)
state_told past values k bytes h l = ap Snapshot (ap (first k) (sym h.1) ∙ (first_longer k values h.0 l ∙ first_take k values l))
