-- What a call of a node comes to, whether its keeper is armed or not; and the keeper's records are still read.
use Rattle.rex_world.proofs.Common.{◌≡◌, ◌≤◌, ◌+◌, ℕ, Bool, true, false, List, [], ◌∷◌, ◌++◌, length, Ok, Err, Option, Some, None, inl, inr, refl, sym, ap, ◌∙◌, subst, arith, append-nil, append_assoc, length-append, list_all, IsSome, and_parts, Declarations, KeeperValue, Fate, Failure, After, begin, Here, CallHere, Step, NodeValue, here_of, Value, Begins, AreRead, Does, IsKeeping, armed_of, faults_of, here_at, records_of, IsDone}
use Rattle.std.specs.Prelude.{MatchResult, IsNone}
use Rattle.std.proofs.lemmas.List.Folds.{list_all-append}
use Rattle.rex_traits.specs.declared.keeper.KeepFault.{KeepFault}
use Rattle.rex_traits.specs.Chains.{Answer, AppendsInTurn}
use Rattle.rex_traits.specs.Keeping.{appended_as, with_record}
use Rattle.rex_traits.specs.Obeying.{ObeysArming}
use Rattle.rex_traits.specs.declared.mem_keeper.Fate.TheVariants.{Kept, Lost}
use Rattle.rex_node.specs.Parts.{failed_records}
use Rattle.rex_node.specs.Stated.{AreStated, is_stated}
use Rattle.rex_node.specs.Calls.{FailsAfter, GoesWell, call_of, failed_many}
use Rattle.rex_world.specs.Members.{failing}
use Rattle.rex_cluster.proofs.CallLaws.{armed_as}
use Rattle.rex_cluster.proofs.Unseen.{Goes, unseen}

abbrev pub follows : KeeperValue → List ℕ → Answer → KeeperValue → Type 0
follows old bytes result new = ObeysArming old new bytes result

abbrev done : Answer
done = Ok tt

abbrev fault_of : KeepFault → Answer
fault_of fault = Err fault

-- ---- a keeper that isn't armed

unarmed_append : (armed : Option Fate) (old : KeeperValue) {new : KeeperValue} (bytes : List ℕ) → armed ≡ None → new ≡ appended_as armed bytes old → new ≡ with_record bytes old
unarmed_append None old bytes e h = h
unarmed_append (Some fate) old bytes e h = absurd (cc)

appended : (old : KeeperValue) {new : KeeperValue} (bytes : List ℕ) → old.armed ≡ None → follows old bytes done new → new.armed ≡ None
appended old {new} bytes unarmed h = ap (λ k. k.armed) (unarmed_append old.armed old bytes unarmed h.1) ∙ unarmed

stays : (old new : KeeperValue) (written : List (List ℕ)) → old.armed ≡ None → AppendsInTurn follows old written done new → new.armed ≡ None
stays old new [] unarmed h = ap (λ k. k.armed) h.1 ∙ unarmed
stays old new (bytes ∷ later) unarmed h = by h.0 h.1 h.2 (λ k ok chain. stays k new later ok chain) h.3
  where
    by : (answer : Answer) (k : KeeperValue) → follows old bytes answer k → ((j : KeeperValue) → j.armed ≡ None → AppendsInTurn follows j later done new → new.armed ≡ None) → MatchResult answer (λ _. AppendsInTurn follows k later done new) (λ e. (done ≡ Err e) × (new ≡ k)) → new.armed ≡ None
    by (Ok x) k g next chain = next k (appended old bytes unarmed g) chain
    by (Err e) k g next end = absurd (let no : done ≡ fault_of e = end.0 in cc)

armed_not : (armed : Option Fate) → armed ≡ None → IsSome armed → ⊥
armed_not None e h = let untrue : false ≡ true = h in cc
armed_not (Some fate) e h = absurd (cc)

-- ---- a keeper that is armed

some_not : (armed : Option Fate) {fate : Fate} → armed ≡ Some fate → IsNone armed → ⊥
some_not None e h = absurd (cc)
some_not (Some other) e h = let untrue : true ≡ false = h in cc

-- none of its appends goes well
pub none_written : {fate : Fate} {old new : KeeperValue} (written : List (List ℕ)) → old.armed ≡ Some fate → AppendsInTurn follows old written done new → (written ≡ []) × (new ≡ old)
none_written [] armed h = (refl, h.1)
none_written {fate} {old} {new} (bytes ∷ later) armed h = by h.0 h.1 h.2 h.3
  where
    by : (answer : Answer) (k : KeeperValue) → follows old bytes answer k → MatchResult answer (λ _. AppendsInTurn follows k later done new) (λ e. (done ≡ Err e) × (new ≡ k)) → (bytes ∷ later ≡ []) × (new ≡ old)
    by (Ok x) k g chain = absurd (some_not old.armed armed g.0)
    by (Err e) k g end = absurd (let no : done ≡ fault_of e = end.0 in cc)

-- what its failure leaves: it may have to be reopened
abbrev failed_to : Fate → List ℕ → KeeperValue → Bool → KeeperValue
failed_to fate bytes old broken = record (appended_as (Some fate) bytes old) { broken = broken }

-- its failure is the one that it was armed to
kept_as : (fate : Fate) (kept : Bool) (old : KeeperValue) {new : KeeperValue} (bytes : List ℕ) → new ≡ failed_to fate bytes old new.broken → new.records ≡ failed_records kept old.records bytes → let f : Option Failure = Some (After 0 kept) in f ≡ armed_of (Some fate)
kept_as Kept true old bytes is grown = refl
kept_as Lost false old bytes is grown = refl
kept_as Kept false old bytes is grown = absurd (let n = length-append old.records (bytes ∷ []) in let e = ap (λ k. length k.records) is in let g = ap length grown in omega arith)
kept_as Lost true old bytes is grown = absurd (let n = length-append old.records (bytes ∷ []) in let e = ap (λ k. length k.records) is in let g = ap length grown in omega arith)

unarmed_then : (fate : Fate) (old : KeeperValue) {new : KeeperValue} (bytes : List ℕ) → new ≡ failed_to fate bytes old new.broken → (new.armed ≡ None) × (faults_of new ≡ old.faults + 1)
unarmed_then Kept old bytes is = (ap (λ k. k.armed) is, ap faults_of is ∙ let e : old.faults + 1 + 0 ≡ old.faults + 1 = omega arith in e)
unarmed_then Lost old bytes is = (ap (λ k. k.armed) is, ap faults_of is ∙ let e : old.faults + 1 + 0 ≡ old.faults + 1 = omega arith in e)

-- appends that go well leave it to be reopened, or not, as before
same_broken : (armed : Option Fate) (bytes : List ℕ) (old : KeeperValue) → (appended_as armed bytes old).broken ≡ old.broken
same_broken None bytes old = refl
same_broken (Some Kept) bytes old = refl
same_broken (Some Lost) bytes old = refl

pub stays_broken : (old new : KeeperValue) (written : List (List ℕ)) → AppendsInTurn follows old written done new → new.broken ≡ old.broken
stays_broken old new [] h = ap (λ k. k.broken) h.1
stays_broken old new (bytes ∷ later) h = by h.0 h.1 h.2 (λ k chain. stays_broken k new later chain) h.3
  where
    by : (answer : Answer) (k : KeeperValue) → follows old bytes answer k → ((j : KeeperValue) → AppendsInTurn follows j later done new → new.broken ≡ j.broken) → MatchResult answer (λ _. AppendsInTurn follows k later done new) (λ e. (done ≡ Err e) × (new ≡ k)) → new.broken ≡ old.broken
    by (Ok x) k g next chain = next k chain ∙ (ap (λ j. j.broken) g.1 ∙ same_broken old.armed bytes old)
    by (Err e) k g next end = absurd (let no : done ≡ fault_of e = end.0 in cc)

-- ---- a node's step is the model's call

module _ (service : Declarations) (past : List Value) {call : CallHere → CallHere} (goes : (f : Option Failure) → Goes f call) (old new : NodeValue KeeperValue) (step : Step) where
  abbrev before : Here
  before = here_of records_of service past old

  abbrev came : CallHere
  came = call_of records_of service past new step

  abbrev Same : Type 0
  Same = call (begin (here_at service past old)) ≡ armed_as (armed_of new.keeper.armed) came

  -- this failure is that of the node's keeper
  at_failure : {f : Option Failure} → f ≡ armed_of old.keeper.armed → call (armed_as f (begin before)) ≡ call (begin (here_at service past old))
  at_failure e = ap (λ g. call (armed_as g (begin before))) e

  -- and the keeper isn't armed then
  disarmed_then : new.keeper.armed ≡ None → came ≡ armed_as (armed_of new.keeper.armed) came
  disarmed_then e = ap (λ a. armed_as (armed_of a) came) (sym e)

  well : (armed : Option Fate) → old.keeper.armed ≡ armed → GoesWell records_of follows (λ k. k.faults) service call old.keeper new.keeper (begin before) came → Same × (faults_of new.keeper ≤ faults_of old.keeper)
  well None e h =
      let unarmed : new.keeper.armed ≡ None = stays _ _ h.written e h.appends in
      let a = ap failing unarmed in
      let b = h.counted in (
        sym (at_failure (sym (ap armed_of e))) ∙ h.is ∙ disarmed_then unarmed,
        omega arith,
      )
  well (Some fate) e h =
      let none = none_written h.written e h.appends in
      let many : length (call (begin before)).node.log ≡ length before.log = omega (arith, ap (λ d. length d.node.log) h.is, h.many, ap length none.0) in
      let a = ap faults_of none.1 in (
        unseen _ (goes (armed_of old.keeper.armed)) refl many
            ∙ ap (armed_as (armed_of old.keeper.armed)) h.is
            ∙ ap (λ k. armed_as (armed_of k.armed) came) (sym none.1),
        omega arith,
      )

  fails : (armed : Option Fate) → old.keeper.armed ≡ armed → FailsAfter records_of follows (λ k. k.faults) service call old.keeper new.keeper (begin before) came → Same × (faults_of new.keeper ≤ faults_of old.keeper)
  fails None e h = absurd (armed_not _ (stays _ h.between h.written e h.appends) h.fails.0)
  fails (Some fate) e h =
      let none = none_written h.written e h.appends in
      let is : new.keeper ≡ failed_to fate h.bytes old.keeper new.keeper.broken =
      subst (λ k. new.keeper ≡ record (appended_as k.armed h.bytes k) { broken = new.keeper.broken }) none.1 h.fails.1 ∙ ap (λ a. let k : KeeperValue = record (appended_as a h.bytes old.keeper) { broken = new.keeper.broken } in k) e in
      let grown : new.keeper.records ≡ failed_records h.kept old.keeper.records h.bytes =
      h.grown ∙ ap (λ ws. failed_records h.kept (old.keeper.records ++ ws) h.bytes) none.0 ∙ ap (λ rs. failed_records h.kept rs h.bytes) (append-nil old.keeper.records) in
      let failure : let f : Option Failure = Some (After (length h.written) h.kept) in f ≡ armed_of old.keeper.armed =
      ap (λ ws. let f : Option Failure = Some (After (length ws) h.kept) in f) none.0 ∙ kept_as fate h.kept _ h.bytes is grown ∙ sym (ap armed_of e) in
      let then = unarmed_then fate _ h.bytes is in
      let a = then.1 in
      let b = ap failing e in (
        sym (at_failure failure) ∙ h.is ∙ disarmed_then then.0,
        omega arith,
      )

  comes : Does records_of follows (λ k. k.faults) service past call old new step → Same × (faults_of new.keeper ≤ faults_of old.keeper)
  comes (inl h) = well _ refl h
  comes (inr h) = fails _ refl h

  pub is_done : old.up ≡ true → Does records_of follows (λ k. k.faults) service past call old new step → IsDone past call (here_at service past old) (here_at service past new) step
  is_done up does =
      let same = (comes does).0 in
      record { up = up; node = ap (λ d. d.node) (sym same); sends = ap (λ d. d.sends) (sym same); effects = ap (λ d. d.effects) (sym same) }

  -- the keeper fails no more often than it was to
  pub stays_within : Does records_of follows (λ k. k.faults) service past call old new step → faults_of new.keeper ≤ faults_of old.keeper
  stays_within does = (comes does).1

  -- ---- the keeper's records

  read_well : GoesWell records_of follows (λ k. k.faults) service call old.keeper new.keeper (begin before) came → AreRead service past old.keeper.records → AreRead service past new.keeper.records
  read_well h read = omega (arith, h.many, read, ap length h.grown, length-append old.keeper.records h.written)

  read_failed : FailsAfter records_of follows (λ k. k.faults) service call old.keeper new.keeper (begin before) came → AreRead service past old.keeper.records → AreRead service past new.keeper.records
  read_failed h read = by h.kept h.many h.grown
    where
      by : (kept : Bool) → length came.node.log ≡ failed_many kept (length h.written) + length before.log → new.keeper.records ≡ failed_records kept (old.keeper.records ++ h.written) h.bytes → AreRead service past new.keeper.records
      by true many grown =
          omega (arith, many, read, ap length grown, length-append (old.keeper.records ++ h.written) (h.bytes ∷ []), length-append old.keeper.records h.written)
      by false many grown = omega (arith, many, read, ap length grown, length-append old.keeper.records h.written)

  reads : Does records_of follows (λ k. k.faults) service past call old new step → AreRead service past old.keeper.records → AreRead service past new.keeper.records
  reads (inl h) read = read_well h read
  reads (inr h) read = read_failed h read

  -- each state in them is spelled
  stated_both : (xs ys : List (List ℕ)) → AreStated service xs → AreStated service ys → AreStated service (xs ++ ys)
  stated_both xs ys a b = list_all-append (is_stated service) xs ys ∙ rw (a, b) refl

  stated_failed : FailsAfter records_of follows (λ k. k.faults) service call old.keeper new.keeper (begin before) came → AreStated service old.keeper.records → AreStated service new.keeper.records
  stated_failed h stated = subst (AreStated service) (sym h.grown) (by h.kept)
    where
      parts : (list_all (is_stated service) h.written ≡ true) × (list_all (is_stated service) (h.bytes ∷ []) ≡ true)
      parts = and_parts (list_all (is_stated service) h.written) (list_all (is_stated service) (h.bytes ∷ [])) (sym (list_all-append (is_stated service) h.written (h.bytes ∷ [])) ∙ h.stated)

      by : (kept : Bool) → AreStated service (failed_records kept (old.keeper.records ++ h.written) h.bytes)
      by true = stated_both (old.keeper.records ++ h.written) _ (stated_both old.keeper.records h.written stated parts.0) parts.1
      by false = stated_both old.keeper.records h.written stated parts.0

  states : Does records_of follows (λ k. k.faults) service past call old new step → AreStated service old.keeper.records → AreStated service new.keeper.records
  states (inl h) stated = subst (AreStated service) (sym h.grown) (stated_both old.keeper.records h.written stated h.stated)
  states (inr h) stated = stated_failed h stated

  -- it keeps its records, and they are read
  pub stays_keeping : IsKeeping service past old.keeper → Does records_of follows (λ k. k.faults) service past call old new step → IsKeeping service past new.keeper
  stays_keeping keeping does = record {
    read = reads does keeping.read;
    stated = states does keeping.stated;
    room = let l = stays_within does in let r = keeping.room in omega arith;
  }

  -- and they have only grown
  pub stays_grown : Does records_of follows (λ k. k.faults) service past call old new step → Begins old.keeper.records new.keeper.records
  stays_grown (inl h) = (h.written, sym h.grown)
  stays_grown (inr h) = by h.kept h.grown
    where
      by : (kept : Bool) → new.keeper.records ≡ failed_records kept (old.keeper.records ++ h.written) h.bytes → Begins old.keeper.records new.keeper.records
      by true grown = (h.written ++ h.bytes ∷ [], sym (append_assoc old.keeper.records h.written (h.bytes ∷ [])) ∙ sym grown)
      by false grown = (h.written, sym grown)
