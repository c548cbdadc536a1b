-- What stays of a node in memory, and what changes, where one record more is kept.
use Rattle.rex_node.proofs.Common.{◌≡◌, ℕ, suc, ◌<◌, ◌≤◌, Bool, true, false, List, [], ◌∷◌, ◌++◌, length, take, Option, Some, None, refl, sym, ap, subst, ◌∙◌, arith, le_trans, map, max, is_some, if◌then◌else◌, take-append-le, All-append, All-cons, All-filter, Kept, IsValue, promising, accepting, Declarations, StateValue, start_of, run, KeptRec, HasSpelling, IsDue, record_bytes, Effect, Answer, Rec, placed, promise, last_accepted, accepted, offset, known, base, has_old_base, Promised, Accepted, Known, AreRising, RoleFits, Message, Failure, down_node, append, logged, Here, CallHere, Value, trace_of, values_fit, length_push, accepted_rising, Draft, On, Down, message_in, armed_with, Leads, Fell, Appends, so_far, log_of, rec_of, proposal_in, standing_in, failed_records, fallen, NodeValue, IsActing, IsProposer, HasStamps, IsUp, AreShort, here_of, state_of, is_stated, log_then, BreaksOff, LosesFirst, inl, ProposerValue, Proposes, ActingValue, ActsFor, LeadFits, lead_of, open_of, role_of}
use Rattle.std.proofs.Math.Nat.{max_comm}
use Rattle.rex_ballot.specs.Ballot as ballots
use Rattle.rex_ballot.specs.Proposals.{AreRising as IsRising, above, below}
use Rattle.rex_cluster.specs.Ranges.{IsBallot, IsInstance, LogFits}
use Rattle.rex_cluster.proofs.Ranged.{log_promised, log_accepted, log_known}
use Rattle.rex_node.proofs.GoingLemmas.{leads_append, fell_append}
use Rattle.rex_log.proofs.Accepting.{placed_kept, placed_from, rising_zero}
use Rattle.rex_node.proofs.Stuck.{breaks_here}

-- the ranges of a node's numbers are the model's
pub ballot_fits : {b : ℕ} → ballots.IsBallot b → IsBallot b
ballot_fits h = record { some = h.first; few = h.last; node = (h.node.first, h.node.last) }

pub fits_ballot : {b : ℕ} → IsBallot b → ballots.IsBallot b
fits_ballot h = record { first = h.some; last = h.few; node = record { first = h.node.0; last = h.node.1 } }

pub instance_fits : {i : ℕ} → ballots.IsInstance i → IsInstance i
instance_fits h = (h.first, h.last)

pub fits_instance : {i : ℕ} → IsInstance i → ballots.IsInstance i
fits_instance h = record { first = h.0; last = h.1 }

-- the parts that a node has of its records alone, as if it held all values that it knows
pub record IsLogged {K : Type 0} (service : Declarations) (x : NodeValue K) (log : List (Rec Value StateValue)) : Type 0 where
  pub promised : x.acceptor.promised ≡ promise log
  pub accepted : map proposal_in x.acceptor.accepted ≡ accepted log
  pub offset_is : x.offset ≡ offset log
  pub low : x.offset ≤ x.base
  pub known : x.known ≡ known log
  pub base : x.base ≡ base log
  pub old_base : x.old_base ≡ has_old_base log
  pub few : x.base ≤ length x.known
  pub start : run service (start_of service) (trace_of (take x.base x.known)) ≡ Some x.start
  pub short : AreShort x.acceptor.accepted
  pub fits : values_fit service x.known ≡ true
  pub numbers : LogFits log

module _ {K : Type 0} (records : K → List (List ℕ)) (service : Declarations) (past : List Value) (x : NodeValue K) where
  pub logged_of : IsUp service x (here_of records service past x) → IsLogged service x (log_of service past (records x.keeper))
  logged_of u = record {
    promised = u.promised;
    accepted = u.accepted;
    offset_is = u.offset;
    low = u.low;
    known = u.known;
    base = u.base;
    old_base = u.old_base;
    few = subst (λ n. n ≤ length x.known) (sym u.base) (subst (λ vs. base (log_of service past (records x.keeper)) ≤ length vs) (sym u.known) (le_trans u.replayed.based u.replayed.replayed));
    start = u.start;
    short = u.short;
    fits = u.fits;
    numbers = u.numbers.log;
  }

  -- the other parts are its role, and how far it has replayed what it knows
  pub record Beside : Type 0 where
    pub based : x.base ≤ x.replayed
    pub replayed : x.replayed ≤ length x.known
    pub ahead : x.acting ≡ None → run service (start_of service) (trace_of (take x.replayed x.known)) ≡ Some (state_of x)
    pub caught_up : is_some x.acting ≡ true → x.replayed ≡ length x.known
    pub proposer : IsProposer x.nodes x.id x.acceptor x.proposer
    pub acting : IsActing service x.known x.acceptor x.proposer x.acting
    pub stamped : HasStamps x.known x.acting
    pub role : RoleFits (length x.known) (here_of records service past x).role

  pub up_of : IsLogged service x (log_of service past (records x.keeper)) → Beside → IsUp service x (here_of records service past x)
  up_of l b = record {
    promised = l.promised;
    accepted = l.accepted;
    offset = l.offset_is;
    low = l.low;
    known = l.known;
    base = l.base;
    old_base = l.old_base;
    start = l.start;
    replayed = record {
      based = subst (λ n. n ≤ x.replayed) l.base b.based;
      replayed = subst (λ vs. x.replayed ≤ length vs) l.known b.replayed;
    };
    ahead = b.ahead;
    caught_up = b.caught_up;
    short = l.short;
    proposer = b.proposer;
    acting = b.acting;
    stamped = b.stamped;
    fits = l.fits;
    numbers = record { log = l.numbers; role = subst (λ vs. RoleFits (length vs) (here_of records service past x).role) l.known b.role };
  }

  pub beside_of : IsUp service x (here_of records service past x) → Beside
  beside_of u = record {
    based = subst (λ n. n ≤ x.replayed) (sym u.base) u.replayed.based;
    replayed = subst (λ vs. x.replayed ≤ length vs) (sym u.known) u.replayed.replayed;
    ahead = u.ahead;
    caught_up = u.caught_up;
    proposer = u.proposer;
    acting = u.acting;
    stamped = u.stamped;
    role = subst (λ vs. RoleFits (length vs) (here_of records service past x).role) (sym u.known) u.numbers.role;
  }

-- a node with the same of these parts has them of its records too
pub logged_as : {K : Type 0} {service : Declarations} {x y : NodeValue K} {log : List (Rec Value StateValue)} → y ≡ record y { acceptor = x.acceptor; offset = x.offset; known = x.known; base = x.base; old_base = x.old_base; start = x.start } → IsLogged service x log → IsLogged service y log
logged_as {service} {log} same l =
    subst (λ n. IsLogged service n log) (sym same)
    (record { promised = l.promised; accepted = l.accepted; offset_is = l.offset_is; low = l.low; known = l.known; base = l.base; old_base = l.old_base; few = l.few; start = l.start; short = l.short; fits = l.fits; numbers = l.numbers })

module _ {K : Type 0} (records : K → List (List ℕ)) {service : Declarations} (past : List Value) {x : NodeValue K} (u : IsUp service x (here_of records service past x)) where
  -- the numbers of what a node leads with are in their ranges
  pub lead_fits_of : {p : ProposerValue} → x.proposer ≡ Some p → LeadFits (length x.known) (lead_of x.acceptor p (is_some x.acting))
  lead_fits_of e = subst (λ o. RoleFits (length x.known) (role_of x.acceptor o (is_some x.acting))) e (beside_of records service past x u).role

  -- a node is up with another proposer, where that may propose so
  pub up_proposing : {p q : ProposerValue} → x.proposer ≡ Some p → p.open_instance ≡ q.open_instance
      → Proposes x.nodes x.id x.acceptor q → LeadFits (length x.known) (lead_of x.acceptor q (is_some x.acting)) → IsUp service (record x { proposer = Some q }) (here_of records service past (record x { proposer = Some q }))
  up_proposing {p} {q} e same h fits =
      let b = beside_of records service past x u in
      up_of records service past (record x { proposer = Some q })
      (logged_as refl (logged_of records service past x u))
      (record {
        based = b.based;
        replayed = b.replayed;
        ahead = b.ahead;
        caught_up = b.caught_up;
        proposer = h;
        acting = by x.acting (subst (λ o. IsActing service x.known x.acceptor o x.acting) e b.acting);
        stamped = b.stamped;
        role = fits;
      })
    where
      by : (w : Option ActingValue) → IsActing service x.known x.acceptor (Some p) w → IsActing service x.known x.acceptor (Some q) w
      by None k = tt
      by (Some a) k = subst (λ o. ActsFor service x.known (open_of x.acceptor o) a) same k

module _ {K : Type 0} {service : Declarations} {x : NodeValue K} {log : List (Rec Value StateValue)} (h : IsLogged service x log) where
  -- a promise was written
  pub logged_promised : {b : ℕ} → IsBallot b → IsLogged service (record x { acceptor = promising x.acceptor b }) (Promised b ∷ log)
  logged_promised {b} fits = record {
    promised = max_comm x.acceptor.promised b ∙ ap (max b) h.promised;
    accepted = h.accepted;
    offset_is = h.offset_is;
    low = h.low;
    known = h.known;
    base = h.base;
    old_base = h.old_base;
    few = h.few;
    start = h.start;
    short = h.short;
    fits = h.fits;
    numbers = log_promised log b fits h.numbers;
  }

  -- an acceptance was written, of an instance above the offset
  pub logged_accepted : {b i : ℕ} {v : Value} → IsBallot b → IsInstance i → IsValue v → offset log < i → IsLogged service (record x { acceptor = accepting x.acceptor (record { instance = i; ballot = b; value = v }) }) (Accepted b i v ∷ log)
  logged_accepted {b} {i} {v} fits there few late = record {
    promised = max_comm x.acceptor.promised b ∙ ap (max b) h.promised;
    accepted =
        placed_kept 0 x.acceptor.accepted p rising
        ∙ ap (placed (proposal_in p)) h.accepted
        ∙ sym (placed_from (proposal_in p) (last_accepted log) (omega (arith, late)));
    offset_is = h.offset_is;
    low = h.low;
    known = h.known;
    base = h.base;
    old_base = h.old_base;
    few = h.few;
    start = h.start;
    short = All-append (λ q. IsValue q.value) (below i x.acceptor.accepted) (p ∷ above i x.acceptor.accepted)
        (All-filter _ (λ q. IsValue q.value) x.acceptor.accepted h.short)
        (All-cons (λ q. IsValue q.value) p (above i x.acceptor.accepted) few (All-filter _ (λ q. IsValue q.value) x.acceptor.accepted h.short));
    fits = h.fits;
    numbers = log_accepted log b i v fits there h.numbers;
  }
    where
      p : Kept
      p = record { instance = i; ballot = b; value = v }

      rising : IsRising 0 x.acceptor.accepted
      rising = rising_zero x.acceptor.accepted (subst (AreRising 0) (sym h.accepted) (accepted_rising log h.numbers.instances))

  -- a known value was written
  pub logged_known : {i : ℕ} {v : Value} → i ≡ suc (length x.known) → IsInstance i → values_fit service (x.known ++ v ∷ []) ≡ true → IsLogged service (record x { known = x.known ++ v ∷ [] }) (Known i v ∷ log)
  logged_known {i} {v} e there fits = record {
    promised = h.promised;
    accepted = h.accepted;
    offset_is = h.offset_is;
    low = h.low;
    known = ap (λ vs. vs ++ v ∷ []) h.known;
    base = h.base;
    old_base = h.old_base;
    few = omega (arith, h.few, length_push x.known v);
    start = ap (λ vs. run service (start_of service) (trace_of vs)) (take-append-le x.base x.known (v ∷ []) h.few) ∙ h.start;
    short = h.short;
    fits = fits;
    numbers = log_known log i v (e ∙ ap (λ vs. suc (length vs)) h.known) there h.numbers;
  }

-- ---- an append of a call

-- a call with these parts
abbrev pub call_at : Here → List (Message Value) → List Effect → CallHere
call_at here sends effects = record { node = here; sends = sends; effects = effects }

-- where both are the same it is that
pub if_same : {A : Type 0} (b : Bool) {a : A} → a ≡ (if b then a else a)
if_same true = refl
if_same false = refl

-- a node whose append failed is down in the model too: with the record, and this base then, or without
pub fell_here : {K : Type 0} (records : K → List (List ℕ)) (service : Declarations) (past : List Value) (x : NodeValue K) (bytes : List ℕ) {said : Rec Value StateValue} {n : ℕ} → log_of service past (records x.keeper ++ bytes ∷ []) ≡ said ∷ log_of service past (records x.keeper) → x.base ≡ base (log_of service past (records x.keeper)) → n ≡ base (said ∷ log_of service past (records x.keeper))
    → (kept : Bool) {k : K} {z : NodeValue K} → records k ≡ failed_records kept (records x.keeper) bytes → z ≡ record (fallen (record x { base = if kept then n else x.base })) { keeper = k } → {ms : List _} {es fs : List Effect} → ms ≡ [] → es ≡ fs
    → call_at (here_of records service past z) (map (message_in past) ms) es ≡ call_at (down_node (if kept then said ∷ log_of service past (records x.keeper) else log_of service past (records x.keeper)) None) [] fs
fell_here records service past x bytes {said} {n} written based n_is kept {k} grown parts {ms} {es} sends effects =
    ap (λ z. call_at (here_of records service past z) (map (message_in past) ms) es) parts
    ∙ by kept grown
    ∙ ap (λ m. call_at (down_node (if kept then said ∷ log_of service past (records x.keeper) else log_of service past (records x.keeper)) None) (map (message_in past) m) es) sends
    ∙ ap (call_at (down_node (if kept then said ∷ log_of service past (records x.keeper) else log_of service past (records x.keeper)) None) []) effects
  where
    at : List (Rec Value StateValue) → ℕ → CallHere
    at l b = call_at (record (down_node l None) { replayed = b }) (map (message_in past) ms) es

    by : (b : Bool) → records k ≡ failed_records b (records x.keeper) bytes → call_at (here_of records service past (record (fallen (record x { base = if b then n else x.base })) { keeper = k })) (map (message_in past) ms) es
        ≡ call_at (down_node (if b then said ∷ log_of service past (records x.keeper) else log_of service past (records x.keeper)) None) (map (message_in past) ms) es
    by true e = ap (λ l. at l n) (ap (log_of service past) e ∙ written) ∙ ap (at _) n_is
    by false e = ap (λ l. at l x.base) (ap (log_of service past) e) ∙ ap (at _) based

module _ {K : Type 0} (records : K → List (List ℕ)) (gives : K → List ℕ → Answer → K → Type 0) (faults : K → ℕ) (service : Declarations) (past : List Value) (x y : NodeValue K) (before after : Draft) {r : KeptRec} (spelling : HasSpelling r) (due : IsDue (standing_in (log_of service past (records x.keeper))) r) (stated : is_stated service (record_bytes r) ≡ true) where
  abbrev begun : CallHere
  begun = so_far records service past x before

  -- the records before
  abbrev pub old_log : List (Rec Value StateValue)
  old_log = log_of service past (records x.keeper)

  -- what the record says
  abbrev pub said : Rec Value StateValue
  said = rec_of service past r

  -- the node is as it was, but for one record more
  pub appended_log : Appends records faults gives x y before after (record_bytes r) On → log_of service past (records y.keeper) ≡ said ∷ old_log
  appended_log h = ap (log_of service past) h.0.records ∙ log_then service past (records x.keeper) r spelling due

  pub appended_here : Appends records faults gives x y before after (record_bytes r) On → so_far records service past y after ≡ logged said None begun
  appended_here h =
      ap (λ z. call_at (here_of records service past z) (map (message_in past) after.sends.items) after.effects.items) h.0.parts
      ∙ ap (λ l. call_at (record (here_of records service past x) { log = l }) (map (message_in past) after.sends.items) after.effects.items) (appended_log h)
      ∙ ap (λ ms. call_at (record (here_of records service past x) { log = said ∷ old_log }) (map (message_in past) ms) after.effects.items) h.2
      ∙ ap (call_at (record (here_of records service past x) { log = said ∷ old_log }) (map (message_in past) before.sends.items)) h.1

  module _ {whole k : CallHere → CallHere} (is : (f : Option Failure) → whole (armed_with f begun) ≡ append f x.id said (armed_with f begun) k) where
    -- the call goes on as the model's append does
    pub appended_leads : Appends records faults gives x y before after (record_bytes r) On → Leads records gives faults service whole k x.keeper y.keeper begun (so_far records service past y after)
    appended_leads h =
        subst (Leads records gives faults service whole k x.keeper y.keeper begun) (sym (appended_here h))
        (leads_append records gives faults service is x.keeper y.keeper stated h.0.answer h.0.records h.0.faults)

    -- memory was short with the record there
    pub appended_breaks : Appends records faults gives x y before after (record_bytes r) On → LosesFirst k → {z : NodeValue K} → z.keeper ≡ y.keeper → z.base ≡ base (said ∷ old_log) → BreaksOff records gives faults service past whole x z before
    appended_breaks h loses {z} keeper at =
        breaks_here y z after (appended_leads h)
        (omega (arith, ap length h.0.records, length_push (records x.keeper) (record_bytes r)))
        (at ∙ ap base (sym (ap (λ j. log_of service past (records j)) keeper ∙ appended_log h)))
        loses (ap records keeper) (ap faults keeper) (inl keeper)

    -- or the node is down; the record is of another kind than a checkpoint, or the base is none of the node's
    pub appended_fell : x.base ≡ base old_log → base (said ∷ old_log) ≡ base old_log
        → Appends records faults gives x y before after (record_bytes r) Down → Fell records gives faults service whole x.id x.keeper y.keeper begun (so_far records service past y after)
    appended_fell based same h =
        fell_append records gives faults service is x.keeper y.keeper stated h.0.kept h.0.answer h.0.records h.0.faults
        (fell_here records service past x (record_bytes r) (log_then service past (records x.keeper) r spelling due) based (based ∙ sym same) h.0.kept h.0.records (h.0.parts ∙ ap (λ b. record (fallen (record x { base = b })) { keeper = y.keeper }) (if_same h.0.kept)) h.2 h.1)
