-- A node comes up with what its records say.
use Rattle.rex_node.proofs.Common.{◌≡◌, ℕ, ◌<◌, ◌≤◌, Bool, true, List, ◌++◌, take, Option, Some, None, refl, sym, ap, subst, ◌∙◌, arith, take-append-drop, option_map, All, false≢true, All-weaker, most_nodes, Declarations, Kept, IsValue, StateValue, start_of, run, state_in, Recovered, recovered, Rec, base, known, Value, state_after, trace_of, values_fit, state_is, first, log_of, read_state, Says, NodeValue, IsUp, here_of, whole, HasDecoded, HasReached, ReachedValue, knows, IsRecalled, IsSaved, decoded_last, KeepsReached}
use Rattle.rex_durable.specs.Laws.{HasSnapshot, MayBeAccepted}
use Rattle.rex_cluster.specs.Agreed.{base_state}
use Rattle.rex_node.specs.Parts.{IsNode, DecodedValue}
use Rattle.rex_node.specs.Restarting.{CameUp, HasForgotten, HasRightBase, IsAsRecovered, risen}
use Rattle.rex_cluster.proofs.Replies.{front_runs}
use Rattle.rex_node.proofs.Recalling.{old_base_is, recovered_says}
use Rattle.rex_node.proofs.Reaching.{again_reached}

-- ---- the state at the base

-- what the bytes of a snapshot spell, if there is one
abbrev saved_in : Declarations → Option (List ℕ) → Option StateValue
saved_in service snapshot = option_map (λ bytes. read_state service (state_in service bytes)) snapshot

-- the state that was read is the one that they spell
saved_is : (service : Declarations) (bytes : List ℕ) {s : StateValue} → IsSaved service (Some bytes) s → saved_in service (Some bytes) ≡ Some s
saved_is service bytes e = ap (λ q. Some (read_state service q)) e

module _ {service : Declarations} {log : List (Rec Value StateValue)} {x : Recovered} (start : StateValue) (says : Says service x log) (fit : values_fit service (known log) ≡ true) (right : HasRightBase service log) where
  -- it is that of the values up to the base, where the records have that state
  start_runs : IsSaved service x.snapshot start → HasSnapshot x.base x.snapshot → run service (start_of service) (trace_of (take x.base (known log))) ≡ Some start
  start_runs saved there = by x.snapshot says.state saved there
    where
      by : (snapshot : Option (List ℕ)) → saved_in service snapshot ≡ base_state log → IsSaved service snapshot start → HasSnapshot x.base snapshot
          → run service (start_of service) (trace_of (take x.base (known log))) ≡ Some start
      by None e s none = ap (λ n. run service (start_of service) (trace_of (take n (known log)))) none ∙ ap Some (sym s)
      by (Some bytes) e s some =
          let r : start ≡ state_after service (trace_of (take (base log) (known log))) = (right start (sym e ∙ saved_is service bytes s)).1 in
          let same : state_after service (trace_of (take (base log) (known log))) ≡ state_after service (trace_of (take x.base (known log))) =
          ap (λ n. state_after service (trace_of (take n (known log)))) (sym says.base) in
          let f = front_runs service x.base _ fit in
          f.1 ∙ ap Some (sym (state_is service _ f.0 f.1) ∙ sym (r ∙ same))

-- the first values of the past, and those that are held, are all that the records know
whole_is : {service : Declarations} (past : List Value) {log : List (Rec Value StateValue)} {x : Recovered} → Says service x log → HasForgotten past log → first x.offset past ++ x.known ≡ known log
whole_is past {log} {x} says forgotten =
    let front : first x.offset past ≡ take x.offset (known log) = subst (λ o. first o past ≡ take o (known log)) (sym says.offset) forgotten in
    ap (λ vs. vs ++ x.known) front ∙ ap (λ vs. take x.offset (known log) ++ vs) says.held ∙ take-append-drop x.offset (known log)

-- ---- the snapshot that was decoded

-- it spells the state that the node has beside it, as the one before did
pub last_decoded : (service : Declarations) (now before : Option DecodedValue) → HasDecoded service now → HasDecoded service before → HasDecoded service (decoded_last now before)
last_decoded service None before h k = k
last_decoded service (Some d) before h k = h

-- ---- the node

short_values : {promised : ℕ} (ps : List Kept) → All (MayBeAccepted promised) ps → All (λ (p : Kept). IsValue p.value) ps
short_values {promised} ps h = All-weaker (MayBeAccepted promised) (λ p. IsValue p.value) (λ p k. k.proposal.value) ps h

module _ {K : Type 0} (records : K → List (List ℕ)) {service : Declarations} (past : List Value) (before : NodeValue K) {x : Recovered} {start : StateValue} {old : Bool} (reached : Option ReachedValue) (decoded : Option DecodedValue) (h : IsRecalled service (records before.keeper) x start old) where
  abbrev log : List (Rec Value StateValue)
  log = log_of service past (records before.keeper)

  said : Says service x log
  said = recovered_says service past h.found.read.spelled h.found.read.is

  abbrev up_again : NodeValue K
  up_again = risen before x start old reached decoded

  -- each part is what was read
  as_recovered : IsAsRecovered service (recovered h.found.read.rs) up_again
  as_recovered = record {
    promised = ap (λ y. y.promised) h.found.read.is;
    accepted = ap (λ y. y.accepted) h.found.read.is;
    offset_is = ap (λ y. y.offset) h.found.read.is;
    known_are = ap (λ y. y.known) h.found.read.is;
    base_is = ap (λ y. y.base) h.found.read.is;
    start = subst (λ y. IsSaved service y.snapshot start) h.found.read.is h.start_is;
    replayed = ap (λ y. y.base) h.found.read.is;
    ahead = refl;
    proposer = refl;
    acting = refl;
  }

  pub came_up : CameUp records service past before.id before.nodes before.seed before.keeper up_again
  came_up = record {
    id_is = refl;
    nodes_are = refl;
    seed_is = refl;
    keeper_is = refl;
    good = record { rs = h.found.read.rs; spelled = h.found.read.spelled; first = h.found.good };
    recovered_is = as_recovered;
    old_is = h.old_is;
    node = ap (λ n. record (here_of records service past up_again) { replayed = n }) said.base;
  }

  module _ (fit : values_fit service (known log) ≡ true) (right : HasRightBase service log) (forgotten : HasForgotten past log) where
    all_known : first x.offset past ++ x.known ≡ known log
    all_known = whole_is past said forgotten

    runs_there : run service (start_of service) (trace_of (take x.base (first x.offset past ++ x.known))) ≡ Some start
    runs_there = subst (λ vs. run service (start_of service) (trace_of (take x.base vs)) ≡ Some start) (sym all_known) (start_runs start said fit right h.start_is h.found.read.fits.snapshot)

    node_up : IsUp service (whole past up_again) (here_of records service past up_again)
    node_up = record {
      promised = said.promised;
      accepted = said.accepted;
      offset = said.offset;
      low = h.found.read.fits.dropped;
      known = all_known;
      base = said.base;
      old_base = h.old_is ∙ old_base_is service past h.found.read.spelled;
      start = runs_there;
      replayed = record {
        based = subst (λ n. n ≤ x.base) said.base (omega arith);
        replayed = subst (λ n. x.base ≤ n) said.count h.found.read.fits.base;
      };
      ahead = λ _. runs_there;
      caught_up = λ t. absurd (false≢true t);
      short = short_values _ h.found.read.fits.accepted;
      proposer = tt;
      acting = tt;
      stamped = tt;
      fits = subst (λ vs. values_fit service vs ≡ true) (sym all_known) fit;
      numbers = record { log = said.fits; role = tt };
    }

    pub is_node : (0 < before.id) × (before.id ≤ before.nodes) → before.nodes ≤ most_nodes → KeepsReached before x reached → HasReached service before.offset (knows past before) before.reached → HasDecoded service decoded
        → IsNode records service past up_again
    is_node there few keeps was spelled = record { id = there; few = few; up = λ _. node_up; reached = again_reached service past before x keeps was; decoded = spelled; rests = λ _. tt }
