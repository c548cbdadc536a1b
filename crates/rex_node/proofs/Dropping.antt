-- A node that forgets the values up to its base does as the model's.
use Rattle.rex_node.proofs.Common.{◌≡◌, ℕ, suc, ◌-◌, ◌<◌, ◌≤◌, Bool, true, false, eqb, ltb, List, [], ◌∷◌, ◌++◌, length, take, drop, Option, Some, None, refl, sym, ap, subst, ◌∙◌, arith, length-append, map, option_map, if◌then◌else◌, eqb-true, lt-ltb, ne_eqb, take-append-le, All-filter, Kept, IsValue, proposal_for, AcceptorValue, forgetting, ProposerValue, Declarations, StateValue, HasSpelling, IsDue, record_bytes, Answer, Rec, Proposal, base, known, offset, Failure, RoleFits, append, say, Begins, Value, CallHere, log_of, proposal_in, standing_in, message_in, first_take, Draft, On, Down, armed_with, Appends, IsStuck, so_far, ActingValue, ActsFor, HasOpen, IsActing, IsProposer, IsResting, IsUp, NodeValue, count_of, here_of, knows, lead_of, open_of, role_of, whole, Ends}
use Rattle.rex_cluster.specs.Calls.{drop_known}
use Rattle.std.proofs.lemmas.List.{take-append-drop}
use Rattle.rex_ballot.specs.Proposals.{above}
use Rattle.rex_ballot.proofs.Lists.{find_kept}
use Rattle.rex_durable.specs.declared.records.Rec.TheVariants as kept
use Rattle.rex_report.specs.declared.effect.Effect.TheVariants as effect
use Rattle.rex_cluster.specs.Records.Rec.{Dropped}
use Rattle.rex_cluster.specs.Node.Role.{Leads}
use Rattle.rex_node.specs.Telling.{dropped}
use Rattle.rex_node.proofs.Appended.{Beside, IsLogged, appended_log, beside_of, call_at, logged_of, up_of}
use Rattle.rex_node.proofs.Following.{EndsWell, far}
use Rattle.rex_node.proofs.Knows as knowing
use Rattle.rex_node.proofs.Moving.{accepted_above}
use Rattle.rex_node.proofs.Recorded.{recorded_down, recorded_on, recorded_stuck}
use Rattle.rex_node.proofs.Votes.{found_instance}

-- ---- what it knows

-- a node that drops values that the past has knows as much as before
dropped_knows : {K : Type 0} {past : List Value} (y : NodeValue K) {k : ℕ} → y.offset ≤ k → k ≤ length (knows past y) → Begins (knows past y) past → knows past (dropped y k) ≡ knows past y
dropped_knows {past} y {k} from to begins =
    ap (λ vs. vs ++ drop (k - y.offset) y.known) (first_take k past there ∙ front)
    ∙ ap (λ vs. take k (knows past y) ++ vs) (sym (knowing.knows_after past y from))
    ∙ take-append-drop k (knows past y)
  where
    there : k ≤ length past
    there = omega (arith, to, length-append (knows past y) begins.0, ap (λ vs. length vs) begins.1)

    front : take k past ≡ take k (knows past y)
    front = ap (λ vs. take k vs) (sym begins.1) ∙ take-append-le k (knows past y) begins.0 to

-- so it is as before but for where it begins to hold values and acceptances
abbrev pub forgetful : {K : Type 0} → NodeValue K → K → NodeValue K
forgetful x keeper = record x { reached = None; keeper = keeper; offset = x.base; acceptor = forgetting x.acceptor x.base }

pub dropped_whole : {K : Type 0} {past : List Value} (x y : NodeValue K) {z : NodeValue K} {k : ℕ} → whole past y ≡ record x { keeper = y.keeper } → z ≡ dropped y k → k ≡ x.base → x.offset ≤ x.base → x.base ≤ length x.known → Begins x.known past
    → whole past z ≡ forgetful x y.keeper
dropped_whole {past} x y {k} parts z_is k_is low few begins =
    ap (whole past) z_is
    ∙ ap (λ (vs : List Value). record (dropped y k) { known = vs }) (dropped_knows y from to (subst (λ (vs : List Value). Begins vs past) (sym knows_is) begins))
    ∙ ap (λ (n : NodeValue _). record n { reached = None; offset = k; acceptor = forgetting n.acceptor k }) parts
    ∙ ap (λ (n : ℕ). record x { reached = None; keeper = y.keeper; offset = n; acceptor = forgetting x.acceptor n }) k_is
  where
    knows_is : knows past y ≡ x.known
    knows_is = ap (λ (n : NodeValue _). n.known) parts

    offset_is : y.offset ≡ x.offset
    offset_is = ap (λ (n : NodeValue _). n.offset) parts

    from : y.offset ≤ k
    from = omega (arith, offset_is, k_is, low)

    to : k ≤ length (knows past y)
    to = omega (arith, k_is, few, ap (λ (vs : List Value). length vs) knows_is)

-- ---- its role

-- what it accepted for a later instance is there
found_later : {k i : ℕ} (ps : List Kept) → k < i → proposal_for i (above k ps) ≡ proposal_for i ps
found_later {k} {i} ps l = find_kept (λ p. eqb p.instance i) (λ p. ltb k p.instance) (λ p e. let same = eqb-true p.instance i e in lt-ltb k p.instance (omega (arith, l, same))) ps

-- the open instance, if there is one, is a later one
abbrev IsLater : ℕ → Option ℕ → Type 0
IsLater k None = Unit {0}
IsLater k (Some i) = k < i

abbrev LeadsLater : ℕ → Option ProposerValue → Type 0
LeadsLater k None = Unit {0}
LeadsLater k (Some p) = IsLater k p.open_instance

open_later : (a : AcceptorValue) (b : ℕ) {k many : ℕ} (o : Option ℕ) → HasOpen a b o → ((p : Proposal Value) → open_of a o ≡ Some p → p.instance ≡ suc many) → k ≤ many → IsLater k o
open_later a b None h next l = tt
open_later a b {many} (Some i) h next l =
    let same : h.0.instance ≡ i = found_instance _ h.1 in
    let at : h.0.instance ≡ suc many = next (proposal_in h.0) (ap (option_map proposal_in) h.1) in
    omega (arith, l, same, at)

leads_later : (nodes id : ℕ) (a : AcceptorValue) {k many : ℕ} (active : Bool) (o : Option ProposerValue) → IsProposer nodes id a o → RoleFits many (role_of a o active) → k ≤ many → LeadsLater k o
leads_later nodes id a active None h fits l = tt
leads_later nodes id a {k} {many} active (Some p) h fits l = open_later a p.ballot _ h.open_one (λ q e. (fits.next q e).0) l

-- so its open proposal stays
open_kept : (a : AcceptorValue) (k : ℕ) (o : Option ℕ) → IsLater k o → open_of (forgetting a k) o ≡ open_of a o
open_kept a k None l = refl
open_kept a k (Some i) l = ap (option_map proposal_in) (found_later _ l)

has_kept : (a : AcceptorValue) (b k : ℕ) (o : Option ℕ) → IsLater k o → HasOpen a b o → HasOpen (forgetting a k) b o
has_kept a b k None l h = tt
has_kept a b k (Some i) l h = (h.0, found_later _ l ∙ h.1, h.2)

role_kept : (a : AcceptorValue) (k : ℕ) (active : Bool) (o : Option ProposerValue) → LeadsLater k o → role_of (forgetting a k) o active ≡ role_of a o active
role_kept a k active None l = refl
role_kept a k active (Some p) l = ap (λ q. Leads (record (lead_of a p active) { proposal = q })) (open_kept a k _ l)

proposer_kept : (nodes id : ℕ) (a : AcceptorValue) (k : ℕ) (o : Option ProposerValue) → LeadsLater k o → IsProposer nodes id a o → IsProposer nodes id (forgetting a k) o
proposer_kept nodes id a k None l h = tt
proposer_kept nodes id a k (Some p) l h = record {
  nodes_are = h.nodes_are;
  own = h.own;
  ballot = h.ballot;
  once = h.once;
  short = h.short;
  counted = h.counted;
  open_one = has_kept a p.ballot k _ l h.open_one;
}

acting_kept : (service : Declarations) (values : List Value) (a : AcceptorValue) (k : ℕ) (o : Option ProposerValue) (w : Option ActingValue) → LeadsLater k o → IsActing service values a o w → IsActing service values (forgetting a k) o w
acting_kept service values a k o None l h = tt
acting_kept service values a k None (Some w) l h = h
acting_kept service values a k (Some p) (Some w) l h = subst (λ q. ActsFor service values q w) (sym (open_kept a k _ l)) h

-- ---- the call

module _ {K : Type 0} (records : K → List (List ℕ)) (gives : K → List ℕ → Answer → K → Type 0) (faults : K → ℕ) (service : Declarations) (past : List Value) (x y : NodeValue K) (before mid : Draft) (node : IsResting records service past x) (up : x.up ≡ true) (held : x.offset < x.base) where
  abbrev log : List (Rec Value StateValue)
  log = log_of service past (records x.keeper)

  abbrev begun : CallHere
  begun = so_far records service past x before

  abbrev armed : Option Failure → CallHere
  armed f = armed_with f begun

  u : IsUp service x (here_of records service past x)
  u = node.up up

  l : IsLogged service x log
  l = logged_of records service past x u

  b : Beside records service past x
  b = beside_of records service past x u

  later : LeadsLater x.base x.proposer
  later = leads_later x.nodes x.id _ _ _ b.proposer b.role l.few

  pub drop_spelled : HasSpelling (kept.Dropped x.base)
  drop_spelled = record { in_range = record { first = omega (arith, held); last = omega (arith, l.few, l.numbers.few, ap (λ vs. length vs) l.known) } }

  due : IsDue (standing_in log) (kept.Dropped x.base)
  due = (subst (λ o. o < x.base) l.offset_is held, l.base)

  -- the model appends the record
  appends : (f : Option Failure) → drop_known x.id (armed f) ≡ append f x.id (Dropped x.base) (armed f) (say (effect.Dropped x.id x.base))
  appends f =
      ap (λ t. drops_if t (base log)) (ne_eqb (base log) (offset log) (λ e. omega (arith, held, l.base, l.offset_is, e)))
      ∙ ap (drops_if false) (sym l.base)
    where
      drops_if : Bool → ℕ → CallHere
      drops_if t n =
          if t then say effect.Nothing (armed f)
          else append f x.id (Dropped n) (armed f) (say (effect.Dropped x.id n))

  pub drop_down : Appends records faults gives x y before mid (record_bytes (kept.Dropped x.base)) Down
      → Ends records gives faults service past (drop_known x.id) x y before mid Down
  drop_down h = recorded_down gives faults y before mid node up drop_spelled due refl refl appends h

  pub drop_stuck : Appends records faults gives x y before mid (record_bytes (kept.Dropped x.base)) On → {z : NodeValue K} → z.keeper ≡ y.keeper → z.base ≡ y.base → IsStuck records gives faults service past (drop_known x.id) x z before
  drop_stuck h {z} keeper based = recorded_stuck gives faults y before mid node up drop_spelled due refl refl appends h (λ d. refl) keeper based

  module _ (h : Appends records faults gives x y before mid (record_bytes (kept.Dropped x.base)) On) where
    log_is : log_of service past (records y.keeper) ≡ Dropped x.base ∷ log
    log_is = appended_log records gives faults service past x y before mid drop_spelled due refl h

    forgets_logged : IsLogged service (forgetful x y.keeper) (Dropped x.base ∷ log)
    forgets_logged = record {
      promised = l.promised;
      accepted = accepted_above _ _ (omega (arith, held, l.offset_is)) l.accepted;
      offset_is = refl;
      low = omega arith;
      known = l.known;
      base = l.base;
      old_base = l.old_base;
      few = l.few;
      start = l.start;
      short = All-filter _ (λ q. IsValue q.value) x.acceptor.accepted l.short;
      fits = l.fits;
      numbers = record { ballots = l.numbers.ballots; instances = l.numbers.instances; few = l.numbers.few };
    }

    forgets_up : IsUp service (forgetful x y.keeper) (here_of records service past (forgetful x y.keeper))
    forgets_up =
        up_of records service past _ (subst (IsLogged service (forgetful x y.keeper)) (sym log_is) forgets_logged)
        (record {
          based = b.based;
          replayed = b.replayed;
          ahead = b.ahead;
          caught_up = b.caught_up;
          proposer = proposer_kept x.nodes x.id _ x.base _ later b.proposer;
          acting = acting_kept service x.known x.acceptor x.base _ x.acting later b.acting;
          stamped = b.stamped;
          role = subst (RoleFits (length x.known)) (sym (role_kept x.acceptor x.base _ _ later)) b.role;
        })

    forgets_node : IsResting records service past (forgetful x y.keeper)
    forgets_node = record { id = node.id; few = node.few; up = λ _. forgets_up; reached = tt; decoded = node.decoded; rests = node.rests }

    forgets_here : here_of records service past (forgetful x y.keeper) ≡ record (here_of records service past x) { log = Dropped x.base ∷ log }
    forgets_here =
        ap (λ r. record (here_of records service past x) { log = log_of service past (records y.keeper); role = r }) (role_kept x.acceptor x.base _ _ later)
        ∙ ap (λ rs. record (here_of records service past x) { log = rs }) log_is

    drop_on : {z : NodeValue K} (after : Draft) → z ≡ forgetful x y.keeper → after.effects.items ≡ mid.effects.items ++ effect.Dropped x.id x.base ∷ [] → after.sends.items ≡ mid.sends.items
        → EndsWell records gives faults service past x z before after (drop_known x.id)
    drop_on {z} after z_is effects sends =
        recorded_on gives faults y before mid node up drop_spelled due refl appends h after
        (ap (λ n. n.keeper) z_is) (subst (IsResting records service past) (sym z_is) forgets_node) (ap (λ n. n.up) z_is ∙ up) (λ f. refl)
        (far records service past z after
        (effects ∙ ap (λ es. es ++ effect.Dropped x.id x.base ∷ []) h.1) (ap (map (message_in past)) (sends ∙ h.2))
        ∙ ap (λ n. call_at n (map (message_in past) before.sends.items) (before.effects.items ++ effect.Dropped x.id x.base ∷ [])) (ap (here_of records service past) z_is ∙ forgets_here))

    module _ (w : NodeValue K) (w_is : y ≡ whole past w) where
      -- the base is among what it counts
      pub drop_counts : x.base ≤ count_of w
      drop_counts = subst (λ n. x.base ≤ n) (ap (λ n. length n.known) (sym h.0.parts ∙ w_is) ∙ knowing.many_known past w) l.few

      -- and it ends where the values up to the base are dropped
      pub drop_ends : Begins (known log) past → {z : NodeValue K} (after : Draft) {k : ℕ} → z ≡ dropped w k → k ≡ x.base → after.effects.items ≡ mid.effects.items ++ effect.Dropped x.id x.base ∷ [] → after.sends.items ≡ mid.sends.items
          → EndsWell records gives faults service past x (whole past z) before after (drop_known x.id)
      drop_ends begins {z} after {k} z_is k_is effects sends =
          drop_on after (dropped_whole x w parts z_is k_is (omega (arith, held)) l.few (subst (λ vs. Begins vs past) (sym l.known) begins) ∙ ap (λ n. forgetful x n.keeper) (sym w_is)) effects sends
        where
          parts : whole past w ≡ record x { keeper = w.keeper }
          parts = sym w_is ∙ h.0.parts ∙ ap (λ n. record x { keeper = n.keeper }) w_is
