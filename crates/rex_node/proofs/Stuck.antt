-- What a call comes to where memory was short after appends.
use Rattle.rex_node.proofs.Common.{◌≡◌, ℕ, zero, suc, ◌<◌, Bool, true, false, cond, inl, inr, List, [], ◌++◌, length, Ok, Option, Some, None, refl, sym, ap, subst, ◌∙◌, arith, append_assoc, length-append, Declarations, StateValue, Answer, chained, Rec, Proposal, base, Service, Lead, Role, Failure, After, Follower, Call, append, choose, lead, turn, settle, Value, CallHere, Draft, log_of, NodeValue, RunsShort, Stands, StopsShort, armed_with, BreaksOff, IsStuck, LeadsOn, LosesFirst, later, so_far}
use Rattle.std.proofs.lemmas.List.{append-nil}
use Rattle.rex_cluster.specs.Node.Role.{Leads}
use Rattle.rex_node.proofs.GoingLemmas.{both, later_count, leads_same, stated_both}

-- ---- what is left of a call appends nothing where its first append fails and loses its record

module _ {V S : Type 0} (n : ℕ) (sv : Service V S) (me : ℕ) where
  abbrev Keeps : Call V S → Call V S → Type 0
  Keeps d e = e.node.log ≡ d.node.log

  if_keeps : (t : Bool) (d e f : Call V S) → Keeps d e → Keeps d f → Keeps d (cond t e f)
  if_keeps true d e f h k = h
  if_keeps false d e f h k = k

  lost : (d : Call V S) {armed : Option Failure} → armed ≡ Some (After 0 false) → (r : Rec V S) (k : Call V S → Call V S) → Keeps d (append armed me r d k)
  lost d e r k = ap (λ o. (append o me r d k).node.log) e

  choose_loses : (d : Call V S) → d.node.armed ≡ Some (After 0 false) → (l : Lead V) (i : ℕ) (o : Option (Proposal V)) (k : Call V S → Call V S) → Keeps d (choose n sv me d l i o k)
  choose_loses d e l i None k = refl
  choose_loses d e l i (Some p) k = lost d e _ _

  lead_loses : (d : Call V S) → d.node.armed ≡ Some (After 0 false) → (l : Lead V) (o : Option (Proposal V)) (k : Call V S → Call V S) → Keeps d (lead n sv me d l o k)
  lead_loses d e l (Some p) k = if_keeps _ d _ d (lost d e _ _) refl
  lead_loses d e l None k =
      if_keeps l.active d d _ refl
      (if_keeps _ d _ d (choose_loses d e l _ _ k) refl)

  turn_loses : (d : Call V S) → d.node.armed ≡ Some (After 0 false) → (r : Role V) (k : Call V S → Call V S) → Keeps d (turn n sv me d r k)
  turn_loses d e Follower k = refl
  turn_loses d e (Leads l) k = lead_loses d e l _ k

  settle_keeps : (f : ℕ) (d : Call V S) → d.node.armed ≡ Some (After 0 false) → Keeps d (settle f n sv me d)
  settle_keeps zero d e = refl
  settle_keeps (suc f) d e = turn_loses d e _ _

-- so it is where a node goes on
pub settle_loses : (f n me : ℕ) (sv : Service Value StateValue) → LosesFirst (settle f n sv me)
settle_loses f n me sv d = settle_keeps n sv me f _ refl

-- ---- the whole stops short where a part of it does

module _ {K : Type 0} (records : K → List (List ℕ)) (gives : K → List ℕ → Answer → K → Type 0) (faults : K → ℕ) (service : Declarations) where
  -- the rest of it has stopped short after appends
  pub stops_later : {whole rest : CallHere → CallHere} {a b c : K} {d e : CallHere} {log : List (Rec Value StateValue)} → LeadsOn records gives faults service whole rest a b d e → StopsShort records gives faults service rest b c e log → StopsShort records gives faults service whole a c d log
  stops_later {whole} {a} {b} {d} {e} {log} h k = record {
    written = h.written ++ k.written;
    some = omega (arith, k.some, length-append h.written k.written);
    between = k.between;
    grown = k.grown ∙ ap (λ l. l ++ k.written) h.grown ∙ append_assoc (records a) h.written k.written;
    appends = (chained gives).more a b k.between h.written k.written (Ok tt) h.appends k.appends;
    short = k.short;
    counted = k.counted ∙ h.counted;
    stated = stated_both service h.written k.written h.stated k.stated;
    many = both h.written k.written _ h.many k.many;
    is = ap (λ f. (whole (armed_with f d)).node.log) (sym (later_count h.written k.written)) ∙ ap (λ f. f.node.log) (h.comes (Some (After (length k.written) false))) ∙ k.is;
  }

  -- memory was short once more records were there
  pub stops_here : {whole rest : CallHere → CallHere} {a b c : K} {d e : CallHere} {log : List (Rec Value StateValue)} → LeadsOn records gives faults service whole rest a b d e → length (records a) < length (records b) → LosesFirst rest
      → records c ≡ records b → faults c ≡ faults b → RunsShort gives b c → log ≡ e.node.log → StopsShort records gives faults service whole a c d log
  stops_here {whole} {a} {b} {d} {e} h longer loses same counted short log_is = record {
    written = h.written;
    some = omega (arith, longer, ap length h.grown, length-append (records a) h.written);
    between = b;
    grown = same ∙ h.grown;
    appends = h.appends;
    short = short;
    counted = counted ∙ h.counted;
    stated = h.stated;
    many = ap length log_is ∙ h.many;
    is = ap (λ f. (whole (armed_with f d)).node.log) (sym (last h.written)) ∙ ap (λ f. f.node.log) (h.comes (Some (After 0 false))) ∙ loses e ∙ sym log_is;
  }
    where
      last : (written : List (List ℕ)) → later written (Some (After 0 false)) ≡ Some (After (length written) false)
      last written = later_count written [] ∙ ap (λ l. Some (After (length l) false)) (append-nil written)

module _ {K : Type 0} {records : K → List (List ℕ)} {gives : K → List ℕ → Answer → K → Type 0} {faults : K → ℕ} {service : Declarations} {past : List Value} {whole rest : CallHere → CallHere} {x : NodeValue K} (y z : NodeValue K) {before : Draft} (mid : Draft)
    (leads : LeadsOn records gives faults service whole rest x.keeper y.keeper (so_far records service past x before) (so_far records service past y mid)) where
  -- the rest of it has broken off
  pub breaks_later : BreaksOff records gives faults service past rest y z mid → BreaksOff records gives faults service past whole x z before
  breaks_later h = record {
    stops = stops_later records gives faults service leads h.stops;
    based = h.based;
  }

  -- memory was short once more records were there, and nothing has changed since but what a node that is down forgets
  pub breaks_here : length (records x.keeper) < length (records y.keeper) → z.base ≡ base (log_of service past (records z.keeper)) → LosesFirst rest → records z.keeper ≡ records y.keeper → faults z.keeper ≡ faults y.keeper → RunsShort gives y.keeper z.keeper
      → BreaksOff records gives faults service past whole x z before
  breaks_here longer based loses same counted short = record {
    stops = stops_here records gives faults service leads longer loses same counted short (ap (log_of service past) same);
    based = based;
  }

  -- so it is where the rest of it is stuck
  pub breaks_after : length (records x.keeper) < length (records y.keeper) → y.base ≡ base (log_of service past (records y.keeper)) → LosesFirst rest → IsStuck records gives faults service past rest y z mid → BreaksOff records gives faults service past whole x z before
  breaks_after longer based loses (inl s) = breaks_here longer (ap (λ n. n.base) s.parts ∙ based ∙ ap (λ kept. base (log_of service past kept)) (sym s.records)) loses s.records s.faults s.short
  breaks_after longer based loses (inr b) = breaks_later b

module _ {K : Type 0} {records : K → List (List ℕ)} {gives : K → List ℕ → Answer → K → Type 0} {faults : K → ℕ} {service : Declarations} {past : List Value} {whole : CallHere → CallHere} {x : NodeValue K} {before : Draft} where
  -- a call that is the same breaks off where this one does
  pub breaks_as : {same : CallHere → CallHere} {z : NodeValue K} → ((f : Option Failure) → whole (armed_with f (so_far records service past x before)) ≡ same (armed_with f (so_far records service past x before))) → BreaksOff records gives faults service past same x z before → BreaksOff records gives faults service past whole x z before
  breaks_as {z} e h =
      breaks_later x z before (leads_same refl e) h

  -- a node with the same keeper and base has broken off too
  pub breaks_kept : {y z : NodeValue K} → z.keeper ≡ y.keeper → z.base ≡ y.base → BreaksOff records gives faults service past whole x y before → BreaksOff records gives faults service past whole x z before
  breaks_kept keeper based h = record {
    stops = subst (λ k. StopsShort records gives faults service whole x.keeper k (so_far records service past x before) (log_of service past (records k))) (sym keeper) h.stops;
    based = based ∙ h.based ∙ ap (λ k. base (log_of service past (records k))) (sym keeper);
  }

module _ {K : Type 0} {records : K → List (List ℕ)} {gives : K → List ℕ → Answer → K → Type 0} {faults : K → ℕ} {x : NodeValue K} where
  -- nothing has changed
  pub stands_same : Stands records faults gives x x
  stands_same = record { parts = refl; records = refl; faults = refl; short = inl refl }

  -- nothing has changed of a node with the same keeper, and the node that this one was then is taken back
  pub stands_back : {mid y z : NodeValue K} → mid.keeper ≡ x.keeper → z ≡ record x { keeper = y.keeper } → Stands records faults gives mid y → Stands records faults gives x z
  stands_back {y} {z} same z_is s = record {
    parts = z_is ∙ ap (λ k. record x { keeper = k }) (sym keeper);
    records = ap records keeper ∙ s.records ∙ ap records same;
    faults = ap faults keeper ∙ s.faults ∙ ap faults same;
    short = subst (λ k. RunsShort gives x.keeper k) (sym keeper) (subst (λ k. RunsShort gives k y.keeper) same s.short);
  }
    where
      keeper : z.keeper ≡ y.keeper
      keeper = ap (λ n. n.keeper) z_is
