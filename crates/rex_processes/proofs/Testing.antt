-- What a node knows after a message or an election is what it knew, with a value more where that fits.
use Rattle.std.proofs.Common.{◌≡◌, ℕ, zero, suc, Bool, true, false, List, [], ◌∷◌, ◌++◌, length, Option, Some, None, refl, sym, ◌∙◌, ap, subst, eqb-true, arith, length-append}
use Rattle.std.specs.Prelude.{nat_lt, nat_le, ◌==◌, ◌&&◌, is_some}
use Rattle.std.specs.List.{list_all}
use Rattle.std.proofs.lemmas.Bool.{false≢true, and_parts}
use Rattle.std.proofs.lemmas.List.Folds.{list_all-append}
use Rattle.rex_syntax.specs.declared.service.Declarations.{Declarations}
use Rattle.rex_event.specs.declared.event.Event.{Event}
use Rattle.rex_state.specs.Value.{StateValue}
use Rattle.rex_state.specs.Start.{start_of}
use Rattle.rex_state.specs.Machine.{run}
use Rattle.rex_state.proofs.Run.{run-then}
use Rattle.rex_cluster.specs.Records.{Rec, Proposal, proposal_of, promise, accepted, offset, known}
use Rattle.rex_cluster.specs.Records.Rec.{Promised, Accepted, Known}
use Rattle.rex_cluster.specs.Quorum.{is_in, is_majority, ballot_above, round_of}
use Rattle.rex_cluster.specs.Node.{Service, Content, Lead, Role, Failure}
use Rattle.rex_cluster.specs.Node.Failure.{After}
use Rattle.rex_cluster.specs.Node.Content.{Prepare, Promise, Accept as AskAccept, Accepted as Voted, Chosen as Chose, Nack, Ask, Snapshot}
use Rattle.rex_cluster.specs.Node.Role.{Follower, Leads}
use Rattle.rex_cluster.specs.Calls.{logged, append, led, leading, best, choose, lead, turn, settle, enough, own_reports, candidacy, elect, receive, heard, on_own_promise, on_promise, has_last, voted, on_own_vote, on_voted, on_nack}
use Rattle.rex_cluster.specs.Values.{Value, events_of, trace_of, spells, runs, values_fit, service_of}
use Rattle.rex_cluster.specs.Lanes.{CallHere}
use Rattle.rex_cluster.proofs.Calls.{if_good}
use Rattle.rex_cluster.proofs.Replies.{trace_push}
use Rattle.rex_processes.specs.Tested.{KnownFits, OpenFits, MayBeHeard, OwnReportsFit}

module _ (service : Declarations) (seed n m : ℕ) where
  abbrev sv : Service Value StateValue
  sv = service_of service seed

  abbrev G : CallHere → Type 0
  G d = KnownFits service d.node

  -- an append may fail: what is known then is what was known, without the record or with it
  append_fits : (a : Option Failure) (r : Rec Value StateValue) (d : CallHere) (k : CallHere → CallHere) → G d → values_fit service (known (r ∷ d.node.log)) ≡ true → ((b : Option Failure) → G (k (logged r b d))) → G (append a m r d k)
  append_fits None r d k g more h = h None
  append_fits (Some (After (suc before) kept)) r d k g more h = h (Some (After before kept))
  append_fits (Some (After zero true)) r d k g more h = more
  append_fits (Some (After zero false)) r d k g more h = g

  -- ---- a node that goes on

  -- a node that leads does as its open proposal says
  lead_fits : (f : ℕ) (d : CallHere) (l : Lead Value) (o : Option (Proposal Value)) → d.node.role ≡ Leads l → l.proposal ≡ o → G (lead n sv m d l o (settle f n sv m)) → G (settle (suc f) n sv m d)
  lead_fits f d l o r e g =
      subst (λ (role : Role Value). G (turn n sv m d role (settle f n sv m))) (sym r)
      (subst (λ (q : Option (Proposal Value)). G (lead n sv m d l q (settle f n sv m))) (sym e) g)

  -- a proposal that no majority accepted stays open
  waits : (f : ℕ) (d : CallHere) (l : Lead Value) (p : Proposal Value) → d.node.role ≡ Leads l → l.proposal ≡ Some p → is_majority n l.accepted_by ≡ false → G d → G (settle f n sv m d)
  waits zero d l p r o few g = g
  waits (suc f) d l p r o few g = lead_fits f d l (Some p) r o (if_good G (is_majority n l.accepted_by) (λ e. absurd (false≢true (sym few ∙ e))) (λ _. g))

  -- one that fits may be known
  opens : (f : ℕ) (d : CallHere) (l : Lead Value) (p : Proposal Value) → d.node.role ≡ Leads l → l.proposal ≡ Some p → values_fit service (known d.node.log ++ p.value ∷ []) ≡ true
      → ((k : ℕ) (e : CallHere) → e.node.role ≡ leading l None [] l.active → known e.node.log ≡ known d.node.log ++ p.value ∷ [] → G e → G (settle k n sv m e)) → G d → G (settle f n sv m d)
  opens zero d l p r o fits rest g = g
  opens (suc f) d l p r o fits rest g =
      lead_fits f d l (Some p) r o
      (if_good G (is_majority n l.accepted_by) (λ _. append_fits d.node.armed (Known p.instance p.value) d _ g fits (λ b. rest f _ refl refl fits)) (λ _. g))

  -- without one it may adopt a value
  adopts : (f : ℕ) (d : CallHere) (l : Lead Value) → d.node.role ≡ Leads l → l.proposal ≡ None
      → ((p : Proposal Value) → best (suc (length (known d.node.log))) l.reported ≡ Some p → (k : ℕ) (e : CallHere) → e.node.role ≡ leading l (Some (proposal_of l.ballot (suc (length (known d.node.log))) p.value)) (m ∷ []) l.active
      → known e.node.log ≡ known d.node.log → G e → G (settle k n sv m e)) → G d → G (settle f n sv m d)
  adopts zero d l r o rest g = g
  adopts (suc f) d l r o rest g =
      lead_fits f d l None r o
      (if_good G l.active (λ _. g) (λ _.
      if_good G (is_majority n l.counted) (λ _. chosen (best (suc (length (known d.node.log))) l.reported) refl) (λ _. g)))
    where
      chosen : (q : Option (Proposal Value)) → best (suc (length (known d.node.log))) l.reported ≡ q → G (choose n sv m d l (suc (length (known d.node.log))) q (settle f n sv m))
      chosen None e = g
      chosen (Some p) e = append_fits d.node.armed (Accepted l.ballot (suc (length (known d.node.log))) p.value) d _ g g (λ b. rest p e f _ refl refl g)

  -- where nothing is reported for the next instance it adopts none
  rests : (f : ℕ) (d : CallHere) (l : Lead Value) → d.node.role ≡ Leads l → l.proposal ≡ None → best (suc (length (known d.node.log))) l.reported ≡ None → G d → G (settle f n sv m d)
  rests f d l r o none g = adopts f d l r o (λ p e. absurd (differ p (sym none ∙ e))) g
    where
      differ : (p : Proposal Value) → None ≡ Some p → ⊥
      differ p e = cc

  -- ---- a node that is no majority by itself

  module _ (others : is_majority n (m ∷ []) ≡ false) where
    -- what it adopts waits for others
    calm : (f : ℕ) (d : CallHere) (l : Lead Value) → d.node.role ≡ Leads l → l.proposal ≡ None → G d → G (settle f n sv m d)
    calm f d l r o g = adopts f d l r o (λ p e k x role same h. waits k x _ _ role refl others h) g

    module _ (d : CallHere) (knows : G d) where
      heard_promise : (from b : ℕ) (ps : List (Proposal Value)) (role : Role Value) → G (on_promise n sv m from b ps d role)
      heard_promise from b ps Follower = knows
      heard_promise from b ps (Leads l) = if_good G (l.ballot == b) (λ _. own l.proposal) (λ _. knows)
        where
          own : (o : Option (Proposal Value)) → G (on_own_promise n sv m from ps d l o)
          own (Some p) = knows
          own None =
              if_good G l.active (λ _. knows) (λ _. if_good G (is_in from l.counted) (λ _. knows) (λ _.
              if_good G (is_majority n (heard l from ps).counted) (λ _. calm (enough (heard l from ps).reported) (led (Leads (heard l from ps)) d) (heard l from ps) refl refl knows) (λ _. knows)))

      heard_vote : OpenFits service d.node → (from b i : ℕ) (role : Role Value) → d.node.role ≡ role → G (on_voted n sv m from b i d role)
      heard_vote fits from b i Follower e = knows
      heard_vote fits from b i (Leads l) e = if_good G (l.ballot == b) (λ _. own l.proposal refl) (λ _. knows)
        where
          own : (o : Option (Proposal Value)) → l.proposal ≡ o → G (on_own_vote n sv m from i d l o)
          own None f = knows
          own (Some p) f =
              if_good G (p.instance == i) (λ _. if_good G (is_in from l.accepted_by) (λ _. knows) (λ _.
              if_good G (is_majority n (voted l from p).accepted_by)
              (λ _. opens (enough (voted l from p).reported) (led (Leads (voted l from p)) d) (voted l from p) p refl refl (fits l p e f) (λ k x role same h. calm k x _ role refl h) knows) (λ _. knows))) (λ _. knows)

      heard_nack : (p : ℕ) (role : Role Value) → G (on_nack m p d role)
      heard_nack p Follower = knows
      heard_nack p (Leads l) = if_good G (nat_lt l.ballot p) (λ _. knows) (λ _. knows)

      pub heard_fits : (from : ℕ) (c : Content Value) → MayBeHeard service d.node c → G (receive n sv m from c d)
      heard_fits from (Prepare b first) t =
          if_good G (nat_lt b (promise d.node.log)) (λ _. knows) (λ _. if_good G (nat_le first (offset d.node.log)) (λ _. knows) (λ _.
          if_good G (nat_lt (promise d.node.log) b) (λ _. append_fits d.node.armed (Promised b) d _ knows knows (λ _. knows)) (λ _. knows)))
      heard_fits from (Promise b ps) t = heard_promise from b ps d.node.role
      heard_fits from (AskAccept b i v) t =
          if_good G (nat_lt b (promise d.node.log)) (λ _. knows) (λ _. if_good G (nat_le i (offset d.node.log)) (λ _. knows) (λ _.
          if_good G (has_last b i (accepted d.node.log)) (λ _. knows) (λ _. append_fits d.node.armed (Accepted b i v) d _ knows knows (λ _. knows))))
      heard_fits from (Voted b i) t = heard_vote t from b i d.node.role refl
      heard_fits from (Chose i v) t =
          if_good G (i == suc (length (known d.node.log)))
          (λ e. let fits = t (eqb-true i (suc (length (known d.node.log))) e) in append_fits d.node.armed (Known i v) d _ knows fits (λ _. fits)) (λ _. knows)
      heard_fits from (Nack b p) t = heard_nack p d.node.role
      heard_fits from (Ask first) t = if_good G (nat_le first (offset d.node.log)) (λ _. knows) (λ _. if_good G (nat_lt (length (known d.node.log)) first) (λ _. knows) (λ _. knows))
      heard_fits from (Snapshot values) t = absurd t

  -- ---- elections

  module _ (d : CallHere) (knows : G d) where
    stands_fit : ((k : ℕ) (e : CallHere) → e.node.role ≡ Leads (candidacy m (ballot_above m (promise d.node.log)) d.node.log) → known e.node.log ≡ known d.node.log → G e → G (settle k n sv m e)) → G (elect n sv m d)
    stands_fit rest =
        if_good G (nat_lt 4294967296 (round_of (ballot_above m (promise d.node.log)))) (λ _. knows)
        (λ _. append_fits d.node.armed (Promised (ballot_above m (promise d.node.log))) d _ knows knows (λ b. rest (enough (own_reports d.node.log)) _ refl refl knows))

    pub elect_fits : is_majority n (m ∷ []) ≡ false → G (elect n sv m d)
    elect_fits others = stands_fit (λ k e r same h. calm others k e _ r refl h)

    pub alone_fits : OwnReportsFit service d.node → G (elect n sv m d)
    alone_fits own = stands_fit (λ k e r same h. adopts k e _ r refl (adopted e same) h)
      where
        adopted : (e : CallHere) → known e.node.log ≡ known d.node.log → (p : Proposal Value) → best (suc (length (known e.node.log))) (own_reports d.node.log) ≡ Some p → (k : ℕ) (x : CallHere)
            → x.node.role ≡ leading (candidacy m (ballot_above m (promise d.node.log)) d.node.log) (Some (proposal_of (ballot_above m (promise d.node.log)) (suc (length (known e.node.log))) p.value)) (m ∷ []) false
            → known x.node.log ≡ known e.node.log → G x → G (settle k n sv m x)
        adopted e same p found k x r also h = opens k x _ _ r refl fits last h
          where
            as_before : known x.node.log ≡ known d.node.log
            as_before = also ∙ same

            fits : values_fit service (known x.node.log ++ p.value ∷ []) ≡ true
            fits =
                subst (λ (vs : List Value). values_fit service (vs ++ p.value ∷ []) ≡ true) (sym as_before)
                (own.next p (subst (λ (vs : List Value). best (suc (length vs)) (own_reports d.node.log) ≡ Some p) same found))

            one_more : (vs : List Value) → length (vs ++ p.value ∷ []) ≡ suc (length vs)
            one_more vs = omega (arith, length-append vs (p.value ∷ []))

            last : (j : ℕ) (y : CallHere) → y.node.role ≡ Leads (candidacy m (ballot_above m (promise d.node.log)) d.node.log) → known y.node.log ≡ known x.node.log ++ p.value ∷ [] → G y → G (settle j n sv m y)
            last j y role more g =
                rests j y _ role refl
                (subst (λ (k : ℕ). best (suc k) (own_reports d.node.log) ≡ None) (sym (ap length more ∙ (one_more (known x.node.log) ∙ ap (λ (vs : List Value). suc (length vs)) as_before))) own.last) g

-- ---- the test of a value

and-true : (b : Bool) → (b && true) ≡ b
and-true true = refl
and-true false = refl

-- a value fits after others where it spells a delta that runs from the state to which they lead
pub next_fits_where : (service : Declarations) (values : List Value) (v : Value) (s : StateValue) → values_fit service values ≡ true → run service (start_of service) (trace_of values) ≡ Some s
    → values_fit service (values ++ v ∷ []) ≡ (spells service v && is_some (run service s (events_of v)))
next_fits_where service values v s fit leads = ap (λ (t : Bool). t && runs service (trace_of (values ++ v ∷ []))) all ∙ ap (λ (t : Bool). spells service v && t) more
  where
    all : list_all (spells service) (values ++ v ∷ []) ≡ spells service v
    all =
        list_all-append (spells service) values (v ∷ [])
        ∙ ap (λ (t : Bool). t && (spells service v && true)) (and_parts (list_all (spells service) values) (runs service (trace_of values)) fit).0
        ∙ and-true (spells service v)

    more : runs service (trace_of (values ++ v ∷ [])) ≡ is_some (run service s (events_of v))
    more =
        ap (λ (es : List Event). runs service es) (trace_push values v)
        ∙ ap (λ (o : Option StateValue). is_some o) (run-then service (start_of service) s (trace_of values) (events_of v) leads)
