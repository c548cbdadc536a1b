-- The value that a node has open, and what it accepted itself.
use Rattle.std.proofs.Common.{arith, ◌≡◌, ℕ, suc, ◌+◌, ◌<◌, ◌≤◌, Bool, true, false, List, [], ◌∷◌, length, map, Option, Some, None, option_map, is_some, Result, Ok, Err, IfOk, refl, sym, ◌∙◌, ap, subst, eqb-true}
use Rattle.std.specs.Prelude.{◌==◌, nat_le, if◌then◌else◌}
use Rattle.std.proofs.lemmas.Bool.Decides.{nat_tests}
use Rattle.std.proofs.lemmas.Option.{same_Some}
use Rattle.rex_ballot.specs.declared.proposal.Proposal.{Proposal as Kept}
use Rattle.rex_ballot.specs.Proposals.{proposal_for}
use Rattle.rex_syntax.specs.declared.service.Declarations.{Declarations}
use Rattle.rex_cluster.specs.Records.{Proposal, accepted, from_on, known}
use Rattle.std.specs.declared.alloc.AllocError.{AllocError}
use Rattle.rex_report.specs.declared.effect.Role.{Role as RoleName}
use Rattle.rex_cluster.specs.Node.{Lead, Role, lead_name, role_name}
use Rattle.rex_cluster.specs.Node.Role.{Follower, Leads}
use Rattle.rex_cluster.specs.Calls.{best, better, own_reports}
use Rattle.rex_cluster.specs.Ranges.{AreRising}
use Rattle.rex_cluster.specs.Values.{Value, values_fit}
use Rattle.rex_cluster.specs.Lanes.{Here}
use Rattle.rex_cluster.proofs.Ranged.{accepted_rising}
use Rattle.rex_log.specs.Log.{proposal_in}
use Rattle.std.specs.Borrow.{Bor}
use Rattle.std.specs.Option.{option_copied}
use Rattle.rex_node.specs.Parts.{count_of, open_value}
use Rattle.rex_processes.specs.Tested.{FitsNext, KnownFits, OpenFits, OwnReportsFit}
use Rattle.rex_processes.specs.Leading.{ActiveOpenFits}
use Rattle.rex_fits.specs.Applied.{AppliedValue}
use Rattle.rex_process.specs.declared.hearing.Test.{Test}
use Rattle.rex_process.specs.declared.hearing.Test.TheVariants as test
use Rattle.rex_process.specs.Hearing.{IsTestOfAdopted, IsTestOfOpen, adopted_in}
use Rattle.rex_process.specs.Process.{ProcessValue, IsProcess, IsTest, Tells, here}
use Rattle.rex_process.proofs.Standing.{up_is}
use Rattle.rex_process.proofs.Trying.{many_known}

-- ---- the open value

module _ (service : Declarations) (x : Here) (active : ActiveOpenFits service x) (knows : KnownFits service x) where
  abbrev open_of : Role Value → Option Value
  open_of r = adopted_in (role_name r) (open_value r)

  -- where it adopted none, the one that it has open fits
  none_by : (l : Lead Value) (a : Bool) (o : Option (Proposal Value)) → x.role ≡ Leads l → l.active ≡ a → l.proposal ≡ o → adopted_in (lead_name a o) (option_map (λ (p : Proposal Value). p.value) o) ≡ None
      → (p : Proposal Value) → l.proposal ≡ Some p → FitsNext service x p.value
  none_by l true o r a e none p f = active l p r a knows f
  none_by l false None r a e none p f = absurd (let c : None ≡ Some p = sym e ∙ f in cc)
  none_by l false (Some q) r a e none p f = absurd cc

  none_of : (r : Role Value) → x.role ≡ r → open_of r ≡ None → (l : Lead Value) (p : Proposal Value) → r ≡ Leads l → l.proposal ≡ Some p → FitsNext service x p.value
  none_of Follower r none l p e f = absurd cc
  none_of (Leads k) r none l p e f =
      let same : k ≡ l = same_lead e in
      none_by l l.active l.proposal (r ∙ e) refl refl (subst (λ (m : Lead Value). adopted_in (lead_name m.active m.proposal) (option_map (λ (q : Proposal Value). q.value) m.proposal) ≡ None) same none) p f
    where
      same_lead : {a b : Lead Value} → ◌≡◌ {A = Role Value} (Leads a) (Leads b) → a ≡ b
      same_lead e = cc

  pub none_adopted : adopted_in (role_name x.role) (open_value x.role) ≡ None → OpenFits service x
  none_adopted none l p r e = none_of x.role refl none l p r e

  -- where it adopted one, it is the one that it has open
  some_by : (l : Lead Value) (a : Bool) (o : Option (Proposal Value)) (v : Value) → l.proposal ≡ o → adopted_in (lead_name a o) (option_map (λ (p : Proposal Value). p.value) o) ≡ Some v
      → (q : Proposal Value) × (l.proposal ≡ Some q) × (q.value ≡ v)
  some_by l true o v e some = absurd cc
  some_by l false None v e some = absurd cc
  some_by l false (Some q) v e some = (q, e, same_Some q.value v some)

  some_of : (r : Role Value) (v : Value) → x.role ≡ r → open_of r ≡ Some v → (l : Lead Value) × (q : Proposal Value) × (x.role ≡ Leads l) × (l.proposal ≡ Some q) × (q.value ≡ v)
  some_of Follower v r some = absurd cc
  some_of (Leads l) v r some = let h = some_by l l.active l.proposal v refl some in (l, h.0, r, h.1, h.2)

  pub some_adopted : (v : Value) (t : Test) → adopted_in (role_name x.role) (open_value x.role) ≡ Some v → IsTestOfAdopted service x v t → IsTestOfOpen service x t
  some_adopted v t some = by t
    where
      h : (l : Lead Value) × (q : Proposal Value) × (x.role ≡ Leads l) × (l.proposal ≡ Some q) × (q.value ≡ v)
      h = some_of x.role v refl some

      only : FitsNext service x v → (k : Lead Value) (p : Proposal Value) → x.role ≡ Leads k → k.proposal ≡ Some p → FitsNext service x p.value
      only fits k p r e =
          subst (FitsNext service x) (sym (ap (λ (o : Option (Proposal Value)). value_in o) (sym e ∙ (ap (λ (m : Role Value). proposal_of m) (sym r ∙ h.2) ∙ h.3)) ∙ h.4)) fits
        where
          proposal_of : Role Value → Option (Proposal Value)
          proposal_of Follower = None
          proposal_of (Leads l) = l.proposal

          value_in : Option (Proposal Value) → Value
          value_in None = []
          value_in (Some p) = p.value

      by : (t : Test) → IsTestOfAdopted service x v t → IsTestOfOpen service x t
      by test.Passed fits = only fits
      by (test.Known a) never = absurd never
      by test.Unfit never = λ fits. never (subst (FitsNext service x) h.4 (fits h.0 h.1 h.2 h.3))

-- ---- what it accepted itself

no_later : (i j : ℕ) (ps : List Kept) → i ≤ j → AreRising j (map proposal_in ps) → best i (map proposal_in ps) ≡ None
no_later i j [] le h = refl
no_later i j (p ∷ ps) le h = by (no_later i p.instance ps) (p.instance == i) refl
  where
    by : (i ≤ p.instance → AreRising p.instance (map proposal_in ps) → best i (map proposal_in ps) ≡ None) → (t : Bool) → (p.instance == i) ≡ t → (if t then better (proposal_in p) (best i (map proposal_in ps)) else best i (map proposal_in ps)) ≡ None
    by rest true e = absurd (let same : p.instance ≡ i = eqb-true p.instance i e in omega (arith, le, h.0, same))
    by rest false e = rest (let later : j < p.instance = h.0 in omega (arith, le, later)) h.1

-- of proposals whose instances rise the best one for an instance is the one that is found
best_found : (i j : ℕ) (ps : List Kept) → AreRising j (map proposal_in ps) → best i (map proposal_in ps) ≡ option_map proposal_in (proposal_for i ps)
best_found i j [] h = refl
best_found i j (p ∷ ps) h = by (best_found i p.instance ps h.1) (p.instance == i) refl
  where
    by : best i (map proposal_in ps) ≡ option_map proposal_in (proposal_for i ps) → (t : Bool) → (p.instance == i) ≡ t → (if t then better (proposal_in p) (best i (map proposal_in ps)) else best i (map proposal_in ps)) ≡ option_map proposal_in (if t then Some p else proposal_for i ps)
    by rest true e = ap (better (proposal_in p)) (no_later i p.instance ps (let same : p.instance ≡ i = eqb-true p.instance i e in omega (arith, same)) h.1)
    by rest false e = rest

-- those from an instance on have the same for it and for later ones
best_from : (i k : ℕ) (ps : List (Proposal Value)) → k ≤ i → best i (from_on k ps) ≡ best i ps
best_from i k [] le = refl
best_from i k (p ∷ ps) le = by (best_from i k ps le) (nat_le k p.instance) refl (p.instance == i) refl
  where
    by : best i (from_on k ps) ≡ best i ps → (t : Bool) → nat_le k p.instance ≡ t → (u : Bool) → (p.instance == i) ≡ u
        → best i (if t then p ∷ from_on k ps else from_on k ps) ≡ (if u then better p (best i ps) else best i ps)
    by rest true e u f = ap (λ (b : Bool). if b then better p (best i (from_on k ps)) else best i (from_on k ps)) f ∙ ap (λ (o : Option (Proposal Value)). if u then better p o else o) rest
    by rest false e true f = absurd (let same : p.instance ≡ i = eqb-true p.instance i f in lower k p.instance i e same le)
      where
        lower : (k a i : ℕ) → nat_le k a ≡ false → a ≡ i → k ≤ i → ⊥
        lower k a i e same le = grind (arith, nat_tests)
    by rest false e false f = rest

module _ {K : Type 0} (records : K → List (List ℕ)) (faults : K → ℕ) (p : ProcessValue K) (process : IsProcess records faults p) (up : p.node.up ≡ true) where
  abbrev x : Here
  x = here records p

  abbrev many : ℕ
  many = length (known x.log)

  -- what it accepted for an instance past those that it knows
  own_is : (i : ℕ) → suc many ≤ i → best i (own_reports x.log) ≡ option_map proposal_in (proposal_for i p.node.acceptor.accepted)
  own_is i le =
      let u = up_is records p.service p.node process.node process.plain up in
      let rising : AreRising 0 (accepted x.log) = accepted_rising x.log u.numbers.log.instances in
      best_from i (suc many) (accepted x.log) le
      ∙ (ap (λ (ps : List (Proposal Value)). best i ps) (sym u.accepted)
      ∙ best_found i 0 p.node.acceptor.accepted (subst (AreRising 0) (sym u.accepted) rising))

  -- it accepted one for the instance after the next
  pub later_own : (o : Option Value) → o ≡ option_map (λ (q : Kept). q.value) (proposal_for (suc (suc many)) p.node.acceptor.accepted) → is_some o ≡ true → Tells false (OwnReportsFit p.service x)
  later_own o e some own = by (proposal_for (suc (suc many)) p.node.acceptor.accepted) refl
    where
      by : (q : Option Kept) → proposal_for (suc (suc many)) p.node.acceptor.accepted ≡ q → ⊥
      by None f = absurd (let c : false ≡ true = sym (ap is_some (e ∙ ap (option_map (λ (k : Kept). k.value)) f)) ∙ some in cc)
      by (Some q) f = absurd (let c : None ≡ Some (proposal_in q) = sym own.last ∙ (own_is (suc (suc many)) (omega arith) ∙ ap (option_map proposal_in) f) in cc)

  none_later : (o : Option Value) → o ≡ option_map (λ (q : Kept). q.value) (proposal_for (suc (suc many)) p.node.acceptor.accepted) → is_some o ≡ false → best (suc (suc many)) (own_reports x.log) ≡ None
  none_later o e none = own_is (suc (suc many)) (omega arith) ∙ by (proposal_for (suc (suc many)) p.node.acceptor.accepted) refl
    where
      by : (q : Option Kept) → proposal_for (suc (suc many)) p.node.acceptor.accepted ≡ q → option_map proposal_in q ≡ None
      by None f = refl
      by (Some q) f = absurd (let c : true ≡ false = sym (ap is_some (e ∙ ap (option_map (λ (k : Kept). k.value)) f)) ∙ none in cc)

  -- whether what it accepted for the next instance fits
  pub own_tells : (later : Option Value) → later ≡ option_map (λ (q : Kept). q.value) (proposal_for (suc (suc many)) p.node.acceptor.accepted) → is_some later ≡ false
      → (o : Option Value) → o ≡ option_map (λ (q : Kept). q.value) (proposal_for (suc many) p.node.acceptor.accepted) → (b : Bool) → (o ≡ None → b ≡ true) → ((v : Value) → o ≡ Some v → Tells b (FitsNext p.service x v)) → Tells b (OwnReportsFit p.service x)
  own_tells later le none o e b free tells = by (proposal_for (suc many) p.node.acceptor.accepted) refl
    where
      next_is : best (suc many) (own_reports x.log) ≡ option_map proposal_in (proposal_for (suc many) p.node.acceptor.accepted)
      next_is = own_is (suc many) (omega arith)

      by : (q : Option Kept) → proposal_for (suc many) p.node.acceptor.accepted ≡ q → Tells b (OwnReportsFit p.service x)
      by None f = subst (λ (t : Bool). Tells t (OwnReportsFit p.service x)) (sym (free (e ∙ ap (option_map (λ (k : Kept). k.value)) f)))
          (record { next = λ q found. absurd (let c : None ≡ Some q = sym (next_is ∙ ap (option_map proposal_in) f) ∙ found in cc); last = none_later later le none })
      by (Some k) f = go b (tells k.value (e ∙ ap (option_map (λ (q : Kept). q.value)) f))
        where
          found_is : best (suc many) (own_reports x.log) ≡ Some (proposal_in k)
          found_is = next_is ∙ ap (option_map proposal_in) f

          go : (t : Bool) → Tells t (FitsNext p.service x k.value) → Tells t (OwnReportsFit p.service x)
          go true fits = record {
            next = λ q found. subst (λ (r : Proposal Value). FitsNext p.service x r.value) (same_Some (proposal_in k) q (sym found_is ∙ found)) fits;
            last = none_later later le none;
          }
          go false never = λ own. never (own.next (proposal_in k) found_is)

  -- ---- as the function sees it

  some_copied : (o : Option (Bor (List ℕ))) → is_some (option_copied o) ≡ is_some o
  some_copied None = refl
  some_copied (Some v) = refl

  at_place : (k i : ℕ) (o : Option (Bor (List ℕ))) → k ≡ i → option_copied o ≡ option_map (λ (q : Kept). q.value) (proposal_for k p.node.acceptor.accepted)
      → option_copied o ≡ option_map (λ (q : Kept). q.value) (proposal_for i p.node.acceptor.accepted)
  at_place k i o e h = subst (λ (n : ℕ). option_copied o ≡ option_map (λ (q : Kept). q.value) (proposal_for n p.node.acceptor.accepted)) e h

  pub later_seen : (n k : ℕ) (o : Option (Bor (List ℕ))) → n ≡ count_of p.node → k ≡ n + 1 + 1 → option_copied o ≡ option_map (λ (q : Kept). q.value) (proposal_for k p.node.acceptor.accepted) → is_some o ≡ true → Tells false (OwnReportsFit p.service x)
  later_seen n k o counted place h some =
      let e : n ≡ many = counted ∙ many_known records p.service p.node process.node up in
      later_own (option_copied o) (at_place k (suc (suc many)) o (omega (arith, place, e)) h) (some_copied o ∙ some)

  pub none_seen : (n k j : ℕ) (o q : Option (Bor (List ℕ))) → n ≡ count_of p.node → k ≡ n + 1 + 1 → j ≡ n + 1 → option_copied o ≡ option_map (λ (r : Kept). r.value) (proposal_for k p.node.acceptor.accepted) → is_some o ≡ false
      → option_copied q ≡ option_map (λ (r : Kept). r.value) (proposal_for j p.node.acceptor.accepted) → q ≡ None → Tells true (OwnReportsFit p.service x)
  none_seen n k j o q counted place next h none g empty =
      let e : n ≡ many = counted ∙ many_known records p.service p.node process.node up in
      own_tells (option_copied o) (at_place k (suc (suc many)) o (omega (arith, place, e)) h) (some_copied o ∙ none) (option_copied q) (at_place j (suc many) q (omega (arith, next, e)) g) true (λ f. refl)
      (λ v f. absurd (let c : None ≡ Some v = sym (ap option_copied empty) ∙ f in cc))

  pub some_seen : (n k j : ℕ) (o q : Option (Bor (List ℕ))) (v : Value) (t : Option AppliedValue) → n ≡ count_of p.node → k ≡ n + 1 + 1 → j ≡ n + 1 → option_copied o ≡ option_map (λ (r : Kept). r.value) (proposal_for k p.node.acceptor.accepted) → is_some o ≡ false
      → option_copied q ≡ option_map (λ (r : Kept). r.value) (proposal_for j p.node.acceptor.accepted) → option_copied q ≡ Some v → IsTest p.service p.clock x v t → Tells (is_some t) (OwnReportsFit p.service x)
  some_seen n k j o q v t counted place next h none g there test =
      let e : n ≡ many = counted ∙ many_known records p.service p.node process.node up in
      own_tells (option_copied o) (at_place k (suc (suc many)) o (omega (arith, place, e)) h) (some_copied o ∙ none) (option_copied q) (at_place j (suc many) q (omega (arith, next, e)) g) (is_some t)
      (λ f. absurd (let c : None ≡ Some v = sym f ∙ there in cc)) (λ w f. subst (λ (u : Value). Tells (is_some t) (FitsNext p.service x u)) (same_Some v w (sym there ∙ f)) (tells t test))
    where
      tells : (t : Option AppliedValue) → IsTest p.service p.clock x v t → Tells (is_some t) (FitsNext p.service x v)
      tells None never = never
      tells (Some a) h = h.fits

  fit : KnownFits p.service x
  fit = let u = up_is records p.service p.node process.node process.plain up in subst (λ (vs : List Value). values_fit p.service vs ≡ true) u.known u.fits

  -- the role and the open value, as the node tells them
  adopted_is : (name : RoleName) (o : Option Value) → name ≡ role_name x.role → o ≡ open_value x.role → adopted_in name o ≡ adopted_in (role_name x.role) (open_value x.role)
  adopted_is name o named value = ap (λ (n : RoleName). adopted_in n o) named ∙ ap (adopted_in (role_name x.role)) value

  pub open_none : (name : RoleName) (o : Option Value) (q : Option (Bor (List ℕ))) → name ≡ role_name x.role → o ≡ open_value x.role → option_copied q ≡ adopted_in name o → q ≡ None → OpenFits p.service x
  open_none name o q named value h none = none_adopted p.service x (process.up up).open_fits fit (sym (adopted_is name o named value) ∙ (sym h ∙ ap option_copied none))

  pub open_some : (name : RoleName) (o : Option Value) (q : Option (Bor (List ℕ))) (v : Bor (List ℕ)) (r : Result Test AllocError) → name ≡ role_name x.role → o ≡ open_value x.role → option_copied q ≡ adopted_in name o → q ≡ Some v
      → IfOk r (IsTestOfAdopted p.service x v.now) → IfOk r (IsTestOfOpen p.service x)
  open_some name o q v (Err e) named value h some t = tt
  open_some name o q v (Ok test) named value h some t =
      some_adopted p.service x (process.up up).open_fits fit v.now test (sym (adopted_is name o named value) ∙ (sym h ∙ ap option_copied some)) t
