-- Accepted proposals above an instance, as the model has them.
use Rattle.std.proofs.Common.{◌≡◌, ℕ, suc, ◌+◌, ◌<◌, Bool, true, false, cond, eqb, ltb, leb, List, [], ◌∷◌, ◌++◌, refl, ap, arith, ◌≤◌, ◌||◌, Some, sym, ◌∙◌}
use Rattle.std.specs.Prelude.{map, fold}
use Rattle.std.proofs.lemmas.Bool.{ltb-true, ltb-false, leb-true, leb-false, eqb-true, eqb-false, lt-ltb, le-leb, ne_eqb}
use Rattle.rex_ballot.specs.declared.proposal.Proposal.{Proposal as Kept}
use Rattle.rex_ballot.specs.Proposals.{AreRising, above, below, with_proposal, from_instance, proposal_for}
use Rattle.rex_ballot.proofs.Lists.{below_none, rising_with, rising_less}
use Rattle.rex_cluster.specs.Records.{Proposal, from_on, placed}
use Rattle.rex_cluster.specs.Values.{Value}
use Rattle.rex_log.specs.Log.{proposal_in}
use Rattle.rex_paxos.specs.Acceptor.{is_of_ballot}
use Rattle.rex_cluster.specs.Calls.{has_last}
use Rattle.rex_cluster.specs.Ranges as ranges

-- those above an instance are those from the next one on
pub above_from : (o : ℕ) (ps : List Kept) → map proposal_in (above o ps) ≡ from_on (suc o) (map proposal_in ps)
above_from o [] = refl
above_from o (p ∷ ps) = go (ltb o p.instance) refl (leb (suc o) p.instance) refl (above_from o ps)
  where
    go : (t : Bool) → ltb o p.instance ≡ t → (u : Bool) → leb (suc o) p.instance ≡ u → map proposal_in (above o ps) ≡ from_on (suc o) (map proposal_in ps)
        → map proposal_in (cond t (p ∷ above o ps) (above o ps)) ≡ cond u (proposal_in p ∷ from_on (suc o) (map proposal_in ps)) (from_on (suc o) (map proposal_in ps))
    go true a true b ih = ap (λ (qs : List (Proposal Value)). proposal_in p ∷ qs) ih
    go true a false b ih = let x = ltb-true o p.instance a in let y = leb-false (suc o) p.instance b in absurd (omega arith)
    go false a true b ih = let x = ltb-false o p.instance a in let y = leb-true (suc o) p.instance b in absurd (omega arith)
    go false a false b ih = ih

-- all are above a lower instance
above_all : (instance least : ℕ) (ps : List Kept) → instance < least → AreRising least ps → above instance ps ≡ ps
above_all instance least [] l h = refl
above_all instance least (p ∷ ps) l h =
    let first = h.0 in
    rw (lt-ltb instance p.instance (omega arith)) (ap (λ (qs : List Kept). p ∷ qs) (above_all instance (p.instance + 1) ps (omega arith) h.1))

-- a proposal takes the same place
pub placed_kept : (least : ℕ) (ps : List Kept) (p : Kept) → AreRising least ps → map proposal_in (with_proposal ps p) ≡ placed (proposal_in p) (map proposal_in ps)
placed_kept least [] p h = refl
placed_kept least (q ∷ qs) p h = by (eqb p.instance q.instance) refl (ltb p.instance q.instance) refl (ltb q.instance p.instance) refl (placed_kept (q.instance + 1) qs p h.1)
  where
    by : (same : Bool) → eqb p.instance q.instance ≡ same → (less : Bool) → ltb p.instance q.instance ≡ less → (more : Bool) → ltb q.instance p.instance ≡ more
        → map proposal_in (with_proposal qs p) ≡ placed (proposal_in p) (map proposal_in qs)
        → map proposal_in (cond more (q ∷ below p.instance qs) (below p.instance qs) ++ p ∷ cond less (q ∷ above p.instance qs) (above p.instance qs))
        ≡ cond same (proposal_in p ∷ map proposal_in qs) (cond less (proposal_in p ∷ proposal_in q ∷ map proposal_in qs) (proposal_in q ∷ placed (proposal_in p) (map proposal_in qs)))
    by true s less l true m ih = absurd (let e = eqb-true p.instance q.instance s in let n = ltb-true q.instance p.instance m in omega arith)
    by true s true l false m ih = absurd (let e = eqb-true p.instance q.instance s in let n = ltb-true p.instance q.instance l in omega arith)
    by true s false l false m ih =
        let e = eqb-true p.instance q.instance s in
        rw (below_none p.instance (q.instance + 1) qs (omega arith) h.1) (rw (above_all p.instance (q.instance + 1) qs (omega arith) h.1) refl)
    by false s true l true m ih = absurd (let e = ltb-true p.instance q.instance l in let n = ltb-true q.instance p.instance m in omega arith)
    by false s true l false m ih =
        let e = ltb-true p.instance q.instance l in
        rw (below_none p.instance (q.instance + 1) qs (omega arith) h.1) (rw (above_all p.instance (q.instance + 1) qs (omega arith) h.1) refl)
    by false s false l true m ih = ap (λ (rs : List (Proposal Value)). proposal_in q ∷ rs) ih
    by false s false l false m ih =
        absurd (let d = eqb-false p.instance q.instance s in let e = ltb-false p.instance q.instance l in let n = ltb-false q.instance p.instance m in omega (arith, d))

-- proposals rise that are taken one after the other
pub folded_rises : (ps xs : List Kept) → AreRising 0 ps → AreRising 0 (fold with_proposal ps xs)
folded_rises ps [] h = h
folded_rises ps (x ∷ xs) h = folded_rises (with_proposal ps x) xs (rising_with ps x h)

-- instances that rise in the model rise at an acceptor
pub rising_kept : (least : ℕ) (ps : List Kept) → ranges.AreRising least (map proposal_in ps) → AreRising (least + 1) ps
rising_kept least [] h = tt
rising_kept least (p ∷ ps) h = (let first = h.0 in omega arith, rising_kept _ ps h.1)

pub rising_zero : (ps : List Kept) → ranges.AreRising 0 (map proposal_in ps) → AreRising 0 ps
rising_zero ps h = rising_less 0 1 ps (omega arith) (rising_kept 0 ps h)

-- those of an instance and later ones are the same
pub from_kept : (first : ℕ) (ps : List Kept) → map proposal_in (from_instance first ps) ≡ from_on first (map proposal_in ps)
from_kept first [] = refl
from_kept first (p ∷ ps) = by (leb first p.instance) (from_kept first ps)
  where
    by : (t : Bool) → map proposal_in (from_instance first ps) ≡ from_on first (map proposal_in ps)
        → map proposal_in (cond t (p ∷ from_instance first ps) (from_instance first ps)) ≡ cond t (proposal_in p ∷ from_on first (map proposal_in ps)) (from_on first (map proposal_in ps))
    by true ih = ap (λ rs. proposal_in p ∷ rs) ih
    by false ih = ih

-- no proposal for a lower instance is there
last_none : (b : ℕ) {i : ℕ} (least : ℕ) (ps : List Kept) → i < least → AreRising least ps → has_last b i (map proposal_in ps) ≡ false
last_none b least [] l h = refl
last_none b {i} least (p ∷ ps) l h =
    let first = h.0 in
    by (eqb p.ballot b) (eqb p.instance i) (ne_eqb p.instance i (λ e. omega arith)) (last_none b (p.instance + 1) ps (omega arith) h.1)
  where
    by : (t u : Bool) → u ≡ false → has_last b i (map proposal_in ps) ≡ false → cond t (u || has_last b i (map proposal_in ps)) (has_last b i (map proposal_in ps)) ≡ false
    by true true e ih = e
    by true false e ih = ih
    by false u e ih = ih

-- the last acceptance for an instance is at a ballot where that of the acceptor is
pub last_kept : (b i least : ℕ) (ps : List Kept) → AreRising least ps → has_last b i (map proposal_in ps) ≡ is_of_ballot b (proposal_for i ps)
last_kept b i least [] h = refl
last_kept b i least (p ∷ ps) h = by (eqb p.ballot b) refl (eqb p.instance i) refl (last_kept b i (p.instance + 1) ps h.1)
  where
    by : (t : Bool) → eqb p.ballot b ≡ t → (u : Bool) → eqb p.instance i ≡ u → has_last b i (map proposal_in ps) ≡ is_of_ballot b (proposal_for i ps)
        → cond t (u || has_last b i (map proposal_in ps)) (has_last b i (map proposal_in ps)) ≡ is_of_ballot b (cond u (Some p) (proposal_for i ps))
    by true e true f ih = sym e
    by true e false f ih = ih
    by false e true f ih = last_none b (p.instance + 1) ps (let g = eqb-true p.instance i f in omega arith) h.1 ∙ sym e
    by false e false f ih = ih

-- a proposal for a later instance takes the same place among those from an instance on
pub placed_from : {first : ℕ} (p : Proposal Value) (ps : List (Proposal Value)) → first ≤ p.instance → from_on first (placed p ps) ≡ placed p (from_on first ps)
placed_from {first} p [] l = rw (le-leb first p.instance l) refl
placed_from {first} p (q ∷ qs) l = go (eqb p.instance q.instance) refl (ltb p.instance q.instance) refl (leb first q.instance) refl (placed_from p qs l)
  where
    here : leb first p.instance ≡ true
    here = le-leb first p.instance l

    go : (same : Bool) → eqb p.instance q.instance ≡ same → (less : Bool) → ltb p.instance q.instance ≡ less → (late : Bool) → leb first q.instance ≡ late → from_on first (placed p qs) ≡ placed p (from_on first qs)
        → from_on first (cond same (p ∷ qs) (cond less (p ∷ q ∷ qs) (q ∷ placed p qs))) ≡ placed p (cond late (q ∷ from_on first qs) (from_on first qs))
    go true s less m true n ih = rw (here, s) refl
    go true s less m false n ih = absurd (let e = eqb-true p.instance q.instance s in let f = leb-false first q.instance n in omega arith)
    go false s true m true n ih = rw (here, n, s, m) refl
    go false s true m false n ih = absurd (let e = ltb-true p.instance q.instance m in let f = leb-false first q.instance n in omega arith)
    go false s false m true n ih = rw (n, s, m) (ap (λ rs. q ∷ rs) ih)
    go false s false m false n ih = rw n ih
