-- Proposals above an instance, where more are forgotten and where one more is accepted.
use Rattle.std.proofs.Common.{◌≡◌, ℕ, ◌≤◌, Bool, true, false, cond, ltb, List, [], ◌∷◌, ◌++◌, refl, sym, ap, ◌∙◌, arith}
use Rattle.std.proofs.lemmas.Bool.{ltb-true, ltb-false}
use Rattle.std.proofs.lemmas.List.Elements.{filter-append}
use Rattle.std.specs.Prelude.{nat_lt}
use Rattle.rex_ballot.specs.declared.proposal.Proposal.{Proposal}
use Rattle.rex_ballot.specs.Proposals.{AreRising, above, below, with_proposal}
use Rattle.rex_ballot.proofs.Lists.{rising_filter, rising_with}
use Rattle.rex_durable.specs.Recovery.{accepting}

-- those above a later instance
pub above_above : (o k : ℕ) (ps : List Proposal) → o ≤ k → above k (above o ps) ≡ above k ps
above_above o k [] l = refl
above_above o k (p ∷ ps) l = go (ltb o p.instance) refl (ltb k p.instance) refl (above_above o k ps l)
  where
    go : (t : Bool) → ltb o p.instance ≡ t → (u : Bool) → ltb k p.instance ≡ u → above k (above o ps) ≡ above k ps → above k (cond t (p ∷ above o ps) (above o ps)) ≡ cond u (p ∷ above k ps) (above k ps)
    go true a true b ih = rw b (ap (λ (qs : List Proposal). p ∷ qs) ih)
    go true a false b ih = rw b ih
    go false a true b ih = let x = ltb-false o p.instance a in let y = ltb-true k p.instance b in absurd (omega arith)
    go false a false b ih = ih

-- all of those above an instance are above an earlier one
above_all : (o i : ℕ) (ps : List Proposal) → o ≤ i → above o (above i ps) ≡ above i ps
above_all o i [] l = refl
above_all o i (p ∷ ps) l = go (ltb i p.instance) refl (ltb o p.instance) refl (above_all o i ps l)
  where
    go : (t : Bool) → ltb i p.instance ≡ t → (u : Bool) → ltb o p.instance ≡ u → above o (above i ps) ≡ above i ps → above o (cond t (p ∷ above i ps) (above i ps)) ≡ cond t (p ∷ above i ps) (above i ps)
    go true a true b ih = rw b (ap (λ (qs : List Proposal). p ∷ qs) ih)
    go true a false b ih = let x = ltb-true i p.instance a in let y = ltb-false o p.instance b in absurd (omega arith)
    go false a u b ih = ih

-- those below an instance, which are above another one
between : (o i : ℕ) (ps : List Proposal) → above o (below i ps) ≡ below i (above o ps)
between o i [] = refl
between o i (p ∷ ps) = go (ltb p.instance i) refl (ltb o p.instance) refl (between o i ps)
  where
    go : (t : Bool) → ltb p.instance i ≡ t → (u : Bool) → ltb o p.instance ≡ u → above o (below i ps) ≡ below i (above o ps) → above o (cond t (p ∷ below i ps) (below i ps)) ≡ below i (cond u (p ∷ above o ps) (above o ps))
    go true a true b ih = rw (b, a) (ap (λ (qs : List Proposal). p ∷ qs) ih)
    go true a false b ih = rw b ih
    go false a true b ih = rw a ih
    go false a false b ih = ih

-- none of those below an instance is above a later one
none_between : (o i : ℕ) (ps : List Proposal) → i ≤ o → above o (below i ps) ≡ []
none_between o i [] l = refl
none_between o i (p ∷ ps) l = go (ltb p.instance i) refl (ltb o p.instance) refl (none_between o i ps l)
  where
    go : (t : Bool) → ltb p.instance i ≡ t → (u : Bool) → ltb o p.instance ≡ u → above o (below i ps) ≡ [] → above o (cond t (p ∷ below i ps) (below i ps)) ≡ []
    go true a true b ih = let x = ltb-true p.instance i a in let y = ltb-true o p.instance b in absurd (omega arith)
    go true a false b ih = rw b ih
    go false a u b ih = ih

-- one more that is accepted counts where its instance is above
pub above_with : (o : ℕ) (ps : List Proposal) (p : Proposal) → above o (with_proposal ps p) ≡ accepting o (above o ps) p
above_with o ps p = filter-append (λ (q : Proposal). nat_lt o q.instance) (below p.instance ps) (p ∷ above p.instance ps) ∙ go (ltb o p.instance) refl
  where
    both : {xs ys us vs : List Proposal} → xs ≡ ys → us ≡ vs → xs ++ us ≡ ys ++ vs
    both e f = cc

    go : (t : Bool) → ltb o p.instance ≡ t → above o (below p.instance ps) ++ above o (p ∷ above p.instance ps) ≡ cond t (with_proposal (above o ps) p) (above o ps)
    go true a =
        let l = ltb-true o p.instance a in
        rw a (both (between o p.instance ps) (ap (λ (qs : List Proposal). p ∷ qs) (above_all o p.instance ps (omega arith) ∙ sym (above_above o p.instance ps (omega arith)))))
    go false a =
        let l = ltb-false o p.instance a in
        rw a (both (none_between o p.instance ps l) (above_above p.instance o ps l))

-- ---- order

pub accepting_rises : (o : ℕ) (ps : List Proposal) (p : Proposal) → AreRising 0 ps → AreRising 0 (accepting o ps p)
accepting_rises o ps p h = go (ltb o p.instance)
  where
    go : (t : Bool) → AreRising 0 (cond t (with_proposal ps p) ps)
    go true = rising_with ps p h
    go false = h

pub above_rises : (o : ℕ) (ps : List Proposal) → AreRising 0 ps → AreRising 0 (above o ps)
above_rises o ps h = rising_filter (λ (q : Proposal). nat_lt o q.instance) 0 ps h
