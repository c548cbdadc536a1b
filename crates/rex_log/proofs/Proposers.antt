-- What a proposer counts, adopts and takes for its ballot is what the model does.
use Rattle.std.proofs.Common.{◌≡◌, ℕ, zero, suc, ◌+◌, ◌-◌, ◌*◌, ◌<◌, ◌≤◌, Bool, true, false, cond, ◌||◌, eqb, leb, ltb, List, [], ◌∷◌, ◌++◌, length, Option, Some, None, refl, sym, ap, ◌∙◌, arith, ltb-true, not, ◌/◌, eqb-true, lt-ltb, eq-eqb}
use Rattle.std.specs.Prelude.{map, nat_lt, nat_le, option_map}
use Rattle.std.specs.List.{All, AllByRecursion}
use Rattle.std.proofs.lemmas.List.{map-append}
use Rattle.std.proofs.lemmas.Option.{same_Some}
use Rattle.std.proofs.lemmas.Bool.{eqb-false, ne_eqb, le-ltb, le-leb, lt-leb, leb-true, leb-false}
use Rattle.std.proofs.lemmas.List.Elements.{All-head, All-tail}
use Rattle.rex_ballot.specs.declared.proposal.Proposal.{Proposal as Kept}
use Rattle.rex_paxos.specs.Counting.{IsOneOf, AreCounted, is_counted}
use Rattle.rex_paxos.specs.Reports.{IsBest, best_for, HasNone}
use Rattle.rex_cluster.specs.Records.{Proposal}
use Rattle.rex_cluster.specs.Quorum.{is_in, is_majority, ballot_above, round_of, count}
use Rattle.rex_cluster.specs.Calls.{best, better}
use Rattle.rex_cluster.specs.Values.{Value}
use Rattle.rex_log.specs.Log.{proposal_in}
use Rattle.std.specs.Option.{MatchOption}
use Rattle.std.proofs.lemmas.Map.Keys.{IsDistinct-head, IsDistinct-tail}
use Rattle.rex_paxos.proofs.Reports.{best_reports}
use Rattle.rex_ballot.specs.Ballot as ballots
use Rattle.rex_paxos.specs.Counting as counting

-- ---- counting

pub same_test : (a b : ℕ) → eqb a b ≡ eqb b a
same_test a b = go (eqb b a) refl
  where
    go : (t : Bool) → eqb b a ≡ t → eqb a b ≡ t
    go true e = eq-eqb a b (sym (eqb-true b a e))
    go false e = ne_eqb a b (λ s. eqb-false b a e (sym s))

-- a node is in a list just where it was counted
pub in_counted : (q : ℕ) (nodes : List ℕ) → is_in q nodes ≡ is_counted q nodes
in_counted q [] = refl
in_counted q (x ∷ xs) = ap (λ t. t || is_in q xs) (same_test q x) ∙ ap (λ t. eqb x q || t) (in_counted q xs)

-- past the last node nothing changes
count_past : (p : ℕ → Bool) {x : ℕ} (n : ℕ) → n < x → count (λ q. eqb q x || p q) n ≡ count p n
count_past p zero l = refl
count_past p {x} (suc k) l =
    ap (λ t. cond (t || p (suc k)) (suc (count (λ q. eqb q x || p q) k)) (count (λ q. eqb q x || p q) k)) (ne_eqb (suc k) x (λ e. omega arith))
    ∙ ap (λ c. cond (p (suc k)) (suc c) c) (count_past p k (omega arith))

count_more : (p : ℕ → Bool) {x : ℕ} (n : ℕ) → 1 ≤ x → x ≤ n → p x ≡ false → count (λ q. eqb q x || p q) n ≡ suc (count p n)
count_more p zero l m new = absurd (omega arith)
count_more p {x} (suc k) l m new = go (eqb (suc k) x) refl (count_more p k l)
  where
    last : (c d : ℕ) (t : Bool) → t ≡ false → c ≡ d → suc c ≡ suc (cond t (suc d) d)
    last c d t e s = ap suc s ∙ ap (λ u. suc (cond u (suc d) d)) (sym e)

    other : (c d : ℕ) (t : Bool) → c ≡ suc d → cond t (suc c) c ≡ suc (cond t (suc d) d)
    other c d true s = ap suc s
    other c d false s = s

    go : (t : Bool) → eqb (suc k) x ≡ t → (x ≤ k → p x ≡ false → count (λ q. eqb q x || p q) k ≡ suc (count p k)) → cond (t || p (suc k)) (suc (count (λ q. eqb q x || p q) k)) (count (λ q. eqb q x || p q) k) ≡ suc (cond (p (suc k)) (suc (count p k)) (count p k))
    go true e ih =
        let same : suc k ≡ x = eqb-true (suc k) x e in
        last (count (λ q. eqb q x || p q) k) (count p k) (p (suc k)) (ap p same ∙ new) (count_past p k (omega arith))
    go false e ih =
        let apart = eqb-false (suc k) x e in
        other (count (λ q. eqb q x || p q) k) (count p k) (p (suc k)) (ih (omega (arith, apart)) new)

count_of : {nodes : ℕ} (xs : List ℕ) → AreCounted nodes xs → count (λ q. is_in q xs) nodes ≡ length xs
count_of {nodes} [] h = none nodes
  where
    none : (n : ℕ) → count (λ q. false) n ≡ 0
    none zero = refl
    none (suc k) = none k
count_of {nodes} (x ∷ xs) h =
    let one : IsOneOf nodes x = All-head (IsOneOf nodes) x xs h.there in
    count_more (λ q. is_in q xs) nodes one.first one.last (fresh xs (IsDistinct-head eqb x xs h.distinct))
    ∙ ap suc (count_of xs (record { distinct = IsDistinct-tail eqb x xs h.distinct; there = All-tail (IsOneOf nodes) x xs h.there }))
  where
    fresh : (ys : List ℕ) → AllByRecursion (λ y. eqb x y ≡ false) ys → is_in x ys ≡ false
    fresh [] d = refl
    fresh (y ∷ ys) d = ap (λ t. t || is_in x ys) d.0 ∙ fresh ys d.1

-- the model's majority is the proposer's
pub majority_is : {nodes : ℕ} {xs : List ℕ} → AreCounted nodes xs → is_majority nodes xs ≡ counting.is_majority nodes (length xs)
majority_is {nodes} {xs} h = ap (λ c. nat_lt nodes (2 * c)) (count_of xs h)

-- ---- proposals

-- none of them is for the instance
none_best : {i : ℕ} (ps : List Kept) → HasNone i ps → best i (map proposal_in ps) ≡ None
none_best [] h = refl
none_best {i} (p ∷ ps) h =
    ap (λ t. cond t (better (proposal_in p) (best i (map proposal_in ps))) (best i (map proposal_in ps))) (ne_eqb p.instance i (All-head (λ q. q.instance ≡ i → ⊥) p ps h))
    ∙ none_best ps (All-tail (λ q. q.instance ≡ i → ⊥) p ps h)

-- one is at least as good as those after it
best_first : {i : ℕ} {b : Kept} (ps : List Kept) → All (λ (p : Kept). p.instance ≡ i → p.ballot ≤ b.ballot) ps → better (proposal_in b) (best i (map proposal_in ps)) ≡ Some (proposal_in b)
best_first [] h = refl
best_first {i} {b} (p ∷ ps) h =
    go (eqb p.instance i) refl (best i (map proposal_in ps)) (best_first ps (All-tail (λ q. q.instance ≡ i → q.ballot ≤ b.ballot) p ps h))
  where
    least : p.instance ≡ i → p.ballot ≤ b.ballot
    least = All-head (λ q. q.instance ≡ i → q.ballot ≤ b.ballot) p ps h

    taken : (u : Bool) (q : Proposal Value) → p.ballot ≤ b.ballot → better (proposal_in b) (Some q) ≡ Some (proposal_in b) → better (proposal_in b) (cond u (Some (proposal_in p)) (Some q)) ≡ Some (proposal_in b)
    taken true q l e = ap (λ t. cond t (Some (proposal_in b)) (Some (proposal_in p))) (le-leb p.ballot b.ballot l)
    taken false q l e = e

    go : (t : Bool) → eqb p.instance i ≡ t → (o : Option (Proposal Value)) → better (proposal_in b) o ≡ Some (proposal_in b) → better (proposal_in b) (cond t (better (proposal_in p) o) o) ≡ Some (proposal_in b)
    go false e o k = k
    go true e None k = ap (λ t. cond t (Some (proposal_in b)) (Some (proposal_in p))) (le-leb p.ballot b.ballot (least (eqb-true p.instance i e)))
    go true e (Some q) k = taken (leb q.ballot p.ballot) q (least (eqb-true p.instance i e)) k

-- and better than those before it
best_after : {i : ℕ} {b : Kept} (before : List Kept) (rest : List (Proposal Value)) → All (λ (p : Kept). p.instance ≡ i → p.ballot < b.ballot) before → best i rest ≡ Some (proposal_in b) → best i (map proposal_in before ++ rest) ≡ Some (proposal_in b)
best_after [] rest h e = e
best_after {i} {b} (p ∷ ps) rest h e =
    go (eqb p.instance i) refl (best i (map proposal_in ps ++ rest)) (best_after ps rest (All-tail (λ q. q.instance ≡ i → q.ballot < b.ballot) p ps h) e)
  where
    less : p.instance ≡ i → p.ballot < b.ballot
    less = All-head (λ q. q.instance ≡ i → q.ballot < b.ballot) p ps h

    go : (t : Bool) → eqb p.instance i ≡ t → (o : Option (Proposal Value)) → o ≡ Some (proposal_in b) → cond t (better (proposal_in p) o) o ≡ Some (proposal_in b)
    go false x o k = k
    go true x o k = ap (better (proposal_in p)) k ∙ ap (λ t. cond t (Some (proposal_in p)) (Some (proposal_in b))) (lt-leb b.ballot p.ballot (less (eqb-true p.instance i x)))

-- the model's best report is the proposer's
pub best_is : (i : ℕ) (ps : List Kept) → best i (map proposal_in ps) ≡ option_map proposal_in (best_for i ps)
best_is i ps = by (best_for i ps) (best_reports.is i ps)
  where
    found : (b : Kept) → IsBest i ps b → best i (map proposal_in ps) ≡ Some (proposal_in b)
    found b h =
        ap (λ qs. best i (map proposal_in qs)) h.stands ∙ ap (best i) (map-append proposal_in h.before (b ∷ h.after))
        ∙ best_after h.before _ h.first
        (ap (λ t. cond t (better (proposal_in b) (best i (map proposal_in h.after))) (best i (map proposal_in h.after))) (eq-eqb b.instance i h.about) ∙ best_first h.after h.greatest)

    by : (o : Option Kept) → MatchOption o (HasNone i ps) (IsBest i ps) → best i (map proposal_in ps) ≡ option_map proposal_in o
    by None h = none_best ps h
    by (Some b) h = found b h

-- ---- ballots

above_is : {node : ℕ} (promised : ℕ) → node < 16 → ballot_above node promised ≡ ballots.ballot_above node promised
above_is {node} promised few = go (ltb promised (16 + node)) refl
  where
    go : (t : Bool) → ltb promised (16 + node) ≡ t → cond t (16 + node) ((promised - node) / 16 * 16 + 16 + node) ≡ 16 * ((promised - node) / 16 + 1) + node
    go true e = let l = ltb-true promised (16 + node) e in let none : (promised - node) / 16 ≡ 0 = omega arith in omega arith
    go false e = omega arith

round_is : {node : ℕ} (promised : ℕ) → node < 16 → round_of (ballots.ballot_above node promised) ≡ ballots.round_above node promised
round_is promised few = omega arith

module _ {node : ℕ} (promised : ℕ) (few : node < 16) where
  cases : {t : Bool} → nat_le (ballots.round_above node promised) 4294967296 ≡ t → nat_lt 4294967296 (round_of (ballot_above node promised)) ≡ not t
  cases {t} e = ap (λ b. nat_lt 4294967296 (round_of b)) (above_is promised few) ∙ ap (nat_lt 4294967296) (round_is promised few) ∙ go t e
    where
      go : (t : Bool) → nat_le (ballots.round_above node promised) 4294967296 ≡ t → nat_lt 4294967296 (ballots.round_above node promised) ≡ not t
      go true e = le-ltb 4294967296 (ballots.round_above node promised) (leb-true (ballots.round_above node promised) 4294967296 e)
      go false e = lt-ltb 4294967296 (ballots.round_above node promised) (leb-false (ballots.round_above node promised) 4294967296 e)

  -- the ballot that is left is the model's, which has a round that there can be
  pub left_is : {b : ℕ} → ballots.ballot_left node promised ≡ Some b → (b ≡ ballot_above node promised) × (nat_lt 4294967296 (round_of (ballot_above node promised)) ≡ false)
  left_is {b} = go (nat_le (ballots.round_above node promised) 4294967296) refl
    where
      go : (t : Bool) → nat_le (ballots.round_above node promised) 4294967296 ≡ t → cond t (Some (ballots.ballot_above node promised)) None ≡ Some b → (b ≡ ballot_above node promised) × (nat_lt 4294967296 (round_of (ballot_above node promised)) ≡ false)
      go true e s = (sym (same_Some _ _ s) ∙ sym (above_is promised few), cases e)
      go false e s = absurd (cc)

  -- where none is left its round is past the last
  pub none_left : ballots.ballot_left node promised ≡ None → nat_lt 4294967296 (round_of (ballot_above node promised)) ≡ true
  none_left = go (nat_le (ballots.round_above node promised) 4294967296) refl
    where
      go : (t : Bool) → nat_le (ballots.round_above node promised) 4294967296 ≡ t → cond t (Some (ballots.ballot_above node promised)) None ≡ None → nat_lt 4294967296 (round_of (ballot_above node promised)) ≡ true
      go true e s = absurd (cc)
      go false e s = cases e
