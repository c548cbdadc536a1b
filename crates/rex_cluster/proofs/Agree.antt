-- What is accepted at the ballot of a choice or above it has the chosen value.
use Rattle.std.proofs.Common.{◌≡◌, ℕ, zero, suc, ◌<◌, ◌≤◌, true, ◌⊎◌, sym, subst, inl, inr, arith}
use Rattle.std.proofs.lemmas.Bool.{cases_lt}
use Rattle.rex_cluster.specs.Records.{promise, HasAccepted}
use Rattle.rex_cluster.specs.Quorum.{IsNode, Logs, ChosenAt, Chosen, node_of}
use Rattle.rex_cluster.specs.Node.{Service}
use Rattle.rex_cluster.specs.Invariant.{NoneBelow, IsGreatest, IsSafeAt, AreSafe}
use Rattle.rex_cluster.proofs.Quorums.{overlap}

module _ {V S : Type 0} where
  abbrev AgreeBelow : ℕ → Logs V S → ℕ → Type 0
  AgreeBelow n L fuel = (b c i : ℕ) (v w : V) → b < fuel → c ≤ b → IsNode n (node_of b) → HasAccepted b i v (L (node_of b)) → ChosenAt n L c i w → v ≡ w

  module _ (n : ℕ) (sv : Service V S) (L : Logs V S) (s : AreSafe n sv L) where
    -- a chosen value has its record at the ballot's node
    pub owned : (b i : ℕ) (v : V) → ChosenAt n L b i v → (IsNode n (node_of b)) × HasAccepted b i v (L (node_of b))
    owned b i v c =
        let P = λ (m : ℕ). HasAccepted b i v (L m) in
        let r = overlap n P P c c in
        s.own r.0 b i v r.1 (c.each r.0 r.1 r.2)

    -- what is accepted at the ballot of a choice, or above it, has the chosen value
    agree_below : (fuel : ℕ) → AgreeBelow n L fuel
    agree_below zero b c i v w f l o h q = absurd (omega arith)
    agree_below (suc fuel) b c i v w f l o h q = go (cases_lt c b) (agree_below fuel)
      where
        pick : (p : IsSafeAt n L b i v) → (m : ℕ) → IsNode n m → p.quorum.who m ≡ true → HasAccepted c i w (L m) → c < b → AgreeBelow n L fuel → NoneBelow n L b i p.quorum.who ⊎ IsGreatest n L b i v p.quorum.who → v ≡ w
        pick p m l' e a lt ih (inl none) = absurd (none m l' e c w lt a)
        pick p m l' e a lt ih (inr g) =
            let o = s.own g.node g.ballot i v g.node-in g.has in
            let below : g.ballot < b = g.below in
            ih g.ballot c i v w (omega arith) (g.most m l' e c w lt a) o.0 o.1 q

        go : (c < b) ⊎ (b ≤ c) → AgreeBelow n L fuel → v ≡ w
        go (inl lt) ih =
            let p = s.safe_at b i v o h in
            let r = overlap n (λ m. b ≤ promise (L m)) (λ m. HasAccepted c i w (L m)) p.quorum q in
            pick p r.0 r.1 r.2 (q.each r.0 r.1 r.3) lt ih p.pick
        go (inr ge) ih =
            let e : c ≡ b = omega arith in
            let t = owned c i w q in
            s.one b i v w h (subst (λ x. HasAccepted x i w (L (node_of x))) e t.1)

  agree_le : (n : ℕ) (sv : Service V S) (L : Logs V S) → AreSafe n sv L → (i : ℕ) (v w : V) → (x : Chosen n L i v) (y : Chosen n L i w) → y.ballot ≤ x.ballot → v ≡ w
  agree_le n sv L s i v w x y l =
      let t = owned n sv L s x.ballot i v x.quorum in
      agree_below n sv L s (suc x.ballot) x.ballot y.ballot i v w (omega arith) l t.0 t.1 y.quorum

  -- two chosen values of one instance are equal
  pub agreement : (n : ℕ) (sv : Service V S) (L : Logs V S) → AreSafe n sv L → (i : ℕ) (v w : V) → Chosen n L i v → Chosen n L i w → v ≡ w
  agreement n sv L s i v w x y = go (cases_lt x.ballot y.ballot)
    where
      go : (x.ballot < y.ballot) ⊎ (y.ballot ≤ x.ballot) → v ≡ w
      go (inl l) = sym (agree_le n sv L s i w v y x (omega arith))
      go (inr l) = agree_le n sv L s i v w x y l
