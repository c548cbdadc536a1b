-- Majorities of the nodes 1 to n, and what they choose.
use Rattle.std.specs.Prelude.{◌≡◌, ◌==◌, ℕ, zero, suc, ◌+◌, ◌-◌, ◌*◌, ◌/◌, ◌%◌, ◌<◌, ◌≤◌, ◌||◌, Bool, true, false, nat_lt, List, [], ◌∷◌, if◌then◌else◌}
use Rattle.rex_cluster.specs.Records.{Rec, HasAccepted, HasKnown}
use Rattle.rex_ballot.specs.declared.ballots.TheConstants.{ROUND_BALLOTS}

-- a node's number
abbrev pub IsNode : ℕ → ℕ → Type 0
IsNode n m = (0 < m) × (m ≤ n)

-- how many of the nodes 1 to n pass a test
abbrev pub count : (ℕ → Bool) → ℕ → ℕ
count p zero = 0
count p (suc k) = if p (suc k) then suc (count p k) else count p k

-- more than half of the nodes 1 to n, each with P
pub record Quorum (n : ℕ) (P : ℕ → Type 0) : Type 0 where
  pub who : ℕ → Bool
  pub big : n < 2 * count who n
  pub each : (m : ℕ) → IsNode n m → who m ≡ true → P m

-- the number is in the list
abbrev pub is_in : ℕ → List ℕ → Bool
is_in q [] = false
is_in q (x ∷ xs) = q == x || is_in q xs

-- the nodes of the list are more than half
abbrev pub is_majority : ℕ → List ℕ → Bool
is_majority n nodes = nat_lt n (2 * count (λ q. is_in q nodes) n)

-- ---- ballots: so many times a round from 1 on, and the node's number

abbrev pub node_of : ℕ → ℕ
node_of ballot = ballot % ROUND_BALLOTS

abbrev pub round_of : ℕ → ℕ
round_of ballot = ballot / ROUND_BALLOTS

-- the least ballot of a node above a promise
abbrev pub ballot_above : ℕ → ℕ → ℕ
ballot_above node promised = if nat_lt promised (ROUND_BALLOTS + node) then ROUND_BALLOTS + node else (promised - node) / ROUND_BALLOTS * ROUND_BALLOTS + ROUND_BALLOTS + node

-- ---- chosen values

-- for each node its records
abbrev pub Logs : Type 0 → Type 0 → Type 0
Logs V S = ℕ → List (Rec V S)

-- a majority accepted the value for the instance at the ballot
abbrev pub ChosenAt : {V S : Type 0} → ℕ → Logs V S → ℕ → ℕ → V → Type 0
ChosenAt n L b i v = Quorum n (λ m. HasAccepted b i v (L m))

-- the value is chosen for the instance
pub record Chosen {V S : Type 0} (n : ℕ) (L : Logs V S) (i : ℕ) (v : V) : Type 0 where
  pub ballot : ℕ
  pub quorum : ChosenAt n L ballot i v

-- it is chosen at a ballot that is at most b
pub record ChosenBy {V S : Type 0} (n : ℕ) (L : Logs V S) (b i : ℕ) (v : V) : Type 0 where
  pub ballot : ℕ
  pub most : ballot ≤ b
  pub quorum : ChosenAt n L ballot i v

-- the values are chosen, for the instances from k on
abbrev pub AllChosen : {V S : Type 0} → ℕ → Logs V S → ℕ → List V → Type 0
AllChosen n L k [] = Unit {0}
AllChosen n L k (v ∷ vs) = Chosen n L k v × AllChosen n L (suc k) vs

abbrev pub AllChosenBy : {V S : Type 0} → ℕ → Logs V S → ℕ → ℕ → List V → Type 0
AllChosenBy n L b k [] = Unit {0}
AllChosenBy n L b k (v ∷ vs) = ChosenBy n L b k v × AllChosenBy n L b (suc k) vs

-- ---- given values

-- a node has a record that gives the instance this value
pub record Given {V S : Type 0} (n : ℕ) (L : Logs V S) (i : ℕ) (v : V) : Type 0 where
  pub node : ℕ
  pub node-in : IsNode n node
  pub has : HasKnown i v (L node)

-- the values are given to the instances from k on
abbrev pub AllGiven : {V S : Type 0} → ℕ → Logs V S → ℕ → List V → Type 0
AllGiven n L k [] = Unit {0}
AllGiven n L k (v ∷ vs) = Given n L k v × AllGiven n L (suc k) vs
