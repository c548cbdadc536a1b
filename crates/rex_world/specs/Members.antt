-- The nodes of a world, up or down, as the cluster's model has them.
use Rattle.std.specs.Prelude.{◌≡◌, ◌<◌, ◌≤◌, ◌+◌, ◌-◌, ◌^◌, ℕ, suc, true, false, List, [], ◌∷◌, length, map, replicate, get_or, Option, Some, None}
use Rattle.std.specs.List.{All}
use Rattle.rex_syntax.specs.declared.service.Declarations.{Declarations}
use Rattle.rex_traits.specs.Keeping.{KeeperValue}
use Rattle.rex_traits.specs.Stores.{StoreValue, fresh_store}
use Rattle.rex_traits.specs.declared.mem_keeper.Fate.{Fate}
use Rattle.rex_traits.specs.declared.mem_keeper.Fate.TheVariants.{Kept, Lost}
use Rattle.rex_cluster.specs.Node.{Failure, new_node}
use Rattle.rex_cluster.specs.Node.Failure.{After}
use Rattle.rex_cluster.specs.Invariant.{Begins}
use Rattle.rex_cluster.specs.Lanes.{Here}
use Rattle.rex_cluster.specs.Values.{Value}
use Rattle.rex_log.specs.Log.{AreRead}
use Rattle.rex_node.specs.Parts.{NodeValue, IsNode, here_of}
use Rattle.rex_node.specs.Stated.{AreStated}

-- a node over a keeper that obeys its arming
abbrev pub Member : Type 0
Member = NodeValue KeeperValue

-- the records of a keeper in memory
abbrev pub records_of : KeeperValue → List (List ℕ)
records_of k = k.records

-- the next append of an armed keeper fails, and keeps or loses its record
abbrev pub armed_of : Option Fate → Option Failure
armed_of None = None
armed_of (Some Kept) = Some (After 0 true)
armed_of (Some Lost) = Some (After 0 false)

-- a node is what its parts are, over a keeper that may be armed
abbrev pub here_at : Declarations → List Value → Member → Here
here_at service past x = record (here_of records_of service past x) { armed = armed_of x.keeper.armed }

abbrev pub heres : Declarations → List Value → List Member → List Here
heres service past xs = map (here_at service past) xs

-- the same node over a keeper that isn't armed
abbrev pub disarmed : Here → Here
disarmed x = record x { armed = None }

-- the records of each node, and those of the node of this number
abbrev pub all_records : List Member → List (List (List ℕ))
all_records xs = map (λ (x : Member). records_of x.keeper) xs

abbrev pub records_at : List Member → ℕ → List (List ℕ)
records_at xs number = get_or (all_records xs) (number - 1) []

-- an armed keeper will fail once
abbrev pub failing : Option Fate → ℕ
failing None = 0
failing (Some fate) = 1

-- how often appends of the keeper have failed, and will
abbrev pub faults_of : KeeperValue → ℕ
faults_of k = k.faults + failing k.armed

-- each of the keeper's records is read again, beside the past, and each state in them; and its failures can be counted
pub record IsKeeping (service : Declarations) (past : List Value) (k : KeeperValue) : Type 0 where
  pub read : AreRead service past (records_of k)
  pub stated : AreStated service (records_of k)
  pub room : faults_of k < 2 ^ 64 - 1

-- a node of this number, among so many with this seed, is kept, and its keeper keeps its records, and needn't be reopened while the node is up
pub record IsMember (service : Declarations) (past : List Value) (seed nodes number : ℕ) (x : Member) : Type 0 where
  pub id : x.id ≡ number
  pub nodes_are : x.nodes ≡ nodes
  pub seed_is : x.seed ≡ seed
  pub node : IsNode records_of service past x
  pub keeping : IsKeeping service past x.keeper
  pub whole : x.up ≡ true → x.keeper.broken ≡ false

-- so it is of the nodes from this number on
abbrev pub AreMembers : Declarations → List Value → (seed nodes number : ℕ) → List Member → Type 0
AreMembers service past seed nodes number [] = Unit {0}
AreMembers service past seed nodes number (x ∷ xs) = IsMember service past seed nodes number x × AreMembers service past seed nodes (suc number) xs

-- a member by what it says itself: its number, how many nodes there are, and the seed
abbrev pub IsOwnMember : Declarations → List Value → Member → Type 0
IsOwnMember service past x = IsMember service past x.seed x.nodes x.id x

-- no keeper of these nodes fails more often
abbrev pub AreWithin : ℕ → List Member → Type 0
AreWithin most [] = Unit {0}
AreWithin most (x ∷ xs) = (faults_of x.keeper ≤ most) × AreWithin most xs

-- the nodes are kept, and no keeper of theirs fails more often
pub record AreKept (service : Declarations) (past : List Value) (seed nodes most : ℕ) (xs : List Member) : Type 0 where
  pub members : AreMembers service past seed nodes 1 xs
  pub within : AreWithin most xs

-- so many nodes, the first ones, before the first line: each is the model's new node, and no append of its keeper fails
pub record AreNew (service : Declarations) (seed nodes number : ℕ) (xs : List Member) : Type 0 where
  pub here : heres service [] xs ≡ replicate number new_node
  pub are : AreMembers service [] seed nodes 1 xs
  pub within : AreWithin 0 xs
  pub many : length xs ≡ number

-- a node stays, its keeper won't fail more often than it was to, and has its records and maybe more
pub record StaysMember (service : Declarations) (past : List Value) (seed nodes number : ℕ) (before after : Member) : Type 0 where
  pub member : IsMember service past seed nodes number after
  pub within : faults_of after.keeper ≤ faults_of before.keeper
  pub grown : Begins (records_of before.keeper) (records_of after.keeper)

-- it stays by what it says itself
abbrev pub StaysOwnMember : Declarations → List Value → (before after : Member) → Type 0
StaysOwnMember service past before after = StaysMember service past before.seed before.nodes before.id before after

-- a store of a node that never was: it has no records, no append of it failed, none is to, and it fails only as it is armed
pub record IsFresh {K : Type 0} (value : K → StoreValue) (store : K) : Type 0 where
  pub is : value store ≡ fresh_store

-- so many stores, each of a node that never was
pub record AreFresh {K : Type 0} (value : K → StoreValue) (count : ℕ) (stores : List K) : Type 0 where
  pub many : length stores ≡ count
  pub fresh : All (IsFresh value) stores
