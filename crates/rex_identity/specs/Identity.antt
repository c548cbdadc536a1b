-- Whose a journal is, and the bytes of the record that says so.
use Rattle.std.specs.Prelude.{◌≤◌, ◌<◌, ◌≡◌, ◌^◌, ◌++◌, ◌∷◌, [], ℕ, List, length}
use Rattle.std.specs.Int.{w32, to_be_bytes}
use Rattle.rex_identity.specs.declared.identity.TheConstants.{IDENTITY_KIND, IDENTITY_VERSION, CLUSTER_BYTES}

-- Whose a journal is: the cluster's name; the node's number, and how many nodes there are; the seed of the dice; and the digest of the service's text.
pub record IdentityValue : Type 0 where
  pub cluster : List ℕ
  pub id : ℕ
  pub nodes : ℕ
  pub seed : ℕ
  pub service : List ℕ

-- The node is one of so many; the seed has 32 bits, the digest 32 bytes, and the name at most 255.
pub record IsIdentity (i : IdentityValue) : Type 0 where
  pub first : 1 ≤ i.id
  pub last : i.id ≤ i.nodes
  pub seeded : i.seed < 2 ^ 32
  pub digested : length i.service ≡ 32
  pub named : length i.cluster ≤ CLUSTER_BYTES

-- The bytes of its record: kind, version, the two numbers of nodes, the seed, the digest, and the name behind its length.
abbrev pub identity_bytes : IdentityValue → List ℕ
identity_bytes i =
    IDENTITY_KIND ∷ IDENTITY_VERSION ∷ i.id ∷ i.nodes ∷ [] ++ to_be_bytes w32 i.seed ++ i.service ++ length i.cluster ∷ [] ++ i.cluster
