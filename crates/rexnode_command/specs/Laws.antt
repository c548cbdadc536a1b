-- What the simple forms of a command line ask for, and what is none.
use Rattle.std.specs.Prelude.{◌≡◌, ◌≤◌, ◌∷◌, [], ℕ, true, List, length, Some, None, IfSome, codes}
use Rattle.std.specs.Fmt.{decimal}
use Rattle.clap.specs.Words.{Text}
use Rattle.rex_command.specs.Laws.{IsPlain}
use Rattle.rex_schedule.specs.Counts.{is_node_count}
use Rattle.rex_identity.specs.declared.identity.TheConstants.{CLUSTER_BYTES}
use Rattle.rexnode_command.specs.Command.{CommandValue}
use Rattle.rexnode_command.specs.Reading.{command_of}

-- there may be so many nodes, and this is the number of one
pub record IsMember (id nodes : ℕ) : Type 0 where
  pub first : 1 ≤ id
  pub last : id ≤ nodes
  pub counted : is_node_count nodes ≡ true

-- the parts of a command are in their ranges
pub record Fits (c : CommandValue) : Type 0 where
  pub member : IsMember c.id c.nodes
  pub seeded : c.seed ≤ 4294967295
  pub named : length c.cluster ≤ CLUSTER_BYTES

-- a command line asks for what is in its ranges
abbrev pub CommandsFit : Type 0
CommandsFit = (words : List Text) → IfSome (command_of words) Fits

-- the program's name, a node's number and how many nodes there are, and two texts that don't begin with a hyphen
pub record Places : Type 0 where
  pub name : Text
  pub id : ℕ
  pub nodes : ℕ
  pub service : Text
  pub journal : Text
  pub member : IsMember id nodes
  pub plain_service : IsPlain service
  pub plain_journal : IsPlain journal

-- they as words, with the numbers in plain decimal, and then these words
abbrev pub line : Places → List Text → List Text
line p options = p.name ∷ decimal p.id ∷ decimal p.nodes ∷ p.service ∷ p.journal ∷ options

-- what they ask for, with a seed and a name
abbrev pub asked : Places → ℕ → Text → CommandValue
asked p seed cluster = record { id = p.id; nodes = p.nodes; service = p.service; journal = p.journal; seed = seed; cluster = cluster }

-- a name that doesn't begin with a hyphen, and isn't too long
pub record IsName (name : Text) : Type 0 where
  pub plain : IsPlain name
  pub short : length name ≤ CLUSTER_BYTES

-- the places, alone or with a seed in plain decimal, a name, or both behind them
pub record PlainFormsAreTaken : Type 0 where
  pub places : (p : Places) → command_of (line p []) ≡ Some (asked p 0 [])
  pub seeded : (p : Places) (seed : ℕ) → seed ≤ 4294967295 → command_of (line p (codes "--seed" ∷ decimal seed ∷ [])) ≡ Some (asked p seed [])
  pub named : (p : Places) (cluster : Text) → IsName cluster → command_of (line p (codes "--cluster" ∷ cluster ∷ [])) ≡ Some (asked p 0 cluster)
  pub both : (p : Places) (seed : ℕ) (cluster : Text) → seed ≤ 4294967295 → IsName cluster
      → command_of (line p (codes "--seed" ∷ decimal seed ∷ codes "--cluster" ∷ cluster ∷ [])) ≡ Some (asked p seed cluster)

-- words are no command line where fewer than four stand behind the program's name, none of which begins with a hyphen, or where a fifth does
pub record FaultyFormsAreRefused : Type 0 where
  pub no_words : command_of [] ≡ None
  pub no_places : (name : Text) → command_of (name ∷ []) ≡ None
  pub one_place : (name a : Text) → IsPlain a → command_of (name ∷ a ∷ []) ≡ None
  pub two_places : (name a b : Text) → IsPlain a → IsPlain b → command_of (name ∷ a ∷ b ∷ []) ≡ None
  pub three_places : (name a b c : Text) → IsPlain a → IsPlain b → IsPlain c → command_of (name ∷ a ∷ b ∷ c ∷ []) ≡ None
  pub further : (p : Places) (word : Text) → IsPlain word → command_of (line p (word ∷ [])) ≡ None
