-- What a command line may ask for.
use Rattle.std.specs.Prelude.{ℕ, Bool, ◌&&◌, nat_le, length, Option, Some, None, option_map, if◌then◌else◌}
use Rattle.std.specs.Borrow.{Bor}
use Rattle.std.specs.Prelude.{List}
use Rattle.clap.specs.Words.{Text}
use Rattle.rex_schedule.specs.Counts.{is_node_count}
use Rattle.rex_identity.specs.declared.identity.TheConstants.{CLUSTER_BYTES}

-- a node to run: its number, and how many nodes there are; the paths of the service's text and of the journal; the seed of the dice; and the cluster's name
pub record CommandValue : Type 0 where
  pub id : ℕ
  pub nodes : ℕ
  pub service : Text
  pub journal : Text
  pub seed : ℕ
  pub cluster : Text

-- the node is one of so many, there may be so many, and the name is short
abbrev pub is_fitting : CommandValue → Bool
is_fitting c = nat_le c.id c.nodes && is_node_count c.nodes && nat_le (length c.cluster) CLUSTER_BYTES

-- what fits
abbrev pub fitting : CommandValue → Option CommandValue
fitting c = if is_fitting c then Some c else None

-- the text to which a reference leads
abbrev pub text_at : Option (Bor (List ℕ)) → Option Text
text_at = option_map (λ t. t.now)
