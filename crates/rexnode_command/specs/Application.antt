-- The program's `clap` command: its arguments.
use Rattle.std.specs.Prelude.{[], ◌∷◌, Some, codes, true}
use Rattle.clap.specs.Words.{App, Rule, Text, new_app, new_rule, with_rule}
use Rattle.clap.specs.declared.builder.ArgAction.TheVariants.{Set}
use Rattle.clap.specs.declared.builder.ValueParser.TheVariants.{Unsigned}
use Rattle.rex_ballot.specs.declared.ballots.TheConstants.{NODES}
use Rattle.rex_command.specs.Application.{number_rule}

-- a required text, by its place
abbrev pub text_rule : Text → Rule
text_rule id = record (new_rule id) { action = Some Set; required = true }

-- `--seed N`, of 32 bits, by default 0
abbrev pub seed_rule : Rule
seed_rule = record (new_rule (codes "seed")) { long = Some (codes "seed"); action = Some Set; parser = Some (Unsigned 0 4294967295); defaults = codes "0" ∷ [] }

-- `--cluster NAME`, by default the empty name
abbrev pub cluster_rule : Rule
cluster_rule = record (new_rule (codes "cluster")) { long = Some (codes "cluster"); action = Some Set; defaults = [] ∷ [] }

-- no help and no version
abbrev pub without_help : App → App
without_help a = record a { top = record a.top { disable_help_flag = true; disable_version_flag = true } }

-- the command without its arguments
abbrev pub bare_app : App
bare_app = without_help (new_app (codes "rexnode"))

-- `ID NODES SERVICE JOURNAL`
abbrev pub placed_app : App
placed_app = with_rule (with_rule (with_rule (with_rule bare_app
    (number_rule (codes "id") 1 NODES)) (number_rule (codes "nodes") 1 NODES)) (text_rule (codes "service"))) (text_rule (codes "journal"))

-- the whole command
abbrev pub node_app : App
node_app = with_rule (with_rule placed_app seed_rule) cluster_rule
