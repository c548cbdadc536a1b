-- The program's `clap` command: its subcommands with their arguments.
use Rattle.std.specs.Prelude.{ℕ, [], ◌∷◌, Some, codes, true}
use Rattle.clap.specs.Words.{App, Rule, Text, new_app, new_rule, with_rule, with_subcommand}
use Rattle.clap.specs.Simple.{new_shape}
use Rattle.clap.specs.declared.builder.ArgAction.TheVariants.{Set, SetTrue}
use Rattle.clap.specs.declared.builder.ValueParser.TheVariants.{Unsigned}
use Rattle.rex_threads.specs.declared.parallelism.TheConstants.{WORKERS}

-- a required number, by its place
abbrev pub number_rule : Text → ℕ → ℕ → Rule
number_rule id low high = record (new_rule id) { action = Some Set; parser = Some (Unsigned low high); required = true }

-- `--workers W`, from 1 to the most, by default 1
abbrev pub workers_rule : Rule
workers_rule = record (new_rule (codes "workers")) { long = Some (codes "workers"); action = Some Set; parser = Some (Unsigned 1 WORKERS); defaults = codes "1" ∷ [] }

-- `--journal`
abbrev pub journal_rule : Rule
journal_rule = record (new_rule (codes "journal")) { long = Some (codes "journal"); action = Some SetTrue }

-- `run [--workers W] [--journal]`
abbrev pub run_app : App
run_app = with_rule (with_rule (new_app (codes "run")) workers_rule) journal_rule

-- a name, then a scenario's seed and size
abbrev pub scenario_app : Text → App
scenario_app name = with_rule (with_rule (new_app name) (number_rule (codes "seed") 0 4294967295)) (number_rule (codes "size") 1 1000)

-- `soak N SIZE [--workers W]`
abbrev pub soak_app : App
soak_app = with_rule (scenario_app (codes "soak")) workers_rule

-- no help and no version, and a subcommand has to follow
abbrev pub without_help : App → App
without_help a = record a { top = record a.top { disable_help_flag = true; disable_help_subcommand = true; disable_version_flag = true; subcommand_required = true } }

-- the command above the others
abbrev pub top_app : App
top_app = without_help (new_app (codes "rex"))

-- the whole command
abbrev pub rex_app : App
rex_app = with_subcommand (with_subcommand (with_subcommand (with_subcommand (with_subcommand top_app
    run_app.top) (new_shape (codes "trace"))) (new_shape (codes "check"))) (scenario_app (codes "gen")).top) soak_app.top
