-- What commands read, where the records of their runs are kept, and how many workers replay.
use Rattle.std.specs.Prelude.{ℕ, Bool, true, false, Option, Some, None}
use Rattle.rex_command.specs.declared.commands.Command.{Command}
use Rattle.rex_command.specs.declared.commands.Command.TheVariants.{Run, Trace, Check, Generate, Soak}

-- the command reads an input
abbrev pub reads_input : Command → Bool
reads_input (Run workers journal) = true
reads_input Trace = true
reads_input Check = true
reads_input (Generate seed size) = false
reads_input (Soak seed size workers) = false

-- the nodes of the command's run keep their records in journals
abbrev pub keeps_journals : Command → Bool
keeps_journals (Run workers journal) = journal
keeps_journals Trace = false
keeps_journals Check = false
keeps_journals (Generate seed size) = false
keeps_journals (Soak seed size workers) = false

-- so many workers replay in the command's run
abbrev pub workers_of : Command → ℕ
workers_of (Run workers journal) = workers
workers_of Trace = 1
workers_of Check = 1
workers_of (Generate seed size) = 1
workers_of (Soak seed size workers) = workers

-- the same of words that may be no command line, for which nothing is read or run
abbrev pub reads : Option Command → Bool
reads None = false
reads (Some command) = reads_input command

abbrev pub keeps_journals_for : Option Command → Bool
keeps_journals_for None = false
keeps_journals_for (Some command) = keeps_journals command

abbrev pub workers_for : Option Command → ℕ
workers_for None = 1
workers_for (Some command) = workers_of command
