-- What the simple forms of a command line ask for, and what is none.
use Rattle.std.specs.Prelude.{◌≡◌, ◌≤◌, ℕ, true, false, List, [], ◌∷◌, ⊤, get_or, Some, None, IfSome, codes}
use Rattle.std.specs.Fmt.{decimal}
use Rattle.clap.specs.Words.{Text}
use Rattle.rex_command.specs.Reading.{command_of}
use Rattle.rex_command.specs.declared.commands.Command.{Command}
use Rattle.rex_command.specs.declared.commands.Command.TheVariants.{Run, Trace, Check, Generate, Soak}
use Rattle.rex_threads.specs.declared.parallelism.TheConstants.{WORKERS}

-- there is a worker, and no more than there may be
abbrev pub AreWorkers : ℕ → Type 0
AreWorkers workers = (1 ≤ workers) × (workers ≤ WORKERS)

-- a scenario of this seed and size can be made up
abbrev pub IsScenario : ℕ → ℕ → Type 0
IsScenario seed size = (seed ≤ 4294967295) × (1 ≤ size) × (size ≤ 1000)

-- the numbers of a command are in their ranges
abbrev pub Fits : Command → Type 0
Fits (Run workers journal) = AreWorkers workers
Fits Trace = ⊤
Fits Check = ⊤
Fits (Generate seed size) = IsScenario seed size
Fits (Soak seed size workers) = IsScenario seed size × AreWorkers workers

-- a command line asks for a command whose numbers are in their ranges
abbrev pub CommandsFit : Type 0
CommandsFit = (words : List Text) → IfSome (command_of words) Fits

-- the program's name, a command, and each number in its place, in plain decimal; behind `run` also `--journal`
pub record PlainFormsAreTaken : Type 0 where
  pub run : (name : Text) → command_of (name ∷ codes "run" ∷ []) ≡ Some (Run 1 false)
  pub run_with : (name : Text) (workers : ℕ) → AreWorkers workers → command_of (name ∷ codes "run" ∷ codes "--workers" ∷ decimal workers ∷ []) ≡ Some (Run workers false)
  pub journal : (name : Text) → command_of (name ∷ codes "run" ∷ codes "--journal" ∷ []) ≡ Some (Run 1 true)
  pub journal_with : (name : Text) (workers : ℕ) → AreWorkers workers → command_of (name ∷ codes "run" ∷ codes "--journal" ∷ codes "--workers" ∷ decimal workers ∷ []) ≡ Some (Run workers true)
  pub trace : (name : Text) → command_of (name ∷ codes "trace" ∷ []) ≡ Some Trace
  pub check : (name : Text) → command_of (name ∷ codes "check" ∷ []) ≡ Some Check
  pub generate : (name : Text) (seed size : ℕ) → IsScenario seed size → command_of (name ∷ codes "gen" ∷ decimal seed ∷ decimal size ∷ []) ≡ Some (Generate seed size)
  pub soak : (name : Text) (seed size : ℕ) → IsScenario seed size → command_of (name ∷ codes "soak" ∷ decimal seed ∷ decimal size ∷ []) ≡ Some (Soak seed size 1)
  pub soak_with : (name : Text) (seed size workers : ℕ) → IsScenario seed size → AreWorkers workers
      → command_of (name ∷ codes "soak" ∷ decimal seed ∷ decimal size ∷ codes "--workers" ∷ decimal workers ∷ []) ≡ Some (Soak seed size workers)

-- the word doesn't begin with a hyphen
abbrev pub IsPlain : Text → Type 0
IsPlain word = get_or word 0 0 ≡ 45 → ⊥

-- the word names no command
pub record IsUnknown (word : Text) : Type 0 where
  pub run : word ≡ codes "run" → ⊥
  pub trace : word ≡ codes "trace" → ⊥
  pub check : word ≡ codes "check" → ⊥
  pub generate : word ≡ codes "gen" → ⊥
  pub soak : word ≡ codes "soak" → ⊥

-- words are no command line where there are none, or no command, or an unknown one, or where a number lacks or a word is too many
pub record FaultyFormsAreRefused : Type 0 where
  pub no_words : command_of [] ≡ None
  pub no_command : (name : Text) → command_of (name ∷ []) ≡ None
  pub unknown : (name word : Text) (rest : List Text) → IsPlain word → IsUnknown word → command_of (name ∷ word ∷ rest) ≡ None
  pub no_numbers : (name : Text) → (command_of (name ∷ codes "gen" ∷ []) ≡ None) × (command_of (name ∷ codes "soak" ∷ []) ≡ None)
  pub no_size : (name seed : Text) → IsPlain seed → (command_of (name ∷ codes "gen" ∷ seed ∷ []) ≡ None) × (command_of (name ∷ codes "soak" ∷ seed ∷ []) ≡ None)
  pub further : (name word : Text) → IsPlain word
      → (command_of (name ∷ codes "run" ∷ word ∷ []) ≡ None) × (command_of (name ∷ codes "trace" ∷ word ∷ []) ≡ None) × (command_of (name ∷ codes "check" ∷ word ∷ []) ≡ None)
