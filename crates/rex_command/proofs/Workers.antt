-- `--workers` with a number in plain decimal, at the end of a command line.
use Rattle.std.proofs.Common.{◌≡◌, ℕ, ◌<◌, ◌^◌, true, false, List, [], ◌∷◌, Option, Some, codes, refl, ap, ap₂, ◌∙◌, arith}
use Rattle.std.specs.Str.Parse.{digits_value, without_leading_plus}
use Rattle.std.specs.Fmt.{decimal}
use Rattle.clap.specs.Faults.{defaults_fault, fault_of, level_fault, turn_fault, walk_fault}
use Rattle.clap.specs.Kinds.{Kinds, or_else}
use Rattle.clap.specs.Simple.{Shape, subcommand_of}
use Rattle.clap.specs.ValueTests.{accepts}
use Rattle.clap.specs.Walk.{Held, Text, Walk, finished, nothing_held, option, pushed, settled, walk, walk_from, walked}
use Rattle.clap.specs.declared.builder.ValueParser.TheVariants.{Unsigned}
use Rattle.clap.proofs.OnLiterals.{clap_on_literals}
use Rattle.rex_command.specs.Application.{rex_app}
use Rattle.rex_command.specs.Reading.{command_named, command_of, number_of, run_of, soak_of}
use Rattle.rex_command.specs.Laws.{AreWorkers, IsPlain, IsScenario}
use Rattle.rex_command.specs.declared.commands.Command.TheVariants.{Run, Soak}
use Rattle.rex_command.proofs.Numbers.{AreTaken, answer_is, both_held, decimals_taken, number_read, one_held, soak_walk, value_fine}
use Rattle.rex_command.proofs.Plain.{decimal_accepted, decimal_plain, decimal_value}
use Rattle.rex_command.proofs.Shapes.{run, soak}
use Rattle.rex_command.proofs.Steps.{at, end_fault, level_ends, plain_turned, plain_walked, turned_on, waits_at, walked_on}

abbrev workers : Text
workers = codes "workers"

abbrev option_word : Text
option_word = codes "--workers"

-- what is held after `--workers`, and after its value
abbrev waits_held : Shape → Held → Held
waits_held s h = record (settled s.rules h) { pending = Some (workers, []) }

abbrev given_held : Shape → Held → Text → Held
given_held s h w = pushed workers w (waits_held s h)

-- the word is plain, and its reader takes it
record IsTaken (w : Text) : Type 0 where
  plain : IsPlain w
  fits : accepts false (Unsigned 1 16) w ≡ true

-- ---- behind `run`

-- where this is held
module _ (h : Held) (met : walked run.rules [] (at h 1) option_word ≡ waits_at (option workers) (waits_held run h) 1) (fine : turn_fault run [] (at h 1) option_word ≡ []) where
  option_walk : (w : Text) → IsTaken w → walk run.rules [] h (option_word ∷ w ∷ []) ≡ at (given_held run h w) 1
  option_walk w t = ap (λ (x : Walk). walked run.rules [] x w) met ∙ plain_walked run.rules [] (option workers) 1 w (waits_held run h) t.plain refl

  option_walk_fine : (w : Text) → IsTaken w → walk_fault run [] (at h 1) (option_word ∷ w ∷ []) ≡ []
  unfolding walk_fault
  option_walk_fine w t =
      ap (λ (k : Kinds). or_else k (or_else (turn_fault run [] (walked run.rules [] (at h 1) option_word) w) [])) fine
      ∙ ap (λ (x : Walk). or_else (turn_fault run [] x w) []) met
      ∙ ap (λ (k : Kinds). or_else k []) (plain_turned run [] (option workers) 1 w (waits_held run h) t.plain refl)

run_option : walked run.rules [] (at nothing_held 1) option_word ≡ waits_at (option workers) (waits_held run nothing_held) 1
unfolding clap_on_literals
run_option = refl

run_option_fine : turn_fault run [] (at nothing_held 1) option_word ≡ []
unfolding clap_on_literals
run_option_fine = refl

run_walk : (w : Text) → IsTaken w → walk run.rules [] nothing_held (option_word ∷ w ∷ []) ≡ at (given_held run nothing_held w) 1
run_walk = option_walk nothing_held run_option run_option_fine

run_walk_fine : (w : Text) → IsTaken w → walk_fault run [] (walk_from nothing_held) (option_word ∷ w ∷ []) ≡ []
run_walk_fine = option_walk_fine nothing_held run_option run_option_fine

run_end_fine : (w : Text) → IsTaken w → end_fault run (given_held run nothing_held w) false ≡ []
unfolding defaults_fault
run_end_fine w t = ap (λ (k : Kinds). or_else k []) (value_fine 1 16 w t.fits)

run_level_fine : (w : Text) → IsTaken w → level_fault run [] nothing_held (option_word ∷ w ∷ []) false [] ≡ []
run_level_fine w t = level_ends run nothing_held (given_held run nothing_held w) (option_word ∷ w ∷ []) (run_walk_fine w t) (ap (λ (x : Walk). x.held) (run_walk w t)) ∙ run_end_fine w t

run_fault : (name w : Text) → fault_of rex_app (name ∷ codes "run" ∷ option_word ∷ w ∷ []) ≡ or_else (level_fault run [] nothing_held (option_word ∷ w ∷ []) false []) []
unfolding clap_on_literals
run_fault name w = refl

run_rows : (name w : Text) → subcommand_of rex_app (name ∷ codes "run" ∷ option_word ∷ w ∷ []) ≡ Some (codes "run", finished run.rules (walk run.rules [] nothing_held (option_word ∷ w ∷ [])).held)
unfolding clap_on_literals
run_rows name w = refl

run_named : (w : Text) → IsTaken w → command_named (codes "run") (finished run.rules (given_held run nothing_held w)) ≡ Some (Run (digits_value 10 (without_leading_plus w)) false)
run_named w t = ap (λ (o : Option ℕ). run_of o false) (number_read 1 16 w t.fits)

run_texts : (name w : Text) → IsTaken w → command_of (name ∷ codes "run" ∷ option_word ∷ w ∷ []) ≡ Some (Run (digits_value 10 (without_leading_plus w)) false)
run_texts name w t =
    answer_is (name ∷ codes "run" ∷ option_word ∷ w ∷ []) (codes "run", finished run.rules (given_held run nothing_held w)) (run_fault name w ∙ ap (λ (k : Kinds). or_else k []) (run_level_fine w t))
    (run_rows name w ∙ ap (λ (x : Walk). Some (codes "run", finished run.rules x.held)) (run_walk w t))
    ∙ run_named w t

-- ---- behind `run --journal`

abbrev journal_word : Text
journal_word = codes "--journal"

-- what is held after it
abbrev journal_held : Held
journal_held = (walked run.rules [] (at nothing_held 1) journal_word).held

abbrev journal_words : Text → List Text
journal_words w = journal_word ∷ option_word ∷ w ∷ []

journal_met : walked run.rules [] (at nothing_held 1) journal_word ≡ at journal_held 1
unfolding clap_on_literals
journal_met = refl

journal_fine : turn_fault run [] (at nothing_held 1) journal_word ≡ []
unfolding clap_on_literals
journal_fine = refl

journal_option : walked run.rules [] (at journal_held 1) option_word ≡ waits_at (option workers) (waits_held run journal_held) 1
unfolding clap_on_literals
journal_option = refl

journal_option_fine : turn_fault run [] (at journal_held 1) option_word ≡ []
unfolding clap_on_literals
journal_option_fine = refl

journal_walk : (w : Text) → IsTaken w → walk run.rules [] nothing_held (journal_words w) ≡ at (given_held run journal_held w) 1
journal_walk w t =
    ap (λ (x : Walk). walked run.rules [] (walked run.rules [] x option_word) w) journal_met
    ∙ option_walk journal_held journal_option journal_option_fine w t

journal_walk_fine : (w : Text) → IsTaken w → walk_fault run [] (walk_from nothing_held) (journal_words w) ≡ []
unfolding walk_fault
journal_walk_fine w t =
    let rest = λ (x : Walk). walk_fault run [] x (option_word ∷ w ∷ []) in
    ap (λ (k : Kinds). or_else k (rest (walked run.rules [] (walk_from nothing_held) journal_word))) journal_fine
    ∙ ap rest journal_met
    ∙ option_walk_fine journal_held journal_option journal_option_fine w t

journal_end_fine : (w : Text) → IsTaken w → end_fault run (given_held run journal_held w) false ≡ []
unfolding defaults_fault walked
journal_end_fine w t = ap (λ (k : Kinds). or_else k []) (value_fine 1 16 w t.fits)

journal_level_fine : (w : Text) → IsTaken w → level_fault run [] nothing_held (journal_words w) false [] ≡ []
journal_level_fine w t = level_ends run nothing_held (given_held run journal_held w) (journal_words w) (journal_walk_fine w t) (ap (λ (x : Walk). x.held) (journal_walk w t)) ∙ journal_end_fine w t

journal_fault : (name w : Text) → fault_of rex_app (name ∷ codes "run" ∷ journal_words w) ≡ or_else (level_fault run [] nothing_held (journal_words w) false []) []
unfolding clap_on_literals
journal_fault name w = refl

journal_rows : (name w : Text) → subcommand_of rex_app (name ∷ codes "run" ∷ journal_words w) ≡ Some (codes "run", finished run.rules (walk run.rules [] nothing_held (journal_words w)).held)
unfolding clap_on_literals
journal_rows name w = refl

journal_named : (w : Text) → IsTaken w → command_named (codes "run") (finished run.rules (given_held run journal_held w)) ≡ Some (Run (digits_value 10 (without_leading_plus w)) true)
unfolding walked
journal_named w t = ap (λ (o : Option ℕ). run_of o true) (number_read 1 16 w t.fits)

journal_texts : (name w : Text) → IsTaken w → command_of (name ∷ codes "run" ∷ journal_words w) ≡ Some (Run (digits_value 10 (without_leading_plus w)) true)
journal_texts name w t =
    answer_is (name ∷ codes "run" ∷ journal_words w) (codes "run", finished run.rules (given_held run journal_held w)) (journal_fault name w ∙ ap (λ (k : Kinds). or_else k []) (journal_level_fine w t))
    (journal_rows name w ∙ ap (λ (x : Walk). Some (codes "run", finished run.rules x.held)) (journal_walk w t))
    ∙ journal_named w t

-- ---- behind `soak` and its numbers

abbrev soak_words : Text → Text → Text → List Text
soak_words a b w = a ∷ b ∷ option_word ∷ w ∷ []

soak_option : (a b : Text) → walked soak.rules [] (at (both_held soak a b) 3) option_word ≡ waits_at (option workers) (waits_held soak (both_held soak a b)) 3
unfolding clap_on_literals
soak_option a b = refl

soak_option_fine : (a b : Text) → AreTaken a b → turn_fault soak [] (at (both_held soak a b) 3) option_word ≡ []
unfolding clap_on_literals
soak_option_fine a b t = ap (λ (k : Kinds). or_else k []) (value_fine 1 1000 b t.size)

soak_walks : (a b w : Text) → AreTaken a b → IsTaken w → walk soak.rules [] nothing_held (soak_words a b w) ≡ at (given_held soak (both_held soak a b) w) 3
soak_walks a b w t u =
    ap (λ (x : Walk). walked soak.rules [] (walked soak.rules [] x option_word) w) (soak_walk a b t)
    ∙ ap (λ (x : Walk). walked soak.rules [] x w) (soak_option a b)
    ∙ plain_walked soak.rules [] (option workers) 3 w (waits_held soak (both_held soak a b)) u.plain refl

-- the last two words, behind both numbers
soak_rest_fine : (a b w : Text) → AreTaken a b → IsTaken w → walk_fault soak [] (at (both_held soak a b) 3) (option_word ∷ w ∷ []) ≡ []
unfolding walk_fault
soak_rest_fine a b w t u =
    ap (λ (k : Kinds). or_else k (or_else (turn_fault soak [] (walked soak.rules [] (at (both_held soak a b) 3) option_word) w) [])) (soak_option_fine a b t)
    ∙ ap (λ (x : Walk). or_else (turn_fault soak [] x w) []) (soak_option a b)
    ∙ ap (λ (k : Kinds). or_else k []) (plain_turned soak [] (option workers) 3 w (waits_held soak (both_held soak a b)) u.plain refl)

soak_words_fine : (a b w : Text) → AreTaken a b → IsTaken w → walk_fault soak [] (walk_from nothing_held) (soak_words a b w) ≡ []
unfolding walk_fault
soak_words_fine a b w t u =
    let second = λ (x : Walk). walk_fault soak [] x (b ∷ option_word ∷ w ∷ []) in
    let third = λ (x : Walk). walk_fault soak [] x (option_word ∷ w ∷ []) in
    ap (λ (k : Kinds). or_else k (second (walked soak.rules [] (walk_from nothing_held) a))) (turned_on soak [] 1 a nothing_held t.first refl)
    ∙ ap second (walked_on soak.rules [] 1 a nothing_held t.first refl)
    ∙ ap (λ (k : Kinds). or_else k (third (walked soak.rules [] (at (one_held a) 2) b))) (turned_on soak [] 2 b (one_held a) t.second refl ∙ value_fine 0 4294967295 a t.seed)
    ∙ ap third (walked_on soak.rules [] 2 b (one_held a) t.second refl)
    ∙ soak_rest_fine a b w t u

soak_end_fine : (a b w : Text) → IsTaken w → end_fault soak (given_held soak (both_held soak a b) w) false ≡ []
unfolding defaults_fault
soak_end_fine a b w u = ap (λ (k : Kinds). or_else k []) (value_fine 1 16 w u.fits)

soak_level_fine : (a b w : Text) → AreTaken a b → IsTaken w → level_fault soak [] nothing_held (soak_words a b w) false [] ≡ []
soak_level_fine a b w t u =
    level_ends soak nothing_held (given_held soak (both_held soak a b) w) (soak_words a b w) (soak_words_fine a b w t u) (ap (λ (x : Walk). x.held) (soak_walks a b w t u)) ∙ soak_end_fine a b w u

soak_fault : (name a b w : Text) → fault_of rex_app (name ∷ codes "soak" ∷ soak_words a b w) ≡ or_else (level_fault soak [] nothing_held (soak_words a b w) false []) []
unfolding clap_on_literals
soak_fault name a b w = refl

soak_rows : (name a b w : Text) → subcommand_of rex_app (name ∷ codes "soak" ∷ soak_words a b w) ≡ Some (codes "soak", finished soak.rules (walk soak.rules [] nothing_held (soak_words a b w)).held)
unfolding clap_on_literals
soak_rows name a b w = refl

abbrev number_at : Text → ℕ
number_at t = digits_value 10 (without_leading_plus t)

soak_named : (a b w : Text) → AreTaken a b → IsTaken w → command_named (codes "soak") (finished soak.rules (given_held soak (both_held soak a b) w)) ≡ Some (Soak (number_at a) (number_at b) (number_at w))
soak_named a b w t u =
    ap₂ (λ (n s : Option ℕ). soak_of n s (number_of 1 16 w)) (number_read 0 4294967295 a t.seed) (number_read 1 1000 b t.size)
    ∙ ap (λ (n : Option ℕ). soak_of (Some (number_at a)) (Some (number_at b)) n) (number_read 1 16 w u.fits)

soak_texts : (name a b w : Text) → AreTaken a b → IsTaken w → command_of (name ∷ codes "soak" ∷ soak_words a b w) ≡ Some (Soak (number_at a) (number_at b) (number_at w))
soak_texts name a b w t u =
    answer_is (name ∷ codes "soak" ∷ soak_words a b w) (codes "soak", finished soak.rules (given_held soak (both_held soak a b) w)) (soak_fault name a b w ∙ ap (λ (k : Kinds). or_else k []) (soak_level_fine a b w t u))
    (soak_rows name a b w ∙ ap (λ (x : Walk). Some (codes "soak", finished soak.rules x.held)) (soak_walks a b w t u))
    ∙ soak_named a b w t u

-- ---- in plain decimal

decimal_taken : (n : ℕ) → AreWorkers n → IsTaken (decimal n)
decimal_taken n h = let lt : n < 2 ^ 64 = omega (arith, h.1) in record { plain = decimal_plain n lt; fits = decimal_accepted 1 16 n lt h.0 h.1 }

pub run_with : (name : Text) (workers : ℕ) → AreWorkers workers → command_of (name ∷ codes "run" ∷ codes "--workers" ∷ decimal workers ∷ []) ≡ Some (Run workers false)
run_with name n h = run_texts name (decimal n) (decimal_taken n h) ∙ ap (λ (w : ℕ). Some (Run w false)) (decimal_value n (omega (arith, h.1)))

pub journal_with : (name : Text) (workers : ℕ) → AreWorkers workers → command_of (name ∷ codes "run" ∷ codes "--journal" ∷ codes "--workers" ∷ decimal workers ∷ []) ≡ Some (Run workers true)
journal_with name n h = journal_texts name (decimal n) (decimal_taken n h) ∙ ap (λ (w : ℕ). Some (Run w true)) (decimal_value n (omega (arith, h.1)))

pub soak_with : (name : Text) (seed size workers : ℕ) → IsScenario seed size → AreWorkers workers
    → command_of (name ∷ codes "soak" ∷ decimal seed ∷ decimal size ∷ codes "--workers" ∷ decimal workers ∷ []) ≡ Some (Soak seed size workers)
soak_with name seed size n h k = soak_texts name (decimal seed) (decimal size) (decimal n) (decimals_taken seed size h) (decimal_taken n k)
    ∙ ap₂ (λ (x y : ℕ). Some (Soak x y (number_at (decimal n)))) (decimal_value seed (omega (arith, h.0))) (decimal_value size (omega (arith, h.2)))
    ∙ ap (λ (w : ℕ). Some (Soak seed size w)) (decimal_value n (omega (arith, k.1)))
