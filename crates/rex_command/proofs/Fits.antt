-- The numbers of a command are in their ranges.
use Rattle.std.proofs.Common.{◌≡◌, ℕ, ◌≤◌, Bool, true, false, cond, List, Option, Some, None, refl}
use Rattle.std.specs.Prelude.{IfSome, option_and_then, codes}
use Rattle.std.specs.Str.{bytes_eq}
use Rattle.clap.specs.ValueTests.{accepts}
use Rattle.clap.specs.Words.{Row, Text, one_of, subcommand_of}
use Rattle.clap.specs.declared.builder.ValueParser.TheVariants.{Unsigned}
use Rattle.clap.proofs.ValueTestLemmas.{accepts-Accepts}
use Rattle.rex_command.specs.Application.{rex_app}
use Rattle.rex_command.specs.Reading.{number_of, number_in, run_of, generate_of, soak_of, workers_in, seed_in, size_in, command_named, is_command_line, is_given}
use Rattle.rex_command.specs.Laws.{AreWorkers, Fits, CommandsFit}
use Rattle.rex_command.specs.declared.commands.Command.{Command}
use Rattle.rex_command.specs.declared.commands.Command.TheVariants.{Trace, Check}

abbrev pub Between : ℕ → ℕ → ℕ → Type 0
Between low high n = (low ≤ n) × (n ≤ high)

pub where_tested : {A : Type 0} (P : A → Type 0) (b : Bool) (x : A) → (b ≡ true → P x) → IfSome (cond b (Some x) None) P
where_tested P true x h = h refl
where_tested P false x h = tt

either : (P : Command → Type 0) (b : Bool) (x y : Option Command) → IfSome x P → IfSome y P → IfSome (cond b x y) P
either P true x y h k = h
either P false x y h k = k

read_between : (low high : ℕ) (t : Text) → IfSome (number_of low high t) (Between low high)
read_between low high t = where_tested (Between low high) (accepts false (Unsigned low high) t) _ (λ e. let p = accepts-Accepts false (Unsigned low high) t e in (p.2, p.3))

found_between : (low high : ℕ) (o : Option Text) → IfSome (option_and_then (number_of low high) o) (Between low high)
found_between low high None = tt
found_between low high (Some t) = read_between low high t

pub between : (low high : ℕ) (id : Text) (rows : List Row) → IfSome (number_in low high id rows) (Between low high)
between low high id rows = found_between low high (one_of id rows)

run_fits : (workers : Option ℕ) (journal : Bool) → IfSome workers AreWorkers → IfSome (run_of workers journal) Fits
run_fits None journal w = tt
run_fits (Some workers) journal w = w

gen_fits : (seed size : Option ℕ) → IfSome seed (Between 0 4294967295) → IfSome size (Between 1 1000) → IfSome (generate_of seed size) Fits
gen_fits None size n s = tt
gen_fits (Some seed) None n s = tt
gen_fits (Some seed) (Some size) n s = (n.1, s.0, s.1)

soak_fits : (seed size workers : Option ℕ) → IfSome seed (Between 0 4294967295) → IfSome size (Between 1 1000) → IfSome workers AreWorkers → IfSome (soak_of seed size workers) Fits
soak_fits None size workers n s w = tt
soak_fits (Some seed) None workers n s w = tt
soak_fits (Some seed) (Some size) None n s w = tt
soak_fits (Some seed) (Some size) (Some workers) n s w = ((n.1, s.0, s.1), w)

first_of_five : (a b c d e : Bool) (v w x y z : Option Command) → IfSome v Fits → IfSome w Fits → IfSome x Fits → IfSome y Fits → IfSome z Fits
    → IfSome (cond a v (cond b w (cond c x (cond d y (cond e z None))))) Fits
first_of_five true b c d e v w x y z fv fw fx fy fz = fv
first_of_five false true c d e v w x y z fv fw fx fy fz = fw
first_of_five false false true d e v w x y z fv fw fx fy fz = fx
first_of_five false false false true e v w x y z fv fw fx fy fz = fy
first_of_five false false false false true v w x y z fv fw fx fy fz = fz
first_of_five false false false false false v w x y z fv fw fx fy fz = tt

named_fits : (name : Text) (rows : List Row) → IfSome (command_named name rows) Fits
named_fits name rows =
    let w : IfSome (workers_in rows) AreWorkers = between 1 16 (codes "workers") rows in
    let n : IfSome (seed_in rows) (Between 0 4294967295) = between 0 4294967295 (codes "seed") rows in
    let s : IfSome (size_in rows) (Between 1 1000) = between 1 1000 (codes "size") rows in
    first_of_five (bytes_eq name (codes "run")) (bytes_eq name (codes "trace")) (bytes_eq name (codes "check")) (bytes_eq name (codes "gen")) (bytes_eq name (codes "soak"))
    (run_of (workers_in rows) (is_given (codes "journal") rows)) (Some Trace) (Some Check) (generate_of (seed_in rows) (size_in rows)) (soak_of (seed_in rows) (size_in rows) (workers_in rows))
    (run_fits (workers_in rows) (is_given (codes "journal") rows) w) tt tt (gen_fits (seed_in rows) (size_in rows) n s) (soak_fits (seed_in rows) (size_in rows) (workers_in rows) n s w)

found_fits : (o : Option (Text × List Row)) → IfSome (option_and_then (λ p. command_named p.0 p.1) o) Fits
found_fits None = tt
found_fits (Some p) = named_fits p.0 p.1

pub commands_fit : CommandsFit
commands_fit words = either Fits (is_command_line words) _ None (found_fits (subcommand_of rex_app words)) tt
