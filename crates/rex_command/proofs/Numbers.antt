-- A scenario's number and size in plain decimal.
use Rattle.std.proofs.Common.{◌≡◌, ℕ, ◌<◌, ◌^◌, Bool, true, false, List, [], ◌∷◌, Option, Some, None, codes, refl, ap, ap₂, ◌∙◌, arith}
use Rattle.std.specs.Prelude.{if◌then◌else◌, option_and_then}
use Rattle.std.specs.Str.Parse.{digits_value, without_leading_plus}
use Rattle.std.specs.Fmt.{decimal}
use Rattle.clap.specs.Faults.{defaults_fault, fault_of, level_fault, turn_fault, walk_fault}
use Rattle.clap.specs.Kinds.{Kinds, or_else, values_kinds}
use Rattle.clap.specs.Simple.{Shape, subcommand_of}
use Rattle.clap.specs.Values.{refused_kind}
use Rattle.clap.specs.ValueTests.{accepts}
use Rattle.clap.specs.Walk.{Held, Row, Text, Walk, finished, nothing_held, pushed, settled, walk, walk_from, walked}
use Rattle.clap.specs.declared.builder.ValueParser.TheVariants.{Unsigned}
use Rattle.clap.proofs.OnLiterals.{clap_on_literals}
use Rattle.rex_command.specs.Application.{rex_app}
use Rattle.rex_command.specs.Reading.{command_named, command_of, generate_of, is_none, number_of, soak_of}
use Rattle.rex_command.specs.Laws.{IsPlain, IsScenario}
use Rattle.rex_command.specs.declared.commands.Command.TheVariants.{Generate, Soak}
use Rattle.rex_command.proofs.Plain.{decimal_accepted, decimal_plain, decimal_value}
use Rattle.rex_command.proofs.Shapes.{gen, soak}
use Rattle.rex_command.proofs.Steps.{at, end_fault, level_ends, turned_on, walked_on}

-- a value that its reader takes is no fault
pub value_fine : (low high : ℕ) (t : Text) → accepts false (Unsigned low high) t ≡ true → values_kinds false (Unsigned low high) (t ∷ []) ≡ []
value_fine low high t e = ap (λ (b : Bool). or_else (if b then [] else refused_kind (Unsigned low high) ∷ []) []) e

pub number_read : (low high : ℕ) (t : Text) → accepts false (Unsigned low high) t ≡ true → number_of low high t ≡ Some (digits_value 10 (without_leading_plus t))
number_read low high t e = ap (λ (b : Bool). if b then Some (digits_value 10 (without_leading_plus t)) else None) e

-- the answer to words that have no fault
pub answer_is : (words : List Text) (found : Text × List Row) → fault_of rex_app words ≡ [] → subcommand_of rex_app words ≡ Some found → command_of words ≡ command_named found.0 found.1
answer_is words found fine sub = ap₂ (λ (k : Kinds) (o : Option (Text × List Row)). if is_none k then option_and_then (λ p. command_named p.0 p.1) o else None) fine sub

-- the words are plain, and their readers take them
pub record AreTaken (a b : Text) : Type 0 where
  pub first : IsPlain a
  pub second : IsPlain b
  pub seed : accepts false (Unsigned 0 4294967295) a ≡ true
  pub size : accepts false (Unsigned 1 1000) b ≡ true

-- what is held after the first, and after both
abbrev pub one_held : Text → Held
one_held a = pushed (codes "seed") a nothing_held

abbrev pub both_held : Shape → Text → Text → Held
both_held s a b = pushed (codes "size") b (settled s.rules (one_held a))

gen_walk : (a b : Text) → AreTaken a b → walk gen.rules [] nothing_held (a ∷ b ∷ []) ≡ at (both_held gen a b) 3
gen_walk a b t = ap (λ (w : Walk). walked gen.rules [] w b) (walked_on gen.rules [] 1 a nothing_held t.first refl) ∙ walked_on gen.rules [] 2 b (one_held a) t.second refl

gen_walk_fine : (a b : Text) → AreTaken a b → walk_fault gen [] (walk_from nothing_held) (a ∷ b ∷ []) ≡ []
unfolding walk_fault
gen_walk_fine a b t =
    ap (λ (k : Kinds). or_else k (or_else (turn_fault gen [] (walked gen.rules [] (walk_from nothing_held) a) b) [])) (turned_on gen [] 1 a nothing_held t.first refl)
    ∙ ap (λ (w : Walk). or_else (turn_fault gen [] w b) []) (walked_on gen.rules [] 1 a nothing_held t.first refl)
    ∙ ap (λ (k : Kinds). or_else k []) (turned_on gen [] 2 b (one_held a) t.second refl)
    ∙ ap (λ (k : Kinds). or_else k []) (value_fine 0 4294967295 a t.seed)

gen_end_fine : (a b : Text) → AreTaken a b → end_fault gen (both_held gen a b) false ≡ []
unfolding defaults_fault
gen_end_fine a b t = ap (λ (k : Kinds). or_else k []) (value_fine 1 1000 b t.size)

gen_level_fine : (a b : Text) → AreTaken a b → level_fault gen [] nothing_held (a ∷ b ∷ []) false [] ≡ []
gen_level_fine a b t = level_ends gen nothing_held (both_held gen a b) (a ∷ b ∷ []) (gen_walk_fine a b t) (ap (λ (w : Walk). w.held) (gen_walk a b t)) ∙ gen_end_fine a b t

gen_fault : (name a b : Text) → fault_of rex_app (name ∷ codes "gen" ∷ a ∷ b ∷ []) ≡ or_else (level_fault gen [] nothing_held (a ∷ b ∷ []) false []) []
unfolding clap_on_literals
gen_fault name a b = refl

gen_rows : (name a b : Text) → subcommand_of rex_app (name ∷ codes "gen" ∷ a ∷ b ∷ []) ≡ Some (codes "gen", finished gen.rules (walk gen.rules [] nothing_held (a ∷ b ∷ [])).held)
unfolding clap_on_literals
gen_rows name a b = refl

gen_named : (a b : Text) → AreTaken a b → command_named (codes "gen") (finished gen.rules (both_held gen a b)) ≡ Some (Generate (digits_value 10 (without_leading_plus a)) (digits_value 10 (without_leading_plus b)))
gen_named a b t = ap₂ generate_of (number_read 0 4294967295 a t.seed) (number_read 1 1000 b t.size)

gen_texts : (name a b : Text) → AreTaken a b → command_of (name ∷ codes "gen" ∷ a ∷ b ∷ []) ≡ Some (Generate (digits_value 10 (without_leading_plus a)) (digits_value 10 (without_leading_plus b)))
gen_texts name a b t =
    answer_is (name ∷ codes "gen" ∷ a ∷ b ∷ []) (codes "gen", finished gen.rules (both_held gen a b)) (gen_fault name a b ∙ ap (λ (k : Kinds). or_else k []) (gen_level_fine a b t))
    (gen_rows name a b ∙ ap (λ (w : Walk). Some (codes "gen", finished gen.rules w.held)) (gen_walk a b t))
    ∙ gen_named a b t

pub soak_walk : (a b : Text) → AreTaken a b → walk soak.rules [] nothing_held (a ∷ b ∷ []) ≡ at (both_held soak a b) 3
soak_walk a b t = ap (λ (w : Walk). walked soak.rules [] w b) (walked_on soak.rules [] 1 a nothing_held t.first refl) ∙ walked_on soak.rules [] 2 b (one_held a) t.second refl

soak_walk_fine : (a b : Text) → AreTaken a b → walk_fault soak [] (walk_from nothing_held) (a ∷ b ∷ []) ≡ []
unfolding walk_fault
soak_walk_fine a b t =
    ap (λ (k : Kinds). or_else k (or_else (turn_fault soak [] (walked soak.rules [] (walk_from nothing_held) a) b) [])) (turned_on soak [] 1 a nothing_held t.first refl)
    ∙ ap (λ (w : Walk). or_else (turn_fault soak [] w b) []) (walked_on soak.rules [] 1 a nothing_held t.first refl)
    ∙ ap (λ (k : Kinds). or_else k []) (turned_on soak [] 2 b (one_held a) t.second refl)
    ∙ ap (λ (k : Kinds). or_else k []) (value_fine 0 4294967295 a t.seed)

soak_end_fine : (a b : Text) → AreTaken a b → end_fault soak (both_held soak a b) false ≡ []
unfolding defaults_fault
soak_end_fine a b t = ap (λ (k : Kinds). or_else k []) (value_fine 1 1000 b t.size)

soak_level_fine : (a b : Text) → AreTaken a b → level_fault soak [] nothing_held (a ∷ b ∷ []) false [] ≡ []
soak_level_fine a b t = level_ends soak nothing_held (both_held soak a b) (a ∷ b ∷ []) (soak_walk_fine a b t) (ap (λ (w : Walk). w.held) (soak_walk a b t)) ∙ soak_end_fine a b t

soak_fault : (name a b : Text) → fault_of rex_app (name ∷ codes "soak" ∷ a ∷ b ∷ []) ≡ or_else (level_fault soak [] nothing_held (a ∷ b ∷ []) false []) []
unfolding clap_on_literals
soak_fault name a b = refl

soak_rows : (name a b : Text) → subcommand_of rex_app (name ∷ codes "soak" ∷ a ∷ b ∷ []) ≡ Some (codes "soak", finished soak.rules (walk soak.rules [] nothing_held (a ∷ b ∷ [])).held)
unfolding clap_on_literals
soak_rows name a b = refl

soak_named : (a b : Text) → AreTaken a b → command_named (codes "soak") (finished soak.rules (both_held soak a b)) ≡ Some (Soak (digits_value 10 (without_leading_plus a)) (digits_value 10 (without_leading_plus b)) 1)
soak_named a b t = ap₂ (λ (n s : Option ℕ). soak_of n s (Some 1)) (number_read 0 4294967295 a t.seed) (number_read 1 1000 b t.size)

soak_texts : (name a b : Text) → AreTaken a b → command_of (name ∷ codes "soak" ∷ a ∷ b ∷ []) ≡ Some (Soak (digits_value 10 (without_leading_plus a)) (digits_value 10 (without_leading_plus b)) 1)
soak_texts name a b t =
    answer_is (name ∷ codes "soak" ∷ a ∷ b ∷ []) (codes "soak", finished soak.rules (both_held soak a b)) (soak_fault name a b ∙ ap (λ (k : Kinds). or_else k []) (soak_level_fine a b t))
    (soak_rows name a b ∙ ap (λ (w : Walk). Some (codes "soak", finished soak.rules w.held)) (soak_walk a b t))
    ∙ soak_named a b t

pub decimals_taken : (seed size : ℕ) → IsScenario seed size → AreTaken (decimal seed) (decimal size)
decimals_taken seed size h =
    let n : seed < 2 ^ 64 = omega (arith, h.0) in
    let s : size < 2 ^ 64 = omega (arith, h.2) in
    record { first = decimal_plain seed n; second = decimal_plain size s; seed = decimal_accepted 0 4294967295 seed n (omega arith) h.0; size = decimal_accepted 1 1000 size s h.1 h.2 }

pub generate : (name : Text) (seed size : ℕ) → IsScenario seed size → command_of (name ∷ codes "gen" ∷ decimal seed ∷ decimal size ∷ []) ≡ Some (Generate seed size)
generate name seed size h = gen_texts name (decimal seed) (decimal size) (decimals_taken seed size h)
    ∙ ap₂ (λ (n s : ℕ). Some (Generate n s)) (decimal_value seed (omega (arith, h.0))) (decimal_value size (omega (arith, h.2)))

pub soaked : (name : Text) (seed size : ℕ) → IsScenario seed size → command_of (name ∷ codes "soak" ∷ decimal seed ∷ decimal size ∷ []) ≡ Some (Soak seed size 1)
soaked name seed size h = soak_texts name (decimal seed) (decimal size) (decimals_taken seed size h)
    ∙ ap₂ (λ (n s : ℕ). Some (Soak n s 1)) (decimal_value seed (omega (arith, h.0))) (decimal_value size (omega (arith, h.2)))
