-- Command lines that lack a scenario's size.
use Rattle.std.proofs.Common.{◌≡◌, Bool, true, false, List, [], ◌∷◌, None, codes, refl, ap, ◌∙◌}
use Rattle.std.specs.Prelude.{if◌then◌else◌, option_and_then}
use Rattle.clap.specs.Faults.{defaults_fault, fault_of, level_fault, walk_fault}
use Rattle.clap.specs.Kinds.{Kinds, or_else}
use Rattle.clap.specs.Simple.{subcommand_of}
use Rattle.clap.specs.Values.{refused_kind}
use Rattle.clap.specs.ValueTests.{accepts}
use Rattle.clap.specs.Walk.{Text, Walk, nothing_held, walk_from}
use Rattle.clap.specs.declared.builder.ValueParser.TheVariants.{Unsigned}
use Rattle.clap.specs.declared.error.ErrorKind.{ErrorKind}
use Rattle.clap.specs.declared.error.ErrorKind.TheVariants.{MissingRequiredArgument}
use Rattle.clap.proofs.OnLiterals.{clap_on_literals}
use Rattle.rex_command.specs.Application.{rex_app}
use Rattle.rex_command.specs.Reading.{command_named, command_of, is_none}
use Rattle.rex_command.specs.Laws.{IsPlain}
use Rattle.rex_command.proofs.Numbers.{one_held}
use Rattle.rex_command.proofs.Shapes.{gen, soak}
use Rattle.rex_command.proofs.Steps.{end_fault, level_ends, turned_on, walked_on}

faulty : (words : List Text) → is_none (fault_of rex_app words) ≡ false → command_of words ≡ None
faulty words e = ap (λ (b : Bool). if b then option_and_then (λ p. command_named p.0 p.1) (subcommand_of rex_app words) else None) e

-- the number is bad, or else the size lacks
either : (b : Bool) (k m : ErrorKind) → is_none (or_else (or_else (or_else (if b then [] else k ∷ []) []) (m ∷ [])) []) ≡ false
either true k m = refl
either false k m = refl

gen_walk_fine : (a : Text) → IsPlain a → walk_fault gen [] (walk_from nothing_held) (a ∷ []) ≡ []
unfolding walk_fault
gen_walk_fine a p = ap (λ (k : Kinds). or_else k []) (turned_on gen [] 1 a nothing_held p refl)

gen_level : (a : Text) → IsPlain a → level_fault gen [] nothing_held (a ∷ []) false [] ≡ end_fault gen (one_held a) false
gen_level a p = level_ends gen nothing_held (one_held a) (a ∷ []) (gen_walk_fine a p) (ap (λ (x : Walk). x.held) (walked_on gen.rules [] 1 a nothing_held p refl))

gen_end : (a : Text) → is_none (or_else (end_fault gen (one_held a) false) []) ≡ false
unfolding defaults_fault
gen_end a = either (accepts false (Unsigned 0 4294967295) a) (refused_kind (Unsigned 0 4294967295)) MissingRequiredArgument

gen_fault : (name a : Text) → fault_of rex_app (name ∷ codes "gen" ∷ a ∷ []) ≡ or_else (level_fault gen [] nothing_held (a ∷ []) false []) []
unfolding clap_on_literals
gen_fault name a = refl

gen_lacks : (name a : Text) → IsPlain a → command_of (name ∷ codes "gen" ∷ a ∷ []) ≡ None
gen_lacks name a p = faulty (name ∷ codes "gen" ∷ a ∷ []) (ap is_none (gen_fault name a ∙ ap (λ (k : Kinds). or_else k []) (gen_level a p)) ∙ gen_end a)

soak_walk_fine : (a : Text) → IsPlain a → walk_fault soak [] (walk_from nothing_held) (a ∷ []) ≡ []
unfolding walk_fault
soak_walk_fine a p = ap (λ (k : Kinds). or_else k []) (turned_on soak [] 1 a nothing_held p refl)

soak_level : (a : Text) → IsPlain a → level_fault soak [] nothing_held (a ∷ []) false [] ≡ end_fault soak (one_held a) false
soak_level a p = level_ends soak nothing_held (one_held a) (a ∷ []) (soak_walk_fine a p) (ap (λ (x : Walk). x.held) (walked_on soak.rules [] 1 a nothing_held p refl))

soak_end : (a : Text) → is_none (or_else (end_fault soak (one_held a) false) []) ≡ false
unfolding defaults_fault
soak_end a = either (accepts false (Unsigned 0 4294967295) a) (refused_kind (Unsigned 0 4294967295)) MissingRequiredArgument

soak_fault : (name a : Text) → fault_of rex_app (name ∷ codes "soak" ∷ a ∷ []) ≡ or_else (level_fault soak [] nothing_held (a ∷ []) false []) []
unfolding clap_on_literals
soak_fault name a = refl

soak_lacks : (name a : Text) → IsPlain a → command_of (name ∷ codes "soak" ∷ a ∷ []) ≡ None
soak_lacks name a p = faulty (name ∷ codes "soak" ∷ a ∷ []) (ap is_none (soak_fault name a ∙ ap (λ (k : Kinds). or_else k []) (soak_level a p)) ∙ soak_end a)

pub no_size : (name seed : Text) → IsPlain seed → (command_of (name ∷ codes "gen" ∷ seed ∷ []) ≡ None) × (command_of (name ∷ codes "soak" ∷ seed ∷ []) ≡ None)
no_size name seed p = (gen_lacks name seed p, soak_lacks name seed p)
