use Rattle.std.proofs.Common.{◌≡◌, List, [], ◌∷◌, subst, cond, Option, ◌∙◌, ap, map, None, refl, sym, inl, inr}
use Rattle.std.specs.Prelude.{string_bytes, IfSome}
use Rattle.clap.specs.Words.{App, IsAmong, Text, fault_of, found_of, is_simple, is_simple_and_free, kind_of, rows_of}
use Rattle.clap.specs.Simple.{matches_of}
use Rattle.rexnode_command.specs.Application.{node_app}
use Rattle.rexnode_command.specs.Command.{CommandValue}
use Rattle.rexnode_command.specs.Reading.{command_in}
use Rattle.rexnode_command.specs.Laws.{Fits}
use Rattle.rexnode_command.proofs.Fits.{commands_fit}
use Rattle.rexnode_command.proofs.Simple.{simple, simple_and_free}
use Rattle.rex_command.proofs.Faults.{kept, dropped}
use Rattle.rexnode_command.proofs.reading.command_of.Goals as goal

pub returns-clause-command : goal.returns-clause-command
returns-clause-command c =
    let words : List Text = map string_bytes c.args.words.now in
    let fails = c.in-Err.ensures.kinds (ap is_simple_and_free c.in_ok-command.ensures ∙ simple_and_free) in
    let among : IsAmong (kind_of c.in-Err.error) (fault_of node_app words) =
    subst (λ (a : App). IsAmong (kind_of c.in-Err.error) (fault_of a words)) c.in_ok-command.ensures
    (elim fails [ inl oom ↦ absurd (c.in_default.not-OutOfMemory (c.kind.ensures ∙ oom)) | inr h ↦ h ]) in
    dropped (kind_of c.in-Err.error) (fault_of node_app words) (command_in (matches_of node_app words)) among

pub returns-in-Ok-clause-command : goal.returns-in-Ok-clause-command
returns-in-Ok-clause-command c =
    let words : List Text = map string_bytes c.args.words.now in
    let fine : fault_of node_app words ≡ [] = subst (λ (a : App). fault_of a words ≡ []) c.in_ok-command.ensures
    (c.in-Ok.ensures.kinds (ap is_simple_and_free c.in_ok-command.ensures ∙ simple_and_free)) in
    let rows : rows_of (found_of c.in-Ok.matches) ≡ matches_of node_app words =
    (c.in-Ok.ensures.matches (ap is_simple c.in_ok-command.ensures ∙ simple)).0
    ∙ ap (λ (a : App). matches_of a words) c.in_ok-command.ensures in
    c.command_in.ensures ∙ ap command_in rows
    ∙ kept (fault_of node_app words) (command_in (matches_of node_app words)) fine

pub returns-in-Ok-clause-fits : goal.returns-in-Ok-clause-fits
returns-in-Ok-clause-fits c =
    subst (λ (o : Option CommandValue). IfSome o Fits) (sym (returns-in-Ok-clause-command c)) (commands_fit (map string_bytes c.args.words.now))
