use Rattle.std.proofs.Common.{◌≤◌, ◌++◌, ℕ, List, length, ap, sym, subst, ◌∙◌, arith}
use Rattle.rex_snapshot.specs.Spelling.{state_bytes}
use Rattle.rex_snapshot.specs.Reading.{state_in}
use Rattle.rex_snapshot.proofs.Snapshots.{read_again, lanes_written}
use Rattle.rex_snapshot.proofs.Short.{snapshots_are_short}
use Rattle.rex_snapshot.proofs.write_state.spell.Goals as goal

pub write-requires : goal.write-requires
write-requires c = record {
  variables = c.requires.sound.by.complete.variables;
  lanes = lanes_written c.args.svc.now c.args.state.now c.declarations-service.ensures.sound c.requires.sound;
  clients = omega (arith, c.requires.sound.by.complete.clients);
  entries = c.requires.limited.entries;
}

pub returns-clause-short : goal.returns-clause-short
returns-clause-short c =
    let s = c.args.state.now in
    let service = c.args.svc.now in
    let version = c.args.version in
    let whole = c.into_vec.ensures ∙ c.in_ok-write.ensures.spelled ∙ ap (λ (start : List ℕ). start ++ state_bytes service version s) c.in_ok-writer.ensures in
    subst (λ (bytes : List ℕ). length bytes ≤ 65536) (sym whole) (snapshots_are_short service version s c.declarations-service.ensures.sound c.requires.has c.requires.sound c.requires.limited)

pub returns-clause-again : goal.returns-clause-again
returns-clause-again c =
    let s = c.args.state.now in
    let service = c.args.svc.now in
    let version = c.args.version in
    let whole = c.into_vec.ensures ∙ c.in_ok-write.ensures.spelled ∙ ap (λ (start : List ℕ). start ++ state_bytes service version s) c.in_ok-writer.ensures in
    ap (state_in service) whole ∙ read_again service version s c.declarations-service.ensures.sound c.requires.has c.requires.sound (record { limited = c.requires.limited; typed = c.in_ok-write.ensures.typed })
