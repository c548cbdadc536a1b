use Rattle.std.proofs.Common.{◌<◌, sym, subst, ◌∙◌}
use Rattle.rex_ballot.specs.declared.ballots.TheConstants.{INSTANCES}
use Rattle.rex_transfer.specs.Window.{WindowValue, known_of}
use Rattle.rex_transfer.proofs.Deltas.{checked_too}
use Rattle.rex_transfer.proofs.window.Window.push.Goals as goal

pub invariant_of-self-then-self-held : goal.invariant_of-self-then-self-held
invariant_of-self-then-self-held c =
    let held = c.len-held.ensures ∙ c.self.inside.values.ok.0 in
    rw (c.in_ok-push.ensures.items, c.from_vec-value.ensures, c.in_ok-from_slice.ensures.items, held)
    (checked_too (record { offset = c.self.inside.offset; values = c.self.inside.values.items }) c.self.inside.checked c.args.value.now
    (subst (λ (w : WindowValue). known_of w < INSTANCES) (sym c.self.view_is) c.requires.room) c.self.invariant (c.if-self-held.true ∙ held) (c.requires.delta c.if-is_delta.true))
