use Rattle.std.proofs.Common.{ℤ, w64, SFits, rules, sym, ap, ◌∙◌}
use Rattle.std.proofs.lemmas.Int.{to_z-of_z}
use Rattle.rex_state.specs.Value.{StateValue}
use Rattle.rex_state.specs.Machine.{run}
use Rattle.rex_fits.specs.Applied.{AppliedValue, greatest_clock}
use Rattle.rex_fits.proofs.Spellings.{has_taken}
use Rattle.rex_fits.proofs.applied.Applied.take.Goals as goal

pub returns-clause-taken : goal.returns-clause-taken
returns-clause-taken c good =
    let before : SFits w64 c.self.inside.clock = search rules in
    let after : SFits w64 c.greatest_clock-self-inside.result = search rules in
    has_taken c.args.svc.now c.args.self.now c.args.value.now c.in-Some.events _ _
    (sym c.in_ok-events.ensures.spelled ∙ c.in-Some.is)
    (ap (λ (s : StateValue). run c.args.svc.now s c.in-Some.events) (sym (ap (λ (a : AppliedValue). a.state) c.self.view_is))
    ∙ ap (run c.args.svc.now c.self.inside.state) (sym c.as_slice.ensures) ∙ c.run_all.ensures.runs c.if-not-run_all.false)
    (to_z-of_z w64 c.greatest_clock-self-inside.result after ∙ c.greatest_clock-self-inside.ensures
    ∙ ap (λ (t : ℤ). greatest_clock t c.as_slice-2.result.now) (to_z-of_z w64 c.self.inside.clock before ∙ ap (λ (a : AppliedValue). a.clock) c.self.view_is)
    ∙ ap (greatest_clock c.args.self.now.clock) c.as_slice-2.ensures)
