use Rattle.std.proofs.Common.{◌≡◌, None, Some, rules}
use Rattle.rex_syntax.specs.Service.{IsService}
use Rattle.rex_lockset.specs.Refusal.{refusal_of as refusal}
use Rattle.rex_lockset.proofs.Law.{is_checked, fails}
use Rattle.rex_lockset.proofs.answer.check.Goals as goal

pub of-requires : goal.of-requires
of-requires c =
    let good : IsService c.args.service = search rules in
    let none : refusal c.args.service ≡ None = search rules in
    (good, is_checked c.args.service good none)

pub returns-in-Ok-Some-clause-sound : goal.returns-in-Ok-Some-clause-sound
returns-in-Ok-Some-clause-sound c =
    let some : refusal c.args.service ≡ Some c.in-Ok-Some.refused = search rules in
    fails c.args.service c.in-Ok-Some.refused some
