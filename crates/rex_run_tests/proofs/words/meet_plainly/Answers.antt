use Rattle.std.proofs.Common.{List, subst, sym}
use Rattle.rex_syntax.specs.declared.request.Request.{Request}
use Rattle.rex_syntax.specs.declared.service.Declarations.{Declarations}
use Rattle.rex_words.specs.Dealing.{CanRecord}
use Rattle.rexlive_cli.proofs.Worded.{can_record}
use Rattle.rex_run_tests.proofs.words.meet_plainly.Goals as goal

pub meet_for-requires : goal.meet_for-requires
meet_for-requires g c =
    subst (λ (rs : List Request). CanRecord c.in-Ok.svc rs) (sym c.as_slice.ensures)
    (subst (λ (d : Declarations). CanRecord d c.args.scenario.now.requests) (sym c.in-Ok.ensures.same) (can_record c.args.service c.args.scenario.now.requests c.requires.plain c.requires.fits.requests))
