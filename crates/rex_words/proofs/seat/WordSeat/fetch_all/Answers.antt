use Rattle.std.proofs.Common.{ap, ◌∙◌, eq-eqb}
use Rattle.rex_syntax.specs.declared.service.Declarations.{Declarations}
use Rattle.rex_words.proofs.Fetching.{more_loaded, guard_is, preparing_trans}
use Rattle.rex_words.proofs.seat.WordSeat.fetch_all.Goals as goal

pub loop-variable-preserved : goal.loop-variable-preserved
loop-variable-preserved c =
    let same = c.as_slice-variables.ensures ∙ ap (λ (d : Declarations). d.variables) (c.declarations-service.ensures.whole ∙ c.requires.service) in
    let is = guard_is c.args.words.now.key _ c.loop-variable.variable c.index-variables-variable.result same c.loop-variable-test.true in
    record {
      settled = c.fetch_if.ensures.settled;
      fetching = c.fetch_if.ensures.fetching;
      preparing = preparing_trans _ _ _ c.loop-variable.invariant.preparing c.fetch_if.ensures.preparing;
      loaded = more_loaded _ _ _ _ _ _ c.loop-variable.invariant.loaded c.fetch_if.ensures.kept (λ g. eq-eqb _ _ (is ∙ g)) c.fetch_if.ensures.loaded;
    }
