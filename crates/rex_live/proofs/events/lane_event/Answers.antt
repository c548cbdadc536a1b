use Rattle.std.proofs.Common.{sym, subst}
use Rattle.std.specs.Prelude.{Option, IfSome}
use Rattle.rex_syntax.specs.declared.service.Declarations.{Declarations}
use Rattle.rex_frame.specs.declared.frame.Frame.{Frame}
use Rattle.rex_record.specs.Stand.{StandsAt}
use Rattle.rex_live.proofs.events.lane_event.Goals as goal

-- a busy lane stands at a line of its handler
pub busy_turn-requires : goal.busy_turn-requires
busy_turn-requires c = record {
  stands =
      subst (λ (x : Declarations). StandsAt x c.args.state.now c.in-Some.frame.now) (sym c.declarations-service.ensures.whole)
      (let P : Option Frame → Type 0 = λ o. IfSome o (StandsAt c.args.svc.now c.args.state.now) in subst P (sym c.in-Some.ensures) c.requires.stands);
}
