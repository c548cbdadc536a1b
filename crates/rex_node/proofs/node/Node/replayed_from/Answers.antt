use Rattle.rex_node.proofs.Common.{◌≡◌, ◌-◌, drop, sym, ap, subst, ◌∙◌, arith, count_of}
use Rattle.std.proofs.Common.{IfOk}
use Rattle.std.specs.Prelude.{Some}
use Rattle.rex_node.proofs.Knows.{knows_after, many_known}
use Rattle.rex_node.proofs.ReplayLemmas.{from_sound, rest_runs, rest_runs_to}
use Rattle.rex_node.proofs.node.Node.replayed_from.Goals as goal

pub after-rest-requires-clause-from : goal.after-rest-requires-clause-from
after-rest-requires-clause-from g c = let held = c.requires.held in omega (arith, held, ap (λ x. x.offset) c.self.view_is)

pub after-rest-requires-clause-to : goal.after-rest-requires-clause-to
after-rest-requires-clause-to g c = let among = c.requires.among in omega (arith, among, many_known g.P.Past.past c.args.self.now, ap (λ x. count_of x) c.self.view_is)

pub replay_values-requires-clause-sound : goal.replay_values-requires-clause-sound
replay_values-requires-clause-sound g c = from_sound c.requires.node c.requires.up _ c.requires.from c.declarations-service.ensures.sound c.declarations-service.ensures.checked

pub replay_values-requires-clause-runs : goal.replay_values-requires-clause-runs
replay_values-requires-clause-runs g c = rest_runs c.requires.node c.requires.up c.args.count c.requires.from (c.after-rest.ensures ∙ ap (λ x. drop (c.args.count - x.offset) x.known) c.self.view_is
    ∙ sym (knows_after g.P.Past.past c.args.self.now c.requires.held))

pub returns : goal.returns
returns g c = record {
  runs = subst (λ o. IfOk c.replay_values.result (λ s. o ≡ Some s))
      (rest_runs_to c.requires.node c.requires.up c.args.count c.requires.from (c.after-rest.ensures ∙ ap (λ x. drop (c.args.count - x.offset) x.known) c.self.view_is
      ∙ sym (knows_after g.P.Past.past c.args.self.now c.requires.held))) c.replay_values.ensures.runs;
}
