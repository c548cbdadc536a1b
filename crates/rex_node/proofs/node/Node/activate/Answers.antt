use Rattle.rex_node.proofs.Common.{◌≡◌, length, ap, ◌∙◌, unwrap_or, run_keeps, start_keeps, whole, knows, reached_at}
use Rattle.rex_gate.proofs.Noted.{some_entries}
use Rattle.rex_node.proofs.Rounds.{activated_is}
use Rattle.rex_node.proofs.node.Node.activate.Goals as goal

pub at-requires : goal.at-requires
at-requires g c =
    some_entries _ _
    (run_keeps _ _ _ _ c.declarations-service.ensures.sound (start_keeps _ c.declarations-service.ensures.sound c.declarations-service.ensures.checked) c.in_ok-state.ensures.runs)

pub returns-clause-active : goal.returns-clause-active
returns-clause-active g c =
    let many : c.count-known.result ≡ length (knows g.P.Past.past c.args.self.now) = c.count-known.ensures.known in
    record {
      state = c.in_ok-state.state;
      runs = c.in_ok-state.ensures.runs;
      sound = run_keeps _ _ _ _ c.declarations-service.ensures.sound (start_keeps _ c.declarations-service.ensures.sound c.declarations-service.ensures.checked) c.in_ok-state.ensures.runs;
      is = activated_is _ _ (ap (λ x. whole g.P.Past.past x) c.self.view_is) _ _ _ _ _ _ _ _ _ many c.in_ok-recorder.ensures.started
          (c.unwrap_or-ballot.ensures ∙ ap (λ o. unwrap_or o 0) c.own_ballot.ensures) (ap (λ n. n.seed) c.self.view_is) c.new-dice.ensures c.new-counts.ensures c.in_ok-answers.ensures
          (c.in_ok-reached.ensures ∙ ap (λ o. reached_at o c.self.inside.base c.count-known.result c.in_ok-state.state) c.offset.ensures ∙ ap (λ n. reached_at n.offset n.base c.count-known.result c.in_ok-state.state) c.self.view_is);
    }
