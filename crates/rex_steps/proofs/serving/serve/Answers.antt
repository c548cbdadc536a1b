use Rattle.std.proofs.Common.{rules, ◌≡◌, ◌∙◌, ℕ, ℤ, to_z, of_z, w64, IfOk, true, refl, sym, subst, None, Some}
use Rattle.std.specs.Option.{option_copied}
use Rattle.rex_cluster.specs.Lanes.{CallHere, effect_of, submit_request, turn_effect, turned}
use Rattle.rex_cluster.specs.Calls.{checkpoint, drop_known, elect, replay}
use Rattle.rex_cluster.specs.Lanes as lanes
use Rattle.rex_cluster.specs.Values.{service_of}
use Rattle.rex_node.specs.Parts.{here_of}
use Rattle.rex_node.specs.Calls.{counts_for, turn_at}
use Rattle.rex_steps.specs.Steps.{IsStepOf}
use Rattle.rex_steps.proofs.Refusing.{checkpoint_excused, drop_excused, elect_excused, replay_excused, spared_if}
use Rattle.rex_steps.proofs.Served.{answer_told, checkpoint_sends, cut_due, cut_then, drop_sends, kept_ends, on_if_ok, refused_first, replay_sends, replay_told, serves_active, serves_then, silent_step, spares_same, turn_effects, turn_node, turn_told}
use Rattle.rex_steps.proofs.serving.serve.Goals as goal

pub returns-in-Elect-clause-serves : goal.returns-in-Elect-clause-serves
returns-in-Elect-clause-serves g c =
    let up : c.args.node.now.up ≡ true = sym c.is_up.ensures ∙ c.if-not-is_up.false in
    rw c.in-Elect.is
    (serves_then g.K.Keeper.records g.K.Keeper.append_gives g.K.Keeper.faults c.args.svc.now g.P.Past.past c.args.node.now c.elect.new.self (elect c.args.node.now.nodes (service_of c.args.svc.now c.args.node.now.seed) c.args.node.now.id) up _ None
    (elect_excused c.args.node.now.id (here_of g.K.Keeper.records c.args.svc.now g.P.Past.past c.args.node.now) c.args.node.now.nodes (service_of c.args.svc.now c.args.node.now.seed)) (λ _. tt)
    c.elect.result (refused_first _ c.elect.result c.elect.ensures.refused) c.elect.ensures.same c.elect.ensures.told c.elect.ensures.down c.elect.ensures.tells c.told.result (subst (λ (k : ℕ). IsStepOf k c.elect.result c.told.result) c.id-id.ensures c.told.ensures))

pub returns-in-Submit-clause-serves : goal.returns-in-Submit-clause-serves
returns-in-Submit-clause-serves g c =
    let up : c.args.node.now.up ≡ true = sym c.is_up.ensures ∙ c.if-not-is_up.false in
    rw c.in-Submit.is
    (serves_active g.K.Keeper.records g.K.Keeper.append_gives g.K.Keeper.faults c.args.svc.now g.P.Past.past c.args.node.now c.submit-outcome.new.self (effect_of c.in-Submit.request.now) (answer_told c.in-Submit.request.now c.args.node.now.id) (submit_request c.args.svc.now (Some c.in-Submit.request.now)) refl up c.submit-outcome.ensures.keeper
    c.submit-outcome.result c.answered.result c.submit-outcome.ensures.refused c.submit-outcome.ensures.told (on_if_ok _ c.submit-outcome.result c.submit-outcome.ensures.node) c.submit-outcome.ensures.same c.answered.ensures c.told-in-Submit.result (subst (λ (k : ℕ). IsStepOf k c.answered.result c.told-in-Submit.result) c.id-id.ensures c.told-in-Submit.ensures))

pub returns-in-Lane-clause-serves : goal.returns-in-Lane-clause-serves
returns-in-Lane-clause-serves g c =
    let up : c.args.node.now.up ≡ true = sym c.is_up.ensures ∙ c.if-not-is_up.false in
    let same : to_z w64 (of_z w64 c.in-Lane.clock) ≡ c.in-Lane.clock = search rules in
    let told : IfOk c.lane-outcome.result (λ t. t ≡ turn_at c.args.svc.now (here_of g.K.Keeper.records c.args.svc.now g.P.Past.past c.args.node.now) c.in-Lane.lane c.in-Lane.clock) =
    subst (λ (clock : ℤ). IfOk c.lane-outcome.result (λ t. t ≡ turn_at c.args.svc.now (here_of g.K.Keeper.records c.args.svc.now g.P.Past.past c.args.node.now) c.in-Lane.lane clock)) same c.lane-outcome.ensures.told in
    rw c.in-Lane.is
    (serves_active g.K.Keeper.records g.K.Keeper.append_gives g.K.Keeper.faults c.args.svc.now g.P.Past.past c.args.node.now c.lane-outcome.new.self (turn_effect c.in-Lane.lane) (turn_told c.in-Lane.lane c.args.node.now.id) (λ (d : CallHere). turned c.args.svc.now c.in-Lane.lane (turn_at c.args.svc.now d.node c.in-Lane.lane c.in-Lane.clock) d) refl up c.lane-outcome.ensures.keeper
    c.lane-outcome.result c.turned.result c.lane-outcome.ensures.refused (turn_effects c.args.svc.now (here_of g.K.Keeper.records c.args.svc.now g.P.Past.past c.args.node.now) (here_of g.K.Keeper.records c.args.svc.now g.P.Past.past c.lane-outcome.new.self) c.in-Lane.lane c.in-Lane.clock c.lane-outcome.result told) (turn_node c.args.svc.now (here_of g.K.Keeper.records c.args.svc.now g.P.Past.past c.args.node.now) (here_of g.K.Keeper.records c.args.svc.now g.P.Past.past c.lane-outcome.new.self) c.in-Lane.lane c.in-Lane.clock c.lane-outcome.result told c.lane-outcome.ensures.node) c.lane-outcome.ensures.same c.turned.ensures c.told-in-Lane.result (subst (λ (k : ℕ). IsStepOf k c.turned.result c.told-in-Lane.result) c.id-id.ensures c.told-in-Lane.ensures))

pub returns-in-Cut-clause-serves : goal.returns-in-Cut-clause-serves
returns-in-Cut-clause-serves g c =
    let up : c.args.node.now.up ≡ true = sym c.is_up.ensures ∙ c.if-not-is_up.false in
    rw c.in-Cut.is
    (serves_then g.K.Keeper.records g.K.Keeper.append_gives g.K.Keeper.faults c.args.svc.now g.P.Past.past c.args.node.now c.cut.new.self (lanes.cut c.args.svc.now c.args.node.now.seed c.args.node.now.nodes c.args.node.now.id (counts_for c.args.svc.now (here_of g.K.Keeper.records c.args.svc.now g.P.Past.past c.args.node.now) (option_copied c.in-Cut.limits))) up _ _
    (cut_due g.K.Keeper.records c.args.svc.now g.P.Past.past c.args.node.now c.requires.node up (counts_for c.args.svc.now (here_of g.K.Keeper.records c.args.svc.now g.P.Past.past c.args.node.now) (option_copied c.in-Cut.limits))) (cut_then g.K.Keeper.records c.args.svc.now g.P.Past.past c.args.node.now c.requires.node up (counts_for c.args.svc.now (here_of g.K.Keeper.records c.args.svc.now g.P.Past.past c.args.node.now) (option_copied c.in-Cut.limits)))
    c.cut.result c.cut.ensures.refused c.cut.ensures.same c.cut.ensures.told c.cut.ensures.down c.cut.ensures.tells c.told-in-Cut.result (subst (λ (k : ℕ). IsStepOf k c.cut.result c.told-in-Cut.result) c.id-id.ensures c.told-in-Cut.ensures))

pub returns-in-Replay-clause-serves : goal.returns-in-Replay-clause-serves
returns-in-Replay-clause-serves g c =
    let up : c.args.node.now.up ≡ true = sym c.is_up.ensures ∙ c.if-not-is_up.false in
    rw c.in-Replay.is
    (serves_then g.K.Keeper.records g.K.Keeper.append_gives g.K.Keeper.faults c.args.svc.now g.P.Past.past c.args.node.now c.replay.new.self (replay c.args.node.now.id) up _ None
    (replay_excused c.args.node.now.id (here_of g.K.Keeper.records c.args.svc.now g.P.Past.past c.args.node.now)) (λ _. tt)
    c.replay.result (refused_first _ c.replay.result c.replay.ensures.refused) (spared_if c.replay.result c.args.node.now c.replay.new.self c.replay.ensures.same) c.replay.ensures.told
    (kept_ends g.K.Keeper.records g.K.Keeper.append_gives g.K.Keeper.faults c.args.svc.now g.P.Past.past c.args.node.now c.replay.new.self (replay c.args.node.now.id) c.replay.result (replay_told c.args.node.now.id (here_of g.K.Keeper.records c.args.svc.now g.P.Past.past c.args.node.now)) c.replay.ensures.keeper c.replay.ensures.told)
    (silent_step g.K.Keeper.records g.K.Keeper.append_gives g.K.Keeper.faults c.args.svc.now g.P.Past.past c.args.node.now c.replay.new.self (replay c.args.node.now.id) c.replay.result (replay_sends c.args.node.now.id) c.replay.ensures.told) c.told-in-Replay.result (subst (λ (k : ℕ). IsStepOf k c.replay.result c.told-in-Replay.result) c.id-id.ensures c.told-in-Replay.ensures))

pub returns-in-Checkpoint-clause-serves : goal.returns-in-Checkpoint-clause-serves
returns-in-Checkpoint-clause-serves g c =
    let up : c.args.node.now.up ≡ true = sym c.is_up.ensures ∙ c.if-not-is_up.false in
    rw c.in-Checkpoint.is
    (serves_then g.K.Keeper.records g.K.Keeper.append_gives g.K.Keeper.faults c.args.svc.now g.P.Past.past c.args.node.now c.checkpoint_in.new.self (checkpoint c.in-Checkpoint.version (service_of c.args.svc.now c.args.node.now.seed) c.args.node.now.id) up _ None
    (checkpoint_excused c.args.node.now.id (here_of g.K.Keeper.records c.args.svc.now g.P.Past.past c.args.node.now) c.in-Checkpoint.version (service_of c.args.svc.now c.args.node.now.seed)) (λ _. tt)
    c.checkpoint_in.result (refused_first _ c.checkpoint_in.result c.checkpoint_in.ensures.refused) c.checkpoint_in.ensures.same c.checkpoint_in.ensures.told c.checkpoint_in.ensures.down
    (silent_step g.K.Keeper.records g.K.Keeper.append_gives g.K.Keeper.faults c.args.svc.now g.P.Past.past c.args.node.now c.checkpoint_in.new.self (checkpoint c.in-Checkpoint.version (service_of c.args.svc.now c.args.node.now.seed) c.args.node.now.id) c.checkpoint_in.result (checkpoint_sends c.in-Checkpoint.version (service_of c.args.svc.now c.args.node.now.seed) c.args.node.now.id) c.checkpoint_in.ensures.told) c.told-in-Checkpoint.result (subst (λ (k : ℕ). IsStepOf k c.checkpoint_in.result c.told-in-Checkpoint.result) c.id-id.ensures c.told-in-Checkpoint.ensures))

pub returns-in-DropKnown-clause-serves : goal.returns-in-DropKnown-clause-serves
returns-in-DropKnown-clause-serves g c =
    let up : c.args.node.now.up ≡ true = sym c.is_up.ensures ∙ c.if-not-is_up.false in
    rw c.in-DropKnown.is
    (serves_then g.K.Keeper.records g.K.Keeper.append_gives g.K.Keeper.faults c.args.svc.now g.P.Past.past c.args.node.now c.drop_known.new.self (drop_known c.args.node.now.id) up _ None
    (drop_excused c.args.node.now.id (here_of g.K.Keeper.records c.args.svc.now g.P.Past.past c.args.node.now)) (λ _. tt)
    c.drop_known.result (refused_first _ c.drop_known.result c.drop_known.ensures.refused) c.drop_known.ensures.same c.drop_known.ensures.told c.drop_known.ensures.down
    (silent_step g.K.Keeper.records g.K.Keeper.append_gives g.K.Keeper.faults c.args.svc.now g.P.Past.past c.args.node.now c.drop_known.new.self (drop_known c.args.node.now.id) c.drop_known.result (drop_sends c.args.node.now.id) c.drop_known.ensures.told) c.told-in-DropKnown.result (subst (λ (k : ℕ). IsStepOf k c.drop_known.result c.told-in-DropKnown.result) c.id-id.ensures c.told-in-DropKnown.ensures))

pub returns-then-not-is_up-clause-spares : goal.returns-then-not-is_up-clause-spares
returns-then-not-is_up-clause-spares g c = spares_same c.args.call.now c.args.node.now
