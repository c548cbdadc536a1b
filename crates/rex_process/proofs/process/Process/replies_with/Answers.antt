use Rattle.std.proofs.Common.{arith, ◌≡◌, true, false, List, IfOk, Some, is_some, sym, ap, subst, ◌∙◌}
use Rattle.std.specs.Option.{option_copied}
use Rattle.rex_report.specs.declared.effect.Effect.{Effect}
use Rattle.rex_report.specs.declared.effect.Role.{Role as RoleName}
use Rattle.rex_paxos.specs.Counting.{IsOneOf}
use Rattle.rex_cluster.specs.Node.{Role, role_name}
use Rattle.rex_cluster.specs.Records.{known}
use Rattle.rex_cluster.specs.Calls.{begin}
use Rattle.rex_cluster.specs.Values.{Value}
use Rattle.rex_node.specs.Electing.{acceptance_vote_on}
use Rattle.rex_node.specs.Parts.{open_value, role_of}
use Rattle.rex_process.specs.Foretelling as spec
use Rattle.rex_process.specs.Process.{ProcessValue, here}
use Rattle.rex_process.proofs.Foreseen.{else_tells_none, quorum_tells_open, replies_if}
use Rattle.rex_process.proofs.Standing.{up_is}
use Rattle.rex_process.proofs.process.Process.replies_with.Goals as goal

pub returns-then-not-is_quorum : goal.returns-then-not-is_quorum
returns-then-not-is_quorum g c =
    let p : ProcessValue g.row.K.Denot = c.args.self.now in
    let x = here g.K.Keeper.records p in
    let one : IsOneOf p.node.nodes c.args.from = record { first = let a = c.requires.from.0 in omega arith; last = c.requires.from.1 } in
    let vote : c.acceptance_vote.result ≡ acceptance_vote_on p.node.proposer c.args.ballot c.args.instance c.args.from =
    c.acceptance_vote.ensures ∙ ap (λ (q : ProcessValue g.row.K.Denot). acceptance_vote_on q.node.proposer c.args.ballot c.args.instance c.args.from) c.self.view_is in
    let few : spec.is_quorum (acceptance_vote_on p.node.proposer c.args.ballot c.args.instance c.args.from) ≡ false =
    ap spec.is_quorum (sym vote) ∙ (sym c.is_quorum.ensures ∙ c.if-not-is_quorum.true) in
    c.new.ensures
    ∙ sym (else_tells_none p.service p.node.seed (known x.log) p.node.nodes p.node.id p.node.acceptor (is_some p.node.acting) c.args.from c.args.ballot c.args.instance one (begin x) p.node.proposer
    (up_is g.K.Keeper.records p.service p.node c.requires.process.node c.requires.process.plain c.requires.up).proposer few)

pub returns-in-Some : goal.returns-in-Some
returns-in-Some g c =
    let p : ProcessValue g.row.K.Denot = c.args.self.now in
    let x = here g.K.Keeper.records p in
    let one : IsOneOf p.node.nodes c.args.from = record { first = let a = c.requires.from.0 in omega arith; last = c.requires.from.1 } in
    let vote : c.acceptance_vote.result ≡ acceptance_vote_on p.node.proposer c.args.ballot c.args.instance c.args.from =
    c.acceptance_vote.ensures ∙ ap (λ (q : ProcessValue g.row.K.Denot). acceptance_vote_on q.node.proposer c.args.ballot c.args.instance c.args.from) c.self.view_is in
    let most : spec.is_quorum (acceptance_vote_on p.node.proposer c.args.ballot c.args.instance c.args.from) ≡ true =
    ap spec.is_quorum (sym vote) ∙ (sym c.is_quorum.ensures ∙ c.if-not-is_quorum.false) in
    let role : Role Value = role_of p.node.acceptor p.node.proposer (is_some p.node.acting) in
    let named : c.role.result ≡ role_name role = c.role.ensures ∙ ap (λ (q : ProcessValue g.row.K.Denot). role_name (role_of q.node.acceptor q.node.proposer (is_some q.node.acting))) c.self.view_is in
    let opened : option_copied c.open_value.result ≡ open_value role = c.open_value.ensures ∙ ap (λ (q : ProcessValue g.row.K.Denot). open_value (role_of q.node.acceptor q.node.proposer (is_some q.node.acting))) c.self.view_is in
    let value : Some c.in-Some.value.now ≡ spec.active_value (role_name role) (open_value role) =
    c.in-Some.ensures ∙ (ap (λ (n : RoleName). spec.active_value n (option_copied c.open_value.result)) named ∙ ap (spec.active_value (role_name role)) opened) in
    let told = quorum_tells_open p.service p.node.seed (known x.log) p.node.nodes p.node.id p.node.acceptor (is_some p.node.acting) c.args.from c.args.ballot c.args.instance one (begin x) p.node.proposer
    (up_is g.K.Keeper.records p.service p.node c.requires.process.node c.requires.process.plain c.requires.up).proposer most in
    subst (λ (es : List Effect). IfOk c.replies_of.result (λ effects. effects ≡ es)) (sym (told ∙ ap (replies_if p.service (known x.log)) (sym value))) c.replies_of.ensures
