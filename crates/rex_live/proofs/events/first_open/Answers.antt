use Rattle.std.proofs.Common.{length, sym, ◌∙◌, subst}
use Rattle.rex_live.specs.Places.{IsLeastBelow}
use Rattle.rex_live.proofs.Opens.{first_open_is}
use Rattle.rex_live.proofs.events.first_open.Goals as goal

pub returns : goal.returns
returns c =
    let p = c.requires.places in
    c.request_at.ensures
    ∙ first_open_is c.args.svc.now c.args.requests.now c.args.state.now c.args.lane _ _ _ p.are p.entries c.first_open.result
    (subst (IsLeastBelow c.args.state.now.clients c.args.places.now.wanted.items (length c.args.requests.now) 257) (sym c.first_open.ensures) p.open_at) c.requires.there c.requires.idle
