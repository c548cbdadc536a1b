use Rattle.std.proofs.Common.{List, ℕ, subst}
use Rattle.std.proofs.lemmas.Result.{IfErr-weaker, IfOk-weaker}
use Rattle.rex_traits.proofs.Known.{for_growth}
use Rattle.rex_traits.specs.Inputs.{IsWholeInput}
use Rattle.rexnode_cli.specs.Loading.{IsLoaded, IsRefusal}
use Rattle.rexnode_cli.proofs.Refusals.{of_any}
use Rattle.rexnode_cli.proofs.loading.load_service.Goals as goal

pub returns-in-Ok-clause-loaded : goal.returns-in-Ok-clause-loaded
returns-in-Ok-clause-loaded g c =
    IfOk-weaker c.load_text.result _ _
    (λ l loaded. for_growth (g.S.Source.given c.args.source.now) (g.S.Source.given c.read_input.new.source) c.in-Ok.input.bytes.items (λ text. IsLoaded text l) c.in-Ok.ensures.given
    (subst (λ (bytes : List ℕ). IsLoaded bytes l) c.deref.ensures.value loaded))
    c.load_text.ensures.loaded

pub returns-in-Ok-clause-refused : goal.returns-in-Ok-clause-refused
returns-in-Ok-clause-refused g c =
    IfErr-weaker c.load_text.result _ _
    (λ e refused. for_growth (g.S.Source.given c.args.source.now) (g.S.Source.given c.read_input.new.source) c.in-Ok.input.bytes.items (λ text. IsRefusal text e) c.in-Ok.ensures.given
    (subst (λ (bytes : List ℕ). IsRefusal bytes e) c.deref.ensures.value refused))
    c.load_text.ensures.refused

pub returns-in-Ok-clause-whole : goal.returns-in-Ok-clause-whole
returns-in-Ok-clause-whole g c =
    IfOk-weaker c.load_text.result _ _
    (λ l loaded. for_growth (g.S.Source.given c.args.source.now) (g.S.Source.given c.read_input.new.source) c.in-Ok.input.bytes.items
    (IsWholeInput (g.S.Source.ended c.read_input.new.source) (g.S.Source.left c.args.source.now) (g.S.Source.left c.read_input.new.source))
    c.in-Ok.ensures.given c.in-Ok.ensures.whole)
    c.load_text.ensures.loaded

pub returns-in-Ok-clause-whole_refused : goal.returns-in-Ok-clause-whole_refused
returns-in-Ok-clause-whole_refused g c =
    IfErr-weaker c.load_text.result _ _
    (λ e refused. of_any _ e (for_growth (g.S.Source.given c.args.source.now) (g.S.Source.given c.read_input.new.source) c.in-Ok.input.bytes.items
    (IsWholeInput (g.S.Source.ended c.read_input.new.source) (g.S.Source.left c.args.source.now) (g.S.Source.left c.read_input.new.source))
    c.in-Ok.ensures.given c.in-Ok.ensures.whole))
    c.load_text.ensures.refused
