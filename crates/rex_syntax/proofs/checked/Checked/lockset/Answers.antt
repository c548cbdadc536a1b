use Rattle.std.proofs.Common.{◌≡◌, List, length, Some, slice_get, ap, subst, sym, ◌∙◌, refl}
use Rattle.std.proofs.lemmas.Option.{same_Some, slice_get_read, slice_get_within}
use Rattle.rex_syntax.specs.declared.line.Line.{Line}
use Rattle.rex_syntax.specs.declared.service.Handler.{Handler}
use Rattle.rex_syntax.specs.declared.service.Declarations.{Declarations}
use Rattle.rex_syntax.specs.Flow.{IsFlow}
use Rattle.rex_syntax.proofs.checked.Checked.lockset.Goals as goal

pub returns : goal.returns
returns c = λ h flow there right.
    let all : c.as_slice-handlers.result.now ≡ c.args.self.now.handlers = c.as_slice-handlers.ensures ∙ ap (λ (d : Declarations). d.handlers) c.declarations.ensures.whole in
    let read : slice_get c.args.self.now.handlers c.args.handler ≡ Some c.index-handlers-handler.result =
    slice_get_read c.args.self.now.handlers (length c.args.self.now.handlers) c.args.handler _ refl (slice_get_within _ _ _ there) (rw all at c.index-handlers-handler.is) in
    let same : c.index-handlers-handler.result ≡ h = same_Some _ h (sym read ∙ there) in
    let lines : c.as_slice.result.now ≡ h.lines = c.as_slice.ensures ∙ ap (λ (x : Handler). x.lines) (sym c.index-handlers-handler.is ∙ same) in
    c.held_at.ensures c.args.self.now flow (let P : List Line → Type 0 = λ ls. IsFlow c.args.self.now ls flow in subst P (sym lines) right)
