use Rattle.std.proofs.Common.{◌≡◌, ◌++◌, List, ℕ, ◌∷◌, subst, rules}
use Rattle.std.specs.Prelude.{OnOk}
use Rattle.rex_frames.specs.Frames.{frame_of}
use Rattle.rex_frames.proofs.Rows.{text_is}
use Rattle.rex_frames.proofs.answering.push_effect.Goals as goal

pub returns-clause-ok : goal.returns-clause-ok
returns-clause-ok c =
    subst (λ (text : List ℕ). OnOk c.push_frame.result (c.push_frame.new.out.items ≡ c.args.out.now.items ++ frame_of (101 ∷ text)))
    (text_is c.args.service.now c.args.effect.now c.deref.result.now c.len.result (search rules) (search rules)) c.push_frame.ensures.ok
