use Rattle.std.proofs.Common.{[], sym}
use Rattle.std.specs.Borrow.{Bor}
use Rattle.rex_text.specs.Text.{Word}
use Rattle.rex_parse.proofs.PlainLines.{random_after}
use Rattle.rex_parse.proofs.language.Above.random_line.Goals as goal

pub returns-in_ok-push_line-clause-takes : goal.returns-in_ok-push_line-clause-takes
returns-in_ok-push_line-clause-takes c =
    let d : Bor Word = record { ref_ptr = (0, 0); now = [] } in (
      sym c.in_default.ensures,
      random_after c.args.self.now c.make_local.new.self c.push_line.new.self c.args.words.now d c.args.number c.local_place-local.result
          c.in-len1-up.len_at_least c.in_ok-make_local.ensures.taken c.local_place-local.ensures.place c.in_ok-push_line.ensures.taken,
    )
