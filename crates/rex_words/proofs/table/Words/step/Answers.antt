use Rattle.rex_words.proofs.Turning.{is_done, chosen}
use Rattle.rex_words.specs.Tables.{assignment_of}
use Rattle.rex_syntax.specs.declared.service.Declarations.{Declarations}
use Rattle.std.proofs.Common.{subst, sym, ◌+◌}
use Rattle.rex_words.specs.Seats.{IsAppended}
use Rattle.rex_words.proofs.table.Words.step.Goals as goal

pub returns-in-Alone-clause-turn : goal.returns-in-Alone-clause-turn
returns-in-Alone-clause-turn c = is_done _ c.requires.words.whole.right _ _ c.requires.seat _ (chosen (assignment_of c.args.self.now) c.args.self.now.svc.now c.args.me.now c.in-Alone.kind c.requires.words.whole.service_is (sym c.in-Alone.ensures)) c.do_alone.new.self c.do_alone.result c.do_alone.ensures.event
    (subst (λ (d : Declarations). IsAppended d c.args.me.now c.do_alone.new.self c.do_alone.result (c.args.me.now.stamp + 1)) c.requires.words.whole.service_is c.do_alone.ensures.appended)
