use Rattle.std.proofs.Common.{◌+◌, IsTrue, Some, inl, inr, sym, ◌∙◌, ap, subst}
use Rattle.rex_disk.specs.Stops.{overwritten}
use Rattle.rex_journal.specs.Journal.{StandsFor}
use Rattle.rex_journal.proofs.Committing.{commit_front, commit_settled}
use Rattle.rex_disk.proofs.Moments.{moves_on, widen}
use Rattle.rex_journal.proofs.Steps.{staged, torn_behind, torn_open}
use Rattle.rex_journal.proofs.file.commit.Goals as goal

pub returns-in-Err-clause-any_moment : goal.returns-in-Err-clause-any_moment
returns-in-Err-clause-any_moment g c = λ records one_more meets s is short.
    widen g.D.Disk.moment g.D.Disk.left_since (c.write_through.ensures.any_moment meets (s.durable meets)) (λ image torn. inr (inl (torn_behind records c.args.gate s.place _ _ image (s.front meets) torn)))

pub returns-in-Err-clause-front : goal.returns-in-Err-clause-front
returns-in-Err-clause-front g c = λ records one_more s is short.
    record {
      place = s.place;
      short = s.short;
      front = λ met.
          let meets = subst IsTrue c.write_through.ensures.model met in
          let all = c.write_through.ensures.any_moment meets (s.durable meets) in
          (all.each (g.D.Disk.seen c.write_through.new.disk) (g.met.D.Disk.counts_now c.write_through.new.disk (g.D.Disk.moment c.args.disk.now) (g.D.Disk.seen c.write_through.new.disk) met all.later (g.met.D.Disk.leaves_seen c.write_through.new.disk met))).before ∙ s.front meets;
    }

pub returns-in-Ok-clause-any_moment : goal.returns-in-Ok-clause-any_moment
returns-in-Ok-clause-any_moment g c = λ records one_more meets s is short.
    let first = widen g.D.Disk.moment g.D.Disk.left_since {Q = StandsFor records (Some one_more)} (c.write_through.ensures.any_moment meets (s.durable meets)) (λ image torn. inr (inl (torn_behind records c.args.gate s.place _ _ image (s.front meets) torn))) in
    let still = subst IsTrue (sym c.write_through.ensures.model) meets in
    let is_staged = c.in-Ok.ensures.written meets ∙ ap (λ l. overwritten (c.args.gate + 1) l (g.D.Disk.seen c.args.disk.now)) is ∙ staged records c.args.gate s.place one_more _ (s.front meets) in
    moves_on g.D.Disk.moment g.D.Disk.left_since first (widen g.D.Disk.moment g.D.Disk.left_since (c.open_gate.ensures.any_moment still (c.in-Ok.ensures.durable meets)) (λ image torn. inr (inr (torn_open records c.args.gate s.place one_more _ _ image short is_staged torn))))

pub returns-in-Ok-clause-settled : goal.returns-in-Ok-clause-settled
returns-in-Ok-clause-settled g c = λ records one_more s is short.
    commit_settled g.D.Disk.meets g.D.Disk.seen g.D.Disk.may_leave c.args.disk.now c.write_through.new.disk c.open_gate.new.disk records one_more c.args.spelled.now c.args.gate s is short c.in-Ok.ensures.written c.write_through.ensures.model c.open_gate.ensures.model c.open_gate.result c.in-Ok.ensures.length c.open_gate.ensures.written c.open_gate.ensures.durable c.open_gate.ensures.length

pub returns-in-Ok-clause-front : goal.returns-in-Ok-clause-front
returns-in-Ok-clause-front g c = λ records one_more s is short.
    commit_front g.D.Disk.meets g.D.Disk.seen g.D.Disk.may_leave c.args.disk.now c.write_through.new.disk c.open_gate.new.disk records one_more c.args.spelled.now c.args.gate s is short c.in-Ok.ensures.written c.write_through.ensures.model c.open_gate.ensures.model g.D.Disk.gives c.open_gate.result c.open_gate.ensures.written c.open_gate.ensures.calls
