use Rattle.std.proofs.Common.{IsTrue, [], ◌∷◌, ◌++◌, sym, ◌∙◌, ap, subst}
use Rattle.rex_journal.specs.Journal.{StandsFor}
use Rattle.rex_journal.specs.Opening.{IsFound}
use Rattle.rex_journal.proofs.Closing.{closing_keeps, found_front}
use Rattle.rex_journal.proofs.Making.{goes_then, looks_go, opens_failed, opens_unwritten, write_ends}
use Rattle.rex_disk.proofs.Moments.{moves_on, widen}
use Rattle.rex_journal.proofs.Refusing.{fails_good}
use Rattle.rex_journal.proofs.BytesLaws.{bad_none}
use Rattle.rex_journal.proofs.file.recover.Goals as goal

pub returns-in_err-close_gate-clause-any_moment : goal.returns-in_err-close_gate-clause-any_moment
returns-in_err-close_gate-clause-any_moment g c = λ records pending meets short all.
    let still = subst IsTrue (sym c.read_synced.ensures.model) meets in
    let is = c.deref-2.ensures.value ∙ c.in_ok-bytes.ensures.bytes meets ∙ sym (c.read_synced.ensures.seen meets) in
    let found = subst (λ l. IsFound l c.in_ok-found.found.records.items c.in_ok-found.found.gate) (c.deref.ensures.value ∙ c.in_ok-bytes.ensures.bytes meets ∙ sym (c.read_synced.ensures.seen meets)) c.in_ok-found.ensures.found in
    let stands = subst (StandsFor records pending) (sym (c.read_synced.ensures.seen meets)) (all _ (g.met.D.Disk.leaves_seen c.args.disk.now meets)) in
    moves_on g.D.Disk.moment g.D.Disk.left_since (widen g.D.Disk.moment g.D.Disk.left_since (c.read_synced.ensures.any_moment meets) all)
    (widen g.D.Disk.moment g.D.Disk.left_since (c.close_gate.ensures.any_moment still is (c.in_ok-bytes.ensures.durable meets)) (λ image closing. closing_keeps _ c.in_ok-found.found.records.items records c.in_ok-found.found.gate found short pending image stands closing))

pub returns-clause-any_moment : goal.returns-clause-any_moment
returns-clause-any_moment g c = λ records pending meets short all.
    let still = subst IsTrue (sym c.read_synced.ensures.model) meets in
    let is = c.deref-2.ensures.value ∙ c.in_ok-bytes.ensures.bytes meets ∙ sym (c.read_synced.ensures.seen meets) in
    let found = subst (λ l. IsFound l c.in_ok-found.found.records.items c.in_ok-found.found.gate) (c.deref.ensures.value ∙ c.in_ok-bytes.ensures.bytes meets ∙ sym (c.read_synced.ensures.seen meets)) c.in_ok-found.ensures.found in
    let stands = subst (StandsFor records pending) (sym (c.read_synced.ensures.seen meets)) (all _ (g.met.D.Disk.leaves_seen c.args.disk.now meets)) in
    moves_on g.D.Disk.moment g.D.Disk.left_since (widen g.D.Disk.moment g.D.Disk.left_since (c.read_synced.ensures.any_moment meets) all)
    (widen g.D.Disk.moment g.D.Disk.left_since (c.close_gate.ensures.any_moment still is (c.in_ok-bytes.ensures.durable meets)) (λ image closing. closing_keeps _ c.in_ok-found.found.records.items records c.in_ok-found.found.gate found short pending image stands closing))

pub returns-clause-settled : goal.returns-clause-settled
returns-clause-settled g c = record {
  within = c.in_ok-close_gate.ensures.within;
  place = c.in_ok-found.ensures.found.place;
  short = c.in_ok-found.ensures.found.short;
  front = λ meets.
      let still = subst IsTrue c.close_gate.ensures.model meets in
      let before = subst IsTrue c.read_synced.ensures.model still in
      let is = c.deref-2.ensures.value ∙ c.in_ok-bytes.ensures.bytes before ∙ sym (c.read_synced.ensures.seen before) in
      let found = subst (λ l. IsFound l c.in_ok-found.found.records.items c.in_ok-found.found.gate) (c.deref.ensures.value ∙ c.in_ok-bytes.ensures.bytes before ∙ sym (c.read_synced.ensures.seen before)) c.in_ok-found.ensures.found in
      c.in_ok-close_gate.ensures.closed still is ∙ ap (λ l. l ++ 0 ∷ []) (found_front _ c.in_ok-found.found.records.items c.in_ok-found.found.gate found);
  durable = λ meets.
      let still = subst IsTrue c.close_gate.ensures.model meets in
      c.in_ok-close_gate.ensures.durable still (c.in_ok-bytes.ensures.durable (subst IsTrue c.read_synced.ensures.model still));
}

pub returns-in_err-found-clause-calls : goal.returns-in_err-found-clause-calls
returns-in_err-found-clause-calls g c = opens_unwritten g.D.Disk.gives c.args.disk.now c.read_synced.new.disk c.from_residual-in_err-found.result _ c.from_residual-in_err-found.ensures.1 c.in_ok-bytes.ensures.calls c.in_err-found.ensures.whole

pub returns-in_err-close_gate-clause-calls : goal.returns-in_err-close_gate-clause-calls
returns-in_err-close_gate-clause-calls g c = opens_failed g.D.Disk.gives c.args.disk.now c.close_gate.new.disk c.from_residual-in_err-close_gate.result c.from_residual-in_err-close_gate.ensures.1
    (write_ends g.D.Disk.gives c.in_ok-found.found.gate c.args.disk.now c.read_synced.new.disk c.close_gate.new.disk c.in_ok-bytes.ensures.calls c.in_err-close_gate.ensures.calls)

pub returns-clause-calls : goal.returns-clause-calls
returns-clause-calls g c = goes_then g.D.Disk.gives c.args.disk.now c.read_synced.new.disk c.close_gate.new.disk (looks_go g.D.Disk.gives c.args.disk.now c.read_synced.new.disk c.in_ok-bytes.ensures.calls) c.in_ok-close_gate.ensures.calls

pub returns-in_err-close_gate-clause-unread : goal.returns-in_err-close_gate-clause-unread
returns-in_err-close_gate-clause-unread g c = λ meets.
    let found = subst (λ l. IsFound l c.in_ok-found.found.records.items c.in_ok-found.found.gate) (c.deref.ensures.value ∙ c.in_ok-bytes.ensures.bytes meets) c.in_ok-found.ensures.found in
    fails_good _ _ (λ at bad. bad_none (g.D.Disk.seen c.args.disk.now) at c.in_ok-found.found.records.items bad found.holds) c.from_residual-in_err-close_gate.result c.from_residual-in_err-close_gate.ensures.1
