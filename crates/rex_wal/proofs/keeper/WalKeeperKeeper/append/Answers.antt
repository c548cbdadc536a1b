use Rattle.std.proofs.Common.{rules, ◌≡◌, ◌+◌, IsTrue, None, Some, inr, sym, subst, arith, ◌∙◌}
use Rattle.std.proofs.lemmas.Grind.{common_steps}
use Rattle.rex_wal.specs.Appending.{IsWritten}
use Rattle.rex_wal.proofs.Settled.{append_leaves, settled_more, settled_rests, settled_stands, torn_stands, waits}
use Rattle.rex_wal.proofs.keeper.WalKeeperKeeper.append.Goals as goal

pub returns-in_default-clause-safe : goal.returns-in_default-clause-safe
returns-in_default-clause-safe g c = λ meets unbroken.
    let s = c.self.invariant c.if-self.false in
    let mid = settled_rests g.D.Disk.meets g.D.Disk.seen g.D.Disk.may_leave c.self.inside.disk c.prepare.new.disk c.self.inside.records.items c.self.inside.end g.D.Disk.moment g.D.Disk.left_since s c.prepare.ensures.model c.prepare.ensures.length c.prepare.ensures.seen c.prepare.ensures.time in
    rw c.in_default.ensures.kept (settled_stands g.D.Disk.meets g.D.Disk.seen g.D.Disk.may_leave c.prepare.new.disk c.self.inside.records.items c.self.inside.end None mid meets)

pub returns-in_default-clause-any_moment : goal.returns-in_default-clause-any_moment
returns-in_default-clause-any_moment g c = λ meets unbroken.
    let disk_is : c.args.self.now.disk ≡ c.self.inside.disk = search rules in
    let records_are : c.args.self.now.records ≡ c.self.inside.records.items = search rules in
    let met = subst (λ d. IsTrue (g.D.Disk.meets d)) disk_is meets in
    rw (disk_is, records_are) (waits g.D.Disk.meets g.D.Disk.seen g.D.Disk.may_leave c.self.inside.disk c.prepare.new.disk c.self.inside.records.items c.self.inside.end (Some c.args.bytes.now) g.D.Disk.moment g.D.Disk.left_since (λ image left. g.met.D.Disk.only_now c.self.inside.disk image met left) (c.self.invariant c.if-self.false) met (c.prepare.ensures.time met))

pub invariant_of-self-in-Ok-write_through : goal.invariant_of-self-in-Ok-write_through
invariant_of-self-in-Ok-write_through g c = λ unbroken.
    let s = c.self.invariant c.if-self.false in
    let mid = settled_rests g.D.Disk.meets g.D.Disk.seen g.D.Disk.may_leave c.self.inside.disk c.prepare.new.disk c.self.inside.records.items c.self.inside.end g.D.Disk.moment g.D.Disk.left_since s c.prepare.ensures.model c.prepare.ensures.length c.prepare.ensures.seen c.prepare.ensures.time in
    let written = subst (λ xs. IsWritten c.args.bytes.now xs) (sym c.deref.ensures.value) c.in-Ok.ensures.written in
    rw c.in-Ok.ensures.pushed (settled_more g.D.Disk.meets g.D.Disk.seen g.D.Disk.may_leave c.prepare.new.disk c.write_through.new.disk c.self.inside.records.items c.self.inside.end c.in-Ok.spelled.len c.args.bytes.now c.deref.result.now mid (λ i. omega (arith, c.type_inv.bytes i)) written c.in-Ok.ensures.len
    c.write_through.ensures.model c.in-Ok-write_through.ensures.length c.in-Ok-write_through.ensures.written c.in-Ok-write_through.ensures.durable)

pub returns-in-Ok-write_through-clause-safe : goal.returns-in-Ok-write_through-clause-safe
returns-in-Ok-write_through-clause-safe g c = λ meets unbroken.
    settled_stands g.D.Disk.meets g.D.Disk.seen g.D.Disk.may_leave c.write_through.new.disk c.prepare.new.records.items (c.self.inside.end + c.in-Ok.spelled.len) None (invariant_of-self-in-Ok-write_through g c c.if-self.false) meets

pub returns-in-Ok-write_through-clause-any_moment : goal.returns-in-Ok-write_through-clause-any_moment
returns-in-Ok-write_through-clause-any_moment g c = λ meets unbroken.
    let disk_is : c.args.self.now.disk ≡ c.self.inside.disk = search rules in
    let records_are : c.args.self.now.records ≡ c.self.inside.records.items = search rules in
    let met = subst (λ d. IsTrue (g.D.Disk.meets d)) disk_is meets in
    let written = subst (λ xs. IsWritten c.args.bytes.now xs) (sym c.deref.ensures.value) c.in-Ok.ensures.written in
    rw (disk_is, records_are) (append_leaves g.D.Disk.meets g.D.Disk.seen g.D.Disk.may_leave c.self.inside.disk c.prepare.new.disk c.write_through.new.disk c.self.inside.records.items c.self.inside.end c.args.bytes.now c.deref.result.now g.D.Disk.moment g.D.Disk.left_since (λ image left. g.met.D.Disk.only_now c.self.inside.disk image met left) (c.self.invariant c.if-self.false) met
    c.prepare.ensures.model c.prepare.ensures.length c.prepare.ensures.seen c.prepare.ensures.time (λ i. omega (arith, c.type_inv.bytes i)) written c.write_through.ensures.any_moment)

pub returns-clause-any_moment : goal.returns-clause-any_moment
returns-clause-any_moment g c = λ meets unbroken.
    let disk_is : c.args.self.now.disk ≡ c.self.inside.disk = search rules in
    let records_are : c.args.self.now.records ≡ c.self.inside.records.items = search rules in
    let met = subst (λ d. IsTrue (g.D.Disk.meets d)) disk_is meets in
    let written = subst (λ xs. IsWritten c.args.bytes.now xs) (sym c.deref.ensures.value) c.in-Ok.ensures.written in
    rw (disk_is, records_are) (append_leaves g.D.Disk.meets g.D.Disk.seen g.D.Disk.may_leave c.self.inside.disk c.prepare.new.disk c.write_through.new.disk c.self.inside.records.items c.self.inside.end c.args.bytes.now c.deref.result.now g.D.Disk.moment g.D.Disk.left_since (λ image left. g.met.D.Disk.only_now c.self.inside.disk image met left) (c.self.invariant c.if-self.false) met
    c.prepare.ensures.model c.prepare.ensures.length c.prepare.ensures.seen c.prepare.ensures.time (λ i. omega (arith, c.type_inv.bytes i)) written c.write_through.ensures.any_moment)

pub returns-clause-gives : goal.returns-clause-gives
returns-clause-gives g c =
    let disk_is : c.args.self.now.disk ≡ c.self.inside.disk = search rules in
    let records_are : c.args.self.now.records ≡ c.self.inside.records.items = search rules in
    inr (record {
      whole = (let whole = c.if-self.false in search rules);
      wrote = search rules;
      value = grind (arith, common_steps);
      counted = search rules;
      torn = λ meets.
          let met = subst IsTrue (c.write_through.ensures.model ∙ c.prepare.ensures.model) meets in
          let written = subst (λ xs. IsWritten c.args.bytes.now xs) (sym c.deref.ensures.value) c.in-Ok.ensures.written in
          let leaves = append_leaves g.D.Disk.meets g.D.Disk.seen g.D.Disk.may_leave c.self.inside.disk c.prepare.new.disk c.write_through.new.disk c.self.inside.records.items c.self.inside.end c.args.bytes.now c.deref.result.now g.D.Disk.moment g.D.Disk.left_since (λ image left. g.met.D.Disk.only_now c.self.inside.disk image met left) (c.self.invariant c.if-self.false) met
          c.prepare.ensures.model c.prepare.ensures.length c.prepare.ensures.seen c.prepare.ensures.time (λ i. omega (arith, c.type_inv.bytes i)) written c.write_through.ensures.any_moment in
          rw records_are (torn_stands g.D.Disk.meets g.D.Disk.seen g.D.Disk.may_leave c.self.inside.disk c.write_through.new.disk c.self.inside.records.items c.args.bytes.now g.D.Disk.moment g.D.Disk.left_since (λ t image. g.met.D.Disk.counts_now c.write_through.new.disk t image meets) leaves);
    })
