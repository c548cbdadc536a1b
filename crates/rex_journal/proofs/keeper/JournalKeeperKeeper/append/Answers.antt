use Rattle.std.proofs.Common.{rules, ◌≡◌, ◌++◌, ◌∷◌, [], IsTrue, None, Some, sym, ◌∙◌, subst}
use Rattle.rex_disk.proofs.Moments.{moves_on}
use Rattle.rex_journal.proofs.Settled.{settled_rests, settled_stands, waits}
use Rattle.rex_journal.proofs.keeper.JournalKeeperKeeper.append.Goals as goal

pub returns-in_default-clause-any_moment : goal.returns-in_default-clause-any_moment
returns-in_default-clause-any_moment g c = λ meets unbroken.
    let disk_is : c.args.self.now.disk ≡ c.self.inside.disk = search rules in
    let records_are : c.args.self.now.records ≡ c.self.inside.records.items = search rules in
    let met = subst (λ d. IsTrue (g.D.Disk.meets d)) disk_is meets in
    rw (disk_is, records_are) (waits g.D.Disk.meets g.D.Disk.seen g.D.Disk.may_leave c.self.inside.disk c.prepare.new.disk c.self.inside.records.items c.self.inside.gate (Some c.args.bytes.now) g.D.Disk.moment g.D.Disk.left_since (λ image left. g.met.D.Disk.only_now c.self.inside.disk image met left) (c.self.invariant.settled c.if-self.false) met (c.prepare.ensures.time met))

pub returns-in-Ok-commit-clause-any_moment : goal.returns-in-Ok-commit-clause-any_moment
returns-in-Ok-commit-clause-any_moment g c = λ meets unbroken.
    let disk_is : c.args.self.now.disk ≡ c.self.inside.disk = search rules in
    let records_are : c.args.self.now.records ≡ c.self.inside.records.items = search rules in
    let met = subst (λ d. IsTrue (g.D.Disk.meets d)) disk_is meets in
    let s = c.self.invariant.settled c.if-self.false in
    let mid = settled_rests g.D.Disk.meets g.D.Disk.seen g.D.Disk.may_leave c.self.inside.disk c.prepare.new.disk c.self.inside.records.items c.self.inside.gate g.D.Disk.moment g.D.Disk.left_since s c.prepare.ensures.model c.prepare.ensures.length c.prepare.ensures.seen c.prepare.ensures.time in
    let first = waits g.D.Disk.meets g.D.Disk.seen g.D.Disk.may_leave c.self.inside.disk c.prepare.new.disk c.self.inside.records.items c.self.inside.gate (Some c.args.bytes.now) g.D.Disk.moment g.D.Disk.left_since (λ image left. g.met.D.Disk.only_now c.self.inside.disk image met left) s met (c.prepare.ensures.time met) in
    rw (disk_is, records_are) (moves_on g.D.Disk.moment g.D.Disk.left_since first (c.commit.ensures.any_moment c.self.inside.records.items c.args.bytes.now (subst IsTrue (sym c.prepare.ensures.model) met) mid (c.deref.ensures.value ∙ c.in-Ok.ensures.entry) c.requires.short))

pub returns-clause-any_moment : goal.returns-clause-any_moment
returns-clause-any_moment g c = λ meets unbroken.
    let disk_is : c.args.self.now.disk ≡ c.self.inside.disk = search rules in
    let records_are : c.args.self.now.records ≡ c.self.inside.records.items = search rules in
    let met = subst (λ d. IsTrue (g.D.Disk.meets d)) disk_is meets in
    let s = c.self.invariant.settled c.if-self.false in
    let mid = settled_rests g.D.Disk.meets g.D.Disk.seen g.D.Disk.may_leave c.self.inside.disk c.prepare.new.disk c.self.inside.records.items c.self.inside.gate g.D.Disk.moment g.D.Disk.left_since s c.prepare.ensures.model c.prepare.ensures.length c.prepare.ensures.seen c.prepare.ensures.time in
    let first = waits g.D.Disk.meets g.D.Disk.seen g.D.Disk.may_leave c.self.inside.disk c.prepare.new.disk c.self.inside.records.items c.self.inside.gate (Some c.args.bytes.now) g.D.Disk.moment g.D.Disk.left_since (λ image left. g.met.D.Disk.only_now c.self.inside.disk image met left) s met (c.prepare.ensures.time met) in
    rw (disk_is, records_are) (moves_on g.D.Disk.moment g.D.Disk.left_since first (c.commit.ensures.any_moment c.self.inside.records.items c.args.bytes.now (subst IsTrue (sym c.prepare.ensures.model) met) mid (c.deref.ensures.value ∙ c.in-Ok.ensures.entry) c.requires.short))

pub returns-in-Ok-commit-clause-safe : goal.returns-in-Ok-commit-clause-safe
returns-in-Ok-commit-clause-safe g c = λ meets unbroken.
    let s = c.self.invariant.settled c.if-self.false in
    let mid = settled_rests g.D.Disk.meets g.D.Disk.seen g.D.Disk.may_leave c.self.inside.disk c.prepare.new.disk c.self.inside.records.items c.self.inside.gate g.D.Disk.moment g.D.Disk.left_since s c.prepare.ensures.model c.prepare.ensures.length c.prepare.ensures.seen c.prepare.ensures.time in
    let done = c.in-Ok-commit.ensures.settled c.self.inside.records.items c.args.bytes.now mid (c.deref.ensures.value ∙ c.in-Ok.ensures.entry) c.requires.short in
    rw c.in-Ok.ensures.pushed (settled_stands g.D.Disk.meets g.D.Disk.seen g.D.Disk.may_leave c.commit.new.disk (c.self.inside.records.items ++ c.args.bytes.now ∷ []) _ None done meets)

pub returns-in_default-clause-safe : goal.returns-in_default-clause-safe
returns-in_default-clause-safe g c = λ meets unbroken.
    let s = c.self.invariant.settled c.if-self.false in
    let mid = settled_rests g.D.Disk.meets g.D.Disk.seen g.D.Disk.may_leave c.self.inside.disk c.prepare.new.disk c.self.inside.records.items c.self.inside.gate g.D.Disk.moment g.D.Disk.left_since s c.prepare.ensures.model c.prepare.ensures.length c.prepare.ensures.seen c.prepare.ensures.time in
    rw c.in_default.ensures.kept (settled_stands g.D.Disk.meets g.D.Disk.seen g.D.Disk.may_leave c.prepare.new.disk c.self.inside.records.items c.self.inside.gate None mid meets)
