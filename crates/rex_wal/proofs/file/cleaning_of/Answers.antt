use Rattle.std.proofs.Common.{rules, ◌≡◌, ◌-◌, ℕ, List, length, replicate, sym, subst}
use Rattle.rex_wal.specs.Journal.{head}
use Rattle.rex_wal.specs.Opening.{IsCleaning, IsFound}
use Rattle.rex_wal.proofs.Making.{begun_cleaning, record_cleaning}
use Rattle.rex_wal.proofs.file.cleaning_of.Goals as goal

pub returns-then-found : goal.returns-then-found
returns-then-found c =
    let same : c.in_ok-bytes.bytes.items ≡ head = search rules in
    subst (λ (xs : List ℕ). IsCleaning c.args.bytes.now c.args.found.now.records.items 0 xs) (sym same)
    (begun_cleaning c.args.bytes.now c.args.found.now.records.items c.args.found.now.end (subst (IsFound c.args.bytes.now c.args.found.now.records.items c.args.found.now.end) c.if-found.true c.requires.found))

pub returns : goal.returns
returns c =
    let same : c.in_ok-zeros.zeros.items ≡ replicate (length c.args.bytes.now - c.args.found.now.end) 0 = search rules in
    subst (λ (xs : List ℕ). IsCleaning c.args.bytes.now c.args.found.now.records.items c.args.found.now.end xs) (sym same)
    (record_cleaning c.args.bytes.now c.args.found.now.records.items c.args.found.now.end (subst (IsFound c.args.bytes.now c.args.found.now.records.items c.args.found.now.end) c.if-found.false c.requires.found))
