use Rattle.std.proofs.Common.{◌≡◌, ◌||◌, ◌∷◌, [], ◌∙◌, true, false, Bool, ℕ, List, ap, sym, refl, arith, length, length-append}
use Rattle.rex_disk.specs.Decoded.{decoded}
use Rattle.rex_disk.specs.Memory.{DiskValue}
use Rattle.rex_disk.specs.Record.{seen_after}
use Rattle.rex_disk.specs.Record.Done.{Wrote}
use Rattle.rex_disk.specs.Stops.{overwritten}
use Rattle.rex_disk.specs.declared.entry.Entry.TheVariants.{Write}
use Rattle.rex_disk.proofs.Recorded.{write_noted, write_written}
use Rattle.rex_disk.proofs.mem_disk.MemDisk.write_bytes.Goals as goal

pub invariant_of-self : goal.invariant_of-self
invariant_of-self c =
    let failed : Bool = c.is_named-named.result || c.is_write_planned-planned.result in
    let none : failed ≡ false = c.if-not-failed.true in
    let calls : c.self.inside.calls_left ≡ c.args.self.now.calls_left = ap (λ (d : DiskValue). d.calls_left) c.self.view_is in
    let bytes_left : c.self.inside.bytes_left ≡ c.args.self.now.bytes_left = ap (λ (d : DiskValue). d.bytes_left) c.self.view_is in
    let noted = write_noted c.self.inside.log.items c.push_reserved.new.self.items c.self.inside.written.items c.keep.new.written.items c.args.at c.args.bytes.now failed c.self.invariant.written c.push_reserved.ensures.items c.keep.ensures.items in
    let done = decoded [] c.self.inside.log.items c.self.inside.written.items in
    record {
      bytes = c.put.ensures.items ∙ ap (λ (l : List ℕ). overwritten c.args.at c.args.bytes.now l) c.self.invariant.bytes
          ∙ ap (λ (b : Bool). seen_after c.self.inside.first.items (Wrote c.args.at c.args.bytes.now b ∷ done)) (sym none)
          ∙ ap (seen_after c.self.inside.first.items) (sym noted);
      written = write_written c.self.inside.log.items c.push_reserved.new.self.items c.self.inside.written.items c.keep.new.written.items c.args.at c.args.bytes.now failed c.self.invariant.written c.push_reserved.ensures.items c.keep.ensures.items;
      for_log = omega (arith, c.self.invariant.for_log, c.push_reserved.ensures.capacity, ap length c.push_reserved.ensures.items, length-append c.self.inside.log.items (Write c.args.at (length c.args.bytes.now) failed ∷ []), calls, c.requires.call);
      for_written = omega (arith, c.self.invariant.for_written, c.keep.ensures.capacity, ap length c.keep.ensures.items, length-append c.self.inside.written.items c.args.bytes.now, bytes_left, c.requires.room);
      for_bytes = omega (arith, c.self.invariant.for_bytes, c.put.ensures.capacity, c.put.ensures.length, bytes_left, c.requires.room);
    }

pub invariant_of-self-else-not-failed : goal.invariant_of-self-else-not-failed
invariant_of-self-else-not-failed c =
    let failed : Bool = c.is_named-named.result || c.is_write_planned-planned.result in
    let all : failed ≡ true = c.if-not-failed.false in
    let calls : c.self.inside.calls_left ≡ c.args.self.now.calls_left = ap (λ (d : DiskValue). d.calls_left) c.self.view_is in
    let bytes_left : c.self.inside.bytes_left ≡ c.args.self.now.bytes_left = ap (λ (d : DiskValue). d.bytes_left) c.self.view_is in
    let noted = write_noted c.self.inside.log.items c.push_reserved.new.self.items c.self.inside.written.items c.keep.new.written.items c.args.at c.args.bytes.now failed c.self.invariant.written c.push_reserved.ensures.items c.keep.ensures.items in
    let done = decoded [] c.self.inside.log.items c.self.inside.written.items in
    record {
      bytes = c.self.invariant.bytes
          ∙ ap (λ (b : Bool). seen_after c.self.inside.first.items (Wrote c.args.at c.args.bytes.now b ∷ done)) (sym all)
          ∙ ap (seen_after c.self.inside.first.items) (sym noted);
      written = write_written c.self.inside.log.items c.push_reserved.new.self.items c.self.inside.written.items c.keep.new.written.items c.args.at c.args.bytes.now failed c.self.invariant.written c.push_reserved.ensures.items c.keep.ensures.items;
      for_log = omega (arith, c.self.invariant.for_log, c.push_reserved.ensures.capacity, ap length c.push_reserved.ensures.items, length-append c.self.inside.log.items (Write c.args.at (length c.args.bytes.now) failed ∷ []), calls, c.requires.call);
      for_written = omega (arith, c.self.invariant.for_written, c.keep.ensures.capacity, ap length c.keep.ensures.items, length-append c.self.inside.written.items c.args.bytes.now, bytes_left, c.requires.room);
      for_bytes = omega (arith, c.self.invariant.for_bytes);
    }

pub returns-then-not-failed-clause-follows : goal.returns-then-not-failed-clause-follows
returns-then-not-failed-clause-follows c =
    let failed : Bool = c.is_named-named.result || c.is_write_planned-planned.result in
    rw (← c.self.view_is) (record {
      numbered = c.is_named-named.ensures.made;
      fails = rw (← c.deref.ensures.value, ← c.is_named-named.ensures.named, ← c.is_write_planned-planned.ensures.fails) refl;
      planned = c.is_write_planned-planned.ensures.plan;
      recorded = write_noted c.self.inside.log.items c.push_reserved.new.self.items c.self.inside.written.items c.keep.new.written.items c.args.at c.args.bytes.now failed c.self.invariant.written c.push_reserved.ensures.items c.keep.ensures.items;
      same_first = refl;
      same_failing = refl;
    })

pub returns-else-not-failed-clause-follows : goal.returns-else-not-failed-clause-follows
returns-else-not-failed-clause-follows c =
    let failed : Bool = c.is_named-named.result || c.is_write_planned-planned.result in
    rw (← c.self.view_is) (record {
      numbered = c.is_named-named.ensures.made;
      fails = rw (← c.deref.ensures.value, ← c.is_named-named.ensures.named, ← c.is_write_planned-planned.ensures.fails) refl;
      planned = c.is_write_planned-planned.ensures.plan;
      recorded = write_noted c.self.inside.log.items c.push_reserved.new.self.items c.self.inside.written.items c.keep.new.written.items c.args.at c.args.bytes.now failed c.self.invariant.written c.push_reserved.ensures.items c.keep.ensures.items;
      same_first = refl;
      same_failing = refl;
    })
