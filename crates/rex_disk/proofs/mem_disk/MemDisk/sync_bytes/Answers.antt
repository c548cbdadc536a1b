use Rattle.std.proofs.Common.{◌≡◌, ◌||◌, ◌∷◌, [], ◌∙◌, ap, sym, refl, arith, length, length-append}
use Rattle.rex_disk.specs.Memory.{DiskValue}
use Rattle.rex_disk.specs.Record.{seen_after}
use Rattle.rex_disk.specs.declared.entry.Entry.TheVariants.{Sync}
use Rattle.rex_disk.proofs.Recorded.{sync_noted, sync_written}
use Rattle.rex_disk.proofs.mem_disk.MemDisk.sync_bytes.Goals as goal

pub invariant_of-self : goal.invariant_of-self
invariant_of-self c =
    let failed = c.is_named-named.result || c.is_sync_planned-planned.result in
    let calls : c.self.inside.calls_left ≡ c.args.self.now.calls_left = ap (λ (d : DiskValue). d.calls_left) c.self.view_is in
    record {
      bytes = c.self.invariant.bytes ∙ ap (seen_after c.self.inside.first.items) (sym (sync_noted c.self.inside.log.items c.push_reserved.new.self.items c.self.inside.written.items failed c.push_reserved.ensures.items));
      written = sync_written c.self.inside.log.items c.push_reserved.new.self.items _ failed c.push_reserved.ensures.items c.self.invariant.written;
      for_log = omega (arith, c.self.invariant.for_log, c.push_reserved.ensures.capacity, ap length c.push_reserved.ensures.items, length-append c.self.inside.log.items (Sync failed ∷ []), calls, c.requires.call);
      for_written = c.self.invariant.for_written;
      for_bytes = c.self.invariant.for_bytes;
    }

pub returns-clause-follows : goal.returns-clause-follows
returns-clause-follows c =
    let failed = c.is_named-named.result || c.is_sync_planned-planned.result in
    rw (← c.self.view_is) (record {
      numbered = c.is_named-named.ensures.made;
      fails = rw (← c.deref.ensures.value, ← c.is_named-named.ensures.named, ← c.is_sync_planned-planned.ensures.fails) refl;
      planned = c.is_sync_planned-planned.ensures.plan;
      recorded = sync_noted c.self.inside.log.items c.push_reserved.new.self.items c.self.inside.written.items failed c.push_reserved.ensures.items;
      same_first = refl;
      same_failing = refl;
    })
