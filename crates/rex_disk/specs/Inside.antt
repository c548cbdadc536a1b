-- What is kept of the parts of a disk in memory.
use Rattle.std.specs.Prelude.{◌≡◌, ◌≤◌, ◌+◌, [], length, vec_capacity}
use Rattle.rex_disk.specs.Decoded.{decoded, written_by}
use Rattle.rex_disk.specs.Memory.{DiskValue}
use Rattle.rex_disk.specs.Record.{seen_after}
use Rattle.rex_disk.specs.declared.mem_disk.MemDisk.TheInside.{Inside}

abbrev pub value_of : Inside → DiskValue
value_of d = record {
  first = d.first.items;
  done = decoded [] d.log.items d.written.items;
  made = d.made;
  failing = d.failing.items;
  plan = d.plan;
  faults = d.faults;
  calls_left = d.calls_left;
  bytes_left = d.bytes_left;
}

-- the bytes are what the record says, and there is room for what is reserved
pub record IsKept (d : Inside) : Type 0 where
  pub bytes : d.bytes.items ≡ seen_after d.first.items (decoded [] d.log.items d.written.items)
  pub written : written_by d.log.items ≡ length d.written.items
  pub for_log : length d.log.items + d.calls_left ≤ vec_capacity d.log
  pub for_written : length d.written.items + d.bytes_left ≤ vec_capacity d.written
  pub for_bytes : length d.bytes.items + d.bytes_left ≤ vec_capacity d.bytes
