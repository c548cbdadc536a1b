-- What is kept of the parts of a file.
use Rattle.std.specs.Prelude.{◌≡◌, true, false, length, MatchOption}
use Rattle.rex_disk.specs.Record.{seen_after}
use Rattle.rex_file.specs.FileCalls.{FileValue, has_failed, has_written}
use Rattle.rex_file.specs.declared.file_disk.FileDisk.TheInside.{Inside}

abbrev pub value_of : Inside → FileValue
value_of d = record {
  first = d.first.value.items;
  done = d.trail.done;
  faults = d.faults;
  calls_left = d.calls_left;
  bytes_left = d.bytes_left;
}

-- until something is written the bytes are held that a read gives
pub record IsKept (d : Inside) : Type 0 where
  pub written : MatchOption d.held (has_written d.trail.done ≡ true) (λ bytes. has_written d.trail.done ≡ false)
  pub held : MatchOption d.held (Unit {0}) (λ bytes. bytes.items ≡ seen_after d.first.value.items d.trail.done)
  pub long : d.len ≡ length (seen_after d.first.value.items d.trail.done)
  pub failed : d.broken ≡ has_failed d.trail.done
