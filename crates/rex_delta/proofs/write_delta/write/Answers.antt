use Rattle.rex_delta.proofs.CanWrite.{can_all_be_written}
use Rattle.rex_delta.proofs.write_delta.write.Goals as goal

pub events-requires : goal.events-requires
events-requires c =
    let d = c.args.delta.now in
    rw (c.as_slice-3.ensures, c.as_slice-4.ensures) (can_all_be_written d.bases d.bases d.events d.causes c.requires.lanes.1 c.requires.events)
