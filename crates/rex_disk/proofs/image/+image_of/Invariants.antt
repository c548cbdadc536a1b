use Rattle.std.proofs.Common.{length}
use Rattle.rex_disk.proofs.image.+image_of.Given as goal

abbrev pub decreases-image_of : goal.decreases-image_of
decreases-image_of l = length l.log.now
