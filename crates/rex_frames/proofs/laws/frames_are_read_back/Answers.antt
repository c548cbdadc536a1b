use Rattle.rex_frames.proofs.ReadBack.{read_back}
use Rattle.rex_frames.proofs.laws.frames_are_read_back.Goals as goal

pub returns : goal.returns
returns c = read_back
