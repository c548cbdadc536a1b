use Rattle.rex_identity.proofs.Told.{bytes_tell_identities}
use Rattle.rex_identity.proofs.laws.bytes_tell_identities.Goals as goal

pub returns : goal.returns
returns c = bytes_tell_identities
