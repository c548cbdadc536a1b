-- What is asked for by words that may have faults.
use Rattle.std.proofs.Common.{◌≡◌, [], ◌∷◌, cond, Option, None, refl}
use Rattle.clap.specs.Words.{Kinds, IsAmong}
use Rattle.clap.specs.declared.error.ErrorKind.{ErrorKind}
use Rattle.rex_command.specs.Reading.{is_none}

-- without a fault what is asked for stays
pub kept : {A : Type 0} (ks : Kinds) (x : Option A) → ks ≡ [] → x ≡ cond (is_none ks) x None
kept [] x e = refl
kept (k ∷ ks) x e = absurd cc

-- with one there is nothing
pub dropped : {A : Type 0} (k : ErrorKind) (ks : Kinds) (x : Option A) → IsAmong k ks → None ≡ cond (is_none ks) x None
dropped k [] x h = absurd h
dropped k (y ∷ ys) x h = refl
