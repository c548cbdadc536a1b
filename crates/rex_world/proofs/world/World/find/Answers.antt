use Rattle.rex_world.proofs.Common.{◌≡◌, ℕ, zero, suc, List, [], Some, ap, subst, sym, ◌∙◌, All, option_copied, All-get_or, slice_get_within, get_or_from_slice_get, IsSpelled}
use Rattle.rex_net.specs.Net.{message_at}
use Rattle.rex_world.proofs.world.World.find.Goals as goal

-- what is there under a number is spelled
spelled_at : (net : List (List ℕ)) (number : ℕ) {bytes : List ℕ} → All IsSpelled net → message_at net number ≡ Some bytes → IsSpelled bytes
spelled_at net zero h e = absurd (cc)
spelled_at net (suc place) {bytes} h e =
    subst IsSpelled (get_or_from_slice_get net place bytes [] e) (All-get_or IsSpelled net place [] (slice_get_within net place bytes e) h)

pub read-requires : goal.read-requires
read-requires g c = spelled_at _ _ c.requires (sym c.get.ensures ∙ ap option_copied c.in-Some.is)
