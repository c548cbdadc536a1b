-- What the bytes of an identity's record say.
use Rattle.std.specs.Prelude.{◌≡◌}
use Rattle.rex_identity.specs.Identity.{IdentityValue, IsIdentity, identity_bytes}

-- Two identities whose records have the same bytes are the same.
abbrev pub BytesTellIdentities : Type 0
BytesTellIdentities = (a b : IdentityValue) → IsIdentity a → IsIdentity b → identity_bytes a ≡ identity_bytes b → a ≡ b
