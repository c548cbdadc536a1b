-- The bytes of an identity's record tell each of its parts.
use Rattle.std.proofs.Common.{◌≡◌, ℕ, ◌<◌, ◌^◌, List, [], ◌∷◌, ◌++◌, length, refl, sym, ap, ◌∙◌, arith, append_assoc}
use Rattle.std.specs.Int.{w32, to_be_bytes, from_be_bytes}
use Rattle.std.proofs.lemmas.Nat.{from_be_bytes-to_be_bytes_4}
use Rattle.rex_identity.specs.Identity.{IdentityValue, identity_bytes}
use Rattle.rex_identity.specs.Laws.{BytesTellIdentities}

-- two fronts of one length end at one place
split : (a b x y : List ℕ) → length a ≡ length b → a ++ x ≡ b ++ y → (a ≡ b) × (x ≡ y)
split [] [] x y l e = (refl, e)
split [] (q ∷ b) x y l e = absurd (omega arith)
split (p ∷ a) [] x y l e = absurd (omega arith)
split (p ∷ a) (q ∷ b) x y l e =
    let tails : a ++ x ≡ b ++ y = cc in
    let rest = split a b x y (omega arith) tails in
    let fronts : a ≡ b = rest.0 in
    (cc, rest.1)

-- what stands behind the four bytes of the head
abbrev behind_head : IdentityValue → List ℕ
behind_head i = to_be_bytes w32 i.seed ++ (i.service ++ (length i.cluster ∷ i.cluster))

regrouped : (i : IdentityValue) → identity_bytes i ≡ 7 ∷ 1 ∷ i.id ∷ i.nodes ∷ behind_head i
regrouped i = simp append_assoc

same_seed : (m n : ℕ) → m < 2 ^ 32 → n < 2 ^ 32 → to_be_bytes w32 m ≡ to_be_bytes w32 n → m ≡ n
same_seed m n h k e = sym (from_be_bytes-to_be_bytes_4 m h) ∙ ap (from_be_bytes w32) e ∙ from_be_bytes-to_be_bytes_4 n k

same_parts : (a b : IdentityValue) → a.cluster ≡ b.cluster → a.id ≡ b.id → a.nodes ≡ b.nodes → a.seed ≡ b.seed → a.service ≡ b.service → a ≡ b
same_parts a b c i n s d = λ at. record { cluster = c at; id = i at; nodes = n at; seed = s at; service = d at }

pub bytes_tell_identities : BytesTellIdentities
bytes_tell_identities a b h k e =
    let heads : 7 ∷ 1 ∷ a.id ∷ a.nodes ∷ behind_head a ≡ 7 ∷ 1 ∷ b.id ∷ b.nodes ∷ behind_head b = sym (regrouped a) ∙ e ∙ regrouped b in
    let id : a.id ≡ b.id = cc in
    let nodes : a.nodes ≡ b.nodes = cc in
    let rest : behind_head a ≡ behind_head b = cc in
    let seeds = split (to_be_bytes w32 a.seed) (to_be_bytes w32 b.seed)
    (a.service ++ (length a.cluster ∷ a.cluster)) (b.service ++ (length b.cluster ∷ b.cluster)) refl rest in
    let digests = split a.service b.service (length a.cluster ∷ a.cluster) (length b.cluster ∷ b.cluster) (h.digested ∙ sym k.digested) seeds.1 in
    let names : length a.cluster ∷ a.cluster ≡ length b.cluster ∷ b.cluster = digests.1 in
    let cluster : a.cluster ≡ b.cluster = cc in
    same_parts a b cluster id nodes (same_seed a.seed b.seed h.seeded k.seeded seeds.0) digests.0
