-- Limits between two lists of counts.
use Rattle.std.proofs.Common.{◌≡◌, ◌≤◌, ℕ, zero, suc, List, [], ◌∷◌, length, refl, ap, arith, ◌+◌, ◌<◌, ◌++◌, get_or, take, min, sym, ◌∙◌}
use Rattle.rex_event.specs.Cuts.{count_at}
use Rattle.rex_cluster.specs.Lanes.{limits_between}
use Rattle.std.proofs.lemmas.List.{take_more, length-take}

pub between_long : (firsts lasts limits : List ℕ) → length lasts ≡ length firsts → length limits ≡ length firsts → length (limits_between firsts lasts limits) ≡ length firsts
between_long [] lasts limits h k = refl
between_long (a ∷ xs) [] limits h k = absurd (omega arith)
between_long (a ∷ xs) (b ∷ ys) [] h k = absurd (omega arith)
between_long (a ∷ xs) (b ∷ ys) (l ∷ ls) h k = ap suc (between_long xs ys ls (omega arith) (omega arith))

pub between_from : (firsts lasts limits : List ℕ) (lane : ℕ) → length lasts ≡ length firsts → length limits ≡ length firsts → ((m : ℕ) → count_at firsts m ≤ count_at lasts m)
    → count_at firsts lane ≤ count_at (limits_between firsts lasts limits) lane
between_from [] lasts limits lane h k below = omega arith
between_from (a ∷ xs) [] limits lane h k below = absurd (omega arith)
between_from (a ∷ xs) (b ∷ ys) [] lane h k below = absurd (omega arith)
between_from (a ∷ xs) (b ∷ ys) (l ∷ ls) zero h k below = let f : a ≤ b = below 0 in omega arith
between_from (a ∷ xs) (b ∷ ys) (l ∷ ls) (suc lane) h k below = between_from xs ys ls lane (omega arith) (omega arith) (λ m. below (suc m))

pub between_to : (firsts lasts limits : List ℕ) (lane : ℕ) → count_at (limits_between firsts lasts limits) lane ≤ count_at lasts lane
between_to [] lasts limits lane = omega arith
between_to (a ∷ xs) [] limits lane = omega arith
between_to (a ∷ xs) (b ∷ ys) [] lane = omega arith
between_to (a ∷ xs) (b ∷ ys) (l ∷ ls) zero = omega arith
between_to (a ∷ xs) (b ∷ ys) (l ∷ ls) (suc lane) = between_to xs ys ls lane

-- limits of one more lane
push : (a b c : List ℕ) (x y z : ℕ) → length a ≡ length c → length b ≡ length c → limits_between (a ++ x ∷ []) (b ++ y ∷ []) (c ++ z ∷ []) ≡ limits_between a b c ++ min (x + z) y ∷ []
push [] [] [] x y z e k = refl
push (p ∷ a) (q ∷ b) (r ∷ c) x y z e k = ap (λ ns. min (p + r) q ∷ ns) (push a b c x y z (omega (arith, e)) (omega (arith, k)))
push [] b (r ∷ c) x y z e k = absurd (omega (arith, e))
push (p ∷ a) b [] x y z e k = absurd (omega (arith, e))
push a [] (r ∷ c) x y z e k = absurd (omega (arith, k))
push a (q ∷ b) [] x y z e k = absurd (omega (arith, k))

-- limits of as many lanes as were gone over, with one more
pub limits_more : (a b c : List ℕ) {i x y z : ℕ} → i < length c → length a ≡ length c → length b ≡ length c → x ≡ get_or a i 0 → y ≡ get_or b i 0 → z ≡ get_or c i 0
    → limits_between (take i a) (take i b) (take i c) ++ min (x + z) y ∷ [] ≡ limits_between (take (i + 1) a) (take (i + 1) b) (take (i + 1) c)
limits_more a b c {i} {x} {y} {z} there e k xe ye ze =
    let la : length (take i a) ≡ length (take i c) = omega (arith, length-take i a, length-take i c, e, there) in
    let lb : length (take i b) ≡ length (take i c) = omega (arith, length-take i b, length-take i c, k, there) in
    sym (push _ _ _ x y z la lb)
    ∙ ap (λ ns. limits_between ns (take i b ++ y ∷ []) (take i c ++ z ∷ [])) (sym (one a x (omega (arith, there, e)) xe))
    ∙ ap (λ ns. limits_between (take (i + 1) a) ns (take i c ++ z ∷ [])) (sym (one b y (omega (arith, there, k)) ye))
    ∙ ap (λ ns. limits_between (take (i + 1) a) (take (i + 1) b) ns) (sym (one c z there ze))
  where
    one : (ns : List ℕ) (n : ℕ) → i < length ns → n ≡ get_or ns i 0 → take (i + 1) ns ≡ take i ns ++ n ∷ []
    one ns n lt is = take_more ns i 0 lt ∙ ap (λ m. take i ns ++ m ∷ []) (sym is)
