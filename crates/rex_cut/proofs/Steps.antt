-- The steps of the loops.
use Rattle.std.proofs.Common.{◌≡◌, ℕ, ◌+◌, ◌-◌, ◌<◌, List, ◌∷◌, length, get_or, set, drop, reverse, ap, sym, ◌∙◌, arith}
use Rattle.std.specs.List.{All}
use Rattle.std.proofs.lemmas.List.{drop_more, drop_all, get_or-reverse, length-reverse}
use Rattle.std.proofs.lemmas.List.Elements.{All-drop, All-head, All-same}
use Rattle.rex_event.specs.declared.event.Event.{Event}
use Rattle.rex_cut.specs.Delta.{bases_from}
use Rattle.rex_clocks.specs.Lanes.{HasLane}
use Rattle.rex_cut.proofs.Bases.{bases_none, bases_more}

-- what is left, at the item that a loop reads
drop_read : {X : Type 0} (xs : List X) (i : ℕ) (x : X) → i < length xs → x ≡ get_or xs i x → drop i xs ≡ x ∷ drop (i + 1) xs
drop_read {X} xs i x l q = drop_more xs i x l ∙ ap (λ (y : X). y ∷ drop (i + 1) xs) (sym q)

-- the same from the back
drop_back : {X : Type 0} (xs : List X) (n : ℕ) (x : X) → (n < length (reverse xs)) × (x ≡ get_or (reverse xs) n x) → drop (length xs - (n + 1)) xs ≡ x ∷ drop (length xs - n) xs
drop_back xs n x h =
    let l = length-reverse xs in
    let k : n < length xs = let m = h.0 in omega arith in
    let s : length xs - 1 - n ≡ length xs - (n + 1) = omega arith in
    let q : x ≡ get_or xs (length xs - (n + 1)) x = h.1 ∙ get_or-reverse xs n x k ∙ ap (λ (i : ℕ). get_or xs i x) s in
    let w : length xs - (n + 1) + 1 ≡ length xs - n = omega arith in
    drop_read xs (length xs - (n + 1)) x (omega arith) q ∙ ap (λ (i : ℕ). x ∷ drop i xs) w

-- ---- bases from the back

pub bases_begin : (es : List Event) (counts : List ℕ) → counts ≡ bases_from (drop (length es - 0) es) 0 counts
bases_begin es counts =
    let d = drop_all (length es - 0) es (omega arith) in
    sym (ap (λ (x : List Event). bases_from x 0 counts) d ∙ bases_none 0 counts)

pub bases_turn : (es : List Event) (counts bases : List ℕ) (e : Event) (n m : ℕ) → All (HasLane (length counts)) es → (n < length (reverse es)) × (e ≡ get_or (reverse es) n e) → m ≡ n + 1 → bases ≡ bases_from (drop (length es - n) es) 0 counts → set bases e.lane e.index ≡ bases_from (drop (length es - m) es) 0 counts
bases_turn es counts bases e n m lanes h q b =
    let d = drop_back es n e h in
    let a : HasLane (length counts) e =
    All-head (HasLane (length counts)) e (drop (length es - n) es)
    (All-same (HasLane (length counts)) (e ∷ drop (length es - n) es) (drop (length es - (n + 1)) es) (sym d) (All-drop (HasLane (length counts)) (length es - (n + 1)) es lanes)) in
    ap (λ (x : List ℕ). set x e.lane e.index) b ∙ sym (bases_more e (drop (length es - n) es) counts a.below)
    ∙ ap (λ (x : List Event). bases_from x 0 counts) (sym d) ∙ ap (λ (k : ℕ). bases_from (drop (length es - k) es) 0 counts) (sym q)
