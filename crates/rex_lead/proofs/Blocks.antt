-- The blocks of a history.
use Rattle.std.proofs.Common.{◌≡◌, ℕ, zero, suc, ◌+◌, ◌*◌, ◌<◌, ◌≤◌, min, List, [], ◌∷◌, ◌++◌, length, take, drop, refl, sym, ◌∙◌, ap, subst, arith, append_assoc, append-nil, length-append, length-drop}
use Rattle.std.specs.List.{All}
use Rattle.std.specs.Simd.{first_chunks}
use Rattle.std.specs.Slice.Iter.{chunk_count}
use Rattle.std.proofs.Math.Seq.{drop-append_seam}
use Rattle.std.proofs.lemmas.List.{length-take, take-append-drop, take-append-le, take_all, drop_all, nil_from_length}
use Rattle.std.proofs.lemmas.List.Elements.{All-nil, All-cons, All-take, All-drop}
use Rattle.rex_event.specs.declared.event.Event.{Event}
use Rattle.rex_delta.specs.Spelling.{HasTypedKind}
use Rattle.rex_cluster.specs.Takes.{BeginsInRange}
use Rattle.rex_steady.specs.Blocks.{joined, IsBlock}
use Rattle.rex_lead.specs.Lead.{blocks_of}

-- ---- chunks of n elements

count_chunks : {A : Type 0} (n k : ℕ) (xs : List A) → length (first_chunks n k xs) ≡ k
count_chunks n zero xs = refl
count_chunks n (suc k) xs = ap suc (count_chunks n k (drop n xs))

joined_chunks : (n k : ℕ) (es : List Event) → length es ≤ k * n → joined (first_chunks n k es) ≡ es
joined_chunks n zero es l = sym (nil_from_length es (omega (arith, l)))
joined_chunks n (suc k) es l =
    ap (λ (ds : List Event). take n es ++ ds) (joined_chunks n k (drop n es) (omega (arith, l, length-drop n es))) ∙ take-append-drop n es

are_chunks : (n k : ℕ) (es : List Event) → 0 < n → n ≤ 4096 → k * n < length es + n → All BeginsInRange es → All HasTypedKind es → All IsBlock (first_chunks n k es)
are_chunks n zero es some few l b t = All-nil IsBlock
are_chunks n (suc k) es some few l b t =
    All-cons IsBlock (take n es) (first_chunks n k (drop n es))
    (record { some = omega (arith, l, some, length-take n es); few = omega (arith, few, length-take n es); begins = All-take BeginsInRange n es b; typed = All-take HasTypedKind n es t })
    (are_chunks n k (drop n es) some few (omega (arith, l, length-drop n es)) (All-drop BeginsInRange n es b) (All-drop HasTypedKind n es t))

-- ---- blocks

module _ (history : List Event) where
  count_blocks : length (blocks_of history) ≡ chunk_count (length history) 4096
  count_blocks = count_chunks 4096 (chunk_count (length history) 4096) history

  pub few_blocks : length history ≤ 268431360 → length (blocks_of history) ≤ 65535
  few_blocks l = omega (arith, l, count_blocks)

  -- nothing has no blocks
  pub no_blocks : length history ≡ 0 → blocks_of history ≡ []
  no_blocks l = nil_from_length (blocks_of history) (omega (arith, l, count_blocks))

  pub joined_blocks : joined (blocks_of history) ≡ history
  joined_blocks = joined_chunks 4096 (chunk_count (length history) 4096) history (omega arith)

  pub are_blocks : All BeginsInRange history → All HasTypedKind history → All IsBlock (blocks_of history)
  are_blocks b t = are_chunks 4096 (chunk_count (length history) 4096) history (omega arith) (omega arith) (omega arith) b t

-- ---- the first block, and the rest

seam : (n : ℕ) (block rest : List Event) → length block ≡ min n (length (block ++ rest)) → (take n (block ++ rest) ≡ block) × (drop n (block ++ rest) ≡ rest)
seam n block [] h =
    let l : length block ≤ n = omega (arith, h) in
    (ap (take n) (append-nil block) ∙ take_all n block l, ap (drop n) (append-nil block) ∙ drop_all n block l)
seam n block (e ∷ es) h =
    let l : length block ≡ n = omega (arith, h, length-append block (e ∷ es)) in (
      take-append-le n block (e ∷ es) (omega (arith, l)) ∙ take_all n block (omega (arith, l)),
      subst (λ (m : ℕ). drop m (block ++ e ∷ es) ≡ e ∷ es) l (drop-append_seam block (e ∷ es)),
    )

count_next : (a b c : ℕ) → c ≡ a + b → a ≡ min 4096 c → 0 < c → chunk_count c 4096 ≡ suc (chunk_count b 4096)
count_next a b c h k some = omega (arith, h, k, some)

blocks_next : (block rest : List Event) → length block ≡ min 4096 (length (block ++ rest)) → 0 < length (block ++ rest) → blocks_of (block ++ rest) ≡ block ∷ blocks_of rest
blocks_next block rest h some =
    let s = seam 4096 block rest h in
    ap (λ (k : ℕ). first_chunks 4096 k (block ++ rest)) (count_next (length block) (length rest) (length (block ++ rest)) (length-append block rest) h some)
    ∙ (ap (λ (b : List Event). b ∷ first_chunks 4096 (chunk_count (length rest) 4096) (drop 4096 (block ++ rest))) s.0
    ∙ ap (λ (r : List Event). block ∷ first_chunks 4096 (chunk_count (length rest) 4096) r) s.1)

-- ---- blocks that come off the rest of a history, one after the other

module _ (history rest after : List Event) (so_far : List (List Event)) (block : List Event) (is : rest ≡ block ++ after) (long : length block ≡ min 4096 (length rest)) (some : 0 < length rest) (left : so_far ++ blocks_of rest ≡ blocks_of history) where
  off : blocks_of rest ≡ block ∷ blocks_of after
  off = ap blocks_of is ∙ blocks_next block after (subst (λ (es : List Event). length block ≡ min 4096 (length es)) is long) (subst (λ (es : List Event). 0 < length es) is some)

  parts : so_far ++ block ∷ blocks_of after ≡ blocks_of history
  parts = ap (λ (bs : List (List Event)). so_far ++ bs) (sym off) ∙ left

  pub left_next : (so_far ++ block ∷ []) ++ blocks_of after ≡ blocks_of history
  left_next = append_assoc so_far (block ∷ []) (blocks_of after) ∙ parts

  pub fewer : length so_far + 1 ≤ length (blocks_of history)
  fewer = let e : length (so_far ++ block ∷ blocks_of after) ≡ length (blocks_of history) = ap length parts in omega (arith, e, length-append so_far (block ∷ blocks_of after))

pub rest_all : (P : Event → Type 0) (rest block after : List Event) → rest ≡ block ++ after → All P rest → All P after
rest_all P rest block after is h = subst (All P) (drop-append_seam block after) (All-drop P (length block) (block ++ after) (subst (All P) is h))
