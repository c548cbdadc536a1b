-- What follows from how the bytes of a journal are laid out.
use Rattle.std.proofs.Common.{◌≡◌, inl, inr, ⊎_elim, ℕ, suc, ◌+◌, List, [], ◌∷◌, ◌++◌, length, drop, refl, sym, ◌∙◌, ap, arith, append_assoc}
use Rattle.std.proofs.lemmas.List.{drop_at, get_or-append-add, get_or_past}
use Rattle.rex_file.specs.Mixing.{byte_at}
use Rattle.std.specs.Prelude.{All}
use Rattle.rex_wal.specs.Laws.{BadHoldsNone, HoldsOne}
use Rattle.rex_wal.specs.Journal.{BeginsNone, BeginsWithRecords, IsBegun, IsRecord, entries, entry, head}
use Rattle.rex_wal.proofs.Spelling.{entry_some, same_entry}

-- what stands behind the head
pub behind_head : (x y : List ℕ) → head ++ x ≡ head ++ y → x ≡ y
behind_head x y is = ap (λ (xs : List ℕ). drop 8 xs) is

tail_each : (r : List ℕ) (rs : List (List ℕ)) → All IsRecord (r ∷ rs) → All IsRecord rs
tail_each r rs each k d lt = each (suc k) d (omega (arith, lt))

same_entries : (rs ss : List (List ℕ)) (x y : List ℕ) → All IsRecord rs → All IsRecord ss → BeginsNone x → BeginsNone y → entries rs ++ x ≡ entries ss ++ y → rs ≡ ss
same_entries [] [] x y er es nx ny is = refl
same_entries [] (s ∷ ss) x y er es nx ny is = absurd (nx s (entries ss ++ y) (es 0 [] (omega arith)) (is ∙ append_assoc (entry s) (entries ss) y))
same_entries (r ∷ rs) [] x y er es nx ny is = absurd (ny r (entries rs ++ x) (er 0 [] (omega arith)) (sym is ∙ append_assoc (entry r) (entries rs) x))
same_entries (r ∷ rs) (s ∷ ss) x y er es nx ny is =
    let both = same_entry r s (entries rs ++ x) (entries ss ++ y) (sym (append_assoc (entry r) (entries rs) x) ∙ is ∙ append_assoc (entry s) (entries ss) y) in
    let rest = same_entries rs ss x y (tail_each r rs er) (tail_each s ss es) nx ny both.1 in
    ap (λ (t : List ℕ). t ∷ rs) both.0 ∙ ap (λ (ts : List (List ℕ)). s ∷ ts) rest

-- so a file begins with one list of records at most
pub same_front : (file : List ℕ) (records others : List (List ℕ)) (a : BeginsWithRecords file records) (b : BeginsWithRecords file others) → records ≡ others
same_front file records others a b = same_entries records others a.rest b.rest a.each b.each a.ended b.ended (behind_head (entries records ++ a.rest) (entries others ++ b.rest) (sym a.split ∙ b.split))

-- and the same stands behind them
same_rest : (file : List ℕ) (records others : List (List ℕ)) (a : BeginsWithRecords file records) (b : BeginsWithRecords file others) → a.rest ≡ b.rest
same_rest file records others a b =
    let same = same_front file records others a b in
    let behind : entries others ++ a.rest ≡ entries others ++ b.rest = ap (λ (rs : List (List ℕ)). entries rs ++ a.rest) (sym same) ∙ behind_head (entries records ++ a.rest) (entries others ++ b.rest) (sym a.split ∙ b.split) in
    sym (drop_at (entries others) a.rest (length (entries others)) refl) ∙ ap (λ (xs : List ℕ). drop (length (entries others)) xs) behind ∙ drop_at (entries others) b.rest (length (entries others)) refl

-- a file that is only begun has no record
begun_none : (file : List ℕ) (records : List (List ℕ)) → IsBegun file → BeginsWithRecords file records → records ≡ []
begun_none file [] begun has = refl
begun_none file (r ∷ records) begun has =
    let there : byte_at file 8 ≡ byte_at (entry r ++ (entries records ++ has.rest)) 0 = ap (λ (xs : List ℕ). byte_at xs 8) (has.split ∙ ap (λ (xs : List ℕ). head ++ xs) (append_assoc (entry r) (entries records) has.rest)) in
    absurd (entry_some r (entries records ++ has.rest) (sym there ∙ ⊎_elim (λ e. e) (λ e. e) (begun 8)))

pub holds_one : HoldsOne
holds_one file records others (inl a) (inl b) = same_front file records others a.front b.front
holds_one file records others (inl a) (inr b) = begun_none file records b.0 a.front ∙ sym b.1
holds_one file records others (inr a) (inl b) = a.1 ∙ sym (begun_none file others a.0 b.front)
holds_one file records others (inr a) (inr b) = a.1 ∙ sym b.1

-- behind the head of a file that is only begun all bytes are 0
begun_rest : (file : List ℕ) (records : List (List ℕ)) (has : BeginsWithRecords file records) → IsBegun file → (i : ℕ) → byte_at has.rest i ≡ 0
begun_rest file records has begun i =
    let none = begun_none file records begun has in
    let there : byte_at file (8 + i) ≡ byte_at has.rest i = ap (λ (xs : List ℕ). byte_at xs (8 + i)) (has.split ∙ ap (λ (rs : List (List ℕ)). head ++ (entries rs ++ has.rest)) none) ∙ get_or-append-add head has.rest i 0 in
    sym there ∙ ⊎_elim (λ e. e) (λ e. e ∙ get_or_past head (8 + i) 0 (omega arith)) (begun (8 + i))

pub bad_none : BadHoldsNone
bad_none file at records (inl (bad, place)) (inl has) = bad.no_head (entries records ++ has.front.rest) has.front.split
bad_none file at records (inl (bad, place)) (inr begun) = bad.not_begun begun.0
bad_none file at records (inr gap) (inl has) =
    let same = same_rest file gap.records records gap.front has.front in
    let at_rest : (i : ℕ) → byte_at has.front.rest i ≡ byte_at gap.front.rest i = λ i. ap (λ (xs : List ℕ). byte_at xs i) (sym same) in
    gap.some (sym (at_rest (gap.later + 2)) ∙ has.none_later gap.later (at_rest gap.later ∙ gap.mark) (at_rest (gap.later + 1) ∙ gap.end))
bad_none file at records (inr gap) (inr begun) = gap.some (begun_rest file gap.records gap.front begun.0 (gap.later + 2))
