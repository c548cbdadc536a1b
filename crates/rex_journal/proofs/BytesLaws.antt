-- What follows from how the bytes of a journal are laid out.
use Rattle.std.proofs.Common.{◌≡◌, ◌≢◌, inl, inr, ℕ, suc, ◌+◌, ◌<◌, ◌^◌, List, [], ◌∷◌, ◌++◌, length, get_or, take, drop, refl, sym, ◌∙◌, ap, arith, append_assoc, length-append}
use Rattle.std.proofs.lemmas.List.Elements.{All-push}
use Rattle.std.proofs.lemmas.Bool.{cases_eq}
use Rattle.std.proofs.lemmas.Nat.{from_be_bytes-to_be_bytes_4}
use Rattle.std.specs.Int.{w32, from_be_bytes}
use Rattle.rex_journal.specs.Journal.{AllShort, Holds, IsAtRest, body, open_records}
use Rattle.rex_journal.specs.Laws.{BadHoldsNone, BadOnce, HoldsOne, PendingHolds, RestHolds}
use Rattle.rex_journal.proofs.Same.{found_is, same_body}
use Rattle.rex_journal.proofs.Spelled.{length-body, open_push}

pub one : HoldsOne
one file records others (inl a) (inl b) = a.1 ∙ sym b.1
one file records others holds (inr e) = found_is file records others e.gate e.rest holds e.short e.shut e.split
one file records others (inr e) (inl b) = sym (found_is file others records e.gate e.rest (inl b) e.short e.shut e.split)

-- an open gate that isn't followed by a whole record, and a gate that isn't open, don't end the same file
apart : (rs ss : List (List ℕ)) (rest : List ℕ) (g : ℕ) (x : List ℕ) → AllShort rs → AllShort ss → g ≢ 1 → length rest < 5 + from_be_bytes w32 (take 4 rest) → open_records rs ++ 1 ∷ rest ≡ open_records ss ++ g ∷ x → ⊥
apart [] [] rest g x rs_short ss_short shut cut is = shut (sym (ap (λ (l : List ℕ). get_or l 0 0) is))
apart (r ∷ rs) [] rest g x rs_short ss_short shut cut is = shut (sym (ap (λ (l : List ℕ). get_or l 0 0) is))
apart [] (s ∷ ss) rest g x rs_short ss_short shut cut is =
    let behind : rest ≡ body s ++ (open_records ss ++ g ∷ x) = ap (λ (l : List ℕ). drop 1 l) is ∙ append_assoc (body s) (open_records ss) (g ∷ x) in
    let number : from_be_bytes w32 (take 4 rest) ≡ length s = ap (λ (l : List ℕ). from_be_bytes w32 (take 4 l)) behind ∙ from_be_bytes-to_be_bytes_4 (length s) (ss_short 0 [] (omega arith)) in
    absurd (omega (arith, cut, number, ap length behind, length-append (body s) (open_records ss ++ g ∷ x), length-append (open_records ss) (g ∷ x), length-body s))
apart (r ∷ rs) (s ∷ ss) rest g x rs_short ss_short shut cut is =
    let behind : body r ++ (open_records rs ++ 1 ∷ rest) ≡ body s ++ (open_records ss ++ g ∷ x) =
    sym (append_assoc (body r) (open_records rs) (1 ∷ rest)) ∙ ap (λ (l : List ℕ). drop 1 l) is ∙ append_assoc (body s) (open_records ss) (g ∷ x) in
    let both = same_body r s _ _ (rs_short 0 [] (omega arith)) (ss_short 0 [] (omega arith)) behind in
    apart rs ss rest g x (λ k d lt. rs_short (suc k) d (omega (arith, lt))) (λ k d lt. ss_short (suc k) d (omega (arith, lt))) shut cut both.1

pub bad_none : BadHoldsNone
bad_none file at records bad (inl unused) = absurd (omega (arith, bad.long, unused.0))
bad_none file at records bad (inr ends) = apart bad.records records bad.rest ends.gate ends.rest bad.short ends.short ends.shut bad.cut_short (sym bad.split ∙ ends.split)

-- two open gates that aren't followed by a whole record don't end the same file, unless they are one
one_bad : (rs ss : List (List ℕ)) (x y : List ℕ) → AllShort rs → AllShort ss → length x < 5 + from_be_bytes w32 (take 4 x) → length y < 5 + from_be_bytes w32 (take 4 y) → open_records rs ++ 1 ∷ x ≡ open_records ss ++ 1 ∷ y → rs ≡ ss
one_bad [] [] x y rs_short ss_short cut cut_too is = refl
one_bad (r ∷ rs) [] x y rs_short ss_short cut cut_too is =
    let behind : y ≡ body r ++ (open_records rs ++ 1 ∷ x) = ap (λ (l : List ℕ). drop 1 l) (sym is) ∙ append_assoc (body r) (open_records rs) (1 ∷ x) in
    let number : from_be_bytes w32 (take 4 y) ≡ length r = ap (λ (l : List ℕ). from_be_bytes w32 (take 4 l)) behind ∙ from_be_bytes-to_be_bytes_4 (length r) (rs_short 0 [] (omega arith)) in
    absurd (omega (arith, cut_too, number, ap length behind, length-append (body r) (open_records rs ++ 1 ∷ x), length-append (open_records rs) (1 ∷ x), length-body r))
one_bad [] (s ∷ ss) x y rs_short ss_short cut cut_too is =
    let behind : x ≡ body s ++ (open_records ss ++ 1 ∷ y) = ap (λ (l : List ℕ). drop 1 l) is ∙ append_assoc (body s) (open_records ss) (1 ∷ y) in
    let number : from_be_bytes w32 (take 4 x) ≡ length s = ap (λ (l : List ℕ). from_be_bytes w32 (take 4 l)) behind ∙ from_be_bytes-to_be_bytes_4 (length s) (ss_short 0 [] (omega arith)) in
    absurd (omega (arith, cut, number, ap length behind, length-append (body s) (open_records ss ++ 1 ∷ y), length-append (open_records ss) (1 ∷ y), length-body s))
one_bad (r ∷ rs) (s ∷ ss) x y rs_short ss_short cut cut_too is =
    let behind : body r ++ (open_records rs ++ 1 ∷ x) ≡ body s ++ (open_records ss ++ 1 ∷ y) =
    sym (append_assoc (body r) (open_records rs) (1 ∷ x)) ∙ ap (λ (l : List ℕ). drop 1 l) is ∙ append_assoc (body s) (open_records ss) (1 ∷ y) in
    let both = same_body r s _ _ (rs_short 0 [] (omega arith)) (ss_short 0 [] (omega arith)) behind in
    let rest = one_bad rs ss x y (λ k d lt. rs_short (suc k) d (omega (arith, lt))) (λ k d lt. ss_short (suc k) d (omega (arith, lt))) cut cut_too both.1 in
    ap (λ (l : List ℕ). l ∷ rs) both.0 ∙ ap (λ (l : List (List ℕ)). s ∷ l) rest

pub bad_once : BadOnce
bad_once file at other bad another = bad.place ∙ ap (λ (rs : List (List ℕ)). length (open_records rs)) (one_bad bad.records another.records bad.rest another.rest bad.short another.short bad.cut_short another.cut_short (sym bad.split ∙ another.split)) ∙ sym another.place

pub at_rest_holds : (file : List ℕ) (records : List (List ℕ)) → AllShort records → IsAtRest records file → Holds file records
at_rest_holds file records short rest = inr (record { gate = 0; rest = rest.rest; split = rest.split; shut = λ is. absurd (omega (arith, is)); short = short })

pub rest_holds : RestHolds
rest_holds file records short (inl unused) = inl unused
rest_holds file records short (inr (inl rest)) = at_rest_holds file records short rest
rest_holds file records short (inr (inr none)) = absurd none

pub pending_holds : PendingHolds
pending_holds file records one_more short (inl unused) = inl (inl unused)
pending_holds file records one_more short (inr (inl rest)) = inl (at_rest_holds file records short rest)
pending_holds file records one_more short (inr (inr amid)) = elim (cases_eq amid.gate 1) [
  | inl is_open ↦ inr (at_rest_holds file (records ++ one_more ∷ []) (All-push (λ r. length r < 2 ^ 32) records one_more short amid.short) (record { rest = amid.rest; split = amid.split ∙ ap (λ g. open_records records ++ g ∷ (body one_more ++ 0 ∷ amid.rest)) is_open ∙ sym (open_push records one_more (0 ∷ amid.rest)) }))
  | inr shut ↦ inl (inr (record { gate = amid.gate; rest = body one_more ++ 0 ∷ amid.rest; split = amid.split; shut = shut; short = short }))
]
