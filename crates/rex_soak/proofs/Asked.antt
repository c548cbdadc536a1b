-- The requests: two a round, none of which is repeated.
use Rattle.std.proofs.Common.{◌≡◌, ℕ, suc, zero, ◌+◌, ◌*◌, ◌%◌, ◌<◌, ◌≤◌, Bool, true, false, eqb, ◌&&◌, List, [], ◌∷◌, ◌++◌, length, Some, None, refl, ◌∙◌, arith, length-append}
use Rattle.std.specs.Prelude.{codes, pos, slice_index, nat_le}
use Rattle.std.specs.Fmt.{decimal, digits}
use Rattle.std.specs.List.{list_all}
use Rattle.std.proofs.lemmas.Bool.{ne_eqb, lt-leb}
use Rattle.std.proofs.lemmas.List.Folds.{list_any-append}
use Rattle.rex_text.specs.Text.{is_allowed, words_of}
use Rattle.rex_text.specs.Numbers.{i64_at}
use Rattle.rex_syntax.specs.declared.request.Request.{Request}
use Rattle.rex_parse.specs.Words.{is_name}
use Rattle.rex_gen.specs.Commands.{request}
use Rattle.rex_gen.specs.Scenario.{requests}
use Rattle.rex_scenario.specs.Requests.{client_of, sequence_of}
use Rattle.rex_scenario.specs.Taken.{has_ticket}
use Rattle.rex_scenario.specs.Reading.{line_code, line_after}
use Rattle.rex_soak.proofs.Lines.{IsWord, AreWords, spaced, spaced_words, spaced_plain, plain_clean, in_range, length-spaced}
use Rattle.rex_soak.proofs.Numbers.{decimal_word, read_u64, read_i64, short}
use Rattle.rex_soak.proofs.Commands.{request_words, request_is}
use Rattle.rex_soak.proofs.Texts.{IsRead, read_none, read_line, read_both}
use Rattle.rex_soak.proofs.Counter.{requesting}

-- a request to add an amount
abbrev pub asked : ℕ → ℕ → ℕ → Request
asked client sequence amount = record { client = client; sequence = sequence; handler = 0; arguments = pos amount ∷ [] }

-- a line of four words that asks for it
good_line : (seed : ℕ) (earlier : List Request) (n : ℕ) (line c s a : List ℕ) (client sequence amount : ℕ) → list_all is_allowed line ≡ true → words_of line ≡ c ∷ s ∷ codes "add" ∷ a ∷ []
    → eqb (slice_index c 0) 35 ≡ false → eqb (slice_index c 0) 37 ≡ false → client_of c ≡ Some client → sequence_of s ≡ Some sequence → i64_at a ≡ Some (pos amount)
    → has_ticket earlier (client, sequence) ≡ false → nat_le 65536 (length earlier) ≡ false
    → (line_code (requesting seed earlier) line ≡ None) × (line_after (requesting seed earlier) n line ≡ requesting seed (earlier ++ asked client sequence amount ∷ []))
unfolding is_name
good_line seed earlier n line c s a client sequence amount clean words hash percent is_client is_sequence is_amount new few =
    (rw (clean, words, hash, percent, is_client, is_sequence, is_amount, new, few) refl, rw (words, hash, percent, is_client, is_sequence, is_amount) refl)

client_is : (n : ℕ) → 1 ≤ n → n ≤ 256 → client_of (decimal n) ≡ Some n
client_is n low high = rw (read_u64 n (omega arith), in_range 1 256 n low high) refl

sequence_is : (n : ℕ) → 1 ≤ n → n ≤ 1000000 → sequence_of (decimal n) ≡ Some n
sequence_is n low high = rw (read_u64 n (omega arith), in_range 1 1000000 n low high) refl

add_word : IsWord (codes "add")
add_word = record { some = omega arith; visible = refl }

are_words : (client sequence amount : ℕ) → client ≤ 256 → sequence ≤ 1000000 → amount < 100 → AreWords (request_words client sequence amount)
are_words client sequence amount c s a =
    (decimal_word client (omega arith), (decimal_word sequence (omega arith), (add_word, (decimal_word amount (omega arith), tt))))

-- a request that is new is read
read_request : (seed : ℕ) (earlier : List Request) (n client sequence amount : ℕ) → 1 ≤ client → client ≤ 256 → eqb (slice_index (decimal client) 0) 35 ≡ false → eqb (slice_index (decimal client) 0) 37 ≡ false
    → 1 ≤ sequence → sequence ≤ 1000000 → amount < 100 → has_ticket earlier (client, sequence) ≡ false → length earlier < 65536
    → IsRead (requesting seed earlier) n (request client sequence amount) (requesting seed (earlier ++ asked client sequence amount ∷ [])) (n + 1)
read_request seed earlier n client sequence amount c1 c2 hash percent s1 s2 a new few =
    let ws = request_words client sequence amount in
    let are = are_words client sequence amount c2 s2 a in
    let plain = spaced_plain ws are in
    let good = good_line seed earlier n (spaced ws) (decimal client) (decimal sequence) (decimal amount) client sequence amount (plain_clean (spaced ws) plain) (spaced_words ws are) hash percent
    (client_is client c1 c2) (sequence_is sequence s1 s2) (read_i64 amount (omega arith)) new (lt-leb 65536 (length earlier) few) in
    rw (← request_is client sequence amount, ← good.1) (read_line (requesting seed earlier) n (spaced ws) plain good.0)

length-request : (client sequence amount : ℕ) → client ≤ 256 → sequence ≤ 1000000 → amount < 100 → length (request client sequence amount) ≤ 70
length-request client sequence amount c s a =
    rw (← request_is client sequence amount) (omega (arith, length-spaced (decimal client) (decimal sequence ∷ codes "add" ∷ decimal amount ∷ []), short client (omega arith), short sequence (omega arith), short amount (omega arith)))

-- ---- which sequences are taken

and_false : (b : Bool) → (b && false) ≡ false
and_false true = refl
and_false false = refl

still_new : (list : List Request) (x : Request) (c s : ℕ) → has_ticket list (c, s) ≡ false → (eqb x.client c && eqb x.sequence s) ≡ false → has_ticket (list ++ x ∷ []) (c, s) ≡ false
still_new list x c s old new = rw (list_any-append (λ (q : Request). eqb q.client c && eqb q.sequence s) list (x ∷ []), old, new) refl

-- a request with a lower sequence takes no higher one
later_new : (list : List Request) (client sequence amount c s : ℕ) → has_ticket list (c, s) ≡ false → sequence < s → has_ticket (list ++ asked client sequence amount ∷ []) (c, s) ≡ false
later_new list client sequence amount c s old lt = still_new list (asked client sequence amount) c s old (rw (ne_eqb sequence s (λ e. omega arith)) (and_false (eqb client c)))

-- ---- all of them

-- the requests of so many rounds are read
pub record AreAsked (seed rounds : ℕ) : Type 0 where
  pub list : List Request
  pub next : ℕ
  pub read : IsRead (requesting seed []) 14 (requests seed rounds) (requesting seed list) next
  pub two_each : length list ≡ 2 * rounds
  pub fresh : (c s : ℕ) → rounds < s → has_ticket list (c, s) ≡ false
  pub short : length (requests seed rounds) ≤ 140 * rounds

pub are_asked : (seed r : ℕ) → r ≤ 1000 → AreAsked seed r
unfolding digits
are_asked seed zero le = record { list = []; next = 14; read = read_none (requesting seed []) 14; two_each = refl; fresh = λ c s lt. refl; short = omega arith }
are_asked seed (suc r) le =
    let h = are_asked seed r (omega arith) in
    let x = (seed + (r + 1)) % 100 in
    let y = (seed + 2 * (r + 1)) % 100 in
    let one = h.list ++ asked 1 (r + 1) x ∷ [] in
    let two = one ++ asked 2 (r + 1) y ∷ [] in
    let few : length h.list ≡ 2 * r = h.two_each in
    let grown : length one ≡ 2 * r + 1 = length-append h.list (asked 1 (r + 1) x ∷ []) ∙ omega arith in
    let first = read_request seed h.list h.next 1 (r + 1) x (omega arith) (omega arith) refl refl (omega arith) (omega arith) (omega arith) (h.fresh 1 (r + 1) (omega arith)) (omega arith) in
    let second = read_request seed one (h.next + 1) 2 (r + 1) y (omega arith) (omega arith) refl refl (omega arith) (omega arith) (omega arith)
    (still_new h.list (asked 1 (r + 1) x) 2 (r + 1) (h.fresh 2 (r + 1) (omega arith)) refl) (omega arith) in
    record {
      list = two;
      next = h.next + 1 + 1;
      read = read_both _ _ _ 14 h.next (h.next + 1 + 1) _ _ h.read (read_both _ _ _ h.next (h.next + 1) (h.next + 1 + 1) _ _ first second);
      two_each = length-append one (asked 2 (r + 1) y ∷ []) ∙ omega arith;
      fresh = λ c s lt. later_new one 2 (r + 1) y c s (later_new h.list 1 (r + 1) x c s (h.fresh c s (omega arith)) (omega arith)) (omega arith);
      short = omega (
        arith,
        h.short,
        length-append (requests seed r) (request 1 (r + 1) x ++ request 2 (r + 1) y),
        length-append (request 1 (r + 1) x) (request 2 (r + 1) y),
        length-request 1 (r + 1) x (omega arith) (omega arith) (omega arith),
        length-request 2 (r + 1) y (omega arith) (omega arith) (omega arith),
      );
    }
