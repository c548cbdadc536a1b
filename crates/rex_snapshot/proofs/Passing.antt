-- What lanes serve above a client.
use Rattle.std.proofs.Common.{◌≡◌, ℕ, suc, ◌+◌, ◌<◌, ◌≤◌, Bool, true, false, List, [], ◌∷◌, ◌++◌, Option, Some, None, refl, ap, sym, ◌∙◌, arith}
use Rattle.std.specs.Prelude.{◌==◌, ◌&&◌, ◌||◌, not, if◌then◌else◌, nat_eq, nat_lt, nat_le}
use Rattle.std.specs.List.{list_all, list_any, count_by}
use Rattle.std.proofs.lemmas.Bool.{ltb-false, ltb-true, le-leb, le-ltb, lt-ltb, ne_eqb}
use Rattle.std.proofs.Math.Bool.{and-true}
use Rattle.rex_frame.specs.declared.frame.Frame.{Frame}
use Rattle.rex_event.specs.declared.event.TheConstants.{CLIENTS, SEQUENCES}
use Rattle.rex_snapshot.specs.declared.ahead.Ahead.{Ahead}
use Rattle.rex_snapshot.specs.declared.parts.Seat.{Seat}
use Rattle.rex_snapshot.specs.Allowed.{IsAhead, is_unserved, may_be_client, may_be_replied, may_be_sequence, has_sequence, is_beyond, is_served, is_skipped, serves}
use Rattle.rex_snapshot.proofs.Counting.{count_yes, count_no}

-- ---- one lane

-- a client between two is not that of a lane whose client isn't
pub record IsPast (n next above : ℕ) (frame : Option Frame) : Type 0 where
  pub skips : is_skipped above n frame ≡ false
  pub beyond : is_beyond n frame ≡ is_beyond above frame
  pub sequence : (q : ℕ) → has_sequence n q frame ≡ true
  pub serves : serves n frame ≡ false
  pub still : is_skipped n next frame ≡ false

passes : (above next n : ℕ) (frame : Option Frame) → is_skipped above next frame ≡ false → above < n → n < next → IsPast n next above frame
passes above next n None e low high = record { skips = refl; beyond = refl; sequence = λ q. refl; serves = refl; still = refl }
passes above next n (Some f) e low high = by (nat_lt above f.client) (nat_lt f.client next) refl refl e
  where
    by : (a b : Bool) → nat_lt above f.client ≡ a → nat_lt f.client next ≡ b → (a && b) ≡ false → IsPast n next above (Some f)
    by false b ea eb h =
        let least = ltb-false above f.client ea in
        let below : nat_lt n f.client ≡ false = le-ltb n f.client (omega (arith, least, low)) in
        let other : nat_eq f.client n ≡ false = ne_eqb f.client n (λ same. absurd (omega (arith, least, low, same))) in
        record { skips = rw ea refl; beyond = below ∙ sym ea; sequence = λ q. rw other refl; serves = other; still = rw below refl }
    by true true ea eb h = absurd (cc)
    by true false ea eb h =
        let most = ltb-false f.client next eb in
        let above_n : nat_lt n f.client ≡ true = lt-ltb n f.client (omega (arith, most, high)) in
        let not_below : nat_lt f.client n ≡ false = le-ltb f.client n (omega (arith, most, high)) in
        let other : nat_eq f.client n ≡ false = ne_eqb f.client n (λ same. absurd (omega (arith, most, high, same))) in
        record { skips = rw (ea, not_below) refl; beyond = above_n ∙ sym ea; sequence = λ q. rw other refl; serves = other; still = rw (above_n, eb) refl }

-- ---- all lanes

pub record ArePast (n next above : ℕ) (seats : List Seat) : Type 0 where
  pub skips : list_all (λ s. not (is_skipped above n s.lane.frame)) seats ≡ true
  pub beyond : count_by (λ s. is_beyond n s.lane.frame) seats ≡ count_by (λ s. is_beyond above s.lane.frame) seats
  pub sequence : (q : ℕ) → list_all (λ s. has_sequence n q s.lane.frame) seats ≡ true
  pub serves : is_served seats n ≡ false
  pub still : list_any (λ s. is_skipped n next s.lane.frame) seats ≡ false

-- so it is of the rest where it is of one more
neither : (a b : Bool) → (a || b) ≡ false → (a ≡ false) × (b ≡ false)
neither false b e = (refl, e)
neither true b e = absurd (cc)

same_more : (p q : Seat → Bool) (s : Seat) (seats : List Seat) → p s ≡ q s → count_by p seats ≡ count_by q seats → count_by p (s ∷ seats) ≡ count_by q (s ∷ seats)
same_more p q s seats here rest = by (q s) refl
  where
    by : (b : Bool) → q s ≡ b → count_by p (s ∷ seats) ≡ count_by q (s ∷ seats)
    by true e = count_yes p s seats (here ∙ e) ∙ ap suc rest ∙ sym (count_yes q s seats e)
    by false e = count_no p s seats (here ∙ e) ∙ rest ∙ sym (count_no q s seats e)

pub all_pass : (above next n : ℕ) (seats : List Seat) → list_any (λ s. is_skipped above next s.lane.frame) seats ≡ false → above < n → n < next → ArePast n next above seats
all_pass above next n [] e low high = record { skips = refl; beyond = refl; sequence = λ q. refl; serves = refl; still = refl }
all_pass above next n (s ∷ seats) e low high =
    let parts = neither (is_skipped above next s.lane.frame) (list_any (λ s. is_skipped above next s.lane.frame) seats) e in
    let here = passes above next n s.lane.frame parts.0 low high in
    let rest = all_pass above next n seats parts.1 low high in
    record {
      skips = rw (here.skips) rest.skips;
      beyond = same_more (λ s. is_beyond n s.lane.frame) (λ s. is_beyond above s.lane.frame) s seats here.beyond rest.beyond;
      sequence = λ q. rw (here.sequence q) (rest.sequence q);
      serves = rw (here.serves) rest.serves;
      still = rw (here.still) rest.still;
    }

-- ---- the least one

-- between fewer there is none either
closer : (above next now : ℕ) (frame : Option Frame) → now ≤ next → is_skipped above next frame ≡ false → is_skipped above now frame ≡ false
closer above next now None le e = refl
closer above next now (Some f) le e = by (nat_lt above f.client) (nat_lt f.client next) refl refl e
  where
    by : (a b : Bool) → nat_lt above f.client ≡ a → nat_lt f.client next ≡ b → (a && b) ≡ false → is_skipped above now (Some f) ≡ false
    by false b ea eb h = rw ea refl
    by true true ea eb h = absurd (cc)
    by true false ea eb h = let not_below : nat_lt f.client now ≡ false = le-ltb f.client now (omega (arith, ltb-false f.client next eb, le)) in rw (ea, not_below) refl

-- so it is of the first lanes, and of one more
pub one_more : (above next now : ℕ) (seats : List Seat) (s : Seat) → now ≤ next → list_any (λ x. is_skipped above next x.lane.frame) seats ≡ false → is_skipped above now s.lane.frame ≡ false
    → list_any (λ x. is_skipped above now x.lane.frame) (seats ++ s ∷ []) ≡ false
one_more above next now [] s le e here = rw here refl
one_more above next now (x ∷ seats) s le e here =
    let parts = neither (is_skipped above next x.lane.frame) (list_any (λ y. is_skipped above next y.lane.frame) seats) e in
    rw (closer above next now x.lane.frame le parts.0) (one_more above next now seats s le parts.1 here)

-- ---- a client that is read

pub are_past : (above client : ℕ) (a : Ahead) (seats : List Seat) → IsAhead seats above a → is_unserved above a client ≡ true → ArePast client a.next above seats
are_past above client a seats h free = by (nat_lt above client) (nat_lt client a.next) refl refl free
  where
    by : (x y : Bool) → nat_lt above client ≡ x → nat_lt client a.next ≡ y → (x && y) ≡ true → ArePast client a.next above seats
    by true true ex ey e = all_pass above a.next client seats h.none_between (ltb-true above client ex) (ltb-true client a.next ey)
    by true false ex ey e = absurd (cc)
    by false y ex ey e = absurd (cc)

low_of : (above client : ℕ) (a : Ahead) → is_unserved above a client ≡ true → above < client
low_of above client a free = by (nat_lt above client) refl free
  where
    by : (x : Bool) → nat_lt above client ≡ x → (x && nat_lt client a.next) ≡ true → above < client
    by true ex e = ltb-true above client ex
    by false ex e = absurd (cc)

pub client_may : (above left client : ℕ) (a : Ahead) (seats : List Seat) → IsAhead seats above a → is_unserved above a client ≡ true → client ≤ CLIENTS
    → nat_le a.count left ≡ may_be_client seats above left client
client_may above left client a seats h free most =
    let p = are_past above client a seats h free in
    let low : nat_le (above + 1) client ≡ true = le-leb (above + 1) client (omega (arith, low_of above client a free)) in
    let high : nat_le client CLIENTS ≡ true = le-leb client CLIENTS most in
    sym (rw (low, high, p.skips, p.beyond, ← h.count_is) refl)

pub sequence_may : (above client n : ℕ) (a : Ahead) (seats : List Seat) → IsAhead seats above a → is_unserved above a client ≡ true → 1 ≤ n
    → nat_le n SEQUENCES ≡ may_be_sequence seats client n
sequence_may above client n a seats h free least =
    let p = are_past above client a seats h free in
    sym (rw (le-leb 1 n least, p.sequence n) (and-true (nat_le n SEQUENCES)))

pub replied_may : (above client n : ℕ) (a : Ahead) (seats : List Seat) → IsAhead seats above a → is_unserved above a client ≡ true
    → (n == 1) ≡ may_be_replied seats client n
replied_may above client n a seats h free =
    let p = are_past above client a seats h free in
    sym (ap (λ (b : Bool). if b then (n == 0) else (n == 1)) p.serves)

pub still_ahead : (above client : ℕ) (a : Ahead) (seats : List Seat) → IsAhead seats above a → is_unserved above a client ≡ true → IsAhead seats client a
still_ahead above client a seats h free =
    let p = are_past above client a seats h free in
    record { none_between = p.still; count_is = h.count_is ∙ sym p.beyond }
