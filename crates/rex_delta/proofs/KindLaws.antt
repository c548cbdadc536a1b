-- What an event did: what is read is spelled so, and is read again from its spelling.
use Rattle.std.proofs.Common.{◌≡◌, ℕ, zero, suc, ◌+◌, ◌-◌, ◌*◌, ◌<◌, ◌≤◌, ◌^◌, true, List, [], ◌∷◌, ◌++◌, length, get_or, refl, sym, subst, arith, FitsSigned, ℤ, Option, Some, None, ap}
use Rattle.std.specs.Prelude.{◌==◌, IfSome, nat_lt}
use Rattle.std.specs.Int.{w64, w8, w16, w32, to_be_bytes, cast_unsigned}
use Rattle.std.specs.List.{flat_map, All}
use Rattle.std.proofs.lemmas.Bool.{ltb-true, eqb-true, eqb-false, lt-ltb}
use Rattle.rex_event.specs.declared.event.Kind.{Kind}
use Rattle.rex_event.specs.declared.event.Kind.TheVariants.{Begin, AcqEx, AcqSh, RelEx, RelSh, TryOk, TryBusy, Wait, Wake, Signal, Broadcast, Clock, Random, Reply, Down, Up}
use Rattle.rex_wire.specs.Reading.{Left, Reading, number_at, signed_at, allowed_at}
use Rattle.rex_wire.specs.Spelling.{byte, signed}
use Rattle.rex_wire.proofs.Fields.{is_taken, Takes, Takes-then, IsSpelled, IsSpelled-either, step, IsRead, IsRead-then, IsRead-last}
use Rattle.rex_wire.proofs.Numbers.{wide8, wide16, wide32, wide64, number_spelled, allowed_spelled, signed_spelled, number_again, allowed_again, signed_again}
use Rattle.rex_wire.proofs.Ranges.{is_between-true, between-is}
use Rattle.rex_wire.proofs.Lists.{same, AreEach, AreEach-to_all, list_spelled, AreEach-from_all, list_again}
use Rattle.rex_delta.specs.Spelling.{code_of, content, woken_number, is_between, IsBetween, KindFits, IsTyped}
use Rattle.rex_delta.specs.Reading.{place_at, arguments_at, begin_at, lock_at, condition_at, woken_of, signal_at, broadcast_at, clock_at, random_at, reply_at, content_at, kind_at}
use Rattle.rex_delta.proofs.Bytes.{AreBytes, more, both, one, each_piece, number16, number32, number64, signed64}
use Rattle.rex_delta.proofs.Lists.{argument_at, arguments_in, arguments_repeated}
use Rattle.std.proofs.Math.Pow.{pow_mono}
use Rattle.rex_event.specs.Limits.{most_lanes}

-- ---- what is read is spelled so

abbrev place_bytes : ℕ → List ℕ
place_bytes n = byte (n + 1)

pub place_spelled : IsSpelled place_at place_bytes (λ n. n < 64)
unfolding place_at
place_spelled = record {
  takes = λ l x bytes e.
      let a = step (allowed_spelled wide8 (is_between 1 64)) l _ x bytes e in
      let in_range = is_between-true 1 64 a.value a.may in
      let back : (a.value - 1) + 1 ≡ a.value = omega (arith, in_range.0) in
      is_taken place_bytes (λ n. n < 64) l (a.value - 1, a.left) x a.next (rw back a.takes, omega (arith, in_range.0, in_range.1));
}

-- a kind that was read after its number
pub record IsKind (lanes code : ℕ) (kind : Kind) : Type 0 where
  pub fits : KindFits lanes kind
  pub typed : IsTyped kind
  pub code_is : code_of kind ≡ code

lock_spelled : (lanes code : ℕ) (make : ℕ → Kind) → ((lock : ℕ) → content (make lock) ≡ place_bytes lock) → ((lock : ℕ) → lock < 64 → IsKind lanes code (make lock)) → IsSpelled (lock_at make) content (IsKind lanes code)
unfolding lock_at
lock_spelled lanes code make spelled is = record {
  takes = λ l x bytes e.
      let a = step place_spelled l _ x bytes e in
      is_taken content (IsKind lanes code) l (make a.value, a.left) x a.next (rw (spelled a.value) a.takes, is a.value a.may);
}

condition_spelled : (lanes code : ℕ) (make : ℕ → ℕ → Kind) → ((condition lock : ℕ) → content (make condition lock) ≡ place_bytes condition ++ place_bytes lock) → ((condition lock : ℕ) → condition < 64 → lock < 64 → IsKind lanes code (make condition lock)) → IsSpelled (condition_at make) content (IsKind lanes code)
unfolding condition_at
condition_spelled lanes code make spelled is = record {
  takes = λ l x bytes e.
      let a = step place_spelled l _ x bytes e in
      let b = step place_spelled a.left _ x a.takes.bytes a.next in
      let t = Takes-then l a.left b.left (place_bytes a.value) (place_bytes b.value) a.takes b.takes in
      is_taken content (IsKind lanes code) l (make a.value b.value, b.left) x b.next (rw (spelled a.value b.value) t, is a.value b.value a.may b.may);
}

arguments_spelled : (n : ℕ) → IsSpelled (arguments_at n) (flat_map signed) (λ xs. AreEach same (λ _. FitsSigned w64) (tt {0}) xs × (length xs ≡ n))
arguments_spelled n = list_spelled argument_at same arguments_in arguments_repeated signed (λ _. FitsSigned w64) (λ s. signed_spelled) n (tt {0})

begin_spelled : (lanes : ℕ) → IsSpelled begin_at content (IsKind lanes 1)
unfolding begin_at
begin_spelled lanes = record {
  takes = λ l x bytes e.
      let client = step (allowed_spelled wide16 (is_between 1 256)) l _ x bytes e in
      let sequence = step (allowed_spelled wide32 (is_between 1 1000000)) client.left _ x client.takes.bytes client.next in
      let handler = step place_spelled sequence.left _ x sequence.takes.bytes sequence.next in
      let count = step (allowed_spelled wide8 (is_between 0 4)) handler.left _ x handler.takes.bytes handler.next in
      let arguments = step (arguments_spelled count.value) count.left _ x count.takes.bytes count.next in
      let few = is_between-true 0 4 count.value count.may in
      let long = arguments.may.1 in
      let counted : Takes handler.left (byte (length arguments.value)) count.left = rw long count.takes in
      let t4 = Takes-then handler.left count.left arguments.left _ _ counted arguments.takes in
      let t3 = Takes-then sequence.left handler.left arguments.left _ _ handler.takes t4 in
      let t2 = Takes-then client.left sequence.left arguments.left _ _ sequence.takes t3 in
      let t1 = Takes-then l client.left arguments.left _ _ client.takes t2 in
      let kind = Begin client.value sequence.value handler.value arguments.value in
      let is : IsKind lanes 1 kind = record {
        fits = (is_between-true 1 256 client.value client.may, is_between-true 1 1000000 sequence.value sequence.may, handler.may, omega (arith, long, few.1));
        typed = AreEach-to_all (FitsSigned w64) (tt {0}) arguments.value arguments.may.0;
        code_is = refl;
      } in
      is_taken content (IsKind lanes 1) l (kind, arguments.left) x arguments.next (t1, is);
}

woken-back : (n : ℕ) → woken_number (woken_of n) ≡ n
woken-back zero = refl
woken-back (suc n) = omega arith

woken-fits : (lanes n : ℕ) → n ≤ lanes → IfSome (woken_of n) (λ lane. lane < lanes)
woken-fits lanes zero le = tt
woken-fits lanes (suc n) le = omega arith

signal_spelled : (lanes : ℕ) → IsSpelled (signal_at lanes) content (IsKind lanes 10)
unfolding signal_at
signal_spelled lanes = record {
  takes = λ l x bytes e.
      let condition = step place_spelled l _ x bytes e in
      let woken = step (allowed_spelled wide8 (is_between 0 lanes)) condition.left _ x condition.takes.bytes condition.next in
      let number : Takes condition.left (byte (woken_number (woken_of woken.value))) woken.left = rw (woken-back woken.value) woken.takes in
      let t = Takes-then l condition.left woken.left _ _ condition.takes number in
      let kind = Signal condition.value (woken_of woken.value) in
      let is : IsKind lanes 10 kind = record { fits = (condition.may, woken-fits lanes woken.value (is_between-true 0 lanes woken.value woken.may).1); typed = tt; code_is = refl } in
      is_taken content (IsKind lanes 10) l (kind, woken.left) x woken.next (t, is);
}

broadcast_spelled : (lanes : ℕ) → IsSpelled (broadcast_at lanes) content (IsKind lanes 11)
unfolding broadcast_at
broadcast_spelled lanes = record {
  takes = λ l x bytes e.
      let condition = step place_spelled l _ x bytes e in
      let woken = step (allowed_spelled wide64 (λ bits. nat_lt bits (2 ^ lanes))) condition.left _ x condition.takes.bytes condition.next in
      let t = Takes-then l condition.left woken.left _ _ condition.takes woken.takes in
      let kind = Broadcast condition.value woken.value in
      let is : IsKind lanes 11 kind = record { fits = (condition.may, ltb-true _ _ woken.may); typed = tt; code_is = refl } in
      is_taken content (IsKind lanes 11) l (kind, woken.left) x woken.next (t, is);
}

clock_spelled : (lanes : ℕ) → IsSpelled clock_at content (IsKind lanes 12)
unfolding clock_at
clock_spelled lanes = record {
  takes = λ l x bytes e.
      let value = step signed_spelled l _ x bytes e in
      let is : IsKind lanes 12 (Clock value.value) = record { fits = tt; typed = value.may; code_is = refl } in
      is_taken content (IsKind lanes 12) l (Clock value.value, value.left) x value.next (value.takes, is);
}

random_spelled : (lanes : ℕ) → IsSpelled random_at content (IsKind lanes 13)
unfolding random_at
random_spelled lanes = record {
  takes = λ l x bytes e.
      let value = step (number_spelled wide32) l _ x bytes e in
      let is : IsKind lanes 13 (Random value.value) = record { fits = tt; typed = value.may; code_is = refl } in
      is_taken content (IsKind lanes 13) l (Random value.value, value.left) x value.next (value.takes, is);
}

reply_spelled : (lanes : ℕ) → IsSpelled reply_at content (IsKind lanes 14)
unfolding reply_at
reply_spelled lanes = record {
  takes = λ l x bytes e.
      let client = step (allowed_spelled wide16 (is_between 1 256)) l _ x bytes e in
      let value = step signed_spelled client.left _ x client.takes.bytes client.next in
      let t = Takes-then l client.left value.left _ _ client.takes value.takes in
      let kind = Reply client.value value.value in
      let is : IsKind lanes 14 kind = record { fits = is_between-true 1 256 client.value client.may; typed = value.may; code_is = refl } in
      is_taken content (IsKind lanes 14) l (kind, value.left) x value.next (t, is);
}

at_code : (lanes code n : ℕ) {read : Left → Reading Kind} → IsSpelled read content (IsKind lanes n) → (code == n) ≡ true → IsSpelled read content (IsKind lanes code)
at_code lanes code n {read} h e = subst (λ (k : ℕ). IsSpelled read content (IsKind lanes k)) (sym (eqb-true code n e)) h

lock_kind : (lanes code n : ℕ) (make : ℕ → Kind) → ((lock : ℕ) → content (make lock) ≡ place_bytes lock) → ((lock : ℕ) → lock < 64 → IsKind lanes n (make lock)) → (code == n) ≡ true → IsSpelled (lock_at make) content (IsKind lanes code)
lock_kind lanes code n make spelled is e = at_code lanes code n (lock_spelled lanes n make spelled is) e

content_spelled : (lanes code : ℕ) → IsBetween 1 16 code → IsSpelled (content_at lanes code) content (IsKind lanes code)
content_spelled lanes code range =
    let may = IsKind lanes code in
    IsSpelled-either (code == 1) begin_at _ content may (at_code lanes code 1 (begin_spelled lanes)) (λ n1.
    IsSpelled-either (code == 2) (lock_at AcqEx) _ content may (lock_kind lanes code 2 AcqEx (λ lock. refl) (λ lock lt. record { fits = lt; typed = tt; code_is = refl })) (λ n2.
    IsSpelled-either (code == 3) (lock_at AcqSh) _ content may (lock_kind lanes code 3 AcqSh (λ lock. refl) (λ lock lt. record { fits = lt; typed = tt; code_is = refl })) (λ n3.
    IsSpelled-either (code == 4) (lock_at RelEx) _ content may (lock_kind lanes code 4 RelEx (λ lock. refl) (λ lock lt. record { fits = lt; typed = tt; code_is = refl })) (λ n4.
    IsSpelled-either (code == 5) (lock_at RelSh) _ content may (lock_kind lanes code 5 RelSh (λ lock. refl) (λ lock lt. record { fits = lt; typed = tt; code_is = refl })) (λ n5.
    IsSpelled-either (code == 6) (lock_at TryOk) _ content may (lock_kind lanes code 6 TryOk (λ lock. refl) (λ lock lt. record { fits = lt; typed = tt; code_is = refl })) (λ n6.
    IsSpelled-either (code == 7) (lock_at TryBusy) _ content may (lock_kind lanes code 7 TryBusy (λ lock. refl) (λ lock lt. record { fits = lt; typed = tt; code_is = refl })) (λ n7.
    IsSpelled-either (code == 8) (condition_at Wait) _ content may (at_code lanes code 8 (condition_spelled lanes 8 Wait (λ condition lock. refl) (λ condition lock lt less. record { fits = (lt, less); typed = tt; code_is = refl }))) (λ n8.
    IsSpelled-either (code == 9) (condition_at Wake) _ content may (at_code lanes code 9 (condition_spelled lanes 9 Wake (λ condition lock. refl) (λ condition lock lt less. record { fits = (lt, less); typed = tt; code_is = refl }))) (λ n9.
    IsSpelled-either (code == 10) (signal_at lanes) _ content may (at_code lanes code 10 (signal_spelled lanes)) (λ n10.
    IsSpelled-either (code == 11) (broadcast_at lanes) _ content may (at_code lanes code 11 (broadcast_spelled lanes)) (λ n11.
    IsSpelled-either (code == 12) clock_at _ content may (at_code lanes code 12 (clock_spelled lanes)) (λ n12.
    IsSpelled-either (code == 13) random_at _ content may (at_code lanes code 13 (random_spelled lanes)) (λ n13.
    IsSpelled-either (code == 14) reply_at _ content may (at_code lanes code 14 (reply_spelled lanes)) (λ n14.
    IsSpelled-either (code == 15) (lock_at Down) _ content may (lock_kind lanes code 15 Down (λ semaphore. refl) (λ semaphore lt. record { fits = lt; typed = tt; code_is = refl })) (λ n15.
    let last : code ≡ 16 = omega (arith, range.0, range.1, eqb-false code 1 n1, eqb-false code 2 n2, eqb-false code 3 n3, eqb-false code 4 n4, eqb-false code 5 n5, eqb-false code 6 n6, eqb-false code 7 n7, eqb-false code 8 n8, eqb-false code 9 n9, eqb-false code 10 n10, eqb-false code 11 n11, eqb-false code 12 n12, eqb-false code 13 n13, eqb-false code 14 n14, eqb-false code 15 n15) in
    subst (λ (k : ℕ). IsSpelled (lock_at Up) content (IsKind lanes k)) (sym last) (lock_spelled lanes 16 Up (λ semaphore. refl) (λ semaphore lt. record { fits = lt; typed = tt; code_is = refl })))))))))))))))))

abbrev pub kind_bytes : Kind → List ℕ
kind_bytes kind = byte (code_of kind) ++ content kind

-- a kind in its ranges, whose number is from the least to the greatest
pub record IsKindOf (lanes least most : ℕ) (kind : Kind) : Type 0 where
  pub code : IsBetween least most (code_of kind)
  pub fits : KindFits lanes kind
  pub typed : IsTyped kind

pub kind_spelled : (lanes least most : ℕ) → 1 ≤ least → most ≤ 16 → IsSpelled (kind_at lanes least most) kind_bytes (IsKindOf lanes least most)
unfolding kind_at
kind_spelled lanes least most some few = record {
  takes = λ l x bytes e.
      let code = step (allowed_spelled wide8 (is_between least most)) l (λ code. content_at lanes code.0 code.1) x bytes e in
      let range = is_between-true least most code.value code.may in
      let t = (content_spelled lanes code.value (omega (arith, some, range.0), omega (arith, few, range.1))).takes code.left x code.takes.bytes code.next in
      let number : Takes l (byte (code_of x.0)) code.left = rw t.1.code_is code.takes in
      (Takes-then l code.left x.1 _ _ number t.0, record { code = subst (IsBetween least most) (sym t.1.code_is) range; fits = t.1.fits; typed = t.1.typed });
}

-- ---- what is spelled is read again

place_again : (n : ℕ) → n < 64 → IsRead place_at (byte (n + 1)) n
unfolding place_at
place_again n lt =
    let back : (n + 1) - 1 ≡ n = omega arith in
    let number = allowed_again wide8 (is_between 1 64) (n + 1) (omega arith) (between-is 1 64 (n + 1) (omega arith, omega arith)) in
    subst (λ (k : ℕ). IsRead place_at (byte (n + 1)) k) back (IsRead-last (allowed_at w8 (is_between 1 64)) (λ k. k - 1) (byte (n + 1)) (n + 1) number)

lock_again : (make : ℕ → Kind) (lock : ℕ) → lock < 64 → IsRead (lock_at make) (byte (lock + 1)) (make lock)
unfolding lock_at
lock_again make lock lt = IsRead-last place_at make (byte (lock + 1)) lock (place_again lock lt)

condition_again : (make : ℕ → ℕ → Kind) (condition lock : ℕ) → condition < 64 → lock < 64 → IsRead (condition_at make) (byte (condition + 1) ++ byte (lock + 1)) (make condition lock)
unfolding condition_at
condition_again make condition lock lt less =
    IsRead-then place_at _ (byte (condition + 1)) (byte (lock + 1)) condition (make condition lock) (place_again condition lt)
    (IsRead-last place_at (make condition) (byte (lock + 1)) lock (place_again lock less))

arguments_again : (xs : List ℤ) → All (FitsSigned w64) xs → IsRead (arguments_at (length xs)) (flat_map signed xs) xs
arguments_again xs all = list_again argument_at same arguments_in arguments_repeated signed (λ _. FitsSigned w64) (λ s. signed_again) (tt {0}) xs (AreEach-from_all (FitsSigned w64) (tt {0}) xs all)

begin_again : (client sequence handler : ℕ) (arguments : List ℤ) → IsBetween 1 256 client → IsBetween 1 1000000 sequence → handler < 64 → length arguments ≤ 4 → All (FitsSigned w64) arguments → IsRead begin_at (content (Begin client sequence handler arguments)) (Begin client sequence handler arguments)
unfolding begin_at
begin_again client sequence handler arguments clients sequences handlers few all =
    let kind = Begin client sequence handler arguments in
    let last = byte (length arguments) ++ flat_map signed arguments in
    IsRead-then (allowed_at w16 (is_between 1 256)) _ (to_be_bytes w16 client) (to_be_bytes w32 sequence ++ (byte (handler + 1) ++ last)) client kind (allowed_again wide16 _ client (omega (arith, clients.1)) (between-is 1 256 client clients))
    (IsRead-then (allowed_at w32 (is_between 1 1000000)) _ (to_be_bytes w32 sequence) (byte (handler + 1) ++ last) sequence kind (allowed_again wide32 _ sequence (omega (arith, sequences.1)) (between-is 1 1000000 sequence sequences))
    (IsRead-then place_at _ (byte (handler + 1)) last handler kind (place_again handler handlers)
    (IsRead-then (allowed_at w8 (is_between 0 4)) _ (byte (length arguments)) (flat_map signed arguments) (length arguments) kind (allowed_again wide8 _ (length arguments) (omega arith) (between-is 0 4 (length arguments) (omega arith, few)))
    (IsRead-last (arguments_at (length arguments)) (Begin client sequence handler) (flat_map signed arguments) arguments (arguments_again arguments all)))))

woken_same : (lanes : ℕ) (woken : Option ℕ) → woken_of (woken_number woken) ≡ woken
woken_same lanes None = refl
woken_same lanes (Some lane) =
    let e : lane + 1 ≡ suc lane = omega arith in
    ap woken_of e

woken_between : (lanes : ℕ) (woken : Option ℕ) → IfSome woken (λ lane. lane < lanes) → IsBetween 0 lanes (woken_number woken)
woken_between lanes None h = (omega arith, omega arith)
woken_between lanes (Some lane) h = (omega arith, omega arith)

signal_again : (lanes condition : ℕ) (woken : Option ℕ) → lanes ≤ most_lanes → condition < 64 → IfSome woken (λ lane. lane < lanes) → IsRead (signal_at lanes) (content (Signal condition woken)) (Signal condition woken)
unfolding signal_at
signal_again lanes condition woken few lt there =
    let n = woken_number woken in
    let range = woken_between lanes woken there in
    let number = allowed_again wide8 (is_between 0 lanes) n (omega (arith, range.1)) (between-is 0 lanes n range) in
    subst (λ (w : Option ℕ). IsRead (signal_at lanes) (content (Signal condition woken)) (Signal condition w)) (woken_same lanes woken)
    (IsRead-then place_at _ (byte (condition + 1)) (byte n) condition (Signal condition (woken_of n)) (place_again condition lt)
    (IsRead-last (allowed_at w8 (is_between 0 lanes)) (λ k. Signal condition (woken_of k)) (byte n) n number))

broadcast_again : (lanes condition woken : ℕ) → lanes ≤ most_lanes → condition < 64 → woken < 2 ^ lanes → IsRead (broadcast_at lanes) (content (Broadcast condition woken)) (Broadcast condition woken)
unfolding broadcast_at
broadcast_again lanes condition woken few lt below =
    let wide : woken < 2 ^ 64 = omega (arith, pow_mono few) in
    IsRead-then place_at _ (byte (condition + 1)) (to_be_bytes w64 woken) condition (Broadcast condition woken) (place_again condition lt)
    (IsRead-last (allowed_at w64 (λ bits. nat_lt bits (2 ^ lanes))) (Broadcast condition) (to_be_bytes w64 woken) woken (allowed_again wide64 _ woken wide (lt-ltb woken (2 ^ lanes) below)))

clock_again : (value : ℤ) → FitsSigned w64 value → IsRead clock_at (content (Clock value)) (Clock value)
unfolding clock_at
clock_again value fits = IsRead-last signed_at Clock (signed value) value (signed_again value fits)

random_again : (value : ℕ) → value < 2 ^ 32 → IsRead random_at (content (Random value)) (Random value)
unfolding random_at
random_again value lt = IsRead-last (number_at w32) Random (to_be_bytes w32 value) value (number_again wide32 value lt)

reply_again : (client : ℕ) (value : ℤ) → IsBetween 1 256 client → FitsSigned w64 value → IsRead reply_at (content (Reply client value)) (Reply client value)
unfolding reply_at
reply_again client value clients fits =
    IsRead-then (allowed_at w16 (is_between 1 256)) _ (to_be_bytes w16 client) (signed value) client (Reply client value) (allowed_again wide16 _ client (omega (arith, clients.1)) (between-is 1 256 client clients))
    (IsRead-last signed_at (Reply client) (signed value) value (signed_again value fits))

content_again : (lanes : ℕ) (kind : Kind) → lanes ≤ most_lanes → KindFits lanes kind → IsTyped kind → IsRead (content_at lanes (code_of kind)) (content kind) kind
content_again lanes (Begin client sequence handler arguments) few fits typed = begin_again client sequence handler arguments fits.0 fits.1 fits.2 fits.3 typed
content_again lanes (AcqEx lock) few fits typed = lock_again AcqEx lock fits
content_again lanes (AcqSh lock) few fits typed = lock_again AcqSh lock fits
content_again lanes (RelEx lock) few fits typed = lock_again RelEx lock fits
content_again lanes (RelSh lock) few fits typed = lock_again RelSh lock fits
content_again lanes (TryOk lock) few fits typed = lock_again TryOk lock fits
content_again lanes (TryBusy lock) few fits typed = lock_again TryBusy lock fits
content_again lanes (Wait condition lock) few fits typed = condition_again Wait condition lock fits.0 fits.1
content_again lanes (Wake condition lock) few fits typed = condition_again Wake condition lock fits.0 fits.1
content_again lanes (Signal condition woken) few fits typed = signal_again lanes condition woken few fits.0 fits.1
content_again lanes (Broadcast condition woken) few fits typed = broadcast_again lanes condition woken few fits.0 fits.1
content_again lanes (Clock value) few fits typed = clock_again value typed
content_again lanes (Random value) few fits typed = random_again value typed
content_again lanes (Reply client value) few fits typed = reply_again client value fits typed
content_again lanes (Down semaphore) few fits typed = lock_again Down semaphore fits
content_again lanes (Up semaphore) few fits typed = lock_again Up semaphore fits

pub code_between : (kind : Kind) → IsBetween 1 16 (code_of kind)
code_between (Begin client sequence handler arguments) = (omega arith, omega arith)
code_between _ = (omega arith, omega arith)

pub kind_again : (lanes least most : ℕ) (kind : Kind) → lanes ≤ most_lanes → IsBetween least most (code_of kind) → KindFits lanes kind → IsTyped kind → IsRead (kind_at lanes least most) (kind_bytes kind) kind
unfolding kind_at
kind_again lanes least most kind few range fits typed =
    let narrow : code_of kind < 256 = omega (arith, (code_between kind).1) in
    IsRead-then (allowed_at w8 (is_between least most)) (λ code. content_at lanes code.0 code.1) (byte (code_of kind)) (content kind) (code_of kind) kind
    (allowed_again wide8 (is_between least most) (code_of kind) narrow (between-is least most (code_of kind) range)) (content_again lanes kind few fits typed)

-- ---- more lanes

fits_woken : (lanes more : ℕ) (woken : Option ℕ) → lanes ≤ more → IfSome woken (λ lane. lane < lanes) → IfSome woken (λ lane. lane < more)
fits_woken lanes more None le h = tt
fits_woken lanes more (Some lane) le h = omega arith

fits_bits : (lanes more bits : ℕ) → lanes ≤ more → bits < 2 ^ lanes → bits < 2 ^ more
fits_bits lanes more bits le h = omega (arith, pow_mono le)

-- a kind fits where there are more lanes
pub KindFits-more : (lanes more : ℕ) (kind : Kind) → lanes ≤ more → KindFits lanes kind → KindFits more kind
KindFits-more lanes more (Signal condition woken) le fits = (fits.0, fits_woken lanes more woken le fits.1)
KindFits-more lanes more (Broadcast condition woken) le fits = (fits.0, fits_bits lanes more woken le fits.1)
KindFits-more lanes more _ le fits = fits

-- ---- what is spelled is of few bytes

place : (n : ℕ) → n < 64 → AreBytes 1 ((n + 1) ∷ [])
place n l = one (n + 1) (omega arith)

two_places : (a b : ℕ) → a < 64 → b < 64 → AreBytes 2 (((a + 1) ∷ []) ++ ((b + 1) ∷ []))
two_places a b l k = both 1 1 ((a + 1) ∷ []) ((b + 1) ∷ []) (place a l) (place b k)

woken_small : (lanes : ℕ) (woken : Option ℕ) → lanes ≤ most_lanes → IfSome woken (λ lane. lane < lanes) → woken_number woken < 256
woken_small lanes None few h = omega arith
woken_small lanes (Some lane) few h = omega arith

pub content_bytes : (lanes : ℕ) (kind : Kind) → lanes ≤ most_lanes → KindFits lanes kind → AreBytes 40 (content kind)
content_bytes lanes (Begin client sequence handler arguments) few h =
    more (2 + (4 + (1 + (1 + 8 * length arguments)))) 40 (content (Begin client sequence handler arguments)) (omega (arith, h.3))
    (both 2 (4 + (1 + (1 + 8 * length arguments))) (to_be_bytes w16 client) _ (number16 client)
    (both 4 (1 + (1 + 8 * length arguments)) (to_be_bytes w32 sequence) _ (number32 sequence)
    (both 1 (1 + 8 * length arguments) ((handler + 1) ∷ []) _ (place handler h.2)
    (both 1 (8 * length arguments) (length arguments ∷ []) _ (one (length arguments) (omega (arith, h.3)))
    (each_piece (λ (x : ℤ). to_be_bytes w64 (cast_unsigned w64 x)) 8 arguments (λ k d l. signed64 (get_or arguments k d)))))))
content_bytes lanes (AcqEx lock) few h = more 1 40 (content (AcqEx lock)) (omega arith) (place lock h)
content_bytes lanes (AcqSh lock) few h = more 1 40 (content (AcqSh lock)) (omega arith) (place lock h)
content_bytes lanes (RelEx lock) few h = more 1 40 (content (RelEx lock)) (omega arith) (place lock h)
content_bytes lanes (RelSh lock) few h = more 1 40 (content (RelSh lock)) (omega arith) (place lock h)
content_bytes lanes (TryOk lock) few h = more 1 40 (content (TryOk lock)) (omega arith) (place lock h)
content_bytes lanes (TryBusy lock) few h = more 1 40 (content (TryBusy lock)) (omega arith) (place lock h)
content_bytes lanes (Wait condition lock) few h = more 2 40 (content (Wait condition lock)) (omega arith) (two_places condition lock h.0 h.1)
content_bytes lanes (Wake condition lock) few h = more 2 40 (content (Wake condition lock)) (omega arith) (two_places condition lock h.0 h.1)
content_bytes lanes (Signal condition woken) few h =
    more 2 40 (content (Signal condition woken)) (omega arith)
    (both 1 1 ((condition + 1) ∷ []) (woken_number woken ∷ []) (place condition h.0) (one (woken_number woken) (woken_small lanes woken few h.1)))
content_bytes lanes (Broadcast condition woken) few h =
    more 9 40 (content (Broadcast condition woken)) (omega arith) (both 1 8 ((condition + 1) ∷ []) (to_be_bytes w64 woken) (place condition h.0) (number64 woken))
content_bytes lanes (Down semaphore) few h = more 1 40 (content (Down semaphore)) (omega arith) (place semaphore h)
content_bytes lanes (Up semaphore) few h = more 1 40 (content (Up semaphore)) (omega arith) (place semaphore h)
content_bytes lanes (Clock value) few h = more 8 40 (content (Clock value)) (omega arith) (signed64 value)
content_bytes lanes (Random value) few h = more 4 40 (content (Random value)) (omega arith) (number32 value)
content_bytes lanes (Reply client value) few h =
    more 10 40 (content (Reply client value)) (omega arith) (both 2 8 (to_be_bytes w16 client) (to_be_bytes w64 (cast_unsigned w64 value)) (number16 client) (signed64 value))
