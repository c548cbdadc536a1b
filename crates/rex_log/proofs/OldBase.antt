-- A checkpoint that a node's records have isn't of no values.
use Rattle.std.proofs.Common.{◌≡◌, ℕ, ◌<◌, Bool, true, false, cond, List, [], ◌∷◌, length, Result, Ok, Err, refl, sym, subst, arith}
use Rattle.std.specs.Prelude.{◌==◌, max, nat_lt, fold, if◌then◌else◌, ◌&&◌}
use Rattle.std.proofs.lemmas.Bool.{and_parts, ltb-true}
use Rattle.rex_syntax.specs.declared.service.Declarations.{Declarations}
use Rattle.rex_state.specs.Value.{StateValue}
use Rattle.rex_durable.specs.declared.records.Rec.{Rec as KeptRec}
use Rattle.rex_cluster.specs.Records.{Rec, base, has_old_base}
use Rattle.rex_cluster.specs.Values.{Value}
use Rattle.rex_log.specs.Log.{log_of, log_with, rec_of, standing_in}
use Rattle.rex_log.proofs.Firsts.{first_length}
use Rattle.std.specs.Int.{w8, w32, w64}
use Rattle.std.proofs.Math.Nat.{le-max_left}
use Rattle.rex_ballot.specs.Ballot.{is_ballot, is_instance}
use Rattle.rex_wire.specs.Ranges.{is_between}
use Rattle.rex_wire.specs.Reading.{Left, ◌>>=◌, number_at, allowed_at, value_at, all_left}
use Rattle.rex_wire.proofs.Fields.{bind_ok, ok_is, test_ok}
use Rattle.rex_wire.proofs.Ranges.{allowed_is, is_between-true}
use Rattle.rex_durable.specs.Reading.{promised_at, accepted_at, known_at, checkpoint_at, dropped_at, transferred_at, content_at, record_at, record_in}
use Rattle.rex_durable.specs.declared.records.Standing.{Standing}
use Rattle.rex_durable.specs.declared.records.Rec.TheVariants as rec

-- ---- what is read

-- a record with a state is of some values
abbrev IsSome : KeptRec → Type 0
IsSome (rec.Checkpoint k bytes) = 0 < k
IsSome (rec.Transferred k bytes) = 0 < k
IsSome r = Unit {0}

promised_some : (l : Left) {x : KeptRec × Left} → promised_at l ≡ Ok x → IsSome x.0
unfolding promised_at
promised_some l {x} e =
    let b = bind_ok (allowed_at w64 is_ballot l) (λ n. Ok (rec.Promised n.0, n.1)) x e in
    subst (λ y. IsSome y.0) (ok_is (rec.Promised b.0.0, b.0.1) x b.2) tt

accepted_some : (l : Left) {x : KeptRec × Left} → accepted_at l ≡ Ok x → IsSome x.0
unfolding accepted_at
accepted_some l {x} e =
    let b = bind_ok (allowed_at w64 is_ballot l) (λ n. allowed_at w32 is_instance n.1 >>= λ i. value_at i.1 >>= λ v. Ok (rec.Accepted n.0 i.0 v.0, v.1)) x e in
    let i = bind_ok (allowed_at w32 is_instance b.0.1) (λ i. value_at i.1 >>= λ v. Ok (rec.Accepted b.0.0 i.0 v.0, v.1)) x b.2 in
    let v = bind_ok (value_at i.0.1) (λ v. Ok (rec.Accepted b.0.0 i.0.0 v.0, v.1)) x i.2 in
    subst (λ y. IsSome y.0) (ok_is (rec.Accepted b.0.0 i.0.0 v.0.0, v.0.1) x v.2) tt

known_some : (s : Standing) (l : Left) {x : KeptRec × Left} → known_at s l ≡ Ok x → IsSome x.0
unfolding known_at
known_some s l {x} e =
    let i = bind_ok (allowed_at w32 _ l) (λ i. value_at i.1 >>= λ v. Ok (rec.Known i.0 v.0, v.1)) x e in
    let v = bind_ok (value_at i.0.1) (λ v. Ok (rec.Known i.0.0 v.0, v.1)) x i.2 in
    subst (λ y. IsSome y.0) (ok_is (rec.Known i.0.0 v.0.0, v.0.1) x v.2) tt

checkpoint_some : (s : Standing) (l : Left) {x : KeptRec × Left} → checkpoint_at s l ≡ Ok x → IsSome x.0
unfolding checkpoint_at
checkpoint_some s l {x} e =
    let k = bind_ok (allowed_at w32 (is_between (max 1 s.offset) s.count) l) (λ k. value_at k.1 >>= λ v. Ok (rec.Checkpoint k.0 v.0, v.1)) x e in
    let v = bind_ok (value_at k.0.1) (λ v. Ok (rec.Checkpoint k.0.0 v.0, v.1)) x k.2 in
    let range = is_between-true (max 1 s.offset) s.count k.0.0 (allowed_is w32 (is_between (max 1 s.offset) s.count) l k.0 k.1) in
    subst (λ y. IsSome y.0) (ok_is (rec.Checkpoint k.0.0 v.0.0, v.0.1) x v.2) (omega (arith, range.0, le-max_left 1 s.offset))

dropped_some : (s : Standing) (l : Left) {x : KeptRec × Left} → dropped_at s l ≡ Ok x → IsSome x.0
unfolding dropped_at
dropped_some s l {x} e =
    let k = bind_ok (allowed_at w32 _ l) (λ k. Ok (rec.Dropped k.0, k.1)) x e in
    subst (λ y. IsSome y.0) (ok_is (rec.Dropped k.0.0, k.0.1) x k.2) tt

transferred_some : (s : Standing) (l : Left) {x : KeptRec × Left} → transferred_at s l ≡ Ok x → IsSome x.0
unfolding transferred_at
transferred_some s l {x} e =
    let k = bind_ok (allowed_at w32 (λ n. is_instance n && nat_lt s.count n) l) (λ k. value_at k.1 >>= λ v. Ok (rec.Transferred k.0 v.0, v.1)) x e in
    let v = bind_ok (value_at k.0.1) (λ v. Ok (rec.Transferred k.0.0 v.0, v.1)) x k.2 in
    let above = ltb-true s.count k.0.0 (and_parts (is_instance k.0.0) (nat_lt s.count k.0.0) (allowed_is w32 (λ n. is_instance n && nat_lt s.count n) l k.0 k.1)).1 in
    subst (λ y. IsSome y.0) (ok_is (rec.Transferred k.0.0 v.0.0, v.0.1) x v.2) (omega (arith, above))

content_some : (s : Standing) (at code : ℕ) (l : Left) (x : KeptRec × Left) → content_at s at code l ≡ Ok x → IsSome x.0
content_some s at code l x e = by (code == 1) (code == 2) (code == 3) (code == 4) (code == 5) (code == 6) e
  where
    by : (a b c d f g : Bool) → (if a then promised_at l else if b then accepted_at l else if c then known_at s l else if d then checkpoint_at s l else if f then dropped_at s l else if g then transferred_at s l else Err at) ≡ Ok x → IsSome x.0
    by true b c d f g e = promised_some l e
    by false true c d f g e = accepted_some l e
    by false false true d f g e = known_some s l e
    by false false false true f g e = checkpoint_some s l e
    by false false false false true g e = dropped_some s l e
    by false false false false false true e = transferred_some s l e
    by false false false false false false e = absurd cc

read_some : (s : Standing) (l : Left) {x : KeptRec × Left} → record_at s l ≡ Ok x → IsSome x.0
unfolding record_at
read_some s l {x} e =
    let code = bind_ok (number_at w8 l) (λ n. content_at s l.at n.0 n.1) x e in
    content_some s l.at code.0.0 code.0.1 x code.2

record_some : (s : Standing) (bytes : List ℕ) {r : KeptRec} → record_in s bytes ≡ Ok r → IsSome r
unfolding record_in
record_some s bytes {r} e =
    let x = bind_ok (record_at s (all_left bytes)) (λ y. cond (length y.1.rest == 0) (Ok y.0) (Err y.1.at)) r e in
    let g = test_ok (length x.0.1.rest == 0) x.0.1.at x.0.0 r x.2 in
    subst IsSome g.1 (read_some s _ x.1)

-- ---- what the records say

abbrev HasBase : List (Rec Value StateValue) → Type 0
HasBase log = has_old_base log ≡ true → 0 < base log

based_with : (service : Declarations) (past : List Value) (log : List (Rec Value StateValue)) (r : KeptRec) → IsSome r → HasBase log → HasBase (rec_of service past r ∷ log)
based_with service past log (rec.Promised b) some h = h
based_with service past log (rec.Accepted b i v) some h = h
based_with service past log (rec.Known i v) some h = h
based_with service past log (rec.Checkpoint k bytes) some h = λ e. some
based_with service past log (rec.Dropped k) some h = h
based_with service past log (rec.Transferred k bytes) some h = λ e. subst (λ n. 0 < n) (sym (first_length k past)) some

based_step : (service : Declarations) (past : List Value) (log : List (Rec Value StateValue)) (bytes : List ℕ) → HasBase log → HasBase (log_with service past log (record_in (standing_in log) bytes))
based_step service past log bytes h = by (record_in (standing_in log) bytes) refl
  where
    by : (q : Result KeptRec ℕ) → record_in (standing_in log) bytes ≡ q → HasBase (log_with service past log q)
    by (Err at) e = h
    by (Ok r) e = based_with service past log r (record_some _ bytes e) h

based_from : (service : Declarations) (past : List Value) (log : List (Rec Value StateValue)) (kept : List (List ℕ)) → HasBase log → HasBase (fold (λ log bytes. log_with service past log (record_in (standing_in log) bytes)) log kept)
based_from service past log [] h = h
based_from service past log (bytes ∷ kept) h = based_from service past (log_with service past log (record_in (standing_in log) bytes)) kept (based_step service past log bytes h)

none_yet : HasBase []
none_yet e = absurd cc

pub old_based : (service : Declarations) (past : List Value) (kept : List (List ℕ)) → has_old_base (log_of service past kept) ≡ true → 0 < base (log_of service past kept)
old_based service past kept e = based_from service past [] kept none_yet e
