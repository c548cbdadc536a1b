-- Versions and the variables' values: what is read is spelled so, and what is spelled is read again.
use Rattle.std.proofs.Common.{◌≡◌, ℕ, ◌+◌, ◌-◌, ◌<◌, ◌≤◌, Bool, true, false, cond, ℤ, pos, List, [], length, get_or, Ok, Err, refl, sym, ap, ◌∙◌, subst, arith, FitsSigned, w64, eqb, eqb-true}
use Rattle.std.specs.Int.{w8, w16, to_be_bytes}
use Rattle.std.specs.List.{flat_map}
use Rattle.std.specs.Ordering.{int_eq}
use Rattle.std.proofs.lemmas.Bool.{and_parts, eqb-false}
use Rattle.std.proofs.lemmas.List.{length-map}
use Rattle.rex_syntax.specs.declared.service.Declarations.{Declarations}
use Rattle.rex_syntax.specs.Service.{IsService}
use Rattle.rex_syntax.specs.declared.version.Version.{Version}
use Rattle.rex_syntax.specs.declared.version.Version.TheVariants.{One, Two}
use Rattle.rex_syntax.specs.Versions.{number_of, has_version}
use Rattle.rex_state.specs.Start.{first_of}
use Rattle.rex_wire.specs.Ranges.{is_between}
use Rattle.rex_wire.specs.Reading.{Left, ◌>>=◌, allowed_at}
use Rattle.rex_wire.specs.Spelling.{byte, signed}
use Rattle.rex_wire.proofs.Fields.{is_taken, guard_ok, Takes, Takes-then, IsSpelled, step, IsRead, IsRead-then, IsRead-last}
use Rattle.rex_wire.proofs.Numbers.{wide8, wide16, allowed_spelled, allowed_again, signed_spelled, signed_again}
use Rattle.rex_wire.proofs.Ranges.{is_between-true, between-is}
use Rattle.rex_snapshot.specs.declared.parts.Change.{Change}
use Rattle.rex_snapshot.specs.Changes.{firsts, change_of, changes_of, changed}
use Rattle.rex_snapshot.specs.Spelling.{change_bytes, changes_bytes, variables_bytes}
use Rattle.rex_snapshot.specs.Allowed.{version_of, may_be_version}
use Rattle.rex_snapshot.specs.Reading.{version_at, other_at, change_at, after_change, changes_at, changed_at, variables_at}
use Rattle.rex_wire.proofs.Lists.{AreEach}
use Rattle.rex_snapshot.proofs.ListLaws.{list_spelled, list_again}
use Rattle.rex_snapshot.proofs.LaneLaws.{AreValues, values_spelled}
use Rattle.rex_snapshot.proofs.LanesAgain.{values_again}
use Rattle.rex_snapshot.proofs.Changes.{IsChange, noted_again, each_noted, few_noted, changed_again, length-changed}

-- ---- versions

number_back : (n : ℕ) → 1 ≤ n → n ≤ 2 → number_of (version_of n) ≡ n
number_back n some most = by (eqb n 1) refl
  where
    by : (b : Bool) → eqb n 1 ≡ b → number_of (version_of n) ≡ n
    by true e = rw e (sym (eqb-true n 1 e))
    by false e =
        let other : n ≡ 1 → ⊥ = eqb-false n 1 e in
        let two : 2 ≡ n = omega (arith, some, most, other) in
        rw e two

pub version_spelled : (service : Declarations) → IsSpelled (version_at service) (λ v. byte (number_of v)) (λ v. has_version service v ≡ true)
unfolding version_at
version_spelled service = record {
  takes = λ l x bytes e.
      let n = step (allowed_spelled wide8 (may_be_version service)) l _ x bytes e in
      let parts = and_parts (is_between 1 2 n.value) _ n.may in
      let range = is_between-true 1 2 n.value parts.0 in
      let spelled : Takes l (byte (number_of (version_of n.value))) n.left = subst (λ (k : ℕ). Takes l (byte k) n.left) (sym (number_back n.value range.0 range.1)) n.takes in
      is_taken (λ v. byte (number_of v)) (λ v. has_version service v ≡ true) l (version_of n.value, n.left) x n.next (spelled, parts.1);
}

pub version_again : (service : Declarations) (v : Version) → has_version service v ≡ true → IsRead (version_at service) (byte (number_of v)) v
unfolding version_at
version_again service One has = IsRead-last (allowed_at w8 (may_be_version service)) version_of (byte 1) 1 (allowed_again wide8 (may_be_version service) 1 (omega arith) has)
version_again service Two has = IsRead-last (allowed_at w8 (may_be_version service)) version_of (byte 2) 2 (allowed_again wide8 (may_be_version service) 2 (omega arith) refl)

-- ---- a variable with its value

other_spelled : (first : ℤ) → IsSpelled (other_at first) signed (λ v. (int_eq v first ≡ false) × FitsSigned w64 v)
unfolding other_at
other_spelled first = record {
  takes = λ l x bytes e.
      let v = step signed_spelled l (λ y. cond (int_eq y.0 first) (Err l.at) (Ok y)) x bytes e in
      let g = guard_ok (int_eq v.value first) l.at (v.value, v.left) x v.next in
      subst (λ (y : ℤ × Left). Takes l (signed y.0) y.1 × ((int_eq y.0 first ≡ false) × FitsSigned w64 y.0)) g.1 (v.takes, (g.0, v.may));
}

other_again : (first v : ℤ) → int_eq v first ≡ false → FitsSigned w64 v → IsRead (other_at first) (signed v) v
unfolding other_at
other_again first v other fits = record {
  again = λ at rest. rw ((signed_again v fits).again at rest, other) refl;
}

module _ (service : Declarations) where
  many : length (firsts service) ≡ length service.variables
  many = length-map service.variables first_of

  change_is : (least n : ℕ) (v : ℤ) → is_between (least + 1) (length service.variables) n ≡ true → (int_eq v (get_or (firsts service) (n - 1) (pos 0)) ≡ false) × FitsSigned w64 v → IsChange (firsts service) least (change_of (n - 1) v)
  change_is least n v may value =
      let range = is_between-true (least + 1) (length service.variables) n may in
      record { least_is = omega (arith, range.0); inside = omega (arith, range.0, range.1, many); other = value.0; typed = value.1 }

  pub change_spelled : (least : ℕ) → IsSpelled (change_at service least) change_bytes (IsChange (firsts service) least)
  unfolding change_at
  change_spelled least = record {
    takes = λ l x bytes e.
        let n = step (allowed_spelled wide16 (is_between (least + 1) (length service.variables))) l _ x bytes e in
        let v = step (other_spelled (get_or (firsts service) (n.value - 1) (pos 0))) n.left _ x n.takes.bytes n.next in
        let range = is_between-true (least + 1) (length service.variables) n.value n.may in
        let back : n.value - 1 + 1 ≡ n.value = omega (arith, range.0) in
        let number : Takes l (to_be_bytes w16 (n.value - 1 + 1)) n.left = subst (λ (k : ℕ). Takes l (to_be_bytes w16 k) n.left) (sym back) n.takes in
        is_taken change_bytes (IsChange (firsts service) least) l (change_of (n.value - 1) v.value, v.left) x v.next (
          Takes-then l n.left v.left (to_be_bytes w16 (n.value - 1 + 1)) (signed v.value) number v.takes,
          change_is least n.value v.value n.may v.may,
        );
  }

  pub change_again : (least : ℕ) (c : Change) → length service.variables < 65536 → IsChange (firsts service) least c → IsRead (change_at service least) (change_bytes c) c
  unfolding change_at
  change_again least c few is =
      let n = c.variable + 1 in
      let back : c.variable ≡ n - 1 = omega arith in
      let may : is_between (least + 1) (length service.variables) n ≡ true = between-is (least + 1) (length service.variables) n (omega (arith, is.least_is), omega (arith, is.inside, many)) in
      let other : int_eq c.value (get_or (firsts service) (n - 1) (pos 0)) ≡ false = subst (λ (k : ℕ). int_eq c.value (get_or (firsts service) k (pos 0)) ≡ false) back is.other in
      let made : change_of (n - 1) c.value ≡ c = ap (λ (k : ℕ). change_of k c.value) (sym back) in
      subst (λ (d : Change). IsRead (λ l. allowed_at w16 (is_between (least + 1) (length service.variables)) l >>= λ m. other_at (get_or (firsts service) (m.0 - 1) (pos 0)) m.1 >>= λ v. Ok (change_of (m.0 - 1) v.0, v.1)) (change_bytes c) d) made
      (IsRead-then (allowed_at w16 (is_between (least + 1) (length service.variables))) _ (to_be_bytes w16 n) (signed c.value) n (change_of (n - 1) c.value) (allowed_again wide16 (is_between (least + 1) (length service.variables)) n (omega (arith, is.inside, few, many)) may)
      (IsRead-last (other_at (get_or (firsts service) (n - 1) (pos 0))) (change_of (n - 1)) (signed c.value) c.value (other_again (get_or (firsts service) (n - 1) (pos 0)) c.value other is.typed)))

  -- ---- all of them

  changes_taken : (l a b : Left) (count : ℕ) (cs : List Change) → Takes l (to_be_bytes w16 count) a → Takes a (flat_map change_bytes cs) b → length cs ≡ count → AreEach after_change (IsChange (firsts service)) 0 cs → Takes l (changes_bytes (changes_of service (changed (firsts service) cs))) b
  changes_taken l a b count cs first second long each =
      let one : Takes l (to_be_bytes w16 (length cs)) a = subst (λ (n : ℕ). Takes l (to_be_bytes w16 n) a) (sym long) first in
      subst (λ (ds : List Change). Takes l (changes_bytes ds) b) (sym (noted_again (firsts service) cs each)) (Takes-then l a b (to_be_bytes w16 (length cs)) (flat_map change_bytes cs) one second)

  pub changed_spelled : IsSpelled (changed_at service) (λ vs. changes_bytes (changes_of service vs)) (λ vs. length vs ≡ length service.variables)
  unfolding changed_at
  changed_spelled = record {
    takes = λ l x bytes e.
        let count = step (allowed_spelled wide16 (is_between 0 (length service.variables))) l _ x bytes e in
        let changes = step (list_spelled (change_at service) after_change change_bytes (IsChange (firsts service)) change_spelled count.value 0) count.left _ x count.takes.bytes count.next in
        is_taken (λ vs. changes_bytes (changes_of service vs)) (λ vs. length vs ≡ length service.variables) l (changed (firsts service) changes.value, changes.left) x changes.next (
          changes_taken l count.left changes.left count.value changes.value count.takes changes.takes changes.may.1 changes.may.0,
          length-changed (firsts service) changes.value ∙ many,
        );
  }

  pub changed_read : (vs : List ℤ) → length service.variables < 65536 → AreValues (length service.variables) vs → IsRead (changed_at service) (changes_bytes (changes_of service vs)) vs
  unfolding changed_at
  changed_read vs few are =
      let cs = changes_of service vs in
      let count = length cs in
      let fewer : count ≤ length service.variables = omega (arith, few_noted 0 (firsts service) vs, many) in
      let back : changed (firsts service) cs ≡ vs = changed_again [] (firsts service) vs (many ∙ sym are.long) in
      subst (λ (ws : List ℤ). IsRead (λ l. allowed_at w16 (is_between 0 (length service.variables)) l >>= λ n. changes_at service n.0 n.1 >>= λ ds. Ok (changed (firsts service) ds.0, ds.1)) (changes_bytes cs) ws) back
      (IsRead-then (allowed_at w16 (is_between 0 (length service.variables))) _ (to_be_bytes w16 count) (flat_map change_bytes cs) count (changed (firsts service) cs) (allowed_again wide16 (is_between 0 (length service.variables)) count (omega (arith, fewer, few)) (between-is 0 (length service.variables) count (omega arith, fewer)))
      (IsRead-last (changes_at service count) (changed (firsts service)) (flat_map change_bytes cs) cs
      (list_again (change_at service) after_change change_bytes (IsChange (firsts service)) (λ least c is. change_again least c few is) 0 cs (each_noted [] (firsts service) vs 0 (omega arith) are.typed))))

  pub variables_spelled : (v : Version) → IsSpelled (variables_at service v) (variables_bytes service v) (λ vs. length vs ≡ length service.variables)
  variables_spelled One = record {
    takes = λ l x bytes e. let t = (values_spelled (length service.variables)).takes l x bytes e in (t.0, t.1.long);
  }
  variables_spelled Two = record { takes = changed_spelled.takes }

  pub variables_read : (v : Version) (vs : List ℤ) → IsService service → AreValues (length service.variables) vs → IsRead (variables_at service v) (variables_bytes service v vs) vs
  variables_read One vs good are = record { again = (values_again (length service.variables) vs are).again }
  variables_read Two vs good are = record { again = (changed_read vs (omega (arith, good.few_variables)) are).again }
