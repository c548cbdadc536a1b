-- Values of which some aren't the first ones: those that are noted lead back to all of them, and are read and spelled.
use Rattle.std.proofs.Common.{◌≡◌, ◌⊎◌, inl, inr, ℕ, suc, ◌+◌, ◌<◌, ◌≤◌, Bool, true, false, ℤ, pos, List, [], ◌∷◌, ◌++◌, length, map, drop, set, get_or, refl, ap, sym, ◌∙◌, subst, arith, append_assoc, length-append, length-set, FitsSigned, w64}
use Rattle.std.specs.Ordering.{int_eq}
use Rattle.std.specs.List.{All, flat_map}
use Rattle.std.proofs.lemmas.Bool.{cases_eq}
use Rattle.std.proofs.lemmas.Bool.Decides.{Decides-int_eq}
use Rattle.std.proofs.lemmas.List.{drop_more, get_or-map, length-map}
use Rattle.std.proofs.lemmas.List.Concat.{flat_map-append}
use Rattle.std.proofs.lemmas.List.Elements.{All-head, All-tail}
use Rattle.rex_syntax.specs.declared.service.Variable.{Variable}
use Rattle.rex_state.specs.Start.{first_of}
use Rattle.rex_snapshot.specs.declared.parts.Change.{Change}
use Rattle.rex_snapshot.specs.Changes.{change_of, change_if, changes_from, changed}
use Rattle.rex_snapshot.specs.Reading.{after_change}
use Rattle.rex_snapshot.specs.Spelling.{change_bytes}
use Rattle.rex_wire.proofs.Lists.{AreEach}
use Rattle.rex_snapshot.proofs.Entries.{set_at}

-- ---- one value

same_value : (x y : ℤ) → int_eq x y ≡ true → x ≡ y
same_value x y h = (Decides-int_eq x y).0 h

int_same : (x : ℤ) → int_eq x x ≡ true
int_same x = (Decides-int_eq x x).1 refl

first_noted : (n : ℕ) (f v : ℤ) → int_eq v f ≡ true → change_if n f v ≡ []
first_noted n f v h = rw h refl

other_noted : (n : ℕ) (f v : ℤ) → int_eq v f ≡ false → change_if n f v ≡ change_of n v ∷ []
other_noted n f v h = rw h refl

one_longer : {X : Type 0} (front : List X) (x : X) → length (front ++ x ∷ []) ≡ length front + 1
one_longer front x = length-append front (x ∷ [])

at_front : (front : List ℤ) (f : ℤ) (fs : List ℤ) → get_or (front ++ f ∷ fs) (length front) (pos 0) ≡ f
at_front [] f fs = refl
at_front (x ∷ xs) f fs = at_front xs f fs

-- ---- those that are noted lead back to all values

pub changed_again : (front fs vs : List ℤ) → length fs ≡ length vs → changed (front ++ fs) (changes_from (length front) fs vs) ≡ front ++ vs
changed_again front [] [] long = refl
changed_again front [] (v ∷ vs) long = absurd (omega (arith, long))
changed_again front (f ∷ fs) [] long = absurd (omega (arith, long))
changed_again front (f ∷ fs) (v ∷ vs) long = by (int_eq v f) refl (changed_again (front ++ v ∷ []) fs vs (omega (arith, long)))
  where
    rest : changes_from (length front + 1) fs vs ≡ changes_from (length (front ++ v ∷ [])) fs vs
    rest = ap (λ (n : ℕ). changes_from n fs vs) (sym (one_longer front v))

    on : changed ((front ++ v ∷ []) ++ fs) (changes_from (length (front ++ v ∷ [])) fs vs) ≡ (front ++ v ∷ []) ++ vs → changed (front ++ v ∷ fs) (changes_from (length front + 1) fs vs) ≡ front ++ v ∷ vs
    on h =
        ap (λ (xs : List ℤ). changed xs (changes_from (length front + 1) fs vs)) (sym (append_assoc front (v ∷ []) fs))
        ∙ ap (λ (cs : List Change). changed ((front ++ v ∷ []) ++ fs) cs) rest
        ∙ h ∙ append_assoc front (v ∷ []) vs

    by : (b : Bool) → int_eq v f ≡ b → changed ((front ++ v ∷ []) ++ fs) (changes_from (length (front ++ v ∷ [])) fs vs) ≡ (front ++ v ∷ []) ++ vs → changed (front ++ f ∷ fs) (changes_from (length front) (f ∷ fs) (v ∷ vs)) ≡ front ++ v ∷ vs
    by true is h =
        ap (λ (cs : List Change). changed (front ++ f ∷ fs) (cs ++ changes_from (length front + 1) fs vs)) (first_noted (length front) f v is)
        ∙ ap (λ (x : ℤ). changed (front ++ x ∷ fs) (changes_from (length front + 1) fs vs)) (sym (same_value v f is)) ∙ on h
    by false is h =
        ap (λ (cs : List Change). changed (front ++ f ∷ fs) (cs ++ changes_from (length front + 1) fs vs)) (other_noted (length front) f v is)
        ∙ ap (λ (xs : List ℤ). changed xs (changes_from (length front + 1) fs vs)) (set_at front fs f v) ∙ on h

-- ---- what is noted was changed

-- a variable from the number on, one of those with these first values, with another value
pub record IsChange (all : List ℤ) (least : ℕ) (c : Change) : Type 0 where
  pub least_is : least ≤ c.variable
  pub inside : c.variable < length all
  pub other : int_eq c.value (get_or all c.variable (pos 0)) ≡ false
  pub typed : FitsSigned w64 c.value

-- the changes, in rising order, are of the variables from the number on with these first values
abbrev AreOthers : ℕ → List ℤ → List Change → Type 0
AreOthers n [] [] = Unit {0}
AreOthers n [] (c ∷ cs) = ⊥
AreOthers n (f ∷ fs) [] = Unit {0}
AreOthers n (f ∷ fs) (c ∷ cs) = ((c.variable ≡ n) × (int_eq c.value f ≡ false) × AreOthers (n + 1) fs cs) ⊎ ((n < c.variable) × AreOthers (n + 1) fs (c ∷ cs))

pub others_from : (front fs : List ℤ) (least : ℕ) (cs : List Change) → length front ≤ least → AreEach after_change (IsChange (front ++ fs)) least cs → AreOthers (length front) fs cs
others_from front [] least [] le each = tt
others_from front [] least (c ∷ cs) le each = absurd (omega (arith, le, each.0.least_is, each.0.inside, length-append front []))
others_from front (f ∷ fs) least [] le each = tt
others_from front (f ∷ fs) least (c ∷ cs) le each = by (cases_eq c.variable (length front)) (λ k ds h. others_from (front ++ f ∷ []) fs k ds (omega (arith, one_longer front f, h.0)) (subst (λ (all : List ℤ). AreEach after_change (IsChange all) k ds) (sym (append_assoc front (f ∷ []) fs)) h.1))
  where
    up : (ds : List Change) → AreOthers (length (front ++ f ∷ [])) fs ds → AreOthers (length front + 1) fs ds
    up ds h = subst (λ (n : ℕ). AreOthers n fs ds) (one_longer front f) h

    by : (c.variable ≡ length front) ⊎ (c.variable ≡ length front → ⊥) → ((k : ℕ) (ds : List Change) → (length front < k) × AreEach after_change (IsChange (front ++ f ∷ fs)) k ds → AreOthers (length (front ++ f ∷ [])) fs ds) → AreOthers (length front) (f ∷ fs) (c ∷ cs)
    by (inl same) go =
        let other : int_eq c.value f ≡ false = subst (λ (x : ℤ). int_eq c.value x ≡ false) (ap (λ (n : ℕ). get_or (front ++ f ∷ fs) n (pos 0)) same ∙ at_front front f fs) each.0.other in
        inl (same, other, up cs (go (c.variable + 1) cs (omega (arith, same), each.1)))
    by (inr more) go =
        let above : length front < c.variable = omega (arith, more, le, each.0.least_is) in
        let mine : IsChange (front ++ f ∷ fs) c.variable c = record { least_is = omega arith; inside = each.0.inside; other = each.0.other; typed = each.0.typed } in
        inr (above, up (c ∷ cs) (go c.variable (c ∷ cs) (above, (mine, each.1))))

none_noted : (n : ℕ) (fs : List ℤ) → changes_from n fs fs ≡ []
none_noted n [] = refl
none_noted n (f ∷ fs) = ap (λ (cs : List Change). cs ++ changes_from (n + 1) fs fs) (first_noted n f f (int_same f)) ∙ none_noted (n + 1) fs

-- the values that were changed behind the front, and that the changes are noted of them
record AreChanged (front fs : List ℤ) (cs : List Change) : Type 0 where
  pub values : List ℤ
  pub are : changed (front ++ fs) cs ≡ front ++ values
  pub long : length values ≡ length fs
  pub noted : changes_from (length front) fs values ≡ cs

are_changed : (front fs : List ℤ) (cs : List Change) → AreOthers (length front) fs cs → AreChanged front fs cs
are_changed front [] [] others = record { values = []; are = refl; long = refl; noted = refl }
are_changed front [] (c ∷ cs) others = absurd others
are_changed front (f ∷ fs) [] others = record { values = f ∷ fs; are = refl; long = refl; noted = none_noted (length front) (f ∷ fs) }
are_changed front (f ∷ fs) (c ∷ cs) (inl h) = made (are_changed (front ++ c.value ∷ []) fs cs (subst (λ (n : ℕ). AreOthers n fs cs) (sym (one_longer front c.value)) h.2))
  where
    at : set (front ++ f ∷ fs) c.variable c.value ≡ (front ++ c.value ∷ []) ++ fs
    at = ap (λ (n : ℕ). set (front ++ f ∷ fs) n c.value) h.0 ∙ set_at front fs f c.value ∙ sym (append_assoc front (c.value ∷ []) fs)

    is : change_of (length front) c.value ≡ c
    is = ap (λ (n : ℕ). change_of n c.value) (sym h.0)

    made : AreChanged (front ++ c.value ∷ []) fs cs → AreChanged front (f ∷ fs) (c ∷ cs)
    made r = record {
      values = c.value ∷ r.values;
      are = ap (λ (xs : List ℤ). changed xs cs) at ∙ r.are ∙ append_assoc front (c.value ∷ []) r.values;
      long = ap suc r.long;
      noted =
          ap (λ (ds : List Change). ds ++ changes_from (length front + 1) fs r.values) (other_noted (length front) f c.value h.1)
          ∙ ap (λ (n : ℕ). change_of (length front) c.value ∷ changes_from n fs r.values) (sym (one_longer front c.value))
          ∙ ap (λ (ds : List Change). change_of (length front) c.value ∷ ds) r.noted
          ∙ ap (λ (d : Change). d ∷ cs) is;
    }
are_changed front (f ∷ fs) (c ∷ cs) (inr h) = made (are_changed (front ++ f ∷ []) fs (c ∷ cs) (subst (λ (n : ℕ). AreOthers n fs (c ∷ cs)) (sym (one_longer front f)) h.1))
  where
    made : AreChanged (front ++ f ∷ []) fs (c ∷ cs) → AreChanged front (f ∷ fs) (c ∷ cs)
    made r = record {
      values = f ∷ r.values;
      are = ap (λ (xs : List ℤ). changed xs (c ∷ cs)) (sym (append_assoc front (f ∷ []) fs)) ∙ r.are ∙ append_assoc front (f ∷ []) r.values;
      long = ap suc r.long;
      noted =
          ap (λ (ds : List Change). ds ++ changes_from (length front + 1) fs r.values) (first_noted (length front) f f (int_same f))
          ∙ ap (λ (n : ℕ). changes_from n fs r.values) (sym (one_longer front f))
          ∙ r.noted;
    }

-- values that were changed have these changes
pub noted_again : (firsts : List ℤ) (cs : List Change) → AreEach after_change (IsChange firsts) 0 cs → changes_from 0 firsts (changed firsts cs) ≡ cs
noted_again firsts cs each =
    let r = are_changed [] firsts cs (others_from [] firsts 0 cs (omega arith) each) in
    ap (λ (vs : List ℤ). changes_from 0 firsts vs) r.are ∙ r.noted

-- ---- what is noted are such changes

pub each_noted : (front fs vs : List ℤ) (least : ℕ) → least ≤ length front → All (FitsSigned w64) vs → AreEach after_change (IsChange (front ++ fs)) least (changes_from (length front) fs vs)
each_noted front [] vs least le typed = tt
each_noted front (f ∷ fs) [] least le typed = tt
each_noted front (f ∷ fs) (v ∷ vs) least le typed = by (int_eq v f) refl (λ k h. each_noted (front ++ f ∷ []) fs vs k h (All-tail (FitsSigned w64) v vs typed))
  where
    on : (k : ℕ) → AreEach after_change (IsChange ((front ++ f ∷ []) ++ fs)) k (changes_from (length (front ++ f ∷ [])) fs vs) → AreEach after_change (IsChange (front ++ f ∷ fs)) k (changes_from (length front + 1) fs vs)
    on k h =
        subst (λ (n : ℕ). AreEach after_change (IsChange (front ++ f ∷ fs)) k (changes_from n fs vs)) (one_longer front f)
        (subst (λ (xs : List ℤ). AreEach after_change (IsChange xs) k (changes_from (length (front ++ f ∷ [])) fs vs)) (append_assoc front (f ∷ []) fs) h)

    by : (b : Bool) → int_eq v f ≡ b → ((k : ℕ) → k ≤ length (front ++ f ∷ []) → AreEach after_change (IsChange ((front ++ f ∷ []) ++ fs)) k (changes_from (length (front ++ f ∷ [])) fs vs)) → AreEach after_change (IsChange (front ++ f ∷ fs)) least (changes_from (length front) (f ∷ fs) (v ∷ vs))
    by true is go = subst (λ (cs : List Change). AreEach after_change (IsChange (front ++ f ∷ fs)) least (cs ++ changes_from (length front + 1) fs vs)) (sym (first_noted (length front) f v is)) (on least (go least (omega (arith, le, one_longer front f))))
    by false is go =
        let mine : IsChange (front ++ f ∷ fs) least (change_of (length front) v) = record {
          least_is = le;
          inside = omega (arith, length-append front (f ∷ fs));
          other = subst (λ (x : ℤ). int_eq v x ≡ false) (sym (at_front front f fs)) is;
          typed = All-head (FitsSigned w64) v vs typed;
        } in
        let rest = on (length front + 1) (go (length front + 1) (omega (arith, one_longer front f))) in
        subst (λ (cs : List Change). AreEach after_change (IsChange (front ++ f ∷ fs)) least (cs ++ changes_from (length front + 1) fs vs)) (sym (other_noted (length front) f v is)) (mine, rest)

-- of one variable at most one is noted
pub few_if : (n : ℕ) (f v : ℤ) → length (change_if n f v) ≤ 1
few_if n f v = by (int_eq v f) refl
  where
    by : (b : Bool) → int_eq v f ≡ b → length (change_if n f v) ≤ 1
    by true is = omega (arith, ap length (first_noted n f v is))
    by false is = omega (arith, ap length (other_noted n f v is))

pub few_noted : (n : ℕ) (fs vs : List ℤ) → length (changes_from n fs vs) ≤ length fs
few_noted n [] vs = omega arith
few_noted n (f ∷ fs) [] = omega arith
few_noted n (f ∷ fs) (v ∷ vs) = by (int_eq v f) refl (few_noted (n + 1) fs vs)
  where
    by : (b : Bool) → int_eq v f ≡ b → length (changes_from (n + 1) fs vs) ≤ length fs → length (changes_from n (f ∷ fs) (v ∷ vs)) ≤ length (f ∷ fs)
    by true is h = subst (λ (cs : List Change). length (cs ++ changes_from (n + 1) fs vs) ≤ length (f ∷ fs)) (sym (first_noted n f v is)) (omega (arith, h))
    by false is h = subst (λ (cs : List Change). length (cs ++ changes_from (n + 1) fs vs) ≤ length (f ∷ fs)) (sym (other_noted n f v is)) (omega (arith, h))

-- each variable that is noted is there, whatever the values
-- one value more is looked at
pub noted_on : (n : ℕ) (fs vs more : List ℤ) (f v : ℤ) → fs ≡ f ∷ more → (rest : List ℤ) → vs ≡ v ∷ rest → changes_from n fs vs ≡ change_if n f v ++ changes_from (n + 1) more rest
noted_on n fs vs more f v is rest are = ap (λ (xs : List ℤ). changes_from n xs vs) is ∙ ap (λ (xs : List ℤ). changes_from n (f ∷ more) xs) are

-- the next variable is looked at, and those after it are left
pub noted_at : (n : ℕ) (variables : List Variable) (values : List ℤ) (d : Variable) → n < length variables → n < length values
    → changes_from n (drop n (map first_of variables)) (drop n values)
    ≡ change_if n (get_or variables n d).first (get_or values n (pos 0)) ++ changes_from (n + 1) (drop (n + 1) (map first_of variables)) (drop (n + 1) values)
noted_at n variables values d lt less =
    let fs = map first_of variables in
    let f = (get_or variables n d).first in
    let there : n < length fs = omega (arith, lt, length-map variables first_of) in
    let first : drop n fs ≡ f ∷ drop (n + 1) fs = drop_more fs n (pos 0) there ∙ ap (λ (y : ℤ). y ∷ drop (n + 1) fs) (get_or-map first_of variables n d (pos 0) lt) in
    noted_on n (drop n fs) (drop n values) (drop (n + 1) fs) f (get_or values n (pos 0)) first (drop (n + 1) values) (drop_more values n (pos 0) less)

-- one variable after the other is written, as a loop does
pub written_noted : (written new whole : List ℕ) (one rest all : List Change) → new ≡ written ++ flat_map change_bytes one → all ≡ one ++ rest → written ++ flat_map change_bytes all ≡ whole → new ++ flat_map change_bytes rest ≡ whole
written_noted written new whole one rest all step parts so_far =
    let mine = flat_map change_bytes one in
    let others = flat_map change_bytes rest in
    ap (λ (t : List ℕ). t ++ others) step ∙ append_assoc written mine others
    ∙ ap (λ (t : List ℕ). written ++ t) (sym (flat_map-append change_bytes one rest)) ∙ ap (λ (cs : List Change). written ++ flat_map change_bytes cs) (sym parts) ∙ so_far

pub length-changed : (vs : List ℤ) (cs : List Change) → length (changed vs cs) ≡ length vs
length-changed vs [] = refl
length-changed vs (c ∷ cs) = length-changed (set vs c.variable c.value) cs ∙ length-set vs c.variable c.value
