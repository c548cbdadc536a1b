-- The test of two locksets says whether they are equal.
use Rattle.std.proofs.Common.{◌≡◌, ap, refl, subst, Bool, true, List}
use Rattle.std.specs.Bool.{Decides}
use Rattle.std.proofs.lemmas.Bool.Decides.{Decides-like, same_from_decides}
use Rattle.std.proofs.lemmas.Slice.Eq.{slice_eq-Decides}
use Rattle.rex_syntax.specs.declared.locks.Mode.{Mode}
use Rattle.rex_syntax.specs.declared.locks.Mode.TheVariants.{Free, Shared, Exclusive}
use Rattle.rex_syntax.specs.declared.locks.Lockset.{Lockset}
use Rattle.rex_lockset.specs.Known.{is_same_mode, is_same}

mode_is : (one other : Mode) → is_same_mode one other ≡ true → one ≡ other
mode_is Free Free e = refl
mode_is Free Shared e = absurd (cc)
mode_is Free Exclusive e = absurd (cc)
mode_is Shared Free e = absurd (cc)
mode_is Shared Shared e = refl
mode_is Shared Exclusive e = absurd (cc)
mode_is Exclusive Free e = absurd (cc)
mode_is Exclusive Shared e = absurd (cc)
mode_is Exclusive Exclusive e = refl

is_mode : (mode : Mode) → is_same_mode mode mode ≡ true
is_mode Free = refl
is_mode Shared = refl
is_mode Exclusive = refl

mode_decides : (one other : Mode) → Decides (is_same_mode one other) (one ≡ other)
mode_decides one other = (mode_is one other, λ e. let P : Mode → Type 0 = λ m. is_same_mode one m ≡ true in subst P e (is_mode one))

pub is_same-Decides : (one other : Lockset) → Decides (is_same one other) (one ≡ other)
is_same-Decides one other =
    Decides-like (is_same one other) (ap (λ (m : List Mode). let l : Lockset = record { modes = m } in l)) (ap (λ (l : Lockset). l.modes))
    (slice_eq-Decides mode_decides one.modes other.modes (is_same one other) refl)

-- another test of the same answers the same
pub is_same_as : (one other : Lockset) (answer : Bool) → Decides answer (one ≡ other) → is_same one other ≡ answer
is_same_as one other answer d = same_from_decides (is_same one other) answer (is_same-Decides one other) d

pub is_same_self : (held : Lockset) → is_same held held ≡ true
is_same_self held = (is_same-Decides held held).1 refl
