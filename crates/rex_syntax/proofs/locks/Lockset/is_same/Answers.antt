use Rattle.std.proofs.Common.{◌≡◌, ap, true, refl, List, subst, rules}
use denote.Enum.Bare.{same_true, sameb}
use Rattle.rex_syntax.specs.contracts.locks.Mode.{the_type}
use Rattle.std.proofs.lemmas.Slice.Eq.{slice_eq-Decides}
use Rattle.std.proofs.lemmas.Bool.Decides.{Decides-like}
use Rattle.rex_syntax.specs.declared.locks.Mode.{Mode}
use Rattle.rex_syntax.specs.declared.locks.Mode.TheVariants.{Free, Shared, Exclusive}
use Rattle.rex_syntax.specs.declared.locks.Lockset.{Lockset}
use Rattle.rex_syntax.proofs.locks.Lockset.is_same.Goals as goal

same_self : (a : Mode) → sameb the_type a a ≡ true
same_self Free = refl
same_self Shared = refl
same_self Exclusive = refl

pub returns : goal.returns
returns c =
    Decides-like c.eq.result (ap (λ (m : List Mode). let l : Lockset = record { modes = m } in l)) (ap (λ (l : Lockset). l.modes))
    (slice_eq-Decides (λ a b. (same_true the_type (search rules) a b, λ e. let P : Mode → Type 0 = λ m. sameb the_type a m ≡ true in subst P e (same_self a))) c.args.self.now.modes c.args.other.now.modes c.eq.result c.eq.ensures)
