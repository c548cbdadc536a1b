-- What is known of a line never falls, and says which locksets the line was led to with.
use Rattle.std.proofs.Common.{◌≡◌, ◌≢◌, ℕ, ◌<◌, ◌≤◌, ◌⊎◌, List, length, refl, subst, inl, inr, Bool, true, false, length-set, get_or-set_other, get_or-set_same}
use Rattle.std.specs.Prelude.{Option, Some, None, if◌then◌else◌}
use Rattle.std.proofs.lemmas.List.{get_or_past}
use Rattle.std.proofs.lemmas.Bool.{cases_lt, cases_eq}
use Rattle.rex_syntax.specs.declared.locks.Lockset.{Lockset}
use Rattle.rex_lockset.specs.declared.known.Known.{Known}
use Rattle.rex_lockset.specs.declared.known.Known.TheVariants.{Nothing, Held, Differs}
use Rattle.rex_lockset.specs.Known.{is_same, joined, known_at, noted}
use Rattle.rex_lockset.proofs.Same.{is_same-Decides, is_same_self}

-- a line that is known so was led to with this lockset
abbrev pub Has : Known → Lockset → Type 0
Has Nothing held = ⊥
Has (Held before) held = before ≡ held
Has Differs held = Unit {0}

has_joined : (b : Bool) (before held : Lockset) → is_same before held ≡ b → Has (if b then Held before else Differs) held
has_joined true before held e = (is_same-Decides before held).0 e
has_joined false before held e = tt

pub joined-has : (known : Known) (held : Lockset) → Has (joined known held) held
joined-has Nothing held = refl
joined-has (Held before) held = has_joined (is_same before held) before held refl
joined-has Differs held = tt

keeps_joined : (b : Bool) (before other : Lockset) → before ≡ other → Has (if b then Held before else Differs) other
keeps_joined true before other e = e
keeps_joined false before other e = tt

pub joined-keeps : (known : Known) (held other : Lockset) → Has known other → Has (joined known held) other
joined-keeps Nothing held other h = absurd h
joined-keeps (Held before) held other h = keeps_joined (is_same before held) before other h
joined-keeps Differs held other h = tt

-- a line that is led to again with the same lockset stays known
pub joined-same : (held : Lockset) → joined (Held held) held ≡ Held held
joined-same held = rw (is_same_self held) refl

module _ (known : List Known) where
  -- what is known of a line is known of one that is there
  is_there : (line : ℕ) (held : Lockset) → Has (known_at known line) held → (line < length known) ⊎ (length known ≤ line) → line < length known
  is_there line held h (inl l) = l
  is_there line held h (inr l) =
      let e : known_at known line ≡ Nothing = get_or_past known line Nothing l in
      let P : Known → Type 0 = λ k. Has k held in
      absurd (subst P e h)

  pub noted-has : (line : ℕ) (held : Lockset) → line < length known → Has (known_at (noted known line (Some held)) line) held
  noted-has line held h = rw (get_or-set_same known line _ Nothing h) (joined-has (known_at known line) held)

  pub noted-other : (line at : ℕ) (o : Option Lockset) → at ≢ line → known_at (noted known line o) at ≡ known_at known at
  noted-other line at None n = refl
  noted-other line at (Some held) n = get_or-set_other known line at _ Nothing n

  kept : (line at : ℕ) (held other : Lockset) → Has (known_at known at) other → (at ≡ line) ⊎ (at ≡ line → ⊥) → Has (known_at (noted known line (Some held)) at) other
  kept line at held other h (inr n) = rw (noted-other line at (Some held) n) h
  kept line at held other h (inl e) =
      let l : at < length known = is_there at other h (cases_lt at (length known)) in
      let P : ℕ → Type 0 = λ i. Has (known_at (noted known i (Some held)) at) other in
      let same : Has (known_at (noted known at (Some held)) at) other = rw (get_or-set_same known at _ Nothing l) (joined-keeps (known_at known at) held other h) in
      subst P e same

  pub noted-keeps : (line at : ℕ) (o : Option Lockset) (other : Lockset) → Has (known_at known at) other → Has (known_at (noted known line o) at) other
  noted-keeps line at None other h = h
  noted-keeps line at (Some held) other h = kept line at held other h (cases_eq at line)

  pub length-noted : (line : ℕ) (o : Option Lockset) → length (noted known line o) ≡ length known
  length-noted line None = refl
  length-noted line (Some held) = length-set known line _
