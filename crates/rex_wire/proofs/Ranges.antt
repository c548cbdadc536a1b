-- What tests of numbers say that held, and which hold.
use Rattle.std.proofs.Common.{◌≡◌, ℕ, Bool, true, false, cond, Ok, Err, refl}
use Rattle.std.specs.Prelude.{◌&&◌, nat_le}
use Rattle.std.specs.Int.{Width}
use Rattle.std.proofs.lemmas.Bool.{leb-true, le-leb}
use Rattle.rex_wire.specs.Ranges.{is_between, IsBetween}
use Rattle.rex_wire.specs.Reading.{Left, allowed_at, number_at}
use Rattle.rex_wire.proofs.Fields.{bind_ok, test_ok}

pub both : (a b : Bool) → (a && b) ≡ true → (a ≡ true) × (b ≡ true)
both true b e = (refl, e)
both false b e = absurd cc

pub is_between-true : (least greatest n : ℕ) → is_between least greatest n ≡ true → IsBetween least greatest n
is_between-true least greatest n e =
    let p = both (nat_le least n) (nat_le n greatest) e in
    (leb-true least n p.0, leb-true n greatest p.1)

pub between-is : (least greatest n : ℕ) → IsBetween least greatest n → is_between least greatest n ≡ true
between-is least greatest n h = rw (le-leb least n h.0, le-leb n greatest h.1) refl

-- an allowed number passed its test
pub allowed_is : (w : Width) (may : ℕ → Bool) (l : Left) (x : ℕ × Left) → allowed_at w may l ≡ Ok x → may x.0 ≡ true
allowed_is w may l x e =
    let b = bind_ok (number_at w l) (λ n. cond (may n.0) (Ok n) (Err l.at)) x e in
    let g = test_ok (may b.0.0) l.at b.0 x b.2 in
    rw (← g.1) g.0
