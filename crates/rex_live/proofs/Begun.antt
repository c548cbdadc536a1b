-- A floor at its start: nothing is out, and nothing was done.
use Rattle.std.proofs.Common.{◌≡◌, ℕ, zero, suc, Bool, false, List, [], ◌∷◌, length, refl, sym, ap, subst, ◌∙◌, arith, true≢false}
use Rattle.std.specs.Prelude.{replicate}
use Rattle.rand_pcg.specs.Lcg.{Lcg}
use Rattle.rex_syntax.specs.declared.request.Request.{Request}
use Rattle.rex_syntax.specs.declared.service.Declarations.{Declarations}
use Rattle.rex_event.specs.declared.event.Event.{Event}
use Rattle.rex_state.specs.Value.{StateValue}
use Rattle.rex_state.specs.Start.{start_of}
use Rattle.rex_state.specs.Sound.{IsSound}
use Rattle.rex_live.specs.Floor.{FloorValue, opened}
use Rattle.rex_live.specs.Lent.{is_out, state_of, IsLending}
use Rattle.rex_live.specs.Desk.{IsDesk}
use Rattle.rex_live.specs.declared.places.Places.{Places}
use Rattle.rex_live.specs.Places.{HasPlaces}

none_out : (n lane : ℕ) → is_out (replicate n false) lane ≡ false
none_out zero lane = refl
none_out (suc n) zero = refl
none_out (suc n) (suc lane) = none_out n lane

lends_start : (service : Declarations) → IsSound service (start_of service) → IsLending service (replicate 64 false) (start_of service) (start_of service)
lends_start service sound = record {
  flows = sound.flows;
  right = sound.right;
  by = record {
    sound = sound.by;
    fits = sound.by.fits;
    variables = refl;
    lanes = refl;
    queues = refl;
    semaphores = refl;
    clients = refl;
    done = λ lane. refl;
    back = λ lane back. refl;
    lent = λ lane out. absurd (true≢false (sym out ∙ none_out 64 lane));
    others = λ variable none. refl;
  };
}

-- what the floor came to
abbrev pub begun_floor : Declarations → List Event → Lcg → FloorValue
begun_floor service history dice = record { history = history; state = state_of service history; dice = dice }

pub is_begun : (service : Declarations) (handed requests : List Request) (first dice : Lcg) (history : List Event) (total : ℕ) (places : Places) (kept : StateValue) (out : List Bool) → IsSound service kept → kept ≡ start_of service → requests ≡ handed → dice ≡ first → total ≡ 0 → history ≡ [] → out ≡ replicate 64 false
    → HasPlaces service requests kept.clients places → IsDesk service handed requests first total places kept (begun_floor service history dice) out
is_begun service handed requests first dice (e ∷ es) total places kept out sound start same dice_is none history_is out_is noted = absurd (cc)
is_begun service handed requests first dice [] total places kept out sound start same dice_is none history_is out_is noted =
    let lends = lends_start service (subst (IsSound service) start sound) in
    record {
      made = record { leads = ap (opened service) (sym dice_is); few = omega arith };
      same = same;
      counted = none;
      lanes = ap (λ (o : List Bool). length o) out_is;
      lending = subst (λ (o : List Bool). IsLending service o kept (start_of service)) (sym out_is) (subst (λ (k : StateValue). IsLending service (replicate 64 false) k (start_of service)) (sym start) lends);
      noted = noted;
    }
