use Rattle.std.proofs.Common.{◌≡◌, ◌⊎◌, inl, inr, ℕ, ◌+◌, ◌<◌, set, ap, sym, ◌∙◌, subst, arith}
use Rattle.std.proofs.lemmas.Bool.{cases_eq}
use Rattle.std.proofs.lemmas.List.{get_or-set_same, get_or-set_other}
use Rattle.rex_live.specs.Places.{place_at, IsWantedAt}
use Rattle.rex_live.proofs.places.seek_all.Goals as goal

pub loop-client-preserved : goal.loop-client-preserved
loop-client-preserved c = λ client below. by client below (cases_eq client c.loop-client.client)
  where
    Wanted : ℕ → ℕ → Type 0
    Wanted client place = IsWantedAt c.args.service.now c.args.requests.now c.args.entries.now client place

    by : (client : ℕ) → client < c.loop-client.client + 1 → (client ≡ c.loop-client.client) ⊎ (client ≡ c.loop-client.client → ⊥)
        → Wanted client (place_at (set c.loop-client.wanted c.loop-client.client c.wanted_from.result) client)
    by client below (inl e) =
        let here : place_at (set c.loop-client.wanted c.loop-client.client c.wanted_from.result) client ≡ c.wanted_from.result =
        ap (λ (x : ℕ). place_at (set c.loop-client.wanted c.loop-client.client c.wanted_from.result) x) e
        ∙ get_or-set_same c.loop-client.wanted c.loop-client.client c.wanted_from.result 0 (omega (arith, c.loop-client.auto.wanted, c.requires.long, c.loop-client-test.true)) in
        subst (Wanted client) (sym here) (subst (λ (x : ℕ). Wanted x c.wanted_from.result) (sym e) c.wanted_from.ensures)
    by client below (inr n) = subst (Wanted client) (sym (get_or-set_other c.loop-client.wanted c.loop-client.client client c.wanted_from.result 0 n)) (c.loop-client.invariant client (omega (arith, n)))
