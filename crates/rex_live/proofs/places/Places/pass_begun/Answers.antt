use Rattle.std.proofs.Common.{◌≡◌, ◌⊎◌, inl, inr, ℕ, ◌<◌, List, ap, sym, ◌∙◌, subst}
use Rattle.std.proofs.lemmas.Bool.{cases_eq}
use Rattle.std.proofs.lemmas.List.{get_or-set_other}
use Rattle.rex_event.specs.declared.event.Kind.{Kind}
use Rattle.rex_state.specs.declared.lane.Entry.{Entry}
use Rattle.rex_state.specs.Machine.{no_entry, clients_after}
use Rattle.rex_live.specs.Places.{place_at, last_of, IsLinked, IsWantedAt}
use Rattle.rex_live.proofs.Opens.{wanted_kept}
use Rattle.rex_live.proofs.places.Places.pass_begun.Goals as goal

pub returns-then-client-lt-CLIENT_ENTRIES-clause-places : goal.returns-then-client-lt-CLIENT_ENTRIES-clause-places
returns-then-client-lt-CLIENT_ENTRIES-clause-places c = record {
  linked = subst (λ (v : _). IsLinked c.args.requests.now v.items) (sym c.renew.ensures.nexts) c.requires.had.are.linked;
  noted = c.renew.ensures.noted;
  long = c.renew.ensures.long;
  are = λ other known. by other known (cases_eq other c.in-Begin.client);
}
  where
    Wanted : ℕ → ℕ → Type 0
    Wanted client place = IsWantedAt c.args.service.now c.args.requests.now c.args.entries.now client place

    by : (other : ℕ) → other < 257 → (other ≡ c.in-Begin.client) ⊎ (other ≡ c.in-Begin.client → ⊥) → Wanted other (place_at c.renew.new.self.wanted.items other)
    by other known (inl e) = subst (λ (x : ℕ). Wanted x (place_at c.renew.new.self.wanted.items x)) (sym e) c.renew.ensures.here
    by other known (inr n) =
        let after : c.args.entries.now ≡ clients_after c.args.kind.now c.requires.before = c.requires.after in
        let last : last_of c.args.entries.now other ≡ last_of c.requires.before other =
        ap (λ (cs : List Entry). last_of cs other) (after ∙ ap (λ (k : Kind). clients_after k c.requires.before) c.in-Begin.is)
        ∙ ap (λ (x : Entry). x.sequence) (get_or-set_other c.requires.before c.in-Begin.client other _ no_entry n) in
        subst (Wanted other) (sym (c.renew.ensures.others other n))
        (wanted_kept c.args.service.now c.args.requests.now c.requires.before c.args.entries.now other _ last (c.requires.had.are.are other known))
