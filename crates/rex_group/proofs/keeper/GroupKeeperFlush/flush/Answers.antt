use Rattle.std.proofs.Common.{◌≡◌, ◌≢◌, ◌∷◌, [], ◌++◌, List, ℕ, inr, length, take, ap, ◌∙◌, arith}
use Rattle.std.proofs.lemmas.List.{append-nil}
use Rattle.rex_group.specs.declared.TheConstants.{GROUP}
use Rattle.rex_group.specs.Groups.{group}
use Rattle.rex_group.specs.Keeping.{all_of, settled, value_of}
use Rattle.rex_group.specs.Places.{records_at}
use Rattle.rex_group.proofs.Keeping.{appended, are_kept, flushed_grouped, flushed_settles, not_appended, some_wait, wait_on}
use Rattle.rex_group.proofs.keeper.GroupKeeperFlush.flush.Goals as goal
use Rattle.rex_group.proofs.keeper.GroupKeeperFlush.flush.Given as given

pub returns-then-len-count-clause-kept : goal.returns-then-len-count-clause-kept
returns-then-len-count-clause-kept g c =
    let before = g.K.Keeper.records c.self.inside.keeper in
    let now = g.K.Keeper.records c.append-answer.new.self in
    let same : length now ≡ length before = omega arith in
    let h = c.append-answer.ensures.records in
    rw (not_appended c.append-answer.result before now c.deref.result.now h same, ← c.self.view_is) (wait_on c.append-answer.result before now c.deref.result.now _ _ h same)

-- ---- where the keeper below has the group

other : (g : given.Over) (c : goal.After-truncate g) → length (g.K.Keeper.records c.append-answer.new.self) ≢ length (g.K.Keeper.records c.self.inside.keeper)
other g c = λ e. absurd (omega (arith, e))

has_all : (g : given.Over) (c : goal.After-truncate g) → g.K.Keeper.records c.append-answer.new.self ≡ all_of (g.K.Keeper.records c.self.inside.keeper) c.self.inside.group.items
has_all g c =
    appended c.append-answer.result (g.K.Keeper.records c.self.inside.keeper) (g.K.Keeper.records c.append-answer.new.self) c.deref.result.now c.append-answer.ensures.records (other g c)
    ∙ ap (λ (xs : List ℕ). all_of (g.K.Keeper.records c.self.inside.keeper) xs) c.deref.ensures.value

waits_some : (g : given.Over) (c : goal.After-truncate g) → c.self.inside.kept ≢ length c.self.inside.places.items
waits_some g c = λ e. absurd (omega (arith, e))

emptied : (g : given.Over) (c : goal.After-truncate g) → c.truncate.new.self.items ≡ GROUP ∷ []
emptied g c = c.truncate.ensures.items ∙ ap (λ (xs : List ℕ). take 1 xs) c.self.invariant.group

each : (g : given.Over) (c : goal.After-truncate g) → c.len-self-inside.result ≡ length c.self.inside.places.items
each g c = omega arith

pub invariant_of-self-2 : goal.invariant_of-self-2
invariant_of-self-2 g c =
    flushed_grouped (g.K.Keeper.records c.self.inside.keeper) c.self.inside.group.items c.self.inside.places.items c.self.inside.kept c.self.invariant (g.K.Keeper.records c.append-answer.new.self) c.truncate.new.self.items c.len-self-inside.result (has_all g c) (emptied g c) (each g c)

settles : (g : given.Over) (c : goal.After-truncate g) →
    value_of c.append-answer.new.self (records_at (all_of (g.K.Keeper.records c.append-answer.new.self) c.truncate.new.self.items) c.self.inside.places.items) c.len-self-inside.result
    ≡ settled (value_of c.append-answer.new.self (records_at (all_of (g.K.Keeper.records c.self.inside.keeper) c.self.inside.group.items) c.self.inside.places.items) c.self.inside.kept)
settles g c =
    flushed_settles (g.K.Keeper.records c.self.inside.keeper) c.self.inside.group.items c.self.inside.places.items c.self.inside.kept c.self.invariant (g.K.Keeper.records c.append-answer.new.self) c.truncate.new.self.items c.len-self-inside.result (has_all g c) (emptied g c) (each g c) c.append-answer.new.self

pub returns-clause-records : goal.returns-clause-records
returns-clause-records g c = rw (← c.self.view_is) (ap (λ v. v.kept ++ v.waits) (settles g c) ∙ append-nil _)

pub returns-clause-kept : goal.returns-clause-kept
returns-clause-kept g c =
    let h = c.append-answer.ensures.records in
    rw (← c.self.view_is, ap (λ v. v.kept) (settles g c)) (are_kept c.append-answer.result (g.K.Keeper.records c.self.inside.keeper) (g.K.Keeper.records c.append-answer.new.self) c.deref.result.now _ _ h (other g c))

pub returns-clause-gives : goal.returns-clause-gives
returns-clause-gives g c =
    let group_is : c.deref.result.now ≡ group c.args.self.now.waits = rw (← c.self.view_is) (c.deref.ensures.value ∙ c.self.invariant.group) in
    inr (record {
      some = rw (← c.self.view_is) (some_wait (g.K.Keeper.records c.self.inside.keeper) c.self.inside.group.items c.self.inside.places.items c.self.inside.kept c.self.invariant (waits_some g c));
      appended = rw (← group_is, ← c.self.view_is) c.append-answer.ensures.gives;
      value = inr (rw (← c.self.view_is) (settles g c));
    })
