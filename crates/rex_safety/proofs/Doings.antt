-- What holds after schedule lines and events that nodes are handed.
use Rattle.std.proofs.Common.{◌≡◌, ℕ, ◌+◌, ◌≤◌, ◌⊎◌, List, [], ◌∷◌, ◌++◌, refl, sym, subst}
use Rattle.std.specs.List.{All}
use Rattle.rex_ballot.specs.Limits.{most_nodes}
use Rattle.rex_syntax.specs.declared.request.Request.{Request}
use Rattle.rex_syntax.specs.declared.service.Declarations.{Declarations}
use Rattle.rex_syntax.specs.Service.{IsService}
use Rattle.rex_syntax.specs.Check.{IsChecked}
use Rattle.rex_state.specs.Value.{StateValue}
use Rattle.rex_schedule.specs.Fits.{RequestFits}
use Rattle.rex_cluster.specs.Quorum.{IsNode}
use Rattle.rex_cluster.specs.Node.{Service}
use Rattle.rex_cluster.specs.Values.{Value, service_of}
use Rattle.rex_cluster.specs.World.{World, logs, beginning, steps_of}
use Rattle.rex_cluster.specs.Invariant.{Begins, Grows}
use Rattle.rex_cluster.specs.Agreed.{known_at}
use Rattle.rex_safety.specs.Kept.{IsWorld}
use Rattle.rex_safety.specs.Laws.{OnlyGrows, ReleasesStand, ReleasesAreAgreed, NodesAreKept}
use Rattle.rex_cluster.specs.Takes.{Doing, does, after_doings}
use Rattle.rex_cluster.specs.Takes.Doing.{Does, Takes}
use Rattle.rex_safety.specs.Doings.{world_after_doings, moments_of_doings}
use Rattle.rex_safety.proofs.Agreeing.{at_two, grows_only}
use Rattle.rex_cluster.proofs.Grow.{grows_trans}
use Rattle.rex_safety.proofs.Moments.{AreMoments, step_moments_are, moments_stand, moments_agreed}
use Rattle.rex_safety.proofs.Steps.{row_ok, beginning_ok}
use Rattle.rex_safety.proofs.Takes.{take_ok}
use Rattle.rex_safety.proofs.Worlds.{GoesOnTo, row_same}

module _ (service : Declarations) (requests : List Request) (seed n : ℕ) (few : n ≤ most_nodes) where
  abbrev sv : Service Value StateValue
  sv = service_of service seed

  pub does_ok : (w : World) (x : Doing) → IsWorld n sv w → GoesOnTo n sv w (does service requests seed n w x)
  does_ok w (Does line) ok = row_ok service requests seed n few w line ok
  does_ok w (Takes m e) ok = take_ok service seed n w m e ok

  pub doings_ok : (w : World) (xs : List Doing) → IsWorld n sv w → GoesOnTo n sv w (after_doings service requests seed n w xs)
  doings_ok w [] ok = row_same n sv w ok
  doings_ok w (x ∷ xs) ok =
      let first = does_ok w x ok in
      let rest = doings_ok (does service requests seed n w x) xs first.0 in
      (rest.0, grows_trans first.1 rest.1)

  pub doings_reached : (xs : List Doing) → IsWorld n sv (world_after_doings service requests seed n xs)
  doings_reached xs = (doings_ok (beginning n) xs (beginning_ok service requests seed n few)).0

  pub doings_nodes : (xs : List Doing) → NodesAreKept service seed n (world_after_doings service requests seed n xs)
  doings_nodes xs = let ok = doings_reached xs in record { many = ok.many; records = ok.cluster.safe.sorted; replayed = ok.nodes }

-- ---- at two moments

pub after_both : (service : Declarations) (requests : List Request) (seed n : ℕ) (w : World) (doings more : List Doing)
    → after_doings service requests seed n w (doings ++ more) ≡ after_doings service requests seed n (after_doings service requests seed n w doings) more
after_both service requests seed n w [] more = refl
after_both service requests seed n w (x ∷ doings) more = after_both service requests seed n (does service requests seed n w x) doings more

module _ (service : Declarations) (requests : List Request) (seed n : ℕ) (doings more : List Doing) (few : n ≤ most_nodes) where
  abbrev earlier : World
  earlier = world_after_doings service requests seed n doings

  abbrev later : World
  later = world_after_doings service requests seed n (doings ++ more)

  records_grow : Grows (logs earlier) (logs later)
  records_grow =
      subst (λ (v : World). Grows (logs earlier) (logs v)) (sym (after_both service requests seed n (beginning n) doings more))
      (doings_ok service requests seed n few earlier more (doings_reached service requests seed n few doings)).1

  pub doings_grow : OnlyGrows service n earlier later
  doings_grow = grows_only service seed n earlier later (doings_reached service requests seed n few doings) (doings_reached service requests seed n few (doings ++ more)) records_grow

  pub doings_prefix : (a b : ℕ) → IsNode n a → IsNode n b → Begins (known_at earlier a) (known_at later b) ⊎ Begins (known_at later b) (known_at earlier a)
  doings_prefix = at_two n (service_of service seed) earlier later (doings_reached service requests seed n few (doings ++ more)) records_grow

-- ---- replies

module _ (service : Declarations) (good : IsService service) (checked : IsChecked service) (requests : List Request) (fit : All (RequestFits service) requests) (seed n : ℕ) (few : n ≤ most_nodes) where
  doing_moments_are : (w : World) (xs : List Doing) → IsWorld n (service_of service seed) w → AreMoments service good checked requests fit seed n few (logs w) (moments_of_doings service requests seed n w xs)
  doing_moments_are w [] ok = tt
  doing_moments_are w (Does line ∷ xs) ok =
      step_moments_are service good checked requests fit seed n few (w.done + 1) w (steps_of w line) (moments_of_doings service requests seed n (does service requests seed n w (Does line)) xs) ok
      (doing_moments_are (does service requests seed n w (Does line)) xs (does_ok service requests seed n few w (Does line) ok).0)
  doing_moments_are w (Takes m e ∷ xs) ok =
      let r = does_ok service requests seed n few w (Takes m e) ok in (
        record { ok = r.0; grows = r.1; true_of = record { each = λ c s x h. absurd h } },
        doing_moments_are (does service requests seed n w (Takes m e)) xs r.0,
      )

  pub doings_stand : (doings : List Doing) → ReleasesStand (moments_of_doings service requests seed n (beginning n) doings)
  doings_stand doings = moments_stand service good checked requests fit seed n few (logs (beginning n)) (moments_of_doings service requests seed n (beginning n) doings) (doing_moments_are (beginning n) doings (beginning_ok service requests seed n few))

  pub doings_agreed : (doings : List Doing) → ReleasesAreAgreed (moments_of_doings service requests seed n (beginning n) doings)
  doings_agreed doings = moments_agreed service good checked requests fit seed n few (logs (beginning n)) (moments_of_doings service requests seed n (beginning n) doings) (doing_moments_are (beginning n) doings (beginning_ok service requests seed n few))
