-- Each step keeps what is kept.
use Rattle.std.proofs.Common.{◌≡◌, ℕ, ◌≤◌, ◌-◌, Bool, true, false, List, [], ◌∷◌, length, Option, Some, None, refl, ◌∙◌, ap, arith, length-append, length-set}
use Rattle.std.proofs.lemmas.List.{length-replicate}
use Rattle.std.specs.Prelude.{is_some, replicate}
use Rattle.std.specs.List.{All}
use Rattle.std.proofs.lemmas.List.Elements.{All-nil}
use Rattle.rex_ballot.specs.Limits.{most_nodes}
use Rattle.rex_syntax.specs.declared.request.Request.{Request}
use Rattle.rex_syntax.specs.declared.service.Declarations.{Declarations}
use Rattle.rex_syntax.specs.Service.{IsService}
use Rattle.rex_syntax.specs.Check.{IsChecked}
use Rattle.rex_state.specs.Value.{StateValue}
use Rattle.rex_schedule.specs.declared.scenario.ScheduleLine.{ScheduleLine}
use Rattle.rex_schedule.specs.declared.scenario.ScheduleLine.TheVariants as line
use Rattle.rex_schedule.specs.Fits.{RequestFits, LineFits}
use Rattle.rex_cluster.specs.Node.{Service, Message, Lead}
use Rattle.rex_cluster.specs.Node.Role.{Leads}
use Rattle.rex_cluster.specs.Calls.{begin}
use Rattle.rex_cluster.specs.Values.{Value, service_of}
use Rattle.rex_cluster.specs.Lanes.{CallHere}
use Rattle.rex_cluster.specs.World.{World, node_at, beginning, after, if_up, with_handed, deliver_found, message_at, step, steps_of, steps, row}
use Rattle.rex_cluster.specs.Agreed.{known_at}
use Rattle.rex_cluster.specs.Acting.{IsActing, HasLane}
use Rattle.rex_safety.specs.Kept.{roles, IsWorld, IsKept}
use Rattle.rex_safety.specs.Keeping.{IsRight}
use Rattle.rex_cluster.proofs.Acting.{live_runs}
use Rattle.rex_safety.proofs.Lawful.{of_step}
use Rattle.rex_safety.proofs.Steps.{step_ok, beginning_ok}
use Rattle.rex_safety.proofs.Worlds.{node_of_lead}
use Rattle.rex_safety.proofs.Moments.{known_run}
use Rattle.rex_safety.proofs.Actives.{AllWork, step_work, active_traces_run}
use Rattle.rex_safety.proofs.Numbers.{AllLinesFit, step_fits, steps_fit, numbers_fit}
use Rattle.rex_safety.proofs.Nexts.{next_fits, values_short, values_bytes}

-- a line that names what is there names a lane that is
has_lane : (service : Declarations) (nodes requests : ℕ) (x : ScheduleLine) → LineFits nodes requests service.lanes x → HasLane service x
has_lane service nodes requests (line.Lane m lane) l = l.1
has_lane service nodes requests (line.CutBelow m limits) l = l.1
has_lane service nodes requests _ l = tt

-- ---- the messages that were handed over

abbrev AreTold : World → Type 0
AreTold w = length w.handed ≡ length w.messages

after_told : (w : World) (m : ℕ) (d : CallHere) → AreTold w → AreTold (after w m d).world
after_told w m d h = omega (arith, h, length-append w.handed (replicate (length d.sends) false), length-append w.messages d.sends, length-replicate (length d.sends) false)

pub if_up_told : (t : Bool) (w : World) (m : ℕ) (d : CallHere) → AreTold w → AreTold (if_up t w m d).world
if_up_told true w m d h = after_told w m d h
if_up_told false w m d h = h

deliver_told : (service : Declarations) (seed n : ℕ) (w : World) (number : ℕ) (o : Option (Message Value)) → AreTold w → AreTold (deliver_found service seed n w number o).world
deliver_told service seed n w number None h = h
deliver_told service seed n w number (Some y) h = if_up_told (node_at w.nodes y.to).up (with_handed w number) y.to _ (length-set w.handed (number - 1) true ∙ h)

step_told : (service : Declarations) (requests : List Request) (seed n : ℕ) (w : World) (x : ScheduleLine) → AreTold w → AreTold (step service requests seed n w x).world
step_told service requests seed n w x h =
    of_step service requests seed n w (λ y r. AreTold r.world)
    (record {
      calls = λ y m call k. if_up_told (node_at w.nodes m).up w m _ h;
      silent = λ y m call k s. after_told w m (call (begin (node_at w.nodes m))) h;
      is_up = λ m. h;
      delivers = λ number. deliver_told service seed n w number (message_at w.messages number) h;
      flush = h;
      reads = λ m client variable. h;
    }) x

-- ---- steps

module _ (service : Declarations) (good : IsService service) (checked : IsChecked service) (requests : List Request) (fit : All (RequestFits service) requests) (seed n : ℕ) (few : n ≤ most_nodes) where
  abbrev sv : Service Value StateValue
  sv = service_of service seed

  abbrev Kept : World → Type 0
  Kept w = IsKept service seed n w

  -- what active nodes work with, where it is known that what they know fits
  pub acting_of : (w : World) → IsWorld n sv w → AllWork service good checked requests fit seed n few w
      → (m : ℕ) (l : Lead Value) → roles w m ≡ Leads l → l.active ≡ true → IsActing service (known_at w m) l.proposal (node_at w.nodes m).work
  acting_of w ok all m l e a = (all m).each l e a (known_run service good checked requests fit seed n few w ok m (node_of_lead n sv w ok m l e))

  pub all_work : (w : World) → Kept w → AllWork service good checked requests fit seed n few w
  all_work w k m = record { each = λ l e a f. k.acting m l e a }

  pub beginning_kept : Kept (beginning n)
  beginning_kept = record {
    world = beginning_ok service requests seed n few;
    acting = λ m l e a. (active_traces_run service good checked requests fit seed n few [] (All-nil (HasLane service)) m l e a).acting;
    numbers = numbers_fit service requests seed n few [] (All-nil (LineFits n (length requests) service.lanes));
    handed = refl;
  }

  pub step_kept : (w : World) (x : ScheduleLine) → LineFits n (length requests) service.lanes x → Kept w → Kept (step service requests seed n w x).world
  step_kept w x l k =
      let ok = (step_ok service requests seed n few w x k.world).0 in
      record {
        world = ok;
        acting = acting_of (step service requests seed n w x).world ok (step_work service good checked requests fit seed n few w k.world.many (all_work w k) x (has_lane service n (length requests) x l));
        numbers = step_fits service requests seed n few w k.world k.numbers x l;
        handed = step_told service requests seed n w x k.handed;
      }

  steps_kept : (w : World) (xs : List ScheduleLine) → AllLinesFit service requests seed n few xs → Kept w → Kept (steps service requests seed n w xs).world
  steps_kept w [] l k = k
  steps_kept w (x ∷ xs) l k = steps_kept (step service requests seed n w x).world xs l.1 (step_kept w x l.0 k)

  pub row_kept : (w : World) (x : ScheduleLine) → LineFits n (length requests) service.lanes x → Kept w → Kept (row service requests seed n w x).world
  row_kept w x l k =
      let r = steps_kept w (steps_of w x) (steps_fit service requests seed n few w x l) k in
      record {
        world = record { many = r.world.many; cluster = r.world.cluster; nodes = r.world.nodes };
        acting = r.acting;
        numbers = record { nodes = r.numbers.nodes; messages = r.numbers.messages };
        handed = r.handed;
      }

-- ---- what follows

pub kept_right : (service : Declarations) (seed n : ℕ) (w : World) → IsService service → IsChecked service → IsKept service seed n w → IsRight service seed n w
kept_right service seed n w good checked k = record {
  next = next_fits service seed n w k.world;
  short = values_short service seed n w k.world;
  bytes = values_bytes service seed n w k.world;
  nodes = record { many = k.world.many; records = k.world.cluster.safe.sorted; replayed = k.world.nodes };
  acts = λ m l e a. let h = k.acting m l e a in
      record { acting = h; trace_runs = ap is_some (live_runs service good checked (known_at w m) l.proposal (node_at w.nodes m).work h) };
}
