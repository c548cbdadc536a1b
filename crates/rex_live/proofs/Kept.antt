-- What is kept of the value under a floor's lock, from step to step.
use Rattle.std.proofs.Common.{◌≡◌, ℕ, ◌+◌, ◌<◌, ◌^◌, Bool, true, false, List, [], ◌∷◌, ◌++◌, length, set, refl, ap, sym, ◌∙◌, subst, arith, length-append, length-set}
use Rattle.std.specs.Prelude.{Option, Some, None, IfSome, ℤ, pos, unwrap_or}
use Rattle.rand_pcg.specs.Lcg.{Lcg}
use Rattle.rand_pcg.specs.Pcg.{pcg32}
use Rattle.rex_syntax.specs.declared.request.Request.{Request}
use Rattle.rex_syntax.specs.declared.service.Declarations.{Declarations}
use Rattle.rex_syntax.specs.Service.{IsService}
use Rattle.rex_syntax.specs.Check.{IsChecked}
use Rattle.rex_frame.specs.declared.frame.Frame.{Frame}
use Rattle.rex_frame.specs.Step.{LineFits}
use Rattle.rex_frame.specs.Handlers.{FitsIn}
use Rattle.rex_event.specs.declared.event.Event.{Event}
use Rattle.rex_state.specs.Value.{StateValue}
use Rattle.rex_state.specs.declared.lane.Entry.{Entry}
use Rattle.rex_state.specs.Lines.{line_of}
use Rattle.rex_state.specs.Own.{started}
use Rattle.rex_state.specs.Machine.{frame_at, client_allows, next, run}
use Rattle.rex_state.specs.Put.{lines_run}
use Rattle.rex_state.specs.Semaphores.{HasSemaphore}
use Rattle.rex_state.specs.Room.{CanApply, CanStart, HasQueue, HasEntry}
use Rattle.rex_state.specs.Start.{start_of}
use Rattle.rex_state.specs.Sound.{with_flows, IsSound}
use Rattle.rex_state.proofs.Run.{run-push}
use Rattle.rex_state.proofs.Fits.{IsRight}
use Rattle.rex_state.proofs.Keep.{IsNext, next_is}
use Rattle.rex_state.proofs.Rooms.{can_apply, some_is}
use Rattle.rex_record.specs.Stand.{StandsAt}
use Rattle.rex_record.proofs.Stands.{stands_at}
use Rattle.rex_live.specs.Floor.{FloorValue, lane_event, next_event, dice_behind, recorded}
use Rattle.rex_live.specs.Laws.{Runs}
use Rattle.rex_live.specs.Lent.{begun, state_of, is_out, IsLending}
use Rattle.rex_live.specs.Desk.{DeskValue, IsDesk}
use Rattle.rex_live.specs.declared.places.Places.{Places}
use Rattle.rex_live.specs.Places.{HasPlaces, HadPlaces}
use Rattle.rex_live.proofs.Leads.{made_runs}
use Rattle.rex_live.proofs.Record.{IsRecorded, is_recorded}
use Rattle.rex_live.proofs.Lends.{lends_run, lends_begun}
use Rattle.rex_live.proofs.Same.{lane_event_same}

module _ (service : Declarations) (good : IsService service) (out : List Bool) (kept s : StateValue) (lending : IsLending service out kept s) where
  right : IsRight (with_flows service lending.flows)
  right = record { service = good; flows = lending.right }

  sound : IsSound service s
  sound = record { flows = lending.flows; right = lending.right; by = lending.by.sound }

  -- there are as many lanes and variables as the service has
  pub lanes_kept : length kept.lanes ≡ service.lanes
  lanes_kept = lending.by.lanes ∙ lending.by.sound.complete.lanes

  pub variables_kept : length kept.variables ≡ length service.variables
  variables_kept = lending.by.variables ∙ lending.by.sound.complete.variables

  stands_by : (lane : ℕ) (o : Option Frame) → frame_at s lane ≡ o → IfSome o (StandsAt service kept)
  stands_by lane None is = tt
  stands_by lane (Some f) is =
      let stands : StandsAt service s f = stands_at service s lane f good sound is in
      record {
        handler = stands.handler;
        place = stands.place;
        fits = subst (λ (n : ℕ). LineFits (length f.locals.items) n (line_of service f)) (sym lending.by.variables) stands.fits;
        condition = stands.condition;
      }

  -- a busy lane that is back stands at a line of its handler
  pub stands_kept : (lane : ℕ) → is_out out lane ≡ false → IfSome (frame_at kept lane) (StandsAt service kept)
  stands_kept lane back = let P : Option Frame → Type 0 = λ o. IfSome o (StandsAt service kept) in subst P (sym (lending.by.back lane back)) (stands_by lane (frame_at s lane) refl)

  -- a lane that is back makes its next event
  pub event_kept : (requests : List Request) (lane : ℕ) (clock : ℤ) (random : ℕ) → lane < service.lanes → is_out out lane ≡ false
      → lane_event service requests kept lane clock random (frame_at kept lane) ≡ lane_event service requests s lane clock random (frame_at s lane)
  event_kept requests lane clock random there back =
      lane_event_same (with_flows service lending.flows) right out kept s lending.by lane (subst (λ (n : ℕ). lane < n) (sym lending.by.sound.complete.lanes) there) back requests clock random

  -- lines that are run keep what is kept
  pub lending_run : (lane : ℕ) → is_out out lane ≡ true → lane < service.lanes → lane < length out → IsLending service (set out lane false) (lines_run service kept lane) s
  lending_run lane is there long = record {
    flows = lending.flows;
    right = lending.right;
    by = lends_run (with_flows service lending.flows) right out kept s lending.by lane is (subst (λ (n : ℕ). lane < n) (sym lanes_kept) there) long;
  }

  -- and so does an event
  pub lending_begun : (e : Event) (t : StateValue) → is_out out e.lane ≡ false → e.lane < length out → next service s e ≡ Some t → IsLending service (set out e.lane true) (begun service kept e) t
  lending_begun e t back long h =
      let n : IsNext service s e t = next_is service s e t h in
      subst (IsLending service (set out e.lane true) (begun service kept e)) n.is
      (record {
        flows = lending.flows;
        right = lending.right;
        by = lends_begun (with_flows service lending.flows) right out kept s lending.by e back long n.enabled;
      })

  -- an event that is next can be begun on what is kept
  pub begins_kept : (e : Event) (t : StateValue) → is_out out e.lane ≡ false → next service s e ≡ Some t → e.index + 1 < 2 ^ 32 → CanApply service e.lane e.kind kept
  begins_kept e t back h count =
      let can : CanApply service e.lane e.kind s = can_apply service s t e good sound h count in
      let same : frame_at s e.lane ≡ frame_at kept e.lane = sym (lending.by.back e.lane back) in
      record {
        there = subst (λ (n : ℕ). e.lane < n) (sym lending.by.lanes) can.there;
        count = subst (λ (n : ℕ). n + 1 < 2 ^ 32) (sym (lending.by.done e.lane)) can.count;
        start = subst (CanStart service e.kind) same can.start;
        fits = (let P : Option Frame → Type 0 = λ o. IfSome (started service e.kind o) (FitsIn service) in subst P same can.fits);
        variables = variables_kept;
        queue = subst (HasQueue e.kind) (sym lending.by.queues) can.queue;
        semaphore = subst (HasSemaphore e.kind) (sym lending.by.semaphores) can.semaphore;
        entry = subst (HasEntry e.kind) (sym lending.by.clients) can.entry;
      }

-- ---- the whole desk

-- a run and one more event lead to the state after both
state_push : (service : Declarations) (history : List Event) (e : Event) (s t : StateValue) → run service (start_of service) history ≡ Some s → next service s e ≡ Some t → state_of service (history ++ e ∷ []) ≡ t
state_push service history e s t runs n = ap (λ (o : Option StateValue). unwrap_or o (start_of service)) (run-push service (start_of service) s t history e runs n)

-- the event can be begun on what is kept, the places follow it, and the desk keeps what it keeps
pub record IsBegun (service : Declarations) (handed requests : List Request) (dice : Lcg) (total : ℕ) (places : Places) (kept : StateValue) (d : DeskValue) (e : Event) : Type 0 where
  pub can : CanApply service e.lane e.kind kept
  pub state : state_of service (d.floor.history ++ e ∷ []) ≡ (recorded service d.floor e).state
  pub had : HadPlaces service requests e.kind (begun service kept e).clients places
  pub desk : (later : Places) → HasPlaces service requests (begun service kept e).clients later
      → IsDesk service handed requests dice (total + 1) later (begun service kept e) (recorded service d.floor e) (set d.out e.lane true)

pub is_begun : (service : Declarations) (handed requests : List Request) (dice : Lcg) (total : ℕ) (places : Places) (kept : StateValue) (d : DeskValue) (e : Event) → IsService service → IsChecked service
    → d.floor.state ≡ state_of service d.floor.history → IsDesk service handed requests dice total places kept d.floor d.out
    → length d.floor.history < 268431360 → e.lane < service.lanes → is_out d.out e.lane ≡ false → next_event service handed d.floor e.lane ≡ Some e → IsBegun service handed requests dice total places kept d e
is_begun service handed requests dice total places kept d e good checked state desk few there back is =
    let r : IsRecorded service handed dice d.floor e = is_recorded service handed dice d.floor e good checked desk.made few there is in
    let n = some_is (next service d.floor.state e) r.can in
    let runs : Runs service d.floor = made_runs service handed dice d.floor good checked desk.made in
    let later : (recorded service d.floor e).state ≡ n.0 = ap (λ (o : Option StateValue). unwrap_or o d.floor.state) n.1 in
    let long : e.lane < length d.out = omega (arith, good.lanes, desk.lanes) in
    let allowed : client_allows e.kind d.floor.state.clients ≡ true = (next_is service d.floor.state e n.0 n.1).enabled.client in
    record {
      can = begins_kept service good d.out kept d.floor.state desk.lending e n.0 back n.1 r.count;
      state = state_push service d.floor.history e d.floor.state n.0 runs.runs n.1 ∙ sym later;
      had = record {
        before = kept.clients;
        had = desk.noted;
        allowed = subst (λ (cs : List Entry). client_allows e.kind cs ≡ true) (sym desk.lending.by.clients) allowed;
        after = refl;
      };
      desk = λ noted has. record {
        made = r.made;
        same = desk.same;
        counted = ap (λ (x : ℕ). x + 1) desk.counted ∙ sym (length-append d.floor.history (e ∷ []));
        lanes = length-set d.out e.lane true ∙ desk.lanes;
        lending = subst (IsLending service (set d.out e.lane true) (begun service kept e)) (sym later) (lending_begun service good d.out kept d.floor.state desk.lending e n.0 back long n.1);
        noted = has;
      };
    }

-- the desk once a lane's lines are run
pub desk_run : (service d : Declarations) (handed requests : List Request) (dice : Lcg) (total : ℕ) (places : Places) (kept now : StateValue) (f : FloorValue) (out : List Bool) (lane : ℕ) → d ≡ service → IsService d
    → IsDesk service handed requests dice total places kept f out → is_out out lane ≡ true → lane < service.lanes → now ≡ lines_run d kept lane → IsDesk service handed requests dice total places now f (set out lane false)
desk_run service d handed requests dice total places kept now f out lane same good desk is there run =
    let good_here : IsService service = subst IsService same good in
    let run_here : now ≡ lines_run service kept lane = run ∙ ap (λ (x : Declarations). lines_run x kept lane) same in
    record {
      made = desk.made;
      same = desk.same;
      counted = desk.counted;
      lanes = length-set out lane false ∙ desk.lanes;
      lending =
          subst (λ (x : StateValue). IsLending service (set out lane false) x f.state) (sym run_here)
          (lending_run service good_here out kept f.state desk.lending lane is there (omega (arith, good_here.lanes, desk.lanes)));
      noted = subst (λ (x : StateValue). HasPlaces service requests x.clients places) (sym run_here) desk.noted;
    }

-- what an event needs and keeps, as the code finds it
pub found_begun : (service d : Declarations) (handed requests : List Request) (dice : Lcg) (total : ℕ) (places : Places) (kept : StateValue) (v w : DeskValue) (e : Event) → d ≡ service → IsService d → IsChecked d → v ≡ w
    → v.floor.state ≡ state_of service v.floor.history → IsDesk service handed requests dice total places kept v.floor v.out
    → length w.floor.history < 268431360 → e.lane < service.lanes → is_out w.out e.lane ≡ false → next_event service handed w.floor e.lane ≡ Some e → IsBegun service handed requests dice total places kept v e
found_begun service d handed requests dice total places kept v w e same good checked view state desk few there back is =
    is_begun service handed requests dice total places kept v e (subst IsService same good) (subst IsChecked same checked) state desk
    (subst (λ (x : DeskValue). length x.floor.history < 268431360) (sym view) few) there
    (subst (λ (x : DeskValue). is_out x.out e.lane ≡ false) (sym view) back)
    (subst (λ (x : DeskValue). next_event service handed x.floor e.lane ≡ Some e) (sym view) is)

-- the places follow an event, as the code finds it
pub found_places : (service d f : Declarations) (requests rs : List Request) (kept now : StateValue) (entries : List Entry) (e : Event) (places : Places) → d ≡ service → f ≡ d → rs ≡ requests → now ≡ begun d kept e → entries ≡ now.clients
    → HadPlaces service requests e.kind (begun service kept e).clients places
    → HadPlaces f rs e.kind entries places
found_places service d f requests rs kept now entries e places same whole list is are were =
    let same_service : f ≡ service = whole ∙ same in
    let same_entries : entries ≡ (begun service kept e).clients = are ∙ ap (λ (x : StateValue). x.clients) is ∙ ap (λ (x : Declarations). (begun x kept e).clients) same in
    let one : HadPlaces f requests e.kind (begun service kept e).clients places =
    subst (λ (x : Declarations). HadPlaces x requests e.kind (begun service kept e).clients places) (sym same_service) were in
    let two : HadPlaces f rs e.kind (begun service kept e).clients places =
    subst (λ (x : List Request). HadPlaces f x e.kind (begun service kept e).clients places) (sym list) one in
    subst (λ (x : List Entry). HadPlaces f rs e.kind x places) (sym same_entries) two

pub places_found : (service d f : Declarations) (requests rs : List Request) (kept now : StateValue) (entries : List Entry) (e : Event) (places : Places) → d ≡ service → f ≡ d → rs ≡ requests → now ≡ begun d kept e → entries ≡ now.clients
    → HasPlaces f rs entries places → HasPlaces service requests (begun service kept e).clients places
places_found service d f requests rs kept now entries e places same whole list is are has =
    let same_entries : entries ≡ (begun service kept e).clients = are ∙ ap (λ (x : StateValue). x.clients) is ∙ ap (λ (x : Declarations). (begun x kept e).clients) same in
    let one : HasPlaces service rs entries places = subst (λ (x : Declarations). HasPlaces x rs entries places) (whole ∙ same) has in
    let two : HasPlaces service requests entries places = subst (λ (x : List Request). HasPlaces service x entries places) list one in
    subst (λ (x : List Entry). HasPlaces service requests x places) same_entries two

-- the floor with one more event, as its parts are after the call
pub floor_as : (service : Declarations) (f : FloorValue) (e : Event) (history : List Event) (dice : Lcg) → history ≡ f.history ++ e ∷ [] → state_of service (f.history ++ e ∷ []) ≡ (recorded service f e).state
    → dice ≡ dice_behind service f e.lane → ◌≡◌ {A = FloorValue} (record { history = history; state = state_of service history; dice = dice }) (recorded service f e)
floor_as service f e history dice h s d =
    ap (λ (x : List Event). let r : FloorValue = record { history = x; state = state_of service x; dice = dice } in r) h
    ∙ ap (λ (x : StateValue). let r : FloorValue = record { history = f.history ++ e ∷ []; state = x; dice = dice } in r) s
    ∙ ap (λ (x : Lcg). let r : FloorValue = record { history = f.history ++ e ∷ []; state = (recorded service f e).state; dice = x } in r) d

-- the same desk, by equal parts
pub desk_as : (service : Declarations) (handed requests : List Request) (dice : Lcg) (total count : ℕ) (places : Places) (kept now : StateValue) (f g : FloorValue) (out : List Bool) → count ≡ total → now ≡ kept → g ≡ f
    → IsDesk service handed requests dice total places kept f out → IsDesk service handed requests dice count places now g out
desk_as service handed requests dice total count places kept now f g out t k v desk =
    let one : IsDesk service handed requests dice count places kept f out = subst (λ (x : ℕ). IsDesk service handed requests dice x places kept f out) (sym t) desk in
    let two : IsDesk service handed requests dice count places now f out = subst (λ (x : StateValue). IsDesk service handed requests dice count places x f out) (sym k) one in
    subst (λ (x : FloorValue). IsDesk service handed requests dice count places now x out) (sym v) two

-- a lane that is back stands at its line, and makes its next event, as the code finds it
pub found_stands : (service d : Declarations) (handed requests : List Request) (dice : Lcg) (total : ℕ) (places : Places) (kept : StateValue) (v w : DeskValue) (lane : ℕ) → d ≡ service → IsService d → v ≡ w → IsDesk service handed requests dice total places kept v.floor v.out
    → is_out w.out lane ≡ false → IfSome (frame_at kept lane) (StandsAt d kept)
found_stands service d handed requests dice total places kept v w lane same good view desk back =
    subst (λ (x : Declarations). IfSome (frame_at kept lane) (StandsAt x kept)) (sym same)
    (stands_kept service (subst IsService same good) v.out kept v.floor.state desk.lending lane (subst (λ (x : DeskValue). is_out x.out lane ≡ false) (sym view) back))

pub found_event : (service d : Declarations) (handed requests rs : List Request) (dice now : Lcg) (total : ℕ) (places : Places) (kept : StateValue) (v w : DeskValue) (lane : ℕ) (clock : ℤ) → d ≡ service → IsService d → v ≡ w → IsDesk service handed requests dice total places kept v.floor v.out
    → lane < service.lanes → is_out w.out lane ≡ false → rs ≡ requests → clock ≡ pos (length w.floor.history) → now ≡ w.floor.dice
    → lane_event d rs kept lane clock (pcg32 now).0 (frame_at kept lane) ≡ next_event service handed w.floor lane
found_event service d handed requests rs dice now total places kept v w lane clock same good view desk there back list time drawn =
    ap (λ (x : Declarations). lane_event x rs kept lane clock (pcg32 now).0 (frame_at kept lane)) same
    ∙ ap (λ (x : List Request). lane_event service x kept lane clock (pcg32 now).0 (frame_at kept lane)) (list ∙ desk.same)
    ∙ ap (λ (x : ℤ). lane_event service handed kept lane x (pcg32 now).0 (frame_at kept lane)) (time ∙ ap (λ (x : DeskValue). pos (length x.floor.history)) (sym view))
    ∙ ap (λ (x : Lcg). lane_event service handed kept lane (pos (length v.floor.history)) (pcg32 x).0 (frame_at kept lane)) (drawn ∙ ap (λ (x : DeskValue). x.floor.dice) (sym view))
    ∙ event_kept service (subst IsService same good) v.out kept v.floor.state desk.lending handed lane (pos (length v.floor.history)) (pcg32 v.floor.dice).0 there (subst (λ (x : DeskValue). is_out x.out lane ≡ false) (sym view) back)
    ∙ ap (λ (x : DeskValue). next_event service handed x.floor lane) view
