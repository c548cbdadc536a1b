-- Each block runs on from the state that node 1 executes.
use Rattle.std.proofs.Common.{◌≡◌, ℕ, zero, suc, ◌+◌, ◌<◌, ◌≤◌, List, [], ◌∷◌, ◌++◌, length, replicate, refl, sym, ◌∙◌, ap, subst, arith, append_assoc, append-nil, length-append}
use Rattle.std.specs.Prelude.{◌^◌, Option, Some, None, IsSome, slice_index_or}
use Rattle.std.specs.List.{All}
use Rattle.std.proofs.lemmas.List.{take-append-le, take_all}
use Rattle.std.proofs.lemmas.List.Elements.{All-nil, All-cons, All-take, All-weaker}
use Rattle.rex_syntax.specs.declared.request.Request.{Request}
use Rattle.rex_syntax.specs.declared.service.Declarations.{Declarations}
use Rattle.rex_event.specs.declared.event.Event.{Event}
use Rattle.rex_event.specs.Cuts.{AreNumbered, count_at, counted}
use Rattle.rex_state.specs.Value.{StateValue}
use Rattle.rex_state.specs.Start.{start_of}
use Rattle.rex_state.specs.Machine.{no_lane, run}
use Rattle.rex_state.specs.Counts.{AreCounted, RunsCountOn, counts_of}
use Rattle.rex_state.proofs.Counts.{count_is, counted_rise}
use Rattle.rex_state.proofs.Run.{run-then}
use Rattle.rex_cluster.specs.Values.{Value, trace_of, state_after}
use Rattle.rex_cluster.specs.Lanes.{live_state}
use Rattle.rex_cluster.specs.World.{World as ModelWorld, node_at, beginning}
use Rattle.rex_cluster.specs.Takes.{after_doings}
use Rattle.rex_cluster.proofs.Replies.{run_split, state_is}
use Rattle.rex_steady.specs.Schedule.{agreement, agreements, election, live_doings, takes}
use Rattle.rex_steady.specs.Blocks.{IsBlock, joined, values_of}
use Rattle.rex_steady.specs.Steady.{IsSteady, LeadersAreSteady, agreed_world, live_world}
use Rattle.rex_world.specs.declared.world.World.{World}
use Rattle.rex_world.specs.Kept.{IsRunning}
use Rattle.rex_world.specs.World.{nodes_of, world_of}
use Rattle.rex_lead.specs.Doing.{Did, IsElected, IsNext}
use Rattle.rex_lead.specs.Lead.{CanBeLed, blocks_of}
use Rattle.rex_lead.proofs.Blocks.{are_blocks, few_blocks, joined_blocks, no_blocks, rest_all}
use Rattle.rex_lead.proofs.Doings.{after_both, agreements_next, did_as, did_both}

-- ---- the election

pub is_elected : {S : Type 0} (service : Declarations) (before after : World S) (n : ℕ) → world_of service before ≡ beginning n → n ≡ nodes_of before → Did service before after election → IsElected service after
is_elected service before after n fresh many did = record {
  world =
      did.world
      ∙ (ap (λ (w : ModelWorld). after_doings service before.requests before.seed (nodes_of before) w election) (fresh ∙ ap beginning many)
      ∙ (ap (λ (m : ℕ). after_doings service before.requests before.seed m (beginning m) election) (sym did.same.nodes)
      ∙ (ap (λ (requests : List Request). after_doings service requests before.seed (nodes_of after) (beginning (nodes_of after)) election) (sym did.same.requests)
      ∙ ap (λ (seed : ℕ). after_doings service after.requests seed (nodes_of after) (beginning (nodes_of after)) election) (sym did.same.seed))));
}

-- ---- the whole way

-- a world that begins with what a scenario has comes to that world of the model
pub led_is : {S : Type 0} (service : Declarations) (before after : World S) (requests : List Request) (seed n : ℕ) (blocks : List (List Event)) → world_of service before ≡ beginning n → before.requests ≡ requests → before.seed ≡ seed
    → nodes_of before ≡ n → Did service before after (live_doings n blocks) → world_of service after ≡ live_world service requests seed n blocks
led_is service before after requests seed n blocks fresh requests_are seed_is many did =
    did.world
    ∙ (ap (λ (w : ModelWorld). after_doings service before.requests before.seed (nodes_of before) w (live_doings n blocks)) fresh
    ∙ (ap (λ (m : ℕ). after_doings service before.requests before.seed m (beginning n) (live_doings n blocks)) many
    ∙ (ap (λ (rs : List Request). after_doings service rs before.seed n (beginning n) (live_doings n blocks)) requests_are
    ∙ ap (λ (k : ℕ). after_doings service requests k n (beginning n) (live_doings n blocks)) seed_is)))

-- ---- indices

pub first_all : {X : Type 0} (P : X → Type 0) (xs ys : List X) → All P (xs ++ ys) → All P xs
first_all P xs ys h = subst (All P) (take-append-le (length xs) xs ys (omega arith) ∙ take_all (length xs) xs (omega arith)) (All-take P (length xs) (xs ++ ys) h)

-- events that are numbered on have indices below the greatest count and their number together
below_all : (most : ℕ) (counts : List ℕ) (es : List Event) → AreNumbered counts es → ((lane : ℕ) → count_at counts lane + length es ≤ most) → All (λ (e : Event). e.index < most) es
below_all most counts [] h room = All-nil (λ (e : Event). e.index < most)
below_all most counts (e ∷ es) h room =
    let one = counted_rise counts (e ∷ []) (h.0, h.1, tt) in
    All-cons (λ (e : Event). e.index < most) e es (let r = room e.lane in let i = h.1 in omega (arith, r, i))
    (below_all most (counted counts e) es h.2 (λ lane. omega (arith, room lane, one.most lane)))

idle_done : (n lane : ℕ) → (slice_index_or (replicate n no_lane) lane no_lane).done ≡ 0
idle_done zero lane = refl
idle_done (suc n) zero = refl
idle_done (suc n) (suc lane) = idle_done n lane

-- so those of a history that runs from the start are below its length
history_counted : (service : Declarations) (history : List Event) (t : StateValue) → RunsCountOn → run service (start_of service) history ≡ Some t → length history ≤ 268431360 → All (λ (e : Event). e.index + 1 < 2 ^ 32) history
history_counted service history t law runs few =
    All-weaker (λ (e : Event). e.index < 268431360) (λ (e : Event). e.index + 1 < 2 ^ 32) (λ e h. omega (arith, h)) history
    (below_all 268431360 (counts_of (start_of service)) history (law service (start_of service) t history runs).numbered
    (λ lane. let z : count_at (counts_of (start_of service)) lane ≡ 0 = count_is (start_of service) lane ∙ idle_done service.lanes lane in omega (arith, z, few)))

-- so are those of a part of it
part_counted : (service : Declarations) (history es part fs : List Event) → RunsCountOn → CanBeLed service history → history ≡ es ++ (part ++ fs) → AreCounted part
part_counted service history es part fs counts led is = go (run service (start_of service) history) refl led.runs
  where
    go : (o : Option StateValue) → run service (start_of service) history ≡ o → IsSome o → AreCounted part
    go (Some t) e h = record {
      each =
          first_all (λ (e : Event). e.index + 1 < 2 ^ 32) part fs
          (rest_all (λ (e : Event). e.index + 1 < 2 ^ 32) history es (part ++ fs) is (history_counted service history t counts e led.few));
    }
    go None e h = absurd cc

-- ---- runs

-- where a list of events runs its first ones do
first_runs : (service : Declarations) (s : StateValue) (es fs : List Event) → IsSome (run service s (es ++ fs)) → IsSome (run service s es)
first_runs service s es fs h = go (run service s (es ++ fs)) refl h
  where
    go : (o : Option StateValue) → run service s (es ++ fs) ≡ o → IsSome o → IsSome (run service s es)
    go (Some t) e k = subst IsSome (sym (run_split service s t es fs e).1) refl
    go None e k = absurd cc

-- ---- lists of blocks

joined_both : (xs ys : List (List Event)) → joined (xs ++ ys) ≡ joined xs ++ joined ys
joined_both [] ys = refl
joined_both (x ∷ xs) ys = ap (λ (es : List Event). x ++ es) (joined_both xs ys) ∙ sym (append_assoc x (joined xs) (joined ys))

-- ---- the blocks of a list with a first one: all but the latest, and the latest

abbrev pub before : List Event → List (List Event) → List (List Event)
before first [] = []
before first (b ∷ bs) = first ∷ before b bs

abbrev pub latest : List Event → List (List Event) → List Event
latest first [] = first
latest first (b ∷ bs) = latest b bs

pub before_latest : (first : List Event) (bs : List (List Event)) → before first bs ++ latest first bs ∷ [] ≡ first ∷ bs
before_latest first [] = refl
before_latest first (b ∷ bs) = ap (λ (cs : List (List Event)). first ∷ cs) (before_latest b bs)

pub before_next : (first next : List Event) (bs : List (List Event)) → before first (bs ++ next ∷ []) ≡ first ∷ bs
before_next first next [] = refl
before_next first next (b ∷ bs) = ap (λ (cs : List (List Event)). first ∷ cs) (before_next b next bs)

pub latest_next : (first next : List Event) (bs : List (List Event)) → latest first (bs ++ next ∷ []) ≡ next
latest_next first next [] = refl
latest_next first next (b ∷ bs) = latest_next b next bs

-- ---- to where blocks lead from the start

joined_next : (bs : List (List Event)) (b : List Event) → joined (bs ++ b ∷ []) ≡ joined bs ++ b
joined_next bs b = joined_both bs (b ∷ []) ∙ ap (λ (es : List Event). joined bs ++ es) (append-nil b)

-- one more block leads on
pub reached_next : (service : Declarations) (bs : List (List Event)) (b : List Event) (s t : StateValue) → run service (start_of service) (joined bs) ≡ Some s → run service s b ≡ Some t → run service (start_of service) (joined (bs ++ b ∷ [])) ≡ Some t
reached_next service bs b s t reached runs = ap (run service (start_of service)) (joined_next bs b) ∙ (run-then service (start_of service) s (joined bs) b reached ∙ runs)

module _ (service : Declarations) (history rest : List Event) (so_far : List (List Event)) (left : so_far ++ blocks_of rest ≡ blocks_of history) where
  history_is : history ≡ joined so_far ++ rest
  history_is = sym (joined_blocks history) ∙ (ap joined (sym left) ∙ (joined_both so_far (blocks_of rest) ∙ ap (λ (es : List Event). joined so_far ++ es) (joined_blocks rest)))

  few_so_far : length history ≤ 268431360 → length so_far ≤ 65535
  few_so_far few = let e : length (so_far ++ blocks_of rest) ≡ length (blocks_of history) = ap length left in omega (arith, e, few_blocks history few, length-append so_far (blocks_of rest))

  -- what is left begins with a block, which runs on from where the blocks so far led
  module _ (counts : RunsCountOn) (led : CanBeLed service history) (s : StateValue) (reached : run service (start_of service) (joined so_far) ≡ Some s) (block after : List Event) (is : rest ≡ block ++ after) where
    parted : history ≡ joined so_far ++ (block ++ after)
    parted = history_is ∙ ap (λ (es : List Event). joined so_far ++ es) is

    pub block_runs : IsSome (run service s block)
    block_runs = first_runs service s block after (subst IsSome (ap (run service (start_of service)) parted ∙ run-then service (start_of service) s (joined so_far) (block ++ after) reached) led.runs)

    pub block_counted : AreCounted block
    block_counted = part_counted service history (joined so_far) block after counts led parted

-- ---- the next block

module _ {S : Type 0} (service : Declarations) (first now : World S) (history rest block : List Event) (so_far : List (List Event)) (s : StateValue)
    (leads : LeadersAreSteady) (counts : RunsCountOn) (running : IsRunning service first) (some : 1 ≤ nodes_of first) (elected : IsElected service first) (led : CanBeLed service history)
    (did : Did service first now (agreements so_far)) (left : (so_far ++ block ∷ []) ++ blocks_of rest ≡ blocks_of history) (reached : run service (start_of service) (joined (so_far ++ block ∷ [])) ≡ Some s) where
  world_is : world_of service now ≡ agreed_world service first.requests first.seed (nodes_of first) so_far
  world_is =
      did.world
      ∙ (ap (λ (w : ModelWorld). after_doings service first.requests first.seed (nodes_of first) w (agreements so_far)) elected.world
      ∙ sym (after_both service first.requests first.seed (nodes_of first) (beginning (nodes_of first)) election (agreements so_far)))

  -- the state after the blocks so far, from which the block leads on
  parts : (u : StateValue) × (run service (start_of service) (joined so_far) ≡ Some u) × (run service u block ≡ Some s)
  parts = run_split service (start_of service) s (joined so_far) block (ap (run service (start_of service)) (sym (joined_next so_far block)) ∙ reached)

  all_blocks : All IsBlock (so_far ++ (block ∷ [] ++ blocks_of rest))
  all_blocks = subst (All IsBlock) (sym left ∙ append_assoc so_far (block ∷ []) (blocks_of rest)) (are_blocks history led.begins led.typed)

  few : length so_far ≤ 65535
  few = omega (arith, few_so_far service history rest (so_far ++ block ∷ []) left led.few, length-append so_far (block ∷ []))

  steady : IsSteady service first.requests first.seed (nodes_of first) so_far parts.0
  steady =
      leads service first.requests first.seed (nodes_of first) so_far parts.0 some running.few running.service_is running.checked running.requests
      (first_all IsBlock so_far (block ∷ [] ++ blocks_of rest) all_blocks) few parts.1

  live_is : live_state service (node_at (world_of service now).nodes 1) ≡ parts.0
  live_is =
      ap (λ (w : ModelWorld). live_state service (node_at w.nodes 1)) world_is
      ∙ (ap (λ (vs : List Value). state_after service (trace_of vs ++ (node_at (agreed_world service first.requests first.seed (nodes_of first) so_far).nodes 1).work.live)) steady.agreed.leader.knows
      ∙ (ap (λ (es : List Event). state_after service (trace_of (values_of service so_far) ++ es)) steady.agreed.leader.no_live
      ∙ (ap (state_after service) (append-nil (trace_of (values_of service so_far)) ∙ steady.trace)
      ∙ state_is service (joined so_far) parts.0 parts.1)))

  block_parted : history ≡ joined so_far ++ (block ++ rest)
  block_parted =
      history_is service history rest (so_far ++ block ∷ []) left
      ∙ (ap (λ (es : List Event). es ++ rest) (joined_next so_far block) ∙ append_assoc (joined so_far) block rest)

  pub is_next : IsNext service now block s
  is_next = record {
    runs = subst (λ (u : StateValue). run service u block ≡ Some s) (sym live_is) parts.2;
    counted = part_counted service history (joined so_far) block rest counts led block_parted;
  }

-- ---- a first block and others, of which the latest one is still to be agreed on

module _ (history rest first : List Event) (blocks : List (List Event)) (left : (first ∷ blocks) ++ blocks_of rest ≡ blocks_of history) where
  pub enough : length blocks + 1 ≤ length (blocks_of history)
  enough = let e : suc (length (blocks ++ blocks_of rest)) ≡ length (blocks_of history) = ap length left in omega (arith, e, length-append blocks (blocks_of rest))

  pub whole_history : length rest ≡ 0 → first ∷ blocks ≡ blocks_of history
  whole_history none = sym (append-nil (first ∷ blocks)) ∙ (ap (λ (bs : List (List Event)). (first ∷ blocks) ++ bs) (sym (no_blocks rest none)) ∙ left)

module _ {S : Type 0} (service : Declarations) (start now : World S) (history rest first block : List Event) (blocks : List (List Event)) (s : StateValue)
    (did : Did service start now (agreements (before first blocks))) (is : block ≡ latest first blocks) where
  with_block : before first blocks ++ block ∷ [] ≡ first ∷ blocks
  with_block = ap (λ (b : List Event). before first blocks ++ b ∷ []) is ∙ before_latest first blocks

  pub latest_is_next : LeadersAreSteady → RunsCountOn → IsRunning service start → 1 ≤ nodes_of start → IsElected service start → CanBeLed service history
      → (first ∷ blocks) ++ blocks_of rest ≡ blocks_of history → run service (start_of service) (joined (first ∷ blocks)) ≡ Some s → IsNext service now block s
  latest_is_next leads counts running some elected led left reached =
      is_next service start now history rest block (before first blocks) s leads counts running some elected led did
      (ap (λ (bs : List (List Event)). bs ++ blocks_of rest) with_block ∙ left) (ap (λ (bs : List (List Event)). run service (start_of service) (joined bs)) with_block ∙ reached)

  -- once it is agreed on all of them are
  pub agreed_more : (later : World S) → Did service now later (takes block ++ agreement) → Did service start later (agreements (first ∷ blocks))
  agreed_more later h =
      did_as service start later (agreements (before first blocks) ++ (takes block ++ agreement)) (agreements (first ∷ blocks)) (sym (agreements_next (before first blocks) block) ∙ ap agreements with_block)
      (did_both service start now later (agreements (before first blocks)) (takes block ++ agreement) did h)
