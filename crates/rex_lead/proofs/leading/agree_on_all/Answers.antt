use Rattle.std.proofs.Common.{◌≡◌, ℕ, suc, ◌≤◌, ◌++◌, ◌∷◌, [], List, map, length, min, sym, ap, refl, ◌∙◌, subst, arith, append-nil, Bor}
use Rattle.std.specs.List.{All}
use Rattle.std.specs.Slice.Iter.{chunks_rest, chunks_size}
use Rattle.std.specs.declared.slice.Chunks.{Chunks}
use Rattle.std.proofs.lemmas.List.{map-append, length-map, length_push}
use Rattle.rex_event.specs.declared.event.Event.{Event}
use Rattle.rex_state.specs.Start.{start_of}
use Rattle.rex_state.specs.Machine.{run}
use Rattle.rex_cluster.specs.Takes.{BeginsInRange}
use Rattle.rex_steady.specs.Blocks.{joined}
use Rattle.rex_steady.specs.Schedule.{agreements}
use Rattle.rex_world.specs.declared.world.World.{World}
use Rattle.rex_lead.specs.Doing.{Did}
use Rattle.rex_lead.specs.Lead.{blocks_of}
use Rattle.rex_lead.proofs.Blocks.{left_next, rest_all}
use Rattle.rex_lead.proofs.Doings.{did_as, did_none}
use Rattle.rex_lead.proofs.Next.{agreed_more, before, before_next, block_counted, block_runs, enough, first_all, latest, latest_is_next, latest_next, reached_next, whole_history}
use Rattle.rex_lead.proofs.leading.agree_on_all.Goals as goal

pub begin-requires-clause-runs : goal.begin-requires-clause-runs
begin-requires-clause-runs g c =
    block_runs c.args.svc.now c.args.history.now c.args.history.now [] refl c.runs_count_on.ensures c.requires.led (start_of c.args.svc.now) refl c.in-Some.first.now (chunks_rest c.next.new.self)
    (sym c.chunks-blocks.ensures.rest ∙ c.in-Some.ensures.steps.1.0)

pub begin-requires-clause-counted : goal.begin-requires-clause-counted
begin-requires-clause-counted g c =
    block_counted c.args.svc.now c.args.history.now c.args.history.now [] refl c.runs_count_on.ensures c.requires.led (start_of c.args.svc.now) refl c.in-Some.first.now (chunks_rest c.next.new.self)
    (sym c.chunks-blocks.ensures.rest ∙ c.in-Some.ensures.steps.1.0)

pub loop-next-init : goal.loop-next-init
loop-next-init g c =
    let first = c.in-Some.first.now in
    let steps = c.in-Some.ensures.steps in
    let all : All BeginsInRange (chunks_rest c.chunks-blocks.result) = subst (All BeginsInRange) (sym c.chunks-blocks.ensures.rest) c.requires.led.begins in
    let long : length first ≡ min 4096 (length (chunks_rest c.chunks-blocks.result)) =
    subst (λ (n : ℕ). length first ≡ min n (length (chunks_rest c.chunks-blocks.result))) c.chunks-blocks.ensures.size steps.1.1 in
    record {
      did = subst (λ (w : World _). Did c.args.svc.now c.args.world w []) (sym c.in_ok-leading.ensures.world) (did_none c.args.svc.now c.args.world c.requires.running);
      done = omega (arith, ap (λ (w : World _). w.done) c.in_ok-leading.ensures.world);
      size = ap (λ (it : Chunks Event). chunks_size it) c.into_iter-next-iterator.ensures.into_iter_gives ∙ (steps.0 ∙ c.chunks-blocks.ensures.size);
      left =
          ap (λ (it : Chunks Event). (first ∷ []) ++ blocks_of (chunks_rest it)) c.into_iter-next-iterator.ensures.into_iter_gives
          ∙ left_next c.args.history.now (chunks_rest c.chunks-blocks.result) (chunks_rest c.next.new.self) [] first steps.1.0 long steps.1.2 (ap blocks_of c.chunks-blocks.ensures.rest);
      latest_is = refl;
      own = first_all BeginsInRange first (chunks_rest c.next.new.self) (subst (All BeginsInRange) steps.1.0 all);
      begins =
          subst (λ (it : Chunks Event). All BeginsInRange (chunks_rest it)) (sym c.into_iter-next-iterator.ensures.into_iter_gives)
          (rest_all BeginsInRange (chunks_rest c.chunks-blocks.result) first (chunks_rest c.next.new.self) steps.1.0 all);
      reached = ap (run c.args.svc.now (start_of c.args.svc.now)) (append-nil first) ∙ c.in_ok-leading.ensures.runs;
      sound = c.in_ok-leading.ensures.sound;
    }

pub agree_beside-requires-clause-running : goal.agree_beside-requires-clause-running
agree_beside-requires-clause-running g c κs within = c.loop-next.invariant.did.running

pub agree_beside-requires-clause-there : goal.agree_beside-requires-clause-there
agree_beside-requires-clause-there g c κs within = subst (λ (n : ℕ). 1 ≤ n) (sym c.loop-next.invariant.did.same.nodes) c.requires.there

pub agree_beside-requires-clause-begins : goal.agree_beside-requires-clause-begins
agree_beside-requires-clause-begins g c κs within = c.loop-next.invariant.own

pub agree_beside-requires-clause-next : goal.agree_beside-requires-clause-next
agree_beside-requires-clause-next g c κs within =
    latest_is_next c.args.svc.now c.args.world c.loop-next.leading.world c.args.history.now (chunks_rest c.loop-next.next-iterator) c.in-Some.first.now c.loop-next.block.now (map (λ b. b.now) c.loop-next.yielded) c.loop-next.leading.state
    c.loop-next.invariant.did c.loop-next.invariant.latest_is c.leaders_are_steady.ensures c.runs_count_on.ensures c.requires.running c.requires.there c.requires.elected c.requires.led c.loop-next.invariant.left c.loop-next.invariant.reached

pub agree_beside-requires-clause-count : goal.agree_beside-requires-clause-count
agree_beside-requires-clause-count g c κs within =
    omega (
      arith,
      c.requires.count,
      c.loop-next.invariant.done,
      length-map c.loop-next.yielded (λ (b : Bor (List Event)). b.now),
      enough c.args.history.now (chunks_rest c.loop-next.next-iterator) c.in-Some.first.now (map (λ b. b.now) c.loop-next.yielded) c.loop-next.invariant.left,
    )

pub agree_beside-requires-clause-sound : goal.agree_beside-requires-clause-sound
agree_beside-requires-clause-sound g c κs within = c.loop-next.invariant.sound

pub agree_beside-requires-clause-runs : goal.agree_beside-requires-clause-runs
agree_beside-requires-clause-runs g c κs within =
    block_runs c.args.svc.now c.args.history.now (chunks_rest c.loop-next.next-iterator) (c.in-Some.first.now ∷ map (λ b. b.now) c.loop-next.yielded) c.loop-next.invariant.left c.runs_count_on.ensures c.requires.led
    c.loop-next.leading.state c.loop-next.invariant.reached c.in-Some-next.next.now (chunks_rest c.next-in-loop-next.new.self) c.in-Some-next.ensures.steps.1.0

pub agree_beside-requires-clause-counted : goal.agree_beside-requires-clause-counted
agree_beside-requires-clause-counted g c κs within =
    block_counted c.args.svc.now c.args.history.now (chunks_rest c.loop-next.next-iterator) (c.in-Some.first.now ∷ map (λ b. b.now) c.loop-next.yielded) c.loop-next.invariant.left c.runs_count_on.ensures c.requires.led
    c.loop-next.leading.state c.loop-next.invariant.reached c.in-Some-next.next.now (chunks_rest c.next-in-loop-next.new.self) c.in-Some-next.ensures.steps.1.0

pub loop-next-preserved : goal.loop-next-preserved
loop-next-preserved g c =
    let first = c.in-Some.first.now in
    let next = c.in-Some-next.next.now in
    let rest = chunks_rest c.loop-next.next-iterator in
    let after = chunks_rest c.next-in-loop-next.new.self in
    let steps = c.in-Some-next.ensures.steps in
    let blocks : List (List Event) = map (λ b. b.now) c.loop-next.yielded in
    let more : map (λ b. b.now) (c.loop-next.yielded ++ c.in-Some-next.next ∷ []) ≡ blocks ++ next ∷ [] = map-append (λ (b : Bor (List Event)). b.now) c.loop-next.yielded (c.in-Some-next.next ∷ []) in
    let long : length next ≡ min 4096 (length rest) = subst (λ (n : ℕ). length next ≡ min n (length rest)) c.loop-next.invariant.size steps.1.1 in
    record {
      did =
          did_as c.args.svc.now c.args.world c.in_ok-leading-2.leading.world (agreements (first ∷ blocks)) _ (sym (ap (λ (bs : List (List Event)). agreements (before first bs)) more ∙ ap agreements (before_next first next blocks)))
          (agreed_more c.args.svc.now c.args.world c.loop-next.leading.world c.args.history.now rest first c.loop-next.block.now blocks c.loop-next.leading.state c.loop-next.invariant.did c.loop-next.invariant.latest_is
          c.in_ok-leading-2.leading.world c.in_ok-leading-2.ensures.did);
      done = omega (arith, c.in_ok-leading-2.ensures.done, c.loop-next.invariant.done, length_push c.loop-next.yielded c.in-Some-next.next);
      size = steps.0 ∙ c.loop-next.invariant.size;
      left =
          ap (λ (bs : List (List Event)). (first ∷ bs) ++ blocks_of after) more
          ∙ left_next c.args.history.now rest after (first ∷ blocks) next steps.1.0 long steps.1.2 c.loop-next.invariant.left;
      latest_is = sym (ap (latest first) more ∙ latest_next first next blocks);
      own = first_all BeginsInRange next after (subst (All BeginsInRange) steps.1.0 c.loop-next.invariant.begins);
      begins = rest_all BeginsInRange rest next after steps.1.0 c.loop-next.invariant.begins;
      reached =
          ap (λ (bs : List (List Event)). run c.args.svc.now (start_of c.args.svc.now) (joined (first ∷ bs))) more
          ∙ reached_next c.args.svc.now (first ∷ blocks) next c.loop-next.leading.state c.in_ok-leading-2.leading.state c.loop-next.invariant.reached c.in_ok-leading-2.ensures.runs;
      sound = c.in_ok-leading-2.ensures.sound;
    }

pub agree_on-requires-clause-running : goal.agree_on-requires-clause-running
agree_on-requires-clause-running g c = c.loop-next.invariant.did.running

pub agree_on-requires-clause-there : goal.agree_on-requires-clause-there
agree_on-requires-clause-there g c = subst (λ (n : ℕ). 1 ≤ n) (sym c.loop-next.invariant.did.same.nodes) c.requires.there

pub agree_on-requires-clause-begins : goal.agree_on-requires-clause-begins
agree_on-requires-clause-begins g c = c.loop-next.invariant.own

pub agree_on-requires-clause-next : goal.agree_on-requires-clause-next
agree_on-requires-clause-next g c =
    latest_is_next c.args.svc.now c.args.world c.loop-next.leading.world c.args.history.now (chunks_rest c.loop-next.next-iterator) c.in-Some.first.now c.loop-next.block.now (map (λ b. b.now) c.loop-next.yielded) c.loop-next.leading.state
    c.loop-next.invariant.did c.loop-next.invariant.latest_is c.leaders_are_steady.ensures c.runs_count_on.ensures c.requires.running c.requires.there c.requires.elected c.requires.led c.loop-next.invariant.left c.loop-next.invariant.reached

pub agree_on-requires-clause-count : goal.agree_on-requires-clause-count
agree_on-requires-clause-count g c =
    omega (
      arith,
      c.requires.count,
      c.loop-next.invariant.done,
      length-map c.loop-next.yielded (λ (b : Bor (List Event)). b.now),
      enough c.args.history.now (chunks_rest c.loop-next.next-iterator) c.in-Some.first.now (map (λ b. b.now) c.loop-next.yielded) c.loop-next.invariant.left,
    )

pub returns-clause-did : goal.returns-clause-did
returns-clause-did g c =
    did_as c.args.svc.now c.args.world c.agree_on.new.world (agreements (c.in-Some.first.now ∷ map (λ b. b.now) c.loop-next.yielded)) (agreements (blocks_of c.args.history.now))
    (ap agreements (whole_history c.args.history.now (chunks_rest c.loop-next.next-iterator) c.in-Some.first.now (map (λ b. b.now) c.loop-next.yielded) c.loop-next.invariant.left c.in-None.ensures.steps.1.0))
    (agreed_more c.args.svc.now c.args.world c.loop-next.leading.world c.args.history.now (chunks_rest c.loop-next.next-iterator) c.in-Some.first.now c.loop-next.block.now (map (λ b. b.now) c.loop-next.yielded) c.loop-next.leading.state
    c.loop-next.invariant.did c.loop-next.invariant.latest_is c.agree_on.new.world c.in_ok-agree_on.ensures.did)

pub returns-clause-done : goal.returns-clause-done
returns-clause-done g c =
    let all : suc (length (map (λ (b : Bor (List Event)). b.now) c.loop-next.yielded)) ≡ length (blocks_of c.args.history.now) =
    ap length (whole_history c.args.history.now (chunks_rest c.loop-next.next-iterator) c.in-Some.first.now (map (λ b. b.now) c.loop-next.yielded) c.loop-next.invariant.left c.in-None.ensures.steps.1.0) in
    omega (arith, c.in_ok-agree_on.ensures.done, c.loop-next.invariant.done, length-map c.loop-next.yielded (λ (b : Bor (List Event)). b.now), all)
