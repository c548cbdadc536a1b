-- What clients have seen only rises, a release raises it to the number of the value with the reply, and a client is told as much as it has seen.
use Rattle.std.proofs.Common.{◌≡◌, ℕ, zero, suc, ◌<◌, ◌≤◌, max, Bool, true, false, cond, List, [], ◌∷◌, length, get_or, take, Option, Some, None, refl, sym, ◌∙◌, ap, subst, inl, inr, arith, le_trans, le_refl, eq-eqb, ltb, ltb-false}
use Rattle.std.specs.Prelude.{ℤ, slice_set}
use Rattle.std.proofs.Math.Nat.{le-max_left, le-max_right}
use Rattle.std.proofs.lemmas.List.{get_or-set_same, length-set}
use Rattle.rex_syntax.specs.declared.request.Request.{Request}
use Rattle.rex_syntax.specs.declared.service.Declarations.{Declarations}
use Rattle.rex_report.specs.declared.effect.Effect.{Effect}
use Rattle.rex_report.specs.declared.effect.Effect.TheVariants as effect
use Rattle.rex_reads.specs.declared.seen.Read.{Read as Answer}
use Rattle.rex_reads.specs.declared.seen.Read.TheVariants as answer
use Rattle.rex_reads.specs.Reads.{answered, seen_after}
use Rattle.rex_schedule.specs.declared.scenario.ScheduleLine.{ScheduleLine}
use Rattle.rex_schedule.specs.declared.scenario.ScheduleLine.TheVariants as line
use Rattle.rex_cluster.specs.Records.{known, offset}
use Rattle.rex_cluster.specs.Quorum.{IsNode}
use Rattle.rex_cluster.specs.Node.{Message, is_active, kind_of}
use Rattle.rex_cluster.specs.Calls.{begin, receive}
use Rattle.rex_cluster.specs.Values.{Value, trace_of, state_after, service_of}
use Rattle.rex_cluster.specs.Lanes.{Here, CallHere}
use Rattle.rex_cluster.specs.World.{World, Row, node_at, put, after, only, if_up, at_node, read_row, first_told, with_handed, deliver_found, message_at, step, steps_of, steps, row, after_lines}
use Rattle.rex_cluster.specs.Reading.{last_reply, stamp_at, released_to, seen_by_release, seen_by_releases, value_in, read_effect}
use Rattle.rex_cluster.specs.Agreed.{known_at}
use Rattle.rex_cluster.specs.Releases.{IsAmong, receiver_of, node_in}
use Rattle.rex_cluster.specs.Takes.{Doing, does, after_doings}
use Rattle.rex_cluster.specs.Takes.Doing.{Does, Takes}
use Rattle.rex_safety.specs.Seeing.{IsTold}
use Rattle.rex_cluster.proofs.Saying.{quiet_one}
use Rattle.rex_safety.proofs.Lawful.{of_step}
use Rattle.rex_safety.proofs.Nodes.{node_put}
use Rattle.rex_safety.proofs.Moments.{read_quiet}

-- ---- what clients have seen only rises

pub record Rises (seen more : List ℕ) : Type 0 where
  pub long : length more ≡ length seen
  pub at : (client : ℕ) → get_or seen client 0 ≤ get_or more client 0

rises_same : (seen : List ℕ) → Rises seen seen
rises_same seen = record { long = refl; at = λ client. le_refl _ }

pub rises_trans : (a b c : List ℕ) → Rises a b → Rises b c → Rises a c
rises_trans a b c g h = record { long = h.long ∙ g.long; at = λ client. le_trans (g.at client) (h.at client) }

-- one number becomes another one that isn't less
set_rises : (seen : List ℕ) (client number : ℕ) → get_or seen client 0 ≤ number → Rises seen (slice_set seen client number)
set_rises seen client number l = record { long = length-set seen client number; at = λ other. go seen client other l }
  where
    go : (seen : List ℕ) (client other : ℕ) → get_or seen client 0 ≤ number → get_or seen other 0 ≤ get_or (slice_set seen client number) other 0
    go [] client other l = le_refl _
    go (x ∷ xs) zero zero l = l
    go (x ∷ xs) zero (suc other) l = le_refl _
    go (x ∷ xs) (suc client) zero l = le_refl _
    go (x ∷ xs) (suc client) (suc other) l = go xs client other l

release_rises : (stamp : ℕ → ℕ) (o : Option ℕ) (seen : List ℕ) → Rises seen (seen_by_release stamp o seen)
release_rises stamp None seen = rises_same seen
release_rises stamp (Some client) seen = set_rises seen client (max (get_or seen client 0) (stamp client)) (le-max_left (get_or seen client 0) (stamp client))

releases_rise : (stamp : ℕ → ℕ) (es : List Effect) (seen : List ℕ) → Rises seen (seen_by_releases stamp es seen)
releases_rise stamp [] seen = rises_same seen
releases_rise stamp (e ∷ es) seen =
    rises_trans seen (seen_by_release stamp (released_to e) seen) (seen_by_releases stamp es (seen_by_release stamp (released_to e) seen)) (release_rises stamp (released_to e) seen)
    (releases_rise stamp es (seen_by_release stamp (released_to e) seen))

-- a release raises its client's number to its stamp
releases_have : (stamp : ℕ → ℕ) (es : List Effect) (seen : List ℕ) (c s : ℕ) (x : ℤ) → IsAmong (effect.Released c s x) es → c < length seen → stamp c ≤ get_or (seen_by_releases stamp es seen) c 0
releases_have stamp [] seen c s x h l = absurd h
releases_have stamp (e ∷ es) seen c s x (inl h) l =
    le_trans
    (subst (λ (o : Option ℕ). stamp c ≤ get_or (seen_by_release stamp o seen) c 0) (sym (ap released_to h))
    (subst (λ k. stamp c ≤ k) (sym (get_or-set_same seen c (max (get_or seen c 0) (stamp c)) 0 l)) (le-max_right (get_or seen c 0) (stamp c))))
    ((releases_rise stamp es (seen_by_release stamp (released_to e) seen)).at c)
releases_have stamp (e ∷ es) seen c s x (inr h) l =
    releases_have stamp es (seen_by_release stamp (released_to e) seen) c s x h (subst (λ k. c < k) (sym (release_rises stamp (released_to e) seen).long) l)

-- ---- what a client is told

-- a node that tells a value is up, and has replayed as many deltas as the client has seen or more
pub record ToldBy (up : Bool) (replayed : ℕ) (value_there : ℤ) (seen : ℕ) (value : ℤ) (number : ℕ) : Type 0 where
  pub is_up : up ≡ true
  pub number_is : number ≡ replayed
  pub value_is : value ≡ value_there
  pub enough : seen ≤ replayed

abbrev value_of : Answer → ℤ → ℤ
value_of (answer.Value value number) other = value
value_of _ other = other

abbrev number_of : Answer → ℕ
number_of (answer.Value value number) = number
number_of _ = 0

pub told_by : (up leads : Bool) (replayed : ℕ) (value_there : ℤ) (seen : ℕ) (value : ℤ) (number : ℕ) → answered up leads replayed value_there seen ≡ answer.Value value number → ToldBy up replayed value_there seen value number
told_by false leads replayed value_there seen value number e = absurd (cc)
told_by true true replayed value_there seen value number e = absurd (cc)
told_by true false replayed value_there seen value number e = go (ltb replayed seen) refl e
  where
    go : (t : Bool) → ltb replayed seen ≡ t → cond t (answer.Behind replayed seen) (answer.Value value_there replayed) ≡ answer.Value value number → ToldBy true replayed value_there seen value number
    go true f h = absurd (cc)
    go false f h = record { is_up = refl; number_is = sym (ap number_of h); value_is = sym (ap (λ (a : Answer). value_of a value) h); enough = ltb-false replayed seen f }

-- a client is told of as many deltas as it has seen or more
pub told_enough : (service : Declarations) (w : World) (m client variable : ℕ) (value : ℤ) (number : ℕ) → IsTold service w m client variable value number → get_or w.seen client 0 ≤ number
told_enough service w m client variable value number t =
    let x : Here = node_at w.nodes m in
    let told = told_by x.up (is_active x.role) x.replayed (value_in (state_after service (trace_of (take x.replayed (known x.log)))) variable) (get_or w.seen client 0) value number t.answer in
    subst (λ k. get_or w.seen client 0 ≤ k) (sym told.number_is) told.enough

-- a read lowers nothing
answer_rises : (up leads : Bool) (replayed : ℕ) (value_there : ℤ) (seen : ℕ) → seen ≤ seen_after seen (answered up leads replayed value_there seen)
answer_rises false leads replayed value_there seen = le_refl _
answer_rises true true replayed value_there seen = le_refl _
answer_rises true false replayed value_there seen = go (ltb replayed seen) refl
  where
    go : (t : Bool) → ltb replayed seen ≡ t → seen ≤ seen_after seen (cond t (answer.Behind replayed seen) (answer.Value value_there replayed))
    go true f = le_refl _
    go false f = ltb-false replayed seen f

-- ---- steps

module _ (service : Declarations) (requests : List Request) (seed n : ℕ) where
  if_up_rises : (t : Bool) (w : World) (m : ℕ) (d : CallHere) → Rises w.seen (if_up t w m d).world.seen
  if_up_rises true w m d = releases_rise (stamp_at d.node) d.effects w.seen
  if_up_rises false w m d = rises_same w.seen

  deliver_rises : (w : World) (number : ℕ) (o : Option (Message Value)) → Rises w.seen (deliver_found service seed n w number o).world.seen
  deliver_rises w number None = rises_same w.seen
  deliver_rises w number (Some y) = if_up_rises (node_at w.nodes y.to).up (with_handed w number) y.to (receive n (service_of service seed) y.to y.from y.content (begin (node_at w.nodes y.to)))

  read_rises : (w : World) (m client variable : ℕ) → Rises w.seen (step service requests seed n w (line.ReadVariable m client variable)).world.seen
  read_rises w m client variable =
      let x : Here = node_at w.nodes m in
      set_rises w.seen client _ (answer_rises x.up (is_active x.role) x.replayed (value_in (state_after service (trace_of (take x.replayed (known x.log)))) variable) (get_or w.seen client 0))

  pub step_rises : (w : World) (x : ScheduleLine) → Rises w.seen (step service requests seed n w x).world.seen
  step_rises w =
      of_step service requests seed n w (λ y r. Rises w.seen r.world.seen)
      (record {
        calls = λ y m call k. if_up_rises (node_at w.nodes m).up w m _;
        silent = λ y m call k s. releases_rise (stamp_at (call (begin (node_at w.nodes m))).node) (call (begin (node_at w.nodes m))).effects w.seen;
        is_up = λ m. rises_same w.seen;
        delivers = λ number. deliver_rises w number (message_at w.messages number);
        flush = rises_same w.seen;
        reads = λ m client variable. read_rises w m client variable;
      })

  pub steps_rise : (w : World) (xs : List ScheduleLine) → Rises w.seen (steps service requests seed n w xs).world.seen
  steps_rise w [] = rises_same w.seen
  steps_rise w (x ∷ xs) =
      rises_trans w.seen (step service requests seed n w x).world.seen (steps service requests seed n w (x ∷ xs)).world.seen (step_rises w x)
      (steps_rise (step service requests seed n w x).world xs)

  pub lines_rise : (w : World) (xs : List ScheduleLine) → Rises w.seen (after_lines service requests seed n w xs).seen
  lines_rise w [] = rises_same w.seen
  lines_rise w (x ∷ xs) =
      rises_trans w.seen (row service requests seed n w x).world.seen (after_lines service requests seed n w (x ∷ xs)).seen (steps_rise w (steps_of w x))
      (lines_rise (row service requests seed n w x).world xs)

  -- events that nodes are handed raise nothing
  does_rises : (w : World) (x : Doing) → Rises w.seen (does service requests seed n w x).seen
  does_rises w (Does l) = steps_rise w (steps_of w l)
  does_rises w (Takes m e) = if_up_rises (node_at w.nodes m).up w m _

  pub doings_rise : (w : World) (xs : List Doing) → Rises w.seen (after_doings service requests seed n w xs).seen
  doings_rise w [] = rises_same w.seen
  doings_rise w (x ∷ xs) =
      rises_trans w.seen (does service requests seed n w x).seen (after_doings service requests seed n w (x ∷ xs)).seen (does_rises w x)
      (doings_rise (does service requests seed n w x) xs)

  -- ---- a release raises its client's number to that of the delta with the reply

  abbrev pub Stamps : ℕ → Row → Type 0
  Stamps m r = (c s : ℕ) (x : ℤ) → c ≤ 256 → IsAmong (effect.Released c s x) r.effects → last_reply c 1 (known_at r.world m) ≤ get_or r.world.seen c 0

  quiet_stamps : (m : ℕ) (r : Row) → ((c s : ℕ) (x : ℤ) → IsAmong (effect.Released c s x) r.effects → ⊥) → Stamps m r
  quiet_stamps m r q c s x l h = absurd (q c s x h)

  after_stamps : (w : World) → length w.nodes ≡ n → length w.seen ≡ 257 → (m : ℕ) → IsNode n m → (d : CallHere) → Stamps m (after w m d)
  after_stamps w many long m min d c s x l h =
      le_trans (subst (λ (y : Here). last_reply c 1 (known y.log) ≤ stamp_at d.node c) (sym place) (le-max_left (last_reply c 1 (known d.node.log)) (offset d.node.log)))
      (releases_have (stamp_at d.node) d.effects w.seen c s x h (omega (arith, l, long)))
    where
      place : node_at (put w.nodes m d.node) m ≡ d.node
      place = node_put w.nodes m d.node m (subst (λ k. IsNode k m) (sym many) min) ∙ ap (λ t. cond t d.node (node_at w.nodes m)) (eq-eqb m m refl)

  -- a call that isn't made releases nothing
  if_up_stamps : (w : World) → length w.nodes ≡ n → length w.seen ≡ 257 → (m : ℕ) → IsNode n m → (t : Bool) (d : CallHere) → Stamps m (if_up t w m d)
  if_up_stamps w many long m min true d = after_stamps w many long m min d
  if_up_stamps w many long m min false d = quiet_stamps m (only w (effect.IsDown m)) (quiet_one (effect.IsDown m) (λ c s x e. cc))

  told_stamps : (m : ℕ) (e : Effect) (r : Row) → ((c s : ℕ) (x : ℤ) → e ≡ effect.Released c s x → ⊥) → Stamps m r → Stamps m (first_told e r)
  told_stamps m e r o h c s x l (inl k) = absurd (o c s x k)
  told_stamps m e r o h c s x l (inr k) = h c s x l k

  deliver_stamps : (w : World) → length w.nodes ≡ n → length w.seen ≡ 257 → (number : ℕ) (o : Option (Message Value)) → IsNode n (receiver_of o) → Stamps (receiver_of o) (deliver_found service seed n w number o)
  deliver_stamps w many long number None min = quiet_stamps 0 (only w (effect.NoMessage number)) (quiet_one (effect.NoMessage number) (λ c s x e. cc))
  deliver_stamps w many long number (Some y) min =
      told_stamps y.to (effect.Delivered number (kind_of y.content) y.from y.to) (at_node (with_handed w number) y.to (receive n (service_of service seed) y.to y.from y.content)) (λ c s x e. cc)
      (if_up_stamps (with_handed w number) many long y.to min (node_at w.nodes y.to).up (receive n (service_of service seed) y.to y.from y.content (begin (node_at w.nodes y.to))))

  read_stamps : (w : World) (m client variable : ℕ) (a : Answer) → Stamps m (read_row w m client variable a)
  read_stamps w m client variable a = quiet_stamps m (read_row w m client variable a) (quiet_one (read_effect m client variable a) (read_quiet m client variable a))

  pub step_stamps : (w : World) → length w.nodes ≡ n → length w.seen ≡ 257 → (x : ScheduleLine) → IsNode n (node_in w x) → Stamps (node_in w x) (step service requests seed n w x)
  step_stamps w many long =
      of_step service requests seed n w (λ y r. IsNode n (node_in w y) → Stamps (node_in w y) r)
      (record {
        calls = λ y m call k min. subst (λ q. Stamps q (at_node w m call)) (sym k.node) (if_up_stamps w many long m (subst (IsNode n) k.node min) (node_at w.nodes m).up _);
        silent = λ y m call k s min. quiet_stamps (node_in w y) (after w m (call (begin (node_at w.nodes m)))) (s.quiet (node_at w.nodes m));
        is_up = λ m min. quiet_stamps m (only w (effect.IsUp m)) (quiet_one (effect.IsUp m) (λ c s x e. cc));
        delivers = λ number min. deliver_stamps w many long number (message_at w.messages number) min;
        flush = λ min. absurd (omega (arith, min.0));
        reads = λ m client variable min. read_stamps w m client variable _;
      })
