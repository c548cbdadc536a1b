-- What a call of a node does to a world.
use Rattle.rex_world.proofs.Common.{◌≡◌, ℕ, suc, ◌-◌, ◌≤◌, Bool, true, false, cond, List, [], ◌∷◌, ◌++◌, length, map, take, None, eqb, refl, sym, ◌∙◌, ap, subst, arith, length-append, replicate, if◌then◌else◌, Vec, All, list_all, drop-append_seam, length-map, All-nil, All-cons, All-append, All-head, All-tail, most_nodes, Declarations, IsService, IsChecked, RequestFits, Effect, IsDown, Said, HasSpelling, spelling_of, message_read, StateValue, Message, Service, begin, say, start, Value, Here, CallHere, ModelWorld, Row, node_at, put, after, only, if_up, at_node, sent_from, IsKept, seen_by_release, seen_by_releases, stamp_at, Step, message_in, AreTold, IsTold, Told, World, Member, AreKept, AreMembers, AreWithin, heres, read_message, message_of, messages_of, IsSpelled, TellsIn, TellsRightly, world_of, nodes_of, IsRunning, IsSame, Did, HasCome, Sends, served, started}
use Rattle.std.proofs.lemmas.List.{append-nil, take-append-le}
use Rattle.rex_report.specs.declared.effect.Effect.TheVariants.{IsUp}
use Rattle.rex_cluster.specs.World.{start_if}
use Rattle.rex_cluster.specs.Reading.{released_to}
use Rattle.rex_world.proofs.Sending.{sent_alike}
use Rattle.rex_world.proofs.Shown.{releases_long}

-- ---- messages as bytes

module _ (past : List Value) where
  pub messages_both : (xs ys : List (List ℕ)) → messages_of past (xs ++ ys) ≡ messages_of past xs ++ messages_of past ys
  messages_both [] ys = refl
  messages_both (x ∷ xs) ys = ap (λ ms. message_of past x ∷ ms) (messages_both xs ys)

  pub messages_many : (xs : List (List ℕ)) → length (messages_of past xs) ≡ length xs
  messages_many [] = refl
  messages_many (x ∷ xs) = ap suc (messages_many xs)

  -- what is spelled is read again
  read_again : (ms : List Said) → All HasSpelling ms → messages_of past (map spelling_of ms) ≡ map (message_in past) ms
  read_again [] h = refl
  read_again (m ∷ ms) h =
      ap (λ x. x ∷ messages_of past (map spelling_of ms)) (ap (read_message past) (message_read m (All-head HasSpelling m ms h)))
      ∙ ap (λ xs. message_in past m ∷ xs) (read_again ms (All-tail HasSpelling m ms h))

  -- and a state that it tells is right
  pub one_told : {service : Declarations} {m : Said} → HasSpelling m → IsTold service past m.content → TellsRightly service past (spelling_of m)
  one_told {service} {m} spelled told = record { tells = subst (TellsIn service past) (sym (message_read m spelled)) told }

  all_told : (service : Declarations) (ms : List Said) → All HasSpelling ms → AreTold service past ms → All (TellsRightly service past) (map spelling_of ms)
  all_told service [] spelled told = All-nil (TellsRightly service past)
  all_told service (m ∷ ms) spelled told =
      All-cons (TellsRightly service past) (spelling_of m) (map spelling_of ms)
      (one_told (All-head HasSpelling m ms spelled) (All-head (λ x. IsTold service past x.content) m ms told))
      (all_told service ms (All-tail HasSpelling m ms spelled) (All-tail (λ x. IsTold service past x.content) m ms told))

all_spelled : (ms : List Said) → All HasSpelling ms → All IsSpelled (map spelling_of ms)
all_spelled [] h = All-nil IsSpelled
all_spelled (m ∷ ms) h =
    All-cons IsSpelled (spelling_of m) (map spelling_of ms) (record { message = m; spelling = All-head HasSpelling m ms h; is = refl }) (all_spelled ms (All-tail HasSpelling m ms h))

-- ---- worlds

pub same_world : {d e : ℕ} {xs ys : List Here} {ms ns : List (Message Value)} {hs gs : List Bool} {ss ts : List ℕ} → d ≡ e → xs ≡ ys → ms ≡ ns → hs ≡ gs → ss ≡ ts
    → let a : ModelWorld = record { done = d; nodes = xs; messages = ms; handed = hs; seen = ss } in let b : ModelWorld = record { done = e; nodes = ys; messages = ns; handed = gs; seen = ts } in a ≡ b
same_world p q r s t = cc

pub put_same : (xs : List Here) (m : ℕ) → put xs m (node_at xs m) ≡ xs
put_same [] m = refl
put_same (x ∷ xs) m = go (eqb m 1) (put_same xs (m - 1))
  where
    go : (t : Bool) → put xs (m - 1) (node_at xs (m - 1)) ≡ xs → cond t (cond t x (node_at xs (m - 1)) ∷ xs) (x ∷ put xs (m - 1) (cond t x (node_at xs (m - 1)))) ≡ x ∷ xs
    go true h = refl
    go false h = ap (λ ys. x ∷ ys) h

-- saying something that releases no reply changes nothing
said_only : {w : ModelWorld} (m : ℕ) {e : Effect} → released_to e ≡ None → after w m (say e (begin (node_at w.nodes m))) ≡ only w e
said_only {w} m {e} none =
    ap (λ v. let r : Row = record { world = v; effects = e ∷ [] } in r)
    (same_world refl (put_same w.nodes m) (append-nil w.messages) (append-nil w.handed)
    (ap (λ o. seen_by_release (stamp_at (node_at w.nodes m)) o w.seen) none))

-- what a call of a node comes to in the model
pub served_row : (w : ModelWorld) (m : ℕ) (call : CallHere → CallHere) → after w m (served m call (node_at w.nodes m)) ≡ at_node w m call
served_row w m call = by (node_at w.nodes m).up
  where
    by : (t : Bool) → after w m (if t then call (begin (node_at w.nodes m)) else say (IsDown m) (begin (node_at w.nodes m))) ≡ if_up t w m (call (begin (node_at w.nodes m)))
    by true = refl
    by false = said_only m refl

-- and its start
pub started_row : (sv : Service Value StateValue) (w : ModelWorld) (m : ℕ) → after w m (started sv m (node_at w.nodes m)) ≡ start_if sv (node_at w.nodes m).up w m
started_row sv w m = by (node_at w.nodes m).up
  where
    by : (t : Bool) → after w m (if t then say (IsUp m) (begin (node_at w.nodes m)) else start sv m (begin (node_at w.nodes m))) ≡ start_if sv t w m
    by true = said_only m refl
    by false = refl

-- ---- before what a node has come to know was agreed

-- all that is kept of a running world, but that its agreed values are those of the model's world
pub record IsUnsettled {S : Type 0} (service : Declarations) (w : World S) : Type 0 where
  pub service_is : IsService service
  pub checked : IsChecked service
  pub whole : w.broken ≡ false
  pub few : nodes_of w ≤ most_nodes
  pub kept : IsKept service w.seed (nodes_of w) (world_of service w)
  pub members : AreMembers service w.agreed w.seed (nodes_of w) 1 w.nodes.items
  pub within : AreWithin w.done w.nodes.items
  pub spelled : All IsSpelled w.net
  pub told : All (TellsRightly service w.agreed) w.net
  pub requests : All (RequestFits service) w.requests
  pub flushed : w.flushed ≤ length w.handed.items
  pub handed : list_all (λ (b : Bool). b) (take w.flushed w.handed.items) ≡ true
  pub clients : length w.seen.items ≡ 257

-- the world came to a row of the model, with the same values agreed as before
pub record CameTo {S : Type 0} (service : Declarations) (before after : World S) (old new : Told) (r : Row) : Type 0 where
  pub did : Did (world_of service before) (world_of service after) old new r
  pub works : IsUnsettled service after
  pub same : IsSame before after
  pub done : after.done ≡ before.done
  pub stood : after.agreed ≡ before.agreed

-- a node's step was told, its messages were sent, and clients have seen its replies; of the world before only its nodes are others
pub record TellsStep {S : Type 0} (w w2 : World S) (nodes : Vec Member) (told told2 : Told) (step : Step) : Type 0 where
  pub sends : Sends step.sends w.net w2.net w.handed.items w2.handed.items told.sent.items told2.sent.items
  pub effects : told2.effects.items ≡ told.effects.items ++ step.effects
  pub rest : w2 ≡ record w { nodes = nodes; net = w2.net; handed = w2.handed; seen = w2.seen }

-- ---- a step that was told

module _ {S : Type 0} {service : Declarations} {w w2 : World S} (h : IsRunning service w) {nodes : Vec Member} {told told2 : Told} {step : Step} (tells : TellsStep w w2 nodes told told2 step) (m : ℕ) {d : CallHere} (come : HasCome w.agreed d (node_at (heres service w.agreed nodes.items) m) step)
    (shown : w2.seen.items ≡ seen_by_releases (stamp_at (node_at (heres service w.agreed nodes.items) m)) step.effects w.seen.items) (others : heres service w.agreed nodes.items ≡ put (heres service w.agreed w.nodes.items) m (node_at (heres service w.agreed nodes.items) m)) where
  -- a world that sent these messages
  abbrev sent_world : World S
  sent_world = record w { nodes = nodes; net = w2.net; handed = w2.handed; seen = w2.seen }

  nodes_are : heres service w.agreed nodes.items ≡ put (heres service w.agreed w.nodes.items) m d.node
  nodes_are = others ∙ ap (put (heres service w.agreed w.nodes.items) m) come.node

  saw : w2.seen.items ≡ seen_by_releases (stamp_at d.node) d.effects w.seen.items
  saw =
      shown ∙ ap (λ x. seen_by_releases (stamp_at x) step.effects w.seen.items) come.node
      ∙ ap (λ es. seen_by_releases (stamp_at d.node) es w.seen.items) come.effects

  messages_after : messages_of w.agreed w2.net ≡ messages_of w.agreed w.net ++ map (message_in w.agreed) step.sends
  messages_after = ap (messages_of w.agreed) tells.sends.net ∙ messages_both w.agreed w.net _ ∙ ap (λ ms. messages_of w.agreed w.net ++ ms) (read_again w.agreed _ tells.sends.spelled)

  -- the world is the one of the model after the call
  world_after : world_of service w2 ≡ (after (world_of service w) m d).world
  world_after =
      ap (world_of service) tells.rest
      ∙ same_world
      refl nodes_are
      (messages_after ∙ ap (λ ms. messages_of w.agreed w.net ++ ms) come.sends)
      (tells.sends.handed ∙ ap (λ k. w.handed.items ++ replicate k false) (sym (length-map step.sends (message_in w.agreed)) ∙ ap length come.sends))
      saw

  did_after : Did (world_of service w) (world_of service w2) told told2 (after (world_of service w) m d)
  did_after = record {
    world = world_after;
    effects = tells.effects ∙ ap (λ es. told.effects.items ++ es) come.effects;
    sent = tells.sends.sent ∙ ap (λ es. told.sent.items ++ es) (sent_alike w.agreed _ _) ∙ ap (λ es. told.sent.items ++ es)
        (ap (λ k. sent_from (suc k) (map (message_in w.agreed) step.sends)) (sym (messages_many w.agreed w.net))
        ∙ ap (λ ms. sent_from (suc (length (messages_of w.agreed w.net))) ms) (come.sends ∙ sym (drop-append_seam (messages_of w.agreed w.net) d.sends)));
  }

  front_after : w.flushed ≤ length w.handed.items → take w.flushed w2.handed.items ≡ take w.flushed w.handed.items
  front_after l = ap (take w.flushed) tells.sends.handed ∙ take-append-le w.flushed w.handed.items (replicate (length step.sends) false) l

  running_after : length nodes.items ≡ nodes_of w → AreKept service w.agreed w.seed (nodes_of w) w.done nodes.items → AreTold service w.agreed step.sends → IsKept service w.seed (nodes_of w) (world_of service w2) → IsUnsettled service w2
  running_after many all told_right kept =
      subst (IsUnsettled service) (sym tells.rest)
      (record {
        service_is = h.service_is;
        checked = h.checked;
        whole = h.whole;
        few = subst (λ k. k ≤ most_nodes) (sym many) h.few;
        kept = subst (λ k. IsKept service w.seed k (world_of service sent_world)) (sym many) (subst (λ v. IsKept service w.seed (nodes_of w) (world_of service v)) tells.rest kept);
        members = subst (λ k. AreMembers service w.agreed w.seed k 1 nodes.items) (sym many) all.members;
        within = all.within;
        told = subst (All (TellsRightly service w.agreed)) (sym tells.sends.net) (All-append (TellsRightly service w.agreed) w.net (map spelling_of step.sends) h.told (all_told w.agreed service _ tells.sends.spelled told_right));
        spelled = subst (All IsSpelled) (sym tells.sends.net) (All-append IsSpelled w.net (map spelling_of step.sends) h.spelled (all_spelled _ tells.sends.spelled));
        requests = h.requests;
        flushed = omega (arith, ap length tells.sends.handed, length-append w.handed.items (replicate (length step.sends) false), h.flushed);
        handed = subst (λ hs. list_all (λ b. b) hs ≡ true) (sym (front_after h.flushed)) h.handed;
        clients = ap length shown ∙ releases_long (stamp_at (node_at (heres service w.agreed nodes.items) m)) step.effects _ ∙ h.clients;
      })

  -- the row of a step that was told
  pub comes_after : length nodes.items ≡ nodes_of w → AreKept service w.agreed w.seed (nodes_of w) w.done nodes.items → AreTold service w.agreed step.sends → IsKept service w.seed (nodes_of w) (after (world_of service w) m d).world → CameTo service w w2 told told2 (after (world_of service w) m d)
  comes_after many all told_right kept = record {
    did = did_after;
    works = running_after many all told_right (subst (IsKept service w.seed (nodes_of w)) (sym world_after) kept);
    same = record { nodes = ap nodes_of tells.rest ∙ many; requests = ap (λ v. v.requests) tells.rest; seed = ap (λ v. v.seed) tells.rest };
    done = ap (λ v. v.done) tells.rest;
    stood = ap (λ v. v.agreed) tells.rest;
  }
