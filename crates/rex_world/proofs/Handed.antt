-- What handing over a message does to a world.
use Rattle.rex_world.proofs.Common.{◌≡◌, ℕ, zero, suc, ◌-◌, ◌<◌, ◌≤◌, Bool, true, Option, Some, None, List, [], ◌∷◌, ◌++◌, length, take, drop, refl, sym, ◌∙◌, ap, subst, arith, append_assoc, length-set, ◌&&◌, slice_get, slice_set, All, list_all, All-get_or, drop-length, and_parts, slice_get_within, get_or_from_slice_get, Declarations, Effect, Delivered, Said, spelling_of, message_read, IsNode, Message, kind_of, Value, service_of, Row, logs, at_node, only, deliver_found, sent_from, with_handed, roles, begin, receive, Begins, IsIn, known, MessageFits, RunsOn, message_in, content_in, IsTold, Told, World, disarmed, TellsIn, TellsRightly, read_message, message_of, messages_of, world_of, nodes_of, IsRunning, ComesTo, step_in, IsSent, node_in}
use Rattle.std.proofs.lemmas.List.{append-nil}
use Rattle.rex_report.specs.declared.effect.Effect.TheVariants.{NoMessage}
use Rattle.rex_net.specs.Net as net
use Rattle.rex_schedule.specs.declared.scenario.ScheduleLine.TheVariants as line
use Rattle.rex_cluster.specs.World.{first_told, message_at}
use Rattle.rex_cluster.proofs.Calls.{receive_good}
use Rattle.rex_safety.proofs.Worlds.{nth_in}
use Rattle.rex_world.specs.Calls.{Comes}
use Rattle.rex_world.specs.Finding.{IsMarked}
use Rattle.rex_world.proofs.Coming.{messages_many}
use Rattle.rex_world.proofs.Stepping.{front_known, runs_after}

-- ---- messages by their numbers

module _ (past : List Value) where
  said_at : (bytes : List (List ℕ)) (k : ℕ) {b : List ℕ} → slice_get bytes k ≡ Some b → slice_get (messages_of past bytes) k ≡ Some (message_of past b)
  said_at [] k e = absurd (cc)
  said_at (x ∷ xs) zero {b} e = let s : x ≡ b = cc in ap (λ y. let o : Option (Message Value) = Some (message_of past y) in o) s
  said_at (x ∷ xs) (suc k) {b} e = said_at xs k e

  none_at : (bytes : List (List ℕ)) (k : ℕ) → slice_get bytes k ≡ None → slice_get (messages_of past bytes) k ≡ None
  none_at [] k e = refl
  none_at (x ∷ xs) zero e = absurd (cc)
  none_at (x ∷ xs) (suc k) e = none_at xs k e

  -- the message that was sent under a number is the model's
  pub sent_at : {bytes : List (List ℕ)} (number : ℕ) {m : Said} → IsSent bytes number m → message_at (messages_of past bytes) number ≡ Some (message_in past m)
  sent_at zero h = let e = h.is in absurd (cc)
  sent_at {bytes} (suc k) {m} h =
      said_at bytes k h.is
      ∙ ap (λ x. let o : Option (Message Value) = Some x in o) (ap (read_message past) (message_read m h.spelling))

  pub missed_at : (bytes : List (List ℕ)) (number : ℕ) → net.message_at bytes number ≡ None → message_at (messages_of past bytes) number ≡ None
  missed_at bytes zero e = refl
  missed_at bytes (suc k) e = none_at bytes k e

-- a state that it tells is right
pub sent_told : {service : Declarations} {past : List Value} {bytes : List (List ℕ)} (number : ℕ) {m : Said} → All (TellsRightly service past) bytes → IsSent bytes number m → IsTold service past m.content
sent_told zero h sent = let e = sent.is in absurd (cc)
sent_told {service} {past} {bytes} (suc k) {m} h sent =
    let at : TellsRightly service past (spelling_of m) =
    subst (TellsRightly service past) (get_or_from_slice_get bytes k (spelling_of m) [] sent.is) (All-get_or (TellsRightly service past) bytes k [] (slice_get_within bytes k (spelling_of m) sent.is) h) in
    subst (TellsIn service past) (message_read m sent.spelling) at.tells

pub sent_within : {bytes : List (List ℕ)} (number : ℕ) {m : Said} → IsSent bytes number m → (0 < number) × (number ≤ length bytes)
sent_within zero h = let e = h.is in absurd (cc)
sent_within {bytes} (suc k) {m} h = let l = slice_get_within bytes k (spelling_of m) h.is in (omega arith, omega (arith, l))

-- ---- a message that was marked

all_still : (hs : List Bool) (f i : ℕ) → list_all (λ (b : Bool). b) (take f hs) ≡ true → list_all (λ (b : Bool). b) (take f (slice_set hs i true)) ≡ true
all_still hs zero i h = refl
all_still [] (suc f) i h = refl
all_still (b ∷ hs) (suc f) zero h = (and_parts b (list_all (λ c. c) (take f hs)) h).1
all_still (b ∷ hs) (suc f) (suc i) h =
    let p = and_parts b (list_all (λ c. c) (take f hs)) h in
    let rest = all_still hs f i p.1 in
    ap (λ t. t && list_all (λ c. c) (take f (slice_set hs i true))) p.0 ∙ rest

module _ {S : Type 0} (service : Declarations) {w w1 : World S} {number : ℕ} (marked : IsMarked number w w1) where
  -- flags don't matter for what is kept
  pub marked_running : IsRunning service w → IsRunning service w1
  marked_running h =
      subst (IsRunning service) (sym marked.rest)
      (record {
        service_is = h.service_is;
        checked = h.checked;
        whole = h.whole;
        few = h.few;
        kept = record {
          world = record { many = h.kept.world.many; cluster = h.kept.world.cluster; nodes = h.kept.world.nodes };
          acting = h.kept.acting;
          numbers = record { nodes = h.kept.numbers.nodes; messages = h.kept.numbers.messages };
          handed = ap length marked.handed ∙ length-set w.handed.items (number - 1) true ∙ h.kept.handed;
        };
        members = h.members;
        within = h.within;
        agreed = h.agreed;
        told = h.told;
        spelled = h.spelled;
        requests = h.requests;
        flushed = omega (arith, ap length marked.handed, length-set w.handed.items (number - 1) true, h.flushed);
        handed = subst (λ hs. list_all (λ b. b) (take w.flushed hs) ≡ true) (sym marked.handed) (all_still _ w.flushed _ h.handed);
        clients = h.clients;
      })

-- ---- a message that is handed over

module _ {S : Type 0} (service : Declarations) (w : World S) (h : IsRunning service w) (number : ℕ) (m : Said) (sent : IsSent w.net number m) where
  is_there : IsIn (message_in w.agreed m) (messages_of w.agreed w.net)
  is_there = go number (sent_at w.agreed number sent)
    where
      go : (k : ℕ) → message_at (messages_of w.agreed w.net) k ≡ Some (message_in w.agreed m) → IsIn (message_in w.agreed m) (messages_of w.agreed w.net)
      go zero e = absurd (cc)
      go (suc k) e = nth_in k _ _ e

  pub fits : MessageFits (nodes_of w) (message_in w.agreed m)
  fits = h.kept.numbers.messages (message_in w.agreed m) is_there

  pub hand_node : IsNode (nodes_of w) m.to
  hand_node = fits.to

  pub hand_told : IsTold service w.agreed m.content
  hand_told = sent_told number h.told sent

  pub hand_front : Begins (known (node_in service w m.to).log) w.agreed
  hand_front = front_known h fits.to

  pub hand_runs : RunsOn service (receive (nodes_of w) (service_of service w.seed) m.to m.from (content_in w.agreed m.content)) (begin (disarmed (node_in service w m.to)))
  hand_runs =
      runs_after h fits.to
      (λ d good. receive_good _ _ (logs (world_of service w)) (roles (world_of service w)) (messages_of w.agreed w.net) m.to fits.to m.from _ d good (good.old (message_in w.agreed m) is_there))

  -- the row of the node's call, without the message's own effect
  abbrev hand_row : World S → Row
  hand_row v = at_node (world_of service v) m.to (receive (nodes_of v) (service_of service v.seed) m.to m.from (content_in v.agreed m.content))

  delivered : Effect
  delivered = Delivered number (kind_of (content_in w.agreed m.content)) m.from m.to

  module _ {w1 : World S} (marked : IsMarked number w w1) where
    marked_row : hand_row w1 ≡ at_node (with_handed (world_of service w) number) m.to (receive (nodes_of w) (service_of service w.seed) m.to m.from (content_in w.agreed m.content))
    marked_row =
        ap hand_row marked.rest
        ∙ ap (λ hs. at_node (record (world_of service w) { handed = hs }) m.to (receive (nodes_of w) (service_of service w.seed) m.to m.from (content_in w.agreed m.content))) marked.handed

    line_row : step_in service w (line.Deliver number) ≡ first_told delivered (hand_row w1)
    unfolding delivered
    line_row =
        ap (deliver_found service w.seed (nodes_of w) (world_of service w) number) (sent_at w.agreed number sent)
        ∙ ap (first_told (Delivered number (kind_of (content_in w.agreed m.content)) m.from m.to)) (sym marked_row)

    pub hand_came : {w2 : World S} {told : Told} (told1 : Told) {told2 : Told} → told1.effects.items ≡ told.effects.items ++ Delivered number (kind_of (content_in w.agreed m.content)) m.from m.to ∷ [] → told1.sent.items ≡ told.sent.items
        → ComesTo service w1 w2 told1 told2 (hand_row w1) → Comes service w w2 told told2 (line.Deliver number)
    unfolding delivered
    hand_came {w2} {told} told1 {told2} effects sent-same c =
        subst (ComesTo service w w2 told told2) (sym line_row)
        (record {
          did = record {
            world = c.did.world;
            effects = c.did.effects ∙ ap (λ es. es ++ (hand_row w1).effects) effects ∙ append_assoc told.effects.items (delivered ∷ []) (hand_row w1).effects;
            sent = c.did.sent ∙ ap (λ es. es ++ sent_from (suc (length (messages_of w1.agreed w1.net))) (drop (length (messages_of w1.agreed w1.net)) (hand_row w1).world.messages)) sent-same
                ∙ ap (λ v. told.sent.items ++ sent_from (suc (length (messages_of v.agreed v.net))) (drop (length (messages_of v.agreed v.net)) (hand_row w1).world.messages)) marked.rest;
          };
          goes = record {
            running = c.goes.running;
            same = record {
              nodes = c.goes.same.nodes ∙ ap nodes_of marked.rest;
              requests = c.goes.same.requests ∙ ap (λ v. v.requests) marked.rest;
              seed = c.goes.same.seed ∙ ap (λ v. v.seed) marked.rest;
            };
            done = c.goes.done ∙ ap (λ v. v.done) marked.rest;
          };
        })

-- where there is no message of the number
pub missed : {S : Type 0} → {service : Declarations} {w : World S} {told told2 : Told} (number : ℕ) → IsRunning service w → net.message_at w.net number ≡ None → told2.effects.items ≡ told.effects.items ++ NoMessage number ∷ []
    → told2.sent.items ≡ told.sent.items → Comes service w w told told2 (line.Deliver number)
missed {service} {w} {told} {told2} number h none effects sent =
    let row : step_in service w (line.Deliver number) ≡ only (world_of service w) (NoMessage number) = ap (deliver_found service w.seed (nodes_of w) (world_of service w) number) (missed_at w.agreed w.net number none) in
    subst (ComesTo service w w told told2) (sym row)
    (record {
      did = record {
        world = refl;
        effects = effects;
        sent = sent ∙ sym (append-nil told.sent.items) ∙ ap (λ ms. told.sent.items ++ sent_from (suc (length (messages_of w.agreed w.net))) ms) (sym (drop-length (messages_of w.agreed w.net)));
      };
      goes = record { running = h; same = record { nodes = refl; requests = refl; seed = refl }; done = refl };
    })

-- the message stays under its number
pub sent_on : {S : Type 0} → {number : ℕ} {w w1 : World S} {m : Said} → IsMarked number w w1 → IsSent w.net number m → IsSent w1.net number m
sent_on {number} {m} marked sent = subst (λ v. IsSent v.net number m) (sym marked.rest) sent

-- it is known of each message whether it was handed over
pub sent_handed : {S : Type 0} → {service : Declarations} {w : World S} → IsRunning service w → {number : ℕ} → number ≤ length w.net → number ≤ length w.handed.items
sent_handed {w} h l = omega (arith, h.kept.handed, messages_many w.agreed w.net, l)
