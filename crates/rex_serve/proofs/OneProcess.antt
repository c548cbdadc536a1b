-- What happens to one process is what it comes to by frames.
use Rattle.std.proofs.Common.{◌≡◌, ℕ, true, List, [], length, map, None, refl, sym, ◌∙◌, ap, subst}
use Rattle.rex_syntax.specs.declared.service.Declarations.{Declarations}
use Rattle.rex_msg.specs.declared.message.Message.{Message}
use Rattle.rex_log.specs.Log.{log_of}
use Rattle.rex_log.specs.Messages.{message_in}
use Rattle.rex_cluster.specs.Quorum.{IsNode}
use Rattle.rex_cluster.specs.Node.{down_node, Message as ModelMessage}
use Rattle.rex_cluster.specs.Values.{Value}
use Rattle.rex_cluster.specs.Lanes.{Here}
use Rattle.rex_cluster.specs.World.{World, node_at}
use Rattle.rex_node.specs.Parts.{here_of}
use Rattle.rex_processes.specs.Processes.{Happening, after_happenings}
use Rattle.rex_process.specs.Process.{ProcessValue, IsSame, here}
use Rattle.rex_process.specs.Starting.{HasStarted}
use Rattle.rex_serve.specs.Answering.{AnswersFrame, BreaksOff, asked_of}
use Rattle.rex_serve.specs.Standing.{AreHonestBy, HearsSent, IsNodeOf, StandsIn, each_at, step_to}
use Rattle.rex_serve.specs.Laws.{IsMember, LeadsTo, LeavesRecords}
use Rattle.rex_serve.proofs.Happened.{Happens}
use Rattle.rex_serve.proofs.Tasks.{HasGone}
use Rattle.rex_serve.proofs.Asked.{answered_gone, broken_left}
use Rattle.rex_serve.proofs.Started.{started_gone}
use Rattle.rex_serve.proofs.There.{all_there}

-- ---- the number of a member

-- what is so of a process' own numbers is so of those of its cluster
pub of_cluster : {K : Type 0} → (service : Declarations) (seed n m : ℕ) (p : ProcessValue K) → IsMember service seed n m p
    → (F : Declarations → ℕ → ℕ → ℕ → Type 0)
    → F p.service p.node.seed p.node.nodes p.node.id → F service seed n m
of_cluster service seed n m p h F f =
    subst (λ (k : ℕ). F service seed n k) h.id_is (subst (λ (k : ℕ). F service seed k p.node.id) h.nodes_are
    (subst (λ (k : ℕ). F service k p.node.nodes p.node.id) h.seed_is (subst (λ (s : Declarations). F s p.node.seed p.node.nodes p.node.id) h.service_is f)))

-- and the other way round
pub of_process : {K : Type 0} → (service : Declarations) (seed n m : ℕ) (p : ProcessValue K) → IsMember service seed n m p
    → (F : Declarations → ℕ → ℕ → ℕ → Type 0)
    → F service seed n m → F p.service p.node.seed p.node.nodes p.node.id
of_process service seed n m p h F f =
    subst (λ (k : ℕ). F p.service p.node.seed p.node.nodes k) (sym h.id_is) (subst (λ (k : ℕ). F p.service p.node.seed k m) (sym h.nodes_are)
    (subst (λ (k : ℕ). F p.service k n m) (sym h.seed_is) (subst (λ (s : Declarations). F s seed n m) (sym h.service_is) f)))

pub started_member : {K : Type 0} → (records : K → List (List ℕ)) (service : Declarations) (id nodes seed : ℕ) (keeper : K) (p : ProcessValue K)
    → HasStarted records service id nodes seed keeper p
    → IsMember service seed nodes id p
started_member records service id nodes seed keeper p h = record { service_is = h.service_is; id_is = h.id_is; nodes_are = h.nodes_are; seed_is = h.seed_is }

pub same_member : {K : Type 0} → (service : Declarations) (seed n m : ℕ) (p q : ProcessValue K) → IsSame p q → IsMember service seed n m p
    → IsMember service seed n m q
same_member service seed n m p q s h =
    record { service_is = s.service ∙ h.service_is; id_is = s.id ∙ h.id_is; nodes_are = s.nodes ∙ h.nodes_are; seed_is = s.seed ∙ h.seed_is }

-- ---- what it comes to

honest_by : {K : Type 0} → (p : ProcessValue K) (w : World) (xs : List Happening) (x : Here) (s : List (ModelMessage Value))
    → Happens p.service p.node.seed p.node.nodes p.node.id w xs x s
    → AreHonestBy p w xs s
honest_by p w xs x s h = record { honest = h.honest; plain = h.plain; named = h.named; others = h.reaches.others; messages = h.reaches.messages }

-- the node of a process that is the same one
pub same_node : {K : Type 0} → (records : K → List (List ℕ)) (p q : ProcessValue K) (x : Here) → q.service ≡ p.service
    → IsNodeOf (here_of records p.service [] q.node) x → IsNodeOf (here records q) x
same_node records p q x e h = subst (λ (s : Declarations). IsNodeOf (here_of records s [] q.node) x) (sym e) h

leads_to : {K : Type 0} → (records : K → List (List ℕ)) (p q : ProcessValue K) (w : World) (s : List Message) → length w.nodes ≡ p.node.nodes
    → IsNode p.node.nodes p.node.id → IsSame p q
    → HasGone p.service p.node.seed p.node.nodes p.node.id w (here_of records p.service [] q.node) (map (message_in []) s) → LeadsTo records p q w s
leads_to records p q w s many there same g = record {
  happened = g.happened;
  honest = honest_by p w g.happened g.node (map (message_in []) s) g.goes;
  stands = record {
    many = g.goes.reaches.many ∙ (many ∙ sym same.nodes);
    there = subst (λ (k : ℕ). IsNode k q.node.id) (sym same.nodes) (subst (λ (k : ℕ). IsNode p.node.nodes k) (sym same.id) there);
    stands = subst (λ (k : ℕ). IsNodeOf (here records q) (node_at (after_happenings p.service p.node.seed p.node.nodes w (each_at p.node.id g.happened)).nodes k)) (sym same.id)
        (subst (λ (x : Here). IsNodeOf (here records q) x) (sym g.goes.reaches.own) (same_node records p q g.node same.service g.is_node));
  };
}

module _ {K : Type 0} (records : K → List (List ℕ)) (faults : K → ℕ) where
  module _ (p q : ProcessValue K) (w : World) (frame : List ℕ) (stands : StandsIn records p w) (up : p.node.up ≡ true) (sent : HearsSent w (asked_of p frame)) where
    there : IsNode (length w.nodes) p.node.id
    there = subst (λ (k : ℕ). IsNode k p.node.id) (sym stands.many) stands.there

    pub answers_happen : (out : List ℕ) (answers : AnswersFrame records faults p q frame out)
        → LeadsTo records p q w (step_to records faults p q frame out answers).sends
    answers_happen out answers =
        leads_to records p q w (step_to records faults p q frame out answers).sends stands.many stands.there answers.same
        (answered_gone records faults p q w (stands.stands.up up) up there answers.same.service (asked_of p frame) answers.answer (all_there p.service p.node.id p.node.nodes frame) sent answers.answered)

    pub breaks_happen : IsSame p q → BreaksOff records faults p q (asked_of p frame) → LeavesRecords records p q w
    breaks_happen same broken =
        let h = broken_left records faults p q w (stands.stands.up up) up there same.service (asked_of p frame) (all_there p.service p.node.id p.node.nodes frame) sent broken in
        record {
          happened = h.happened;
          sends = h.sends;
          honest = honest_by p w h.happened (down_node (here_of records p.service [] q.node).log None) h.sends h.goes;
          down = h.goes.reaches.own ∙ ap (λ (s : Declarations). down_node (here_of records s [] q.node).log None) (sym same.service);
        }

module _ {K : Type 0} (records : K → List (List ℕ)) where
  pub starts_happen : (service : Declarations) (id nodes seed : ℕ) (keeper : K) (p : ProcessValue K) (w : World)
      → HasStarted records service id nodes seed keeper p → length w.nodes ≡ nodes → IsNode nodes id
      → node_at w.nodes id ≡ down_node (log_of service [] (records keeper)) None → LeadsTo records p p w []
  starts_happen service id nodes seed keeper p w h many there at =
      let member : IsMember service seed nodes id p = started_member records service id nodes seed keeper p h in
      leads_to records p p w [] (many ∙ sym h.nodes_are) (of_process service seed nodes id p member (λ s k n m. IsNode n m) there) (record { service = refl; id = refl; nodes = refl; seed = refl })
      (of_process service seed nodes id p member (λ s k n m. HasGone s k n m w (here records p) [])
      (started_gone records service id nodes seed keeper p h w at (subst (λ (k : ℕ). IsNode k id) (sym many) there)))
