-- What happens to processes of a cluster, among what happens in the model.
use Rattle.std.proofs.Common.{◌≡◌, ◌⊎◌, ℕ, zero, suc, ◌<◌, ◌≤◌, ◌-◌, Bool, true, false, List, [], ◌∷◌, ◌++◌, length, map, None, inl, inr, refl, sym, ◌∙◌, ap, subst, arith, eqb-true}
use Rattle.std.specs.Prelude.{◌==◌, replicate, if◌then◌else◌}
use Rattle.std.proofs.lemmas.Bool.{cases_eq, eqb-false}
use Rattle.rex_syntax.specs.declared.service.Declarations.{Declarations}
use Rattle.rex_msg.specs.declared.message.Message.{Message}
use Rattle.rex_log.specs.Log.{log_of}
use Rattle.rex_log.specs.Messages.{message_in}
use Rattle.rex_cluster.specs.Quorum.{IsNode}
use Rattle.rex_cluster.specs.Node.{new_node, down_node, Message as ModelMessage}
use Rattle.rex_cluster.specs.Invariant.{IsIn}
use Rattle.rex_cluster.specs.Values.{Value}
use Rattle.rex_cluster.specs.Lanes.{Here}
use Rattle.rex_cluster.specs.World.{World, node_at, beginning as world_beginning}
use Rattle.rex_node.specs.declared.step.Step.{Step}
use Rattle.rex_node.specs.Parts.{here_of}
use Rattle.rex_processes.specs.Processes.{Happening, AreHonest, after_happenings, happens}
use Rattle.rex_processes.specs.Processes.Happening.{Dies}
use Rattle.rex_processes.specs.Plain.{ArePlain, EachTask, IsPlainTask, NamesAnother}
use Rattle.rex_frames.specs.declared.asking.Asked.{Asked}
use Rattle.rex_frames.specs.declared.asking.Asked.TheVariants.{Elect, Submit, Run, Turn, Cut, Hear, Foretell, Ask, Read, Look, Nothing}
use Rattle.rex_process.specs.Process.{ProcessValue, here}
use Rattle.rex_process.specs.Starting.{HasStarted}
use Rattle.rex_serve.specs.Answering.{IsFlushed, asked_of}
use Rattle.rex_serve.specs.Standing.{HearsOneOf, HearsSent, IsNodeOf, OfHeard, each_at, step_to}
use Rattle.rex_serve.specs.Cluster.{Member, Cluster, Transition, AllMayHappen, AnswersSo, BreaksOffSo, MayHappen, after_transitions, beginning, goes_on, member_after, records_in, step_at}
use Rattle.rex_serve.specs.Cluster.Member.{Runs, Left}
use Rattle.rex_serve.specs.Cluster.Transition.{ComesUp, Answers, Flushes, BreaksOff, Ends}
use Rattle.rex_serve.specs.Laws.{ClusterStands, HasHappened, IsMember, MemberStands}
use Rattle.rex_serve.proofs.Happened.{Happens, after_both, dies, each_both, happens_none, honest_both}
use Rattle.rex_serve.proofs.Flushed.{flushed_here, flushed_same}
use Rattle.rex_serve.proofs.Tasks.{HasGone}
use Rattle.rex_serve.proofs.Asked.{HasLeft, answered_gone, broken_left}
use Rattle.rex_serve.proofs.Started.{started_gone}
use Rattle.rex_serve.proofs.There.{all_there}
use Rattle.rex_serve.proofs.OneProcess.{of_cluster, same_member, same_node, started_member}

-- ---- lists

pub in_front : {A : Type 0} → (x : A) (xs ys : List A) → IsIn x xs → IsIn x (xs ++ ys)
in_front x [] ys h = absurd h
in_front x (y ∷ xs) ys (inl e) = inl e
in_front x (y ∷ xs) ys (inr h) = inr (in_front x xs ys h)

pub in_back : {A : Type 0} → (x : A) (xs ys : List A) → IsIn x ys → IsIn x (xs ++ ys)
in_back x [] ys h = h
in_back x (y ∷ xs) ys h = inr (in_back x xs ys h)

in_either : {A : Type 0} → (x : A) (xs ys : List A) → IsIn x (xs ++ ys) → IsIn x xs ⊎ IsIn x ys
in_either x [] ys h = inr h
in_either x (y ∷ xs) ys (inl e) = inl (inl e)
in_either x (y ∷ xs) ys (inr h) = go (in_either x xs ys h)
  where
    go : IsIn x xs ⊎ IsIn x ys → IsIn x (y ∷ xs) ⊎ IsIn x ys
    go (inl k) = inl (inr k)
    go (inr k) = inr k

in_map : {A B : Type 0} → (f : A → B) (x : A) (xs : List A) → IsIn x xs → IsIn (f x) (map f xs)
in_map f x [] h = absurd h
in_map f x (y ∷ xs) (inl e) = inl (ap f e)
in_map f x (y ∷ xs) (inr h) = inr (in_map f x xs h)

-- ---- what is heard

-- what follows from what holds of the message that is heard holds of it, too
pub heard_weaker : (P Q : Message → Type 0) → ((message : Message) → P message → Q message) → (asked : Asked) → OfHeard P asked → OfHeard Q asked
heard_weaker P Q weaker Elect h = tt
heard_weaker P Q weaker (Submit request) h = tt
heard_weaker P Q weaker (Run clock) h = tt
heard_weaker P Q weaker (Turn lane clock) h = tt
heard_weaker P Q weaker Cut h = tt
heard_weaker P Q weaker (Hear message) h = weaker message h
heard_weaker P Q weaker (Foretell message) h = weaker message h
heard_weaker P Q weaker (Ask to) h = tt
heard_weaker P Q weaker (Read client variable seen) h = tt
heard_weaker P Q weaker Look h = tt
heard_weaker P Q weaker Nothing h = tt

-- what was told was sent
sent_of : (told : List Message) (w : World) → ((x : Message) → IsIn x told → IsIn (message_in [] x) w.messages) → (asked : Asked) → HearsOneOf told asked
    → HearsSent w asked
sent_of told w = heard_weaker (λ message. IsIn message told) (λ message. IsIn (message_in [] message) w.messages)

-- ---- one transition

module _ {K : Type 0} (records : K → List (List ℕ)) (faults : K → ℕ) (service : Declarations) (seed n : ℕ) where
  abbrev Stands : Cluster K → World → Type 0
  Stands c w = ClusterStands records faults service seed n c w

  -- what happens in the model, to what the node comes thereby, and what is sent; the process stands there then, and what it tells is sent
  pub record Steps (c : Cluster K) (w : World) (m : ℕ) (t : Transition K) : Type 0 where
    pub happened : List Happening
    pub node : Here
    pub sends : List (ModelMessage Value)
    pub goes : Happens service seed n m w happened node sends
    pub stands : MemberStands records faults service seed n m (member_after records (c.members m) t) node
    pub tells : (x : Message) → IsIn x (step_at t).sends → IsIn (message_in [] x) sends

  module _ (c : Cluster K) (w : World) (s : Stands c w) (m : ℕ) (min : IsNode n m) where
    there : IsNode (length w.nodes) m
    there = subst (λ (k : ℕ). IsNode k m) (sym s.many) min

    -- the process that runs as the member of this number
    runs_as : (p : ProcessValue K) → c.members m ≡ Runs p → IsMember service seed n m p × IsNodeOf (here records p) (node_at w.nodes m)
    runs_as p e = subst (λ (x : Member K). MemberStands records faults service seed n m x (node_at w.nodes m)) e (s.each m min)

    left_as : (kept : List (List ℕ)) → c.members m ≡ Left kept → node_at w.nodes m ≡ down_node (log_of service [] kept) None
    left_as kept e = subst (λ (x : Member K). MemberStands records faults service seed n m x (node_at w.nodes m)) e (s.each m min)

    step_up : (keeper : K) (p : ProcessValue K) → c.members m ≡ Left (records keeper) → HasStarted records service m n seed keeper p
        → Steps c w m (ComesUp keeper p)
    step_up keeper p e h =
        let g : HasGone service seed n m w (here records p) [] = started_gone records service m n seed keeper p h w (left_as (records keeper) e) there in
        record { happened = g.happened; node = g.node; sends = []; goes = g.goes; stands = (started_member records service m n seed keeper p h, g.is_node); tells = λ x i. absurd i }

    module _ (p : ProcessValue K) (e : c.members m ≡ Runs p) (up : p.node.up ≡ true) where
      member : IsMember service seed n m p
      member = (runs_as p e).0

      at : node_at w.nodes p.node.id ≡ here records p
      at = subst (λ (k : ℕ). node_at w.nodes k ≡ here records p) (sym member.id_is) ((runs_as p e).1.up up)

      own_there : IsNode (length w.nodes) p.node.id
      own_there = subst (λ (k : ℕ). IsNode (length w.nodes) k) (sym member.id_is) there

      step_answers : (q : ProcessValue K) (frame : List ℕ) (step : Step) → AnswersSo records faults c.told p q frame step → Steps c w m (Answers frame q step)
      step_answers q frame step h =
          let told : Step = step_to records faults p q frame h.out h.answers in
          let g : HasGone service seed n m w (here_of records p.service [] q.node) (map (message_in []) told.sends) =
          of_cluster service seed n m p member (λ s k i j. HasGone s k i j w (here_of records p.service [] q.node) (map (message_in []) told.sends))
          (answered_gone records faults p q w at up own_there h.answers.same.service (asked_of p frame) h.answers.answer (all_there p.service p.node.id p.node.nodes frame)
          (sent_of c.told w s.told (asked_of p frame) h.hears) h.answers.answered) in
          record {
            happened = g.happened;
            node = g.node;
            sends = map (message_in []) told.sends;
            goes = g.goes;
            stands = (same_member service seed n m p q h.answers.same member, same_node records p q g.node h.answers.same.service g.is_node);
            tells = λ x i. in_map (message_in []) x told.sends (subst (λ (t : Step). IsIn x t.sends) h.step_is i);
          }

      step_breaks : (q : ProcessValue K) (frame : List ℕ) → BreaksOffSo records faults c.told p q frame → Steps c w m (BreaksOff frame q)
      step_breaks q frame h =
          let g : HasLeft records faults p q w at up own_there =
          broken_left records faults p q w at up own_there h.same.service (asked_of p frame) (all_there p.service p.node.id p.node.nodes frame) (sent_of c.told w s.told (asked_of p frame) h.hears) h.broken in
          record {
            happened = g.happened;
            node = down_node (here_of records p.service [] q.node).log None;
            sends = g.sends;
            goes = of_cluster service seed n m p member (λ s k i j. Happens s k i j w g.happened (down_node (here_of records p.service [] q.node).log None) g.sends) g.goes;
            stands = ap (λ (t : Declarations). down_node (log_of t [] (records q.node.keeper)) None) member.service_is;
            tells = λ x i. absurd i;
          }

    -- nothing happens in the model where its keeper flushes
    step_flushes : (p q : ProcessValue K) → c.members m ≡ Runs p → IsFlushed records p q → Steps c w m (Flushes q)
    step_flushes p q e f = record {
      happened = [];
      node = node_at w.nodes m;
      sends = [];
      goes = happens_none service seed n m w (node_at w.nodes m) refl;
      stands = (
        same_member service seed n m p q (flushed_same records p q f) (runs_as p e).0,
        subst (λ (x : Here). IsNodeOf x (node_at w.nodes m)) (sym (flushed_here records p q f)) (runs_as p e).1,
      );
      tells = λ x i. absurd i;
    }

    -- it ends between two frames
    step_ends : Steps c w m Ends
    step_ends = by (c.members m) refl
      where
        ended : (p : ProcessValue K) → c.members m ≡ Runs p → (t : Bool) → p.node.up ≡ t → Steps c w m Ends
        ended p e true u = record {
          happened = Dies ∷ [];
          node = down_node (here records p).log None;
          sends = [];
          goes = dies service seed n m w (here records p) ((runs_as p e).1.up u) there u;
          stands = subst (λ (x : Member K). down_node (here records p).log None ≡ down_node (log_of service [] (records_in records x)) None) (sym e)
              (ap (λ (t : Declarations). down_node (log_of t [] (records p.node.keeper)) None) (runs_as p e).0.service_is);
          tells = λ x i. absurd i;
        }
        ended p e false u = record {
          happened = [];
          node = node_at w.nodes m;
          sends = [];
          goes = happens_none service seed n m w (node_at w.nodes m) refl;
          stands = subst (λ (x : Member K). node_at w.nodes m ≡ down_node (log_of service [] (records_in records x)) None) (sym e)
              ((runs_as p e).1.down u ∙ ap (λ (t : Declarations). down_node (log_of t [] (records p.node.keeper)) None) (runs_as p e).0.service_is);
          tells = λ x i. absurd i;
        }

        by : (x : Member K) → c.members m ≡ x → Steps c w m Ends
        by (Runs p) e = ended p e p.node.up refl
        by (Left kept) e = record {
          happened = [];
          node = node_at w.nodes m;
          sends = [];
          goes = happens_none service seed n m w (node_at w.nodes m) refl;
          stands = subst (λ (x : Member K). node_at w.nodes m ≡ down_node (log_of service [] (records_in records x)) None) (sym e) (left_as kept e);
          tells = λ x i. absurd i;
        }

    pub step_of_cluster : (t : Transition K) → MayHappen records faults service seed n c m t → Steps c w m t
    step_of_cluster (ComesUp keeper p) h = step_up keeper p h.0 h.1
    step_of_cluster (Answers frame q step) h = step_answers h.0 h.1 h.2.up q frame step h.2
    step_of_cluster (Flushes q) h = step_flushes h.0 q h.1 h.2
    step_of_cluster (BreaksOff frame q) h = step_breaks h.0 h.1 h.2.up q frame h.2
    step_of_cluster Ends h = step_ends

    -- then the cluster stands in the world after that
    pub stands_then : (t : Transition K) (g : Steps c w m t) → Stands (goes_on records faults c m t) (after_happenings service seed n w (each_at m g.happened))
    stands_then t g = record { many = g.goes.reaches.many ∙ s.many; each = each; told = λ x i. told x (in_either x c.told (step_at t).sends i) }
      where
        v : World
        v = after_happenings service seed n w (each_at m g.happened)

        each : (k : ℕ) → IsNode n k
            → MemberStands records faults service seed n k (if k == m then member_after records (c.members m) t else c.members k) (node_at (after_happenings service seed n w (each_at m g.happened)).nodes k)
        each k kin = by (k == m) refl
          where
            by : (u : Bool) → (k == m) ≡ u
                → MemberStands records faults service seed n k (if u then member_after records (c.members m) t else c.members k) (node_at (after_happenings service seed n w (each_at m g.happened)).nodes k)
            by true e =
                let same : k ≡ m = eqb-true k m e in
                subst (λ (j : ℕ). MemberStands records faults service seed n j (member_after records (c.members m) t) (node_at (after_happenings service seed n w (each_at m g.happened)).nodes j)) (sym same)
                (subst (λ (x : Here). MemberStands records faults service seed n m (member_after records (c.members m) t) x) (sym g.goes.reaches.own) g.stands)
            by false e = subst (λ (x : Here). MemberStands records faults service seed n k (c.members k) x) (sym (g.goes.reaches.others k (eqb-false k m e))) (s.each k kin)

        told : (x : Message) → IsIn x c.told ⊎ IsIn x (step_at t).sends
            → IsIn (message_in [] x) (after_happenings service seed n w (each_at m g.happened)).messages
        told x (inl i) = subst (λ (ms : List (ModelMessage Value)). IsIn (message_in [] x) ms) (sym g.goes.reaches.messages) (in_front (message_in [] x) w.messages g.sends (s.told x i))
        told x (inr i) = subst (λ (ms : List (ModelMessage Value)). IsIn (message_in [] x) ms) (sym g.goes.reaches.messages) (in_back (message_in [] x) w.messages g.sends (g.tells x i))

  -- ---- one after the other

  -- honest happenings to processes, after which the cluster stands in their world
  pub record Follows (c : Cluster K) (w : World) : Type 0 where
    pub happened : List (ℕ × Happening)
    pub honest : AreHonest service seed n w happened
    pub plain : ArePlain happened
    pub named : EachTask (NamesAnother n) happened
    pub stands : Stands c (after_happenings service seed n w happened)

  -- happenings, and then others
  pub follows_both : (c : Cluster K) (w : World) (xs : List (ℕ × Happening)) → AreHonest service seed n w xs → ArePlain xs → EachTask (NamesAnother n) xs
      → Follows c (after_happenings service seed n w xs) → Follows c w
  follows_both c w xs honest plain named f = record {
    happened = xs ++ f.happened;
    honest = honest_both service seed n w xs f.happened honest f.honest;
    plain = each_both (λ m task. IsPlainTask task) xs f.happened plain f.plain;
    named = each_both (NamesAnother n) xs f.happened named f.named;
    stands = subst (λ (v : World). Stands c v) (sym (after_both service seed n w xs f.happened)) f.stands;
  }

  pub all_follow : (ts : List (ℕ × Transition K)) (c : Cluster K) (w : World) → Stands c w → AllMayHappen records faults service seed n c ts
      → Follows (after_transitions records faults c ts) w
  all_follow [] c w s h = record { happened = []; honest = tt; plain = tt; named = tt; stands = s }
  all_follow (t ∷ ts) c w s h =
      let g : Steps c w t.0 t.1 = step_of_cluster c w s t.0 h.0 t.1 h.1 in
      follows_both (after_transitions records faults (goes_on records faults c t.0 t.1) ts) w (each_at t.0 g.happened) g.goes.honest g.goes.plain g.goes.named
      (all_follow ts (goes_on records faults c t.0 t.1) (after_happenings service seed n w (each_at t.0 g.happened)) (stands_then c w s t.0 h.0 t.1 g) h.2)

-- ---- the beginning

-- the first so many processes die
abbrev dying : ℕ → List (ℕ × Happening)
dying zero = []
dying (suc k) = (suc k, Dies) ∷ dying k

-- a node before anything happens
abbrev fresh : Here
fresh = new_node

new_at : (k m : ℕ) → IsNode k m → node_at (replicate k fresh) m ≡ fresh
new_at zero m h = absurd (omega (arith, h.0, h.1))
new_at (suc k) m h = by (m == 1) refl (new_at k (m - 1))
  where
    by : (t : Bool) → (m == 1) ≡ t → (IsNode k (m - 1) → node_at (replicate k fresh) (m - 1) ≡ fresh)
        → (if t then fresh else node_at (replicate k fresh) (m - 1)) ≡ fresh
    by true e before = refl
    by false e before = let apart = eqb-false m 1 e in before (omega (arith, h.0), omega (arith, h.0, h.1))

module _ (service : Declarations) (seed n : ℕ) where
  -- so many died, and the others are as they were
  record AreDown (k : ℕ) (w : World) (xs : List (ℕ × Happening)) : Type 0 where
    honest : AreHonest service seed n w xs
    plain : ArePlain xs
    named : EachTask (NamesAnother n) xs
    many : length (after_happenings service seed n w xs).nodes ≡ n
    down : (m : ℕ) → IsNode k m → node_at (after_happenings service seed n w xs).nodes m ≡ down_node [] None
    others : (m : ℕ) → k < m → node_at (after_happenings service seed n w xs).nodes m ≡ node_at w.nodes m

  all_down : (k : ℕ) (w : World) → k ≤ n → length w.nodes ≡ n → ((m : ℕ) → IsNode k m → node_at w.nodes m ≡ fresh) → AreDown k w (dying k)
  all_down zero w few many new = record { honest = tt; plain = tt; named = tt; many = many; down = λ m h. absurd (omega (arith, h.0, h.1)); others = λ m h. refl }
  all_down (suc k) w few many new =
      let one : Happens service seed n (suc k) w (Dies ∷ []) (down_node [] None) [] =
      dies service seed n (suc k) w fresh (new (suc k) (omega arith, omega arith)) (omega arith, omega (arith, many, few)) refl in
      let v : World = (happens service seed n w (suc k) Dies).world in
      let rest : AreDown k v (dying k) =
      all_down k v (omega (arith, few)) (one.reaches.many ∙ many) (λ m h. one.reaches.others m (λ e. absurd (omega (arith, e, h.1))) ∙ new m (h.0, omega (arith, h.1))) in
      record {
        honest = (tt, rest.honest);
        plain = (tt, rest.plain);
        named = (tt, rest.named);
        many = rest.many;
        down = λ m h. down rest one m h (cases_eq m (suc k));
        others = λ m h. rest.others m (omega (arith, h)) ∙ one.reaches.others m (λ e. absurd (omega (arith, e, h)));
      }
    where
      down : AreDown k (happens service seed n w (suc k) Dies).world (dying k) → Happens service seed n (suc k) w (Dies ∷ []) (down_node [] None) [] → (m : ℕ)
          → IsNode (suc k) m
          → (m ≡ suc k) ⊎ (m ≡ suc k → ⊥)
          → node_at (after_happenings service seed n (happens service seed n w (suc k) Dies).world (dying k)).nodes m ≡ down_node [] None
      down rest one m h (inl e) =
          subst (λ (j : ℕ). node_at (after_happenings service seed n (happens service seed n w (suc k) Dies).world (dying k)).nodes j ≡ down_node [] None) (sym e)
          (rest.others (suc k) (omega arith) ∙ one.reaches.own)
      down rest one m h (inr apart) = rest.down m (h.0, omega (arith, h.1, apart))

pub begins : {K : Type 0} → (records : K → List (List ℕ)) (faults : K → ℕ) (service : Declarations) (seed n : ℕ)
    → Follows records faults service seed n beginning (world_beginning n)
begins {K} records faults service seed n =
    let d : AreDown service seed n n (world_beginning n) (dying n) = all_down service seed n n (world_beginning n) (omega arith) (long n) (λ m h. new_at n m h) in
    record {
      happened = dying n;
      honest = d.honest;
      plain = d.plain;
      named = d.named;
      stands = record { many = d.many; each = d.down; told = λ x i. absurd i };
    }
  where
    long : (k : ℕ) → length (replicate k fresh) ≡ k
    long zero = refl
    long (suc k) = ap suc (long k)

-- whatever happens to processes that begin without records
pub clusters_follow : {K : Type 0} → (records : K → List (List ℕ)) (faults : K → ℕ) (service : Declarations) (seed n : ℕ) (ts : List (ℕ × Transition K))
    → AllMayHappen records faults service seed n beginning ts
    → Follows records faults service seed n (after_transitions records faults beginning ts) (world_beginning n)
clusters_follow records faults service seed n ts h =
    let b = begins records faults service seed n in
    follows_both records faults service seed n (after_transitions records faults beginning ts) (world_beginning n) b.happened b.honest b.plain b.named
    (all_follow records faults service seed n ts beginning (after_happenings service seed n (world_beginning n) b.happened) b.stands h)

pub clusters_happen : {K : Type 0} → (records : K → List (List ℕ)) (faults : K → ℕ) (service : Declarations) (seed n : ℕ) (ts : List (ℕ × Transition K))
    → AllMayHappen records faults service seed n beginning ts
    → HasHappened records faults service seed n (after_transitions records faults beginning ts)
clusters_happen records faults service seed n ts h =
    let f = clusters_follow records faults service seed n ts h in
    record { happened = f.happened; honest = f.honest; plain = f.plain; named = f.named; stands = f.stands }
