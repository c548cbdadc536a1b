-- What processes of a cluster know and hear.
use Rattle.std.proofs.Common.{ℤ, take, length, ◌≡◌, ◌⊎◌, ℕ, ◌≤◌, Bool, true, false, List, [], ◌∷◌, ◌++◌, inl, inr, refl, sym, ◌∙◌, ap, subst}
use Rattle.rex_ballot.specs.Limits.{most_nodes}
use Rattle.rex_syntax.specs.declared.service.Declarations.{Declarations}
use Rattle.rex_syntax.specs.Service.{IsService}
use Rattle.rex_syntax.specs.Check.{IsChecked}
use Rattle.rex_reads.specs.declared.seen.Read.TheVariants as answer
use Rattle.rex_state.specs.Value.{StateValue}
use Rattle.rex_msg.specs.declared.message.Message.{Message}
use Rattle.rex_log.specs.Log.{log_of}
use Rattle.rex_log.specs.Messages.{message_in}
use Rattle.rex_cluster.specs.Records.{Rec, known}
use Rattle.rex_cluster.specs.Quorum.{IsNode}
use Rattle.rex_cluster.specs.Node.{is_active}
use Rattle.rex_cluster.specs.Invariant.{IsIn, Begins}
use Rattle.rex_cluster.specs.Values.{Value, state_after, trace_of, values_fit}
use Rattle.rex_cluster.specs.Lanes.{Here}
use Rattle.rex_cluster.specs.World.{World, node_at, beginning as world_beginning}
use Rattle.rex_cluster.specs.Reading.{read_at, value_in}
use Rattle.rex_cluster.specs.Agreed.{known_at}
use Rattle.rex_cluster.proofs.Replies.{fits_run}
use Rattle.rex_safety.specs.Once.{IsOnce}
use Rattle.rex_safety.proofs.Nexts.{next_fits}
use Rattle.rex_safety.proofs.Onces.{is_once}
use Rattle.rex_safety.proofs.Seen.{ToldBy, told_by}
use Rattle.rex_processes.specs.Processes.{Happening, AreHonest, processes_after}
use Rattle.rex_processes.specs.Processes.Task.{Hear as ToHear}
use Rattle.rex_processes.specs.Tested.{MayBeHeard}
use Rattle.rex_processes.proofs.Happenings.{processes_grow, processes_ok, processes_prefix}
use Rattle.rex_processes.proofs.Sending.{messages_good}
use Rattle.rex_process.specs.Process.{ProcessValue, HasToFit, here}
use Rattle.rex_serve.specs.Standing.{IsNodeOf}
use Rattle.rex_serve.specs.Cluster.{Member, Cluster, Transition, AllMayHappen, after_transitions, beginning, cluster_after, goes_on, records_in}
use Rattle.rex_serve.specs.Cluster.Member.{Runs, Left}
use Rattle.rex_serve.specs.Laws.{ClusterStands, IsKnownRead, IsMember, KnowOneList, MemberStands, known_in}
use Rattle.rex_serve.proofs.Happened.{after_both, honest_both}
use Rattle.rex_serve.proofs.Clusters.{Follows, all_follow, clusters_follow}

-- the world's node has the records of a process' own
pub own_log : (own x : Here) → IsNodeOf own x → x.log ≡ own.log
own_log own x h = by own.up refl
  where
    by : (t : Bool) → own.up ≡ t → x.log ≡ own.log
    by true u = ap (λ (y : Here). y.log) (h.up u)
    by false u = ap (λ (y : Here). y.log) (h.down u)

module _ {K : Type 0} (records : K → List (List ℕ)) (faults : K → ℕ) (service : Declarations) (seed n : ℕ) where
  -- a process knows what the world's node knows
  member_knows : (m : ℕ) (x : Member K) (y : Here) → MemberStands records faults service seed n m x y → y.log ≡ log_of service [] (records_in records x)
  member_knows m (Runs p) y h = own_log (here records p) y h.1 ∙ ap (λ (s : Declarations). log_of s [] (records p.node.keeper)) h.0.service_is
  member_knows m (Left kept) y h = ap (λ (z : Here). z.log) h

  pub knows : (c : Cluster K) (w : World) → ClusterStands records faults service seed n c w → (m : ℕ) → IsNode n m
      → known_at w m ≡ known_in records faults service c m
  knows c w s m min = ap (λ (l : List (Rec Value StateValue)). known l) (member_knows m (c.members m) (node_at w.nodes m) (s.each m min))

  -- ---- two moments

  transitions_both : (c : Cluster K) (ts more : List (ℕ × Transition K))
      → after_transitions records faults c (ts ++ more) ≡ after_transitions records faults (after_transitions records faults c ts) more
  transitions_both c [] more = refl
  transitions_both c (t ∷ ts) more = transitions_both (goes_on records faults c t.0 t.1) ts more

  front_may : (c : Cluster K) (ts more : List (ℕ × Transition K)) → AllMayHappen records faults service seed n c (ts ++ more)
      → AllMayHappen records faults service seed n c ts
  front_may c [] more h = tt
  front_may c (t ∷ ts) more h = (h.0, h.1, front_may (goes_on records faults c t.0 t.1) ts more h.2)

  back_may : (c : Cluster K) (ts more : List (ℕ × Transition K)) → AllMayHappen records faults service seed n c (ts ++ more)
      → AllMayHappen records faults service seed n (after_transitions records faults c ts) more
  back_may c [] more h = h
  back_may c (t ∷ ts) more h = back_may (goes_on records faults c t.0 t.1) ts more h.2

  module _ (few : n ≤ most_nodes) (ts more : List (ℕ × Transition K)) (h : AllMayHappen records faults service seed n beginning (ts ++ more)) where
    abbrev earlier : Cluster K
    earlier = cluster_after records faults ts

    abbrev later : Cluster K
    later = cluster_after records faults (ts ++ more)

    first : Follows records faults service seed n (after_transitions records faults beginning ts) (world_beginning n)
    first = clusters_follow records faults service seed n ts (front_may beginning ts more h)

    rest : Follows records faults service seed n (after_transitions records faults (after_transitions records faults beginning ts) more) (processes_after service seed n first.happened)
    rest = all_follow records faults service seed n more (after_transitions records faults beginning ts) (processes_after service seed n first.happened) first.stands (back_may beginning ts more h)

    abbrev all : List (ℕ × Happening)
    all = first.happened ++ rest.happened

    honest : AreHonest service seed n (world_beginning n) all
    honest = honest_both service seed n (world_beginning n) first.happened rest.happened first.honest rest.honest

    knows_first : (m : ℕ) → IsNode n m → known_at (processes_after service seed n first.happened) m ≡ known_in records faults service earlier m
    knows_first = knows earlier (processes_after service seed n first.happened) first.stands

    last_stands : ClusterStands records faults service seed n later (processes_after service seed n all)
    last_stands =
        subst (λ (c : Cluster K). ClusterStands records faults service seed n c (processes_after service seed n all)) (sym (transitions_both beginning ts more))
        (subst (λ (w : World). ClusterStands records faults service seed n (after_transitions records faults (after_transitions records faults beginning ts) more) w)
        (sym (after_both service seed n (world_beginning n) first.happened rest.happened)) rest.stands)

    knows_last : (m : ℕ) → IsNode n m → known_at (processes_after service seed n all) m ≡ known_in records faults service later m
    knows_last = knows later (processes_after service seed n all) last_stands

    both_begin : (a b : ℕ) → IsNode n a → IsNode n b
        → Begins (known_at (processes_after service seed n first.happened) a) (known_at (processes_after service seed n all) b)
        → Begins (known_in records faults service earlier a) (known_in records faults service later b)
    both_begin a b ain bin h =
        subst (λ (vs : List Value). Begins vs (known_in records faults service later b)) (knows_first a ain) (subst (λ (vs : List Value). Begins (known_at (processes_after service seed n first.happened) a) vs) (knows_last b bin) h)

    one_list : (a b : ℕ) → IsNode n a → IsNode n b
        → Begins (known_in records faults service earlier a) (known_in records faults service later b) ⊎ Begins (known_in records faults service later b) (known_in records faults service earlier a)
    one_list a b ain bin = by (processes_prefix service seed n few first.happened rest.happened honest a b ain bin)
      where
        by : Begins (known_at (processes_after service seed n first.happened) a) (known_at (processes_after service seed n all) b)
            ⊎ Begins (known_at (processes_after service seed n all) b) (known_at (processes_after service seed n first.happened) a)
            → Begins (known_in records faults service earlier a) (known_in records faults service later b) ⊎ Begins (known_in records faults service later b) (known_in records faults service earlier a)
        by (inl k) = inl (both_begin a b ain bin k)
        by (inr k) =
            inr (subst (λ (vs : List Value). Begins vs (known_in records faults service earlier a)) (knows_last b bin)
            (subst (λ (vs : List Value). Begins (known_at (processes_after service seed n all) b) vs) (knows_first a ain) k))

    pub know_one_list : KnowOneList records faults service n earlier later
    know_one_list = record {
      one = one_list;
      grows = λ m min. both_begin m m min min ((processes_grow service seed n few first.happened rest.happened honest).known m);
    }

  -- ---- one moment

  module _ (few : n ≤ most_nodes) (ts : List (ℕ × Transition K)) (h : AllMayHappen records faults service seed n beginning ts) where
    follows : Follows records faults service seed n (after_transitions records faults beginning ts) (world_beginning n)
    follows = clusters_follow records faults service seed n ts h

    pub cluster_runs : (m : ℕ) → IsNode n m → values_fit service (known_in records faults service (cluster_after records faults ts) m) ≡ true
    cluster_runs m min =
        subst (λ (vs : List Value). values_fit service vs ≡ true) (knows (cluster_after records faults ts) (processes_after service seed n follows.happened) follows.stands m min)
        ((next_fits service seed n (processes_after service seed n follows.happened) (processes_ok service seed n few follows.happened follows.honest)).known m min)

    pub cluster_refuses_none : (m : ℕ) (p : ProcessValue K) (x : Message) → IsNode n m → (cluster_after records faults ts).members m ≡ Runs p → p.node.up ≡ true
        → IsIn x (cluster_after records faults ts).told
        → HasToFit records p (ToHear (message_in [] x))
    cluster_refuses_none m p x min runs up told =
        let stands : IsMember service seed n m p × IsNodeOf (here records p) (node_at (processes_after service seed n follows.happened).nodes m) =
        subst (λ (y : Member K). MemberStands records faults service seed n m y (node_at (processes_after service seed n follows.happened).nodes m)) runs (follows.stands.each m min) in
        let heard : MayBeHeard service (node_at (processes_after service seed n follows.happened).nodes m) (message_in [] x).content =
        (messages_good service seed n few follows.happened follows.honest follows.named follows.plain).heard m (message_in [] x) min (follows.stands.told x told) in
        subst (λ (s : Declarations). MayBeHeard s (here records p) (message_in [] x).content) (sym stands.0.service_is)
        (subst (λ (y : Here). MayBeHeard service y (message_in [] x).content) (stands.1.up up) heard)

    pub cluster_happens_once : IsService service → IsChecked service → (m : ℕ) → IsNode n m
        → IsOnce (trace_of (known_in records faults service (cluster_after records faults ts) m))
    cluster_happens_once good checked m min =
        let r = fits_run service (known_in records faults service (cluster_after records faults ts) m) (cluster_runs m min) in
        is_once service good checked (trace_of (known_in records faults service (cluster_after records faults ts) m)) r.0 r.1

    pub cluster_tells_known : (m : ℕ) (p : ProcessValue K) → IsNode n m → (cluster_after records faults ts).members m ≡ Runs p
        → (variable seen : ℕ) (value : ℤ) (number : ℕ) → read_at p.service (here records p) variable seen ≡ answer.Value value number
        → IsKnownRead records faults service (known_in records faults service (cluster_after records faults ts) m) variable seen value number
    cluster_tells_known m p min runs variable seen value number tells =
        subst (λ (vs : List Value). IsKnownRead records faults service vs variable seen value number) (sym knows_is) (record {
          forward = subst (λ (k : ℕ). seen ≤ k) (sym told.number_is) told.enough;
          there = subst (λ (k : ℕ). k ≤ length (known own.log)) (sym told.number_is) low;
          shown = told.value_is ∙ ap (λ (k : ℕ). value_in (state_after service (trace_of (take k (known own.log)))) variable) (sym told.number_is);
        })
      where
        own : Here
        own = here records p

        w : World
        w = processes_after service seed n follows.happened

        stands : IsMember service seed n m p × IsNodeOf (here records p) (node_at (processes_after service seed n follows.happened).nodes m)
        stands = subst (λ (y : Member K). MemberStands records faults service seed n m y (node_at (processes_after service seed n follows.happened).nodes m)) runs (follows.stands.each m min)

        told : ToldBy own.up own.replayed (value_in (state_after service (trace_of (take own.replayed (known own.log)))) variable) seen value number
        told = told_by own.up (is_active own.role) own.replayed (value_in (state_after service (trace_of (take own.replayed (known own.log)))) variable) seen value number
            (subst (λ (d : Declarations). read_at d (here records p) variable seen ≡ answer.Value value number) stands.0.service_is tells)

        low : own.replayed ≤ length (known own.log)
        low = subst (λ (y : Here). y.replayed ≤ length (known y.log)) (stands.1.up told.is_up)
            ((processes_ok service seed n few follows.happened follows.honest).nodes m min).replayed

        knows_is : known_in records faults service (cluster_after records faults ts) m ≡ known own.log
        knows_is = sym (knows (cluster_after records faults ts) w follows.stands m min) ∙ ap (λ (y : Here). known y.log) (stands.1.up told.is_up)
