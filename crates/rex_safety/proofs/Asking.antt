-- Each candidacy asks from one instance on, and what is promised to it, and what it counted, covers what was accepted from there on.
use Rattle.std.proofs.Common.{◌≡◌, ℕ, suc, ◌<◌, ◌≤◌, ◌≢◌, Bool, true, false, cond, ◌||◌, ◌⊎◌, List, [], ◌∷◌, length, eqb, refl, sym, ◌∙◌, ap, subst, inl, inr, arith, le_trans, le_refl, suc-le-suc, eqb-true, eq-eqb}
use Rattle.std.proofs.lemmas.Bool.{ne_eqb, eqb-false}
use Rattle.rex_ballot.specs.Limits.{most_nodes}
use Rattle.rex_state.specs.Value.{StateValue}
use Rattle.rex_report.specs.declared.effect.Effect.TheVariants as effect
use Rattle.rex_cluster.specs.Records.{Rec, Proposal, promise, accepted, known, HasAccepted, HasBallot}
use Rattle.rex_cluster.specs.Records.Rec.{Accepted}
use Rattle.rex_cluster.specs.Quorum.{IsNode, Logs, node_of, ballot_above, is_in}
use Rattle.rex_cluster.specs.Node.{Service, Content, Message, Lead, Role}
use Rattle.rex_cluster.specs.Node.Content.{Prepare, Promise, Accept, Accepted as Voted, Chosen as Chose, Nack, Ask, Snapshot}
use Rattle.rex_cluster.specs.Node.Role.{Follower, Leads}
use Rattle.rex_cluster.specs.Calls.{begin, say, own_reports, elect}
use Rattle.rex_cluster.specs.Invariant.{IsIn, Covers, AreRecords, Grows, LeadsRightly, IsRightRole, IsJustified}
use Rattle.rex_cluster.specs.Values.{Value}
use Rattle.rex_cluster.specs.Lanes.{Here, CallHere}
use Rattle.rex_cluster.specs.World.{World, node_at, put, logs, after, at_node}
use Rattle.rex_safety.specs.Kept.{IsWorld}
use Rattle.rex_cluster.proofs.Lists.{in_cases, in_from_on, from_on_late, offset_known, accepted_real, accepted_covers, from_on_covers}
use Rattle.rex_cluster.proofs.Grow.{begins_length}
use Rattle.rex_cluster.proofs.Step.{acc_below, has_below}
use Rattle.rex_cluster.proofs.Roles.{heard_grows}
use Rattle.rex_cluster.proofs.Calls.{above_promise, above_owned}
use Rattle.rex_safety.proofs.Nodes.{node_put, put_none}
use Rattle.rex_safety.proofs.Worlds.{GoesOnTo, node_or_not, at_either}
use Rattle.rex_safety.proofs.Candidacies.{RoleHas, IsPlain, AreSent, Votes, elect_votes, Cast}

module _ {V : Type 0} where
  -- each is of an instance after so many
  abbrev pub AreLater : ℕ → List (Proposal V) → Type 0
  AreLater done ps = (p : Proposal V) → IsIn p ps → done < p.instance

module _ {V S : Type 0} where
  -- for instances after so many the list covers what a node accepted below b
  abbrev pub CoversFrom : Logs V S → ℕ → ℕ → List (Proposal V) → ℕ → Type 0
  CoversFrom L done b ps q = (c i : ℕ) (w : V) → done < i → c < b → HasAccepted c i w (L q) → Covers ps i c

  covers_grow : {L M : Logs V S} → Grows L M → (done b : ℕ) (ps : List (Proposal V)) (q : ℕ) → HasBallot b (L q) → CoversFrom L done b ps q → CoversFrom M done b ps q
  covers_grow g done b ps q has h = (heard_grows g done done b ps q (le_refl _) (record { promised = has; covers = h })).covers

  -- an acceptance of the node itself for the instance, at ballot c or above, but not above b, is in the list
  pub record HasOwn (L : Logs V S) (b : ℕ) (ps : List (Proposal V)) (i c q : ℕ) : Type 0 where
    pub it : Proposal V
    pub inside : IsIn it ps
    pub at : it.instance ≡ i
    pub above : c ≤ it.ballot
    pub below : it.ballot ≤ b
    pub own : HasAccepted it.ballot it.instance it.value (L q)

  abbrev pub OwnFrom : Logs V S → ℕ → ℕ → List (Proposal V) → ℕ → Type 0
  OwnFrom L done b ps q = (c i : ℕ) (w : V) → done < i → c < b → HasAccepted c i w (L q) → HasOwn L b ps i c q

  own_grow : {L M : Logs V S} → Grows L M → (done b : ℕ) (ps : List (Proposal V)) (q : ℕ) → HasBallot b (L q) → OwnFrom L done b ps q → OwnFrom M done b ps q
  own_grow {L} {M} g done b ps q has h c i w lt lb a = go ((g.at q).fresh c i w a)
    where
      go : HasAccepted c i w (L q) ⊎ (promise (L q) ≤ c) → HasOwn M b ps i c q
      go (inl old) = let t = h c i w lt lb old in record { it = t.it; inside = t.inside; at = t.at; above = t.above; below = t.below; own = (g.at q).keeps t.it.ballot t.it.instance t.it.value t.own }
      go (inr x) = absurd (omega (arith, x, lb, has_below b (L q) has))

  -- what was reported has, from the candidacy's first instance on, what each counted node accepted last; it is of no ballot above its own; and its node knows no less than when it asked
  pub record VotesCover (n : ℕ) (L : Logs V S) (first : ℕ → ℕ) (b : ℕ) (counted : List ℕ) (reported : List (Proposal V)) : Type 0 where
    pub covers : (q : ℕ) → IsNode n q → is_in q counted ≡ true → OwnFrom L (first b) b reported q
    pub low : (p : Proposal V) → IsIn p reported → p.ballot ≤ b
    pub later : AreLater (first b) reported
    pub asked : first b ≤ length (known (L (node_of b)))

  -- a prepare is its candidacy's, and a promise lists what its sender accepted from there on
  abbrev pub IsMeant : Logs V S → (ℕ → ℕ) → ℕ → Content V → Type 0
  IsMeant L first from (Prepare b i) = (from ≡ node_of b) × (i ≡ suc (first b))
  IsMeant L first from (Promise b ps) = CoversFrom L (first b) b ps from × AreLater (first b) ps
  IsMeant L first from _ = Unit {0}

  plain_meant : (L : Logs V S) (first : ℕ → ℕ) (from : ℕ) (c : Content V) → IsPlain c → IsMeant L first from c
  plain_meant L first from (Prepare b i) p = absurd p
  plain_meant L first from (Promise b ps) p = absurd p
  plain_meant L first from (Accept b i v) p = tt
  plain_meant L first from (Voted b i) p = tt
  plain_meant L first from (Chose i v) p = tt
  plain_meant L first from (Nack b i) p = tt
  plain_meant L first from (Ask i) p = tt
  plain_meant L first from (Snapshot values) p = tt

  -- it stays so with more records, and with another first instance for a ballot that none of it has
  meant_grows : {L M : Logs V S} → Grows L M → (n : ℕ) (first then_first : ℕ → ℕ) (from : ℕ) (c : Content V) → IsJustified n L from c
      → ((b : ℕ) → IsNode n (node_of b) → b ≤ promise (L (node_of b)) → then_first b ≡ first b) → ((q b : ℕ) → IsNode n q → HasBallot b (L q) → then_first b ≡ first b) → IsMeant L first from c → IsMeant M then_first from c
  meant_grows g n first then_first from (Prepare b i) j old seen h = (h.0, h.1 ∙ ap suc (sym (old b j.1 j.2)))
  meant_grows {L} {M} g n first then_first from (Promise b ps) j old seen h =
      let same = sym (seen from b j.from-in j.heard.promised) in
      (subst (λ k. CoversFrom M k b ps from) same (covers_grow g (first b) b ps from j.heard.promised h.0), subst (λ k. AreLater k ps) same h.1)
  meant_grows g n first then_first from (Accept b i v) j old seen h = tt
  meant_grows g n first then_first from (Voted b i) j old seen h = tt
  meant_grows g n first then_first from (Chose i v) j old seen h = tt
  meant_grows g n first then_first from (Nack b i) j old seen h = tt
  meant_grows g n first then_first from (Ask i) j old seen h = tt
  meant_grows g n first then_first from (Snapshot values) j old seen h = tt

  votes_grow : {L M : Logs V S} → Grows L M → (n : ℕ) (first then_first : ℕ → ℕ) (log : List (Rec V S)) (q : ℕ) (r : Role V) → IsRightRole n L log q r
      → ((l : Lead V) → r ≡ Leads l → then_first l.ballot ≡ first l.ballot) → RoleHas (VotesCover n L first) r → RoleHas (VotesCover n M then_first) r
  votes_grow g n first then_first log q Follower j same h = tt
  votes_grow {L} {M} g n first then_first log q (Leads l) j same h = record {
    covers = λ p min i. subst (λ k. OwnFrom M k l.ballot l.reported p) (sym (same l refl)) (own_grow g (first l.ballot) l.ballot l.reported p (j.heard p min i).promised (h.covers p min i));
    low = h.low;
    later = subst (λ k. AreLater k l.reported) (sym (same l refl)) h.later;
    asked = let k = begins_length (known (L (node_of l.ballot))) (known (M (node_of l.ballot))) (g.at (node_of l.ballot)).learns in omega (arith, h.asked, k, same l refl);
  }

-- the first instance of each candidacy, by its ballot, less one, and what holds of it
pub record Candidacies (n : ℕ) (first : ℕ → ℕ) (w : World) : Type 0 where
  pub messages : (x : Message Value) → IsIn x w.messages → IsMeant (logs w) first x.from x.content
  pub roles : (q : ℕ) → IsNode n q → RoleHas (VotesCover n (logs w) first) (node_at w.nodes q).role

pub record HasCandidacies (n : ℕ) (w : World) : Type 0 where
  pub first : ℕ → ℕ
  pub holds : Candidacies n first w

module _ (n : ℕ) (sv : Service Value StateValue) (w : World) (ok : IsWorld n sv w) (first : ℕ → ℕ) (cand : Candidacies n first w) where
  -- a call that keeps first instances
  module _ (m : ℕ) (e : CallHere) (goes : GoesOnTo n sv w (after w m e).world) where
    abbrev pub L : Logs Value StateValue
    L = logs (after w m e).world

    abbrev pub P : ℕ → List ℕ → List (Proposal Value) → Type 0
    P b counted reported = VotesCover n L first b counted reported

    abbrev pub Q : Message Value → Type 0
    Q x = IsMeant L first x.from x.content

    pub plain : (x : Message Value) → IsPlain x.content → Q x
    plain x p = plain_meant L first x.from x.content p

    pub old_message : (x : Message Value) → IsIn x w.messages → Q x
    old_message x i = meant_grows goes.1 n first first x.from x.content (ok.cluster.messages x i) (λ b a l. refl) (λ q b a l. refl) (cand.messages x i)

    pub old_role : (q : ℕ) → IsNode n q → RoleHas P (node_at w.nodes q).role
    old_role q min = votes_grow goes.1 n first first (logs w q) q (node_at w.nodes q).role (ok.cluster.roles q min) (λ l e. refl) (cand.roles q min)

    pub after_cand : (IsNode n m → RoleHas P e.node.role) → AreSent Q e.sends → Candidacies n first (after w m e).world
    after_cand r s = record { messages = λ x i. message x (in_cases x w.messages e.sends i); roles = role }
      where
        message : (x : Message Value) → IsIn x w.messages ⊎ IsIn x e.sends → Q x
        message x (inl i) = old_message x i
        message x (inr i) = s x i

        role : (q : ℕ) → IsNode n q → RoleHas P (node_at (put w.nodes m e.node) q).role
        role q min = go (node_or_not n m)
          where
            place : IsNode n m → (t : Bool) → RoleHas P (cond t e.node (node_at w.nodes q)).role
            place l true = r l
            place l false = old_role q min

            go : IsNode n m ⊎ (IsNode n m → ⊥) → RoleHas P (node_at (put w.nodes m e.node) q).role
            go (inl l) = subst (λ (x : Here). RoleHas P x.role) (sym (node_put w.nodes m e.node q (subst (λ k. IsNode k m) (sym ok.many) l))) (place l (eqb q m))
            go (inr none) = subst (λ (xs : List Here). RoleHas P (node_at xs q).role) (sym (put_none w.nodes m e.node (λ l. none (subst (λ k. IsNode k m) ok.many l)))) (old_role q min)

    -- a call that begins with nothing sent
    pub begun : IsNode n m → Cast P Q n sv m plain (begin (node_at w.nodes m))
    begun min = record { role = old_role m min; log = tt; sends = λ x i. absurd i }

    pub cast_cand : (IsNode n m → Cast P Q n sv m plain e) → e.sends ≡ [] ⊎ IsNode n m → Candidacies n first (after w m e).world
    cast_cand c (inl s) = after_cand (λ min. (c min).role) (λ x i. absurd (subst (IsIn x) s i))
    cast_cand c (inr min) = after_cand (λ l. (c l).role) (c min).sends

  -- ---- steps

  pub at_cand : (m : ℕ) (call : CallHere → CallHere) → GoesOnTo n sv w (at_node w m call).world
      → (GoesOnTo n sv w (after w m (call (begin (node_at w.nodes m)))).world → IsNode n m → HasCandidacies n (after w m (call (begin (node_at w.nodes m)))).world) → HasCandidacies n (at_node w m call).world
  at_cand m call goes k =
      at_either n w ok.many m call (λ r. GoesOnTo n sv w r.world → HasCandidacies n r.world) (λ g. record { first = first; holds = cand }) (λ min g. k g min) goes

  -- of a call that asks for no promises and gives none
  pub at_cast : (m : ℕ) (call : CallHere → CallHere) → GoesOnTo n sv w (at_node w m call).world
      → ((goes : GoesOnTo n sv w (after w m (call (begin (node_at w.nodes m)))).world) → IsNode n m
      → Cast (P m (call (begin (node_at w.nodes m))) goes) (Q m (call (begin (node_at w.nodes m))) goes) n sv m (plain m (call (begin (node_at w.nodes m))) goes) (call (begin (node_at w.nodes m))))
      → HasCandidacies n (at_node w m call).world
  at_cast m call goes k = at_cand m call goes (λ g min. record { first = first; holds = cast_cand m (call (begin (node_at w.nodes m))) g (λ l. k g l) (inr min) })

  -- ---- elections

  module _ (m : ℕ) (min : IsNode n m) (few : n ≤ most_nodes) (goes : GoesOnTo n sv w (after w m (elect n sv m (begin (node_at w.nodes m)))).world) where
    abbrev ballot : ℕ
    ballot = ballot_above m (promise (logs w m))

    abbrev e : CallHere
    e = elect n sv m (begin (node_at w.nodes m))

    abbrev M : Logs Value StateValue
    M = logs (after w m e).world

    owner : node_of (ballot_above m (promise (logs w m))) ≡ m
    owner = above_owned m (promise (logs w m)) (omega (arith, min.1, few))

    above : promise (logs w m) < ballot_above m (promise (logs w m))
    above = above_promise m (promise (logs w m))

    -- that of the new ballot is the one after what the node knows
    abbrev then_first : ℕ → ℕ
    then_first b = cond (eqb b (ballot_above m (promise (logs w m)))) (length (known (logs w m))) (first b)

    at_new : (b : ℕ) → b ≡ ballot_above m (promise (logs w m)) → cond (eqb b (ballot_above m (promise (logs w m)))) (length (known (logs w m))) (first b) ≡ length (known (logs w m))
    at_new b x = ap (λ (t : Bool). cond t (length (known (logs w m))) (first b)) (eq-eqb b (ballot_above m (promise (logs w m))) x)

    at_old : (b : ℕ) → (b ≡ ballot_above m (promise (logs w m)) → ⊥) → cond (eqb b (ballot_above m (promise (logs w m)))) (length (known (logs w m))) (first b) ≡ first b
    at_old b x = ap (λ (t : Bool). cond t (length (known (logs w m))) (first b)) (ne_eqb b (ballot_above m (promise (logs w m))) x)

    -- no older ballot is the new one
    low_is_old : (b : ℕ) → b ≤ promise (logs w (node_of b)) → b ≡ ballot_above m (promise (logs w m)) → ⊥
    low_is_old b l x =
        let o : node_of b ≡ m = ap node_of x ∙ owner in
        let k = subst (λ q. b ≤ promise (logs w q)) o l in
        absurd (omega (arith, k, x, above))

    -- the votes of the new candidacy, its acceptances below its ballot, and what it sends
    abbrev IsNew : ℕ → List ℕ → List (Proposal Value) → Type 0
    IsNew b counted reported = (b ≡ ballot_above m (promise (logs w m))) × (counted ≡ m ∷ []) × (reported ≡ own_reports (logs w m))

    abbrev HasOld : List (Rec Value StateValue) → Type 0
    HasOld log = (c i : ℕ) (v : Value) → c < ballot_above m (promise (logs w m)) → HasAccepted c i v log → HasAccepted c i v (logs w m)

    abbrev IsAsked : Message Value → Type 0
    IsAsked x = IsPlain x.content ⊎ ((x.from ≡ m) × (x.content ≡ Prepare (ballot_above m (promise (logs w m))) (suc (length (known (logs w m))))))

    accepts : (b : ℕ) (counted : List ℕ) (reported : List (Proposal Value)) (i : ℕ) (v : Value) (log : List (Rec Value StateValue)) → IsNew b counted reported → HasOld log → HasOld (Accepted b i v ∷ log)
    accepts b counted reported i v log p t c j u l (inl x) = absurd (omega (arith, l, x.0, p.0))
    accepts b counted reported i v log p t c j u l (inr h) = t c j u l h

    elected : (elect n sv m (begin (node_at w.nodes m)) ≡ say (effect.Spent m) (begin (node_at w.nodes m))) ⊎ Votes IsNew HasOld IsAsked (elect n sv m (begin (node_at w.nodes m)))
    elected =
        elect_votes IsNew HasOld IsAsked n sv m (λ x p. inl p) (λ i v log t. t) accepts (begin (node_at w.nodes m)) (λ c i v l h. h) (λ c i v l h. h) (refl, refl, refl)
        (λ to. inr (refl, refl)) refl

    -- where no round was left nothing changed
    nothing : elect n sv m (begin (node_at w.nodes m)) ≡ say (effect.Spent m) (begin (node_at w.nodes m)) → HasCandidacies n (after w m e).world
    nothing x = record {
      first = first;
      holds = after_cand m e goes (λ l. subst (λ (d : CallHere). RoleHas (P m e goes) d.node.role) (sym x) (old_role m e goes m min)) (λ y i. absurd (subst (λ (d : CallHere). IsIn y d.sends) x i));
    }

    there : logs (after w m e).world m ≡ e.node.log
    there = ap (λ (x : Here). x.log) (node_put w.nodes m e.node m (subst (λ k. IsNode k m) (sym ok.many) min)) ∙ ap (λ (t : Bool). (cond t e.node (node_at w.nodes m)).log) (eq-eqb m m refl)

    records : AreRecords sv (logs w m)
    records = ok.cluster.safe.sorted m min

    new_role : HasOld e.node.log → (r : Role Value) → RoleHas IsNew r → RoleHas (VotesCover n M then_first) r
    new_role t Follower h = tt
    new_role t (Leads l) h = record {
      covers = λ q qin i c j v lt lb a.
          let same : q ≡ m = counted q (subst (λ qs. is_in q qs ≡ true) h.1 i) in
          let k = from_on_covers (suc (length (known (logs w m)))) (accepted (logs w m)) j c (from_known j lt)
          (accepted_covers sv (logs w m) records c j v (le_trans (suc-le-suc (offset_known sv (logs w m) records)) (from_known j lt))
          (t c j v (omega (arith, lb, h.0)) (subst (HasAccepted c j v) there (subst (λ k. HasAccepted c j v (M k)) same a)))) in
          let own = accepted_real (logs w m) k.it (in_from_on (suc (length (known (logs w m)))) k.it (accepted (logs w m)) k.inside) in
          let low = acc_below k.it.ballot k.it.instance k.it.value (logs w m) own in
          subst (HasOwn M l.ballot l.reported j c) (sym same)
          (record {
            it = k.it;
            inside = subst (IsIn k.it) (sym h.2) k.inside;
            at = k.at;
            above = k.above;
            below = omega (arith, low, above, h.0);
            own = (goes.1.at m).keeps k.it.ballot k.it.instance k.it.value own;
          });
      low = λ p i.
          let r : IsIn p (own_reports (logs w m)) = subst (IsIn p) h.2 i in
          let a = acc_below p.ballot p.instance p.value (logs w m) (accepted_real (logs w m) p (in_from_on (suc (length (known (logs w m)))) p (accepted (logs w m)) r)) in
          omega (arith, a, above, h.0);
      later = λ p i. subst (λ k. k < p.instance) (sym (at_new l.ballot h.0)) (from_on_late (suc (length (known (logs w m)))) p (accepted (logs w m)) (subst (IsIn p) h.2 i));
      asked =
          let k = begins_length (known (logs w m)) (known (M m)) (goes.1.at m).learns in
          subst (λ q. then_first l.ballot ≤ length (known (M q))) (sym (ap node_of h.0 ∙ owner)) (omega (arith, k, at_new l.ballot h.0));
    }
      where
        counted : (q : ℕ) → is_in q (m ∷ []) ≡ true → q ≡ m
        counted q i = eqb-true q m (either (eqb q m) i)
          where
            either : (t : Bool) → t || false ≡ true → t ≡ true
            either true x = refl
            either false x = x

        from_known : (j : ℕ) → then_first l.ballot < j → suc (length (known (logs w m))) ≤ j
        from_known j lt = subst (λ k. k < j) (at_new l.ballot h.0) lt

    asked : Votes IsNew HasOld IsAsked e → HasCandidacies n (after w m e).world
    asked votes = record { first = then_first; holds = record { messages = λ x i. message x (in_cases x w.messages e.sends i); roles = role } }
      where
        sent : (x : Message Value) → IsPlain x.content ⊎ ((x.from ≡ m) × (x.content ≡ Prepare (ballot_above m (promise (logs w m))) (suc (length (known (logs w m)))))) → IsMeant M then_first x.from x.content
        sent x (inl p) = plain_meant M then_first x.from x.content p
        sent x (inr h) = subst (IsMeant M then_first x.from) (sym h.1) (h.0 ∙ sym owner, ap suc (sym (at_new (ballot_above m (promise (logs w m))) refl)))

        message : (x : Message Value) → IsIn x w.messages ⊎ IsIn x e.sends → IsMeant M then_first x.from x.content
        message x (inl i) =
            meant_grows goes.1 n first then_first x.from x.content (ok.cluster.messages x i) (λ b a l. at_old b (low_is_old b l)) (λ q b a h. at_old b (low_is_old b (ok.cluster.safe.seen q b a h).1)) (cand.messages x i)
        message x (inr i) = sent x (votes.sends x i)

        role : (q : ℕ) → IsNode n q → RoleHas (VotesCover n M then_first) (node_at (put w.nodes m e.node) q).role
        role q qin = subst (λ (x : Here). RoleHas (VotesCover n M then_first) x.role) (sym (node_put w.nodes m e.node q (subst (λ k. IsNode k m) (sym ok.many) min))) (place (eqb q m) refl)
          where
            apart : q ≢ m → (l : Lead Value) → (node_at w.nodes q).role ≡ Leads l → then_first l.ballot ≡ first l.ballot
            apart d l x =
                let j : LeadsRightly n (logs w) (logs w q) q l = subst (λ r. IsRightRole n (logs w) (logs w q) q r) x (ok.cluster.roles q qin) in
                at_old l.ballot (λ y. d (sym j.owned ∙ (ap node_of y ∙ owner)))

            place : (t : Bool) → eqb q m ≡ t → RoleHas (VotesCover n M then_first) (cond t e.node (node_at w.nodes q)).role
            place true x = new_role votes.log e.node.role votes.role
            place false x = votes_grow goes.1 n first then_first (logs w q) q (node_at w.nodes q).role (ok.cluster.roles q qin) (apart (eqb-false q m x)) (cand.roles q qin)

    pub elect_cand : HasCandidacies n (after w m e).world
    elect_cand = go elected
      where
        go : (elect n sv m (begin (node_at w.nodes m)) ≡ say (effect.Spent m) (begin (node_at w.nodes m))) ⊎ Votes IsNew HasOld IsAsked e → HasCandidacies n (after w m e).world
        go (inl x) = nothing x
        go (inr votes) = asked votes
