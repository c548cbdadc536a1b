-- What a process comes to that is served, among what may happen in a cluster.
use Rattle.std.proofs.Common.{◌≡◌, ℕ, Bool, List, [], ◌∷◌, ◌++◌, length, inl, inr, refl, sym, ◌∙◌, ap, subst, eq-eqb, append-nil}
use Rattle.std.proofs.Math.Seq.{take-length}
use Rattle.std.proofs.lemmas.List.Elements.{All-cons, All-nil}
use Rattle.std.specs.Prelude.{if◌then◌else◌}
use Rattle.std.specs.List.{All}
use Rattle.rex_traits.specs.Growth.{GrowsByFront}
use Rattle.rex_syntax.specs.declared.service.Declarations.{Declarations}
use Rattle.rex_msg.specs.declared.message.Message.{Message}
use Rattle.rex_cluster.specs.Quorum.{IsNode}
use Rattle.rex_cluster.specs.Invariant.{IsIn}
use Rattle.rex_frames.specs.declared.asking.Asked.{Asked}
use Rattle.rex_frames.specs.Asking.{asked_in}
use Rattle.rex_frames.specs.Frames.{AtFront}
use Rattle.rex_frames.specs.Frames.AtFront.{More, TooLong}
use Rattle.rex_node.specs.declared.step.Step.{Step}
use Rattle.rex_process.specs.Process.{ProcessValue, IsSame}
use Rattle.rex_serve.specs.declared.serving.Ended.{Ended}
use Rattle.rex_serve.specs.declared.serving.Ended.TheVariants as ended
use Rattle.rex_serve.specs.Answering.{asked_of}
use Rattle.rex_serve.specs.Serving.{AnswersFrames, AnswersNext, BeginsWith, EndsAs, HasServed, HasServedSome, HasServedTo, IsClean, Serves}
use Rattle.rex_serve.specs.Standing.{HearsOneOf, step_to}
use Rattle.rex_serve.specs.Cluster.{Cluster, Transition, AllMayHappen, AnswersSo, after_transitions, goes_on, member_after}
use Rattle.rex_serve.specs.Cluster.Member.{Runs}
use Rattle.rex_serve.specs.Cluster.Transition.{Answers, Flushes}
use Rattle.rex_serve.specs.Laws.{IsServing, MayBeFound, Moves, all_to, frames_in}
use Rattle.rex_serve.proofs.Clusters.{heard_weaker, in_front}
use Rattle.rex_serve.proofs.Flushed.{flushed_same}
use Rattle.rex_serve.proofs.Grown.{same_join, serves_flushed, serves_on}
use Rattle.rex_serve.proofs.Sent.{grows_by_more}

-- what is heard is among more messages, too
hears_more : (told more : List Message) → ((x : Message) → IsIn x told → IsIn x more) → (asked : Asked) → HearsOneOf told asked → HearsOneOf more asked
hears_more told more = heard_weaker (λ message. IsIn message told) (λ message. IsIn message more)

-- a frame asks the same process for the same
same_asked : {K : Type 0} → (p q : ProcessValue K) (frame : List ℕ) → IsSame p q → asked_of p frame ≡ asked_of q frame
same_asked p q frame s =
    ap (λ (k : ℕ). asked_in p.service p.node.id k frame) (sym s.nodes)
    ∙ (ap (λ (k : ℕ). asked_in p.service k q.node.nodes frame) (sym s.id)
    ∙ ap (λ (d : Declarations). asked_in d q.node.id q.node.nodes frame) (sym s.service))

module _ {K : Type 0} (records : K → List (List ℕ)) (faults : K → ℕ) (service : Declarations) (seed n m : ℕ) (min : IsNode n m) where
  abbrev to_it : List (Transition K) → List (ℕ × Transition K)
  to_it ts = all_to m ts

  abbrev after : Cluster K → List (Transition K) → Cluster K
  after c ts = after_transitions records faults c (to_it ts)

  abbrev May : Cluster K → List (Transition K) → Type 0
  May c ts = AllMayHappen records faults service seed n c (to_it ts)

  -- what happens to the process: it answers these frames, flushing now and then, and runs as this one in the end
  record RunsOn (frames : List (List ℕ)) (c : Cluster K) (p q : ProcessValue K) : Type 0 where
    moves : List (Transition K)
    answered : frames_in moves ≡ frames
    each : All IsServing moves
    may : May c moves
    runs : (after c moves).members m ≡ Runs q

  -- it is what it comes to by one thing
  comes_to : (c : Cluster K) (t : Transition K) → (goes_on records faults c m t).members m ≡ member_after records (c.members m) t
  comes_to c t = ap (λ (b : Bool). if b then member_after records (c.members m) t else c.members m) (eq-eqb m m refl)

  frames_move : (frames : List (List ℕ)) (c : Cluster K) (p q : ProcessValue K) (out : List ℕ) → c.members m ≡ Runs p
      → ((frame : List ℕ) → IsIn frame frames → HearsOneOf c.told (asked_of p frame))
      → AnswersFrames records faults p q frames out → RunsOn frames c p q
  frames_move [] c p q out e hears h = record {
    moves = Flushes q ∷ [];
    answered = refl;
    each = All-cons IsServing (Flushes q) [] tt (All-nil IsServing);
    may = (min, (p, e, h.0), tt);
    runs = comes_to c (Flushes q);
  }
  frames_move (frame ∷ frames) c p q out e hears h =
      let next : AnswersNext records faults p h.0 frame h.1 = h.3 in
      let flush : Transition K = Flushes next.first in
      let d : Cluster K = goes_on records faults c m flush in
      let step : Step = step_to records faults next.first h.0 frame h.1 next.answers in
      let t : Transition K = Answers frame h.0 step in
      let heard : (r : ProcessValue K) (f : List ℕ) (more : List Message) → IsSame p r → IsIn f (frame ∷ frames) → ((x : Message) → IsIn x c.told → IsIn x more) → HearsOneOf more (asked_of r f) =
      λ r f more s i k. subst (λ (a : Asked). HearsOneOf more a) (same_asked p r f s) (hears_more c.told more k (asked_of p f) (hears f i)) in
      let so : AnswersSo records faults d.told next.first h.0 frame step = record {
        up = next.up;
        hears = heard next.first frame d.told (flushed_same records p next.first next.flushed) (inl refl) (λ x k. in_front x c.told [] k);
        out = h.1;
        answers = next.answers;
        step_is = refl;
      } in
      let rest : RunsOn frames (goes_on records faults d m t) h.0 q =
      frames_move frames (goes_on records faults d m t) h.0 q h.2 (comes_to d t)
      (λ f i. heard h.0 f (d.told ++ step.sends) (same_join p next.first h.0 (flushed_same records p next.first next.flushed) next.answers.same) (inr i)
      (λ x k. in_front x d.told step.sends (in_front x c.told [] k))) h.4 in
      record {
        moves = flush ∷ t ∷ rest.moves;
        answered = ap (λ (fs : List (List ℕ)). frame ∷ fs) rest.answered;
        each = All-cons IsServing flush (t ∷ rest.moves) tt (All-cons IsServing t rest.moves tt rest.each);
        may = (min, (p, e, next.flushed), (min, (next.first, comes_to c flush, so), rest.may));
        runs = rest.runs;
      }

module _ {K : Type 0} (records kept : K → List (List ℕ)) (faults : K → ℕ) (service : Declarations) (seed n m : ℕ) (min : IsNode n m) (c : Cluster K) (p q : ProcessValue K)
    (e : c.members m ≡ Runs p) (input : List ℕ)
    (hears : (frames : List (List ℕ)) (left : List ℕ) → BeginsWith input frames left → (frame : List ℕ) → IsIn frame frames → HearsOneOf c.told (asked_of p frame)) where
  abbrev Goal : Ended → List ℕ → List ℕ → List (List ℕ) → Type 0
  Goal end before now found = Moves records kept faults service seed n c m p q end input before now found

  -- frames were answered, by which it came to one with these records; a front of the answers was taken
  served_moves : (end : Ended) (r : ProcessValue K) (left out before now : List ℕ) (found : List (List ℕ)) → Serves records faults p r input left out
      → found ≡ records r.node.keeper → (IsClean end → r ≡ q) → GrowsByFront before now out → Goal end before now found
  served_moves end r left out before now found s found_are clean taken =
      let g : RunsOn records faults service seed n m min s.frames c p r = frames_move records faults service seed n m min s.frames c p r out e (hears s.frames left s.read) s.answered in
      record {
        moves = g.moves;
        left = left;
        begins = subst (λ (fs : List (List ℕ)). BeginsWith input fs left) (sym g.answered) s.read;
        each = g.each;
        may = g.may;
        last = r;
        comes = g.runs;
        found_are = sym found_are;
        clean = clean;
        out = out;
        answers = subst (λ (fs : List (List ℕ)). AnswersFrames records faults p r fs out) (sym g.answered) s.answered;
        taken = taken;
      }

  all_moves : (end : Ended) (r : ProcessValue K) (left before now : List ℕ) (found : List (List ℕ)) → HasServed records kept faults p r input left before now
      → found ≡ records r.node.keeper → (IsClean end → r ≡ q) → Goal end before now found
  all_moves end r left before now found h found_are clean =
      served_moves end r left h.out before now found h.served found_are clean (length h.out, h.taken ∙ ap (λ (t : List ℕ). before ++ t) (sym (take-length h.out)))

  to_moves : (end : Ended) (front : AtFront) (before now : List ℕ) (found : List (List ℕ)) → HasServedTo records kept faults front p q input before now → found ≡ kept q.node.keeper
      → Goal end before now found
  to_moves end front before now found h may = all_moves end q h.left before now found h.served (may ∙ h.served.settled) (λ clean. refl)

  some_moves : (end : Ended) (left before now : List ℕ) (found : List (List ℕ)) → HasServedSome records kept faults p q input left before now → found ≡ kept q.node.keeper
      → Goal end before now found
  some_moves end left before now found h may = served_moves end q left h.out before now found h.served (may ∙ h.settled) (λ clean. refl) h.taken

  down_moves : (before now : List ℕ) (found : List (List ℕ)) (h : EndsAs records kept faults ended.Down p q input before now)
      → MayBeFound records kept faults ended.Down p q input before now h found → Goal ended.Down before now found
  down_moves before now found h (inl lost) = all_moves ended.Down h.middle h.left before now found h.told lost (λ clean. absurd clean)
  down_moves before now found h (inr settled) =
      served_moves ended.Down q h.after.left (h.told.out ++ h.after.out) before now found
      (serves_on records faults p h.middle q input h.left h.told.out h.after.left h.after.out h.told.served
      (serves_flushed records faults h.middle h.after.last q h.left h.after.left h.after.out h.after.served h.after.flushed)) settled (λ clean. absurd clean)
      (grows_by_more before now now h.told.out h.after.out h.told.taken (0, sym (append-nil now)))

  short_moves : (before now : List ℕ) (found : List (List ℕ)) → EndsAs records kept faults ended.OutOfMemory p q input before now → found ≡ kept q.node.keeper
      → Goal ended.OutOfMemory before now found
  short_moves before now found (inl h) may = all_moves ended.OutOfMemory h.middle h.left before now found h.told (may ∙ h.after.kept_are) (λ clean. absurd clean)
  short_moves before now found (inr h) may = some_moves ended.OutOfMemory h.0 before now found h.1 may

  -- however serving ended
  pub serving_moves : (end : Ended) (before now : List ℕ) (h : EndsAs records kept faults end p q input before now) (found : List (List ℕ))
      → MayBeFound records kept faults end p q input before now h found → Goal end before now found
  serving_moves ended.Over before now h found may = to_moves ended.Over More before now found h may
  serving_moves ended.TooOften before now h found may = to_moves ended.TooOften More before now found h may
  serving_moves ended.Unread before now h found may = to_moves ended.Unread More before now found h may
  serving_moves ended.TooLong before now h found may = to_moves ended.TooLong TooLong before now found h may
  serving_moves ended.Down before now h found may = down_moves before now found h may
  serving_moves ended.Unwritten before now h found may = some_moves ended.Unwritten h.0 before now found h.1 may
  serving_moves ended.OutOfMemory before now h found may = short_moves before now found h may
