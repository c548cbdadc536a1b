-- Answers, one behind the other.
use Rattle.std.proofs.Common.{◌≡◌, ℕ, true, List, [], ◌∷◌, ◌++◌, Result, refl, sym, ap, subst, ◌∙◌, append_assoc}
use Rattle.std.specs.Prelude.{OnOk}
use Rattle.std.proofs.lemmas.List.{append-nil}
use Rattle.std.proofs.lemmas.Result.{on_ok_weaker}
use Rattle.rex_frames.specs.declared.asking.Asked.{Asked}
use Rattle.rex_frames.specs.Frames.{front_of}
use Rattle.rex_frames.specs.Frames.AtFront.{Whole}
use Rattle.rex_process.specs.Process.{ProcessValue, IsSame}
use Rattle.rex_serve.specs.Answering.{Answered, AnswersFrame, IsFlushed, asked_of, standing_frame}
use Rattle.rex_serve.specs.Serving.{AnswersFrames, GrowsBy, Serves}
use Rattle.rex_serve.proofs.Flushed.{flushed_join, flushed_none}
use Rattle.rex_serve.proofs.Fronts.{begins_join, begins_more}

module _ {K : Type 0} (records : K → List (List ℕ)) (faults : K → ℕ) where
  -- what came of what a frame asks for, and then what the node is, are the answer to the frame
  pub answers_frame : {T E : Type 0} (p q : ProcessValue K) (frame before middle now : List ℕ) (asked : Asked) (r : Result T E) → asked ≡ asked_of p frame → IsSame p q
      → GrowsBy (Answered records faults p q asked) before middle → OnOk r (now ≡ middle ++ standing_frame records q) → OnOk r (GrowsBy (AnswersFrame records faults p q frame) before now)
  answers_frame p q frame before middle now asked r is same grows told =
      let status : List ℕ = standing_frame records q in
      on_ok_weaker r (λ (e : now ≡ middle ++ status). record {
        more = grows.more ++ status;
        grown = e ∙ ap (λ (t : List ℕ). t ++ status) grows.grown ∙ append_assoc before grows.more status;
        holds = record { answer = grows.more; answered = subst (λ a. Answered records faults p q a grows.more) is grows.holds; same = same; told = refl };
      }) told

  -- flushes, and then frames are answered
  flushed_first : (p m q : ProcessValue K) (frames : List (List ℕ)) (out : List ℕ) → IsFlushed records p m → AnswersFrames records faults m q frames out
      → AnswersFrames records faults p q frames out
  flushed_first p m q [] out f h = (flushed_join records p m q f h.0, h.1)
  flushed_first p m q (frame ∷ frames) out f h = (
    h.0,
    h.1,
    h.2,
    record { first = h.3.first; flushed = flushed_join records p m h.3.first f h.3.flushed; up = h.3.up; answers = h.3.answers },
    h.4,
    h.5,
  )

  -- frames are answered, and then others
  pub answers_join : (p m q : ProcessValue K) (frames others : List (List ℕ)) (out more : List ℕ) → AnswersFrames records faults p m frames out → AnswersFrames records faults m q others more
      → AnswersFrames records faults p q (frames ++ others) (out ++ more)
  answers_join p m q [] others out more h k =
      subst (λ t. AnswersFrames records faults p q others t) (sym (ap (λ (t : List ℕ). t ++ more) h.1)) (flushed_first p m q others more h.0 k)
  answers_join p m q (frame ∷ frames) others out more h k = (
    h.0,
    h.1,
    h.2 ++ more,
    h.3,
    answers_join h.0 m q frames others h.2 more h.4 k,
    ap (λ (t : List ℕ). t ++ more) h.5 ∙ append_assoc h.1 h.2 more,
  )

  -- nothing is answered
  pub serves_none : (p : ProcessValue K) (input : List ℕ) → Serves records faults p p input input []
  serves_none p input = record { frames = []; read = refl; answered = (flushed_none records p, refl) }

  -- more frames of what is left were served
  pub serves_on : (p m q : ProcessValue K) (input left out end more : List ℕ) → Serves records faults p m input left out → Serves records faults m q left end more
      → Serves records faults p q input end (out ++ more)
  serves_on p m q input left out end more h k = record {
    frames = h.frames ++ k.frames;
    read = begins_join input h.frames k.frames left end h.read k.read;
    answered = answers_join p m q h.frames k.frames out more h.answered k.answered;
  }

  -- a flush behind frames
  pub serves_flushed : (p m q : ProcessValue K) (input left out : List ℕ) → Serves records faults p m input left out → IsFlushed records m q
      → Serves records faults p q input left out
  serves_flushed p m q input left out h f = record { frames = h.frames; read = h.read; answered = then_flushed p h.frames out h.answered }
    where
      then_flushed : (s : ProcessValue K) (frames : List (List ℕ)) (t : List ℕ) → AnswersFrames records faults s m frames t → AnswersFrames records faults s q frames t
      then_flushed s [] t k = (flushed_join records s m q k.0 f, k.1)
      then_flushed s (frame ∷ frames) t k = (k.0, k.1, k.2, k.3, then_flushed k.0 frames k.2 k.4, k.5)

  -- what is left of an input was served, and then more bytes behind it
  pub serves_join : (p m q : ProcessValue K) (input left out piece end more : List ℕ) → Serves records faults p m input left out → Serves records faults m q (left ++ piece) end more
      → Serves records faults p q (input ++ piece) end (out ++ more)
  serves_join p m q input left out piece end more h k =
      serves_on p m q (input ++ piece) (left ++ piece) out end more (record { frames = h.frames; read = begins_more input h.frames left piece h.read; answered = h.answered }) k

  -- one frame more is answered
  pub serves_more : (p m q : ProcessValue K) (input left rest frame out answer : List ℕ) → Serves records faults p m input left out → front_of left ≡ Whole frame rest → m.node.up ≡ true
      → AnswersFrame records faults m q frame answer → Serves records faults p q input rest (out ++ answer)
  serves_more p m q input left rest frame out answer h front up one =
      serves_on p m q input left out rest answer h (record {
        frames = frame ∷ [];
        read = (rest, front, refl);
        answered = (q, answer, [], record { first = m; flushed = flushed_none records m; up = up; answers = one }, (flushed_none records q, refl), sym (append-nil answer));
      })

  pub grows_more : (p m q : ProcessValue K) (input left rest frame before middle now : List ℕ) → GrowsBy (Serves records faults p m input left) before middle → front_of left ≡ Whole frame rest
      → m.node.up ≡ true → GrowsBy (AnswersFrame records faults m q frame) middle now → GrowsBy (Serves records faults p q input rest) before now
  grows_more p m q input left rest frame before middle now h front up one = record {
    more = h.more ++ one.more;
    grown = one.grown ∙ ap (λ (t : List ℕ). t ++ one.more) h.grown ∙ append_assoc before h.more one.more;
    holds = serves_more p m q input left rest frame h.more one.more h.holds front up one.holds;
  }

-- the same node as the same one
pub same_join : {K : Type 0} (p m q : ProcessValue K) → IsSame p m → IsSame m q → IsSame p q
same_join p m q h k = record { service = k.service ∙ h.service; id = k.id ∙ h.id; nodes = k.nodes ∙ h.nodes; seed = k.seed ∙ h.seed }
