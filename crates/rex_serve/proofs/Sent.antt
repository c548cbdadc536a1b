-- What a sink took of the answers, and what is kept for good.
use Rattle.std.proofs.Common.{◌≡◌, ◌⊎◌, ℕ, ◌+◌, Bool, true, false, cond, List, [], ◌++◌, length, take, Result, Ok, Err, inl, inr, refl, sym, ap, subst, ◌∙◌, append_assoc, append-nil}
use Rattle.std.specs.Prelude.{◌≢◌}
use Rattle.std.proofs.Math.Seq.{take-append-add}
use Rattle.rex_traits.specs.Growth.{GrowsByFront}
use Rattle.rex_frames.specs.Frames.{AtFront, front_of, has_frame}
use Rattle.rex_frames.specs.Frames.AtFront.{Whole, More, TooLong}
use Rattle.rex_process.specs.Process.{ProcessValue}
use Rattle.rex_serve.specs.declared.serving.Ended.{Ended}
use Rattle.rex_serve.specs.declared.serving.Ended.TheVariants as ended
use Rattle.rex_serve.specs.Answering.{IsFlushed}
use Rattle.rex_serve.specs.Serving.{EndsAs, GrowsBy, HasBroken, HasServed, HasServedFirst, HasServedSome, IsServed, IsSettled, IsStop, RunsShort, Serves, StandsAs, TellsAs}
use Rattle.rex_serve.proofs.Flushed.{flushed_up}
use Rattle.rex_serve.proofs.Grown.{serves_flushed, serves_join, serves_none}

-- ---- what is left

-- where no whole frame stands at the front, and no length of a frame that is too long, there is less than a frame
only_more : (a : AtFront) → has_frame a ≡ false → a ≢ TooLong → a ≡ More
only_more (Whole frame rest) none short = absurd cc
only_more More none short = refl
only_more TooLong none short = absurd (short refl)

-- ---- how bytes grow

pub grows_by_more : (before middle now out more : List ℕ) → middle ≡ before ++ out → GrowsByFront middle now more → GrowsByFront before now (out ++ more)
grows_by_more before middle now out more e h =
    (length out + h.0, h.1 ∙ ap (λ (t : List ℕ). t ++ take h.0 more) e ∙ append_assoc before out (take h.0 more) ∙ ap (λ (t : List ℕ). before ++ t) (sym (take-append-add out more h.0)))

module _ {K : Type 0} (records kept : K → List (List ℕ)) (faults : K → ℕ) where
  -- ---- one piece

  -- the answers to bytes that were held and read were appended to none
  pub record HasAnswers (p q : ProcessValue K) (input left out : List ℕ) : Type 0 where
    pub served : Serves records faults p q input left out

  pub has_answers : (p q : ProcessValue K) (bytes input left empty out : List ℕ) → GrowsBy (Serves records faults p q bytes left) empty out → bytes ≡ input → empty ≡ [] → HasAnswers p q input left out
  has_answers p q bytes input left empty out grows is none = record {
    served =
        subst (λ b. Serves records faults p q b left out) is
        (subst (λ o. Serves records faults p q bytes left o) (sym (grows.grown ∙ ap (λ (e : List ℕ). e ++ grows.more) none)) grows.holds);
  }

  -- before it nothing was answered
  none_told : (p : ProcessValue K) (input before now : List ℕ) → IsSettled records kept p → now ≡ before → HasServed records kept faults p p input input before now
  none_told p input before now s still = record { out = []; served = serves_none records faults p input; settled = s; taken = still ∙ sym (append-nil before) }

  runs_short : (p q : ProcessValue K) (input before now : List ℕ) → IsSettled records kept p → HasBroken records faults p q input → kept q.node.keeper ≡ kept p.node.keeper → now ≡ before
      → EndsAs records kept faults ended.OutOfMemory p q input before now
  runs_short p q input before now s h waits still =
      let short : RunsShort records kept faults p q input = record { broken = h; kept_are = waits ∙ s } in
      inl (record { middle = p; left = input; told = none_told p input before now s still; after = short })

  -- there was no memory for it
  pub piece_unread : (p : ProcessValue K) (input before : List ℕ) → IsSettled records kept p → EndsAs records kept faults ended.OutOfMemory p p input before before
  piece_unread p input before s =
      runs_short p p input before before s (record { middle = p; left = input; out = []; served = serves_none records faults p input; broken = inl refl }) refl refl

  -- memory was short while it was answered
  pub piece_broken : (p q : ProcessValue K) (bytes input before : List ℕ) → IsSettled records kept p → HasBroken records faults p q bytes → kept q.node.keeper ≡ kept p.node.keeper → bytes ≡ input
      → EndsAs records kept faults ended.OutOfMemory p q input before before
  piece_broken p q bytes input before s h waits is = runs_short p q input before before s (subst (λ b. HasBroken records faults p q b) is h) waits refl

  -- its answers weren't told, or a front of them
  pub piece_untold : (e : Ended) (p m q : ProcessValue K) (input left out before now : List ℕ) → IsSettled records kept p → HasAnswers p m input left out → kept m.node.keeper ≡ kept p.node.keeper
      → IsFlushed records m q → TellsAs records kept faults m q out before now (Err e) → IsStop e × EndsAs records kept faults e p q input before now
  piece_untold e p m q input left out before now s h waits f k = by e k
    where
      served : Serves records faults p q input left out
      served = serves_flushed records faults p m q input left out h.served f

      some : IsSettled records kept q × GrowsByFront before now out → HasServedSome records kept faults p q input left before now
      some t = record { out = out; served = served; settled = t.0; taken = t.1 }

      kept_are : (kept q.node.keeper ≡ kept m.node.keeper) ⊎ IsSettled records kept q → (kept q.node.keeper ≡ records p.node.keeper) ⊎ IsSettled records kept q
      kept_are (inl same) = inl (same ∙ (waits ∙ s))
      kept_are (inr all) = inr all

      short : ((kept q.node.keeper ≡ kept m.node.keeper) × (now ≡ before)) ⊎ (IsSettled records kept q × GrowsByFront before now out)
          → EndsAs records kept faults ended.OutOfMemory p q input before now
      short (inl t) = runs_short p q input before now s (record { middle = q; left = left; out = out; served = served; broken = inl refl }) (t.0 ∙ waits) t.1
      short (inr t) = inr (left, some t)

      by : (e : Ended) → TellsAs records kept faults m q out before now (Err e) → IsStop e × EndsAs records kept faults e p q input before now
      by ended.Down t = (
        tt,
        record {
          middle = p;
          left = input;
          told = none_told p input before now s t.2;
          after = record { last = m; left = left; out = out; served = h.served; flushed = f; failed = t.0; kept_are = kept_are t.1 };
        },
      )
      by ended.Unwritten t = (tt, (left, some t))
      by ended.OutOfMemory t = (tt, short t)
      by ended.Over t = absurd t
      by ended.TooOften t = absurd t
      by ended.Unread t = absurd t
      by ended.TooLong t = absurd t

  -- all was taken, and what is left says whether more is answered
  pub piece_sent : (p m q : ProcessValue K) (input left held out before now : List ℕ) (r : Result (Unit {0}) Ended) → HasAnswers p m input left out → IsFlushed records m q
      → TellsAs records kept faults m q out before now (Ok tt) → (m.node.up ≡ true → has_frame (front_of left) ≡ false) → held ≡ left → StandsAs held r
      → IsServed records kept faults p q input held before now r
  piece_sent p m q input left held out before now r h f told all is stands = by r stands
    where
      sent : HasServed records kept faults p q input held before now
      sent = record { out = out; served = subst (λ b. Serves records faults p q input b out) (sym is) (serves_flushed records faults p m q input left out h.served f); settled = told.1; taken = told.2 }

      still_up : q.node.up ≡ true
      still_up = flushed_up records m q f ∙ told.0

      by : (r : Result (Unit {0}) Ended) → StandsAs held r → IsServed records kept faults p q input held before now r
      by (Ok ok) short = (sent, only_more (front_of held) (subst (λ b. has_frame (front_of b) ≡ false) (sym is) (all told.0)) short, still_up)
      by (Err ended.TooLong) long = (tt, record { left = held; served = sent; at_front = long; up = still_up })
      by (Err ended.Down) k = absurd k
      by (Err ended.Over) k = absurd k
      by (Err ended.TooOften) k = absurd k
      by (Err ended.Unread) k = absurd k
      by (Err ended.Unwritten) k = absurd k
      by (Err ended.OutOfMemory) k = absurd k

  -- ---- one piece behind others

  -- all answers were taken, and then those of a piece
  pub sent_join : (p m q : ProcessValue K) (input left piece held before middle now : List ℕ) → HasServed records kept faults p m input left before middle
      → HasServed records kept faults m q (left ++ piece) held middle now → HasServed records kept faults p q (input ++ piece) held before now
  sent_join p m q input left piece held before middle now h k = record {
    out = h.out ++ k.out;
    served = serves_join records faults p m q input left h.out piece held k.out h.served k.served;
    settled = k.settled;
    taken = k.taken ∙ ap (λ (t : List ℕ). t ++ k.out) h.taken ∙ append_assoc before h.out k.out;
  }

  some_join : (p m q : ProcessValue K) (input left piece end before middle now : List ℕ) → HasServed records kept faults p m input left before middle
      → HasServedSome records kept faults m q (left ++ piece) end middle now → HasServedSome records kept faults p q (input ++ piece) end before now
  some_join p m q input left piece end before middle now h k = record {
    out = h.out ++ k.out;
    served = serves_join records faults p m q input left h.out piece end k.out h.served k.served;
    settled = k.settled;
    taken = grows_by_more before middle now h.out k.out h.taken k.taken;
  }

  first_join : (Then : ProcessValue K → List ℕ → Type 0) (p m : ProcessValue K) (input left piece before middle now : List ℕ) → HasServed records kept faults p m input left before middle
      → HasServedFirst records kept faults Then m (left ++ piece) middle now → HasServedFirst records kept faults Then p (input ++ piece) before now
  first_join Then p m input left piece before middle now h k =
      record { middle = k.middle; left = k.left; told = sent_join p m k.middle input left piece k.left before middle now h k.told; after = k.after }

  -- all answers were taken, and then it ended in a piece
  pub ends_join : (e : Ended) (p m q : ProcessValue K) (input left piece before middle now : List ℕ) → HasServed records kept faults p m input left before middle → IsStop e
      → EndsAs records kept faults e m q (left ++ piece) middle now → EndsAs records kept faults e p q (input ++ piece) before now
  ends_join ended.Over p m q input left piece before middle now h stop k = absurd stop
  ends_join ended.TooOften p m q input left piece before middle now h stop k = absurd stop
  ends_join ended.Unread p m q input left piece before middle now h stop k = absurd stop
  ends_join ended.TooLong p m q input left piece before middle now h stop k =
      record { left = k.left; served = sent_join p m q input left piece k.left before middle now h k.served; at_front = k.at_front; up = k.up }
  ends_join ended.Down p m q input left piece before middle now h stop k = first_join _ p m input left piece before middle now h k
  ends_join ended.Unwritten p m q input left piece before middle now h stop k = (k.0, some_join p m q input left piece k.0 before middle now h k.1)
  ends_join ended.OutOfMemory p m q input left piece before middle now h stop (inl k) = inl (first_join _ p m input left piece before middle now h k)
  ends_join ended.OutOfMemory p m q input left piece before middle now h stop (inr k) = inr (k.0, some_join p m q input left piece k.0 before middle now h k.1)

  -- the same of an input that a source gave
  pub goes_on : (p m q : ProcessValue K) (left piece held given_before given given_now before middle now : List ℕ) → GrowsBy (λ input. HasServed records kept faults p m input left before middle) given_before given
      → HasServed records kept faults m q (left ++ piece) held middle now → given_now ≡ given ++ piece → GrowsBy (λ input. HasServed records kept faults p q input held before now) given_before given_now
  goes_on p m q left piece held given_before given given_now before middle now h k e = record {
    more = h.more ++ piece;
    grown = e ∙ ap (λ (t : List ℕ). t ++ piece) h.grown ∙ append_assoc given_before h.more piece;
    holds = sent_join p m q h.more left piece held before middle now h.holds k;
  }

  pub ends_so : (e : Ended) (p m q : ProcessValue K) (left piece given_before given given_now before middle now : List ℕ) → GrowsBy (λ input. HasServed records kept faults p m input left before middle) given_before given
      → IsStop e → EndsAs records kept faults e m q (left ++ piece) middle now → given_now ≡ given ++ piece → GrowsBy (λ input. EndsAs records kept faults e p q input before now) given_before given_now
  ends_so e p m q left piece given_before given given_now before middle now h stop k grown = record {
    more = h.more ++ piece;
    grown = grown ∙ ap (λ (t : List ℕ). t ++ piece) h.grown ∙ append_assoc given_before h.more piece;
    holds = ends_join e p m q h.more left piece before middle now h.holds stop k;
  }

-- ---- what is held

-- what was held, with a piece behind it
pub all_held : (good : Bool) (seen new held piece : List ℕ) → good ≡ true → new ≡ cond good (held ++ piece) held → seen ≡ new → seen ≡ held ++ piece
all_held true seen new held piece fine is same = same ∙ is
all_held false seen new held piece fine is same = absurd cc
